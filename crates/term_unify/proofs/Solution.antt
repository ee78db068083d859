-- The kept solution is most general.
use Rattle.std.proofs.Common.{ℕ, zero, suc, ◌≡◌, ◌<◌, ◌≤◌, ◌↔◌, List, [], ◌∷◌, ◌++◌, length, get_or, refl, sym, ap, ◌∙◌, inl, inr, subst, arith, true, false, if◌then◌else◌}
use Rattle.std.specs.List.{Contains}
use Rattle.std.proofs.lemmas.Bool.{cases_eq, cases_lt}
use Rattle.std.proofs.lemmas.List.{get_or_default}
use Rattle.std.proofs.lemmas.List.Elements.{Contains-append_left, Contains-append_right, Contains-append_cases}
use Rattle.unifiers.specs.Term.{Term, apply}
use Rattle.unifiers.specs.Term.Term.{var, app}
use Rattle.unifiers.specs.Unifier.{Solves, MostGeneral, after}
use Rattle.unifiers.proofs.Laws.{apply_after, apply_alike}
use Rattle.term_classes.specs.declared.node.Slot.{Slot}
use Rattle.term_classes.specs.declared.node.Node.{Node}
use Rattle.term_classes.specs.declared.node.Node.TheVariants.{Free, Rigid, Con, App}
use Rattle.term_classes.specs.Slots.{link_of, shape_of, rank_of, root}
use Rattle.term_classes.specs.Fits.{node_at, Fits, FitsNode, Sound, HasParts, PartsBelow, IsOrdered}
use Rattle.term_classes.specs.Settle.{AreOrdered}
use Rattle.term_classes.proofs.Roots.{root_next, root_last, root_within, root_ends}
use Rattle.term_classes.proofs.Merge.{fits_root}
use Rattle.term_classes.proofs.Marks.{lt_yes, lt_no}
use Rattle.term_unify.specs.Arena.{Arena, made, solved, solution, is_rigid, size_of, layer, made_from, made_at, solved_from, solved_at, rigid_node, is_rigid_at, solution_at, place_at, HasNumber, IsListed, AreNumbered, AreNatural}

abbrev pub AlikeAt : Node → (ℕ → Term) → (ℕ → Term) → Type 0
AlikeAt (Free w) p q = Unit {0}
AlikeAt (Rigid w) p q = Unit {0}
AlikeAt (Con c) p q = Unit {0}
AlikeAt (App f a) p q = (p f ≡ q f) × (p a ≡ q a)

pub layer_alike : (n : Node) (p q : ℕ → Term) → AlikeAt n p q → layer n p ≡ layer n q
layer_alike (Free w) p q h = refl
layer_alike (Rigid w) p q h = refl
layer_alike (Con c) p q h = refl
layer_alike (App f a) p q h = ap (λ x. app x (p a)) h.0 ∙ ap (λ x. app (q f) x) h.1

layer_fits : (n : Node) (p q : ℕ → Term) → AlikeAt n p q → FitsNode n q (layer n p)
layer_fits (Free w) p q h = tt
layer_fits (Rigid w) p q h = refl
layer_fits (Con c) p q h = refl
layer_fits (App f a) p q h = ap (λ x. app x (p a)) h.0 ∙ ap (λ x. app (q f) x) h.1

-- s gives a variable the term t
abbrev Agrees : Node → (ℕ → Term) → Term → Type 0
Agrees (Free w) s t = s w ≡ t
Agrees (Rigid w) s t = s w ≡ t
Agrees (Con c) s t = Unit {0}
Agrees (App f a) s t = Unit {0}

abbrev AppliedAt : Node → (ℕ → Term) → (ℕ → Term) → (ℕ → Term) → Type 0
AppliedAt (Free w) s p q = Unit {0}
AppliedAt (Rigid w) s p q = Unit {0}
AppliedAt (Con c) s p q = Unit {0}
AppliedAt (App f a) s p q = (apply s (p f) ≡ q f) × (apply s (p a) ≡ q a)

layer_apply : (n : Node) (p q s : ℕ → Term) (t : Term) → FitsNode n q t → Agrees n s t → AppliedAt n s p q → apply s (layer n p) ≡ t
layer_apply (Free w) p q s t f a h = a
layer_apply (Rigid w) p q s t f a h = a
layer_apply (Con c) p q s t f a h = sym f
layer_apply (App x y) p q s t f a h = ap (λ z. app z (apply s (p y))) h.0 ∙ ap (λ z. app (q x) z) h.1 ∙ sym f

abbrev RigidStays : Node → (ℕ → Term) → Type 0
RigidStays (Free w) s = Unit {0}
RigidStays (Rigid w) s = s w ≡ var w
RigidStays (Con c) s = Unit {0}
RigidStays (App f a) s = Unit {0}

-- the number of a rigid node is that of a rigid variable
rigid_at : (nodes : List Node) (vs : List ℕ) (n w : ℕ) → n < length vs → node_at nodes (place_at vs n) ≡ Rigid w → is_rigid_at nodes vs n ≡ true
unfolding is_rigid_at
rigid_at nodes vs n w l e = ap (λ b. if b then rigid_node (node_at nodes (place_at vs n)) else false) (lt_yes n (length vs) l) ∙ ap rigid_node e

stays_at : (nodes : List Node) (vs : List ℕ) (s : ℕ → Term) → ((n : ℕ) → is_rigid_at nodes vs n ≡ true → s n ≡ var n)
    → (node : Node) (i : ℕ) → node_at nodes i ≡ node → IsListed vs node i → RigidStays node s
stays_at nodes vs s r (Free w) i e l = tt
stays_at nodes vs s r (Rigid w) i e l = r w (rigid_at nodes vs w w l.0 (ap (node_at nodes) l.1 ∙ e))
stays_at nodes vs s r (Con c) i e l = tt
stays_at nodes vs s r (App f a) i e l = tt

fits_apply : (n : Node) (q s : ℕ → Term) (t : Term) → FitsNode n q t → RigidStays n s → FitsNode n (λ i. apply s (q i)) (apply s t)
fits_apply (Free w) q s t f r = tt
fits_apply (Rigid w) q s t f r = ap (apply s) f ∙ r
fits_apply (Con c) q s t f r = ap (apply s) f
fits_apply (App x y) q s t f r = ap (apply s) f

-- what a substitution makes of terms that fit fits too
pub fits_under : (nodes : List Node) (slots : List Slot) (q s : ℕ → Term) → ((j : ℕ) → j < length nodes → RigidStays (node_at nodes j) s)
    → ((i : ℕ) → i < length slots → shape_of slots i < length nodes) → Fits nodes slots q → Fits nodes slots (λ i. apply s (q i))
fits_under nodes slots q s r h f = record {
  links = λ i l. ap (apply s) (f.links i l);
  shapes = λ i l e. fits_apply (node_at nodes (shape_of slots i)) q s (q i) (f.shapes i l e) (r (shape_of slots i) (h i l));
}

module _ (nodes : List Node) (slots : List Slot) (h : Sound nodes slots) (o : AreOrdered nodes slots) where
  pub alike_parts : (n : Node) (j r : ℕ) (p q : ℕ → Term) → HasParts n j → j < length slots → PartsBelow n slots r
      → ((i : ℕ) → i < length slots → rank_of slots (root slots i) < r → p i ≡ q i) → AlikeAt n p q
  alike_parts (Free w) j r p q hp l b g = tt
  alike_parts (Rigid w) j r p q hp l b g = tt
  alike_parts (Con c) j r p q hp l b g = tt
  alike_parts (App f a) j r p q hp l b g = let x = hp.0 in let y = hp.1 in (g f (omega arith) b.0, g a (omega arith) b.1)

  pub shape_here : (i : ℕ) → i < length slots → shape_of slots (root slots i) < length slots
  shape_here i l = let s = h.shapes (root slots i) (root_within slots h.linked i l) in let e = h.len in omega arith

  pub order_here : (i : ℕ) → i < length slots → IsOrdered nodes slots (root slots i)
  order_here i l = o (root slots i) (root_within slots h.linked i l) (root_ends slots h.linked i l)

  pub parts_here : (i : ℕ) → i < length slots → HasParts (node_at nodes (shape_of slots (root slots i))) (shape_of slots (root slots i))
  parts_here i l = h.parts (shape_of slots (root slots i)) (h.shapes (root slots i) (root_within slots h.linked i l))

  pub same_fuel : (k m i : ℕ) → i < length slots → rank_of slots (root slots i) < k → rank_of slots (root slots i) < m → solved_from nodes slots k i ≡ solved_from nodes slots m i
  same_fuel zero m i l a b = absurd (omega arith)
  same_fuel (suc k) zero i l a b = absurd (omega arith)
  same_fuel (suc k) (suc m) i l a b =
      let j = shape_of slots (root slots i) in
      layer_alike (node_at nodes j) (solved_from nodes slots k) (solved_from nodes slots m)
      (alike_parts (node_at nodes j) j (rank_of slots (root slots i)) (solved_from nodes slots k) (solved_from nodes slots m) (parts_here i l) (shape_here i l) (order_here i l)
      (λ x lx bx. same_fuel k m x lx (omega arith) (omega arith)))

  -- what the solution makes of a class
  of_root : ℕ → Term
  of_root r = layer (node_at nodes (shape_of slots r)) (solved_from nodes slots (rank_of slots r))

  at_root : (i : ℕ) → solved_at nodes slots i ≡ of_root (root slots i)
  unfolding solved_at of_root
  at_root i = refl

  pub fits_solved : Fits nodes slots (solved_at nodes slots)
  unfolding solved_at of_root
  fits_solved = record {
    links = λ i l. elim (cases_eq (link_of slots i) i) [
      | inl e ↦ ap (solved_at nodes slots) (sym e)
      | inr e ↦ at_root i ∙ ap of_root (root_next slots h.linked i l e) ∙ sym (at_root (link_of slots i))
    ];
    shapes = λ i l e.
        let here : root slots i ≡ i = root_last slots i e in
        let j = shape_of slots i in
        let lj : j < length slots = let s = h.shapes i l in let n = h.len in omega arith in
        subst (λ t. FitsNode (node_at nodes j) (solved_at nodes slots) t) (sym (at_root i ∙ ap of_root here))
        (layer_fits (node_at nodes j) (solved_from nodes slots (rank_of slots i)) (solved_at nodes slots)
        (alike_parts (node_at nodes j) j (rank_of slots i) (solved_from nodes slots (rank_of slots i)) (solved_at nodes slots) (h.parts j (h.shapes i l)) lj (o i l e)
        (λ x lx bx. same_fuel (rank_of slots i) (suc (rank_of slots (root slots x))) x lx bx (omega arith))));
  }

  -- the solved term, a layer at a time
  pub solved_layer : (i : ℕ) → i < length slots → solved_at nodes slots i ≡ layer (node_at nodes (shape_of slots (root slots i))) (solved_at nodes slots)
  unfolding solved_at of_root
  solved_layer i l =
      let r = root slots i in
      let j = shape_of slots r in
      layer_alike (node_at nodes j) (solved_from nodes slots (rank_of slots r)) (solved_at nodes slots)
      (alike_parts (node_at nodes j) j (rank_of slots r) (solved_from nodes slots (rank_of slots r)) (solved_at nodes slots) (parts_here i l) (shape_here i l) (order_here i l)
      (λ x lx bx. same_fuel (rank_of slots r) (suc (rank_of slots (root slots x))) x lx bx (omega arith)))

  pub layer_here : (i r : ℕ) (found node : Node) → i < length slots → r ≡ root slots i → found ≡ get_or nodes (shape_of slots r) found → found ≡ node → solved_at nodes slots i ≡ layer node (solved_at nodes slots)
  layer_here i r found node l e f g =
      let lr : shape_of slots r < length nodes = subst (λ z. shape_of slots z < length nodes) (sym e) (h.shapes (root slots i) (root_within slots h.linked i l)) in
      let n : node_at nodes (shape_of slots r) ≡ node = sym (f ∙ get_or_default nodes (shape_of slots r) found (Free 0) lr) ∙ g in
      solved_layer i l ∙ ap (λ z. layer (node_at nodes (shape_of slots z)) (solved_at nodes slots)) (sym e) ∙ ap (λ z. layer z (solved_at nodes slots)) n

  module _ (q s : ℕ → Term) (f : Fits nodes slots q) (agrees : (j : ℕ) → j < length nodes → Agrees (node_at nodes j) s (q j)) where
    applied_parts : (n : Node) (j r : ℕ) (p : ℕ → Term) → HasParts n j → j < length slots → PartsBelow n slots r
        → ((i : ℕ) → i < length slots → rank_of slots (root slots i) < r → apply s (p i) ≡ q i) → AppliedAt n s p q
    applied_parts (Free w) j r p hp l b g = tt
    applied_parts (Rigid w) j r p hp l b g = tt
    applied_parts (Con c) j r p hp l b g = tt
    applied_parts (App x y) j r p hp l b g = let u = hp.0 in let v = hp.1 in (g x (omega arith) b.0, g y (omega arith) b.1)

    -- the shape of a class stands for what the class does
    of_shape : (i : ℕ) → i < length slots → q (shape_of slots (root slots i)) ≡ q (root slots i)
    of_shape i l = fits_root nodes slots q h.linked f (shape_of slots (root slots i)) (shape_here i l) ∙ ap q (h.inside (root slots i) (root_within slots h.linked i l) (root_ends slots h.linked i l))

    solved_on : (k i : ℕ) → i < length slots → rank_of slots (root slots i) < k → apply s (solved_from nodes slots k i) ≡ q i
    solved_on zero i l b = absurd (omega arith)
    solved_on (suc k) i l b =
        let r = root slots i in
        let lr = root_within slots h.linked i l in
        let er = root_ends slots h.linked i l in
        let j = shape_of slots r in
        layer_apply (node_at nodes j) (solved_from nodes slots k) q s (q r) (f.shapes r lr er)
        (subst (λ t. Agrees (node_at nodes j) s t) (of_shape i l) (agrees j (h.shapes r lr)))
        (applied_parts (node_at nodes j) j (rank_of slots r) (solved_from nodes slots k) (parts_here i l) (shape_here i l) (order_here i l) (λ x lx bx. solved_on k x lx (omega arith)))
        ∙ sym (fits_root nodes slots q h.linked f i l)

    -- what fits is an instance of the solution
    pub instance : (i : ℕ) → i < length slots → apply s (solved_at nodes slots i) ≡ q i
    unfolding solved_at
    instance i l = solved_on (suc (rank_of slots (root slots i))) i l (omega arith)

module _ (nodes : List Node) (parts : (i : ℕ) → i < length nodes → HasParts (node_at nodes i) i) (q s : ℕ → Term)
    (natural : (i : ℕ) → i < length nodes → FitsNode (node_at nodes i) q (q i)) (agrees : (j : ℕ) → j < length nodes → Agrees (node_at nodes j) s (q j)) where
  made_parts : (n : Node) (j k : ℕ) → HasParts n j → j < length nodes → ((i : ℕ) → i < length nodes → i < j → apply s (made_from nodes k i) ≡ q i) → AppliedAt n s (made_from nodes k) q
  made_parts (Free w) j k hp l g = tt
  made_parts (Rigid w) j k hp l g = tt
  made_parts (Con c) j k hp l g = tt
  made_parts (App x y) j k hp l g = let u = hp.0 in let v = hp.1 in (g x (omega arith) u, g y (omega arith) v)

  made_on : (k i : ℕ) → i < length nodes → i < k → apply s (made_from nodes k i) ≡ q i
  made_on zero i l b = absurd (omega arith)
  made_on (suc k) i l b =
      layer_apply (node_at nodes i) (made_from nodes k) q s (q i) (natural i l) (agrees i l)
      (made_parts (node_at nodes i) i k (parts i l) l (λ x lx bx. made_on k x lx (omega arith)))

  -- what is natural is what s makes of the terms as they were made
  pub natural_made : (i : ℕ) → i < length nodes → apply s (made_at nodes i) ≡ q i
  unfolding made_at
  natural_made i l = made_on (suc i) i l (omega arith)

-- a variable is a term of its number, and its place is listed
pub own_layer : (x : Node) (q : ℕ → Term) (n : ℕ) → HasNumber x n → layer x q ≡ var n
own_layer (Free w) q n e = ap (λ z. var z) e
own_layer (Rigid w) q n e = ap (λ z. var z) e
own_layer (Con c) q n e = absurd e
own_layer (App f a) q n e = absurd e

pub listed_place : (vs : List ℕ) (x : Node) (n i : ℕ) → HasNumber x n → IsListed vs x i → place_at vs n ≡ i
listed_place vs (Free w) n i e l = ap (place_at vs) (sym e) ∙ l.1
listed_place vs (Rigid w) n i e l = ap (place_at vs) (sym e) ∙ l.1
listed_place vs (Con c) n i e l = absurd e
listed_place vs (App f a) n i e l = absurd e

module _ (nodes : List Node) (slots : List Slot) (vs : List ℕ) where
  pub within : (n : ℕ) → n < length vs → solution_at nodes slots vs n ≡ solved_at nodes slots (place_at vs n)
  unfolding solution_at
  within n l = ap (λ b. if b then solved_at nodes slots (place_at vs n) else var n) (lt_yes n (length vs) l)

  pub beyond : (n : ℕ) → length vs ≤ n → solution_at nodes slots vs n ≡ var n
  unfolding solution_at
  beyond n l = ap (λ b. if b then solved_at nodes slots (place_at vs n) else var n) (lt_no n (length vs) l)

  pub rigid_within : (n : ℕ) → n < length vs → is_rigid_at nodes vs n ≡ rigid_node (node_at nodes (place_at vs n))
  unfolding is_rigid_at
  rigid_within n l = ap (λ b. if b then rigid_node (node_at nodes (place_at vs n)) else false) (lt_yes n (length vs) l)

  pub rigid_beyond : (n : ℕ) → length vs ≤ n → is_rigid_at nodes vs n ≡ false
  unfolding is_rigid_at
  rigid_beyond n l = ap (λ b. if b then rigid_node (node_at nodes (place_at vs n)) else false) (lt_no n (length vs) l)

module _ (nodes : List Node) (slots : List Slot) (vs : List ℕ) (h : Sound nodes slots) (o : AreOrdered nodes slots) (nat : AreNatural nodes slots) (num : AreNumbered nodes vs) where
  agree_at : (node : Node) (i : ℕ) → IsListed vs node i → Agrees node (solution_at nodes slots vs) (solved_at nodes slots i)
  agree_at (Free w) i l = within nodes slots vs w l.0 ∙ ap (solved_at nodes slots) l.1
  agree_at (Rigid w) i l = within nodes slots vs w l.0 ∙ ap (solved_at nodes slots) l.1
  agree_at (Con c) i l = tt
  agree_at (App f a) i l = tt

  pub solution_agrees : (j : ℕ) → j < length nodes → Agrees (node_at nodes j) (solution_at nodes slots vs) (solved_at nodes slots j)
  solution_agrees j l = agree_at (node_at nodes j) j (num.listed j l)

  -- the solved term is what the solution makes of the term as it was made
  pub solved_made : (i : ℕ) → i < length nodes → apply (solution_at nodes slots vs) (made_at nodes i) ≡ solved_at nodes slots i
  solved_made = natural_made nodes h.parts (solved_at nodes slots) (solution_at nodes slots vs) (nat (solved_at nodes slots) (fits_solved nodes slots h o)) solution_agrees

  rigid_kept : (node : Node) (t : Term) (n : ℕ) → rigid_node node ≡ true → HasNumber node n → FitsNode node (solved_at nodes slots) t → t ≡ var n
  rigid_kept (Free w) t n e k f = cc
  rigid_kept (Rigid w) t n e k f = f ∙ ap (λ z. var z) k
  rigid_kept (Con c) t n e k f = absurd k
  rigid_kept (App f a) t n e k g = absurd k

  pub solution_rigid : (n : ℕ) → is_rigid_at nodes vs n ≡ true → solution_at nodes slots vs n ≡ var n
  solution_rigid n e = elim (cases_lt n (length vs)) [
    | inl l ↦
        let p = place_at vs n in
        let named = num.named n l in
        within nodes slots vs n l ∙ rigid_kept (node_at nodes p) (solved_at nodes slots p) n (sym (rigid_within nodes slots vs n l) ∙ e) named.1 (nat (solved_at nodes slots) (fits_solved nodes slots h o) p named.0)
    | inr l ↦ beyond nodes slots vs n l
  ]

  at_variable : (node : Node) (s : ℕ → Term) (t : Term) (n : ℕ) → HasNumber node n → Agrees node s t → t ≡ s n
  at_variable (Free w) s t n k a = sym a ∙ ap s k
  at_variable (Rigid w) s t n k a = sym a ∙ ap s k
  at_variable (Con c) s t n k a = absurd k
  at_variable (App f x) s t n k a = absurd k

  pub instance_of : (q s : ℕ → Term) → Fits nodes slots q → ((j : ℕ) → j < length nodes → Agrees (node_at nodes j) s (q j)) → (n : ℕ) → apply s (solution_at nodes slots vs n) ≡ s n
  instance_of q s f a n = elim (cases_lt n (length vs)) [
    | inl l ↦
        let p = place_at vs n in
        let named = num.named n l in
        ap (apply s) (within nodes slots vs n l) ∙ instance nodes slots h o q s f a p (let e = h.len in let b = named.0 in omega arith)
        ∙ at_variable (node_at nodes p) s (q p) n named.1 (a p named.0)
    | inr l ↦ ap (apply s) (beyond nodes slots vs n l)
  ]

  stays : (s : ℕ → Term) → ((n : ℕ) → is_rigid_at nodes vs n ≡ true → s n ≡ var n) → (j : ℕ) → j < length nodes → RigidStays (node_at nodes j) s
  stays s r j l = stays_at nodes vs s r (node_at nodes j) j refl (num.listed j l)

one_in : {X : Type 0} (p z : X) → Contains (p ∷ []) z → z ≡ p
one_in p z (zero, lt, e) = sym e
one_in p z (suc k, lt, e) = absurd (omega arith)

made_layer : (nodes : List Node) (i n : ℕ) → HasNumber (node_at nodes i) n → made_at nodes i ≡ var n
unfolding made_at
made_layer nodes i n k = own_layer (node_at nodes i) (made_from nodes i) n k

-- one more pair
module _ (nodes : List Node) (old new : List Slot) (vs : List ℕ) (h : Sound nodes old) (o : AreOrdered nodes old) (nat : AreNatural nodes old) (num : AreNumbered nodes vs) (pairs : List (Term × Term)) (a b : ℕ) (la : a < length nodes) (lb : b < length nodes)
    (m : MostGeneral (is_rigid_at nodes vs) pairs (solution_at nodes old vs)) where
  module _ (r : ℕ → Term) (w : Solves (is_rigid_at nodes vs) (pairs ++ (made_at nodes a, made_at nodes b) ∷ []) r) where
    -- r solves what was solved
    solves_old : Solves (is_rigid_at nodes vs) pairs r
    solves_old = record {
      rigid_stay = w.rigid_stay;
      equal = λ t u c. w.equal t u (Contains-append_left pairs ((made_at nodes a, made_at nodes b) ∷ []) (t, u) c);
    }

    under : ℕ → Term
    under i = apply r (solved_at nodes old i)

    fits_r : Fits nodes old under
    unfolding under
    fits_r = fits_under nodes old (solved_at nodes old) r (stays nodes old vs h o nat num r w.rigid_stay) h.shapes (fits_solved nodes old h o)

    made_r : (i : ℕ) → i < length nodes → under i ≡ apply r (made_at nodes i)
    unfolding under
    made_r i l = ap (apply r) (sym (solved_made nodes old vs h o nat num i l)) ∙ apply_after r (solution_at nodes old vs) (made_at nodes i)
        ∙ apply_alike (after r (solution_at nodes old vs)) r (m.general r solves_old) (made_at nodes i)

    equal_r : under a ≡ under b
    equal_r = made_r a la ∙ w.equal (made_at nodes a) (made_at nodes b) (Contains-append_right pairs ((made_at nodes a, made_at nodes b) ∷ []) (made_at nodes a, made_at nodes b) (0, omega arith, refl)) ∙ sym (made_r b lb)

    pub none : ((q : ℕ → Term) → Fits nodes old q → q a ≡ q b → ⊥) → ⊥
    none clash = clash under fits_r equal_r

    agree_r_at : (n : Node) (j : ℕ) → under j ≡ apply r (made_at nodes j) → layer n (made_from nodes j) ≡ made_at nodes j → Agrees n r (under j)
    agree_r_at (Free w) j e g = sym (e ∙ ap (apply r) (sym g))
    agree_r_at (Rigid w) j e g = sym (e ∙ ap (apply r) (sym g))
    agree_r_at (Con c) j e g = tt
    agree_r_at (App x y) j e g = tt

    agree_r : (j : ℕ) → j < length nodes → Agrees (node_at nodes j) r (under j)
    unfolding made_at
    agree_r j l = agree_r_at (node_at nodes j) j (made_r j l) refl

  module _ (fits : (q : ℕ → Term) → Fits nodes new q ↔ (Fits nodes old q × (q a ≡ q b))) (h' : Sound nodes new) (o' : AreOrdered nodes new) where
    nat_new : AreNatural nodes new
    nat_new q f = nat q ((fits q).0 f).0

    new_old : Fits nodes old (solved_at nodes new) × (solved_at nodes new a ≡ solved_at nodes new b)
    new_old = (fits (solved_at nodes new)).0 (fits_solved nodes new h' o')

    still : (n : ℕ) → apply (solution_at nodes new vs) (solution_at nodes old vs n) ≡ solution_at nodes new vs n
    still = instance_of nodes old vs h o nat num (solved_at nodes new) (solution_at nodes new vs) new_old.0 (solution_agrees nodes new vs h' o' nat_new num)

    still_all : (t : Term) → apply (solution_at nodes new vs) (apply (solution_at nodes old vs) t) ≡ apply (solution_at nodes new vs) t
    still_all t = apply_after (solution_at nodes new vs) (solution_at nodes old vs) t ∙ apply_alike (after (solution_at nodes new vs) (solution_at nodes old vs)) (solution_at nodes new vs) still t

    pub most_general : MostGeneral (is_rigid_at nodes vs) (pairs ++ (made_at nodes a, made_at nodes b) ∷ []) (solution_at nodes new vs)
    most_general = record {
      solves = record {
        rigid_stay = solution_rigid nodes new vs h' o' nat_new num;
        equal = λ t u c. elim (Contains-append_cases pairs ((made_at nodes a, made_at nodes b) ∷ []) (t, u) c) [
          | inl p ↦ sym (still_all t) ∙ ap (apply (solution_at nodes new vs)) (m.solves.equal t u p) ∙ still_all u
          | inr p ↦
              let e : (t, u) ≡ (made_at nodes a, made_at nodes b) = one_in (made_at nodes a, made_at nodes b) (t, u) p in
              ap (λ (z : Term × Term). apply (solution_at nodes new vs) (z.0)) e ∙ solved_made nodes new vs h' o' nat_new num a la ∙ new_old.1 ∙ sym (solved_made nodes new vs h' o' nat_new num b lb)
              ∙ ap (λ (z : Term × Term). apply (solution_at nodes new vs) (z.1)) (sym e)
        ];
      };
      general = λ r w. instance_of nodes new vs h' o' nat_new num (under r w) r ((fits (under r w)).1 (fits_r r w, equal_r r w)) (agree_r r w);
    }

empty_solution : (nodes : List Node) (slots : List Slot) (vs : List ℕ) → vs ≡ [] → (n : ℕ) → solution_at nodes slots vs n ≡ var n
empty_solution nodes slots vs e n = beyond nodes slots vs n (let l = ap length e in omega arith)

-- with no terms nothing is solved
pub empty_general : (nodes : List Node) (slots : List Slot) (vs : List ℕ) → vs ≡ [] → MostGeneral (is_rigid_at nodes vs) [] (solution_at nodes slots vs)
empty_general nodes slots vs e = record {
  solves = record {
    rigid_stay = λ n r. empty_solution nodes slots vs e n;
    equal = λ t u c. let l = c.1 in absurd (omega arith);
  };
  general = λ r w n. ap (apply r) (empty_solution nodes slots vs e n);
}

-- the same of an arena, and of the nodes as a call was given them
module _ (st : Arena) (nodes ns : List Node) (old new : List Slot) (vs : List ℕ) (e : st ≡ record { nodes = nodes; slots = old; variables = vs }) (k : ns ≡ nodes)
    (h : Sound nodes old) (o : AreOrdered nodes old) (nat : AreNatural nodes old) (num : AreNumbered nodes vs)
    (pairs : List (Term × Term)) (a b : ℕ) (la : a < size_of st) (lb : b < size_of st) (m : MostGeneral (is_rigid st) pairs (solution st)) where
  pub general_of : ((q : ℕ → Term) → Fits ns new q ↔ (Fits ns old q × (q a ≡ q b))) → Sound ns new → AreOrdered ns new
      → MostGeneral (is_rigid_at nodes vs) (pairs ++ (made st a, made st b) ∷ []) (solution_at nodes new vs)
  general_of fits h' o' =
      let P : Arena → Type 0 = λ s. a < size_of s → b < size_of s → MostGeneral (is_rigid s) pairs (solution s) → MostGeneral (is_rigid_at nodes vs) (pairs ++ (made s a, made s b) ∷ []) (solution_at nodes new vs) in
      subst P (sym e)
      (λ la' lb' m'. most_general nodes old new vs h o nat num pairs a b la' lb' m'
      (subst (λ (z : List Node). (q : ℕ → Term) → Fits z new q ↔ (Fits z old q × (q a ≡ q b))) k fits)
      (subst (λ (z : List Node). Sound z new) k h') (subst (λ (z : List Node). AreOrdered z new) k o'))
      la lb m

  pub none_of : ((q : ℕ → Term) → Fits ns old q → q a ≡ q b → ⊥) → (r : ℕ → Term) → Solves (is_rigid st) (pairs ++ (made st a, made st b) ∷ []) r → ⊥
  none_of clash r w =
      let P : Arena → Type 0 = λ s. a < size_of s → b < size_of s → MostGeneral (is_rigid s) pairs (solution s) → Solves (is_rigid s) (pairs ++ (made s a, made s b) ∷ []) r → ⊥ in
      subst P (sym e)
      (λ la' lb' m' w'. none nodes old new vs h o nat num pairs a b la' lb' m' r w' (subst (λ (z : List Node). (q : ℕ → Term) → Fits z old q → q a ≡ q b → ⊥) k clash))
      la lb m w

-- the solved term is what the solution makes of the term as it was made
pub solved_of : (st : Arena) (nodes : List Node) (slots : List Slot) (vs : List ℕ) → st ≡ record { nodes = nodes; slots = slots; variables = vs } → Sound nodes slots → AreOrdered nodes slots → AreNatural nodes slots → AreNumbered nodes vs
    → (i : ℕ) → i < size_of st → solved st i ≡ apply (solution st) (made st i)
solved_of st nodes slots vs e h o nat num i l =
    let P : Arena → Type 0 = λ s. i < size_of s → solved s i ≡ apply (solution s) (made s i) in
    subst P (sym e) (λ l'. sym (solved_made nodes slots vs h o nat num i l')) l

-- the variable of a number, as it was made
pub variable_made : (st : Arena) (nodes : List Node) (slots : List Slot) (vs : List ℕ) → st ≡ record { nodes = nodes; slots = slots; variables = vs } → AreNumbered nodes vs
    → (n i : ℕ) → n < length vs → i ≡ get_or vs n 0 → (i < size_of st) × (made st i ≡ var n)
variable_made st nodes slots vs e num n i l f =
    let P : Arena → Type 0 = λ s. (i < size_of s) × (made s i ≡ var n) in
    subst P (sym e) (subst (λ z. z < length nodes) (sym f) (num.named n l).0, ap (made_at nodes) f ∙ made_layer nodes (place_at vs n) n (num.named n l).1)

pub empty_rigid : (nodes : List Node) (slots : List Slot) (vs : List ℕ) → vs ≡ [] → (n : ℕ) → is_rigid_at nodes vs n ≡ false
empty_rigid nodes slots vs e n = rigid_beyond nodes slots vs n (let l = ap length e in omega arith)
