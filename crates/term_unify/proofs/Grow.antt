-- One more term.
use Rattle.std.proofs.Common.{ℕ, zero, suc, ◌+◌, ◌-◌, ◌≡◌, ◌⊎◌, ◌<◌, ◌≤◌, List, [], ◌∷◌, ◌++◌, length, refl, sym, ap, ◌∙◌, inl, inr, subst, arith, Bool, true, false, nat_eq, ◌||◌, if◌then◌else◌}
use Rattle.std.proofs.lemmas.Bool.{cases_eq, cases_lt}
use Rattle.std.proofs.lemmas.List.{length-append, get_or_append_left, get_or_past}
use Rattle.std.proofs.Math.Seq.{get_or-append_seam}
use Rattle.unifiers.specs.Term.{Term, apply}
use Rattle.unifiers.proofs.Laws.{apply_alike}
use Rattle.unifiers.specs.Unifier.{MostGeneral}
use Rattle.term_classes.specs.declared.node.Slot.{Slot}
use Rattle.term_classes.specs.declared.node.Node.{Node}
use Rattle.term_classes.specs.declared.node.Node.TheVariants.{Free, Rigid, Con, App}
use Rattle.term_classes.specs.Slots.{slot_at, link_of, shape_of, rank_of, height_of, follow, root, AreLinked}
use Rattle.term_classes.specs.Fits.{node_at, Fits, FitsNode, Sound, HasParts, PartsBelow}
use Rattle.term_classes.specs.Settle.{AreOrdered, mark_of}
use Rattle.term_classes.specs.Ceilings.{ceiling_of, PartsCapped, AreCapped, Lowered}
use Rattle.term_classes.proofs.Caps.{parts_still}
use Rattle.term_unify.specs.Added.{Added}
use Rattle.term_classes.proofs.Roots.{is_same, is_other, root_last, root_within}
use Rattle.term_unify.specs.Arena.{layer, made_from, made_at, solved_from, solved_at, rigid_node, is_rigid_at, solution_at, place_at, HasNumber, IsListed, AreNumbered, IsNext, listed_with, is_rigid_number, count_with, variables_before, new_slot, AreNatural, Holds}
use Rattle.term_unify.proofs.Solution.{solution_rigid, layer_alike, AlikeAt, shape_here, parts_here, within, beyond, rigid_within, rigid_beyond, own_layer}

pub by_parts : (x : Node) (j n : ℕ) (p q : ℕ → Term) → HasParts x j → j ≤ n → ((i : ℕ) → i < n → i < j → p i ≡ q i) → AlikeAt x p q
by_parts (Free w) j n p q h l g = tt
by_parts (Rigid w) j n p q h l g = tt
by_parts (Con c) j n p q h l g = tt
by_parts (App f a) j n p q h l g = let u = h.0 in let v = h.1 in (g f (omega arith) u, g a (omega arith) v)

pub made_enough : (nodes : List Node) → ((i : ℕ) → i < length nodes → HasParts (node_at nodes i) i) → (k m i : ℕ) → i < length nodes → i < k → i < m → made_from nodes k i ≡ made_from nodes m i
made_enough nodes h zero m i l a b = absurd (omega arith)
made_enough nodes h (suc k) zero i l a b = absurd (omega arith)
made_enough nodes h (suc k) (suc m) i l a b =
    layer_alike (node_at nodes i) (made_from nodes k) (made_from nodes m)
    (by_parts (node_at nodes i) i (length nodes) (made_from nodes k) (made_from nodes m) (h i l) (omega arith) (λ x lx bx. made_enough nodes h k m x lx (omega arith) (omega arith)))

-- a term as it was made, a layer at a time
pub made_layered : (nodes : List Node) → ((i : ℕ) → i < length nodes → HasParts (node_at nodes i) i) → (k : ℕ) → k < length nodes → made_at nodes k ≡ layer (node_at nodes k) (made_at nodes)
unfolding made_at
made_layered nodes h k l =
    layer_alike (node_at nodes k) (made_from nodes k) (made_at nodes)
    (by_parts (node_at nodes k) k (length nodes) (made_from nodes k) (made_at nodes) (h k l) (omega arith) (λ x lx bx. made_enough nodes h k (suc x) x lx bx (omega arith)))

module _ (nodes : List Node) (slots : List Slot) (h : Sound nodes slots) (o : AreOrdered nodes slots) (nat : AreNatural nodes slots) (node : Node) (rank : ℕ)
    (hp : HasParts node (length nodes)) (pb : PartsBelow node slots rank) where
  len_more : length (nodes ++ node ∷ []) ≡ length nodes + 1
  len_more = length-append nodes (node ∷ [])

  len_wide : length (slots ++ (new_slot (length nodes) rank) ∷ []) ≡ length slots + 1
  len_wide = length-append slots ((new_slot (length nodes) rank) ∷ [])

  node_old : (i : ℕ) → i < length nodes → node_at (nodes ++ node ∷ []) i ≡ node_at nodes i
  node_old i l = get_or_append_left nodes (node ∷ []) (Free 0) i l

  node_new : node_at (nodes ++ node ∷ []) (length nodes) ≡ node
  node_new = get_or-append_seam nodes node [] (Free 0)

  slot_old : (i : ℕ) → i < length slots → slot_at (slots ++ (new_slot (length nodes) rank) ∷ []) i ≡ slot_at slots i
  slot_old i l = get_or_append_left slots ((new_slot (length nodes) rank) ∷ []) (record { link = 0; shape = 0; rank = 0; height = 0 }) i l

  slot_new : slot_at (slots ++ (new_slot (length nodes) rank) ∷ []) (length nodes) ≡ (new_slot (length nodes) rank)
  slot_new = ap (slot_at (slots ++ (new_slot (length nodes) rank) ∷ [])) (sym h.len) ∙ get_or-append_seam slots (new_slot (length nodes) rank) [] (record { link = 0; shape = 0; rank = 0; height = 0 })

  cases_new : (i : ℕ) → i < length (slots ++ (new_slot (length nodes) rank) ∷ []) → (i < length slots) ⊎ (i ≡ length nodes)
  cases_new i l = let e = len_wide in let k = h.len in elim (cases_lt i (length slots)) [ inl a ↦ inl a | inr a ↦ inr (omega arith) ]

  link_old : (i : ℕ) → i < length slots → link_of (slots ++ (new_slot (length nodes) rank) ∷ []) i ≡ link_of slots i
  link_old i l = ap (λ (s : Slot). s.link) (slot_old i l)

  shape_old : (i : ℕ) → i < length slots → shape_of (slots ++ (new_slot (length nodes) rank) ∷ []) i ≡ shape_of slots i
  shape_old i l = ap (λ (s : Slot). s.shape) (slot_old i l)

  rank_old : (i : ℕ) → i < length slots → rank_of (slots ++ (new_slot (length nodes) rank) ∷ []) i ≡ rank_of slots i
  rank_old i l = ap (λ (s : Slot). s.rank) (slot_old i l)

  height_old : (i : ℕ) → i < length slots → height_of (slots ++ (new_slot (length nodes) rank) ∷ []) i ≡ height_of slots i
  height_old i l = ap (λ (s : Slot). s.height) (slot_old i l)

  link_new : link_of (slots ++ (new_slot (length nodes) rank) ∷ []) (length nodes) ≡ length nodes
  link_new = ap (λ (s : Slot). s.link) slot_new

  shape_new : shape_of (slots ++ (new_slot (length nodes) rank) ∷ []) (length nodes) ≡ length nodes
  shape_new = ap (λ (s : Slot). s.shape) slot_new

  rank_new : rank_of (slots ++ (new_slot (length nodes) rank) ∷ []) (length nodes) ≡ rank
  rank_new = ap (λ (s : Slot). s.rank) slot_new

  height_new : height_of (slots ++ (new_slot (length nodes) rank) ∷ []) (length nodes) ≡ 0
  height_new = ap (λ (s : Slot). s.height) slot_new

  linked_new : AreLinked (slots ++ (new_slot (length nodes) rank) ∷ [])
  linked_new = record {
    within = λ i l. elim (cases_new i l) [
      | inl a ↦ let e = link_old i a in let b = h.linked.within i a in let c = len_wide in omega arith
      | inr a ↦ let e = ap (link_of (slots ++ (new_slot (length nodes) rank) ∷ [])) a in let b = link_new in let c = len_wide in let d = h.len in omega arith
    ];
    rise = λ i l ne. elim (cases_new i l) [
      | inl a ↦
          let e = link_old i a in
          let b = h.linked.rise i a (λ z. ne (e ∙ z)) in
          let c = height_old i a in
          let d = height_old (link_of slots i) (h.linked.within i a) in
          let f = ap (height_of (slots ++ (new_slot (length nodes) rank) ∷ [])) e in
          omega arith
      | inr a ↦ absurd (ne (ap (link_of (slots ++ (new_slot (length nodes) rank) ∷ [])) a ∙ link_new ∙ sym a))
    ];
    bounded = λ i l. elim (cases_new i l) [
      | inl a ↦ let b = h.linked.bounded i a in let c = height_old i a in omega arith
      | inr a ↦ let b = height_new in let c = ap (height_of (slots ++ (new_slot (length nodes) rank) ∷ [])) a in omega arith
    ];
  }

  follow_old : (k i : ℕ) → i < length slots → follow (slots ++ (new_slot (length nodes) rank) ∷ []) k i ≡ follow slots k i
  follow_old zero i l = refl
  follow_old (suc k) i l =
      ap (λ z. if nat_eq z i then i else follow (slots ++ (new_slot (length nodes) rank) ∷ []) k z) (link_old i l) ∙ ap (λ z. if nat_eq (link_of slots i) i then i else z) (follow_old k (link_of slots i) (h.linked.within i l))

  pub root_old : (i : ℕ) → i < length slots → root (slots ++ (new_slot (length nodes) rank) ∷ []) i ≡ root slots i
  unfolding root
  root_old i l = ap (λ z. follow (slots ++ (new_slot (length nodes) rank) ∷ []) (256 - z) i) (height_old i l) ∙ follow_old (256 - height_of slots i) i l

  root_new : root (slots ++ (new_slot (length nodes) rank) ∷ []) (length nodes) ≡ length nodes
  root_new = root_last (slots ++ (new_slot (length nodes) rank) ∷ []) (length nodes) link_new

  pub sound_new : Sound (nodes ++ node ∷ []) (slots ++ (new_slot (length nodes) rank) ∷ [])
  sound_new = record {
    linked = linked_new;
    len = let a = len_wide in let b = len_more in let c = h.len in omega arith;
    shapes = λ i l. elim (cases_new i l) [
      | inl a ↦ let b = shape_old i a in let c = h.shapes i a in let d = len_more in omega arith
      | inr a ↦ let b = ap (shape_of (slots ++ (new_slot (length nodes) rank) ∷ [])) a in let c = shape_new in let d = len_more in omega arith
    ];
    inside = λ i l e. elim (cases_new i l) [
      | inl a ↦
          let sh = h.shapes i a in
          let len = h.len in
          let ls : shape_of slots i < length slots = omega arith in
          let was = h.inside i a (sym (link_old i a) ∙ e) in
          ap (root (slots ++ (new_slot (length nodes) rank) ∷ [])) (shape_old i a) ∙ root_old (shape_of slots i) ls ∙ was
      | inr a ↦ ap (root (slots ++ (new_slot (length nodes) rank) ∷ [])) (ap (shape_of (slots ++ (new_slot (length nodes) rank) ∷ [])) a ∙ shape_new) ∙ root_new ∙ sym a
    ];
    parts = λ i l. elim (cases_lt i (length nodes)) [
      | inl a ↦ subst (λ z. HasParts z i) (sym (node_old i a)) (h.parts i a)
      | inr a ↦
          let d = len_more in
          let e : i ≡ length nodes = omega arith in
          subst (λ z. HasParts (node_at (nodes ++ node ∷ []) z) z) (sym e) (subst (λ z. HasParts z (length nodes)) (sym node_new) hp)
    ];
  }

  parts_old : (x : Node) (j r : ℕ) → HasParts x j → j ≤ length slots → PartsBelow x slots r → PartsBelow x (slots ++ (new_slot (length nodes) rank) ∷ []) r
  parts_old (Free w) j r p l b = tt
  parts_old (Rigid w) j r p l b = tt
  parts_old (Con c) j r p l b = tt
  parts_old (App f a) j r p l b =
      let pf = p.0 in
      let pa = p.1 in
      let lf : f < length slots = omega arith in
      let la : a < length slots = omega arith in
      let ef = ap (rank_of (slots ++ (new_slot (length nodes) rank) ∷ [])) (root_old f lf) ∙ rank_old (root slots f) (root_within slots h.linked f lf) in
      let ea = ap (rank_of (slots ++ (new_slot (length nodes) rank) ∷ [])) (root_old a la) ∙ rank_old (root slots a) (root_within slots h.linked a la) in
      let bf = b.0 in
      let ba = b.1 in
      (omega arith, omega arith)

  pub order_new : AreOrdered (nodes ++ node ∷ []) (slots ++ (new_slot (length nodes) rank) ∷ [])
  order_new i l e = elim (cases_new i l) [
    | inl a ↦
        let j = shape_of slots i in
        let lj = h.shapes i a in
        let len = h.len in
        subst (λ z. PartsBelow (node_at (nodes ++ node ∷ []) z) (slots ++ (new_slot (length nodes) rank) ∷ []) (rank_of (slots ++ (new_slot (length nodes) rank) ∷ []) i)) (sym (shape_old i a))
        (subst (λ z. PartsBelow z (slots ++ (new_slot (length nodes) rank) ∷ []) (rank_of (slots ++ (new_slot (length nodes) rank) ∷ []) i)) (sym (node_old j lj))
        (subst (λ z. PartsBelow (node_at nodes j) (slots ++ (new_slot (length nodes) rank) ∷ []) z) (sym (rank_old i a))
        (parts_old (node_at nodes j) j (rank_of slots i) (h.parts j lj) (omega arith) (o i a (sym (link_old i a) ∙ e)))))
    | inr a ↦
        let len = h.len in
        subst (λ z. PartsBelow (node_at (nodes ++ node ∷ []) (shape_of (slots ++ (new_slot (length nodes) rank) ∷ []) z)) (slots ++ (new_slot (length nodes) rank) ∷ []) (rank_of (slots ++ (new_slot (length nodes) rank) ∷ []) z)) (sym a)
        (subst (λ z. PartsBelow (node_at (nodes ++ node ∷ []) z) (slots ++ (new_slot (length nodes) rank) ∷ []) (rank_of (slots ++ (new_slot (length nodes) rank) ∷ []) (length nodes))) (sym shape_new)
        (subst (λ z. PartsBelow z (slots ++ (new_slot (length nodes) rank) ∷ []) (rank_of (slots ++ (new_slot (length nodes) rank) ∷ []) (length nodes))) (sym node_new)
        (subst (λ z. PartsBelow node (slots ++ (new_slot (length nodes) rank) ∷ []) z) (sym rank_new) (parts_old node (length nodes) rank hp (omega arith) pb))))
  ]

  fits_old : (q : ℕ → Term) → Fits (nodes ++ node ∷ []) (slots ++ (new_slot (length nodes) rank) ∷ []) q → Fits nodes slots q
  fits_old q f = record {
    links = λ i l. f.links i (let e = len_wide in omega arith) ∙ ap q (link_old i l);
    shapes = λ i l e. subst (λ z. FitsNode z q (q i)) (node_old (shape_of slots i) (h.shapes i l))
        (subst (λ z. FitsNode (node_at (nodes ++ node ∷ []) z) q (q i)) (shape_old i l) (f.shapes i (let e = len_wide in omega arith) (link_old i l ∙ e)));
  }

  pub natural_new : AreNatural (nodes ++ node ∷ []) (slots ++ (new_slot (length nodes) rank) ∷ [])
  natural_new q f i l = elim (cases_lt i (length nodes)) [
    | inl a ↦ subst (λ z. FitsNode z q (q i)) (sym (node_old i a)) (nat q (fits_old q f) i a)
    | inr a ↦
        let d = len_more in
        let e : i ≡ length nodes = omega arith in
        let w = len_wide in
        let k = h.len in
        subst (λ z. FitsNode (node_at (nodes ++ node ∷ []) z) q (q z)) (sym e)
        (subst (λ z. FitsNode (node_at (nodes ++ node ∷ []) z) q (q (length nodes))) shape_new (f.shapes (length nodes) (omega arith) link_new))
  ]

  -- the terms before are as they were
  made_old_from : (k i : ℕ) → i < length nodes → made_from (nodes ++ node ∷ []) k i ≡ made_from nodes k i
  made_old_from zero i l = refl
  made_old_from (suc k) i l =
      ap (λ z. layer z (made_from (nodes ++ node ∷ []) k)) (node_old i l)
      ∙ layer_alike (node_at nodes i) (made_from (nodes ++ node ∷ []) k) (made_from nodes k)
      (by_parts (node_at nodes i) i (length nodes) (made_from (nodes ++ node ∷ []) k) (made_from nodes k) (h.parts i l) (omega arith) (λ x lx bx. made_old_from k x lx))

  pub made_old : (i : ℕ) → i < length nodes → made_at (nodes ++ node ∷ []) i ≡ made_at nodes i
  unfolding made_at
  made_old i l = made_old_from (suc i) i l

  solved_old_from : (k i : ℕ) → i < length slots → solved_from (nodes ++ node ∷ []) (slots ++ (new_slot (length nodes) rank) ∷ []) k i ≡ solved_from nodes slots k i
  solved_old_from zero i l = refl
  solved_old_from (suc k) i l =
      let r = root slots i in
      let lr = root_within slots h.linked i l in
      let j = shape_of slots r in
      let e : shape_of (slots ++ (new_slot (length nodes) rank) ∷ []) (root (slots ++ (new_slot (length nodes) rank) ∷ []) i) ≡ j = ap (shape_of (slots ++ (new_slot (length nodes) rank) ∷ [])) (root_old i l) ∙ shape_old r lr in
      let lj = shape_here nodes slots h o i l in
      ap (λ z. layer (node_at (nodes ++ node ∷ []) z) (solved_from (nodes ++ node ∷ []) (slots ++ (new_slot (length nodes) rank) ∷ []) k)) e ∙ ap (λ z. layer z (solved_from (nodes ++ node ∷ []) (slots ++ (new_slot (length nodes) rank) ∷ []) k)) (node_old j (h.shapes r lr))
      ∙ layer_alike (node_at nodes j) (solved_from (nodes ++ node ∷ []) (slots ++ (new_slot (length nodes) rank) ∷ []) k) (solved_from nodes slots k)
      (by_parts (node_at nodes j) j (length slots) (solved_from (nodes ++ node ∷ []) (slots ++ (new_slot (length nodes) rank) ∷ []) k) (solved_from nodes slots k) (parts_here nodes slots h o i l) (omega arith) (λ x lx bx. solved_old_from k x lx))

  pub solved_old : (i : ℕ) → i < length slots → solved_at (nodes ++ node ∷ []) (slots ++ (new_slot (length nodes) rank) ∷ []) i ≡ solved_at nodes slots i
  unfolding solved_at
  solved_old i l =
      ap (λ z. solved_from (nodes ++ node ∷ []) (slots ++ (new_slot (length nodes) rank) ∷ []) (suc z) i) (ap (rank_of (slots ++ (new_slot (length nodes) rank) ∷ [])) (root_old i l) ∙ rank_old (root slots i) (root_within slots h.linked i l))
      ∙ solved_old_from (suc (rank_of slots (root slots i))) i l

  -- the new term
  pub made_last : made_at (nodes ++ node ∷ []) (length nodes) ≡ layer node (made_at nodes)
  unfolding made_at
  made_last =
      ap (λ z. layer z (made_from (nodes ++ node ∷ []) (length nodes))) node_new
      ∙ layer_alike node (made_from (nodes ++ node ∷ []) (length nodes)) (made_at nodes)
      (by_parts node (length nodes) (length nodes) (made_from (nodes ++ node ∷ []) (length nodes)) (made_at nodes) hp (omega arith)
      (λ x lx bx. made_old_from (length nodes) x lx ∙ made_enough nodes h.parts (length nodes) (suc x) x lx bx (omega arith)))

  -- the new term is its own shape
  pub solved_here : solved_at (nodes ++ node ∷ []) (slots ++ (new_slot (length nodes) rank) ∷ []) (length nodes) ≡ layer node (solved_from (nodes ++ node ∷ []) (slots ++ (new_slot (length nodes) rank) ∷ []) rank)
  unfolding solved_at
  solved_here =
      let wide = slots ++ (new_slot (length nodes) rank) ∷ [] in
      let e : shape_of wide (root wide (length nodes)) ≡ length nodes = ap (shape_of wide) root_new ∙ shape_new in
      let k : rank_of wide (root wide (length nodes)) ≡ rank = ap (rank_of wide) root_new ∙ rank_new in
      ap (λ z. layer (node_at (nodes ++ node ∷ []) z) (solved_from (nodes ++ node ∷ []) wide (rank_of wide (root wide (length nodes))))) e
      ∙ ap (λ z. layer z (solved_from (nodes ++ node ∷ []) wide (rank_of wide (root wide (length nodes))))) node_new
      ∙ ap (λ z. layer node (solved_from (nodes ++ node ∷ []) wide z)) k

or_false : (b : Bool) → b ≡ (b || false)
or_false true = refl
or_false false = refl

or_true : (b : Bool) → (b || true) ≡ true
or_true true = refl
or_true false = refl

pub count_more : (node : Node) (vs : List ℕ) (i : ℕ) → length (listed_with node vs i) ≡ count_with node (length vs)
count_more (Free w) vs i = length-append vs (i ∷ [])
count_more (Rigid w) vs i = length-append vs (i ∷ [])
count_more (Con c) vs i = refl
count_more (App f a) vs i = refl

-- the places of the variables, with that of the new node
module _ (nodes : List Node) (slots : List Slot) (h : Sound nodes slots) (o : AreOrdered nodes slots) (nat : AreNatural nodes slots) (vs : List ℕ) (num : AreNumbered nodes vs) (node : Node) (rank : ℕ)
    (hp : HasParts node (length nodes)) (pb : PartsBelow node slots rank) (nx : IsNext node (length vs)) where
  place_more : (n : ℕ) → n < length vs → place_at (vs ++ length nodes ∷ []) n ≡ place_at vs n
  place_more n l = get_or_append_left vs (length nodes ∷ []) 0 n l

  length_more : length (vs ++ length nodes ∷ []) ≡ length vs + 1
  length_more = length-append vs (length nodes ∷ [])

  place_old_at : (x : Node) (n : ℕ) → n < length vs → place_at (listed_with x vs (length nodes)) n ≡ place_at vs n
  place_old_at (Free w) n l = place_more n l
  place_old_at (Rigid w) n l = place_more n l
  place_old_at (Con c) n l = refl
  place_old_at (App f a) n l = refl

  more_at : (x : Node) → length vs ≤ length (listed_with x vs (length nodes))
  more_at (Free w) = let e = length_more in omega arith
  more_at (Rigid w) = let e = length_more in omega arith
  more_at (Con c) = omega arith
  more_at (App f a) = omega arith

  -- a number of the longer list is one of the list, or it is the new node's
  last_at : (x : Node) (n : ℕ) → IsNext x (length vs) → n < length (listed_with x vs (length nodes)) → length vs ≤ n → (place_at (listed_with x vs (length nodes)) n ≡ length nodes) × HasNumber x n
  last_at (Free w) n e l g =
      let m = length_more in
      let k : n ≡ length vs = omega arith in
      (ap (place_at (vs ++ length nodes ∷ [])) k ∙ get_or-append_seam vs (length nodes) [] 0, e ∙ sym k)
  last_at (Rigid w) n e l g =
      let m = length_more in
      let k : n ≡ length vs = omega arith in
      (ap (place_at (vs ++ length nodes ∷ [])) k ∙ get_or-append_seam vs (length nodes) [] 0, e ∙ sym k)
  last_at (Con c) n e l g = absurd (omega arith)
  last_at (App f a) n e l g = absurd (omega arith)

  new_listed : (x : Node) → IsNext x (length vs) → IsListed (listed_with x vs (length nodes)) x (length nodes)
  new_listed (Free w) e = let m = length_more in (omega arith, ap (place_at (vs ++ length nodes ∷ [])) e ∙ get_or-append_seam vs (length nodes) [] 0)
  new_listed (Rigid w) e = let m = length_more in (omega arith, ap (place_at (vs ++ length nodes ∷ [])) e ∙ get_or-append_seam vs (length nodes) [] 0)
  new_listed (Con c) e = tt
  new_listed (App f a) e = tt

  still_listed : (x : Node) (i : ℕ) → IsListed vs x i → IsListed (listed_with node vs (length nodes)) x i
  still_listed (Free w) i e = let l = e.0 in let m = more_at node in (omega arith, place_old_at node w e.0 ∙ e.1)
  still_listed (Rigid w) i e = let l = e.0 in let m = more_at node in (omega arith, place_old_at node w e.0 ∙ e.1)
  still_listed (Con c) i e = tt
  still_listed (App f a) i e = tt

  old_node : (i : ℕ) → i < length nodes → node_at (nodes ++ node ∷ []) i ≡ node_at nodes i
  old_node i l = get_or_append_left nodes (node ∷ []) (Free 0) i l

  new_node : node_at (nodes ++ node ∷ []) (length nodes) ≡ node
  new_node = get_or-append_seam nodes node [] (Free 0)

  before_old : (i : ℕ) → i ≤ length nodes → variables_before (nodes ++ node ∷ []) i ≡ variables_before nodes i
  before_old zero l = refl
  before_old (suc i) l = ap (λ z. count_with z (variables_before (nodes ++ node ∷ []) i)) (old_node i (omega arith)) ∙ ap (count_with (node_at nodes i)) (before_old i (omega arith))

  one_longer : suc (length nodes) ≡ length (nodes ++ node ∷ [])
  one_longer = let d = length-append nodes (node ∷ []) in omega arith

  pub numbered_new : AreNumbered (nodes ++ node ∷ []) (listed_with node vs (length nodes))
  numbered_new = record {
    named = λ n l. elim (cases_lt n (length vs)) [
      | inl a ↦
          let e = place_old_at node n a in
          let was = num.named n a in
          let b = was.0 in
          let d = length-append nodes (node ∷ []) in
          (omega arith, subst (λ z. HasNumber (node_at (nodes ++ node ∷ []) z) n) (sym e) (subst (λ z. HasNumber z n) (sym (old_node (place_at vs n) was.0)) was.1))
      | inr a ↦
          let new = last_at node n nx l a in
          let e = new.0 in
          let d = length-append nodes (node ∷ []) in
          (omega arith, subst (λ z. HasNumber (node_at (nodes ++ node ∷ []) z) n) (sym e) (subst (λ z. HasNumber z n) (sym new_node) new.1))
    ];
    listed = λ i l. elim (cases_lt i (length nodes)) [
      | inl a ↦ subst (λ z. IsListed (listed_with node vs (length nodes)) z i) (sym (old_node i a)) (still_listed (node_at nodes i) i (num.listed i a))
      | inr a ↦
          let d = length-append nodes (node ∷ []) in
          let e : i ≡ length nodes = omega arith in
          subst (λ z. IsListed (listed_with node vs (length nodes)) (node_at (nodes ++ node ∷ []) z) z) (sym e)
          (subst (λ z. IsListed (listed_with node vs (length nodes)) z (length nodes)) (sym new_node) (new_listed node nx))
    ];
    counted = λ i l. elim (cases_lt i (length nodes)) [
      | inl a ↦ subst (λ z. IsNext (node_at (nodes ++ node ∷ []) i) z) (sym (before_old i (omega arith))) (subst (λ z. IsNext z (variables_before nodes i)) (sym (old_node i a)) (num.counted i a))
      | inr a ↦
          let d = length-append nodes (node ∷ []) in
          let e : i ≡ length nodes = omega arith in
          subst (λ z. IsNext (node_at (nodes ++ node ∷ []) z) (variables_before (nodes ++ node ∷ []) z)) (sym e)
          (subst (λ z. IsNext z (variables_before (nodes ++ node ∷ []) (length nodes))) (sym new_node)
          (subst (λ z. IsNext node z) (num.total ∙ sym (before_old (length nodes) (omega arith))) nx))
    ];
    total =
        count_more node vs (length nodes) ∙ ap (count_with node) (num.total ∙ sym (before_old (length nodes) (omega arith)))
        ∙ ap (λ z. count_with z (variables_before (nodes ++ node ∷ []) (length nodes))) (sym new_node)
        ∙ ap (variables_before (nodes ++ node ∷ [])) one_longer;
  }

  -- which variables are rigid
  other_number : (x : Node) (n : ℕ) → IsNext x (length vs) → n < length vs → is_rigid_number x n ≡ false
  other_number (Free w) n e l = refl
  other_number (Rigid w) n e l = is_other n w (λ z. absurd (omega arith))
  other_number (Con c) n e l = refl
  other_number (App f a) n e l = refl

  this_number : (x : Node) (n : ℕ) → HasNumber x n → rigid_node x ≡ is_rigid_number x n
  this_number (Free w) n e = refl
  this_number (Rigid w) n e = sym (is_same n w (sym e))
  this_number (Con c) n e = absurd e
  this_number (App f a) n e = absurd e

  past_number : (x : Node) (n : ℕ) → IsNext x (length vs) → length (listed_with x vs (length nodes)) ≤ n → is_rigid_number x n ≡ false
  past_number (Free w) n e l = refl
  past_number (Rigid w) n e l = let m = length_more in is_other n w (λ z. absurd (omega arith))
  past_number (Con c) n e l = refl
  past_number (App f a) n e l = refl

  pub rigid_new : (n : ℕ) → is_rigid_at (nodes ++ node ∷ []) (listed_with node vs (length nodes)) n ≡ (is_rigid_number node n || is_rigid_at nodes vs n)
  rigid_new n = elim (cases_lt n (length vs)) [
    | inl a ↦
        let m = more_at node in
        rigid_within (nodes ++ node ∷ []) slots (listed_with node vs (length nodes)) n (omega arith)
        ∙ ap (λ z. rigid_node (node_at (nodes ++ node ∷ []) z)) (place_old_at node n a) ∙ ap rigid_node (old_node (place_at vs n) (num.named n a).0)
        ∙ sym (rigid_within nodes slots vs n a) ∙ ap (λ b. b || is_rigid_at nodes vs n) (sym (other_number node n nx a))
    | inr a ↦ elim (cases_lt n (length (listed_with node vs (length nodes)))) [
      | inl b ↦
          let new = last_at node n nx b a in
          rigid_within (nodes ++ node ∷ []) slots (listed_with node vs (length nodes)) n b
          ∙ ap (λ z. rigid_node (node_at (nodes ++ node ∷ []) z)) new.0 ∙ ap rigid_node new_node ∙ this_number node n new.1
          ∙ or_false (is_rigid_number node n) ∙ ap (λ z. is_rigid_number node n || z) (sym (rigid_beyond nodes slots vs n a))
      | inr b ↦
          rigid_beyond (nodes ++ node ∷ []) slots (listed_with node vs (length nodes)) n b
          ∙ sym (ap (λ z. z || is_rigid_at nodes vs n) (past_number node n nx b) ∙ rigid_beyond nodes slots vs n a)
    ]
  ]

  -- the solution is the same substitution
  pub same_solution : (n : ℕ) → solution_at (nodes ++ node ∷ []) (slots ++ (new_slot (length nodes) rank) ∷ []) (listed_with node vs (length nodes)) n ≡ solution_at nodes slots vs n
  same_solution n = elim (cases_lt n (length vs)) [
    | inl a ↦
        let m = more_at node in
        let len = h.len in
        let b = (num.named n a).0 in
        within (nodes ++ node ∷ []) (slots ++ (new_slot (length nodes) rank) ∷ []) (listed_with node vs (length nodes)) n (omega arith)
        ∙ ap (solved_at (nodes ++ node ∷ []) (slots ++ (new_slot (length nodes) rank) ∷ [])) (place_old_at node n a)
        ∙ solved_old nodes slots h o nat node rank hp pb (place_at vs n) (omega arith) ∙ sym (within nodes slots vs n a)
    | inr a ↦ elim (cases_lt n (length (listed_with node vs (length nodes)))) [
      | inl b ↦
          let new = last_at node n nx b a in
          within (nodes ++ node ∷ []) (slots ++ (new_slot (length nodes) rank) ∷ []) (listed_with node vs (length nodes)) n b
          ∙ ap (solved_at (nodes ++ node ∷ []) (slots ++ (new_slot (length nodes) rank) ∷ [])) new.0
          ∙ solved_here nodes slots h o nat node rank hp pb ∙ own_layer node (solved_from (nodes ++ node ∷ []) (slots ++ (new_slot (length nodes) rank) ∷ []) rank) n new.1 ∙ sym (beyond nodes slots vs n a)
      | inr b ↦ beyond (nodes ++ node ∷ []) (slots ++ (new_slot (length nodes) rank) ∷ []) (listed_with node vs (length nodes)) n b ∙ sym (beyond nodes slots vs n a)
    ]
  ]

  rigid_before : (n : ℕ) → is_rigid_at nodes vs n ≡ true → is_rigid_at (nodes ++ node ∷ []) (listed_with node vs (length nodes)) n ≡ true
  rigid_before n e = rigid_new n ∙ ap (λ z. is_rigid_number node n || z) e ∙ or_true (is_rigid_number node n)

  pub most_general_still : (pairs : List (Term × Term)) → MostGeneral (is_rigid_at nodes vs) pairs (solution_at nodes slots vs)
      → MostGeneral (is_rigid_at (nodes ++ node ∷ []) (listed_with node vs (length nodes))) pairs (solution_at (nodes ++ node ∷ []) (slots ++ (new_slot (length nodes) rank) ∷ []) (listed_with node vs (length nodes)))
  most_general_still pairs m =
      let s : ℕ → Term = solution_at (nodes ++ node ∷ []) (slots ++ (new_slot (length nodes) rank) ∷ []) (listed_with node vs (length nodes)) in
      record {
        solves = record {
          rigid_stay = solution_rigid (nodes ++ node ∷ []) (slots ++ (new_slot (length nodes) rank) ∷ []) (listed_with node vs (length nodes))
              (sound_new nodes slots h o nat node rank hp pb) (order_new nodes slots h o nat node rank hp pb) (natural_new nodes slots h o nat node rank hp pb) numbered_new;
          equal = λ t u c. apply_alike s (solution_at nodes slots vs) same_solution t ∙ m.solves.equal t u c ∙ sym (apply_alike s (solution_at nodes slots vs) same_solution u);
        };
        general = λ r w i. ap (apply r) (same_solution i) ∙ m.general r (record { rigid_stay = λ k e. w.rigid_stay k (rigid_before k e); equal = w.equal }) i;
      }

mark_more : (marks : List ℕ) (clock : ℕ) → ((i : ℕ) → mark_of marks i < clock) → (i : ℕ) → mark_of (marks ++ 0 ∷ []) i < clock
mark_more marks clock h i = elim (cases_lt i (length marks)) [
  | inl l ↦ let e = get_or_append_left marks (0 ∷ []) 0 i l in let b = h i in omega arith
  | inr l ↦ elim (cases_eq i (length marks)) [
    | inl s ↦ let e : mark_of (marks ++ 0 ∷ []) i ≡ 0 = ap (mark_of (marks ++ 0 ∷ [])) s ∙ get_or-append_seam marks 0 [] 0 in let b = h 0 in omega arith
    | inr s ↦ let e = get_or_past (marks ++ 0 ∷ []) i 0 (omega (arith, length-append marks (0 ∷ []))) in let b = h 0 in omega arith
  ]
]

-- ceilings of more terms
module _ (nodes : List Node) (slots : List Slot) (h : Sound nodes slots) (o : AreOrdered nodes slots) (nat : AreNatural nodes slots) (node : Node) (rank : ℕ)
    (hp : HasParts node (length nodes)) (pb : PartsBelow node slots rank) (ceilings later : List ℕ) (top : ℕ) (len : length ceilings ≡ length slots) (low : Lowered (ceilings ++ top ∷ []) later) where
  caps_old : (x : Node) (j k : ℕ) → HasParts x j → j ≤ length slots → PartsCapped x slots ceilings k → PartsCapped x (slots ++ (new_slot (length nodes) rank) ∷ []) (ceilings ++ top ∷ []) k
  caps_old (Free w) j k p l c = tt
  caps_old (Rigid w) j k p l c = tt
  caps_old (Con x) j k p l c = tt
  caps_old (App f a) j k p l c =
      let pf = p.0 in
      let pa = p.1 in
      let lf : f < length slots = omega arith in
      let la : a < length slots = omega arith in
      let rf = root_within slots h.linked f lf in
      let ra = root_within slots h.linked a la in
      let ef = ap (ceiling_of (ceilings ++ top ∷ [])) (root_old nodes slots h o nat node rank hp pb f lf) in
      let ea = ap (ceiling_of (ceilings ++ top ∷ [])) (root_old nodes slots h o nat node rank hp pb a la) in
      let gf = get_or_append_left ceilings (top ∷ []) 0 (root slots f) (omega arith) in
      let ga = get_or_append_left ceilings (top ∷ []) 0 (root slots a) (omega arith) in
      let cf = c.0 in
      let ca = c.1 in
      (omega arith, omega arith)

  pub capped_new : AreCapped nodes slots ceilings → PartsCapped (node_at (nodes ++ node ∷ []) (length nodes)) (slots ++ (new_slot (length nodes) rank) ∷ []) later rank
      → AreCapped (nodes ++ node ∷ []) (slots ++ (new_slot (length nodes) rank) ∷ []) later
  capped_new was here i l e = elim (cases_new nodes slots h o nat node rank hp pb i l) [
    | inl a ↦
        let wide = slots ++ (new_slot (length nodes) rank) ∷ [] in
        let j = shape_of slots i in
        let lj = h.shapes i a in
        let n = h.len in
        let old = was i a (sym (link_old nodes slots h o nat node rank hp pb i a) ∙ e) in
        parts_still (node_at (nodes ++ node ∷ []) (shape_of wide i)) wide (ceilings ++ top ∷ []) later (rank_of wide i) low
        (subst (λ z. PartsCapped (node_at (nodes ++ node ∷ []) z) wide (ceilings ++ top ∷ []) (rank_of wide i)) (sym (shape_old nodes slots h o nat node rank hp pb i a))
        (subst (λ z. PartsCapped z wide (ceilings ++ top ∷ []) (rank_of wide i)) (sym (node_old nodes slots h o nat node rank hp pb j lj))
        (subst (λ z. PartsCapped (node_at nodes j) wide (ceilings ++ top ∷ []) z) (sym (rank_old nodes slots h o nat node rank hp pb i a))
        (caps_old (node_at nodes j) j (rank_of slots i) (h.parts j lj) (omega arith) old))))
    | inr a ↦
        let wide = slots ++ (new_slot (length nodes) rank) ∷ [] in
        subst (λ z. PartsCapped (node_at (nodes ++ node ∷ []) (shape_of wide z)) wide later (rank_of wide z)) (sym a)
        (subst (λ z. PartsCapped (node_at (nodes ++ node ∷ []) z) wide later (rank_of wide (length nodes))) (sym (shape_new nodes slots h o nat node rank hp pb))
        (subst (λ z. PartsCapped (node_at (nodes ++ node ∷ []) (length nodes)) wide later z) (sym (rank_new nodes slots h o nat node rank hp pb)) here))
  ]

  pub ceilings_new : length later ≡ length (slots ++ (new_slot (length nodes) rank) ∷ [])
  ceilings_new =
      let a = low.len in
      let b = length-append ceilings (top ∷ []) in
      let c = length-append slots ((new_slot (length nodes) rank) ∷ []) in
      omega arith

pub holds_more : (nodes : List Node) (slots : List Slot) (vs ceilings later marks : List ℕ) (clock top : ℕ) (node : Node) (rank : ℕ) → Holds nodes slots vs ceilings marks clock → HasParts node (length nodes) → PartsBelow node slots rank → IsNext node (length vs)
    → Lowered (ceilings ++ top ∷ []) later → PartsCapped (node_at (nodes ++ node ∷ []) (length nodes)) (slots ++ (new_slot (length nodes) rank) ∷ []) later rank
    → Holds (nodes ++ node ∷ []) (slots ++ new_slot (length nodes) rank ∷ []) (listed_with node vs (length nodes)) later (marks ++ 0 ∷ []) clock
holds_more nodes slots vs ceilings later marks clock top node rank h hp pb nx low here = record {
  sound = sound_new nodes slots h.sound h.order h.natural node rank hp pb;
  order = order_new nodes slots h.sound h.order h.natural node rank hp pb;
  natural = natural_new nodes slots h.sound h.order h.natural node rank hp pb;
  numbered = numbered_new nodes slots h.sound h.order h.natural vs h.numbered node rank hp pb nx;
  capped = capped_new nodes slots h.sound h.order h.natural node rank hp pb ceilings later top h.ceiling_len low h.capped here;
  ceiling_len = ceilings_new nodes slots h.sound h.order h.natural node rank hp pb ceilings later top h.ceiling_len low;
  len =
      let a = length-append marks (0 ∷ []) in
      let b = length-append slots (new_slot (length nodes) rank ∷ []) in
      let c = h.len in
      omega arith;
  fresh = mark_more marks clock h.fresh;
}

pub added_more : (nodes : List Node) (slots : List Slot) (vs ceilings marks : List ℕ) (clock : ℕ) (node : Node) (rank : ℕ) → Holds nodes slots vs ceilings marks clock → HasParts node (length nodes) → PartsBelow node slots rank → IsNext node (length vs)
    → Added (record { nodes = nodes; slots = slots; variables = vs }) (record { nodes = nodes ++ node ∷ []; slots = slots ++ new_slot (length nodes) rank ∷ []; variables = listed_with node vs (length nodes) }) (length nodes) (layer node (made_at nodes))
added_more nodes slots vs ceilings marks clock node rank h hp pb nx = record {
  is = refl;
  size = length-append nodes (node ∷ []);
  made_here = made_last nodes slots h.sound h.order h.natural node rank hp pb;
  made_before = made_old nodes slots h.sound h.order h.natural node rank hp pb;
  solved_before = λ i l. solved_old nodes slots h.sound h.order h.natural node rank hp pb i (let e = h.sound.len in omega arith);
  solution_stays = same_solution nodes slots h.sound h.order h.natural vs h.numbered node rank hp pb nx;
  general = most_general_still nodes slots h.sound h.order h.natural vs h.numbered node rank hp pb nx;
}

pub rigid_more : (nodes : List Node) (slots : List Slot) (vs ceilings marks : List ℕ) (clock : ℕ) (node : Node) (rank : ℕ) → Holds nodes slots vs ceilings marks clock → HasParts node (length nodes) → PartsBelow node slots rank → IsNext node (length vs)
    → (n : ℕ) → is_rigid_at (nodes ++ node ∷ []) (listed_with node vs (length nodes)) n ≡ (is_rigid_number node n || is_rigid_at nodes vs n)
rigid_more nodes slots vs ceilings marks clock node rank h = rigid_new nodes slots h.sound h.order h.natural vs h.numbered node rank
