-- The solver's answer is right, by how pairs differ first.
use Rattle.std.proofs.Common.{ℕ, zero, suc, Bool, true, false, ◌≡◌, ◌≢◌, ◌⊎◌, ◌↔◌, ◌<◌, ◌≤◌, ◌||◌, nat_eq, if◌then◌else◌, List, [], ◌∷◌, ◌++◌, map, length, Some, None, Option, is_some, refl, sym, ap, ◌∙◌, inl, inr, subst, arith}
use Rattle.std.specs.List.{Contains}
use Rattle.std.specs.Option.{option_map}
use Rattle.std.proofs.lemmas.Bool.{eqb-true, eq-eqb}
use Rattle.mk_base.specs.declared.name.Name.{Name}
use Rattle.unifiers.specs.Term.{Term, apply, Occurs}
use Rattle.unifiers.specs.Term.Term.{var, con, app}
use Rattle.unifiers.specs.Unifier.{Solves, MostGeneral, after, image}
use Rattle.unifiers.proofs.Laws.{no_part, apply_after, apply_alike}
use Rattle.unifiers.specs.Solver.{same_name, has, Difference, Same, Clash, Bind, first, bind, difference, first_difference, put, settle, solve_within, variables, variables_of, solve, NoneWhereNothingSolves, SolvedIsATest, SolutionIsMostGeneral}
use Rattle.unifiers.proofs.Names.{name_itself, name_same}

abbrev pub Stays : (ℕ → Bool) → (ℕ → Term) → Type 0
Stays rigid s = (n : ℕ) → rigid n ≡ true → s n ≡ var n

abbrev pub Equates : (ℕ → Term) → List (Term × Term) → Type 0
Equates s [] = Unit {0}
Equates s (p ∷ ps) = (apply s p.0 ≡ apply s p.1) × Equates s ps

-- what a difference says of the substitutions that make something equal
abbrev pub Tells : (ℕ → Bool) → ((ℕ → Term) → Type 0) → Difference → Type 0
Tells rigid E Same = (s : ℕ → Term) → E s
Tells rigid E Clash = (s : ℕ → Term) → Stays rigid s → E s → ⊥
Tells rigid E (Bind v t) = (rigid v ≡ false) × (has v t ≡ false) × ((s : ℕ → Term) → Stays rigid s → E s → s v ≡ apply s t)

tells_first : (rigid : ℕ → Bool) (E F : (ℕ → Term) → Type 0) (d e : Difference) → Tells rigid E d → Tells rigid F e → Tells rigid (λ s. E s × F s) (first d e)
tells_first rigid E F Same Same h g = λ s. (h s, g s)
tells_first rigid E F Same Clash h g = λ s c k. g s c k.1
tells_first rigid E F Same (Bind v t) h g = (g.0, g.1, λ s c k. g.2 s c k.1)
tells_first rigid E F Clash e h g = λ s c k. h s c k.0
tells_first rigid E F (Bind v t) e h g = (h.0, h.1, λ s c k. h.2 s c k.0)

tells_like : (rigid : ℕ → Bool) (E F : (ℕ → Term) → Type 0) → ((s : ℕ → Term) → E s → F s) → ((s : ℕ → Term) → F s → E s) → (d : Difference) → Tells rigid E d → Tells rigid F d
tells_like rigid E F to back Same h = λ s. to s (h s)
tells_like rigid E F to back Clash h = λ s c k. h s c (back s k)
tells_like rigid E F to back (Bind v t) h = (h.0, h.1, λ s c k. h.2 s c (back s k))

has_occurs : (v : ℕ) (t : Term) → has v t ≡ true → Occurs v t
has_occurs v (var n) e = eqb-true n v e
has_occurs v (con c) e = absurd (let h : ⊥ = cc in h)
has_occurs v (app f a) e = by (has v f) (has v a) e (has_occurs v f) (has_occurs v a)
  where
    by : (b c : Bool) → (b || c) ≡ true → (b ≡ true → Occurs v f) → (c ≡ true → Occurs v a) → Occurs v f ⊎ Occurs v a
    by true c h l r = inl (l refl)
    by false c h l r = inr (r h)

-- a variable against a term that is no variable which stays
tells_bind : (rigid : ℕ → Bool) (E : (ℕ → Term) → Type 0) (v : ℕ) (t : Term) → t ≢ var v
    → ((s : ℕ → Term) → Stays rigid s → rigid v ≡ true → var v ≢ apply s t) → ((s : ℕ → Term) → E s → s v ≡ apply s t) → Tells rigid E (bind rigid v t)
tells_bind rigid E v t ne fixed eq = by (rigid v) (has v t) refl refl
  where
    by : (b c : Bool) → rigid v ≡ b → has v t ≡ c → Tells rigid E (if b || c then Clash else Bind v t)
    by true c p q = λ s w k. fixed s w p (sym (w v p) ∙ eq s k)
    by false true p q = λ s w k. no_part s v t (has_occurs v t q) ne (eq s k)
    by false false p q = (p, q, λ s w k. eq s k)

other : {m n : ℕ} → nat_eq m n ≡ false → m ≢ n
other {m} {n} p e = let k : nat_eq m n ≡ true = eq-eqb m n e in let h : ⊥ = (let i : true ≡ false = sym k ∙ p in cc) in h

var_one : (m n : ℕ) → var m ≡ var n → m ≡ n
var_one m n e = cc

con_one : (c d : Name) → con c ≡ con d → c ≡ d
con_one c d e = cc

head_one : (f a g b : Term) → app f a ≡ app g b → f ≡ g
head_one f a g b e = cc

argument_one : (f a g b : Term) → app f a ≡ app g b → a ≡ b
argument_one f a g b e = cc

tells_vars : (rigid : ℕ → Bool) (m n : ℕ) → Tells rigid (λ s. s m ≡ s n) (difference rigid (var m) (var n))
tells_vars rigid m n = by (nat_eq m n) (rigid m) refl refl
  where
    by : (b c : Bool) → nat_eq m n ≡ b → rigid m ≡ c → Tells rigid (λ s. s m ≡ s n) (if b then Same else (if c then bind rigid n (var m) else bind rigid m (var n)))
    by true c p q = λ s. ap s (eqb-true m n p)
    by false true p q = tells_bind rigid (λ s. s m ≡ s n) n (var m) (λ e. other p (var_one m n e))
        (λ s w r e. other p (sym (var_one n m (e ∙ w m q)))) (λ s k. sym k)
    by false false p q = tells_bind rigid (λ s. s m ≡ s n) m (var n) (λ e. other p (sym (var_one n m e)))
        (λ s w r e. let h : ⊥ = let k : true ≡ false = sym r ∙ q in cc in h) (λ s k. k)

tells : (rigid : ℕ → Bool) (t u : Term) → Tells rigid (λ s. apply s t ≡ apply s u) (difference rigid t u)
tells rigid (var m) (var n) = tells_vars rigid m n
tells rigid (var m) (con d) = tells_bind rigid (λ s. s m ≡ con d) m (con d) (λ e. cc) (λ s w r e. cc) (λ s k. k)
tells rigid (var m) (app g b) = tells_bind rigid (λ s. s m ≡ app (apply s g) (apply s b)) m (app g b) (λ e. cc) (λ s w r e. let h : var m ≡ app (apply s g) (apply s b) = e in cc) (λ s k. k)
tells rigid (con c) (var n) = tells_bind rigid (λ s. con c ≡ s n) n (con c) (λ e. cc) (λ s w r e. cc) (λ s k. sym k)
tells rigid (con c) (con d) = by (same_name c d) refl
  where
    by : (b : Bool) → same_name c d ≡ b → Tells rigid (λ s. con c ≡ con d) (if b then Same else Clash)
    by true p = λ s. ap con (name_same c d p)
    by false p = λ s w e. let k : c ≡ d = con_one c d e in let h : ⊥ = (let i : same_name c d ≡ true = ap (same_name c) (sym k) ∙ name_itself c in let j : true ≡ false = sym i ∙ p in cc) in h
tells rigid (con c) (app g b) = λ s w e. let h : con c ≡ app (apply s g) (apply s b) = e in cc
tells rigid (app f a) (var n) = tells_bind rigid (λ s. app (apply s f) (apply s a) ≡ s n) n (app f a) (λ e. cc) (λ s w r e. let h : var n ≡ app (apply s f) (apply s a) = e in cc) (λ s k. sym k)
tells rigid (app f a) (con d) = λ s w e. let h : app (apply s f) (apply s a) ≡ con d = e in cc
tells rigid (app f a) (app g b) =
    tells_like rigid (λ s. (apply s f ≡ apply s g) × (apply s a ≡ apply s b)) (λ s. app (apply s f) (apply s a) ≡ app (apply s g) (apply s b))
    (λ s k. let p = k.0 in let q = k.1 in cc) (λ s k. (head_one (apply s f) (apply s a) (apply s g) (apply s b) k, argument_one (apply s f) (apply s a) (apply s g) (apply s b) k))
    (first (difference rigid f g) (difference rigid a b))
    (tells_first rigid (λ s. apply s f ≡ apply s g) (λ s. apply s a ≡ apply s b) (difference rigid f g) (difference rigid a b) (tells rigid f g) (tells rigid a b))

tells_pairs : (rigid : ℕ → Bool) (ps : List (Term × Term)) → Tells rigid (λ s. Equates s ps) (first_difference rigid ps)
tells_pairs rigid [] = λ s. tt
tells_pairs rigid (p ∷ ps) =
    tells_first rigid (λ s. apply s p.0 ≡ apply s p.1) (λ s. Equates s ps) (difference rigid p.0 p.1) (first_difference rigid ps) (tells rigid p.0 p.1) (tells_pairs rigid ps)

-- ---- the variable that is put is gone

abbrev pub mem : List ℕ → ℕ → Bool
mem [] v = false
mem (w ∷ ws) v = nat_eq w v || mem ws v

-- each variable of a term is in a list
abbrev pub Within : List ℕ → Term → Type 0
Within vs (var n) = mem vs n ≡ true
Within vs (con c) = Unit {0}
Within vs (app f a) = Within vs f × Within vs a

abbrev pub AreWithin : List ℕ → List (Term × Term) → Type 0
AreWithin vs [] = Unit {0}
AreWithin vs (p ∷ ps) = Within vs p.0 × Within vs p.1 × AreWithin vs ps

abbrev pub Inside : List ℕ → Difference → Type 0
Inside vs Same = Unit {0}
Inside vs Clash = Unit {0}
Inside vs (Bind v t) = (mem vs v ≡ true) × Within vs t

inside_first : (vs : List ℕ) (d e : Difference) → Inside vs d → Inside vs e → Inside vs (first d e)
inside_first vs Same e h g = g
inside_first vs Clash e h g = tt
inside_first vs (Bind v t) e h g = h

inside_cond : (vs : List ℕ) (b : Bool) (d e : Difference) → Inside vs d → Inside vs e → Inside vs (if b then d else e)
inside_cond vs true d e h g = h
inside_cond vs false d e h g = g

inside_bind : (vs : List ℕ) (rigid : ℕ → Bool) (v : ℕ) (t : Term) → mem vs v ≡ true → Within vs t → Inside vs (bind rigid v t)
inside_bind vs rigid v t h g = inside_cond vs (rigid v || has v t) Clash (Bind v t) tt (h, g)

inside : (vs : List ℕ) (rigid : ℕ → Bool) (t u : Term) → Within vs t → Within vs u → Inside vs (difference rigid t u)
inside vs rigid (var m) (var n) h g = inside_cond vs (nat_eq m n) Same (if rigid m then bind rigid n (var m) else bind rigid m (var n)) tt
    (inside_cond vs (rigid m) (bind rigid n (var m)) (bind rigid m (var n)) (inside_bind vs rigid n (var m) g h) (inside_bind vs rigid m (var n) h g))
inside vs rigid (var m) (con d) h g = inside_bind vs rigid m (con d) h g
inside vs rigid (var m) (app k b) h g = inside_bind vs rigid m (app k b) h g
inside vs rigid (con c) (var n) h g = inside_bind vs rigid n (con c) g h
inside vs rigid (con c) (con d) h g = inside_cond vs (same_name c d) Same Clash tt tt
inside vs rigid (con c) (app k b) h g = tt
inside vs rigid (app f a) (var n) h g = inside_bind vs rigid n (app f a) g h
inside vs rigid (app f a) (con d) h g = tt
inside vs rigid (app f a) (app k b) h g = inside_first vs (difference rigid f k) (difference rigid a b) (inside vs rigid f k h.0 g.0) (inside vs rigid a b h.1 g.1)

inside_pairs : (vs : List ℕ) (rigid : ℕ → Bool) (ps : List (Term × Term)) → AreWithin vs ps → Inside vs (first_difference rigid ps)
inside_pairs vs rigid [] h = tt
inside_pairs vs rigid (p ∷ ps) h = inside_first vs (difference rigid p.0 p.1) (first_difference rigid ps) (inside vs rigid p.0 p.1 h.0 h.1) (inside_pairs vs rigid ps h.2)

abbrev pub without : ℕ → List ℕ → List ℕ
without v [] = []
without v (w ∷ ws) = if nat_eq w v then without v ws else (w ∷ without v ws)

without_most : (v : ℕ) (ws : List ℕ) → length (without v ws) ≤ length ws
without_most v [] = omega arith
without_most v (w ∷ ws) = by (nat_eq w v) (without_most v ws)
  where
    by : (b : Bool) → length (without v ws) ≤ length ws → length (if b then without v ws else (w ∷ without v ws)) ≤ length (w ∷ ws)
    by true h = omega arith
    by false h = omega arith

without_less : (v : ℕ) (ws : List ℕ) → mem ws v ≡ true → length (without v ws) < length ws
without_less v [] e = absurd (let h : ⊥ = cc in h)
without_less v (w ∷ ws) e = by (nat_eq w v) (without_less v ws) e
  where
    by : (b : Bool) → (mem ws v ≡ true → length (without v ws) < length ws) → (b || mem ws v) ≡ true → length (if b then without v ws else (w ∷ without v ws)) < length (w ∷ ws)
    by true f h = let k = without_most v ws in omega arith
    by false f h = let k = f h in omega arith

-- another variable stays in the list
without_other : (v n : ℕ) (ws : List ℕ) → nat_eq n v ≡ false → mem ws n ≡ true → mem (without v ws) n ≡ true
without_other v n [] d e = e
without_other v n (w ∷ ws) d e = by (nat_eq w v) (nat_eq w n) (without_other v n ws d) refl refl e
  where
    by : (b c : Bool) → (mem ws n ≡ true → mem (without v ws) n ≡ true) → nat_eq w v ≡ b → nat_eq w n ≡ c → (c || mem ws n) ≡ true → mem (if b then without v ws else (w ∷ without v ws)) n ≡ true
    by true true f p q h = let k : nat_eq n v ≡ true = ap (λ z. nat_eq z v) (sym (eqb-true w n q)) ∙ p in let i : true ≡ false = sym k ∙ d in absurd (let j : ⊥ = cc in j)
    by true false f p q h = f h
    by false true f p q h = ap (λ z. z || mem (without v ws) n) q
    by false false f p q h = ap (λ z. z || mem (without v ws) n) q ∙ f h

or_none : (b c : Bool) → (b || c) ≡ false → (b ≡ false) × (c ≡ false)
or_none true c e = absurd (let h : ⊥ = cc in h)
or_none false c e = (refl, e)

within_without : (v : ℕ) (vs : List ℕ) (t : Term) → has v t ≡ false → Within vs t → Within (without v vs) t
within_without v vs (var n) d h = without_other v n vs d h
within_without v vs (con c) d h = tt
within_without v vs (app f a) d h = let e = or_none (has v f) (has v a) d in (within_without v vs f e.0 h.0, within_without v vs a e.1 h.1)

within_put : (v : ℕ) (w : Term) (vs : List ℕ) → Within (without v vs) w → (t : Term) → Within vs t → Within (without v vs) (apply (put v w) t)
within_put v w vs g (var n) h = by (nat_eq n v) refl
  where
    by : (b : Bool) → nat_eq n v ≡ b → Within (without v vs) (if b then w else var n)
    by true p = g
    by false p = without_other v n vs p h
within_put v w vs g (con c) h = tt
within_put v w vs g (app f a) h = (within_put v w vs g f h.0, within_put v w vs g a h.1)

are_within_put : (v : ℕ) (w : Term) (vs : List ℕ) → Within (without v vs) w → (ps : List (Term × Term)) → AreWithin vs ps → AreWithin (without v vs) (map (image (put v w)) ps)
are_within_put v w vs g [] h = tt
are_within_put v w vs g (p ∷ ps) h = (within_put v w vs g p.0 h.0, within_put v w vs g p.1 h.1, are_within_put v w vs g ps h.2)

-- ---- the variables of the pairs themselves

or_left : (b c : Bool) → b ≡ true → (b || c) ≡ true
or_left true c e = refl
or_left false c e = absurd (let h : ⊥ = cc in h)

mem_left : (vs ws : List ℕ) (n : ℕ) → mem vs n ≡ true → mem (vs ++ ws) n ≡ true
mem_left [] ws n e = absurd (let h : ⊥ = cc in h)
mem_left (v ∷ vs) ws n e = by (nat_eq v n) (mem_left vs ws n) e
  where
    by : (b : Bool) → (mem vs n ≡ true → mem (vs ++ ws) n ≡ true) → (b || mem vs n) ≡ true → (b || mem (vs ++ ws) n) ≡ true
    by true f h = refl
    by false f h = f h

mem_right : (vs ws : List ℕ) (n : ℕ) → mem ws n ≡ true → mem (vs ++ ws) n ≡ true
mem_right [] ws n e = e
mem_right (v ∷ vs) ws n e = by (nat_eq v n) (mem_right vs ws n e)
  where
    by : (b : Bool) → mem (vs ++ ws) n ≡ true → (b || mem (vs ++ ws) n) ≡ true
    by true h = refl
    by false h = h

within_more : (vs ws : List ℕ) → ((n : ℕ) → mem vs n ≡ true → mem ws n ≡ true) → (t : Term) → Within vs t → Within ws t
within_more vs ws f (var n) h = f n h
within_more vs ws f (con c) h = tt
within_more vs ws f (app g a) h = (within_more vs ws f g h.0, within_more vs ws f a h.1)

are_within_more : (vs ws : List ℕ) → ((n : ℕ) → mem vs n ≡ true → mem ws n ≡ true) → (ps : List (Term × Term)) → AreWithin vs ps → AreWithin ws ps
are_within_more vs ws f [] h = tt
are_within_more vs ws f (p ∷ ps) h = (within_more vs ws f p.0 h.0, within_more vs ws f p.1 h.1, are_within_more vs ws f ps h.2)

within_variables : (t : Term) → Within (variables t) t
within_variables (var n) = or_left (nat_eq n n) false (eq-eqb n n refl)
within_variables (con c) = tt
within_variables (app f a) = (
  within_more (variables f) (variables f ++ variables a) (mem_left (variables f) (variables a)) f (within_variables f),
  within_more (variables a) (variables f ++ variables a) (mem_right (variables f) (variables a)) a (within_variables a),
)

are_within_variables : (ps : List (Term × Term)) → AreWithin (variables_of ps) ps
are_within_variables [] = tt
are_within_variables (p ∷ ps) =
    let l = variables p.0 in
    let m = variables p.1 in
    let r = variables_of ps in (
      within_more l (l ++ (m ++ r)) (mem_left l (m ++ r)) p.0 (within_variables p.0),
      within_more m (l ++ (m ++ r)) (λ n h. mem_right l (m ++ r) n (mem_left m r n h)) p.1 (within_variables p.1),
      are_within_more r (l ++ (m ++ r)) (λ n h. mem_right l (m ++ r) n (mem_right m r n h)) ps (are_within_variables ps),
    )

-- ---- one step

under : (s : ℕ → Term) (v : ℕ) (w : Term) → s v ≡ apply s w → (n : ℕ) → apply s (put v w n) ≡ s n
under s v w e n = by (nat_eq n v) refl
  where
    by : (b : Bool) → nat_eq n v ≡ b → apply s (if b then w else var n) ≡ s n
    by true p = sym e ∙ ap s (sym (eqb-true n v p))
    by false p = refl

equates_image : (s p : ℕ → Term) → ((n : ℕ) → apply s (p n) ≡ s n) → (ps : List (Term × Term)) → Equates s ps → Equates s (map (image p) ps)
equates_image s p h [] e = tt
equates_image s p h (q ∷ qs) e =
    let l : (t : Term) → apply s (apply p t) ≡ apply s t = λ t. apply_after s p t ∙ apply_alike (after s p) s h t in
    (l q.0 ∙ e.0 ∙ sym (l q.1), equates_image s p h qs e.1)

equates_after : (s p : ℕ → Term) (ps : List (Term × Term)) → Equates s (map (image p) ps) → Equates (after s p) ps
equates_after s p [] e = tt
equates_after s p (q ∷ qs) e = (sym (apply_after s p q.0) ∙ e.0 ∙ apply_after s p q.1, equates_after s p qs e.1)

-- the answer is a most general solution, or nothing where there is none
abbrev pub Right : (ℕ → Bool) → List (Term × Term) → Option (ℕ → Term) → Type 0
Right rigid ps None = (s : ℕ → Term) → Stays rigid s → Equates s ps → ⊥
Right rigid ps (Some s) = Stays rigid s × Equates s ps × ((r : ℕ → Term) → Stays rigid r → Equates r ps → (n : ℕ) → apply r (s n) ≡ r n)

stays_put : (rigid : ℕ → Bool) (v : ℕ) (w : Term) (s : ℕ → Term) → rigid v ≡ false → Stays rigid s → Stays rigid (after s (put v w))
stays_put rigid v w s f h n e = by (nat_eq n v) refl
  where
    by : (b : Bool) → nat_eq n v ≡ b → apply s (if b then w else var n) ≡ var n
    by true p = let k : rigid v ≡ true = ap rigid (sym (eqb-true n v p)) ∙ e in let i : true ≡ false = sym k ∙ f in absurd (let j : ⊥ = cc in j)
    by false p = h n e

right_put : (rigid : ℕ → Bool) (ps : List (Term × Term)) (v : ℕ) (w : Term) → rigid v ≡ false → ((s : ℕ → Term) → Stays rigid s → Equates s ps → s v ≡ apply s w)
    → (o : Option (ℕ → Term)) → Right rigid (map (image (put v w)) ps) o → Right rigid ps (option_map (λ s. after s (put v w)) o)
right_put rigid ps v w f h None g = λ s c e. g s c (equates_image s (put v w) (under s v w (h s c e)) ps e)
right_put rigid ps v w f h (Some s) g = (
  stays_put rigid v w s f g.0,
  equates_after s (put v w) ps g.1,
  λ r c e n.
      let u = under r v w (h r c e) in
      apply_after r s (put v w n) ∙ apply_alike (after r s) r (g.2 r c (equates_image r (put v w) u ps e)) (put v w n) ∙ u n,
)

right_settle : (rigid : ℕ → Bool) (ps : List (Term × Term)) (vs : List ℕ) (d : Difference) → Tells rigid (λ s. Equates s ps) d → Inside vs d → (go : ℕ → Term → Option (ℕ → Term))
    → ((v : ℕ) (w : Term) → rigid v ≡ false → has v w ≡ false → ((s : ℕ → Term) → Stays rigid s → Equates s ps → s v ≡ apply s w) → mem vs v ≡ true → Within vs w → Right rigid ps (go v w))
    → Right rigid ps (settle d go)
right_settle rigid ps vs Same h i go k = ((λ n e. refl), h (λ n. var n), λ r c e n. refl)
right_settle rigid ps vs Clash h i go k = h
right_settle rigid ps vs (Bind v w) h i go k = k v w h.0 h.1 h.2 i.0 i.1

right : (rigid : ℕ → Bool) (n : ℕ) (ps : List (Term × Term)) (vs : List ℕ) → AreWithin vs ps → length vs ≤ n → Right rigid ps (solve_within rigid n ps)
right rigid zero ps vs a l = right_settle rigid ps vs (first_difference rigid ps) (tells_pairs rigid ps) (inside_pairs vs rigid ps a) (λ v t. None)
    (λ v w f d h m i. let k = without_less v vs m in absurd (omega arith))
right rigid (suc n) ps vs a l =
    right_settle rigid ps vs (first_difference rigid ps) (tells_pairs rigid ps) (inside_pairs vs rigid ps a) (λ v t. option_map (λ s. after s (put v t)) (solve_within rigid n (map (image (put v t)) ps)))
    (λ v w f d h m i.
    right_put rigid ps v w f h (solve_within rigid n (map (image (put v w)) ps))
    (right rigid n (map (image (put v w)) ps) (without v vs) (are_within_put v w vs (within_without v vs w d i) ps a) (let k = without_less v vs m in omega arith)))

-- ---- as the pairs that a list contains

equates_each : (s : ℕ → Term) (ps : List (Term × Term)) → Equates s ps → (t u : Term) → Contains ps (t, u) → apply s t ≡ apply s u
equates_each s [] e t u c = let lt = c.1 in absurd (omega arith)
equates_each s (p ∷ ps) e t u (zero, lt, q) = ap (λ z. apply s (z.0)) (sym q) ∙ e.0 ∙ ap (λ z. apply s (z.1)) q
equates_each s (p ∷ ps) e t u (suc k, lt, q) = equates_each s ps e.1 t u (k, omega arith, q)

each_equates : (s : ℕ → Term) (ps : List (Term × Term)) → ((t u : Term) → Contains ps (t, u) → apply s t ≡ apply s u) → Equates s ps
each_equates s [] h = tt
each_equates s (p ∷ ps) h = (h p.0 p.1 (0, omega arith, refl), each_equates s ps (λ t u c. h t u (suc c.0, (let l = c.1 in omega arith), c.2)))

right_solves : (rigid : ℕ → Bool) (ps : List (Term × Term)) (o : Option (ℕ → Term)) → Right rigid ps o → (o ≡ None) ↔ ((s : ℕ → Term) → Solves rigid ps s → ⊥)
right_solves rigid ps None h = ((λ e s w. h s w.rigid_stay (each_equates s ps w.equal)), λ k. refl)
right_solves rigid ps (Some s) h = ((λ e. absurd (let j : ⊥ = cc in j)), λ k. absurd (k s (record { rigid_stay = h.0; equal = equates_each s ps h.1 })))

right_general : (rigid : ℕ → Bool) (ps : List (Term × Term)) (s : ℕ → Term) → Right rigid ps (Some s) → MostGeneral rigid ps s
right_general rigid ps s h = record {
  solves = record { rigid_stay = h.0; equal = equates_each s ps h.1 };
  general = λ r w. h.2 r w.rigid_stay (each_equates r ps w.equal);
}

solve_right : (rigid : ℕ → Bool) (ps : List (Term × Term)) → Right rigid ps (solve rigid ps)
unfolding solve
solve_right rigid ps = right rigid (length (variables_of ps)) ps (variables_of ps) (are_within_variables ps) (omega arith)

pub none_where : NoneWhereNothingSolves
none_where rigid ps = right_solves rigid ps (solve rigid ps) (solve_right rigid ps)

is_solved : (rigid : ℕ → Bool) (ps : List (Term × Term)) (o : Option (ℕ → Term)) → Right rigid ps o → (is_some o ≡ true) ↔ ((s : ℕ → Term) × Solves rigid ps s)
is_solved rigid ps None h = ((λ e. absurd (let j : ⊥ = cc in j)), λ k. absurd ((right_solves rigid ps None h).0 refl k.0 k.1))
is_solved rigid ps (Some s) h = ((λ e. (s, (right_general rigid ps s h).solves)), λ k. refl)

pub solved_test : SolvedIsATest
solved_test rigid ps = is_solved rigid ps (solve rigid ps) (solve_right rigid ps)

pub most_general_solution : SolutionIsMostGeneral
most_general_solution rigid ps s e = right_general rigid ps s (subst (Right rigid ps) e (solve_right rigid ps))
