-- Variables by first place.
use Rattle.std.proofs.Common.{ℕ, Bool, true, false, IsTrue, ◌≡◌, ◌⊎◌, ◌||◌, nat_eq, List, [], ◌∷◌, ◌++◌, if◌then◌else◌, refl, sym, ap, ◌∙◌, inl, inr, subst}
use Rattle.std.specs.List.{list_any}
use Rattle.std.proofs.lemmas.Bool.{eqb-true, eq-eqb}
use Rattle.unifiers.specs.Term.{Term, Occurs}
use Rattle.unifiers.specs.Term.Term.{var, con, app}
use Rattle.unifiers.specs.Reading.{stands_in, places}
use Rattle.term_unify.specs.Walk.{HasAll}

true_or_false : (b : Bool) → (b ≡ true) ⊎ (b ≡ false)
true_or_false true = inl refl
true_or_false false = inr refl

or_left : (a b : Bool) → a ≡ true → (a || b) ≡ true
or_left a b e = ap (λ z. z || b) e

or_right : (a b : Bool) → b ≡ true → (a || b) ≡ true
or_right true b e = refl
or_right false b e = e

or_cases : (a b : Bool) → (a || b) ≡ true → (a ≡ true) ⊎ (b ≡ true)
or_cases true b e = inl refl
or_cases false b e = inr e

pub stands_more : (vs ws : List ℕ) (v : ℕ) → stands_in vs v ≡ true → stands_in (vs ++ ws) v ≡ true
stands_more [] ws v e = absurd (cc)
stands_more (w ∷ vs) ws v e = elim (or_cases (nat_eq w v) (stands_in vs v) e) [
  | inl p ↦ or_left (nat_eq w v) (stands_in (vs ++ ws) v) p
  | inr p ↦ or_right (nat_eq w v) (stands_in (vs ++ ws) v) (stands_more vs ws v p)
]

pub stands_last : (vs : List ℕ) (w v : ℕ) → w ≡ v → stands_in (vs ++ w ∷ []) v ≡ true
stands_last [] w v e = or_left (nat_eq w v) false (eq-eqb w v e)
stands_last (u ∷ vs) w v e = or_right (nat_eq u v) (stands_in (vs ++ w ∷ []) v) (stands_last vs w v e)

pub stands_cases : (vs : List ℕ) (w v : ℕ) → stands_in (vs ++ w ∷ []) v ≡ true → (stands_in vs v ≡ true) ⊎ (w ≡ v)
stands_cases [] w v e = elim (or_cases (nat_eq w v) false e) [ inl p ↦ inr (eqb-true w v p) | inr p ↦ absurd (cc) ]
stands_cases (u ∷ vs) w v e = elim (or_cases (nat_eq u v) (stands_in (vs ++ w ∷ []) v) e) [
  | inl p ↦ inl (or_left (nat_eq u v) (stands_in vs v) p)
  | inr p ↦ elim (stands_cases vs w v p) [ inl q ↦ inl (or_right (nat_eq u v) (stands_in vs v) q) | inr q ↦ inr q ]
]

places_yes : (vs : List ℕ) (v : ℕ) → stands_in vs v ≡ true → places vs (var v) ≡ vs
places_yes vs v e = ap (λ b. if b then vs else (vs ++ v ∷ [])) e

pub places_no : (vs : List ℕ) (v : ℕ) → stands_in vs v ≡ false → places vs (var v) ≡ vs ++ v ∷ []
places_no vs v e = ap (λ b. if b then vs else (vs ++ v ∷ [])) e

pub places_more : (t : Term) (vs : List ℕ) (v : ℕ) → stands_in vs v ≡ true → stands_in (places vs t) v ≡ true
places_more (var w) vs v e = elim (true_or_false (stands_in vs w)) [
  | inl p ↦ subst (λ z. stands_in z v ≡ true) (sym (places_yes vs w p)) e
  | inr p ↦ subst (λ z. stands_in z v ≡ true) (sym (places_no vs w p)) (stands_more vs (w ∷ []) v e)
]
places_more (con c) vs v e = e
places_more (app f a) vs v e = places_more a (places vs f) v (places_more f vs v e)

pub places_all : (t : Term) (vs : List ℕ) → HasAll (places vs t) t
places_all (var w) vs v o = elim (true_or_false (stands_in vs w)) [
  | inl p ↦ subst (λ z. stands_in z v ≡ true) (sym (places_yes vs w p)) (subst (λ z. stands_in vs z ≡ true) o p)
  | inr p ↦ subst (λ z. stands_in z v ≡ true) (sym (places_no vs w p)) (stands_last vs w v o)
]
places_all (con c) vs v o = absurd o
places_all (app f a) vs v o = elim o [
  | inl p ↦ places_more a (places vs f) v (places_all f vs v p)
  | inr p ↦ places_all a (places vs f) v p
]

pub places_none : (t : Term) (vs : List ℕ) → HasAll vs t → places vs t ≡ vs
places_none (var w) vs h = places_yes vs w (h w refl)
places_none (con c) vs h = refl
places_none (app f a) vs h =
    ap (λ z. places z a) (places_none f vs (λ v o. h v (inl o))) ∙ places_none a vs (λ v o. h v (inr o))

pub places_only : (t : Term) (vs : List ℕ) (v : ℕ) → stands_in (places vs t) v ≡ true → (stands_in vs v ≡ true) ⊎ Occurs v t
places_only (var w) vs v e = elim (true_or_false (stands_in vs w)) [
  | inl p ↦ inl (subst (λ z. stands_in z v ≡ true) (places_yes vs w p) e)
  | inr p ↦ elim (stands_cases vs w v (subst (λ z. stands_in z v ≡ true) (places_no vs w p) e)) [ inl q ↦ inl q | inr q ↦ inr q ]
]
places_only (con c) vs v e = inl e
places_only (app f a) vs v e = elim (places_only a (places vs f) v e) [
  | inl p ↦ elim (places_only f vs v p) [ inl q ↦ inl q | inr q ↦ inr (inl q) ]
  | inr p ↦ inr (inr p)
]

pub stands_any : (vs : List ℕ) (v : ℕ) → list_any (λ w. nat_eq w v) vs ≡ stands_in vs v
stands_any [] v = refl
stands_any (w ∷ vs) v = ap (λ b. nat_eq w v || b) (stands_any vs v)

-- the variables of a term are those that occur in it
pub places_are : (t : Term) (v : ℕ) → (stands_in (places [] t) v ≡ true → Occurs v t) × (Occurs v t → stands_in (places [] t) v ≡ true)
places_are t v = ((λ e. elim (places_only t [] v e) [ inl p ↦ absurd (cc) | inr p ↦ p ]), (λ o. places_all t [] v o))

pub holds_as : (t : Term) (v : ℕ) (found numbers : List ℕ) (b : Bool) → found ≡ places [] t → numbers ≡ found → b ≡ stands_in numbers v → (IsTrue b → Occurs v t) × (Occurs v t → IsTrue b)
holds_as t v found numbers b e f g =
    let s : b ≡ stands_in (places [] t) v = g ∙ ap (λ z. stands_in z v) (f ∙ e) in
    ((λ h. (places_are t v).0 (sym s ∙ h)), (λ o. s ∙ (places_are t v).1 o))
