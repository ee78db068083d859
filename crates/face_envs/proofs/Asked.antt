-- A search among rising places, and the faces at these places.
use Rattle.std.proofs.Common.{◌≡◌, ℕ, ◌+◌, ◌<◌, ◌≤◌, suc, zero, Bool, true, false, List, [], ◌∷◌, ◌++◌, Result, Ok, Err, Some, None, length, get_or, cond, nat_eq, nat_lt, refl, ap, sym, ◌∙◌, subst, arith}
use borrow.Author.Tests.{eq-eqb, eqb-true, ltb-true, ltb-false}
use Rattle.std.specs.Prelude.{flat_map, slice_get, ◌||◌, ◌-◌, MatchResult, is_ok}
use Rattle.std.specs.List.{AllByRecursion, list_any}
use Rattle.std.specs.Option.{option_to_list}
use Rattle.std.specs.Ordering.{nat_cmp}
use Rattle.std.specs.List.Sorted.{IsBinarySearchResult}
use Rattle.std.proofs.lemmas.List.Sorted.{searched}
use Rattle.face_model.specs.Environments.{Faces}
use Rattle.face_envs.specs.Tables.{seen_from}
use Rattle.face_envs.specs.Sight.{AreRising, at_places}
use Rattle.face_envs.proofs.Sorting.{by_cases, clash}
use Rattle.face_envs.proofs.Lookups.{Fits, fits_here, fits_next, fits_whole}

all_get : (P : ℕ → Type 0) (xs : List ℕ) (j : ℕ) → AllByRecursion P xs → j < length xs → P (get_or xs j 0)
all_get P [] j a lt = absurd (let h : ⊥ = omega arith in h)
all_get P (x ∷ xs) zero a lt = a.0
all_get P (x ∷ xs) (suc j) a lt = all_get P xs j a.1 (let h : j < length xs = omega arith in h)

rising_le : (xs : List ℕ) (i j : ℕ) → AreRising xs → i ≤ j → j < length xs → get_or xs i 0 ≤ get_or xs j 0
rising_le [] i j r le lt = absurd (let h : ⊥ = omega arith in h)
rising_le (x ∷ xs) zero zero r le lt = omega arith
rising_le (x ∷ xs) zero (suc j) r le lt =
    let h : x < get_or xs j 0 = all_get (λ (y : ℕ). x < y) xs j r.0 (let k : j < length xs = omega arith in k) in
    omega arith
rising_le (x ∷ xs) (suc i) zero r le lt = absurd (let h : ⊥ = omega arith in h)
rising_le (x ∷ xs) (suc i) (suc j) r le lt = rising_le xs i j r.1 (let h : i ≤ j = omega arith in h) (let h : j < length xs = omega arith in h)

or_true : (b : Bool) → (b || true) ≡ true
or_true true = refl
or_true false = refl

any_at : (x : ℕ) (xs : List ℕ) (i : ℕ) → i < length xs → get_or xs i 0 ≡ x → list_any (nat_eq x) xs ≡ true
any_at x [] i lt e = absurd (let h : ⊥ = omega arith in h)
any_at x (y ∷ xs) zero lt e = ap (λ b. b || list_any (nat_eq x) xs) (eq-eqb x y (sym e))
any_at x (y ∷ xs) (suc i) lt e = ap (λ b. nat_eq x y || b) (any_at x xs i (let h : i < length xs = omega arith in h) e) ∙ or_true (nat_eq x y)

any_not : (x : ℕ) (xs : List ℕ) → ((k : ℕ) → k < length xs → get_or xs k 0 ≡ x → ⊥) → list_any (nat_eq x) xs ≡ false
any_not x [] f = refl
any_not x (y ∷ xs) f =
    by_cases (nat_eq x y)
    (λ e. absurd (f 0 (let h : 0 < length (y ∷ xs) = omega arith in h) (sym (eqb-true x y e))))
    (λ e. ap (λ b. b || list_any (nat_eq x) xs) e ∙ any_not x xs (λ k lt g. f (suc k) (let h : suc k < length (y ∷ xs) = omega arith in h) g))

answered : (xs : List ℕ) (x : ℕ) (r : Result ℕ ℕ) → MatchResult r (λ i. (i < length xs) × (get_or xs i 0 ≡ x)) (λ i. (i ≤ length xs) × ((k : ℕ) → k < i → get_or xs k 0 < x) × ((k : ℕ) → i ≤ k → k < length xs → x < get_or xs k 0)) → is_ok r ≡ list_any (nat_eq x) xs
answered xs x (Ok i) h = sym (any_at x xs i h.0 h.1)
answered xs x (Err i) h =
    sym (any_not x xs (λ k lt e. by_cases (nat_lt k i)
    (λ t. let a : k < i = ltb-true k i t in let b : get_or xs k 0 < x = h.1 k a in let z : ⊥ = omega arith in z)
    (λ t. let a : i ≤ k = ltb-false k i t in let b : x < get_or xs k 0 = h.2 k a lt in let z : ⊥ = omega arith in z)))

pub search_tells : (xs : List ℕ) (x : ℕ) (r : Result ℕ ℕ) → AreRising xs → IsBinarySearchResult (λ y. nat_cmp y x) xs r → is_ok r ≡ list_any (nat_eq x) xs
search_tells xs x r rising h = answered xs x r (searched xs x r h (λ i j le lt. rising_le xs i j rising le lt))

-- ---- all faces, and those at some places

pub seen_all : (f : ℕ) (ks : Faces) → seen_from (λ i. true) f ks ≡ ks
seen_all f [] = refl
seen_all f (k ∷ ks) = ap (λ zs. k ∷ zs) (seen_all (f + 1) ks)

same_seen : (p q : ℕ → Bool) (f : ℕ) (ks : Faces) → ((i : ℕ) → f ≤ i → p i ≡ q i) → seen_from p f ks ≡ seen_from q f ks
same_seen p q f [] e = refl
same_seen p q f (k ∷ ks) e =
    ap (λ b. cond b (k ∷ seen_from p (f + 1) ks) (seen_from p (f + 1) ks)) (e f (let h : f ≤ f = omega arith in h))
    ∙ ap (λ zs. cond (q f) (k ∷ zs) zs) (same_seen p q (f + 1) ks (λ i le. e i (let h : f ≤ i = omega arith in h)))

none_seen : (f : ℕ) (ks : Faces) → seen_from (λ i. false) f ks ≡ []
none_seen f [] = refl
none_seen f (k ∷ ks) = none_seen (f + 1) ks

beyond : (fs : Faces) (f : ℕ) (xs : List ℕ) → ((i : ℕ) → f ≤ i → slice_get fs i ≡ None) → AllByRecursion (λ (y : ℕ). f ≤ y) xs → at_places fs xs ≡ []
beyond fs f [] none a = refl
beyond fs f (y ∷ xs) none a = ap (λ o. option_to_list o ++ at_places fs xs) (none y a.0) ∙ beyond fs f xs none a.1

all_weaker : (P Q : ℕ → Type 0) (xs : List ℕ) → ((y : ℕ) → P y → Q y) → AllByRecursion P xs → AllByRecursion Q xs
all_weaker P Q [] f a = tt
all_weaker P Q (x ∷ xs) f a = (f x a.0, all_weaker P Q xs f a.1)

not_among : (f : ℕ) (xs : List ℕ) → AllByRecursion (λ (y : ℕ). f < y) xs → list_any (nat_eq f) xs ≡ false
not_among f [] a = refl
not_among f (x ∷ xs) a =
    by_cases (nat_eq f x)
    (λ e. absurd (let h : f ≡ x = eqb-true f x e in let k : f < x = a.0 in let z : ⊥ = omega arith in z))
    (λ e. ap (λ b. b || list_any (nat_eq f) xs) e ∙ not_among f xs a.1)

before : (f x : ℕ) → f ≤ x → nat_eq f x ≡ false → f < x
before f x le e = by_cases (nat_lt f x) (λ t. ltb-true f x t) (λ t. let k : x ≤ f = ltb-false f x t in let is : f ≡ x = omega arith in clash (nat_eq f x) (eq-eqb f x is) e)

apart : (i x : ℕ) (xs : List ℕ) → x < i → list_any (nat_eq i) (x ∷ xs) ≡ list_any (nat_eq i) xs
apart i x xs lt =
    by_cases (nat_eq i x)
    (λ e. absurd (let h : i ≡ x = eqb-true i x e in let z : ⊥ = omega arith in z))
    (λ e. ap (λ b. b || list_any (nat_eq i) xs) e)

places_from : (fs : Faces) (f : ℕ) (ks : Faces) (xs : List ℕ) → Fits fs f ks → AllByRecursion (λ (y : ℕ). f ≤ y) xs → AreRising xs → seen_from (λ i. list_any (nat_eq i) xs) f ks ≡ at_places fs xs
places_from fs f [] xs at a r =
    sym (beyond fs f xs (λ i le. let e : f + (i - f) ≡ i = omega arith in subst (λ n. slice_get fs n ≡ None) e (at (i - f))) a)
places_from fs f (k ∷ ks) [] at a r = none_seen (f + 1) ks
places_from fs f (k ∷ ks) (x ∷ xs) at a r =
    by_cases (nat_eq f x)
    (λ e.
    let is : f ≡ x = eqb-true f x e in
    let here : slice_get fs x ≡ Some k = subst (λ n. slice_get fs n ≡ Some k) is (fits_here fs f k ks at) in
    let later : AllByRecursion (λ (y : ℕ). f + 1 ≤ y) xs = all_weaker (λ y. x < y) (λ y. f + 1 ≤ y) xs (λ y lt. omega arith) r.0 in
    let rest : seen_from (λ i. list_any (nat_eq i) (x ∷ xs)) (f + 1) ks ≡ at_places fs xs =
    same_seen (λ i. list_any (nat_eq i) (x ∷ xs)) (λ i. list_any (nat_eq i) xs) (f + 1) ks (λ i le. apart i x xs (omega arith))
    ∙ places_from fs (f + 1) ks xs (fits_next fs f k ks at) later r.1 in
    let ss = seen_from (λ i. list_any (nat_eq i) (x ∷ xs)) (f + 1) ks in
    ap (λ b. cond (b || list_any (nat_eq f) xs) (k ∷ ss) ss) e
    ∙ (ap (λ zs. k ∷ zs) rest
    ∙ ap (λ o. option_to_list o ++ at_places fs xs) (sym here)))
    (λ e.
    let lt : f < x = before f x a.0 e in
    let later : AllByRecursion (λ (y : ℕ). f < y) xs = all_weaker (λ y. x < y) (λ y. f < y) xs (λ y less. omega arith) r.0 in
    let not_here : list_any (nat_eq f) (x ∷ xs) ≡ false = not_among f (x ∷ xs) (lt, later) in
    let ss = seen_from (λ i. list_any (nat_eq i) (x ∷ xs)) (f + 1) ks in
    ap (λ b. cond b (k ∷ ss) ss) not_here
    ∙ places_from fs (f + 1) ks (x ∷ xs) (fits_next fs f k ks at) ((let h : f + 1 ≤ x = omega arith in h), all_weaker (λ y. f < y) (λ y. f + 1 ≤ y) xs (λ y less. omega arith) later) r)

all_from_zero : (xs : List ℕ) → AllByRecursion (λ (y : ℕ). 0 ≤ y) xs
all_from_zero [] = tt
all_from_zero (x ∷ xs) = ((let h : 0 ≤ x = omega arith in h), all_from_zero xs)

pub seen_places : (fs : Faces) (xs : List ℕ) → AreRising xs → seen_from (λ i. list_any (nat_eq i) xs) 0 fs ≡ at_places fs xs
seen_places fs xs r = places_from fs 0 fs xs (fits_whole fs) (all_from_zero xs) r
