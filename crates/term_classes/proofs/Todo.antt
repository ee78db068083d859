-- Pairs that are to be made equal.
use Rattle.std.proofs.Common.{ℕ, zero, suc, ◌≡◌, ◌<◌, List, [], ◌∷◌, ◌++◌, refl, sym, ap, ◌∙◌, inl, inr, subst, arith}
use Rattle.std.specs.List.{Contains}
use Rattle.std.proofs.lemmas.List.Elements.{Contains-append_left, Contains-append_right, Contains-append_cases}
use Rattle.unifiers.specs.Term.{Term}
use Rattle.term_classes.specs.declared.node.Pair.{Pair}
use Rattle.term_classes.specs.Fits.{AreEqual, ArePairsOf}

one_in : (p z : Pair) → Contains (p ∷ []) z → z ≡ p
one_in p z (zero, lt, e) = sym e
one_in p z (suc k, lt, e) = absurd (omega arith)

last_in : (xs : List Pair) (p : Pair) → Contains (xs ++ p ∷ []) p
last_in xs p = Contains-append_right xs (p ∷ []) p (0, omega arith, refl)

pub equal_more : (xs : List Pair) (p : Pair) (q : ℕ → Term) → AreEqual xs q → q p.left ≡ q p.right → AreEqual (xs ++ p ∷ []) q
equal_more xs p q h e z c = elim (Contains-append_cases xs (p ∷ []) z c) [
  | inl a ↦ h z a
  | inr a ↦ subst (λ (y : Pair). q y.left ≡ q y.right) (sym (one_in p z a)) e
]

pub equal_front : (xs : List Pair) (p : Pair) (q : ℕ → Term) → AreEqual (xs ++ p ∷ []) q → AreEqual xs q
equal_front xs p q h z c = h z (Contains-append_left xs (p ∷ []) z c)

pub equal_last : (xs : List Pair) (p : Pair) (q : ℕ → Term) → AreEqual (xs ++ p ∷ []) q → q p.left ≡ q p.right
equal_last xs p q h = h p (last_in xs p)

pub pairs_more : (n : ℕ) (xs : List Pair) (p : Pair) → ArePairsOf n xs → (p.left < n) × (p.right < n) → ArePairsOf n (xs ++ p ∷ [])
pairs_more n xs p h e z c = elim (Contains-append_cases xs (p ∷ []) z c) [
  | inl a ↦ h z a
  | inr a ↦ subst (λ (y : Pair). (y.left < n) × (y.right < n)) (sym (one_in p z a)) e
]

pub pairs_front : (n : ℕ) (xs : List Pair) (p : Pair) → ArePairsOf n (xs ++ p ∷ []) → ArePairsOf n xs
pairs_front n xs p h z c = h z (Contains-append_left xs (p ∷ []) z c)

pub pairs_last : (n : ℕ) (xs : List Pair) (p : Pair) → ArePairsOf n (xs ++ p ∷ []) → (p.left < n) × (p.right < n)
pairs_last n xs p h = h p (last_in xs p)

-- one pair alone
pub equal_alone : (before todo : List Pair) (p : Pair) (q : ℕ → Term) → before ≡ [] → todo ≡ before ++ p ∷ [] → q p.left ≡ q p.right → AreEqual todo q
equal_alone before todo p q e f g =
    let none : AreEqual [] q = λ x c. let l = c.1 in absurd (omega arith) in
    subst (λ (l : List Pair). AreEqual l q) (sym (f ∙ ap (λ (l : List Pair). l ++ p ∷ []) e)) (equal_more [] p q none g)

pub alone_equal : (before todo : List Pair) (p : Pair) (q : ℕ → Term) → todo ≡ before ++ p ∷ [] → AreEqual todo q → q p.left ≡ q p.right
alone_equal before todo p q e h = equal_last before p q (subst (λ (l : List Pair). AreEqual l q) e h)
