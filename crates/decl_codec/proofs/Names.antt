-- The order of names, and names as places in a table where they rise.
use Rattle.std.proofs.Common.{◌≡◌, ℕ, zero, suc, ◌^◌, ◌<◌, ◌≤◌, Bool, true, false, cond, List, [], ◌∷◌, ◌++◌, length, get_or, Option, Some, None, refl, sym, ap, subst, ◌∙◌, arith, inl, inr}
use Rattle.std.specs.Prelude.{nat_lt, nat_eq}
use Rattle.std.specs.Cmp.{IsTotalOrder}
use Rattle.std.specs.Cmp.Lexicographic.{pointwise, on_texts, texts_ties}
use Rattle.std.specs.Cmp.Lexicographic.{same_text as told_same}
use Rattle.std.specs.List.{Contains}
use Rattle.std.specs.Ordering.{nat_cmp, ordering_then, is_eq}
use Rattle.std.specs.declared.cmp.Ordering.{Ordering}
use Rattle.std.specs.declared.cmp.Ordering.TheVariants.{Less, Equal, Greater}
use Rattle.std.proofs.lemmas.Bool.{lt-ltb, ltb-true, cases_lt}
use Rattle.std.proofs.lemmas.Cmp.{then_total, on_total, nat_cmp_total, tied_itself}
use Rattle.std.proofs.lemmas.List.Sums.{position_or_len_is}
use Rattle.std.proofs.lemmas.List.Elements.{Contains-get_or}
use Rattle.std.proofs.lemmas.Map.Keys.{Less-from_sorted}
use Rattle.mk_base.specs.Order.{name_cmp, text_cmp, place_of_space}
use Rattle.mk_base.specs.declared.name.Name.{Name}
use Rattle.mk_base.specs.declared.name.Space.{Space}
use Rattle.mk_base.specs.declared.name.Space.TheVariants.{Var, Con, Ty}
use Rattle.wire.specs.Wire.{num}
use Rattle.wire.specs.Reading.{◌>>=◌, num_at}
use Rattle.wire.proofs.Codes.{IsCode, IsBytes, bind_some, tested, guarded, by_words, num_code, some_is}
use Rattle.decl_codec.specs.Names.{AreRising, place, name_of, no_name}
use Rattle.decl_codec.specs.Reading.{below_at, name_at}

pub name_total : IsTotalOrder name_cmp
name_total = then_total (on_texts (λ (n : Name). n.unit.text)) (then_total (on_texts (λ (n : Name). n.module.text))
    (then_total (on_total (λ (n : Name). place_of_space n.occ.space) nat_cmp_total) (on_texts (λ (n : Name). n.occ.text))))

text_same : (a b : List ℕ) → text_cmp a b ≡ Equal → a ≡ b
text_same a b e = told_same a b (sym (texts_ties a b ∙ ap is_eq e))

pub both_equal : (o p : Ordering) → ordering_then o p ≡ Equal → (o ≡ Equal) × (p ≡ Equal)
both_equal Less p e = absurd (let h : ⊥ = cc in h)
both_equal Equal p e = (refl, e)
both_equal Greater p e = absurd (let h : ⊥ = cc in h)

name_path : (a b : Name) → a.unit.text ≡ b.unit.text → a.module.text ≡ b.module.text → a.occ.space ≡ b.occ.space → a.occ.text ≡ b.occ.text → a ≡ b
name_path a b u m s t = λ i. record { unit = record { text = u i }; «module» = record { text = m i }; occ = record { space = s i; text = t i } }

pub space_from_cmp : (s t : Space) → nat_cmp (place_of_space s) (place_of_space t) ≡ Equal → s ≡ t
space_from_cmp Var Var e = refl
space_from_cmp Con Con e = refl
space_from_cmp Ty Ty e = refl
space_from_cmp Var Con e = absurd (let h : ⊥ = cc in h)
space_from_cmp Var Ty e = absurd (let h : ⊥ = cc in h)
space_from_cmp Con Var e = absurd (let h : ⊥ = cc in h)
space_from_cmp Con Ty e = absurd (let h : ⊥ = cc in h)
space_from_cmp Ty Var e = absurd (let h : ⊥ = cc in h)
space_from_cmp Ty Con e = absurd (let h : ⊥ = cc in h)

pub name_same : (a b : Name) → name_cmp a b ≡ Equal → a ≡ b
name_same a b e =
    let p = both_equal (text_cmp a.unit.text b.unit.text) _ e in
    let q = both_equal (text_cmp a.module.text b.module.text) _ p.1 in
    let r = both_equal (nat_cmp (place_of_space a.occ.space) (place_of_space b.occ.space)) _ q.1 in
    name_path a b (text_same _ _ p.0) (text_same _ _ q.0) (space_from_cmp _ _ r.0) (text_same _ _ r.1)

equal_from_test : (o : Ordering) → is_eq o ≡ true → o ≡ Equal
equal_from_test Equal e = refl
equal_from_test Less e = absurd (let h : ⊥ = cc in h)
equal_from_test Greater e = absurd (let h : ⊥ = cc in h)

pub same_from_test : (a b : Name) → is_eq (name_cmp a b) ≡ true → a ≡ b
same_from_test a b e = name_same a b (equal_from_test (name_cmp a b) e)

pub name_itself : (a : Name) → is_eq (name_cmp a a) ≡ true
name_itself a = ap is_eq (tied_itself name_total a)

not_true : (b : Bool) → (b ≡ true → ⊥) → b ≡ false
not_true false n = refl
not_true true n = absurd (n refl)

-- ---- tables

-- no name stands twice
abbrev pub AreApart : List Name → Type 0
AreApart names = (i j : ℕ) → i < length names → j < length names → name_of names i ≡ name_of names j → i ≡ j

differ : {a b : Name} → name_cmp a b ≡ Less → a ≡ b → ⊥
differ {a = a} {b = b} l e =
    let q : name_cmp a a ≡ Equal = tied_itself name_total a in
    let m : name_cmp a a ≡ Less = subst (λ c. name_cmp a c ≡ Less) (sym e) l in
    let h : ⊥ = cc in h

pub apart : (names : List Name) → AreRising names → AreApart names
apart names r i j p q e =
    elim (cases_lt i j) [
      | inl l ↦ absurd (differ (Less-from_sorted name_cmp names i j no_name r l q) e)
      | inr g ↦ elim (cases_lt j i) [
        | inl l ↦ absurd (differ (Less-from_sorted name_cmp names j i no_name r l p) (sym e))
        | inr h ↦ omega arith
      ]
    ]

same_default : {A : Type 0} (xs : List A) (i : ℕ) (d e : A) → i < length xs → get_or xs i d ≡ get_or xs i e
same_default [] i d e h = absurd (omega arith)
same_default (x ∷ xs) zero d e h = refl
same_default (x ∷ xs) (suc i) d e h = same_default xs i d e (omega arith)

pub below_code : (count : ℕ) → IsCode (λ n. (n < 2 ^ 32) × (n < count)) num (below_at count)
unfolding below_at
below_code count = guarded (λ n. nat_lt n count) (λ n t. ltb-true n count t) (λ n h. lt-ltb n count h) num_code

module _ (names : List Name) (distinct : AreApart names) where
  pub place_at : (i : ℕ) → i < length names → place names (name_of names i) ≡ i
  place_at i h =
      let n : Name = name_of names i in
      position_or_len_is (λ m. is_eq (name_cmp n m)) names i no_name (omega arith)
      (λ k lt. not_true (is_eq (name_cmp n (get_or names k no_name))) (λ t.
      let e : i ≡ k = distinct i k h (omega arith) (same_from_test n (get_or names k no_name) t) in absurd (omega arith)))
      (λ lt. name_itself n)

  -- a name of the table and its place
  pub placed : (a : Name) → Contains names a → (place names a < length names) × (name_of names (place names a) ≡ a)
  placed a c =
      let at : name_of names c.0 ≡ a = same_default names c.0 no_name a c.1 ∙ c.2 in
      let is : place names a ≡ c.0 = ap (place names) (sym at) ∙ place_at c.0 c.1 in
      (omega (arith, is, c.1), ap (name_of names) is ∙ at)

  name_takes : (bytes : List ℕ) (x : Name × List ℕ) → IsBytes bytes → name_at names bytes ≡ Some x → Contains names x.0 × (bytes ≡ num (place names x.0) ++ x.1)
  unfolding name_at
  name_takes bytes x fits e =
      let s = bind_some (below_at (length names) bytes) (λ n. Some (name_of names n.0, n.1)) x e in
      let t = (below_code (length names)).takes bytes s.0 fits s.1 in
      let spelled : bytes ≡ num (place names (name_of names s.0.0)) ++ s.0.1 = rw (place_at s.0.0 t.0.1) t.1 in
      subst (λ (y : Name × List ℕ). Contains names y.0 × (bytes ≡ num (place names y.0) ++ y.1)) (some_is (name_of names s.0.0, s.0.1) x s.2) (Contains-get_or names s.0.0 no_name t.0.1, spelled)

  name_again : length names ≤ 2 ^ 32 → (a : Name) (rest : List ℕ) → Contains names a → name_at names (num (place names a) ++ rest) ≡ Some (a, rest)
  unfolding name_at
  name_again short a rest c =
      let p = placed a c in
      ap (λ o. o >>= λ n. Some (name_of names n.0, n.1)) ((below_code (length names)).again (place names a) rest (omega (arith, p.0, short), p.0)) ∙ ap (λ (b : Name). Some (b, rest)) p.1

  pub name_code : length names ≤ 2 ^ 32 → IsCode (Contains names) (λ a. num (place names a)) (name_at names)
  name_code short = record { takes = λ bytes x fits e. name_takes bytes x fits e; again = λ a rest c. name_again short a rest c }
