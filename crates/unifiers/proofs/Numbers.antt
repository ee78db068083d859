-- Lists of distinct numbers.
use Rattle.std.proofs.Common.{ℕ, zero, suc, Bool, true, false, ◌≡◌, ◌≢◌, ◌+◌, ◌<◌, ◌||◌, nat_eq, List, [], ◌∷◌, ◌++◌, length, refl, sym, ap, ◌∙◌, arith}
use Rattle.std.proofs.lemmas.Bool.{eqb-true, eq-eqb}
use Rattle.unifiers.specs.Term.{Term}
use Rattle.unifiers.specs.Term.Term.{var, con, app}
use Rattle.unifiers.specs.Reading.{stands_in}
use Rattle.unifiers.specs.Renaming.{numbering, renamed, renamed_pairs, AreNumbers, IsBelow, AreBelow, ListsNumberVariables, NumbersStay}

or_none : (b c : Bool) → (b || c) ≡ false → (b ≡ false) × (c ≡ false)
or_none true c e = absurd (let h : ⊥ = cc in h)
or_none false c e = (refl, e)

not_same : (m n : ℕ) → nat_eq m n ≡ false → m ≢ n
not_same m n p e = let k : true ≡ false = sym (eq-eqb m n e) ∙ p in let h : ⊥ = cc in h

other : (size v : ℕ) (vs : List ℕ) → v < size → stands_in vs v ≡ false → (n : ℕ) → numbering vs size n ≢ v
other size v [] l s n e = let h : ⊥ = absurd (omega arith) in h
other size v (w ∷ ws) l s zero e = not_same w v (or_none (nat_eq w v) (stands_in ws v) s).0 e
other size v (w ∷ ws) l s (suc n) e = other size v ws l (or_none (nat_eq w v) (stands_in ws v) s).1 n e

apart : (size : ℕ) (vs : List ℕ) → AreNumbers size vs → (m n : ℕ) → numbering vs size m ≡ numbering vs size n → m ≡ n
apart size [] h m n e = omega arith
apart size (v ∷ vs) h zero zero e = refl
apart size (v ∷ vs) h zero (suc n) e = absurd (other size v vs h.0 h.1 n (sym e))
apart size (v ∷ vs) h (suc m) zero e = absurd (other size v vs h.0 h.1 m e)
apart size (v ∷ vs) h (suc m) (suc n) e = ap suc (apart size vs h.2 m n e)

more : (size : ℕ) (vs : List ℕ) → AreNumbers size vs → AreNumbers (size + 1) vs
more size [] h = tt
more size (v ∷ vs) h = (let l = h.0 in omega arith, h.1, more size vs h.2)

differ : (m n : ℕ) → m < n → (b : Bool) → nat_eq n m ≡ b → b ≡ false
differ m n l true e = let k : n ≡ m = eqb-true n m e in absurd (omega arith)
differ m n l false e = refl

none_last : (size v : ℕ) (vs : List ℕ) → v < size → stands_in vs v ≡ false → stands_in (vs ++ size ∷ []) v ≡ false
none_last size v [] l s = ap (λ z. z || false) (differ v size l (nat_eq size v) refl)
none_last size v (w ∷ ws) l s =
    let p = or_none (nat_eq w v) (stands_in ws v) s in
    ap (λ z. z || stands_in (ws ++ size ∷ []) v) p.0 ∙ none_last size v ws l p.1

last : (size : ℕ) (vs : List ℕ) → AreNumbers size vs → AreNumbers (size + 1) (vs ++ size ∷ [])
last size [] h = (omega arith, refl, tt)
last size (v ∷ vs) h = (let l = h.0 in omega arith, none_last size v vs h.0 h.1, last size vs h.2)

pub lists_number : ListsNumberVariables
lists_number size vs h = (apart size vs h, more size vs h, last size vs h)

number_stays : (vs more : List ℕ) (size larger n : ℕ) → n < length vs → numbering (vs ++ more) larger n ≡ numbering vs size n
number_stays [] more size larger n l = absurd (omega arith)
number_stays (v ∷ vs) more size larger zero l = refl
number_stays (v ∷ vs) more size larger (suc n) l = number_stays vs more size larger n (omega arith)

module _ (vs more : List ℕ) (size larger : ℕ) where
  term_stays : (t : Term) → IsBelow (length vs) t → renamed (numbering (vs ++ more) larger) t ≡ renamed (numbering vs size) t
  term_stays (var n) h = ap var (number_stays vs more size larger n h)
  term_stays (con c) h = refl
  term_stays (app f a) h = λ i. app (term_stays f h.0 i) (term_stays a h.1 i)

  pairs_stay : (ps : List (Term × Term)) → AreBelow (length vs) ps → renamed_pairs (numbering (vs ++ more) larger) ps ≡ renamed_pairs (numbering vs size) ps
  pairs_stay [] h = refl
  pairs_stay (p ∷ ps) h = λ i. (term_stays p.0 h.0 i, term_stays p.1 h.1 i) ∷ pairs_stay ps h.2 i

pub numbers_stay : NumbersStay
numbers_stay vs more size larger = (term_stays vs more size larger, pairs_stay vs more size larger)
