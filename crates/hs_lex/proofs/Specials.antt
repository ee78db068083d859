-- Single characters.
use Rattle.std.proofs.Common.{◌≡◌, ℕ, ◌≤◌, List, [], ◌∷◌, length, ap, ◌∙◌, subst, arith}
use Rattle.hs_lex.specs.declared.class.Part.TheVariants as part
use Rattle.hs_lex.specs.declared.class.Class.{Class}
use Rattle.hs_lex.specs.declared.class.Class.TheVariants as class
use Rattle.hs_lex.specs.Classes.{class_of}
use Rattle.hs_lex.specs.Reading.{Ends, IsLongest, Nothing}
use Rattle.hs_lex.specs.Lexemes.{IsOne, IsSpecial, BeginsWith}

one_length : (k : Class) (l : List ℕ) → IsOne k l → length l ≤ 1
one_length k [] h = omega arith
one_length k (c ∷ []) h = omega arith
one_length k (c ∷ d ∷ l) h = absurd h

pub one_begins : (k : Class) (l : List ℕ) → IsOne k l → BeginsWith k l
one_begins k [] h = h
one_begins k (c ∷ []) h = h
one_begins k (c ∷ d ∷ l) h = absurd h

pub one_some : (k : Class) (cs after : List ℕ) (c : ℕ) → cs ≡ c ∷ after → class_of c ≡ k → IsLongest (λ l r. IsOne k l) cs after
one_some k cs after c e h = record { text = c ∷ []; front = e; is = h; longest = λ l r x f. omega (arith, one_length k l x) }

pub special_some : (cs after : List ℕ) (c : ℕ) → cs ≡ c ∷ after → class_of c ≡ class.Special → (c ≡ 123 → Ends part.Dash after) → IsLongest IsSpecial cs after
special_some cs after c e h dash = record {
  text = c ∷ [];
  front = e;
  is = (h, λ f. dash (let k : c ≡ 123 = cc in k));
  longest = λ l r x f. omega (arith, one_length class.Special l x.0);
}

pub special_brace : (cs after : List ℕ) (c : ℕ) → cs ≡ c ∷ after → c ≡ 123 → (Ends part.Dash after → ⊥) → Nothing IsSpecial cs
special_brace cs after c e h never [] r x f = absurd x.0
special_brace cs after c e h never (d ∷ m ∷ l) r x f = absurd x.0
special_brace cs after c e h never (d ∷ []) r x f =
    let k : d ≡ c = cc in
    let q : r ≡ after = cc in
    never (subst (Ends part.Dash) q (x.1 (let w : d ∷ [] ≡ 123 ∷ [] = ap (λ z. z ∷ []) (k ∙ h) in w)))
