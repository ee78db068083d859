-- Tests by booleans, and of two numbers.
use Rattle.std.proofs.Common.{◌≡◌, ◌⊎◌, ℕ, Bool, true, false, ◌||◌, nat_eq, refl, inl, inr, arith}
use Rattle.std.proofs.lemmas.Bool.Decides.{nat_tests}

pub both_ways : {G : Type 0} (b : Bool) → (b ≡ true → G) → (b ≡ false → G) → G
both_ways true f g = f refl
both_ways false f g = g refl

pub split_or : (a b : Bool) → (a || b) ≡ true → (a ≡ true) ⊎ (b ≡ true)
split_or true b e = inl refl
split_or false b e = inr e

pub or_right : (a b : Bool) → b ≡ true → (a || b) ≡ true
or_right true b e = refl
or_right false b e = e

pub not_true : (b : Bool) → (b ≡ true → ⊥) → b ≡ false
not_true true h = absurd (h refl)
not_true false h = refl

pub is_same : (k n : ℕ) → k ≡ n → nat_eq k n ≡ true
is_same k n e = grind (arith, nat_tests)

pub is_other : (k n : ℕ) → (k ≡ n → ⊥) → nat_eq k n ≡ false
is_other k n e = grind (arith, nat_tests)

pub from_test : (k n : ℕ) → nat_eq k n ≡ true → k ≡ n
from_test k n e = grind (arith, nat_tests)
