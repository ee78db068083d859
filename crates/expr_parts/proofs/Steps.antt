-- What the readers do with steps left, and without.
use Rattle.std.proofs.Common.{◌≡◌, ℕ, suc, zero, ◌-◌, ◌<◌, refl, ap, arith}
use Rattle.expr_parts.specs.Expressions.{forms, no_forms, next_forms}

pub forms_step : (n : ℕ) → 0 < n → forms n ≡ next_forms (n - 1) (forms (n - 1))
unfolding forms
forms_step zero h = absurd (let e : ⊥ = omega arith in e)
forms_step (suc n) h = let e : n ≡ suc n - 1 = omega arith in ap (λ k. next_forms k (forms k)) e

pub forms_end : forms 0 ≡ no_forms
unfolding forms
forms_end = refl
