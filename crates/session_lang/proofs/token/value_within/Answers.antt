use Rattle.std.proofs.Common.{◌≡◌, ◌∷◌, ◌*◌, ◌+◌, ◌-◌, arith, subst, drop, get_or}
use Rattle.session_lang.specs.Numbers.{value_on}
use Rattle.session_lang.proofs.Split.{next}
use Rattle.session_lang.proofs.Numbers.{value_le}
use Rattle.session_lang.proofs.token.value_within.Goals as goal

pub returns-then-value-most-clause-none : goal.returns-then-value-most-clause-none
returns-then-value-most-clause-none c =
    let xs = c.args.digits.now in
    let i = c.loop-b.b-index in
    let v = c.loop-b.value in
    let e : value_on v (get_or xs i 0 ∷ drop (i + 1) xs) ≡ value_on 0 xs =
    subst (λ ds. value_on v ds ≡ value_on 0 xs) (next xs i (omega arith)) c.loop-b.invariant.same in
    omega (arith, e, value_le (v * 10 + (get_or xs i 0 - 48)) (drop (i + 1) xs), c.from.ensures, c.if-value-most.true)
