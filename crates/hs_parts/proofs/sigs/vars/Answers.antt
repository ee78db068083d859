use Rattle.std.proofs.Common.{◌≡◌, ap, sym, ◌∙◌, ◌≤◌, arith}
use Rattle.hs_parts.specs.SigReaders.{vars_at}
use Rattle.hs_parts.proofs.Steps.{vars_end}
use Rattle.hs_parts.proofs.sigs.vars.Goals as goal

pub returns : goal.returns
returns c = let f : c.loop-left.left ≤ 0 = c.loop-left-test.false in
    let e : 0 ≡ c.loop-left.left = omega arith in
    sym (vars_end c.loop-left.names.items c.loop-left.rest.now) ∙ (ap (λ k. vars_at k c.loop-left.names.items c.loop-left.rest.now) e ∙ c.loop-left.invariant)
