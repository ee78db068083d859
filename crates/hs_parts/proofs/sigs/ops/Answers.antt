use Rattle.std.proofs.Common.{◌≡◌, ap, sym, ◌∙◌, ◌≤◌, arith}
use Rattle.hs_parts.specs.SigReaders.{ops_at}
use Rattle.hs_parts.proofs.Steps.{ops_end}
use Rattle.hs_parts.proofs.sigs.ops.Goals as goal

pub returns : goal.returns
returns c = let f : c.loop-left.left ≤ 0 = c.loop-left-test.false in
    let e : 0 ≡ c.loop-left.left = omega arith in
    sym (ops_end c.loop-left.ops.items c.loop-left.rest.now) ∙ (ap (λ k. ops_at k c.loop-left.ops.items c.loop-left.rest.now) e ∙ c.loop-left.invariant)
