use Rattle.std.proofs.Common.{◌≡◌, [], ap, sym, ◌∙◌, ◌≤◌, arith}
use Rattle.hs_parts.specs.TypeReaders.{classes_at}
use Rattle.hs_parts.proofs.Steps.{classes_end}
use Rattle.hs_parts.proofs.contexts.classes.Goals as goal

pub returns : goal.returns
returns c = let f : c.loop-left.left ≤ 0 = c.loop-left-test.false in
    let e : 0 ≡ c.loop-left.left = omega arith in
    sym (classes_end c.loop-left.parts.items c.loop-left.rest.now) ∙ (ap (λ k. classes_at k c.loop-left.parts.items c.loop-left.rest.now) e ∙ c.loop-left.invariant)
