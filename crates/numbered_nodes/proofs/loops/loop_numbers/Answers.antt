use Rattle.std.proofs.Common.{◌≡◌, get_or, length, arith}
use Rattle.numbered_nodes.proofs.Least.{by_least}
use Rattle.numbered_nodes.proofs.loops.loop_numbers.Goals as goal

pub returns-clause-loops : goal.returns-clause-loops
returns-clause-loops c =
    let inv = c.loop-a.invariant in
    let end : length c.args.rows.now ≡ c.loop-a.a = omega arith in
    λ a b la lb. by_least c.args.rows.now c.requires.chain (λ x. get_or c.loop-a.numbers.items x 0) c.loop-a.a inv.mate inv.least a b (omega arith) (omega arith)
