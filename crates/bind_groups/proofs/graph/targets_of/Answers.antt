use Rattle.std.proofs.Common.{◌≡◌, ◌<◌, ◌++◌, ℕ, List, [], get_or, length, arith, rules}
use Rattle.numbered_nodes.specs.Edges.{lists}
use Rattle.node_groups.proofs.Searching.{row_here}
use Rattle.bind_groups.proofs.Owners.{targets_more, targets_end}
use Rattle.bind_groups.proofs.graph.targets_of.Goals as goal

pub loop-name-preserved : goal.loop-name-preserved
loop-name-preserved c =
    let names = c.args.names.now in
    let i = c.loop-name.name-index in
    let row : List ℕ = c.loop-name.row.items in
    let new : List ℕ = c.extend_from_slice.new.self.items in
    let more : List ℕ = c.as_slice.result.now in
    let small : get_or names i 0 < length c.args.owners.now = c.requires.range i 0 c.loop-name-test.true in
    let here : get_or (lists c.args.owners.now) (get_or names i 0) [] ≡ more = row_here c.args.owners.now (get_or names i 0) c.index-owners-name.result more small c.index-owners-name.is c.as_slice.ensures.value in
    let push : new ≡ row ++ more = search rules in
    targets_more names row new more (lists c.args.owners.now) i push here c.loop-name.invariant

pub returns : goal.returns
returns c = targets_end c.args.names.now c.loop-name.row.items (lists c.args.owners.now) c.loop-name.name-index (omega arith) c.loop-name.invariant
