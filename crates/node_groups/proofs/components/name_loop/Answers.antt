use Rattle.std.proofs.Common.{ℕ, length, arith}
use Rattle.numbered_nodes.specs.Edges.{lists, HasEdge}
use Rattle.node_groups.proofs.Searching.{edges_within}
use Rattle.node_groups.proofs.Naming.{parted_next, on_ok}
use Rattle.node_groups.proofs.components.name_loop.Goals as goal

pub returns-clause-parted : goal.returns-clause-parted
returns-clause-parted c =
    let n = length c.args.graph.now in
    let within = λ (a b : ℕ) (e : HasEdge (lists c.args.graph.now) a b). edges_within c.args.graph.now n c.requires.range a b e in
    on_ok c.search-2.result (λ found. parted_next (lists c.args.graph.now) (lists c.args.back.now) c.args.from c.requires.turned n c.args.names.now c.args.marks.now c.search.new.marks c.search-2.new.marks c.requires.from within c.requires.parted c.requires.free c.search.ensures.kept (λ b lb. c.in_ok-search.ensures.found b (omega arith)) c.search-2.ensures.kept found) c.search-2.ensures.found
