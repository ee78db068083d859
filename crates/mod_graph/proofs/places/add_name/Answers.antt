use Rattle.indexmap.specs.IndexMap.{get}
use Rattle.std.proofs.Common.{◌≡◌, None, Some, cond, subst, rules}
use Rattle.mod_graph.specs.Names.{same_text}
use Rattle.mod_graph.proofs.FirstNumbers.{named_next}
use Rattle.mod_graph.proofs.places.add_name.Goals as goal

pub returns-in_ok-insert : goal.returns-in_ok-insert
returns-in_ok-insert c = λ m.
    let none : get same_text c.args.table.now c.args.name.now ≡ None = search rules in
    named_next (get same_text c.args.table.now) (get same_text c.insert.new.self) c.args.name.now m c.args.number none
    (subst (λ k. get same_text c.insert.new.self m ≡ cond (same_text k m) (Some c.args.number) (get same_text c.args.table.now m)) c.in_ok-copy.ensures (c.in_ok-insert.ensures.updates.0 m))
