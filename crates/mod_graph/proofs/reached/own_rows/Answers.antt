use Rattle.std.proofs.Common.{◌∙◌, List, ap, rules}
use Rattle.hs_syntax.specs.declared.header.ImportItem.{ImportItem}
use Rattle.mod_graph.specs.Environments.{imports_bring}
use Rattle.mod_graph.proofs.EnvironmentRows.{rows_next}
use Rattle.mod_graph.proofs.reached.own_rows.Goals as goal

pub loop-entry-preserved : goal.loop-entry-preserved
loop-entry-preserved c = record {
  len = search rules;
  room = search rules;
  has = rows_next c.args.numbers.now c.args.packages.now c.args.entries.now c.loop-entry.rows.items c.push.new.self.items c.in_ok-own_row.field-0 c.loop-entry.entry-index c.entry-item.result
      c.loop-entry-test.true c.entry-item.is c.loop-entry.invariant.len c.in_ok-push.ensures.items (λ k. c.in_ok-own_row.ensures.has k ∙ ap (λ (ys : List ImportItem). imports_bring c.args.numbers.now c.args.packages.now ys k) c.as_slice.ensures) c.loop-entry.invariant.has;
}
