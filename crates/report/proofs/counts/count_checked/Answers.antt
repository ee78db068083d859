use Rattle.std.proofs.Common.{sym, ◌∙◌}
use Rattle.report.specs.Report as report
use Rattle.report.proofs.Rows.{named_at, one_more, none_more}
use Rattle.report.proofs.counts.count_checked.Goals as goal
use Rattle.report.proofs.counts.count_checked.Goals.{then-was_checked, else-was_checked}

pub loop-entry-preserved : goal.loop-entry-preserved
loop-entry-preserved c =
    let says = c.was_checked.ensures c.args.nodes.now (named_at c.args.nodes.now c.loop-entry.entry-index c.entry-item.result c.requires c.loop-entry-test.true c.entry-item.is) in
    elim c.if-was_checked.branch [
      | then-was_checked w ↦ rw w.count-is (one_more (λ r. report.is_checked r.standing) c.args.nodes.now c.loop-entry.entry-index c.loop-entry.count c.entry-item.result c.loop-entry-test.true c.entry-item.is (sym says ∙ w.if-was_checked.true) c.loop-entry.invariant)
      | else-was_checked w ↦ rw w.count-is (none_more (λ r. report.is_checked r.standing) c.args.nodes.now c.loop-entry.entry-index c.loop-entry.count c.entry-item.result c.loop-entry-test.true c.entry-item.is (sym says ∙ w.if-was_checked.false) c.loop-entry.invariant)
    ]
