use Rattle.std.proofs.Common.{sym, ◌∙◌}
use Rattle.report.specs.Report as report
use Rattle.report.proofs.Rows.{named_at, one_more, none_more}
use Rattle.report.proofs.counts.count_blocked.Goals as goal
use Rattle.report.proofs.counts.count_blocked.Goals.{then-is_blocked, else-is_blocked}

pub loop-entry-preserved : goal.loop-entry-preserved
loop-entry-preserved c =
    let says = c.is_blocked.ensures c.args.nodes.now (named_at c.args.nodes.now c.loop-entry.entry-index c.entry-item.result c.requires c.loop-entry-test.true c.entry-item.is) in
    elim c.if-is_blocked.branch [
      | then-is_blocked w ↦ rw w.count-is (one_more (λ r. report.is_blocked r.standing) c.args.nodes.now c.loop-entry.entry-index c.loop-entry.count c.entry-item.result c.loop-entry-test.true c.entry-item.is (sym says ∙ w.if-is_blocked.true) c.loop-entry.invariant)
      | else-is_blocked w ↦ rw w.count-is (none_more (λ r. report.is_blocked r.standing) c.args.nodes.now c.loop-entry.entry-index c.loop-entry.count c.entry-item.result c.loop-entry-test.true c.entry-item.is (sym says ∙ w.if-is_blocked.false) c.loop-entry.invariant)
    ]
