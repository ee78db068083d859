use Rattle.std.proofs.Common.{ap, sym, ◌∙◌}
use Rattle.report.specs.Report as report
use Rattle.report.proofs.Rows.{named_at, one_more, none_more}
use Rattle.report.proofs.counts.count_failed.Goals as goal
use Rattle.report.proofs.counts.count_failed.Goals.{then-has_failed, else-has_failed}

pub loop-entry-preserved : goal.loop-entry-preserved
loop-entry-preserved c =
    let says = ap (report.is_failed (report.standing_of c.args.nodes.now c.entry-item.result.how)) (sym c.is_some.ensures) ∙ sym (c.has_failed.ensures c.args.nodes.now (named_at c.args.nodes.now c.loop-entry.entry-index c.entry-item.result c.requires c.loop-entry-test.true c.entry-item.is)) in
    elim c.if-has_failed.branch [
      | then-has_failed w ↦ rw w.count-is (one_more (λ r. report.is_failed r.standing r.sound) c.args.nodes.now c.loop-entry.entry-index c.loop-entry.count c.entry-item.result c.loop-entry-test.true c.entry-item.is (says ∙ w.if-has_failed.true) c.loop-entry.invariant)
      | else-has_failed w ↦ rw w.count-is (none_more (λ r. report.is_failed r.standing r.sound) c.args.nodes.now c.loop-entry.entry-index c.loop-entry.count c.entry-item.result c.loop-entry-test.true c.entry-item.is (says ∙ w.if-has_failed.false) c.loop-entry.invariant)
    ]
