use Rattle.std.proofs.Common.{sym, ◌∙◌}
use Rattle.report.proofs.Rows.{one_more, none_more}
use Rattle.report.proofs.counts.count_sound.Goals as goal
use Rattle.report.proofs.counts.count_sound.Goals.{then-is_some, else-is_some}

pub loop-entry-preserved : goal.loop-entry-preserved
loop-entry-preserved c =
    let says = c.is_some.ensures in
    elim c.if-is_some.branch [
      | then-is_some w ↦ rw w.count-is (one_more (λ r. r.sound) c.args.nodes.now c.loop-entry.entry-index c.loop-entry.count c.entry-item.result c.loop-entry-test.true c.entry-item.is (sym says ∙ w.if-is_some.true) c.loop-entry.invariant)
      | else-is_some w ↦ rw w.count-is (none_more (λ r. r.sound) c.args.nodes.now c.loop-entry.entry-index c.loop-entry.count c.entry-item.result c.loop-entry-test.true c.entry-item.is (sym says ∙ w.if-is_some.false) c.loop-entry.invariant)
    ]
