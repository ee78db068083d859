use Rattle.term_classes.proofs.Pressing.{pressed_rank}
use Rattle.term_classes.proofs.press.sink.Goals as goal

pub returns-clause-pressed : goal.returns-clause-pressed
returns-clause-pressed c =
    pressed_rank c.args.nodes.now c.args.slots.now c.lower.new.slots c.args.saved.now.items c.lower.new.saved.items c.args.class c.min-rank.result c.requires.sound c.in_ok-lower.ensures.rank c.in_ok-lower.ensures.kept c.in_ok-lower.ensures.place
