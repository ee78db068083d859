use Rattle.term_classes.proofs.Pressing.{pressed_on}
use Rattle.term_classes.proofs.press.make_room.Goals as goal

pub returns-in_ok-press-in-App-2-clause-pressed : goal.returns-in_ok-press-in-App-2-clause-pressed
returns-in_ok-press-in-App-2-clause-pressed c =
    pressed_on c.args.nodes.now c.args.slots.now c.press.new.slots c.press-in-App.new.slots c.args.saved.now.items c.press.new.saved.items c.press-in-App.new.saved.items c.in_ok-press-in-App.ensures.pressed c.in_ok-press-in-App-2.ensures.pressed
