use Rattle.term_classes.proofs.Undone.{kept_on}
use Rattle.term_classes.proofs.Pressing.{pressed_on}
use Rattle.term_classes.proofs.press.+press.Goals as goal

pub returns-in_err-sink-in-App-clause-kept : goal.returns-in_err-sink-in-App-clause-kept
returns-in_err-sink-in-App-clause-kept t c =
    kept_on c.args.slots.now c.press-in-App.new.slots c.sink.new.slots c.args.saved.now.items c.press-in-App.new.saved.items c.sink.new.saved.items
    (kept_on c.args.slots.now c.press.new.slots c.press-in-App.new.slots c.args.saved.now.items c.press.new.saved.items c.press-in-App.new.saved.items c.press.ensures.kept c.press-in-App.ensures.kept) c.sink.ensures.kept

pub returns-in_ok-sink-in-App-clause-kept : goal.returns-in_ok-sink-in-App-clause-kept
returns-in_ok-sink-in-App-clause-kept t c =
    kept_on c.args.slots.now c.press-in-App.new.slots c.sink.new.slots c.args.saved.now.items c.press-in-App.new.saved.items c.sink.new.saved.items
    (kept_on c.args.slots.now c.press.new.slots c.press-in-App.new.slots c.args.saved.now.items c.press.new.saved.items c.press-in-App.new.saved.items c.press.ensures.kept c.press-in-App.ensures.kept) c.sink.ensures.kept

pub returns-in_ok-sink-in-App-clause-pressed : goal.returns-in_ok-sink-in-App-clause-pressed
returns-in_ok-sink-in-App-clause-pressed t c =
    pressed_on c.args.nodes.now c.args.slots.now c.press-in-App.new.slots c.sink.new.slots c.args.saved.now.items c.press-in-App.new.saved.items c.sink.new.saved.items
    (pressed_on c.args.nodes.now c.args.slots.now c.press.new.slots c.press-in-App.new.slots c.args.saved.now.items c.press.new.saved.items c.press-in-App.new.saved.items c.in_ok-press-in-App.ensures.pressed c.in_ok-press-in-App-2.ensures.pressed) c.in_ok-sink-in-App.ensures.pressed
