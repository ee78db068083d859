use Rattle.term_classes.proofs.Undone.{kept_on}
use Rattle.term_classes.proofs.press.join_with_room.Goals as goal

pub returns-in_err-join_classes-clause-kept : goal.returns-in_err-join_classes-clause-kept
returns-in_err-join_classes-clause-kept c = kept_on c.args.slots.now c.find_room.new.slots c.join_classes.new.slots c.args.saved.now.items c.find_room.new.saved.items c.join_classes.new.saved.items c.find_room.ensures.kept c.join_classes.ensures.kept

pub returns-clause-kept : goal.returns-clause-kept
returns-clause-kept c = kept_on c.args.slots.now c.find_room.new.slots c.join_classes.new.slots c.args.saved.now.items c.find_room.new.saved.items c.join_classes.new.saved.items c.find_room.ensures.kept c.join_classes.ensures.kept
