use Rattle.std.proofs.Common.{List, sym, subst, slice_set}
use Rattle.std.proofs.lemmas.List.{get_or_default}
use Rattle.term_classes.specs.declared.node.Saved.{Saved}
use Rattle.term_classes.specs.Slots.{slot_at}
use Rattle.term_classes.specs.Undo.{Kept}
use Rattle.term_classes.proofs.Undone.{kept_write}
use Rattle.term_classes.proofs.write.write.Goals as goal

pub returns-clause-kept : goal.returns-clause-kept
returns-clause-kept c =
    let slots = c.args.slots.now in
    let at = c.args.at in
    subst (λ (l : List Saved). Kept slots (slice_set slots at c.args.slot) c.args.saved.now.items l) (sym c.in_ok-push.ensures.items)
    (kept_write slots c.args.saved.now.items at (slot_at slots at) c.args.slot c.requires.at (λ d. get_or_default slots at d (record { link = 0; shape = 0; rank = 0; height = 0 }) c.requires.at))
