use Rattle.std.proofs.Common.{◌≡◌, [], ◌∷◌}
use Rattle.hs_header.specs.Readers.{more, item_at}
use Rattle.hs_header.proofs.items.more_items.Given as goal

abbrev pub invariant-loop-left : goal.invariant-loop-left
invariant-loop-left l = more item_at l.left l.items l.rest ≡ more item_at l.fn.left (l.fn.first ∷ []) l.fn.tokens

abbrev pub decreases-loop-left : goal.decreases-loop-left
decreases-loop-left l = l.left
