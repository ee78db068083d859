use Rattle.std.proofs.Common.{◌≡◌, ◌≤◌, ◌+◌, ◌*◌, []}
use Rattle.hs_parts.specs.Names.{place}
use Rattle.hs_parts.specs.PatternReaders.{pattern_readers}
use Rattle.hs_parts.proofs.patterns.+patterns.Given as goal

abbrev pub decreases-pattern : goal.decreases-pattern
decreases-pattern l = 3 * l.left

abbrev pub decreases-operand : goal.decreases-operand
decreases-operand l = 3 * l.left

abbrev pub decreases-apats : goal.decreases-apats
decreases-apats l = 3 * l.left

abbrev pub decreases-apat : goal.decreases-apat
decreases-apat l = 3 * l.left

abbrev pub decreases-single : goal.decreases-single
decreases-single l = 3 * l.left

abbrev pub decreases-named : goal.decreases-named
decreases-named l = 3 * l.left + 2

abbrev pub decreases-var_pattern : goal.decreases-var_pattern
decreases-var_pattern l = 3 * l.left + 1

abbrev pub decreases-record : goal.decreases-record
decreases-record l = 3 * l.left + 1

abbrev pub decreases-patterns : goal.decreases-patterns
decreases-patterns l = 3 * l.left

abbrev pub decreases-fpats : goal.decreases-fpats
decreases-fpats l = 3 * l.left

abbrev pub invariant-pattern-loop-left : goal.invariant-pattern-loop-left
invariant-pattern-loop-left l = (l.left ≤ l.fn.left) × ((pattern_readers l.left).chain (place l.fn.tokens) l.links.items l.rest ≡ (pattern_readers l.fn.left).chain (place l.fn.tokens) [] l.fn.tokens)

abbrev pub decreases-pattern-loop-left : goal.decreases-pattern-loop-left
decreases-pattern-loop-left l = l.left

abbrev pub invariant-apats-loop-left : goal.invariant-apats-loop-left
invariant-apats-loop-left l = (l.left ≤ l.fn.left) × ((pattern_readers l.left).apats l.parts.items l.rest ≡ (pattern_readers l.fn.left).apats [] l.fn.tokens)

abbrev pub decreases-apats-loop-left : goal.decreases-apats-loop-left
decreases-apats-loop-left l = l.left

abbrev pub invariant-patterns-loop-left : goal.invariant-patterns-loop-left
invariant-patterns-loop-left l = (l.left ≤ l.fn.left) × ((pattern_readers l.left).patterns l.parts.items l.rest ≡ (pattern_readers l.fn.left).patterns [] l.fn.tokens)

abbrev pub decreases-patterns-loop-left : goal.decreases-patterns-loop-left
decreases-patterns-loop-left l = l.left

abbrev pub invariant-fpats-loop-left : goal.invariant-fpats-loop-left
invariant-fpats-loop-left l = (l.left ≤ l.fn.left) × ((pattern_readers l.left).fpats l.fields.items l.rest ≡ (pattern_readers l.fn.left).fpats [] l.fn.tokens)

abbrev pub decreases-fpats-loop-left : goal.decreases-fpats-loop-left
decreases-fpats-loop-left l = l.left
