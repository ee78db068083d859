use Rattle.std.proofs.Common.{sym, ◌∙◌}
use Rattle.hs_parts.specs.SideReaders.{pattern_side, applied_side, function_side}
use Rattle.hs_sides.proofs.Sides.{or_other}
use Rattle.hs_sides.proofs.lhs.pattern_or_applied.Goals as goal

pub returns : goal.returns
returns c = or_other c.in_ok-first.first (pattern_side c.args.left c.args.tokens.now) (applied_side c.args.left (function_side c.args.left) c.args.tokens.now)
    c.applied_side.result c.in_ok-first.ensures (sym c.is_some.ensures ∙ c.if-is_some.false) c.applied_side.ensures
