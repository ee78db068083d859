use Rattle.std.proofs.Common.{sym, ◌∙◌}
use Rattle.hs_parts.specs.SideReaders.{var_side, pattern_or_applied}
use Rattle.hs_sides.proofs.Sides.{or_other}
use Rattle.hs_sides.proofs.lhs.side_by.Goals as goal

pub returns : goal.returns
returns c = or_other c.in_ok-first.first (var_side c.args.left c.args.tokens.now) (pattern_or_applied c.args.left c.args.tokens.now)
    c.pattern_or_applied.result c.in_ok-first.ensures (sym c.is_some.ensures ∙ c.if-is_some.false) c.pattern_or_applied.ensures
