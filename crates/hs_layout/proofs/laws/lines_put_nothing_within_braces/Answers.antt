use Rattle.hs_layout.proofs.Flat.{layout_off}
use Rattle.hs_layout.proofs.laws.lines_put_nothing_within_braces.Goals as goal

pub returns : goal.returns
returns c = layout_off
