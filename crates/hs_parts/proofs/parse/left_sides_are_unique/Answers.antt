use Rattle.hs_parts.proofs.SidesComplete.{sides_are_unique}
use Rattle.hs_parts.proofs.parse.left_sides_are_unique.Goals as goal

pub returns : goal.returns
returns c = λ ts b c l m x e y f. sides_are_unique x e y f
