use Rattle.std.proofs.Common.{ap, ◌∙◌, ◌++◌}
use Rattle.session_lang.proofs.piece.same_at.Goals as goal

pub returns-in-Bad : goal.returns-in-Bad
returns-in-Bad c word more rest is e = c.in-Bad.ensures tt more rest tt (e ∙ ap (λ w. w ++ rest) is)
