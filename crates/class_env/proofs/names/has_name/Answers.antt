use Rattle.std.proofs.Common.{sym, ◌∙◌}
use Rattle.std.proofs.lemmas.Map.Made.{is_member-Decides}
use Rattle.class_env.proofs.NameSets.{same_decides}
use Rattle.class_env.proofs.names.has_name.Goals as goal

pub returns : goal.returns
returns c = let d = is_member-Decides same_decides c.args.names.now.keys c.args.name.now in ((λ h. d.0 (sym c.contains.ensures ∙ h)), (λ h. c.contains.ensures ∙ d.1 h))
