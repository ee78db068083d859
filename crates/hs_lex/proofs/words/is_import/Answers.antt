use Rattle.std.specs.Str.{bytes_eq}
use Rattle.std.proofs.Common.{ap, ◌∙◌}
use Rattle.hs_lex.proofs.Reserved.{import_word}
use Rattle.hs_lex.proofs.words.is_import.Goals as goal

pub returns : goal.returns
returns c = c.eq.ensures ∙ ap (bytes_eq c.args.text.now) c.as_slice.ensures ∙ import_word c.args.text.now
