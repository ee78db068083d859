use Rattle.std.specs.Str.{bytes_eq}
use Rattle.std.proofs.Common.{ap, ◌∙◌}
use Rattle.hs_lex.proofs.Reserved.{end_word}
use Rattle.hs_lex.proofs.pragma.closes.Goals as goal

pub returns : goal.returns
returns c = c.eq.ensures ∙ ap (bytes_eq c.args.bytes.now) c.as_slice.ensures ∙ end_word c.args.bytes.now
