use Rattle.std.proofs.Common.{◌≡◌, ap, ◌∙◌}
use Rattle.std.specs.Prelude.{Result, Ok, Err}
use Rattle.mk_base.specs.declared.diag.Diag.{Diag}
use Rattle.plain_form.specs.declared.form.Written.{Written}
use Rattle.module_check.specs.Check.{of_lexemes}
use Rattle.module_check.specs.Check as spec
use Rattle.module_check.proofs.Lexing.{lexed, unlexed, if_ok}
use Rattle.module_check.proofs.items.items_of.Goals as goal

pub returns-in-Ok : goal.returns-in-Ok
returns-in-Ok c =
    if_ok (λ (r : Result Written Diag). r ≡ of_lexemes c.args.node.now (Ok c.in-Ok.lexemes)) (λ (r : Result Written Diag). r ≡ spec.items_of c.args.node.now c.args.source.now) c.of_lexemes.result
    (λ r h. lexed c.args.node.now c.args.source.now c.in-Ok.lexemes r c.in-Ok.ensures.ok h) c.of_lexemes.ensures

pub returns-in_ok-no_lexeme-in-Err-NoLexeme : goal.returns-in_ok-no_lexeme-in-Err-NoLexeme
returns-in_ok-no_lexeme-in-Err-NoLexeme c =
    ap (λ d. Err d) c.in_ok-no_lexeme-in-Err-NoLexeme.ensures ∙ unlexed c.args.node.now c.args.source.now c.in-Err-NoLexeme.at (c.in-Err-NoLexeme.ensures.bad c.in-Err-NoLexeme.at cc)
