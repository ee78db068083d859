use Rattle.std.proofs.Common.{◌≡◌, ◌∙◌, ap, sym, Ok, Err}
use Rattle.build_plan.specs.Tree.{told}
use Rattle.build_plan.proofs.Told.{header_told, lexeme_case, grammar_case}
use Rattle.build_plan.proofs.headers.told.Goals as goal

pub returns-in-Ok : goal.returns-in-Ok
returns-in-Ok c = ap told (sym (header_told c.args.source.now c.in-Ok.header c.in-Ok.ensures.ok))

pub returns-in_ok-no_lexeme-in-Err-Lexeme : goal.returns-in_ok-no_lexeme-in-Err-Lexeme
returns-in_ok-no_lexeme-in-Err-Lexeme c =
    lexeme_case c.args.source.now c.in-Err-Lexeme.at _ c.in_ok-no_lexeme-in-Err-Lexeme.field-0 (c.in-Err-Lexeme.ensures.lexeme c.in-Err-Lexeme.at (ap Err c.in-Err-Lexeme.field-0-is)) c.in_ok-no_lexeme-in-Err-Lexeme.ensures c.in-Err-Lexeme.at-is

pub returns-in_ok-no_header-in-Err-Grammar : goal.returns-in_ok-no_header-in-Err-Grammar
returns-in_ok-no_header-in-Err-Grammar c =
    grammar_case c.args.source.now c.in-Err-Grammar.at _ c.in_ok-no_header-in-Err-Grammar.field-0 (c.in-Err-Grammar.ensures.grammar c.in-Err-Grammar.at (ap Err c.in-Err-Grammar.field-0-is)) c.in_ok-no_header-in-Err-Grammar.ensures c.in-Err-Grammar.at-is
