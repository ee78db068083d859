use Rattle.hs_header.proofs.Outcomes.{ok_of, lexeme_of, grammar_of, unknown_of}
use Rattle.hs_header.proofs.read.read_header.Goals as goal

pub returns-clause-ok : goal.returns-clause-ok
returns-clause-ok c = ok_of c.args.source.now c.header_in.result c.header_in.ensures

pub returns-clause-lexeme : goal.returns-clause-lexeme
returns-clause-lexeme c = lexeme_of c.args.source.now c.header_in.result c.header_in.ensures

pub returns-clause-grammar : goal.returns-clause-grammar
returns-clause-grammar c = grammar_of c.args.source.now c.header_in.result c.header_in.ensures

pub returns-clause-unknown : goal.returns-clause-unknown
returns-clause-unknown c = unknown_of c.args.source.now c.header_in.result c.header_in.ensures
