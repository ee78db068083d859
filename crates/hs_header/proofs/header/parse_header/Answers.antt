use Rattle.hs_header.proofs.Exact.{header_of, left_of, cut_of}
use Rattle.hs_header.proofs.header.parse_header.Goals as goal

pub returns-clause-header : goal.returns-clause-header
returns-clause-header c = header_of c.args.tokens.now c.read_tokens.result c.read_tokens.ensures

pub returns-clause-left : goal.returns-clause-left
returns-clause-left c = left_of c.args.tokens.now c.read_tokens.result c.read_tokens.ensures

pub returns-clause-cut : goal.returns-clause-cut
returns-clause-cut c = cut_of c.args.tokens.now c.read_tokens.result c.read_tokens.ensures
