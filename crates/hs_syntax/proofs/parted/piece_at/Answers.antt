use Rattle.std.proofs.Common.{sym}
use Rattle.hs_syntax.proofs.Names.{piece_none, piece_some}
use Rattle.hs_syntax.proofs.parted.piece_at.Goals as goal

pub returns-in-Some-clause-pieces : goal.returns-in-Some-clause-pieces
returns-in-Some-clause-pieces c = piece_some c.args.bytes.now c.in-Some.size (sym c.in-Some.ensures)

pub returns-in-None-clause-pieces : goal.returns-in-None-clause-pieces
returns-in-None-clause-pieces c = piece_none c.args.bytes.now (sym c.in-None.ensures)
