use Rattle.std.proofs.Common.{arith}
use Rattle.session_lang.proofs.Split.{text_goes_on}
use Rattle.session_lang.proofs.token.text_at.Goals as goal

pub returns-then-i-bytes : goal.returns-then-i-bytes
returns-then-i-bytes c =
    let g = text_goes_on c.args.bytes.now c.args.text.now c.loop-i.i (omega arith) (omega arith) c.loop-i.invariant.1 in
    (tt, g.0, tt, g.1, g.2)
