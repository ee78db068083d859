use Rattle.std.proofs.Common.{◌-◌, ◌∙◌, length, take, drop, arith, refl, length-drop, length-take}
use Rattle.std.proofs.lemmas.Result.{err_from_is_err_and}
use Rattle.mk_io.proofs.Pieces.{next_piece, next_front, front_refused}
use Rattle.mk_io.proofs.write.write_all.Goals as goal

pub returns-in_err-at-clause-err : goal.returns-in_err-at-clause-err
returns-in_err-at-clause-err g c =
    let taken = g.K.Sink.taken in
    let i = c.loop-at.at in
    let text = c.args.text.now in
    let h = c.in_err-at.ensures.puts in
    let p = err_from_is_err_and c.from_residual.result c.from_residual.ensures.1 in
    rw p.1 (next_front (taken c.args.sink.now) (taken c.loop-at.sink) (taken c.write.new.self) text (take (length text - i) (drop i text)) i refl c.loop-at.invariant.taken (front_refused c.in_err-at.field-0.0 (taken c.loop-at.sink) (taken c.write.new.self) (take (length text - i) (drop i text)) h))

pub loop-at-preserved : goal.loop-at-preserved
loop-at-preserved g c =
    let taken = g.K.Sink.taken in
    let i = c.loop-at.at in
    let text = c.args.text.now in
    let h = c.in_ok-at.ensures in
    record {
      within = omega (arith, h.puts.1, length-take (length text - i) (drop i text), length-drop i text);
      taken = next_piece (taken c.args.sink.now) (taken c.loop-at.sink) (taken c.write.new.self) text (take (length text - i) (drop i text)) i c.in_ok-at.field-0 refl c.loop-at.invariant.taken h.puts.0;
      kept = h.cause.kept (λ e. cc) ∙ c.loop-at.invariant.kept;
    }
