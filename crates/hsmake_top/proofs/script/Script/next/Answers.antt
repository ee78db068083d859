use Rattle.std.proofs.Common.{◌≡◌, ◌≤◌, ◌+◌, ◌++◌, ◌∙◌, ℕ, List, length, refl, sym, ap, subst, arith, append_assoc, length-drop, inr, Ok, Err}
use Rattle.std.specs.Option.{IfSome}
use Rattle.std.specs.Prelude.{Result}
use Rattle.std.proofs.lemmas.Result.{err_from_is_err_and}
use Rattle.mk_io.specs.Outside.{IsFailed}
use Rattle.mk_io.specs.declared.outside.IoErr.{IoErr}
use Rattle.mk_io.specs.declared.outside.IoErr.TheVariants.{Failed}
use Rattle.mk_io.proofs.Pieces.{read_on}
use Rattle.session_lang.specs.Meant.{said, AreSpansOf}
use Rattle.session_lang.specs.Spelling.{Said, IsCommand, spelling}
use Rattle.session_lang.specs.Script.{limit}
use Rattle.hsmake_top.specs.Stopped.{IsPart}
use Rattle.hsmake_top.specs.Ahead.{pending, place, seen, IsBadAhead}
use Rattle.hsmake_top.specs.declared.script.More.{More}
use Rattle.hsmake_top.specs.declared.script.Next.{Next}
use Rattle.hsmake_top.proofs.Windows.{widened, from_now, bad_here, bad_end, bad_cut, nothing_left, something_left}
use Rattle.hsmake_top.proofs.Stops.{read_further, stops_in_part}
use Rattle.hsmake_top.proofs.script.Script.next.Goals as goal

pub returns-in-Whole-clause-next : goal.returns-in-Whole-clause-next
returns-in-Whole-clause-next g c =
    let b = c.ahead.result.now in
    let k = c.in-Whole.command in
    let n = c.in-Whole.used in
    let w = (c.in-Whole.ensures.whole (said b k) n).0 (refl, refl) in
    let s = c.in-Whole.ensures.spans in
    let P : List ℕ → Type 0 = λ b. IsCommand (said b k) × (n ≡ length (spelling (said b k))) × ((rest : List ℕ) × (b ≡ spelling (said b k) ++ rest)) × AreSpansOf (length b) k in
    let h = subst P c.ahead.ensures (w.0, w.1, w.2, widened n (length b) k s.1 s.0) in
    let r = c.loop-command.invariant.read in
    record { bytes = r.0; read = r.1; longer = r.2; valid = h.0; spans = h.3; used_is = h.1; rest = h.2.0; front = h.2.1 }

pub returns-in-Bad-clause-next : goal.returns-in-Bad-clause-next
returns-in-Bad-clause-next g c =
    let left = g.S.Source.left in
    let old = c.args.self.now in
    let new = c.loop-command.self in
    let i = c.loop-command.invariant in
    let r = i.read in
    let B : List ℕ → Type 0 = λ b. (d : Said) (more last : List ℕ) → IsCommand d → b ++ more ≡ spelling d ++ last → ⊥ in
    let bad = subst B c.ahead.ensures (c.in-Bad.ensures.bad.0 tt) in
    let fits : place old + length (pending new) ≤ limit = omega (arith, i.within.at, i.within.seen, r.2.1, length-drop new.at new.buffer.items) in
    let h = from_now (left c.args.input.now) (left c.loop-command.input) (pending old) (pending new) r.0 (place old) (place old) r.1 r.2.0 (λ rest e. bad_here (place old) (pending new) rest fits bad) in
    subst (λ at. IfSome (left c.args.input.now) (λ bytes. IsBadAhead (place old) (pending old ++ bytes) at)) (sym r.2.1) h

pub loop-command-preserved : goal.loop-command-preserved
loop-command-preserved g c =
    let left = g.S.Source.left in
    let i = c.loop-command.invariant in
    let r = i.read in
    let old = c.args.self.now in
    let new = c.loop-command.self in
    let part = subst IsPart c.ahead.ensures (c.in-More.ensures.more.0 tt) in
    let fits : place old + length (pending new) ≤ limit = omega (arith, i.within.at, i.within.seen, r.2.1, length-drop new.at new.buffer.items) in
    let s : seen new ≡ place old + length (pending new) = omega (arith, i.within.at, r.2.1, length-drop new.at new.buffer.items) in
    let e = c.in_ok-read_more.ensures in
    let m = e.read (ap (λ x. Ok x) c.in-Read.is) in
    record {
      within = e.within;
      read = (
        r.0 ++ m.0,
        read_on (left c.args.input.now) (left c.loop-command.input) (left c.read_more.new.input) r.0 m.0 r.1 m.1,
        (m.2.0 ∙ ap (λ p. p ++ m.0) r.2.0 ∙ append_assoc (pending c.args.self.now) r.0 m.0, m.2.1 ∙ r.2.1),
      );
      reads = inr (read_further (left c.args.input.now) (left c.loop-command.input) (left c.read_more.new.input) (pending old) (pending new) r.0 (place old) r.1 r.2.0 part fits (seen new) s e.last);
      kept = e.cause.kept (λ x. cc) ∙ i.kept;
    }

pub returns-in-End-clause-next : goal.returns-in-End-clause-next
returns-in-End-clause-next g c =
    let left = g.S.Source.left in
    let old = c.args.self.now in
    let new = c.loop-command.self in
    let i = c.loop-command.invariant in
    let r = i.read in
    let part = subst IsPart c.ahead.ensures (c.in-More.ensures.more.0 tt) in
    let fits : place old + length (pending new) ≤ limit = omega (arith, i.within.at, i.within.seen, r.2.1, length-drop new.at new.buffer.items) in
    let end = c.in_ok-read_more.ensures.end (ap (λ x. Ok x) c.in-End.is) in
    let h = from_now (left c.args.input.now) (left c.loop-command.input) (pending old) (pending new) r.0 (place old) (place old) r.1 r.2.0
    (λ rest e. bad_end (place old) (pending new) rest part fits (nothing_left (left c.loop-command.input) rest end e)) in
    subst (λ at. IfSome (left c.args.input.now) (λ bytes. IsBadAhead (place old) (pending old ++ bytes) at)) (sym (c.in_ok-read_more.ensures.place ∙ r.2.1)) h

pub returns-in-Cut-clause-next : goal.returns-in-Cut-clause-next
returns-in-Cut-clause-next g c =
    let left = g.S.Source.left in
    let old = c.args.self.now in
    let new = c.loop-command.self in
    let i = c.loop-command.invariant in
    let r = i.read in
    let part = subst IsPart c.ahead.ensures (c.in-More.ensures.more.0 tt) in
    let cut = c.in_ok-read_more.ensures.cut (ap (λ x. Ok x) c.in-Cut.is) in
    let full : place old + length (pending new) ≡ limit = omega (arith, i.within.at, cut.0, r.2.1, length-drop new.at new.buffer.items) in
    from_now (left c.args.input.now) (left c.loop-command.input) (pending old) (pending new) r.0 (place old) limit r.1 r.2.0
    (λ rest e. bad_cut (place old) (pending new) rest part full (something_left (left c.loop-command.input) rest cut.1 e))

pub returns-in_err-read_more-clause-reads : goal.returns-in_err-read_more-clause-reads
returns-in_err-read_more-clause-reads g c =
    let left = g.S.Source.left in
    let old = c.args.self.now in
    let new = c.loop-command.self in
    let i = c.loop-command.invariant in
    let r = i.read in
    let part = subst IsPart c.ahead.ensures (c.in-More.ensures.more.0 tt) in
    let fits : place old + length (pending new) ≤ limit = omega (arith, i.within.at, i.within.seen, r.2.1, length-drop new.at new.buffer.items) in
    let s : seen new ≡ place old + length (pending new) = omega (arith, i.within.at, r.2.1, length-drop new.at new.buffer.items) in
    inr (read_further (left c.args.input.now) (left c.loop-command.input) (left c.read_more.new.input) (pending old) (pending new) r.0 (place old) r.1 r.2.0 part fits (seen new) s c.in_err-read_more.ensures.last)

pub returns-in-End-clause-reads : goal.returns-in-End-clause-reads
returns-in-End-clause-reads g c =
    let left = g.S.Source.left in
    let old = c.args.self.now in
    let new = c.loop-command.self in
    let i = c.loop-command.invariant in
    let r = i.read in
    let part = subst IsPart c.ahead.ensures (c.in-More.ensures.more.0 tt) in
    let fits : place old + length (pending new) ≤ limit = omega (arith, i.within.at, i.within.seen, r.2.1, length-drop new.at new.buffer.items) in
    let s : seen new ≡ place old + length (pending new) = omega (arith, i.within.at, r.2.1, length-drop new.at new.buffer.items) in
    inr (read_further (left c.args.input.now) (left c.loop-command.input) (left c.read_more.new.input) (pending old) (pending new) r.0 (place old) r.1 r.2.0 part fits (seen new) s c.in_ok-read_more.ensures.last)

pub returns-in-Cut-clause-reads : goal.returns-in-Cut-clause-reads
returns-in-Cut-clause-reads g c =
    let left = g.S.Source.left in
    let old = c.args.self.now in
    let new = c.loop-command.self in
    let i = c.loop-command.invariant in
    let r = i.read in
    let part = subst IsPart c.ahead.ensures (c.in-More.ensures.more.0 tt) in
    let fits : place old + length (pending new) ≤ limit = omega (arith, i.within.at, i.within.seen, r.2.1, length-drop new.at new.buffer.items) in
    let s : seen new ≡ place old + length (pending new) = omega (arith, i.within.at, r.2.1, length-drop new.at new.buffer.items) in
    inr (read_further (left c.args.input.now) (left c.loop-command.input) (left c.read_more.new.input) (pending old) (pending new) r.0 (place old) r.1 r.2.0 part fits (seen new) s c.in_ok-read_more.ensures.last)

-- the error that a call passed on
failure : (r : Result Next IoErr) (y e : IoErr) → r ≡ Err Failed → r ≡ Err y → y ≡ e → IsFailed {T = More} (Err e)
failure r y e f p q = ap (λ x. Err x) (let h : e ≡ Failed = cc in h)

pub returns-in_err-read_more-clause-stopped : goal.returns-in_err-read_more-clause-stopped
returns-in_err-read_more-clause-stopped g c = λ f.
    let q = err_from_is_err_and c.from_residual.result c.from_residual.ensures.1 in
    let left = g.S.Source.left in
    let old = c.args.self.now in
    let new = c.loop-command.self in
    let i = c.loop-command.invariant in
    let r = i.read in
    let part = subst IsPart c.ahead.ensures (c.in-More.ensures.more.0 tt) in
    let fits : place old + length (pending new) ≤ limit = omega (arith, i.within.at, i.within.seen, r.2.1, length-drop new.at new.buffer.items) in
    stops_in_part (left c.args.input.now) (left c.loop-command.input) (left c.read_more.new.input) (pending old) (pending new) r.0 (place old) r.1 r.2.0 part fits (c.in_err-read_more.ensures.stopped (failure c.from_residual.result q.0 c.in_err-read_more.field-0.0 f q.1 q.2))
