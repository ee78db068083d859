use Rattle.std.proofs.Common.{◌≡◌, ◌≤◌, ◌+◌, ◌∙◌, ◌++◌, length, refl, ap, subst, arith, length-append, length-drop, Err}
use Rattle.mk_base.specs.declared.status.Status.TheVariants as status
use Rattle.session_lang.specs.Meant.{said}
use Rattle.session_lang.specs.Script.{limit, IsPlain}
use Rattle.session_lang.specs.Spelling.{Said, Quit, spelling}
use Rattle.mk_io.specs.Outside.{AppendsFront}
use Rattle.hsmake_top.specs.Session.{reply_of}
use Rattle.hsmake_top.specs.Session as session
use Rattle.hsmake_top.specs.Ahead.{IsNext, pending, place}
use Rattle.hsmake_top.specs.Kept.{state_of}
use Rattle.hsmake_top.proofs.Turns.{front, front_cut, left_behind, reads, replied_as, done, bad_done, bad_front, stopped_in_bad_line}
use Rattle.hsmake_top.proofs.Stops.{consumed_on, stopped_reading, stopped_in_reply}
use Rattle.hsmake_top.proofs.Ends.{stopped, ended_bad, ended_good}
use Rattle.hsmake_top.proofs.turn.turn.Goals as goal

pub returns-in-Err-Failed-clause-ends : goal.returns-in-Err-Failed-clause-ends
returns-in-Err-Failed-clause-ends g c = λ left taken checks h.
    let old = c.args.progress.now in
    let fits : place old.script ≤ limit = omega (arith, c.requires.within.at, c.requires.within.seen) in
    let l1 = g.S.Source.left c.args.input.now in
    let l2 = g.S.Source.left c.next.new.input in
    let k1 = g.K.Sink.taken c.args.output.now in
    stopped left l2 taken k1 checks c.args.steps.now status.ReadFault
    (consumed_on left l1 taken k1 (pending old.script) (place old.script) (state_of old.session) old.failed checks c.args.steps.now h l2 c.in-Err-Failed.ensures.reads)
    (λ e. cc) (λ e. cc) (λ e. cc)
    (front left l1 taken k1 (pending old.script) (place old.script) (state_of old.session) old.failed checks c.args.steps.now h fits)
    (λ e. stopped_reading left l1 taken k1 (pending old.script) (place old.script) (state_of old.session) old.failed checks c.args.steps.now h l2 fits (c.in-Err-Failed.ensures.stopped (ap (λ x. Err x) c.in-Err-Failed.field-0-is)))
    (λ e. cc)

pub returns-in-Err-NoMemory-clause-ends : goal.returns-in-Err-NoMemory-clause-ends
returns-in-Err-NoMemory-clause-ends g c = λ left taken checks h.
    let old = c.args.progress.now in
    let fits : place old.script ≤ limit = omega (arith, c.requires.within.at, c.requires.within.seen) in
    let l1 = g.S.Source.left c.args.input.now in
    let l2 = g.S.Source.left c.next.new.input in
    let k1 = g.K.Sink.taken c.args.output.now in
    stopped left l2 taken k1 checks c.args.steps.now status.NoMemory
    (consumed_on left l1 taken k1 (pending old.script) (place old.script) (state_of old.session) old.failed checks c.args.steps.now h l2 c.in-Err-NoMemory.ensures.reads)
    (λ e. cc) (λ e. cc) (λ e. cc)
    (front left l1 taken k1 (pending old.script) (place old.script) (state_of old.session) old.failed checks c.args.steps.now h fits)
    (λ e. cc) (λ e. cc)

pub returns-then-is_quit-clause-ends : goal.returns-then-is_quit-clause-ends
returns-then-is_quit-clause-ends g c = λ left taken checks h.
    let old = c.args.progress.now in
    let new = c.next.new.self in
    let w = subst (IsNext (g.S.Source.left c.args.input.now) (g.S.Source.left c.next.new.input) old.script new) c.in-Whole.is c.in-Ok.ensures.next in
    let said_is : Said = said (pending new) c.in-Whole.command in
    let o = consumed_on left (g.S.Source.left c.args.input.now) taken (g.K.Sink.taken c.args.output.now) (pending old.script) (place old.script) (state_of old.session) old.failed checks c.args.steps.now h (g.S.Source.left c.next.new.input) c.in-Ok.ensures.reads in
    let read = reads left (g.S.Source.left c.args.input.now) taken (g.K.Sink.taken c.args.output.now) (pending old.script) (place old.script) (state_of old.session) old.failed checks c.args.steps.now h (g.S.Source.left c.next.new.input) (pending new) w.bytes w.read w.longer.0 o in
    let total : place old.script + length (pending new) ≤ limit = omega (arith, w.longer.1, c.in-Ok.ensures.within.at, c.in-Ok.ensures.within.seen, length-drop new.at new.buffer.items) in
    let fits : place old.script ≤ limit = omega (arith, total) in
    let quit : said_is ≡ Quit = c.is_quit.ensures.yes c.if-is_quit.true (pending new) in
    let e : pending new ≡ spelling Quit ++ w.rest = w.front ∙ ap (λ d. spelling d ++ w.rest) quit in
    ended_good left (g.S.Source.left c.next.new.input) taken (g.K.Sink.taken c.args.output.now) checks c.args.steps.now c.good_end.result o old.failed c.good_end.ensures.answer c.good_end.ensures.done c.good_end.ensures.failed
    (done left (g.S.Source.left c.next.new.input) taken (g.K.Sink.taken c.args.output.now) (pending new) (place old.script) (state_of old.session) old.failed checks c.args.steps.now read w.rest e total)
    (front left (g.S.Source.left c.next.new.input) taken (g.K.Sink.taken c.args.output.now) (pending new) (place old.script) (state_of old.session) old.failed checks c.args.steps.now read fits)

pub returns-in-Bad-clause-ends : goal.returns-in-Bad-clause-ends
returns-in-Bad-clause-ends g c = λ left taken checks h.
    let old = c.args.progress.now in
    let fits : place old.script ≤ limit = omega (arith, c.requires.within.at, c.requires.within.seen) in
    let bad = subst (IsNext (g.S.Source.left c.args.input.now) (g.S.Source.left c.next.new.input) old.script c.next.new.self) c.in-Bad.is c.in-Ok.ensures.next in
    let o = consumed_on left (g.S.Source.left c.args.input.now) taken (g.K.Sink.taken c.args.output.now) (pending old.script) (place old.script) (state_of old.session) old.failed checks c.args.steps.now h (g.S.Source.left c.next.new.input) c.in-Ok.ensures.reads in
    ended_bad left (g.S.Source.left c.next.new.input) taken (g.K.Sink.taken c.end_bad.new.output) checks c.args.steps.now c.end_bad.result o c.end_bad.ensures.answer
    (λ e. bad_done left (g.S.Source.left c.args.input.now) taken (g.K.Sink.taken c.args.output.now) (pending old.script) (place old.script) (state_of old.session) old.failed checks c.args.steps.now h fits
    c.in-Bad.at bad (g.K.Sink.taken c.end_bad.new.output) (c.end_bad.ensures.bad e))
    (bad_front left (g.S.Source.left c.args.input.now) taken (g.K.Sink.taken c.args.output.now) (pending old.script) (place old.script) (state_of old.session) old.failed checks c.args.steps.now h fits
    c.in-Bad.at bad (g.K.Sink.taken c.end_bad.new.output) c.end_bad.ensures.front)
    (stopped_in_bad_line left (g.S.Source.left c.args.input.now) taken (g.K.Sink.taken c.args.output.now) (pending old.script) (place old.script) (state_of old.session) old.failed checks c.args.steps.now h fits
    c.in-Bad.at bad (g.K.Sink.taken c.end_bad.new.output) c.end_bad.ensures.front)

pub returns-in-Ok-reply-clause-goes : goal.returns-in-Ok-reply-clause-goes
returns-in-Ok-reply-clause-goes g c = λ left taken checks h.
    let old = c.args.progress.now in
    let new = c.next.new.self in
    let last = c.advance.new.self in
    let w = subst (IsNext (g.S.Source.left c.args.input.now) (g.S.Source.left c.next.new.input) old.script new) c.in-Whole.is c.in-Ok.ensures.next in
    let said_is : Said = said (pending new) c.in-Whole.command in
    let o = consumed_on left (g.S.Source.left c.args.input.now) taken (g.K.Sink.taken c.args.output.now) (pending old.script) (place old.script) (state_of old.session) old.failed checks c.args.steps.now h (g.S.Source.left c.next.new.input) c.in-Ok.ensures.reads in
    let read = reads left (g.S.Source.left c.args.input.now) taken (g.K.Sink.taken c.args.output.now) (pending old.script) (place old.script) (state_of old.session) old.failed checks c.args.steps.now h (g.S.Source.left c.next.new.input) (pending new) w.bytes w.read w.longer.0 o in
    let plain : IsPlain said_is = (w.valid, c.is_quit.ensures.no c.if-is_quit.false (pending new)) in
    let r = c.in-Ok-reply.ensures in
    let b : c.ahead-bytes.result.now ≡ pending new = c.ahead-bytes.ensures in
    let says : said c.ahead-bytes.result.now c.in-Whole.command ≡ said_is = ap (λ x. said x c.in-Whole.command) b in
    let left_is : pending last ≡ w.rest = left_behind (pending new) (spelling said_is) w.rest (pending last) c.in-Whole.used c.advance.ensures.pending w.used_is w.front in
    let now_is : place last ≡ place old.script + length (spelling said_is) = omega (arith, c.advance.ensures.place, w.longer.1, w.used_is) in
    replied_as left (g.S.Source.left c.next.new.input) taken (g.K.Sink.taken c.args.output.now) (pending new) (place old.script) (state_of old.session) old.failed checks c.args.steps.now read
    (g.K.Sink.taken c.reply.new.output) (pending last) w.rest (place last) (state_of c.reply.new.session) c.either-progress.result c.in-Ok-reply.failed c.reply.new.steps said_is
    (said c.ahead-bytes.result.now c.in-Whole.command) says plain w.front left_is now_is r.whole r.state c.either-progress.ensures r.failed r.checks

pub returns-in-Err-Failed-reply-clause-ends : goal.returns-in-Err-Failed-reply-clause-ends
returns-in-Err-Failed-reply-clause-ends g c = λ left taken checks h.
    let old = c.args.progress.now in
    let new = c.next.new.self in
    let w = subst (IsNext (g.S.Source.left c.args.input.now) (g.S.Source.left c.next.new.input) old.script new) c.in-Whole.is c.in-Ok.ensures.next in
    let said_is : Said = said (pending new) c.in-Whole.command in
    let o = consumed_on left (g.S.Source.left c.args.input.now) taken (g.K.Sink.taken c.args.output.now) (pending old.script) (place old.script) (state_of old.session) old.failed checks c.args.steps.now h (g.S.Source.left c.next.new.input) c.in-Ok.ensures.reads in
    let read = reads left (g.S.Source.left c.args.input.now) taken (g.K.Sink.taken c.args.output.now) (pending old.script) (place old.script) (state_of old.session) old.failed checks c.args.steps.now h (g.S.Source.left c.next.new.input) (pending new) w.bytes w.read w.longer.0 o in
    let total : place old.script + length (pending new) ≤ limit = omega (arith, w.longer.1, c.in-Ok.ensures.within.at, c.in-Ok.ensures.within.seen, length-drop new.at new.buffer.items) in
    let room : place old.script + length (spelling said_is) ≤ limit = omega (arith, total, ap length w.front, length-append (spelling said_is) w.rest) in
    let fits : place old.script ≤ limit = omega (arith, total) in
    let plain : IsPlain said_is = (w.valid, c.is_quit.ensures.no c.if-is_quit.false (pending new)) in
    let counted : c.reply.new.steps ≡ c.args.steps.now + session.checks (state_of old.session) said_is =
    subst (λ b. c.reply.new.steps ≡ c.args.steps.now + session.checks (state_of old.session) (said b c.in-Whole.command)) c.ahead-bytes.ensures (c.in-Err-Failed-reply.ensures.counted (ap (λ x. Err x) c.in-Err-Failed-reply.field-0-is)) in
    let k : AppendsFront (g.K.Sink.taken c.args.output.now) (g.K.Sink.taken c.reply.new.output) (reply_of (state_of old.session) said_is) =
    subst (λ b. AppendsFront (g.K.Sink.taken c.args.output.now) (g.K.Sink.taken c.reply.new.output) (reply_of (state_of old.session) (said b c.in-Whole.command))) c.ahead-bytes.ensures c.in-Err-Failed-reply.ensures.front in
    stopped left (g.S.Source.left c.next.new.input) taken (g.K.Sink.taken c.reply.new.output) checks c.reply.new.steps status.WriteFault o (λ e. cc) (λ e. cc) (λ e. cc)
    (front_cut left (g.S.Source.left c.next.new.input) taken (g.K.Sink.taken c.args.output.now) (pending new) (place old.script) (state_of old.session) old.failed checks c.args.steps.now read fits
    (g.K.Sink.taken c.reply.new.output) (reply_of (state_of old.session) said_is) w.rest said_is plain refl w.front room k)
    (λ e. cc)
    (λ e. stopped_in_reply left (g.S.Source.left c.next.new.input) taken (g.K.Sink.taken c.args.output.now) (pending new) (place old.script) (state_of old.session) old.failed checks c.args.steps.now read
    (g.K.Sink.taken c.reply.new.output) w.rest said_is c.reply.new.steps plain w.front total k counted)

pub returns-in-Err-NoMemory-reply-clause-ends : goal.returns-in-Err-NoMemory-reply-clause-ends
returns-in-Err-NoMemory-reply-clause-ends g c = λ left taken checks h.
    let old = c.args.progress.now in
    let new = c.next.new.self in
    let w = subst (IsNext (g.S.Source.left c.args.input.now) (g.S.Source.left c.next.new.input) old.script new) c.in-Whole.is c.in-Ok.ensures.next in
    let said_is : Said = said (pending new) c.in-Whole.command in
    let o = consumed_on left (g.S.Source.left c.args.input.now) taken (g.K.Sink.taken c.args.output.now) (pending old.script) (place old.script) (state_of old.session) old.failed checks c.args.steps.now h (g.S.Source.left c.next.new.input) c.in-Ok.ensures.reads in
    let read = reads left (g.S.Source.left c.args.input.now) taken (g.K.Sink.taken c.args.output.now) (pending old.script) (place old.script) (state_of old.session) old.failed checks c.args.steps.now h (g.S.Source.left c.next.new.input) (pending new) w.bytes w.read w.longer.0 o in
    let total : place old.script + length (pending new) ≤ limit = omega (arith, w.longer.1, c.in-Ok.ensures.within.at, c.in-Ok.ensures.within.seen, length-drop new.at new.buffer.items) in
    let room : place old.script + length (spelling said_is) ≤ limit = omega (arith, total, ap length w.front, length-append (spelling said_is) w.rest) in
    let fits : place old.script ≤ limit = omega (arith, total) in
    let plain : IsPlain said_is = (w.valid, c.is_quit.ensures.no c.if-is_quit.false (pending new)) in
    let k : AppendsFront (g.K.Sink.taken c.args.output.now) (g.K.Sink.taken c.reply.new.output) (reply_of (state_of old.session) said_is) =
    subst (λ b. AppendsFront (g.K.Sink.taken c.args.output.now) (g.K.Sink.taken c.reply.new.output) (reply_of (state_of old.session) (said b c.in-Whole.command))) c.ahead-bytes.ensures c.in-Err-NoMemory-reply.ensures.front in
    stopped left (g.S.Source.left c.next.new.input) taken (g.K.Sink.taken c.reply.new.output) checks c.reply.new.steps status.NoMemory o (λ e. cc) (λ e. cc) (λ e. cc)
    (front_cut left (g.S.Source.left c.next.new.input) taken (g.K.Sink.taken c.args.output.now) (pending new) (place old.script) (state_of old.session) old.failed checks c.args.steps.now read fits
    (g.K.Sink.taken c.reply.new.output) (reply_of (state_of old.session) said_is) w.rest said_is plain refl w.front room k)
    (λ e. cc) (λ e. cc)
