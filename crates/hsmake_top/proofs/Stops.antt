-- What was read of an input, and what was done where a stream failed.
use Rattle.std.proofs.Common.{◌≡◌, inl, inr, ℕ, ◌+◌, ◌-◌, ◌≤◌, Bool, List, [], ◌++◌, length, take, refl, ap, sym, ◌∙◌, subst, arith, append_assoc, length-append, Some, None}
use Rattle.std.specs.declared.option.Option.{Option}
use Rattle.std.specs.Option.{IfSome}
use Rattle.std.proofs.lemmas.List.{append-nil}
use Rattle.std.specs.Io.KnownBytes.{Appends, Consumes, Keeps}
use Rattle.mk_io.specs.Outside.{AppendsFront}
use Rattle.mk_io.proofs.Pieces.{joined, read_on}
use Rattle.session_lang.specs.Spelling.{Said, Quit, spelling}
use Rattle.session_lang.specs.Script.{limit, IsPlain, spellings}
use Rattle.hsmake_top.specs.Session.{State, opening, state_after, replies, reply_of, checks}
use Rattle.hsmake_top.specs.Stopped.{piece, IsOpen, IsPart, HasConsumed, HaveConsumed, StoppedReading, StoppedWriting}
use Rattle.hsmake_top.specs.Ahead.{IsLastRead, ReadsOn, ReadsFurther, StopsInPart}
use Rattle.hsmake_top.specs.Turn.{SoFar}
use Rattle.hsmake_top.proofs.Folds.{checks_more}
use Rattle.hsmake_top.proofs.Windows.{windowed}
use Rattle.hsmake_top.proofs.Turns.{behind, if_some}

-- nothing read is kept
pub kept_nothing : (l0 l1 : Option (List ℕ)) → Keeps l0 l1 → Consumes l0 l1 []
kept_nothing None l1 k = tt
kept_nothing (Some xs) None k = absurd k
kept_nothing (Some xs) (Some ys) k = sym k

-- some bytes that were read since, to a proper beginning of a command
module _ (l0 l1 l2 : Option (List ℕ)) (p0 p1 bytes : List ℕ) (before : ℕ) (r : Consumes l0 l1 bytes) (e : p1 ≡ p0 ++ bytes) (part : IsPart p1) (fits : before + length p1 ≤ limit) where
  -- and one read more
  pub read_further : (seen : ℕ) → seen ≡ before + length p1 → IsLastRead l1 l2 seen → ReadsFurther l0 l2 before p0
  read_further seen s m = record {
    first = bytes;
    last = m.last;
    read = read_on l0 l1 l2 bytes m.last r m.read;
    part = subst IsPart e part;
    within = subst (λ p. before + length p ≤ limit) e fits;
    short = m.short;
    total = omega (arith, m.total, s, ap length e);
  }

  -- and nothing more
  pub stops_in_part : Keeps l1 l2 → StopsInPart l0 l2 before p0
  stops_in_part k = record {
    first = bytes;
    read = subst (Consumes l0 l2) (append-nil bytes) (read_on l0 l1 l2 bytes [] r (kept_nothing l1 l2 k));
    part = subst IsPart e part;
    within = subst (λ p. before + length p ≤ limit) e fits;
  }

-- before anything was read
pub nothing_consumed : (l : Option (List ℕ)) → HaveConsumed l l
nothing_consumed None = tt
nothing_consumed (Some bytes) = record {
  first = [];
  last = [];
  front = refl;
  is_open = record { commands = []; plain = tt; part = []; part_is = (Quit, spelling Quit, tt, (λ e. cc), refl); bytes_are = refl };
  within = omega arith;
  short = omega arith;
  total = omega arith;
}

nothing_more : (l0 l1 l2 : Option (List ℕ)) (x : List ℕ) → Consumes l0 l1 x → Consumes l1 l2 [] → HaveConsumed l0 l1 → HaveConsumed l0 l2
nothing_more None l1 l2 x r n h = tt
nothing_more (Some xs) None l2 x r n h = absurd r
nothing_more (Some xs) (Some ys) None x r n h = absurd n
nothing_more (Some xs) (Some ys) (Some zs) x r n h = subst (HasConsumed xs) n h

one_more_read : (l0 l2 : Option (List ℕ)) (x first last : List ℕ) → x ≡ first ++ last → Consumes l0 l2 x → IsOpen first → length first ≤ limit → length last ≤ piece → length first + length last ≤ limit + 1 → HaveConsumed l0 l2
one_more_read None l2 x first last e r o w s t = tt
one_more_read (Some xs) None x first last e r o w s t = absurd r
one_more_read (Some xs) (Some ys) x first last e r o w s t = record {
  first = first;
  last = last;
  front = r ∙ ap (λ b. b ++ ys) e;
  is_open = o;
  within = w;
  short = s;
  total = t;
}

told : (l0 l2 : Option (List ℕ)) (x : List ℕ) → Consumes l0 l2 x → IfSome l0 (λ bytes. Consumes (Some bytes) l2 x)
told None l2 x r = tt
told (Some bytes) l2 x r = r

front_read : (bytes : List ℕ) (l2 : Option (List ℕ)) (x : List ℕ) → Consumes (Some bytes) l2 x → (rest : List ℕ) × (bytes ≡ x ++ rest)
front_read bytes None x r = absurd r
front_read bytes (Some ys) x r = (ys, r)

-- commands and what is pending behind them, over some more bytes
regrouped : (cs : List Said) (pending first last : List ℕ) → (spellings cs ++ pending) ++ (first ++ last) ≡ (spellings cs ++ (pending ++ first)) ++ last
regrouped cs pending first last =
    sym (append_assoc (spellings cs ++ pending) first last) ∙ ap (λ b. b ++ last) (append_assoc (spellings cs) pending first)

module _ (l0 l1 k0 k1 : Option (List ℕ)) (pending : List ℕ) (before : ℕ) (state : State) (failed : Bool) (n0 n1 : ℕ) (s : SoFar l0 l1 k0 k1 pending before state failed n0 n1) where
  -- what was read, once more was read for the next command
  pub consumed_on : (l2 : Option (List ℕ)) → ReadsOn l1 l2 before pending → HaveConsumed l0 l2
  consumed_on l2 r = elim r [
    | inl n ↦ nothing_more l0 l1 l2 (spellings s.commands ++ pending) s.read n s.consumed
    | inr f ↦
        let long : length (spellings s.commands ++ (pending ++ f.first)) ≡ before + length (pending ++ f.first) =
        length-append (spellings s.commands) (pending ++ f.first) ∙ ap (λ n. n + length (pending ++ f.first)) (sym s.before_is) in
        one_more_read l0 l2 ((spellings s.commands ++ pending) ++ (f.first ++ f.last)) (spellings s.commands ++ (pending ++ f.first)) f.last
        (regrouped s.commands pending f.first f.last)
        (read_on l0 l1 l2 (spellings s.commands ++ pending) (f.first ++ f.last) s.read f.read)
        (record { commands = s.commands; plain = s.plain; part = pending ++ f.first; part_is = f.part; bytes_are = refl })
        (omega (arith, long, f.within)) f.short (omega (arith, long, f.total))
  ]

  -- where a read failed
  pub stopped_reading : (l2 : Option (List ℕ)) → before ≤ limit → StopsInPart l1 l2 before pending → IfSome l0 (λ bytes. StoppedReading bytes l2 n0 n1 k0 k1)
  stopped_reading l2 fits f =
      let part : List ℕ = pending ++ f.first in
      let read : Consumes l0 l2 (spellings s.commands ++ part) = subst (Consumes l0 l2) (append_assoc (spellings s.commands) pending f.first) (read_on l0 l1 l2 (spellings s.commands ++ pending) f.first s.read f.read) in
      if_some l0 (λ bytes. Consumes (Some bytes) l2 (spellings s.commands ++ part)) (λ bytes. StoppedReading bytes l2 n0 n1 k0 k1)
      (λ bytes r.
      let b = front_read bytes l2 (spellings s.commands ++ part) r in
      record {
        commands = s.commands;
        plain = s.plain;
        part = part;
        part_is = f.part;
        read = r;
        rest = take (limit - before - length part) b.0;
        begins = behind s.commands bytes (part ++ b.0) before s.before_is fits (b.1 ∙ append_assoc (spellings s.commands) part b.0)
            ∙ ap (λ x. spellings s.commands ++ x) (windowed before part b.0 f.within);
        written = s.written;
        checks_are = s.checks_are;
      })
      (told l0 l2 (spellings s.commands ++ part) read)

  -- where a write failed in the reply to the next command
  pub stopped_in_reply : (k2 : Option (List ℕ)) (rest : List ℕ) (c : Said) (n2 : ℕ) → IsPlain c → pending ≡ spelling c ++ rest → before + length pending ≤ limit → AppendsFront k1 k2 (reply_of state c) → n2 ≡ n1 + checks state c
      → IfSome l0 (λ bytes. StoppedWriting bytes n0 n2 k0 k2)
  stopped_in_reply k2 rest c n2 p f fits w n =
      if_some l0 (λ bytes. Consumes (Some bytes) l1 (spellings s.commands ++ pending)) (λ bytes. StoppedWriting bytes n0 n2 k0 k2)
      (λ bytes r.
      let b = front_read bytes l1 (spellings s.commands ++ pending) r in
      let more : List ℕ = take (limit - before - length pending) b.0 in
      let part : List ℕ = take w.0 (reply_of (state_after opening s.commands) c) in
      let same : take w.0 (reply_of state c) ≡ part = ap (λ z. take w.0 (reply_of z c)) s.state_is in
      let counted : checks state c ≡ checks (state_after opening s.commands) c = ap (λ z. checks z c) s.state_is in
      inl (record {
        commands = s.commands;
        plain = s.plain;
        last = c;
        last_plain = p;
        rest = rest ++ more;
        begins = behind s.commands bytes (pending ++ b.0) before s.before_is (omega (arith, fits)) (b.1 ∙ append_assoc (spellings s.commands) pending b.0)
            ∙ ap (λ x. spellings s.commands ++ x) (windowed before pending b.0 fits ∙ ap (λ x. x ++ more) f ∙ append_assoc (spelling c) rest more);
        count = w.0;
        written = joined k0 k1 k2 (replies opening s.commands) part s.written (subst (Appends k1 k2) same w.1);
        checks_are = omega (arith, n, counted, s.checks_are, checks_more opening s.commands c);
      }))
      (told l0 l1 (spellings s.commands ++ pending) s.read)
