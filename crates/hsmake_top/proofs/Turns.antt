-- The turns of a session.
use Rattle.std.proofs.Common.{◌≡◌, ℕ, ◌+◌, ◌-◌, ◌≤◌, inl, inr, Bool, false, ◌||◌, List, [], ◌∷◌, ◌++◌, length, take, drop, refl, ap, sym, ◌∙◌, subst, arith, append_assoc, length-append, Some, None}
use Rattle.std.specs.declared.option.Option.{Option}
use Rattle.std.specs.Option.{IfSome}
use Rattle.std.specs.List.{AllByRecursion}
use Rattle.std.proofs.lemmas.List.{append-nil, take-append-drop}
use Rattle.std.proofs.Math.Seq.{take-append-add, take-append_seam, drop-append_seam}
use Rattle.std.specs.Io.KnownBytes.{Appends, Consumes}
use Rattle.mk_io.specs.Outside.{AppendsFront}
use Rattle.mk_io.proofs.Pieces.{joined, read_on, consumed}
use Rattle.session_lang.specs.Spelling.{Said, Quit, spelling}
use Rattle.session_lang.specs.Script.{limit, IsPlain, IsBadScript, spellings}
use Rattle.session_lang.proofs.Scripts.{all_push, begins_so, length_more, not_bad, one_more, place as places_are_one}
use Rattle.hsmake_top.specs.Session.{State, opening, after, state_after, replies, reply_of, any_fails, fails, checks, bad_line, HasText, HasWritten, Ended, EndedBad}
use Rattle.hsmake_top.specs.Stopped.{HaveConsumed, StoppedWriting}
use Rattle.hsmake_top.specs.Turn.{SoFar}
use Rattle.hsmake_top.specs.Ahead.{IsBadAhead, window}
use Rattle.hsmake_top.proofs.Folds.{state_more, replies_more, replies_on, fails_more, checks_more}
use Rattle.hsmake_top.proofs.Windows.{windowed}

nothing_written : (k : Option (List ℕ)) → Appends k k []
nothing_written None = tt
nothing_written (Some xs) = sym (append-nil xs)

-- where nothing was read and written
pub nothing_begun : (l k : Option (List ℕ)) → IfSome l (λ bytes. HasWritten bytes k k)
nothing_begun None k = tt
nothing_begun (Some bytes) k = record { commands = []; plain = tt; rest = take limit bytes; begins = refl; text = []; text_is = inl refl; written = (0, nothing_written k) }

-- before the first command
pub nothing_done : (left taken : Option (List ℕ)) (pending : List ℕ) (before : ℕ) (state : State) (checks : ℕ) → HaveConsumed left left → pending ≡ [] → before ≡ 0 → state ≡ opening → SoFar left left taken taken pending before state false checks checks
nothing_done left taken pending before state checks o p b s = record {
  commands = [];
  plain = tt;
  read = subst (Consumes left left) (sym p) (nothing_read left);
  consumed = o;
  written = nothing_written taken;
  before_is = b;
  state_is = s;
  failed_is = refl;
  checks_are = omega arith;
}
  where
    nothing_read : (l : Option (List ℕ)) → Consumes l l []
    nothing_read None = tt
    nothing_read (Some xs) = refl

pub if_some : {X : Type 0} (o : Option X) (P Q : X → Type 0) → ((x : X) → P x → Q x) → IfSome o P → IfSome o Q
if_some None P Q f h = tt
if_some (Some x) P Q f h = f x h

-- what is left once a text is taken off the front
pub left_behind : (bytes text rest last : List ℕ) (used : ℕ) → last ≡ drop used bytes → used ≡ length text → bytes ≡ text ++ rest → last ≡ rest
left_behind bytes text rest last used l u e = l ∙ ap (λ n. drop n bytes) u ∙ ap (drop (length text)) e ∙ drop-append_seam text rest

-- the window of a script behind its first commands
pub behind : (cs : List Said) (bytes ahead : List ℕ) (before : ℕ) → before ≡ length (spellings cs) → before ≤ limit → bytes ≡ spellings cs ++ ahead → take limit bytes ≡ spellings cs ++ window before ahead
behind cs bytes ahead before b h e =
    let n : limit ≡ length (spellings cs) + (limit - before) = omega (arith, b, h) in
    ap (λ k. take k bytes) n ∙ ap (take (length (spellings cs) + (limit - before))) e ∙ take-append-add (spellings cs) ahead (limit - before)

module _ (l0 l1 k0 k1 : Option (List ℕ)) (pending : List ℕ) (before : ℕ) (state : State) (failed : Bool) (n0 n1 : ℕ) (s : SoFar l0 l1 k0 k1 pending before state failed n0 n1) where
  -- the input, as it was read
  input_is : IfSome l0 (λ bytes. (rest : List ℕ) × (bytes ≡ spellings s.commands ++ (pending ++ rest)) × (l1 ≡ Some rest))
  input_is =
      if_some l0 (λ bytes. (rest : List ℕ) × (bytes ≡ (spellings s.commands ++ pending) ++ rest) × (l1 ≡ Some rest)) (λ bytes. (rest : List ℕ) × (bytes ≡ spellings s.commands ++ (pending ++ rest)) × (l1 ≡ Some rest))
      (λ bytes h. (h.0, h.1 ∙ append_assoc (spellings s.commands) pending h.0, h.2))
      (consumed l0 l1 (spellings s.commands ++ pending) s.read)

  -- after a read
  pub reads : (l2 : Option (List ℕ)) (more bytes : List ℕ) → Consumes l1 l2 bytes → more ≡ pending ++ bytes → HaveConsumed l0 l2 → SoFar l0 l2 k0 k1 more before state failed n0 n1
  reads l2 more bytes r e o = record {
    commands = s.commands;
    plain = s.plain;
    read = subst (Consumes l0 l2) (append_assoc (spellings s.commands) pending bytes ∙ ap (λ p. spellings s.commands ++ p) (sym e)) (read_on l0 l1 l2 (spellings s.commands ++ pending) bytes s.read r);
    consumed = o;
    written = s.written;
    before_is = s.before_is;
    state_is = s.state_is;
    failed_is = s.failed_is;
    checks_are = s.checks_are;
  }

  -- after a command
  pub replied : (k2 : Option (List ℕ)) (text left rest : List ℕ) (now : ℕ) (next : State) (fell : Bool) (n2 : ℕ) (c : Said) → IsPlain c → pending ≡ spelling c ++ rest → left ≡ rest → now ≡ before + length (spelling c)
      → text ≡ reply_of state c → Appends k1 k2 text → next ≡ after state c → fell ≡ failed || fails state c → n2 ≡ n1 + checks state c → SoFar l0 l1 k0 k2 left now next fell n0 n2
  replied k2 text left rest now next fell n2 c p f d b t w a e n = record {
    commands = s.commands ++ c ∷ [];
    plain = all_push s.commands c s.plain p;
    read = subst (Consumes l0 l1) (one_more (spellings s.commands ++ pending) s.commands c pending rest refl f ∙ ap (λ x. spellings (s.commands ++ c ∷ []) ++ x) (sym d)) s.read;
    consumed = s.consumed;
    written =
        let told : replies opening s.commands ++ text ≡ replies opening (s.commands ++ c ∷ []) =
        ap (λ x. replies opening s.commands ++ x) (t ∙ ap (λ z. reply_of z c) s.state_is) ∙ sym (replies_more opening s.commands c) in
        subst (Appends k0 k2) told (joined k0 k1 k2 (replies opening s.commands) text s.written w);
    before_is = omega (arith, b, s.before_is, length_more s.commands c);
    state_is = a ∙ ap (λ z. after z c) s.state_is ∙ sym (state_more opening s.commands c);
    failed_is = e ∙ ap (λ z. z || fails state c) s.failed_is ∙ ap (λ z. any_fails opening s.commands || fails z c) s.state_is ∙ sym (fails_more opening s.commands c);
    checks_are =
        let m : checks state c ≡ checks (state_after opening s.commands) c = ap (λ z. checks z c) s.state_is in
        omega (arith, n, m, s.checks_are, checks_more opening s.commands c);
  }

  -- the same where the command was read from other bytes
  pub replied_as : (k2 : Option (List ℕ)) (left rest : List ℕ) (now : ℕ) (next : State) (fell fails_now : Bool) (n2 : ℕ) (c d : Said) → d ≡ c → IsPlain c → pending ≡ spelling c ++ rest → left ≡ rest → now ≡ before + length (spelling c)
      → Appends k1 k2 (reply_of state d) → next ≡ after state d → fell ≡ failed || fails_now → fails_now ≡ fails state d → n2 ≡ n1 + checks state d → SoFar l0 l1 k0 k2 left now next fell n0 n2
  replied_as k2 left rest now next fell fails_now n2 c d says p e l b w a h q n =
      replied k2 (reply_of state d) left rest now next fell n2 c p e l b (ap (reply_of state) says) w (a ∙ ap (after state) says) (h ∙ ap (λ x. failed || x) (q ∙ ap (fails state) says)) (n ∙ ap (λ x. n1 + checks state x) says)

  -- at quit
  pub done : (rest : List ℕ) → pending ≡ spelling Quit ++ rest → before + length pending ≤ limit → IfSome l0 (λ bytes. (text : List ℕ) × Ended bytes failed n0 n1 text × Appends k0 k1 text)
  done rest f fits =
      if_some l0 (λ bytes. (rest : List ℕ) × (bytes ≡ spellings s.commands ++ (pending ++ rest)) × (l1 ≡ Some rest)) (λ bytes. (text : List ℕ) × Ended bytes failed n0 n1 text × Appends k0 k1 text)
      (λ bytes h.
      let more : List ℕ = take (limit - before - length pending) h.0 in
      let e : take limit bytes ≡ spellings s.commands ++ (spelling Quit ++ (rest ++ more)) =
      behind s.commands bytes (pending ++ h.0) before s.before_is (omega (arith, fits)) h.1
      ∙ ap (λ x. spellings s.commands ++ x) (windowed before pending h.0 fits ∙ ap (λ p. p ++ more) f ∙ append_assoc (spelling Quit) rest more) in
      (replies opening s.commands, record { commands = s.commands; script = (s.plain, (rest ++ more, e)); failed_is = s.failed_is; text_is = refl; checks_are = s.checks_are }, s.written))
      input_is

front_of : (k0 k2 : Option (List ℕ)) (text a b : List ℕ) → text ≡ a ++ b → Appends k0 k2 a → AppendsFront k0 k2 text
front_of k0 k2 text a b e w = (length a, subst (Appends k0 k2) (sym (ap (take (length a)) e ∙ take-append_seam a b)) w)

-- each text of an input begins with the replies to its first commands
text_after : (bytes : List ℕ) (cs : List Said) (x : List ℕ) → AllByRecursion IsPlain cs → take limit bytes ≡ spellings cs ++ x → (text : List ℕ) → HasText bytes text → (more : List ℕ) × (text ≡ replies opening cs ++ more)
text_after bytes cs x p e text h = elim h [
  | inl g ↦
      let b = begins_so cs g.commands x (spelling Quit ++ g.script.1.0) p g.script.0 (inr (g.script.1.0, refl)) (sym e ∙ g.script.1.1) in
      (replies (state_after opening cs) b.0, g.text_is ∙ ap (replies opening) b.1 ∙ replies_on opening cs b.0)
  | inr g ↦
      let b = begins_so cs g.commands x g.bad.rest p g.bad.plain (inl g.bad.none) (sym e ∙ g.bad.front) in (
        replies (state_after opening cs) b.0 ++ bad_line g.at,
        g.text_is ∙ ap (λ ds. replies opening ds ++ bad_line g.at) b.1 ∙ ap (λ r. r ++ bad_line g.at) (replies_on opening cs b.0) ∙ append_assoc (replies opening cs) (replies (state_after opening cs) b.0) (bad_line g.at),
      )
]

-- what was written is a front of every text that the input may have
pub front_of_any : (bytes : List ℕ) (k0 k2 : Option (List ℕ)) → HasWritten bytes k0 k2 → (text : List ℕ) → HasText bytes text → AppendsFront k0 k2 text
front_of_any bytes k0 k2 w text t = elim w.text_is [
  | inl e ↦
      let m = text_after bytes w.commands w.rest w.plain w.begins text t in
      let part : List ℕ = take w.written.0 w.text in
      let other : List ℕ = drop w.written.0 w.text in
      let is : text ≡ part ++ (other ++ m.0) = m.1 ∙ ap (λ x. x ++ m.0) (sym e ∙ sym (take-append-drop w.written.0 w.text)) ∙ append_assoc part other m.0 in
      front_of k0 k2 text part (other ++ m.0) is w.written.1
  | inr b ↦ bad_is bytes k0 k2 w b.0 b.1 b.2 text t
]
  where
    bad_is : (bytes : List ℕ) (k0 k2 : Option (List ℕ)) (w : HasWritten bytes k0 k2) (at : ℕ) → IsBadScript bytes w.commands at → w.text ≡ replies opening w.commands ++ bad_line at → (text : List ℕ) → HasText bytes text → AppendsFront k0 k2 text
    bad_is bytes k0 k2 w at b e text t = elim t [
      | inl g ↦ absurd (not_bad w.commands g.commands b.rest g.script.1.0 b.plain g.script.0 b.none (sym b.front ∙ g.script.1.1))
      | inr g ↦
          let same = places_are_one bytes w.commands g.commands at g.at b g.bad in
          let is : w.text ≡ text = e ∙ ap (λ n. replies opening w.commands ++ bad_line n) same.1 ∙ ap (λ cs. replies opening cs ++ bad_line g.at) same.0 ∙ sym g.text_is in
          subst (AppendsFront k0 k2) is w.written
    ]

front_at : (l0 l1 k0 k2 : Option (List ℕ)) (cs : List Said) (x a b : List ℕ) → AllByRecursion IsPlain cs → length (spellings cs) ≤ limit → Consumes l0 l1 (spellings cs ++ x) → replies opening cs ≡ a ++ b → Appends k0 k2 a
    → IfSome l0 (λ bytes. HasWritten bytes k0 k2)
front_at l0 l1 k0 k2 cs x a b p fits r e w =
    if_some l0 (λ bytes. (rest : List ℕ) × (bytes ≡ (spellings cs ++ x) ++ rest) × (l1 ≡ Some rest)) (λ bytes. HasWritten bytes k0 k2)
    (λ bytes h.
    let n : ℕ = length (spellings cs) in
    record {
      commands = cs;
      plain = p;
      rest = window n (x ++ h.0);
      begins = behind cs bytes (x ++ h.0) n refl fits (h.1 ∙ append_assoc (spellings cs) x h.0);
      text = replies opening cs;
      text_is = inl refl;
      written = front_of k0 k2 (replies opening cs) a b e w;
    })
    (consumed l0 l1 (spellings cs ++ x) r)

module _ (l0 l1 k0 k1 : Option (List ℕ)) (pending : List ℕ) (before : ℕ) (state : State) (failed : Bool) (n0 n1 : ℕ) (s : SoFar l0 l1 k0 k1 pending before state failed n0 n1) (fits : before ≤ limit) where
  -- what was written is a front of the replies to the commands so far
  pub front : IfSome l0 (λ bytes. HasWritten bytes k0 k1)
  front = front_at l0 l1 k0 k1 s.commands pending (replies opening s.commands) [] s.plain (omega (arith, fits, s.before_is)) s.read (sym (append-nil (replies opening s.commands))) s.written

  -- also where a reply was cut short
  pub front_cut : (k2 : Option (List ℕ)) (text rest : List ℕ) (c : Said) → IsPlain c → text ≡ reply_of state c → pending ≡ spelling c ++ rest → before + length (spelling c) ≤ limit → AppendsFront k1 k2 text
      → IfSome l0 (λ bytes. HasWritten bytes k0 k2)
  front_cut k2 text rest c p t f room w =
      let cs : List Said = s.commands ++ c ∷ [] in
      let part : List ℕ = take w.0 text in
      let read : Consumes l0 l1 (spellings cs ++ rest) = subst (Consumes l0 l1) (one_more (spellings s.commands ++ pending) s.commands c pending rest refl f) s.read in
      let told : replies opening cs ≡ (replies opening s.commands ++ part) ++ drop w.0 text =
      replies_more opening s.commands c ∙ ap (λ z. replies opening s.commands ++ reply_of z c) (sym s.state_is) ∙ ap (λ x. replies opening s.commands ++ x) (sym t ∙ sym (take-append-drop w.0 text))
      ∙ sym (append_assoc (replies opening s.commands) part (drop w.0 text)) in
      front_at l0 l1 k0 k2 cs rest (replies opening s.commands ++ part) (drop w.0 text) (all_push s.commands c s.plain p) (omega (arith, room, s.before_is, length_more s.commands c)) read told (joined k0 k1 k2 (replies opening s.commands) part s.written w.1)

  -- at a bad place
  module _ (at : ℕ) (bad : IfSome l1 (λ left. IsBadAhead before (pending ++ left) at)) where
    is_bad : IfSome l0 (λ bytes. IsBadScript bytes s.commands at)
    is_bad =
        if_some l0 (λ bytes. (rest : List ℕ) × (bytes ≡ (spellings s.commands ++ pending) ++ rest) × (l1 ≡ Some rest)) (λ bytes. IsBadScript bytes s.commands at)
        (λ bytes h.
        let e : bytes ≡ spellings s.commands ++ (pending ++ h.0) = h.1 ∙ append_assoc (spellings s.commands) pending h.0 in
        let b : IsBadAhead before (pending ++ h.0) at = subst (λ l. IfSome l (λ left. IsBadAhead before (pending ++ left) at)) h.2 bad in
        let long : length bytes ≡ length (spellings s.commands) + length (pending ++ h.0) = ap length e ∙ length-append (spellings s.commands) (pending ++ h.0) in
        record {
          plain = s.plain;
          rest = window before (pending ++ h.0);
          front = behind s.commands bytes (pending ++ h.0) before s.before_is fits e;
          none = b.none;
          place = elim b.place [
            | inl c ↦ inl ((omega (arith, c.0.0, long, s.before_is, fits), c.0.1), c.1)
            | inr c ↦ inr ((λ cut. c.0 (omega (arith, cut.0, long, s.before_is, fits), cut.1)), c.1 ∙ s.before_is)
          ];
        })
        (consumed l0 l1 (spellings s.commands ++ pending) s.read)

    pub bad_done : (k2 : Option (List ℕ)) → Appends k1 k2 (bad_line at) → IfSome l0 (λ bytes. (text : List ℕ) × EndedBad bytes n0 n1 text × Appends k0 k2 text)
    bad_done k2 w =
        if_some l0 (λ bytes. IsBadScript bytes s.commands at) (λ bytes. (text : List ℕ) × EndedBad bytes n0 n1 text × Appends k0 k2 text)
        (λ bytes b. (
          replies opening s.commands ++ bad_line at,
          record { commands = s.commands; at = at; bad = b; text_is = refl; checks_are = s.checks_are },
          joined k0 k1 k2 (replies opening s.commands) (bad_line at) s.written w,
        ))
        is_bad

    pub bad_front : (k2 : Option (List ℕ)) → AppendsFront k1 k2 (bad_line at) → IfSome l0 (λ bytes. HasWritten bytes k0 k2)
    bad_front k2 w =
        if_some l0 (λ bytes. IsBadScript bytes s.commands at) (λ bytes. HasWritten bytes k0 k2)
        (λ bytes b.
        let part : List ℕ = take w.0 (bad_line at) in
        let is : replies opening s.commands ++ bad_line at ≡ (replies opening s.commands ++ part) ++ drop w.0 (bad_line at) =
        ap (λ x. replies opening s.commands ++ x) (sym (take-append-drop w.0 (bad_line at))) ∙ sym (append_assoc (replies opening s.commands) part (drop w.0 (bad_line at))) in
        record {
          commands = s.commands;
          plain = s.plain;
          rest = b.rest;
          begins = b.front;
          text = replies opening s.commands ++ bad_line at;
          text_is = inr (at, b, refl);
          written = front_of k0 k2 (replies opening s.commands ++ bad_line at) (replies opening s.commands ++ part) (drop w.0 (bad_line at)) is (joined k0 k1 k2 (replies opening s.commands) part s.written w.1);
        })
        is_bad

    -- a write failed in the last line
    pub stopped_in_bad_line : (k2 : Option (List ℕ)) → AppendsFront k1 k2 (bad_line at) → IfSome l0 (λ bytes. StoppedWriting bytes n0 n1 k0 k2)
    stopped_in_bad_line k2 w =
        if_some l0 (λ bytes. IsBadScript bytes s.commands at) (λ bytes. StoppedWriting bytes n0 n1 k0 k2)
        (λ bytes b.
        inr (record {
          commands = s.commands;
          at = at;
          bad = b;
          count = w.0;
          written = joined k0 k1 k2 (replies opening s.commands) (take w.0 (bad_line at)) s.written w.1;
          checks_are = s.checks_are;
        }))
        is_bad
