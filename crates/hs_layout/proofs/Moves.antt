-- Layout reads columns by comparing them.
use Rattle.std.specs.Prelude.{map, if◌then◌else◌, nat_lt, nat_le, nat_eq, ◌&&◌, Option, Some, None}
use Rattle.std.proofs.Common.{◌≡◌, ℕ, ◌<◌, ◌≤◌, Bool, true, false, List, [], ◌∷◌, ◌++◌, refl, ap, sym, ◌∙◌, arith}
use Rattle.std.proofs.lemmas.Bool.Decides.{nat_tests}
use Rattle.hs_syntax.specs.declared.token.Token.{Token}
use Rattle.hs_syntax.specs.declared.token.PutSign.{PutSign}
use Rattle.hs_syntax.specs.declared.token.PutSign.TheVariants.{Open, Semicolon, Close}
use Rattle.hs_layout.specs.declared.role.Role.{Role}
use Rattle.hs_layout.specs.declared.role.Role.TheVariants as role
use Rattle.hs_layout.specs.declared.frame.Context.{Context}
use Rattle.hs_layout.specs.declared.frame.Context.TheVariants as context
use Rattle.hs_layout.specs.declared.frame.Sort.{Sort}
use Rattle.hs_layout.specs.declared.frame.Sort.TheVariants as sort
use Rattle.hs_layout.specs.declared.frame.Note.{Note}
use Rattle.hs_layout.specs.declared.frame.Note.TheVariants as note
use Rattle.hs_layout.specs.declared.frame.Frame.{Frame}
use Rattle.hs_layout.specs.declared.look.Look.{Look}
use Rattle.hs_layout.specs.declared.look.Look.TheVariants.{Here, On, Nowhere}
use Rattle.hs_layout.specs.declared.look.Target.{Target}
use Rattle.hs_layout.specs.declared.look.Target.TheVariants as target
use Rattle.hs_layout.specs.declared.state.State.{State}
use Rattle.hs_layout.specs.Roles.{role_of, is_branch}
use Rattle.hs_layout.specs.Frames.{is_block, is_put}
use Rattle.hs_layout.specs.Looks.{on_if, look_at, reaches_past, reaches}
use Rattle.hs_layout.specs.Rules.{Step, stay, and_then, down_past, down_to, indentation, context_of, frame, with_notes, no_notes, see_top, counted, renewed, is_context, renew, is_level, punctuate, at_line, at_opening, pop, at_end_of, answered, at_answer, at_comma, at_where, without_let, is_direct, at_sign, at_bar, at_lexeme, add_note, opened, behind_lexeme}
use Rattle.hs_layout.specs.Braced.{opening_at, at_mark, ends_in_semicolon, is_first_of_line, behind_semicolon, marked, before, opener, newlines, is_semicolon_role, put_token, spot_of, is_pragma, pieces, behind_token, state_behind, after, at_last, at_end, braced_from, start, braced, behind_pragma}
use Rattle.hs_layout.specs.Columns.{IsInOrder, in_column, no_column}

by_test : {P : Type 0} (b : Bool) → (b ≡ true → P) → (b ≡ false → P) → P
by_test true p q = p refl
by_test false p q = q refl

lt_true : (a b : ℕ) → a < b → nat_lt a b ≡ true
lt_true a b h = grind (arith, nat_tests)

lt_false : (a b : ℕ) → b ≤ a → nat_lt a b ≡ false
lt_false a b h = grind (arith, nat_tests)

is_lt : (a b : ℕ) → nat_lt a b ≡ true → a < b
is_lt a b h = grind (arith, nat_tests)

not_lt : (a b : ℕ) → nat_lt a b ≡ false → b ≤ a
not_lt a b h = grind (arith, nat_tests)

le_true : (a b : ℕ) → a ≤ b → nat_le a b ≡ true
le_true a b h = grind (arith, nat_tests)

le_false : (a b : ℕ) → b < a → nat_le a b ≡ false
le_false a b h = grind (arith, nat_tests)

eq_true : (a b : ℕ) → a ≡ b → nat_eq a b ≡ true
eq_true a b h = grind (arith, nat_tests)

eq_false : (a b : ℕ) → (a ≡ b → ⊥) → nat_eq a b ≡ false
eq_false a b h = grind (arith, nat_tests)

module _ (g : ℕ → ℕ) (k : IsInOrder g) where
  lt_same : (a b : ℕ) → nat_lt (g a) (g b) ≡ nat_lt a b
  lt_same a b = by_test (nat_lt a b)
      (λ e. lt_true (g a) (g b) (k.order a b (is_lt a b e)) ∙ sym e)
      (λ e. by_test (nat_lt b a)
      (λ d. let h : g b < g a = k.order b a (is_lt b a d) in lt_false (g a) (g b) (omega arith) ∙ sym e)
      (λ d. let x : b ≤ a = not_lt a b e in let y : a ≤ b = not_lt b a d in let z : a ≡ b = omega arith in let w : g a ≡ g b = ap g z in lt_false (g a) (g b) (omega arith) ∙ sym e))

  le_same : (a b : ℕ) → nat_le (g a) (g b) ≡ nat_le a b
  le_same a b = by_test (nat_lt b a)
      (λ e. le_false (g a) (g b) (k.order b a (is_lt b a e)) ∙ sym (le_false a b (is_lt b a e)))
      (λ e. let x : a ≤ b = not_lt b a e in let y : nat_lt (g b) (g a) ≡ false = lt_same b a ∙ e in le_true (g a) (g b) (not_lt (g b) (g a) y) ∙ sym (le_true a b x))

  eq_same : (a b : ℕ) → nat_eq (g a) (g b) ≡ nat_eq a b
  eq_same a b = by_test (nat_lt a b)
      (λ e. let x : a < b = is_lt a b e in let y : g a < g b = k.order a b x in eq_false (g a) (g b) (λ z. omega arith) ∙ sym (eq_false a b (λ z. omega arith)))
      (λ e. by_test (nat_lt b a)
      (λ d. let x : b < a = is_lt b a d in let y : g b < g a = k.order b a x in eq_false (g a) (g b) (λ z. omega arith) ∙ sym (eq_false a b (λ z. omega arith)))
      (λ d. let x : b ≤ a = not_lt a b e in let y : a ≤ b = not_lt b a d in let z : a ≡ b = omega arith in eq_true (g a) (g b) (ap g z) ∙ sym (eq_true a b z)))

  -- frames, steps and targets in the other columns
  one : Frame → Frame
  one f = record f { column = g f.column }

  all : List Frame → List Frame
  all fs = map one fs

  step : Step → Step
  step s = record { puts = s.puts; frames = all s.frames }

  aim : Target → Target
  aim (target.Deeper n) = target.Deeper (g n)
  aim (target.From n) = target.From (g n)
  aim t = t

  look_same : (t : Target) (f : Frame) → look_at (aim t) (one f) ≡ look_at t f
  unfolding aim one
  look_same (target.Deeper n) f = ap on_if (lt_same n f.column)
  look_same (target.From n) f = ap on_if (le_same n f.column)
  look_same _ f = refl

  past_same : (l : Look) (f : Frame) (fs : List Frame) (s : Step) → down_past l (one f) (all fs) (step s) ≡ step (down_past l f fs s)
  unfolding one all step
  past_same On f fs s = refl
  past_same Here f fs s = refl
  past_same Nowhere f fs s = refl

  down_same : (t : Target) (fs : List Frame) → down_to (aim t) (all fs) ≡ step (down_to t fs)
  unfolding all step
  down_same t [] = refl
  down_same t (f ∷ fs) = ap (λ z. down_past z (one f) (all fs) (down_to (aim t) (all fs))) (look_same t f) ∙ ap (λ z. down_past (look_at t f) (one f) (all fs) z) (down_same t fs) ∙ past_same (look_at t f) f fs (down_to t fs)

  reaches_same : (t : Target) (fs : List Frame) → reaches (aim t) (all fs) ≡ reaches t fs
  unfolding all
  reaches_same t [] = refl
  reaches_same t (f ∷ fs) = ap (λ z. reaches_past z (reaches (aim t) (all fs))) (look_same t f) ∙ ap (λ z. reaches_past (look_at t f) z) (reaches_same t fs)

  choose_same : (b c : Bool) (s t u v : Step) → b ≡ c → s ≡ step u → t ≡ step v → (if b then s else t) ≡ step (if c then u else v)
  choose_same b true s t u v e p q = ap (λ z. if z then s else t) e ∙ p
  choose_same b false s t u v e p q = ap (λ z. if z then s else t) e ∙ q

  then_same : (s u : Step) (rule other : List Frame → Step) → s ≡ step u → ((fs : List Frame) → rule (all fs) ≡ step (other fs)) → and_then s rule ≡ step (and_then u other)
  unfolding step
  then_same s u rule other p q = ap (λ z. and_then z rule) p ∙ ap (λ (z : Step). record { puts = u.puts ++ z.puts; frames = z.frames }) (q u.frames)

  stay_same : (fs : List Frame) → stay (all fs) ≡ step (stay fs)
  unfolding step
  stay_same fs = refl

  either_same : (b : Bool) (x y z w : List Frame) → x ≡ all z → y ≡ all w → (if b then x else y) ≡ all (if b then z else w)
  either_same true x y z w p q = p
  either_same false x y z w p q = q

  renew_same : (keep : Bool) (fs : List Frame) → renew keep (all fs) ≡ all (renew keep fs)
  unfolding all one
  renew_same keep [] = refl
  renew_same keep (f ∷ fs) = ap (λ z. renewed keep (one f) ∷ z) (either_same (is_context f.sort) (all fs) (renew keep (all fs)) fs (renew keep fs) refl (renew_same keep fs))

  level_same : (n : ℕ) (fs : List Frame) → is_level (g n) (all fs) ≡ is_level n fs
  unfolding all one
  level_same n [] = refl
  level_same n (f ∷ fs) = ap (λ z. is_block f.context && z) (eq_same n f.column)

  with_frames : (ps : List PutSign) (x fs : List Frame) → x ≡ all fs → record { puts = ps; frames = x } ≡ step (record { puts = ps; frames = fs })
  unfolding step
  with_frames ps x fs e = ap (λ (z : List Frame). let s : Step = record { puts = ps; frames = z } in s) e

  punctuate_same : (n : ℕ) (keep : Bool) (fs : List Frame) → punctuate (g n) keep (all fs) ≡ step (punctuate n keep fs)
  punctuate_same n keep fs = choose_same (is_level (g n) (all fs)) (is_level n fs) (record { puts = Semicolon ∷ []; frames = renew keep (all fs) }) (stay (all fs)) (record { puts = Semicolon ∷ []; frames = renew keep fs }) (stay fs) (level_same n fs) (with_frames (Semicolon ∷ []) (renew keep (all fs)) (renew keep fs) (renew_same keep fs)) (stay_same fs)

  line_same : (n : ℕ) (keep : Bool) (fs : List Frame) → at_line (g n) keep (all fs) ≡ step (at_line n keep fs)
  unfolding aim
  line_same n keep fs = then_same (down_to (target.Deeper (g n)) (all fs)) (down_to (target.Deeper n) fs) (punctuate (g n) keep) (punctuate n keep) (down_same (target.Deeper n) fs) (punctuate_same n keep)

  indentation_same : (fs : List Frame) → indentation (all fs) ≡ g (indentation fs)
  unfolding all one
  indentation_same [] = sym k.zero
  indentation_same (f ∷ fs) = refl

  opened_block : (c : Context) (n : ℕ) (fs : List Frame) → frame sort.Context c (g n) ∷ all fs ≡ all (frame sort.Context c n ∷ fs)
  unfolding all one
  opened_block c n fs = refl

  opening_same : (c : Context) (n : ℕ) (keep : Bool) (fs : List Frame) → at_opening c (g n) keep (all fs) ≡ step (at_opening c n keep fs)
  opening_same c n keep fs = choose_same (nat_lt (indentation (all fs)) (g n)) (nat_lt (indentation fs) n)
      (record { puts = Open ∷ []; frames = frame sort.Context c (g n) ∷ all fs })
      (and_then (record { puts = Open ∷ Close ∷ []; frames = all fs }) (at_line (g n) keep))
      (record { puts = Open ∷ []; frames = frame sort.Context c n ∷ fs })
      (and_then (record { puts = Open ∷ Close ∷ []; frames = fs }) (at_line n keep))
      (ap (λ z. nat_lt z (g n)) (indentation_same fs) ∙ lt_same (indentation fs) n)
      (with_frames (Open ∷ []) (frame sort.Context c (g n) ∷ all fs) (frame sort.Context c n ∷ fs) (opened_block c n fs))
      (then_same (record { puts = Open ∷ Close ∷ []; frames = all fs }) (record { puts = Open ∷ Close ∷ []; frames = fs }) (at_line (g n) keep) (at_line n keep) (with_frames (Open ∷ Close ∷ []) (all fs) fs refl) (line_same n keep))

  see_same : (r : Role) (fs : List Frame) → see_top r (all fs) ≡ all (see_top r fs)
  unfolding all one
  see_same r [] = refl
  see_same r (f ∷ fs) = refl

  notes_same : (change : List Note → List Note) (fs : List Frame) → with_notes change (all fs) ≡ all (with_notes change fs)
  unfolding all one
  notes_same change [] = refl
  notes_same change (f ∷ fs) = refl

  pop_same : (fs : List Frame) → pop (all fs) ≡ all (pop fs)
  unfolding all one
  pop_same [] = refl
  pop_same (f ∷ fs) = either_same (is_put f) (one f ∷ all fs) (see_top (counted f.sort f.seen.lead) (all fs)) (f ∷ fs) (see_top (counted f.sort f.seen.lead) fs) refl (see_same (counted f.sort f.seen.lead) fs)

  -- a rule that closes frames and then changes the nearest
  changed_same : (t : Target) (change : List Frame → List Frame) (fs : List Frame) → ((gs : List Frame) → change (all gs) ≡ all (change gs)) → record { puts = (down_to (aim t) (all fs)).puts; frames = change (down_to (aim t) (all fs)).frames } ≡ step (record { puts = (down_to t fs).puts; frames = change (down_to t fs).frames })
  unfolding step
  changed_same t change fs h = ap (λ (z : Step). let s : Step = record { puts = z.puts; frames = change z.frames } in s) (down_same t fs) ∙ with_frames (down_to t fs).puts (change (all (down_to t fs).frames)) (change (down_to t fs).frames) (h (down_to t fs).frames)

  end_same : (t : Target) (fs : List Frame) → at_end_of (aim t) (all fs) ≡ step (at_end_of t fs)
  end_same t fs = choose_same (reaches (aim t) (all fs)) (reaches t fs) (record { puts = (down_to (aim t) (all fs)).puts; frames = pop (down_to (aim t) (all fs)).frames }) (stay (see_top role.Other (all fs))) (record { puts = (down_to t fs).puts; frames = pop (down_to t fs).frames }) (stay (see_top role.Other fs)) (reaches_same t fs) (changed_same t pop fs pop_same) (with_frames [] (see_top role.Other (all fs)) (see_top role.Other fs) (see_same role.Other fs))

  notes_rule : (t : Target) (change : List Note → List Note) (fs : List Frame) → (if reaches (aim t) (all fs) then record { puts = (down_to (aim t) (all fs)).puts; frames = with_notes change (down_to (aim t) (all fs)).frames } else stay (all fs)) ≡ step (if reaches t fs then record { puts = (down_to t fs).puts; frames = with_notes change (down_to t fs).frames } else stay fs)
  notes_rule t change fs = choose_same (reaches (aim t) (all fs)) (reaches t fs) (record { puts = (down_to (aim t) (all fs)).puts; frames = with_notes change (down_to (aim t) (all fs)).frames }) (stay (all fs)) (record { puts = (down_to t fs).puts; frames = with_notes change (down_to t fs).frames }) (stay fs) (reaches_same t fs) (changed_same t (with_notes change) fs (notes_same change)) (stay_same fs)

  answer_same : (n : Note) (fs : List Frame) → at_answer n (all fs) ≡ step (at_answer n fs)
  unfolding aim
  answer_same n fs = notes_rule (target.Note n) (answered n) fs

  comma_same : (fs : List Frame) → at_comma (all fs) ≡ step (at_comma fs)
  unfolding aim
  comma_same fs = notes_rule target.Comma no_notes fs

  where_same : (b : Bool) (n : ℕ) (fs : List Frame) → at_where b (g n) (all fs) ≡ step (at_where b n fs)
  unfolding aim
  where_same b n fs = then_same (if b then down_to (target.From (g n)) (all fs) else stay (all fs)) (if b then down_to (target.From n) fs else stay fs) (down_to target.Do) (down_to target.Do) (choose_same b b (down_to (target.From (g n)) (all fs)) (stay (all fs)) (down_to (target.From n) fs) (stay fs) refl (down_same (target.From n) fs) (stay_same fs)) (down_same target.Do)

  direct_same : (fs : List Frame) → is_direct (all fs) ≡ is_direct fs
  unfolding all one
  direct_same [] = refl
  direct_same (f ∷ fs) = refl

  kept_same : (s u : Step) → s ≡ step u → record { puts = s.puts; frames = with_notes without_let s.frames } ≡ step (record { puts = u.puts; frames = with_notes without_let u.frames })
  unfolding step
  kept_same s u e = ap (λ (z : Step). let s : Step = record { puts = z.puts; frames = with_notes without_let z.frames } in s) e ∙ with_frames u.puts (with_notes without_let (all u.frames)) (with_notes without_let u.frames) (notes_same without_let u.frames)

  sign_same : (s u : Step) (fs : List Frame) → s ≡ step u → at_sign s (all fs) ≡ step (at_sign u fs)
  sign_same s u fs e = choose_same (is_direct (all fs)) (is_direct fs) (record { puts = s.puts; frames = with_notes without_let s.frames }) (stay (all fs)) (record { puts = u.puts; frames = with_notes without_let u.frames }) (stay fs) (direct_same fs) (kept_same s u e) (stay_same fs)

  bar_same : (fs : List Frame) → at_bar (all fs) ≡ step (at_bar fs)
  unfolding aim
  bar_same fs = sign_same (if reaches target.Inner (all fs) then down_to target.Bar (all fs) else stay (all fs)) (if reaches target.Inner fs then down_to target.Bar fs else stay fs) fs (choose_same (reaches target.Inner (all fs)) (reaches target.Inner fs) (down_to target.Bar (all fs)) (stay (all fs)) (down_to target.Bar fs) (stay fs) (reaches_same target.Inner fs) (down_same target.Bar fs) (stay_same fs))

  lexeme_same : (r : Role) (b : Bool) (n : ℕ) (fs : List Frame) → at_lexeme r b (g n) (all fs) ≡ step (at_lexeme r b n fs)
  unfolding aim
  lexeme_same role.CloseParen b n fs = end_same target.Paren fs
  lexeme_same role.CloseBracket b n fs = end_same target.Bracket fs
  lexeme_same role.CloseBrace b n fs = end_same target.Brace fs
  lexeme_same role.Of b n fs = answer_same note.Case fs
  lexeme_same role.Then b n fs = answer_same note.If fs
  lexeme_same role.Else b n fs = answer_same note.Then fs
  lexeme_same role.In b n fs = answer_same note.Let fs
  lexeme_same role.Comma b n fs = comma_same fs
  lexeme_same role.Where b n fs = where_same b n fs
  lexeme_same role.Bar b n fs = bar_same fs
  lexeme_same role.Equals b n fs = sign_same (down_to target.Equals (all fs)) (down_to target.Equals fs) fs (down_same target.Equals fs)
  lexeme_same role.Arrow b n fs = sign_same (down_to target.Arrow (all fs)) (down_to target.Arrow fs) fs (down_same target.Arrow fs)
  lexeme_same _ b n fs = stay_same fs

  inner_same : (s : Sort) (fs : List Frame) → frame s (context_of (all fs)) (indentation (all fs)) ∷ all fs ≡ all (frame s (context_of fs) (indentation fs) ∷ fs)
  unfolding all one
  inner_same s [] = ap (λ z. frame s context.Outside z ∷ []) (sym k.zero)
  inner_same s (f ∷ fs) = refl

  brace_same : (fs : List Frame) → frame sort.Context context.Brace 0 ∷ all fs ≡ all (frame sort.Context context.Brace 0 ∷ fs)
  unfolding all one
  brace_same fs = ap (λ z. frame sort.Context context.Brace z ∷ all fs) (sym k.zero)

  opened_same : (r : Role) (fs : List Frame) → opened r (all fs) ≡ all (opened r fs)
  opened_same role.OpenParen fs = inner_same sort.Paren fs
  opened_same role.OpenBracket fs = inner_same sort.Bracket fs
  opened_same role.OpenBrace fs = brace_same fs
  opened_same role.Let fs = notes_same (add_note note.Let) fs
  opened_same role.Case fs = notes_same (add_note note.Case) fs
  opened_same role.If fs = notes_same (add_note note.If) fs
  opened_same _ fs = refl

  behind_same : (r : Role) (fs : List Frame) → behind_lexeme r (all fs) ≡ all (behind_lexeme r fs)
  behind_same r fs = ap (opened r) (see_same r fs) ∙ opened_same r (see_top r fs)

  mark_same : (o : Option Context) (first : Bool) (n : ℕ) (keep : Bool) (fs : List Frame) → at_mark o first (g n) keep (all fs) ≡ step (at_mark o first n keep fs)
  mark_same None first n keep fs = choose_same first first (at_line (g n) keep (all fs)) (stay (all fs)) (at_line n keep fs) (stay fs) refl (line_same n keep fs) (stay_same fs)
  mark_same (Some c) first n keep fs = opening_same c n keep fs

  semicolon_same : (b keep : Bool) (fs : List Frame) → behind_semicolon b keep (all fs) ≡ all (behind_semicolon b keep fs)
  semicolon_same b keep fs = either_same b (renew keep (all fs)) (all fs) (renew keep fs) fs (renew_same keep fs) refl

  -- a state in the other columns, where the last lexeme stands in column e
  state : ℕ → State → State
  state e st = record { frames = all st.frames; opens = st.opens; semicolon = st.semicolon; line = st.line; breaks = st.breaks; end = record { at = record { line = st.end.at.line; col = e }; byte = st.end.byte } }

  marked_same : (e : ℕ) (st : State) (t : Token) (r : Role) → marked (state e st) (in_column g t) r ≡ step (marked st t r)
  unfolding state
  marked_same e st t r =
      ap (λ z. at_mark (opening_at st.opens r) (is_first_of_line st t) (g t.at.col) (is_branch r) z) (semicolon_same st.semicolon (is_branch r) st.frames) ∙ mark_same (opening_at st.opens r) (is_first_of_line st t) t.at.col (is_branch r) (behind_semicolon st.semicolon (is_branch r) st.frames)

  before_same : (e : ℕ) (st : State) (t : Token) (r : Role) → before (state e st) (in_column g t) r ≡ step (before st t r)
  unfolding step
  before_same e st t r =
      ap (λ (z : Step). and_then z (at_lexeme r (ends_in_semicolon false z.puts) (g t.at.col))) (marked_same e st t r) ∙ then_same (step (marked st t r)) (marked st t r) (at_lexeme r (ends_in_semicolon false (marked st t r).puts) (g t.at.col)) (at_lexeme r (ends_in_semicolon false (marked st t r).puts) t.at.col) refl (lexeme_same r (ends_in_semicolon false (marked st t r).puts) t.at.col)

  puts_same : (e : ℕ) (st : State) (t : Token) (r : Role) → (before (state e st) (in_column g t) r).puts ≡ (before st t r).puts
  unfolding step
  puts_same e st t r = ap (λ (z : Step). z.puts) (before_same e st t r)

  frames_same : (e : ℕ) (st : State) (t : Token) (r : Role) → (before (state e st) (in_column g t) r).frames ≡ all (before st t r).frames
  unfolding step
  frames_same e st t r = ap (λ (z : Step). z.frames) (before_same e st t r)

  token_same : (t : Token) (r : Role) (fs : List Frame) → behind_token (all fs) (in_column g t) r ≡ state (g t.at.col) (behind_token fs t r)
  unfolding state
  token_same t r fs = ap (λ (z : List Frame). let s : State = record { frames = z; opens = opener r; semicolon = is_semicolon_role r; line = t.at.line; breaks = newlines false t.text; end = record { at = record { line = t.at.line; col = g t.at.col }; byte = t.end } } in s) (behind_same r fs)

  behind_state : (e : ℕ) (st : State) (t : Token) (r : Role) → state_behind (state e st) (in_column g t) r ≡ state (g t.at.col) (state_behind st t r)
  behind_state e st t r = ap (λ z. behind_token z (in_column g t) r) (frames_same e st t r) ∙ token_same t r (before st t r).frames

  either_state : (b : Bool) (e : ℕ) (x y u v : State) → x ≡ state e u → y ≡ state e v → (if b then x else y) ≡ state e (if b then u else v)
  either_state true e x y u v p q = p
  either_state false e x y u v p q = q

  pragma_same : (e : ℕ) (st : State) (t : Token) → behind_pragma (state e st) (in_column g t) ≡ state (g t.at.col) (behind_pragma st t)
  unfolding state
  pragma_same e st t = refl

  after_same : (e : ℕ) (st : State) (t : Token) → after (state e st) (in_column g t) ≡ state (g t.at.col) (after st t)
  after_same e st t = either_state (is_pragma t.kind) (g t.at.col) (behind_pragma (state e st) (in_column g t)) (state_behind (state e st) (in_column g t) (role_of t)) (behind_pragma st t) (state_behind st t (role_of t)) (pragma_same e st t) (behind_state e st t (role_of t))

  anywhere_append : (a b : List Token) → map no_column (a ++ b) ≡ map no_column a ++ map no_column b
  anywhere_append [] b = refl
  anywhere_append (t ∷ a) b = ap (λ z. no_column t ∷ z) (anywhere_append a b)

  put_same : (l c d n : ℕ) (ss : List PutSign) → map no_column (map (put_token (record { at = record { line = l; col = c }; byte = n })) ss) ≡ map no_column (map (put_token (record { at = record { line = l; col = d }; byte = n })) ss)
  put_same l c d n [] = refl
  put_same l c d n (s ∷ ss) = ap (λ z. no_column (put_token (record { at = record { line = l; col = d }; byte = n }) s) ∷ z) (put_same l c d n ss)

  lexeme_pieces : (t : Token) (ps qs : List PutSign) → ps ≡ qs → map no_column (map (put_token (spot_of (in_column g t))) ps ++ in_column g t ∷ []) ≡ map no_column (map (put_token (spot_of t)) qs ++ t ∷ [])
  lexeme_pieces t ps qs e =
      ap (λ z. map no_column (map (put_token (spot_of (in_column g t))) z ++ in_column g t ∷ [])) e ∙ anywhere_append (map (put_token (spot_of (in_column g t))) qs) (in_column g t ∷ []) ∙ ap (λ z. z ++ no_column t ∷ []) (put_same t.at.line (g t.at.col) t.at.col t.start qs) ∙ sym (anywhere_append (map (put_token (spot_of t)) qs) (t ∷ []))

  either_tokens : (b : Bool) (x y z w : List Token) → map no_column x ≡ map no_column z → map no_column y ≡ map no_column w → map no_column (if b then x else y) ≡ map no_column (if b then z else w)
  either_tokens true x y z w p q = p
  either_tokens false x y z w p q = q

  pieces_same : (e : ℕ) (st : State) (t : Token) → map no_column (pieces (state e st) (in_column g t)) ≡ map no_column (pieces st t)
  pieces_same e st t = either_tokens (is_pragma t.kind) (in_column g t ∷ []) (map (put_token (spot_of (in_column g t))) (before (state e st) (in_column g t) (role_of t)).puts ++ in_column g t ∷ []) (t ∷ []) (map (put_token (spot_of t)) (before st t (role_of t)).puts ++ t ∷ []) refl (lexeme_pieces t (before (state e st) (in_column g t) (role_of t)).puts (before st t (role_of t)).puts (puts_same e st t (role_of t)))

  last_same : (o : Option Context) (fs : List Frame) → at_last o (all fs) ≡ step (at_last o fs)
  last_same None fs = stay_same fs
  last_same (Some c) fs = ap (λ z. at_opening c z false (all fs)) (sym k.zero) ∙ opening_same c 0 false fs

  end_signs : (e : ℕ) (st : State) → (at_end (state e st)).puts ≡ (at_end st).puts
  unfolding state step aim
  end_signs e st = ap (λ (z : Step). z.puts) (then_same (at_last st.opens (all st.frames)) (at_last st.opens st.frames) (down_to target.End) (down_to target.End) (last_same st.opens st.frames) (down_same target.End))

  from_same : (e : ℕ) (st : State) (ts : List Token) → map no_column (braced_from (state e st) (map (in_column g) ts)) ≡ map no_column (braced_from st ts)
  unfolding state
  from_same e st [] = ap (λ z. map no_column (map (put_token (state e st).end) z)) (end_signs e st) ∙ put_same st.end.at.line e st.end.at.col st.end.byte (at_end st).puts
  from_same e st (t ∷ ts) =
      anywhere_append (pieces (state e st) (in_column g t)) (braced_from (after (state e st) (in_column g t)) (map (in_column g) ts)) ∙ ap (λ z. z ++ map no_column (braced_from (after (state e st) (in_column g t)) (map (in_column g) ts))) (pieces_same e st t) ∙ ap (λ z. map no_column (pieces st t) ++ map no_column (braced_from z (map (in_column g) ts))) (after_same e st t) ∙ ap (λ z. map no_column (pieces st t) ++ z) (from_same (g t.at.col) (after st t) ts) ∙ sym (anywhere_append (pieces st t) (braced_from (after st t) ts))

  start_same : state 1 start ≡ start
  unfolding state all one
  start_same = ap (λ (z : ℕ). let s : State = record { frames = frame sort.Context context.Outside z ∷ []; opens = Some context.Start; semicolon = false; line = 0; breaks = 0; end = record { at = record { line = 1; col = 1 }; byte = 0 } } in s) k.zero

  pub signs_stay : (ts : List Token) → map no_column (braced (map (in_column g) ts)) ≡ map no_column (braced ts)
  signs_stay ts = ap (λ z. map no_column (braced_from z (map (in_column g) ts))) (sym start_same) ∙ from_same 1 start ts
