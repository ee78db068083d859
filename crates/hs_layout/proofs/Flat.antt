-- Within written braces no indentation holds.
use Rattle.std.specs.Prelude.{if◌then◌else◌, nat_lt, nat_eq, ◌&&◌, Option, Some, None}
use Rattle.std.proofs.Common.{◌≡◌, ℕ, Bool, true, false, List, [], ◌∷◌, refl, ap, sym, ◌∙◌, arith}
use Rattle.std.proofs.lemmas.Bool.Decides.{nat_tests}
use Rattle.hs_syntax.specs.declared.token.Token.{Token}
use Rattle.hs_syntax.specs.declared.token.PutSign.TheVariants.{Open, Semicolon, Close}
use Rattle.hs_layout.specs.declared.role.Role.{Role}
use Rattle.hs_layout.specs.declared.role.Role.TheVariants as role
use Rattle.hs_layout.specs.declared.frame.Context.{Context}
use Rattle.hs_layout.specs.declared.frame.Context.TheVariants as context
use Rattle.hs_layout.specs.declared.frame.Sort.{Sort}
use Rattle.hs_layout.specs.declared.frame.Sort.TheVariants as sort
use Rattle.hs_layout.specs.declared.frame.Note.{Note}
use Rattle.hs_layout.specs.declared.frame.Note.TheVariants as note
use Rattle.hs_layout.specs.declared.frame.Frame.{Frame}
use Rattle.hs_layout.specs.declared.look.Look.{Look}
use Rattle.hs_layout.specs.declared.look.Look.TheVariants.{Here, On, Nowhere}
use Rattle.hs_layout.specs.declared.look.Target.{Target}
use Rattle.hs_layout.specs.declared.look.Target.TheVariants as target
use Rattle.hs_layout.specs.declared.state.State.{State}
use Rattle.hs_layout.specs.Roles.{role_of, is_branch}
use Rattle.hs_layout.specs.Frames.{is_block, is_put}
use Rattle.hs_layout.specs.Looks.{on_if, look_at, reaches}
use Rattle.hs_layout.specs.Rules.{Step, stay, and_then, down_past, down_to, indentation, context_of, frame, with_notes, no_notes, see_top, counted, is_context, renew, is_level, punctuate, at_line, at_opening, pop, at_end_of, answered, at_where, without_let, is_direct, at_sign, at_bar, at_lexeme, add_note, opened}
use Rattle.hs_layout.specs.Braced.{opening_at, at_mark, ends_in_semicolon, is_first_of_line, behind_semicolon, marked, before, is_pragma, state_behind, after, start, behind_pragma}
use Rattle.hs_layout.specs.Written.{behind_all, IsInBraces, PutsNoLine}
use Rattle.hs_layout.proofs.Balance.{OpensBlock, is_opened, opening_is, opener_is, started}

-- a context that is no block has no indentation
IsFlat : Context → ℕ → Type 0
IsFlat c n = is_block c ≡ false → n ≡ 0

Flat : List Frame → Type 0
Flat [] = Unit {0}
Flat (f ∷ fs) = IsFlat f.context f.column × Flat fs

choose : (b : Bool) (s t : Step) → Flat s.frames → Flat t.frames → Flat (if b then s else t).frames
choose true s t p q = p
choose false s t p q = q

either : (b : Bool) (x y : List Frame) → Flat x → Flat y → Flat (if b then x else y)
either true x y p q = p
either false x y p q = q

past : (l : Look) (f : Frame) (fs : List Frame) (s : Step) → Flat (f ∷ fs) → Flat s.frames → Flat (down_past l f fs s).frames
past On f fs s h k = k
past Here f fs s h k = h
past Nowhere f fs s h k = h

down_flat : (t : Target) (fs : List Frame) → Flat fs → Flat (down_to t fs).frames
unfolding Flat
down_flat t [] h = tt
down_flat t (f ∷ fs) h = past (look_at t f) f fs (down_to t fs) h (down_flat t fs h.1)

see_flat : (r : Role) (fs : List Frame) → Flat fs → Flat (see_top r fs)
unfolding Flat
see_flat r [] h = tt
see_flat r (f ∷ fs) h = h

notes_flat : (change : List Note → List Note) (fs : List Frame) → Flat fs → Flat (with_notes change fs)
unfolding Flat
notes_flat change [] h = tt
notes_flat change (f ∷ fs) h = h

renew_flat : (keep : Bool) (fs : List Frame) → Flat fs → Flat (renew keep fs)
unfolding Flat
renew_flat keep [] h = tt
renew_flat keep (f ∷ fs) h = (h.0, either (is_context f.sort) fs (renew keep fs) h.1 (renew_flat keep fs h.1))

pop_flat : (fs : List Frame) → Flat fs → Flat (pop fs)
unfolding Flat
pop_flat [] h = tt
pop_flat (f ∷ fs) h = either (is_put f) (f ∷ fs) (see_top (counted f.sort f.seen.lead) fs) h (see_flat (counted f.sort f.seen.lead) fs h.1)

punctuate_flat : (n : ℕ) (keep : Bool) (fs : List Frame) → Flat fs → Flat (punctuate n keep fs).frames
punctuate_flat n keep fs h = choose (is_level n fs) (record { puts = Semicolon ∷ []; frames = renew keep fs }) (stay fs) (renew_flat keep fs h) h

line_flat : (n : ℕ) (keep : Bool) (fs : List Frame) → Flat fs → Flat (at_line n keep fs).frames
line_flat n keep fs h = punctuate_flat n keep (down_to (target.Deeper n) fs).frames (down_flat (target.Deeper n) fs h)

block_flat : (c : Context) (n : ℕ) → is_block c ≡ true → IsFlat c n
unfolding IsFlat
block_flat c n h = λ e. absurd (let x : true ≡ false = sym h ∙ e in cc)

opening_flat : (c : Context) (n : ℕ) (keep : Bool) (fs : List Frame) → is_block c ≡ true → Flat fs → Flat (at_opening c n keep fs).frames
unfolding Flat
opening_flat c n keep fs b h = choose (nat_lt (indentation fs) n) (record { puts = Open ∷ []; frames = frame sort.Context c n ∷ fs }) (and_then (record { puts = Open ∷ Close ∷ []; frames = fs }) (at_line n keep)) (block_flat c n b, h) (line_flat n keep fs h)

end_flat : (t : Target) (fs : List Frame) → Flat fs → Flat (at_end_of t fs).frames
end_flat t fs h = choose (reaches t fs) (record { puts = (down_to t fs).puts; frames = pop (down_to t fs).frames }) (stay (see_top role.Other fs)) (pop_flat (down_to t fs).frames (down_flat t fs h)) (see_flat role.Other fs h)

rule_flat : (t : Target) (change : List Note → List Note) (fs : List Frame) → Flat fs → Flat (if reaches t fs then record { puts = (down_to t fs).puts; frames = with_notes change (down_to t fs).frames } else stay fs).frames
rule_flat t change fs h = choose (reaches t fs) (record { puts = (down_to t fs).puts; frames = with_notes change (down_to t fs).frames }) (stay fs) (notes_flat change (down_to t fs).frames (down_flat t fs h)) h

where_flat : (b : Bool) (n : ℕ) (fs : List Frame) → Flat fs → Flat (at_where b n fs).frames
where_flat b n fs h = down_flat target.Do (if b then down_to (target.From n) fs else stay fs).frames (choose b (down_to (target.From n) fs) (stay fs) (down_flat (target.From n) fs h) h)

sign_flat : (s : Step) (fs : List Frame) → Flat s.frames → Flat fs → Flat (at_sign s fs).frames
sign_flat s fs h k = choose (is_direct fs) (record { puts = s.puts; frames = with_notes without_let s.frames }) (stay fs) (notes_flat without_let s.frames h) k

bar_flat : (fs : List Frame) → Flat fs → Flat (at_bar fs).frames
bar_flat fs h = sign_flat (if reaches target.Inner fs then down_to target.Bar fs else stay fs) fs (choose (reaches target.Inner fs) (down_to target.Bar fs) (stay fs) (down_flat target.Bar fs h) h) h

lexeme_flat : (r : Role) (b : Bool) (n : ℕ) (fs : List Frame) → Flat fs → Flat (at_lexeme r b n fs).frames
lexeme_flat role.CloseParen b n fs h = end_flat target.Paren fs h
lexeme_flat role.CloseBracket b n fs h = end_flat target.Bracket fs h
lexeme_flat role.CloseBrace b n fs h = end_flat target.Brace fs h
lexeme_flat role.Of b n fs h = rule_flat (target.Note note.Case) (answered note.Case) fs h
lexeme_flat role.Then b n fs h = rule_flat (target.Note note.If) (answered note.If) fs h
lexeme_flat role.Else b n fs h = rule_flat (target.Note note.Then) (answered note.Then) fs h
lexeme_flat role.In b n fs h = rule_flat (target.Note note.Let) (answered note.Let) fs h
lexeme_flat role.Comma b n fs h = rule_flat target.Comma no_notes fs h
lexeme_flat role.Where b n fs h = where_flat b n fs h
lexeme_flat role.Bar b n fs h = bar_flat fs h
lexeme_flat role.Equals b n fs h = sign_flat (down_to target.Equals fs) fs (down_flat target.Equals fs h) h
lexeme_flat role.Arrow b n fs h = sign_flat (down_to target.Arrow fs) fs (down_flat target.Arrow fs h) h
lexeme_flat _ b n fs h = h

inner_flat : (s : Sort) (fs : List Frame) → Flat fs → Flat (frame s (context_of fs) (indentation fs) ∷ fs)
unfolding Flat IsFlat
inner_flat s [] h = (λ e. refl, tt)
inner_flat s (f ∷ fs) h = (h.0, h)

brace_flat : (fs : List Frame) → Flat fs → Flat (frame sort.Context context.Brace 0 ∷ fs)
unfolding Flat IsFlat
brace_flat fs h = (λ e. refl, h)

opened_flat : (r : Role) (fs : List Frame) → Flat fs → Flat (opened r fs)
opened_flat role.OpenParen fs h = inner_flat sort.Paren fs h
opened_flat role.OpenBracket fs h = inner_flat sort.Bracket fs h
opened_flat role.OpenBrace fs h = brace_flat fs h
opened_flat role.Let fs h = notes_flat (add_note note.Let) fs h
opened_flat role.Case fs h = notes_flat (add_note note.Case) fs h
opened_flat role.If fs h = notes_flat (add_note note.If) fs h
opened_flat _ fs h = h

mark_flat : (o : Option Context) (first : Bool) (n : ℕ) (keep : Bool) (fs : List Frame) → OpensBlock o → Flat fs → Flat (at_mark o first n keep fs).frames
mark_flat None first n keep fs o h = choose first (at_line n keep fs) (stay fs) (line_flat n keep fs h) h
mark_flat (Some c) first n keep fs o h = opening_flat c n keep fs (is_opened c o) h

semicolon_flat : (b keep : Bool) (fs : List Frame) → Flat fs → Flat (behind_semicolon b keep fs)
semicolon_flat b keep fs h = either b (renew keep fs) fs (renew_flat keep fs h) h

before_flat : (st : State) (t : Token) (r : Role) → OpensBlock st.opens → Flat st.frames → Flat (before st t r).frames
before_flat st t r o h =
    let fs : List Frame = behind_semicolon st.semicolon (is_branch r) st.frames in
    lexeme_flat r (ends_in_semicolon false (marked st t r).puts) t.at.col (marked st t r).frames (mark_flat (opening_at st.opens r) (is_first_of_line st t) t.at.col (is_branch r) fs (opening_is st.opens r o) (semicolon_flat st.semicolon (is_branch r) st.frames h))

-- what holds of each state
IsGood : State → Type 0
IsGood st = OpensBlock st.opens × Flat st.frames

part : (b : Bool) (x y : State) → IsGood x → IsGood y → IsGood (if b then x else y)
part true x y p q = p
part false x y p q = q

lexeme_good : (st : State) (t : Token) (r : Role) → IsGood st → IsGood (state_behind st t r)
unfolding IsGood
lexeme_good st t r h = (opener_is r, opened_flat r (see_top r (before st t r).frames) (see_flat r (before st t r).frames (before_flat st t r h.0 h.1)))

after_good : (st : State) (t : Token) → IsGood st → IsGood (after st t)
unfolding IsGood
after_good st t h = part (is_pragma t.kind) (behind_pragma st t) (state_behind st t (role_of t)) h (lexeme_good st t (role_of t) h)

all_good : (st : State) (ts : List Token) → IsGood st → IsGood (behind_all st ts)
all_good st [] h = h
all_good st (t ∷ ts) h = all_good (after st t) ts (after_good st t h)

start_good : IsGood start
unfolding IsGood Flat IsFlat
start_good = (started, (λ e. refl, tt))

none_below : (n : ℕ) → nat_lt n 0 ≡ false
none_below n = grind (arith, nat_tests)

stopped : (b : Bool) (f : Frame) (fs : List Frame) (s : Step) → b ≡ false → down_past (on_if b) f fs s ≡ stay (f ∷ fs)
stopped b f fs s e = ap (λ z. down_past (on_if z) f fs s) e

unpunctuated : (b : Bool) (n : ℕ) (keep : Bool) (s : Step) (fs : List Frame) → b ≡ false → (if b then s else stay fs) ≡ stay fs
unpunctuated b n keep s fs e = ap (λ z. if z then s else stay fs) e

no_line : (n : ℕ) (keep : Bool) (f : Frame) (fs : List Frame) → f.context ≡ context.Brace → f.column ≡ 0 → (at_line n keep (f ∷ fs)).puts ≡ []
no_line n keep f fs c e =
    let low : nat_lt n f.column ≡ false = ap (λ z. nat_lt n z) e ∙ none_below n in
    let level : is_level n (f ∷ fs) ≡ false = ap (λ z. is_block z && nat_eq n f.column) c in
    ap (λ z. (and_then z (punctuate n keep)).puts) (stopped (nat_lt n f.column) f fs (down_to (target.Deeper n) fs) low) ∙ ap (λ (z : Step). z.puts) (unpunctuated (is_level n (f ∷ fs)) n keep (record { puts = Semicolon ∷ []; frames = renew keep (f ∷ fs) }) (f ∷ fs) level)

line_off : (n : ℕ) (keep : Bool) (fs : List Frame) → Flat fs → context_of fs ≡ context.Brace → (at_line n keep fs).puts ≡ []
unfolding Flat IsFlat
line_off n keep [] h c = absurd (let x : context.Outside ≡ context.Brace = c in cc)
line_off n keep (f ∷ fs) h c = no_line n keep f fs c (h.0 (ap is_block c))

mark_off : (first : Bool) (n : ℕ) (keep : Bool) (fs : List Frame) → Flat fs → context_of fs ≡ context.Brace → (at_mark None first n keep fs).puts ≡ []
mark_off true n keep fs h c = line_off n keep fs h c
mark_off false n keep fs h c = refl

renew_context : (keep : Bool) (fs : List Frame) → context_of (renew keep fs) ≡ context_of fs
renew_context keep [] = refl
renew_context keep (f ∷ fs) = refl

semicolon_context : (b keep : Bool) (fs : List Frame) → context_of (behind_semicolon b keep fs) ≡ context_of fs
semicolon_context true keep fs = renew_context keep fs
semicolon_context false keep fs = refl

pub layout_off : (ts : List Token) (t : Token) → IsInBraces (behind_all start ts) → PutsNoLine (behind_all start ts) t
unfolding IsGood
layout_off ts t c o =
    let st : State = behind_all start ts in
    let good : IsGood st = all_good start ts start_good in
    let keep : Bool = is_branch (role_of t) in
    let fs : List Frame = behind_semicolon st.semicolon keep st.frames in
    ap (λ z. (at_mark z (is_first_of_line st t) t.at.col keep fs).puts) o ∙ mark_off (is_first_of_line st t) t.at.col keep fs (semicolon_flat st.semicolon keep st.frames good.1) (semicolon_context st.semicolon keep st.frames ∙ c)
