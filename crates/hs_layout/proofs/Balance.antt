-- The braces that are put balance.
use Rattle.std.specs.Prelude.{map, if◌then◌else◌, nat_lt, Option, Some, None}
use Rattle.std.proofs.Common.{◌≡◌, ℕ, zero, suc, Bool, true, false, List, [], ◌∷◌, ◌++◌, refl, ap, sym, ◌∙◌, append_assoc}
use Rattle.std.proofs.lemmas.List.{append-nil}
use Rattle.hs_syntax.specs.declared.token.Token.{Token}
use Rattle.hs_syntax.specs.declared.token.PutSign.{PutSign}
use Rattle.hs_syntax.specs.declared.token.PutSign.TheVariants.{Open, Semicolon, Close}
use Rattle.hs_layout.specs.declared.role.Role.{Role}
use Rattle.hs_layout.specs.declared.role.Role.TheVariants as role
use Rattle.hs_layout.specs.declared.frame.Context.{Context}
use Rattle.hs_layout.specs.declared.frame.Sort.TheVariants as sort
use Rattle.hs_layout.specs.declared.frame.Note.{Note}
use Rattle.hs_layout.specs.declared.frame.Note.TheVariants as note
use Rattle.hs_layout.specs.declared.frame.Frame.{Frame}
use Rattle.hs_layout.specs.declared.look.Look.{Look}
use Rattle.hs_layout.specs.declared.look.Look.TheVariants.{Here, On, Nowhere}
use Rattle.hs_layout.specs.declared.look.Target.{Target}
use Rattle.hs_layout.specs.declared.look.Target.TheVariants as target
use Rattle.hs_layout.specs.declared.state.Spot.{Spot}
use Rattle.hs_layout.specs.declared.state.State.{State}
use Rattle.hs_layout.specs.Roles.{role_of, is_branch}
use Rattle.hs_layout.specs.Frames.{is_block, is_put}
use Rattle.hs_layout.specs.Looks.{look_at, reaches}
use Rattle.hs_layout.specs.Rules.{Step, stay, and_then, closing, down_past, down_to, indentation, frame, with_notes, no_notes, see_top, counted, is_context, renew, is_level, punctuate, at_line, at_opening, pop, at_end_of, answered, at_answer, at_comma, at_where, without_let, is_direct, at_sign, at_bar, at_lexeme, add_note, opened, behind_lexeme}
use Rattle.hs_layout.specs.Braced.{bars_opening, opening_at, at_mark, ends_in_semicolon, is_first_of_line, behind_semicolon, marked, before, opener, put_token, spot_of, is_pragma, pieces, state_behind, after, at_last, at_end, braced_from, start, braced, behind_pragma}
use Rattle.hs_layout.specs.Source.{IsSource, sign_in, signs, level}

-- how many blocks are open
blocks : List Frame → ℕ
blocks [] = 0
blocks (f ∷ fs) = if is_put f then suc (blocks fs) else blocks fs

-- what a rule puts leads from the blocks before to those behind
Sound : List Frame → Step → Type 0
Sound fs s = level (blocks fs) s.puts ≡ Some (blocks s.frames)

level_append : (a b : List PutSign) (n k : ℕ) → level n a ≡ Some k → level n (a ++ b) ≡ level k b
level_append [] b n k e = let h : n ≡ k = cc in ap (λ z. level z b) h
level_append (Open ∷ a) b n k e = level_append a b (suc n) k e
level_append (Semicolon ∷ a) b zero k e = level_append a b zero k e
level_append (Semicolon ∷ a) b (suc n) k e = level_append a b (suc n) k e
level_append (Close ∷ a) b zero k e = cc
level_append (Close ∷ a) b (suc n) k e = level_append a b n k e

choose : (b : Bool) (fs : List Frame) (s t : Step) → Sound fs s → Sound fs t → Sound fs (if b then s else t)
choose true fs s t p q = p
choose false fs s t p q = q

stays : (fs : List Frame) → Sound fs (stay fs)
unfolding Sound
stays fs = refl

-- the same signs, with as many blocks behind them
instead : (fs gs : List Frame) (s : Step) → Sound fs s → blocks gs ≡ blocks s.frames → Sound fs (record { puts = s.puts; frames = gs })
unfolding Sound
instead fs gs s h e = h ∙ ap Some (sym e)

then_sound : (fs : List Frame) (s : Step) (rule : List Frame → Step) → Sound fs s → Sound s.frames (rule s.frames) → Sound fs (and_then s rule)
unfolding Sound
then_sound fs s rule h k = level_append s.puts (rule s.frames).puts (blocks fs) (blocks s.frames) h ∙ k

closes : (b : Bool) (n : ℕ) → level (if b then suc n else n) (if b then Close ∷ [] else []) ≡ Some n
closes true n = refl
closes false n = refl

past : (l : Look) (f : Frame) (fs : List Frame) (s : Step) → Sound fs s → Sound (f ∷ fs) (down_past l f fs s)
unfolding Sound blocks
past On f fs s h = level_append (closing f) s.puts (blocks (f ∷ fs)) (blocks fs) (closes (is_put f) (blocks fs)) ∙ h
past Here f fs s h = refl
past Nowhere f fs s h = refl

down_sound : (t : Target) (fs : List Frame) → Sound fs (down_to t fs)
down_sound t [] = stays []
down_sound t (f ∷ fs) = past (look_at t f) f fs (down_to t fs) (down_sound t fs)

same_see : (r : Role) (fs : List Frame) → blocks (see_top r fs) ≡ blocks fs
unfolding blocks
same_see r [] = refl
same_see r (f ∷ fs) = refl

same_notes : (change : List Note → List Note) (fs : List Frame) → blocks (with_notes change fs) ≡ blocks fs
unfolding blocks
same_notes change [] = refl
same_notes change (f ∷ fs) = refl

either : (b : Bool) (fs gs : List Frame) (n : ℕ) → blocks fs ≡ n → blocks gs ≡ n → blocks (if b then fs else gs) ≡ n
either true fs gs n p q = p
either false fs gs n p q = q

same_renew : (keep : Bool) (fs : List Frame) → blocks (renew keep fs) ≡ blocks fs
unfolding blocks
same_renew keep [] = refl
same_renew keep (f ∷ fs) = ap (λ z. if is_put f then suc z else z) (either (is_context f.sort) fs (renew keep fs) (blocks fs) refl (same_renew keep fs))

popped : (b : Bool) (r : Role) (f : Frame) (fs : List Frame) → is_put f ≡ b → blocks (if b then f ∷ fs else see_top r fs) ≡ blocks (f ∷ fs)
unfolding blocks
popped true r f fs e = refl
popped false r f fs e = same_see r fs ∙ sym (ap (λ z. if z then suc (blocks fs) else blocks fs) e)

same_pop : (fs : List Frame) → blocks (pop fs) ≡ blocks fs
same_pop [] = refl
same_pop (f ∷ fs) = popped (is_put f) (counted f.sort f.seen.lead) f fs refl

semi : (n : ℕ) → level n (Semicolon ∷ []) ≡ Some n
semi zero = refl
semi (suc n) = refl

semicolon : (fs gs : List Frame) → blocks gs ≡ blocks fs → Sound fs (record { puts = Semicolon ∷ []; frames = gs })
unfolding Sound
semicolon fs gs e = semi (blocks fs) ∙ ap Some (sym e)

punctuate_sound : (n : ℕ) (keep : Bool) (fs : List Frame) → Sound fs (punctuate n keep fs)
punctuate_sound n keep fs = choose (is_level n fs) fs (record { puts = Semicolon ∷ []; frames = renew keep fs }) (stay fs) (semicolon fs (renew keep fs) (same_renew keep fs)) (stays fs)

line_sound : (n : ℕ) (keep : Bool) (fs : List Frame) → Sound fs (at_line n keep fs)
line_sound n keep fs = then_sound fs (down_to (target.Deeper n) fs) (punctuate n keep) (down_sound (target.Deeper n) fs) (punctuate_sound n keep (down_to (target.Deeper n) fs).frames)

opens_one : (c : Context) (n : ℕ) (fs : List Frame) → is_block c ≡ true → Sound fs (record { puts = Open ∷ []; frames = frame sort.Context c n ∷ fs })
unfolding Sound blocks
opens_one c n fs h = ap (λ z. Some (if z then suc (blocks fs) else blocks fs)) (sym h)

opens_none : (fs : List Frame) → Sound fs (record { puts = Open ∷ Close ∷ []; frames = fs })
unfolding Sound
opens_none fs = refl

opening_sound : (c : Context) (n : ℕ) (keep : Bool) (fs : List Frame) → is_block c ≡ true → Sound fs (at_opening c n keep fs)
opening_sound c n keep fs h = choose (nat_lt (indentation fs) n) fs (record { puts = Open ∷ []; frames = frame sort.Context c n ∷ fs }) (and_then (record { puts = Open ∷ Close ∷ []; frames = fs }) (at_line n keep)) (opens_one c n fs h) (then_sound fs (record { puts = Open ∷ Close ∷ []; frames = fs }) (at_line n keep) (opens_none fs) (line_sound n keep fs))

-- a rule that closes blocks and then changes the nearest frame without a brace
changed : (t : Target) (fs gs : List Frame) → blocks gs ≡ blocks (down_to t fs).frames → Sound fs (record { puts = (down_to t fs).puts; frames = gs })
changed t fs gs e = instead fs gs (down_to t fs) (down_sound t fs) e

end_sound : (t : Target) (fs : List Frame) → Sound fs (at_end_of t fs)
end_sound t fs = choose (reaches t fs) fs (record { puts = (down_to t fs).puts; frames = pop (down_to t fs).frames }) (stay (see_top role.Other fs)) (changed t fs (pop (down_to t fs).frames) (same_pop (down_to t fs).frames)) (instead fs (see_top role.Other fs) (stay fs) (stays fs) (same_see role.Other fs))

answer_sound : (n : Note) (fs : List Frame) → Sound fs (at_answer n fs)
answer_sound n fs = choose (reaches (target.Note n) fs) fs (record { puts = (down_to (target.Note n) fs).puts; frames = with_notes (answered n) (down_to (target.Note n) fs).frames }) (stay fs) (changed (target.Note n) fs (with_notes (answered n) (down_to (target.Note n) fs).frames) (same_notes (answered n) (down_to (target.Note n) fs).frames)) (stays fs)

comma_sound : (fs : List Frame) → Sound fs (at_comma fs)
comma_sound fs = choose (reaches target.Comma fs) fs (record { puts = (down_to target.Comma fs).puts; frames = with_notes no_notes (down_to target.Comma fs).frames }) (stay fs) (changed target.Comma fs (with_notes no_notes (down_to target.Comma fs).frames) (same_notes no_notes (down_to target.Comma fs).frames)) (stays fs)

where_sound : (semicolon : Bool) (n : ℕ) (fs : List Frame) → Sound fs (at_where semicolon n fs)
where_sound semicolon n fs = then_sound fs (if semicolon then down_to (target.From n) fs else stay fs) (down_to target.Do) (choose semicolon fs (down_to (target.From n) fs) (stay fs) (down_sound (target.From n) fs) (stays fs)) (down_sound target.Do (if semicolon then down_to (target.From n) fs else stay fs).frames)

sign_sound : (s : Step) (fs : List Frame) → Sound fs s → Sound fs (at_sign s fs)
sign_sound s fs h = choose (is_direct fs) fs (record { puts = s.puts; frames = with_notes without_let s.frames }) (stay fs) (instead fs (with_notes without_let s.frames) s h (same_notes without_let s.frames)) (stays fs)

bar_sound : (fs : List Frame) → Sound fs (at_bar fs)
bar_sound fs = sign_sound (if reaches target.Inner fs then down_to target.Bar fs else stay fs) fs (choose (reaches target.Inner fs) fs (down_to target.Bar fs) (stay fs) (down_sound target.Bar fs) (stays fs))

lexeme_sound : (r : Role) (b : Bool) (n : ℕ) (fs : List Frame) → Sound fs (at_lexeme r b n fs)
lexeme_sound role.CloseParen b n fs = end_sound target.Paren fs
lexeme_sound role.CloseBracket b n fs = end_sound target.Bracket fs
lexeme_sound role.CloseBrace b n fs = end_sound target.Brace fs
lexeme_sound role.Of b n fs = answer_sound note.Case fs
lexeme_sound role.Then b n fs = answer_sound note.If fs
lexeme_sound role.Else b n fs = answer_sound note.Then fs
lexeme_sound role.In b n fs = answer_sound note.Let fs
lexeme_sound role.Comma b n fs = comma_sound fs
lexeme_sound role.Where b n fs = where_sound b n fs
lexeme_sound role.Bar b n fs = bar_sound fs
lexeme_sound role.Equals b n fs = sign_sound (down_to target.Equals fs) fs (down_sound target.Equals fs)
lexeme_sound role.Arrow b n fs = sign_sound (down_to target.Arrow fs) fs (down_sound target.Arrow fs)
lexeme_sound _ b n fs = stays fs

same_opened : (r : Role) (fs : List Frame) → blocks (opened r fs) ≡ blocks fs
unfolding blocks
same_opened role.Let fs = same_notes (add_note note.Let) fs
same_opened role.Case fs = same_notes (add_note note.Case) fs
same_opened role.If fs = same_notes (add_note note.If) fs
same_opened _ fs = refl

same_behind : (r : Role) (fs : List Frame) → blocks (behind_lexeme r fs) ≡ blocks fs
same_behind r fs = same_opened r (see_top r fs) ∙ same_see r fs

-- what opens is a block
pub OpensBlock : Option Context → Type 0
OpensBlock None = Unit {0}
OpensBlock (Some c) = is_block c ≡ true

pub is_opened : (c : Context) → OpensBlock (Some c) → is_block c ≡ true
unfolding OpensBlock
is_opened c h = h

pub opens_at : (b : Bool) (c : Context) → is_block c ≡ true → OpensBlock (if b then None else Some c)
unfolding OpensBlock
opens_at true c h = tt
opens_at false c h = h

pub opening_is : (o : Option Context) (r : Role) → OpensBlock o → OpensBlock (opening_at o r)
unfolding OpensBlock
opening_is None r h = tt
opening_is (Some c) r h = opens_at (bars_opening c r) c h

pub opener_is : (r : Role) → OpensBlock (opener r)
unfolding OpensBlock
opener_is role.Let = refl
opener_is role.Where = refl
opener_is role.Do = refl
opener_is role.Of = refl
opener_is _ = tt

mark_sound : (o : Option Context) (first : Bool) (n : ℕ) (keep : Bool) (fs : List Frame) → OpensBlock o → Sound fs (at_mark o first n keep fs)
unfolding OpensBlock
mark_sound None first n keep fs h = choose first fs (at_line n keep fs) (stay fs) (line_sound n keep fs) (stays fs)
mark_sound (Some c) first n keep fs h = opening_sound c n keep fs h

same_semicolon : (b keep : Bool) (fs : List Frame) → blocks (behind_semicolon b keep fs) ≡ blocks fs
same_semicolon b keep fs = either b (renew keep fs) fs (blocks fs) (same_renew keep fs) refl

-- from as many blocks
from : (fs gs : List Frame) (s : Step) → blocks fs ≡ blocks gs → Sound fs s → Sound gs s
unfolding Sound
from fs gs s e h = ap (λ z. level z s.puts) (sym e) ∙ h

marked_sound : (st : State) (t : Token) (r : Role) → OpensBlock st.opens → Sound st.frames (marked st t r)
marked_sound st t r h =
    let fs : List Frame = behind_semicolon st.semicolon (is_branch r) st.frames in
    from fs st.frames (marked st t r) (same_semicolon st.semicolon (is_branch r) st.frames) (mark_sound (opening_at st.opens r) (is_first_of_line st t) t.at.col (is_branch r) fs (opening_is st.opens r h))

before_sound : (st : State) (t : Token) (r : Role) → OpensBlock st.opens → Sound st.frames (before st t r)
before_sound st t r h = then_sound st.frames (marked st t r) (at_lexeme r (ends_in_semicolon false (marked st t r).puts) t.at.col) (marked_sound st t r h) (lexeme_sound r (ends_in_semicolon false (marked st t r).puts) t.at.col (marked st t r).frames)

signs_append : (a b : List Token) → signs (a ++ b) ≡ signs a ++ signs b
signs_append [] b = refl
signs_append (t ∷ a) b = ap (λ z. sign_in t.put ++ z) (signs_append a b) ∙ sym (append_assoc (sign_in t.put) (signs a) (signs b))

signs_puts : (s : Spot) (ss : List PutSign) → signs (map (put_token s) ss) ≡ ss
signs_puts s [] = refl
signs_puts s (x ∷ ss) = ap (λ z. x ∷ z) (signs_puts s ss)

none_in : (t : Token) → t.put ≡ None → signs (t ∷ []) ≡ []
none_in t h = ap (λ z. sign_in z ++ []) h

signs_lexeme : (s : Spot) (ss : List PutSign) (t : Token) → t.put ≡ None → signs (map (put_token s) ss ++ t ∷ []) ≡ ss
signs_lexeme s ss t h = signs_append (map (put_token s) ss) (t ∷ []) ∙ ap (λ z. z ++ signs (t ∷ [])) (signs_puts s ss) ∙ ap (λ z. ss ++ z) (none_in t h) ∙ append-nil ss

-- a token, and the state behind it
Leads : State → List Token → State → Type 0
Leads st a st2 = (level (blocks st.frames) (signs a) ≡ Some (blocks st2.frames)) × OpensBlock st2.opens

part : (b : Bool) (st st1 st2 : State) (x a : List Token) → Leads st x st1 → Leads st a st2 → Leads st (if b then x else a) (if b then st1 else st2)
part true st st1 st2 x a p q = p
part false st st1 st2 x a p q = q

lexeme_leads : (st : State) (t : Token) (r : Role) → OpensBlock st.opens → t.put ≡ None → Leads st (map (put_token (spot_of t)) (before st t r).puts ++ t ∷ []) (state_behind st t r)
unfolding Leads Sound
lexeme_leads st t r o h =
    (ap (λ z. level (blocks st.frames) z) (signs_lexeme (spot_of t) (before st t r).puts t h) ∙ before_sound st t r o ∙ ap Some (sym (same_behind r (before st t r).frames)), opener_is r)

pragma_leads : (st : State) (t : Token) → OpensBlock st.opens → t.put ≡ None → Leads st (t ∷ []) (behind_pragma st t)
unfolding Leads
pragma_leads st t o h = (ap (λ z. level (blocks st.frames) z) (none_in t h), o)

piece_leads : (st : State) (t : Token) → OpensBlock st.opens → t.put ≡ None → Leads st (pieces st t) (after st t)
piece_leads st t o h = part (is_pragma t.kind) st (behind_pragma st t) (state_behind st t (role_of t)) (t ∷ []) (map (put_token (spot_of t)) (before st t (role_of t)).puts ++ t ∷ []) (pragma_leads st t o h) (lexeme_leads st t (role_of t) o h)

all_gone : (fs : List Frame) → (down_to target.End fs).frames ≡ []
all_gone [] = refl
all_gone (f ∷ fs) = all_gone fs

last_sound : (o : Option Context) (fs : List Frame) → OpensBlock o → Sound fs (at_last o fs)
unfolding OpensBlock
last_sound None fs h = stays fs
last_sound (Some c) fs h = opening_sound c 0 false fs h

none_open : Some (blocks []) ≡ Some 0
unfolding blocks
none_open = refl

ends : (st : State) → OpensBlock st.opens → level (blocks st.frames) (at_end st).puts ≡ Some 0
unfolding Sound
ends st o = then_sound st.frames (at_last st.opens st.frames) (down_to target.End) (last_sound st.opens st.frames o) (down_sound target.End (at_last st.opens st.frames).frames) ∙ ap (λ z. Some (blocks z)) (all_gone (at_last st.opens st.frames).frames) ∙ none_open

level_from : (st : State) (ts : List Token) → OpensBlock st.opens → IsSource ts → level (blocks st.frames) (signs (braced_from st ts)) ≡ Some 0
unfolding Leads
level_from st [] o h = ap (λ z. level (blocks st.frames) z) (signs_puts st.end (at_end st).puts) ∙ ends st o
level_from st (t ∷ ts) o h =
    let k : Leads st (pieces st t) (after st t) = piece_leads st t o h.0 in
    ap (λ z. level (blocks st.frames) z) (signs_append (pieces st t) (braced_from (after st t) ts)) ∙ level_append (signs (pieces st t)) (signs (braced_from (after st t) ts)) (blocks st.frames) (blocks (after st t).frames) k.0 ∙ level_from (after st t) ts k.1 h.1

pub started : OpensBlock start.opens
unfolding OpensBlock
started = refl

pub balance : (ts : List Token) → IsSource ts → level 0 (signs (braced ts)) ≡ Some 0
unfolding blocks
balance ts h = level_from start ts started h
