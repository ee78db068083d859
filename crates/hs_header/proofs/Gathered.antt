-- Lexeme after lexeme, up to what decides the header.
use Rattle.std.proofs.Common.{◌≡◌, ℕ, ◌+◌, ◌*◌, ◌<◌, ◌≤◌, Bool, true, false, cond, List, [], ◌∷◌, ◌++◌, length, Option, Some, None, refl, ap, sym, subst, ◌∙◌, arith, append_assoc, append-nil}
use Rattle.std.specs.Prelude.{Result, Ok, Err, MatchResult, IfOk}
use Rattle.std.proofs.lemmas.Bool.{cond-true, cond-false}
use Rattle.mk_base.specs.declared.place.Pos.{Pos}
use Rattle.mk_base.specs.Places.{first_place}
use Rattle.hs_syntax.specs.declared.header.Header.{Header}
use Rattle.hs_syntax.specs.declared.token.Token.{Token}
use Rattle.hs_lex.specs.declared.cursor.Cursor.{Cursor}
use Rattle.hs_lex.specs.Slow.{Lexed, lexemes_from, lexemes_of}
use Rattle.hs_lex.specs.Tokens.{IsNext, IsBlank, IsBadFrom, IsReached}
use Rattle.hs_lex.specs.Tokens as lex
use Rattle.hs_lex.proofs.Kept.{next_kept, blank_kept, bad_kept, next_near}
use Rattle.hs_layout.specs.Braced.{is_pragma, pieces, after}
use Rattle.hs_layout.specs.Braced as layout
use Rattle.hs_header.specs.declared.expected.Stop.TheVariants.{At, End}
use Rattle.hs_header.specs.declared.extension.Flags.{Flags}
use Rattle.hs_header.specs.declared.header_err.HeaderErr.{HeaderErr}
use Rattle.hs_header.specs.declared.header_err.HeaderErr.TheVariants as error
use Rattle.hs_header.specs.declared.stage.Stage.{Stage}
use Rattle.hs_header.specs.declared.stage.Stage.TheVariants as stage
use Rattle.hs_header.specs.declared.read.Front.{Front}
use Rattle.hs_header.specs.declared.read.Progress.{Progress}
use Rattle.hs_header.specs.declared.read.Ending.{Ending}
use Rattle.hs_header.specs.declared.read.Ending.TheVariants as ending
use Rattle.hs_header.specs.declared.read.Gathered.{Gathered}
use Rattle.hs_header.specs.Extensions.{Word, flags_of, IsUnknown}
use Rattle.hs_header.specs.Readers.{Answer, header_at}
use Rattle.hs_header.specs.Stages.{behind, is_over}
use Rattle.mk_base.specs.declared.memory.NoMemory.{NoMemory}
use Rattle.hs_header.specs.Reading.{Fault, leading, behind_leading, flags_by, on_flags, no_flags, end_signs, laid, last_of, flagged, whole, concluded, behind_pragmas, with_flags, header_of, IsFault}
use Rattle.hs_header.specs.Gathering.{in_front, rest_in_front, rest_of, IsPassed, with_lexeme, IsOver, IsTurned, bad_at, IsEnded, Gathers, IsGathered, conclusion}
use Rattle.hs_header.proofs.Told.{Tokens}
use Rattle.hs_header.proofs.Exact.{goes_on, stops_on}
use Rattle.hs_header.proofs.Calm.{behind_both, not_cut, not_last}

-- In front

abbrev front_kept : Flags → Pos → Lexed → Result Header Fault
front_kept f p r = in_front f p r.0 r.1

-- the flags of the pragmas in front, and then all lexemes
abbrev parted : Flags → Pos → Tokens → Option Pos → Result Header Fault
parted f p ts bad = with_flags (flags_by f (leading ts)) (λ g. concluded g bad (last_of p ts) (header_at (laid layout.start (behind_leading ts) bad)))

-- over a pragma, and before another lexeme
over_one : (r : Result Flags Word) (p : Pos) (t : Token) (ts : Tokens) (bad : Option Pos) → ((g : Flags) → in_front g t.at ts bad ≡ parted g t.at ts bad)
    → with_flags r (λ g. in_front g t.at ts bad) ≡ with_flags (on_flags r (λ g. flags_by g (leading ts))) (λ g. concluded g bad (last_of t.at ts) (header_at (laid layout.start (behind_leading ts) bad)))
over_one (Ok g) p t ts bad h = h g
over_one (Err w) p t ts bad h = refl

by_kind : (f : Flags) (p : Pos) (t : Token) (ts : Tokens) (bad : Option Pos) (b : Bool) → ((g : Flags) → in_front g t.at ts bad ≡ parted g t.at ts bad)
    → cond b (with_flags (flags_of f t) (λ g. in_front g t.at ts bad)) (behind_pragmas p (t ∷ ts) bad f)
    ≡ with_flags (flags_by f (cond b (t ∷ leading ts) [])) (λ g. concluded g bad (last_of t.at ts) (header_at (laid layout.start (cond b (behind_leading ts) (t ∷ ts)) bad)))
by_kind f p t ts bad true h = over_one (flags_of f t) p t ts bad h
by_kind f p t ts bad false h = refl

front_is : (f : Flags) (p : Pos) (ts : Tokens) (bad : Option Pos) → in_front f p ts bad ≡ parted f p ts bad
unfolding in_front
front_is f p [] bad = refl
front_is f p (t ∷ ts) bad = by_kind f p t ts bad (is_pragma t.kind) (λ g. front_is g t.at ts bad)

pub all_is : (source : List ℕ) (k : Front) → k.cursor ≡ lex.start source → k.flags ≡ no_flags → k.last ≡ first_place → rest_in_front source k ≡ header_of source
unfolding header_of
all_is source k e f g =
    ap (λ c. front_kept k.flags k.last (lexemes_from source c)) e ∙ ap (λ v. front_kept v k.last (lexemes_of source)) f ∙ ap (λ p. front_kept no_flags p (lexemes_of source)) g
    ∙ front_is no_flags first_place (lexemes_of source).0 (lexemes_of source).1

-- over the first lexeme
one_first : (source : List ℕ) (k : Front) (t : Token) (c : Cursor) → IsNext source k.cursor t c → rest_in_front source k ≡ in_front k.flags k.last (t ∷ (lexemes_from source c).0) (lexemes_from source c).1
one_first source k t c x = ap (front_kept k.flags k.last) (next_kept source k.cursor c t x)

pragma_first : (source : List ℕ) (k : Front) (t : Token) (c : Cursor) → IsNext source k.cursor t c → is_pragma t.kind ≡ true
    → rest_in_front source k ≡ with_flags (flags_of k.flags t) (λ g. in_front g t.at (lexemes_from source c).0 (lexemes_from source c).1)
unfolding in_front
pragma_first source k t c x e = one_first source k t c x ∙ cond-true _ _ _ e

pub passes : (source : List ℕ) (k : Front) (t : Token) (c : Cursor) (g : Flags) → IsNext source k.cursor t c → IsReached source c → is_pragma t.kind ≡ true → flags_of k.flags t ≡ Ok g
    → IsPassed source k (Some (record { cursor = c; flags = g; last = t.at }))
passes source k t c g x r e f =
    (sym (pragma_first source k t c x e ∙ ap (λ o. with_flags o (λ g. in_front g t.at (lexemes_from source c).0 (lexemes_from source c).1)) f), r, omega (arith, ap (λ (r : Lexed). length r.0) (next_kept source k.cursor c t x)))

kept_behind : Flags → Pos → Lexed → Result Header Fault
kept_behind f p r = behind_pragmas p r.0 r.1 f

pub stands : (source : List ℕ) (k : Front) (t : Token) (c : Cursor) → IsNext source k.cursor t c → is_pragma t.kind ≡ false → rest_of source k ≡ rest_in_front source k
unfolding in_front kept_behind
stands source k t c x e = ap (kept_behind k.flags k.last) (next_kept source k.cursor c t x) ∙ sym (one_first source k t c x ∙ cond-false _ _ _ e)

pub stands_last : (source : List ℕ) (k : Front) → IsBlank source k.cursor → rest_of source k ≡ rest_in_front source k
unfolding in_front kept_behind
stands_last source k x = ap (kept_behind k.flags k.last) (blank_kept source k.cursor x) ∙ sym (ap (front_kept k.flags k.last) (blank_kept source k.cursor x))

pub stands_bad : (source : List ℕ) (k : Front) (at : Pos) → IsBadFrom source k.cursor at → rest_of source k ≡ rest_in_front source k
unfolding in_front kept_behind
stands_bad source k at x = ap (kept_behind k.flags k.last) (bad_kept source k.cursor at x) ∙ sym (ap (front_kept k.flags k.last) (bad_kept source k.cursor at x))

pub unknown_is : (source : List ℕ) (k : Front) (t : Token) (c : Cursor) (e : HeaderErr) → IsNext source k.cursor t c → is_pragma t.kind ≡ true → IsUnknown (flags_of k.flags t) e → IsFault (rest_in_front source k) e
unknown_is source k t c (error.Lexeme at) x h u = absurd u
unknown_is source k t c (error.Grammar at) x h u = absurd u
unknown_is source k t c (error.Extension at name) x h u = pragma_first source k t c x h ∙ ap (λ o. with_flags o (λ g. in_front g t.at (lexemes_from source c).0 (lexemes_from source c).1)) u
unknown_is source k t c error.NoMemory x h u = tt

-- where a lexeme stands
pub near_line : (source : List ℕ) (c d : Cursor) (t : Token) → length source ≤ 1048576 → IsReached source c → IsNext source c t d → t.at.line + length t.text + 1 < 4294967296
near_line source c d t s r x = let n = next_near source c d t r x in omega (arith, n.line, n.size)

pub near_column : (source : List ℕ) (c d : Cursor) (t : Token) → length source ≤ 1048576 → IsReached source c → IsNext source c t d → t.at.col + 8 * length t.text + 8 < 4294967296
near_column source c d t s r x = let n = next_near source c d t r x in omega (arith, n.column, n.size)

-- Behind the front

-- what a reading from the front has gathered so far
pub record IsOn (source : List ℕ) (front : Front) (k : Progress) : Type 0 where
  pub reached : IsReached source k.cursor
  pub bad : (lexemes_from source front.cursor).1 ≡ (lexemes_from source k.cursor).1
  pub tokens : laid layout.start (lexemes_from source front.cursor).0 (lexemes_from source front.cursor).1 ≡ k.tokens ++ laid k.layout (lexemes_from source k.cursor).0 (lexemes_from source k.cursor).1
  pub stage : behind stage.Line k.tokens ≡ k.stage
  pub last : last_of front.last (lexemes_from source front.cursor).0 ≡ last_of k.last (lexemes_from source k.cursor).0

pub begins_on : (source : List ℕ) (front : Front) (k : Progress) → IsReached source front.cursor → k ≡ record { cursor = front.cursor; layout = layout.start; tokens = []; stage = stage.Line; last = front.last } → IsOn source front k
begins_on source front k r e =
    subst (IsOn source front) (sym e) (record { reached = r; bad = refl; tokens = refl; stage = refl; last = refl })

kept_laid : Progress → Lexed → Tokens
kept_laid k r = k.tokens ++ laid k.layout r.0 r.1

kept_last : Pos → Lexed → Pos
kept_last p r = last_of p r.0

kept_bad : Lexed → Option Pos
kept_bad r = r.1

-- behind one lexeme more
pub goes_over : (source : List ℕ) (front : Front) (old new : Progress) → IsOn source front old → IsOver source old new → IsOn source front new
unfolding kept_laid kept_last kept_bad
goes_over source front old new on (t, reached, kept, same) =
    let r : Lexed = lexemes_from source new.cursor in
    let tokens : new.tokens ≡ old.tokens ++ pieces old.layout t = ap (λ (k : Progress). k.tokens) same in
    let laying : new.layout ≡ after old.layout t = ap (λ (k : Progress). k.layout) same in
    let staging : new.stage ≡ behind old.stage (pieces old.layout t) = ap (λ (k : Progress). k.stage) same in
    let lasting : new.last ≡ t.at = ap (λ (k : Progress). k.last) same in
    record {
      reached = reached;
      bad = on.bad ∙ ap kept_bad kept;
      tokens = on.tokens ∙ ap (kept_laid old) kept ∙ sym (append_assoc old.tokens (pieces old.layout t) (laid (after old.layout t) r.0 r.1))
          ∙ ap (λ z. z ++ laid (after old.layout t) r.0 r.1) (sym tokens) ∙ ap (λ st. new.tokens ++ laid st r.0 r.1) (sym laying);
      stage = ap (behind stage.Line) tokens ∙ behind_both stage.Line old.tokens (pieces old.layout t) ∙ ap (λ s. behind s (pieces old.layout t)) on.stage ∙ sym staging;
      last = on.last ∙ ap (kept_last old.last) kept ∙ ap (λ p. last_of p r.0) (sym lasting);
    }

pub over_less : (source : List ℕ) (old new : Progress) → IsOver source old new → length (lexemes_from source new.cursor).0 < length (lexemes_from source old.cursor).0
over_less source old new (t, reached, kept, same) = omega (arith, ap (λ (r : Lexed). length r.0) kept)

-- where it ends
pub ends_on : (source : List ℕ) (front : Front) (old new : Progress) (e : Ending) (g : Gathered) → IsOn source front old → IsTurned source old (Some e) new → IsEnded new e g → IsGathered front.last (lexemes_from source front.cursor) g
unfolding kept_laid kept_last kept_bad
ends_on source front old new ending.Input g on (kept, same) (u, v, w) =
    let ts : g.tokens ≡ old.tokens ++ end_signs old.layout None = u ∙ ap (λ (k : Progress). k.tokens ++ end_signs k.layout None) same in
    subst (Gathers front.last (lexemes_from source front.cursor) g.tokens g.last) (sym v)
    (on.bad ∙ ap kept_bad kept, ts ∙ sym (on.tokens ∙ ap (kept_laid old) kept), w ∙ ap (λ (k : Progress). k.last) same ∙ sym (on.last ∙ ap (kept_last old.last) kept))
ends_on source front old new (ending.Bad at) g on (kept, same) (u, v, w) =
    let ts : g.tokens ≡ old.tokens ++ [] = u ∙ ap (λ (k : Progress). k.tokens ++ []) same in
    subst (Gathers front.last (lexemes_from source front.cursor) g.tokens g.last) (sym v) (on.bad ∙ ap kept_bad kept, ts ∙ sym (on.tokens ∙ ap (kept_laid old) kept))
ends_on source front old new ending.Decided g on (is_over, over) (u, v, w) =
    let k : IsOn source front new = goes_over source front old new on is_over in
    let ts : g.tokens ≡ new.tokens = u ∙ append-nil new.tokens in
    subst (Gathers front.last (lexemes_from source front.cursor) g.tokens g.last) (sym v)
    (ap (behind stage.Line) ts ∙ k.stage ∙ over, (laid new.layout (lexemes_from source new.cursor).0 (lexemes_from source new.cursor).1, k.tokens ∙ ap (λ z. z ++ laid new.layout (lexemes_from source new.cursor).0 (lexemes_from source new.cursor).1) (sym ts)))

-- What was gathered tells the header.

same_last : (f : Flags) (at p q : Pos) (o : Answer Header) → concluded f (Some at) p o ≡ concluded f (Some at) q o
same_last f at p q (Ok y) = refl
same_last f at p q (Err (At to)) = refl
same_last f at p q (Err End) = refl

whole_some : (bad : Option Pos) (t : Token) (b : Tokens) (h : Header) → Ok h ≡ whole bad (t ∷ b) h
whole_some None t b h = refl
whole_some (Some at) t b h = refl

-- with more tokens behind
with_more : (f : Flags) (bad : Option Pos) (p q : Pos) (a more : Tokens) → behind stage.Line a ≡ stage.Over → (o : Answer Header) → header_at a ≡ o → concluded f None p o ≡ concluded f bad q (header_at (a ++ more))
with_more f bad p q a more s (Ok (h, [])) e = absurd (not_last a h s e)
with_more f bad p q a more s (Ok (h, t ∷ b)) e = whole_some bad t (b ++ more) (flagged h f) ∙ ap (concluded f bad q) (sym (goes_on a more h t b e))
with_more f bad p q a more s (Err (At at)) e = ap (concluded f bad q) (sym (stops_on a more at e))
with_more f bad p q a more s (Err End) e = absurd (not_cut a s e)

tells_by : (f : Flags) (last p : Pos) (r : Lexed) (ts : Tokens) (e : Ending) → Gathers last r ts p e → concluded f (bad_at e) p (header_at ts) ≡ behind_pragmas last r.0 r.1 f
tells_by f last p r ts ending.Input (n, i, j) = ap (λ b. concluded f b p (header_at ts)) (sym n) ∙ ap (λ z. concluded f r.1 p (header_at z)) i ∙ ap (λ q. concluded f r.1 q (header_at (laid layout.start r.0 r.1))) j
tells_by f last p r ts (ending.Bad at) (n, i) =
    same_last f at p (last_of last r.0) (header_at ts) ∙ ap (λ b. concluded f b (last_of last r.0) (header_at ts)) (sym n) ∙ ap (λ z. concluded f r.1 (last_of last r.0) (header_at z)) i
tells_by f last p r ts ending.Decided (s, (more, i)) = with_more f r.1 p (last_of last r.0) ts more s (header_at ts) refl ∙ ap (λ z. concluded f r.1 (last_of last r.0) (header_at z)) (sym i)

pub tells_rest : (source : List ℕ) (front : Front) (g : Gathered) → IsGathered front.last (lexemes_from source front.cursor) g → conclusion front.flags g ≡ rest_of source front
tells_rest source front g x = tells_by front.flags front.last g.last (lexemes_from source front.cursor) g.tokens g.ending x

-- an answer about one thing is one about its like
pub told_as : (r : Result Header HeaderErr) (o p : Result Header Fault) → o ≡ p → MatchResult r (λ h. o ≡ Ok h) (λ e. IsFault o e) → MatchResult r (λ h. p ≡ Ok h) (λ e. IsFault p e)
told_as r o p e x = subst (λ z. MatchResult r (λ h. z ≡ Ok h) (λ e. IsFault z e)) e x

-- one lexeme further
pub over_lexeme : (source : List ℕ) (old k : Progress) (t : Token) (c : Cursor) → IsNext source old.cursor t c → IsReached source c → k ≡ with_lexeme old t → IsOver source old (record k { cursor = c })
over_lexeme source old k t c x r e = (t, r, next_kept source old.cursor c t x, ap (λ (k : Progress). record k { cursor = old.cursor }) e)

pub over_by : (s : Stage) → is_over s ≡ true → s ≡ stage.Over
over_by stage.Over e = refl
over_by _ e = absurd (cc)

pub at_blank : (source : List ℕ) (c : Cursor) → IsBlank source c → lexemes_from source c ≡ ([], None)
at_blank source c x = blank_kept source c x

pub at_bad : (source : List ℕ) (c : Cursor) (at to : Pos) → IsBadFrom source c at → to ≡ at → lexemes_from source c ≡ ([], Some to)
at_bad source c at to x e = bad_kept source c at x ∙ ap (λ p. ([], Some p)) (sym e)

pub turned : (source : List ℕ) (old new : Progress) (o p : Option Ending) → o ≡ p → IsTurned source old o new → IsTurned source old p new
turned source old new o p e x = subst (λ z. IsTurned source old z new) e x

pub ends_if : (source : List ℕ) (front : Front) (old new : Progress) (e : Ending) (r : Result Gathered NoMemory) → IfOk r (λ g. IsEnded new e g) → IsOn source front old → IsTurned source old (Some e) new → IfOk r (λ g. IsGathered front.last (lexemes_from source front.cursor) g)
ends_if source front old new e (Ok g) x on t = ends_on source front old new e g on t x
ends_if source front old new e (Err f) x on t = tt

pub fault_as : (e : HeaderErr) (o p : Result Header Fault) → o ≡ p → IsFault o e → IsFault p e
fault_as e o p d x = subst (λ z. IsFault z e) d x
