-- A whole source, and its laws.
use Rattle.std.specs.Prelude.{Option, Some, None, Result, Ok, Err}
use Rattle.std.proofs.Common.{◌≡◌, ◌≢◌, ⊎_elim, ℕ, ◌<◌, ◌≤◌, drop, false, List, [], ◌∷◌, ◌++◌, length, refl, ap, sym, ◌∙◌, subst, arith, length-drop}
use Rattle.mk_base.specs.declared.place.Pos.{Pos}
use Rattle.source_text.specs.Characters.{characters}
use Rattle.source_text.proofs.Characters.{some, none}
use Rattle.hs_syntax.specs.declared.token.Token.{Token}
use Rattle.hs_syntax.specs.declared.token.TokenKind.{TokenKind}
use Rattle.hs_lex.specs.declared.class.Class.{Class}
use Rattle.hs_lex.specs.declared.item.Kind.{Kind}
use Rattle.hs_lex.specs.declared.cursor.Stage.{Stage}
use Rattle.hs_lex.specs.declared.cursor.Stage.TheVariants.{Front}
use Rattle.hs_lex.specs.declared.cursor.Cursor.{Cursor}
use Rattle.hs_lex.specs.declared.cursor.Turn.{Turn}
use Rattle.hs_lex.specs.declared.lex.LexErr.{LexErr}
use Rattle.hs_lex.specs.declared.lex.LexErr.TheVariants.{NoLexeme}
use Rattle.hs_lex.specs.Lexemes.{BeginsWith}
use Rattle.hs_lex.specs.Items.{IsItem, NoItem, Leads}
use Rattle.hs_lex.specs.Tokens.{Counts, IsTurn, moved, Tokens, tokens_at, token_at, ahead, position, IsRead, start, Lexes, IsFirstBad, IsReached, IsNext, IsBlank, IsBadFrom, IsWithin, IsTaken, IsPlace}
use Rattle.hs_lex.proofs.Dispatch.{same_item, end_none, begins, first}
use Rattle.hs_lex.proofs.Reached.{read_push, read_none, turn_within, drop_none, span_some, start_within, read_join}

pub at_end : (source : List ℕ) (c : Cursor) → c.at ≡ length source → ahead source c ≡ []
at_end source c e = ap characters (drop_none source c.at (omega arith)) ∙ none

pub not_end : (source : List ℕ) (c : Cursor) → (c.at ≡ length source → ⊥) → c.at ≤ length source → ahead source c ≢ []
not_end source c never w e = never (let k = ap length (some (drop c.at source) e) in omega (arith, k, length-drop c.at source))

long : (k : Class) (l : List ℕ) → BeginsWith k l → 0 < length l
long k [] h = absurd h
long k (c ∷ l) h = omega arith

-- a turn leads on
pub turn_far : (source : List ℕ) (c : Cursor) (k : Kind) (l : List ℕ) (t : Turn) (cs rest : List ℕ) → IsItem k l cs rest → IsTurn c k l t → c.at < t.to.at
turn_far source c k l t cs rest x y = omega (arith, ap (λ (d : Cursor). d.at) y.1, span_some l (long (first k) l (begins k l rest x.is)))

-- laws
same_counts : (s : Stage) (k : Kind) (l : List ℕ) (a b : Option TokenKind) (m n : Stage) → Counts s k l a m → Counts s k l b n → (a ≡ b) × (m ≡ n)
same_counts s k l (Some a) (Some b) m n x y = (ap Some (x.1 ∙ sym y.1), x.2 ∙ sym y.2)
same_counts s k l None None m n x y = (refl, x.1 ∙ sym y.1)
same_counts s k l (Some a) None m n x y = absurd (y.0 x.0)
same_counts s k l None (Some b) m n x y = absurd (x.0 y.0)

turned : Option TokenKind → Cursor → Turn
turned k d = record { kind = k; to = d }

pub same_turn : (c : Cursor) (k : Kind) (l : List ℕ) (t u : Turn) → IsTurn c k l t → IsTurn c k l u → t ≡ u
unfolding turned
same_turn c k l t u x y =
    let s = same_counts c.stage k l t.kind u.kind t.to.stage u.to.stage x.0 y.0 in
    let to : t.to ≡ u.to = x.1 ∙ ap (moved c l) s.1 ∙ sym y.1 in
    ap (λ z. turned z t.to) s.0 ∙ ap (turned u.kind) to

same_tokens : (source : List ℕ) (is : List (Kind × List ℕ)) (c : Cursor) (ts us : List Token) (d e : Cursor) → Tokens source c is ts d → Tokens source c is us e → (ts ≡ us) × (d ≡ e)
same_tokens source [] c ts us d e x y = (x.0 ∙ sym y.0, x.1 ∙ sym y.1)
same_tokens source (i ∷ is) c ts us d e x y =
    let t = same_turn c i.0 i.1 x.0 y.0 x.2 y.2 in
    let s = same_tokens source is x.0.to x.1 y.1 d e x.4 (subst (λ (z : Turn). Tokens source z.to is y.1 e) (sym t) y.4) in
    (x.3 ∙ ap (λ z. tokens_at source c x.0.kind x.0.to ++ z) s.0 ∙ ap (λ (z : Turn). tokens_at source c z.kind z.to ++ y.1) t ∙ sym y.3, s.1)

same_leads : (is js : List (Kind × List ℕ)) (cs a b : List ℕ) → Leads is cs a → NoItem a → Leads js cs b → NoItem b → is ≡ js
same_leads [] [] cs a b h n k m = refl
same_leads [] (j ∷ js) cs a b h n k m = absurd (n j.0 j.1 k.0 k.1.is (sym h ∙ k.1.front))
same_leads (i ∷ is) [] cs a b h n k m = absurd (m i.0 i.1 h.0 h.1.is (sym k ∙ h.1.front))
same_leads (i ∷ is) (j ∷ js) cs a b h n k m =
    let s = same_item i.0 j.0 i.1 j.1 cs h.0 k.0 h.1 k.1 in
    let t = same_leads is js h.0 a b h.2 n (subst (λ z. Leads js z b) (sym s.2) k.2) m in
    let e : i ≡ j = pair i j s.0 s.1 in
    ap (λ z. z ∷ is) e ∙ ap (λ z. j ∷ z) t
  where
    pair : (x y : Kind × List ℕ) → x.0 ≡ y.0 → x.1 ≡ y.1 → x ≡ y
    pair (a, b) (c, d) e f = cc

-- two readings from one cursor that can't go on are one
pub same_read : (source : List ℕ) (c : Cursor) (is js : List (Kind × List ℕ)) (ts us : List Token) (d e : Cursor) → IsRead source c is ts d → NoItem (ahead source d) → IsRead source c js us e → NoItem (ahead source e)
    → (ts ≡ us) × (d ≡ e)
same_read source c is js ts us d e x n y m =
    let s = same_leads is js (ahead source c) (ahead source d) (ahead source e) x.leads n y.leads m in
    same_tokens source js c ts us d e (subst (λ z. Tokens source c z ts d) s x.tokens) y.tokens

pub unique : (source : List ℕ) (ts us : List Token) → Lexes source ts → Lexes source us → ts ≡ us
unique source ts us x y = (same_read source (start source) x.0 y.0 ts us x.1 y.1 x.2 (end_none _ x.3) y.2 (end_none _ y.3)).0

pub one_bad : (source : List ℕ) (a b : Pos) → IsFirstBad source a → IsFirstBad source b → a ≡ b
one_bad source a b x y =
    let s = same_read source (start source) x.0 y.0 x.1 y.1 x.2 y.2 x.3 x.4.1 y.3 y.4.1 in
    x.4.2 ∙ ap (λ (c : Cursor). position c.place) s.1 ∙ sym y.4.2

pub either : (source : List ℕ) (ts : List Token) (a : Pos) → Lexes source ts → IsFirstBad source a → ⊥
either source ts a x y =
    let s = same_read source (start source) x.0 y.0 ts y.1 x.1 y.2 x.2 (end_none _ x.3) y.3 y.4.1 in
    y.4.0 (ap (ahead source) (sym s.1) ∙ x.3)

-- the loop over a whole source
pub Read : List ℕ → List Token → Cursor → Type 0
Read source ts c = (is : List (Kind × List ℕ)) × IsRead source (start source) is ts c

pub more : (source : List ℕ) (ts next : List Token) (c : Cursor) (t : Turn) → Read source ts c → IsTaken source c t → next ≡ ts ++ tokens_at source c t.kind t.to → Read source next t.to
unfolding Read
more source ts next c t h x e = subst (λ z. Read source z t.to) (sym e) (h.0 ++ (x.0, x.1) ∷ [], read_push source (start source) c h.0 x.0 x.1 ts t h.1 x.2 x.3)

pub taken_within : (source : List ℕ) (c : Cursor) (t : Turn) → IsTaken source c t → IsWithin source c → IsWithin source t.to
taken_within source c t x w = turn_within source c x.0 x.1 t x.2 x.3 w

pub taken_far : (source : List ℕ) (c : Cursor) (t : Turn) → IsTaken source c t → c.at < t.to.at
taken_far source c t x = turn_far source c x.0 x.1 t (ahead source c) (ahead source t.to) x.2 x.3

pub nothing_read : (source : List ℕ) (ts : List Token) (c : Cursor) → ts ≡ [] → c ≡ start source → Read source ts c
unfolding Read
nothing_read source ts c e f = ([], subst (λ z. IsRead source (start source) [] z c) (sym e) (subst (λ z. IsRead source (start source) [] [] z) (sym f) (read_none source (start source))))

pub at_start : (source : List ℕ) (c : Cursor) → c ≡ start source → IsWithin source c
at_start source c e = subst (IsWithin source) (sym e) (start_within source)

pub all : (source : List ℕ) (ts : List Token) (c : Cursor) → Read source ts c → c.at ≡ length source → Lexes source ts
unfolding Read
all source ts c h e = (h.0, c, h.1, at_end source c e)

pub bad : (source : List ℕ) (ts : List Token) (c : Cursor) (at : Pos) → Read source ts c → NoItem (ahead source c) → (c.at ≡ length source → ⊥) → IsWithin source c → at ≡ position c.place → IsFirstBad source at
unfolding Read
bad source ts c at h never some w e = (h.0, ts, c, h.1, (not_end source c some w.0, never, e))

-- the loop to the next token
pub Past : List ℕ → Cursor → Cursor → Type 0
Past source from c = (is : List (Kind × List ℕ)) × IsRead source from is [] c

pub past_none : (source : List ℕ) (c : Cursor) → Past source c c
unfolding Past
past_none source c = ([], read_none source c)

pub past_more : (source : List ℕ) (from c : Cursor) (t : Turn) → Past source from c → IsTaken source c t → t.kind ≡ None → Past source from t.to
unfolding Past
past_more source from c t h x e =
    let r : IsRead source from (h.0 ++ (x.0, x.1) ∷ []) ([] ++ tokens_at source c t.kind t.to) t.to = read_push source from c h.0 x.0 x.1 [] t h.1 x.2 x.3 in
    (h.0 ++ (x.0, x.1) ∷ [], subst (λ z. IsRead source from (h.0 ++ (x.0, x.1) ∷ []) z t.to) (ap (λ k. tokens_at source c k t.to) e) r)

pub found : (source : List ℕ) (from c d : Cursor) (t : Turn) (kind : TokenKind) (k : Token) → Past source from c → IsTaken source c t → t.kind ≡ Some kind → k ≡ token_at source c kind t.to → t.to ≡ d → IsNext source from k d
unfolding Past
found source from c d t kind k h x e f g =
    let r : IsRead source c ((x.0, x.1) ∷ []) ([] ++ tokens_at source c t.kind t.to) t.to = read_push source c c [] x.0 x.1 [] t (read_none source c) x.2 x.3 in
    let r : IsRead source c ((x.0, x.1) ∷ []) (k ∷ []) t.to = subst (λ z. IsRead source c ((x.0, x.1) ∷ []) z t.to) (ap (λ z. tokens_at source c z t.to) e ∙ ap (λ z. z ∷ []) (sym f)) r in
    (h.0, c, (x.0, x.1), h.1, subst (λ z. IsRead source c ((x.0, x.1) ∷ []) (k ∷ []) z) g r)

pub next_reached : (source : List ℕ) (c d : Cursor) (t : Token) → IsReached source c → IsNext source c t d → IsReached source d
next_reached source c d t h x =
    let one = read_join source h.0 x.0 (start source) c x.1 h.1 [] h.2 x.3 in
    (h.0 ++ x.0 ++ (x.2 ∷ []), (h.1 ++ []) ++ (t ∷ []), read_join source (h.0 ++ x.0) (x.2 ∷ []) (start source) x.1 d (h.1 ++ []) (t ∷ []) one x.4)

pub past_all : (source : List ℕ) (from c : Cursor) → Past source from c → c.at ≡ length source → IsBlank source from
unfolding Past
past_all source from c h e = (h.0, c, h.1, at_end source c e)

pub past_bad : (source : List ℕ) (from c : Cursor) (at : Pos) → Past source from c → NoItem (ahead source c) → (c.at ≡ length source → ⊥) → IsWithin source c → at ≡ position c.place → IsBadFrom source from at
unfolding Past
past_bad source from c at h never some w e = (h.0, c, h.1, (not_end source c some w.0, never, e))

-- the parts of an answer
pub parts : {A B E : Type 0} → (a t : A) (b d : B) → ◌≡◌ {A = Result (Option (A × B)) E} (Ok (Some (a, b))) (Ok (Some (t, d))) → (a ≡ t) × (b ≡ d)
parts {A} {B} a t b d e = let q : (a, b) ≡ (t, d) = cc in (ap (λ (z : A × B). z.0) q, ap (λ (z : A × B). z.1) q)

pub part : {A E : Type 0} → (a t : A) → ◌≡◌ {A = Result (Option A) E} (Ok (Some a)) (Ok (Some t)) → a ≡ t
part a t e = cc

pub fault : {A : Type 0} → (a b : Pos) → ◌≡◌ {A = Result A LexErr} (Err (NoLexeme a)) (Err (NoLexeme b)) → a ≡ b
fault a b e = cc

-- the way to the cursor behind so many bytes
pub Toward : List ℕ → Cursor → Cursor → Type 0
Toward source cursor c = (js : List (Kind × List ℕ)) × (us : List Token) × IsRead source cursor js us c

pub toward_start : (source : List ℕ) (cursor c : Cursor) (at : ℕ) → cursor ≡ start source → IsPlace source at c → Toward source cursor c
unfolding Toward
toward_start source cursor c at e h = subst (λ z. (js : List (Kind × List ℕ)) × (us : List Token) × IsRead source z js us c) (sym e) h.0

-- a reading doesn't go back
read_far : (source : List ℕ) (is : List (Kind × List ℕ)) (c d : Cursor) (cs rest : List ℕ) (ts : List Token) → Leads is cs rest → Tokens source c is ts d → c.at ≤ d.at
read_far source [] c d cs rest ts h k = omega (arith, ap (λ (z : Cursor). z.at) k.1)
read_far source (i ∷ is) c d cs rest ts h k = omega (arith, turn_far source c i.0 i.1 k.0 cs h.0 h.1 k.2, read_far source is k.0.to d h.0 rest k.1 h.2 k.4)

-- a place is not behind a cursor that isn't behind its byte
place_bound : (source : List ℕ) (at : ℕ) (c cursor : Cursor) → IsPlace source at c → (start source).at ≤ cursor.at → at ≤ cursor.at → c.at ≤ cursor.at
place_bound source at c cursor h s b = ⊎_elim (λ e. omega arith) (λ e. omega (arith, ap (λ (z : Cursor). z.at) e.1)) h.1

place_ahead : (source : List ℕ) (at : ℕ) (c cursor : Cursor) → IsPlace source at c → cursor.at < at → cursor.at < c.at
place_ahead source at c cursor h b = ⊎_elim (λ e. omega arith) (λ e. absurd (omega (arith, e.0))) h.1

pub reached_start : (source : List ℕ) (c : Cursor) → c ≡ start source → IsReached source c
reached_start source c e = ([], [], subst (λ z. IsRead source (start source) [] [] z) (sym e) (read_none source (start source)))

pub reached_more : (source : List ℕ) (c : Cursor) (t : Turn) → IsReached source c → IsTaken source c t → IsReached source t.to
reached_more source c t h x = (h.0 ++ (x.0, x.1) ∷ [], h.1 ++ tokens_at source c t.kind t.to, read_push source (start source) c h.0 x.0 x.1 h.1 t h.2 x.2 x.3)

toward_by : (source : List ℕ) (cursor c : Cursor) (t : Turn) (js : List (Kind × List ℕ)) (us : List Token) → IsTaken source cursor t → Leads js (ahead source cursor) (ahead source c) → Tokens source cursor js us c → cursor.at < c.at → Toward source t.to c
unfolding Toward
toward_by source cursor c t [] us x h k b = absurd (omega (arith, ap (λ (z : Cursor). z.at) k.1))
toward_by source cursor c t (j ∷ js) us x h k b =
    let s = same_item x.0 j.0 x.1 j.1 (ahead source cursor) (ahead source t.to) h.0 x.2 h.1 in
    let turn : IsTurn cursor x.0 x.1 k.0 = subst (λ z. IsTurn cursor z x.1 k.0) (sym s.0) (subst (λ z. IsTurn cursor j.0 z k.0) (sym s.1) k.2) in
    let same : k.0 ≡ t = same_turn cursor x.0 x.1 k.0 t turn x.3 in
    (js, k.1, record { leads = subst (λ z. Leads js z (ahead source c)) (sym s.2) h.2; tokens = subst (λ (z : Turn). Tokens source z.to js k.1 c) same k.4 })

pub toward_more : (source : List ℕ) (at : ℕ) (cursor c : Cursor) (t : Turn) → cursor.at < at → IsTaken source cursor t → IsPlace source at c → Toward source cursor c → Toward source t.to c
unfolding Toward
toward_more source at cursor c t b x p h = toward_by source cursor c t h.0 h.1 x h.2.leads h.2.tokens (place_ahead source at c cursor p b)

arrived_by : (source : List ℕ) (cursor c : Cursor) (js : List (Kind × List ℕ)) (us : List Token) → Leads js (ahead source cursor) (ahead source c) → Tokens source cursor js us c → c.at ≤ cursor.at → c ≡ cursor
arrived_by source cursor c [] us h k b = k.1
arrived_by source cursor c (j ∷ js) us h k b = absurd (omega (arith, turn_far source cursor j.0 j.1 k.0 (ahead source cursor) h.0 h.1 k.2, read_far source js k.0.to c h.0 (ahead source c) k.1 h.2 k.4))

pub arrived : (source : List ℕ) (at : ℕ) (cursor c : Cursor) → at ≤ cursor.at → IsReached source cursor → IsPlace source at c → Toward source cursor c → c ≡ cursor
unfolding Toward
arrived source at cursor c b r p h = arrived_by source cursor c h.0 h.1 h.2.leads h.2.tokens (place_bound source at c cursor p (read_far source r.0 (start source) cursor (ahead source (start source)) (ahead source cursor) r.1 r.2.leads r.2.tokens) b)

blocked_by : (source : List ℕ) (cursor c : Cursor) (js : List (Kind × List ℕ)) (us : List Token) → NoItem (ahead source cursor) → Leads js (ahead source cursor) (ahead source c) → Tokens source cursor js us c → c ≡ cursor
blocked_by source cursor c [] us n h k = k.1
blocked_by source cursor c (j ∷ js) us n h k = absurd (n j.0 j.1 h.0 h.1.is h.1.front)

pub blocked : (source : List ℕ) (cursor c : Cursor) → NoItem (ahead source cursor) → Toward source cursor c → c ≡ cursor
unfolding Toward
blocked source cursor c n h = blocked_by source cursor c h.0 h.1 n h.2.leads h.2.tokens

first_cursor : ℕ → Cursor
first_cursor n = record { at = n; place = record { line = 1; column = 1; after_return = false }; stage = Front }

pub marked : (source : List ℕ) (n : ℕ) → n ≡ (start source).at → record { at = n; place = record { line = 1; column = 1; after_return = false }; stage = Front } ≡ start source
unfolding first_cursor
marked source n e = ap first_cursor e
