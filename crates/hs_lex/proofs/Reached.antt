-- Tokens in turn, and how far a cursor is.
use Rattle.std.specs.Prelude.{◌==◌, ◌&&◌, nat_lt, if◌then◌else◌, take}
use Rattle.std.specs.Char.{encode_utf8}
use Rattle.std.proofs.Common.{◌≡◌, ℕ, ◌+◌, ◌-◌, ◌*◌, ◌/◌, ◌%◌, ◌<◌, ◌≤◌, drop, Bool, true, false, List, [], ◌∷◌, ◌++◌, length, refl, ap, sym, ◌∙◌, subst, arith, append_assoc, length-drop, length-take, take_all}
use Rattle.std.proofs.lemmas.List.{append-nil, drop-drop}
use Rattle.std.proofs.lemmas.Slice.Eq.{bytes_eq-Decides}
use Rattle.source_text.specs.Characters.{characters, span, width, no_character}
use Rattle.source_text.specs.Places.{after, step, is_newline}
use Rattle.source_text.specs.declared.place.Place.{Place}
use Rattle.source_text.proofs.Characters.{none}
use Rattle.source_text.proofs.Widths.{span_between, drop_span, ends_before}
use Rattle.hs_syntax.specs.declared.token.Token.{Token}
use Rattle.hs_lex.specs.declared.item.Kind.{Kind}
use Rattle.hs_lex.specs.declared.cursor.Stage.{Stage}
use Rattle.hs_lex.specs.declared.cursor.Cursor.{Cursor}
use Rattle.hs_lex.specs.declared.cursor.Turn.{Turn}
use Rattle.hs_lex.specs.Items.{IsItem, Leads}
use Rattle.hs_lex.specs.Tokens.{IsTurn, moved, Tokens, tokens_at, ahead, IsRead, start, IsReached, IsWithin, IsTaken, is_marked}

-- a line and a column grow by no more than the bytes do
stepped : Place → ℕ → Bool → Bool → Bool → Place
stepped p c a b d =
    if a then record p { after_return = false }
    else if b then record { line = p.line + 1; column = 1; after_return = c == 13 }
    else if d then record { line = p.line; column = (p.column + 7) / 8 * 8 + 1; after_return = false }
    else record { line = p.line; column = p.column + 1; after_return = false }

stepped_bounds : (p : Place) (c : ℕ) (a b d : Bool) → ((stepped p c a b d).line ≤ p.line + 1) × ((stepped p c a b d).column ≤ p.column + 8)
unfolding stepped
stepped_bounds p c true b d = (omega arith, omega arith)
stepped_bounds p c false true d = (omega arith, omega arith)
stepped_bounds p c false false true = (omega arith, omega arith)
stepped_bounds p c false false false = (omega arith, omega arith)

step_bounds : (p : Place) (c : ℕ) → ((step p c).line ≤ p.line + 1) × ((step p c).column ≤ p.column + 8)
unfolding stepped
step_bounds p c = stepped_bounds p c (c == 10 && p.after_return) (is_newline c) (c == 9)

-- each character takes bytes
one_of_two : (b : Bool) (m n : ℕ) → 1 ≤ m → 1 ≤ n → 1 ≤ (if b then m else n)
one_of_two true m n p q = p
one_of_two false m n p q = q

one_list : (b : Bool) (l m : List ℕ) → 1 ≤ length l → 1 ≤ length m → 1 ≤ length (if b then l else m)
one_list true l m p q = p
one_list false l m p q = q

pub some_bytes : (c : ℕ) → 1 ≤ length (encode_utf8 c)
unfolding encode_utf8
some_bytes c =
    let four : List ℕ = (240 + c / 262144) ∷ (128 + (c / 4096) % 64) ∷ (128 + (c / 64) % 64) ∷ (128 + c % 64) ∷ [] in
    let three : List ℕ = (224 + c / 4096) ∷ (128 + (c / 64) % 64) ∷ (128 + c % 64) ∷ [] in
    let two : List ℕ = (192 + c / 64) ∷ (128 + c % 64) ∷ [] in
    one_list (nat_lt c 128) (c ∷ []) (if nat_lt c 2048 then two else (if nat_lt c 65536 then three else four)) (omega arith)
    (one_list (nat_lt c 2048) two (if nat_lt c 65536 then three else four) (omega arith) (one_list (nat_lt c 65536) three four (omega arith) (omega arith)))

wide : (c : ℕ) → 1 ≤ width c
wide c = one_of_two (c == no_character) 1 (length (encode_utf8 c)) (omega arith) (some_bytes c)

after_bounds : (p : Place) (l : List ℕ) → ((after p l).line ≤ p.line + span l) × ((after p l).column ≤ p.column + 8 * span l)
unfolding after span
after_bounds p [] = (omega arith, omega arith)
after_bounds p (c ∷ l) =
    let h = after_bounds (step p c) l in
    (omega (arith, h.0, (step_bounds p c).0, wide c), omega (arith, h.1, (step_bounds p c).1, wide c))

pub span_some : (l : List ℕ) → 0 < length l → 0 < span l
unfolding span
span_some [] h = absurd (omega arith)
span_some (c ∷ l) h = omega (arith, wide c)

-- an item leads from the bytes at a cursor to those behind it
pub turn_within : (source : List ℕ) (c : Cursor) (k : Kind) (l : List ℕ) (t : Turn) → IsItem k l (ahead source c) (ahead source t.to) → IsTurn c k l t → IsWithin source c → IsWithin source t.to
turn_within source c k l t x h w =
    let far : t.to.at ≡ c.at + span l = ap (λ (d : Cursor). d.at) h.1 in
    let place : t.to.place ≡ after c.place l = ap (λ (d : Cursor). d.place) h.1 in
    let bounds = after_bounds c.place l in
    let len = span_between l (drop c.at source) (drop t.to.at source) x.front in
    let line : t.to.place.line ≡ (after c.place l).line = ap (λ (p : Place). p.line) place in
    let column : t.to.place.column ≡ (after c.place l).column = ap (λ (p : Place). p.column) place in
    (omega (arith, len, length-drop c.at source, length-drop t.to.at source, w.0), omega (arith, bounds.0, w.1), omega (arith, bounds.1, w.2))

-- one turn more
tokens_push : (source : List ℕ) (c d : Cursor) (is : List (Kind × List ℕ)) (k : Kind) (l : List ℕ) (ts : List Token) (t : Turn) → Tokens source c is ts d → IsTurn d k l t
    → Tokens source c (is ++ (k, l) ∷ []) (ts ++ tokens_at source d t.kind t.to) t.to
tokens_push source c d [] k l ts t h x =
    (t, [], subst (λ z. IsTurn z k l t) h.1 x, ap (λ z. z ++ tokens_at source d t.kind t.to) h.0 ∙ ap (λ z. tokens_at source z t.kind t.to) h.1 ∙ sym (append-nil (tokens_at source c t.kind t.to)), (refl, refl))
tokens_push source c d (i ∷ is) k l ts t h x =
    (h.0, h.1 ++ tokens_at source d t.kind t.to, h.2, ap (λ z. z ++ tokens_at source d t.kind t.to) h.3 ∙ append_assoc (tokens_at source c h.0.kind h.0.to) h.1 (tokens_at source d t.kind t.to), tokens_push source h.0.to d is k l h.1 t h.4 x)

leads_push : (is : List (Kind × List ℕ)) (k : Kind) (t cs mid rest : List ℕ) → Leads is cs mid → IsItem k t mid rest → Leads (is ++ (k, t) ∷ []) cs rest
leads_push [] k t cs mid rest h x = (rest, subst (λ z. IsItem k t z rest) (sym h) x, refl)
leads_push (i ∷ is) k t cs mid rest h x = (h.0, h.1, leads_push is k t h.0 mid rest h.2 x)

pub read_none : (source : List ℕ) (c : Cursor) → IsRead source c [] [] c
read_none source c = record { leads = refl; tokens = (refl, refl) }

pub read_push : (source : List ℕ) (c d : Cursor) (is : List (Kind × List ℕ)) (k : Kind) (l : List ℕ) (ts : List Token) (t : Turn) → IsRead source c is ts d → IsItem k l (ahead source d) (ahead source t.to) → IsTurn d k l t
    → IsRead source c (is ++ (k, l) ∷ []) (ts ++ tokens_at source d t.kind t.to) t.to
read_push source c d is k l ts t h x y = record {
  leads = leads_push is k l (ahead source c) (ahead source d) (ahead source t.to) h.leads x;
  tokens = tokens_push source c d is k l ts t h.tokens y;
}

-- one reading behind another
tokens_join : (source : List ℕ) (is js : List (Kind × List ℕ)) (c d e : Cursor) (ts us : List Token) → Tokens source c is ts d → Tokens source d js us e → Tokens source c (is ++ js) (ts ++ us) e
tokens_join source [] js c d e ts us x y = subst (λ z. Tokens source c js z e) (ap (λ z. z ++ us) (sym x.0)) (subst (λ z. Tokens source z js us e) x.1 y)
tokens_join source (i ∷ is) js c d e ts us x y =
    (x.0, x.1 ++ us, x.2, ap (λ z. z ++ us) x.3 ∙ append_assoc (tokens_at source c x.0.kind x.0.to) x.1 us, tokens_join source is js x.0.to d e x.1 us x.4 y)

leads_join : (is js : List (Kind × List ℕ)) (cs mid rest : List ℕ) → Leads is cs mid → Leads js mid rest → Leads (is ++ js) cs rest
leads_join [] js cs mid rest h k = subst (λ z. Leads js z rest) (sym h) k
leads_join (i ∷ is) js cs mid rest h k = (h.0, h.1, leads_join is js h.0 mid rest h.2 k)

pub read_join : (source : List ℕ) (is js : List (Kind × List ℕ)) (c d e : Cursor) (ts us : List Token) → IsRead source c is ts d → IsRead source d js us e → IsRead source c (is ++ js) (ts ++ us) e
read_join source is js c d e ts us x y = record {
  leads = leads_join is js (ahead source c) (ahead source d) (ahead source e) x.leads y.leads;
  tokens = tokens_join source is js c d e ts us x.tokens y.tokens;
}

-- the start, and what is reached from it, is within the source
pub drop_none : (bs : List ℕ) (n : ℕ) → length bs ≤ n → drop n bs ≡ []
drop_none bs n h = nil_of (drop n bs) (omega (arith, length-drop n bs))
  where
    nil_of : (w : List ℕ) → length w ≡ 0 → w ≡ []
    nil_of [] h = refl
    nil_of (c ∷ w) h = absurd (omega arith)

-- behind a turn stands what follows its item
lands : (source : List ℕ) (c : Cursor) (l : List ℕ) (t : Turn) (mid : List ℕ) → ahead source c ≡ l ++ mid → t.to ≡ moved c l t.to.stage → ahead source t.to ≡ mid
lands source c l t mid e f = ap (ahead source) f ∙ ap characters (sym (drop-drop (span l) c.at source)) ∙ drop_span l (drop c.at source) mid e

-- what is read from a cursor that is within the source leads to one that is
pub read_within : (source : List ℕ) (is : List (Kind × List ℕ)) (c d : Cursor) (ts : List Token) → Leads is (ahead source c) (ahead source d) → Tokens source c is ts d → IsWithin source c → IsWithin source d
read_within source [] c d ts h k w = subst (IsWithin source) (sym k.1) w
read_within source (i ∷ is) c d ts h k w =
    let e : ahead source k.0.to ≡ h.0 = lands source c i.1 k.0 h.0 h.1.front k.2.1 in
    read_within source is k.0.to d k.1 (subst (λ z. Leads is z (ahead source d)) (sym e) h.2) k.4 (turn_within source c i.0 i.1 k.0 (subst (IsItem i.0 i.1 (ahead source c)) (sym e) h.1) k.2 w)

cursor_at : ℕ → Place → Stage → Cursor
cursor_at at p s = record { at = at; place = p; stage = s }

-- a cursor moved over a text of bytes
pub moved_over : (c : Cursor) (text : List ℕ) (s : Stage) (p : Place) → p ≡ after c.place (characters text) → record { at = c.at + length text; place = p; stage = s } ≡ moved c (characters text) s
unfolding cursor_at
moved_over c text s p e =
    let len : length text ≡ span (characters text) = omega (arith, span_between (characters text) text [] (sym (append-nil (characters text)) ∙ ap (λ t. characters text ++ t) (sym none))) in
    ap (λ n. cursor_at (c.at + n) p s) len ∙ ap (λ q. cursor_at (c.at + span (characters text)) q s) e

pub piece : (bs : List ℕ) (n : ℕ) → take (length bs - n) (drop n bs) ≡ drop n bs
piece bs n = take_all (length bs - n) (drop n bs) (omega (arith, length-drop n bs))

pub taken : (source : List ℕ) (c : Cursor) (from to text : List ℕ) (k : Kind) (t : Turn) → from ≡ drop c.at source → ((l : List ℕ) × IsItem k l (characters from) (characters to))
    → ((l : List ℕ) → characters from ≡ l ++ characters to → characters text ≡ l) → IsTurn c k (characters text) t → IsTaken source c t
taken source c from to text k t e x reads y =
    let same : characters text ≡ x.0 = reads x.0 x.1.front in
    let turn : IsTurn c k x.0 t = subst (λ z. IsTurn c k z t) same y in
    let item : IsItem k x.0 (ahead source c) (characters to) = subst (λ z. IsItem k x.0 (characters z) (characters to)) e x.1 in
    (k, x.0, subst (IsItem k x.0 (ahead source c)) (sym (lands source c x.0 t (characters to) item.front turn.1)) item, turn)

pub goes_back : (from to : List ℕ) (k : Kind) → ((l : List ℕ) × IsItem k l (characters from) (characters to)) → length to ≤ length from
goes_back from to k x = ends_before x.0 from to x.1.front

-- the start is within the source
start_by : (source : List ℕ) (b : Bool) → (b ≡ true → 3 ≤ length source) → (if b then 3 else 0) ≤ length source
start_by source true h = h refl
start_by source false h = omega arith

pub start_within : (source : List ℕ) → IsWithin source (start source)
start_within source = (
  start_by source (is_marked source) (λ h. let e = (bytes_eq-Decides (239 ∷ 187 ∷ 191 ∷ []) (take 3 source)).0 h in omega (arith, ap length e, length-take 3 source)),
  omega arith,
  omega arith,
)

pub reached_within : (source : List ℕ) (c : Cursor) → IsReached source c → IsWithin source c
reached_within source c h = read_within source h.0 (start source) c h.1 h.2.leads h.2.tokens (start_within source)

-- behind some items stand their bytes
pub items_lead : (source : List ℕ) (is : List (Kind × List ℕ)) (c d : Cursor) (ts : List Token) (rest : List ℕ) → Leads is (ahead source c) rest → Tokens source c is ts d → ahead source d ≡ rest
items_lead source [] c d ts rest h k = ap (ahead source) k.1 ∙ h
items_lead source (i ∷ is) c d ts rest h k =
    let e : ahead source k.0.to ≡ h.0 = lands source c i.1 k.0 h.0 h.1.front k.2.1 in
    items_lead source is k.0.to d k.1 rest (subst (λ z. Leads is z rest) (sym e) h.2) k.4
