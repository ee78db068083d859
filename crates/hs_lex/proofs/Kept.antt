-- The lexemes of a source one after another, up to its end or its first bad place.
use Rattle.std.specs.Bool.{Decides}
use Rattle.std.specs.Prelude.{Option, Some, None, if◌then◌else◌}
use Rattle.std.proofs.Common.{◌≡◌, ℕ, zero, suc, ◌+◌, ◌-◌, ◌*◌, ◌<◌, ◌≤◌, Bool, true, false, List, [], ◌∷◌, ◌++◌, length, refl, ap, sym, ◌∙◌, subst, arith, drop, length-drop, length-take}
use Rattle.std.proofs.lemmas.Bool.{false≢true}
use Rattle.mk_base.specs.declared.place.Pos.{Pos}
use Rattle.hs_syntax.specs.declared.token.Token.{Token}
use Rattle.hs_syntax.specs.declared.token.TokenKind.{TokenKind}
use Rattle.hs_lex.specs.declared.item.Kind.{Kind}
use Rattle.hs_lex.specs.declared.cursor.Cursor.{Cursor}
use Rattle.hs_lex.specs.Lexemes.{is_nil}
use Rattle.hs_lex.specs.Items.{NoItem}
use Rattle.hs_lex.specs.Slow.{item_at, turn_over, Lexed, put_first, keep_over, kept_from, lexemes_from, lexemes_of}
use Rattle.hs_lex.specs.Tokens.{position, ahead, tokens_at, token_at, IsRead, IsStuck, start, IsNext, IsBlank, IsBadFrom, IsReached, IsWithin}
use Rattle.hs_lex.proofs.Decided.{nil_decides}
use Rattle.hs_lex.proofs.Dispatch.{end_none}
use Rattle.hs_lex.proofs.Reached.{read_none, read_join, reached_within}
use Rattle.hs_lex.proofs.Slow.{Stands, stands, shrinks, put}
use Rattle.hs_lex.proofs.Whole.{same_read}

-- what a reading from a cursor keeps
abbrev pub Keeps : List ℕ → Cursor → List Token → Option Pos → Type 0
Keeps source c ts None = (is : List (Kind × List ℕ)) × (d : Cursor) × IsRead source c is ts d × (ahead source d ≡ [])
Keeps source c ts (Some at) = (is : List (Kind × List ℕ)) × (d : Cursor) × IsRead source c is ts d × IsStuck source d at

module _ (source : List ℕ) (c : Cursor) where
  over : (k : Kind) (l rest : List ℕ) → Stands (ahead source c) (Some (k, l)) → (ts : List Token) (o : Option Pos) → Keeps source (turn_over c k l).to ts o → Keeps source c (tokens_at source c (turn_over c k l).kind (turn_over c k l).to ++ ts) o
  over k l rest x ts None h = ((k, l) ∷ h.0, h.1, put source c k l x.0 x.1 h.0 ts h.1 h.2, h.3)
  over k l rest x ts (Some at) h = ((k, l) ∷ h.0, h.1, put source c k l x.0 x.1 h.0 ts h.1 h.2, h.3)

  stops : (b : Bool) → Decides b (ahead source c ≡ []) → NoItem (ahead source c) → Keeps source c [] (if b then None else Some (position c.place))
  stops true d n = ([], c, read_none source c, d.0 refl)
  stops false d n = ([], c, read_none source c, ((λ e. false≢true (d.1 e)), n, refl))

  goes : (on : Cursor → Lexed) (o : Option (Kind × List ℕ)) → Stands (ahead source c) o → ((d : Cursor) → length (ahead source d) < length (ahead source c) → Keeps source d (on d).0 (on d).1) → Keeps source c (keep_over source c on o).0 (keep_over source c on o).1
  goes on (Some i) x each = over i.0 i.1 [] x (on (turn_over c i.0 i.1).to).0 (on (turn_over c i.0 i.1).to).1 (each (turn_over c i.0 i.1).to (shrinks source c i.0 i.1 x.0 x.1))
  goes on None n each = stops (is_nil (ahead source c)) (nil_decides (ahead source c)) n

keeps_within : (n : ℕ) (source : List ℕ) (c : Cursor) → length (ahead source c) < n → Keeps source c (kept_from n source c).0 (kept_from n source c).1
unfolding kept_from
keeps_within zero source c b = absurd (omega arith)
keeps_within (suc n) source c b = goes source c (kept_from n source) (item_at (ahead source c)) (stands (ahead source c)) (λ d k. keeps_within n source d (omega (arith, k, b)))

keeps : (source : List ℕ) (c : Cursor) → Keeps source c (lexemes_from source c).0 (lexemes_from source c).1
unfolding lexemes_from
keeps source c = keeps_within (suc (length (ahead source c))) source c (omega arith)

-- there is one such reading
keeps_one : (source : List ℕ) (c : Cursor) (ts us : List Token) (o p : Option Pos) → Keeps source c ts o → Keeps source c us p → (ts ≡ us) × (o ≡ p)
keeps_one source c ts us None None x y = ((same_read source c x.0 y.0 ts us x.1 y.1 x.2 (end_none _ x.3) y.2 (end_none _ y.3)).0, refl)
keeps_one source c ts us (Some a) (Some b) x y =
    let s = same_read source c x.0 y.0 ts us x.1 y.1 x.2 x.3.1 y.2 y.3.1 in
    (s.0, ap Some (x.3.2 ∙ ap (λ (d : Cursor). position d.place) s.1 ∙ sym y.3.2))
keeps_one source c ts us None (Some b) x y =
    let s = same_read source c x.0 y.0 ts us x.1 y.1 x.2 (end_none _ x.3) y.2 y.3.1 in
    absurd (y.3.0 (ap (ahead source) (sym s.1) ∙ x.3))
keeps_one source c ts us (Some a) None x y =
    let s = same_read source c x.0 y.0 ts us x.1 y.1 x.2 x.3.1 y.2 (end_none _ y.3) in
    absurd (x.3.0 (ap (ahead source) s.1 ∙ y.3))

pair : (x : Lexed) (ts : List Token) (o : Option Pos) → (x.0 ≡ ts) × (x.1 ≡ o) → x ≡ (ts, o)
pair (us, p) ts o e = let a : us ≡ ts = e.0 in let b : p ≡ o = e.1 in cc

keeps_next : (source : List ℕ) (c e : Cursor) (t : Token) (us : List Token) (o : Option Pos) → IsNext source c t e → Keeps source e us o → Keeps source c (t ∷ us) o
keeps_next source c e t us None x h =
    (x.0 ++ (x.2 ∷ [] ++ h.0), h.1, read_join source x.0 (x.2 ∷ [] ++ h.0) c x.1 h.1 [] (t ∷ us) x.3 (read_join source (x.2 ∷ []) h.0 x.1 e h.1 (t ∷ []) us x.4 h.2), h.3)
keeps_next source c e t us (Some at) x h =
    (x.0 ++ (x.2 ∷ [] ++ h.0), h.1, read_join source x.0 (x.2 ∷ [] ++ h.0) c x.1 h.1 [] (t ∷ us) x.3 (read_join source (x.2 ∷ []) h.0 x.1 e h.1 (t ∷ []) us x.4 h.2), h.3)

-- The first lexeme behind a cursor, and those behind it.
pub next_kept : (source : List ℕ) (c e : Cursor) (t : Token) → IsNext source c t e → lexemes_from source c ≡ put_first (t ∷ []) (lexemes_from source e)
next_kept source c e t x =
    let us = (lexemes_from source e).0 in
    let o = (lexemes_from source e).1 in
    pair (lexemes_from source c) (t ∷ us) o (keeps_one source c (lexemes_from source c).0 (t ∷ us) (lexemes_from source c).1 o (keeps source c) (keeps_next source c e t us o x (keeps source e)))

-- None is left.
pub blank_kept : (source : List ℕ) (c : Cursor) → IsBlank source c → lexemes_from source c ≡ ([], None)
blank_kept source c x = pair (lexemes_from source c) [] None (keeps_one source c (lexemes_from source c).0 [] (lexemes_from source c).1 None (keeps source c) x)

-- A bad place comes first.
pub bad_kept : (source : List ℕ) (c : Cursor) (at : Pos) → IsBadFrom source c at → lexemes_from source c ≡ ([], Some at)
bad_kept source c at x = pair (lexemes_from source c) [] (Some at) (keeps_one source c (lexemes_from source c).0 [] (lexemes_from source c).1 (Some at) (keeps source c) x)

-- how far a lexeme is
pub record IsNear (source : List ℕ) (t : Token) : Type 0 where
  pub line : t.at.line ≤ length source + 1
  pub column : t.at.col ≤ 8 * length source + 1
  pub size : length t.text ≤ length source

token_near : (source : List ℕ) (d e : Cursor) (kind : TokenKind) → IsWithin source d → IsNear source (token_at source d kind e)
token_near source d e kind w = record {
  line = omega (arith, w.0, w.1);
  column = omega (arith, w.0, w.2);
  size = omega (arith, length-take (e.at - d.at) (drop d.at source), length-drop d.at source);
}

near_by : (source : List ℕ) (d e : Cursor) (t : Token) (k : Option TokenKind) (us : List Token) → t ∷ [] ≡ tokens_at source d k e ++ us → us ≡ [] → IsWithin source d → IsNear source t
near_by source d e t None us h n w = absurd (let q : t ∷ [] ≡ [] = h ∙ n in cc)
near_by source d e t (Some kind) us h n w = subst (IsNear source) (let q : token_at source d kind e ∷ us ≡ t ∷ [] = sym h in cc) (token_near source d e kind w)

pub next_near : (source : List ℕ) (c e : Cursor) (t : Token) → IsReached source c → IsNext source c t e → IsNear source t
next_near source c e t r x =
    let w : IsWithin source x.1 = reached_within source x.1 (r.0 ++ x.0, r.1 ++ [], read_join source r.0 x.0 (start source) c x.1 r.1 [] r.2 x.3) in
    near_by source x.1 x.4.tokens.0.to t x.4.tokens.0.kind x.4.tokens.1 x.4.tokens.3 x.4.tokens.4.0 w

keeps_by : (source : List ℕ) (c : Cursor) (r : Lexed) (ts : List Token) (o : Option Pos) → r ≡ (ts, o) → Keeps source c r.0 r.1 → Keeps source c ts o
keeps_by source c r ts o e h = subst (λ (z : Lexed). Keeps source c z.0 z.1) e h

-- The lexemes that are kept are those of the source, up to its first bad place where it has one.
pub kept_exactly : (source : List ℕ) (ts : List Token) (o : Option Pos) → (lexemes_of source ≡ (ts, o) → Keeps source (start source) ts o) × (Keeps source (start source) ts o → lexemes_of source ≡ (ts, o))
kept_exactly source ts o =
    let r = lexemes_from source (start source) in
    let h = keeps source (start source) in
    ((λ e. keeps_by source (start source) r ts o e h), (λ k. pair r ts o (keeps_one source (start source) r.0 ts r.1 o h k)))
