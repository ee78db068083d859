-- What stands behind a cursor is one of three.
use Rattle.std.specs.Bool.{Decides}
use Rattle.std.specs.Prelude.{Option, Some, None}
use Rattle.std.proofs.Common.{◌≡◌, inl, inr, ℕ, zero, suc, ◌<◌, Bool, true, false, List, [], ◌∷◌, ◌++◌, length, refl, ap, sym, ◌∙◌, subst, arith}
use Rattle.std.proofs.lemmas.Bool.{false≢true}
use Rattle.mk_base.specs.declared.place.Pos.{Pos}
use Rattle.hs_syntax.specs.declared.token.Token.{Token}
use Rattle.hs_syntax.specs.declared.token.TokenKind.{TokenKind}
use Rattle.hs_lex.specs.declared.item.Kind.{Kind}
use Rattle.hs_lex.specs.declared.cursor.Cursor.{Cursor}
use Rattle.hs_lex.specs.Lexemes.{is_nil}
use Rattle.hs_lex.specs.Items.{NoItem}
use Rattle.hs_lex.specs.Answers.{IsAnswered, AnswersExclude}
use Rattle.hs_lex.specs.Slow.{item_at, turn_over, Lexed, put_first, lexemes_from}
use Rattle.hs_lex.specs.Tokens.{position, ahead, tokens_at, token_at, IsRead}
use Rattle.hs_lex.proofs.Decided.{nil_decides}
use Rattle.hs_lex.proofs.Reached.{read_none}
use Rattle.hs_lex.proofs.Kept.{next_kept, blank_kept, bad_kept}
use Rattle.hs_lex.proofs.Slow.{Stands, stands, shrinks, put}

module _ (source : List ℕ) (c : Cursor) where
  module _ (k : Kind) (l : List ℕ) (x : Stands (ahead source c) (Some (k, l))) where
    -- behind an item that is no lexeme
    passed : (is : List (Kind × List ℕ)) (d : Cursor) → (turn_over c k l).kind ≡ None → IsRead source (turn_over c k l).to is [] d → IsRead source c ((k, l) ∷ is) [] d
    passed is d e h = subst (λ z. IsRead source c ((k, l) ∷ is) z d) (ap (λ o. tokens_at source c o (turn_over c k l).to ++ []) e) (put source c k l x.0 x.1 is [] d h)

    -- over a lexeme
    first : (kind : TokenKind) → (turn_over c k l).kind ≡ Some kind → IsRead source c ((k, l) ∷ []) (token_at source c kind (turn_over c k l).to ∷ []) (turn_over c k l).to
    first kind e = subst (λ z. IsRead source c ((k, l) ∷ []) z (turn_over c k l).to) (ap (λ o. tokens_at source c o (turn_over c k l).to ++ []) e) (put source c k l x.0 x.1 [] [] (turn_over c k l).to (read_none source (turn_over c k l).to))

    by_kind : (o : Option TokenKind) → (turn_over c k l).kind ≡ o → IsAnswered source (turn_over c k l).to → IsAnswered source c
    by_kind (Some kind) e h = inl (token_at source c kind (turn_over c k l).to, (turn_over c k l).to, ([], c, (k, l), read_none source c, first kind e))
    by_kind None e (inl h) = inl (h.0, h.1, ((k, l) ∷ h.2.0, h.2.1, h.2.2, passed h.2.0 h.2.1 e h.2.3, h.2.4))
    by_kind None e (inr (inl h)) = inr (inl ((k, l) ∷ h.0, h.1, passed h.0 h.1 e h.2, h.3))
    by_kind None e (inr (inr h)) = inr (inr (h.0, ((k, l) ∷ h.1.0, h.1.1, passed h.1.0 h.1.1 e h.1.2, h.1.3)))

  stops : (b : Bool) → Decides b (ahead source c ≡ []) → NoItem (ahead source c) → IsAnswered source c
  stops true d n = inr (inl ([], c, read_none source c, d.0 refl))
  stops false d n = inr (inr (position c.place, ([], c, read_none source c, ((λ e. false≢true (d.1 e)), n, refl))))

  over : (o : Option (Kind × List ℕ)) → Stands (ahead source c) o → ((d : Cursor) → length (ahead source d) < length (ahead source c) → IsAnswered source d) → IsAnswered source c
  over (Some i) x each = by_kind i.0 i.1 x (turn_over c i.0 i.1).kind refl (each (turn_over c i.0 i.1).to (shrinks source c i.0 i.1 x.0 x.1))
  over None n each = stops (is_nil (ahead source c)) (nil_decides (ahead source c)) n

within : (n : ℕ) (source : List ℕ) (c : Cursor) → length (ahead source c) < n → IsAnswered source c
within zero source c b = absurd (omega arith)
within (suc n) source c b = over source c (item_at (ahead source c)) (stands (ahead source c)) (λ d k. within n source d (omega (arith, k, b)))

pub answered : (source : List ℕ) (c : Cursor) → IsAnswered source c
answered source c = within (suc (length (ahead source c))) source c (omega arith)

-- what stands behind a cursor is told apart by the lexemes from there on
two : (r s : Lexed) → r ≡ s → (r.0 ≡ s.0) × (r.1 ≡ s.1)
two r s e = (ap (λ (z : Lexed). z.0) e, ap (λ (z : Lexed). z.1) e)

some_token : (t : Token) (ts : List Token) → t ∷ ts ≡ [] → ⊥
some_token t ts e = absurd (cc)

some_place : (at : Pos) → ◌≡◌ {A = Option Pos} None (Some at) → ⊥
some_place at e = absurd (cc)

pub exclude : (source : List ℕ) (c : Cursor) → AnswersExclude source c
exclude source c = (
  (λ t d x y. some_token t (lexemes_from source d).0 (two (put_first (t ∷ []) (lexemes_from source d)) ([], None) (sym (next_kept source c d t x) ∙ blank_kept source c y)).0),
  (λ t d at x y. some_token t (lexemes_from source d).0 (two (put_first (t ∷ []) (lexemes_from source d)) ([], Some at) (sym (next_kept source c d t x) ∙ bad_kept source c at y)).0),
  (λ at x y. some_place at (two ([], None) ([], Some at) (sym (blank_kept source c x) ∙ bad_kept source c at y)).1),
)
