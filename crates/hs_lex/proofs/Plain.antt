-- Names and operators that aren't reserved.
use Rattle.std.proofs.Common.{◌≡◌, inl, inr, ⊎_elim, ℕ, true, false, List, [], ◌∷◌, ◌++◌, length, ap, sym, ◌∙◌, arith}
use Rattle.std.proofs.lemmas.Bool.{false≢true}
use Rattle.hs_lex.specs.declared.class.Part.TheVariants as part
use Rattle.hs_lex.specs.declared.class.Class.{Class}
use Rattle.hs_lex.specs.declared.class.Class.TheVariants as class
use Rattle.hs_lex.specs.Classes.{class_of}
use Rattle.hs_lex.specs.Reading.{IsLongest, Nothing}
use Rattle.hs_lex.specs.Words.{is_reserved}
use Rattle.hs_lex.specs.Lexemes.{IsName, IsOperator, IsPlain, BeginsWith}
use Rattle.hs_lex.proofs.Runs.{same_run}

-- two texts that stand at one place begin alike
pub same_class : (k j : Class) (l r m s : List ℕ) → BeginsWith k l → BeginsWith j m → l ++ r ≡ m ++ s → k ≡ j
same_class k j [] r m s b d e = absurd b
same_class k j (x ∷ l) r [] s b d e = absurd d
same_class k j (x ∷ l) r (y ∷ m) s b d e = let q : x ≡ y = cc in sym b ∙ ap class_of q ∙ d

module _ (cs rest : List ℕ) (h : IsLongest (IsName class.Small) cs rest) where
  small_only : (l r : List ℕ) → IsPlain l r → cs ≡ l ++ r → h.text ≡ l
  small_only l r x e = ⊎_elim
      (λ n. (same_run part.Name h.text rest l r h.is.1.0 h.is.1.1 n.1.0 n.1.1 (sym h.front ∙ e)).0)
      (λ o. let k : class.Small ≡ class.Symbol = same_class class.Small class.Symbol h.text rest l r h.is.0 o.0 (sym h.front ∙ e) in cc) x.0

  pub small_plain : is_reserved h.text ≡ false → IsLongest IsPlain cs rest
  small_plain u = record { text = h.text; front = h.front; is = (inl h.is, u); longest = λ l r x e. omega (arith, ap length (small_only l r x e)) }

  pub small_reserved : is_reserved h.text ≡ true → Nothing IsPlain cs
  small_reserved u l r x e = false≢true (sym x.1 ∙ ap is_reserved (sym (small_only l r x e)) ∙ u)

module _ (cs rest : List ℕ) (h : IsLongest IsOperator cs rest) where
  operator_only : (l r : List ℕ) → IsPlain l r → cs ≡ l ++ r → h.text ≡ l
  operator_only l r x e = ⊎_elim
      (λ n. let k : class.Symbol ≡ class.Small = same_class class.Symbol class.Small h.text rest l r h.is.0 n.0 (sym h.front ∙ e) in cc)
      (λ o. (same_run part.Symbol h.text rest l r h.is.1.0 h.is.1.1 o.1.0 o.1.1 (sym h.front ∙ e)).0) x.0

  pub operator_plain : is_reserved h.text ≡ false → IsLongest IsPlain cs rest
  operator_plain u = record { text = h.text; front = h.front; is = (inr h.is, u); longest = λ l r x e. omega (arith, ap length (operator_only l r x e)) }

  pub operator_reserved : is_reserved h.text ≡ true → Nothing IsPlain cs
  operator_reserved u l r x e = false≢true (sym x.1 ∙ ap is_reserved (sym (operator_only l r x e)) ∙ u)
