-- The kinds of names.
use Rattle.std.specs.Prelude.{◌==◌, Some, None}
use Rattle.std.proofs.Common.{◌≡◌, ℕ, true, false, List, [], ◌∷◌, ap, ◌∙◌, arith}
use Rattle.std.proofs.lemmas.Bool.{cond-true, cond-false}
use Rattle.std.proofs.lemmas.Bool.Decides.{nat_tests}
use Rattle.hs_syntax.specs.declared.token.TokenKind.{TokenKind}
use Rattle.hs_syntax.specs.declared.token.TokenKind.TheVariants as token
use Rattle.hs_lex.specs.Kinds.{large_kind, last_kind_at, or_else}

pub at_end : (k : TokenKind) (cs : List ℕ) → cs ≡ [] → large_kind k cs ≡ k
unfolding large_kind
at_end k cs e = ap (large_kind k) e

pub no_dot : (k : TokenKind) (cs rest : List ℕ) (c : ℕ) → cs ≡ c ∷ rest → (c ≡ 46 → ⊥) → large_kind k cs ≡ large_kind k rest
unfolding large_kind
no_dot k cs rest c e never = ap (large_kind k) e ∙ cond-false _ _ _ (let h : (c == 46) ≡ false = grind (arith, nat_tests) in h)

dot : (k : TokenKind) (cs rest : List ℕ) (c : ℕ) → cs ≡ c ∷ rest → c ≡ 46 → large_kind k cs ≡ or_else (last_kind_at rest) (large_kind token.QConId rest)
unfolding large_kind
dot k cs rest c e is = ap (large_kind k) e ∙ cond-true _ _ _ (let h : (c == 46) ≡ true = grind (arith, nat_tests) in h)

pub last : (k : TokenKind) (cs rest : List ℕ) (c : ℕ) (found : TokenKind) → cs ≡ c ∷ rest → c ≡ 46 → last_kind_at rest ≡ Some found → large_kind k cs ≡ found
last k cs rest c found e is h = dot k cs rest c e is ∙ ap (λ o. or_else o (large_kind token.QConId rest)) h

pub further : (k : TokenKind) (cs rest : List ℕ) (c : ℕ) → cs ≡ c ∷ rest → c ≡ 46 → last_kind_at rest ≡ None → large_kind k cs ≡ large_kind token.QConId rest
further k cs rest c e is h = dot k cs rest c e is ∙ ap (λ o. or_else o (large_kind token.QConId rest)) h
