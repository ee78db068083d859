-- Tokens in other columns.
use Rattle.std.specs.Prelude.{◌≡◌, ℕ, ◌<◌}
use Rattle.hs_syntax.specs.declared.token.Token.{Token}

-- other columns in the same order, with 0 in its place
pub record IsInOrder (g : ℕ → ℕ) : Type 0 where
  pub zero : g 0 ≡ 0
  pub order : (a b : ℕ) → a < b → g a < g b

abbrev pub in_column : (ℕ → ℕ) → Token → Token
in_column g t = record t { at = record { line = t.at.line; col = g t.at.col } }

-- a token but for its column
abbrev pub anywhere : ℕ → ℕ
anywhere n = 0

abbrev pub no_column : Token → Token
no_column t = in_column anywhere t
