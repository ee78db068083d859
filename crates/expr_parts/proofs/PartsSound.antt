-- What is read of the parts without an expression in them is derived.
use Rattle.std.proofs.Common.{ℕ, List}
use Rattle.hs_syntax.specs.declared.token.Token.{Token}
use Rattle.hs_syntax.proofs.Sound.{Sound}
use Rattle.hs_parts.specs.Names.{IsQvar, IsGcon, IsQop}
use Rattle.hs_parts.specs.Grammar.{IsQualified, IsPattern, IsApats, IsLhs, IsSig, IsFix}
use Rattle.hs_parts.specs.NameReaders.{qvar_at, gcon_at, qop_at}
use Rattle.hs_parts.specs.PatternReaders.{pattern_at, apats_at}
use Rattle.hs_parts.specs.SideReaders.{side_at}
use Rattle.hs_parts.specs.SigReaders.{sig_at, fix_at}
use Rattle.hs_parts.specs.TypeReaders.{qualified_at, qualified_tail}

pub record PartsSound : Type 0 where
  pub qvar : (ts : List Token) → Sound (IsQvar ts) (qvar_at ts)
  pub gcon : (ts : List Token) → Sound (IsGcon ts) (gcon_at ts)
  pub qop : (ts : List Token) → Sound (IsQop ts) (qop_at ts)
  pub pattern : (n : ℕ) (ts : List Token) → Sound (IsPattern ts) (pattern_at n ts)
  pub apats : (n : ℕ) (ts : List Token) → Sound (IsApats ts) (apats_at n ts)
  pub lhs : (ts : List Token) → Sound (IsLhs ts) (side_at ts)
  pub sig : (n : ℕ) (ts : List Token) → Sound (IsSig ts) (sig_at n ts)
  pub fix : (n : ℕ) (ts : List Token) → Sound (IsFix ts) (fix_at n ts)
  pub qualified : (n : ℕ) (ts : List Token) → Sound (IsQualified ts) (qualified_at n ts)
  pub before_arrow : (n : ℕ) (ts : List Token) → Sound (IsQualified ts) (qualified_tail n ts)
