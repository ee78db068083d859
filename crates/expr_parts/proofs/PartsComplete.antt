-- What is derived of the parts without an expression in them is read.
use Rattle.std.proofs.Common.{◌≡◌, ℕ, ◌+◌, ◌*◌, ◌≤◌, Bool, true, false, List, ◌∷◌, length, Some}
use Rattle.hs_syntax.specs.declared.token.Token.{Token}
use Rattle.hs_syntax.specs.declared.sign.Sign.{Sign}
use Rattle.hs_syntax.specs.declared.sign.Sign.TheVariants.{Equals, Bar, Back, Arrow}
use Rattle.hs_syntax.specs.declared.name_ref.NameRef.{NameRef}
use Rattle.hs_syntax.specs.declared.name_ref.QopTree.{QopTree}
use Rattle.hs_syntax.specs.declared.type_tree.QualifiedType.{QualifiedType}
use Rattle.hs_syntax.specs.declared.pattern_tree.GconTree.{GconTree}
use Rattle.hs_syntax.specs.declared.pattern_tree.PatTree.{PatTree}
use Rattle.hs_syntax.specs.declared.pattern_tree.ApatTree.{ApatTree}
use Rattle.hs_syntax.specs.declared.pattern_tree.LhsTree.{LhsTree}
use Rattle.hs_syntax.specs.declared.expr_tree.SigTree.{SigTree}
use Rattle.hs_syntax.specs.declared.expr_tree.FixTree.{FixTree}
use Rattle.hs_syntax.specs.Signs.{sign_of}
use Rattle.hs_syntax.specs.Reading.{begins, is_arrow, is_comma}
use Rattle.hs_parts.specs.Names.{IsQvar, IsGcon, IsQop}
use Rattle.hs_parts.specs.Grammar.{IsQualified, IsPattern, IsApats, IsLhs, IsSig, IsFix}
use Rattle.hs_parts.specs.NameReaders.{qvar_at, gcon_at, qop_at}
use Rattle.hs_parts.specs.PatternReaders.{pattern_at, apats_at}
use Rattle.hs_parts.specs.SideReaders.{side_at}
use Rattle.hs_parts.specs.SigReaders.{sig_at, fix_at}
use Rattle.hs_parts.specs.TypeReaders.{qualified_at, qualified_tail}
use Rattle.hs_syntax.proofs.Cut.{cut}
use Rattle.hs_parts.proofs.TypesComplete.{type_goes_on}
use Rattle.hs_parts.proofs.ContextsComplete.{is_type_end}
use Rattle.expr_parts.proofs.PartsSound.{PartsSound}

-- what stands behind a pattern in an expression
abbrev pub ends_pattern : Sign → Bool
ends_pattern Back = true
ends_pattern Arrow = true
ends_pattern Bar = true
ends_pattern _ = false

-- what stands behind a left side
abbrev pub ends_lhs : Sign → Bool
ends_lhs Equals = true
ends_lhs Bar = true
ends_lhs _ = false

pub record PartsComplete : Type 0 where
  pub qvar : {a b : List Token} {x : NameRef} → IsQvar a b x → qvar_at a ≡ Some (x, b)
  pub gcon : {a b : List Token} {x : GconTree} → IsGcon a b x → gcon_at a ≡ Some (x, b)
  pub qop : {a b : List Token} {x : QopTree} → IsQop a b x → qop_at a ≡ Some (x, b)
  pub pattern : (n : ℕ) {a b : List Token} {x : PatTree} → IsPattern a b x → begins ends_pattern b ≡ true → 8 * length a + 8 ≤ n → pattern_at n a ≡ Some (x, b)
  pub apats : (n : ℕ) {a b : List Token} {x : List ApatTree} → IsApats a b x → begins is_arrow b ≡ true → 8 * length a + 8 ≤ n → apats_at n a ≡ Some (x, b)
  pub lhs : {a b : List Token} {x : LhsTree} → IsLhs a b x → begins ends_lhs b ≡ true → side_at a ≡ Some (x, b)
  pub sig : (n : ℕ) {a b : List Token} {x : SigTree} → IsSig a b x → begins type_goes_on b ≡ false → 8 * length a + 8 ≤ n → sig_at n a ≡ Some (x, b)
  pub fix : (n : ℕ) {a b : List Token} {x : FixTree} → IsFix a b x → begins is_comma b ≡ false → 8 * length a + 8 ≤ n → fix_at n a ≡ Some (x, b)
  pub qualified : (n : ℕ) {a b : List Token} {x : QualifiedType} → IsQualified a b x → begins type_goes_on b ≡ false → 8 * length a + 8 ≤ n → qualified_at n a ≡ Some (x, b)
  -- no later arrow has a type in front of it
  pub before_arrow : (n : ℕ) {a b : List Token} {w : Token} {x : QualifiedType} → IsQualified a (w ∷ b) x → sign_of w ≡ Arrow → begins is_arrow (cut is_type_end b 0) ≡ false → 8 * length a + 8 ≤ n
      → qualified_tail n a ≡ Some (x, w ∷ b)

pub record Parts : Type 0 where
  pub sound : PartsSound
  pub complete : PartsComplete
