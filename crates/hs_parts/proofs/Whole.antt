-- What is read of a whole text is its tree.
use Rattle.std.proofs.Common.{◌≡◌, ℕ, ◌+◌, ◌*◌, ◌≤◌, List, [], ◌∷◌, length, Option, Some, None, IfSome, IfNone, refl, sym, ap, ◌∙◌, subst, arith}
use Rattle.hs_syntax.specs.declared.token.Token.{Token}
use Rattle.hs_syntax.specs.declared.type_tree.TypeTree.{TypeTree}
use Rattle.hs_syntax.specs.declared.pattern_tree.PatTree.{PatTree}
use Rattle.hs_syntax.specs.Reading.{Found}
use Rattle.hs_syntax.proofs.Sound.{Sound}
use Rattle.hs_parts.specs.TypeReaders.{type_readers}
use Rattle.hs_parts.specs.PatternReaders.{pattern_at}
use Rattle.hs_parts.specs.SideReaders.{enough}
use Rattle.hs_parts.specs.Whole.{whole_if, whole_of, whole_type, whole_pattern}
use Rattle.hs_parts.specs.Grammar.{IsType, IsPattern}
use Rattle.hs_parts.proofs.TypesSound.{types_are_sound}
use Rattle.hs_parts.proofs.TypesComplete.{types_are_complete}
use Rattle.hs_parts.proofs.PatternsSound.{pattern_sound}
use Rattle.hs_parts.proofs.PatternsComplete.{PatternEnds, pattern_complete}

whole_if_sound : {X : Type 0} (P : List Token → X → Type 0) (x : X) (rest : List Token) → P rest x → IfSome (whole_if x rest) (λ t. P [] t)
whole_if_sound P x [] d = d
whole_if_sound P x (t ∷ rest) d = tt

whole_of_sound : {X : Type 0} (P : List Token → X → Type 0) (m : Found X) → Sound P m → IfSome (whole_of m) (λ t. P [] t)
whole_of_sound P None s = tt
whole_of_sound P (Some p) s = whole_if_sound P p.0 p.1 s

none_some : {X : Type 0} (x : X) → Path (Option X) None (Some x) → ⊥
none_some x e = cc

none_by : {X : Type 0} (P : X → Type 0) (w : Option X) → ((x : X) → P x → w ≡ Some x) → IfNone w ((x : X) → P x → ⊥)
none_by P None h = λ x d. none_some x (h x d)
none_by P (Some y) h = tt

abbrev some_or : {X : Type 0} → X → Option X → X
some_or x None = x
some_or x (Some y) = y

same_some : {X : Type 0} (x y : X) → Path (Option X) (Some x) (Some y) → x ≡ y
same_some x y e = ap (some_or x) e

-- each type is found
pub type_found : (ts : List Token) (x : TypeTree) → IsType ts [] x → whole_type ts ≡ Some x
unfolding whole_type
type_found ts x d = let h : 8 * length ts + 3 ≤ enough ts = omega arith in ap whole_of ((types_are_complete (enough ts)).ty d refl h)

-- what is found is one
pub type_is : (ts : List Token) → IfSome (whole_type ts) (λ x. IsType ts [] x)
unfolding whole_type
type_is ts = whole_of_sound (IsType ts) ((type_readers (enough ts)).ty ts) ((types_are_sound (enough ts)).ty ts)

pub type_none : (ts : List Token) → IfNone (whole_type ts) ((x : TypeTree) → IsType ts [] x → ⊥)
type_none ts = none_by (IsType ts []) (whole_type ts) (type_found ts)

pub types_unique : (ts : List Token) (x y : TypeTree) → IsType ts [] x → IsType ts [] y → x ≡ y
types_unique ts x y d e = same_some x y (sym (type_found ts x d) ∙ type_found ts y e)

nothing_ends : PatternEnds []
nothing_ends = record { apats = refl; operator = refl }

-- each pattern is found
pub pattern_found : (ts : List Token) (p : PatTree) → IsPattern ts [] p → whole_pattern ts ≡ Some p
unfolding whole_pattern
pattern_found ts p d = let h : 8 * length ts + 4 ≤ enough ts = omega arith in ap whole_of (pattern_complete (enough ts) d nothing_ends h)

pub pattern_is : (ts : List Token) → IfSome (whole_pattern ts) (λ p. IsPattern ts [] p)
unfolding whole_pattern
pattern_is ts = whole_of_sound (IsPattern ts) (pattern_at (enough ts) ts) (pattern_sound (enough ts) ts)

pub pattern_none : (ts : List Token) → IfNone (whole_pattern ts) ((p : PatTree) → IsPattern ts [] p → ⊥)
pattern_none ts = none_by (IsPattern ts []) (whole_pattern ts) (pattern_found ts)

pub patterns_unique : (ts : List Token) (p q : PatTree) → IsPattern ts [] p → IsPattern ts [] q → p ≡ q
patterns_unique ts p q d e = same_some p q (sym (pattern_found ts p d) ∙ pattern_found ts q e)
