-- A whole text as a type or a pattern, as it is read.
use Rattle.std.specs.Prelude.{ℕ, List, [], ◌∷◌, Option, Some, None}
use Rattle.hs_syntax.specs.declared.token.Token.{Token}
use Rattle.hs_syntax.specs.declared.type_tree.TypeTree.{TypeTree}
use Rattle.hs_syntax.specs.declared.pattern_tree.PatTree.{PatTree}
use Rattle.hs_syntax.specs.Reading.{Found}
use Rattle.hs_parts.specs.TypeReaders.{type_readers}
use Rattle.hs_parts.specs.PatternReaders.{pattern_at}
use Rattle.hs_parts.specs.SideReaders.{enough}

abbrev pub whole_if : {X : Type 0} → X → List Token → Option X
whole_if x [] = Some x
whole_if x (t ∷ ts) = None

-- an answer behind which nothing is left
abbrev pub whole_of : {X : Type 0} → Found X → Option X
whole_of None = None
whole_of (Some p) = whole_if p.0 p.1

unfoldable pub whole_type : List Token → Option TypeTree
whole_type ts = whole_of ((type_readers (enough ts)).ty ts)

unfoldable pub whole_pattern : List Token → Option PatTree
whole_pattern ts = whole_of (pattern_at (enough ts) ts)
