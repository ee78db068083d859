-- A whole text, as it is read.
use Rattle.std.specs.Prelude.{ℕ, ◌+◌, ◌*◌, false, List, [], ◌∷◌, length, Option, Some, None}
use Rattle.hs_syntax.specs.declared.token.Token.{Token}
use Rattle.hs_syntax.specs.declared.expr_tree.ExprTree.{ExprTree}
use Rattle.hs_syntax.specs.Reading.{Found}
use Rattle.expr_parts.specs.Expressions.{forms}

-- as many steps as the tokens can take
abbrev pub steps : List Token → ℕ
steps ts = 16 * length ts + 16

abbrev pub whole_if : ExprTree → List Token → Option ExprTree
whole_if e [] = Some e
whole_if e (t ∷ ts) = None

abbrev pub whole_of : Found ExprTree → Option ExprTree
whole_of None = None
whole_of (Some p) = whole_if p.0 p.1

unfoldable pub whole_exp : List Token → Option ExprTree
whole_exp ts = whole_of ((forms (steps ts)).exp false ts)
