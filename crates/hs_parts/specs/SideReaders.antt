-- How the left sides of clauses are read, each where a sign stands behind it that ends one.
use Rattle.std.specs.Prelude.{ℕ, suc, zero, ◌+◌, ◌*◌, Bool, true, false, List, [], ◌∷◌, length, Some, None, cond}
use Rattle.mk_base.specs.declared.place.Pos.{Pos}
use Rattle.hs_syntax.specs.declared.token.Token.{Token}
use Rattle.hs_syntax.specs.declared.sign.Sign.{Sign}
use Rattle.hs_syntax.specs.declared.sign.Sign.TheVariants.{CloseParen, Equals, Bar}
use Rattle.hs_syntax.specs.declared.name_ref.NameRef.{NameRef}
use Rattle.hs_syntax.specs.declared.name_ref.OpName.{OpName}
use Rattle.hs_syntax.specs.declared.pattern_tree.ApatTree.{ApatTree}
use Rattle.hs_syntax.specs.declared.pattern_tree.PatTree.{PatTree}
use Rattle.hs_syntax.specs.declared.pattern_tree.LhsTree.{LhsTree}
use Rattle.hs_syntax.specs.declared.pattern_tree.LhsTree.TheVariants as lhs
use Rattle.hs_syntax.specs.Reading.{Found, and_then, or_else, or_else_by, begins, behind, and_behind, is_open_paren, is_close_paren}
use Rattle.hs_parts.specs.Names.{place}
use Rattle.hs_parts.specs.NameReaders.{var_at, varop_at}
use Rattle.hs_parts.specs.PatternReaders.{pattern_at, apats_at, some_apats}

-- what ends a left side
abbrev pub ends_side : Sign → Bool
ends_side Equals = true
ends_side Bar = true
ends_side CloseParen = true
ends_side _ = false

-- a left side, where it is ended
abbrev pub ended : LhsTree → List Token → Found LhsTree
ended l ts = cond (begins ends_side ts) (Some (l, ts)) None

-- the patterns behind a variable
abbrev pub var_args : ℕ → Pos → NameRef → List Token → Found LhsTree
var_args n at v ts = and_then (apats_at n ts) (λ ps rest. ended (lhs.Function at v ps) rest)

-- a variable with the patterns behind it
abbrev pub var_side : ℕ → List Token → Found LhsTree
var_side n ts = and_then (var_at ts) (λ v rest. var_args n (place ts) v rest)

-- the right pattern of an operator
abbrev pub infix_right : ℕ → Pos → PatTree → OpName → List Token → Found LhsTree
infix_right n at p o ts = and_then (pattern_at n ts) (λ q rest. ended (lhs.Infix at p o q) rest)

-- behind a pattern: an operator and a pattern
abbrev pub infix_behind : ℕ → Pos → PatTree → List Token → Found LhsTree
infix_behind n at p ts = and_then (varop_at ts) (λ o rest. infix_right n at p o rest)

-- a pattern, an operator and a pattern
abbrev pub infix_side : ℕ → List Token → Found LhsTree
infix_side n ts = and_then (pattern_at n ts) (λ p rest. infix_behind n (place ts) p rest)

-- behind a pattern: an operator and a pattern, or nothing
abbrev pub pattern_behind : ℕ → Pos → PatTree → List Token → Found LhsTree
pattern_behind n at p ts = or_else_by (varop_at ts) (λ o rest. infix_right n at p o rest) (ended (lhs.Pattern at p) ts)

-- the same from the pattern on
abbrev pub pattern_side : ℕ → List Token → Found LhsTree
pattern_side n ts = and_then (pattern_at n ts) (λ p rest. pattern_behind n (place ts) p rest)

abbrev pub applied : Pos → LhsTree → List ApatTree → LhsTree
applied at l ps = lhs.Applied at l ps

-- behind a left side in parentheses: the patterns that it is applied to
abbrev pub applied_args : ℕ → Pos → LhsTree → List Token → Found LhsTree
applied_args n at l ts = and_then (some_apats n ts) (λ ps rest. ended (applied at l ps) rest)

-- the same from the closing parenthesis on
abbrev pub closed_args : ℕ → Pos → LhsTree → List Token → Found LhsTree
closed_args n at l ts = and_behind (behind is_close_paren ts) (applied_args n at l) None

-- a left side in parentheses with the patterns behind it
abbrev pub applied_side : ℕ → (List Token → Found LhsTree) → List Token → Found LhsTree
applied_side n side ts = and_behind (behind is_open_paren ts) (λ b. and_then (side b) (λ l c. closed_args n (place ts) l c)) None

-- what defines a function and doesn't begin with a variable that is its name
abbrev pub other_side : ℕ → (List Token → Found LhsTree) → List Token → Found LhsTree
other_side n side ts = or_else (infix_side n ts) (applied_side n side ts)

abbrev pub next_side : ℕ → (List Token → Found LhsTree) → List Token → Found LhsTree
next_side n side ts = or_else (var_side n ts) (other_side n side ts)

-- what defines a function
unfoldable pub function_side : ℕ → List Token → Found LhsTree
function_side zero ts = None
function_side (suc n) ts = next_side n (function_side n) ts

-- a left side that doesn't begin with a variable that is its name
abbrev pub pattern_or_applied : ℕ → List Token → Found LhsTree
pattern_or_applied n ts = or_else (pattern_side n ts) (applied_side n (function_side n) ts)

-- the left side of a clause
abbrev pub side_by : ℕ → List Token → Found LhsTree
side_by n ts = or_else (var_side n ts) (pattern_or_applied n ts)

-- as many steps as the tokens can take
abbrev pub enough : List Token → ℕ
enough ts = 8 * length ts + 8

abbrev pub side_at : List Token → Found LhsTree
side_at ts = side_by (enough ts) ts
