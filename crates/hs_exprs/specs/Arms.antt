-- What the arms of a reader are that have functions of their own.
use Rattle.std.specs.Prelude.{Bool, false, List, [], Some, None}
use Rattle.hs_syntax.specs.declared.token.Token.{Token}
use Rattle.mk_base.specs.declared.place.Pos.{Pos}
use Rattle.hs_syntax.specs.declared.pattern_tree.LhsTree.{LhsTree}
use Rattle.hs_syntax.specs.declared.pattern_tree.PatTree.{PatTree}
use Rattle.hs_syntax.specs.declared.expr_tree.GuardTree.{GuardTree}
use Rattle.hs_syntax.specs.declared.expr_tree.Clause.{Clause}
use Rattle.hs_syntax.specs.declared.expr_tree.AexpTree.{AexpTree}
use Rattle.hs_syntax.specs.declared.expr_tree.DeclTree.{DeclTree}
use Rattle.hs_syntax.specs.Made.{clause}
use Rattle.hs_syntax.specs.Reading.{Found, and_then, with_first}
use Rattle.hs_parts.specs.Names.{place}
use Rattle.expr_parts.specs.declared.piece.Body.{Body}
use Rattle.expr_parts.specs.declared.piece.Part.{Part}
use Rattle.expr_parts.specs.declared.piece.Part.TheVariants as part
use Rattle.expr_parts.specs.Expressions.{Forms, simple_by, clause_decl, rhs_of, bind_guard}

-- an expression in parentheses or brackets
abbrev pub nested_at : Forms → List Token → Found AexpTree
nested_at r ts = with_first ts None (simple_by r)

-- a clause as a declaration
abbrev pub clause_item_at : Forms → List Token → Found DeclTree
clause_item_at r ts = and_then (r.clause ts) (λ k rest. Some (clause_decl (place ts) k, rest))

-- a left side in a box
abbrev pub found_side : LhsTree → List Token → Found LhsTree
found_side l ts = Some (l, ts)

-- the clause of a left side and a body, at their places
abbrev pub found_clause : Pos → LhsTree → Pos → Body → List Token → Found Clause
found_clause at l p b ts = Some (clause at l (rhs_of p b), ts)

-- a clause from its left side, with which its tokens begin, and the tokens behind that
abbrev pub clause_body_at : Forms → List Token → LhsTree → List Token → Found Clause
clause_body_at r ts l rest = and_then (r.body false rest) (λ b end. Some (clause (place ts) l (rhs_of (place rest) b), end))

-- behind the <- of a qualifier or a statement: the expression
abbrev pub bind_part_at : Forms → PatTree → List Token → Found Part
bind_part_at r p ts = and_then (r.exp false ts) (λ e end. Some (part.Bind p e, end))

-- behind the <- of a guard: the chain
abbrev pub bound_guard_at : Forms → Bool → Pos → PatTree → List Token → Found GuardTree
bound_guard_at r s at p ts = and_then (r.chain s (place ts) [] ts) (λ c end. Some (bind_guard at p c, end))
