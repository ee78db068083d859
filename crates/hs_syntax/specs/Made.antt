-- The trees that are made of their parts.
use Rattle.std.specs.Prelude.{List, Bool}
use Rattle.std.specs.declared.option.Option.{Option}
use Rattle.mk_base.specs.declared.place.Pos.{Pos}
use Rattle.hs_syntax.specs.declared.expr_tree.ArmTree.{ArmTree}
use Rattle.hs_syntax.specs.declared.type_tree.AtypeTree.{AtypeTree}
use Rattle.hs_syntax.specs.declared.type_tree.BtypeTree.{BtypeTree}
use Rattle.hs_syntax.specs.declared.expr_tree.ChainTree.{ChainTree}
use Rattle.hs_syntax.specs.declared.expr_tree.Clause.{Clause}
use Rattle.hs_syntax.specs.declared.expr_tree.ClosedTree.{ClosedTree}
use Rattle.hs_syntax.specs.declared.expr_tree.ExprTree.{ExprTree}
use Rattle.hs_syntax.specs.declared.expr_tree.FbindTree.{FbindTree}
use Rattle.hs_syntax.specs.declared.pattern_tree.FpatTree.{FpatTree}
use Rattle.hs_syntax.specs.declared.expr_tree.GuardTree.{GuardTree}
use Rattle.hs_syntax.specs.declared.expr_tree.LastTree.{LastTree}
use Rattle.hs_syntax.specs.declared.pattern_tree.LhsTree.{LhsTree}
use Rattle.hs_syntax.specs.declared.expr_tree.LinkTree.{LinkTree}
use Rattle.hs_syntax.specs.declared.name_ref.NameRef.{NameRef}
use Rattle.hs_syntax.specs.declared.name_ref.OpName.{OpName}
use Rattle.hs_syntax.specs.declared.pattern_tree.PatLink.{PatLink}
use Rattle.hs_syntax.specs.declared.pattern_tree.PatOperand.{PatOperand}
use Rattle.hs_syntax.specs.declared.pattern_tree.PatTree.{PatTree}
use Rattle.hs_syntax.specs.declared.name_ref.QopTree.{QopTree}
use Rattle.hs_syntax.specs.declared.type_tree.QualifiedType.{QualifiedType}
use Rattle.hs_syntax.specs.declared.expr_tree.RhsTree.{RhsTree}
use Rattle.hs_syntax.specs.declared.type_tree.TypeTree.{TypeTree}
use Rattle.hs_syntax.specs.declared.expr_tree.UpdateTree.{UpdateTree}
use Rattle.hs_syntax.specs.declared.type_tree.AtypeTree.TheViews.{roll-TypeTree, roll-BtypeTree}
use Rattle.hs_syntax.specs.declared.pattern_tree.ApatTree.TheViews.{roll-PatTree, roll-PatLink, roll-FpatTree}
use Rattle.hs_syntax.specs.declared.expr_tree.AexpTree.TheViews.{roll-ExprTree, roll-ChainTree, roll-LinkTree, roll-ArmTree, roll-UpdateTree, roll-FbindTree, roll-Clause}

-- btype [-> type]
abbrev pub type_tree : Pos → BtypeTree → Option TypeTree → TypeTree
type_tree at from to = roll-TypeTree (record { at = at; from = from; to = to })

-- atype {atype}
abbrev pub btype_tree : Pos → AtypeTree → List AtypeTree → BtypeTree
btype_tree at head args = roll-BtypeTree (record { at = at; head = head; args = args })

-- operands of a pattern with operators between them
abbrev pub pat_tree : Pos → List PatLink → PatOperand → PatTree
pat_tree at links last = roll-PatTree (record { at = at; links = links; last = last })

-- an operand of a pattern, and the operator behind it
abbrev pub pat_link : Pos → PatOperand → OpName → PatLink
pat_link at operand op = roll-PatLink (record { at = at; operand = operand; op = op })

-- qvar = pattern
abbrev pub fpat_tree : Pos → NameRef → PatTree → FpatTree
fpat_tree at name pattern = roll-FpatTree (record { at = at; name = name; pattern = pattern })

-- chain [:: [context =>] type]
abbrev pub expr_tree : Pos → ChainTree → Option QualifiedType → ExprTree
expr_tree at chain ty = roll-ExprTree (record { at = at; chain = chain; ty = ty })

-- operands with operators between them
abbrev pub chain_tree : Pos → List LinkTree → LastTree → ChainTree
chain_tree at links last = roll-ChainTree (record { at = at; links = links; last = last })

-- an operand, and the operator behind it
abbrev pub link_tree : Pos → Bool → ClosedTree → QopTree → LinkTree
link_tree at minus operand op = roll-LinkTree (record { at = at; minus = minus; operand = operand; op = op })

-- guards, and what holds where they do
abbrev pub arm_tree : Pos → List GuardTree → ExprTree → ArmTree
arm_tree at guards body = roll-ArmTree (record { at = at; guards = guards; body = body })

-- { fbind {, fbind} }
abbrev pub update_tree : Pos → List FbindTree → UpdateTree
update_tree at fields = roll-UpdateTree (record { at = at; fields = fields })

-- qvar = exp
abbrev pub fbind_tree : Pos → NameRef → ExprTree → FbindTree
fbind_tree at name exp = roll-FbindTree (record { at = at; name = name; exp = exp })

-- lhs rhs
abbrev pub clause : Pos → LhsTree → RhsTree → Clause
clause at lhs rhs = roll-Clause (record { at = at; lhs = lhs; rhs = rhs })
