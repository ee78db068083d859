-- How types and contexts are read: each function for so many steps, from those for fewer.
use Rattle.std.specs.Prelude.{ℕ, suc, zero, Bool, true, false, List, [], ◌∷◌, ◌++◌, Some, None, cond}
use Rattle.mk_base.specs.declared.place.Pos.{Pos}
use Rattle.std.specs.declared.option.Option.{Option}
use Rattle.hs_syntax.specs.declared.token.Token.{Token}
use Rattle.hs_syntax.specs.declared.sign.Sign.{Sign}
use Rattle.hs_syntax.specs.declared.sign.Sign.TheVariants.{Var, Con, QualifiedCon, OpenParen, CloseParen, OpenSquare, Comma, Arrow}
use Rattle.hs_syntax.specs.declared.name_ref.NameRef.{NameRef}
use Rattle.hs_syntax.specs.declared.type_tree.TypeTree.{TypeTree}
use Rattle.hs_syntax.specs.declared.type_tree.BtypeTree.{BtypeTree}
use Rattle.hs_syntax.specs.declared.type_tree.AtypeTree.{AtypeTree}
use Rattle.hs_syntax.specs.declared.type_tree.AtypeTree.TheVariants as atype
use Rattle.hs_syntax.specs.declared.type_tree.ClassTree.{ClassTree}
use Rattle.hs_syntax.specs.declared.type_tree.ClassTree.TheVariants as class
use Rattle.hs_syntax.specs.declared.type_tree.ContextTree.{ContextTree}
use Rattle.hs_syntax.specs.declared.type_tree.ContextTree.TheVariants as context
use Rattle.hs_syntax.specs.declared.type_tree.QualifiedType.{QualifiedType}
use Rattle.hs_syntax.specs.Names.{name_ref}
use Rattle.hs_syntax.specs.Reading.{Found, and_then, or_else, or_else_by, with_first, begins, behind, and_behind, with_sign, is_comma, is_close_paren, is_close_square, is_open_paren, is_arrow, is_implies}
use Rattle.hs_syntax.specs.Made.{type_tree, btype_tree}
use Rattle.hs_parts.specs.Names.{place}
use Rattle.hs_parts.specs.NameReaders.{more_commas}

-- what begins an atype
abbrev pub begins_atype : Sign → Bool
begins_atype Var = true
begins_atype Con = true
begins_atype QualifiedCon = true
begins_atype OpenParen = true
begins_atype OpenSquare = true
begins_atype _ = false

pub record TypeReaders : Type 0 where
  pub ty : List Token → Found TypeTree
  pub btype : List Token → Found BtypeTree
  pub atypes : List AtypeTree → List Token → Found (List AtypeTree)
  pub atype : List Token → Found AtypeTree
  pub types : List TypeTree → List Token → Found (List TypeTree)

-- a btype with the arrow and the type behind it, or alone
abbrev pub arrow_at : TypeReaders → Pos → BtypeTree → List Token → Found TypeTree
arrow_at r at x ts = and_behind (behind is_arrow ts) (λ b. and_then (r.ty b) (λ y rest. Some (type_tree at x (Some y), rest))) (Some (type_tree at x None, ts))

abbrev pub special_by : Pos → Token → List Token → Sign → Found AtypeTree
special_by at t ts CloseParen = Some (atype.Unit at, ts)
special_by at t ts Arrow = with_sign (behind is_close_paren ts) (atype.Arrow at)
special_by at t ts Comma = and_then (more_commas ts) (λ n rest. Some (atype.TupleCon at n, rest))
special_by at t ts _ = None

-- behind an opening parenthesis: the rest of (), (->) or (, {,})
abbrev pub special_at : Pos → List Token → Found AtypeTree
special_at at ts = with_first ts None (special_by at)

abbrev pub paren_type : TypeReaders → Pos → List Token → Found AtypeTree
paren_type r at ts = or_else (special_at at ts) (and_then (r.types [] ts) (λ xs rest. with_sign (behind is_close_paren rest) (atype.Tuple at xs)))

abbrev pub list_type : Pos → TypeTree → AtypeTree
list_type at x = atype.List at x

abbrev pub square_type : TypeReaders → Pos → List Token → Found AtypeTree
square_type r at ts = and_behind (behind is_close_square ts) (λ rest. Some (atype.ListCon at, rest))
    (and_then (r.ty ts) (λ x rest. with_sign (behind is_close_square rest) (list_type at x)))

abbrev pub con_type : Token → List Token → Found AtypeTree
con_type t ts = Some (atype.Con t.at (name_ref t), ts)

abbrev pub var_type : Token → List Token → Found AtypeTree
var_type t ts = Some (atype.Var t.at (name_ref t), ts)

abbrev pub atype_by : TypeReaders → Token → List Token → Sign → Found AtypeTree
atype_by r t ts Con = con_type t ts
atype_by r t ts QualifiedCon = con_type t ts
atype_by r t ts Var = var_type t ts
atype_by r t ts OpenParen = paren_type r t.at ts
atype_by r t ts OpenSquare = square_type r t.at ts
atype_by r t ts _ = None

abbrev pub no_types : TypeReaders
no_types = record { ty = λ ts. None; btype = λ ts. None; atypes = λ xs ts. None; atype = λ ts. None; types = λ xs ts. None }

abbrev pub next_types : TypeReaders → TypeReaders
next_types r = record {
  ty = λ ts. and_then (r.btype ts) (arrow_at r (place ts));
  btype = λ ts. and_then (r.atype ts) (λ x rest. and_then (r.atypes [] rest) (λ xs last. Some (btype_tree (place ts) x xs, last)));
  atypes = λ xs ts. cond (begins begins_atype ts) (and_then (r.atype ts) (λ x rest. r.atypes (xs ++ x ∷ []) rest)) (Some (xs, ts));
  atype = λ ts. with_first ts None (atype_by r);
  types = λ xs ts. and_then (r.ty ts) (λ x rest. and_behind (behind is_comma rest) (r.types (xs ++ x ∷ [])) (Some (xs ++ x ∷ [], rest)));
}

unfoldable pub type_readers : ℕ → TypeReaders
type_readers zero = no_types
type_readers (suc n) = next_types (type_readers n)

-- Types in front of an arrow that isn't theirs

-- a btype at this place with the arrow at `ts` and the type behind it, where that type has an arrow behind it; else the btype alone
abbrev pub type_before : Pos → BtypeTree → List Token → TypeTree → List Token → Found TypeTree
type_before at x ts y rest = cond (begins is_arrow rest) (Some (type_tree at x (Some y), rest)) (Some (type_tree at x None, ts))

abbrev pub next_tail : ℕ → (List Token → Found TypeTree) → List Token → Found TypeTree
next_tail n tail ts = and_then ((type_readers n).btype ts) (λ x b.
    and_behind (behind is_arrow b) (λ c. or_else_by (tail c) (type_before (place ts) x b) (Some (type_tree (place ts) x None, b))) (Some (type_tree (place ts) x None, b)))

-- A type as far as an arrow follows it: the last arrow whose front is a type is left, with all that is behind it.
unfoldable pub type_tail : ℕ → List Token → Found TypeTree
type_tail zero ts = None
type_tail (suc n) ts = next_tail n (type_tail n) ts

-- Contexts

-- atype {atype}
abbrev pub some_atypes : ℕ → List Token → Found (List AtypeTree)
some_atypes n ts = cond (begins begins_atype ts) ((type_readers n).atypes [] ts) None

abbrev pub class_args : ℕ → Pos → NameRef → NameRef → List Token → Found ClassTree
class_args n at c v ts = and_then (some_atypes n ts) (λ xs rest. with_sign (behind is_close_paren rest) (class.Applied at c v xs))

abbrev pub applied_by : ℕ → Pos → NameRef → Token → List Token → Sign → Found ClassTree
applied_by n at c t ts Var = class_args n at c (name_ref t) ts
applied_by n at c t ts _ = None

abbrev pub applied_class : ℕ → Pos → NameRef → List Token → Found ClassTree
applied_class n at c ts = with_first ts None (applied_by n at c)

abbrev pub class_of_by : ℕ → Token → Token → List Token → Sign → Found ClassTree
class_of_by n c t ts Var = Some (class.Var c.at (name_ref c) (name_ref t), ts)
class_of_by n c t ts OpenParen = applied_class n c.at (name_ref c) ts
class_of_by n c t ts _ = None

abbrev pub class_of : ℕ → Token → List Token → Found ClassTree
class_of n c ts = with_first ts None (class_of_by n c)

abbrev pub class_by : ℕ → Token → List Token → Sign → Found ClassTree
class_by n t ts Con = class_of n t ts
class_by n t ts QualifiedCon = class_of n t ts
class_by n t ts _ = None

abbrev pub class_at : ℕ → List Token → Found ClassTree
class_at n ts = with_first ts None (class_by n)

-- classes with commas between them, behind those so far
unfoldable pub classes_at : ℕ → List ClassTree → List Token → Found (List ClassTree)
classes_at zero xs ts = None
classes_at (suc n) xs ts = and_then (class_at n ts) (λ x rest. and_behind (behind is_comma rest) (classes_at n (xs ++ x ∷ [])) (Some (xs ++ x ∷ [], rest)))

abbrev pub listed_at : ℕ → Pos → List Token → Found ContextTree
listed_at n at ts = and_behind (behind is_close_paren ts) (λ rest. Some (context.Listed at [], rest))
    (and_then (classes_at n [] ts) (λ xs rest. with_sign (behind is_close_paren rest) (context.Listed at xs)))

abbrev pub context_by : ℕ → Token → List Token → Sign → Found ContextTree
context_by n t ts OpenParen = listed_at n t.at ts
context_by n t ts _ = and_then (class_at n (t ∷ ts)) (λ x rest. Some (context.One t.at x, rest))

abbrev pub context_at : ℕ → List Token → Found ContextTree
context_at n ts = with_first ts None (context_by n)

-- a context and the => behind it
abbrev pub context_before : ℕ → List Token → Found ContextTree
context_before n ts = and_then (context_at n ts) (λ k rest. with_sign (behind is_implies rest) k)

abbrev pub qualified : Pos → Option ContextTree → TypeTree → QualifiedType
qualified at k x = record { at = at; context = k; ty = x }

-- a type that is read, behind its context at this place
abbrev pub typed_by : Pos → Option ContextTree → Found TypeTree → Found QualifiedType
typed_by at k m = and_then m (λ x rest. Some (qualified at k x, rest))

-- [context =>] and what is read behind it as a type
abbrev pub qualified_by : ℕ → (List Token → Found TypeTree) → List Token → Found QualifiedType
qualified_by n ty ts = or_else_by (context_before n ts) (λ k rest. typed_by (place ts) (Some k) (ty rest)) (typed_by (place ts) None (ty ts))

-- [context =>] type, as far as it goes
abbrev pub qualified_at : ℕ → List Token → Found QualifiedType
qualified_at n ts = qualified_by n (type_readers n).ty ts

-- [context =>] type, where an arrow follows that isn't the type's
abbrev pub qualified_tail : ℕ → List Token → Found QualifiedType
qualified_tail n ts = qualified_by n (type_tail n) ts
