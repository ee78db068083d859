-- The grammar of types, patterns, left sides, signatures and fixities (Haskell 2010 Report, sections 4.1.2, 3.17, 4.4): by a
-- tree one text leads to another where the tokens between them are the tree's.
use Rattle.std.specs.Prelude.{◌≡◌, ℕ, ◌-◌, nat_lt, Bool, true, false, List, [], ◌∷◌, Some, None, if◌then◌else◌}
use Rattle.std.specs.declared.option.Option.{Option}
use Rattle.hs_syntax.specs.declared.token.Token.{Token}
use Rattle.hs_syntax.specs.declared.sign.Sign.{Sign}
use Rattle.hs_syntax.specs.declared.sign.Sign.TheVariants.{Var, Con, QualifiedCon, Minus, Number, Quoted, OpenBrace, CloseBrace, OpenParen, CloseParen, OpenSquare, CloseSquare, Comma, Infix, Infixl, Infixr, Wild, Typed, Equals, Arrow, As, Tilde, Implies}
use Rattle.hs_syntax.specs.declared.name_ref.NameRef.{NameRef}
use Rattle.hs_syntax.specs.declared.name_ref.OpName.{OpName}
use Rattle.hs_syntax.specs.declared.name_ref.QopTree.{QopTree}
use Rattle.hs_syntax.specs.declared.type_tree.TypeTree.{TypeTree}
use Rattle.hs_syntax.specs.declared.type_tree.BtypeTree.{BtypeTree}
use Rattle.hs_syntax.specs.declared.type_tree.AtypeTree.{AtypeTree}
use Rattle.hs_syntax.specs.declared.type_tree.AtypeTree.TheVariants as atype
use Rattle.hs_syntax.specs.declared.type_tree.ClassTree.{ClassTree}
use Rattle.hs_syntax.specs.declared.type_tree.ClassTree.TheVariants as class
use Rattle.hs_syntax.specs.declared.type_tree.ContextTree.{ContextTree}
use Rattle.hs_syntax.specs.declared.type_tree.ContextTree.TheVariants as context
use Rattle.hs_syntax.specs.declared.type_tree.QualifiedType.{QualifiedType}
use Rattle.hs_syntax.specs.declared.pattern_tree.GconTree.{GconTree}
use Rattle.hs_syntax.specs.declared.pattern_tree.PatTree.{PatTree}
use Rattle.hs_syntax.specs.declared.pattern_tree.PatLink.{PatLink}
use Rattle.hs_syntax.specs.declared.pattern_tree.PatOperand.{PatOperand}
use Rattle.hs_syntax.specs.declared.pattern_tree.PatOperand.TheVariants as operand
use Rattle.hs_syntax.specs.declared.pattern_tree.ApatTree.{ApatTree}
use Rattle.hs_syntax.specs.declared.pattern_tree.ApatTree.TheVariants as apat
use Rattle.hs_syntax.specs.declared.pattern_tree.FpatTree.{FpatTree}
use Rattle.hs_syntax.specs.declared.pattern_tree.LhsTree.{LhsTree}
use Rattle.hs_syntax.specs.declared.pattern_tree.LhsTree.TheVariants as lhs
use Rattle.hs_syntax.specs.declared.expr_tree.SigTree.{SigTree}
use Rattle.hs_syntax.specs.declared.expr_tree.FixTree.{FixTree}
use Rattle.hs_syntax.specs.declared.expr_tree.FixWord.{FixWord}
use Rattle.hs_syntax.specs.declared.expr_tree.FixWord.TheVariants as fix
use Rattle.hs_syntax.specs.Signs.{sign_of}
use Rattle.hs_syntax.specs.Names.{name_ref}
use Rattle.hs_syntax.specs.Made.{type_tree, btype_tree, pat_tree, pat_link, fpat_tree}
use Rattle.hs_parts.specs.Names.{place, is_qconid, IsVar, IsQvar, IsQcon, IsCommas, IsGcon, IsQconop, IsVarop, IsOp}

-- Types

mutual
  -- type = btype [-> type]
  pub data IsType : List Token → List Token → TypeTree → Type 0 where
    LoneType : {a b : List Token} {x : BtypeTree} → IsBtype a b x → IsType a b (type_tree (place a) x None)
    ArrowType : {a b c : List Token} {w : Token} {x : BtypeTree} {y : TypeTree}
        → IsBtype a (w ∷ b) x → sign_of w ≡ Arrow → IsType b c y → IsType a c (type_tree (place a) x (Some y))

  -- btype = atype {atype}
  pub data IsBtype : List Token → List Token → BtypeTree → Type 0 where
    AppliedBtype : {a b c : List Token} {x : AtypeTree} {xs : List AtypeTree} → IsAtype a b x → IsAtypes b c xs → IsBtype a c (btype_tree (place a) x xs)

  -- {atype}
  pub data IsAtypes : List Token → List Token → List AtypeTree → Type 0 where
    NoAtypes : {a : List Token} → IsAtypes a a []
    MoreAtypes : {a b c : List Token} {x : AtypeTree} {xs : List AtypeTree} → IsAtype a b x → IsAtypes b c xs → IsAtypes a c (x ∷ xs)

  -- atype = qtycon | () | [] | (->) | (, {,}) | tyvar | ( type {, type} ) | [ type ]
  pub data IsAtype : List Token → List Token → AtypeTree → Type 0 where
    ConAtype : {a : List Token} {t : Token} → is_qconid (sign_of t) ≡ true → IsAtype (t ∷ a) a (atype.Con t.at (name_ref t))
    UnitAtype : {a : List Token} {o c : Token} → sign_of o ≡ OpenParen → sign_of c ≡ CloseParen → IsAtype (o ∷ c ∷ a) a (atype.Unit o.at)
    ListConAtype : {a : List Token} {o c : Token} → sign_of o ≡ OpenSquare → sign_of c ≡ CloseSquare → IsAtype (o ∷ c ∷ a) a (atype.ListCon o.at)
    ArrowAtype : {a : List Token} {o w c : Token} → sign_of o ≡ OpenParen → sign_of w ≡ Arrow → sign_of c ≡ CloseParen → IsAtype (o ∷ w ∷ c ∷ a) a (atype.Arrow o.at)
    TupleConAtype : {a b : List Token} {o c : Token} {n : ℕ} → sign_of o ≡ OpenParen → IsCommas a (c ∷ b) n → sign_of c ≡ CloseParen → IsAtype (o ∷ a) b (atype.TupleCon o.at n)
    VarAtype : {a : List Token} {t : Token} → sign_of t ≡ Var → IsAtype (t ∷ a) a (atype.Var t.at (name_ref t))
    TupleAtype : {a b : List Token} {o c : Token} {xs : List TypeTree} → sign_of o ≡ OpenParen → IsTypes a (c ∷ b) xs → sign_of c ≡ CloseParen → IsAtype (o ∷ a) b (atype.Tuple o.at xs)
    ListAtype : {a b : List Token} {o c : Token} {x : TypeTree} → sign_of o ≡ OpenSquare → IsType a (c ∷ b) x → sign_of c ≡ CloseSquare → IsAtype (o ∷ a) b (atype.List o.at x)

  -- type {, type}
  pub data IsTypes : List Token → List Token → List TypeTree → Type 0 where
    LastType : {a b : List Token} {x : TypeTree} → IsType a b x → IsTypes a b (x ∷ [])
    MoreTypes : {a b c : List Token} {m : Token} {x : TypeTree} {xs : List TypeTree} → IsType a (m ∷ b) x → sign_of m ≡ Comma → IsTypes b c xs → IsTypes a c (x ∷ xs)

-- class = qtycls tyvar | qtycls ( tyvar atype {atype} )
pub data IsClass : List Token → List Token → ClassTree → Type 0 where
  VarClass : {a : List Token} {t v : Token} → is_qconid (sign_of t) ≡ true → sign_of v ≡ Var → IsClass (t ∷ v ∷ a) a (class.Var t.at (name_ref t) (name_ref v))
  AppliedClass : {a b : List Token} {t o v c : Token} {x : AtypeTree} {xs : List AtypeTree}
      → is_qconid (sign_of t) ≡ true → sign_of o ≡ OpenParen → sign_of v ≡ Var → IsAtypes a (c ∷ b) (x ∷ xs) → sign_of c ≡ CloseParen
      → IsClass (t ∷ o ∷ v ∷ a) b (class.Applied t.at (name_ref t) (name_ref v) (x ∷ xs))

-- class {, class}
pub data IsClasses : List Token → List Token → List ClassTree → Type 0 where
  LastClass : {a b : List Token} {x : ClassTree} → IsClass a b x → IsClasses a b (x ∷ [])
  MoreClasses : {a b c : List Token} {m : Token} {x : ClassTree} {xs : List ClassTree} → IsClass a (m ∷ b) x → sign_of m ≡ Comma → IsClasses b c xs → IsClasses a c (x ∷ xs)

-- context = class | ( [class {, class}] )
pub data IsContext : List Token → List Token → ContextTree → Type 0 where
  OneContext : {a b : List Token} {x : ClassTree} → IsClass a b x → IsContext a b (context.One (place a) x)
  EmptyContext : {a : List Token} {o c : Token} → sign_of o ≡ OpenParen → sign_of c ≡ CloseParen → IsContext (o ∷ c ∷ a) a (context.Listed o.at [])
  ListedContext : {a b : List Token} {o c : Token} {xs : List ClassTree} → sign_of o ≡ OpenParen → IsClasses a (c ∷ b) xs → sign_of c ≡ CloseParen → IsContext (o ∷ a) b (context.Listed o.at xs)

-- [context =>] type
pub data IsQualified : List Token → List Token → QualifiedType → Type 0 where
  PlainQualified : {a b : List Token} {x : TypeTree} → IsType a b x → IsQualified a b (record { at = place a; context = None; ty = x })
  ContextQualified : {a b c : List Token} {w : Token} {k : ContextTree} {x : TypeTree}
      → IsContext a (w ∷ b) k → sign_of w ≡ Implies → IsType b c x → IsQualified a c (record { at = place a; context = Some k; ty = x })

-- Patterns

mutual
  -- pattern = {operand qconop} operand
  pub data IsPattern : List Token → List Token → PatTree → Type 0 where
    ChainPattern : {a b : List Token} {ls : List PatLink} {x : PatOperand} → IsOperands a b ls x → IsPattern a b (pat_tree (place a) ls x)

  -- the operands that an operator follows, and the last one
  pub data IsOperands : List Token → List Token → List PatLink → PatOperand → Type 0 where
    LastOperand : {a b : List Token} {x : PatOperand} → IsOperand a b x → IsOperands a b [] x
    MoreOperands : {a b c d : List Token} {x y : PatOperand} {q : OpName} {ls : List PatLink}
        → IsOperand a b x → IsQconop b c q → IsOperands c d ls y → IsOperands a d (pat_link (place a) x q ∷ ls) y

  -- operand = [-] number | gcon {apat} | apat, where a lone number and a lone constructor are the first two
  pub data IsOperand : List Token → List Token → PatOperand → Type 0 where
    NumberOperand : {a : List Token} {t : Token} → sign_of t ≡ Number → IsOperand (t ∷ a) a (operand.Number t.at false t)
    MinusOperand : {a : List Token} {m t : Token} → sign_of m ≡ Minus → sign_of t ≡ Number → IsOperand (m ∷ t ∷ a) a (operand.Number m.at true t)
    AppliedOperand : {a b c : List Token} {g : GconTree} {ps : List ApatTree} → IsGcon a b g → IsApats b c ps → IsOperand a c (operand.Applied (place a) g ps)
    SingleOperand : {a b : List Token} {p : ApatTree} → IsSingle a b p → IsOperand a b (operand.Single (place a) p)

  -- {apat}
  pub data IsApats : List Token → List Token → List ApatTree → Type 0 where
    NoApats : {a : List Token} → IsApats a a []
    MoreApats : {a b c : List Token} {p : ApatTree} {ps : List ApatTree} → IsApat a b p → IsApats b c ps → IsApats a c (p ∷ ps)

  -- apat = gcon | number | single
  pub data IsApat : List Token → List Token → ApatTree → Type 0 where
    ConApat : {a b : List Token} {g : GconTree} → IsGcon a b g → IsApat a b (apat.Con (place a) g)
    NumberApat : {a : List Token} {t : Token} → sign_of t ≡ Number → IsApat (t ∷ a) a (apat.Literal t.at t)
    SingleApat : {a b : List Token} {p : ApatTree} → IsSingle a b p → IsApat a b p

  -- single = var [@ apat] | qcon { [fpat {, fpat}] } | character | string | _ | ( pattern {, pattern} ) | [ pattern {, pattern} ] | ~ apat
  pub data IsSingle : List Token → List Token → ApatTree → Type 0 where
    VarSingle : {a b : List Token} {n : NameRef} → IsVar a b n → IsSingle a b (apat.Var (place a) n None)
    AsSingle : {a b c : List Token} {t : Token} {n : NameRef} {p : ApatTree} → IsVar a (t ∷ b) n → sign_of t ≡ As → IsApat b c p → IsSingle a c (apat.Var (place a) n (Some p))
    EmptySingle : {a b : List Token} {o c : Token} {n : NameRef} → IsQcon a (o ∷ c ∷ b) n → sign_of o ≡ OpenBrace false → sign_of c ≡ CloseBrace false → IsSingle a b (apat.Record (place a) n [])
    RecordSingle : {a b d : List Token} {o c : Token} {n : NameRef} {fs : List FpatTree}
        → IsQcon a (o ∷ b) n → sign_of o ≡ OpenBrace false → IsFpats b (c ∷ d) fs → sign_of c ≡ CloseBrace false → IsSingle a d (apat.Record (place a) n fs)
    QuotedSingle : {a : List Token} {t : Token} → sign_of t ≡ Quoted → IsSingle (t ∷ a) a (apat.Literal t.at t)
    WildSingle : {a : List Token} {t : Token} → sign_of t ≡ Wild → IsSingle (t ∷ a) a (apat.Wild t.at)
    TupleSingle : {a b : List Token} {o c : Token} {ps : List PatTree} → sign_of o ≡ OpenParen → IsPatterns a (c ∷ b) ps → sign_of c ≡ CloseParen → IsSingle (o ∷ a) b (apat.Tuple o.at ps)
    ListSingle : {a b : List Token} {o c : Token} {ps : List PatTree} → sign_of o ≡ OpenSquare → IsPatterns a (c ∷ b) ps → sign_of c ≡ CloseSquare → IsSingle (o ∷ a) b (apat.List o.at ps)
    LazySingle : {a b : List Token} {t : Token} {p : ApatTree} → sign_of t ≡ Tilde → IsApat a b p → IsSingle (t ∷ a) b (apat.Lazy t.at p)

  -- pattern {, pattern}
  pub data IsPatterns : List Token → List Token → List PatTree → Type 0 where
    LastPattern : {a b : List Token} {p : PatTree} → IsPattern a b p → IsPatterns a b (p ∷ [])
    MorePatterns : {a b c : List Token} {m : Token} {p : PatTree} {ps : List PatTree} → IsPattern a (m ∷ b) p → sign_of m ≡ Comma → IsPatterns b c ps → IsPatterns a c (p ∷ ps)

  -- fpat {, fpat}
  pub data IsFpats : List Token → List Token → List FpatTree → Type 0 where
    LastFpat : {a b : List Token} {f : FpatTree} → IsFpat a b f → IsFpats a b (f ∷ [])
    MoreFpats : {a b c : List Token} {m : Token} {f : FpatTree} {fs : List FpatTree} → IsFpat a (m ∷ b) f → sign_of m ≡ Comma → IsFpats b c fs → IsFpats a c (f ∷ fs)

  -- fpat = qvar = pattern
  pub data IsFpat : List Token → List Token → FpatTree → Type 0 where
    FieldFpat : {a b c : List Token} {t : Token} {n : NameRef} {p : PatTree} → IsQvar a (t ∷ b) n → sign_of t ≡ Equals → IsPattern b c p → IsFpat a c (fpat_tree (place a) n p)

-- Left sides

-- what defines a function: var {apat} | ( function ) apat {apat} | pattern varop pattern
pub data IsFunction : List Token → List Token → LhsTree → Type 0 where
  VarFunction : {a b c : List Token} {n : NameRef} {ps : List ApatTree} → IsVar a b n → IsApats b c ps → IsFunction a c (lhs.Function (place a) n ps)
  AppliedFunction : {a b d : List Token} {o c : Token} {l : LhsTree} {p : ApatTree} {ps : List ApatTree}
      → sign_of o ≡ OpenParen → IsFunction a (c ∷ b) l → sign_of c ≡ CloseParen → IsApats b d (p ∷ ps) → IsFunction (o ∷ a) d (lhs.Applied o.at l (p ∷ ps))
  InfixFunction : {a b c d : List Token} {p q : PatTree} {o : OpName} → IsPattern a b p → IsVarop b c o → IsPattern c d q → IsFunction a d (lhs.Infix (place a) p o q)

-- lhs = function | pattern, where a lone variable is a function without patterns
pub data IsLhs : List Token → List Token → LhsTree → Type 0 where
  FunctionLhs : {a b : List Token} {l : LhsTree} → IsFunction a b l → IsLhs a b l
  PatternLhs : {a b : List Token} {p : PatTree} → ((n : NameRef) → IsVar a b n → ⊥) → IsPattern a b p → IsLhs a b (lhs.Pattern (place a) p)

-- Signatures and fixities

-- var {, var}
pub data IsVars : List Token → List Token → List NameRef → Type 0 where
  LastVar : {a b : List Token} {n : NameRef} → IsVar a b n → IsVars a b (n ∷ [])
  MoreVars : {a b c : List Token} {m : Token} {n : NameRef} {ns : List NameRef} → IsVar a (m ∷ b) n → sign_of m ≡ Comma → IsVars b c ns → IsVars a c (n ∷ ns)

-- sig = var {, var} :: [context =>] type
pub data IsSig : List Token → List Token → SigTree → Type 0 where
  TypedSig : {a b c : List Token} {t : Token} {ns : List NameRef} {q : QualifiedType} → IsVars a (t ∷ b) ns → sign_of t ≡ Typed → IsQualified b c q → IsSig a c (record { at = place a; names = ns; ty = q })

-- infixl, infixr or infix
abbrev pub word_of : Sign → Option FixWord
word_of Infixl = Some fix.Infixl
word_of Infixr = Some fix.Infixr
word_of Infix = Some fix.Infix
word_of _ = None

-- the value of one digit of ASCII
abbrev pub digit_of : List ℕ → Option ℕ
digit_of (b ∷ []) = if nat_lt b 48 then None else if nat_lt b 58 then Some (b - 48) else None
digit_of _ = None

-- [digit], one digit of ASCII
pub data IsDigit : List Token → List Token → Option ℕ → Type 0 where
  NoDigit : {a : List Token} → IsDigit a a None
  OneDigit : {a : List Token} {t : Token} {d : ℕ} → sign_of t ≡ Number → digit_of t.text ≡ Some d → IsDigit (t ∷ a) a (Some d)

-- op {, op}
pub data IsOps : List Token → List Token → List QopTree → Type 0 where
  LastOp : {a b : List Token} {q : QopTree} → IsOp a b q → IsOps a b (q ∷ [])
  MoreOps : {a b c : List Token} {m : Token} {q : QopTree} {qs : List QopTree} → IsOp a (m ∷ b) q → sign_of m ≡ Comma → IsOps b c qs → IsOps a c (q ∷ qs)

-- fix = (infixl|infixr|infix) [digit] op {, op}
pub data IsFix : List Token → List Token → FixTree → Type 0 where
  WordFix : {a b c : List Token} {t : Token} {w : FixWord} {d : Option ℕ} {qs : List QopTree}
      → word_of (sign_of t) ≡ Some w → IsDigit a b d → IsOps b c qs → IsFix (t ∷ a) c (record { at = t.at; word = w; digit = d; ops = qs })
