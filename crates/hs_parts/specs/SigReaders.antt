-- How signatures and fixities are read.
use Rattle.std.specs.Prelude.{ℕ, suc, zero, List, [], ◌∷◌, ◌++◌, Some, None}
use Rattle.std.specs.declared.option.Option.{Option}
use Rattle.mk_base.specs.declared.place.Pos.{Pos}
use Rattle.hs_syntax.specs.declared.token.Token.{Token}
use Rattle.hs_syntax.specs.declared.sign.Sign.{Sign}
use Rattle.hs_syntax.specs.declared.sign.Sign.TheVariants.{Number, Infix, Infixl, Infixr}
use Rattle.hs_syntax.specs.declared.name_ref.NameRef.{NameRef}
use Rattle.hs_syntax.specs.declared.name_ref.QopTree.{QopTree}
use Rattle.hs_syntax.specs.declared.type_tree.QualifiedType.{QualifiedType}
use Rattle.hs_syntax.specs.declared.expr_tree.SigTree.{SigTree}
use Rattle.hs_syntax.specs.declared.expr_tree.FixTree.{FixTree}
use Rattle.hs_syntax.specs.declared.expr_tree.FixWord.{FixWord}
use Rattle.hs_syntax.specs.declared.expr_tree.FixWord.TheVariants as fix
use Rattle.hs_syntax.specs.Reading.{Found, and_then, with_first, behind, and_behind, with_sign, is_comma, is_typed}
use Rattle.hs_parts.specs.Names.{place}
use Rattle.hs_parts.specs.Grammar.{word_of, digit_of}
use Rattle.hs_parts.specs.NameReaders.{var_at, op_at}
use Rattle.hs_parts.specs.TypeReaders.{qualified_at}

-- variables with commas between them, behind those so far
unfoldable pub vars_at : ℕ → List NameRef → List Token → Found (List NameRef)
vars_at zero ns ts = None
vars_at (suc n) ns ts = and_then (var_at ts) (λ v rest. and_behind (behind is_comma rest) (vars_at n (ns ++ v ∷ [])) (Some (ns ++ v ∷ [], rest)))

-- variables and the :: behind them
abbrev pub typed_vars : ℕ → List Token → Found (List NameRef)
typed_vars n ts = and_then (vars_at n [] ts) (λ ns rest. with_sign (behind is_typed rest) ns)

abbrev pub signature : Pos → List NameRef → QualifiedType → SigTree
signature at ns q = record { at = at; names = ns; ty = q }

-- the type of a signature whose names stand at this place
abbrev pub sig_of : ℕ → Pos → List NameRef → List Token → Found SigTree
sig_of n at ns ts = and_then (qualified_at n ts) (λ q rest. Some (signature at ns q, rest))

-- sig
abbrev pub sig_at : ℕ → List Token → Found SigTree
sig_at n ts = and_then (typed_vars n ts) (sig_of n (place ts))

-- operators with commas between them, behind those so far
unfoldable pub ops_at : ℕ → List QopTree → List Token → Found (List QopTree)
ops_at zero qs ts = None
ops_at (suc n) qs ts = and_then (op_at ts) (λ q rest. and_behind (behind is_comma rest) (ops_at n (qs ++ q ∷ [])) (Some (qs ++ q ∷ [], rest)))

-- a digit at the front, where it is one
abbrev pub digit_or : Option ℕ → List Token → Found (Option ℕ)
digit_or None ts = None
digit_or (Some d) ts = Some (Some d, ts)

abbrev pub digit_by : Token → List Token → Sign → Found (Option ℕ)
digit_by t ts Number = digit_or (digit_of t.text) ts
digit_by t ts _ = Some (None, t ∷ ts)

-- [digit]
abbrev pub digit_at : List Token → Found (Option ℕ)
digit_at ts = with_first ts (Some (None, [])) digit_by

abbrev pub fixity : Pos → FixWord → Option ℕ → List QopTree → FixTree
fixity at w d qs = record { at = at; word = w; digit = d; ops = qs }

-- the digit and the operators behind the word
abbrev pub fix_behind : ℕ → Pos → FixWord → List Token → Found FixTree
fix_behind n at w ts = and_then (digit_at ts) (λ d rest. and_then (ops_at n [] rest) (λ qs last. Some (fixity at w d qs, last)))

abbrev pub fix_by : ℕ → Token → List Token → Sign → Found FixTree
fix_by n t ts Infixl = fix_behind n t.at fix.Infixl ts
fix_by n t ts Infixr = fix_behind n t.at fix.Infixr ts
fix_by n t ts Infix = fix_behind n t.at fix.Infix ts
fix_by n t ts _ = None

-- fix
abbrev pub fix_at : ℕ → List Token → Found FixTree
fix_at n ts = with_first ts None (fix_by n)
