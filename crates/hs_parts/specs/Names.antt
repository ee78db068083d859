-- Names and operators as the grammar has them (Haskell 2010 Report, section 3.2): one text leads to another by a name where the tokens between them are the name's.
use Rattle.std.specs.Prelude.{◌≡◌, ℕ, suc, Bool, true, false, List, [], ◌∷◌}
use Rattle.mk_base.specs.declared.place.Pos.{Pos}
use Rattle.mk_base.specs.Places.{first_place}
use Rattle.hs_syntax.specs.declared.token.Token.{Token}
use Rattle.hs_syntax.specs.declared.sign.Sign.{Sign}
use Rattle.hs_syntax.specs.declared.sign.Sign.TheVariants.{Var, QualifiedVar, Con, QualifiedCon, Minus, Bang, Star, VarSym, QualifiedVarSym, ConSym, QualifiedConSym, Number, Quoted, OpenParen, CloseParen, OpenSquare, CloseSquare, Comma, Backquote, Colon}
use Rattle.hs_syntax.specs.declared.name_ref.NameRef.{NameRef}
use Rattle.hs_syntax.specs.declared.name_ref.OpName.{OpName}
use Rattle.hs_syntax.specs.declared.name_ref.QopTree.{QopTree}
use Rattle.hs_syntax.specs.declared.name_ref.QopTree.TheVariants as qop
use Rattle.hs_syntax.specs.declared.pattern_tree.GconTree.{GconTree}
use Rattle.hs_syntax.specs.declared.pattern_tree.GconTree.TheVariants as gcon
use Rattle.hs_syntax.specs.Signs.{sign_of}
use Rattle.hs_syntax.specs.Names.{name_ref}

-- the place of the first token
abbrev pub place : List Token → Pos
place [] = first_place
place (t ∷ ts) = t.at

-- varsym, a symbol of a variable without qualifier
abbrev pub is_varsym : Sign → Bool
is_varsym Minus = true
is_varsym Bang = true
is_varsym Star = true
is_varsym VarSym = true
is_varsym _ = false

-- qvarsym
abbrev pub is_qvarsym : Sign → Bool
is_qvarsym QualifiedVarSym = true
is_qvarsym k = is_varsym k

-- gconsym = : | qconsym
abbrev pub is_gconsym : Sign → Bool
is_gconsym Colon = true
is_gconsym ConSym = true
is_gconsym QualifiedConSym = true
is_gconsym _ = false

-- qvarid
abbrev pub is_qvarid : Sign → Bool
is_qvarid Var = true
is_qvarid QualifiedVar = true
is_qvarid _ = false

-- qconid; also qtycon and qtycls
abbrev pub is_qconid : Sign → Bool
is_qconid Con = true
is_qconid QualifiedCon = true
is_qconid _ = false

abbrev pub is_literal : Sign → Bool
is_literal Number = true
is_literal Quoted = true
is_literal _ = false

-- var = varid | ( varsym )
pub data IsVar : List Token → List Token → NameRef → Type 0 where
  VarIdVar : {a : List Token} {t : Token} → sign_of t ≡ Var → IsVar (t ∷ a) a (name_ref t)
  VarSymVar : {a : List Token} {o t c : Token} → sign_of o ≡ OpenParen → is_varsym (sign_of t) ≡ true → sign_of c ≡ CloseParen → IsVar (o ∷ t ∷ c ∷ a) a (name_ref t)

-- qvar = qvarid | ( qvarsym )
pub data IsQvar : List Token → List Token → NameRef → Type 0 where
  VarIdQvar : {a : List Token} {t : Token} → is_qvarid (sign_of t) ≡ true → IsQvar (t ∷ a) a (name_ref t)
  VarSymQvar : {a : List Token} {o t c : Token} → sign_of o ≡ OpenParen → is_qvarsym (sign_of t) ≡ true → sign_of c ≡ CloseParen → IsQvar (o ∷ t ∷ c ∷ a) a (name_ref t)

-- qcon = qconid | ( gconsym )
pub data IsQcon : List Token → List Token → NameRef → Type 0 where
  ConIdQcon : {a : List Token} {t : Token} → is_qconid (sign_of t) ≡ true → IsQcon (t ∷ a) a (name_ref t)
  ConSymQcon : {a : List Token} {o t c : Token} → sign_of o ≡ OpenParen → is_gconsym (sign_of t) ≡ true → sign_of c ≡ CloseParen → IsQcon (o ∷ t ∷ c ∷ a) a (name_ref t)

-- , {,} and how many there are
pub data IsCommas : List Token → List Token → ℕ → Type 0 where
  LastComma : {a : List Token} {t : Token} → sign_of t ≡ Comma → IsCommas (t ∷ a) a 1
  MoreCommas : {a b : List Token} {t : Token} {n : ℕ} → sign_of t ≡ Comma → IsCommas a b n → IsCommas (t ∷ a) b (suc n)

-- gcon = qcon | () | [] | (, {,})
pub data IsGcon : List Token → List Token → GconTree → Type 0 where
  ConGcon : {a b : List Token} {n : NameRef} → IsQcon a b n → IsGcon a b (gcon.Con (place a) n)
  UnitGcon : {a : List Token} {o c : Token} → sign_of o ≡ OpenParen → sign_of c ≡ CloseParen → IsGcon (o ∷ c ∷ a) a (gcon.Unit o.at)
  ListGcon : {a : List Token} {o c : Token} → sign_of o ≡ OpenSquare → sign_of c ≡ CloseSquare → IsGcon (o ∷ c ∷ a) a (gcon.List o.at)
  TupleGcon : {a b : List Token} {o c : Token} {n : ℕ} → sign_of o ≡ OpenParen → IsCommas a (c ∷ b) n → sign_of c ≡ CloseParen → IsGcon (o ∷ a) b (gcon.Tuple o.at n)

-- qop = qvarsym | gconsym | ` qvarid ` | ` qconid `
pub data IsQop : List Token → List Token → QopTree → Type 0 where
  VarSymQop : {a : List Token} {t : Token} → is_qvarsym (sign_of t) ≡ true → IsQop (t ∷ a) a (qop.Var t.at (name_ref t))
  ConSymQop : {a : List Token} {t : Token} → is_gconsym (sign_of t) ≡ true → IsQop (t ∷ a) a (qop.Con t.at (name_ref t))
  VarIdQop : {a : List Token} {o t c : Token} → sign_of o ≡ Backquote → is_qvarid (sign_of t) ≡ true → sign_of c ≡ Backquote → IsQop (o ∷ t ∷ c ∷ a) a (qop.Var o.at (name_ref t))
  ConIdQop : {a : List Token} {o t c : Token} → sign_of o ≡ Backquote → is_qconid (sign_of t) ≡ true → sign_of c ≡ Backquote → IsQop (o ∷ t ∷ c ∷ a) a (qop.Con o.at (name_ref t))

-- qconop = gconsym | ` qconid `
pub data IsQconop : List Token → List Token → OpName → Type 0 where
  ConSymQconop : {a : List Token} {t : Token} → is_gconsym (sign_of t) ≡ true → IsQconop (t ∷ a) a (record { at = t.at; name = name_ref t })
  ConIdQconop : {a : List Token} {o t c : Token} → sign_of o ≡ Backquote → is_qconid (sign_of t) ≡ true → sign_of c ≡ Backquote → IsQconop (o ∷ t ∷ c ∷ a) a (record { at = o.at; name = name_ref t })

-- varop = varsym | ` varid `
pub data IsVarop : List Token → List Token → OpName → Type 0 where
  VarSymVarop : {a : List Token} {t : Token} → is_varsym (sign_of t) ≡ true → IsVarop (t ∷ a) a (record { at = t.at; name = name_ref t })
  VarIdVarop : {a : List Token} {o t c : Token} → sign_of o ≡ Backquote → sign_of t ≡ Var → sign_of c ≡ Backquote → IsVarop (o ∷ t ∷ c ∷ a) a (record { at = o.at; name = name_ref t })

-- op = varsym | consym | ` varid ` | ` conid `, without qualifier
pub data IsOp : List Token → List Token → QopTree → Type 0 where
  VarSymOp : {a : List Token} {t : Token} → is_varsym (sign_of t) ≡ true → IsOp (t ∷ a) a (qop.Var t.at (name_ref t))
  ConSymOp : {a : List Token} {t : Token} → sign_of t ≡ ConSym → IsOp (t ∷ a) a (qop.Con t.at (name_ref t))
  VarIdOp : {a : List Token} {o t c : Token} → sign_of o ≡ Backquote → sign_of t ≡ Var → sign_of c ≡ Backquote → IsOp (o ∷ t ∷ c ∷ a) a (qop.Var o.at (name_ref t))
  ConIdOp : {a : List Token} {o t c : Token} → sign_of o ≡ Backquote → sign_of t ≡ Con → sign_of c ≡ Backquote → IsOp (o ∷ t ∷ c ∷ a) a (qop.Con o.at (name_ref t))
