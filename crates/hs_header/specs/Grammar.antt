-- The grammar of headers (Haskell 2010 Report, sections 5.1 to 5.3): by a tree one text leads to another where the tokens
-- between them are the tree's.
use Rattle.std.specs.Prelude.{◌≡◌, ℕ, Bool, true, false, ◌&&◌, List, [], ◌∷◌, ◌++◌, Some, None, codes}
use Rattle.std.specs.declared.option.Option.{Option}
use Rattle.mk_base.specs.declared.place.Pos.{Pos}
use Rattle.mk_base.specs.Places.{first_place}
use Rattle.mk_base.specs.Texts.{same_text}
use Rattle.hs_syntax.specs.declared.name_ref.NameRef.{NameRef}
use Rattle.hs_syntax.specs.declared.header.Header.{Header}
use Rattle.hs_syntax.specs.declared.header.ExportItem.{ExportItem}
use Rattle.hs_syntax.specs.declared.header.ExportItem.TheVariants as export
use Rattle.hs_syntax.specs.declared.header.IitemTree.{IitemTree}
use Rattle.hs_syntax.specs.declared.header.IitemTree.TheVariants as iitem
use Rattle.hs_syntax.specs.declared.header.ImportItem.{ImportItem}
use Rattle.hs_syntax.specs.declared.header.ImportList.{ImportList}
use Rattle.hs_syntax.specs.declared.header.SubTree.{SubTree}
use Rattle.hs_syntax.specs.declared.header.SubTree.TheVariants as sub
use Rattle.hs_syntax.specs.declared.header.Subs.{Subs}
use Rattle.hs_syntax.specs.declared.header.Subs.TheVariants as subs
use Rattle.hs_syntax.specs.declared.token.Token.{Token}
use Rattle.hs_syntax.specs.declared.sign.Sign.{Sign}
use Rattle.hs_syntax.specs.declared.sign.Sign.TheVariants.{Var, QualifiedVar, Con, QualifiedCon, Minus, Bang, Star, VarSym, QualifiedVarSym, ConSym, Pragma, OpenBrace, CloseBrace, Semicolon, OpenParen, CloseParen, Comma, Import, Module, Where, Dots}
use Rattle.hs_syntax.specs.Signs.{sign_of}
use Rattle.hs_syntax.specs.Names.{name_ref, module_ref}

-- The sorts of names.

abbrev pub is_qvarid : Sign → Bool
is_qvarid Var = true
is_qvarid QualifiedVar = true
is_qvarid _ = false

abbrev pub is_qconid : Sign → Bool
is_qconid Con = true
is_qconid QualifiedCon = true
is_qconid _ = false

abbrev pub is_varsym : Sign → Bool
is_varsym Minus = true
is_varsym Bang = true
is_varsym Star = true
is_varsym VarSym = true
is_varsym _ = false

abbrev pub is_qvarsym : Sign → Bool
is_qvarsym QualifiedVarSym = true
is_qvarsym s = is_varsym s

abbrev pub is_var : Sign → Bool
is_var Var = true
is_var _ = false

-- `as`, `qualified` and `hiding` are variables that mean more at some places
abbrev pub is_word : List ℕ → Token → Bool
is_word word t = is_var (sign_of t) && same_text t.text word

abbrev pub is_as : Token → Bool
is_as t = is_word (codes "as") t

abbrev pub is_qualified : Token → Bool
is_qualified t = is_word (codes "qualified") t

abbrev pub is_hiding : Token → Bool
is_hiding t = is_word (codes "hiding") t

-- What is told of a type or class.

-- sub = var | con
pub data IsSub : List Token → List Token → SubTree → Type 0 where
  VarSub : {a : List Token} {t : Token} → sign_of t ≡ Var → IsSub (t ∷ a) a (sub.Var t.at (name_ref t))
  ConSub : {a : List Token} {t : Token} → sign_of t ≡ Con → IsSub (t ∷ a) a (sub.Con t.at (name_ref t))
  VarSymSub : {a : List Token} {o t c : Token} → sign_of o ≡ OpenParen → is_varsym (sign_of t) ≡ true → sign_of c ≡ CloseParen → IsSub (o ∷ t ∷ c ∷ a) a (sub.Var o.at (name_ref t))
  ConSymSub : {a : List Token} {o t c : Token} → sign_of o ≡ OpenParen → sign_of t ≡ ConSym → sign_of c ≡ CloseParen → IsSub (o ∷ t ∷ c ∷ a) a (sub.Con o.at (name_ref t))

-- {, sub} )
pub data IsMoreSubs : List Token → List Token → List SubTree → Type 0 where
  LastSub : {a : List Token} {c : Token} → sign_of c ≡ CloseParen → IsMoreSubs (c ∷ a) a []
  NextSub : {a b c : List Token} {m : Token} {x : SubTree} {xs : List SubTree} → sign_of m ≡ Comma → IsSub a b x → IsMoreSubs b c xs → IsMoreSubs (m ∷ a) c (x ∷ xs)

-- .. ) | [sub {, sub}] )
pub data IsSubs : List Token → List Token → Subs → Type 0 where
  AllSubs : {a : List Token} {d c : Token} → sign_of d ≡ Dots → sign_of c ≡ CloseParen → IsSubs (d ∷ c ∷ a) a subs.All
  NoSubs : {a : List Token} {c : Token} → sign_of c ≡ CloseParen → IsSubs (c ∷ a) a (subs.Listed [])
  SomeSubs : {a b c : List Token} {x : SubTree} {xs : List SubTree} → IsSub a b x → IsMoreSubs b c xs → IsSubs a c (subs.Listed (x ∷ xs))

-- [( .. ) | ( [sub {, sub}] )]
pub data IsTold : List Token → List Token → Option Subs → Type 0 where
  NothingTold : {a : List Token} → IsTold a a None
  SubsTold : {a b : List Token} {o : Token} {x : Subs} → sign_of o ≡ OpenParen → IsSubs a b x → IsTold (o ∷ a) b (Some x)

-- Lists in which a last comma is allowed.

-- {, x} [,] )
pub data IsMore (X : Type 0) (IsOne : List Token → List Token → X → Type 0) : List Token → List Token → List X → Type 0 where
  LastOne : {a : List Token} {c : Token} → sign_of c ≡ CloseParen → IsMore X IsOne (c ∷ a) a []
  LastComma : {a : List Token} {m c : Token} → sign_of m ≡ Comma → sign_of c ≡ CloseParen → IsMore X IsOne (m ∷ c ∷ a) a []
  NextOne : {a b c : List Token} {m : Token} {x : X} {xs : List X} → sign_of m ≡ Comma → IsOne a b x → IsMore X IsOne b c xs → IsMore X IsOne (m ∷ a) c (x ∷ xs)

-- [x {, x}] [,] )
pub data IsListing (X : Type 0) (IsOne : List Token → List Token → X → Type 0) : List Token → List Token → List X → Type 0 where
  EmptyListing : {a : List Token} {c : Token} → sign_of c ≡ CloseParen → IsListing X IsOne (c ∷ a) a []
  LoneComma : {a : List Token} {m c : Token} → sign_of m ≡ Comma → sign_of c ≡ CloseParen → IsListing X IsOne (m ∷ c ∷ a) a []
  SomeListing : {a b c : List Token} {x : X} {xs : List X} → IsOne a b x → IsMore X IsOne b c xs → IsListing X IsOne a c (x ∷ xs)

-- Exports.

-- export = qvar | qtycon [( .. ) | ( [sub {, sub}] )] | module modid
pub data IsExport : List Token → List Token → ExportItem → Type 0 where
  VarExport : {a : List Token} {t : Token} → is_qvarid (sign_of t) ≡ true → IsExport (t ∷ a) a (export.Var t.at (name_ref t))
  SymExport : {a : List Token} {o t c : Token} → sign_of o ≡ OpenParen → is_qvarsym (sign_of t) ≡ true → sign_of c ≡ CloseParen → IsExport (o ∷ t ∷ c ∷ a) a (export.Var o.at (name_ref t))
  TypeExport : {a b : List Token} {t : Token} {x : Option Subs} → is_qconid (sign_of t) ≡ true → IsTold a b x → IsExport (t ∷ a) b (export.Type t.at (name_ref t) x)
  ModuleExport : {a : List Token} {m t : Token} → sign_of m ≡ Module → is_qconid (sign_of t) ≡ true → IsExport (m ∷ t ∷ a) a (export.Module m.at (module_ref t))

-- [exports]
pub data IsExports : List Token → List Token → Option (List ExportItem) → Type 0 where
  NoExports : {a : List Token} → IsExports a a None
  SomeExports : {a b : List Token} {o : Token} {xs : List ExportItem} → sign_of o ≡ OpenParen → IsListing ExportItem IsExport a b xs → IsExports (o ∷ a) b (Some xs)

-- Imports.

-- iitem = var | tycon [( .. ) | ( [sub {, sub}] )]
pub data IsItem : List Token → List Token → IitemTree → Type 0 where
  VarItem : {a : List Token} {t : Token} → sign_of t ≡ Var → IsItem (t ∷ a) a (iitem.Var t.at (name_ref t))
  SymItem : {a : List Token} {o t c : Token} → sign_of o ≡ OpenParen → is_varsym (sign_of t) ≡ true → sign_of c ≡ CloseParen → IsItem (o ∷ t ∷ c ∷ a) a (iitem.Var o.at (name_ref t))
  TypeItem : {a b : List Token} {t : Token} {x : Option Subs} → sign_of t ≡ Con → IsTold a b x → IsItem (t ∷ a) b (iitem.Type t.at (name_ref t) x)

abbrev pub listed : Bool → List IitemTree → ImportList
listed hides xs = record { hiding = hides; items = xs }

-- [[hiding] ( [iitem {, iitem}] [,] )]
pub data IsList : List Token → List Token → Option ImportList → Type 0 where
  NoList : {a : List Token} → IsList a a None
  MeantList : {a b : List Token} {o : Token} {xs : List IitemTree} → sign_of o ≡ OpenParen → IsListing IitemTree IsItem a b xs → IsList (o ∷ a) b (Some (listed false xs))
  HidingList : {a b : List Token} {h o : Token} {xs : List IitemTree} → is_hiding h ≡ true → sign_of o ≡ OpenParen → IsListing IitemTree IsItem a b xs → IsList (h ∷ o ∷ a) b (Some (listed true xs))

-- [as modid]
pub data IsAlias : List Token → List Token → Option NameRef → Type 0 where
  NoAlias : {a : List Token} → IsAlias a a None
  Alias : {a : List Token} {w t : Token} → is_as w ≡ true → is_qconid (sign_of t) ≡ true → IsAlias (w ∷ t ∷ a) a (Some (module_ref t))

-- [SOURCE]
pub data IsMark : List Token → List Token → Bool → Type 0 where
  NoMark : {a : List Token} → IsMark a a false
  SourceMark : {a : List Token} {t : Token} → sign_of t ≡ Pragma → IsMark (t ∷ a) a true

-- [qualified]
pub data IsQualifier : List Token → List Token → Bool → Type 0 where
  NoQualifier : {a : List Token} → IsQualifier a a false
  Qualifier : {a : List Token} {t : Token} → is_qualified t ≡ true → IsQualifier (t ∷ a) a true

-- [SOURCE] [qualified] modid [as modid] [[hiding] ( .. )], behind an `import` at this place
pub data IsImport (at : Pos) : List Token → List Token → ImportItem → Type 0 where
  OneImport : {a b c d e : List Token} {t : Token} {source qualified : Bool} {alias : Option NameRef} {list : Option ImportList}
      → IsMark a b source → IsQualifier b (t ∷ c) qualified → is_qconid (sign_of t) ≡ true → IsAlias c d alias → IsList d e list
      → IsImport at a e (record { at = at; source = source; qualified = qualified; «module» = module_ref t; alias = alias; list = list })

-- What may follow: behind an import the closing brace of the block's sort, behind the opening brace or a semicolon any
-- lexeme but `import` and a semicolon; or nothing.
abbrev pub EndsImport : Bool → List Token → Type 0
EndsImport put [] = Unit {0}
EndsImport put (t ∷ ts) = sign_of t ≡ CloseBrace put

abbrev pub EndsBlock : List Token → Type 0
EndsBlock [] = Unit {0}
EndsBlock (t ∷ ts) = (sign_of t ≡ Import → ⊥) × (sign_of t ≡ Semicolon → ⊥)

-- the imports of a block, with semicolons between them, before them and behind them, up to what follows them
pub data IsImports (put : Bool) : List Token → List Token → List ImportItem → Type 0 where
  NoImports : {a : List Token} → EndsBlock a → IsImports put a a []
  NextPart : {a b : List Token} {m : Token} {xs : List ImportItem} → sign_of m ≡ Semicolon → IsImports put a b xs → IsImports put (m ∷ a) b xs
  LastImport : {a b : List Token} {i : Token} {x : ImportItem} → sign_of i ≡ Import → IsImport i.at a b x → EndsImport put b → IsImports put (i ∷ a) b (x ∷ [])
  MoreImports : {a b c : List Token} {i m : Token} {x : ImportItem} {xs : List ImportItem} → sign_of i ≡ Import → IsImport i.at a (m ∷ b) x → sign_of m ≡ Semicolon → IsImports put b c xs → IsImports put (i ∷ a) c (x ∷ xs)

-- Headers.

-- a header of the module that a token names
abbrev pub header : Token → Option (List ExportItem) → List ImportItem → Header
header t exports imports = record { name = record { text = t.text }; at = t.at; exports = exports; imports = imports; prelude = None; restrict = None }

-- a module without `module` line is `module Main (main) where`
abbrev pub main_export : ExportItem
main_export = export.Var first_place (record { qualifier = []; text = codes "main"; at = first_place; to = None })

abbrev pub main_header : List ImportItem → Header
main_header imports = record { name = record { text = codes "Main" }; at = first_place; exports = Some (main_export ∷ []); imports = imports; prelude = None; restrict = None }

-- [module modid [exports] where] and the imports of the module's block, up to what follows them
pub data IsHeader : List Token → List Token → Header → Type 0 where
  LineHeader : {a b c : List Token} {m t w o : Token} {put : Bool} {es : Option (List ExportItem)} {xs : List ImportItem}
      → sign_of m ≡ Module → is_qconid (sign_of t) ≡ true → IsExports a (w ∷ o ∷ b) es → sign_of w ≡ Where → sign_of o ≡ OpenBrace put → IsImports put b c xs
      → IsHeader (m ∷ t ∷ a) c (header t es xs)
  MainHeader : {a b : List Token} {o : Token} {put : Bool} {xs : List ImportItem} → sign_of o ≡ OpenBrace put → IsImports put a b xs → IsHeader (o ∷ a) b (main_header xs)

-- the tokens begin some header
abbrev pub Begins : List Token → Type 0
Begins ts = (rest b : List Token) × (h : Header) × IsHeader (ts ++ rest) b h

-- The tokens begin a header up to one at this place, and none with it.
abbrev pub IsLeftAt : List Token → Pos → Type 0
IsLeftAt ts at = (before behind : List Token) × (t : Token) × (ts ≡ before ++ t ∷ behind) × (t.at ≡ at) × Begins before × (Begins (before ++ t ∷ []) → ⊥)

-- The tokens end before a header is whole.
abbrev pub IsCut : List Token → Type 0
IsCut ts = Begins ts × ((b : List Token) (h : Header) → IsHeader ts b h → ⊥)
