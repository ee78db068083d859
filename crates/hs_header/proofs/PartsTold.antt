-- What is told of the readers of exports, and of imports with their lists.
use Rattle.std.proofs.Common.{◌≡◌, ℕ, ◌<◌, Bool, true, false, cond, List, [], ◌∷◌, length, Option, Some, None, refl, ap, sym, subst, ◌∙◌, arith}
use Rattle.std.specs.Prelude.{Ok}
use Rattle.mk_base.specs.declared.place.Pos.{Pos}
use Rattle.hs_syntax.specs.declared.name_ref.NameRef.{NameRef}
use Rattle.hs_syntax.specs.declared.header.ExportItem.{ExportItem}
use Rattle.hs_syntax.specs.declared.header.ExportItem.TheVariants as export
use Rattle.hs_syntax.specs.declared.header.IitemTree.{IitemTree}
use Rattle.hs_syntax.specs.declared.header.IitemTree.TheVariants as iitem
use Rattle.hs_syntax.specs.declared.header.ImportItem.{ImportItem}
use Rattle.hs_syntax.specs.declared.header.ImportList.{ImportList}
use Rattle.hs_syntax.specs.declared.token.Token.{Token}
use Rattle.hs_syntax.specs.declared.sign.Sign.{Sign}
use Rattle.hs_syntax.specs.declared.sign.Sign.TheVariants.{Var, QualifiedVar, Con, QualifiedCon, Pragma, OpenParen, Module}
use Rattle.hs_syntax.specs.Signs.{sign_of}
use Rattle.hs_syntax.specs.Names.{name_ref, module_ref}
use Rattle.hs_header.specs.declared.expected.Wanted.TheVariants as wanted
use Rattle.hs_header.specs.Grammar.{is_qconid, is_qvarid, is_as, is_qualified, is_hiding, listed, IsTold, NothingTold, IsListing, IsExport, VarExport, SymExport, TypeExport, ModuleExport, IsExports, NoExports, SomeExports, IsItem, VarItem, SymItem, TypeItem, IsList, NoList, MeantList, HidingList, IsAlias, NoAlias, Alias, IsMark, NoMark, SourceMark, IsQualifier, NoQualifier, Qualifier, IsImport, OneImport}
use Rattle.hs_header.specs.Readers.{Answer, and_then, made, expected, enclosed, told_at, listing, export_at, export_by, exports_at, exports_by, item_at, item_by, list_at, list_by, meant, hidden, alias_at, mark_at, mark_by, qualifier_at, named_at, import_at, import_item}
use Rattle.hs_header.proofs.Told.{Tokens, Reader, told_one, told_none, told_stop, told_empty}
use Rattle.hs_header.proofs.Spelled.{Sp, Be, Tells, Reads, Behind, then_tells, made_tells, as_tells, over_tells}
use Rattle.hs_header.proofs.Lexemes.{the_con, is_con}
use Rattle.hs_header.proofs.SubsTold.{IsToken, OneToken, expected_tells, paren_by, IsEnclosed, Enclosed, enclosed_tells, told_tells}
use Rattle.hs_header.proofs.ListsTold.{listing_tells, listing_begins}

-- Exports

pub export_begins : Be IsExport []
export_begins = (the_con ∷ [], export.Type the_con.at (name_ref the_con) None, λ z. TypeExport (ap is_qconid is_con) NothingTold)

symbol_export_is : (o : Token) → sign_of o ≡ OpenParen → (a b : Tokens) (t : Token) → IsEnclosed wanted.QualifiedVarSym a b t → Behind o IsExport a b (export.Var o.at (name_ref t))
symbol_export_is o e _ _ _ (Enclosed f g) = SymExport e f g

module_export_is : (m : Token) → sign_of m ≡ Module → (a b : Tokens) (t : Token) → IsToken wanted.ModId a b t → Behind m IsExport a b (export.Module m.at (module_ref t))
module_export_is m e _ _ _ (OneToken f) = ModuleExport e f

export_is : (m : ℕ) (t : Token) (z : Tokens) (k : Sign) → sign_of t ≡ k → export_at m (t ∷ z) ≡ export_by m t z k
unfolding export_at
export_is m t z k e = ap (export_by m t z) e

var_export_tells : (n : ℕ) (t : Token) (ts : Tokens) → is_qvarid (sign_of t) ≡ true → ((m : ℕ) (z : Tokens) → export_at m (t ∷ z) ≡ Ok (export.Var t.at (name_ref t), z)) → Tells IsExport export_at (t ∷ ts) (Ok (export.Var t.at (name_ref t), ts))
var_export_tells n t ts e is = told_one (Sp IsExport) (Be IsExport) export_at t ts (export.Var t.at (name_ref t)) (λ z. VarExport e) (λ m z k. is m z)

type_export_tells : (n : ℕ) (t : Token) (ts : Tokens) → is_qconid (sign_of t) ≡ true → ((m : ℕ) (z : Tokens) → export_at m (t ∷ z) ≡ made (λ x. export.Type t.at (name_ref t) x) (told_at m z)) → length (t ∷ ts) < n
    → Tells IsExport export_at (t ∷ ts) (made (λ x. export.Type t.at (name_ref t) x) (told_at n ts))
type_export_tells n t ts e is l =
    over_tells IsExport export_at (λ m z. made (λ x. export.Type t.at (name_ref t) x) (told_at m z)) t (λ m z k. is m z) ts (made (λ x. export.Type t.at (name_ref t) x) (told_at n ts))
    (made_tells IsTold (Behind t IsExport) (λ x. export.Type t.at (name_ref t) x) (λ a b x d. TypeExport e d) told_at ts (told_at n ts) (told_tells n ts (omega (arith, l))))

export_kind : (n : ℕ) (t : Token) (ts : Tokens) (k : Sign) → sign_of t ≡ k → length (t ∷ ts) < n → Tells IsExport export_at (t ∷ ts) (export_by n t ts k)
export_kind n t ts Var e l = var_export_tells n t ts (ap is_qvarid e) (λ m z. export_is m t z Var e)
export_kind n t ts QualifiedVar e l = var_export_tells n t ts (ap is_qvarid e) (λ m z. export_is m t z QualifiedVar e)
export_kind n t ts Con e l = type_export_tells n t ts (ap is_qconid e) (λ m z. export_is m t z Con e) l
export_kind n t ts QualifiedCon e l = type_export_tells n t ts (ap is_qconid e) (λ m z. export_is m t z QualifiedCon e) l
export_kind n t ts OpenParen e l =
    over_tells IsExport export_at (λ m z. made (λ u. export.Var t.at (name_ref u)) (enclosed wanted.QualifiedVarSym z)) t (λ m z k. export_is m t z OpenParen e) ts (export_by n t ts OpenParen)
    (made_tells (IsEnclosed wanted.QualifiedVarSym) (Behind t IsExport) (λ u. export.Var t.at (name_ref u)) (symbol_export_is t e) (λ m z. enclosed wanted.QualifiedVarSym z) ts (enclosed wanted.QualifiedVarSym ts) (enclosed_tells wanted.QualifiedVarSym n ts (omega (arith, l))))
export_kind n t ts Module e l =
    over_tells IsExport export_at (λ m z. made (λ u. export.Module t.at (module_ref u)) (expected wanted.ModId z)) t (λ m z k. export_is m t z Module e) ts (export_by n t ts Module)
    (made_tells (IsToken wanted.ModId) (Behind t IsExport) (λ u. export.Module t.at (module_ref u)) (module_export_is t e) (λ m z. expected wanted.ModId z) ts (expected wanted.ModId ts) (expected_tells wanted.ModId n ts (omega (arith, l))))
export_kind n t ts _ e l = told_stop (Sp IsExport) (Be IsExport) export_at t ts export_begins (λ m z k. export_is m t z _ e)

export_tells : Reads IsExport export_at
unfolding export_at
export_tells n [] l = export_begins
export_tells n (t ∷ ts) l = export_kind n t ts (sign_of t) refl l

abbrev Exports : Tokens → Tokens → List ExportItem → Type 0
Exports = IsListing ExportItem IsExport

exports_is : (m : ℕ) (t : Token) (z : Tokens) (k : Sign) → sign_of t ≡ k → exports_at m (t ∷ z) ≡ exports_by m t z k
unfolding exports_at
exports_is m t z k e = ap (exports_by m t z) e

exports_kind : (n : ℕ) (t : Token) (ts : Tokens) (k : Sign) → sign_of t ≡ k → length (t ∷ ts) < n → Tells IsExports exports_at (t ∷ ts) (exports_by n t ts k)
exports_kind n t ts OpenParen e l =
    over_tells IsExports exports_at (λ m z. made Some (listing export_at m z)) t (λ m z k. exports_is m t z OpenParen e) ts (exports_by n t ts OpenParen)
    (made_tells Exports (Behind t IsExports) Some (λ a b xs d. SomeExports e d) (listing export_at) ts (listing export_at n ts) (listing_tells IsExport export_at export_tells export_begins n ts (omega (arith, l))))
exports_kind n t ts _ e l = told_none (Sp IsExports) (Be IsExports) exports_at t ts None (λ z. NoExports) (λ m z k. exports_is m t z _ e)

pub exports_begins : Be IsExports []
exports_begins = ([], None, λ z. NoExports)

pub exports_tells : Reads IsExports exports_at
unfolding exports_at
exports_tells n [] l = told_empty (Sp IsExports) (Be IsExports) exports_at None (λ z. NoExports)
exports_tells n (t ∷ ts) l = exports_kind n t ts (sign_of t) refl l

-- Lists of imports

item_begins : Be IsItem []
item_begins = (the_con ∷ [], iitem.Type the_con.at (name_ref the_con) None, λ z. TypeItem is_con NothingTold)

symbol_item_is : (o : Token) → sign_of o ≡ OpenParen → (a b : Tokens) (t : Token) → IsEnclosed wanted.VarSym a b t → Behind o IsItem a b (iitem.Var o.at (name_ref t))
symbol_item_is o e _ _ _ (Enclosed f g) = SymItem e f g

item_is : (m : ℕ) (t : Token) (z : Tokens) (k : Sign) → sign_of t ≡ k → item_at m (t ∷ z) ≡ item_by m t z k
unfolding item_at
item_is m t z k e = ap (item_by m t z) e

item_kind : (n : ℕ) (t : Token) (ts : Tokens) (k : Sign) → sign_of t ≡ k → length (t ∷ ts) < n → Tells IsItem item_at (t ∷ ts) (item_by n t ts k)
item_kind n t ts Var e l = told_one (Sp IsItem) (Be IsItem) item_at t ts (iitem.Var t.at (name_ref t)) (λ z. VarItem e) (λ m z k. item_is m t z Var e)
item_kind n t ts OpenParen e l =
    over_tells IsItem item_at (λ m z. made (λ u. iitem.Var t.at (name_ref u)) (enclosed wanted.VarSym z)) t (λ m z k. item_is m t z OpenParen e) ts (item_by n t ts OpenParen)
    (made_tells (IsEnclosed wanted.VarSym) (Behind t IsItem) (λ u. iitem.Var t.at (name_ref u)) (symbol_item_is t e) (λ m z. enclosed wanted.VarSym z) ts (enclosed wanted.VarSym ts) (enclosed_tells wanted.VarSym n ts (omega (arith, l))))
item_kind n t ts Con e l =
    over_tells IsItem item_at (λ m z. made (λ x. iitem.Type t.at (name_ref t) x) (told_at m z)) t (λ m z k. item_is m t z Con e) ts (item_by n t ts Con)
    (made_tells IsTold (Behind t IsItem) (λ x. iitem.Type t.at (name_ref t) x) (λ a b x d. TypeItem e d) told_at ts (told_at n ts) (told_tells n ts (omega (arith, l))))
item_kind n t ts _ e l = told_stop (Sp IsItem) (Be IsItem) item_at t ts item_begins (λ m z k. item_is m t z _ e)

item_tells : Reads IsItem item_at
unfolding item_at
item_tells n [] l = item_begins
item_tells n (t ∷ ts) l = item_kind n t ts (sign_of t) refl l

abbrev Items : Tokens → Tokens → List IitemTree → Type 0
Items = IsListing IitemTree IsItem

items_tells : Reads Items (listing item_at)
items_tells = listing_tells IsItem item_at item_tells item_begins

-- behind `hiding`
pub data IsHidden : Tokens → Tokens → Option ImportList → Type 0 where
  Hidden : {a b : Tokens} {o : Token} {xs : List IitemTree} → sign_of o ≡ OpenParen → Items a b xs → IsHidden (o ∷ a) b (Some (listed true xs))

abbrev HiddenItems : Tokens → Tokens → Option ImportList → Type 0
HiddenItems a b l = (xs : List IitemTree) × (l ≡ Some (listed true xs)) × Items a b xs

hidden_joins : (a b c : Tokens) (o : Token) (l : Option ImportList) → IsToken wanted.OpenParen a b o → HiddenItems b c l → IsHidden a c l
hidden_joins _ _ c _ _ (OneToken {a = a} {t = o} e) (xs, f, d) = subst (IsHidden (o ∷ a) c) (sym f) (Hidden (paren_by (sign_of o) e) d)

hidden_begins : Be HiddenItems []
hidden_begins = let (c, xs, s) : Be Items [] = listing_begins IsItem item_at item_tells item_begins in (c, Some (listed true xs), λ z. (xs, refl, s z))

hidden_tells : Reads IsHidden hidden
hidden_tells n a l =
    then_tells (IsToken wanted.OpenParen) (λ o. HiddenItems) IsHidden hidden_joins (λ o. hidden_begins) (λ m z. expected wanted.OpenParen z) (λ o m z. made (λ xs. Some (listed true xs)) (listing item_at m z)) n a (expected wanted.OpenParen a) (expected_tells wanted.OpenParen n a l)
    (λ o b k. made_tells Items HiddenItems (λ xs. Some (listed true xs)) (λ a b xs d. (xs, refl, d)) (listing item_at) b (listing item_at n b) (items_tells n b (omega (arith, k, l))))

list_is : (m : ℕ) (t : Token) (z : Tokens) (k : Sign) → sign_of t ≡ k → list_at m (t ∷ z) ≡ list_by m t z k
unfolding list_at
list_is m t z k e = ap (list_by m t z) e

hides : (h : Token) → is_hiding h ≡ true → (a b : Tokens) (l : Option ImportList) → IsHidden a b l → Behind h IsList a b l
hides h e _ _ _ (Hidden f d) = HidingList e f d

list_if : (n : ℕ) (t : Token) (ts : Tokens) (b : Bool) → is_hiding t ≡ b → ((m : ℕ) (z : Tokens) → list_at m (t ∷ z) ≡ cond (is_hiding t) (hidden m z) (Ok (None, t ∷ z))) → length (t ∷ ts) < n
    → Tells IsList list_at (t ∷ ts) (cond b (hidden n ts) (Ok (None, t ∷ ts)))
list_if n t ts true e is l =
    over_tells IsList list_at hidden t (λ m z k. is m z ∙ ap (λ b. cond b (hidden m z) (Ok (None, t ∷ z))) e) ts (hidden n ts)
    (as_tells IsHidden (Behind t IsList) (hides t e) hidden ts (hidden n ts) (hidden_tells n ts (omega (arith, l))))
list_if n t ts false e is l = told_none (Sp IsList) (Be IsList) list_at t ts None (λ z. NoList) (λ m z k. is m z ∙ ap (λ b. cond b (hidden m z) (Ok (None, t ∷ z))) e)

list_kind : (n : ℕ) (t : Token) (ts : Tokens) (k : Sign) → sign_of t ≡ k → length (t ∷ ts) < n → Tells IsList list_at (t ∷ ts) (list_by n t ts k)
list_kind n t ts OpenParen e l =
    over_tells IsList list_at meant t (λ m z k. list_is m t z OpenParen e) ts (meant n ts)
    (made_tells Items (Behind t IsList) (λ xs. Some (listed false xs)) (λ a b xs d. MeantList e d) (listing item_at) ts (listing item_at n ts) (items_tells n ts (omega (arith, l))))
list_kind n t ts _ e l = list_if n t ts (is_hiding t) refl (λ m z. list_is m t z _ e) l

list_begins : Be IsList []
list_begins = ([], None, λ z. NoList)

list_tells : Reads IsList list_at
unfolding list_at
list_tells n [] l = told_empty (Sp IsList) (Be IsList) list_at None (λ z. NoList)
list_tells n (t ∷ ts) l = list_kind n t ts (sign_of t) refl l

-- The words of an import

abbrev alias_reader : Reader (Option NameRef)
alias_reader m z = alias_at z

alias_is : (t : Token) (z : Tokens) (b : Bool) → is_as t ≡ b → alias_at (t ∷ z) ≡ cond b (made (λ u. Some (module_ref u)) (expected wanted.ModId z)) (Ok (None, t ∷ z))
unfolding alias_at
alias_is t z b e = ap (λ b. cond b (made (λ u. Some (module_ref u)) (expected wanted.ModId z)) (Ok (None, t ∷ z))) e

aliases : (w : Token) → is_as w ≡ true → (a b : Tokens) (t : Token) → IsToken wanted.ModId a b t → Behind w IsAlias a b (Some (module_ref t))
aliases w e _ _ _ (OneToken f) = Alias e f

alias_if : (n : ℕ) (t : Token) (ts : Tokens) (b : Bool) → is_as t ≡ b → length (t ∷ ts) < n → Tells IsAlias alias_reader (t ∷ ts) (cond b (made (λ u. Some (module_ref u)) (expected wanted.ModId ts)) (Ok (None, t ∷ ts)))
alias_if n t ts true e l =
    over_tells IsAlias alias_reader (λ m z. made (λ u. Some (module_ref u)) (expected wanted.ModId z)) t (λ m z k. alias_is t z true e) ts (made (λ u. Some (module_ref u)) (expected wanted.ModId ts))
    (made_tells (IsToken wanted.ModId) (Behind t IsAlias) (λ u. Some (module_ref u)) (aliases t e) (λ m z. expected wanted.ModId z) ts (expected wanted.ModId ts) (expected_tells wanted.ModId n ts (omega (arith, l))))
alias_if n t ts false e l = told_none (Sp IsAlias) (Be IsAlias) alias_reader t ts None (λ z. NoAlias) (λ m z k. alias_is t z false e)

alias_begins : Be IsAlias []
alias_begins = ([], None, λ z. NoAlias)

alias_tells : Reads IsAlias alias_reader
unfolding alias_at
alias_tells n [] l = told_empty (Sp IsAlias) (Be IsAlias) alias_reader None (λ z. NoAlias)
alias_tells n (t ∷ ts) l = alias_if n t ts (is_as t) refl l

abbrev given : Bool × Tokens → Answer Bool
given p = Ok p

abbrev mark_reader : Reader Bool
mark_reader m z = given (mark_at z)

mark_is : (t : Token) (z : Tokens) (k : Sign) → sign_of t ≡ k → given (mark_at (t ∷ z)) ≡ given (mark_by t z k)
unfolding mark_at
mark_is t z k e = ap (λ k. given (mark_by t z k)) e

mark_kind : (t : Token) (ts : Tokens) (k : Sign) → sign_of t ≡ k → Tells IsMark mark_reader (t ∷ ts) (given (mark_by t ts k))
mark_kind t ts Pragma e = told_one (Sp IsMark) (Be IsMark) mark_reader t ts true (λ z. SourceMark e) (λ m z k. mark_is t z Pragma e)
mark_kind t ts _ e = told_none (Sp IsMark) (Be IsMark) mark_reader t ts false (λ z. NoMark) (λ m z k. mark_is t z _ e)

mark_tells : Reads IsMark mark_reader
unfolding mark_at
mark_tells n [] l = told_empty (Sp IsMark) (Be IsMark) mark_reader false (λ z. NoMark)
mark_tells n (t ∷ ts) l = mark_kind t ts (sign_of t) refl

abbrev qualifier_reader : Reader Bool
qualifier_reader m z = given (qualifier_at z)

qualifier_is : (t : Token) (z : Tokens) (b : Bool) → is_qualified t ≡ b → given (qualifier_at (t ∷ z)) ≡ given (cond b (true, z) (false, t ∷ z))
unfolding qualifier_at
qualifier_is t z b e = ap (λ b. given (cond b (true, z) (false, t ∷ z))) e

qualifier_if : (t : Token) (ts : Tokens) (b : Bool) → is_qualified t ≡ b → Tells IsQualifier qualifier_reader (t ∷ ts) (given (cond b (true, ts) (false, t ∷ ts)))
qualifier_if t ts true e = told_one (Sp IsQualifier) (Be IsQualifier) qualifier_reader t ts true (λ z. Qualifier e) (λ m z k. qualifier_is t z true e)
qualifier_if t ts false e = told_none (Sp IsQualifier) (Be IsQualifier) qualifier_reader t ts false (λ z. NoQualifier) (λ m z k. qualifier_is t z false e)

qualifier_tells : Reads IsQualifier qualifier_reader
unfolding qualifier_at
qualifier_tells n [] l = told_empty (Sp IsQualifier) (Be IsQualifier) qualifier_reader false (λ z. NoQualifier)
qualifier_tells n (t ∷ ts) l = qualifier_if t ts (is_qualified t) refl

-- An import

module _ (at : Pos) where
  -- behind its module's name
  data IsTail (source qualified : Bool) (t : Token) : Tokens → Tokens → ImportItem → Type 0 where
    OneTail : {a b c : Tokens} {alias : Option NameRef} {list : Option ImportList} → IsAlias a b alias → IsList b c list → IsTail source qualified t a c (import_item at source qualified t alias list)

  -- from that name on
  data IsNamed (source qualified : Bool) : Tokens → Tokens → ImportItem → Type 0 where
    OneNamed : {a b : Tokens} {t : Token} {x : ImportItem} → is_qconid (sign_of t) ≡ true → IsTail source qualified t a b x → IsNamed source qualified (t ∷ a) b x

  -- from `qualified` on
  data IsMarked (source : Bool) : Tokens → Tokens → ImportItem → Type 0 where
    OneMarked : {a b c : Tokens} {qualified : Bool} {x : ImportItem} → IsQualifier a b qualified → IsNamed source qualified b c x → IsMarked source a c x

  data IsListed (source qualified : Bool) (t : Token) (alias : Option NameRef) : Tokens → Tokens → ImportItem → Type 0 where
    OneListed : {a b : Tokens} {list : Option ImportList} → IsList a b list → IsListed source qualified t alias a b (import_item at source qualified t alias list)

  tail_joins : (source qualified : Bool) (t : Token) (a b c : Tokens) (alias : Option NameRef) (x : ImportItem) → IsAlias a b alias → IsListed source qualified t alias b c x → IsTail source qualified t a c x
  tail_joins source qualified t a b c alias x d (OneListed f) = OneTail d f

  listed_begins : (source qualified : Bool) (t : Token) (alias : Option NameRef) → Be (IsListed source qualified t alias) []
  listed_begins source qualified t alias = ([], import_item at source qualified t alias None, λ z. OneListed NoList)

  tail_begins : (source qualified : Bool) (t : Token) → Be (IsTail source qualified t) []
  tail_begins source qualified t = ([], import_item at source qualified t None None, λ z. OneTail NoAlias NoList)

  abbrev listed_reader : Bool → Bool → Token → Option NameRef → Reader ImportItem
  listed_reader source qualified t alias m z = made (λ list. import_item at source qualified t alias list) (list_at m z)

  abbrev tail_reader : Bool → Bool → Token → Reader ImportItem
  tail_reader source qualified t m z = and_then (alias_at z) (λ alias c. made (λ list. import_item at source qualified t alias list) (list_at m c))

  tail_tells : (source qualified : Bool) (t : Token) → Reads (IsTail source qualified t) (tail_reader source qualified t)
  tail_tells source qualified t n a l =
      then_tells IsAlias (IsListed source qualified t) (IsTail source qualified t) (tail_joins source qualified t) (listed_begins source qualified t) alias_reader (listed_reader source qualified t) n a (alias_at a) (alias_tells n a l)
      (λ alias b k. made_tells IsList (IsListed source qualified t alias) (λ list. import_item at source qualified t alias list) (λ a b list d. OneListed d) list_at b (list_at n b) (list_tells n b (omega (arith, k, l))))

  named_joins : (source qualified : Bool) (a b c : Tokens) (t : Token) (x : ImportItem) → IsToken wanted.ModId a b t → IsTail source qualified t b c x → IsNamed source qualified a c x
  named_joins source qualified _ _ _ _ _ (OneToken e) d = OneNamed e d

  named_begins : (source qualified : Bool) → Be (IsNamed source qualified) []
  named_begins source qualified = (the_con ∷ [], import_item at source qualified the_con None None, λ z. OneNamed (ap is_qconid is_con) (OneTail NoAlias NoList))

  named_tells : (source qualified : Bool) → Reads (IsNamed source qualified) (λ m z. named_at m at source qualified z)
  unfolding named_at
  named_tells source qualified n a l =
      then_tells (IsToken wanted.ModId) (IsTail source qualified) (IsNamed source qualified) (named_joins source qualified) (tail_begins source qualified) (λ m z. expected wanted.ModId z) (tail_reader source qualified) n a (expected wanted.ModId a) (expected_tells wanted.ModId n a l)
      (λ t b k. tail_tells source qualified t n b (omega (arith, k, l)))

  marked_tells : (source : Bool) → Reads (IsMarked source) (λ m z. named_at m at source (qualifier_at z).0 (qualifier_at z).1)
  marked_tells source n a l =
      then_tells IsQualifier (IsNamed source) (IsMarked source) (λ a b c q x d f. OneMarked d f) (named_begins source) qualifier_reader (λ q m z. named_at m at source q z) n a (given (qualifier_at a)) (qualifier_tells n a l)
      (λ q b k. named_tells source q n b (omega (arith, k, l)))

  marked_begins : (source : Bool) → Be (IsMarked source) []
  marked_begins source = (the_con ∷ [], import_item at source false the_con None None, λ z. OneMarked NoQualifier (OneNamed (ap is_qconid is_con) (OneTail NoAlias NoList)))

  import_joins : (a b c : Tokens) (s : Bool) (x : ImportItem) → IsMark a b s → IsMarked s b c x → IsImport at a c x
  import_joins a b c s x d (OneMarked e (OneNamed f (OneTail g h))) = OneImport d e f g h

  pub import_begins : Be (IsImport at) []
  import_begins = (the_con ∷ [], import_item at false false the_con None None, λ z. OneImport NoMark NoQualifier (ap is_qconid is_con) NoAlias NoList)

  pub import_tells : Reads (IsImport at) (λ m z. import_at m at z)
  unfolding import_at
  import_tells n a l =
      then_tells IsMark IsMarked (IsImport at) import_joins marked_begins mark_reader (λ s m z. named_at m at s (qualifier_at z).0 (qualifier_at z).1) n a (given (mark_at a)) (mark_tells n a l)
      (λ s b k. marked_tells s n b (omega (arith, k, l)))
