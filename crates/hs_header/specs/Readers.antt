-- Headers read from the left: at each place the tree with the tokens behind it, or where the reading stops. A number of
-- steps bounds how many parts of a list are read, so that the readers are functions.
use Rattle.std.specs.Prelude.{ℕ, zero, suc, Bool, true, false, List, [], ◌∷◌, ◌++◌, length, Some, None, Result, Ok, Err, if◌then◌else◌}
use Rattle.std.specs.declared.option.Option.{Option}
use Rattle.std.specs.Borrow.{Bor}
use Rattle.mk_base.specs.declared.place.Pos.{Pos}
use Rattle.hs_syntax.specs.declared.name_ref.NameRef.{NameRef}
use Rattle.hs_syntax.specs.declared.header.Header.{Header}
use Rattle.hs_syntax.specs.declared.header.ExportItem.{ExportItem}
use Rattle.hs_syntax.specs.declared.header.ExportItem.TheVariants as export
use Rattle.hs_syntax.specs.declared.header.IitemTree.{IitemTree}
use Rattle.hs_syntax.specs.declared.header.IitemTree.TheVariants as iitem
use Rattle.hs_syntax.specs.declared.header.ImportItem.{ImportItem}
use Rattle.hs_syntax.specs.declared.header.ImportList.{ImportList}
use Rattle.hs_syntax.specs.declared.header.SubTree.{SubTree}
use Rattle.hs_syntax.specs.declared.header.SubTree.TheVariants as sub
use Rattle.hs_syntax.specs.declared.header.Subs.{Subs}
use Rattle.hs_syntax.specs.declared.header.Subs.TheVariants as subs
use Rattle.hs_syntax.specs.declared.token.Token.{Token}
use Rattle.hs_syntax.specs.declared.sign.Sign.{Sign}
use Rattle.hs_syntax.specs.declared.sign.Sign.TheVariants.{Var, QualifiedVar, Con, QualifiedCon, ConSym, Pragma, OpenBrace, CloseBrace, Semicolon, OpenParen, CloseParen, Comma, Import, Module, Where, Dots}
use Rattle.hs_syntax.specs.Signs.{sign_of}
use Rattle.hs_syntax.specs.Names.{name_ref, module_ref}
use Rattle.hs_header.specs.declared.expected.Stop.{Stop}
use Rattle.hs_header.specs.declared.expected.Stop.TheVariants.{At, End}
use Rattle.hs_header.specs.declared.expected.Wanted.{Wanted}
use Rattle.hs_header.specs.declared.expected.Wanted.TheVariants as wanted
use Rattle.hs_header.specs.Grammar.{is_qconid, is_varsym, is_qvarsym, is_as, is_qualified, is_hiding, listed, header, main_header}

-- what is read at a place with the tokens behind it, or where the reading stops
abbrev pub Answer : Type 0 → Type 0
Answer X = Result (X × List Token) Stop

-- an answer of the code, as a value
abbrev pub seen : {A : Type 0} → Result (A × Bor (List Token)) Stop → Answer A
seen (Ok p) = Ok (p.0, p.1.now)
seen (Err s) = Err s

abbrev pub token_seen : Result (Bor Token × Bor (List Token)) Stop → Answer Token
token_seen (Ok p) = Ok (p.0.now, p.1.now)
token_seen (Err s) = Err s

abbrev pub tail_seen : Result (Option (Bor (List Token))) Stop → Result (Option (List Token)) Stop
tail_seen (Ok None) = Ok None
tail_seen (Ok (Some b)) = Ok (Some b.now)
tail_seen (Err s) = Err s

abbrev pub pair_seen : {A : Type 0} → A × Bor (List Token) → A × List Token
pair_seen p = (p.0, p.1.now)

-- one thing and then another
abbrev pub and_then : {X Y : Type 0} → Answer X → (X → List Token → Answer Y) → Answer Y
and_then (Ok p) f = f p.0 p.1
and_then (Err s) f = Err s

-- what is made of one thing
abbrev pub made : {X Y : Type 0} → (X → Y) → Answer X → Answer Y
made f (Ok p) = Ok (f p.0, p.1)
made f (Err s) = Err s

-- by the first token, or another thing where there is none
abbrev pub at_first : {X : Type 0} → List Token → X → (Token → List Token → Sign → X) → X
at_first [] other f = other
at_first (t ∷ ts) other f = f t ts (sign_of t)

-- One token.

abbrev pub is_symbol : Sign → Bool
is_symbol ConSym = true
is_symbol s = is_varsym s

abbrev pub is_close_paren : Sign → Bool
is_close_paren CloseParen = true
is_close_paren _ = false

abbrev pub is_open_paren : Sign → Bool
is_open_paren OpenParen = true
is_open_paren _ = false

abbrev pub is_where : Sign → Bool
is_where Where = true
is_where _ = false

abbrev pub fits : Wanted → Sign → Bool
fits wanted.OpenParen s = is_open_paren s
fits wanted.CloseParen s = is_close_paren s
fits wanted.Where s = is_where s
fits wanted.ModId s = is_qconid s
fits wanted.VarSym s = is_varsym s
fits wanted.QualifiedVarSym s = is_qvarsym s
fits wanted.Symbol s = is_symbol s

abbrev pub expected_by : Wanted → Token → List Token → Sign → Answer Token
expected_by w t ts s = if fits w s then Ok (t, ts) else Err (At t.at)

abbrev pub expected : Wanted → List Token → Answer Token
expected w a = at_first a (Err End) (expected_by w)

-- an operator and the parenthesis behind it
abbrev pub enclosed : Wanted → List Token → Answer Token
enclosed w a = and_then (expected w a) (λ t b. made (λ c. t) (expected wanted.CloseParen b))

-- What is told of a type or class.

abbrev pub sub_named : Pos → Token → Sign → SubTree
sub_named at t ConSym = sub.Con at (name_ref t)
sub_named at t _ = sub.Var at (name_ref t)

abbrev pub sub_by : Token → List Token → Sign → Answer SubTree
sub_by t ts Var = Ok (sub.Var t.at (name_ref t), ts)
sub_by t ts Con = Ok (sub.Con t.at (name_ref t), ts)
sub_by t ts OpenParen = made (λ u. sub_named t.at u (sign_of u)) (enclosed wanted.Symbol ts)
sub_by t ts _ = Err (At t.at)

unfoldable pub sub_at : List Token → Answer SubTree
sub_at a = at_first a (Err End) sub_by

abbrev pub more_subs_by : (List SubTree → List Token → Answer (List SubTree)) → List SubTree → Token → List Token → Sign → Answer (List SubTree)
more_subs_by on xs t ts CloseParen = Ok (xs, ts)
more_subs_by on xs t ts Comma = and_then (sub_at ts) (λ x b. on (xs ++ x ∷ []) b)
more_subs_by on xs t ts _ = Err (At t.at)

unfoldable pub more_subs : ℕ → List SubTree → List Token → Answer (List SubTree)
more_subs zero xs a = Err End
more_subs (suc n) xs a = at_first a (Err End) (more_subs_by (more_subs n) xs)

abbrev pub some_subs : ℕ → List Token → Answer Subs
some_subs n a = made subs.Listed (and_then (sub_at a) (λ x b. more_subs n (x ∷ []) b))

abbrev pub subs_by : ℕ → Token → List Token → Sign → Answer Subs
subs_by n t ts CloseParen = Ok (subs.Listed [], ts)
subs_by n t ts Dots = made (λ c. subs.All) (expected wanted.CloseParen ts)
subs_by n t ts _ = some_subs n (t ∷ ts)

unfoldable pub subs_at : ℕ → List Token → Answer Subs
subs_at n a = at_first a (Err End) (subs_by n)

abbrev pub told_by : ℕ → Token → List Token → Sign → Answer (Option Subs)
told_by n t ts OpenParen = made Some (subs_at n ts)
told_by n t ts _ = Ok (None, t ∷ ts)

unfoldable pub told_at : ℕ → List Token → Answer (Option Subs)
told_at n a = at_first a (Ok (None, [])) (told_by n)

-- Lists in which a last comma is allowed.

-- behind a comma: none where the list ends
abbrev pub next_by : {X : Type 0} → (ℕ → List Token → Answer X) → ℕ → Token → List Token → Sign → Answer (Option X)
next_by one n t ts CloseParen = Ok (None, ts)
next_by one n t ts _ = made Some (one n (t ∷ ts))

abbrev pub next_at : {X : Type 0} → (ℕ → List Token → Answer X) → ℕ → List Token → Answer (Option X)
next_at one n a = at_first a (Err End) (next_by one n)

abbrev pub with_next : {X : Type 0} → (List X → List Token → Answer (List X)) → List X → Option X → List Token → Answer (List X)
with_next on xs None b = Ok (xs, b)
with_next on xs (Some x) b = on (xs ++ x ∷ []) b

abbrev pub more_by : {X : Type 0} → (ℕ → List Token → Answer X) → ℕ → (List X → List Token → Answer (List X)) → List X → Token → List Token → Sign → Answer (List X)
more_by one n on xs t ts CloseParen = Ok (xs, ts)
more_by one n on xs t ts Comma = and_then (next_at one n ts) (with_next on xs)
more_by one n on xs t ts _ = Err (At t.at)

unfoldable pub more : {X : Type 0} → (ℕ → List Token → Answer X) → ℕ → List X → List Token → Answer (List X)
more one zero xs a = Err End
more one (suc n) xs a = at_first a (Err End) (more_by one n (more one n) xs)

abbrev pub some_listed : {X : Type 0} → (ℕ → List Token → Answer X) → ℕ → List Token → Answer (List X)
some_listed one n a = and_then (one n a) (λ x b. more one n (x ∷ []) b)

abbrev pub listing_by : {X : Type 0} → (ℕ → List Token → Answer X) → ℕ → Token → List Token → Sign → Answer (List X)
listing_by one n t ts CloseParen = Ok ([], ts)
listing_by one n t ts Comma = made (λ c. []) (expected wanted.CloseParen ts)
listing_by one n t ts _ = some_listed one n (t ∷ ts)

unfoldable pub listing : {X : Type 0} → (ℕ → List Token → Answer X) → ℕ → List Token → Answer (List X)
listing one n a = at_first a (Err End) (listing_by one n)

-- Exports.

abbrev pub var_export : Token → List Token → Answer ExportItem
var_export t ts = Ok (export.Var t.at (name_ref t), ts)

abbrev pub symbol_export : Token → List Token → Answer ExportItem
symbol_export t ts = made (λ u. export.Var t.at (name_ref u)) (enclosed wanted.QualifiedVarSym ts)

abbrev pub type_export : ℕ → Token → List Token → Answer ExportItem
type_export n t ts = made (λ x. export.Type t.at (name_ref t) x) (told_at n ts)

abbrev pub module_export : Token → List Token → Answer ExportItem
module_export t ts = made (λ u. export.Module t.at (module_ref u)) (expected wanted.ModId ts)

abbrev pub export_by : ℕ → Token → List Token → Sign → Answer ExportItem
export_by n t ts Var = var_export t ts
export_by n t ts QualifiedVar = var_export t ts
export_by n t ts OpenParen = symbol_export t ts
export_by n t ts Con = type_export n t ts
export_by n t ts QualifiedCon = type_export n t ts
export_by n t ts Module = module_export t ts
export_by n t ts _ = Err (At t.at)

unfoldable pub export_at : ℕ → List Token → Answer ExportItem
export_at n a = at_first a (Err End) (export_by n)

abbrev pub exports_by : ℕ → Token → List Token → Sign → Answer (Option (List ExportItem))
exports_by n t ts OpenParen = made Some (listing export_at n ts)
exports_by n t ts _ = Ok (None, t ∷ ts)

unfoldable pub exports_at : ℕ → List Token → Answer (Option (List ExportItem))
exports_at n a = at_first a (Ok (None, [])) (exports_by n)

-- Imports.

abbrev pub var_item : Token → List Token → Answer IitemTree
var_item t ts = Ok (iitem.Var t.at (name_ref t), ts)

abbrev pub symbol_item : Token → List Token → Answer IitemTree
symbol_item t ts = made (λ u. iitem.Var t.at (name_ref u)) (enclosed wanted.VarSym ts)

abbrev pub type_item : ℕ → Token → List Token → Answer IitemTree
type_item n t ts = made (λ x. iitem.Type t.at (name_ref t) x) (told_at n ts)

abbrev pub item_by : ℕ → Token → List Token → Sign → Answer IitemTree
item_by n t ts Var = var_item t ts
item_by n t ts OpenParen = symbol_item t ts
item_by n t ts Con = type_item n t ts
item_by n t ts _ = Err (At t.at)

unfoldable pub item_at : ℕ → List Token → Answer IitemTree
item_at n a = at_first a (Err End) (item_by n)

abbrev pub meant : ℕ → List Token → Answer (Option ImportList)
meant n a = made (λ xs. Some (listed false xs)) (listing item_at n a)

abbrev pub hidden : ℕ → List Token → Answer (Option ImportList)
hidden n a = and_then (expected wanted.OpenParen a) (λ o b. made (λ xs. Some (listed true xs)) (listing item_at n b))

abbrev pub list_by : ℕ → Token → List Token → Sign → Answer (Option ImportList)
list_by n t ts OpenParen = meant n ts
list_by n t ts _ = if is_hiding t then hidden n ts else Ok (None, t ∷ ts)

unfoldable pub list_at : ℕ → List Token → Answer (Option ImportList)
list_at n a = at_first a (Ok (None, [])) (list_by n)

abbrev pub alias_by : Token → List Token → Sign → Answer (Option NameRef)
alias_by t ts s = if is_as t then made (λ u. Some (module_ref u)) (expected wanted.ModId ts) else Ok (None, t ∷ ts)

unfoldable pub alias_at : List Token → Answer (Option NameRef)
alias_at a = at_first a (Ok (None, [])) alias_by

abbrev pub mark_by : Token → List Token → Sign → Bool × List Token
mark_by t ts Pragma = (true, ts)
mark_by t ts _ = (false, t ∷ ts)

unfoldable pub mark_at : List Token → Bool × List Token
mark_at a = at_first a (false, []) mark_by

abbrev pub qualifier_by : Token → List Token → Sign → Bool × List Token
qualifier_by t ts s = if is_qualified t then (true, ts) else (false, t ∷ ts)

unfoldable pub qualifier_at : List Token → Bool × List Token
qualifier_at a = at_first a (false, []) qualifier_by

abbrev pub import_item : Pos → Bool → Bool → Token → Option NameRef → Option ImportList → ImportItem
import_item at source qualified t alias list = record { at = at; source = source; qualified = qualified; «module» = module_ref t; alias = alias; list = list }

unfoldable pub named_at : ℕ → Pos → Bool → Bool → List Token → Answer ImportItem
named_at n at source qualified a =
    and_then (expected wanted.ModId a) (λ t b. and_then (alias_at b) (λ alias c. made (λ list. import_item at source qualified t alias list) (list_at n c)))

unfoldable pub import_at : ℕ → Pos → List Token → Answer ImportItem
import_at n at a = named_at n at (mark_at a).0 (qualifier_at (mark_at a).1).0 (qualifier_at (mark_at a).1).1

abbrev pub same_sort : Bool → Bool → Bool
same_sort true true = true
same_sort false false = true
same_sort _ _ = false

-- behind an import: the tokens behind a semicolon, or none where the block ends
abbrev pub behind_by : Bool → Token → List Token → Sign → Result (Option (List Token)) Stop
behind_by put t ts Semicolon = Ok (Some ts)
behind_by put t ts (CloseBrace p) = if same_sort put p then Ok None else Err (At t.at)
behind_by put t ts _ = Err (At t.at)

abbrev pub behind_at : Bool → List Token → Result (Option (List Token)) Stop
behind_at put a = at_first a (Ok None) (behind_by put)

abbrev pub goes_on : (List ImportItem → List Token → Answer (List ImportItem)) → List ImportItem → List Token → Result (Option (List Token)) Stop → Answer (List ImportItem)
goes_on on xs b (Ok None) = Ok (xs, b)
goes_on on xs b (Ok (Some c)) = on xs c
goes_on on xs b (Err s) = Err s

abbrev pub imports_by : Bool → ℕ → (List ImportItem → List Token → Answer (List ImportItem)) → List ImportItem → Token → List Token → Sign → Answer (List ImportItem)
imports_by put n on xs t ts Import = and_then (import_at n t.at ts) (λ x b. goes_on on (xs ++ x ∷ []) b (behind_at put b))
imports_by put n on xs t ts Semicolon = on xs ts
imports_by put n on xs t ts _ = Ok (xs, t ∷ ts)

unfoldable pub imports_at : Bool → ℕ → List ImportItem → List Token → Answer (List ImportItem)
imports_at put zero xs a = Err End
imports_at put (suc n) xs a = at_first a (Ok (xs, [])) (imports_by put n (imports_at put n) xs)

-- Headers.

abbrev pub opening_by : Token → List Token → Sign → Answer Bool
opening_by t ts (OpenBrace put) = Ok (put, ts)
opening_by t ts _ = Err (At t.at)

unfoldable pub opening : List Token → Answer Bool
opening a = at_first a (Err End) opening_by

-- `where`, the opening brace and the imports
unfoldable pub block_at : ℕ → List Token → Answer (List ImportItem)
block_at n a = and_then (expected wanted.Where a) (λ w b. and_then (opening b) (λ put c. imports_at put n [] c))

-- behind `module`
unfoldable pub line_at : ℕ → List Token → Answer Header
line_at n a = and_then (expected wanted.ModId a) (λ t b. and_then (exports_at n b) (λ es c. made (λ xs. header t es xs) (block_at n c)))

abbrev pub main_at : ℕ → Bool → List Token → Answer Header
main_at n put a = made main_header (imports_at put n [] a)

abbrev pub header_by : ℕ → Token → List Token → Sign → Answer Header
header_by n t ts Module = line_at n ts
header_by n t ts (OpenBrace put) = main_at n put ts
header_by n t ts _ = Err (At t.at)

unfoldable pub header_within : ℕ → List Token → Answer Header
header_within n a = at_first a (Err End) (header_by n)

-- the header with which the tokens begin
unfoldable pub header_at : List Token → Answer Header
header_at a = header_within (suc (length a)) a
