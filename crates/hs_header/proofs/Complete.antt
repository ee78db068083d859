-- What is derived is read, given enough steps.
use Rattle.std.proofs.Common.{◌≡◌, ℕ, zero, suc, ◌<◌, ◌≤◌, Bool, true, false, ◌&&◌, cond, List, [], ◌∷◌, ◌++◌, length, Option, Some, None, refl, ap, sym, ◌∙◌, arith, append_assoc, append-nil, codes}
use Rattle.std.specs.Prelude.{Ok, Err}
use Rattle.std.proofs.lemmas.Bool.{eqb-true}
use Rattle.std.specs.Prelude.{nat_eq}
use Rattle.mk_base.specs.Texts.{same_text}
use Rattle.mk_base.specs.declared.place.Pos.{Pos}
use Rattle.hs_syntax.specs.declared.name_ref.NameRef.{NameRef}
use Rattle.hs_syntax.specs.declared.header.Header.{Header}
use Rattle.hs_syntax.specs.declared.header.ExportItem.{ExportItem}
use Rattle.hs_syntax.specs.declared.header.ExportItem.TheVariants as export
use Rattle.hs_syntax.specs.declared.header.IitemTree.{IitemTree}
use Rattle.hs_syntax.specs.declared.header.IitemTree.TheVariants as iitem
use Rattle.hs_syntax.specs.declared.header.ImportItem.{ImportItem}
use Rattle.hs_syntax.specs.declared.header.ImportList.{ImportList}
use Rattle.hs_syntax.specs.declared.header.SubTree.{SubTree}
use Rattle.hs_syntax.specs.declared.header.SubTree.TheVariants as sub
use Rattle.hs_syntax.specs.declared.header.Subs.{Subs}
use Rattle.hs_syntax.specs.declared.header.Subs.TheVariants as subs
use Rattle.hs_syntax.specs.declared.token.Token.{Token}
use Rattle.hs_syntax.specs.declared.sign.Sign.{Sign}
use Rattle.hs_syntax.specs.declared.sign.Sign.TheVariants.{Var, QualifiedVar, Con, QualifiedCon, ConSym, Pragma, OpenBrace, CloseBrace, Semicolon, OpenParen, CloseParen, Comma, Import, Where}
use Rattle.hs_syntax.specs.Signs.{sign_of}
use Rattle.hs_syntax.specs.Names.{name_ref, module_ref}
use Rattle.hs_syntax.specs.Reading.{begins}
use Rattle.hs_header.specs.declared.expected.Stop.TheVariants.{At}
use Rattle.hs_header.specs.declared.expected.Wanted.{Wanted}
use Rattle.hs_header.specs.declared.expected.Wanted.TheVariants as wanted
use Rattle.hs_header.specs.Grammar.{is_qvarid, is_qconid, is_varsym, is_var, is_word, is_as, is_qualified, is_hiding, listed, header, main_header, IsSub, VarSub, ConSub, VarSymSub, ConSymSub, IsMoreSubs, LastSub, NextSub, IsSubs, AllSubs, NoSubs, SomeSubs, IsTold, NothingTold, SubsTold, IsMore, LastOne, LastComma, NextOne, IsListing, EmptyListing, LoneComma, SomeListing, IsExport, VarExport, SymExport, TypeExport, ModuleExport, IsExports, NoExports, SomeExports, IsItem, VarItem, SymItem, TypeItem, IsList, NoList, MeantList, HidingList, IsAlias, NoAlias, Alias, IsMark, NoMark, SourceMark, IsQualifier, NoQualifier, Qualifier, IsImport, OneImport, EndsImport, EndsBlock, IsImports, NoImports, NextPart, LastImport, MoreImports, IsHeader, LineHeader, MainHeader}
use Rattle.hs_header.specs.Readers.{Answer, and_then, made, fits, is_symbol, is_open_paren, is_close_paren, is_where, expected, enclosed, sub_named, sub_at, sub_by, more_subs, more_subs_by, some_subs, subs_at, subs_by, told_at, told_by, next_at, next_by, with_next, more, more_by, some_listed, listing, listing_by, type_export, export_at, export_by, exports_at, exports_by, item_at, item_by, list_at, list_by, hidden, alias_at, mark_at, mark_by, qualifier_at, named_at, import_at, import_item, same_sort, behind_at, behind_by, goes_on, imports_at, imports_by, opening, opening_by, block_at, line_at, header_within, header_by}

abbrev Tokens : Type 0
Tokens = List Token

abbrev NoParen : Tokens → Type 0
NoParen b = begins is_open_paren b ≡ false

-- Single tokens

expected_ok : (w : Wanted) (t : Token) (a : Tokens) → fits w (sign_of t) ≡ true → expected w (t ∷ a) ≡ Ok (t, a)
expected_ok w t a e = ap (λ b. cond b (Ok (t, a)) (Err (At t.at))) e

enclosed_ok : (w : Wanted) (t c : Token) (a : Tokens) → fits w (sign_of t) ≡ true → sign_of c ≡ CloseParen → enclosed w (t ∷ c ∷ a) ≡ Ok (t, a)
enclosed_ok w t c a e f =
    ap (λ o. and_then o (λ t b. made (λ c. t) (expected wanted.CloseParen b))) (expected_ok w t (c ∷ a) e) ∙ ap (made (λ c. t)) (expected_ok wanted.CloseParen c a (ap is_close_paren f))

-- Parts

symbol_too : (k : Sign) → is_varsym k ≡ true → is_symbol k ≡ true
symbol_too ConSym e = absurd (cc)
symbol_too _ e = e

names_var : (at : Pos) (t : Token) (k : Sign) → is_varsym k ≡ true → sub_named at t k ≡ sub.Var at (name_ref t)
names_var at t ConSym e = absurd (cc)
names_var at t _ e = refl

sub_ok : {a b : Tokens} {x : SubTree} → IsSub a b x → sub_at a ≡ Ok (x, b)
unfolding sub_at
sub_ok (VarSub {a = a} {t = t} e) = ap (sub_by t a) e
sub_ok (ConSub {a = a} {t = t} e) = ap (sub_by t a) e
sub_ok (VarSymSub {a = a} {o = o} {t = t} {c = c} e f g) =
    ap (sub_by o (t ∷ c ∷ a)) e ∙ ap (made (λ u. sub_named o.at u (sign_of u))) (enclosed_ok wanted.Symbol t c a (symbol_too (sign_of t) f) g) ∙ ap (λ x. Ok (x, a)) (names_var o.at t (sign_of t) f)
sub_ok (ConSymSub {a = a} {o = o} {t = t} {c = c} e f g) =
    ap (sub_by o (t ∷ c ∷ a)) e ∙ ap (made (λ u. sub_named o.at u (sign_of u))) (enclosed_ok wanted.Symbol t c a (ap is_symbol f) g) ∙ ap (λ k. Ok (sub_named o.at t k, a)) f

sub_less : {a b : Tokens} {x : SubTree} → IsSub a b x → length b < length a
sub_less (VarSub e) = omega arith
sub_less (ConSub e) = omega arith
sub_less (VarSymSub e f g) = omega arith
sub_less (ConSymSub e f g) = omega arith

more_subs_less : {a b : Tokens} {xs : List SubTree} → IsMoreSubs a b xs → length b < length a
more_subs_less (LastSub e) = omega arith
more_subs_less (NextSub {a = a} {b = b} {c = c} e d r) = omega (arith, sub_less d, more_subs_less r)

more_subs_ok : {a b : Tokens} {ys : List SubTree} → IsMoreSubs a b ys → (n : ℕ) → length a < n → (xs : List SubTree) → more_subs n xs a ≡ Ok (xs ++ ys, b)
unfolding more_subs
more_subs_ok d zero l xs = absurd (omega arith)
more_subs_ok (LastSub {a = a} {c = c} e) (suc n) l xs = ap (more_subs_by (more_subs n) xs c a) e ∙ ap (λ v. Ok (v, a)) (sym (append-nil xs))
more_subs_ok (NextSub {a = a} {b = b} {c = c} {m = m} {x = x} {xs = ys} e d r) (suc n) l xs =
    ap (more_subs_by (more_subs n) xs m a) e ∙ ap (λ o. and_then o (λ x b. more_subs n (xs ++ x ∷ []) b)) (sub_ok d)
    ∙ more_subs_ok r n (omega (arith, sub_less d, l)) (xs ++ x ∷ []) ∙ ap (λ v. Ok (v, c)) (append_assoc xs (x ∷ []) ys)

some_first : {a b : Tokens} {x : SubTree} → IsSub a b x → (n : ℕ) → subs_at n a ≡ some_subs n a
unfolding subs_at
some_first (VarSub {a = a} {t = t} e) n = ap (subs_by n t a) e
some_first (ConSub {a = a} {t = t} e) n = ap (subs_by n t a) e
some_first (VarSymSub {a = a} {o = o} {t = t} {c = c} e f g) n = ap (subs_by n o (t ∷ c ∷ a)) e
some_first (ConSymSub {a = a} {o = o} {t = t} {c = c} e f g) n = ap (subs_by n o (t ∷ c ∷ a)) e

subs_ok : {a b : Tokens} {x : Subs} → IsSubs a b x → (n : ℕ) → length a < n → subs_at n a ≡ Ok (x, b)
unfolding subs_at
subs_ok (AllSubs {a = a} {d = d} {c = c} e f) n l = ap (subs_by n d (c ∷ a)) e ∙ ap (made (λ c. subs.All)) (expected_ok wanted.CloseParen c a (ap is_close_paren f))
subs_ok (NoSubs {a = a} {c = c} e) n l = ap (subs_by n c a) e
subs_ok (SomeSubs {a = a} {b = b} {c = c} {x = x} {xs = xs} d r) n l =
    some_first d n ∙ ap (λ o. made subs.Listed (and_then o (λ x b. more_subs n (x ∷ []) b))) (sub_ok d) ∙ ap (made subs.Listed) (more_subs_ok r n (omega (arith, sub_less d, l)) (x ∷ []))

subs_less : {a b : Tokens} {x : Subs} → IsSubs a b x → length b < length a
subs_less (AllSubs e f) = omega arith
subs_less (NoSubs e) = omega arith
subs_less (SomeSubs {a = a} {b = b} {c = c} d r) = omega (arith, sub_less d, more_subs_less r)

untold : (n : ℕ) (t : Token) (ts : Tokens) (k : Sign) → is_open_paren k ≡ false → told_by n t ts k ≡ Ok (None, t ∷ ts)
untold n t ts OpenParen e = absurd (cc)
untold n t ts _ e = refl

told_nothing : (a : Tokens) (n : ℕ) → NoParen a → told_at n a ≡ Ok (None, a)
unfolding told_at
told_nothing [] n e = refl
told_nothing (t ∷ ts) n e = untold n t ts (sign_of t) e

told_ok : {a b : Tokens} {x : Option Subs} → IsTold a b x → NoParen b → (n : ℕ) → length a < n → told_at n a ≡ Ok (x, b)
unfolding told_at
told_ok (NothingTold {a = a}) p n l = told_nothing a n p
told_ok (SubsTold {a = a} {o = o} e d) p n l = ap (told_by n o a) e ∙ ap (made Some) (subs_ok d n (omega (arith, l)))

told_less : {a b : Tokens} {x : Option Subs} → IsTold a b x → length b ≤ length a
told_less NothingTold = omega arith
told_less (SubsTold {a = a} {b = b} e d) = omega (arith, subs_less d)

-- Lists

abbrev is_list_sign : Sign → Bool
is_list_sign CloseParen = true
is_list_sign Comma = true
is_list_sign _ = false

next_one : {X : Type 0} (one : ℕ → Tokens → Answer X) (n : ℕ) (t : Token) (ts : Tokens) (k : Sign) → is_list_sign k ≡ false → next_by one n t ts k ≡ made Some (one n (t ∷ ts))
next_one one n t ts CloseParen e = absurd (cc)
next_one one n t ts _ e = refl

first_one : {X : Type 0} (one : ℕ → Tokens → Answer X) (n : ℕ) (t : Token) (ts : Tokens) (k : Sign) → is_list_sign k ≡ false → listing_by one n t ts k ≡ some_listed one n (t ∷ ts)
first_one one n t ts CloseParen e = absurd (cc)
first_one one n t ts Comma e = absurd (cc)
first_one one n t ts _ e = refl

module _ {X : Type 0} (IsOne : Tokens → Tokens → X → Type 0) (one : ℕ → Tokens → Answer X)
    (one_ok : (a b : Tokens) (x : X) → IsOne a b x → NoParen b → (n : ℕ) → length a < n → one n a ≡ Ok (x, b))
    (one_less : (a b : Tokens) (x : X) → IsOne a b x → length b < length a)
    (one_first : (a b : Tokens) (x : X) → IsOne a b x → begins is_list_sign a ≡ false) where
  abbrev Mores : Tokens → Tokens → List X → Type 0
  Mores = IsMore X IsOne

  follows : (a b : Tokens) (xs : List X) → Mores a b xs → NoParen a
  follows _ _ _ (LastOne e) = ap is_open_paren e
  follows _ _ _ (LastComma e f) = ap is_open_paren e
  follows _ _ _ (NextOne e d r) = ap is_open_paren e

  by_next : (n : ℕ) (a : Tokens) → 0 < length a → begins is_list_sign a ≡ false → next_at one n a ≡ made Some (one n a)
  by_next n [] l e = absurd (omega arith)
  by_next n (t ∷ ts) l e = next_one one n t ts (sign_of t) e

  by_first : (n : ℕ) (a : Tokens) → 0 < length a → begins is_list_sign a ≡ false → listing one n a ≡ some_listed one n a
  unfolding listing
  by_first n [] l e = absurd (omega arith)
  by_first n (t ∷ ts) l e = first_one one n t ts (sign_of t) e

  more_ok : (a b : Tokens) (ys : List X) → Mores a b ys → (n : ℕ) → length a < n → (xs : List X) → more one n xs a ≡ Ok (xs ++ ys, b)
  unfolding more
  more_ok a b ys d zero l xs = absurd (omega arith)
  more_ok _ _ _ (LastOne {a = a} {c = c} e) (suc n) l xs = ap (more_by one n (more one n) xs c a) e ∙ ap (λ v. Ok (v, a)) (sym (append-nil xs))
  more_ok _ _ _ (LastComma {a = a} {m = m} {c = c} e f) (suc n) l xs =
      ap (more_by one n (more one n) xs m (c ∷ a)) e ∙ ap (λ k. and_then (next_by one n c a k) (with_next (more one n) xs)) f ∙ ap (λ v. Ok (v, a)) (sym (append-nil xs))
  more_ok _ _ _ (NextOne {a = a} {b = b} {c = c} {m = m} {x = x} {xs = ys} e d r) (suc n) l xs =
      let less = one_less a b x d in
      let next : next_at one n a ≡ Ok (Some x, b) = by_next n a (omega (arith, less)) (one_first a b x d) ∙ ap (made Some) (one_ok a b x d (follows b c ys r) n (omega (arith, l))) in
      ap (more_by one n (more one n) xs m a) e ∙ ap (λ o. and_then o (with_next (more one n) xs)) next
      ∙ more_ok b c ys r n (omega (arith, less, l)) (xs ++ x ∷ []) ∙ ap (λ v. Ok (v, c)) (append_assoc xs (x ∷ []) ys)

  more_less : (a b : Tokens) (xs : List X) → Mores a b xs → length b < length a
  more_less _ _ _ (LastOne e) = omega arith
  more_less _ _ _ (LastComma e f) = omega arith
  more_less _ _ _ (NextOne {a = a} {b = b} {c = c} {x = x} {xs = xs} e d r) = omega (arith, one_less a b x d, more_less b c xs r)

  pub listing_ok : (a b : Tokens) (xs : List X) → IsListing X IsOne a b xs → (n : ℕ) → length a < n → listing one n a ≡ Ok (xs, b)
  unfolding listing
  listing_ok _ _ _ (EmptyListing {a = a} {c = c} e) n l = ap (listing_by one n c a) e
  listing_ok _ _ _ (LoneComma {a = a} {m = m} {c = c} e f) n l = ap (listing_by one n m (c ∷ a)) e ∙ ap (made (λ c. [])) (expected_ok wanted.CloseParen c a (ap is_close_paren f))
  listing_ok _ _ _ (SomeListing {a = a} {b = b} {c = c} {x = x} {xs = xs} d r) n l =
      let less = one_less a b x d in
      by_first n a (omega (arith, less)) (one_first a b x d) ∙ ap (λ o. and_then o (λ x b. more one n (x ∷ []) b)) (one_ok a b x d (follows b c xs r) n l)
      ∙ more_ok b c xs r n (omega (arith, less, l)) (x ∷ [])

  pub listing_less : (a b : Tokens) (xs : List X) → IsListing X IsOne a b xs → length b < length a
  listing_less _ _ _ (EmptyListing e) = omega arith
  listing_less _ _ _ (LoneComma e f) = omega arith
  listing_less _ _ _ (SomeListing {a = a} {b = b} {c = c} {x = x} {xs = xs} d r) = omega (arith, one_less a b x d, more_less b c xs r)

-- Exports

by_qvarid : (n : ℕ) (t : Token) (ts : Tokens) (k : Sign) → is_qvarid k ≡ true → export_by n t ts k ≡ Ok (export.Var t.at (name_ref t), ts)
by_qvarid n t ts Var e = refl
by_qvarid n t ts QualifiedVar e = refl
by_qvarid n t ts _ e = absurd (cc)

by_qconid : (n : ℕ) (t : Token) (ts : Tokens) (k : Sign) → is_qconid k ≡ true → export_by n t ts k ≡ type_export n t ts
by_qconid n t ts Con e = refl
by_qconid n t ts QualifiedCon e = refl
by_qconid n t ts _ e = absurd (cc)

export_ok : (a b : Tokens) (x : ExportItem) → IsExport a b x → NoParen b → (n : ℕ) → length a < n → export_at n a ≡ Ok (x, b)
unfolding export_at
export_ok _ _ _ (VarExport {a = a} {t = t} e) p n l = by_qvarid n t a (sign_of t) e
export_ok _ _ _ (SymExport {a = a} {o = o} {t = t} {c = c} e f g) p n l = ap (export_by n o (t ∷ c ∷ a)) e ∙ ap (made (λ u. export.Var o.at (name_ref u))) (enclosed_ok wanted.QualifiedVarSym t c a f g)
export_ok _ _ _ (TypeExport {a = a} {t = t} e d) p n l = by_qconid n t a (sign_of t) e ∙ ap (made (λ x. export.Type t.at (name_ref t) x)) (told_ok d p n (omega (arith, l)))
export_ok _ _ _ (ModuleExport {a = a} {m = m} {t = t} e f) p n l = ap (export_by n m (t ∷ a)) e ∙ ap (made (λ u. export.Module m.at (module_ref u))) (expected_ok wanted.ModId t a f)

export_less : (a b : Tokens) (x : ExportItem) → IsExport a b x → length b < length a
export_less _ _ _ (VarExport e) = omega arith
export_less _ _ _ (SymExport e f g) = omega arith
export_less _ _ _ (TypeExport e d) = omega (arith, told_less d)
export_less _ _ _ (ModuleExport e f) = omega arith

qvarid_first : (k : Sign) → is_qvarid k ≡ true → is_list_sign k ≡ false
qvarid_first Comma e = absurd (cc)
qvarid_first CloseParen e = absurd (cc)
qvarid_first _ e = refl

qconid_first : (k : Sign) → is_qconid k ≡ true → is_list_sign k ≡ false
qconid_first Comma e = absurd (cc)
qconid_first CloseParen e = absurd (cc)
qconid_first _ e = refl

export_first : (a b : Tokens) (x : ExportItem) → IsExport a b x → begins is_list_sign a ≡ false
export_first _ _ _ (VarExport {t = t} e) = qvarid_first (sign_of t) e
export_first _ _ _ (SymExport e f g) = ap is_list_sign e
export_first _ _ _ (TypeExport {t = t} e d) = qconid_first (sign_of t) e
export_first _ _ _ (ModuleExport e f) = ap is_list_sign e

unexported : (n : ℕ) (t : Token) (ts : Tokens) (k : Sign) → is_open_paren k ≡ false → exports_by n t ts k ≡ Ok (None, t ∷ ts)
unexported n t ts OpenParen e = absurd (cc)
unexported n t ts _ e = refl

no_exports : (a : Tokens) (n : ℕ) → NoParen a → exports_at n a ≡ Ok (None, a)
unfolding exports_at
no_exports [] n e = refl
no_exports (t ∷ ts) n e = unexported n t ts (sign_of t) e

exports_ok : (a b : Tokens) (x : Option (List ExportItem)) → IsExports a b x → NoParen b → (n : ℕ) → length a < n → exports_at n a ≡ Ok (x, b)
unfolding exports_at
exports_ok _ _ _ (NoExports {a = a}) p n l = no_exports a n p
exports_ok _ _ _ (SomeExports {a = a} {b = b} {o = o} {xs = xs} e d) p n l = ap (exports_by n o a) e ∙ ap (made Some) (listing_ok IsExport export_at export_ok export_less export_first a b xs d n (omega (arith, l)))

exports_less : (a b : Tokens) (x : Option (List ExportItem)) → IsExports a b x → length b ≤ length a
exports_less _ _ _ NoExports = omega arith
exports_less _ _ _ (SomeExports {a = a} {b = b} {xs = xs} e d) = omega (arith, listing_less IsExport export_at export_ok export_less export_first a b xs d)

-- Lists of imports

item_ok : (a b : Tokens) (x : IitemTree) → IsItem a b x → NoParen b → (n : ℕ) → length a < n → item_at n a ≡ Ok (x, b)
unfolding item_at
item_ok _ _ _ (VarItem {a = a} {t = t} e) p n l = ap (item_by n t a) e
item_ok _ _ _ (SymItem {a = a} {o = o} {t = t} {c = c} e f g) p n l = ap (item_by n o (t ∷ c ∷ a)) e ∙ ap (made (λ u. iitem.Var o.at (name_ref u))) (enclosed_ok wanted.VarSym t c a f g)
item_ok _ _ _ (TypeItem {a = a} {t = t} e d) p n l = ap (item_by n t a) e ∙ ap (made (λ x. iitem.Type t.at (name_ref t) x)) (told_ok d p n (omega (arith, l)))

item_less : (a b : Tokens) (x : IitemTree) → IsItem a b x → length b < length a
item_less _ _ _ (VarItem e) = omega arith
item_less _ _ _ (SymItem e f g) = omega arith
item_less _ _ _ (TypeItem e d) = omega (arith, told_less d)

item_first : (a b : Tokens) (x : IitemTree) → IsItem a b x → begins is_list_sign a ≡ false
item_first _ _ _ (VarItem e) = ap is_list_sign e
item_first _ _ _ (SymItem e f g) = ap is_list_sign e
item_first _ _ _ (TypeItem e d) = ap is_list_sign e

items_ok : (a b : Tokens) (xs : List IitemTree) → IsListing IitemTree IsItem a b xs → (n : ℕ) → length a < n → listing item_at n a ≡ Ok (xs, b)
items_ok = listing_ok IsItem item_at item_ok item_less item_first

items_less : (a b : Tokens) (xs : List IitemTree) → IsListing IitemTree IsItem a b xs → length b < length a
items_less = listing_less IsItem item_at item_ok item_less item_first

-- The words of an import

abbrev first_is : (Token → Bool) → Tokens → Bool
first_is p [] = false
first_is p (t ∷ ts) = p t

pub and_left : (a b : Bool) → (a && b) ≡ true → a ≡ true
and_left true b e = refl
and_left false b e = e

and_right : (a b : Bool) → (a && b) ≡ true → b ≡ true
and_right true b e = e
and_right false b e = absurd (cc)

pub var_by : (k : Sign) → is_var k ≡ true → k ≡ Var
var_by Var e = refl
var_by _ e = absurd (cc)

-- no word but a variable
no_word : (t : Token) (word : List ℕ) (k : Sign) → sign_of t ≡ k → is_var k ≡ false → is_word word t ≡ false
no_word t word k e f = ap (λ b. b && same_text t.text word) (ap is_var e ∙ f)

same_is : (a b : List ℕ) → same_text a b ≡ true → a ≡ b
same_is [] [] e = refl
same_is [] (y ∷ b) e = absurd (cc)
same_is (x ∷ a) [] e = absurd (cc)
same_is (x ∷ a) (y ∷ b) e =
    let h : nat_eq x y ≡ true = and_left (nat_eq x y) (same_text a b) e in
    let i : x ≡ y = eqb-true x y (and_left (nat_eq x y) (same_text a b) e) in
    ap (λ z. z ∷ a) i ∙ ap (λ zs. y ∷ zs) (same_is a b (and_right (nat_eq x y) (same_text a b) e))

-- `hiding` isn't `as`
hiding_no_as : (t : Token) → is_hiding t ≡ true → is_as t ≡ false
hiding_no_as t e =
    let s : t.text ≡ codes "hiding" = same_is t.text (codes "hiding") (and_right (is_var (sign_of t)) (same_text t.text (codes "hiding")) e) in
    let v : is_var (sign_of t) ≡ true = and_left (is_var (sign_of t)) (same_text t.text (codes "hiding")) e in
    ap (λ b. b && same_text t.text (codes "as")) v ∙ ap (λ x. same_text x (codes "as")) s

pub record Ends (b : Tokens) : Type 0 where
  pub paren : NoParen b
  pub hiding : first_is is_hiding b ≡ false
  pub alias : first_is is_as b ≡ false

unlisted : (n : ℕ) (t : Token) (ts : Tokens) (k : Sign) → is_open_paren k ≡ false → is_hiding t ≡ false → list_by n t ts k ≡ Ok (None, t ∷ ts)
unlisted n t ts OpenParen e f = absurd (cc)
unlisted n t ts _ e f = ap (λ b. cond b (hidden n ts) (Ok (None, t ∷ ts))) f

no_list : (a : Tokens) (n : ℕ) → Ends a → list_at n a ≡ Ok (None, a)
unfolding list_at
no_list [] n e = refl
no_list (t ∷ ts) n e = unlisted n t ts (sign_of t) e.paren e.hiding

by_var : (n : ℕ) (t : Token) (ts : Tokens) (k : Sign) → k ≡ Var → is_hiding t ≡ true → list_by n t ts k ≡ hidden n ts
by_var n t ts Var e f = ap (λ b. cond b (hidden n ts) (Ok (None, t ∷ ts))) f
by_var n t ts _ e f = absurd (cc)

list_ok : (a b : Tokens) (x : Option ImportList) → IsList a b x → Ends b → (n : ℕ) → length a < n → list_at n a ≡ Ok (x, b)
unfolding list_at
list_ok _ _ _ (NoList {a = a}) p n l = no_list a n p
list_ok _ _ _ (MeantList {a = a} {b = b} {o = o} {xs = xs} e d) p n l = ap (list_by n o a) e ∙ ap (made (λ xs. Some (listed false xs))) (items_ok a b xs d n (omega (arith, l)))
list_ok _ _ _ (HidingList {a = a} {b = b} {h = h} {o = o} {xs = xs} e f d) p n l =
    by_var n h (o ∷ a) (sign_of h) (var_by (sign_of h) (and_left (is_var (sign_of h)) (same_text h.text (codes "hiding")) e)) e
    ∙ ap (λ o. and_then o (λ o b. made (λ xs. Some (listed true xs)) (listing item_at n b))) (expected_ok wanted.OpenParen o a (ap is_open_paren f))
    ∙ ap (made (λ xs. Some (listed true xs))) (items_ok a b xs d n (omega (arith, l)))

list_less : (a b : Tokens) (x : Option ImportList) → IsList a b x → length b ≤ length a
list_less _ _ _ NoList = omega arith
list_less _ _ _ (MeantList {a = a} {b = b} {xs = xs} e d) = omega (arith, items_less a b xs d)
list_less _ _ _ (HidingList {a = a} {b = b} {xs = xs} e f d) = omega (arith, items_less a b xs d)

list_no_as : (a b : Tokens) (x : Option ImportList) → IsList a b x → Ends b → first_is is_as a ≡ false
list_no_as _ _ _ NoList p = p.alias
list_no_as _ _ _ (MeantList {o = o} e d) p = no_word o (codes "as") OpenParen e refl
list_no_as _ _ _ (HidingList {h = h} e f d) p = hiding_no_as h e

no_alias : (a : Tokens) → first_is is_as a ≡ false → alias_at a ≡ Ok (None, a)
unfolding alias_at
no_alias [] e = refl
no_alias (t ∷ ts) e = ap (λ b. cond b (made (λ u. Some (module_ref u)) (expected wanted.ModId ts)) (Ok (None, t ∷ ts))) e

alias_ok : (a b : Tokens) (x : Option NameRef) → IsAlias a b x → first_is is_as b ≡ false → alias_at a ≡ Ok (x, b)
unfolding alias_at
alias_ok _ _ _ (NoAlias {a = a}) p = no_alias a p
alias_ok _ _ _ (Alias {a = a} {w = w} {t = t} e f) p =
    ap (λ b. cond b (made (λ u. Some (module_ref u)) (expected wanted.ModId (t ∷ a))) (Ok (None, w ∷ t ∷ a))) e ∙ ap (made (λ u. Some (module_ref u))) (expected_ok wanted.ModId t a f)

alias_less : (a b : Tokens) (x : Option NameRef) → IsAlias a b x → length b ≤ length a
alias_less _ _ _ NoAlias = omega arith
alias_less _ _ _ (Alias e f) = omega arith

abbrev is_pragma : Sign → Bool
is_pragma Pragma = true
is_pragma _ = false

unmarked : (t : Token) (ts : Tokens) (k : Sign) → is_pragma k ≡ false → mark_by t ts k ≡ (false, t ∷ ts)
unmarked t ts Pragma e = absurd (cc)
unmarked t ts _ e = refl

no_mark : (a : Tokens) → begins is_pragma a ≡ false → mark_at a ≡ (false, a)
unfolding mark_at
no_mark [] e = refl
no_mark (t ∷ ts) e = unmarked t ts (sign_of t) e

mark_ok : (a b : Tokens) (s : Bool) → IsMark a b s → begins is_pragma b ≡ false → mark_at a ≡ (s, b)
unfolding mark_at
mark_ok _ _ _ (NoMark {a = a}) p = no_mark a p
mark_ok _ _ _ (SourceMark {a = a} {t = t} e) p = ap (mark_by t a) e

mark_less : (a b : Tokens) (s : Bool) → IsMark a b s → length b ≤ length a
mark_less _ _ _ NoMark = omega arith
mark_less _ _ _ (SourceMark e) = omega arith

no_qualifier : (a : Tokens) → first_is is_qualified a ≡ false → qualifier_at a ≡ (false, a)
unfolding qualifier_at
no_qualifier [] e = refl
no_qualifier (t ∷ ts) e = ap (λ b. cond b (true, ts) (false, t ∷ ts)) e

qualifier_ok : (a b : Tokens) (q : Bool) → IsQualifier a b q → first_is is_qualified b ≡ false → qualifier_at a ≡ (q, b)
unfolding qualifier_at
qualifier_ok _ _ _ (NoQualifier {a = a}) p = no_qualifier a p
qualifier_ok _ _ _ (Qualifier {a = a} {t = t} e) p = ap (λ b. cond b (true, a) (false, t ∷ a)) e

qualifier_less : (a b : Tokens) (q : Bool) → IsQualifier a b q → length b ≤ length a
qualifier_less _ _ _ NoQualifier = omega arith
qualifier_less _ _ _ (Qualifier e) = omega arith

con_no_pragma : (k : Sign) → is_qconid k ≡ true → is_pragma k ≡ false
con_no_pragma Pragma e = absurd (cc)
con_no_pragma _ e = refl

con_no_var : (k : Sign) → is_qconid k ≡ true → is_var k ≡ false
con_no_var Var e = absurd (cc)
con_no_var _ e = refl

qualifier_no_pragma : (a b : Tokens) (q : Bool) → IsQualifier a b q → begins is_pragma b ≡ false → begins is_pragma a ≡ false
qualifier_no_pragma _ _ _ NoQualifier p = p
qualifier_no_pragma _ _ _ (Qualifier {t = t} e) p = ap is_pragma (var_by (sign_of t) (and_left (is_var (sign_of t)) (same_text t.text (codes "qualified")) e))

-- Imports

named_ok : (n : ℕ) (at : Pos) (s q : Bool) (t : Token) (c d e : Tokens) (alias : Option NameRef) (list : Option ImportList) → is_qconid (sign_of t) ≡ true → IsAlias c d alias → IsList d e list → Ends e → length c < n
    → named_at n at s q (t ∷ c) ≡ Ok (import_item at s q t alias list, e)
unfolding named_at
named_ok n at s q t c d e alias list f g h p l =
    ap (λ o. and_then o (λ t b. and_then (alias_at b) (λ alias c. made (λ list. import_item at s q t alias list) (list_at n c)))) (expected_ok wanted.ModId t c f)
    ∙ ap (λ o. and_then o (λ alias c. made (λ list. import_item at s q t alias list) (list_at n c))) (alias_ok c d alias g (list_no_as d e list h p))
    ∙ ap (made (λ list. import_item at s q t alias list)) (list_ok d e list h p n (omega (arith, alias_less c d alias g, l)))

import_ok : (at : Pos) (a e : Tokens) (x : ImportItem) → IsImport at a e x → Ends e → (n : ℕ) → length a < n → import_at n at a ≡ Ok (x, e)
unfolding import_at
import_ok at _ _ _ (OneImport {a = a} {b = b} {c = c} {d = d} {e = e} {t = t} {source = s} {qualified = q} {alias = alias} {list = list} m f g h i) p n l =
    let mark : mark_at a ≡ (s, b) = mark_ok a b s m (qualifier_no_pragma b (t ∷ c) q f (con_no_pragma (sign_of t) g)) in
    let qualifier : qualifier_at b ≡ (q, t ∷ c) = qualifier_ok b (t ∷ c) q f (no_word t (codes "qualified") (sign_of t) refl (con_no_var (sign_of t) g)) in
    ap (λ (r : Bool × Tokens). named_at n at r.0 (qualifier_at r.1).0 (qualifier_at r.1).1) mark
    ∙ ap (λ (r : Bool × Tokens). named_at n at s r.0 r.1) qualifier
    ∙ named_ok n at s q t c d e alias list g h i p (omega (arith, mark_less a b s m, qualifier_less b (t ∷ c) q f, l))

import_less : (at : Pos) (a e : Tokens) (x : ImportItem) → IsImport at a e x → length e < length a
import_less at _ _ _ (OneImport {a = a} {b = b} {c = c} {d = d} {e = e} {t = t} {source = s} {qualified = q} {alias = alias} {list = list} m f g h i) =
    omega (arith, mark_less a b s m, qualifier_less b (t ∷ c) q f, alias_less c d alias h, list_less d e list i)

sign_ends : (t : Token) (ts : Tokens) (k : Sign) → sign_of t ≡ k → is_open_paren k ≡ false → is_var k ≡ false → Ends (t ∷ ts)
sign_ends t ts k e f g = record { paren = ap is_open_paren e ∙ f; hiding = no_word t (codes "hiding") k e g; alias = no_word t (codes "as") k e g }

import_ends : (put : Bool) (b : Tokens) → EndsImport put b → Ends b
import_ends put [] e = record { paren = refl; hiding = refl; alias = refl }
import_ends put (t ∷ ts) e = sign_ends t ts (CloseBrace put) e refl refl

same_sorts : (p : Bool) → same_sort p p ≡ true
same_sorts true = refl
same_sorts false = refl

behind_ends : (put : Bool) (n : ℕ) (xs : List ImportItem) (b : Tokens) → EndsImport put b → goes_on (imports_at put n) xs b (behind_at put b) ≡ Ok (xs, b)
behind_ends put n xs [] e = refl
behind_ends put n xs (t ∷ ts) e =
    ap (λ k. goes_on (imports_at put n) xs (t ∷ ts) (behind_by put t ts k)) e ∙ ap (λ c. goes_on (imports_at put n) xs (t ∷ ts) (cond c (Ok None) (Err (At t.at)))) (same_sorts put)

block_ends : (put : Bool) (n : ℕ) (xs : List ImportItem) (t : Token) (ts : Tokens) (k : Sign) → (k ≡ Import → ⊥) → (k ≡ Semicolon → ⊥) → imports_by put n (imports_at put n) xs t ts k ≡ Ok (xs, t ∷ ts)
block_ends put n xs t ts Import e f = absurd (e refl)
block_ends put n xs t ts Semicolon e f = absurd (f refl)
block_ends put n xs t ts _ e f = refl

no_imports : (put : Bool) (n : ℕ) (xs : List ImportItem) (a : Tokens) → EndsBlock a → imports_at put (suc n) xs a ≡ Ok (xs, a)
unfolding imports_at
no_imports put n xs [] e = refl
no_imports put n xs (t ∷ ts) (e, f) = block_ends put n xs t ts (sign_of t) e f

imports_ok : (put : Bool) (a b : Tokens) (ys : List ImportItem) → IsImports put a b ys → (n : ℕ) → length a < n → (xs : List ImportItem) → imports_at put n xs a ≡ Ok (xs ++ ys, b)
unfolding imports_at
imports_ok put a b ys d zero l xs = absurd (omega arith)
imports_ok put _ _ _ (NoImports {a = a} e) (suc n) l xs = no_imports put n xs a e ∙ ap (λ v. Ok (v, a)) (sym (append-nil xs))
imports_ok put _ _ _ (NextPart {a = a} {b = b} {m = m} {xs = ys} e d) (suc n) l xs = ap (imports_by put n (imports_at put n) xs m a) e ∙ imports_ok put a b ys d n (omega (arith, l)) xs
imports_ok put _ _ _ (LastImport {a = a} {b = b} {i = i} {x = x} e d f) (suc n) l xs =
    ap (imports_by put n (imports_at put n) xs i a) e
    ∙ ap (λ o. and_then o (λ x b. goes_on (imports_at put n) (xs ++ x ∷ []) b (behind_at put b))) (import_ok i.at a b x d (import_ends put b f) n (omega (arith, l)))
    ∙ behind_ends put n (xs ++ x ∷ []) b f
imports_ok put _ _ _ (MoreImports {a = a} {b = b} {c = c} {i = i} {m = m} {x = x} {xs = zs} e d f r) (suc n) l xs =
    ap (imports_by put n (imports_at put n) xs i a) e
    ∙ ap (λ o. and_then o (λ x b. goes_on (imports_at put n) (xs ++ x ∷ []) b (behind_at put b))) (import_ok i.at a (m ∷ b) x d (sign_ends m b Semicolon f refl refl) n (omega (arith, l)))
    ∙ ap (λ k. goes_on (imports_at put n) (xs ++ x ∷ []) (m ∷ b) (behind_by put m b k)) f
    ∙ imports_ok put b c zs r n (omega (arith, import_less i.at a (m ∷ b) x d, l)) (xs ++ x ∷ []) ∙ ap (λ v. Ok (v, c)) (append_assoc xs (x ∷ []) zs)

-- Headers

block_ok : (put : Bool) (w o : Token) (b c : Tokens) (xs : List ImportItem) → sign_of w ≡ Where → sign_of o ≡ OpenBrace put → IsImports put b c xs → (n : ℕ) → length b < n → block_at n (w ∷ o ∷ b) ≡ Ok (xs, c)
unfolding block_at opening
block_ok put w o b c xs e f d n l =
    ap (λ o. and_then o (λ w b. and_then (opening b) (λ put c. imports_at put n [] c))) (expected_ok wanted.Where w (o ∷ b) (ap is_where e))
    ∙ ap (λ k. and_then (opening_by o b k) (λ put c. imports_at put n [] c)) f ∙ imports_ok put b c xs d n l []

pub header_ok : (a b : Tokens) (h : Header) → IsHeader a b h → (n : ℕ) → length a < n → header_within n a ≡ Ok (h, b)
unfolding header_within line_at
header_ok _ _ _ (LineHeader {a = a} {b = b} {c = c} {m = m} {t = t} {w = w} {o = o} {put = put} {es = es} {xs = xs} e f g i j d) n l =
    ap (header_by n m (t ∷ a)) e
    ∙ ap (λ o. and_then o (λ t b. and_then (exports_at n b) (λ es c. made (λ xs. header t es xs) (block_at n c)))) (expected_ok wanted.ModId t a f)
    ∙ ap (λ o. and_then o (λ es c. made (λ xs. header t es xs) (block_at n c))) (exports_ok a (w ∷ o ∷ b) es g (ap is_open_paren i) n (omega (arith, l)))
    ∙ ap (made (λ xs. header t es xs)) (block_ok put w o b c xs i j d n (omega (arith, exports_less a (w ∷ o ∷ b) es g, l)))
header_ok _ _ _ (MainHeader {a = a} {b = b} {o = o} {put = put} {xs = xs} e d) n l = ap (header_by n o a) e ∙ ap (made main_header) (imports_ok put a b xs d n (omega (arith, l)) [])
