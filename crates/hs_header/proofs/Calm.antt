-- The tokens of a header leave its stage open: where the signs say that what follows it is decided, the grammar says so too.
use Rattle.std.proofs.Common.{◌≡◌, ℕ, Bool, true, false, List, [], ◌∷◌, ◌++◌, Option, refl, ap, sym, ◌∙◌, codes}
use Rattle.std.specs.Prelude.{Ok, Err}
use Rattle.mk_base.specs.declared.place.Pos.{Pos}
use Rattle.mk_base.specs.Texts.{same_text}
use Rattle.hs_syntax.specs.declared.name_ref.NameRef.{NameRef}
use Rattle.hs_syntax.specs.declared.header.Header.{Header}
use Rattle.hs_syntax.specs.declared.header.ExportItem.{ExportItem}
use Rattle.hs_syntax.specs.declared.header.IitemTree.{IitemTree}
use Rattle.hs_syntax.specs.declared.header.ImportItem.{ImportItem}
use Rattle.hs_syntax.specs.declared.header.ImportList.{ImportList}
use Rattle.hs_syntax.specs.declared.header.SubTree.{SubTree}
use Rattle.hs_syntax.specs.declared.header.Subs.{Subs}
use Rattle.hs_syntax.specs.declared.token.Token.{Token}
use Rattle.hs_syntax.specs.declared.sign.Sign.{Sign}
use Rattle.hs_syntax.specs.declared.sign.Sign.TheVariants.{OpenBrace, CloseBrace, Semicolon}
use Rattle.hs_syntax.specs.Signs.{sign_of}
use Rattle.hs_header.specs.declared.expected.Stop.TheVariants.{End}
use Rattle.hs_header.specs.declared.stage.Stage.{Stage}
use Rattle.hs_header.specs.declared.stage.Stage.TheVariants as stage
use Rattle.hs_header.specs.Grammar.{is_qvarid, is_qconid, is_varsym, is_qvarsym, is_var, is_word, IsSub, VarSub, ConSub, VarSymSub, ConSymSub, IsMoreSubs, LastSub, NextSub, IsSubs, AllSubs, NoSubs, SomeSubs, IsTold, NothingTold, SubsTold, IsMore, LastOne, LastComma, NextOne, IsListing, EmptyListing, LoneComma, SomeListing, IsExport, VarExport, SymExport, TypeExport, ModuleExport, IsExports, NoExports, SomeExports, IsItem, VarItem, SymItem, TypeItem, IsList, NoList, MeantList, HidingList, IsAlias, NoAlias, Alias, IsMark, NoMark, SourceMark, IsQualifier, NoQualifier, Qualifier, IsImport, OneImport, IsImports, NoImports, NextPart, LastImport, MoreImports, IsHeader, LineHeader, MainHeader}
use Rattle.hs_header.specs.Readers.{header_at}
use Rattle.hs_header.specs.Stages.{in_line, at_part, in_import, over, behind}
use Rattle.hs_header.proofs.Told.{Tokens}
use Rattle.hs_header.proofs.HeadersTold.{Fr}
use Rattle.hs_header.proofs.Exact.{read, cut_front}
use Rattle.hs_header.proofs.Complete.{and_left, var_by}

-- no brace and no semicolon
abbrev is_plain : Sign → Bool
is_plain (OpenBrace put) = false
is_plain (CloseBrace put) = false
is_plain Semicolon = false
is_plain _ = true

plain_varid : (k : Sign) → is_qvarid k ≡ true → is_plain k ≡ true
plain_varid (OpenBrace put) e = e
plain_varid (CloseBrace put) e = e
plain_varid Semicolon e = e
plain_varid _ e = refl

plain_conid : (k : Sign) → is_qconid k ≡ true → is_plain k ≡ true
plain_conid (OpenBrace put) e = e
plain_conid (CloseBrace put) e = e
plain_conid Semicolon e = e
plain_conid _ e = refl

plain_varsym : (k : Sign) → is_varsym k ≡ true → is_plain k ≡ true
plain_varsym (OpenBrace put) e = e
plain_varsym (CloseBrace put) e = e
plain_varsym Semicolon e = e
plain_varsym _ e = refl

plain_qvarsym : (k : Sign) → is_qvarsym k ≡ true → is_plain k ≡ true
plain_qvarsym (OpenBrace put) e = e
plain_qvarsym (CloseBrace put) e = e
plain_qvarsym Semicolon e = e
plain_qvarsym _ e = refl

plain_word : (word : List ℕ) (t : Token) → is_word word t ≡ true → is_plain (sign_of t) ≡ true
plain_word word t e = ap is_plain (var_by (sign_of t) (and_left (is_var (sign_of t)) (same_text t.text word) e))

-- A stage that plain tokens leave as it is, and so does each part of the grammar.
module _ (s : Stage) (steady : (t : Token) → is_plain (sign_of t) ≡ true → over s t ≡ s) where
  one : (t : Token) (a : Tokens) → is_plain (sign_of t) ≡ true → behind s (t ∷ a) ≡ behind s a
  one t a p = ap (λ z. behind z a) (steady t p)

  enclosed : (o t c : Token) (a : Tokens) → is_plain (sign_of o) ≡ true → is_plain (sign_of t) ≡ true → is_plain (sign_of c) ≡ true → behind s (o ∷ t ∷ c ∷ a) ≡ behind s a
  enclosed o t c a e f g = one o (t ∷ c ∷ a) e ∙ one t (c ∷ a) f ∙ one c a g

  sub : (a b : Tokens) (x : SubTree) → IsSub a b x → behind s a ≡ behind s b
  sub _ _ _ (VarSub {a = a} {t = t} e) = one t a (ap is_plain e)
  sub _ _ _ (ConSub {a = a} {t = t} e) = one t a (ap is_plain e)
  sub _ _ _ (VarSymSub {a = a} {o = o} {t = t} {c = c} e f g) = enclosed o t c a (ap is_plain e) (plain_varsym (sign_of t) f) (ap is_plain g)
  sub _ _ _ (ConSymSub {a = a} {o = o} {t = t} {c = c} e f g) = enclosed o t c a (ap is_plain e) (ap is_plain f) (ap is_plain g)

  more_subs : (a b : Tokens) (xs : List SubTree) → IsMoreSubs a b xs → behind s a ≡ behind s b
  more_subs _ _ _ (LastSub {a = a} {c = c} e) = one c a (ap is_plain e)
  more_subs _ _ _ (NextSub {a = a} {b = b} {c = c} {m = m} {x = x} {xs = xs} e d r) = one m a (ap is_plain e) ∙ sub a b x d ∙ more_subs b c xs r

  subs : (a b : Tokens) (x : Subs) → IsSubs a b x → behind s a ≡ behind s b
  subs _ _ _ (AllSubs {a = a} {d = d} {c = c} e f) = one d (c ∷ a) (ap is_plain e) ∙ one c a (ap is_plain f)
  subs _ _ _ (NoSubs {a = a} {c = c} e) = one c a (ap is_plain e)
  subs _ _ _ (SomeSubs {a = a} {b = b} {c = c} {x = x} {xs = xs} d r) = sub a b x d ∙ more_subs b c xs r

  told : (a b : Tokens) (x : Option Subs) → IsTold a b x → behind s a ≡ behind s b
  told _ _ _ NothingTold = refl
  told _ _ _ (SubsTold {a = a} {b = b} {o = o} {x = x} e d) = one o a (ap is_plain e) ∙ subs a b x d

  module _ {X : Type 0} (IsOne : Tokens → Tokens → X → Type 0) (each : (a b : Tokens) (x : X) → IsOne a b x → behind s a ≡ behind s b) where
    more : (a b : Tokens) (xs : List X) → IsMore X IsOne a b xs → behind s a ≡ behind s b
    more _ _ _ (LastOne {a = a} {c = c} e) = one c a (ap is_plain e)
    more _ _ _ (LastComma {a = a} {m = m} {c = c} e f) = one m (c ∷ a) (ap is_plain e) ∙ one c a (ap is_plain f)
    more _ _ _ (NextOne {a = a} {b = b} {c = c} {m = m} {x = x} {xs = xs} e d r) = one m a (ap is_plain e) ∙ each a b x d ∙ more b c xs r

    listing : (a b : Tokens) (xs : List X) → IsListing X IsOne a b xs → behind s a ≡ behind s b
    listing _ _ _ (EmptyListing {a = a} {c = c} e) = one c a (ap is_plain e)
    listing _ _ _ (LoneComma {a = a} {m = m} {c = c} e f) = one m (c ∷ a) (ap is_plain e) ∙ one c a (ap is_plain f)
    listing _ _ _ (SomeListing {a = a} {b = b} {c = c} {x = x} {xs = xs} d r) = each a b x d ∙ more b c xs r

  export : (a b : Tokens) (x : ExportItem) → IsExport a b x → behind s a ≡ behind s b
  export _ _ _ (VarExport {a = a} {t = t} e) = one t a (plain_varid (sign_of t) e)
  export _ _ _ (SymExport {a = a} {o = o} {t = t} {c = c} e f g) = enclosed o t c a (ap is_plain e) (plain_qvarsym (sign_of t) f) (ap is_plain g)
  export _ _ _ (TypeExport {a = a} {b = b} {t = t} {x = x} e d) = one t a (plain_conid (sign_of t) e) ∙ told a b x d
  export _ _ _ (ModuleExport {a = a} {m = m} {t = t} e f) = one m (t ∷ a) (ap is_plain e) ∙ one t a (plain_conid (sign_of t) f)

  exports : (a b : Tokens) (x : Option (List ExportItem)) → IsExports a b x → behind s a ≡ behind s b
  exports _ _ _ NoExports = refl
  exports _ _ _ (SomeExports {a = a} {b = b} {o = o} {xs = xs} e d) = one o a (ap is_plain e) ∙ listing IsExport export a b xs d

  item : (a b : Tokens) (x : IitemTree) → IsItem a b x → behind s a ≡ behind s b
  item _ _ _ (VarItem {a = a} {t = t} e) = one t a (ap is_plain e)
  item _ _ _ (SymItem {a = a} {o = o} {t = t} {c = c} e f g) = enclosed o t c a (ap is_plain e) (plain_varsym (sign_of t) f) (ap is_plain g)
  item _ _ _ (TypeItem {a = a} {b = b} {t = t} {x = x} e d) = one t a (ap is_plain e) ∙ told a b x d

  list : (a b : Tokens) (x : Option ImportList) → IsList a b x → behind s a ≡ behind s b
  list _ _ _ NoList = refl
  list _ _ _ (MeantList {a = a} {b = b} {o = o} {xs = xs} e d) = one o a (ap is_plain e) ∙ listing IsItem item a b xs d
  list _ _ _ (HidingList {a = a} {b = b} {h = h} {o = o} {xs = xs} e f d) = one h (o ∷ a) (plain_word (codes "hiding") h e) ∙ one o a (ap is_plain f) ∙ listing IsItem item a b xs d

  alias : (a b : Tokens) (x : Option NameRef) → IsAlias a b x → behind s a ≡ behind s b
  alias _ _ _ NoAlias = refl
  alias _ _ _ (Alias {a = a} {w = w} {t = t} e f) = one w (t ∷ a) (plain_word (codes "as") w e) ∙ one t a (plain_conid (sign_of t) f)

  mark : (a b : Tokens) (x : Bool) → IsMark a b x → behind s a ≡ behind s b
  mark _ _ _ NoMark = refl
  mark _ _ _ (SourceMark {a = a} {t = t} e) = one t a (ap is_plain e)

  qualifier : (a b : Tokens) (x : Bool) → IsQualifier a b x → behind s a ≡ behind s b
  qualifier _ _ _ NoQualifier = refl
  qualifier _ _ _ (Qualifier {a = a} {t = t} e) = one t a (plain_word (codes "qualified") t e)

  import_line : (at : Pos) (a e : Tokens) (x : ImportItem) → IsImport at a e x → behind s a ≡ behind s e
  import_line at _ _ _ (OneImport {a = a} {b = b} {c = c} {d = d} {e = e} {t = t} {source = m} {qualified = q} {alias = y} {list = l} f g h i j) =
      mark a b m f ∙ qualifier b (t ∷ c) q g ∙ one t c (plain_conid (sign_of t) h) ∙ alias c d y i ∙ list d e l j

line_by : (k : Sign) → is_plain k ≡ true → in_line k ≡ stage.Line
line_by (OpenBrace put) e = absurd (cc)
line_by _ e = refl

line_steady : (t : Token) → is_plain (sign_of t) ≡ true → over stage.Line t ≡ stage.Line
line_steady t p = line_by (sign_of t) p

import_by : (k : Sign) → is_plain k ≡ true → in_import k ≡ stage.Import
import_by Semicolon e = absurd (cc)
import_by (CloseBrace put) e = absurd (cc)
import_by _ e = refl

import_steady : (t : Token) → is_plain (sign_of t) ≡ true → over stage.Import t ≡ stage.Import
import_steady t p = import_by (sign_of t) p

-- imports up to the end leave it open
imports_open : (put : Bool) (a b : Tokens) (xs : List ImportItem) → IsImports put a b xs → b ≡ [] → behind stage.Part a ≡ stage.Over → ⊥
imports_open put _ _ _ (NoImports e) n o = let f : stage.Part ≡ stage.Over = ap (behind stage.Part) (sym n) ∙ o in cc
imports_open put _ _ _ (NextPart {a = a} {b = b} {xs = xs} e d) n o = imports_open put a b xs d n (ap (λ k. behind (at_part k) a) (sym e) ∙ o)
imports_open put _ _ _ (LastImport {a = a} {b = b} {i = i} {x = x} e d f) n o =
    let g : stage.Import ≡ stage.Over = ap (behind stage.Import) (sym n) ∙ sym (import_line stage.Import import_steady i.at a b x d) ∙ ap (λ k. behind (at_part k) a) (sym e) ∙ o in cc
imports_open put _ _ _ (MoreImports {a = a} {b = b} {c = c} {i = i} {m = m} {x = x} {xs = ys} e d f r) n o =
    imports_open put b c ys r n
    (ap (λ k. behind (in_import k) b) (sym f) ∙ sym (import_line stage.Import import_steady i.at a (m ∷ b) x d) ∙ ap (λ k. behind (at_part k) a) (sym e) ∙ o)

header_open : (a b : Tokens) (h : Header) → IsHeader a b h → b ≡ [] → behind stage.Line a ≡ stage.Over → ⊥
header_open _ _ _ (LineHeader {a = a} {b = b} {c = c} {m = m} {t = t} {w = w} {o = o} {put = put} {es = es} {xs = xs} e f g i j d) n q =
    imports_open put b c xs d n
    (ap (λ k. behind (in_line k) b) (sym j) ∙ sym (one stage.Line line_steady w (o ∷ b) (ap is_plain i)) ∙ sym (exports stage.Line line_steady a (w ∷ o ∷ b) es g)
    ∙ sym (one stage.Line line_steady t a (plain_conid (sign_of t) f)) ∙ sym (one stage.Line line_steady m (t ∷ a) (ap is_plain e)) ∙ q)
header_open _ _ _ (MainHeader {a = a} {b = b} {o = o} {put = put} {xs = xs} e d) n q = imports_open put a b xs d n (ap (λ k. behind (in_line k) a) (sym e) ∙ q)

-- stages in turn
pub behind_both : (s : Stage) (a b : Tokens) → behind s (a ++ b) ≡ behind (behind s a) b
behind_both s [] b = refl
behind_both s (t ∷ a) b = behind_both (over s t) a b

stays_over : (a : Tokens) → behind stage.Over a ≡ stage.Over
stays_over [] = refl
stays_over (t ∷ a) = stays_over a

-- so what is decided by signs is read, with a token behind it, or stops
pub not_cut : (a : Tokens) → behind stage.Line a ≡ stage.Over → header_at a ≡ Err End → ⊥
not_cut a o e =
    let (c, h, d) : Fr IsHeader a = cut_front a e in
    header_open (a ++ c) [] h d refl (behind_both stage.Line a c ∙ ap (λ s. behind s c) o ∙ stays_over c)

pub not_last : (a : Tokens) (h : Header) → behind stage.Line a ≡ stage.Over → header_at a ≡ Ok (h, []) → ⊥
not_last a h o e = header_open a [] h (read a [] h e) refl o
