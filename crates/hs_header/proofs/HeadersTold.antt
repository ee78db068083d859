-- What is told of the reader of headers.
use Rattle.std.proofs.Common.{◌≡◌, ℕ, zero, suc, ◌<◌, ◌≤◌, Bool, true, false, cond, List, [], ◌∷◌, ◌++◌, length, Option, None, refl, ap, sym, subst, ◌∙◌, arith, append_assoc, append-nil}
use Rattle.std.specs.Prelude.{Ok, Err}
use Rattle.hs_syntax.specs.declared.header.Header.{Header}
use Rattle.hs_syntax.specs.declared.header.ExportItem.{ExportItem}
use Rattle.hs_syntax.specs.declared.header.ImportItem.{ImportItem}
use Rattle.hs_syntax.specs.declared.token.Token.{Token}
use Rattle.hs_syntax.specs.declared.sign.Sign.{Sign}
use Rattle.hs_syntax.specs.declared.sign.Sign.TheVariants.{OpenBrace, CloseBrace, Semicolon, Import, Module, Where}
use Rattle.hs_syntax.specs.Signs.{sign_of}
use Rattle.hs_header.specs.declared.expected.Stop.TheVariants.{At}
use Rattle.hs_header.specs.declared.expected.Wanted.TheVariants as wanted
use Rattle.hs_header.specs.Grammar.{header, main_header, IsExports, NoExports, IsImport, EndsImport, IsImports, NoImports, NextPart, LastImport, MoreImports, IsHeader, LineHeader, MainHeader}
use Rattle.hs_header.specs.Readers.{Answer, and_then, made, expected, exports_at, import_at, same_sort, behind_at, behind_by, goes_on, imports_at, imports_by, opening, opening_by, block_at, line_at, main_at, header_within, header_by}
use Rattle.hs_header.proofs.Told.{Tokens, Reader, then, Told, told_then, told_made, told_as, told_one, told_none, told_stop, told_empty, told_over}
use Rattle.hs_header.proofs.Spelled.{Spells, Sp, Be, Tells, Reads, Behind, less_one, less}
use Rattle.hs_header.proofs.Lexemes.{the_where, is_where, the_brace, is_brace}
use Rattle.hs_header.proofs.SubsTold.{IsToken, OneToken, expected_tells, where_by}
use Rattle.hs_header.proofs.PartsTold.{exports_tells, import_tells}

-- Here what follows counts: a text with what is behind it, and a text that begins something at the end of the input.

abbrev pub Wh : {X : Type 0} → (Tokens → Tokens → X → Type 0) → Tokens → Tokens → X → Type 0
Wh P p b x = P (p ++ b) b x

abbrev pub Fr : {X : Type 0} → (Tokens → Tokens → X → Type 0) → Tokens → Type 0
Fr {X} P p = (c : Tokens) × (x : X) × P (p ++ c) [] x

abbrev pub Tells_to : {X : Type 0} → (Tokens → Tokens → X → Type 0) → Reader X → Tokens → Answer X → Type 0
Tells_to P r a o = Told (Wh P) (Fr P) r a o

-- a part, and then what counts with what follows it
module _ {X Y : Type 0} (P : Tokens → Tokens → X → Type 0) (Q : X → Tokens → Tokens → Y → Type 0) (S : Tokens → Tokens → Y → Type 0)
    (joins : (a b c : Tokens) (x : X) (y : Y) → P a b x → Q x b c y → S a c y) (some : (x : X) → Fr (Q x) []) (r : Reader X) (f : X → Reader Y) where
  whole : (p q b : Tokens) (x : X) (y : Y) → Spells P p x → Wh (Q x) q b y → Wh S (p ++ q) b y
  whole p q b x y s u = subst (λ a. S a b y) (sym (append_assoc p q b)) (joins (p ++ (q ++ b)) (q ++ b) b x y (s (q ++ b)) u)

  first : (p : Tokens) → Be P p → Fr S p
  first p (c, x, s) =
      let (d, y, u) : Fr (Q x) [] = some x in
      (c ++ d, y, subst (λ a. S a [] y) (append_assoc p c d) (joins (p ++ c ++ d) d [] x y (s d) u))

  second : (p q b : Tokens) (x : X) → Spells P p x → Fr (Q x) q → Fr S (p ++ q)
  second p q b x s (c, y, u) = (c, y, subst (λ a. S a [] y) (sym (append_assoc p q c)) (joins (p ++ (q ++ c)) (q ++ c) [] x y (s (q ++ c)) u))

  pub then_to : (n : ℕ) (a : Tokens) (o : Answer X) → Tells P r a o → ((x : X) (b : Tokens) → length b ≤ length a → Tells_to (Q x) (f x) b (f x n b)) → Tells_to S (then r f) a (and_then o (λ x b. f x n b))
  then_to n a o u h = told_then (Sp P) (Be P) (λ x. Wh (Q x)) (λ x. Fr (Q x)) (Wh S) (Fr S) r f whole first second n a o u h

module _ {X Y : Type 0} (P : Tokens → Tokens → X → Type 0) (S : Tokens → Tokens → Y → Type 0) (g : X → Y) (makes : (a b : Tokens) (x : X) → P a b x → S a b (g x)) (r : Reader X) where
  pub made_to : (a : Tokens) (o : Answer X) → Tells_to P r a o → Tells_to S (λ m z. made g (r m z)) a (made g o)
  made_to a o u = told_made (Wh P) (Fr P) (Wh S) (Fr S) r g (λ p b x s. makes (p ++ b) b x s) (λ p u. (u.0, g u.1, makes (p ++ u.0) [] u.1 u.2)) a o u

module _ {X : Type 0} (P : Tokens → Tokens → X → Type 0) (r f : Reader X) (t : Token) where
  pub over_to : ((m : ℕ) (z : Tokens) → 0 < m → r m (t ∷ z) ≡ f m z) → (ts : Tokens) (o : Answer X) → Tells_to (Behind t P) f ts o → Tells_to P r (t ∷ ts) o
  over_to e ts o u = told_over (Wh P) (Fr P) r (Wh (Behind t P)) (Fr (Behind t P)) f t (λ m. m) (λ k m l. omega (arith, l)) e (λ p b x s. s) (λ p s. s) ts o u

  pub step_to : ((m : ℕ) (z : Tokens) → 0 < m → r m (t ∷ z) ≡ f (less_one m) z) → (ts : Tokens) (o : Answer X) → Tells_to (Behind t P) f ts o → Tells_to P r (t ∷ ts) o
  step_to e ts o u = told_over (Wh P) (Fr P) r (Wh (Behind t P)) (Fr (Behind t P)) f t less_one less e (λ p b x s. s) (λ p s. s) ts o u

-- Imports

same_by : (p q : Bool) → same_sort p q ≡ true → q ≡ p
same_by true true e = refl
same_by true false e = absurd (cc)
same_by false true e = absurd (cc)
same_by false false e = refl

module _ (put : Bool) where
  abbrev AccImports : List ImportItem → Tokens → Tokens → List ImportItem → Type 0
  AccImports before a b ys = (xs : List ImportItem) × (ys ≡ before ++ xs) × IsImports put a b xs

  abbrev reader : List ImportItem → Reader (List ImportItem)
  reader xs m z = imports_at put m xs z

  -- behind an import
  data IsBehind (xs : List ImportItem) : Tokens → Tokens → List ImportItem → Type 0 where
    Ends : {a : Tokens} → EndsImport put a → IsBehind xs a a xs
    Goes : {a b : Tokens} {m : Token} {ys : List ImportItem} → sign_of m ≡ Semicolon → AccImports xs a b ys → IsBehind xs (m ∷ a) b ys

  imports_begin : (xs : List ImportItem) → Fr (AccImports xs) []
  imports_begin xs = ([], xs ++ [], ([], refl, NoImports tt))

  behind_begins : (xs : List ImportItem) → Fr (IsBehind xs) []
  behind_begins xs = ([], xs, Ends tt)

  abbrev behind_reader : List ImportItem → Reader (List ImportItem)
  behind_reader xs m z = goes_on (imports_at put m) xs z (behind_at put z)

  behind_is : (xs : List ImportItem) (m : ℕ) (t : Token) (z : Tokens) (k : Sign) → sign_of t ≡ k → behind_reader xs m (t ∷ z) ≡ goes_on (imports_at put m) xs (t ∷ z) (behind_by put t z k)
  behind_is xs m t z k e = ap (λ k. goes_on (imports_at put m) xs (t ∷ z) (behind_by put t z k)) e

  closes_if : (xs : List ImportItem) (m : ℕ) (t : Token) (z : Tokens) (b : Bool) → Answer (List ImportItem)
  closes_if xs m t z b = goes_on (imports_at put m) xs (t ∷ z) (cond b (Ok None) (Err (At t.at)))

  behind_close : (n : ℕ) (xs : List ImportItem) (t : Token) (ts : Tokens) (p b : Bool) → sign_of t ≡ CloseBrace p → same_sort put p ≡ b → Tells_to (IsBehind xs) (behind_reader xs) (t ∷ ts) (closes_if xs n t ts b)
  unfolding closes_if
  behind_close n xs t ts p true e f =
      told_none (Wh (IsBehind xs)) (Fr (IsBehind xs)) (behind_reader xs) t ts xs (Ends (e ∙ ap CloseBrace (same_by put p f)))
      (λ m z k. behind_is xs m t z (CloseBrace p) e ∙ ap (λ b. goes_on (imports_at put m) xs (t ∷ z) (cond b (Ok None) (Err (At t.at)))) f)
  behind_close n xs t ts p false e f =
      told_stop (Wh (IsBehind xs)) (Fr (IsBehind xs)) (behind_reader xs) t ts (behind_begins xs)
      (λ m z k. behind_is xs m t z (CloseBrace p) e ∙ ap (λ b. goes_on (imports_at put m) xs (t ∷ z) (cond b (Ok None) (Err (At t.at)))) f)

  behind_goes : (xs : List ImportItem) (t : Token) → sign_of t ≡ Semicolon → (p b : Tokens) (ys : List ImportItem) → Wh (AccImports xs) p b ys → Wh (IsBehind xs) (t ∷ p) b ys
  behind_goes xs t e p b ys d = Goes e d

  behind_kind : (n : ℕ) (xs : List ImportItem) (t : Token) (ts : Tokens) (k : Sign) → sign_of t ≡ k → Tells_to (AccImports xs) (reader xs) ts (imports_at put n xs ts)
      → Tells_to (IsBehind xs) (behind_reader xs) (t ∷ ts) (goes_on (imports_at put n) xs (t ∷ ts) (behind_by put t ts k))
  unfolding closes_if
  behind_kind n xs t ts Semicolon e h =
      told_over (Wh (IsBehind xs)) (Fr (IsBehind xs)) (behind_reader xs) (Wh (AccImports xs)) (Fr (AccImports xs)) (reader xs) t (λ m. m) (λ k m l. omega (arith, l)) (λ m z k. behind_is xs m t z Semicolon e)
      (behind_goes xs t e) (λ p u. (u.0, u.1, Goes e u.2)) ts (imports_at put n xs ts) h
  behind_kind n xs t ts (CloseBrace p) e h = behind_close n xs t ts p (same_sort put p) e refl
  behind_kind n xs t ts _ e h = told_stop (Wh (IsBehind xs)) (Fr (IsBehind xs)) (behind_reader xs) t ts (behind_begins xs) (λ m z k. behind_is xs m t z _ e)

  behind_tells : (n : ℕ) (xs : List ImportItem) (a : Tokens) → ((b : Tokens) → length b < length a → Tells_to (AccImports xs) (reader xs) b (imports_at put n xs b)) → Tells_to (IsBehind xs) (behind_reader xs) a (behind_reader xs n a)
  behind_tells n xs [] h = told_empty (Wh (IsBehind xs)) (Fr (IsBehind xs)) (behind_reader xs) xs (Ends tt)
  behind_tells n xs (t ∷ ts) h = behind_kind n xs t ts (sign_of t) refl (h ts (omega arith))

  import_joins : (xs : List ImportItem) (i : Token) → sign_of i ≡ Import → (a b c : Tokens) (x : ImportItem) (ys : List ImportItem) → IsImport i.at a b x → IsBehind (xs ++ x ∷ []) b c ys → Behind i (AccImports xs) a c ys
  import_joins xs i e _ _ _ x _ d (Ends f) = (x ∷ [], refl, LastImport e d f)
  import_joins xs i e _ _ _ x _ d (Goes f (zs, g, h)) = (x ∷ zs, g ∙ append_assoc xs (x ∷ []) zs, MoreImports e d f h)

  imports_is : (xs : List ImportItem) (m : ℕ) (t : Token) (z : Tokens) (k : Sign) → sign_of t ≡ k → 0 < m → imports_at put m xs (t ∷ z) ≡ imports_by put (less_one m) (imports_at put (less_one m)) xs t z k
  unfolding imports_at
  imports_is xs zero t z k e l = absurd (omega arith)
  imports_is xs (suc m) t z k e l = ap (imports_by put m (imports_at put m) xs t z) e

  no_imports : (xs : List ImportItem) (t : Token) (ts : Tokens) → (sign_of t ≡ Import → ⊥) → (sign_of t ≡ Semicolon → ⊥) → Wh (AccImports xs) [] (t ∷ ts) xs
  no_imports xs t ts e f = ([], sym (append-nil xs), NoImports (e, f))

  module _ (n : ℕ) (on : (xs : List ImportItem) (a : Tokens) → length a < n → Tells_to (AccImports xs) (reader xs) a (imports_at put n xs a)) where
    imports_kind : (xs : List ImportItem) (t : Token) (ts : Tokens) (k : Sign) → sign_of t ≡ k → length ts < n → Tells_to (AccImports xs) (reader xs) (t ∷ ts) (imports_by put n (imports_at put n) xs t ts k)
    imports_kind xs t ts Import e l =
        step_to (AccImports xs) (reader xs) (then (λ m z. import_at m t.at z) (λ x. behind_reader (xs ++ x ∷ []))) t (λ m z k. imports_is xs m t z Import e k) ts (imports_by put n (imports_at put n) xs t ts Import)
        (then_to (IsImport t.at) (λ x. IsBehind (xs ++ x ∷ [])) (Behind t (AccImports xs)) (import_joins xs t e) (λ x. behind_begins (xs ++ x ∷ [])) (λ m z. import_at m t.at z) (λ x. behind_reader (xs ++ x ∷ [])) n ts (import_at n t.at ts) (import_tells t.at n ts l)
        (λ x b k. behind_tells n (xs ++ x ∷ []) b (λ c j. on (xs ++ x ∷ []) c (omega (arith, j, k, l)))))
    imports_kind xs t ts Semicolon e l =
        told_over (Wh (AccImports xs)) (Fr (AccImports xs)) (reader xs) (Wh (AccImports xs)) (Fr (AccImports xs)) (reader xs) t less_one less (λ m z k. imports_is xs m t z Semicolon e k)
        (λ p b ys u. (u.0, u.1, NextPart e u.2)) (λ p u. (u.0, u.1, (u.2.0, u.2.1, NextPart e u.2.2))) ts (imports_at put n xs ts) (on xs ts l)
    imports_kind xs t ts _ e l =
        told_none (Wh (AccImports xs)) (Fr (AccImports xs)) (reader xs) t ts xs (no_imports xs t ts (λ f. cc) (λ f. cc)) (λ m z k. imports_is xs m t z _ e k)

  pub imports_tell : (n : ℕ) (xs : List ImportItem) (a : Tokens) → length a < n → Tells_to (AccImports xs) (reader xs) a (imports_at put n xs a)
  unfolding imports_at
  imports_tell zero xs a l = absurd (omega arith)
  imports_tell (suc n) xs [] l = told_empty (Wh (AccImports xs)) (Fr (AccImports xs)) (reader xs) xs ([], sym (append-nil xs), NoImports tt)
  imports_tell (suc n) xs (t ∷ ts) l = imports_kind n (imports_tell n) xs t ts (sign_of t) refl (omega (arith, l))

  from_none : (a b : Tokens) (ys : List ImportItem) → AccImports [] a b ys → IsImports put a b ys
  from_none a b ys (xs, e, d) = subst (λ l. IsImports put a b l) (sym e) d

  pub all_imports : (n : ℕ) (a : Tokens) → length a < n → Tells_to (IsImports put) (reader []) a (imports_at put n [] a)
  all_imports n a l =
      told_as (Wh (AccImports [])) (Fr (AccImports [])) (Wh (IsImports put)) (Fr (IsImports put)) (reader []) (λ p b ys u. from_none (p ++ b) b ys u) (λ p u. (u.0, u.1, from_none (p ++ u.0) [] u.1 u.2)) a (imports_at put n [] a) (imports_tell n [] a l)

  pub no_more : Fr (IsImports put) []
  no_more = ([], [], NoImports tt)

-- The block

pub data IsOpening : Tokens → Tokens → Bool → Type 0 where
  Opening : {a : Tokens} {o : Token} {put : Bool} → sign_of o ≡ OpenBrace put → IsOpening (o ∷ a) a put

abbrev opening_reader : Reader Bool
opening_reader m z = opening z

opening_is : (t : Token) (z : Tokens) (k : Sign) → sign_of t ≡ k → opening (t ∷ z) ≡ opening_by t z k
unfolding opening
opening_is t z k e = ap (opening_by t z) e

opening_begins : Be IsOpening []
opening_begins = (the_brace ∷ [], false, λ z. Opening is_brace)

opening_kind : (t : Token) (ts : Tokens) (k : Sign) → sign_of t ≡ k → Tells IsOpening opening_reader (t ∷ ts) (opening_by t ts k)
opening_kind t ts (OpenBrace put) e = told_one (Sp IsOpening) (Be IsOpening) opening_reader t ts put (λ z. Opening e) (λ m z k. opening_is t z (OpenBrace put) e)
opening_kind t ts _ e = told_stop (Sp IsOpening) (Be IsOpening) opening_reader t ts opening_begins (λ m z k. opening_is t z _ e)

opening_tells : Reads IsOpening opening_reader
unfolding opening
opening_tells n [] l = opening_begins
opening_tells n (t ∷ ts) l = opening_kind t ts (sign_of t) refl

-- from the opening brace on, and from `where` on
pub data IsOpened : Tokens → Tokens → List ImportItem → Type 0 where
  Opened : {a b : Tokens} {o : Token} {put : Bool} {xs : List ImportItem} → sign_of o ≡ OpenBrace put → IsImports put a b xs → IsOpened (o ∷ a) b xs

pub data IsBlock : Tokens → Tokens → List ImportItem → Type 0 where
  OneBlock : {a b : Tokens} {w o : Token} {put : Bool} {xs : List ImportItem} → sign_of w ≡ Where → sign_of o ≡ OpenBrace put → IsImports put a b xs → IsBlock (w ∷ o ∷ a) b xs

opened_joins : (a b c : Tokens) (put : Bool) (xs : List ImportItem) → IsOpening a b put → IsImports put b c xs → IsOpened a c xs
opened_joins _ _ _ _ _ (Opening e) d = Opened e d

abbrev opened_reader : Reader (List ImportItem)
opened_reader m z = and_then (opening z) (λ put c. imports_at put m [] c)

opened_tells : (n : ℕ) (a : Tokens) → length a < n → Tells_to IsOpened opened_reader a (opened_reader n a)
opened_tells n a l =
    then_to IsOpening IsImports IsOpened opened_joins no_more opening_reader (λ put m z. imports_at put m [] z) n a (opening a) (opening_tells n a l)
    (λ put b k. all_imports put n b (omega (arith, k, l)))

opened_begins : Fr IsOpened []
opened_begins = (the_brace ∷ [], [], Opened is_brace (NoImports tt))

block_joins : (a b c : Tokens) (w : Token) (xs : List ImportItem) → IsToken wanted.Where a b w → IsOpened b c xs → IsBlock a c xs
block_joins _ _ _ _ _ (OneToken {t = w} e) (Opened f d) = OneBlock (where_by (sign_of w) e) f d

block_tells : (n : ℕ) (a : Tokens) → length a < n → Tells_to IsBlock block_at a (block_at n a)
unfolding block_at
block_tells n a l =
    then_to (IsToken wanted.Where) (λ w. IsOpened) IsBlock block_joins (λ w. opened_begins) (λ m z. expected wanted.Where z) (λ w. opened_reader) n a (expected wanted.Where a) (expected_tells wanted.Where n a l)
    (λ w b k. opened_tells n b (omega (arith, k, l)))

block_begins : Fr IsBlock []
block_begins = (the_where ∷ the_brace ∷ [], [], OneBlock is_where is_brace (NoImports tt))

-- Headers

-- behind the module's name
pub data IsLine (t : Token) : Tokens → Tokens → Header → Type 0 where
  OneLine : {a b c : Tokens} {es : Option (List ExportItem)} {xs : List ImportItem} → IsExports a b es → IsBlock b c xs → IsLine t a c (header t es xs)

pub data IsHead (t : Token) (es : Option (List ExportItem)) : Tokens → Tokens → Header → Type 0 where
  OneHead : {a b : Tokens} {xs : List ImportItem} → IsBlock a b xs → IsHead t es a b (header t es xs)

line_joins : (t : Token) (a b c : Tokens) (es : Option (List ExportItem)) (h : Header) → IsExports a b es → IsHead t es b c h → IsLine t a c h
line_joins t _ _ _ _ _ d (OneHead e) = OneLine d e

head_begins : (t : Token) (es : Option (List ExportItem)) → Fr (IsHead t es) []
head_begins t es = (the_where ∷ the_brace ∷ [], header t es [], OneHead (OneBlock is_where is_brace (NoImports tt)))

abbrev head_reader : Token → Option (List ExportItem) → Reader Header
head_reader t es m z = made (λ xs. header t es xs) (block_at m z)

abbrev exported_reader : Token → Reader Header
exported_reader t m z = and_then (exports_at m z) (λ es c. made (λ xs. header t es xs) (block_at m c))

exported_tells : (t : Token) (n : ℕ) (a : Tokens) → length a < n → Tells_to (IsLine t) (exported_reader t) a (exported_reader t n a)
exported_tells t n a l =
    then_to IsExports (IsHead t) (IsLine t) (line_joins t) (head_begins t) exports_at (head_reader t) n a (exports_at n a) (exports_tells n a l)
    (λ es b k. made_to IsBlock (IsHead t es) (λ xs. header t es xs) (λ a b xs d. OneHead d) block_at b (block_at n b) (block_tells n b (omega (arith, k, l))))

line_begins : (t : Token) → Fr (IsLine t) []
line_begins t = (the_where ∷ the_brace ∷ [], header t None [], OneLine NoExports (OneBlock is_where is_brace (NoImports tt)))

module_joins : (m : Token) → sign_of m ≡ Module → (a b c : Tokens) (t : Token) (h : Header) → IsToken wanted.ModId a b t → IsLine t b c h → Behind m IsHeader a c h
module_joins m e _ _ _ _ _ (OneToken f) (OneLine d (OneBlock g i j)) = LineHeader e f d g i j

line_tells : (m : Token) → sign_of m ≡ Module → (n : ℕ) (a : Tokens) → length a < n → Tells_to (Behind m IsHeader) line_at a (line_at n a)
unfolding line_at
line_tells m e n a l =
    then_to (IsToken wanted.ModId) IsLine (Behind m IsHeader) (module_joins m e) line_begins (λ m z. expected wanted.ModId z) exported_reader n a (expected wanted.ModId a) (expected_tells wanted.ModId n a l)
    (λ t b k. exported_tells t n b (omega (arith, k, l)))

header_begins : Fr IsHeader []
header_begins = (the_brace ∷ [], main_header [], MainHeader is_brace (NoImports tt))

header_is : (m : ℕ) (t : Token) (z : Tokens) (k : Sign) → sign_of t ≡ k → header_within m (t ∷ z) ≡ header_by m t z k
unfolding header_within
header_is m t z k e = ap (header_by m t z) e

header_kind : (n : ℕ) (t : Token) (ts : Tokens) (k : Sign) → sign_of t ≡ k → length ts < n → Tells_to IsHeader header_within (t ∷ ts) (header_by n t ts k)
header_kind n t ts Module e l = over_to IsHeader header_within line_at t (λ m z k. header_is m t z Module e) ts (line_at n ts) (line_tells t e n ts l)
header_kind n t ts (OpenBrace put) e l =
    over_to IsHeader header_within (λ m z. main_at m put z) t (λ m z k. header_is m t z (OpenBrace put) e) ts (main_at n put ts)
    (made_to (IsImports put) (Behind t IsHeader) main_header (λ a b xs d. MainHeader e d) (λ m z. imports_at put m [] z) ts (imports_at put n [] ts) (all_imports put n ts l))
header_kind n t ts _ e l = told_stop (Wh IsHeader) (Fr IsHeader) header_within t ts header_begins (λ m z k. header_is m t z _ e)

pub header_tells : (n : ℕ) (a : Tokens) → length a < n → Tells_to IsHeader header_within a (header_within n a)
unfolding header_within
header_tells n [] l = header_begins
header_tells n (t ∷ ts) l = header_kind n t ts (sign_of t) refl (omega (arith, l))
