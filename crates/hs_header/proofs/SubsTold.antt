-- What is told of the readers of single tokens, and of the parts of a type or class.
use Rattle.std.proofs.Common.{◌≡◌, ℕ, zero, suc, ◌<◌, Bool, true, false, cond, List, [], ◌∷◌, ◌++◌, length, Some, None, refl, ap, sym, subst, ◌∙◌, arith, append_assoc, append-nil}
use Rattle.std.specs.Prelude.{Ok, Err}
use Rattle.hs_syntax.specs.declared.header.SubTree.{SubTree}
use Rattle.hs_syntax.specs.declared.header.SubTree.TheVariants as sub
use Rattle.hs_syntax.specs.declared.header.Subs.TheVariants as subs
use Rattle.hs_syntax.specs.declared.token.Token.{Token}
use Rattle.hs_syntax.specs.declared.sign.Sign.{Sign}
use Rattle.hs_syntax.specs.declared.sign.Sign.TheVariants.{Var, Con, ConSym, OpenParen, CloseParen, Comma, Where, Dots}
use Rattle.hs_syntax.specs.Signs.{sign_of}
use Rattle.hs_syntax.specs.Names.{name_ref}
use Rattle.hs_header.specs.declared.expected.Stop.TheVariants.{At}
use Rattle.hs_header.specs.declared.expected.Wanted.{Wanted}
use Rattle.hs_header.specs.declared.expected.Wanted.TheVariants as wanted
use Rattle.hs_header.specs.Grammar.{is_varsym, IsSub, VarSub, ConSub, VarSymSub, ConSymSub, IsMoreSubs, LastSub, NextSub, IsSubs, AllSubs, NoSubs, SomeSubs, IsTold, NothingTold, SubsTold}
use Rattle.hs_header.specs.Readers.{and_then, made, fits, is_symbol, is_open_paren, is_close_paren, is_where, expected, enclosed, sub_named, sub_at, sub_by, more_subs, more_subs_by, some_subs, subs_at, subs_by, told_at, told_by}
use Rattle.hs_header.proofs.Told.{Tokens, Reader, then, told_one, told_none, told_stop, told_empty}
use Rattle.hs_header.proofs.Spelled.{Spells, Sp, Be, Tells, Reads, Behind, Acc, then_tells, made_tells, from_tells, over_tells, less_one, step_tells}
use Rattle.hs_header.proofs.Lexemes.{the_close, is_close, the_paren, is_paren, the_where, the_con, is_con, the_symbol}
use Rattle.hs_header.proofs.Lexemes as some

-- One token

pub data IsToken (w : Wanted) : Tokens → Tokens → Token → Type 0 where
  OneToken : {a : Tokens} {t : Token} → fits w (sign_of t) ≡ true → IsToken w (t ∷ a) a t

some_token : (w : Wanted) → (t : Token) × (fits w (sign_of t) ≡ true)
some_token wanted.OpenParen = (the_paren, ap is_open_paren is_paren)
some_token wanted.CloseParen = (the_close, ap is_close_paren is_close)
some_token wanted.Where = (the_where, ap is_where some.is_where)
some_token wanted.ModId = (the_con, ap (fits wanted.ModId) is_con)
some_token wanted.VarSym = (the_symbol, ap (fits wanted.VarSym) some.is_symbol)
some_token wanted.QualifiedVarSym = (the_symbol, ap (fits wanted.QualifiedVarSym) some.is_symbol)
some_token wanted.Symbol = (the_symbol, ap (fits wanted.Symbol) some.is_symbol)

pub token_begins : (w : Wanted) → Be (IsToken w) []
token_begins w = let (t, e) : (t : Token) × (fits w (sign_of t) ≡ true) = some_token w in (t ∷ [], t, λ z. OneToken e)

expected_if : (w : Wanted) (t : Token) (ts : Tokens) (b : Bool) → fits w (sign_of t) ≡ b → Tells (IsToken w) (λ m z. expected w z) (t ∷ ts) (cond b (Ok (t, ts)) (Err (At t.at)))
expected_if w t ts true e = told_one (Sp (IsToken w)) (Be (IsToken w)) (λ m z. expected w z) t ts t (λ z. OneToken e) (λ m z l. ap (λ b. cond b (Ok (t, z)) (Err (At t.at))) e)
expected_if w t ts false e = told_stop (Sp (IsToken w)) (Be (IsToken w)) (λ m z. expected w z) t ts (token_begins w) (λ m z l. ap (λ b. cond b (Ok (t, z)) (Err (At t.at))) e)

pub expected_tells : (w : Wanted) → Reads (IsToken w) (λ m z. expected w z)
expected_tells w n [] l = token_begins w
expected_tells w n (t ∷ ts) l = expected_if w t ts (fits w (sign_of t)) refl

pub close_by : (s : Sign) → is_close_paren s ≡ true → s ≡ CloseParen
close_by CloseParen e = refl
close_by _ e = absurd (cc)

pub paren_by : (s : Sign) → is_open_paren s ≡ true → s ≡ OpenParen
paren_by OpenParen e = refl
paren_by _ e = absurd (cc)

pub where_by : (s : Sign) → is_where s ≡ true → s ≡ Where
where_by Where e = refl
where_by _ e = absurd (cc)

-- an operator, and the closing parenthesis
pub data IsEnclosed (w : Wanted) : Tokens → Tokens → Token → Type 0 where
  Enclosed : {a : Tokens} {t c : Token} → fits w (sign_of t) ≡ true → sign_of c ≡ CloseParen → IsEnclosed w (t ∷ c ∷ a) a t

pub data IsClosed (t : Token) : Tokens → Tokens → Token → Type 0 where
  Closed : {a : Tokens} {c : Token} → sign_of c ≡ CloseParen → IsClosed t (c ∷ a) a t

closes : (t : Token) (a b : Tokens) (c : Token) → IsToken wanted.CloseParen a b c → IsClosed t a b t
closes t _ _ _ (OneToken {t = c} e) = Closed (close_by (sign_of c) e)

encloses : (w : Wanted) (a b c : Tokens) (t u : Token) → IsToken w a b t → IsClosed t b c u → IsEnclosed w a c u
encloses w _ _ _ _ _ (OneToken e) (Closed f) = Enclosed e f

closed_begins : (t : Token) → Be (IsClosed t) []
closed_begins t = (the_close ∷ [], t, λ z. Closed is_close)

pub enclosed_tells : (w : Wanted) → Reads (IsEnclosed w) (λ m z. enclosed w z)
enclosed_tells w n a l =
    then_tells (IsToken w) IsClosed (IsEnclosed w) (encloses w) closed_begins (λ m z. expected w z) (λ t m z. made (λ c. t) (expected wanted.CloseParen z)) n a (expected w a) (expected_tells w n a l)
    (λ t b k. made_tells (IsToken wanted.CloseParen) (IsClosed t) (λ c. t) (λ a b c. closes t a b c) (λ m z. expected wanted.CloseParen z) b (expected wanted.CloseParen b) (expected_tells wanted.CloseParen n b (omega (arith, k, l))))

-- Parts

sub_begins : Be IsSub []
sub_begins = (the_con ∷ [], sub.Con the_con.at (name_ref the_con), λ z. ConSub is_con)

symbol_sub : (o t c : Token) (a : Tokens) (k : Sign) → sign_of o ≡ OpenParen → sign_of t ≡ k → is_symbol k ≡ true → sign_of c ≡ CloseParen → IsSub (o ∷ t ∷ c ∷ a) a (sub_named o.at t k)
symbol_sub o t c a ConSym e f h g = ConSymSub e f g
symbol_sub o t c a _ e f h g = VarSymSub e (ap is_varsym f ∙ h) g

enclosed_sub : (o : Token) → sign_of o ≡ OpenParen → (a b : Tokens) (t : Token) → IsEnclosed wanted.Symbol a b t → Behind o IsSub a b (sub_named o.at t (sign_of t))
enclosed_sub o e _ _ _ (Enclosed {a = a} {t = t} {c = c} f g) = symbol_sub o t c a (sign_of t) e refl f g

abbrev subs_reader : Reader SubTree
subs_reader m z = sub_at z

sub_is : (t : Token) (z : Tokens) (k : Sign) → sign_of t ≡ k → sub_at (t ∷ z) ≡ sub_by t z k
unfolding sub_at
sub_is t z k e = ap (sub_by t z) e

sub_kind : (n : ℕ) (t : Token) (ts : Tokens) (k : Sign) → sign_of t ≡ k → length ts < n → Tells IsSub subs_reader (t ∷ ts) (sub_by t ts k)
sub_kind n t ts Var e l = told_one (Sp IsSub) (Be IsSub) subs_reader t ts (sub.Var t.at (name_ref t)) (λ z. VarSub e) (λ m z k. sub_is t z Var e)
sub_kind n t ts Con e l = told_one (Sp IsSub) (Be IsSub) subs_reader t ts (sub.Con t.at (name_ref t)) (λ z. ConSub e) (λ m z k. sub_is t z Con e)
sub_kind n t ts OpenParen e l =
    over_tells IsSub subs_reader (λ m z. made (λ u. sub_named t.at u (sign_of u)) (enclosed wanted.Symbol z)) t (λ m z k. sub_is t z OpenParen e) ts (sub_by t ts OpenParen)
    (made_tells (IsEnclosed wanted.Symbol) (Behind t IsSub) (λ u. sub_named t.at u (sign_of u)) (enclosed_sub t e) (λ m z. enclosed wanted.Symbol z) ts (enclosed wanted.Symbol ts) (enclosed_tells wanted.Symbol n ts l))
sub_kind n t ts _ e l = told_stop (Sp IsSub) (Be IsSub) subs_reader t ts sub_begins (λ m z k. sub_is t z _ e)

pub sub_tells : Reads IsSub subs_reader
unfolding sub_at
sub_tells n [] l = sub_begins
sub_tells n (t ∷ ts) l = sub_kind n t ts (sign_of t) refl (omega (arith, l))

-- Further parts

abbrev AccSubs : List SubTree → Tokens → Tokens → List SubTree → Type 0
AccSubs xs = Acc xs IsMoreSubs

more_begins : (xs : List SubTree) → Be (AccSubs xs) []
more_begins xs = (the_close ∷ [], xs ++ [], λ z. ([], refl, LastSub is_close))

last_sub : (xs : List SubTree) (t : Token) → sign_of t ≡ CloseParen → Spells (AccSubs xs) (t ∷ []) xs
last_sub xs t e = λ z. ([], sym (append-nil xs), LastSub e)

next_sub : (xs : List SubTree) (t : Token) → sign_of t ≡ Comma → (a b c : Tokens) (x : SubTree) (ys : List SubTree) → IsSub a b x → AccSubs (xs ++ x ∷ []) b c ys → Behind t (AccSubs xs) a c ys
next_sub xs t e a b c x ys d (zs, f, g) = (x ∷ zs, f ∙ append_assoc xs (x ∷ []) zs, NextSub e d g)

more_is : (xs : List SubTree) (m : ℕ) (t : Token) (z : Tokens) (k : Sign) → sign_of t ≡ k → 0 < m → more_subs m xs (t ∷ z) ≡ more_subs_by (more_subs (less_one m)) xs t z k
unfolding more_subs
more_is xs zero t z k e l = absurd (omega arith)
more_is xs (suc m) t z k e l = ap (more_subs_by (more_subs m) xs t z) e

module _ (n : ℕ) (on : (xs : List SubTree) (a : Tokens) → length a < n → Tells (AccSubs xs) (λ m z. more_subs m xs z) a (more_subs n xs a)) where
  more_kind : (xs : List SubTree) (t : Token) (ts : Tokens) (k : Sign) → sign_of t ≡ k → length ts < n → Tells (AccSubs xs) (λ m z. more_subs m xs z) (t ∷ ts) (more_subs_by (more_subs n) xs t ts k)
  more_kind xs t ts CloseParen e l = told_one (Sp (AccSubs xs)) (Be (AccSubs xs)) (λ m z. more_subs m xs z) t ts xs (last_sub xs t e) (λ m z k. more_is xs m t z CloseParen e k)
  more_kind xs t ts Comma e l =
      step_tells (AccSubs xs) (λ m z. more_subs m xs z) (then subs_reader (λ x m z. more_subs m (xs ++ x ∷ []) z)) t (λ m z k. more_is xs m t z Comma e k) ts (more_subs_by (more_subs n) xs t ts Comma)
      (then_tells IsSub (λ x. AccSubs (xs ++ x ∷ [])) (Behind t (AccSubs xs)) (next_sub xs t e) (λ x. more_begins (xs ++ x ∷ [])) subs_reader (λ x m z. more_subs m (xs ++ x ∷ []) z) n ts (sub_at ts) (sub_tells n ts l)
      (λ x b k. on (xs ++ x ∷ []) b (omega (arith, k, l))))
  more_kind xs t ts _ e l = told_stop (Sp (AccSubs xs)) (Be (AccSubs xs)) (λ m z. more_subs m xs z) t ts (more_begins xs) (λ m z k. more_is xs m t z _ e k)

pub more_subs_tells : (n : ℕ) (xs : List SubTree) (a : Tokens) → length a < n → Tells (AccSubs xs) (λ m z. more_subs m xs z) a (more_subs n xs a)
unfolding more_subs
more_subs_tells zero xs a l = absurd (omega arith)
more_subs_tells (suc n) xs [] l = more_begins xs
more_subs_tells (suc n) xs (t ∷ ts) l = more_kind n (more_subs_tells n) xs t ts (sign_of t) refl (omega (arith, l))

-- All parts

abbrev Listed : Tokens → Tokens → List SubTree → Type 0
Listed a b xs = IsSubs a b (subs.Listed xs)

some_joins : (a b c : Tokens) (x : SubTree) (ys : List SubTree) → IsSub a b x → AccSubs (x ∷ []) b c ys → Listed a c ys
some_joins a b c x ys d (zs, f, g) = subst (λ ys. IsSubs a c (subs.Listed ys)) (sym f) (SomeSubs d g)

some_subs_tells : Reads IsSubs some_subs
some_subs_tells n a l =
    made_tells Listed IsSubs subs.Listed (λ a b xs d. d) (then subs_reader (λ x m z. more_subs m (x ∷ []) z)) a (and_then (sub_at a) (λ x b. more_subs n (x ∷ []) b))
    (then_tells IsSub (λ x. AccSubs (x ∷ [])) Listed some_joins (λ x. more_begins (x ∷ [])) subs_reader (λ x m z. more_subs m (x ∷ []) z) n a (sub_at a) (sub_tells n a l)
    (λ x b k. more_subs_tells n (x ∷ []) b (omega (arith, k, l))))

subs_begins : Be IsSubs []
subs_begins = (the_close ∷ [], subs.Listed [], λ z. NoSubs is_close)

all_subs : (t : Token) → sign_of t ≡ Dots → (a b : Tokens) (c : Token) → IsToken wanted.CloseParen a b c → Behind t IsSubs a b subs.All
all_subs t e _ _ _ (OneToken {t = c} f) = AllSubs e (close_by (sign_of c) f)

subs_is : (m : ℕ) (t : Token) (z : Tokens) (k : Sign) → sign_of t ≡ k → subs_at m (t ∷ z) ≡ subs_by m t z k
unfolding subs_at
subs_is m t z k e = ap (subs_by m t z) e

subs_kind : (n : ℕ) (t : Token) (ts : Tokens) (k : Sign) → sign_of t ≡ k → length (t ∷ ts) < n → Tells IsSubs subs_at (t ∷ ts) (subs_by n t ts k)
subs_kind n t ts CloseParen e l = told_one (Sp IsSubs) (Be IsSubs) subs_at t ts (subs.Listed []) (λ z. NoSubs e) (λ m z k. subs_is m t z CloseParen e)
subs_kind n t ts Dots e l =
    over_tells IsSubs subs_at (λ m z. made (λ c. subs.All) (expected wanted.CloseParen z)) t (λ m z k. subs_is m t z Dots e) ts (subs_by n t ts Dots)
    (made_tells (IsToken wanted.CloseParen) (Behind t IsSubs) (λ c. subs.All) (all_subs t e) (λ m z. expected wanted.CloseParen z) ts (expected wanted.CloseParen ts) (expected_tells wanted.CloseParen n ts (omega (arith, l))))
subs_kind n t ts _ e l = from_tells IsSubs IsSubs (λ a b x d. d) subs_at some_subs t (λ m z k. subs_is m t z _ e) ts (some_subs n (t ∷ ts)) (some_subs_tells n (t ∷ ts) l)

subs_tells : Reads IsSubs subs_at
unfolding subs_at
subs_tells n [] l = subs_begins
subs_tells n (t ∷ ts) l = subs_kind n t ts (sign_of t) refl l

-- What is told

told_is : (m : ℕ) (t : Token) (z : Tokens) (k : Sign) → sign_of t ≡ k → told_at m (t ∷ z) ≡ told_by m t z k
unfolding told_at
told_is m t z k e = ap (told_by m t z) e

told_kind : (n : ℕ) (t : Token) (ts : Tokens) (k : Sign) → sign_of t ≡ k → length (t ∷ ts) < n → Tells IsTold told_at (t ∷ ts) (told_by n t ts k)
told_kind n t ts OpenParen e l =
    over_tells IsTold told_at (λ m z. made Some (subs_at m z)) t (λ m z k. told_is m t z OpenParen e) ts (told_by n t ts OpenParen)
    (made_tells IsSubs (Behind t IsTold) Some (λ a b x d. SubsTold e d) subs_at ts (subs_at n ts) (subs_tells n ts (omega (arith, l))))
told_kind n t ts _ e l = told_none (Sp IsTold) (Be IsTold) told_at t ts None (λ z. NothingTold) (λ m z k. told_is m t z _ e)

pub told_begins : Be IsTold []
told_begins = ([], None, λ z. NothingTold)

pub told_tells : Reads IsTold told_at
unfolding told_at
told_tells n [] l = told_empty (Sp IsTold) (Be IsTold) told_at None (λ z. NothingTold)
told_tells n (t ∷ ts) l = told_kind n t ts (sign_of t) refl l
