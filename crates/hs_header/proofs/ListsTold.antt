-- What is told of the readers of lists in which a last comma is allowed.
use Rattle.std.proofs.Common.{◌≡◌, ℕ, zero, suc, ◌<◌, List, [], ◌∷◌, ◌++◌, length, Option, Some, None, refl, ap, sym, subst, ◌∙◌, arith, append_assoc, append-nil}
use Rattle.std.specs.Prelude.{Ok}
use Rattle.hs_syntax.specs.declared.token.Token.{Token}
use Rattle.hs_syntax.specs.declared.sign.Sign.{Sign}
use Rattle.hs_syntax.specs.declared.sign.Sign.TheVariants.{CloseParen, Comma}
use Rattle.hs_syntax.specs.Signs.{sign_of}
use Rattle.hs_header.specs.declared.expected.Wanted.TheVariants as wanted
use Rattle.hs_header.specs.Grammar.{IsMore, LastOne, LastComma, NextOne, IsListing, EmptyListing, LoneComma, SomeListing}
use Rattle.hs_header.specs.Readers.{made, expected, next_at, next_by, with_next, more, more_by, some_listed, listing, listing_by}
use Rattle.hs_header.proofs.Told.{Tokens, Reader, then, told_one, told_none, told_stop, told_empty}
use Rattle.hs_header.proofs.Spelled.{Sp, Be, Tells, Reads, Behind, Acc, then_tells, made_tells, as_tells, from_tells, over_tells, less_one, step_tells}
use Rattle.hs_header.proofs.Lexemes.{the_close, is_close}
use Rattle.hs_header.proofs.SubsTold.{IsToken, OneToken, expected_tells, close_by}

-- behind a comma: a further one, or the end of the list
pub data IsNext (X : Type 0) (IsOne : Tokens → Tokens → X → Type 0) : Tokens → Tokens → Option X → Type 0 where
  NoNext : {a : Tokens} {c : Token} → sign_of c ≡ CloseParen → IsNext X IsOne (c ∷ a) a None
  OneNext : {a b : Tokens} {x : X} → IsOne a b x → IsNext X IsOne a b (Some x)

module _ {X : Type 0} (IsOne : Tokens → Tokens → X → Type 0) (one : Reader X) (one_tells : Reads IsOne one) (one_begins : Be IsOne []) where
  abbrev Nexts : Tokens → Tokens → Option X → Type 0
  Nexts = IsNext X IsOne

  abbrev AccMore : List X → Tokens → Tokens → List X → Type 0
  AccMore xs = Acc xs (IsMore X IsOne)

  next_is : (m : ℕ) (t : Token) (z : Tokens) (k : Sign) → sign_of t ≡ k → next_at one m (t ∷ z) ≡ next_by one m t z k
  next_is m t z k e = ap (next_by one m t z) e

  next_kind : (n : ℕ) (t : Token) (ts : Tokens) (k : Sign) → sign_of t ≡ k → length (t ∷ ts) < n → Tells Nexts (next_at one) (t ∷ ts) (next_by one n t ts k)
  next_kind n t ts CloseParen e l = told_one (Sp Nexts) (Be Nexts) (next_at one) t ts None (λ z. NoNext e) (λ m z k. next_is m t z CloseParen e)
  next_kind n t ts _ e l =
      from_tells Nexts Nexts (λ a b x d. d) (next_at one) (λ m z. made Some (one m z)) t (λ m z k. next_is m t z _ e) ts (made Some (one n (t ∷ ts)))
      (made_tells IsOne Nexts Some (λ a b x d. OneNext d) one (t ∷ ts) (one n (t ∷ ts)) (one_tells n (t ∷ ts) l))

  next_tells : Reads Nexts (next_at one)
  next_tells n [] l = (the_close ∷ [], None, λ z. NoNext is_close)
  next_tells n (t ∷ ts) l = next_kind n t ts (sign_of t) refl l

  -- what follows: nothing more behind the end of the list
  data IsRest (xs : List X) : Option X → Tokens → Tokens → List X → Type 0 where
    NoRest : {a : Tokens} → IsRest xs None a a xs
    MoreRest : {a b : Tokens} {x : X} {ys : List X} → AccMore (xs ++ x ∷ []) a b ys → IsRest xs (Some x) a b ys

  more_begins : (xs : List X) → Be (AccMore xs) []
  more_begins xs = (the_close ∷ [], xs ++ [], λ z. ([], refl, LastOne is_close))

  rest_begins : (xs : List X) (o : Option X) → Be (IsRest xs o) []
  rest_begins xs None = ([], xs, λ z. NoRest)
  rest_begins xs (Some x) = let (c, ys, s) : Be (AccMore (xs ++ x ∷ [])) [] = more_begins (xs ++ x ∷ []) in (c, ys, λ z. MoreRest (s z))

  none_first : (xs : List X) (b : Tokens) → Tells (IsRest xs None) (λ m z. Ok (xs, z)) b (Ok (xs, b))
  none_first xs [] = told_empty (Sp (IsRest xs None)) (Be (IsRest xs None)) (λ m z. Ok (xs, z)) xs (λ z. NoRest)
  none_first xs (t ∷ ts) = told_none (Sp (IsRest xs None)) (Be (IsRest xs None)) (λ m z. Ok (xs, z)) t ts xs (λ z. NoRest) (λ m z k. refl)

  rest_tells : (n : ℕ) (xs : List X) (b : Tokens) → ((x : X) → Tells (AccMore (xs ++ x ∷ [])) (λ m z. more one m (xs ++ x ∷ []) z) b (more one n (xs ++ x ∷ []) b))
      → (o : Option X) → Tells (IsRest xs o) (λ m z. with_next (more one m) xs o z) b (with_next (more one n) xs o b)
  rest_tells n xs b h None = none_first xs b
  rest_tells n xs b h (Some x) = as_tells (AccMore (xs ++ x ∷ [])) (IsRest xs (Some x)) (λ a b ys d. MoreRest d) (λ m z. more one m (xs ++ x ∷ []) z) b (more one n (xs ++ x ∷ []) b) (h x)

  rest_joins : (xs : List X) (t : Token) → sign_of t ≡ Comma → (a b c : Tokens) (o : Option X) (ys : List X) → Nexts a b o → IsRest xs o b c ys → Behind t (AccMore xs) a c ys
  rest_joins xs t e _ _ _ _ _ (NoNext f) NoRest = ([], sym (append-nil xs), LastComma e f)
  rest_joins xs t e _ _ _ _ _ (OneNext {x = x} d) (MoreRest (zs, f, g)) = (x ∷ zs, f ∙ append_assoc xs (x ∷ []) zs, NextOne e d g)

  more_is : (xs : List X) (m : ℕ) (t : Token) (z : Tokens) (k : Sign) → sign_of t ≡ k → 0 < m → more one m xs (t ∷ z) ≡ more_by one (less_one m) (more one (less_one m)) xs t z k
  unfolding more
  more_is xs zero t z k e l = absurd (omega arith)
  more_is xs (suc m) t z k e l = ap (more_by one m (more one m) xs t z) e

  module _ (n : ℕ) (on : (xs : List X) (a : Tokens) → length a < n → Tells (AccMore xs) (λ m z. more one m xs z) a (more one n xs a)) where
    more_kind : (xs : List X) (t : Token) (ts : Tokens) (k : Sign) → sign_of t ≡ k → length ts < n → Tells (AccMore xs) (λ m z. more one m xs z) (t ∷ ts) (more_by one n (more one n) xs t ts k)
    more_kind xs t ts CloseParen e l = told_one (Sp (AccMore xs)) (Be (AccMore xs)) (λ m z. more one m xs z) t ts xs (λ z. ([], sym (append-nil xs), LastOne e)) (λ m z k. more_is xs m t z CloseParen e k)
    more_kind xs t ts Comma e l =
        step_tells (AccMore xs) (λ m z. more one m xs z) (then (next_at one) (λ o m z. with_next (more one m) xs o z)) t (λ m z k. more_is xs m t z Comma e k) ts (more_by one n (more one n) xs t ts Comma)
        (then_tells Nexts (IsRest xs) (Behind t (AccMore xs)) (rest_joins xs t e) (rest_begins xs) (next_at one) (λ o m z. with_next (more one m) xs o z) n ts (next_at one n ts) (next_tells n ts l)
        (λ o b k. rest_tells n xs b (λ x. on (xs ++ x ∷ []) b (omega (arith, k, l))) o))
    more_kind xs t ts _ e l = told_stop (Sp (AccMore xs)) (Be (AccMore xs)) (λ m z. more one m xs z) t ts (more_begins xs) (λ m z k. more_is xs m t z _ e k)

  pub more_tells : (n : ℕ) (xs : List X) (a : Tokens) → length a < n → Tells (AccMore xs) (λ m z. more one m xs z) a (more one n xs a)
  unfolding more
  more_tells zero xs a l = absurd (omega arith)
  more_tells (suc n) xs [] l = more_begins xs
  more_tells (suc n) xs (t ∷ ts) l = more_kind n (more_tells n) xs t ts (sign_of t) refl (omega (arith, l))

  abbrev Listed : Tokens → Tokens → List X → Type 0
  Listed = IsListing X IsOne

  some_joins : (a b c : Tokens) (x : X) (ys : List X) → IsOne a b x → AccMore (x ∷ []) b c ys → Listed a c ys
  some_joins a b c x ys d (zs, f, g) = subst (λ ys. Listed a c ys) (sym f) (SomeListing d g)

  some_tells : Reads Listed (some_listed one)
  some_tells n a l =
      then_tells IsOne (λ x. AccMore (x ∷ [])) Listed some_joins (λ x. more_begins (x ∷ [])) one (λ x m z. more one m (x ∷ []) z) n a (one n a) (one_tells n a l)
      (λ x b k. more_tells n (x ∷ []) b (omega (arith, k, l)))

  pub listing_begins : Be Listed []
  listing_begins = (the_close ∷ [], [], λ z. EmptyListing is_close)

  lone_comma : (t : Token) → sign_of t ≡ Comma → (a b : Tokens) (c : Token) → IsToken wanted.CloseParen a b c → Behind t Listed a b []
  lone_comma t e _ _ _ (OneToken {t = c} f) = LoneComma e (close_by (sign_of c) f)

  listing_is : (m : ℕ) (t : Token) (z : Tokens) (k : Sign) → sign_of t ≡ k → listing one m (t ∷ z) ≡ listing_by one m t z k
  unfolding listing
  listing_is m t z k e = ap (listing_by one m t z) e

  listing_kind : (n : ℕ) (t : Token) (ts : Tokens) (k : Sign) → sign_of t ≡ k → length (t ∷ ts) < n → Tells Listed (listing one) (t ∷ ts) (listing_by one n t ts k)
  listing_kind n t ts CloseParen e l = told_one (Sp Listed) (Be Listed) (listing one) t ts [] (λ z. EmptyListing e) (λ m z k. listing_is m t z CloseParen e)
  listing_kind n t ts Comma e l =
      over_tells Listed (listing one) (λ m z. made (λ c. []) (expected wanted.CloseParen z)) t (λ m z k. listing_is m t z Comma e) ts (listing_by one n t ts Comma)
      (made_tells (IsToken wanted.CloseParen) (Behind t Listed) (λ c. []) (lone_comma t e) (λ m z. expected wanted.CloseParen z) ts (expected wanted.CloseParen ts) (expected_tells wanted.CloseParen n ts (omega (arith, l))))
  listing_kind n t ts _ e l = from_tells Listed Listed (λ a b x d. d) (listing one) (some_listed one) t (λ m z k. listing_is m t z _ e) ts (some_listed one n (t ∷ ts)) (some_tells n (t ∷ ts) l)

  pub listing_tells : Reads Listed (listing one)
  unfolding listing
  listing_tells n [] l = listing_begins
  listing_tells n (t ∷ ts) l = listing_kind n t ts (sign_of t) refl l
