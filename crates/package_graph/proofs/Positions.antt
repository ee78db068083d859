-- First places in lists and in tables.
use Rattle.std.proofs.Common.{◌≡◌, ℕ, suc, ◌+◌, ◌<◌, ◌≤◌, Bool, true, false, not, cond, List, [], ◌∷◌, ◌++◌, length, get_or, take, drop, refl, ap, sym, ◌∙◌, Option, Some, None, inl, inr, arith, eqb, nat_lt}
use Rattle.std.specs.Prelude.{position}
use Rattle.std.specs.List.{position_or_len}
use Rattle.std.specs.Option.{option_or}
use Rattle.std.specs.Map.{lookup}
use Rattle.std.proofs.lemmas.Bool.{cases_lt}
use Rattle.std.proofs.lemmas.Bool.Decides.{nat_tests}
use Rattle.std.proofs.lemmas.List.{drop_more, take_more, length-append, length-take-le}
use Rattle.std.proofs.lemmas.List.Folds.{position_or_len_push}
use Rattle.numbered_nodes.proofs.Booleans.{is_same}
use Rattle.indexmap.specs.IndexMap.{IndexMap, get, get_by, insert_entry}
use Rattle.indexmap.proofs.CallerLemmas.{insert_entry-new}
use Rattle.package_graph.specs.Targets.{place_if}

-- what is left from this element on
pub rest_next : {X : Type 0} (xs : List X) (i : ℕ) (x : X) → i < length xs → x ≡ get_or xs i x → drop i xs ≡ x ∷ drop (i + 1) xs
rest_next xs i x lt is = drop_more xs i x lt ∙ ap (λ y. y ∷ drop (i + 1) xs) (sym is)

pub front_next : {X : Type 0} (xs : List X) (i : ℕ) (x : X) → i < length xs → x ≡ get_or xs i x → take (i + 1) xs ≡ take i xs ++ x ∷ []
front_next xs i x lt is = take_more xs i x lt ∙ ap (λ y. take i xs ++ y ∷ []) (sym is)

shorter : (b : Bool) (m n : ℕ) → m ≤ n → cond b (1 + m) 0 ≤ suc n
shorter true m n h = omega arith
shorter false m n h = omega arith

less : (k n : ℕ) → k < n → nat_lt k n ≡ true
less k n h = grind (arith, nat_tests)

not_less : (k n : ℕ) → k ≡ n → nat_lt k n ≡ false
not_less k n h = grind (arith, nat_tests)

kept_front : (k n last next other : ℕ) (o : Option ℕ) → k < n → last ≡ n + 1 → next ≡ cond (eqb k n) other k → cond (nat_lt next last) (Some next) None ≡ option_or (cond (nat_lt k n) (Some k) None) o
kept_front k n last next other o lt e f =
    let test : nat_lt k n ≡ true = grind (arith, nat_tests) in
    let apart : eqb k n ≡ false = grind (arith, nat_tests) in
    let same : next ≡ k = f ∙ ap (λ b. cond b other k) apart in
    let within : nat_lt next last ≡ true = grind (arith, nat_tests) in
    ap (λ b. cond b (Some next) None) within ∙ ap (λ x. Some x) same ∙ sym (ap (λ b. option_or (cond b (Some k) None) o) test)

found_last : (b : Bool) (k n last next : ℕ) → k ≡ n → last ≡ n + 1 → next ≡ cond (eqb k n) (n + cond b 0 1) k → cond (nat_lt next last) (Some next) None ≡ option_or (cond (nat_lt k n) (Some k) None) (place_if b n)
found_last true k n last next at e f =
    let test : nat_lt k n ≡ false = not_less k n at in
    let same : next ≡ n = f ∙ ap (λ b. cond b (n + 0) k) (is_same k n at) ∙ (omega arith) in
    let within : nat_lt next last ≡ true = less next last (omega arith) in
    ap (λ b. cond b (Some next) None) within ∙ ap (λ x. Some x) same ∙ sym (ap (λ b. option_or (cond b (Some k) None) (Some n)) test)
found_last false k n last next at e f =
    let test : nat_lt k n ≡ false = not_less k n at in
    let same : next ≡ n + 1 = f ∙ ap (λ b. cond b (n + 1) k) (is_same k n at) in
    let within : nat_lt next last ≡ false = not_less next last (same ∙ sym e) in
    ap (λ b. cond b (Some next) None) within ∙ sym (ap (λ b. option_or (cond b (Some k) None) None) test)

module _ {X : Type 0} (p : X → Bool) where
  place_within : (xs : List X) → position_or_len p xs ≤ length xs
  place_within [] = omega arith
  place_within (x ∷ xs) = shorter (not (p x)) (position_or_len p xs) (length xs) (place_within xs)

  -- the first place of a list with one element more
  pub position_push : (xs : List X) (y : X) → position p (xs ++ y ∷ []) ≡ option_or (position p xs) (place_if (p y) (length xs))
  position_push xs y =
      let k = position_or_len p xs in
      let n = length xs in
      let last : length (xs ++ y ∷ []) ≡ n + 1 = omega (arith, length-append xs (y ∷ [])) in
      let next = position_or_len p (xs ++ y ∷ []) in
      let within : k ≤ n = place_within xs in
      elim (cases_lt k n) [
        | inl lt ↦ kept_front k n (length (xs ++ y ∷ [])) next (n + cond (p y) 0 1) (place_if (p y) n) lt last (position_or_len_push p xs y)
        | inr ge ↦ found_last (p y) k n (length (xs ++ y ∷ [])) next (omega arith) last (position_or_len_push p xs y)
      ]

option_step : {V : Type 0} (b : Bool) (v : V) (all front back : Option V) → all ≡ option_or front back → cond b (Some v) all ≡ option_or (cond b (Some v) front) back
option_step true v all front back e = refl
option_step false v all front back e = e

lookup_append : {K V : Type 0} (test : K → Bool) (xs ys : List (K × V)) → lookup test (xs ++ ys) ≡ option_or (lookup test xs) (lookup test ys)
lookup_append test [] ys = refl
lookup_append test (x ∷ xs) ys = option_step (test x.0) x.1 (lookup test (xs ++ ys)) (lookup test xs) (lookup test ys) (lookup_append test xs ys)

-- a key that is put into a table that hasn't it comes behind all that are there
pub put_last : {K S : Type 0} (eq : K → K → Bool) (old new : IndexMap K ℕ S) (k : K) (v : ℕ) → get eq old k ≡ None → new.entries ≡ insert_entry eq old.entries k v → (test : K → Bool) → get_by test new ≡ option_or (get_by test old) (place_if (test k) v)
put_last eq old new k v none is test = ap (lookup test) (is ∙ insert_entry-new eq old k v none) ∙ lookup_append test old.entries ((k, v) ∷ [])

-- the step of a search for the first place
pub first_next : {X : Type 0} (p : X → Bool) (xs : List X) (i : ℕ) (x : X) (old new : Option ℕ) → i < length xs → x ≡ get_or xs i x → new ≡ option_or old (place_if (p x) i) → old ≡ position p (take i xs) → new ≡ position p (take (i + 1) xs)
first_next p xs i x old new lt is e h =
    let at : length (take i xs) ≡ i = length-take-le i xs (omega arith) in
    e ∙ ap (λ o. option_or o (place_if (p x) i)) h ∙ ap (λ k. option_or (position p (take i xs)) (place_if (p x) k)) (sym at)
    ∙ sym (position_push p (take i xs) x) ∙ ap (position p) (sym (front_next xs i x lt is))
