-- Numbers that are given to what comes first.
use Rattle.std.proofs.Common.{◌≡◌, ℕ, ◌+◌, ◌<◌, ◌≤◌, Bool, true, false, not, List, [], ◌∷◌, ◌++◌, length, take, get_or, cond, eqb, ltb, Some, None, refl, ap, sym, ◌∙◌, arith, inl, inr}
use Rattle.std.specs.declared.option.Option.{Option}
use Rattle.std.specs.List.{position, position_or_len}
use Rattle.std.specs.Option.{option_or}
use Rattle.std.proofs.lemmas.Bool.{cond-true, cond-false, eq-eqb, ne_eqb, lt-ltb, le-ltb, cases_lt}
use Rattle.std.proofs.lemmas.List.{take_more, length-append, length-take-le}
use Rattle.std.proofs.lemmas.List.Folds.{position_or_len_push}
use Rattle.std.proofs.lemmas.List.Sums.{prefix_len-le-length}
use Rattle.mod_graph.specs.Names.{same_text}
use Rattle.mod_graph.specs.Targets.{or_number}
use Rattle.mod_graph.proofs.NodeNames.{either, texts_tell, texts_turn}

keeps_own : (o : Option ℕ) → option_or o None ≡ o
keeps_own None = refl
keeps_own (Some x) = refl

-- a name that had no number has one, and no other name's is changed
pub named_next : (f g : List ℕ → Option ℕ) (k m : List ℕ) (v : ℕ) → f k ≡ None → g m ≡ cond (same_text k m) (Some v) (f m) → g m ≡ or_number (f m) (same_text m k) v
named_next f g k m v none e =
    either (same_text k m)
    (λ s.
    let here : same_text m k ≡ true = texts_turn m k ∙ s in
    let old : f m ≡ None = ap f (sym (texts_tell k m s)) ∙ none in
    e ∙ ap (λ b. cond b (Some v) (f m)) s ∙ sym (ap (λ b. or_number (f m) b v) here ∙ ap (λ o. or_number o true v) old))
    (λ s.
    let other : same_text m k ≡ false = texts_turn m k ∙ s in
    e ∙ ap (λ b. cond b (Some v) (f m)) s ∙ sym (ap (λ b. or_number (f m) b v) other ∙ keeps_own (f m)))

module _ {X : Type 0} (p : X → Bool) where
  position_here : (xs : List X) → position_or_len p xs < length xs → position p xs ≡ Some (position_or_len p xs)
  position_here xs h = cond-true (ltb (position_or_len p xs) (length xs)) (Some (position_or_len p xs)) None (lt-ltb (position_or_len p xs) (length xs) h)

  position_none : (xs : List X) → length xs ≤ position_or_len p xs → position p xs ≡ None
  position_none xs h = cond-false (ltb (position_or_len p xs) (length xs)) (Some (position_or_len p xs)) None (le-ltb (position_or_len p xs) (length xs) h)

  within : (xs : List X) → position_or_len p xs ≤ length xs
  within xs = prefix_len-le-length (λ x. not (p x)) xs

  -- one more element is at the next place
  push_found : (xs : List X) (y : X) → position_or_len p xs < length xs → position p (xs ++ y ∷ []) ≡ or_number (position p xs) (p y) (length xs)
  push_found xs y h =
      let at : position_or_len p (xs ++ y ∷ []) ≡ position_or_len p xs =
      position_or_len_push p xs y ∙ cond-false (eqb (position_or_len p xs) (length xs)) (length xs + cond (p y) 0 1) (position_or_len p xs) (ne_eqb (position_or_len p xs) (length xs) (λ e. absurd (omega arith))) in
      let more : length (xs ++ y ∷ []) ≡ length xs + 1 = length-append xs (y ∷ []) in
      position_here (xs ++ y ∷ []) (omega arith) ∙ ap (λ k. Some k) at ∙ sym (ap (λ o. or_number o (p y) (length xs)) (position_here xs h))

  push_new : (xs : List X) (y : X) (b : Bool) → p y ≡ b → length xs ≤ position_or_len p xs → position p (xs ++ y ∷ []) ≡ or_number (position p xs) b (length xs)
  push_new xs y true e h =
      let at : position_or_len p (xs ++ y ∷ []) ≡ length xs + cond (p y) 0 1 =
      position_or_len_push p xs y ∙ cond-true (eqb (position_or_len p xs) (length xs)) (length xs + cond (p y) 0 1) (position_or_len p xs) (eq-eqb (position_or_len p xs) (length xs) (omega (arith, within xs))) in
      let none : cond {A = ℕ} (p y) 0 1 ≡ 0 = ap (λ b. cond {A = ℕ} b 0 1) e in
      let here : position_or_len p (xs ++ y ∷ []) ≡ length xs = omega arith in
      let more : length (xs ++ y ∷ []) ≡ length xs + 1 = length-append xs (y ∷ []) in
      position_here (xs ++ y ∷ []) (omega arith) ∙ ap (λ k. Some k) here ∙ sym (ap (λ o. or_number o true (length xs)) (position_none xs h))
  push_new xs y false e h =
      let at : position_or_len p (xs ++ y ∷ []) ≡ length xs + cond (p y) 0 1 =
      position_or_len_push p xs y ∙ cond-true (eqb (position_or_len p xs) (length xs)) (length xs + cond (p y) 0 1) (position_or_len p xs) (eq-eqb (position_or_len p xs) (length xs) (omega (arith, within xs))) in
      let one : cond {A = ℕ} (p y) 0 1 ≡ 1 = ap (λ b. cond {A = ℕ} b 0 1) e in
      let more : length (xs ++ y ∷ []) ≡ length xs + 1 = length-append xs (y ∷ []) in
      position_none (xs ++ y ∷ []) (omega arith) ∙ sym (ap (λ o. or_number o false (length xs)) (position_none xs h))

  position_push : (xs : List X) (y : X) → position p (xs ++ y ∷ []) ≡ or_number (position p xs) (p y) (length xs)
  position_push xs y = elim (cases_lt (position_or_len p xs) (length xs)) [
    | inl h ↦ push_found xs y h
    | inr h ↦ push_new xs y (p y) refl h
  ]

  pub position_next : (xs : List X) (i : ℕ) (x : X) → i < length xs → x ≡ get_or xs i x → position p (take (i + 1) xs) ≡ or_number (position p (take i xs)) (p x) i
  position_next xs i x h is =
      let len : length (take i xs) ≡ i = length-take-le i xs (omega arith) in
      let front : take (i + 1) xs ≡ take i xs ++ x ∷ [] = take_more xs i x h ∙ ap (λ y. take i xs ++ y ∷ []) (sym is) in
      ap (position p) front ∙ position_push (take i xs) x ∙ ap (or_number (position p (take i xs)) (p x)) len
