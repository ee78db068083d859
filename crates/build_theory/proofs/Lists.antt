-- Tests, lists, look-ups and shuffles.
use Rattle.std.proofs.Common.{◌≡◌, ◌⊎◌, Bool, true, false, not, ◌&&◌, ◌||◌, List, [], ◌∷◌, ◌++◌, refl, ap, sym, ◌∙◌, subst, cond, Some, None, inl, inr}
use Rattle.std.specs.List.{list_any, list_all, AllByRecursion}
use Rattle.std.specs.Map.{lookup}
use Rattle.build_theory.specs.Laws.{Shuffles, none, skip, swap, then_, IsIn}

pub both_ways : {G : Type 0} (b : Bool) → (b ≡ true → G) → (b ≡ false → G) → G
both_ways true f g = f refl
both_ways false f g = g refl

pub differ : true ≡ false → ⊥
differ e = cc

pub clash : (b : Bool) → b ≡ true → b ≡ false → ⊥
clash b e f = differ (sym e ∙ f)

pub or_false : (b c : Bool) → b ≡ false → (b || c) ≡ true → c ≡ true
or_false true c e f = cc
or_false false c e f = f

or_cases : (b c : Bool) → (b || c) ≡ true → (b ≡ true) ⊎ (c ≡ true)
or_cases true c e = inl refl
or_cases false c e = inr e

pub and_both : (b c : Bool) → (b && c) ≡ true → (b ≡ true) × (c ≡ true)
and_both true c e = (refl, e)
and_both false c e = absurd (differ (sym e))

pub or_left : (b c : Bool) → b ≡ true → (b || c) ≡ true
or_left true c e = refl
or_left false c e = absurd (differ (sym e))

pub or_right : (b c : Bool) → c ≡ true → (b || c) ≡ true
or_right true c e = refl
or_right false c e = e

pub then_holds : (b c : Bool) → (not b || c) ≡ true → b ≡ true → c ≡ true
then_holds true c h e = h
then_holds false c h e = absurd (differ (sym e))

pub same_if : {X : Type 0} (b : Bool) (x y z : X) → (b ≡ true → x ≡ y) → cond b x z ≡ cond b y z
same_if true x y z h = h refl
same_if false x y z h = refl

pub passed : {X : Type 0} (b c : Bool) (x y : X) → (b ≡ true → c ≡ true) → cond (b && not c) x y ≡ y
passed true true x y h = refl
passed true false x y h = absurd (differ (sym (h refl)))
passed false c x y h = refl

module _ {X : Type 0} where
  pub any_in : (p : X → Bool) (xs : List X) → list_any p xs ≡ true → (x : X) × IsIn x xs × (p x ≡ true)
  any_in p [] e = absurd (differ (sym e))
  any_in p (x ∷ xs) e = elim (or_cases (p x) (list_any p xs) e) [
    | inl h ↦ (x, inl refl, h)
    | inr h ↦ let s = any_in p xs h in (s.0, inr s.1, s.2)
  ]

  pub any_of : (p : X → Bool) (xs : List X) (x : X) → IsIn x xs → p x ≡ true → list_any p xs ≡ true
  any_of p [] x i h = absurd i
  any_of p (y ∷ ys) x i h = elim i [
    | inl e ↦ or_left (p y) (list_any p ys) (sym (ap p e) ∙ h)
    | inr j ↦ or_right (p y) (list_any p ys) (any_of p ys x j h)
  ]

  pub all_of : (p : X → Bool) (xs : List X) → ((x : X) → IsIn x xs → p x ≡ true) → list_all p xs ≡ true
  all_of p [] h = refl
  all_of p (x ∷ xs) h = rw (h x (inl refl)) (all_of p xs (λ y i. h y (inr i)))

  pub all_holds : (p : X → Bool) (xs : List X) (x : X) → IsIn x xs → list_all p xs ≡ true → p x ≡ true
  all_holds p [] x i h = absurd i
  all_holds p (y ∷ ys) x i h =
      let b = and_both (p y) (list_all p ys) h in
      elim i [ inl e ↦ ap p e ∙ b.0 | inr j ↦ all_holds p ys x j b.1 ]

  pub all_at : (P : X → Type 0) (xs : List X) (x : X) → IsIn x xs → AllByRecursion P xs → P x
  all_at P [] x i h = absurd i
  all_at P (y ∷ ys) x i h = elim i [ inl e ↦ subst P (sym e) h.0 | inr j ↦ all_at P ys x j h.1 ]

  pub all_map : (P Q : X → Type 0) (xs : List X) → ((x : X) → P x → Q x) → AllByRecursion P xs → AllByRecursion Q xs
  all_map P Q [] f h = h
  all_map P Q (x ∷ xs) f h = (f x h.0, all_map P Q xs f h.1)

  pub all_shuffled : (P : X → Type 0) {xs ys : List X} → Shuffles xs ys → AllByRecursion P xs → AllByRecursion P ys
  all_shuffled P none h = h
  all_shuffled P (skip s) h = (h.0, all_shuffled P s h.1)
  all_shuffled P swap h = (h.1.0, (h.0, h.1.1))
  all_shuffled P (then_ s t) h = all_shuffled P t (all_shuffled P s h)

  pub in_back : (xs : List X) (x : X) (ys : List X) → IsIn x (xs ++ x ∷ ys)
  in_back [] x ys = inl refl
  in_back (y ∷ xs) x ys = inr (in_back xs x ys)

  pub in_either : (xs ys : List X) (x : X) → IsIn x (xs ++ ys) → IsIn x xs ⊎ IsIn x ys
  in_either [] ys x i = inr i
  in_either (y ∷ xs) ys x i = elim i [
    | inl e ↦ inl (inl e)
    | inr j ↦ elim (in_either xs ys x j) [ inl k ↦ inl (inr k) | inr k ↦ inr k ]
  ]

  pub split_at : (xs : List X) (x : X) → IsIn x xs → (ks : List X) × (bs : List X) × (xs ≡ ks ++ x ∷ bs)
  split_at [] x i = absurd i
  split_at (y ∷ ys) x i = elim i [
    | inl e ↦ ([], ys, ap (λ z. z ∷ ys) (sym e))
    | inr j ↦ let s = split_at ys x j in (y ∷ s.0, s.1, ap (λ z. y ∷ z) s.2)
  ]

  pub same_shuffled : (xs : List X) → Shuffles xs xs
  same_shuffled [] = none
  same_shuffled (x ∷ xs) = skip (same_shuffled xs)

  pub shuffled_back : {xs ys : List X} → Shuffles xs ys → Shuffles ys xs
  shuffled_back none = none
  shuffled_back (skip s) = skip (shuffled_back s)
  shuffled_back swap = swap
  shuffled_back (then_ s t) = then_ (shuffled_back t) (shuffled_back s)

  pub in_shuffled : {xs ys : List X} (x : X) → Shuffles xs ys → IsIn x xs → IsIn x ys
  in_shuffled x none i = i
  in_shuffled x (skip s) i = elim i [ inl e ↦ inl e | inr j ↦ inr (in_shuffled x s j) ]
  in_shuffled x swap i = elim i [
    | inl e ↦ inr (inl e)
    | inr j ↦ elim j [ inl e ↦ inl e | inr k ↦ inr (inr k) ]
  ]
  in_shuffled x (then_ s t) i = in_shuffled x t (in_shuffled x s i)

module _ {K X : Type 0} (test : K → Bool) where
  pub look_yes : (e : K × X) (es : List (K × X)) → test e.0 ≡ true → lookup test (e ∷ es) ≡ Some e.1
  look_yes e es h = rw h refl

  pub look_no : (e : K × X) (es : List (K × X)) → test e.0 ≡ false → lookup test (e ∷ es) ≡ lookup test es
  look_no e es h = rw h refl

  pub lookup_in : (es : List (K × X)) (v : X) → lookup test es ≡ Some v → (e : K × X) × IsIn e es × (test e.0 ≡ true) × (e.1 ≡ v)
  lookup_in [] v e = absurd (let h : ⊥ = cc in h)
  lookup_in (x ∷ es) v e =
      both_ways (test x.0)
      (λ h. let k : Some x.1 ≡ Some v = sym (look_yes x es h) ∙ e in (x, inl refl, h, (let j : x.1 ≡ v = cc in j)))
      (λ h. let s = lookup_in es v (sym (look_no x es h) ∙ e) in (s.0, inr s.1, s.2, s.3))

  -- what is found in front stays found
  pub found_front : (xs ys : List (K × X)) (r : X) → lookup test xs ≡ Some r → lookup test (xs ++ ys) ≡ Some r
  found_front [] ys r e = cc
  found_front (x ∷ xs) ys r e =
      both_ways (test x.0)
      (λ h. look_yes x (xs ++ ys) h ∙ sym (look_yes x xs h) ∙ e)
      (λ h. look_no x (xs ++ ys) h ∙ found_front xs ys r (sym (look_no x xs h) ∙ e))

  pub not_in_front : (xs ys : List (K × X)) → lookup test xs ≡ None → lookup test (xs ++ ys) ≡ lookup test ys
  not_in_front [] ys e = refl
  not_in_front (x ∷ xs) ys e =
      both_ways (test x.0)
      (λ h. let k : Some x.1 ≡ None = sym (look_yes x xs h) ∙ e in cc)
      (λ h. look_no x (xs ++ ys) h ∙ not_in_front xs ys (sym (look_no x xs h) ∙ e))
