-- There is one list of groups.
use Rattle.std.proofs.Common.{◌≡◌, ◌⊎◌, ℕ, zero, suc, ◌+◌, ◌<◌, ◌≤◌, List, [], ◌∷◌, ◌++◌, get_or, take, length, refl, ap, sym, ◌∙◌, subst, inl, inr, arith}
use Rattle.std.specs.List.{Contains}
use Rattle.std.proofs.lemmas.Bool.{cases_lt}
use Rattle.std.proofs.lemmas.List.{take_more, take_all, get_or_default}
use Rattle.std.proofs.lemmas.List.Elements.{Contains-get_or}
use Rattle.numbered_nodes.specs.Reach.{InOneLoop}
use Rattle.node_groups.specs.Rising.{AreRising}
use Rattle.node_groups.specs.Groups.{IsIn, IsNext, IsGroups}

-- two lists that rise and have the same members are the same
rest_rises : (x : ℕ) (xs : List ℕ) → AreRising (x ∷ xs) → AreRising xs
rest_rises x xs r i j lt less = r (suc i) (suc j) (omega arith) (omega arith)

first_below : (x : ℕ) (xs : List ℕ) → AreRising (x ∷ xs) → (a : ℕ) → Contains xs a → x < a
first_below x xs r a h = let lt = h.1 in let w = r 0 (suc h.0) (omega arith) (omega arith) in let at : get_or xs h.0 0 ≡ a = get_or_default xs h.0 0 a h.1 ∙ h.2 in omega arith

at_cons : (x : ℕ) (xs : List ℕ) (a i : ℕ) → i < length (x ∷ xs) → get_or (x ∷ xs) i a ≡ a → (a ≡ x) ⊎ Contains xs a
at_cons x xs a zero lt e = inl (sym e)
at_cons x xs a (suc i) lt e = inr (i, omega arith, e)

cons_cases : (x : ℕ) (xs : List ℕ) (a : ℕ) → Contains (x ∷ xs) a → (a ≡ x) ⊎ Contains xs a
cons_cases x xs a h = at_cons x xs a h.0 h.1 h.2

cons_later : (x : ℕ) (xs : List ℕ) (a : ℕ) → Contains xs a → Contains (x ∷ xs) a
cons_later x xs a h = (suc h.0, (let lt = h.1 in omega arith), h.2)

pub one_rising : (xs ys : List ℕ) → AreRising xs → AreRising ys → ((a : ℕ) → Contains xs a → Contains ys a) → ((a : ℕ) → Contains ys a → Contains xs a) → xs ≡ ys
one_rising [] [] r s f g = refl
one_rising [] (y ∷ ys) r s f g = let h = g y (0, omega arith, refl) in let lt = h.1 in absurd (omega arith)
one_rising (x ∷ xs) [] r s f g = let h = f x (0, omega arith, refl) in let lt = h.1 in absurd (omega arith)
one_rising (x ∷ xs) (y ∷ ys) r s f g =
    let same : x ≡ y = elim (cons_cases y ys x (f x (0, omega arith, refl))) [
      | inl e ↦ e
      | inr there ↦ elim (cons_cases x xs y (g y (0, omega arith, refl))) [
        | inl e ↦ sym e
        | inr here ↦ let a = first_below y ys s x there in let b = first_below x xs r y here in absurd (omega arith)
      ]
    ] in
    let rest : xs ≡ ys = one_rising xs ys (rest_rises x xs r) (rest_rises y ys s)
    (λ a h. elim (cons_cases y ys a (f a (cons_later x xs a h))) [ inr c ↦ c | inl e ↦ let w = first_below x xs r a h in absurd (omega arith) ])
    (λ a h. elim (cons_cases x xs a (g a (cons_later y ys a h))) [ inr c ↦ c | inl e ↦ let w = first_below y ys s a h in absurd (omega arith) ]) in
    ap (λ z. z ∷ xs) same ∙ ap (λ (l : List ℕ). y ∷ l) rest

module _ (E : ℕ → ℕ → Type 0) (n : ℕ) where
  one_first : (L : ℕ → Type 0) (xs ys : List ℕ) → IsNext E n L xs → IsNext E n L ys → get_or xs 0 0 ≡ get_or ys 0 0
  one_first L xs ys p q = elim (cases_lt (get_or xs 0 0) (get_or ys 0 0)) [
    | inl lt ↦ absurd (p.new (q.least (get_or xs 0 0) lt p.ready))
    | inr ge ↦ elim (cases_lt (get_or ys 0 0) (get_or xs 0 0)) [
      | inl lt ↦ absurd (q.new (p.least (get_or ys 0 0) lt q.ready))
      | inr le ↦ omega arith
    ]
  ]

  one_next : (L : ℕ → Type 0) (xs ys : List ℕ) → IsNext E n L xs → IsNext E n L ys → xs ≡ ys
  one_next L xs ys p q =
      let e = one_first L xs ys p q in
      one_rising xs ys p.class.rising q.class.rising
      (λ a h. (q.class.members a).1 (subst (λ v. (a < n) × InOneLoop E v a) e ((p.class.members a).0 h)))
      (λ a h. (p.class.members a).1 (subst (λ v. (a < n) × InOneLoop E v a) (sym e) ((q.class.members a).0 h)))

  first_node : (L : ℕ → Type 0) (xs : List ℕ) → IsNext E n L xs → get_or xs 0 0 < n
  first_node L xs p = ((p.class.members (get_or xs 0 0)).0 (Contains-get_or xs 0 0 p.class.some)).0

  fronts : (gs hs : List (List ℕ)) → IsGroups E n gs → IsGroups E n hs → (i : ℕ) → i ≤ length gs → (i ≤ length hs) × (take i gs ≡ take i hs)
  fronts gs hs p q zero le = (omega arith, refl)
  fronts gs hs p q (suc i) le =
      let ih = fronts gs hs p q i (omega arith) in
      let here = p.1 i (omega arith) in
      let short = ih.0 in
      elim (cases_lt i (length hs)) [
        | inr ge ↦
            let all : take i gs ≡ hs = ih.1 ∙ take_all i hs (omega arith) in
            let x = get_or (get_or gs i []) 0 0 in
            absurd (here.new (subst (λ (l : List (List ℕ)). IsIn l x) (sym all) (q.0 x (first_node (IsIn (take i gs)) (get_or gs i []) here))))
        | inl lt ↦
            let there = subst (λ (l : List (List ℕ)). IsNext E n (IsIn l) (get_or hs i [])) (sym ih.1) (q.1 i lt) in
            let same = one_next (IsIn (take i gs)) (get_or gs i []) (get_or hs i []) here there in
            let long : take (i + 1) gs ≡ take (i + 1) hs = take_more gs i [] (omega arith) ∙ ap (λ (l : List (List ℕ)). l ++ get_or gs i [] ∷ []) ih.1 ∙ ap (λ (x : List ℕ). take i hs ++ x ∷ []) same ∙ sym (take_more hs i [] lt) in
            ((let w : suc i ≤ length hs = omega arith in w), subst (λ k. take k gs ≡ take k hs) (let e : i + 1 ≡ suc i = omega arith in e) long)
      ]

  pub one_list : (gs hs : List (List ℕ)) → IsGroups E n gs → IsGroups E n hs → gs ≡ hs
  one_list gs hs p q =
      let f = fronts gs hs p q (length gs) (omega arith) in
      let b = fronts hs gs q p (length hs) (omega arith) in
      let le = f.0 in
      let ge = b.0 in
      sym (take_all (length gs) gs (omega arith)) ∙ f.1 ∙ take_all (length gs) hs (omega arith)
