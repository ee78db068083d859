-- The steps of a scan and of a search.
use Rattle.std.proofs.Common.{◌≡◌, ◌⊎◌, ◌↔◌, ℕ, zero, suc, ◌+◌, ◌<◌, ◌≤◌, Bool, true, false, ◌||◌, List, [], ◌∷◌, ◌++◌, get_or, length, length-append, nat_eq, refl, ap, sym, ◌∙◌, subst, inl, inr, arith, Vec, replicate}
use Rattle.std.proofs.Math.ListN.{set}
use Rattle.std.specs.Global.{Global}
use Rattle.std.specs.List.{Contains, All}
use Rattle.std.proofs.lemmas.List.{length-map, get_or_default, get_or-set_same, get_or-set_other}
use Rattle.std.proofs.lemmas.Bool.{cases_eq, cases_lt}
use Rattle.std.proofs.lemmas.List.Elements.{Contains-get_or, Contains-append_left, Contains-append_right, Contains-append_cases}
use Rattle.numbered_nodes.specs.Bits.{has}
use Rattle.numbered_nodes.proofs.Booleans.{split_or, or_right, is_same, from_test}
use Rattle.numbered_nodes.proofs.Absent.{lacks_less, lacks_one_less}
use Rattle.numbered_nodes.specs.Reach.{Reach, edge, onward}
use Rattle.numbered_nodes.specs.Edges.{HasEdge, Relates, InRange, lists}
use Rattle.numbered_nodes.specs.Search.{IsSettled, AreExact, Scanned}
use Rattle.numbered_nodes.proofs.ReachLaws.{chain}
use Rattle.numbered_nodes.proofs.Rows.{row_at, beyond, no_edge_past}

one_at : (y b i : ℕ) → i < 1 → get_or (y ∷ []) i b ≡ b → b ≡ y
one_at y b zero lt e = sym e
one_at y b (suc i) lt e = absurd (omega arith)

pub Contains-one : (y b : ℕ) → Contains (y ∷ []) b → b ≡ y
Contains-one y b h = one_at y b h.0 h.1 h.2

pub contains_last : (xs : List ℕ) (y : ℕ) → Contains (xs ++ y ∷ []) y
contains_last xs y = Contains-append_right xs (y ∷ []) y (0, omega arith, refl)

module _ (g : List (List ℕ)) (x : ℕ) (first before row left : List ℕ) (s : Scanned g x first before row left) where
  -- a target that is done
  pub took : (rows : List (List ℕ)) (done : List Bool) (y : ℕ) (more : List ℕ) → AreExact g done rows → HasEdge g x y → get_or done y false ≡ true → y < length g → has row y ≡ false
      → ((k : ℕ) → (has more k ≡ true) ↔ ((has row k ≡ true) ⊎ ((k ≡ y) ⊎ Relates rows y k))) → Scanned g x first before more left
  took rows done y more exact e d lt out step =
      let keeps : (b : ℕ) → has row b ≡ true → has more b ≡ true = λ b p. (step b).1 (inl p) in
      let known : (b : ℕ) → Reach (HasEdge g) y b → has more b ≡ true = λ b p. (step b).1 (inr (inr ((exact y b d).1 p))) in
      record {
        grows = λ b p. keeps b (s.grows b p);
        sound = λ b p. elim ((step b).0 p) [
          | inl q ↦ s.sound b q
          | inr q ↦ elim q [
            | inl same ↦ inr (edge (subst (λ z. HasEdge g x z) (sym same) e))
            | inr r ↦ inr (onward e ((exact y b d).0 r))
          ]
        ];
        settled = λ b p. elim ((step b).0 p) [
          | inl q ↦ elim (s.settled b q) [
            | inl u ↦ inl u
            | inr u ↦ elim u [
              | inl v ↦ inr (inl v)
              | inr v ↦ inr (inr (λ c h. keeps c (v c h)))
            ]
          ]
          | inr q ↦ elim q [
            | inl same ↦ inr (inr (λ c h. known c (edge (subst (λ z. HasEdge g z c) same h))))
            | inr r ↦ inr (inr (λ c h. known c (chain ((exact y b d).0 r) (edge h))))
          ]
        ];
        kept = s.kept;
        new = s.new;
        fewer = let f = s.fewer in let l = lacks_less row more (length g) keeps in omega arith;
      }

  -- a target that is left to scan
  pub put : (y : ℕ) (more later : List ℕ) → HasEdge g x y → y < length g → has row y ≡ false → ((k : ℕ) → has more k ≡ (nat_eq k y || has row k)) → later ≡ left ++ y ∷ [] → Scanned g x first before more later
  put y more later e lt out step push =
      let keeps : (b : ℕ) → has row b ≡ true → has more b ≡ true = λ b p. step b ∙ or_right (nat_eq b y) (has row b) p in
      let there : (b : ℕ) → Contains left b → Contains later b = λ b p. subst (λ (l : List ℕ). Contains l b) (sym push) (Contains-append_left left (y ∷ []) b p) in
      let last : Contains later y = subst (λ (l : List ℕ). Contains l y) (sym push) (contains_last left y) in
      let which : (b : ℕ) → has more b ≡ true → (b ≡ y) ⊎ (has row b ≡ true) = λ b p. elim (split_or (nat_eq b y) (has row b) (sym (step b) ∙ p)) [ inl q ↦ inl (from_test b y q) | inr q ↦ inr q ] in
      record {
        grows = λ b p. keeps b (s.grows b p);
        sound = λ b p. elim (which b p) [
          | inl same ↦ inr (edge (subst (λ z. HasEdge g x z) (sym same) e))
          | inr q ↦ s.sound b q
        ];
        settled = λ b p. elim (which b p) [
          | inl same ↦ inr (inl (subst (λ z. Contains later z) (sym same) last))
          | inr q ↦ elim (s.settled b q) [
            | inl u ↦ inl u
            | inr u ↦ elim u [
              | inl v ↦ inr (inl (there b v))
              | inr v ↦ inr (inr (λ c h. keeps c (v c h)))
            ]
          ]
        ];
        kept = λ b p. there b (s.kept b p);
        new = λ b p. elim (Contains-append_cases left (y ∷ []) b (subst (λ (l : List ℕ). Contains l b) push p)) [
          | inl q ↦ s.new b q
          | inr q ↦ inr (subst (λ z. HasEdge g x z) (sym (Contains-one y b q)) e)
        ];
        fewer =
            let f = s.fewer in
            let l = lacks_one_less row more (length g) y keeps lt out (step y ∙ ap (λ b. b || has row y) (is_same y y refl)) in
            let len : length later ≡ length left + 1 = ap length push ∙ length-append left (y ∷ []) in
            omega arith;
      }

-- nothing was done yet
pub scan_start : (g : List (List ℕ)) (x : ℕ) (first before : List ℕ) → Scanned g x first before first before
scan_start g x first before = record {
  grows = λ b p. p;
  sound = λ b p. inl p;
  settled = λ b p. inl p;
  kept = λ b p. p;
  new = λ b p. inl p;
  fewer = omega arith;
}

module _ (g : List (List ℕ)) (row : List ℕ) (from : ℕ) (closed : (a : ℕ) → (a ≡ from) ⊎ (has row a ≡ true) → IsSettled g row a) where
  closed_on : {a b : ℕ} → (a ≡ from) ⊎ (has row a ≡ true) → Reach (HasEdge g) a b → has row b ≡ true
  closed_on q (edge {a = a} {b = b} e) = closed a q b e
  closed_on q (onward {a = a} {b = m} e p) = closed_on (inr (closed a q m e)) p

  -- a set that is closed from `from` on has all that `from` reaches
  pub closed_has : {b : ℕ} → Reach (HasEdge g) from b → has row b ≡ true
  closed_has p = closed_on (inl refl) p

pub length_lists : (g : List (Vec ℕ Global)) → length (lists g) ≡ length g
length_lists g = simp length-map

pub moved : (g : List (List ℕ)) (x : ℕ) (first before row left row' left' : List ℕ) → row' ≡ row → left' ≡ left → Scanned g x first before row left → Scanned g x first before row' left'
moved g x first before row left row' left' e f s = subst (λ (r : List ℕ). Scanned g x first before r left') (sym e) (subst (λ (l : List ℕ). Scanned g x first before row l) (sym f) s)

-- the target at hand
pub row_here : (g : List (Vec ℕ Global)) (x : ℕ) (v : Vec ℕ Global) (items : List ℕ) → x < length g → v ≡ get_or g x v → items ≡ v.items → get_or (lists g) x [] ≡ items
row_here g x v items lt e f = row_at g x v lt ∙ ap (λ w. w.items) (sym e) ∙ sym f

pub target_here : (g : List (List ℕ)) (x i : ℕ) (items : List ℕ) → get_or g x [] ≡ items → i < length items → HasEdge g x (get_or items i 0)
target_here g x i items e lt = subst (λ (xs : List ℕ). Contains xs (get_or items i 0)) (sym e) (Contains-get_or items i 0 lt)

pub target_in : (g : List (List ℕ)) (n x i : ℕ) (items : List ℕ) → InRange g n → x < length g → get_or g x [] ≡ items → i < length items → get_or items i 0 < n
target_in g n x i items h xlt e lt = subst (λ (xs : List ℕ). All (λ b. b < n) xs) e (h x [] xlt) i 0 lt

pub targets_next : (row more xs items : List ℕ) (i : ℕ) → xs ≡ items → i < length items → ((b : ℕ) → has row b ≡ true → has more b ≡ true) → has more (get_or items i 0) ≡ true
    → ((j d : ℕ) → j < i → has row (get_or xs j d) ≡ true) → (j d : ℕ) → j < i + 1 → has more (get_or xs j d) ≡ true
targets_next row more xs items i e lt keeps here before j d h = elim (cases_lt j i) [
  | inl less ↦ keeps (get_or xs j d) (before j d less)
  | inr more' ↦
      let same : j ≡ i = omega arith in
      ap (has more) (ap (λ (l : List ℕ). get_or l j d) e ∙ ap (λ k. get_or items k d) same ∙ get_or_default items i d 0 lt) ∙ here
]

pub settled_all : (g : List (List ℕ)) (row : List ℕ) (x i : ℕ) → length (get_or g x []) ≤ i → ((j d : ℕ) → j < i → has row (get_or (get_or g x []) j d) ≡ true) → IsSettled g row x
settled_all g row x i end h b e = ap (has row) (sym e.2) ∙ h e.0 b (let lt = e.1 in omega arith)

edge_in : (g : List (List ℕ)) (n x a : ℕ) → InRange g n → x < length g → HasEdge g x a → a < n
edge_in g n x a h lt e = subst (λ b. b < n) e.2 (h x [] lt e.0 a e.1)

never : (n a : ℕ) → get_or (replicate n false) a false ≡ false
never zero a = refl
never (suc n) zero = refl
never (suc n) (suc a) = never n a

none_from : (g : List (Vec ℕ Global)) {a b : ℕ} → Reach (HasEdge (lists g)) a b → length g ≤ a → ⊥
none_from g (edge {a = a} {b = b} e) h = no_edge_past g a b h e
none_from g (onward {a = a} {b = m} e p) h = no_edge_past g a m h e

-- one turn of the search
module _ (g : List (List ℕ)) (from x : ℕ) (row left rest row' left' : List ℕ)
    (sound : (b : ℕ) → has row b ≡ true → Reach (HasEdge g) from b)
    (settled : (a : ℕ) → (a ≡ from) ⊎ (has row a ≡ true) → Contains left a ⊎ IsSettled g row a)
    (x_from : (x ≡ from) ⊎ Reach (HasEdge g) from x)
    (popped : left ≡ rest ++ x ∷ []) (s : Scanned g x row rest row' left') (done : IsSettled g row' x) where
  from_x : {b : ℕ} → Reach (HasEdge g) x b → Reach (HasEdge g) from b
  from_x {b} p = elim x_from [
    | inl same ↦ subst (λ z. Reach (HasEdge g) z b) same p
    | inr q ↦ chain q p
  ]

  pub sound_next : (b : ℕ) → has row' b ≡ true → Reach (HasEdge g) from b
  sound_next b p = elim (s.sound b p) [ inl q ↦ sound b q | inr q ↦ from_x q ]

  was_settled : (a : ℕ) → (a ≡ from) ⊎ (has row a ≡ true) → Contains left' a ⊎ IsSettled g row' a
  was_settled a q = elim (settled a q) [
    | inl u ↦ elim (Contains-append_cases rest (x ∷ []) a (subst (λ (l : List ℕ). Contains l a) popped u)) [
      | inl v ↦ inl (s.kept a v)
      | inr v ↦ inr (subst (λ z. IsSettled g row' z) (sym (Contains-one x a v)) done)
    ]
    | inr u ↦ inr (λ b e. s.grows b (u b e))
  ]

  pub settled_next : (a : ℕ) → (a ≡ from) ⊎ (has row' a ≡ true) → Contains left' a ⊎ IsSettled g row' a
  settled_next a q = elim q [
    | inl same ↦ was_settled a (inl same)
    | inr p ↦ elim (s.settled a p) [
      | inl u ↦ was_settled a (inr u)
      | inr u ↦ u
    ]
  ]

  pub nodes_next : (n : ℕ) → InRange g n → ((a : ℕ) → Contains left a → (a < n) × ((a ≡ from) ⊎ Reach (HasEdge g) from a)) → x < length g → (a : ℕ) → Contains left' a → (a < n) × ((a ≡ from) ⊎ Reach (HasEdge g) from a)
  nodes_next n range nodes lt a p = elim (s.new a p) [
    | inl q ↦ nodes a (subst (λ (l : List ℕ). Contains l a) (sym popped) (Contains-append_left rest (x ∷ []) a q))
    | inr e ↦ (edge_in g n x a range lt e, inr (from_x (edge e)))
  ]

-- a row that was searched
pub exact_next : (g : List (List ℕ)) (done : List Bool) (rows : List (List ℕ)) (a : ℕ) (s : List ℕ) → length done ≡ length rows → a < length rows → AreExact g done rows → ((b : ℕ) → (has s b ≡ true) ↔ Reach (HasEdge g) a b) → AreExact g (set done a true) (set rows a s)
exact_next g done rows a s len lt before row c b d = elim (cases_eq c a) [
  | inl same ↦
      let at : get_or (set rows a s) c [] ≡ s = ap (λ i. get_or (set rows a s) i []) same ∙ get_or-set_same rows a s [] lt in
      subst (λ (r : List ℕ). (has r b ≡ true) ↔ Reach (HasEdge g) c b) (sym at) (subst (λ z. (has s b ≡ true) ↔ Reach (HasEdge g) z b) (sym same) (row b))
  | inr other ↦
      let at : get_or (set rows a s) c [] ≡ get_or rows c [] = get_or-set_other rows a c s [] other in
      let was : get_or done c false ≡ true = sym (get_or-set_other done a c true false other) ∙ d in
      subst (λ (r : List ℕ). (has r b ≡ true) ↔ Reach (HasEdge g) c b) (sym at) (before c b was)
]

pub none_done : (g : List (List ℕ)) (n : ℕ) (done : List Bool) (rows : List (List ℕ)) → done ≡ replicate n false → AreExact g done rows
none_done g n done rows e a b d = let p : get_or (replicate n false) a false ≡ true = ap (λ (l : List Bool). get_or l a false) (sym e) ∙ d in let q : false ≡ true = sym (never n a) ∙ p in cc

pub all_done : (g : List (Vec ℕ Global)) (done : List Bool) (rows : List (List ℕ)) (n : ℕ) → length g ≤ n → length rows ≤ n → AreExact (lists g) done rows → ((a : ℕ) → a < n → get_or done a false ≡ true) → (a b : ℕ) → Relates rows a b ↔ Reach (HasEdge (lists g)) a b
all_done g done rows n p q exact all a b = elim (cases_lt a n) [
  | inl lt ↦ exact a b (all a lt)
  | inr ge ↦ (
    (λ r. let w = beyond rows a b (let s : length rows ≤ a = omega arith in s) in let v : false ≡ true = sym w ∙ r in cc),
    (λ r. absurd (none_from g r (let s : length g ≤ a = omega arith in s))),
  )
]

pub done_next : (done : List Bool) (a : ℕ) → a < length done → ((b : ℕ) → b < a → get_or done b false ≡ true) → (b : ℕ) → b < a + 1 → get_or (set done a true) b false ≡ true
done_next done a lt before b h = elim (cases_eq b a) [
  | inl same ↦ ap (λ i. get_or (set done a true) i false) same ∙ get_or-set_same done a true false lt
  | inr other ↦ get_or-set_other done a b true false other ∙ before b (omega arith)
]
