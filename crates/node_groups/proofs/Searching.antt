-- The steps of a search that marks what it finds.
use Rattle.std.proofs.Common.{◌≡◌, ◌⊎◌, ◌↔◌, ℕ, zero, suc, ◌+◌, ◌<◌, ◌≤◌, List, [], ◌∷◌, ◌++◌, get_or, length, refl, ap, sym, ◌∙◌, subst, inl, inr, arith, Vec}
use Rattle.std.proofs.Math.ListN.{set}
use Rattle.std.specs.Global.{Global}
use Rattle.std.specs.List.{Contains}
use Rattle.std.proofs.lemmas.List.{length-map, length-set, get_or_default, get_or-set_same, get_or-set_other}
use Rattle.std.proofs.lemmas.Bool.{cases_eq, cases_lt}
use Rattle.std.proofs.lemmas.List.Elements.{Contains-get_or, Contains-append_left, Contains-push, Contains-push_cases}
use Rattle.numbered_nodes.proofs.Booleans.{is_same, is_other}
use Rattle.numbered_nodes.specs.Reach.{Reach, edge, onward}
use Rattle.numbered_nodes.specs.Edges.{HasEdge, InRange, lists}
use Rattle.numbered_nodes.proofs.ReachLaws.{chain}
use Rattle.numbered_nodes.proofs.Rows.{row_at, no_edge_past}
use Rattle.node_groups.specs.Marks.{Through, IsFound, IsSettled, IsSearch, unmarked, AreKept}

-- an edge leads from a node to a node
pub edges_within : (g : List (Vec ℕ Global)) (n : ℕ) → InRange (lists g) n → (a b : ℕ) → HasEdge (lists g) a b → (a < length g) × (b < n)
edges_within g n range a b e = elim (cases_lt a (length g)) [
  | inl lt ↦ (lt, subst (λ k. k < n) e.2 (range a [] (let w : a < length (lists g) = simp length-map lt in w) e.0 b e.1))
  | inr ge ↦ absurd (no_edge_past g a b (omega arith) e)
]

-- the target at hand
pub row_here : (g : List (Vec ℕ Global)) (x : ℕ) (v : Vec ℕ Global) (items : List ℕ) → x < length g → v ≡ get_or g x v → items ≡ v.items → get_or (lists g) x [] ≡ items
row_here g x v items lt e f = row_at g x v lt ∙ ap (λ w. w.items) (sym e) ∙ sym f

pub target_here : (g : List (List ℕ)) (x i : ℕ) (items : List ℕ) → get_or g x [] ≡ items → i < length items → HasEdge g x (get_or items i 0)
target_here g x i items e lt = subst (λ (xs : List ℕ). Contains xs (get_or items i 0)) (sym e) (Contains-get_or items i 0 lt)

-- one mark more
pub set_grows : (marks : List ℕ) (y m : ℕ) → y < length marks → (a : ℕ) → get_or marks a 0 ≡ m → get_or (set marks y m) a 0 ≡ m
set_grows marks y m lt a p = elim (cases_eq a y) [
  | inl same ↦ ap (λ i. get_or (set marks y m) i 0) same ∙ get_or-set_same marks y m 0 lt
  | inr other ↦ get_or-set_other marks y a m 0 other ∙ p
]

pub set_back : (marks : List ℕ) (y m : ℕ) (a : ℕ) → get_or (set marks y m) a 0 ≡ m → (get_or marks a 0 ≡ m) ⊎ (a ≡ y)
set_back marks y m a p = elim (cases_eq a y) [
  | inl same ↦ inr same
  | inr other ↦ inl (sym (get_or-set_other marks y a m 0 other) ∙ p)
]

pub one_less : (marks : List ℕ) (y m : ℕ) → y < length marks → (get_or marks y 0 ≡ m → ⊥) → unmarked m (set marks y m) + 1 ≡ unmarked m marks
one_less [] y m lt out = absurd (omega arith)
one_less (k ∷ marks) zero m lt out = rw (is_same m m refl, is_other k m out) (omega arith)
one_less (k ∷ marks) (suc y) m lt out = let ih = one_less marks y m (omega arith) out in omega arith

pub kept_set : (first marks : List ℕ) (y m : ℕ) → AreKept m first marks → y < length marks → AreKept m first (set marks y m)
kept_set first marks y m kept lt a = elim (cases_eq a y) [
  | inl same ↦ inr (ap (λ i. get_or (set marks y m) i 0) same ∙ get_or-set_same marks y m 0 lt)
  | inr other ↦ elim (kept a) [
    | inl p ↦ inl (get_or-set_other marks y a m 0 other ∙ p)
    | inr p ↦ inr (get_or-set_other marks y a m 0 other ∙ p)
  ]
]

pub kept_trans : (m : ℕ) (first marks new : List ℕ) → AreKept m first marks → AreKept m marks new → AreKept m first new
kept_trans m first marks new f g a = elim (g a) [
  | inl p ↦ elim (f a) [ inl q ↦ inl (p ∙ q) | inr q ↦ inr (p ∙ q) ]
  | inr p ↦ inr p
]

module _ (g : List (List ℕ)) (keys : List ℕ) (key from : ℕ) where
  found_on : (x y : ℕ) → IsFound g keys key from x → HasEdge g x y → get_or keys y 0 ≡ key → IsFound g keys key from y
  found_on x y (inl same) e open' = inr (edge (subst (λ z. HasEdge g z y) same e, open'))
  found_on x y (inr p) e open' = inr (chain p (edge (e, open')))

  -- an open target is marked, and left to scan
  pub mark_next : (marks left later : List ℕ) (x y : ℕ) → IsSearch g keys key from marks left x → IsFound g keys key from x → HasEdge g x y → get_or keys y 0 ≡ key → y < length marks → later ≡ left ++ y ∷ [] → IsSearch g keys key from (set marks y from) later x
  mark_next marks left later x y s found e open' lt push =
      let same_len : length (set marks y from) ≡ length marks = length-set marks y from in
      let there : (a : ℕ) → Contains left a → Contains later a = λ a p. subst (λ (l : List ℕ). Contains l a) (sym push) (Contains-append_left left (y ∷ []) a p) in
      let last : Contains later y = subst (λ (l : List ℕ). Contains l y) (sym push) (Contains-push left y) in
      record {
        sound = λ a la p. elim (set_back marks y from a p) [
          | inl q ↦ s.sound a (omega arith) q
          | inr same ↦ subst (λ z. IsFound g keys key from z) (sym same) (found_on x y found e open')
        ];
        nodes = λ a p. elim (Contains-push_cases left y a (subst (λ (l : List ℕ). Contains l a) push p)) [
          | inl q ↦ let was = s.nodes a q in ((let below = was.0 in omega arith), set_grows marks y from lt a was.1)
          | inr same ↦ ((omega arith), subst (λ z. get_or (set marks y from) z 0 ≡ from) same (get_or-set_same marks y from 0 lt))
        ];
        settled = λ a la p. elim (set_back marks y from a p) [
          | inl q ↦ elim (s.settled a (omega arith) q) [
            | inl u ↦ inl (there a u)
            | inr u ↦ elim u [
              | inl v ↦ inr (inl (λ b h o. set_grows marks y from lt b (v b h o)))
              | inr v ↦ inr (inr v)
            ]
          ]
          | inr same ↦ inl (subst (λ z. Contains later z) (sym same) last)
        ];
      }

  -- a node is taken off to scan
  pub pop_next : (marks left rest : List ℕ) (x n : ℕ) → IsSearch g keys key from marks left n → length marks ≡ n → left ≡ rest ++ x ∷ [] → IsSearch g keys key from marks rest x
  pop_next marks left rest x n s len popped = record {
    sound = s.sound;
    nodes = λ a p. s.nodes a (subst (λ (l : List ℕ). Contains l a) (sym popped) (Contains-append_left rest (x ∷ []) a p));
    settled = λ a la p. elim (s.settled a la p) [
      | inl u ↦ elim (Contains-push_cases rest x a (subst (λ (l : List ℕ). Contains l a) popped u)) [
        | inl v ↦ inl v
        | inr same ↦ inr (inr (sym same))
      ]
      | inr u ↦ elim u [
        | inl v ↦ inr (inl v)
        | inr v ↦ absurd (omega arith)
      ]
    ];
  }

  -- all its targets were scanned
  pub done_next : (marks left : List ℕ) (x n : ℕ) → IsSearch g keys key from marks left x → IsSettled g keys key marks from x → IsSearch g keys key from marks left n
  done_next marks left x n s done = record {
    sound = s.sound;
    nodes = s.nodes;
    settled = λ a la p. elim (s.settled a la p) [
      | inl u ↦ inl u
      | inr u ↦ elim u [
        | inl v ↦ inr (inl v)
        | inr v ↦ inr (inl (subst (λ z. IsSettled g keys key marks from z) (sym v) done))
      ]
    ];
  }

  -- the search begins with one node
  pub first_search : (marks left : List ℕ) → from < length marks → left ≡ [] ++ from ∷ [] → ((a : ℕ) → a < length marks → get_or marks a 0 ≡ from → ⊥) → IsSearch g keys key from (set marks from from) left (length marks)
  first_search marks left lt is new =
      let same_len : length (set marks from from) ≡ length marks = length-set marks from from in
      let only : (a : ℕ) → a < length marks → get_or (set marks from from) a 0 ≡ from → a ≡ from = λ a la p. elim (set_back marks from from a p) [ inl q ↦ absurd (new a la q) | inr same ↦ same ] in
      let there : Contains left from = subst (λ (l : List ℕ). Contains l from) (sym is) (Contains-push [] from) in
      record {
        sound = λ a la p. inl (only a (omega arith) p);
        nodes = λ a p. elim (Contains-push_cases [] from a (subst (λ (l : List ℕ). Contains l a) is p)) [
          | inl q ↦ let none = q.1 in absurd (omega arith)
          | inr same ↦ ((omega arith), subst (λ z. get_or (set marks from from) z 0 ≡ from) same (get_or-set_same marks from from 0 lt))
        ];
        settled = λ a la p. inl (subst (λ z. Contains left z) (sym (only a (omega arith) p)) there);
      }

  -- at the end what is marked is what is found
  module _ (marks : List ℕ) (n : ℕ) (s : IsSearch g keys key from marks [] n) (len : length marks ≡ n) (within : (a b : ℕ) → HasEdge g a b → b < n) where
    closed_step : (a b : ℕ) → a < n → get_or marks a 0 ≡ from → HasEdge g a b → get_or keys b 0 ≡ key → get_or marks b 0 ≡ from
    closed_step a b lt p e open' = elim (s.settled a (omega arith) p) [
      | inl u ↦ let none = u.1 in absurd (omega arith)
      | inr u ↦ elim u [
        | inl v ↦ v b e open'
        | inr v ↦ absurd (omega arith)
      ]
    ]

    closed_on : {a b : ℕ} → a < n → get_or marks a 0 ≡ from → Reach (Through g keys key) a b → get_or marks b 0 ≡ from
    closed_on lt p (edge {a = a} {b = b} e) = closed_step a b lt p e.0 e.1
    closed_on lt p (onward {a = a} {b = m} e q) = closed_on (within a m e.0) (closed_step a m lt p e.0 e.1) q

    pub all_found : from < n → get_or marks from 0 ≡ from → (b : ℕ) → b < n → (get_or marks b 0 ≡ from) ↔ IsFound g keys key from b
    all_found lt here b lb = (
      s.sound b (omega arith),
      (λ f. elim f [
        | inl same ↦ subst (λ z. get_or marks z 0 ≡ from) (sym same) here
        | inr p ↦ closed_on lt here p
      ]),
    )

-- the targets up to here are marked
pub targets_next : (keys marks more xs items : List ℕ) (key m i : ℕ) → xs ≡ items → i < length items → ((a : ℕ) → get_or marks a 0 ≡ m → get_or more a 0 ≡ m) → (get_or keys (get_or items i 0) 0 ≡ key → get_or more (get_or items i 0) 0 ≡ m)
    → ((j : ℕ) → j < i → get_or keys (get_or xs j 0) 0 ≡ key → get_or marks (get_or xs j 0) 0 ≡ m) → (j : ℕ) → j < i + 1 → get_or keys (get_or xs j 0) 0 ≡ key → get_or more (get_or xs j 0) 0 ≡ m
targets_next keys marks more xs items key m i e lt grows here before j h o = elim (cases_lt j i) [
  | inl less ↦ grows (get_or xs j 0) (before j less o)
  | inr more' ↦
      let same : j ≡ i = omega arith in
      let at : get_or xs j 0 ≡ get_or items i 0 = ap (λ (l : List ℕ). get_or l j 0) e ∙ ap (λ k. get_or items k 0) same in
      ap (λ z. get_or more z 0) at ∙ here (sym (ap (λ z. get_or keys z 0) at) ∙ o)
]

pub settled_all : (g : List (List ℕ)) (keys marks : List ℕ) (key m x i : ℕ) → length (get_or g x []) ≤ i → ((j : ℕ) → j < i → get_or keys (get_or (get_or g x []) j 0) 0 ≡ key → get_or marks (get_or (get_or g x []) j 0) 0 ≡ m) → IsSettled g keys key marks m x
settled_all g keys marks key m x i end h b e o =
    let lt = e.1 in
    let at : get_or (get_or g x []) e.0 0 ≡ b = get_or_default (get_or g x []) e.0 0 b lt ∙ e.2 in
    ap (λ z. get_or marks z 0) (sym at) ∙ h e.0 (omega arith) (ap (λ z. get_or keys z 0) at ∙ o)
