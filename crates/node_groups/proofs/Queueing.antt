-- A node is put, or listed.
use Rattle.std.proofs.Common.{◌≡◌, ◌⊎◌, ◌↔◌, ℕ, zero, suc, ◌+◌, ◌<◌, ◌≤◌, Bool, true, false, List, [], ◌∷◌, get_or, length, refl, ap, sym, ◌∙◌, subst, inl, inr, arith}
use Rattle.std.proofs.Math.ListN.{set}
use Rattle.std.specs.List.{Contains, All}
use Rattle.std.proofs.lemmas.Bool.{cases_eq, cases_lt}
use Rattle.std.proofs.lemmas.List.{get_or_default, get_or-set_same, get_or-set_other}
use Rattle.numbered_nodes.specs.Reach.{Reach, edge}
use Rattle.numbered_nodes.specs.Edges.{HasEdge}
use Rattle.numbered_nodes.proofs.ReachLaws.{chain}
use Rattle.node_groups.specs.Queue.{Is, IsQueue, AreEnds, unlisted}
use Rattle.node_groups.proofs.Keys.{cons_first, cons_later, cons_cases}

-- the end of one node moved
pub ends_next : (g : List (List ℕ)) (ends : List ℕ) (node left : ℕ) → node < length ends → left ≤ length (get_or g node []) → AreEnds g ends → AreEnds g (set ends node left)
ends_next g ends node left lt le within x = elim (cases_eq x node) [
  | inl same ↦
      let at : get_or (set ends node left) x 0 ≡ left = ap (λ k. get_or (set ends node left) k 0) same ∙ get_or-set_same ends node left 0 lt in
      let row : length (get_or g x []) ≡ length (get_or g node []) = ap (λ k. length (get_or g k [])) same in omega arith
  | inr other ↦ let at = get_or-set_other ends node x left 0 other in let was = within x in omega arith
]

module _ (g : List (List ℕ)) (n : ℕ) (listed : List Bool) (ends : List ℕ) (waiting : List (List ℕ)) (ready rest : List ℕ) (node left : ℕ)
    (q : IsQueue g n listed ends waiting ready (node ∷ rest)) (lt : node < length ends)
    (gone : (i : ℕ) → left ≤ i → i < get_or ends node 0 → Is listed (get_or (get_or g node []) i 0) true) where
  targets_next : (x i : ℕ) → get_or (set ends node left) x 0 ≤ i → i < length (get_or g x []) → Is listed (get_or (get_or g x []) i 0) true
  targets_next x i le less = elim (cases_eq x node) [
    | inl same ↦
        let at : get_or (set ends node left) x 0 ≡ left = ap (λ k. get_or (set ends node left) k 0) same ∙ get_or-set_same ends node left 0 lt in
        subst (λ k. Is listed (get_or (get_or g k []) i 0) true) (sym same) (elim (cases_lt i (get_or ends node 0)) [
          | inl below ↦ gone i (omega arith) below
          | inr above ↦ q.targets node i above (subst (λ k. i < length (get_or g k [])) same less)
        ])
    | inr other ↦ q.targets x i (let at = get_or-set_other ends node x left 0 other in omega arith) less
  ]

  -- it waits for a target
  pub put_waiting : (after : List (List ℕ)) (target : ℕ) → HasEdge g node target → Is listed target false → ((z x : ℕ) → HasEdge after z x ↔ (HasEdge waiting z x ⊎ ((z ≡ target) × (x ≡ node)))) → IsQueue g n listed (set ends node left) after ready rest
  put_waiting after target e out step = record {
    targets = targets_next;
    now = q.now;
    waits = λ z x h free. elim ((step z x).0 h) [
      | inl was ↦ q.waits z x was free
      | inr p ↦
          let here = q.nodes node (cons_first node rest) in
          let lead : HasEdge g node z = subst (λ k. HasEdge g node k) (sym p.0) e in
          subst (λ k. (k < n) × (Is listed k false × HasEdge g k z)) (sym p.1) (here.0, (here.1, lead))
    ];
    nodes = λ x h. q.nodes x (cons_later node rest x h);
    placed = λ x lx free. elim (q.placed x lx free) [
      | inl h ↦ elim (cons_cases node rest x h) [
        | inl same ↦ inr (inr (target, subst (λ k. HasEdge g k target) (sym same) e, out, (step target x).1 (inr (refl, same))))
        | inr later ↦ inl later
      ]
      | inr h ↦ elim h [
        | inl r ↦ inr (inl r)
        | inr w ↦ inr (inr (w.0, w.1, w.2, (step w.0 x).1 (inl w.3)))
      ]
    ];
  }

  -- it is ready
  all_gone : left ≡ 0 → (z : ℕ) → HasEdge g node z → Is listed z true
  all_gone none z e =
      let at : get_or (get_or g node []) e.0 0 ≡ z = get_or_default (get_or g node []) e.0 0 z e.1 ∙ e.2 in
      let end : get_or (set ends node left) node 0 ≡ left = get_or-set_same ends node left 0 lt in
      subst (λ k. Is listed k true) at (targets_next node e.0 (omega arith) e.1)

  pub put_in : (after : List ℕ) → left ≡ 0 → ((a : ℕ) → Contains after a ↔ (Contains ready a ⊎ (a ≡ node))) → IsQueue g n listed (set ends node left) waiting after rest
  put_in after none step = record {
    targets = targets_next;
    now = λ x h. elim ((step x).0 h) [
      | inl was ↦ q.now x was
      | inr same ↦
          let here = q.nodes node (cons_first node rest) in
          subst (λ k. (k < n) × (Is listed k false × ((z : ℕ) → HasEdge g k z → Is listed z true))) (sym same) (here.0, (here.1, all_gone none))
    ];
    waits = q.waits;
    nodes = λ x h. q.nodes x (cons_later node rest x h);
    placed = λ x lx free. elim (q.placed x lx free) [
      | inl h ↦ elim (cons_cases node rest x h) [
        | inl same ↦ inr (inl ((step x).1 (inr same)))
        | inr later ↦ inl later
      ]
      | inr h ↦ elim h [
        | inl r ↦ inr (inl ((step x).1 (inl r)))
        | inr w ↦ inr (inr w)
      ]
    ];
  }

-- a node that is ready is listed, and those that waited for it are to be put again
module _ (g : List (List ℕ)) (n : ℕ) (listed : List Bool) (ends : List ℕ) (waiting after : List (List ℕ)) (ready rest waiters : List ℕ) (y : ℕ)
    (q : IsQueue g n listed ends waiting ready []) (wide : length listed ≡ n) (high : length waiting ≡ n) (there : Contains ready y) (less : (a : ℕ) → Contains rest a ↔ (Contains ready a × (a ≡ y → ⊥)))
    (took : get_or waiting y [] ≡ waiters) (gone : after ≡ set waiting y []) where
  at_y : (y < n) × (Is listed y false × ((z : ℕ) → HasEdge g y z → Is listed z true))
  at_y = q.now y there

  was_out : (z : ℕ) → Is (set listed y true) z false → Is listed z false × (z ≡ y → ⊥)
  was_out z out = elim (cases_eq z y) [
    | inl same ↦
        let here : get_or (set listed y true) z false ≡ true = ap (λ k. get_or (set listed y true) k false) same ∙ get_or-set_same listed y true false (let w = at_y.0 in omega arith) in
        let no' : true ≡ false = sym here ∙ out in absurd (let h : ⊥ = cc in h)
    | inr other ↦ (sym (get_or-set_other listed y z true false other) ∙ out, other)
  ]

  still : (z : ℕ) → Is listed z true → Is (set listed y true) z true
  still z t = elim (cases_eq z y) [
    | inl same ↦ ap (λ k. get_or (set listed y true) k false) same ∙ get_or-set_same listed y true false (let w = at_y.0 in omega arith)
    | inr other ↦ get_or-set_other listed y z true false other ∙ t
  ]

  still_out : (x : ℕ) → Is listed x false → (x ≡ y → ⊥) → Is (set listed y true) x false
  still_out x out other = get_or-set_other listed y x true false other ∙ out

  after_other : (z : ℕ) → (z ≡ y → ⊥) → get_or after z [] ≡ get_or waiting z []
  after_other z other = ap (λ (l : List (List ℕ)). get_or l z []) gone ∙ get_or-set_other waiting y z [] [] other

  none_at_y : (x : ℕ) → HasEdge after y x → ⊥
  none_at_y x e =
      let row : get_or after y [] ≡ [] = ap (λ (l : List (List ℕ)). get_or l y []) gone ∙ get_or-set_same waiting y [] [] (let w = at_y.0 in omega arith) in
      let h : Contains [] x = subst (λ (l : List ℕ). Contains l x) row e in
      let lt = h.1 in absurd (omega arith)

  -- who leads to an unlisted node isn't ready
  not_y : (x z : ℕ) → HasEdge g x z → Is listed z false → x ≡ y → ⊥
  not_y x z e out same = let t = at_y.1.1 z (subst (λ k. HasEdge g k z) same e) in let no' : true ≡ false = sym t ∙ out in cc

  pub listed_next : IsQueue g n (set listed y true) ends after rest waiters
  listed_next = record {
    targets = λ x i le less'. still (get_or (get_or g x []) i 0) (q.targets x i le less');
    now = λ x h.
        let was = (less x).0 h in
        let old = q.now x was.0 in
        (old.0, (still_out x old.1.0 was.1, (λ z e. still z (old.1.1 z e))));
    waits = λ z x e out. elim (cases_eq z y) [
      | inl same ↦ absurd (none_at_y x (subst (λ k. HasEdge after k x) same e))
      | inr other ↦
          let free = (was_out z out).0 in
          let old = q.waits z x (subst (λ (l : List ℕ). Contains l x) (after_other z other) e) free in
          (old.0, (still_out x old.1.0 (not_y x z old.1.1 free), old.1.1))
    ];
    nodes = λ x h.
        let old = q.waits y x (subst (λ (l : List ℕ). Contains l x) (sym took) h) at_y.1.0 in
        (old.0, still_out x old.1.0 (not_y x y old.1.1 at_y.1.0));
    placed = λ x lx out.
        let free = was_out x out in
        elim (q.placed x lx free.0) [
          | inl h ↦ let none = h.1 in absurd (omega arith)
          | inr h ↦ elim h [
            | inl r ↦ inr (inl ((less x).1 (r, free.1)))
            | inr w ↦ elim (cases_eq w.0 y) [
              | inl same ↦ inl (subst (λ (l : List ℕ). Contains l x) took (subst (λ k. HasEdge waiting k x) same w.3))
              | inr other ↦ inr (inr (w.0, w.1, still_out w.0 w.2 other, subst (λ (l : List ℕ). Contains l x) (sym (after_other w.0 other)) w.3))
            ]
          ]
        ];
  }

-- the beginning: nobody is listed, ready or waiting
first_queue : (g : List (List ℕ)) (n : ℕ) (listed : List Bool) (ends : List ℕ) (waiting : List (List ℕ)) (todo : List ℕ) → ((k : ℕ) → Is listed k false) → ((z : ℕ) → get_or waiting z [] ≡ []) → All (λ x. x < n) todo → ((x : ℕ) → x < n → Contains todo x) → ((x : ℕ) → get_or ends x 0 ≡ length (get_or g x [])) → IsQueue g n listed ends waiting [] todo
first_queue g n listed ends waiting todo out none below all counts = record {
  targets = λ x i le less. let c = counts x in absurd (omega arith);
  now = λ x h. let lt = h.1 in absurd (omega arith);
  waits = λ z x e free. let h : Contains [] x = subst (λ (l : List ℕ). Contains l x) (none z) e in let lt = h.1 in absurd (omega arith);
  nodes = λ x h. (subst (λ k. k < n) h.2 (below h.0 x h.1), out x);
  placed = λ x lx free. inl (all x lx);
}

pub start_queue : (g : List (List ℕ)) (n : ℕ) (listed : List Bool) (ends : List ℕ) (waiting : List (List ℕ)) (ready todo : List ℕ) → ((k : ℕ) → Is listed k false) → ready ≡ [] → ((z : ℕ) → get_or waiting z [] ≡ []) → All (λ x. x < n) todo → ((x : ℕ) → x < n → Contains todo x) → ((x : ℕ) → get_or ends x 0 ≡ length (get_or g x [])) → IsQueue g n listed ends waiting ready todo
start_queue g n listed ends waiting ready todo out f none below all counts = subst (λ (r : List ℕ). IsQueue g n listed ends waiting r todo) (sym f) (first_queue g n listed ends waiting todo out none below all counts)

-- a measure: who isn't listed
pub one_less : (listed : List Bool) (y : ℕ) → y < length listed → Is listed y false → unlisted (set listed y true) + 1 ≡ unlisted listed
one_less [] y lt out = absurd (omega arith)
one_less (true ∷ bs) zero lt out = absurd (let h : ⊥ = cc in h)
one_less (false ∷ bs) zero lt out = omega arith
one_less (b ∷ bs) (suc y) lt out = let ih = one_less bs y (omega arith) out in omega arith

-- in a relation without a cycle some element of a part leads to none of it
no_least : (R : ℕ → ℕ → Type 0) → ((a b c : ℕ) → R a b → R b c → R a c) → ((a : ℕ) → R a a → ⊥) → (S : ℕ → Type 0) → (n : ℕ) → ((m : ℕ) → m < n → S m → ((y : ℕ) → y < n → S y → R m y → ⊥) → ⊥) → (x : ℕ) → x < n → S x → ⊥
no_least R trans free S zero h x lt s = absurd (omega arith)
no_least R trans free S (suc n) h x lt s =
    let below : (m : ℕ) → m < n → S m → ((y : ℕ) → y < n → S y → R m y → ⊥) → ⊥ = λ m lm sm least. h m (omega arith) sm (λ y ly sy r. elim (cases_lt y n) [
      | inl less ↦ least y less sy r
      | inr more ↦
          let same : y ≡ n = omega arith in
          h n (omega arith) (subst S same sy) (λ z lz sz t. elim (cases_lt z n) [
            | inl less ↦ least z less sz (trans m n z (subst (λ k. R m k) same r) t)
            | inr top ↦ let e : z ≡ n = omega arith in free n (subst (λ k. R n k) e t)
          ])
    ]) in
    let none : (m : ℕ) → m < n → S m → ⊥ = no_least R trans free S n below in
    elim (cases_lt x n) [
      | inl less ↦ none x less s
      | inr more ↦
          let same : x ≡ n = omega arith in
          h n (omega arith) (subst S same s) (λ z lz sz t. elim (cases_lt z n) [
            | inl less ↦ none z less sz
            | inr top ↦ let e : z ≡ n = omega arith in free n (subst (λ k. R n k) e t)
          ])
    ]

-- so where nobody is ready all are listed
pub all_listed : (g : List (List ℕ)) (n : ℕ) (listed : List Bool) (ends : List ℕ) (waiting : List (List ℕ)) (ready : List ℕ) → IsQueue g n listed ends waiting ready [] → ((a : ℕ) → Contains ready a → ⊥) → ((a b : ℕ) → HasEdge g a b → b < n) → ((a : ℕ) → Reach (HasEdge g) a a → ⊥) → (x : ℕ) → x < n → Is listed x false → ⊥
all_listed g n listed ends waiting ready q none within free x lt out = no_least (Reach (HasEdge g)) (λ a b c p r. chain p r) free (λ k. Is listed k false) n
    (λ m lm sm least. elim (q.placed m lm sm) [
      | inl h ↦ let l = h.1 in absurd (omega arith)
      | inr h ↦ elim h [
        | inl r ↦ none m r
        | inr w ↦ least w.0 (within m w.0 w.1) w.2 (edge w.1)
      ]
    ]) x lt out
