-- Rows of needs, from the rows of the graph of steps.
use Rattle.std.proofs.Common.{◌≡◌, ◌⊎◌, ◌↔◌, ℕ, zero, suc, ◌+◌, ◌<◌, ◌≤◌, List, [], ◌∷◌, get_or, take, length, refl, ap, sym, ◌∙◌, subst, inl, inr, arith}
use Rattle.std.specs.List.{All}
use Rattle.std.proofs.lemmas.Bool.{cases_eq, cases_lt}
use Rattle.std.proofs.lemmas.List.{get_or_default, get_or_past}
use Rattle.std.proofs.lemmas.List.Elements.{Contains-get_or}
use Rattle.numbered_nodes.specs.Bits.{has, room}
use Rattle.numbered_nodes.specs.Reach.{Reach, InOneLoop}
use Rattle.numbered_nodes.specs.Edges.{HasEdge, InRange, Relates, HaveRoom}
use Rattle.numbered_nodes.proofs.ReachLaws.{more_edges}
use Rattle.numbered_nodes.specs.Needs.{Needs, Leads, Hub, link, away, into, InOneNumber, InLoop, Follows}
use Rattle.numbered_nodes.proofs.Leading.{hubs_lead, needs_law}

-- the front of a list
front_at : {X : Type 0} (xs : List X) (n i : ℕ) (d : X) → i < n → get_or (take n xs) i d ≡ get_or xs i d
front_at [] zero i d lt = refl
front_at [] (suc n) i d lt = refl
front_at (x ∷ xs) zero i d lt = absurd (omega arith)
front_at (x ∷ xs) (suc n) zero d lt = refl
front_at (x ∷ xs) (suc n) (suc i) d lt = front_at xs n i d (omega arith)

in_front : {X : Type 0} (xs : List X) (n i : ℕ) → i < length (take n xs) → (i < n) × (i < length xs)
in_front [] zero i lt = absurd (omega arith)
in_front [] (suc n) i lt = absurd (omega arith)
in_front (x ∷ xs) zero i lt = absurd (omega arith)
in_front (x ∷ xs) (suc n) zero lt = (omega arith, omega arith)
in_front (x ∷ xs) (suc n) (suc i) lt = let h = in_front xs n i (omega arith) in ((let a = h.0 in omega arith), (let b = h.1 in omega arith))

pub front_room : (r n : ℕ) (rows new : List (List ℕ)) → new ≡ take n rows → HaveRoom r rows → HaveRoom r new
front_room r n rows new e h = subst (HaveRoom r) (sym e) (λ i d lt. let p = in_front rows n i lt in subst (λ (row : List ℕ). room row ≡ r) (sym (front_at rows n i d p.0)) (h i d p.1))

pub targets_range : (g : List (List ℕ)) (m : ℕ) → ((x y : ℕ) → HasEdge g x y → y < m) → InRange g m
targets_range g m h i d lt =
    subst (λ (xs : List ℕ). All (λ b. b < m) xs) (get_or_default g i [] d lt)
    (λ j e less. subst (λ z. z < m) (get_or_default (get_or g i []) j 0 e less) (h i (get_or (get_or g i []) j 0) (Contains-get_or (get_or g i []) j 0 less)))

module _ (E : ℕ → ℕ → Type 0) (loops : List ℕ) (n : ℕ) (within : (a b : ℕ) → E a b → (a < n) × (b < n)) where
  abbrev H : ℕ → ℕ → Type 0
  H = Hub E (λ a. get_or loops a 0) n

  pub hub_below : length loops ≡ n → All (λ k. k < n) loops → (x y : ℕ) → H x y → y < n + n
  hub_below len small x y (link e) = let lt = (within x y e).1 in omega arith
  hub_below len small x y (away {z = z} e out h) = let lz = (within x z e).1 in let s = small z 0 (omega arith) in omega arith
  hub_below len small x y (into h lt) = omega arith

  pub step_relates : (g rows new : List (List ℕ)) → new ≡ take n rows → ((x y : ℕ) → HasEdge g x y ↔ H x y) → ((a b : ℕ) → Relates rows a b ↔ Reach (HasEdge g) a b)
      → (a b : ℕ) → a < n → b < n → Relates new a b ↔ Reach (Leads E (InOneNumber E (λ c. get_or loops c 0) n) n) a b
  step_relates g rows new e edges exact a b la lb =
      let row : get_or new a [] ≡ get_or rows a [] = ap (λ (l : List (List ℕ)). get_or l a []) e ∙ front_at rows n a [] la in
      let lead = hubs_lead E (λ c. get_or loops c 0) n within a b la lb in (
        (λ p. lead.0 (more_edges (λ x y. (edges x y).0) ((exact a b).0 (ap (λ r. has r b) (sym row) ∙ p)))),
        (λ p. ap (λ r. has r b) row ∙ (exact a b).1 (more_edges (λ x y. (edges x y).1) (lead.1 p))),
      )

module _ (E S T : ℕ → ℕ → Type 0) (n : ℕ) (within : (a b : ℕ) → E a b → (a < n) × (b < n)) (same : (a b : ℕ) → a < n → b < n → S a b ↔ T a b) where
  pub leads_alike : (a b : ℕ) → Leads E S n a b → Leads E T n a b
  leads_alike a b (inl e) = inl e
  leads_alike a b (inr h) =
      let w = within a h.0 h.1 in
      inr (h.0, h.1, (λ t. h.2 ((same a h.0 w.0 w.1).1 t)), (same h.0 b w.1 h.4).0 h.3, h.4)

iff_back : {A B : Type 0} → (A ↔ B) → B ↔ A
iff_back f = (f.1, f.0)

module _ (E M : ℕ → ℕ → Type 0) (module_of numbers own : List ℕ) (n k : ℕ) (len : length module_of ≡ n) (within : (a b : ℕ) → E a b → (a < n) × (b < n)) (small : All (λ m. m < k) module_of)
    (loops : (a b : ℕ) → a < k → b < k → (get_or numbers a 0 ≡ get_or numbers b 0) ↔ InOneLoop M a b) (owned : (a : ℕ) → a < n → get_or own a 0 ≡ get_or numbers (get_or module_of a 0) 0) where
  abbrev L : ℕ → ℕ → Type 0
  L = InLoop E M (λ a. get_or module_of a 0) n

  module_below : 0 < k → (a : ℕ) → get_or module_of a 0 < k
  module_below some a = elim (cases_lt a (length module_of)) [
    | inl lt ↦ small a 0 lt
    | inr ge ↦ subst (λ m. m < k) (sym (get_or_past module_of a 0 ge)) some
  ]

  module_none : k ≤ 0 → (a : ℕ) → get_or module_of a 0 ≡ 0
  module_none none a = elim (cases_lt a (length module_of)) [
    | inl lt ↦ let s = small a 0 lt in absurd (omega arith)
    | inr ge ↦ get_or_past module_of a 0 ge
  ]

  decide : (a b : ℕ) → L a b ⊎ (L a b → ⊥)
  decide a b = elim (cases_lt 0 k) [
    | inl some ↦
        let is = loops (get_or module_of a 0) (get_or module_of b 0) (module_below some a) (module_below some b) in
        elim (cases_eq (get_or numbers (get_or module_of a 0) 0) (get_or numbers (get_or module_of b 0) 0)) [
          | inl e ↦ inl (is.0 e)
          | inr other ↦ inr (λ s. other (is.1 s))
        ]
    | inr none ↦ inl (inl (module_none (let z = none in omega arith) a ∙ sym (module_none (let z = none in omega arith) b)))
  ]

  same_number : (a b : ℕ) → a < n → b < n → (get_or own a 0 ≡ get_or own b 0) ↔ L a b
  same_number a b la lb =
      let is = loops (get_or module_of a 0) (get_or module_of b 0) (small a 0 (let z = len in omega arith)) (small b 0 (let z = len in omega arith)) in
      ((λ e. is.0 (sym (owned a la) ∙ e ∙ owned b lb)), (λ s. owned a la ∙ is.1 s ∙ sym (owned b lb)))

  pub needs_from_steps : Follows E M (λ a. get_or module_of a 0) n → (rows : List (List ℕ)) → ((a b : ℕ) → a < n → b < n → Relates rows a b ↔ Reach (Leads E (InOneNumber E (λ c. get_or own c 0) n) n) a b)
      → (a b : ℕ) → a < n → b < n → Relates rows a b ↔ Needs E L n a b
  needs_from_steps follows rows exact a b la lb =
      let law = needs_law E M (λ c. get_or module_of c 0) n follows decide a b in
      let N = InOneNumber E (λ c. get_or own c 0) n in
      let to = leads_alike E N L n within same_number in
      let from = leads_alike E L N n within (λ x y lx ly. iff_back (same_number x y lx ly)) in (
        (λ p. law.1 (more_edges to ((exact a b la lb).0 p))),
        (λ p. (exact a b la lb).1 (more_edges from (law.0 p))),
      )

-- the number of a node's loop is a node
pub owned_small : (module_of numbers own : List ℕ) (n k : ℕ) → length module_of ≡ n → length own ≡ n → k ≤ n → All (λ m. m < k) module_of → ((a : ℕ) → a < k → get_or numbers a 0 ≤ a) → ((a : ℕ) → a < n → get_or own a 0 ≡ get_or numbers (get_or module_of a 0) 0) → All (λ m. m < n) own
owned_small module_of numbers own n k len len_own few small least owned i d lt =
    let at = owned i (omega arith) in
    let s = small i 0 (omega arith) in
    let l = least (get_or module_of i 0) s in
    let below : get_or own i 0 < n = omega arith in
    subst (λ z. z < n) (get_or_default own i 0 d lt) below
