-- Rows of lists and of bits.
use Rattle.std.proofs.Common.{◌≡◌, ℕ, zero, suc, ◌+◌, ◌<◌, ◌≤◌, false, List, [], ◌∷◌, get_or, length, refl, ap, sym, ◌∙◌, subst, arith, Vec, inl, inr}
use Rattle.std.specs.Global.{Global}
use Rattle.std.specs.List.{All}
use Rattle.std.proofs.lemmas.Bool.{cases_lt}
use Rattle.std.proofs.lemmas.List.{length-map, get_or_past, get_or_default}
use Rattle.numbered_nodes.specs.Bits.{has}
use Rattle.numbered_nodes.proofs.Words.{none_has}
use Rattle.numbered_nodes.specs.Edges.{lists, HasEdge, InRange}

-- beyond the rows nothing is related
pub beyond : (rows : List (List ℕ)) (a b : ℕ) → length rows ≤ a → has (get_or rows a []) b ≡ false
beyond rows a b h = ap (λ r. has r b) (get_or_past rows a [] h) ∙ none_has 0 b

-- a row of the graph
pub row_at : (g : List (Vec ℕ Global)) (i : ℕ) (d : Vec ℕ Global) → i < length g → get_or (lists g) i [] ≡ (get_or g i d).items
row_at [] i d h = absurd (omega arith)
row_at (v ∷ g) zero d h = refl
row_at (v ∷ g) (suc i) d h = row_at g i d (omega arith)

pub row_past : (g : List (Vec ℕ Global)) (i : ℕ) → length g ≤ i → get_or (lists g) i [] ≡ []
row_past [] i h = refl
row_past (v ∷ g) zero h = absurd (omega arith)
row_past (v ∷ g) (suc i) h = row_past g i (omega arith)

pub no_edge_past : (g : List (Vec ℕ Global)) (a b : ℕ) → length g ≤ a → HasEdge (lists g) a b → ⊥
no_edge_past g a b h e =
    let none : length (get_or (lists g) a []) ≡ 0 = ap length (row_past g a h) in
    let some : e.0 < length (get_or (lists g) a []) = e.1 in omega arith

pub row_in_range : (g : List (Vec ℕ Global)) (n i : ℕ) (v : Vec ℕ Global) → InRange (lists g) n → i < length g → v ≡ get_or g i v → All (λ b. b < n) v.items
row_in_range g n i v h lt e =
    let row : get_or (lists g) i [] ≡ v.items = row_at g i v lt ∙ ap (λ w. w.items) (sym e) in
    subst (λ (xs : List ℕ). All (λ b. b < n) xs) row (h i [] (let s : i < length (lists g) = simp length-map lt in s))

row_of : (g : List (Vec ℕ Global)) (i : ℕ) (v : Vec ℕ Global) (d : List ℕ) → i < length g → v ≡ get_or g i v → get_or (lists g) i d ≡ v.items
row_of g i v d lt e = sym (get_or_default (lists g) i [] d (let s : i < length (lists g) = simp length-map lt in s)) ∙ row_at g i v lt ∙ ap (λ w. w.items) (sym e)

-- one row more is in range
pub range_next : (g : List (Vec ℕ Global)) (n i : ℕ) (v : Vec ℕ Global) → i < length g → v ≡ get_or g i v → All (λ b. b < n) v.items → ((j : ℕ) (d : List ℕ) → j < i → All (λ b. b < n) (get_or (lists g) j d)) → (j : ℕ) (d : List ℕ) → j < i + 1 → All (λ b. b < n) (get_or (lists g) j d)
range_next g n i v lt e here before j d h = elim (cases_lt j i) [
  | inl less ↦ before j d less
  | inr more ↦
      let same : i ≡ j = omega arith in
      subst (λ k. All (λ b. b < n) (get_or (lists g) k d)) same (subst (λ (xs : List ℕ). All (λ b. b < n) xs) (sym (row_of g i v d lt e)) here)
]
