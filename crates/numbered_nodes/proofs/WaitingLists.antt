-- Lists of who waits, and who is placed.
use Rattle.std.specs.Prelude.{Result, Ok, Err, OnOk}
use Rattle.std.proofs.Common.{◌≡◌, ℕ, zero, suc, ◌+◌, ◌<◌, true, false, ◌||◌, List, [], ◌∷◌, ◌++◌, Vec, get_or, length, nat_eq, slice_set, refl, ap, sym, ◌∙◌, subst, inl, inr, arith}
use Rattle.std.specs.Global.{Global}
use Rattle.std.specs.List.{Contains}
use Rattle.std.proofs.lemmas.List.{get_or_default}
use Rattle.std.proofs.lemmas.Bool.{cases_eq, cases_lt}
use Rattle.std.proofs.lemmas.List.Elements.{Contains-append_left, Contains-append_cases}
use Rattle.numbered_nodes.specs.Bits.{has}
use Rattle.numbered_nodes.proofs.Booleans.{split_or, or_right, is_same, from_test}
use Rattle.numbered_nodes.specs.Edges.{lists, HasEdge}
use Rattle.numbered_nodes.proofs.Rows.{row_at}
use Rattle.numbered_nodes.proofs.Searches.{contains_last, Contains-one}
use Rattle.numbered_nodes.specs.Waiting.{IsReadyNow, IsLeft, IsPlaced, IsMore}

-- one list is put in place of another
pub set_same : (g : List (Vec ℕ Global)) (i : ℕ) (v : Vec ℕ Global) → i < length g → get_or (lists (slice_set g i v)) i [] ≡ v.items
set_same [] i v h = absurd (omega arith)
set_same (w ∷ g) zero v h = refl
set_same (w ∷ g) (suc i) v h = set_same g i v (omega arith)

pub set_other : (g : List (Vec ℕ Global)) (i j : ℕ) (v : Vec ℕ Global) → (j ≡ i → ⊥) → get_or (lists (slice_set g i v)) j [] ≡ get_or (lists g) j []
set_other [] i j v h = refl
set_other (w ∷ g) zero zero v h = absurd (h refl)
set_other (w ∷ g) zero (suc j) v h = refl
set_other (w ∷ g) (suc i) zero v h = refl
set_other (w ∷ g) (suc i) (suc j) v h = set_other g i j v (λ e. h (ap suc e))

-- lists that are all empty
pub none_next : (g : List (Vec ℕ Global)) (v : Vec ℕ Global) → v.items ≡ [] → ((z : ℕ) → get_or (lists g) z [] ≡ []) → (z : ℕ) → get_or (lists (g ++ v ∷ [])) z [] ≡ []
none_next [] v e h zero = e
none_next [] v e h (suc z) = refl
none_next (w ∷ g) v e h zero = h 0
none_next (w ∷ g) v e h (suc z) = none_next g v e (λ k. h (suc k)) z

pub nobody : (xs : List ℕ) (x : ℕ) → xs ≡ [] → Contains xs x → ⊥
nobody xs x e h = let lt = h.1 in let none : length xs ≡ 0 = ap length e in omega arith

-- who stands at a place of the list of a node, which is what it was
pub waiter_at : (now old : List (Vec ℕ Global)) (node i x : ℕ) (v : Vec ℕ Global) → node < length now → get_or (lists now) node [] ≡ get_or (lists old) node [] → i < length (get_or (lists old) node []) → x ≡ get_or (get_or now node v).items i x → x ≡ get_or (get_or (lists old) node []) i 0
waiter_at now old node i x v lt same li e = e ∙ ap (λ (l : List ℕ). get_or l i x) (sym (row_at now node v lt) ∙ same) ∙ get_or_default (get_or (lists old) node []) i x 0 li

pub stands : (xs : List ℕ) (i x : ℕ) → i < length xs → x ≡ get_or xs i 0 → Contains xs x
stands xs i x lt e = (i, lt, get_or_default xs i x 0 lt ∙ sym e)

-- what holds of each that stands in a list, and of one more
pub holds_next : (P Q : ℕ → Type 0) (xs : List ℕ) (i x : ℕ) → ((y : ℕ) → P y → Q y) → ((k : ℕ) → k < i → P (get_or xs k 0)) → x ≡ get_or xs i 0 → Q x → (k : ℕ) → k < i + 1 → Q (get_or xs k 0)
holds_next P Q xs i x keeps before e here k lt = elim (cases_lt k i) [
  | inl less ↦ keeps (get_or xs k 0) (before k less)
  | inr ge ↦ let same : i ≡ k = omega arith in subst Q (e ∙ ap (λ j. get_or xs j 0) same) here
]

pub holds_below : (P Q : ℕ → Type 0) (i : ℕ) → ((y : ℕ) → P y → Q y) → ((k : ℕ) → k < i → P k) → Q i → (k : ℕ) → k < i + 1 → Q k
holds_below P Q i keeps before here k lt = elim (cases_lt k i) [
  | inl less ↦ keeps k (before k less)
  | inr ge ↦ let same : i ≡ k = omega arith in subst Q same here
]

pub holds_of_each : (P : ℕ → Type 0) (xs : List ℕ) → ((k : ℕ) → k < length xs → P (get_or xs k 0)) → (x : ℕ) → Contains xs x → P x
holds_of_each P xs h x there = subst P (get_or_default xs there.0 0 x there.1 ∙ there.2) (h there.0 there.1)

-- where a call succeeded
pub on_both : {T E P Q R : Type 0} (r : Result T E) → (P → Q → R) → OnOk r P → OnOk r Q → OnOk r R
on_both (Ok x) f p q = f p q
on_both (Err e) f p q = tt

-- the row of a node
row_is : (needs : List (List ℕ)) (x : ℕ) (row : List ℕ) → x < length needs → row ≡ get_or needs x row → get_or needs x [] ≡ row
row_is needs x row lt e = get_or_default needs x [] row lt ∙ sym e

module _ (needs : List (List ℕ)) (n : ℕ) (listed : List ℕ) where
  -- what the row of x says of its needs
  pub left_of : (row : List ℕ) (x z : ℕ) → x < length needs → row ≡ get_or needs x row → z < n → has row z ≡ true → has listed z ≡ false → (z ≡ x → ⊥) → IsLeft needs n listed x z
  left_of row x z lx e lt p q other = record {
    node = lt;
    need = ap (λ (r : List ℕ). has r z) (row_is needs x row lx e) ∙ p;
    other = other;
    out = q;
  }

  pub ready_of : (row : List ℕ) (x : ℕ) → x < length needs → row ≡ get_or needs x row → ((z : ℕ) → z < n → has row z ≡ true → (z ≡ x → ⊥) → has listed z ≡ true) → IsReadyNow needs n listed x
  ready_of row x lx e h = λ z lz need other. h z lz (ap (λ (r : List ℕ). has r z) (sym (row_is needs x row lx e)) ∙ need) other

  -- nothing changed, and one change after another
  pub more_none : (r : List ℕ) (w : List (List ℕ)) → IsMore needs n listed r w r w
  more_none r w = record {
    grows = λ x p. p;
    sound = λ x p. inl p;
    kept = λ z x e. e;
    range = λ z x e. inl e;
    behind = λ z p. refl;
  }

  pub more_then : (r s t : List ℕ) (u v w : List (List ℕ)) → IsMore needs n listed r u s v → IsMore needs n listed s v t w → IsMore needs n listed r u t w
  more_then r s t u v w a b = record {
    grows = λ x p. b.grows x (a.grows x p);
    sound = λ x p. elim (b.sound x p) [ inl q ↦ a.sound x q | inr q ↦ inr q ];
    kept = λ z x e. b.kept z x (a.kept z x e);
    range = λ z x e. elim (b.range z x e) [ inl q ↦ a.range z x q | inr q ↦ inr q ];
    behind = λ z p. b.behind z p ∙ a.behind z p;
  }

  -- who is placed stays so
  pub still_placed : (r s : List ℕ) (u v : List (List ℕ)) → IsMore needs n listed r u s v → (x : ℕ) → IsPlaced needs n listed r u x → IsPlaced needs n listed s v x
  still_placed r s u v m x p = elim p [
    | inl q ↦ inl (m.grows x q)
    | inr q ↦ inr (q.0, q.1, m.kept q.0 x q.2)
  ]

  -- a node came into the list of a need that is left
  pub more_waiting : (r : List ℕ) (u v : List (List ℕ)) (z x : ℕ) → IsLeft needs n listed x z → x < n → get_or v z [] ≡ get_or u z [] ++ x ∷ [] → ((y : ℕ) → (y ≡ z → ⊥) → get_or v y [] ≡ get_or u y []) → IsMore needs n listed r u r v
  more_waiting r u v z x left lt same others = record {
    grows = λ y p. p;
    sound = λ y p. inl p;
    kept = λ a b e. elim (cases_eq a z) [
      | inl s ↦ subst (λ k. HasEdge v k b) (sym s) (subst (λ (l : List ℕ). Contains l b) (sym same) (Contains-append_left (get_or u z []) (x ∷ []) b (subst (λ k. HasEdge u k b) s e)))
      | inr o ↦ subst (λ (l : List ℕ). Contains l b) (sym (others a o)) e
    ];
    range = λ a b e. elim (cases_eq a z) [
      | inl s ↦ elim (Contains-append_cases (get_or u z []) (x ∷ []) b (subst (λ (l : List ℕ). Contains l b) same (subst (λ k. HasEdge v k b) s e))) [
        | inl was ↦ inl (subst (λ k. HasEdge u k b) (sym s) was)
        | inr last ↦ inr (subst (λ k. k < n) (sym (Contains-one x b last)) lt)
      ]
      | inr o ↦ inl (subst (λ (l : List ℕ). Contains l b) (others a o) e)
    ];
    behind = λ a p. others a (λ s. let e : true ≡ false = sym p ∙ ap (has listed) s ∙ left.out in cc);
  }

  pub placed_waiting : (r : List ℕ) (u v : List (List ℕ)) (z x : ℕ) → IsLeft needs n listed x z → get_or v z [] ≡ get_or u z [] ++ x ∷ [] → IsPlaced needs n listed r v x
  placed_waiting r u v z x left same = inr (z, left, subst (λ (l : List ℕ). Contains l x) (sym same) (contains_last (get_or u z []) x))

  -- a node came into the set of those that are ready
  pub more_ready : (r s : List ℕ) (u : List (List ℕ)) (x : ℕ) → IsReadyNow needs n listed x → ((k : ℕ) → has s k ≡ (nat_eq k x || has r k)) → IsMore needs n listed r u s u
  more_ready r s u x is step = record {
    grows = λ y p. step y ∙ or_right (nat_eq y x) (has r y) p;
    sound = λ y p. elim (split_or (nat_eq y x) (has r y) (sym (step y) ∙ p)) [
      | inl same ↦ inr (subst (λ k. IsReadyNow needs n listed k) (sym (from_test y x same)) is)
      | inr was ↦ inl was
    ];
    kept = λ z y e. e;
    range = λ z y e. inl e;
    behind = λ z p. refl;
  }

  pub placed_ready : (r s : List ℕ) (u : List (List ℕ)) (x : ℕ) → ((k : ℕ) → has s k ≡ (nat_eq k x || has r k)) → IsPlaced needs n listed s u x
  placed_ready r s u x step = inl (step x ∙ ap (λ b. b || has r x) (is_same x x refl))
