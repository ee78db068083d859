-- The places of names in a list of names.
use Rattle.std.proofs.Common.{◌≡◌, ◌⊎◌, ◌↔◌, ℕ, zero, suc, ◌+◌, ◌<◌, ◌≤◌, Bool, true, false, List, [], ◌∷◌, ◌++◌, get_or, length, map, drop, Option, None, Some, nat_eq, cond, not, lt-ltb, refl, ap, sym, ◌∙◌, subst, inl, inr, arith, Vec}
use Rattle.std.specs.Global.{Global}
use Rattle.std.specs.Prelude.{position}
use Rattle.std.specs.List.{Contains, list_any, position_or_len}
use Rattle.std.proofs.lemmas.List.{length-map, get_or_past, append_assoc}
use Rattle.std.proofs.Math.Seq.{drop-cons}
use Rattle.std.proofs.lemmas.List.Quantifiers.{position-Some}
use Rattle.std.proofs.lemmas.Bool.{cases_lt}
use Rattle.numbered_nodes.specs.Edges.{InRange, lists}
use Rattle.numbered_nodes.proofs.Booleans.{is_same, from_test, split_or}
use Rattle.node_groups.specs.Groups.{IsGroups}
use Rattle.node_groups.proofs.Pushed.{in_range}
use Rattle.node_groups.proofs.Keys.{cons_first, cons_later, cons_cases}
use Rattle.bind_groups.specs.declared.binding.Binding.{Binding}
use Rattle.bind_groups.specs.Depends.{unsigned_names, used_names, Depends}
use Rattle.bind_groups.specs.Numbers.{HasName, number, one_number, numbers_in}

-- one name more in a set
pub has_next : (x name : ℕ) (old new : Bool) → new ≡ cond (nat_eq name x) true old → ((old ≡ true) ⊎ (name ≡ x)) → new ≡ true
has_next x name old new e (inr same) = e ∙ ap (λ b. cond b true old) (is_same name x same)
has_next x name old new e (inl had) = e ∙ ap (λ b. cond (nat_eq name x) true b) had ∙ both (nat_eq name x)
  where
    both : (b : Bool) → cond b true true ≡ true
    both true = refl
    both false = refl

-- a name that stands in the list has a place
first_within : (t : ℕ → Bool) (keys : List ℕ) → list_any t keys ≡ true → position_or_len t keys < length keys
first_within t [] h = absurd (let e : false ≡ true = h in cc)
first_within t (y ∷ keys) h = by (t y) refl (first_within t keys)
  where
    by : (b : Bool) → t y ≡ b → (list_any t keys ≡ true → position_or_len t keys < length keys) → position_or_len t (y ∷ keys) < length (y ∷ keys)
    by true e ih = let at : position_or_len t (y ∷ keys) ≡ 0 = ap (λ b. cond (not b) (1 + position_or_len t keys) 0) e in omega arith
    by false e ih =
        let rest : list_any t keys ≡ true = elim (split_or (t y) (list_any t keys) h) [ inl g ↦ (let f : true ≡ false = sym g ∙ e in absurd cc) | inr g ↦ g ] in
        let less = ih rest in
        let at : position_or_len t (y ∷ keys) ≡ 1 + position_or_len t keys = ap (λ b. cond (not b) (1 + position_or_len t keys) 0) e in omega arith

some_at : (t : ℕ → Bool) (keys : List ℕ) → list_any t keys ≡ true → (k : ℕ) × (position t keys ≡ Some k)
some_at t keys h = (position_or_len t keys, ap (λ b. cond b (Some (position_or_len t keys)) None) (lt-ltb (position_or_len t keys) (length keys) (first_within t keys h)))

-- the places of names are those of the names
pub numbers_cases : (keys xs : List ℕ) (k : ℕ) → Contains (numbers_in keys xs) k ↔ ((x : ℕ) × Contains xs x × (number keys x ≡ Some k))
numbers_cases keys [] k = (
  (λ h. let none = h.1 in absurd (omega arith)),
  (λ p. let none = p.1.1 in absurd (omega arith)),
)
numbers_cases keys (x ∷ xs) k = by (number keys x) refl (numbers_cases keys xs k)
  where
    by : (r : Option ℕ) → number keys x ≡ r → (Contains (numbers_in keys xs) k ↔ ((y : ℕ) × Contains xs y × (number keys y ≡ Some k))) → Contains (numbers_in keys (x ∷ xs)) k ↔ ((y : ℕ) × Contains (x ∷ xs) y × (number keys y ≡ Some k))
    by None e ih =
        let is : numbers_in keys (x ∷ xs) ≡ numbers_in keys xs = ap (λ r. one_number r ++ numbers_in keys xs) e in (
          (λ h. let p = ih.0 (subst (λ (l : List ℕ). Contains l k) is h) in (p.0, cons_later x xs p.0 p.1, p.2)),
          (λ p. subst (λ (l : List ℕ). Contains l k) (sym is) (elim (cons_cases x xs p.0 p.1) [
            | inl same ↦ (let none : None ≡ Some k = sym e ∙ ap (number keys) (sym same) ∙ p.2 in absurd cc)
            | inr q ↦ ih.1 (p.0, q, p.2)
          ])),
        )
    by (Some m) e ih =
        let is : numbers_in keys (x ∷ xs) ≡ m ∷ numbers_in keys xs = ap (λ r. one_number r ++ numbers_in keys xs) e in (
          (λ h. elim (cons_cases m (numbers_in keys xs) k (subst (λ (l : List ℕ). Contains l k) is h)) [
            | inl same ↦ (x, cons_first x xs, e ∙ ap Some (sym same))
            | inr q ↦ let p = ih.0 q in (p.0, cons_later x xs p.0 p.1, p.2)
          ]),
          (λ p. subst (λ (l : List ℕ). Contains l k) (sym is) (elim (cons_cases x xs p.0 p.1) [
            | inl same ↦
                let at : Some m ≡ Some k = sym e ∙ ap (number keys) (sym same) ∙ p.2 in
                let eq : m ≡ k = cc in
                subst (λ z. Contains (m ∷ numbers_in keys xs) z) eq (cons_first m (numbers_in keys xs))
            | inr q ↦ cons_later m (numbers_in keys xs) k (ih.1 (p.0, q, p.2))
          ])),
        )

-- one name more, by its place or none
pub places_next : (keys some places new : List ℕ) (i : ℕ) (r : Option ℕ) → i < length some → r ≡ number keys (get_or some i 0) → new ≡ places ++ one_number r
    → places ++ numbers_in keys (drop i some) ≡ numbers_in keys some → new ++ numbers_in keys (drop (i + 1) some) ≡ numbers_in keys some
places_next keys some places new i r lt is made before =
    let rest = numbers_in keys (drop (i + 1) some) in
    let front : drop i some ≡ get_or some i 0 ∷ drop (i + 1) some = drop-cons some i 0 lt ∙ ap (λ k. get_or some i 0 ∷ drop k some) (let e : suc i ≡ i + 1 = omega arith in e) in
    ap (λ (l : List ℕ). l ++ rest) (made ∙ ap (λ o. places ++ one_number o) is)
    ∙ append_assoc places (one_number (number keys (get_or some i 0))) rest
    ∙ ap (λ (l : List ℕ). places ++ numbers_in keys l) (sym front)
    ∙ before

-- the row of a binding
row_of : (keys : List ℕ) (f : Binding → List ℕ) (bs : List Binding) (i : ℕ) → get_or (map (λ b. numbers_in keys (f b)) bs) i [] ≡ numbers_in keys (get_or (map f bs) i [])
row_of keys f [] i = refl
row_of keys f (b ∷ bs) zero = refl
row_of keys f (b ∷ bs) (suc i) = row_of keys f bs i

-- a row past the last has no names
pub row_past : (f : Binding → List ℕ) (bs : List Binding) (j x : ℕ) → length bs ≤ j → Contains (get_or (map f bs) j []) x → ⊥
row_past f [] j x le h = let none = h.1 in absurd (omega arith)
row_past f (b ∷ bs) zero x le h = absurd (omega arith)
row_past f (b ∷ bs) (suc j) x le h = row_past f bs j x (omega arith) h

pub same_length : (f : Binding → List ℕ) (bs : List Binding) (rows : List (Vec ℕ Global)) → lists rows ≡ map f bs → length rows ≡ length bs
same_length f bs rows e = sym (length-map rows (λ (v : Vec ℕ Global). v.items)) ∙ ap (λ (l : List (List ℕ)). length l) e ∙ length-map bs f

pub row_cases : (keys : List ℕ) (f : Binding → List ℕ) (bs : List Binding) (i k : ℕ) → Contains (get_or (map (λ b. numbers_in keys (f b)) bs) i []) k ↔ ((x : ℕ) × Contains (get_or (map f bs) i []) x × (number keys x ≡ Some k))
row_cases keys f bs i k = subst (λ (l : List ℕ). Contains l k ↔ ((x : ℕ) × Contains (get_or (map f bs) i []) x × (number keys x ≡ Some k))) (sym (row_of keys f bs i)) (numbers_cases keys (get_or (map f bs) i []) k)

pub rows_in_range : (keys : List ℕ) (f : Binding → List ℕ) (bs : List Binding) (rows : List (List ℕ)) (n : ℕ) → rows ≡ map (λ b. numbers_in keys (f b)) bs → length keys ≡ n → InRange rows n
rows_in_range keys f bs rows n is len = in_range rows n (λ i k h.
    let p = (row_cases keys f bs i k).0 (subst (λ (l : List (List ℕ)). Contains (get_or l i []) k) is h) in
    let less = (position-Some (nat_eq p.0) keys k 0 p.2).0 in
    (let w : k < n = omega arith in w))

-- the members of groups are nodes
pub groups_in_range : (E : ℕ → ℕ → Type 0) (n m : ℕ) (gs : List (List ℕ)) → n ≤ m → IsGroups E n gs → InRange gs m
groups_in_range E n m gs le p = in_range gs m (λ i x h. elim (cases_lt i (length gs)) [
  | inl lt ↦ let less = (((p.1 i lt).class.members x).0 h).0 in (let w : x < m = omega arith in w)
  | inr ge ↦
      let none : get_or gs i [] ≡ [] = get_or_past gs i [] ge in
      let c = subst (λ (l : List ℕ). Contains l x) none h in
      let less = c.1 in absurd (omega arith)
])

-- two names with one place are one name
one_name : (keys : List ℕ) (x y k : ℕ) → number keys x ≡ Some k → number keys y ≡ Some k → x ≡ y
one_name keys x y k e f =
    let p = position-Some (nat_eq x) keys k 0 e in
    let q = position-Some (nat_eq y) keys k 0 f in
    from_test x (get_or keys k 0) p.1 ∙ sym (from_test y (get_or keys k 0) q.1)

module _ (keys : List ℕ) (bs : List Binding) (used bound : List (List ℕ)) (is_used : used ≡ map (λ b. numbers_in keys (used_names b)) bs) (is_bound : bound ≡ map (λ b. numbers_in keys (unsigned_names b)) bs)
    (all : (j x : ℕ) → Contains (get_or (map unsigned_names bs) j []) x → HasName keys x) where
  used_at : (i k : ℕ) → Contains (get_or used i []) k ↔ ((x : ℕ) × Contains (get_or (map used_names bs) i []) x × (number keys x ≡ Some k))
  used_at i k = subst (λ (l : List (List ℕ)). Contains (get_or l i []) k ↔ ((x : ℕ) × Contains (get_or (map used_names bs) i []) x × (number keys x ≡ Some k))) (sym is_used) (row_cases keys used_names bs i k)

  bound_at : (i k : ℕ) → Contains (get_or bound i []) k ↔ ((x : ℕ) × Contains (get_or (map unsigned_names bs) i []) x × (number keys x ≡ Some k))
  bound_at i k = subst (λ (l : List (List ℕ)). Contains (get_or l i []) k ↔ ((x : ℕ) × Contains (get_or (map unsigned_names bs) i []) x × (number keys x ≡ Some k))) (sym is_bound) (row_cases keys unsigned_names bs i k)

  pub meets_depends : (i j : ℕ) → ((k : ℕ) × Contains (get_or used i []) k × Contains (get_or bound j []) k) → Depends bs i j
  meets_depends i j m =
      let u = (used_at i m.0).0 m.1 in
      let b = (bound_at j m.0).0 m.2 in
      (u.0, u.1, subst (λ z. Contains (get_or (map unsigned_names bs) j []) z) (one_name keys b.0 u.0 m.0 b.2 u.2) b.1)

  pub depends_meets : (i j : ℕ) → Depends bs i j → (k : ℕ) × Contains (get_or used i []) k × Contains (get_or bound j []) k
  depends_meets i j d =
      let at = some_at (nat_eq d.0) keys (all j d.0 d.2) in
      (at.0, (used_at i at.0).1 (d.0, d.1, at.1), (bound_at j at.0).1 (d.0, d.2, at.1))
