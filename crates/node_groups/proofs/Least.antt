-- The least node of each name.
use Rattle.std.proofs.Common.{◌≡◌, ◌↔◌, ℕ, ◌<◌, ◌≤◌, List, get_or, length, ap, sym, ◌∙◌, inl, inr, arith}
use Rattle.std.proofs.Math.ListN.{set}
use Rattle.std.proofs.lemmas.Bool.{cases_eq}
use Rattle.std.proofs.lemmas.List.{get_or-set_same, get_or-set_other}
use Rattle.numbered_nodes.specs.Reach.{InOneLoop}
use Rattle.node_groups.specs.Least.{IsLeast}

-- one node more, before all that were looked at
pub least_next : (names least : List ℕ) (node a : ℕ) → get_or names node 0 < length least → node ≤ a → ((a ≡ node → ⊥) → IsLeast names least a) → IsLeast names (set least (get_or names node 0) node) a
least_next names least node a lt le before = elim (cases_eq (get_or names a 0) (get_or names node 0)) [
  | inl same ↦
      let at : get_or (set least (get_or names node 0) node) (get_or names a 0) 0 ≡ node = ap (λ k. get_or (set least (get_or names node 0) node) k 0) same ∙ get_or-set_same least (get_or names node 0) node 0 lt in
      ((omega arith), ap (λ k. get_or names k 0) at ∙ sym same)
  | inr other ↦
      let was = before (λ e. other (ap (λ k. get_or names k 0) e)) in
      let at : get_or (set least (get_or names node 0) node) (get_or names a 0) 0 ≡ get_or least (get_or names a 0) 0 = get_or-set_other least (get_or names node 0) (get_or names a 0) node 0 other in
      ((let w = was.0 in omega arith), ap (λ k. get_or names k 0) at ∙ was.1)
]

module _ (E : ℕ → ℕ → Type 0) (n : ℕ) (names least loops : List ℕ)
    (same : (a b : ℕ) → a < n → b < n → (get_or names a 0 ≡ get_or names b 0) ↔ InOneLoop E a b)
    (is : (a : ℕ) → a < n → IsLeast names least a) (at : (a : ℕ) → a < n → get_or loops a 0 ≡ get_or least (get_or names a 0) 0) where
  pub loops_least : (a : ℕ) → a < n → (get_or loops a 0 ≤ a) × InOneLoop E a (get_or loops a 0)
  loops_least a la =
      let l = is a la in
      let e = at a la in
      let le : get_or loops a 0 ≤ a = (let w = l.0 in omega arith) in
      (le, (same a (get_or loops a 0) la (omega arith)).0 (sym (ap (λ k. get_or names k 0) e ∙ l.1)))

  pub loops_same : (a b : ℕ) → a < n → b < n → (get_or loops a 0 ≡ get_or loops b 0) ↔ InOneLoop E a b
  loops_same a b la lb = (
    (λ e.
        let na : get_or names (get_or loops a 0) 0 ≡ get_or names a 0 = ap (λ k. get_or names k 0) (at a la) ∙ (is a la).1 in
        let nb : get_or names (get_or loops b 0) 0 ≡ get_or names b 0 = ap (λ k. get_or names k 0) (at b lb) ∙ (is b lb).1 in
        (same a b la lb).0 (sym na ∙ ap (λ k. get_or names k 0) e ∙ nb)),
    (λ in_one. at a la ∙ ap (λ k. get_or least k 0) ((same a b la lb).1 in_one) ∙ sym (at b lb)),
  )
