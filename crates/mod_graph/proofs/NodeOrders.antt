-- The order of the nodes of a tree by their names.
use Rattle.std.proofs.Common.{◌≡◌, ℕ, zero, suc, ◌<◌, true, false, List, [], ◌∷◌, ◌++◌, get_or, length, Some, refl, ap, sym, ◌∙◌, subst, inl, inr, arith}
use Rattle.std.specs.declared.option.Option.{Option}
use Rattle.std.specs.Option.{option_map_or}
use Rattle.std.specs.List.{slice_get, AllByRecursion}
use Rattle.std.proofs.lemmas.Bool.{cases_lt}
use Rattle.std.proofs.lemmas.Option.{slice_get_within, get_or_from_slice_get, same_Some}
use Rattle.mk_base.specs.declared.name.Node.{Node}
use Rattle.numbered_nodes.specs.Order.{IsOrder, IsCycleFree}
use Rattle.mod_graph.specs.declared.entries.Entry.{Entry}
use Rattle.mod_graph.specs.Names.{same_node}
use Rattle.mod_graph.specs.Edges.{number_of, calls, needs, needs_node}
use Rattle.mod_graph.specs.Entries.{entries_of}
use Rattle.mod_graph.specs.Graph.{nodes_at, one_node, IsNodeOrder}
use Rattle.mod_graph.specs.Laws as laws
use Rattle.mod_graph.specs.Laws.{NeedsComeFirst}
use Rattle.numbered_nodes.proofs.Chains.{over_chain}
use Rattle.mod_graph.proofs.NodeTests.{nodes_tell, node_itself, differ}
use Rattle.mod_graph.proofs.Numbering.{element_at, finds, number_found}
use Rattle.mod_graph.proofs.StepsBelow.{calls_below}
use Rattle.mod_graph.proofs.SortedHeaders.{AreApart, nodes_apart}
use Rattle.mod_graph.proofs.FreeNodes.{free_behind}

other_at : (n : Node) (es : List Entry) (k : ℕ) (e : Entry) → AllByRecursion (λ (f : Entry). n ≡ f.node → ⊥) es → slice_get es k ≡ Some e → n ≡ e.node → ⊥
other_at n [] k e h p same = let no_ : ⊥ = cc in no_
other_at n (f ∷ es) zero e h p same = h.0 (same ∙ ap (λ (x : Entry). x.node) (sym (same_Some f e p)))
other_at n (f ∷ es) (suc k) e h p same = other_at n es k e h.1 p same

-- a node stands at one place
apart_at : (es : List Entry) → AreApart es → (i k : ℕ) (e f : Entry) → i < k → slice_get es i ≡ Some e → slice_get es k ≡ Some f → e.node ≡ f.node → ⊥
apart_at [] h i k e f lt p q same = let no_ : ⊥ = cc in no_
apart_at (x ∷ es) h i zero e f lt p q same = omega arith
apart_at (x ∷ es) h zero (suc k) e f lt p q same = other_at x.node es k f h.0 q (ap (λ (y : Entry). y.node) (same_Some x e p) ∙ same)
apart_at (x ∷ es) h (suc i) (suc k) e f lt p q same = apart_at es h.1 i k e f (omega arith) p q same

-- so its number is its place
pub number_is_place : (es : List Entry) → AreApart es → (k : ℕ) (e : Entry) → slice_get es k ≡ Some e → number_of es e.node ≡ Some k
number_is_place es h k e p =
    let s = finds (λ (f : Entry). same_node e.node f.node) es k e p (node_itself e.node) in
    let f = number_found es e.node s.0 s.1 in
    elim (cases_lt s.0 k) [
      | inl lt ↦ absurd (apart_at es h s.0 k f.0 e lt f.1 p (sym (nodes_tell e.node f.0.node f.2)))
      | inr ge ↦ let le = s.2 in let at : s.0 ≡ k = omega arith in s.1 ∙ ap (λ i. Some i) at
    ]

nodes_step : (es : List Entry) (o : ℕ) (os : List ℕ) (e : Entry) → slice_get es o ≡ Some e → nodes_at es (o ∷ os) ≡ e.node ∷ nodes_at es os
nodes_step es o os e p = ap (λ (x : Option Entry). one_node x ++ nodes_at es os) p

-- the node at a place of the order
pub node_at : (es : List Entry) (os : List ℕ) → ((k x : ℕ) → slice_get os k ≡ Some x → x < length es) → (j : ℕ) (m : Node) → slice_get (nodes_at es os) j ≡ Some m
    → (x : ℕ) × (e : Entry) × (slice_get os j ≡ Some x) × (slice_get es x ≡ Some e) × (e.node ≡ m)
node_at es [] within j m h = absurd (let no_ : ⊥ = cc in no_)
node_at es (o ∷ os) within zero m h =
    let at = element_at es o (within 0 o refl) in
    (o, at.0, refl, at.1, same_Some at.0.node m (ap (λ (l : List Node). slice_get l 0) (sym (nodes_step es o os at.0 at.1)) ∙ h))
node_at es (o ∷ os) within (suc j) m h =
    let at = element_at es o (within 0 o refl) in
    node_at es os (λ k x. within (suc k) x) j m (ap (λ (l : List Node). slice_get l (suc j)) (sym (nodes_step es o os at.0 at.1)) ∙ h)

module _ (es : List Entry) where
  -- needs by names are needs by numbers
  pub needs_numbered : (n m : Node) (y x : ℕ) → number_of es n ≡ Some y → number_of es m ≡ Some x → needs_node es n m ≡ needs es y x
  needs_numbered n m y x p q =
      ap (λ (o : Option ℕ). option_map_or (λ a. option_map_or (λ b. needs es a b) (number_of es m) false) o false) p
      ∙ ap (λ (o : Option ℕ). option_map_or (λ b. needs es y b) o false) q

  needs_chain : (a b c : ℕ) → needs es a b ≡ true → needs es b c ≡ true → needs es a c ≡ true
  needs_chain a b c p q = over_chain (calls es) (length es) a b c (calls_below es) p q

  free_numbered : AreApart es → (n : Node) (y : ℕ) → number_of es n ≡ Some y → laws.IsCycleFreeNode es n → IsCycleFree (λ a b. needs es a b ≡ true) (length es) y
  free_numbered apart n y p free = (
    (λ self. differ (sym (needs_numbered n n y y p p ∙ self) ∙ free.0)),
    (λ z lz need self.
        let at = element_at es z lz in
        let q = number_is_place es apart z at.0 at.1 in
        differ (sym (needs_numbered at.0.node at.0.node z z q q ∙ self) ∙ free.1 at.0.node (needs_numbered n at.0.node y z p q ∙ need))),
  )

  order_within : (os : List ℕ) → IsOrder (λ a b. needs es a b ≡ true) (length es) os → (k x : ℕ) → slice_get os k ≡ Some x → x < length es
  order_within os p k x h =
      let lt = slice_get_within os k x h in
      let len = p.0 in
      subst (λ z. z < length es) (get_or_from_slice_get os k x 0 h) (p.1 k (omega arith)).node

  pub stands_behind : AreApart es → (ns : List Node) → IsNodeOrder es ns → (j k : ℕ) (m n : Node) → slice_get ns j ≡ Some m → slice_get ns k ≡ Some n → laws.IsCycleFreeNode es n → needs_node es n m ≡ true → j < k
  stands_behind apart ns order j k m n hj hk free need =
      let os = order.0 in
      let p = order.1 in
      let len = p.0 in
      let first = node_at es os (order_within os p) j m (ap (λ (l : List Node). slice_get l j) (sym order.2) ∙ hj) in
      let last = node_at es os (order_within os p) k n (ap (λ (l : List Node). slice_get l k) (sym order.2) ∙ hk) in
      let x : number_of es m ≡ Some first.0 = subst (λ d. number_of es d ≡ Some first.0) first.4 (number_is_place es apart first.0 first.1 first.3) in
      let y : number_of es n ≡ Some last.0 = subst (λ d. number_of es d ≡ Some last.0) last.4 (number_is_place es apart last.0 last.1 last.3) in
      let at_j = get_or_from_slice_get os j first.0 0 first.2 in
      let at_k = get_or_from_slice_get os k last.0 0 last.2 in
      let lj = slice_get_within os j first.0 first.2 in
      let lk = slice_get_within os k last.0 last.2 in
      free_behind (needs es) (length es) needs_chain os p j k (omega arith) (omega arith)
      (subst (IsCycleFree (λ a b. needs es a b ≡ true) (length es)) (sym at_k) (free_numbered apart n last.0 y free))
      (ap (λ a. needs es a (get_or os j 0)) at_k ∙ ap (needs es last.0) at_j ∙ sym (needs_numbered n m last.0 first.0 y x) ∙ need)

pub needs_come_first : NeedsComeFirst
needs_come_first prelude hs d ns order j k m n hj hk free need = stands_behind (entries_of prelude hs) (nodes_apart prelude hs d) ns order j k m n hj hk free need
