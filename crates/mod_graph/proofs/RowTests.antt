-- Rows over the lists of edges say what the tests of a tree say.
use Rattle.std.proofs.Common.{◌≡◌, ◌↔◌, ℕ, zero, suc, ◌<◌, Bool, true, false, cond, List, [], ◌∷◌, ◌++◌, get_or, take, length, Some, refl, ap, sym, ◌∙◌, subst, inl, inr, arith}
use Rattle.std.specs.Option.{option_map_or, unwrap_or}
use Rattle.std.specs.List.{slice_get, Contains}
use Rattle.std.proofs.lemmas.Bool.{cases_eq, cases_lt}
use Rattle.std.proofs.lemmas.List.{get_or_past}
use Rattle.std.proofs.lemmas.Option.{slice_get_past}
use Rattle.numbered_nodes.proofs.Booleans.{not_true}
use Rattle.numbered_nodes.specs.Edges.{HasEdge, InRange, Relates}
use Rattle.numbered_nodes.specs.Reach.{Reach, edge, onward, InOneLoop}
use Rattle.numbered_nodes.proofs.ReachLaws.{more_edges}
use Rattle.numbered_nodes.specs.Needs.{Needs, reached, mate, beyond, InLoop, Follows}
use Rattle.numbered_nodes.specs.Order.{IsReady, IsOrder}
use Rattle.numbered_nodes.proofs.NeedsRows.{targets_range}
use Rattle.numbered_nodes.proofs.OrderLaws.{next_alike}
use Rattle.mod_graph.specs.declared.entries.Entry.{Entry}
use Rattle.numbered_nodes.specs.Chains.{below}
use Rattle.mod_graph.specs.Edges.{module_of, module_number, reaches, in_loop, needs, Leads, Joins, SameLoop}
use Rattle.mod_graph.specs.Graph.{first_below}
use Rattle.mod_graph.specs.LoopRows.{IsFirstInLoop}
use Rattle.numbered_nodes.proofs.Chains.{over_is_reach}
use Rattle.mod_graph.proofs.Numbering.{module_not_above, module_is_own, module_of_own}
use Rattle.mod_graph.proofs.StepsBelow.{leads_below, joins_below, join_from}
use Rattle.mod_graph.proofs.LoopClasses.{to_class, of_class}
use Rattle.mod_graph.proofs.LeastNeeds.{needs_are, follows}

-- the first number that passes
none_below : (n : ℕ) (p : ℕ → Bool) → ((k : ℕ) → k < n → p k ≡ false) → below n p ≡ []
none_below zero p h = refl
none_below (suc n) p h =
    ap (λ (l : List ℕ). l ++ cond (p n) (n ∷ []) []) (none_below n p (λ k lt. h k (omega arith))) ∙ ap (λ b. cond b (n ∷ []) []) (h n (omega arith))

first_kept : (xs ys : List ℕ) (m : ℕ) → slice_get xs 0 ≡ Some m → slice_get (xs ++ ys) 0 ≡ Some m
first_kept [] ys m h = absurd (let no_ : ⊥ = cc in no_)
first_kept (x ∷ xs) ys m h = h

first_at : (n : ℕ) (p : ℕ → Bool) (m : ℕ) → m < n → p m ≡ true → ((k : ℕ) → k < m → p k ≡ false) → slice_get (below n p) 0 ≡ Some m
first_at zero p m lt h none = absurd (omega arith)
first_at (suc n) p m lt h none = elim (cases_eq m n) [
  | inl same ↦
      let empty = none_below n p (λ k lk. none k (omega arith)) in
      let list : below (suc n) p ≡ n ∷ [] = ap (λ (l : List ℕ). l ++ cond (p n) (n ∷ []) []) empty ∙ ap (λ b. cond b (n ∷ []) []) (ap p (sym same) ∙ h) in
      ap (λ (l : List ℕ). slice_get l 0) list ∙ ap (λ k. Some k) (sym same)
  | inr other ↦ first_kept (below n p) (cond (p n) (n ∷ []) []) m (first_at n p m (omega arith) h none)
]

pub first_is : (n : ℕ) (p : ℕ → Bool) (m : ℕ) → m < n → p m ≡ true → ((k : ℕ) → k < m → p k ≡ false) → first_below n p ≡ m
first_is n p m lt h none = ap (λ o. option_map_or (λ k. k) o 0) (first_at n p m lt h none)

-- needs over the same edges and loops
needs_alike : (E F S T : ℕ → ℕ → Type 0) (n : ℕ) → ((a b : ℕ) → E a b → F a b) → ((a b : ℕ) → S a b → T a b) → ((a b : ℕ) → T a b → S a b) → {q x : ℕ} → Needs E S n q x → Needs F T n q x
needs_alike E F S T n f to of {q = q} (reached p) = reached (more_edges f p)
needs_alike E F S T n f to of {q = q} (mate {x = x} {y = y} m out s lt) = mate (needs_alike E F S T n f to of m) (λ t. out (of q x t)) (to x y s) lt
needs_alike E F S T n f to of {q = q} (beyond {x = x} {y = y} m out s p) = beyond (needs_alike E F S T n f to of m) (λ t. out (of q x t)) (to x y s) (more_edges f p)

-- the order by the same needs
ready_alike : (R S : ℕ → ℕ → Type 0) (n : ℕ) (L : ℕ → Type 0) (x : ℕ) → x < n → ((a b : ℕ) → a < n → b < n → S a b → R a b) → IsReady R n L x → IsReady S n L x
ready_alike R S n L x lx h ready = λ z lz need other. ready z lz (h x z lx lz need) other

pub order_alike : (R S : ℕ → ℕ → Type 0) (n : ℕ) → ((a b : ℕ) → a < n → b < n → R a b ↔ S a b) → (os : List ℕ) → IsOrder R n os → IsOrder S n os
order_alike R S n same os p = (
  p.0,
  (λ i lt.
      let L : ℕ → Type 0 = Contains (take i os) in
      next_alike n (IsReady R n L) (IsReady S n L) L L
      (λ k lk. (ready_alike R S n L k lk (λ a b la lb. (same a b la lb).1), ready_alike S R n L k lk (λ a b la lb. (same a b la lb).0)))
      (λ k. ((λ h. h), (λ h. h))) (get_or os i 0) (p.1 i lt)),
)

module _ (es : List Entry) (nodes : List (List ℕ)) (edges : (a b : ℕ) → HasEdge nodes a b ↔ Leads es a b) where
  pub nodes_range : InRange nodes (length es)
  nodes_range = targets_range nodes (length es) (λ x y h. (leads_below es x y ((edges x y).0 h)).1)

  pub reach_tests : (rows : List (List ℕ)) → ((a b : ℕ) → Relates rows a b ↔ Reach (HasEdge nodes) a b) → (a b : ℕ) → Relates rows a b ↔ (reaches es a b ≡ true)
  reach_tests rows exact a b =
      let law = over_is_reach _ (length es) (leads_below es) a b in (
        (λ p. law.1 (more_edges (λ x y. (edges x y).0) ((exact a b).0 p))),
        (λ p. (exact a b).1 (more_edges (λ x y. (edges x y).1) (law.0 p))),
      )

module _ (es : List Entry) (modules : List (List ℕ)) (joins : (x y : ℕ) → HasEdge modules x y ↔ Joins es x y) where
  pub modules_range : InRange modules (length es)
  modules_range = targets_range modules (length es) (λ x y h. (joins_below es x y ((joins x y).0 h)).1)

  to_joins : (x y : ℕ) → InOneLoop (HasEdge modules) x y → InOneLoop (Joins es) x y
  to_joins x y (inl e) = inl e
  to_joins x y (inr p) = inr (more_edges (λ a b. (joins a b).0) p.0, more_edges (λ a b. (joins a b).0) p.1)

  of_joins : (x y : ℕ) → InOneLoop (Joins es) x y → InOneLoop (HasEdge modules) x y
  of_joins x y (inl e) = inl e
  of_joins x y (inr p) = inr (more_edges (λ a b. (joins a b).1) p.0, more_edges (λ a b. (joins a b).1) p.1)

  -- what begins a chain of modules is the number of one
  begins : {x y : ℕ} → Reach (Joins es) x y → (x < length es) × (module_of es x ≡ x)
  begins (edge {a = x} {b = y} h) = let s = join_from es x y h in ((joins_below es x y h).0, module_is_own es s.0.node.module.text x s.2)
  begins (onward {a = x} {b = y} h p) = let s = join_from es x y h in ((joins_below es x y h).0, module_is_own es s.0.node.module.text x s.2)

  in_loop_own : (a m : ℕ) → a < length es → InOneLoop (Joins es) (module_of es a) m → (m < length es) × (module_of es m ≡ m)
  in_loop_own a m lt (inl e) = let le = module_not_above es a lt in (omega arith, subst (λ k. module_of es k ≡ k) e (module_of_own es a lt))
  in_loop_own a m lt (inr p) = begins p.1

  -- the first module of a node's loop is the first node of the loop
  pub loop_tests : (a m : ℕ) → a < length es → IsFirstInLoop (HasEdge modules) (module_of es a) m → m ≡ first_below (length es) (in_loop es a)
  loop_tests a m lt h =
      let there : InOneLoop (Joins es) (module_of es a) m = to_joins (module_of es a) m h.0 in
      let own = in_loop_own a m lt there in
      let same : SameLoop es a m = subst (λ k. InOneLoop (Joins es) (module_of es a) k) (sym own.1) there in
      sym (first_is (length es) (in_loop es a) m own.0 (of_class es a m same) (λ k lk. not_true (in_loop es a k) (λ p.
      let lm = own.0 in
      let le = module_not_above es k (omega arith) in
      h.1 (module_of es k) (omega arith) (of_joins (module_of es a) (module_of es k) (to_class es a k p)))))

module _ (es : List Entry) (nodes modules : List (List ℕ)) (own : List ℕ) (edges : (a b : ℕ) → HasEdge nodes a b ↔ Leads es a b) (joins : (x y : ℕ) → HasEdge modules x y ↔ Joins es x y)
    (len : length own ≡ length es) (owned : (a : ℕ) → a < length es → get_or own a 0 ≡ module_of es a) where
  -- behind the nodes both are 0
  module_at : (a : ℕ) → get_or own a 0 ≡ module_of es a
  module_at a = elim (cases_lt a (length es)) [
    | inl lt ↦ owned a lt
    | inr ge ↦ get_or_past own a 0 (omega arith) ∙ sym (ap (λ o. option_map_or (λ (e : Entry). unwrap_or (module_number es e.node.module.text) 0) o 0) (slice_get_past es a ge))
  ]

  to_same : (a b : ℕ) → InOneLoop (HasEdge modules) (get_or own a 0) (get_or own b 0) → SameLoop es a b
  to_same a b h = to_joins es modules joins (module_of es a) (module_of es b) (subst (λ x. InOneLoop (HasEdge modules) x (module_of es b)) (module_at a) (subst (λ y. InOneLoop (HasEdge modules) (get_or own a 0) y) (module_at b) h))

  of_same : (a b : ℕ) → SameLoop es a b → InOneLoop (HasEdge modules) (get_or own a 0) (get_or own b 0)
  of_same a b h = subst (λ x. InOneLoop (HasEdge modules) x (get_or own b 0)) (sym (module_at a)) (subst (λ y. InOneLoop (HasEdge modules) (module_of es a) y) (sym (module_at b)) (of_joins es modules joins (module_of es a) (module_of es b) h))

  pub follows_rows : Follows (HasEdge nodes) (HasEdge modules) (λ a. get_or own a 0) (length own)
  follows_rows a b h =
      let f = follows es a b ((edges a b).0 h) in (
        (let lt = f.0 in omega arith),
        elim f.1 [
          | inl e ↦ inl (module_at a ∙ e ∙ sym (module_at b))
          | inr j ↦ inr (subst (λ x. HasEdge modules x (get_or own b 0)) (sym (module_at a)) (subst (λ y. HasEdge modules (module_of es a) y) (sym (module_at b)) ((joins (module_of es a) (module_of es b)).1 j)))
        ],
      )

  abbrev Loops : ℕ → ℕ → Type 0
  Loops = InLoop (HasEdge nodes) (HasEdge modules) (λ c. get_or own c 0) (length own)

  pub needs_tests : (rows : List (List ℕ)) → ((a b : ℕ) → a < length own → b < length own → Relates rows a b ↔ Needs (HasEdge nodes) Loops (length own) a b)
      → (a b : ℕ) → a < length es → b < length es → Relates rows a b ↔ (needs es a b ≡ true)
  needs_tests rows exact a b la lb =
      let law = needs_are es a b in
      let row = exact a b (omega arith) (omega arith) in (
        (λ p. law.1 (subst (λ n. Needs (Leads es) (SameLoop es) n a b) len (needs_alike (HasEdge nodes) (Leads es) Loops (SameLoop es) (length own) (λ x y. (edges x y).0) to_same of_same (row.0 p)))),
        (λ p. row.1 (needs_alike (Leads es) (HasEdge nodes) (SameLoop es) Loops (length own) (λ x y. (edges x y).1) of_same to_same (subst (λ n. Needs (Leads es) (SameLoop es) n a b) (sym len) (law.0 p)))),
      )
