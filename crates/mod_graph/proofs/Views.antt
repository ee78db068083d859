-- What a graph keeps says what a node sees of a module, and which loop it is of.
use Rattle.std.proofs.Common.{◌≡◌, ◌⊎◌, ℕ, zero, suc, ◌<◌, Bool, true, false, ◌&&◌, ◌||◌, not, cond, List, [], get_or, length, nat_eq, Some, None, codes, refl, ap, sym, ◌∙◌, subst, inl, inr, arith}
use Rattle.std.specs.declared.option.Option.{Option}
use Rattle.std.specs.List.{slice_get}
use Rattle.std.specs.Option.{ForSome, IfSome, is_some, option_map, option_map_or, unwrap_or}
use Rattle.std.proofs.lemmas.Bool.{cases_eq}
use Rattle.std.proofs.lemmas.Option.{same_Some}
use Rattle.mk_base.specs.declared.name.Node.{Node}
use Rattle.numbered_nodes.specs.Bits.{has}
use Rattle.numbered_nodes.proofs.Booleans.{both_ways, is_same, from_test}
use Rattle.numbered_nodes.proofs.ReachLaws.{loop_sym, loop_trans}
use Rattle.mod_graph.specs.declared.entries.Entry.{Entry}
use Rattle.mod_graph.specs.declared.graph.Graph.{Graph}
use Rattle.mod_graph.specs.declared.input.ViewOf.{ViewOf}
use Rattle.mod_graph.specs.declared.input.ViewOf.TheVariants as view
use Rattle.mod_graph.specs.Names.{same_text, node_named}
use Rattle.mod_graph.specs.Edges.{number_of, in_loop, reaches}
use Rattle.mod_graph.specs.Errors.{InTree, InPrim, Nowhere, outside_tree, look_up}
use Rattle.package_graph.specs.Packages.{first_package}
use Rattle.mod_graph.specs.Graph.{Input, View, Tree, IsView, entries, first_below, loop_number, view_by, view_of}
use Rattle.mod_graph.specs.Places.{number_in, module_in}
use Rattle.mod_graph.specs.Seen.{is_seen, number_seen, outside_seen}
use Rattle.package_graph.specs.Tables.{first_in}
use Rattle.mod_graph.specs.Kept.{IsGraph}
use Rattle.mod_graph.proofs.LoopClasses.{to_class, of_class}
use Rattle.mod_graph.proofs.NodeTests.{differ, nodes_tell}
use Rattle.numbered_nodes.proofs.Below.{same_tests, below_alike}
use Rattle.mod_graph.proofs.Numbering.{number_found, number_below}
use Rattle.mod_graph.proofs.Placed.{order_has, in_range, placed, node_there}
use Rattle.mod_graph.proofs.RowTests.{first_is}
use Rattle.mod_graph.proofs.SortedHeaders.{AreApart, nodes_apart}

-- a bound that holds of what an option has
pub some_below : (o : Option ℕ) (n : ℕ) → ForSome o (λ k. k < n) → IfSome o (λ k. k < n)
some_below None n h = tt
some_below (Some k) n h = h k refl

-- the first number that passes, where one does
first_of : (n : ℕ) (p : ℕ → Bool) → ((k : ℕ) → k < n → p k ≡ false) ⊎ ((m : ℕ) × (m < n) × (p m ≡ true) × ((k : ℕ) → k < m → p k ≡ false))
first_of zero p = inl (λ k lt. absurd (omega arith))
first_of (suc n) p = elim (first_of n p) [
  | inr s ↦ inr (s.0, (let lt = s.1 in omega arith), s.2, s.3)
  | inl none ↦ both_ways (p n)
      (λ y. inr (n, omega arith, y, none))
      (λ y. inl (λ k lt. elim (cases_eq k n) [ inl same ↦ ap p same ∙ y | inr other ↦ none k (omega arith) ]))
]

first_passes : (n : ℕ) (p : ℕ → Bool) (k : ℕ) → k < n → p k ≡ true → p (first_below n p) ≡ true
first_passes n p k lt y = elim (first_of n p) [
  | inl none ↦ absurd (differ (sym y ∙ none k lt))
  | inr s ↦ subst (λ m. p m ≡ true) (sym (first_is n p s.0 s.1 s.2 s.3)) s.2
]

first_within : (n : ℕ) (p : ℕ → Bool) (k : ℕ) → k < n → p k ≡ true → first_below n p < n
first_within n p k lt y = elim (first_of n p) [
  | inl none ↦ absurd (differ (sym y ∙ none k lt))
  | inr s ↦ subst (λ m. m < n) (sym (first_is n p s.0 s.1 s.2 s.3)) s.1
]

module _ (es : List Entry) where
  abbrev loop_at : ℕ → ℕ
  loop_at a = first_below (length es) (in_loop es a)

  loop_own : (a : ℕ) → in_loop es a a ≡ true
  loop_own a = of_class es a a (inl refl)

  -- the number of a loop is that of a node
  pub loop_within : (a : ℕ) → a < length es → first_below (length es) (in_loop es a) < length es
  loop_within a lt = first_within (length es) (in_loop es a) a lt (loop_own a)

  loop_turned : (a b : ℕ) → in_loop es a b ≡ true → in_loop es b a ≡ true
  loop_turned a b h = of_class es b a (loop_sym (to_class es a b h))

  loop_joined : (a b c : ℕ) → in_loop es a b ≡ true → in_loop es b c ≡ true → in_loop es a c ≡ true
  loop_joined a b c p q = of_class es a c (loop_trans (to_class es a b p) (to_class es b c q))

  -- nodes of one loop have its number, and no others
  loops_tell : (a b : ℕ) → a < length es → b < length es → nat_eq (loop_at a) (loop_at b) ≡ in_loop es a b
  loops_tell a b la lb = same_tests (nat_eq (loop_at a) (loop_at b)) (in_loop es a b)
      (λ e.
      let p : in_loop es a (loop_at a) ≡ true = first_passes (length es) (in_loop es a) a la (loop_own a) in
      let q : in_loop es b (loop_at b) ≡ true = first_passes (length es) (in_loop es b) b lb (loop_own b) in
      let r : in_loop es b (loop_at a) ≡ true = ap (in_loop es b) (from_test (loop_at a) (loop_at b) e) ∙ q in
      loop_joined a (loop_at a) b p (loop_turned b (loop_at a) r))
      (λ l. is_same (loop_at a) (loop_at b) (ap (λ o. option_map_or (λ k. k) o 0) (ap (λ (xs : List ℕ). slice_get xs 0) (below_alike (length es) (in_loop es a) (in_loop es b) (λ k lt.
      same_tests (in_loop es a k) (in_loop es b k) (loop_joined b a k (loop_turned a b l)) (loop_joined a b k l))))))

module _ (i : Input) (g : Graph) (kept : IsGraph i g) where
  abbrev listed : List Entry
  listed = entries i

  abbrev numbers : List ℕ
  numbers = g.rows.order.items

  apart : AreApart (entries i)
  apart = nodes_apart i.prelude i.headers kept.distinct

  -- the number of the node at a place
  pub number_at : (k : ℕ) (q : Node) → slice_get g.order k ≡ Some q → (k < length numbers) × (number_of listed q ≡ Some (get_or numbers k 0))
  number_at k q h = placed listed apart numbers kept.rows.order k q (ap (λ (l : List Node). slice_get l k) (sym kept.nodes) ∙ h)

  pub number_range : (k : ℕ) (q : Node) → slice_get g.order k ≡ Some q → get_or numbers k 0 < length listed
  number_range k q h = in_range listed apart numbers kept.rows.order k 0 (number_at k q h).0

  pub loop_is : (k : ℕ) (q : Node) → slice_get g.order k ≡ Some q → get_or g.rows.loops.items (get_or numbers k 0) 0 ≡ loop_number listed q
  loop_is k q h =
      kept.rows.loops (get_or numbers k 0) (number_range k q h)
      ∙ ap (λ o. first_below (length listed) (in_loop listed (unwrap_or o 0))) (sym (number_at k q h).1)

  same_node_at : (m n : Node) (b : ℕ) → number_of listed m ≡ Some b → number_of listed n ≡ Some b → m ≡ n
  same_node_at m n b p q =
      let e = number_found listed m b p in
      let f = number_found listed n b q in
      nodes_tell m e.0.node e.2 ∙ ap (λ (x : Entry). x.node) (same_Some e.0 f.0 (sym e.1 ∙ f.1)) ∙ sym (nodes_tell n f.0.node f.2)

  -- the place that is kept for a number is that of its node
  node_placed : (m : Node) (b : ℕ) → number_of listed m ≡ Some b → slice_get g.order (get_or g.places.items b 0) ≡ Some m
  node_placed m b h =
      let lt = number_below listed m b h in
      let s = order_has _ (length listed) numbers kept.rows.order b lt in
      let len = kept.rows.order.0 in
      let count = s.1 in
      let at : get_or g.places.items b 0 ≡ s.0 = ap (λ x. get_or g.places.items x 0) (sym s.2) ∙ kept.places s.0 (omega arith) in
      let there = node_there listed apart numbers kept.rows.order s.0 s.1 in
      let own = placed listed apart numbers kept.rows.order s.0 there.0 there.1 in
      ap (slice_get g.order) at ∙ ap (λ (l : List Node). slice_get l s.0) kept.nodes ∙ there.1
      ∙ ap (λ x. Some x) (same_node_at there.0 m b (own.1 ∙ ap (λ x. Some x) s.2) h)

  abbrev seen_from : ℕ → ℕ → Bool
  seen_from a b = not (in_loop listed a b) || reaches listed a b

  seen_tests : (a b : ℕ) → a < length listed → b < length listed → is_seen g.rows a b ≡ seen_from a b
  seen_tests a b la lb =
      let row = kept.rows.reach a b la lb in
      ap (λ x. not (nat_eq x (get_or g.rows.loops.items b 0)) || has (get_or g.rows.reach.items a []) b) (kept.rows.loops a la)
      ∙ ap (λ x. not (nat_eq (loop_at listed a) x) || has (get_or g.rows.reach.items a []) b) (kept.rows.loops b lb)
      ∙ ap (λ t. not t || has (get_or g.rows.reach.items a []) b) (loops_tell listed a b la lb)
      ∙ ap (λ t. not (in_loop listed a b) || t) (same_tests (has (get_or g.rows.reach.items a []) b) (reaches listed a b) row.0 row.1)

  abbrev shown : ℕ → ViewOf
  shown k = view.Tree (record { 0 = get_or g.places.items k 0 })

  abbrev boot_by : List ℕ → Option ℕ → Option View
  boot_by m boot = cond (option_map_or (λ k. true) boot false) (Some (Tree (node_named m true))) None

  abbrev tree_by : List ℕ → Option ℕ → Option ℕ → Option ℕ → Option View
  tree_by m own real boot =
      cond (option_map_or (λ k. true) real false && (not (option_map_or (λ a. option_map_or (λ b. in_loop listed a b) real false) own false) || option_map_or (λ a. option_map_or (λ b. reaches listed a b) real false) own false))
      (Some (Tree (node_named m false))) (boot_by m boot)

  boot_is : (m : List ℕ) (boot : Option ℕ) → boot ≡ number_of listed (node_named m true) → IsView g.order (option_map shown boot) (boot_by m boot)
  boot_is m None e = tt
  boot_is m (Some b) e = node_placed (node_named m true) b (sym e)

  chosen_is : (m : List ℕ) (real : ℕ) (boot : Option ℕ) → Some real ≡ number_of listed (node_named m false) → boot ≡ number_of listed (node_named m true) → (s : Bool)
      → IsView g.order (option_map shown (cond s (Some real) boot)) (cond s (Some (Tree (node_named m false))) (boot_by m boot))
  chosen_is m real boot e f true = node_placed (node_named m false) real (sym e)
  chosen_is m real boot e f false = boot_is m boot f

  tree_is : (m : List ℕ) (own : ℕ) (real boot : Option ℕ) → own < length listed → real ≡ number_of listed (node_named m false) → boot ≡ number_of listed (node_named m true)
      → IsView g.order (option_map shown (number_seen (is_seen g.rows own) real boot)) (tree_by m (Some own) real boot)
  tree_is m own None boot lt e f = boot_is m boot f
  tree_is m own (Some real) boot lt e f =
      subst (λ s. IsView g.order (option_map shown (number_seen (is_seen g.rows own) (Some real) boot)) (cond s (Some (Tree (node_named m false))) (boot_by m boot)))
      (seen_tests own real lt (number_below listed (node_named m false) real (sym e)))
      (chosen_is m real boot e f (is_seen g.rows own real))

  tree_seen : (k : ℕ) (q : Node) (m : List ℕ) → slice_get g.order k ≡ Some q → is_some (module_in g.numbers m) ≡ true
      → IsView g.order (option_map shown (number_seen (is_seen g.rows (get_or numbers k 0)) (number_in g.numbers false m) (number_in g.numbers true m))) (view_of i q m)
  tree_seen k q m h known =
      let own = get_or numbers k 0 in
      let real = number_in g.numbers false m in
      let boot = number_in g.numbers true m in
      let seen : Option ViewOf = option_map shown (number_seen (is_seen g.rows own) real boot) in
      let e = kept.numbers.0 false m in
      let f = kept.numbers.0 true m in
      let found : look_up listed i.packages m ≡ InTree = ap (λ b. cond b InTree (outside_tree listed i.packages m (first_package i.packages m))) (ap is_some (sym (kept.numbers.1 m)) ∙ known) in
      subst (λ w. IsView g.order seen (view_by i w q m)) (sym found)
      (subst (λ o. IsView g.order seen (tree_by m o (number_of listed (node_named m false)) (number_of listed (node_named m true)))) (sym (number_at k q h).1)
      (subst (λ o. IsView g.order seen (tree_by m (Some own) o (number_of listed (node_named m true)))) e
      (subst (λ o. IsView g.order seen (tree_by m (Some own) real o)) f
      (tree_is m own real boot (number_range k q h) e f))))

  pub view_is : (k : ℕ) (q : Node) (m : List ℕ) (own : ℕ) (number : Option ℕ) → slice_get g.order k ≡ Some q → is_some (module_in g.numbers m) ≡ true → own ≡ get_or numbers k 0
      → number ≡ number_seen (is_seen g.rows own) (number_in g.numbers false m) (number_in g.numbers true m) → IsView g.order (option_map shown number) (view_of i q m)
  view_is k q m own number h known at is =
      subst (λ o. IsView g.order (option_map shown o) (view_of i q m)) (ap (λ x. number_seen (is_seen g.rows x) (number_in g.numbers false m) (number_in g.numbers true m)) (sym at) ∙ sym is)
      (tree_seen k q m h known)

  outside_by : (q : Node) (m : List ℕ) (s : Bool) (o : Option ℕ) → s ≡ same_text m (codes "Prim") → IsView g.order (outside_seen s o) (view_by i (outside_tree listed i.packages m o) q m)
  outside_by q m s (Some k) e = refl
  outside_by q m true None e = subst (λ t. IsView g.order (Some view.Prim) (view_by i (cond t InPrim Nowhere) q m)) e tt
  outside_by q m false None e = subst (λ t. IsView g.order None (view_by i (cond t InPrim Nowhere) q m)) e tt

  pub outside_is : (q : Node) (m : List ℕ) → is_some (module_in g.numbers m) ≡ false → IsView g.order (outside_seen (same_text m (codes "Prim")) (first_in g.tables m)) (view_of i q m)
  outside_is q m none =
      let found : look_up listed i.packages m ≡ outside_tree listed i.packages m (first_package i.packages m) =
      ap (λ b. cond b InTree (outside_tree listed i.packages m (first_package i.packages m))) (ap is_some (sym (kept.numbers.1 m)) ∙ none) in
      let seen : Option ViewOf = outside_seen (same_text m (codes "Prim")) (first_in g.tables m) in
      subst (λ w. IsView g.order seen (view_by i w q m)) (sym found)
      (subst (λ o. IsView g.order seen (view_by i (outside_tree listed i.packages m o) q m)) (kept.tables.first m)
      (outside_by q m (same_text m (codes "Prim")) (first_in g.tables m) refl))
