-- What a node sees of a module that it imports without fault it needs.
use Rattle.std.proofs.Common.{◌≡◌, ℕ, zero, suc, ◌<◌, Bool, true, false, ◌&&◌, ◌||◌, not, cond, List, [], ◌∷◌, length, Some, None, refl, ap, sym, ◌∙◌, subst, inl, inr}
use Rattle.std.specs.Prelude.{slice_get, is_some, nat_eq, nat_lt}
use Rattle.std.specs.declared.option.Option.{Option}
use Rattle.std.specs.Option.{option_map_or}
use Rattle.std.specs.List.{list_any}
use Rattle.std.proofs.lemmas.Bool.{lt-ltb}
use Rattle.mk_base.specs.declared.name.Node.{Node}
use Rattle.mk_base.specs.declared.diag.Diag.{Diag}
use Rattle.hs_syntax.specs.declared.header.ImportItem.{ImportItem}
use Rattle.numbered_nodes.proofs.Booleans.{both_ways, split_or, or_right, is_same}
use Rattle.mod_graph.specs.declared.entries.Entry.{Entry}
use Rattle.mod_graph.specs.Names.{node_named}
use Rattle.numbered_nodes.specs.Chains.{over, any_below}
use Rattle.mod_graph.specs.Edges.{is_at, target, number_of, module_number, module_of, leads_from, leads, joins, reaches, in_loop, calls, needs, needs_node}
use Rattle.mod_graph.specs.Errors.{Found, InTree, InPackage, InPrim, Nowhere, look_up, has_node, errors_at, import_errors}
use Rattle.mod_graph.specs.Graph.{Input, View, Tree, Package, Prim, entries, has, reaches_node, loops_with, boot_view, tree_view, view_by, view_of}
use Rattle.numbered_nodes.proofs.Chains.{and_both, both_and, or_left, over_step}
use Rattle.mod_graph.proofs.NodeTests.{differ, same_modules}
use Rattle.mod_graph.proofs.NodeOrders.{needs_numbered}
use Rattle.numbered_nodes.proofs.Below.{is_at_own}
use Rattle.mod_graph.proofs.Numbering.{any_from, number_found, number_below, module_numbered}
use Rattle.numbered_nodes.proofs.Below.{any_below_from}

-- more steps, more chains
over_more : (e f : ℕ → ℕ → Bool) → ((a b : ℕ) → e a b ≡ true → f a b ≡ true) → (n a b : ℕ) → over e n a b ≡ true → over f n a b ≡ true
over_more e f more zero a b h = more a b h
over_more e f more (suc k) a b h = elim (split_or (over e k a b) (over e k a k && over e k k b) h) [
  | inl p ↦ or_left (over f k a b) (over f k a k && over f k k b) (over_more e f more k a b p)
  | inr p ↦
      let s = and_both (over e k a k) (over e k k b) p in
      or_right (over f k a b) (over f k a k && over f k k b) (both_and (over f k a k) (over f k k b) (over_more e f more k a k s.0) (over_more e f more k k b s.1))
]

module _ (es : List Entry) where
  leads_call : (a b : ℕ) → leads es a b ≡ true → calls es a b ≡ true
  leads_call a b h = or_left (leads es a b) (nat_lt b (length es) && any_below (length es) (λ z. leads es a z && (not (in_loop es a z) && in_loop es z b))) h

  lead_needs : (a b : ℕ) → leads es a b ≡ true → needs es a b ≡ true
  lead_needs a b h = over_step (calls es) (length es) a b (leads_call a b h)

  reach_needs : (a b : ℕ) → reaches es a b ≡ true → needs es a b ≡ true
  reach_needs a b h = over_more (leads es) (calls es) leads_call (length es) a b h

  -- an import leads to the node that it asks for
  import_leads : (a : ℕ) (e : Entry) (k : ℕ) (y : ImportItem) (b : ℕ) → slice_get es a ≡ Some e → slice_get e.imports k ≡ Some y → number_of es (target y) ≡ Some b → leads es a b ≡ true
  import_leads a e k y b p q r =
      ap (λ (o : Option Entry). option_map_or (λ (f : Entry). leads_from es f b) o false) p
      ∙ or_right (not e.node.boot && is_at (number_of es (node_named e.node.module.text true)) b) (list_any (λ (z : ImportItem). is_at (number_of es (target z)) b) e.imports)
      (any_from (λ (z : ImportItem). is_at (number_of es (target z)) b) e.imports k y q (is_at_own (number_of es (target y)) b r))

  -- the nodes of a module have one number of it
  one_module : (m : List ℕ) (f g : Bool) (b r : ℕ) → number_of es (node_named m f) ≡ Some b → number_of es (node_named m g) ≡ Some r → module_of es b ≡ module_of es r
  one_module m f g b r p q =
      let s = number_found es (node_named m f) b p in
      let u = number_found es (node_named m g) r q in
      let x : module_number es s.0.node.module.text ≡ Some (module_of es b) = module_numbered es b s.0 s.1 in
      let y : module_number es u.0.node.module.text ≡ Some (module_of es r) = module_numbered es r u.0 u.1 in
      let same : s.0.node.module.text ≡ u.0.node.module.text = sym (same_modules (node_named m f) s.0.node s.2) ∙ same_modules (node_named m g) u.0.node u.2 in
      let both : Some (module_of es b) ≡ Some (module_of es r) = sym x ∙ ap (module_number es) same ∙ y in
      cc

  own_loop : (a b : ℕ) → module_of es a ≡ module_of es b → in_loop es a b ≡ true
  own_loop a b e =
      or_left (nat_eq (module_of es a) (module_of es b)) (over (joins es) (length es) (module_of es a) (module_of es b) && over (joins es) (length es) (module_of es b) (module_of es a))
      (is_same (module_of es a) (module_of es b) e)

  loop_of_module : (a b c : ℕ) → module_of es b ≡ module_of es c → in_loop es a b ≡ in_loop es a c
  loop_of_module a b c e =
      ap (λ x. nat_eq (module_of es a) x || (over (joins es) (length es) (module_of es a) x && over (joins es) (length es) x (module_of es a))) e

  -- where an import leads into another loop, the other node of that module is needed too
  mate_needs : (a b c : ℕ) → leads es a b ≡ true → b < length es → c < length es → module_of es b ≡ module_of es c → in_loop es a c ≡ false → needs es a c ≡ true
  mate_needs a b c lead lb lc e out =
      let away : in_loop es a b ≡ false = loop_of_module a b c e ∙ out in
      let step : (leads es a b && (not (in_loop es a b) && in_loop es b c)) ≡ true =
      both_and (leads es a b) (not (in_loop es a b) && in_loop es b c) lead (both_and (not (in_loop es a b)) (in_loop es b c) (ap (λ x. not x) away) (own_loop b c e)) in
      over_step (calls es) (length es) a c
      (or_right (leads es a c) (nat_lt c (length es) && any_below (length es) (λ z. leads es a z && (not (in_loop es a z) && in_loop es z c)))
      (both_and (nat_lt c (length es)) (any_below (length es) (λ z. leads es a z && (not (in_loop es a z) && in_loop es z c))) (lt-ltb c (length es) lc)
      (any_below_from (length es) (λ z. leads es a z && (not (in_loop es a z) && in_loop es z c)) b lb step)))

  named : (n : Node) → has_node es [] n ≡ true → (k : ℕ) × (number_of es n ≡ Some k)
  named n h = elim (number_of es n) as (λ o. number_of es n ≡ o → is_some o ≡ true → (k : ℕ) × (number_of es n ≡ Some k)) [
    | None ↦ λ e i. absurd (differ (sym i))
    | Some k ↦ λ e i. (k, e)
  ] refl h

no_fault : (h s : Bool) (d e : Diag) → cond h [] (cond s (d ∷ []) (e ∷ [])) ≡ [] → h ≡ true
no_fault true s d e f = refl
no_fault false true d e f = absurd (let g : ⊥ = cc in g)
no_fault false false d e f = absurd (let g : ⊥ = cc in g)

some_number : (o : Option ℕ) → option_map_or (λ (k : ℕ). true) o false ≡ true → (k : ℕ) × (o ≡ Some k)
some_number None e = absurd (differ (sym e))
some_number (Some k) e = (k, refl)

not_false : (b : Bool) → not b ≡ true → b ≡ false
not_false true e = absurd (differ (sym e))
not_false false e = refl

same_seen : (c d : Node) → ◌≡◌ {A = Option View} (Some (Tree c)) (Some (Tree d)) → c ≡ d
same_seen c d e = cc

none_seen : (d : Node) → ◌≡◌ {A = Option View} None (Some (Tree d)) → ⊥
none_seen d e = cc

package_seen : (k : ℕ) (d : Node) → ◌≡◌ {A = Option View} (Some (Package k)) (Some (Tree d)) → ⊥
package_seen k d e = cc

prim_seen : (d : Node) → ◌≡◌ {A = Option View} (Some Prim) (Some (Tree d)) → ⊥
prim_seen d e = cc

module _ (i : Input) (a : ℕ) (e : Entry) (n : Node) (here : slice_get (entries i) a ≡ Some e) (number : number_of (entries i) n ≡ Some a) (k : ℕ) (y : ImportItem) (at : slice_get e.imports k ≡ Some y) where
  abbrev real : Node
  real = node_named y.module.text false

  abbrev boot : Node
  boot = node_named y.module.text true

  needs_named : (d : Node) (r : ℕ) → number_of (entries i) d ≡ Some r → needs (entries i) a r ≡ true → needs_node (entries i) n d ≡ true
  needs_named d r p h = needs_numbered (entries i) n d a r number p ∙ h

  loops_numbered : (r : ℕ) → number_of (entries i) real ≡ Some r → loops_with i n real ≡ in_loop (entries i) a r
  loops_numbered r p =
      ap (λ (o : Option ℕ). option_map_or (λ a. option_map_or (λ b. in_loop (entries i) a b) (number_of (entries i) real) false) o false) number
      ∙ ap (λ (o : Option ℕ). option_map_or (λ b. in_loop (entries i) a b) o false) p

  reaches_numbered : (r : ℕ) → number_of (entries i) real ≡ Some r → reaches_node i n real ≡ reaches (entries i) a r
  reaches_numbered r p =
      ap (λ (o : Option ℕ). option_map_or (λ a. option_map_or (λ b. reaches (entries i) a b) (number_of (entries i) real) false) o false) number
      ∙ ap (λ (o : Option ℕ). option_map_or (λ b. reaches (entries i) a b) o false) p

  module _ (b : ℕ) (asked : number_of (entries i) (target y) ≡ Some b) where
    asked_as : (s : Bool) → y.source ≡ s → number_of (entries i) (node_named y.module.text s) ≡ Some b
    asked_as s h = ap (λ (f : Bool). number_of (entries i) (node_named y.module.text f)) (sym h) ∙ asked

    lead : leads (entries i) a b ≡ true
    lead = import_leads (entries i) a e k y b here at asked

    real_needed : (not (loops_with i n real) || reaches_node i n real) ≡ true → (r : ℕ) → number_of (entries i) real ≡ Some r → needs (entries i) a r ≡ true
    real_needed h r p =
        both_ways y.source
        (λ s. elim (split_or (not (loops_with i n real)) (reaches_node i n real) h) [
          | inl out ↦
              mate_needs (entries i) a b r lead (number_below (entries i) (target y) b asked) (number_below (entries i) real r p) (one_module (entries i) y.module.text true false b r (asked_as true s) p)
              (sym (loops_numbered r p) ∙ not_false (loops_with i n real) out)
          | inr on ↦ reach_needs (entries i) a r (sym (reaches_numbered r p) ∙ on)
        ])
        (λ s. let both : Some b ≡ Some r = sym (asked_as false s) ∙ p in let same : b ≡ r = cc in subst (λ x. needs (entries i) a x ≡ true) same (lead_needs (entries i) a b lead))

    -- an import without SOURCE leads to the real node, which is seen then
    real_shown : y.source ≡ false → (has i real && (not (loops_with i n real) || reaches_node i n real)) ≡ true
    real_shown s =
        let p : number_of (entries i) real ≡ Some b = asked_as false s in
        both_and (has i real) (not (loops_with i n real) || reaches_node i n real) (ap (λ (o : Option ℕ). option_map_or (λ (k : ℕ). true) o false) p)
        (or_right (not (loops_with i n real)) (reaches_node i n real) (reaches_numbered b p ∙ over_step (leads (entries i)) (length (entries i)) a b lead))

    boot_needed : (has i real && (not (loops_with i n real) || reaches_node i n real)) ≡ false → (d : Node) → boot_view i y.module.text ≡ Some (Tree d) → needs_node (entries i) n d ≡ true
    boot_needed hidden d v =
        both_ways (has i boot)
        (λ h.
        let same : boot ≡ d = same_seen boot d (sym (ap (λ (c : Bool). cond c (Some (Tree boot)) None) h) ∙ v) in
        both_ways y.source
        (λ s. subst (λ x. needs_node (entries i) n x ≡ true) same (needs_named boot b (asked_as true s) (lead_needs (entries i) a b lead)))
        (λ s. absurd (differ (sym (real_shown s) ∙ hidden))))
        (λ h. absurd (none_seen d (sym (ap (λ (c : Bool). cond c (Some (Tree boot)) None) h) ∙ v)))

    tree_needed : (d : Node) → tree_view i n y.module.text ≡ Some (Tree d) → needs_node (entries i) n d ≡ true
    tree_needed d v =
        let shown : Bool = has i real && (not (loops_with i n real) || reaches_node i n real) in
        both_ways shown
        (λ h.
        let same : real ≡ d = same_seen real d (sym (ap (λ (c : Bool). cond c (Some (Tree real)) (boot_view i y.module.text)) h) ∙ v) in
        let s = and_both (has i real) (not (loops_with i n real) || reaches_node i n real) h in
        let r = some_number (number_of (entries i) real) s.0 in
        subst (λ x. needs_node (entries i) n x ≡ true) same (needs_named real r.0 r.1 (real_needed s.1 r.0 r.1)))
        (λ h. boot_needed h d (sym (ap (λ (c : Bool). cond c (Some (Tree real)) (boot_view i y.module.text)) h) ∙ v))

  found_needed : (f : Found) → errors_at (entries i) i.packages f y ≡ [] → (d : Node) → view_by i f n y.module.text ≡ Some (Tree d) → needs_node (entries i) n d ≡ true
  found_needed InTree fine d v =
      let there : has_node (entries i) i.packages (target y) ≡ true =
      no_fault (has_node (entries i) i.packages (target y)) y.source _ _ fine in
      let b = named (entries i) (target y) there in
      tree_needed b.0 b.1 d v
  found_needed (InPackage p) fine d v = absurd (package_seen p d v)
  found_needed InPrim fine d v = absurd (prim_seen d v)
  found_needed Nowhere fine d v = absurd (none_seen d v)

  -- a node of the tree that is seen of an import without fault
  pub seen_needed : import_errors (entries i) i.packages y ≡ [] → (d : Node) → view_of i n y.module.text ≡ Some (Tree d) → needs_node (entries i) n d ≡ true
  seen_needed fine d v = found_needed (look_up (entries i) i.packages y.module.text) fine d v
