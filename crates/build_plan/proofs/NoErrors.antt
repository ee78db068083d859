-- What a node without diagnostics of the graph stage has: a source that isn't too large, and imports without fault.
use Rattle.std.proofs.Common.{◌≡◌, ℕ, zero, suc, ◌+◌, ◌≤◌, Bool, true, false, ◌&&◌, ◌||◌, not, cond, List, [], ◌∷◌, ◌++◌, length, refl, ap, sym, ◌∙◌, subst, inl, inr, Some, None, arith}
use Rattle.std.specs.Prelude.{slice_get, filter, nat_eq, nat_lt, Ok}
use Rattle.std.specs.declared.option.Option.{Option}
use Rattle.std.specs.Option.{option_map_or}
use Rattle.std.specs.List.{flat_map, Contains}
use Rattle.std.proofs.lemmas.Bool.Decides.{nat_tests}
use Rattle.mk_base.specs.declared.name.Node.{Node}
use Rattle.mk_base.specs.declared.diag.Diag.{Diag}
use Rattle.hs_syntax.specs.declared.header.ImportItem.{ImportItem}
use Rattle.build_theory.specs.Laws.{IsIn}
use Rattle.build_theory.proofs.Lists.{both_ways, differ, clash}
use Rattle.mod_graph.specs.declared.entries.Entry.{Entry}
use Rattle.mod_graph.specs.Entries.{counted, entry_of, header_errors, imports_in, imports_unless, is_too_large, too_large, too_many}
use Rattle.mod_graph.specs.Errors.{in_order, alone_errors, import_errors, cycle_errors, entry_errors, errors_of}
use Rattle.mod_graph.specs.Graph.{entries, errors_by}
use Rattle.mod_graph.proofs.InOrder.{in_order_keeps}
use Rattle.build_plan.specs.Tree.{SourceTree, graph_errors, header_at, header_for, imports_of, input_of, told, unless_none, unread}
use Rattle.build_plan.specs.Plan.{AreRising}
use Rattle.hs_header.specs.Reading.{header_of}
use Rattle.unbuilt_forms.specs.Unbuilt.{is_told}
use Rattle.build_plan.proofs.Entries.{IsEntry, entry_at, source_number}

abbrev Diags : Type 0
Diags = List Diag

none_told : (ds : Diags) → unless_none ds ≡ None → ds ≡ []
none_told [] e = refl
none_told (d ∷ ds) e = absurd (let h : ⊥ = cc in h)

kept_none : (b : Bool) (d : Diag) (ds : Diags) → cond b (d ∷ ds) ds ≡ [] → (b ≡ false) × (ds ≡ [])
kept_none true d ds e = absurd (let h : ⊥ = cc in h)
kept_none false d ds e = (refl, e)

-- what isn't told doesn't pass
untold : (p : Diag → Bool) (ds : Diags) → filter p ds ≡ [] → (c : Diag) → Contains ds c → p c ≡ false
untold p [] e c (k, lt, is) = absurd (omega arith)
untold p (d ∷ ds) e c (zero, lt, is) = ap p (sym is) ∙ (kept_none (p d) d (filter p ds) e).0
untold p (d ∷ ds) e c (suc k, lt, is) = untold p ds (kept_none (p d) d (filter p ds) e).1 c (k, omega arith, is)

both_empty : {X : Type 0} (xs ys : List X) → xs ++ ys ≡ [] → (xs ≡ []) × (ys ≡ [])
both_empty [] ys e = (refl, e)
both_empty (x ∷ xs) ys e = absurd (let h : ⊥ = cc in h)

here : (d : Diag) (ds : Diags) → Contains (d ∷ ds) d
here d ds = (zero, omega arith, refl)

later : (d e : Diag) (ds : Diags) → Contains ds e → Contains (d ∷ ds) e
later d e ds (k, lt, is) = (suc k, omega arith, is)

in_front : (xs ys : Diags) (c : Diag) → IsIn c xs → Contains (xs ++ ys) c
in_front [] ys c i = absurd i
in_front (x ∷ xs) ys c i = elim i [
  | inl e ↦ subst (λ d. Contains (d ∷ (xs ++ ys)) c) e (here c (xs ++ ys))
  | inr j ↦ later x c (xs ++ ys) (in_front xs ys c j)
]

empty_without : (ds : Diags) → ((c : Diag) → Contains ds c → ⊥) → ds ≡ []
empty_without [] h = refl
empty_without (d ∷ ds) h = absurd (h d (here d ds))

-- the diagnostics of no import
none_of : (f : ImportItem → Diags) (ys : List ImportItem) → flat_map f ys ≡ [] → (y : ImportItem) → IsIn y ys → f y ≡ []
none_of f [] e y i = absurd i
none_of f (z ∷ ys) e y i =
    let s = both_empty (f z) (flat_map f ys) e in
    elim i [ inl h ↦ ap f h ∙ s.0 | inr j ↦ none_of f ys s.1 y j ]

told_six : (b : Bool) → not (b && false) ≡ true
told_six true = refl
told_six false = refl

told_real : (b c : Bool) → b ≡ false → not (b && c) ≡ true
told_real true c e = absurd (differ e)
told_real false c e = refl

small_size : (s : ℕ) (b : Bool) → (nat_lt 1048576 s || b) ≡ false → s ≤ 1048576
small_size s b e = both_ways (nat_lt 1048576 s)
    (λ y. absurd (differ (sym (ap (λ x. x || b) y) ∙ e)))
    (λ y. grind (arith, nat_tests))

module _ (t : SourceTree) (rising : AreRising t.sources) (k : ℕ) (q : Node × List ℕ) (at : slice_get t.sources k ≡ Some q) (none : graph_errors t q.0 ≡ None) where
  pub found : IsEntry t k q
  found = entry_at t rising k q at

  abbrev pub large : Bool
  large = is_too_large found.before (length q.1)

  abbrev pub entry : Entry
  entry = entry_of t.settings.prelude found.number large (header_for q)

  abbrev pub es : List Entry
  es = entries (input_of t)

  abbrev rest : Diags
  rest = alone_errors es [] q.0 ++ (flat_map (import_errors es []) entry.imports ++ cycle_errors es [] k entry)

  errors_are : errors_by (input_of t) q.0 ≡ in_order (entry.own ++ rest)
  errors_are =
      ap (λ (o : Option ℕ). option_map_or (errors_of es []) o []) (source_number t rising k q at)
      ∙ ap (λ (o : Option Entry). option_map_or (entry_errors es [] k) o []) found.is

  untold_here : (c : Diag) → Contains (entry.own ++ rest) c → is_told q.0 c ≡ false
  untold_here c h =
      untold (is_told q.0) (in_order (entry.own ++ rest)) (ap (filter (is_told q.0)) (sym errors_are) ∙ none_told (filter (is_told q.0) (errors_by (input_of t) q.0)) none) c (in_order_keeps (entry.own ++ rest) c h)

  pub not_large : large ≡ false
  not_large = both_ways large
      (λ y.
      let first : IsIn too_large entry.own =
      subst (λ (b : Bool). IsIn too_large (cond b (too_large ∷ []) (header_errors q.0.module.text (header_at q.0 q.1)) ++ cond (nat_lt found.number 4096) [] (too_many ∷ []))) (sym y) (inl refl) in
      absurd (clash (is_told q.0 too_large) (told_six q.0.boot) (untold_here too_large (in_front entry.own rest too_large first))))
      (λ y. y)

  -- the source has at most 1 MiB
  pub small_source : length q.1 ≤ 1048576
  small_source = small_size (length q.1) (nat_lt 268435456 (found.before + counted (length q.1))) not_large

  pub entry_imports : entry.imports ≡ imports_of t.settings q.0 q.1
  entry_imports = ap (λ b. imports_unless b t.settings.prelude (header_at q.0 q.1)) not_large

  -- a real node has no import with a fault
  pub faultless : q.0.boot ≡ false → (y : ImportItem) → IsIn y (imports_of t.settings q.0 q.1) → import_errors es [] y ≡ []
  faultless real y i =
      let all : entry.own ++ rest ≡ [] = empty_without (entry.own ++ rest) (λ c h. clash (is_told q.0 c) (told_real q.0.boot (nat_eq c.code 10) real) (untold_here c h)) in
      let s = both_empty entry.own rest all in
      let u = both_empty (alone_errors es [] q.0) (flat_map (import_errors es []) entry.imports ++ cycle_errors es [] k entry) s.1 in
      let v = both_empty (flat_map (import_errors es []) entry.imports) (cycle_errors es [] k entry) u.1 in
      none_of (import_errors es []) entry.imports v.0 y (subst (IsIn y) (sym entry_imports) i)

-- a boot file imports nothing
pub boot_imports : (t : SourceTree) (q : Node × List ℕ) → q.0.boot ≡ true → imports_of t.settings q.0 q.1 ≡ []
boot_imports t q e = ap (λ (b : Bool). imports_in t.settings.prelude (cond (b || nat_lt 1048576 (length q.1)) (Ok (unread q.0.module.text)) (told (header_of q.1)))) e
