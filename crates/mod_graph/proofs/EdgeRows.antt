-- The rows of targets have the edges.
use Rattle.std.proofs.Common.{◌≡◌, ℕ, zero, suc, ◌+◌, ◌<◌, ◌↔◌, Bool, true, false, not, ◌&&◌, ◌||◌, List, [], ◌∷◌, ◌++◌, length, get_or, set, cond, nat_eq, Some, None, unwrap_or, refl, ap, sym, ◌∙◌, subst, arith, inl, inr}
use Rattle.std.specs.Prelude.{map, slice_get}
use Rattle.std.specs.List.{list_any, flat_map, All, Contains, position_or_len}
use Rattle.std.specs.declared.option.Option.{Option}
use Rattle.std.specs.Option.{option_map_or, option_to_list}
use Rattle.std.proofs.lemmas.Bool.{cond-true, cond-false, eqb-true, eq-eqb, ne_eqb, lt-ltb, le-ltb, cases_lt, cases_eq}
use Rattle.std.proofs.lemmas.List.{get_or-set_same, get_or-set_other}
use Rattle.std.proofs.lemmas.List.Elements.{All-map}
use Rattle.std.proofs.lemmas.List.Folds.{list_any-append, list_any_at, Any-from_list_any}
use Rattle.numbered_nodes.specs.Edges.{HasEdge}
use Rattle.hs_syntax.specs.declared.header.ImportItem.{ImportItem}
use Rattle.mod_graph.specs.declared.entries.Entry.{Entry}
use Rattle.mod_graph.specs.declared.places.Numbers.{Numbers}
use Rattle.mod_graph.specs.Names.{node_named, same_text}
use Rattle.mod_graph.specs.Edges.{is_at, target, number_of, module_number, module_of, leads_from, Leads, Joins, joins}
use Rattle.mod_graph.specs.Places.{AreNumbers, number_in, module_in}
use Rattle.mod_graph.specs.Targets.{has_target, own_boot, import_targets, node_targets, module_targets, joins_from}

or_none : (b : Bool) → (b || false) ≡ b
or_none true = refl
or_none false = refl

any_agree : {X : Type 0} (p q : X → Bool) → ((x : X) → p x ≡ q x) → (xs : List X) → list_any p xs ≡ list_any q xs
any_agree p q h [] = refl
any_agree p q h (x ∷ xs) = ap (λ b. b || list_any p xs) (h x) ∙ ap (λ b. q x || b) (any_agree p q h xs)

-- this number is in a list
abbrev has_number : ℕ → List ℕ → Bool
has_number b xs = list_any (λ z. nat_eq z b) xs

number_contained : (xs : List ℕ) (b : ℕ) → has_number b xs ≡ true → Contains xs b
number_contained xs b h =
    let s = Any-from_list_any (λ z. nat_eq z b) xs h in
    let e : s.1 ≡ b = eqb-true s.1 b s.4 in
    (s.0, s.2, subst (λ x. get_or xs s.0 x ≡ x) e s.3)

contained_number : (xs : List ℕ) (b : ℕ) → Contains xs b → has_number b xs ≡ true
contained_number xs b s = list_any_at (λ z. nat_eq z b) xs s.0 b s.1 (eq-eqb (get_or xs s.0 b) b s.2)

-- a test of a row's numbers is the test of its targets
contains_by : (xs : List ℕ) (b : ℕ) (t : Bool) → has_number b xs ≡ t → Contains xs b ↔ (t ≡ true)
contains_by xs b t e = (λ s. sym e ∙ contained_number xs b s, λ h. number_contained xs b (e ∙ h))

option_has : (b : ℕ) (o : Option ℕ) → has_number b (option_to_list o) ≡ is_at o b
option_has b None = refl
option_has b (Some i) = or_none (nat_eq i b)

options_have : (f : ImportItem → Option ℕ) (b : ℕ) (ys : List ImportItem) → has_number b (flat_map (λ y. option_to_list (f y)) ys) ≡ list_any (λ y. is_at (f y) b) ys
options_have f b [] = refl
options_have f b (y ∷ ys) =
    list_any-append (λ z. nat_eq z b) (option_to_list (f y)) (flat_map (λ y. option_to_list (f y)) ys)
    ∙ ap (λ t. t || has_number b (flat_map (λ y. option_to_list (f y)) ys)) (option_has b (f y))
    ∙ ap (λ t. is_at (f y) b || t) (options_have f b ys)

own_has : (boot : Bool) (o k : Option ℕ) (b : ℕ) → o ≡ k → is_at (cond boot None o) b ≡ (not boot && is_at k b)
own_has true o k b e = refl
own_has false o k b e = ap (λ m. is_at m b) e

module _ (t : Numbers) (es : List Entry) (right : AreNumbers t es) where
  targets_lead : (e : Entry) (b : ℕ) → has_number b (node_targets t e) ≡ leads_from es e b
  targets_lead e b =
      let text : List ℕ = e.node.module.text in
      let own : Bool = not e.node.boot && is_at (number_of es (node_named text true)) b in
      list_any-append (λ z. nat_eq z b) (option_to_list (own_boot t e.node)) (import_targets t e.imports)
      ∙ ap (λ u. u || has_number b (import_targets t e.imports)) (option_has b (own_boot t e.node) ∙ own_has e.node.boot (number_in t true text) (number_of es (node_named text true)) b (right.0 true text))
      ∙ ap (λ u. own || u) (options_have (λ (y : ImportItem). number_in t y.source y.module.text) b e.imports
      ∙ any_agree (λ (y : ImportItem). is_at (number_in t y.source y.module.text) b) (λ (y : ImportItem). is_at (number_of es (target y)) b) (λ y. ap (λ o. is_at o b) (right.0 y.source y.module.text)) e.imports)

  row_leads : (fs : List Entry) (a b : ℕ) → has_number b (get_or (map (node_targets t) fs) a []) ≡ option_map_or (λ (e : Entry). leads_from es e b) (slice_get fs a) false
  row_leads [] a b = refl
  row_leads (e ∷ fs) zero b = targets_lead e b
  row_leads (e ∷ fs) (suc a) b = row_leads fs a b

  pub rows_lead : (rows : List (List ℕ)) → rows ≡ map (node_targets t) es → (a b : ℕ) → HasEdge rows a b ↔ Leads es a b
  rows_lead rows is a b = contains_by (get_or rows a []) b _ (ap (λ g. has_number b (get_or g a [])) is ∙ row_leads es a b)

  joins_alike : (x y : ℕ) (e : Entry)
      → joins_from t e x y ≡ (is_at (module_number es e.node.module.text) x && list_any (λ (i : ImportItem). is_at (module_number es i.module.text) y) e.imports)
  joins_alike x y e =
      ap (λ o. is_at o x && list_any (λ (i : ImportItem). is_at (module_in t i.module.text) y) e.imports) (right.1 e.node.module.text)
      ∙ ap (λ u. is_at (module_number es e.node.module.text) x && u)
      (any_agree (λ (i : ImportItem). is_at (module_in t i.module.text) y) (λ (i : ImportItem). is_at (module_number es i.module.text) y) (λ i. ap (λ o. is_at o y) (right.1 i.module.text)) e.imports)

  pub rows_join : (rows : List (List ℕ)) → ((x y : ℕ) → has_target rows x y ≡ list_any (λ (e : Entry). joins_from t e x y) es) → (x y : ℕ) → HasEdge rows x y ↔ Joins es x y
  rows_join rows is x y =
      contains_by (get_or rows x []) y (joins es x y)
      (is x y ∙ any_agree (λ (e : Entry). joins_from t e x y) (λ (e : Entry). is_at (module_number es e.node.module.text) x && list_any (λ (i : ImportItem). is_at (module_number es i.module.text) y) e.imports) (joins_alike x y) es)

  abbrev number : Entry → ℕ
  number e = unwrap_or (module_in t e.node.module.text) 0

  module_at : (fs : List Entry) (a : ℕ) → get_or (map number fs) a 0 ≡ option_map_or (λ (e : Entry). unwrap_or (module_number es e.node.module.text) 0) (slice_get fs a) 0
  module_at [] a = refl
  module_at (e ∷ fs) zero = ap (λ o. unwrap_or o 0) (right.1 e.node.module.text)
  module_at (e ∷ fs) (suc a) = module_at fs a

  pub modules_are : (ms : List ℕ) → ms ≡ map number es → (a : ℕ) → get_or ms a 0 ≡ module_of es a
  modules_are ms is a = ap (λ l. get_or l a 0) is ∙ module_at es a

  number_below : (e : Entry) → 0 < length es → number e < length es
  number_below e h =
      let p : Entry → Bool = λ d. same_text e.node.module.text d.node.module.text in
      subst (λ o. unwrap_or o 0 < length es) (sym (right.1 e.node.module.text)) (elim (cases_lt (position_or_len p es) (length es)) [
        | inl lt ↦ subst (λ o. unwrap_or o 0 < length es) (sym (cond-true _ (Some (position_or_len p es)) None (lt-ltb (position_or_len p es) (length es) lt))) lt
        | inr le ↦ subst (λ o. unwrap_or o 0 < length es) (sym (cond-false _ (Some (position_or_len p es)) None (le-ltb (position_or_len p es) (length es) le))) h
      ])

  pub modules_below : (ms : List ℕ) → ms ≡ map number es → All (λ m. m < length es) ms
  modules_below ms is = subst (All (λ m. m < length es)) (sym is) (All-map (λ m. m < length es) number es (λ k d h. number_below (get_or es k d) (omega arith)))

-- the row of m has more targets, and the others stay
pub row_added : (g : List (List ℕ)) (m : ℕ) (more : List ℕ) (x y : ℕ) → m < length g → has_target (set g m (get_or g m [] ++ more)) x y ≡ (has_target g x y || (nat_eq m x && has_number y more))
row_added g m more x y lt = elim (cases_eq x m) [
  | inl e ↦
      let here : get_or (set g m (get_or g m [] ++ more)) m [] ≡ get_or g m [] ++ more = get_or-set_same g m (get_or g m [] ++ more) [] lt in
      subst (λ k. has_target (set g m (get_or g m [] ++ more)) k y ≡ (has_target g k y || (nat_eq m k && has_number y more))) (sym e)
      (ap (has_number y) here
      ∙ list_any-append (λ z. nat_eq z y) (get_or g m []) more
      ∙ sym (ap (λ b. has_target g m y || (b && has_number y more)) (eq-eqb m m refl)))
  | inr ne ↦
      ap (has_number y) (get_or-set_other g m x (get_or g m [] ++ more) [] ne)
      ∙ sym (ap (λ b. has_target g x y || (b && has_number y more)) (ne_eqb m x (λ e. ne (sym e))) ∙ or_none (has_target g x y))
]

pub imports_added : (t : Numbers) (g new : List (List ℕ)) (m : ℕ) (e : Entry) → m < length g → module_in t e.node.module.text ≡ Some m → new ≡ set g m (get_or g m [] ++ module_targets t e.imports) → (x y : ℕ) → has_target new x y ≡ (has_target g x y || joins_from t e x y)
imports_added t g new m e lt at is x y =
    ap (λ r. has_target r x y) is
    ∙ row_added g m (module_targets t e.imports) x y lt
    ∙ ap (λ u. has_target g x y || (nat_eq m x && u)) (options_have (λ (i : ImportItem). module_in t i.module.text) y e.imports)
    ∙ ap (λ o. has_target g x y || (is_at o x && list_any (λ (i : ImportItem). is_at (module_in t i.module.text) y) e.imports)) (sym at)
