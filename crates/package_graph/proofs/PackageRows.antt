-- What the modules of packages reach.
use Rattle.std.proofs.Common.{◌≡◌, ◌↔◌, ℕ, zero, suc, ◌+◌, ◌<◌, Bool, true, false, ◌||◌, ◌&&◌, List, [], ◌∷◌, ◌++◌, length, map, drop, get_or, append_assoc, Option, Some, None, Vec, nat_eq, nat_lt, refl, ap, sym, ◌∙◌, subst, inl, inr, arith}
use Rattle.std.specs.Prelude.{position, slice_get}
use Rattle.std.specs.Global.{Global}
use Rattle.std.specs.List.{Contains, list_any, position_or_len, flat_map}
use Rattle.std.specs.Option.{option_map_or, option_or}
use Rattle.std.proofs.lemmas.Bool.{ltb-true}
use Rattle.std.proofs.lemmas.Option.{cond_some, slice_get_within}
use Rattle.std.proofs.lemmas.List.{length-map, map-append, get_or_default}
use Rattle.std.proofs.lemmas.List.Elements.{Contains-get_or}
use Rattle.numbered_nodes.specs.Bits.{has}
use Rattle.numbered_nodes.proofs.Booleans.{split_or, is_same, from_test}
use Rattle.numbered_nodes.specs.Reach.{Reach}
use Rattle.numbered_nodes.specs.Edges.{lists, HasEdge, InRange}
use Rattle.numbered_nodes.proofs.ReachLaws.{more_edges}
use Rattle.indexmap.specs.IndexMap.{IndexMap, get}
use Rattle.mk_base.specs.declared.name.ModName.{ModName}
use Rattle.numbered_nodes.proofs.Below.{is_at_is, same_tests}
use Rattle.package_graph.specs.declared.modules.PackageModule.{PackageModule}
use Rattle.numbered_nodes.specs.Chains.{AreBelow, IsStep, over, is_at}
use Rattle.mk_base.specs.Texts.{same_text}
use Rattle.package_graph.specs.Packages.{first_package, in_package, led_to, package_leads, has_package}
use Rattle.package_graph.specs.declared.tables.Home.{Home}
use Rattle.package_graph.specs.Targets.{home_in, one_place, package_targets, targets_in}
use Rattle.numbered_nodes.proofs.Chains.{over_is_reach}
use Rattle.package_graph.proofs.Members.{any_place, place_of_any}
use Rattle.package_graph.proofs.Positions.{rest_next}

-- a first place is a place
pub position_below : {X : Type 0} (p : X → Bool) (xs : List X) (k : ℕ) → position p xs ≡ Some k → k < length xs
position_below p xs k e =
    let s = cond_some (nat_lt (position_or_len p xs) (length xs)) (position_or_len p xs) k e in
    subst (λ j. j < length xs) s.1 (ltb-true (position_or_len p xs) (length xs) s.0)

either_below : (n : ℕ) (o q : Option ℕ) (k : ℕ) → (o ≡ Some k → k < n) → (q ≡ Some k → k < n) → option_or o q ≡ Some k → k < n
either_below n None q k f g e = g e
either_below n (Some i) q k f g e = f e

turned_test : (k j : ℕ) → nat_eq k j ≡ nat_eq j k
turned_test k j = same_tests (nat_eq k j) (nat_eq j k) (λ e. is_same j k (sym (from_test k j e))) (λ e. is_same k j (sym (from_test j k e)))

any_below_at : {X : Type 0} (f : X → Option ℕ) (n k : ℕ) → ((x : X) → is_at (f x) k ≡ true → k < n) → (xs : List X) → list_any (λ x. is_at (f x) k) xs ≡ true → k < n
any_below_at f n k within [] e = absurd (let h : ⊥ = cc in h)
any_below_at f n k within (x ∷ xs) e = elim (split_or (is_at (f x) k) (list_any (λ y. is_at (f y) k) xs) e) [
  | inl h ↦ within x h
  | inr h ↦ any_below_at f n k within xs h
]

module _ (ps : List PackageModule) where
  led_below : (u m : List ℕ) (k : ℕ) → is_at (led_to ps u m) k ≡ true → k < length ps
  led_below u m k e =
      either_below (length ps) (in_package ps u m) (first_package ps m) k
      (position_below (λ (p : PackageModule). same_text u p.unit.text && same_text m p.«module».text) ps k)
      (position_below (λ (p : PackageModule). same_text m p.«module».text) ps k)
      (is_at_is (led_to ps u m) k e)

  -- where a module leads, if it is there
  abbrev leads_to : Option PackageModule → ℕ → Bool
  leads_to o k = option_map_or (λ (p : PackageModule). list_any (λ (m : ModName). is_at (led_to ps p.unit.text m.text) k) p.reaches) o false

  lead_below : (o : Option PackageModule) (k : ℕ) → leads_to o k ≡ true → k < length ps
  lead_below None k e = absurd (let h : ⊥ = cc in h)
  lead_below (Some p) k e = any_below_at (λ (m : ModName). led_to ps p.unit.text m.text) (length ps) k (λ m. led_below p.unit.text m.text k) p.reaches e

  leader_below : (o : Option PackageModule) (j k : ℕ) → slice_get ps j ≡ o → leads_to o k ≡ true → j < length ps
  leader_below None j k at e = absurd (let h : ⊥ = cc in h)
  leader_below (Some p) j k at e = slice_get_within ps j p at

  -- modules lead to places of modules
  pub leads_below : AreBelow (package_leads ps) (length ps)
  leads_below j k e = (leader_below (slice_get ps j) j k refl e, lead_below (slice_get ps j) k e)

  targets_at : (qs : List PackageModule) (j : ℕ) → get_or (map (package_targets ps) qs) j [] ≡ option_map_or (package_targets ps) (slice_get qs j) []
  targets_at [] j = refl
  targets_at (q ∷ qs) zero = refl
  targets_at (q ∷ qs) (suc j) = targets_at qs j

  lead_of : (o : Option PackageModule) (k : ℕ) → Contains (option_map_or (package_targets ps) o []) k → leads_to o k ≡ true
  lead_of None k h = absurd (omega (arith, h.1))
  lead_of (Some p) k h = any_place (λ (m : ModName). led_to ps p.unit.text m.text) p.reaches k h

  target_of : (o : Option PackageModule) (k : ℕ) → leads_to o k ≡ true → Contains (option_map_or (package_targets ps) o []) k
  target_of None k e = absurd (let h : ⊥ = cc in h)
  target_of (Some p) k e = place_of_any (λ (m : ModName). led_to ps p.unit.text m.text) p.reaches k e

  module _ (g : List (List ℕ)) (is : g ≡ map (package_targets ps) ps) where
    row_is : (j : ℕ) → get_or g j [] ≡ option_map_or (package_targets ps) (slice_get ps j) []
    row_is j = ap (λ rows. get_or rows j []) is ∙ targets_at ps j

    step_of : (j k : ℕ) → HasEdge g j k → IsStep (package_leads ps) j k
    step_of j k h = lead_of (slice_get ps j) k (subst (λ row. Contains row k) (row_is j) h)

    edge_of : (j k : ℕ) → IsStep (package_leads ps) j k → HasEdge g j k
    edge_of j k e = subst (λ row. Contains row k) (sym (row_is j)) (target_of (slice_get ps j) k e)

    -- all edges are between modules
    pub edges_in_range : (n : ℕ) → n ≡ length ps → InRange g n
    edges_in_range n at j d lt i e less =
        let row : get_or g j d ≡ get_or g j [] = get_or_default g j d [] lt in
        let edge : HasEdge g j (get_or (get_or g j d) i e) = subst (λ xs. Contains xs (get_or (get_or g j d) i e)) row (Contains-get_or (get_or g j d) i e less) in
        subst (λ m. get_or (get_or g j d) i e < m) (sym at) (leads_below j (get_or (get_or g j d) i e) (step_of j (get_or (get_or g j d) i e) edge)).1

    -- what is reached over the edges is what a module has besides itself
    pub reach_is_over : (j k : ℕ) → Reach (HasEdge g) j k ↔ (over (package_leads ps) (length ps) j k ≡ true)
    reach_is_over j k =
        let closure = over_is_reach (package_leads ps) (length ps) leads_below j k in
        (λ r. closure.1 (more_edges step_of r), λ e. more_edges edge_of (closure.0 e))

-- there are as many rows of edges as modules
pub as_many : (es : List (Vec ℕ Global)) (ps : List PackageModule) → lists es ≡ map (package_targets ps) ps → length es ≡ length ps
as_many es ps is =
    let edges : length (lists es) ≡ length es = simp length-map in
    let targets : length (map (package_targets ps) ps) ≡ length ps = simp length-map in
    sym edges ∙ ap length is ∙ targets

-- a row with the module itself and all that it reaches
pub row_has : (ps : List PackageModule) (row own : List ℕ) (j k : ℕ) → has row k ≡ (nat_eq k j || has own k) → (has own k ≡ true) ↔ (over (package_leads ps) (length ps) j k ≡ true) → has row k ≡ has_package ps j k
row_has ps row own j k e f = e ∙ ap (λ b. b || has own k) (turned_test k j) ∙ ap (λ b. nat_eq j k || b) (same_tests (has own k) (over (package_leads ps) (length ps) j k) f.0 f.1)

-- the targets by the tables are those of the definition
targets_are : {S T : Type 0} (ps : List PackageModule) (homes : IndexMap Home ℕ S) (firsts : IndexMap (List ℕ) ℕ T) (u : List ℕ) (names : List ModName)
    → ((v m : List ℕ) → home_in homes v m ≡ in_package ps v m) → ((m : List ℕ) → get same_text firsts m ≡ first_package ps m)
    → targets_in homes firsts u names ≡ flat_map (λ (m : ModName). one_place (led_to ps u m.text)) names
targets_are ps homes firsts u names own first = λ j. flat_map (λ (m : ModName). one_place (option_or (own u m.text j) (first m.text j))) names

-- the targets of one module more
pub edges_next : {S T : Type 0} (ps : List PackageModule) (homes : IndexMap Home ℕ S) (firsts : IndexMap (List ℕ) ℕ T) (i : ℕ) (p : PackageModule) (old : List (Vec ℕ Global)) (row : Vec ℕ Global) (new : List (Vec ℕ Global))
    → ((v m : List ℕ) → home_in homes v m ≡ in_package ps v m) → ((m : List ℕ) → get same_text firsts m ≡ first_package ps m) → i < length ps → p ≡ get_or ps i p
    → row.items ≡ targets_in homes firsts p.unit.text p.reaches → new ≡ old ++ row ∷ []
    → lists old ++ map (package_targets ps) (drop i ps) ≡ map (package_targets ps) ps → lists new ++ map (package_targets ps) (drop (i + 1) ps) ≡ map (package_targets ps) ps
edges_next ps homes firsts i p old row new own first lt is made pushed h =
    let rest : List (List ℕ) = map (package_targets ps) (drop (i + 1) ps) in
    let row_is : row.items ≡ package_targets ps p = made ∙ targets_are ps homes firsts p.unit.text p.reaches own first in
    ap (λ l. lists l ++ rest) pushed
    ∙ ap (λ l. l ++ rest) (map-append (λ (v : Vec ℕ Global). v.items) old (row ∷ []))
    ∙ append_assoc (lists old) (row.items ∷ []) rest
    ∙ ap (λ r. lists old ++ r ∷ rest) row_is
    ∙ ap (λ qs. lists old ++ map (package_targets ps) qs) (sym (rest_next ps i p lt is))
    ∙ h
