-- The least names of damaged and of dangling modules.
use Rattle.std.proofs.Common.{◌≡◌, ◌↔◌, ℕ, zero, suc, ◌+◌, ◌<◌, ◌≤◌, Bool, true, false, cond, ◌&&◌, List, [], ◌∷◌, ◌++◌, length, map, drop, get_or, Option, Some, refl, ap, sym, ◌∙◌, subst, arith}
use Rattle.std.specs.Prelude.{slice_get}
use Rattle.std.specs.List.{All, filter}
use Rattle.std.specs.Option.{option_map_or, option_map}
use Rattle.std.proofs.lemmas.List.{get_or_default, length-map}
use Rattle.std.proofs.lemmas.List.Elements.{All-nil, All-cons}
use Rattle.std.proofs.lemmas.Option.{slice_get-map, slice_get-get_or, slice_get_within}
use Rattle.numbered_nodes.specs.Bits.{has}
use Rattle.numbered_nodes.specs.Edges.{Relates}
use Rattle.package_graph.specs.declared.modules.PackageModule.{PackageModule}
use Rattle.package_graph.specs.declared.modules.PackageState.{PackageState}
use Rattle.package_graph.specs.Packages.{has_package, faulty_from, least_faulty, least, lesser}
use Rattle.package_graph.specs.Targets.{is_state, name_at, state_places, least_at}
use Rattle.numbered_nodes.proofs.Below.{same_tests}
use Rattle.package_graph.proofs.Positions.{rest_next}

least_kept : (ps : List PackageModule) (test : ℕ → Bool) (k : ℕ) (ks : List ℕ) (m : PackageModule) → test k ≡ true → slice_get ps k ≡ Some m → least_at ps test (k ∷ ks) ≡ Some (lesser m.«module».text (least_at ps test ks))
least_kept ps test k ks m passes at =
    ap (λ b. least (map (name_at ps) (cond b (k ∷ filter test ks) (filter test ks)))) passes
    ∙ ap (λ o. Some (lesser (option_map_or (λ (p : PackageModule). p.«module».text) o []) (least_at ps test ks))) at

-- the step of a search for the least name, from the last place on
pub least_next : (ps : List PackageModule) (test : ℕ → Bool) (ks : List ℕ) (i next k : ℕ) (m : PackageModule) (name : List ℕ) (best : Option (List ℕ)) → i < length ks → next ≡ i + 1 → k ≡ get_or ks i 0 → test k ≡ true → slice_get ps k ≡ Some m
    → name ≡ lesser m.«module».text best → best ≡ least_at ps test (drop next ks) → Some name ≡ least_at ps test (drop i ks)
least_next ps test ks i next k m name best lt at is passes here e h =
    ap (λ n. Some n) (e ∙ ap (lesser m.«module».text) (h ∙ ap (λ n. least_at ps test (drop n ks)) at))
    ∙ sym (ap (least_at ps test) (rest_next ks i k lt (is ∙ get_or_default ks i 0 k lt)) ∙ least_kept ps test k (drop (i + 1) ks) m passes here)

head_at : (ps : List PackageModule) (k : ℕ) (q : PackageModule) (qs : List PackageModule) → q ∷ qs ≡ drop k ps → slice_get ps k ≡ Some q
head_at [] zero q qs e = absurd (let h : ⊥ = cc in h)
head_at [] (suc k) q qs e = absurd (let h : ⊥ = cc in h)
head_at (p ∷ ps) zero q qs e = let h : p ≡ q = cc in ap (λ x. Some x) h
head_at (p ∷ ps) (suc k) q qs e = head_at ps k q qs e

tail_at : (ps : List PackageModule) (k : ℕ) (q : PackageModule) (qs : List PackageModule) → q ∷ qs ≡ drop k ps → qs ≡ drop (suc k) ps
tail_at [] zero q qs e = absurd (let h : ⊥ = cc in h)
tail_at [] (suc k) q qs e = absurd (let h : ⊥ = cc in h)
tail_at (p ∷ ps) zero q qs e = cc
tail_at (p ∷ ps) (suc k) q qs e = tail_at ps k q qs e

module _ (ps : List PackageModule) (test : PackageState → Bool) (j : ℕ) (row : ℕ → Bool) where
  hit : (b c : Bool) (k : ℕ) (name : List ℕ) (ks : List ℕ) (names : List (List ℕ)) → row k ≡ c → name_at ps k ≡ name → map (name_at ps) (filter row ks) ≡ names
      → map (name_at ps) (filter row (cond b (k ∷ []) [] ++ ks)) ≡ cond (b && c) (name ∷ []) [] ++ names
  hit true true k name ks names passes at rest = ap (λ x. map (name_at ps) (cond x (k ∷ filter row ks) (filter row ks))) passes ∙ ap (λ n. n ∷ map (name_at ps) (filter row ks)) at ∙ ap (λ ns. name ∷ ns) rest
  hit true false k name ks names passes at rest = ap (λ x. map (name_at ps) (cond x (k ∷ filter row ks) (filter row ks))) passes ∙ rest
  hit false c k name ks names passes at rest = rest

  names_are : ((k : ℕ) → k < length ps → row k ≡ has_package ps j k) → (k : ℕ) (qs : List PackageModule) → qs ≡ drop k ps → map (name_at ps) (filter row (state_places test k qs)) ≡ faulty_from ps test j k qs
  names_are right k [] e = refl
  names_are right k (q ∷ qs) e =
      let at : slice_get ps k ≡ Some q = head_at ps k q qs e in
      hit (test q.state) (has_package ps j k) k q.«module».text (state_places test (suc k) qs) (faulty_from ps test j (suc k) qs)
      (right k (slice_get_within ps k q at)) (ap (λ o. option_map_or (λ (p : PackageModule). p.«module».text) o []) at)
      (names_are right (suc k) qs (tail_at ps k q qs e))

  -- the least name in a row is that among the module and those that it reaches
  pub least_is : ((k : ℕ) → k < length ps → row k ≡ has_package ps j k) → least_at ps row (state_places test 0 ps) ≡ least_faulty ps test j
  least_is right = ap least (names_are right 0 ps refl)

-- what stands at a place of a list that was made from rows
pub at_row : {X : Type 0} (f : List ℕ → X) (rows : List (List ℕ)) (made : List X) (j : ℕ) → made ≡ map f rows → j < length rows → slice_get made j ≡ Some (f (get_or rows j []))
at_row f rows made j is lt = ap (λ l. slice_get l j) is ∙ slice_get-map f rows j ∙ ap (option_map f) (slice_get-get_or rows j [] lt)

-- the places in some state are places
pub places_below : (test : PackageState → Bool) (n k : ℕ) (qs : List PackageModule) → k + length qs ≤ n → All (λ i. i < n) (state_places test k qs)
places_below test n k [] h = All-nil (λ i. i < n)
places_below test n k (q ∷ qs) h = one_more (test q.state) (state_places test (suc k) qs) (places_below test n (suc k) qs (omega arith))
  where
    one_more : (b : Bool) (ks : List ℕ) → All (λ i. i < n) ks → All (λ i. i < n) (cond b (k ∷ []) [] ++ ks)
    one_more true ks all = All-cons (λ i. i < n) k ks (omega arith) all
    one_more false ks all = all

module _ (ps : List PackageModule) (rows : List (List ℕ)) (state : PackageState) (made : List (Option (List ℕ))) where
  -- the least names that rows have
  abbrev pub AreLeast : Type 0
  AreLeast = made ≡ map (λ row. least_at ps (has row) (state_places (is_state state) 0 ps)) rows

  pub as_many_names : AreLeast → length rows ≡ length ps → length made ≡ length ps
  as_many_names is many = let names : length (map (λ row. least_at ps (has row) (state_places (is_state state) 0 ps)) rows) ≡ length rows = simp length-map in ap length is ∙ names ∙ many

  -- the names of the least module in a state, where the rows have what each module reaches
  pub names_at : AreLeast → length rows ≡ length ps → ((j k : ℕ) → j < length ps → k < length ps → Relates rows j k ↔ (has_package ps j k ≡ true)) → (j : ℕ) → j < length ps → slice_get made j ≡ Some (least_faulty ps (is_state state) j)
  names_at is many right j lt =
      let within : j < length rows = subst (λ n. j < n) (sym many) lt in
      let row_is : (k : ℕ) → k < length ps → has (get_or rows j []) k ≡ has_package ps j k = λ k h. same_tests (has (get_or rows j []) k) (has_package ps j k) (right j k lt h).0 (right j k lt h).1 in
      at_row (λ row. least_at ps (has row) (state_places (is_state state) 0 ps)) rows made j is within
      ∙ ap (λ n. Some n) (least_is ps (is_state state) j (has (get_or rows j [])) row_is)
