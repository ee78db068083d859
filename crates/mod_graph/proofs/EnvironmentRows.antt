-- The modules of packages in the environments of nodes.
use Rattle.std.proofs.Common.{◌≡◌, ℕ, ◌+◌, ◌<◌, Bool, true, false, ◌&&◌, ◌||◌, List, [], ◌∷◌, ◌++◌, length, map, get_or, Option, Some, None, refl, ap, sym, ◌∙◌, subst, arith, inl, inr}
use Rattle.std.specs.Prelude.{slice_get, codes, is_some, if◌then◌else◌}
use Rattle.std.specs.List.{list_any, range_with_len}
use Rattle.std.specs.Option.{option_map_or}
use Rattle.std.proofs.lemmas.Bool.{cases_lt}
use Rattle.std.proofs.lemmas.Option.{slice_get_read}
use Rattle.std.proofs.lemmas.List.{get_or_append_left, get_or_push}
use Rattle.std.proofs.lemmas.List.FromFn.{fill_by_all}
use Rattle.numbered_nodes.specs.Bits.{has}
use Rattle.hs_syntax.specs.declared.header.ImportItem.{ImportItem}
use Rattle.mod_graph.specs.declared.entries.Entry.{Entry}
use Rattle.package_graph.specs.declared.packages.Packages.{Packages}
use Rattle.mod_graph.specs.declared.places.Numbers.{Numbers}
use Rattle.package_graph.specs.declared.modules.PackageModule.{PackageModule}
use Rattle.mod_graph.specs.declared.rows.Rows.{Rows}
use Rattle.numbered_nodes.specs.Chains.{any_below, below}
use Rattle.mod_graph.specs.Edges.{module_number, needs}
use Rattle.package_graph.specs.Environments.{among}
use Rattle.mod_graph.specs.Environments.{brings_in, imports_bring, own_brings}
use Rattle.mod_graph.specs.Errors.{Found, InTree, InPackage, InPrim, Nowhere, look_up, outside_tree}
use Rattle.mod_graph.specs.Found.{found_at, found_outside, found_in}
use Rattle.mod_graph.specs.Graph.{Input, entries, brings, imports_package, in_environment}
use Rattle.mod_graph.specs.Names.{same_text}
use Rattle.package_graph.specs.Packages.{first_package, has_package}
use Rattle.mod_graph.specs.Places.{AreNumbers}
use Rattle.mod_graph.specs.Rows.{AreRows}
use Rattle.package_graph.specs.Tables.{AreTables}
use Rattle.numbered_nodes.proofs.Below.{any_below_alike, below_alike, same_tests}
use Rattle.package_graph.proofs.PackageRows.{position_below}

pub adds_none : (b c : Bool) → c ≡ false → b ≡ (b || c)
adds_none true c e = refl
adds_none false c e = sym e

-- the row of one node more
pub rows_next : (n : Numbers) (t : Packages) (es : List Entry) (old new : List (List ℕ)) (row : List ℕ) (i : ℕ) (e : Entry) → i < length es → e ≡ get_or es i e → length old ≡ i → new ≡ old ++ row ∷ []
    → ((k : ℕ) → has row k ≡ imports_bring n t e.imports k) → ((a k : ℕ) → a < i → has (get_or old a []) k ≡ own_brings n t es a k) → (a k : ℕ) → a < i + 1 → has (get_or new a []) k ≡ own_brings n t es a k
rows_next n t es old new row i e lt is len pushed right before a k less = elim (cases_lt a i) [
  | inl h ↦ ap (λ l. has (get_or l a []) k) pushed ∙ ap (λ r. has r k) (get_or_append_left old (row ∷ []) [] a (omega arith)) ∙ before a k h
  | inr h ↦
      let same : a ≡ i = omega arith in
      let at : slice_get es i ≡ Some e = slice_get_read es (length es) i e refl lt is in
      ap (λ l. has (get_or l a []) k) pushed ∙ ap (λ r. has r k) (get_or_push old row [] a (omega arith)) ∙ right k
      ∙ sym (ap (λ b. own_brings n t es b k) same ∙ ap (λ o. option_map_or (λ (f : Entry). imports_bring n t f.imports k) o false) at)
]

-- what is found by the tables is what the definition finds
found_elsewhere : (es : List Entry) (ps : List PackageModule) (m : List ℕ) (o : Option ℕ) → found_at m o ≡ outside_tree es ps m o
found_elsewhere es ps m None = refl
found_elsewhere es ps m (Some k) = refl

pub found_is : (n : Numbers) (t : Packages) (es : List Entry) (ps : List PackageModule) (m : List ℕ) → AreNumbers n es → AreTables t ps → found_in n t m ≡ look_up es ps m
found_is n t es ps m numbers tables =
    ap (λ o. if is_some o then InTree else found_outside t m) (numbers.1 m)
    ∙ ap (λ f. if is_some (module_number es m) then InTree else f) (ap (found_at m) (tables.first m) ∙ found_elsewhere es ps m (first_package ps m))

prim_or_nowhere : (b : Bool) (j : ℕ) → (if b then InPrim else Nowhere) ≡ InPackage j → ⊥
prim_or_nowhere true j e = cc
prim_or_nowhere false j e = cc

-- where a name is found among packages there is a module
pub package_below : (es : List Entry) (ps : List PackageModule) (m : List ℕ) (j : ℕ) → look_up es ps m ≡ InPackage j → j < length ps
package_below es ps m j e = inside (is_some (module_number es m)) (first_package ps m) refl e
  where
    inside : (b : Bool) (o : Option ℕ) → first_package ps m ≡ o → (if b then InTree else outside_tree es ps m o) ≡ InPackage j → j < length ps
    inside true o at f = absurd (let h : ⊥ = cc in h)
    inside false None at f = absurd (prim_or_nowhere (same_text m (codes "Prim")) j f)
    inside false (Some k) at f = let same : k ≡ j = cc in position_below (λ (p : PackageModule). same_text m p.«module».text) ps j (at ∙ ap (λ x. Some x) same)

module _ (i : Input) (n : Numbers) (r : Rows) (t : Packages) (numbers : AreNumbers n (entries i)) (rows : AreRows r (entries i)) (tables : AreTables t i.packages) where
  brings_same : (m : List ℕ) (f : Found) (k : ℕ) → k < length i.packages → look_up (entries i) i.packages m ≡ f → brings_in t f k ≡ brings i f k
  brings_same m InTree k lt e = refl
  brings_same m (InPackage j) k lt e = let same = tables.rows j k (package_below (entries i) i.packages m j e) lt in same_tests (has (get_or t.rows.items j []) k) (has_package i.packages j k) same.0 same.1
  brings_same m InPrim k lt e = refl
  brings_same m Nowhere k lt e = refl

  import_same : (y : ImportItem) (k : ℕ) → k < length i.packages → brings_in t (found_in n t y.«module».text) k ≡ brings i (look_up (entries i) i.packages y.«module».text) k
  import_same y k lt =
      let m : List ℕ = y.«module».text in
      ap (λ f. brings_in t f k) (found_is n t (entries i) i.packages m numbers tables) ∙ brings_same m (look_up (entries i) i.packages m) k lt refl

  imports_same : (k : ℕ) → k < length i.packages → (ys : List ImportItem) → imports_bring n t ys k ≡ list_any (λ (y : ImportItem). brings i (look_up (entries i) i.packages y.«module».text) k) ys
  imports_same k lt ys = λ j. list_any (λ (y : ImportItem). import_same y k lt j) ys

  own_same : (a k : ℕ) → k < length i.packages → own_brings n t (entries i) a k ≡ option_map_or (imports_package i k) (slice_get (entries i) a) false
  own_same a k lt = λ j. option_map_or (λ (e : Entry). imports_same k lt e.imports j) (slice_get (entries i) a) false

  -- the joined rows are the environments
  pub among_same : (own : List (List ℕ)) (a k : ℕ) → length own ≡ length (entries i) → ((b l : ℕ) → b < length (entries i) → has (get_or own b []) l ≡ own_brings n t (entries i) b l) → a < length (entries i) → k < length i.packages
      → among own (get_or r.needs.items a []) a k ≡ in_environment i a k
  among_same own a k len right at lt =
      let here : has (get_or own a []) k ≡ option_map_or (imports_package i k) (slice_get (entries i) a) false = right a k at ∙ own_same a k lt in
      let needed : (b : ℕ) → b < length (entries i) → (has (get_or r.needs.items a []) b && has (get_or own b []) k) ≡ (needs (entries i) a b && option_map_or (imports_package i k) (slice_get (entries i) b) false) =
      λ b h. let same = rows.needs_are a b at h in
      ap (λ x. x && has (get_or own b []) k) (same_tests (has (get_or r.needs.items a []) b) (needs (entries i) a b) same.0 same.1) ∙ ap (λ x. needs (entries i) a b && x) (right b k h ∙ own_same b k lt) in
      ap (λ x. x || any_below (length own) (λ b. has (get_or r.needs.items a []) b && has (get_or own b []) k)) here
      ∙ ap (λ x. option_map_or (imports_package i k) (slice_get (entries i) a) false || x)
      (ap (λ m. any_below m (λ b. has (get_or r.needs.items a []) b && has (get_or own b []) k)) len
      ∙ any_below_alike (length (entries i)) (λ b. has (get_or r.needs.items a []) b && has (get_or own b []) k) (λ b. needs (entries i) a b && option_map_or (imports_package i k) (slice_get (entries i) b) false) needed)

-- the lists of the environments of all nodes
environments_at : (i : Input) (n : Numbers) (r : Rows) (t : Packages) (own made : List (List ℕ)) (count : ℕ) → AreNumbers n (entries i) → AreRows r (entries i) → AreTables t i.packages
    → length own ≡ length (entries i) → ((a k : ℕ) → a < length (entries i) → has (get_or own a []) k ≡ own_brings n t (entries i) a k) → count ≡ length t.rows.items
    → length made ≡ length (entries i) → ((a : ℕ) → a < length (entries i) → get_or made a [] ≡ below count (among own (get_or r.needs.items a []) a))
    → made ≡ map (λ a. below (length i.packages) (in_environment i a)) (range_with_len 0 (length (entries i)))
environments_at i n r t own made count numbers rows tables len right counted long at =
    fill_by_all (λ a. below (length i.packages) (in_environment i a)) made (length (entries i)) [] long
    (λ a lt. at a lt ∙ ap (λ m. below m (among own (get_or r.needs.items a []) a)) (counted ∙ tables.count)
    ∙ below_alike (length i.packages) (among own (get_or r.needs.items a []) a) (in_environment i a) (λ k. among_same i n r t numbers rows tables own a k len right lt))

pub environments_are : (i : Input) (n : Numbers) (r : Rows) (t : Packages) (es : List Entry) (own made : List (List ℕ)) (count : ℕ) → es ≡ entries i → AreNumbers n es → AreRows r es → AreTables t i.packages
    → length own ≡ length es → ((a k : ℕ) → a < length es → has (get_or own a []) k ≡ own_brings n t es a k) → count ≡ length t.rows.items
    → length made ≡ length es → ((a : ℕ) → a < length es → get_or made a [] ≡ below count (among own (get_or r.needs.items a []) a))
    → made ≡ map (λ a. below (length i.packages) (in_environment i a)) (range_with_len 0 (length es))
environments_are i n r t es own made count e numbers rows tables len right counted long at =
    environments_at i n r t own made count (subst (AreNumbers n) e numbers) (subst (AreRows r) e rows) tables (len ∙ ap length e)
    (subst (λ (l : List Entry). (a k : ℕ) → a < length l → has (get_or own a []) k ≡ own_brings n t l a k) e right) counted (long ∙ ap length e)
    (subst (λ (l : List Entry). (a : ℕ) → a < length l → get_or made a [] ≡ below count (among own (get_or r.needs.items a []) a)) e at)
    ∙ ap (λ (l : List Entry). map (λ a. below (length i.packages) (in_environment i a)) (range_with_len 0 (length l))) (sym e)
