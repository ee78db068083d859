-- What the theory promises of each language.
use Rattle.std.specs.Prelude.{◌≡◌, ◌⊎◌, true, false, List, [], ◌∷◌, ◌++◌, Some, None, Ok}
use Rattle.std.specs.Map.{lookup}
use Rattle.std.specs.List.{AllByRecursion}
use Rattle.build_theory.specs.Build.{Tree, Language, Sound, outcomes, sorted, is_need, environment, first_bad, clean, clean_results, incremental, order, by_node, history_store}

-- the same list in another order
pub data Shuffles {X : Type 0} : List X → List X → Type 0 where
  none : Shuffles [] []
  skip : {x : X} {xs ys : List X} → Shuffles xs ys → Shuffles (x ∷ xs) (x ∷ ys)
  swap : {x y : X} {xs : List X} → Shuffles (x ∷ y ∷ xs) (y ∷ x ∷ xs)
  then_ : {xs ys zs : List X} → Shuffles xs ys → Shuffles ys zs → Shuffles xs zs

-- x is an element
abbrev pub IsIn : {X : Type 0} → X → List X → Type 0
IsIn x [] = ⊥
IsIn x (y ∷ ys) = (x ≡ y) ⊎ IsIn x ys

module _ {G N S B K E R : Type 0} (l : Language G N S B K E R) where
  -- the order of nodes is strict and total
  pub record IsOrdered : Type 0 where
    pub apart : (a b : N) → l.less a b ≡ true → l.less b a ≡ false
    pub chain : (a b c : N) → l.less a b ≡ true → l.less b c ≡ true → l.less a c ≡ true
    pub total : (a b : N) → l.less a b ≡ false → l.less b a ≡ false → a ≡ b

  -- the test of nodes tells them apart
  pub record IsExact : Type 0 where
    pub tells : (a b : N) → l.same a b ≡ true → a ≡ b
    pub itself : (a : N) → l.same a a ≡ true

  -- no node stands twice
  abbrev pub AreDistinct : List (N × S) → Type 0
  AreDistinct [] = Unit {0}
  AreDistinct (f ∷ fs) = AllByRecursion (λ g. f.0 ≡ g.0 → ⊥) fs × AreDistinct fs

  -- A build over an empty store has the outcomes of the clean build.
  abbrev pub EmptyStoreIsClean : Type 0
  EmptyStoreIsClean = (t : Tree G N S) → outcomes (incremental l [] t) ≡ clean l t

  -- The order in which the files stand changes nothing.
  abbrev pub OrderOfFilesIsNothing : Type 0
  OrderOfFilesIsNothing = IsOrdered → (g : G) (files others : List (N × S)) (store : List (N × K)) → AreDistinct files → Shuffles files others
      → (clean l (record { settings = g; sources = files }) ≡ clean l (record { settings = g; sources = others }))
      × (incremental l store (record { settings = g; sources = files }) ≡ incremental l store (record { settings = g; sources = others }))

  -- The order lists each node of the tree once.
  abbrev pub OrderIsWhole : Type 0
  OrderIsWhole = (t : Tree G N S) → Shuffles t.sources (order l t)

  -- Where each node needs smaller ones alone, the order is that of the nodes.
  abbrev pub IsDownward : Tree G N S → Type 0
  IsDownward t = (a b : N) → is_need l t a b ≡ true → l.less b a ≡ true

  abbrev pub OrderIsByNode : Type 0
  OrderIsByNode = IsOrdered → IsExact → (t : Tree G N S) → AreDistinct t.sources → IsDownward (sorted l t) → order l (sorted l t) ≡ by_node l t.sources

  -- a clean build of one of these trees has the node sound, and this was kept of it
  pub record WasKept (trees : List (Tree G N S)) (m : N) (k : K) : Type 0 where
    pub tree : Tree G N S
    pub among : IsIn tree trees
    pub interface : B
    pub sound : lookup (l.same m) (clean l tree) ≡ Some (Sound interface)
    pub kept : k ≡ l.keep interface

  -- what is refused in each of these trees, as a damaged file is
  abbrev pub IsRefused : List (Tree G N S) → N → K → Type 0
  IsRefused trees m k = (t : Tree G N S) (s : S) (env : List (N × B)) (b : B) → IsIn t trees → l.decide (sorted l t) m s k env ≡ Ok b → ⊥

  -- An honest store: each thing in it was kept of a clean build of one of these trees, or is refused.
  abbrev pub IsHonest : List (Tree G N S) → List (N × K) → Type 0
  IsHonest trees store = (m : N) (k : K) → lookup (l.same m) store ≡ Some k → WasKept trees m k ⊎ IsRefused trees m k

  -- where a node stands in the clean build of a tree, without graph errors and with all its needs sound
  pub record IsUnblocked (t : Tree G N S) (q : N × S) (env : List (N × B)) : Type 0 where
    pub before : List (N × S)
    pub after : List (N × S)
    pub whole : order l (sorted l t) ≡ before ++ q ∷ after
    pub no_errors : l.errors (sorted l t) q.0 q.1 ≡ None
    pub no_bad : first_bad l (sorted l t) q.0 (clean_results l (sorted l t) [] before) (order l (sorted l t)) ≡ None
    pub env_is : env ≡ environment l (sorted l t) q.0 (clean_results l (sorted l t) [] before) (sorted l t).sources

  -- The law of reading, which a language owes: what was kept of a clean build of one tree and is current in another would be checked alike there.
  abbrev pub LawOfReading : List (Tree G N S) → Type 0
  LawOfReading trees = (t : Tree G N S) → IsIn t trees → (q : N × S) (env : List (N × B)) → IsUnblocked t q env → (k : K) (b : B) → WasKept trees q.0 k
      → l.decide (sorted l t) q.0 q.1 k env ≡ Ok b → l.check (sorted l t) q.0 q.1 env ≡ Ok b

  -- Over an honest store the incremental build has the outcomes of the clean build.
  abbrev pub StoresChangeNothing : Type 0
  StoresChangeNothing = (trees : List (Tree G N S)) → LawOfReading trees → (store : List (N × K)) (t : Tree G N S) → IsIn t trees → IsHonest trees store
      → outcomes (incremental l store t) ≡ clean l t

  abbrev pub AllDistinct : List (Tree G N S) → Type 0
  AllDistinct trees = AllByRecursion (λ (t : Tree G N S). AreDistinct t.sources) trees

  -- A build leaves an honest store behind.
  abbrev pub StoresStayHonest : Type 0
  StoresStayHonest = IsOrdered → IsExact → (trees : List (Tree G N S)) → AllDistinct trees → LawOfReading trees → (store : List (N × K)) (ts : List (Tree G N S)) → AllByRecursion (λ t. IsIn t trees) ts
      → IsHonest trees store → IsHonest trees (history_store l store ts)

  -- After any builds of these trees, from nothing, a build of one of them has the outcomes of its clean build.
  abbrev pub HistoriesAreClean : Type 0
  HistoriesAreClean = IsOrdered → IsExact → (trees : List (Tree G N S)) → AllDistinct trees → LawOfReading trees → (ts : List (Tree G N S)) (t : Tree G N S) → AllByRecursion (λ t. IsIn t trees) ts → IsIn t trees
      → outcomes (incremental l (history_store l [] ts) t) ≡ clean l t
