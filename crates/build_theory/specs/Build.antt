-- Builds over any language: trees, the order of their nodes, the clean build, and the incremental build over a store.
use Rattle.std.specs.Prelude.{ℕ, zero, suc, ◌+◌, Bool, true, false, ◌&&◌, ◌||◌, not, List, [], ◌∷◌, ◌++◌, length, map, slice_get, remove, Some, None, Result, Ok, Err, if◌then◌else◌}
use Rattle.std.specs.declared.option.Option.{Option}
use Rattle.std.specs.List.{list_any, list_all, flat_map}
use Rattle.std.specs.Map.{lookup}
use Rattle.std.specs.Option.{option_map_or}

-- A tree: what is set for all of it, as its unit, flags and packages, and the source of each node.
pub record Tree (G N S : Type 0) : Type 0 where
  pub settings : G
  pub sources : List (N × S)

-- A language, over settings G, nodes N, sources S, interfaces B, what a store keeps of an interface K, diagnostics E,
-- and reasons for a check R.
pub record Language (G N S B K E R : Type 0) : Type 0 where
  -- the order of nodes, and the test whether two are the same
  pub less : N → N → Bool
  pub same : N → N → Bool
  -- what is wrong with a node before any check, if anything is
  pub errors : Tree G N S → N → S → Option E
  -- whether the first node needs the second
  pub needs : Tree G N S → N → N → Bool
  -- a node's interface or diagnostics, from its source and the interfaces of its needs
  pub check : Tree G N S → N → S → List (N × B) → Result B E
  -- what a store keeps of an interface
  pub keep : B → K
  -- why a node of which nothing is kept is checked
  pub missing : R
  -- the interface that is kept, where it is current, and else why it isn't
  pub decide : Tree G N S → N → S → K → List (N × B) → Result B R

-- what became of a node: sound with an interface, failed with diagnostics, or blocked by a need that isn't sound
pub data Outcome (N B E : Type 0) : Type 0 where
  Sound : B → Outcome N B E
  Failed : E → Outcome N B E
  Blocked : N → Outcome N B E

-- how a build came to it: what was kept is current, it was checked for a reason, its graph stage failed, or a need isn't sound
pub data How (N R : Type 0) : Type 0 where
  Current : How N R
  Checked : R → How N R
  Graph : How N R
  Behind : N → How N R

-- a node's result in an incremental build
pub record Judged (N B E R : Type 0) : Type 0 where
  pub how : How N R
  pub outcome : Outcome N B E

abbrev pub is_sound : {N B E : Type 0} → Outcome N B E → Bool
is_sound (Sound b) = true
is_sound (Failed e) = false
is_sound (Blocked n) = false

abbrev pub of_check : {N B E : Type 0} → Result B E → Outcome N B E
of_check (Ok b) = Sound b
of_check (Err e) = Failed e

abbrev pub outcomes : {N B E R : Type 0} → List (N × Judged N B E R) → List (N × Outcome N B E)
outcomes rs = map (λ r. (r.0, r.1.outcome)) rs

module _ {G N S B K E R : Type 0} (l : Language G N S B K E R) where
  -- the sources, by node
  abbrev pub insert : N × S → List (N × S) → List (N × S)
  insert f [] = f ∷ []
  insert f (g ∷ gs) = if l.less f.0 g.0 then f ∷ g ∷ gs else g ∷ insert f gs

  abbrev pub by_node : List (N × S) → List (N × S)
  by_node [] = []
  by_node (f ∷ fs) = insert f (by_node fs)

  abbrev pub sorted : Tree G N S → Tree G N S
  sorted t = record { settings = t.settings; sources = by_node t.sources }

  abbrev pub is_node : Tree G N S → N → Bool
  is_node t m = list_any (λ q. l.same m q.0) t.sources

  -- a need is a node of the tree, and another one
  abbrev pub is_need : Tree G N S → N → N → Bool
  is_need t a b = is_node t b && (not (l.same a b) && l.needs t a b)

  abbrev pub has : List N → N → Bool
  has ms m = list_any (λ k. l.same k m) ms

  -- all that m needs is listed
  abbrev pub is_ready : Tree G N S → List N → N → Bool
  is_ready t listed m = list_all (λ q. not (is_need t m q.0) || has listed q.0) t.sources

  -- the place of the first that passes, counted from i
  abbrev pub first_at : (N × S → Bool) → ℕ → List (N × S) → Option ℕ
  first_at p i [] = None
  first_at p i (q ∷ qs) = if p q then Some i else first_at p (i + 1) qs

  -- of those that are left the least that is ready, and else the least
  abbrev pub next_at : Tree G N S → List N → List (N × S) → ℕ
  next_at t listed left = option_map_or (λ i. i) (first_at (λ q. is_ready t listed q.0) 0 left) 0

  abbrev pub order_from : ℕ → Tree G N S → List N → List (N × S) → List (N × S)
  order_from zero t listed left = []
  order_from (suc n) t listed left = option_map_or (λ q. q ∷ order_from n t (listed ++ q.0 ∷ []) (remove left (next_at t listed left))) (slice_get left (next_at t listed left)) []

  -- the order of a tree whose sources stand by node: next comes the least node all of whose needs are listed, and where there is none the least
  abbrev pub order : Tree G N S → List (N × S)
  order t = order_from (length t.sources) t [] t.sources

  abbrev pub is_sound_in : List (N × Outcome N B E) → N → Bool
  is_sound_in done n = option_map_or is_sound (lookup (l.same n) done) false

  abbrev pub interface_in : N → Option (Outcome N B E) → List (N × B)
  interface_in n (Some (Sound b)) = (n, b) ∷ []
  interface_in n _ = []

  -- the interfaces of the needs that are sound, by node
  abbrev pub environment : Tree G N S → N → List (N × Outcome N B E) → List (N × S) → List (N × B)
  environment t m done [] = []
  environment t m done (q ∷ qs) = (if is_need t m q.0 then interface_in q.0 (lookup (l.same q.0) done) else []) ++ environment t m done qs

  -- the first need, in order, that isn't sound
  abbrev pub first_bad : Tree G N S → N → List (N × Outcome N B E) → List (N × S) → Option N
  first_bad t m done [] = None
  first_bad t m done (q ∷ qs) = if is_need t m q.0 && not (is_sound_in done q.0) then Some q.0 else first_bad t m done qs

  -- a node's outcome in a clean build, from the outcomes before it: failed in its graph stage, else blocked, else what its check gives
  abbrev pub clean_step : Tree G N S → List (N × Outcome N B E) → N × S → Outcome N B E
  clean_step t done q = option_map_or Failed (l.errors t q.0 q.1)
      (option_map_or Blocked (first_bad t q.0 done (order t)) (of_check (l.check t q.0 q.1 (environment t q.0 done t.sources))))

  abbrev pub clean_results : Tree G N S → List (N × Outcome N B E) → List (N × S) → List (N × Outcome N B E)
  clean_results t done [] = done
  clean_results t done (q ∷ qs) = clean_results t (done ++ (q.0, clean_step t done q) ∷ []) qs

  -- the clean build: from nothing, node by node in order
  abbrev pub clean : Tree G N S → List (N × Outcome N B E)
  clean t = clean_results (sorted t) [] (order (sorted t))

  abbrev pub checked : Tree G N S → N × S → List (N × B) → R → Judged N B E R
  checked t q env r = record { how = Checked r; outcome = of_check (l.check t q.0 q.1 env) }

  -- what is kept where it is current, and else a check
  abbrev pub decided : Tree G N S → N × S → List (N × B) → Result B R → Judged N B E R
  decided t q env (Ok b) = record { how = Current; outcome = Sound b }
  decided t q env (Err r) = checked t q env r

  abbrev pub reused : Tree G N S → N × S → List (N × B) → Option K → Judged N B E R
  reused t q env None = checked t q env l.missing
  reused t q env (Some k) = decided t q env (l.decide t q.0 q.1 k env)

  -- a node's result in an incremental build, from the outcomes before it
  abbrev pub step : Tree G N S → List (N × K) → List (N × Outcome N B E) → N × S → Judged N B E R
  step t store done q = option_map_or (λ e. record { how = Graph; outcome = Failed e }) (l.errors t q.0 q.1)
      (option_map_or (λ n. record { how = Behind n; outcome = Blocked n }) (first_bad t q.0 done (order t))
      (reused t q (environment t q.0 done t.sources) (lookup (l.same q.0) store)))

  abbrev pub results : Tree G N S → List (N × K) → List (N × Judged N B E R) → List (N × S) → List (N × Judged N B E R)
  results t store done [] = done
  results t store done (q ∷ qs) = results t store (done ++ (q.0, step t store (outcomes done) q) ∷ []) qs

  -- the incremental build over a store, node by node in order
  abbrev pub incremental : List (N × K) → Tree G N S → List (N × Judged N B E R)
  incremental store t = results (sorted t) store [] (order (sorted t))

  abbrev pub kept_at : N → Outcome N B E → List (N × K)
  kept_at m (Sound b) = (m, l.keep b) ∷ []
  kept_at m _ = []

  -- what a build puts into the store: what is kept of each sound interface
  abbrev pub kept_of : List (N × Judged N B E R) → List (N × K)
  kept_of rs = flat_map (λ r. kept_at r.0 r.1.outcome) rs

  -- the store after a build: what is new is found first, and all else is as before
  abbrev pub store_after : List (N × K) → Tree G N S → List (N × K)
  store_after store t = kept_of (incremental store t) ++ store

  -- the store after some builds one after another
  abbrev pub history_store : List (N × K) → List (Tree G N S) → List (N × K)
  history_store store [] = store
  history_store store (t ∷ ts) = history_store (store_after store t) ts
