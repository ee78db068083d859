-- Builds by several workers: claims, finishes and refusals, in any order that the needs allow.
use Rattle.std.specs.Prelude.{◌≡◌, ◌⊎◌, ◌↔◌, ℕ, true, false, List, [], ◌∷◌, ◌++◌, Some, None, if◌then◌else◌}
use Rattle.std.specs.declared.option.Option.{Option}
use Rattle.std.specs.List.{list_any, AllByRecursion}
use Rattle.std.specs.Map.{lookup}
use Rattle.build_theory.specs.Build.{Tree, Language, Judged, Graph, Failed, Blocked, outcomes, is_need, is_sound_in, step, order, incremental, sorted}
use Rattle.build_theory.specs.Laws.{IsIn, IsOrdered, IsExact, AreDistinct, IsDownward}

-- a worker takes a node, hands its result in, or gives it up for want of memory
pub data Event (N J : Type 0) : Type 0 where
  Claim : ℕ → N → Event N J
  Finish : ℕ → N → J → Event N J
  Refuse : ℕ → N → Event N J

-- who works on what, what is finished, and what was given up; every other node waits
pub record State (N J : Type 0) : Type 0 where
  pub claimed : List (N × ℕ)
  pub finished : List (N × J)
  pub refused : List (N × ℕ)

module _ {G N S B K E R : Type 0} (l : Language G N S B K E R) where
  -- where a node stands in the order: once, and behind all that it needs
  pub record HasPlace (t : Tree G N S) (q : N × S) : Type 0 where
    pub before : List (N × S)
    pub after : List (N × S)
    pub whole : order l t ≡ before ++ q ∷ after
    pub once : AllByRecursion (λ p. l.same q.0 p.0 ≡ false) before
    pub behind : (n : N) → is_need l t q.0 n ≡ true → list_any (λ p. l.same n p.0) before ≡ true

  -- a need of a need is a need
  abbrev pub AreTransitive : Tree G N S → Type 0
  AreTransitive t = (a b c : N) → l.needs t a b ≡ true → l.needs t b c ≡ true → l.needs t a c ≡ true

  -- there is no cycle before a node: neither it nor a node that it needs needs itself
  abbrev pub HasNoCycleBefore : Tree G N S → N → Type 0
  HasNoCycleBefore t a = (l.needs t a a ≡ false) × ((b : N) → is_need l t a b ≡ true → l.needs t b b ≡ false)

  -- The order has a node before which there is no cycle behind all that it needs.
  abbrev pub NeedsStandBefore : Type 0
  NeedsStandBefore = IsExact l → (t : Tree G N S) → AreDistinct l t.sources → AreTransitive t → (q : N × S) → IsIn q t.sources → HasNoCycleBefore t q.0 → HasPlace t q

  abbrev pub without : N → List (N × ℕ) → List (N × ℕ)
  without m [] = []
  without m (c ∷ cs) = if l.same m c.0 then without m cs else c ∷ without m cs

  abbrev pub failed_at : N × S → Option E → List (N × Judged N B E R)
  failed_at q (Some e) = (q.0, record { how = Graph; outcome = Failed e }) ∷ []
  failed_at q None = []

  -- the nodes that fail in the graph stage are finished from the start
  abbrev pub failed_from : Tree G N S → List (N × S) → List (N × Judged N B E R)
  failed_from t [] = []
  failed_from t (q ∷ qs) = failed_at q (l.errors t q.0 q.1) ++ failed_from t qs

  abbrev pub opening : Tree G N S → State N (Judged N B E R)
  opening t = record { claimed = []; finished = failed_from t t.sources; refused = [] }

  -- all that m needs is sound
  abbrev pub IsReady : Tree G N S → List (N × Judged N B E R) → N → Type 0
  IsReady t done m = (n : N) → is_need l t m n ≡ true → is_sound_in l (outcomes done) n ≡ true

  abbrev pub IsWaiting : State N (Judged N B E R) → N → Type 0
  IsWaiting s m = (lookup (l.same m) s.finished ≡ None) × (lookup (l.same m) s.claimed ≡ None) × (lookup (l.same m) s.refused ≡ None)

  -- A claim needs a waiting node of the tree that is ready. A finish needs the worker's claim, and gives what the build's step gives from the finished results.
  -- A refusal needs the worker's claim.
  abbrev pub Step : Tree G N S → List (N × K) → State N (Judged N B E R) → Event N (Judged N B E R) → State N (Judged N B E R) → Type 0
  Step t store s (Claim w m) next = (list_any (λ q. l.same m q.0) t.sources ≡ true) × IsWaiting s m × IsReady t s.finished m
      × (next ≡ record { claimed = (m, w) ∷ s.claimed; finished = s.finished; refused = s.refused })
  Step t store s (Finish w m j) next = (q : N × S) × IsIn q t.sources × (q.0 ≡ m) × (lookup (l.same m) s.claimed ≡ Some w) × (j ≡ step l t store (outcomes s.finished) q)
      × (next ≡ record { claimed = without m s.claimed; finished = (m, j) ∷ s.finished; refused = s.refused })
  Step t store s (Refuse w m) next = (lookup (l.same m) s.claimed ≡ Some w)
      × (next ≡ record { claimed = without m s.claimed; finished = s.finished; refused = (m, w) ∷ s.refused })

  abbrev pub Run : Tree G N S → List (N × K) → State N (Judged N B E R) → List (Event N (Judged N B E R)) → State N (Judged N B E R) → Type 0
  Run t store s [] last = last ≡ s
  Run t store s (e ∷ es) last = (next : State N (Judged N B E R)) × Step t store s e next × Run t store next es last

  -- The premise: a node without graph errors all of whose needs are sound in the incremental build stands behind them in the order.
  abbrev pub NeedsComeFirst : Tree G N S → List (N × K) → Type 0
  NeedsComeFirst t store = (q : N × S) → IsIn q t.sources → l.errors t q.0 q.1 ≡ None
      → ((n : N) → is_need l t q.0 n ≡ true → is_sound_in l (outcomes (incremental l store t)) n ≡ true) → HasPlace t q

  -- Every run gives each finished node the result of the incremental build.
  abbrev pub SweepAgrees : Type 0
  SweepAgrees = IsOrdered l → IsExact l → (t : Tree G N S) (store : List (N × K)) → AreDistinct l t.sources → NeedsComeFirst (sorted l t) store
      → (es : List (Event N (Judged N B E R))) (s : State N (Judged N B E R)) → Run (sorted l t) store (opening (sorted l t)) es s
      → (m : N) (j : Judged N B E R) → lookup (l.same m) s.finished ≡ Some j → lookup (l.same m) (incremental l store t) ≡ Some j

  -- The same of trees whose nodes need smaller ones alone, with nothing asked of the order.
  abbrev pub SweepAgreesDownward : Type 0
  SweepAgreesDownward = IsOrdered l → IsExact l → (t : Tree G N S) (store : List (N × K)) → AreDistinct l t.sources → IsDownward l (sorted l t)
      → (es : List (Event N (Judged N B E R))) (s : State N (Judged N B E R)) → Run (sorted l t) store (opening (sorted l t)) es s
      → (m : N) (j : Judged N B E R) → lookup (l.same m) s.finished ≡ Some j → lookup (l.same m) (incremental l store t) ≡ Some j

  -- The same of any tree, with nothing asked of the order: what a run finishes has its needs finished before it, and so the order has them before it too.
  abbrev pub EverySweepAgrees : Type 0
  EverySweepAgrees = IsOrdered l → IsExact l → (t : Tree G N S) (store : List (N × K)) → AreDistinct l t.sources
      → (es : List (Event N (Judged N B E R))) (s : State N (Judged N B E R)) → Run (sorted l t) store (opening (sorted l t)) es s
      → (m : N) (j : Judged N B E R) → lookup (l.same m) s.finished ≡ Some j → lookup (l.same m) (incremental l store t) ≡ Some j

  -- nothing more can happen
  abbrev pub IsOver : Tree G N S → List (N × K) → State N (Judged N B E R) → Type 0
  IsOver t store s = (e : Event N (Judged N B E R)) (next : State N (Judged N B E R)) → Step t store s e next → ⊥

  -- a node needs one that was given up, or one that is behind such a node
  pub data IsBehindRefused (t : Tree G N S) (s : State N (Judged N B E R)) : N → Type 0 where
    needs_refused : {m : N} (n : N) (w : ℕ) → is_need l t m n ≡ true → lookup (l.same n) s.refused ≡ Some w → IsBehindRefused t s m
    needs_behind : {m : N} (n : N) → is_need l t m n ≡ true → IsBehindRefused t s n → IsBehindRefused t s m

  -- these results have a node blocked
  pub record IsBlockedIn (rs : List (N × Judged N B E R)) (m : N) : Type 0 where
    pub judged : Judged N B E R
    pub by : N
    pub there : lookup (l.same m) rs ≡ Some judged
    pub blocked : judged.outcome ≡ Blocked by

  -- A sweep that is over leaves waiting just the nodes that the incremental build blocks, and those, without graph
  -- errors, that are behind a node that was given up.
  abbrev pub WaitingAtTheEnd : Type 0
  WaitingAtTheEnd = IsOrdered l → IsExact l → (t : Tree G N S) (store : List (N × K)) → AreDistinct l t.sources
      → (es : List (Event N (Judged N B E R))) (s : State N (Judged N B E R)) → Run (sorted l t) store (opening (sorted l t)) es s → IsOver (sorted l t) store s
      → (q : N × S) → IsIn q t.sources → IsWaiting s q.0 ↔ (IsBlockedIn (incremental l store t) q.0 ⊎ ((l.errors (sorted l t) q.0 q.1 ≡ None) × IsBehindRefused (sorted l t) s q.0))
