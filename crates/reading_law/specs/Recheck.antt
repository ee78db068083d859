-- A language whose check reads only some queries, and keeps fingerprints of their answers.
use Rattle.std.specs.Prelude.{◌≡◌, List, [], ◌∷◌, map, Result, Ok}
use Rattle.std.specs.List.{AllByRecursion}
use Rattle.build_theory.specs.Build.{Tree, Language, outcomes, sorted, clean, incremental, history_store}
use Rattle.build_theory.specs.Laws.{IsIn, IsOrdered, IsExact, AllDistinct, WasKept, IsUnblocked, LawOfReading}
use Rattle.reading_law.specs.Reading.{Gives, AnswerAlike, ReadsOnly, Reached}
use Rattle.reading_law.specs.Compose.{map_ok}

-- The parts of such a check, over inputs X, what its stages find Y, environments V, queries Q with answers A, usages U, and fingerprints P.
pub record Recheck (G N S B K E X Y V Q A U P : Type 0) : Type 0 where
  -- what a check is given beside its environment, and the environment as its stages see it
  pub input : Tree G N S → N → S → X
  pub view : Tree G N S → N → List (N × B) → V
  pub ask : V → Q → A
  pub stage : X → V → Result Y E
  -- what it reads, and the usages that are kept for it
  pub reads : X → Y → List Q
  pub uses : X → Y → List U
  -- the fingerprint of the input, and a usage's fingerprint in an environment
  pub mark : X → P
  pub now : V → U → P
  -- the interface that is made with the usages' fingerprints
  pub seal : X → Y → List (U × P) → B
  -- what was kept has its interface, the input's fingerprint and the usages
  pub kept : K → B
  pub kept_mark : K → P
  pub kept_uses : K → List (U × P)

module _ {G N S B K E R X Y V Q A U P : Type 0} (l : Language G N S B K E R) (c : Recheck G N S B K E X Y V Q A U P) where
  abbrev pub marked : V → List U → List (U × P)
  marked v us = map (λ u. (u, c.now v u)) us

  -- the interface that is made of what the stage found in an environment
  abbrev pub sealed_in : X → Y → V → B
  sealed_in x y v = c.seal x y (marked v (c.uses x y))

  module _ (trees : List (Tree G N S)) where
    -- the input and the environment of a node that is checked in the clean build of one of these trees
    pub record Stands (n : N) (x : X) (v : V) : Type 0 where
      pub tree : Tree G N S
      pub among : IsIn tree trees
      pub source : S
      pub env : List (N × B)
      pub free : IsUnblocked l tree (n, source) env
      pub input : x ≡ c.input (sorted l tree) n source
      pub view : v ≡ c.view (sorted l tree) n env

    -- the check is the stage, and makes an interface of what that finds
    abbrev pub IsComposed : Type 0
    IsComposed = (t : Tree G N S) → IsIn t trees → (q : N × S) (env : List (N × B)) → IsUnblocked l t q env
        → l.check (sorted l t) q.0 q.1 env ≡ map_ok (λ y. sealed_in (c.input (sorted l t) q.0 q.1) y (c.view (sorted l t) q.0 env)) (c.stage (c.input (sorted l t) q.0 q.1) (c.view (sorted l t) q.0 env))

    -- what is kept of an interface that was made
    pub record IsKept : Type 0 where
      pub whole : (n : N) (x : X) (y : Y) (v : V) → Stands n x v → c.stage x v ≡ Ok y → c.kept (l.keep (sealed_in x y v)) ≡ sealed_in x y v
      pub mark : (n : N) (x : X) (y : Y) (v : V) → Stands n x v → c.stage x v ≡ Ok y → c.kept_mark (l.keep (sealed_in x y v)) ≡ c.mark x
      pub uses : (n : N) (x : X) (y : Y) (v : V) → Stands n x v → c.stage x v ≡ Ok y → c.kept_uses (l.keep (sealed_in x y v)) ≡ marked v (c.uses x y)

    -- what is current is what was kept, with the input's fingerprint and those of the usages as they are now
    abbrev pub IsCompared : Type 0
    IsCompared = (t : Tree G N S) → IsIn t trees → (q : N × S) (env : List (N × B)) → IsUnblocked l t q env → (k : K) (b : B) → WasKept l trees q.0 k → l.decide (sorted l t) q.0 q.1 k env ≡ Ok b
        → (b ≡ c.kept k) × (c.kept_mark k ≡ c.mark (c.input (sorted l t) q.0 q.1)) × AllByRecursion (λ u. u.1 ≡ c.now (c.view (sorted l t) q.0 env) u.0) (c.kept_uses k)

    -- no two different inputs of a node have one fingerprint
    abbrev pub MarksTell : Type 0
    MarksTell = (n : N) (x z : X) (v w : V) → Stands n x v → Stands n z w → c.mark x ≡ c.mark z → x ≡ z

    -- where one input has usages with the same fingerprints in two environments, what was read has the same answers
    abbrev pub UsesTell : Type 0
    UsesTell = (n : N) (x : X) (y : Y) (v w : V) → Stands n x v → Stands n x w → c.stage x v ≡ Ok y → AllByRecursion (λ u. c.now v u ≡ c.now w u) (c.uses x y) → AnswerAlike c.ask (c.reads x y) v w

    -- The law of reading follows.
    abbrev pub ReadingFollows : Type 0
    ReadingFollows = IsExact l → IsComposed → IsKept → IsCompared → ReadsOnly c.ask (Gives c.stage) c.reads → MarksTell → UsesTell → LawOfReading l trees

    -- and so after any builds of these trees, from nothing, a build of one of them has the outcomes of its clean build
    abbrev pub BuildsFollow : Type 0
    BuildsFollow = IsOrdered l → IsExact l → AllDistinct l trees → IsComposed → IsKept → IsCompared → ReadsOnly c.ask (Gives c.stage) c.reads → MarksTell → UsesTell
        → (ts : List (Tree G N S)) (t : Tree G N S) → AllByRecursion (λ t. IsIn t trees) ts → IsIn t trees → outcomes (incremental l (history_store l [] ts) t) ≡ clean l t

-- Where each query that is read is a usage, and no two different answers to it in these trees have one fingerprint, the usages tell.
module _ {G N S B K E R X Y V Q A P : Type 0} (l : Language G N S B K E R) (c : Recheck G N S B K E X Y V Q A Q P) (trees : List (Tree G N S)) where
  abbrev pub AnswersTell : Type 0
  AnswersTell = (n : N) (x : X) (v w : V) (q : Q) → Stands l c trees n x v → Stands l c trees n x w → c.now v q ≡ c.now w q → c.ask v q ≡ c.ask w q

  abbrev pub AnswersTellUses : Type 0
  AnswersTellUses = ((x : X) (y : Y) (q : Q) → IsIn q (c.reads x y) → IsIn q (c.uses x y)) → AnswersTell → UsesTell l c trees

-- Where what is read is reached from usages, and a usage's fingerprint tells the answers to all that is reached from it, the usages tell.
module _ {G N S B K E R X Y V Q A P : Type 0} (l : Language G N S B K E R) (c : Recheck G N S B K E X Y V Q A Q P) (trees : List (Tree G N S)) (next : Q → A → List Q) where
  abbrev pub ReachedTell : Type 0
  ReachedTell = (n : N) (x : X) (v w : V) (u q : Q) → Stands l c trees n x v → Stands l c trees n x w → c.now v u ≡ c.now w u → Reached c.ask next (u ∷ []) v q → c.ask v q ≡ c.ask w q

  -- each query that was read is reached from a usage
  abbrev pub AreUsed : Type 0
  AreUsed = (x : X) (y : Y) (v : V) → c.stage x v ≡ Ok y → AllByRecursion (λ q. (u : Q) × IsIn u (c.uses x y) × Reached c.ask next (u ∷ []) v q) (c.reads x y)

  abbrev pub ReachedTellUses : Type 0
  ReachedTellUses = AreUsed → ReachedTell → UsesTell l c trees
