-- Stages made of stages, and what they read.
use Rattle.std.specs.Prelude.{◌≡◌, ℕ, Bool, List, [], ◌∷◌, ◌++◌, Result, Ok, Err}
use Rattle.std.specs.List.{flat_map}
use Rattle.build_theory.specs.Laws.{IsIn}
use Rattle.reading_law.specs.Reading.{Gives, AnswerAlike, ReadsOnly, AreReached, walk, queries}

-- what follows an Ok
abbrev pub carry : {Y Z E : Type 0} → (Y → Result Z E) → Result Y E → Result Z E
carry f (Ok y) = f y
carry f (Err e) = Err e

abbrev pub map_ok : {Y Z E : Type 0} → (Y → Z) → Result Y E → Result Z E
map_ok f (Ok y) = Ok (f y)
map_ok f (Err e) = Err e

-- two results, and where both are errors the two joined
abbrev pub both : {Y Z E : Type 0} → (E → E → E) → Result Y E → Result Z E → Result (Y × Z) E
both join (Ok y) (Ok z) = Ok (y, z)
both join (Ok y) (Err e) = Err e
both join (Err d) (Ok z) = Err d
both join (Err d) (Err e) = Err (join d e)

abbrev pub pair_up : {Y : Type 0} → Y × List Y → List Y
pair_up p = p.0 ∷ p.1

-- a stage behind a stage, which is told the input and what the first one found
abbrev pub behind : {X V Y Z E : Type 0} → (X → V → Result Y E) → (X × Y → V → Result Z E) → X → V → Result (Y × Z) E
behind f g x v = carry (λ y. map_ok (λ z. (y, z)) (g (x, y) v)) (f x v)

-- two stages beside each other
abbrev pub beside : {X V Y Z E : Type 0} → (E → E → E) → (X → V → Result Y E) → (X → V → Result Z E) → X → V → Result (Y × Z) E
beside join f g x v = both join (f x v) (g x v)

-- a stage over each element of a list
abbrev pub each : {X V Y E : Type 0} → (E → E → E) → (X → V → Result Y E) → List X → V → Result (List Y) E
each join f [] v = Ok []
each join f (x ∷ xs) v = map_ok pair_up (both join (f x v) (each join f xs v))

abbrev pub reads_behind : {Q X Y Z : Type 0} → (X → Y → List Q) → (X × Y → Z → List Q) → X → Y × Z → List Q
reads_behind r s x p = r x p.0 ++ s (x, p.0) p.1

abbrev pub reads_beside : {Q X Y Z : Type 0} → (X → Y → List Q) → (X → Z → List Q) → X → Y × Z → List Q
reads_beside r s x p = r x p.0 ++ s x p.1

abbrev pub reads_each : {Q X Y : Type 0} → (X → Y → List Q) → List X → List Y → List Q
reads_each r (x ∷ xs) (y ∷ ys) = r x y ++ reads_each r xs ys
reads_each r _ _ = []

module _ {V Q A : Type 0} (ask : V → Q → A) where
  -- A stage behind a stage reads what both read.
  abbrev pub BehindReads : {X Y Z E : Type 0} → (X → V → Result Y E) → (X × Y → V → Result Z E) → (X → Y → List Q) → (X × Y → Z → List Q) → Type 0
  BehindReads f g r s = ReadsOnly ask (Gives f) r → ReadsOnly ask (Gives g) s → ReadsOnly ask (Gives (behind f g)) (reads_behind r s)

  abbrev pub BesideReads : {X Y Z E : Type 0} → (E → E → E) → (X → V → Result Y E) → (X → V → Result Z E) → (X → Y → List Q) → (X → Z → List Q) → Type 0
  BesideReads join f g r s = ReadsOnly ask (Gives f) r → ReadsOnly ask (Gives g) s → ReadsOnly ask (Gives (beside join f g)) (reads_beside r s)

  -- A stage over each element of a list reads what it reads of each.
  abbrev pub EachReads : {X Y E : Type 0} → (E → E → E) → (X → V → Result Y E) → (X → Y → List Q) → Type 0
  EachReads join f r = ReadsOnly ask (Gives f) r → ReadsOnly ask (Gives (each join f)) (reads_each r)

  -- What is shown of a result may be less, and the list longer, as long as all that was read is listed.
  abbrev pub ShownReads : {X Y Z E : Type 0} → (X → V → Result Y E) → (X → Y → List Q) → (X → Y → Z) → (X → Z → List Q) → Type 0
  ShownReads {X} {Y} f r show s = ((x : X) (y : Y) (q : Q) → IsIn q (r x y) → IsIn q (s x (show x y))) → ReadsOnly ask (Gives f) r → ReadsOnly ask (Gives (λ x v. map_ok (show x) (f x v))) s

  -- A stage over another sort of input.
  abbrev pub TakenReads : {X Y Z E : Type 0} → (X → V → Result Y E) → (X → Y → List Q) → (Z → X) → Type 0
  TakenReads f r take = ReadsOnly ask (Gives f) r → ReadsOnly ask (Gives (λ z. f (take z))) (λ z. r (take z))

  -- A walk, each of whose steps is found in the answer of one before it, reads what it went through.
  abbrev pub WalkReads : {X : Type 0} → (Q → A → List Q) → (Q → Q → Bool) → ℕ → (X → List Q) → Type 0
  WalkReads next same n starts = ReadsOnly ask (λ x v ps. walk ask next same n [] (starts x) v ≡ ps) (λ x ps. queries ps)

  -- So does a list of all that is reached.
  abbrev pub ReachedReads : {X : Type 0} → (Q → A → List Q) → (X → List Q) → Type 0
  ReachedReads next starts = ReadsOnly ask (λ x v qs. AreReached ask next (starts x) v qs) (λ x qs. qs)

-- A stage over an environment W that is seen from an input and an environment V, as V with the own declarations. Its
-- queries are queries of V, to each of them some of those whose answers together tell its own; none, where the input tells it.
abbrev pub SeenReads : {V Q A W P B X Y E : Type 0} → (V → Q → A) → (W → P → B) → (X → V → W) → (X → W → Result Y E) → (X → Y → List P) → (X → P → List Q) → Type 0
SeenReads {V} {P = P} {X = X} ask tell see f r among = ((x : X) (p : P) (v w : V) → AnswerAlike ask (among x p) v w → tell (see x v) p ≡ tell (see x w) p) → ReadsOnly tell (Gives f) r
    → ReadsOnly ask (Gives (λ x v. f x (see x v))) (λ x y. flat_map (among x) (r x y))

-- A result behind a result, of relations.
abbrev pub Then : {X V Y Z : Type 0} → (X → V → Y → Type 0) → (X × Y → V → Z → Type 0) → X → V → Y × Z → Type 0
Then F G x v p = F x v p.0 × G (x, p.0) v p.1
