-- Stages made of stages read what their parts read.
use Rattle.std.proofs.Common.{◌≡◌, List, [], ◌∷◌, ◌++◌, refl, ap, sym, ◌∙◌, subst, Ok, Err, inl, inr}
use Rattle.std.specs.Prelude.{Result}
use Rattle.std.specs.List.{AllByRecursion, flat_map}
use Rattle.build_theory.specs.Laws.{IsIn}
use Rattle.build_theory.proofs.Lists.{all_at}
use Rattle.reading_law.specs.Reading.{Gives, AnswerAlike, ReadsOnly}
use Rattle.reading_law.specs.Compose.{carry, map_ok, both, pair_up, behind, each, reads_each, BehindReads, BesideReads, EachReads, ShownReads, TakenReads, SeenReads, Then, reads_behind}

module _ {X : Type 0} (P : X → Type 0) where
  pub all_left : (xs ys : List X) → AllByRecursion P (xs ++ ys) → AllByRecursion P xs
  all_left [] ys h = tt
  all_left (x ∷ xs) ys h = (h.0, all_left xs ys h.1)

  pub all_right : (xs ys : List X) → AllByRecursion P (xs ++ ys) → AllByRecursion P ys
  all_right [] ys h = h
  all_right (x ∷ xs) ys h = all_right xs ys h.1

  pub all_each : (xs : List X) → ((x : X) → IsIn x xs → P x) → AllByRecursion P xs
  all_each [] h = tt
  all_each (x ∷ xs) h = (h x (inl refl), all_each xs (λ y i. h y (inr i)))

module _ {Y Z E : Type 0} where
  pub carried : (f : Y → Result Z E) (r : Result Y E) (z : Z) → carry f r ≡ Ok z → (y : Y) × (r ≡ Ok y) × (f y ≡ Ok z)
  carried f (Ok y) z e = (y, refl, e)
  carried f (Err d) z e = absurd (let h : ⊥ = cc in h)

  pub mapped : (f : Y → Z) (r : Result Y E) (z : Z) → map_ok f r ≡ Ok z → (y : Y) × (r ≡ Ok y) × (f y ≡ z)
  mapped f (Ok y) z e = (y, refl, (let h : f y ≡ z = cc in h))
  mapped f (Err d) z e = absurd (let h : ⊥ = cc in h)

  pub both_ok : (join : E → E → E) (r : Result Y E) (s : Result Z E) (p : Y × Z) → both join r s ≡ Ok p → (r ≡ Ok p.0) × (s ≡ Ok p.1)
  both_ok join (Ok y) (Ok z) p e = let h : (y, z) ≡ p = cc in (ap (λ (p : Y × Z). Ok p.0) h, ap (λ (p : Y × Z). Ok p.1) h)
  both_ok join (Ok y) (Err d) p e = absurd (let h : ⊥ = cc in h)
  both_ok join (Err c) (Ok z) p e = absurd (let h : ⊥ = cc in h)
  both_ok join (Err c) (Err d) p e = absurd (let h : ⊥ = cc in h)

module _ {V Q A X Y Z E : Type 0} (ask : V → Q → A) where
  pub behind_reads : (f : X → V → Result Y E) (g : X × Y → V → Result Z E) (r : X → Y → List Q) (s : X × Y → Z → List Q) → BehindReads ask f g r s
  behind_reads f g r s hf hg x p v w e a =
      let c = carried (λ y. map_ok (λ z. (y, z)) (g (x, y) v)) (f x v) p e in
      let m = mapped (λ z. (c.0, z)) (g (x, c.0) v) p c.2 in
      let first : c.0 ≡ p.0 = ap (λ (p : Y × Z). p.0) m.2 in
      let second : m.0 ≡ p.1 = ap (λ (p : Y × Z). p.1) m.2 in
      let one : f x w ≡ Ok p.0 = hf x p.0 v w (c.1 ∙ ap (λ y. Ok y) first) (all_left (λ q. ask v q ≡ ask w q) (r x p.0) (s (x, p.0) p.1) a) in
      let two : g (x, p.0) w ≡ Ok p.1 =
      hg (x, p.0) p.1 v w (ap (λ y. g (x, y) v) (sym first) ∙ m.1 ∙ ap (λ z. Ok z) second) (all_right (λ q. ask v q ≡ ask w q) (r x p.0) (s (x, p.0) p.1) a) in
      let start : behind f g x w ≡ map_ok (λ z. (p.0, z)) (g (x, p.0) w) = ap (carry (λ y. map_ok (λ z. (y, z)) (g (x, y) w))) one in
      start ∙ ap (map_ok (λ z. (p.0, z))) two

  pub beside_reads : (join : E → E → E) (f : X → V → Result Y E) (g : X → V → Result Z E) (r : X → Y → List Q) (s : X → Z → List Q) → BesideReads ask join f g r s
  beside_reads join f g r s hf hg x p v w e a =
      let b = both_ok join (f x v) (g x v) p e in
      let one : f x w ≡ Ok p.0 = hf x p.0 v w b.0 (all_left (λ q. ask v q ≡ ask w q) (r x p.0) (s x p.1) a) in
      let two : g x w ≡ Ok p.1 = hg x p.1 v w b.1 (all_right (λ q. ask v q ≡ ask w q) (r x p.0) (s x p.1) a) in
      ap (λ d. both join d (g x w)) one ∙ ap (both join (Ok p.0)) two

not_none : {Y : Type 0} (y : Y) (ys : List Y) → y ∷ ys ≡ [] → ⊥
not_none y ys e = cc

module _ {V Q A X Y E : Type 0} (ask : V → Q → A) where
  each_at : (join : E → E → E) (f : X → V → Result Y E) (r : X → Y → List Q) → ReadsOnly ask (Gives f) r → (xs : List X) (ys : List Y) (v w : V) → each join f xs v ≡ Ok ys → AnswerAlike ask (reads_each r xs ys) v w → each join f xs w ≡ Ok ys
  each_at join f r hf [] ys v w e a = e
  each_at join f r hf (x ∷ xs) [] v w e a =
      let m = mapped pair_up (both join (f x v) (each join f xs v)) [] e in
      absurd (not_none m.0.0 m.0.1 m.2)
  each_at join f r hf (x ∷ xs) (y ∷ ys) v w e a =
      let m = mapped pair_up (both join (f x v) (each join f xs v)) (y ∷ ys) e in
      let b = both_ok join (f x v) (each join f xs v) m.0 m.1 in
      let h = m.2 in
      let head : m.0.0 ≡ y = cc in
      let tail : m.0.1 ≡ ys = cc in
      let one : f x w ≡ Ok y = hf x y v w (b.0 ∙ ap (λ y. Ok y) head) (all_left (λ q. ask v q ≡ ask w q) (r x y) (reads_each r xs ys) a) in
      let two : each join f xs w ≡ Ok ys = each_at join f r hf xs ys v w (b.1 ∙ ap (λ ys. Ok ys) tail) (all_right (λ q. ask v q ≡ ask w q) (r x y) (reads_each r xs ys) a) in
      ap (λ d. map_ok pair_up (both join d (each join f xs w))) one ∙ ap (λ d. map_ok pair_up (both join (Ok y) d)) two

  pub each_reads : (join : E → E → E) (f : X → V → Result Y E) (r : X → Y → List Q) → EachReads ask join f r
  each_reads join f r hf x y v w e a = each_at join f r hf x y v w e a

  pub shown_reads : {Z : Type 0} (f : X → V → Result Y E) (r : X → Y → List Q) (show : X → Y → Z) (s : X → Z → List Q) → ShownReads ask f r show s
  shown_reads f r show s lists hf x z v w e a =
      let m = mapped (show x) (f x v) z e in
      let alike = all_each (λ q. ask v q ≡ ask w q) (r x m.0) (λ q i. all_at (λ q. ask v q ≡ ask w q) (s x z) q (subst (λ z. IsIn q (s x z)) m.2 (lists x m.0 q i)) a) in
      ap (map_ok (show x)) (hf x m.0 v w m.1 alike) ∙ ap (λ z. Ok z) m.2

  pub taken_reads : {Z : Type 0} (f : X → V → Result Y E) (r : X → Y → List Q) (take : Z → X) → TakenReads ask f r take
  taken_reads f r take hf z y v w e a = hf (take z) y v w e a

module _ {V Q A W P B X : Type 0} (ask : V → Q → A) (tell : W → P → B) (see : X → V → W) where
  seen_at : (x : X) (among : P → List Q) (v w : V) → ((p : P) → AnswerAlike ask (among p) v w → tell (see x v) p ≡ tell (see x w) p) → (ps : List P) → AnswerAlike ask (flat_map among ps) v w
      → AnswerAlike tell ps (see x v) (see x w)
  seen_at x among v w h [] a = tt
  seen_at x among v w h (p ∷ ps) a =
      (h p (all_left (λ q. ask v q ≡ ask w q) (among p) (flat_map among ps) a), seen_at x among v w h ps (all_right (λ q. ask v q ≡ ask w q) (among p) (flat_map among ps) a))

  pub seen_reads : {Y E : Type 0} (f : X → W → Result Y E) (r : X → Y → List P) (among : X → P → List Q) → SeenReads ask tell see f r among
  seen_reads f r among h hf x y v w e a = hf x y (see x v) (see x w) e (seen_at x (among x) v w (λ p b. h x p v w b) (r x y) a)

module _ {V Q A X Y Z : Type 0} (ask : V → Q → A) (F : X → V → Y → Type 0) (G : X × Y → V → Z → Type 0) (r : X → Y → List Q) (s : X × Y → Z → List Q) where
  -- of relations: a clause can't range over them, a lemma can
  pub then_reads : ReadsOnly ask F r → ReadsOnly ask G s → ReadsOnly ask (Then F G) (reads_behind r s)
  then_reads hf hg x p v w h a =
      (hf x p.0 v w h.0 (all_left (λ q. ask v q ≡ ask w q) (r x p.0) (s (x, p.0) p.1) a), hg (x, p.0) p.1 v w h.1 (all_right (λ q. ask v q ≡ ask w q) (r x p.0) (s (x, p.0) p.1) a))
