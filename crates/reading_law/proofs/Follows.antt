-- The law of reading follows from what a check reads.
use Rattle.std.proofs.Common.{◌≡◌, List, [], ◌∷◌, map, refl, ap, sym, ◌∙◌, subst, Ok}
use Rattle.std.specs.List.{AllByRecursion}
use Rattle.build_theory.specs.Build.{Tree, Language, sorted}
use Rattle.build_theory.specs.Laws.{IsIn}
use Rattle.build_theory.proofs.Lists.{all_at, all_map}
use Rattle.build_theory.proofs.Honest.{histories_clean}
use Rattle.reading_law.specs.Reading.{Reached}
use Rattle.reading_law.specs.Compose.{map_ok}
use Rattle.reading_law.specs.Recheck.{Recheck, marked, sealed_in, Stands, ReadingFollows, BuildsFollow, AnswersTellUses, ReachedTellUses}
use Rattle.reading_law.proofs.Stages.{mapped, all_each}
use Rattle.build_theory.proofs.Judged.{sound_was_checked}

abbrev with_mark : {U P : Type 0} → U → P → List (U × P) → List (U × P)
with_mark u p us = (u, p) ∷ us

module _ {U P : Type 0} (f g : U → P) where
  -- fingerprints that were kept are those of now
  kept_now : (us : List U) → AllByRecursion (λ (u : U × P). u.1 ≡ g u.0) (map {B = U × P} (λ u. (u, f u)) us) → AllByRecursion (λ u. f u ≡ g u) us
  kept_now [] h = tt
  kept_now (u ∷ us) h = (h.0, kept_now us h.1)

  same_marks : (us : List U) → AllByRecursion (λ u. f u ≡ g u) us → map {B = U × P} (λ u. (u, f u)) us ≡ map (λ u. (u, g u)) us
  same_marks [] h = refl
  same_marks (u ∷ us) h = ap (λ p. with_mark u p (map (λ u. (u, f u)) us)) h.0 ∙ ap (with_mark u (g u)) (same_marks us h.1)

module _ {G N S B K E R X Y V Q A U P : Type 0} (l : Language G N S B K E R) (c : Recheck G N S B K E X Y V Q A U P) (trees : List (Tree G N S)) where
  pub follows : ReadingFollows l c trees
  follows exact composed kept compared reads marks uses t i q env free k b was e =
      let old = sound_was_checked l exact was.tree q.0 was.interface was.sound in
      let x : X = c.input (sorted l was.tree) q.0 old.source in
      let v : V = c.view (sorted l was.tree) q.0 old.env in
      let z : X = c.input (sorted l t) q.0 q.1 in
      let w : V = c.view (sorted l t) q.0 env in
      let made : (y : Y) × (c.stage x v ≡ Ok y) × (sealed_in l c x y v ≡ was.interface) =
      mapped (λ y. sealed_in l c x y v) (c.stage x v) was.interface (sym (composed was.tree was.among (q.0, old.source) old.env old.free) ∙ old.made) in
      let y : Y = made.0 in
      let us = marked l c v (c.uses x y) in
      let is : k ≡ l.keep (c.seal x y us) = was.kept ∙ ap l.keep (sym made.2) in
      let d = compared t i q env free k b was e in
      let before : Stands l c trees q.0 x v = record { tree = was.tree; among = was.among; source = old.source; env = old.env; free = old.free; input = refl; view = refl } in
      let now : Stands l c trees q.0 z w = record { tree = t; among = i; source = q.1; env = env; free = free; input = refl; view = refl } in
      let one : x ≡ z = marks q.0 x z v w before now (sym (kept.mark q.0 x y v before made.1) ∙ ap c.kept_mark (sym is) ∙ d.1) in
      let same : AllByRecursion (λ u. c.now v u ≡ c.now w u) (c.uses x y) =
      kept_now (c.now v) (c.now w) (c.uses x y) (subst (AllByRecursion (λ (u : U × P). u.1 ≡ c.now w u.0)) (ap c.kept_uses is ∙ kept.uses q.0 x y v before made.1) d.2) in
      let alike = uses q.0 x y v w before (subst (λ x. Stands l c trees q.0 x w) (sym one) now) made.1 same in
      let again : c.stage z w ≡ Ok y = ap (λ x. c.stage x w) (sym one) ∙ reads x y v w made.1 alike in
      let told : c.seal z y (marked l c w (c.uses z y)) ≡ b =
      ap (λ x. c.seal x y (marked l c w (c.uses x y))) (sym one) ∙ ap (c.seal x y) (sym (same_marks (c.now v) (c.now w) (c.uses x y) same)) ∙ sym (kept.whole q.0 x y v before made.1) ∙ ap c.kept (sym is) ∙ sym d.0 in
      composed t i q env free ∙ ap (map_ok (λ y. c.seal z y (marked l c w (c.uses z y)))) again ∙ ap (λ b. Ok b) told

  pub builds : BuildsFollow l c trees
  builds ordered exact distinct composed kept compared reads marks uses ts t i j = histories_clean l ordered exact trees distinct (follows exact composed kept compared reads marks uses) ts t i j

module _ {G N S B K E R X Y V Q A P : Type 0} (l : Language G N S B K E R) (c : Recheck G N S B K E X Y V Q A Q P) (trees : List (Tree G N S)) where
  pub answers_tell : AnswersTellUses l c trees
  answers_tell are tell n x y v w before now e same = all_each (λ q. c.ask v q ≡ c.ask w q) (c.reads x y) (λ q i. tell n x v w q before now (all_at (λ q. c.now v q ≡ c.now w q) (c.uses x y) q (are x y q i) same))

  pub reached_tell : (next : Q → A → List Q) → ReachedTellUses l c trees next
  reached_tell next used tell n x y v w before now e same =
      all_map (λ q. (u : Q) × IsIn u (c.uses x y) × Reached c.ask next (u ∷ []) v q) (λ q. c.ask v q ≡ c.ask w q) (c.reads x y)
      (λ q r. tell n x v w r.0 q before now (all_at (λ u. c.now v u ≡ c.now w u) (c.uses x y) r.0 r.1 same) r.2) (used x y v e)
