-- A walk reads what it goes through.
use Rattle.std.proofs.Common.{◌≡◌, ℕ, zero, suc, Bool, true, false, List, [], ◌∷◌, ◌++◌, refl, ap, sym, ◌∙◌, subst}
use Rattle.std.specs.List.{list_any}
use Rattle.build_theory.specs.Laws.{IsIn}
use Rattle.build_theory.proofs.Lists.{both_ways, all_at}
use Rattle.reading_law.specs.Reading.{AnswerAlike, Reached, start, onward, walk, queries}
use Rattle.reading_law.specs.Compose.{WalkReads, ReachedReads}

module _ {V Q A : Type 0} (ask : V → Q → A) (next : Q → A → List Q) where
  module _ (same : Q → Q → Bool) (v w : V) where
    walk_seen : (n : ℕ) (seen : List Q) (q : Q) (todo : List Q) (u : V) → list_any (same q) seen ≡ true → walk ask next same (suc n) seen (q ∷ todo) u ≡ walk ask next same n seen todo u
    walk_seen n seen q todo u h = rw h refl

    walk_new : (n : ℕ) (seen : List Q) (q : Q) (todo : List Q) (u : V) → list_any (same q) seen ≡ false
        → walk ask next same (suc n) seen (q ∷ todo) u ≡ (q, ask u q) ∷ walk ask next same n (q ∷ seen) (next q (ask u q) ++ todo) u
    walk_new n seen q todo u h = rw h refl

    walk_alike : (n : ℕ) (seen todo : List Q) → AnswerAlike ask (queries (walk ask next same n seen todo v)) v w → walk ask next same n seen todo w ≡ walk ask next same n seen todo v
    walk_alike zero seen todo a = refl
    walk_alike (suc n) seen [] a = refl
    walk_alike (suc n) seen (q ∷ todo) a =
        both_ways (list_any (same q) seen)
        (λ h.
        walk_seen n seen q todo w h
        ∙ walk_alike n seen todo (subst (λ ps. AnswerAlike ask (queries ps) v w) (walk_seen n seen q todo v h) a)
        ∙ sym (walk_seen n seen q todo v h))
        (λ h.
        let b = subst (λ ps. AnswerAlike ask (queries ps) v w) (walk_new n seen q todo v h) a in
        walk_new n seen q todo w h
        ∙ ap (λ z. (q, z) ∷ walk ask next same n (q ∷ seen) (next q z ++ todo) w) (sym b.0)
        ∙ ap (λ ps. (q, ask v q) ∷ ps) (walk_alike n (q ∷ seen) (next q (ask v q) ++ todo) b.1)
        ∙ sym (walk_new n seen q todo v h))

  module _ (starts : List Q) (v w : V) where
    -- what is reached in one is reached in another that answers alike what is reached in it
    pub reached_on : ((q : Q) → Reached ask next starts v q → ask v q ≡ ask w q) → {q : Q} → Reached ask next starts v q → Reached ask next starts w q
    reached_on a (start i) = start i
    reached_on a (onward {p = p} {q = q} r i) = onward (reached_on a r) (subst (λ z. IsIn q (next p z)) (a p r) i)

    pub reached_back : ((q : Q) → Reached ask next starts v q → ask v q ≡ ask w q) → {q : Q} → Reached ask next starts w q → Reached ask next starts v q
    reached_back a (start i) = start i
    reached_back a (onward {p = p} {q = q} r i) = let before = reached_back a r in onward before (subst (λ z. IsIn q (next p z)) (sym (a p before)) i)

module _ {V Q A X : Type 0} (ask : V → Q → A) where
  pub walk_reads : (next : Q → A → List Q) (same : Q → Q → Bool) (n : ℕ) (starts : X → List Q) → WalkReads ask next same n starts
  walk_reads next same n starts x ps v w e a = walk_alike ask next same v w n [] (starts x) (subst (λ ps. AnswerAlike ask (queries ps) v w) (sym e) a) ∙ e

  pub reached_reads : (next : Q → A → List Q) (starts : X → List Q) → ReachedReads ask next starts
  reached_reads next starts x qs v w is a q =
      let alike : (q : Q) → Reached ask next (starts x) v q → ask v q ≡ ask w q = λ q r. all_at (λ q. ask v q ≡ ask w q) qs q ((is q).1 r) a in
      (λ i. reached_on ask next (starts x) v w alike ((is q).0 i), λ r. (is q).1 (reached_back ask next (starts x) v w alike r))
