-- Places.
use Rattle.std.proofs.Common.{◌≡◌, ℕ, List, [], ◌∷◌, ◌++◌, refl, ap, sym, ◌∙◌}
use Rattle.source_text.specs.declared.place.Place.{Place}
use Rattle.source_text.specs.Places.{step, after}

pub on : (p : Place) (cs rest : List ℕ) (c : ℕ) (q : Place) → cs ≡ c ∷ rest → q ≡ step p c → after q rest ≡ after p cs
unfolding after
on p cs rest c q e f = ap (λ z. after z rest) f ∙ sym (ap (after p) e)

pub nothing : (p : Place) (cs : List ℕ) → cs ≡ [] → after p cs ≡ p
unfolding after
nothing p cs e = ap (after p) e

pub joined : (p : Place) (l m : List ℕ) → after p (l ++ m) ≡ after (after p l) m
unfolding after
joined p [] m = refl
joined p (c ∷ l) m = joined (step p c) l m
