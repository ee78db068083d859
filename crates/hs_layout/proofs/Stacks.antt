-- A stack's elements, from the nearest.
use Rattle.std.specs.Prelude.{reverse}
use Rattle.std.proofs.Common.{◌≡◌, ℕ, suc, ◌+◌, ◌-◌, ◌<◌, List, ◌∷◌, length, get_or, drop, ap, sym, ◌∙◌, subst, arith, drop-cons}
use Rattle.std.proofs.lemmas.List.{length-reverse, get_or-reverse}

-- the element that stands k places below the top
pub below_top : {X : Type 0} (xs ys now : List X) (k : ℕ) (x : X) → xs ≡ ys → reverse ys ≡ now → k < length xs → get_or xs (length xs - 1 - k) x ≡ x → drop k now ≡ x ∷ drop (k + 1) now
below_top xs ys now k x s r h e =
    let inside : k < length (reverse xs) = subst (λ z. k < z) (sym (length-reverse xs)) h in
    let next : suc k ≡ k + 1 = omega arith in
    let top : drop k (reverse xs) ≡ x ∷ drop (k + 1) (reverse xs) =
    drop-cons (reverse xs) k x inside ∙ ap (λ z. z ∷ drop (suc k) (reverse xs)) (get_or-reverse xs k x h ∙ e) ∙ ap (λ z. x ∷ drop z (reverse xs)) next in
    subst (λ z. drop k z ≡ x ∷ drop (k + 1) z) (ap reverse s ∙ r) top
