-- A command line of one word.
use Rattle.std.proofs.Common.{◌≡◌, ℕ, List, [], ◌∷◌, length, map, slice_index_or, ap, sym, arith}

-- a list of one element, given by its place
pub one_word : {A : Type 0} (f : A → List ℕ) (ws : List A) (w : A) → length ws ≡ 1 → w ≡ slice_index_or ws 0 w → map f ws ≡ f w ∷ []
one_word f [] w h e = absurd (omega (arith, h))
one_word f (x ∷ []) w h e = ap (λ z. f z ∷ []) (sym e)
one_word f (x ∷ y ∷ ws) w h e = absurd (omega (arith, h))
