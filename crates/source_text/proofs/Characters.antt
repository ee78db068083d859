-- The characters of some bytes, one at a time.
use Rattle.std.proofs.Common.{◌≡◌, ℕ, zero, suc, ◌-◌, ◌<◌, ◌≤◌, List, [], ◌∷◌, length, take, drop, Some, None, refl, ap, sym, ◌∙◌, arith, take_all, length-drop}
use Rattle.std.specs.Prelude.{◌==◌}
use Rattle.std.proofs.Common.{Bool, true, false}
use Rattle.std.proofs.lemmas.Bool.{false≢true, eqb-true}
use Rattle.bstr.specs.Utf8.{decoded}
use Rattle.bstr.proofs.lemmas.PieceLemmas.{piece-bounds}
use Rattle.source_text.specs.Characters.{past, characters, code, more, no_character}

past_drop : (n : ℕ) (bs : List ℕ) → past n bs ≡ past 0 (drop n bs)
unfolding past
past_drop zero bs = refl
past_drop (suc n) [] = refl
past_drop (suc n) (b ∷ bs) = past_drop n bs

pub none : characters [] ≡ []
unfolding past
none = refl

pub some : (bs : List ℕ) → characters bs ≡ [] → bs ≡ []
unfolding past
some [] e = refl
some (b ∷ bs) e = cc

-- a slice up to the end
whole : (bs : List ℕ) (n : ℕ) → take (length bs - n) (drop n bs) ≡ drop n bs
whole bs n = take_all (length bs - n) (drop n bs) (omega (arith, length-drop n bs))

pub good : (bs : List ℕ) (c : ℕ) → 0 < length bs → (decoded bs).char ≡ Some c → characters bs ≡ c ∷ characters (drop (decoded bs).size bs)
unfolding past
good [] c h e = absurd (omega arith)
good (b ∷ bs) c h e =
    let size = (decoded (b ∷ bs)).size in
    let one : size ≡ suc (size - 1) = omega (arith, (piece-bounds (b ∷ bs) h).0) in
    ap (λ x. code x ∷ past (more x size) bs) e ∙ ap (λ t. c ∷ t) (past_drop (size - 1) bs) ∙ ap (λ n. c ∷ past 0 (drop n (b ∷ bs))) (sym one)

pub bad : (bs : List ℕ) → 0 < length bs → (decoded bs).char ≡ None → characters bs ≡ no_character ∷ characters (drop 1 bs)
unfolding past
bad [] h e = absurd (omega arith)
bad (b ∷ bs) h e = ap (λ x. code x ∷ past (more x (decoded (b ∷ bs)).size) bs) e

pub good_step : (bs : List ℕ) (c n : ℕ) → 0 < length bs → (decoded bs).char ≡ Some c → n ≡ (decoded bs).size → characters bs ≡ c ∷ characters (take (length bs - n) (drop n bs))
good_step bs c n h e s = good bs c h e ∙ ap (λ k. c ∷ characters (drop k bs)) (sym s) ∙ ap (λ t. c ∷ characters t) (sym (whole bs n))

pub bad_step : (bs : List ℕ) → 0 < length bs → (decoded bs).char ≡ None → characters bs ≡ no_character ∷ characters (take (length bs - 1) (drop 1 bs))
bad_step bs h e = bad bs h e ∙ ap (λ t. no_character ∷ characters t) (sym (whole bs 1))

-- how far the first character reaches
pub bounds : (bs : List ℕ) (n : ℕ) → n ≡ (decoded bs).size → 0 < length bs → (1 ≤ n) × (n ≤ length bs)
bounds bs n e h = let b = piece-bounds bs h in (omega (arith, b.0), omega (arith, b.2))

pub filled : (bs : List ℕ) (b : Bool) → b ≡ (length bs == 0) → b ≡ false → 0 < length bs
filled [] b e f = absurd (let h : true ≡ false = sym e ∙ f in false≢true (sym h))
filled (x ∷ xs) b e f = omega arith

pub empty : (bs : List ℕ) (b : Bool) → b ≡ (length bs == 0) → b ≡ true → characters bs ≡ []
empty [] b e f = none
empty (x ∷ xs) b e f = absurd (omega (arith, eqb-true (suc (length xs)) 0 (sym e ∙ f)))
