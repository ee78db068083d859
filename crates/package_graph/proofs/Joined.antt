-- The rows of what a node needs, joined one after another.
use Rattle.std.proofs.Common.{◌≡◌, ℕ, ◌+◌, ◌<◌, ◌≤◌, ◌++◌, ◌∷◌, Bool, true, false, ◌&&◌, ◌||◌, List, [], get_or, length, refl, ap, sym, ◌∙◌, inl, inr, arith}
use Rattle.std.proofs.lemmas.Bool.{cases_lt}
use Rattle.std.proofs.lemmas.List.{get_or_append_left, get_or_push}
use Rattle.numbered_nodes.specs.Chains.{any_below}
use Rattle.numbered_nodes.proofs.Below.{NoneFrom, any_next, or_assoc}

-- the row of one more node is joined
pub joined_found : (p : ℕ → Bool) (a b : ℕ) (own old new row need : Bool) → a ≤ b → NoneFrom p a b → need ≡ true → p b ≡ (need && row) → old ≡ (own || any_below a p) → new ≡ (old || row) → new ≡ (own || any_below (b + 1) p)
joined_found p a b own old new row need le none there found before added =
    added ∙ ap (λ t. t || row) before ∙ or_assoc own (any_below a p) row ∙ ap (λ t. own || (any_below a p || t)) (ap (λ t. t && row) (sym there) ∙ sym found) ∙ ap (λ t. own || t) (sym (any_next p a b le none))

-- what is passed by adds nothing: it isn't needed, or its own row is empty
pub adds_nothing : (need plain row : Bool) → (need ≡ true → plain ≡ true) → (plain ≡ true → row ≡ false) → (need && row) ≡ false
adds_nothing true plain row f g = g (f refl)
adds_nothing false plain row f g = refl

-- one more list
pub lists_next : (f : ℕ → List ℕ) (old new : List (List ℕ)) (one : List ℕ) (i : ℕ) → length old ≡ i → new ≡ old ++ one ∷ [] → one ≡ f i → ((a : ℕ) → a < i → get_or old a [] ≡ f a) → (a : ℕ) → a < i + 1 → get_or new a [] ≡ f a
lists_next f old new one i long pushed is before a lt = elim (cases_lt a i) [
  | inl less ↦ ap (λ l. get_or l a []) pushed ∙ get_or_append_left old (one ∷ []) [] a (omega arith) ∙ before a less
  | inr more ↦ ap (λ l. get_or l a []) pushed ∙ get_or_push old one [] a (omega arith) ∙ is ∙ ap f (let e : i ≡ a = omega arith in e)
]
