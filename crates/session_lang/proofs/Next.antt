-- What stands in front is one thing alone.
use Rattle.std.proofs.Common.{◌≡◌, ℕ, ◌-◌, List, [], ◌∷◌, ◌++◌, length, ap, sym, ◌∙◌, subst, arith, append_assoc, length-append, ◌↔◌}
use Rattle.std.proofs.lemmas.List.{append-nil}
use Rattle.session_lang.specs.Spelling.{Said, IsCommand, spelling}
use Rattle.session_lang.proofs.Laws.{free}

back_nil : (xs ys : List ℕ) → xs ++ ys ≡ [] → ys ≡ []
back_nil [] ys e = e
back_nil (x ∷ xs) ys e = cc

-- a spelling in front is no proper beginning of another
pub not_both : (bytes rest more : List ℕ) (a c : Said) → IsCommand a → IsCommand c → bytes ≡ spelling a ++ rest → bytes ++ more ≡ spelling c → more ≡ []
not_both bytes rest more a c p q front e =
    let k : spelling a ++ (rest ++ more) ≡ spelling c ++ [] = sym (append_assoc (spelling a) rest more) ∙ ap (λ s. s ++ more) (sym front) ∙ e ∙ sym (append-nil (spelling c)) in
    back_nil rest more (free a c (rest ++ more) [] p q k).1

pub whole_iff : (bytes rest : List ℕ) (a b : Said) (used : ℕ) → b ≡ a → IsCommand a → bytes ≡ spelling a ++ rest → used ≡ length bytes - length rest → (c : Said) (n : ℕ)
    → ((b ≡ c) × (used ≡ n)) ↔ (IsCommand c × (n ≡ length (spelling c)) × ((r : List ℕ) × (bytes ≡ spelling c ++ r)))
whole_iff bytes rest a b used same ok front taken c n =
    let len : used ≡ length (spelling a) = omega (arith, taken, ap length front, length-append (spelling a) rest) in (
      (λ h. subst (λ d. IsCommand d × (n ≡ length (spelling d)) × ((r : List ℕ) × (bytes ≡ spelling d ++ r))) (sym same ∙ h.0) (ok, sym h.1 ∙ len, (rest, front))),
      (λ h. let g = free a c rest h.2.0 ok h.0 (sym front ∙ h.2.1) in (same ∙ g.0, len ∙ ap (λ d. length (spelling d)) g.0 ∙ sym h.1)),
    )
