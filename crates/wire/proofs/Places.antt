-- Numbers and texts at places.
use Rattle.std.proofs.Common.{◌≡◌, ℕ, ◌+◌, ◌-◌, ◌≤◌, List, ◌++◌, length, take, drop, Some, None, refl, sym, ap, subst, ◌∙◌, arith, append_assoc, drop-drop}
use Rattle.std.specs.List.{slice_range}
use Rattle.std.proofs.lemmas.List.{length-append, length-drop, drop_at, take_at, drop_all, append-nil, take-append-drop}
use Rattle.std.proofs.lemmas.List.Folds.{drop_split}
use Rattle.wire.specs.Wire.{num, IsNum, text, IsText, Stands, TextStands, between}
use Rattle.wire.specs.Reading.{num_at, text_at}
use Rattle.wire.proofs.Codes.{IsBytes, rest_is_bytes, num_code, text_code}

-- all from a place on
pub from_place : (bytes from : List ℕ) (at : ℕ) → at ≤ length bytes → from ≡ slice_range bytes at (length bytes) → from ≡ drop at bytes
from_place bytes from at h e =
    e ∙ sym (append-nil (slice_range bytes at (length bytes))) ∙ ap (λ r. slice_range bytes at (length bytes) ++ r) (sym (drop_all (length bytes) bytes (omega arith))) ∙ sym (drop_split bytes at (length bytes) h)

module _ (bytes from : List ℕ) (at : ℕ) (low : at ≤ length bytes) (is : from ≡ drop at bytes) where
  from_is_bytes : IsBytes bytes → IsBytes from
  from_is_bytes fits = rest_is_bytes bytes (take at bytes) from fits (sym (take-append-drop at bytes) ∙ ap (λ r. take at bytes ++ r) (sym is))

  stands : (s rest : List ℕ) → from ≡ s ++ rest → (length rest ≤ length bytes) × Stands s bytes at (length bytes - length rest)
  stands s rest e =
      let whole : length s + length rest ≡ length bytes - at = sym (length-append s rest) ∙ ap length (sym e ∙ is) ∙ length-drop at bytes in
      let end : length bytes - length rest ≡ at + length s = omega (arith, whole, low) in
      let behind : drop (length bytes - length rest) bytes ≡ rest =
      ap (λ k. drop k bytes) end ∙ sym (drop-drop (length s) at bytes) ∙ ap (drop (length s)) (sym is ∙ e) ∙ drop_at s rest (length s) refl in
      (omega (arith, whole, low), (sym is ∙ e ∙ ap (λ r. s ++ r) (sym behind), end))

  pub num_found : IsBytes bytes → (n : ℕ) (rest : List ℕ) → num_at from ≡ Some (n, rest) → (length rest ≤ length bytes) × (IsNum n × Stands (num n) bytes at (length bytes - length rest))
  num_found fits n rest e =
      let t = num_code.takes from (n, rest) (from_is_bytes fits) e in
      let s = stands (num n) rest t.1 in
      (s.0, (t.0, s.1))

  pub no_num : num_at from ≡ None → (n end : ℕ) → IsNum n → Stands (num n) bytes at end → ⊥
  no_num none n end h s =
      let e = sym (num_code.again n (drop end bytes) h) ∙ ap num_at (sym s.0 ∙ sym is) ∙ none in
      let k : ⊥ = cc in k

  pub text_found : IsBytes bytes → (t rest : List ℕ) → text_at from ≡ Some (t, rest)
      → (length rest ≤ length bytes) × (length t ≤ length bytes - length rest) × TextStands bytes at (length bytes - length rest - length t) (length bytes - length rest)
  text_found fits t rest e =
      let c = text_code.takes from (t, rest) (from_is_bytes fits) e in
      let s = stands (text t) rest c.1 in
      let len : length (text t) ≡ length (num (length t)) + length t = length-append (num (length t)) t in
      let end : ℕ = length bytes - length rest in
      let start : ℕ = end - length t in
      let begin : start ≡ at + length (num (length t)) = omega (arith, s.1.1, len) in
      let own : drop start bytes ≡ t ++ rest =
      ap (λ k. drop k bytes) begin ∙ sym (drop-drop (length (num (length t))) at bytes)
      ∙ ap (drop (length (num (length t)))) (sym is ∙ c.1 ∙ append_assoc (num (length t)) t rest) ∙ drop_at (num (length t)) (t ++ rest) (length (num (length t))) refl in
      let long : end - start ≡ length t = omega (arith, s.1.1, len) in
      let same : between start end bytes ≡ t = ap (λ k. take k (drop start bytes)) long ∙ ap (take (length t)) own ∙ take_at t rest (length t) refl in
      (s.0, omega (arith, s.1.1, len), subst (λ u. IsText u × Stands (text u) bytes at end × (start + length u ≡ end)) (sym same) (c.0, s.1, omega (arith, s.1.1, len)))

  pub no_text : text_at from ≡ None → (t : List ℕ) (end : ℕ) → IsText t → Stands (text t) bytes at end → ⊥
  no_text none t end h s =
      let e = sym (text_code.again t (drop end bytes) h) ∙ ap text_at (sym s.0 ∙ sym is) ∙ none in
      let k : ⊥ = cc in k
