-- Each answer on a path tells the truth.
use Rattle.std.proofs.Common.{◌≡◌, ◌≢◌, ℕ, ◌<◌, ◌≤◌, List, [], ◌∷◌, ◌++◌, length, refl, ap, ◌∙◌, arith, append_assoc, length-append}
use Rattle.std.specs.List.{AllByRecursion}
use Rattle.session_lang.specs.Spelling.{IsWordByte, IsPath}
use Rattle.session_lang.proofs.Split.{split, ends}

module _ (stop : ℕ) (low : stop ≤ 32) where
  not_in : IsWordByte stop → ⊥
  not_in h = omega (arith, h.0)

  pub too_long : (ds x path rest : List ℕ) → AllByRecursion IsWordByte ds → 255 < length ds → IsPath path → ds ++ x ≡ (path ++ stop ∷ []) ++ rest → ⊥
  too_long ds x path rest p long ok e =
      let s = split IsWordByte stop not_in ds path x rest p ok.2 (e ∙ append_assoc path (stop ∷ []) rest) in
      omega (arith, ap length s.1, length-append ds s.0, ok.1)

  pub goes_on : (ds : List ℕ) → AllByRecursion IsWordByte ds → length ds ≤ 255 → (path more : List ℕ) × IsPath path × (more ≢ []) × (ds ++ more ≡ path ++ stop ∷ [])
  goes_on [] p h = (97 ∷ [], 97 ∷ stop ∷ [], (omega arith, omega arith, ((omega arith, omega arith), tt)), (λ e. cc), refl)
  goes_on (d ∷ ds) p h = (d ∷ ds, stop ∷ [], (omega arith, h, p), (λ e. cc), refl)

  pub other_stop : (ds t path rest : List ℕ) (b : ℕ) → AllByRecursion IsWordByte ds → (IsWordByte b → ⊥) → IsPath path → ds ++ b ∷ t ≡ (path ++ stop ∷ []) ++ rest → (path ≡ ds) × (b ≡ stop)
  other_stop ds t path rest b p out ok e =
      let s = ends IsWordByte stop b not_in out ds path t rest p ok.2 (e ∙ append_assoc path (stop ∷ []) rest) in (s.0, s.1)
