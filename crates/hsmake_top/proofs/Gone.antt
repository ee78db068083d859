-- A file that is taken away from others.
use Rattle.std.proofs.Common.{◌^◌, ◌≡◌, ℕ, suc, ◌+◌, ◌<◌, ◌≤◌, Bool, true, false, true≢false, cond, not, ◌||◌, nat_lt, List, [], ◌∷◌, length, Some, None, refl, ap, sym, ◌∙◌, subst, arith}
use Rattle.std.specs.List.{AllByRecursion, list_any, position_or_len, remove}
use Rattle.std.specs.Set.{remove_key}
use Rattle.mk_io.specs.declared.file.File.{File}
use Rattle.mk_base.specs.Texts.{same_text}
use Rattle.plain_build.specs.Result.{AreDistinct, AreShort}
use Rattle.hsmake_top.specs.Session.{without_file}
use Rattle.hsmake_top.specs.Kept.{names_of}
use Rattle.hsmake_top.proofs.Files.{by_test, exact}

module _ (path : List ℕ) where
  abbrev Named : List File → Bool
  Named fs = list_any (same_text path) (names_of fs)

  pub all_stay : (fs : List File) → list_any (same_text path) (names_of fs) ≡ false → without_file path fs ≡ fs
  all_stay [] e = refl
  all_stay (f ∷ fs) e = by_test (same_text path f.name) (without_file path (f ∷ fs) ≡ f ∷ fs)
      (λ y. absurd (true≢false (sym (ap (λ b. b || list_any (same_text path) (names_of fs)) y) ∙ e)))
      (λ n. ap (λ b. cond (not b) (f ∷ without_file path fs) (without_file path fs)) n
      ∙ ap (λ gs. f ∷ gs) (all_stay fs (sym (ap (λ b. b || list_any (same_text path) (names_of fs)) n) ∙ e)))

  none_named : (name : List ℕ) → name ≡ path → (fs : List File) → AllByRecursion (λ (g : File). name ≡ g.name → ⊥) fs → list_any (same_text path) (names_of fs) ≡ false
  none_named name e [] p = refl
  none_named name e (g ∷ fs) p = by_test (same_text path g.name) (list_any (same_text path) (names_of (g ∷ fs)) ≡ false)
      (λ y. absurd (p.0 (e ∙ exact path g.name y)))
      (λ n. ap (λ b. b || list_any (same_text path) (names_of fs)) n ∙ none_named name e fs p.1)

  rest_stays : (f : File) (fs : List File) → AreDistinct (f ∷ fs) → same_text path f.name ≡ true → without_file path fs ≡ fs
  rest_stays f fs d y = all_stay fs (none_named f.name (sym (exact path f.name y)) fs d.0)

  pub taken : (fs : List File) → AreDistinct fs → list_any (same_text path) (names_of fs) ≡ true
      → (position_or_len (same_text path) (names_of fs) < length fs) × (remove fs (position_or_len (same_text path) (names_of fs)) ≡ without_file path fs)
  taken [] d e = absurd (true≢false (sym e))
  taken (f ∷ fs) d e =
      let at : Bool → ℕ = λ b. cond (not b) (1 + position_or_len (same_text path) (names_of fs)) 0 in
      let P : Bool → Type 0 = λ b. (at b < length (f ∷ fs)) × (remove (f ∷ fs) (at b) ≡ cond (not b) (f ∷ without_file path fs) (without_file path fs)) in
      by_test (same_text path f.name) (P (same_text path f.name))
      (λ y. subst P (sym y) (omega arith, sym (rest_stays f fs d y)))
      (λ w.
      let h = taken fs d.1 (sym (ap (λ b. b || list_any (same_text path) (names_of fs)) w) ∙ e) in
      let n : ℕ = position_or_len (same_text path) (names_of fs) in
      let next : 1 + n ≡ suc n = omega arith in
      subst P (sym w) (omega (arith, h.0), ap (λ k. remove (f ∷ fs) k) next ∙ ap (λ gs. f ∷ gs) h.1))

  taken_names : (fs : List File) → AreDistinct fs → remove_key (same_text path) (names_of fs) ≡ names_of (without_file path fs)
  taken_names [] d = refl
  taken_names (f ∷ fs) d =
      let P : Bool → Type 0 = λ b. cond b (names_of fs) (f.name ∷ remove_key (same_text path) (names_of fs)) ≡ names_of (cond (not b) (f ∷ without_file path fs) (without_file path fs)) in
      by_test (same_text path f.name) (P (same_text path f.name))
      (λ y. subst P (sym y) (ap names_of (sym (rest_stays f fs d y))))
      (λ n. subst P (sym n) (ap (λ ns. f.name ∷ ns) (taken_names fs d.1)))

  all_without : (Q : File → Type 0) (fs : List File) → AllByRecursion Q fs → AllByRecursion Q (without_file path fs)
  all_without Q [] p = tt
  all_without Q (f ∷ fs) p =
      let P : Bool → Type 0 = λ b. AllByRecursion Q (cond (not b) (f ∷ without_file path fs) (without_file path fs)) in
      by_test (same_text path f.name) (P (same_text path f.name))
      (λ y. subst P (sym y) (all_without Q fs p.1))
      (λ n. subst P (sym n) (p.0, all_without Q fs p.1))

  distinct_without : (fs : List File) → AreDistinct fs → AreDistinct (without_file path fs)
  distinct_without [] d = tt
  distinct_without (f ∷ fs) d =
      let P : Bool → Type 0 = λ b. AreDistinct (cond (not b) (f ∷ without_file path fs) (without_file path fs)) in
      by_test (same_text path f.name) (P (same_text path f.name))
      (λ y. subst P (sym y) (distinct_without fs d.1))
      (λ n. subst P (sym n) (all_without (λ (g : File). f.name ≡ g.name → ⊥) fs d.0, distinct_without fs d.1))

  pub fewer : (fs : List File) → length (without_file path fs) ≤ length fs
  fewer [] = omega arith
  fewer (f ∷ fs) =
      let P : Bool → Type 0 = λ b. length (cond (not b) (f ∷ without_file path fs) (without_file path fs)) ≤ length (f ∷ fs) in
      by_test (same_text path f.name) (P (same_text path f.name))
      (λ y. subst P (sym y) (omega (arith, fewer fs)))
      (λ n. subst P (sym n) (omega (arith, fewer fs)))

-- what is kept of the files once one is taken away
pub gone_kept : (path value : List ℕ) (keys new_keys : List (List ℕ)) (fs gs : List File) → value ≡ path → keys ≡ names_of fs → new_keys ≡ remove_key (same_text value) keys → gs ≡ without_file path fs
    → AreDistinct fs → AreShort fs → (new_keys ≡ names_of gs) × AreDistinct gs × AreShort gs
gone_kept path value keys new_keys fs gs v k n e d s = (
  n ∙ ap (λ x. remove_key (same_text x) keys) v ∙ ap (λ ks. remove_key (same_text path) ks) k ∙ taken_names path fs d ∙ ap names_of (sym e),
  subst AreDistinct (sym e) (distinct_without path fs d),
  subst AreShort (sym e) (all_without path (λ (f : File). length f.name < 2 ^ 32) fs s),
)

-- the place at which a key was found
found_at : (at n len : ℕ) → Some at ≡ cond (nat_lt n len) (Some n) None → at ≡ n
found_at at n len e = by_test (nat_lt n len) (at ≡ n)
    (λ y. let h : Some at ≡ Some n = e ∙ ap (λ b. cond b (Some n) None) y in cc)
    (λ w. absurd (let h : Some at ≡ None = e ∙ ap (λ b. cond b (Some n) None) w in cc))

-- a name that is looked up among files whose names are listed
module _ (path value : List ℕ) (keys : List (List ℕ)) (fs : List File) (value_is : value ≡ path) (keys_are : keys ≡ names_of fs) where
  pub listed : (found : Bool) → found ≡ list_any (same_text value) keys → found ≡ list_any (same_text path) (names_of fs)
  listed found e = e ∙ ap (λ v. list_any (same_text v) keys) value_is ∙ ap (λ ks. list_any (same_text path) ks) keys_are

  pub place_is : (at : ℕ) → Some at ≡ cond (nat_lt (position_or_len (same_text value) keys) (length keys)) (Some (position_or_len (same_text value) keys)) None → at ≡ position_or_len (same_text path) (names_of fs)
  place_is at e =
      found_at at (position_or_len (same_text value) keys) (length keys) e
      ∙ ap (λ v. position_or_len (same_text v) keys) value_is ∙ ap (λ ks. position_or_len (same_text path) ks) keys_are
