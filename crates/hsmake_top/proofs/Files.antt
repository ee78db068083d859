-- A file that is put among others.
use Rattle.std.proofs.Common.{◌^◌, ◌≡◌, ℕ, suc, ◌+◌, ◌<◌, ◌≤◌, Bool, true, false, true≢false, cond, not, ◌||◌, ◌&&◌, nat_eq, List, [], ◌∷◌, ◌++◌, length, set, refl, ap, sym, ◌∙◌, subst, arith}
use Rattle.std.specs.List.{AllByRecursion, list_any, position_or_len}
use Rattle.std.proofs.lemmas.Bool.{eqb-true}
use Rattle.std.specs.Cmp.Lexicographic.{nat_list_eq_equiv}
use Rattle.indexmap.specs.IndexSet.{insert_key}
use Rattle.mk_io.specs.declared.file.File.{File}
use Rattle.mk_base.specs.Texts.{same_text}
use Rattle.plain_build.specs.Result.{AreDistinct, AreShort}
use Rattle.hsmake_top.specs.Session.{put_file}
use Rattle.hsmake_top.specs.Kept.{names_of}

abbrev pub file : List ℕ → List ℕ → File
file path body = record { name = path; bytes = body }

-- what holds at either value of a test holds
pub by_test : (b : Bool) → (P : Type 0) → (b ≡ true → P) → (b ≡ false → P) → P
by_test true P f g = f refl
by_test false P f g = g refl

negated : (b c : Bool) → not b ≡ c → b ≡ not c
negated true c e = ap not e
negated false c e = ap not e

pub same_self : (a : List ℕ) → same_text a a ≡ true
same_self a = nat_list_eq_equiv.refl a

-- texts that are the same by the test are equal
pub exact : (a b : List ℕ) → same_text a b ≡ true → a ≡ b
exact [] [] e = refl
exact [] (y ∷ b) e = absurd (true≢false (sym e))
exact (x ∷ a) [] e = absurd (true≢false (sym e))
exact (x ∷ a) (y ∷ b) e = by_test (nat_eq x y) (x ∷ a ≡ y ∷ b)
    (λ h.
    let f : x ≡ y = eqb-true x y h in
    ap (λ z. z ∷ a) f ∙ ap (λ zs. y ∷ zs) (exact a b (sym (ap (λ t. t && same_text a b) h) ∙ e)))
    (λ h. absurd (true≢false (sym e ∙ ap (λ t. t && same_text a b) h)))

module _ (path body : List ℕ) where
  pub put_new : (fs : List File) → list_any (same_text path) (names_of fs) ≡ false → put_file path body fs ≡ fs ++ file path body ∷ []
  put_new [] e = refl
  put_new (f ∷ fs) e = by_test (same_text path f.name) (put_file path body (f ∷ fs) ≡ (f ∷ fs) ++ file path body ∷ [])
      (λ y. absurd (true≢false (sym (ap (λ b. b || list_any (same_text path) (names_of fs)) y) ∙ e)))
      (λ w. ap (λ b. cond b (file path body ∷ fs) (f ∷ put_file path body fs)) w
      ∙ ap (λ gs. f ∷ gs) (put_new fs (sym (ap (λ b. b || list_any (same_text path) (names_of fs)) w) ∙ e)))

  pub put_old : (fs : List File) → list_any (same_text path) (names_of fs) ≡ true
      → (position_or_len (same_text path) (names_of fs) < length fs) × (put_file path body fs ≡ set fs (position_or_len (same_text path) (names_of fs)) (file path body))
  put_old [] e = absurd (true≢false (sym e))
  put_old (f ∷ fs) e =
      let at : Bool → ℕ = λ b. cond (not b) (1 + position_or_len (same_text path) (names_of fs)) 0 in
      let P : Bool → Type 0 = λ b. (at b < length (f ∷ fs)) × (cond b (file path body ∷ fs) (f ∷ put_file path body fs) ≡ set (f ∷ fs) (at b) (file path body)) in
      by_test (same_text path f.name) (P (same_text path f.name))
      (λ y. subst P (sym y) (omega arith, refl))
      (λ w.
      let h = put_old fs (sym (ap (λ b. b || list_any (same_text path) (names_of fs)) w) ∙ e) in
      let n : ℕ = position_or_len (same_text path) (names_of fs) in
      let next : suc n ≡ 1 + n = omega arith in
      subst P (sym w) (omega (arith, h.0), ap (λ gs. f ∷ gs) h.1 ∙ ap (λ k. set (f ∷ fs) k (file path body)) next))

  pub put_names : (fs : List File) → names_of (put_file path body fs) ≡ insert_key same_text (names_of fs) path
  put_names fs = by_test (list_any (same_text path) (names_of fs)) (names_of (put_file path body fs) ≡ insert_key same_text (names_of fs) path)
      (λ y. same fs y ∙ sym (ap (λ b. cond b (names_of fs) (names_of fs ++ path ∷ [])) y))
      (λ w. ap names_of (put_new fs w) ∙ more fs ∙ sym (ap (λ b. cond b (names_of fs) (names_of fs ++ path ∷ [])) w))
    where
      more : (fs : List File) → names_of (fs ++ file path body ∷ []) ≡ names_of fs ++ path ∷ []
      more [] = refl
      more (f ∷ fs) = ap (λ ns. f.name ∷ ns) (more fs)

      same : (fs : List File) → list_any (same_text path) (names_of fs) ≡ true → names_of (put_file path body fs) ≡ names_of fs
      same [] e = absurd (true≢false (sym e))
      same (f ∷ fs) e = by_test (same_text path f.name) (names_of (put_file path body (f ∷ fs)) ≡ names_of (f ∷ fs))
          (λ y. ap (λ b. names_of (cond b (file path body ∷ fs) (f ∷ put_file path body fs))) y ∙ ap (λ n. n ∷ names_of fs) (exact path f.name y))
          (λ w. ap (λ b. names_of (cond b (file path body ∷ fs) (f ∷ put_file path body fs))) w
          ∙ ap (λ ns. f.name ∷ ns) (same fs (sym (ap (λ b. b || list_any (same_text path) (names_of fs)) w) ∙ e)))

  apart_put : (f : File) (fs : List File) → (f.name ≡ path → ⊥) → AllByRecursion (λ (g : File). f.name ≡ g.name → ⊥) fs → AllByRecursion (λ (g : File). f.name ≡ g.name → ⊥) (put_file path body fs)
  apart_put f [] n p = (n, tt)
  apart_put f (g ∷ fs) n p =
      let P : Bool → Type 0 = λ b. AllByRecursion (λ (g : File). f.name ≡ g.name → ⊥) (cond b (file path body ∷ fs) (g ∷ put_file path body fs)) in
      by_test (same_text path g.name) (P (same_text path g.name))
      (λ y. subst P (sym y) (n, p.1))
      (λ y. subst P (sym y) (p.0, apart_put f fs n p.1))

  pub put_distinct : (fs : List File) → AreDistinct fs → AreDistinct (put_file path body fs)
  put_distinct [] p = (tt, tt)
  put_distinct (f ∷ fs) p =
      let P : Bool → Type 0 = λ b. AreDistinct (cond b (file path body ∷ fs) (f ∷ put_file path body fs)) in
      by_test (same_text path f.name) (P (same_text path f.name))
      (λ y. subst P (sym y) (subst (λ n. AllByRecursion (λ (g : File). n ≡ g.name → ⊥) fs) (sym (exact path f.name y)) p.0, p.1))
      (λ n. subst P (sym n) (apart_put f fs (λ e. true≢false (sym (same_self path) ∙ ap (same_text path) (sym e) ∙ n)) p.0, put_distinct fs p.1))

  pub put_short : (fs : List File) → length path < 2 ^ 32 → AreShort fs → AreShort (put_file path body fs)
  put_short [] a p = (a, tt)
  put_short (f ∷ fs) a p =
      let P : Bool → Type 0 = λ c. AreShort (cond c (file path body ∷ fs) (f ∷ put_file path body fs)) in
      by_test (same_text path f.name) (P (same_text path f.name))
      (λ y. subst P (sym y) (a, p.1))
      (λ y. subst P (sym y) (p.0, put_short fs a p.1))

  -- there is at most one file more
  pub put_length : (fs : List File) → length (put_file path body fs) ≤ length fs + 1
  put_length [] = omega arith
  put_length (f ∷ fs) =
      let P : Bool → Type 0 = λ c. length (cond c (file path body ∷ fs) (f ∷ put_file path body fs)) ≤ length (f ∷ fs) + 1 in
      by_test (same_text path f.name) (P (same_text path f.name))
      (λ y. subst P (sym y) (omega arith))
      (λ y. subst P (sym y) (omega (arith, put_length fs)))

-- a file that was put at the end, or in place of one, among files whose names are listed
module _ (path body value : List ℕ) (keys : List (List ℕ)) (fs gs : List File) (is_new : Bool) (f : File)
    (value_is : value ≡ path) (keys_are : keys ≡ names_of fs) (new_is : is_new ≡ not (list_any (same_text value) keys)) (file_is : f ≡ file path body) where
  listed : is_new ≡ not (list_any (same_text path) (names_of fs))
  listed = new_is ∙ ap (λ v. not (list_any (same_text v) keys)) value_is ∙ ap (λ ks. not (list_any (same_text path) ks)) keys_are

  pub pushed_is : is_new ≡ true → gs ≡ fs ++ f ∷ [] → gs ≡ put_file path body fs
  pushed_is t e = e ∙ ap (λ g. fs ++ g ∷ []) file_is ∙ sym (put_new path body fs (negated (list_any (same_text path) (names_of fs)) true (sym listed ∙ t)))

  pub there : is_new ≡ false → list_any (same_text path) (names_of fs) ≡ true
  there t = negated (list_any (same_text path) (names_of fs)) false (sym listed ∙ t)

  pub place_is : (at : ℕ) → at ≡ position_or_len (same_text value) keys → at ≡ position_or_len (same_text path) (names_of fs)
  place_is at a = a ∙ ap (λ v. position_or_len (same_text v) keys) value_is ∙ ap (λ ks. position_or_len (same_text path) ks) keys_are

  pub replaced_is : is_new ≡ false → (at : ℕ) → at ≡ position_or_len (same_text value) keys → gs ≡ set fs at f → gs ≡ put_file path body fs
  replaced_is t at a e = e ∙ ap (λ i. set fs i f) (place_is at a) ∙ ap (set fs (position_or_len (same_text path) (names_of fs))) file_is ∙ sym (put_old path body fs (there t)).1

  pub replaced_within : is_new ≡ false → (at : ℕ) → at ≡ position_or_len (same_text value) keys → at < length fs
  replaced_within t at a = subst (λ i. i < length fs) (sym (place_is at a)) (put_old path body fs (there t)).0

-- what is kept of the files once one is put
pub put_kept : (path body value : List ℕ) (keys new_keys : List (List ℕ)) (fs gs : List File) → value ≡ path → keys ≡ names_of fs → new_keys ≡ insert_key same_text keys value → gs ≡ put_file path body fs
    → length path < 2 ^ 32 → AreDistinct fs → AreShort fs → (new_keys ≡ names_of gs) × AreDistinct gs × AreShort gs
put_kept path body value keys new_keys fs gs v k n e a d s = (
  n ∙ ap (λ x. insert_key same_text keys x) v ∙ ap (λ ks. insert_key same_text ks path) k ∙ sym (put_names path body fs) ∙ ap names_of (sym e),
  subst AreDistinct (sym e) (put_distinct path body fs d),
  subst AreShort (sym e) (put_short path body fs a s),
)
