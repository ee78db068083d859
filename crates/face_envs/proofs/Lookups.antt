-- What is found at the places of a table is what the definitions say of the faces that are seen.
use Rattle.std.proofs.Common.{◌≡◌, ℕ, ◌+◌, suc, zero, Bool, true, false, List, [], ◌∷◌, ◌++◌, Option, Some, None, cond, refl, ap, sym, ◌∙◌, subst, arith}
use Rattle.std.specs.Prelude.{find, slice_get}
use Rattle.std.specs.Option.{option_and_then}
use Rattle.mk_base.specs.declared.name.Name.{Name}
use Rattle.mk_base.specs.declared.name.ModName.{ModName}
use Rattle.mk_base.specs.declared.fingerprint.Fingerprint.{Fingerprint}
use Rattle.mk_base.specs.Texts.{same_text}
use Rattle.face_model.specs.declared.decl.Decl.{Decl}
use Rattle.face_model.specs.declared.export.Export.{Export}
use Rattle.face_model.specs.Environments.{Known, Faces, Entry, same_name, with_prints, entries, first_entry, exports_in, exports_of}
use Rattle.face_envs.specs.Tables.{decls_from, decl_places, face_places, same_module, entry_in, entry_at, seen_from}
use Rattle.face_envs.proofs.Sorting.{by_cases}

-- the rest of a list stands in it from a place on
abbrev pub Fits : {A : Type 0} → List A → ℕ → List A → Type 0
Fits xs f ks = (j : ℕ) → slice_get xs (f + j) ≡ slice_get ks j

pub fits_here : {A : Type 0} (xs : List A) (f : ℕ) (k : A) (ks : List A) → Fits xs f (k ∷ ks) → slice_get xs f ≡ Some k
fits_here xs f k ks at =
    let e : f + 0 ≡ f = omega arith in
    subst (λ i. slice_get xs i ≡ Some k) e (at 0)

pub fits_next : {A : Type 0} (xs : List A) (f : ℕ) (k : A) (ks : List A) → Fits xs f (k ∷ ks) → Fits xs (f + 1) ks
fits_next xs f k ks at = λ j.
    let e : f + suc j ≡ f + 1 + j = omega arith in
    subst (λ i. slice_get xs i ≡ slice_get ks j) e (at (suc j))

pub fits_whole : {A : Type 0} (xs : List A) → Fits xs 0 xs
fits_whole xs = λ j.
    let e : j ≡ 0 + j = omega arith in
    subst (λ i. slice_get xs i ≡ slice_get xs j) e refl

module _ (fs : Faces) (p : ℕ → Bool) where
  abbrev seen : ℕ × ℕ → Bool
  seen q = p q.0

  -- ---- declarations

  abbrev pub where_at : Option (ℕ × ℕ) → Option Entry
  where_at o = option_and_then (entry_at fs) o

  module _ (n : Name) where
    abbrev test : Entry → Bool
    test e = same_name n e.0.name

    found : (f d : ℕ) (x : Decl) (e : Entry) (es : List Entry) (places more : List (ℕ × ℕ)) → e.0 ≡ x → p f ≡ true → entry_at fs (f, d) ≡ Some e
        → find test es ≡ where_at (find seen (places ++ more))
        → find test (e ∷ es) ≡ where_at (find seen (cond (same_name n x.name) ((f, d) ∷ places) places ++ more))
    found f d x e es places more is among at rest =
        let of_entry : same_name n e.0.name ≡ same_name n x.name = ap (λ (y : Decl). same_name n y.name) is in
        by_cases (same_name n x.name)
        (λ s. ap (λ b. cond b (Some e) (find test es)) (of_entry ∙ s)
        ∙ (sym at
        ∙ (sym (ap (λ b. where_at (cond b (Some (f, d)) (find seen (places ++ more)))) among)
        ∙ sym (ap (λ b. where_at (find seen (cond b ((f, d) ∷ places) places ++ more))) s))))
        (λ s. ap (λ b. cond b (Some e) (find test es)) (of_entry ∙ s)
        ∙ (rest
        ∙ sym (ap (λ b. where_at (find seen (cond b ((f, d) ∷ places) places ++ more))) s)))

    decl_among : (f d : ℕ) (ds : List Decl) (ps : List Fingerprint) (es : List Entry) (more : List (ℕ × ℕ)) → p f ≡ true
        → ((j : ℕ) → entry_at fs (f, d + j) ≡ slice_get (with_prints ds ps) j)
        → find test es ≡ where_at (find seen more)
        → find test (with_prints ds ps ++ es) ≡ where_at (find seen (decls_from n f d ds ++ more))
    decl_among f d [] ps es more among at rest = rest
    decl_among f d (x ∷ xs) [] es more among at rest =
        let e : Entry = (x, None) in
        let here : entry_at fs (f, d) ≡ Some e = (let k : d + 0 ≡ d = omega arith in subst (λ i. entry_at fs (f, i) ≡ Some e) k (at 0)) in
        found f d x e (with_prints xs [] ++ es) (decls_from n f (d + 1) xs) more refl among here
        (decl_among f (d + 1) xs [] es more among (λ j. let k : d + suc j ≡ d + 1 + j = omega arith in subst (λ i. entry_at fs (f, i) ≡ slice_get (with_prints xs []) j) k (at (suc j))) rest)
    decl_among f d (x ∷ xs) (q ∷ qs) es more among at rest =
        let e : Entry = (x, Some q) in
        let here : entry_at fs (f, d) ≡ Some e = (let k : d + 0 ≡ d = omega arith in subst (λ i. entry_at fs (f, i) ≡ Some e) k (at 0)) in
        found f d x e (with_prints xs qs ++ es) (decls_from n f (d + 1) xs) more refl among here
        (decl_among f (d + 1) xs qs es more among (λ j. let k : d + suc j ≡ d + 1 + j = omega arith in subst (λ i. entry_at fs (f, i) ≡ slice_get (with_prints xs qs) j) k (at (suc j))) rest)

    decl_left : (f d : ℕ) (ds : List Decl) (more : List (ℕ × ℕ)) → p f ≡ false → find seen (decls_from n f d ds ++ more) ≡ find seen more
    decl_left f d [] more left = refl
    decl_left f d (x ∷ xs) more left =
        by_cases (same_name n x.name)
        (λ s. ap (λ b. find seen (cond b ((f, d) ∷ decls_from n f (d + 1) xs) (decls_from n f (d + 1) xs) ++ more)) s
        ∙ (ap (λ b. cond b (Some (f, d)) (find seen (decls_from n f (d + 1) xs ++ more))) left
        ∙ decl_left f (d + 1) xs more left))
        (λ s. ap (λ b. find seen (cond b ((f, d) ∷ decls_from n f (d + 1) xs) (decls_from n f (d + 1) xs) ++ more)) s ∙ decl_left f (d + 1) xs more left)

    pub entry_seen : (f : ℕ) (ks : Faces) → Fits fs f ks → first_entry (seen_from p f ks) n ≡ where_at (find seen (decl_places n f ks))
    entry_seen f [] at = refl
    entry_seen f (k ∷ ks) at =
        let rest : first_entry (seen_from p (f + 1) ks) n ≡ where_at (find seen (decl_places n (f + 1) ks)) = entry_seen (f + 1) ks (fits_next fs f k ks at) in
        let here : slice_get fs f ≡ Some k = fits_here fs f k ks at in
        by_cases (p f)
        (λ s. ap (λ b. first_entry (cond b (k ∷ seen_from p (f + 1) ks) (seen_from p (f + 1) ks)) n) s
        ∙ decl_among f 0 k.face.decls k.prints (entries (seen_from p (f + 1) ks)) (decl_places n (f + 1) ks) s
        (λ j. let z : 0 + j ≡ j = omega arith in ap (entry_in (0 + j)) here ∙ ap (slice_get (with_prints k.face.decls k.prints)) z) rest)
        (λ s. ap (λ b. first_entry (cond b (k ∷ seen_from p (f + 1) ks) (seen_from p (f + 1) ks)) n) s
        ∙ (rest ∙ ap where_at (sym (decl_left f 0 k.face.decls (decl_places n (f + 1) ks) s))))

    -- what was found in the row of a name
    pub entry_found : (row : List (ℕ × ℕ)) (r : Option (ℕ × ℕ)) → r ≡ find seen row → row ≡ decl_places n 0 fs → option_and_then (entry_at fs) r ≡ first_entry (seen_from p 0 fs) n
    entry_found row r e is = ap where_at (e ∙ ap (find seen) is) ∙ sym (entry_seen 0 fs (fits_whole fs))

  -- ---- exports

  abbrev pub exports_at : Option ℕ → Option (List Export)
  exports_at o = exports_in (option_and_then (slice_get fs) o)

  module _ (m : ModName) where
    abbrev is_of : Known → Bool
    is_of k = same_text m.text k.face.node.module.text

    face_seen : (f : ℕ) (ks : Faces) → Fits fs f ks → find is_of (seen_from p f ks) ≡ option_and_then (slice_get fs) (find p (face_places m f ks))
    face_seen f [] at = refl
    face_seen f (k ∷ ks) at =
        let rest : find is_of (seen_from p (f + 1) ks) ≡ option_and_then (slice_get fs) (find p (face_places m (f + 1) ks)) = face_seen (f + 1) ks (fits_next fs f k ks at) in
        let here : slice_get fs f ≡ Some k = fits_here fs f k ks at in
        let ss = seen_from p (f + 1) ks in
        let ps = face_places m (f + 1) ks in
        by_cases (p f)
        (λ s. ap (λ b. find is_of (cond b (k ∷ ss) ss)) s
        ∙ by_cases (is_of k)
        (λ t. ap (λ b. cond b (Some k) (find is_of ss)) t
        ∙ (sym here
        ∙ (sym (ap (λ b. option_and_then (slice_get fs) (cond b (Some f) (find p ps))) s)
        ∙ sym (ap (λ b. option_and_then (slice_get fs) (find p (cond b (f ∷ ps) ps))) t))))
        (λ t. ap (λ b. cond b (Some k) (find is_of ss)) t
        ∙ (rest ∙ sym (ap (λ b. option_and_then (slice_get fs) (find p (cond b (f ∷ ps) ps))) t))))
        (λ s. ap (λ b. find is_of (cond b (k ∷ ss) ss)) s
        ∙ (rest
        ∙ by_cases (is_of k)
        (λ t. sym (ap (λ b. option_and_then (slice_get fs) (cond b (Some f) (find p ps))) s)
        ∙ sym (ap (λ b. option_and_then (slice_get fs) (find p (cond b (f ∷ ps) ps))) t))
        (λ t. sym (ap (λ b. option_and_then (slice_get fs) (find p (cond b (f ∷ ps) ps))) t))))

    pub exports_seen : exports_of (seen_from p 0 fs) m ≡ exports_at (find p (face_places m 0 fs))
    exports_seen = ap exports_in (face_seen 0 fs (fits_whole fs))

    pub exports_found : (row : List ℕ) (r : Option ℕ) → r ≡ find p row → row ≡ face_places m 0 fs → exports_at r ≡ exports_of (seen_from p 0 fs) m
    exports_found row r e is = ap exports_at (e ∙ ap (find p) is) ∙ sym exports_seen
