-- What one more face adds to the tables.
use Rattle.std.proofs.Common.{◌≡◌, ℕ, ◌+◌, ◌<◌, ◌≤◌, suc, zero, Bool, true, false, List, [], ◌∷◌, ◌++◌, Option, Some, None, length, cond, refl, ap, sym, ◌∙◌, subst, append_assoc, append-nil, arith}
use Rattle.std.specs.Prelude.{slice_get}
use Rattle.std.specs.List.{AllByRecursion}
use Rattle.mk_base.specs.declared.name.Name.{Name}
use Rattle.mk_base.specs.declared.name.ModName.{ModName}
use Rattle.mk_base.specs.declared.fingerprint.Fingerprint.{Fingerprint}
use Rattle.face_model.specs.declared.decl.Decl.{Decl}
use Rattle.face_model.specs.Environments.{Known, Faces, Entry, AreFormed, decl_in, print_in, with_prints}
use Rattle.face_model.specs.Formed.{FaceFormed}
use Rattle.face_envs.specs.declared.tables.InstPlace.{InstPlace}
use Rattle.face_envs.specs.Tables.{decls_from, decl_places, face_places, same_module, insts_from, inst_places, module_at, put_all, put_behind, entry_in, entry_at, inst_in, inst_at, seen_from}
use Rattle.face_envs.proofs.Sorting.{by_cases}

pub put_next : (b : Bool) (p : InstPlace) (more row : List InstPlace) → put_all module_at (cond b (p ∷ more) more) row ≡ put_all module_at more (cond b (put_behind module_at p row) row)
put_next true p more row = refl
put_next false p more row = refl

step : (f n : ℕ) → f + 1 + n ≡ f + suc n
step f n = omega arith

at_end : (f : ℕ) → f ≡ f + 0
at_end f = omega arith

pub decls_last : (n : Name) (f : ℕ) (fs : Faces) (k : Known) → decl_places n f (fs ++ k ∷ []) ≡ decl_places n f fs ++ decls_from n (f + length fs) 0 k.face.decls
decls_last n f [] k = append-nil (decls_from n f 0 k.face.decls) ∙ ap (λ i. decls_from n i 0 k.face.decls) (at_end f)
decls_last n f (j ∷ fs) k =
    let ds = decls_from n f 0 j.face.decls in
    ap (λ xs. ds ++ xs) (decls_last n (f + 1) fs k)
    ∙ (sym (append_assoc ds (decl_places n (f + 1) fs) (decls_from n (f + 1 + length fs) 0 k.face.decls))
    ∙ ap (λ i. (ds ++ decl_places n (f + 1) fs) ++ decls_from n i 0 k.face.decls) (step f (length fs)))

pub insts_places_last : (class head : Name) (f : ℕ) (fs : Faces) (k : Known) → inst_places class head f (fs ++ k ∷ []) ≡ inst_places class head f fs ++ insts_from class head k.face.node.module (f + length fs) 0 k.face.insts
insts_places_last class head f [] k = append-nil (insts_from class head k.face.node.module f 0 k.face.insts) ∙ ap (λ i. insts_from class head k.face.node.module i 0 k.face.insts) (at_end f)
insts_places_last class head f (j ∷ fs) k =
    let is = insts_from class head j.face.node.module f 0 j.face.insts in
    ap (λ xs. is ++ xs) (insts_places_last class head (f + 1) fs k)
    ∙ (sym (append_assoc is (inst_places class head (f + 1) fs) (insts_from class head k.face.node.module (f + 1 + length fs) 0 k.face.insts))
    ∙ ap (λ i. (is ++ inst_places class head (f + 1) fs) ++ insts_from class head k.face.node.module i 0 k.face.insts) (step f (length fs)))

pub faces_last : (m : ModName) (f : ℕ) (fs : Faces) (k : Known) → face_places m f (fs ++ k ∷ []) ≡ face_places m f fs ++ cond (same_module m k.face.node.module) ((f + length fs) ∷ []) []
faces_last m f [] k = ap (λ i. cond (same_module m k.face.node.module) (i ∷ []) []) (at_end f)
faces_last m f (j ∷ fs) k =
    let end : ℕ → List ℕ = λ i. cond (same_module m k.face.node.module) (i ∷ []) [] in
    let rest : face_places m (f + 1) (fs ++ k ∷ []) ≡ face_places m (f + 1) fs ++ end (f + suc (length fs)) = faces_last m (f + 1) fs k ∙ ap (λ i. face_places m (f + 1) fs ++ end i) (step f (length fs)) in
    by_cases (same_module m j.face.node.module)
    (λ e. ap (λ b. cond b (f ∷ face_places m (f + 1) (fs ++ k ∷ [])) (face_places m (f + 1) (fs ++ k ∷ []))) e
    ∙ (ap (λ xs. f ∷ xs) rest
    ∙ sym (ap (λ b. cond b (f ∷ face_places m (f + 1) fs) (face_places m (f + 1) fs) ++ end (f + suc (length fs))) e)))
    (λ e. ap (λ b. cond b (f ∷ face_places m (f + 1) (fs ++ k ∷ [])) (face_places m (f + 1) (fs ++ k ∷ []))) e
    ∙ (rest
    ∙ sym (ap (λ b. cond b (f ∷ face_places m (f + 1) fs) (face_places m (f + 1) fs) ++ end (f + suc (length fs))) e)))

pub formed_last : (fs : Faces) (k : Known) → AreFormed fs → FaceFormed k.face → AreFormed (fs ++ k ∷ [])
formed_last [] k a h = (h, tt)
formed_last (j ∷ fs) k a h = (a.0, formed_last fs k a.1 h)

pub formed_seen : (p : ℕ → Bool) (f : ℕ) (fs : Faces) → AreFormed fs → AreFormed (seen_from p f fs)
formed_seen p f [] a = tt
formed_seen p f (k ∷ fs) a =
    by_cases (p f)
    (λ e. subst AreFormed (sym (ap (λ b. cond b (k ∷ seen_from p (f + 1) fs) (seen_from p (f + 1) fs)) e)) (a.0, formed_seen p (f + 1) fs a.1))
    (λ e. subst AreFormed (sym (ap (λ b. cond b (k ∷ seen_from p (f + 1) fs) (seen_from p (f + 1) fs)) e)) (formed_seen p (f + 1) fs a.1))

-- ---- what stands at a place

decl_is : (ds : List Decl) (ps : List Fingerprint) (d : ℕ) → decl_in (slice_get (with_prints ds ps) d) ≡ slice_get ds d
decl_is [] ps d = refl
decl_is (x ∷ ds) [] zero = refl
decl_is (x ∷ ds) (p ∷ ps) zero = refl
decl_is (x ∷ ds) [] (suc d) = decl_is ds [] d
decl_is (x ∷ ds) (p ∷ ps) (suc d) = decl_is ds ps d

pub decl_found : (fs : Faces) (f d : ℕ) (k : Known) → slice_get fs f ≡ Some k → decl_in (entry_at fs (f, d)) ≡ slice_get k.face.decls d
decl_found fs f d k e = ap (λ o. decl_in (entry_in d o)) e ∙ decl_is k.face.decls k.prints d

pub print_is : (ds : List Decl) (ps : List Fingerprint) (d : ℕ) → d < length ds → slice_get ps d ≡ print_in (slice_get (with_prints ds ps) d)
print_is [] ps d lt = absurd (let h : ⊥ = omega arith in h)
print_is (x ∷ ds) [] zero lt = refl
print_is (x ∷ ds) (p ∷ ps) zero lt = refl
print_is (x ∷ ds) [] (suc d) lt = print_is ds [] d (let h : d < length ds = omega arith in h)
print_is (x ∷ ds) (p ∷ ps) (suc d) lt = print_is ds ps d (let h : d < length ds = omega arith in h)

pub print_not : (ds : List Decl) (ps : List Fingerprint) (d : ℕ) → length ds ≤ d → None ≡ print_in (slice_get (with_prints ds ps) d)
print_not [] ps d le = refl
print_not (x ∷ ds) ps zero le = absurd (let h : ⊥ = omega arith in h)
print_not (x ∷ ds) [] (suc d) le = print_not ds [] d (let h : length ds ≤ d = omega arith in h)
print_not (x ∷ ds) (p ∷ ps) (suc d) le = print_not ds ps d (let h : length ds ≤ d = omega arith in h)
