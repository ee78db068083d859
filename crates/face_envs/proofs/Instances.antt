-- The rows of instances are what the definition says of the faces that are seen.
use Rattle.std.proofs.Common.{◌≡◌, ℕ, ◌+◌, suc, zero, Bool, true, false, List, [], ◌∷◌, ◌++◌, Option, Some, None, length, map, cond, refl, ap, sym, ◌∙◌, subst, append_assoc, append-nil, length-append, arith}
use Rattle.std.specs.Prelude.{not, ◌&&◌, filter, flat_map, slice_get}
use Rattle.std.specs.List.{AllByRecursion}
use Rattle.std.specs.Option.{option_to_list}
use Rattle.std.proofs.lemmas.List.Elements.{filter-append}
use Rattle.std.proofs.lemmas.List.Concat.{flat_map-append}
use Rattle.mk_base.specs.declared.name.Name.{Name}
use Rattle.mk_base.specs.declared.name.ModName.{ModName}
use Rattle.face_model.specs.declared.inst.Inst.{Inst}
use Rattle.face_model.specs.Environments.{Known, Faces, is_inst, insts_in, is_behind, put, by_module, insts_of, insts_up_to}
use Rattle.face_envs.specs.declared.tables.InstPlace.{InstPlace}
use Rattle.face_envs.specs.Tables.{is_later, put_behind, put_all, module_at, insts_from, inst_places, inst_in, inst_at, seen_from}
use Rattle.face_envs.proofs.Sorting.{by_cases, clash, itself, later_later, upto_later, upto_upto, IsOrdered, all_put_all, ordered_put, ordered_put_all, put_all_more, filter_put_all}
use Rattle.face_envs.proofs.Lookups.{Fits, fits_here, fits_next, fits_whole}

-- ---- faces by module

abbrev pub module_of : Known → ModName
module_of k = k.face.node.module

commute : (a x : Known) (ys : Faces) → put a (put_behind module_of x ys) ≡ put_behind module_of x (put a ys)
commute a x [] =
    by_cases (is_later (module_of a) (module_of x))
    (λ e. ap (λ b. cond b (x ∷ a ∷ []) (a ∷ x ∷ [])) e ∙ sym (ap (λ b. cond b (x ∷ a ∷ []) (a ∷ x ∷ [])) e))
    (λ e. ap (λ b. cond b (x ∷ a ∷ []) (a ∷ x ∷ [])) e ∙ sym (ap (λ b. cond b (x ∷ a ∷ []) (a ∷ x ∷ [])) e))
commute a x (y ∷ ys) =
    by_cases (is_later (module_of y) (module_of x))
    (λ yx. ap (λ b. put a (cond b (x ∷ y ∷ ys) (y ∷ put_behind module_of x ys))) yx
    ∙ by_cases (is_later (module_of a) (module_of y))
    (λ ay. ap (λ b. cond b (x ∷ put a (y ∷ ys)) (a ∷ x ∷ y ∷ ys)) (later_later (module_of a) (module_of y) (module_of x) ay yx)
    ∙ (ap (λ b. x ∷ cond b (y ∷ put a ys) (a ∷ y ∷ ys)) ay
    ∙ (sym (ap (λ b. cond b (x ∷ y ∷ put a ys) (y ∷ put_behind module_of x (put a ys))) yx)
    ∙ sym (ap (λ b. put_behind module_of x (cond b (y ∷ put a ys) (a ∷ y ∷ ys))) ay))))
    (λ ay. by_cases (is_later (module_of a) (module_of x))
    (λ ax. ap (λ b. cond b (x ∷ put a (y ∷ ys)) (a ∷ x ∷ y ∷ ys)) ax
    ∙ (ap (λ b. x ∷ cond b (y ∷ put a ys) (a ∷ y ∷ ys)) ay
    ∙ (sym (ap (λ b. cond b (x ∷ a ∷ y ∷ ys) (a ∷ put_behind module_of x (y ∷ ys))) ax)
    ∙ sym (ap (λ b. put_behind module_of x (cond b (y ∷ put a ys) (a ∷ y ∷ ys))) ay))))
    (λ ax. ap (λ b. cond b (x ∷ put a (y ∷ ys)) (a ∷ x ∷ y ∷ ys)) ax
    ∙ (sym (ap (λ b. a ∷ cond b (x ∷ y ∷ ys) (y ∷ put_behind module_of x ys)) yx)
    ∙ (sym (ap (λ b. cond b (x ∷ a ∷ y ∷ ys) (a ∷ put_behind module_of x (y ∷ ys))) ax)
    ∙ sym (ap (λ b. put_behind module_of x (cond b (y ∷ put a ys) (a ∷ y ∷ ys))) ay))))))
    (λ yx. ap (λ b. put a (cond b (x ∷ y ∷ ys) (y ∷ put_behind module_of x ys))) yx
    ∙ by_cases (is_later (module_of a) (module_of y))
    (λ ay. ap (λ b. cond b (y ∷ put a (put_behind module_of x ys)) (a ∷ y ∷ put_behind module_of x ys)) ay
    ∙ (ap (λ zs. y ∷ zs) (commute a x ys)
    ∙ (sym (ap (λ b. cond b (x ∷ y ∷ put a ys) (y ∷ put_behind module_of x (put a ys))) yx)
    ∙ sym (ap (λ b. put_behind module_of x (cond b (y ∷ put a ys) (a ∷ y ∷ ys))) ay))))
    (λ ay. ap (λ b. cond b (y ∷ put a (put_behind module_of x ys)) (a ∷ y ∷ put_behind module_of x ys)) ay
    ∙ (sym (ap (λ b. a ∷ cond b (x ∷ y ∷ ys) (y ∷ put_behind module_of x ys)) yx)
    ∙ (sym (ap (λ b. cond b (x ∷ a ∷ y ∷ ys) (a ∷ put_behind module_of x (y ∷ ys))) (upto_upto (module_of a) (module_of y) (module_of x) ay yx))
    ∙ sym (ap (λ b. put_behind module_of x (cond b (y ∷ put a ys) (a ∷ y ∷ ys))) ay)))))

-- one more face at the end of the list stands behind those whose modules don't come behind its own
pub by_module_last : (xs : Faces) (x : Known) → by_module (xs ++ x ∷ []) ≡ put_behind module_of x (by_module xs)
by_module_last [] x = refl
by_module_last (a ∷ xs) x = ap (put a) (by_module_last xs x) ∙ commute a x (by_module xs)

by_module_more : (ys xs : Faces) → by_module (xs ++ ys) ≡ put_all module_of ys (by_module xs)
by_module_more [] xs = ap by_module (append-nil xs)
by_module_more (y ∷ ys) xs =
    ap by_module (sym (append_assoc xs (y ∷ []) ys))
    ∙ (by_module_more ys (xs ++ y ∷ [])
    ∙ ap (put_all module_of ys) (by_module_last xs y))

pub by_module_is : (xs : Faces) → by_module xs ≡ put_all module_of xs []
by_module_is xs = by_module_more xs []

pub by_module_ordered : (xs : Faces) → IsOrdered module_of (by_module xs)
by_module_ordered xs = subst (IsOrdered module_of) (sym (by_module_is xs)) (ordered_put_all module_of xs [] tt)

-- ---- faces with their numbers

abbrev Spot : Type 0
Spot = ℕ × Known

abbrev key : Spot → ModName
key s = module_of s.1

abbrev face_of : Spot → Known
face_of s = s.1

abbrev numbered : ℕ → Faces → List Spot
numbered f [] = []
numbered f (k ∷ ks) = (f, k) ∷ numbered (f + 1) ks

map_put : (s : Spot) (ss : List Spot) → map face_of (put_behind key s ss) ≡ put_behind module_of (face_of s) (map face_of ss)
map_put s [] = refl
map_put s (t ∷ ss) =
    by_cases (is_later (key t) (key s))
    (λ e. ap (λ b. map face_of (cond b (s ∷ t ∷ ss) (t ∷ put_behind key s ss))) e
    ∙ sym (ap (λ b. cond b (face_of s ∷ face_of t ∷ map face_of ss) (face_of t ∷ put_behind module_of (face_of s) (map face_of ss))) e))
    (λ e. ap (λ b. map face_of (cond b (s ∷ t ∷ ss) (t ∷ put_behind key s ss))) e
    ∙ (ap (λ zs. face_of t ∷ zs) (map_put s ss)
    ∙ sym (ap (λ b. cond b (face_of s ∷ face_of t ∷ map face_of ss) (face_of t ∷ put_behind module_of (face_of s) (map face_of ss))) e)))

map_put_all : (xs ys : List Spot) → map face_of (put_all key xs ys) ≡ put_all module_of (map face_of xs) (map face_of ys)
map_put_all [] ys = refl
map_put_all (x ∷ xs) ys = map_put_all xs (put_behind key x ys) ∙ ap (put_all module_of (map face_of xs)) (map_put x ys)

all_numbered : (fs : Faces) (f : ℕ) (ks : Faces) → Fits fs f ks → AllByRecursion (λ (s : Spot). slice_get fs s.0 ≡ Some s.1) (numbered f ks)
all_numbered fs f [] at = tt
all_numbered fs f (k ∷ ks) at = (fits_here fs f k ks at, all_numbered fs (f + 1) ks (fits_next fs f k ks at))

module _ (p : ℕ → Bool) where
  abbrev seen_spot : Spot → Bool
  seen_spot s = p s.0

  seen_are : (f : ℕ) (ks : Faces) → seen_from p f ks ≡ map face_of (filter seen_spot (numbered f ks))
  seen_are f [] = refl
  seen_are f (k ∷ ks) =
      let ss = seen_from p (f + 1) ks in
      let ns = filter seen_spot (numbered (f + 1) ks) in
      by_cases (p f)
      (λ e. ap (λ b. cond b (k ∷ ss) ss) e ∙ (ap (λ zs. k ∷ zs) (seen_are (f + 1) ks) ∙ sym (ap (λ b. map face_of (cond b ((f, k) ∷ ns) ns)) e)))
      (λ e. ap (λ b. cond b (k ∷ ss) ss) e ∙ (seen_are (f + 1) ks ∙ sym (ap (λ b. map face_of (cond b ((f, k) ∷ ns) ns)) e)))

  seen_by_module : (fs : Faces) → by_module (seen_from p 0 fs) ≡ map face_of (filter seen_spot (put_all key (numbered 0 fs) []))
  seen_by_module fs =
      by_module_is (seen_from p 0 fs)
      ∙ (ap (λ xs. put_all module_of xs []) (seen_are 0 fs)
      ∙ (sym (map_put_all (filter seen_spot (numbered 0 fs)) [])
      ∙ ap (map face_of) (sym (filter_put_all key seen_spot (numbered 0 fs) [] tt))))

-- ---- rows of places

module _ (class head : Name) where
  abbrev block : Spot → List InstPlace
  block s = insts_from class head (key s) s.0 0 s.1.face.insts

  all_block : (P : ModName → Type 0) (m : ModName) (f i : ℕ) (xs : List Inst) → P m → AllByRecursion (λ (b : InstPlace). P b.module) (insts_from class head m f i xs)
  all_block P m f i [] h = tt
  all_block P m f i (x ∷ xs) h =
      let rest = insts_from class head m f (i + 1) xs in
      let b : InstPlace = record { «module» = m; face = f; place = i } in
      by_cases (is_inst class head x)
      (λ e. subst (AllByRecursion (λ (b : InstPlace). P b.module)) (sym (ap (λ c. cond c (b ∷ rest) rest) e)) (h, all_block P m f (i + 1) xs h))
      (λ e. subst (AllByRecursion (λ (b : InstPlace). P b.module)) (sym (ap (λ c. cond c (b ∷ rest) rest) e)) (all_block P m f (i + 1) xs h))

  skip_one : (x : InstPlace) (bs row : List InstPlace) → AllByRecursion (λ (b : InstPlace). is_later b.module x.module ≡ false) bs → put_behind module_at x (bs ++ row) ≡ bs ++ put_behind module_at x row
  skip_one x [] row a = refl
  skip_one x (b ∷ bs) row a = ap (λ c. cond c (x ∷ b ∷ (bs ++ row)) (b ∷ put_behind module_at x (bs ++ row))) a.0 ∙ ap (λ zs. b ∷ zs) (skip_one x bs row a.1)

  as_later : (m : ModName) (v : Bool) (x : InstPlace) (bs : List InstPlace) → x.module ≡ m → AllByRecursion (λ (b : InstPlace). is_later b.module m ≡ v) bs → AllByRecursion (λ (b : InstPlace). is_later b.module x.module ≡ v) bs
  as_later m v x [] e a = tt
  as_later m v x (b ∷ bs) e a = (ap (is_later b.module) e ∙ a.0, as_later m v x bs e a.1)

  skip : (m : ModName) (xs bs row : List InstPlace) → AllByRecursion (λ (x : InstPlace). x.module ≡ m) xs → AllByRecursion (λ (b : InstPlace). is_later b.module m ≡ false) bs
      → put_all module_at xs (bs ++ row) ≡ bs ++ put_all module_at xs row
  skip m [] bs row h a = refl
  skip m (x ∷ xs) bs row h a = ap (put_all module_at xs) (skip_one x bs row (as_later m false x bs h.0 a)) ∙ skip m xs bs (put_behind module_at x row) h.1 a

  before : (x : InstPlace) (row : List InstPlace) → AllByRecursion (λ (b : InstPlace). is_later b.module x.module ≡ true) row → put_behind module_at x row ≡ x ∷ row
  before x [] a = refl
  before x (b ∷ row) a = ap (λ c. cond c (x ∷ b ∷ row) (b ∷ put_behind module_at x row)) a.0

  front : (m : ModName) (xs row : List InstPlace) → AllByRecursion (λ (x : InstPlace). x.module ≡ m) xs → AllByRecursion (λ (b : InstPlace). is_later b.module m ≡ true) row
      → put_all module_at xs row ≡ xs ++ row
  front m [] row h a = refl
  front m (x ∷ xs) row h a =
      ap (put_all module_at xs) (before x row (as_later m true x row h.0 a))
      ∙ (skip m xs (x ∷ []) row h.1 (ap (λ k. is_later k m) h.0 ∙ itself m, tt)
      ∙ ap (λ zs. x ∷ zs) (front m xs row h.1 a))

  all_append : (P : InstPlace → Type 0) (xs ys : List InstPlace) → AllByRecursion P xs → AllByRecursion P ys → AllByRecursion P (xs ++ ys)
  all_append P [] ys a b = b
  all_append P (x ∷ xs) ys a b = (a.0, all_append P xs ys a.1 b)

  all_flat : (P : ModName → Type 0) (ss : List Spot) → AllByRecursion (λ (s : Spot). P (key s)) ss → AllByRecursion (λ (b : InstPlace). P b.module) (flat_map block ss)
  all_flat P [] a = tt
  all_flat P (s ∷ ss) a = all_append (λ b. P b.module) (block s) (flat_map block ss) (all_block P (key s) s.0 0 s.1.face.insts a.0) (all_flat P ss a.1)

  all_behind : (s t : Spot) (ss : List Spot) → is_later (key t) (key s) ≡ true → AllByRecursion (λ (z : Spot). is_later (key t) (key z) ≡ false) ss → AllByRecursion (λ (z : Spot). is_later (key z) (key s) ≡ true) ss
  all_behind s t [] e a = tt
  all_behind s t (z ∷ ss) e a = (upto_later (key s) (key t) (key z) e a.0, all_behind s t ss e a.1)

  one_block : (s : Spot) (ss : List Spot) → IsOrdered key ss → put_all module_at (block s) (flat_map block ss) ≡ flat_map block (put_behind key s ss)
  one_block s [] o = front (key s) (block s) [] (all_block (λ k. k ≡ key s) (key s) s.0 0 s.1.face.insts refl) tt
  one_block s (t ∷ ss) o =
      let same : AllByRecursion (λ (x : InstPlace). x.module ≡ key s) (block s) = all_block (λ k. k ≡ key s) (key s) s.0 0 s.1.face.insts refl in
      by_cases (is_later (key t) (key s))
      (λ e. front (key s) (block s) (flat_map block (t ∷ ss)) same (all_flat (λ k. is_later k (key s) ≡ true) (t ∷ ss) (e, all_behind s t ss e o.0))
      ∙ sym (ap (λ b. flat_map block (cond b (s ∷ t ∷ ss) (t ∷ put_behind key s ss))) e))
      (λ e. skip (key s) (block s) (block t) (flat_map block ss) same (all_block (λ k. is_later k (key s) ≡ false) (key t) t.0 0 t.1.face.insts e)
      ∙ (ap (λ zs. block t ++ zs) (one_block s ss o.1)
      ∙ sym (ap (λ b. flat_map block (cond b (s ∷ t ∷ ss) (t ∷ put_behind key s ss))) e)))

  blocks : (f : ℕ) (ks : Faces) (ss : List Spot) → IsOrdered key ss → put_all module_at (inst_places class head f ks) (flat_map block ss) ≡ flat_map block (put_all key (numbered f ks) ss)
  blocks f [] ss o = refl
  blocks f (k ∷ ks) ss o =
      put_all_more module_at (block (f, k)) (inst_places class head (f + 1) ks) (flat_map block ss)
      ∙ (ap (put_all module_at (inst_places class head (f + 1) ks)) (one_block (f, k) ss o)
      ∙ blocks (f + 1) ks (put_behind key (f, k) ss) (ordered_put key (f, k) ss o))

  module _ (fs : Faces) (p : ℕ → Bool) where
    abbrev pub seen_place : InstPlace → Bool
    seen_place b = p b.face

    abbrev pub found_at : InstPlace → List Inst
    found_at b = option_to_list (inst_at fs b)

    block_among : (m : ModName) (f i : ℕ) (xs : List Inst) (row : List InstPlace) → p f ≡ true → ((j : ℕ) → inst_in (i + j) (slice_get fs f) ≡ slice_get xs j)
        → flat_map found_at (filter seen_place (insts_from class head m f i xs ++ row)) ≡ filter (is_inst class head) xs ++ flat_map found_at (filter seen_place row)
    block_among m f i [] row among at = refl
    block_among m f i (x ∷ xs) row among at =
        let bs = insts_from class head m f (i + 1) xs in
        let b : InstPlace = record { «module» = m; face = f; place = i } in
        let is = filter (is_inst class head) xs in
        let more = flat_map found_at (filter seen_place row) in
        let here : inst_in i (slice_get fs f) ≡ Some x = (let k : i + 0 ≡ i = omega arith in subst (λ n. inst_in n (slice_get fs f) ≡ Some x) k (at 0)) in
        let rest : flat_map found_at (filter seen_place (bs ++ row)) ≡ is ++ more = block_among m f (i + 1) xs row among (λ j. let k : i + suc j ≡ i + 1 + j = omega arith in subst (λ n. inst_in n (slice_get fs f) ≡ slice_get xs j) k (at (suc j))) in
        by_cases (is_inst class head x)
        (λ e. ap (λ c. flat_map found_at (filter seen_place (cond c (b ∷ bs) bs ++ row))) e
        ∙ (ap (λ c. flat_map found_at (cond c (b ∷ filter seen_place (bs ++ row)) (filter seen_place (bs ++ row)))) among
        ∙ (ap (λ o. option_to_list o ++ flat_map found_at (filter seen_place (bs ++ row))) here
        ∙ (ap (λ zs. x ∷ zs) rest
        ∙ sym (ap (λ c. cond c (x ∷ is) is ++ more) e)))))
        (λ e. ap (λ c. flat_map found_at (filter seen_place (cond c (b ∷ bs) bs ++ row))) e ∙ (rest ∙ sym (ap (λ c. cond c (x ∷ is) is ++ more) e)))

    block_left : (m : ModName) (f i : ℕ) (xs : List Inst) (row : List InstPlace) → p f ≡ false → filter seen_place (insts_from class head m f i xs ++ row) ≡ filter seen_place row
    block_left m f i [] row left = refl
    block_left m f i (x ∷ xs) row left =
        let bs = insts_from class head m f (i + 1) xs in
        let b : InstPlace = record { «module» = m; face = f; place = i } in
        by_cases (is_inst class head x)
        (λ e. ap (λ c. filter seen_place (cond c (b ∷ bs) bs ++ row)) e
        ∙ (ap (λ c. cond c (b ∷ filter seen_place (bs ++ row)) (filter seen_place (bs ++ row))) left ∙ block_left m f (i + 1) xs row left))
        (λ e. ap (λ c. filter seen_place (cond c (b ∷ bs) bs ++ row)) e ∙ block_left m f (i + 1) xs row left)

    blocks_found : (ss : List Spot) → AllByRecursion (λ (s : Spot). slice_get fs s.0 ≡ Some s.1) ss
        → flat_map found_at (filter seen_place (flat_map block ss)) ≡ flat_map (insts_in class head) (map face_of (filter (seen_spot p) ss))
    blocks_found [] a = refl
    blocks_found (s ∷ ss) a =
        let ns = filter (seen_spot p) ss in
        by_cases (p s.0)
        (λ e. block_among (key s) s.0 0 s.1.face.insts (flat_map block ss) e (λ j. let z : 0 + j ≡ j = omega arith in ap (inst_in (0 + j)) a.0 ∙ ap (slice_get s.1.face.insts) z)
        ∙ (ap (λ zs. insts_in class head s.1 ++ zs) (blocks_found ss a.1)
        ∙ sym (ap (λ b. flat_map (insts_in class head) (map face_of (cond b (s ∷ ns) ns))) e)))
        (λ e. ap (flat_map found_at) (block_left (key s) s.0 0 s.1.face.insts (flat_map block ss) e)
        ∙ (blocks_found ss a.1
        ∙ sym (ap (λ b. flat_map (insts_in class head) (map face_of (cond b (s ∷ ns) ns))) e)))

    -- what is found at the places of a row that are seen
    pub insts_seen : flat_map found_at (filter seen_place (put_all module_at (inst_places class head 0 fs) [])) ≡ insts_of (seen_from p 0 fs) class head
    insts_seen =
        ap (λ row. flat_map found_at (filter seen_place row)) (blocks 0 fs [] tt)
        ∙ (blocks_found (put_all key (numbered 0 fs) []) (all_put_all key (λ (s : Spot). slice_get fs s.0 ≡ Some s.1) (numbered 0 fs) [] (all_numbered fs 0 fs (fits_whole fs)) tt)
        ∙ ap (flat_map (insts_in class head)) (sym (seen_by_module p fs)))

    pub insts_found : (row : List InstPlace) → row ≡ put_all module_at (inst_places class head 0 fs) [] → flat_map found_at (filter seen_place row) ≡ insts_of (seen_from p 0 fs) class head
    insts_found row e = ap (λ xs. flat_map found_at (filter seen_place xs)) e ∙ insts_seen

-- ---- how many

module _ (p : ℕ → Bool) (m : ModName) where
  abbrev pub counts : InstPlace → Bool
  counts b = p b.face && not (is_later b.module m)

  abbrev upto : Known → Bool
  upto k = not (is_behind k m)

  both : (cy cx : Bool) (y x : InstPlace) (ys zs : List InstPlace) → length ys ≡ length (cond cx (x ∷ zs) zs) → length (cond cy (y ∷ ys) ys) ≡ length (cond cx (x ∷ cond cy (y ∷ zs) zs) (cond cy (y ∷ zs) zs))
  both true true y x ys zs e = ap (λ n. suc n) e
  both true false y x ys zs e = ap (λ n. suc n) e
  both false true y x ys zs e = e
  both false false y x ys zs e = e

  count_put : (x : InstPlace) (ys : List InstPlace) → length (filter counts (put_behind module_at x ys)) ≡ length (filter counts (x ∷ ys))
  count_put x [] = refl
  count_put x (y ∷ ys) =
      by_cases (is_later y.module x.module)
      (λ e. ap (λ c. length (filter counts (cond c (x ∷ y ∷ ys) (y ∷ put_behind module_at x ys)))) e)
      (λ e. ap (λ c. length (filter counts (cond c (x ∷ y ∷ ys) (y ∷ put_behind module_at x ys)))) e ∙ both (counts y) (counts x) y x (filter counts (put_behind module_at x ys)) (filter counts ys) (count_put x ys))

  one_more : (c : Bool) (x : InstPlace) (xs zs : List InstPlace) → length xs + length (cond c (x ∷ zs) zs) ≡ length (cond c (x ∷ xs) xs) + length zs
  one_more true x xs zs = omega arith
  one_more false x xs zs = refl

  count_put_all : (xs ys : List InstPlace) → length (filter counts (put_all module_at xs ys)) ≡ length (filter counts xs) + length (filter counts ys)
  count_put_all [] ys = omega arith
  count_put_all (x ∷ xs) ys =
      count_put_all xs (put_behind module_at x ys)
      ∙ (ap (λ n. length (filter counts xs) + n) (count_put x ys)
      ∙ one_more (counts x) x (filter counts xs) (filter counts ys))

  module _ (class head : Name) where
    count_block : (v : Bool) (k : ModName) (f i : ℕ) (xs : List Inst) → p f && not (is_later k m) ≡ v → length (filter counts (insts_from class head k f i xs)) ≡ cond v (length (filter (is_inst class head) xs)) 0
    count_block true k f i [] e = refl
    count_block false k f i [] e = refl
    count_block true k f i (x ∷ xs) e =
        let bs = insts_from class head k f (i + 1) xs in
        let b : InstPlace = record { «module» = k; face = f; place = i } in
        let is = filter (is_inst class head) xs in
        by_cases (is_inst class head x)
        (λ t. ap (λ c. length (filter counts (cond c (b ∷ bs) bs))) t
        ∙ (ap (λ c. length (cond c (b ∷ filter counts bs) (filter counts bs))) e
        ∙ (ap (λ n. suc n) (count_block true k f (i + 1) xs e)
        ∙ sym (ap (λ c. length (cond c (x ∷ is) is)) t))))
        (λ t. ap (λ c. length (filter counts (cond c (b ∷ bs) bs))) t
        ∙ (count_block true k f (i + 1) xs e
        ∙ sym (ap (λ c. length (cond c (x ∷ is) is)) t)))
    count_block false k f i (x ∷ xs) e =
        let bs = insts_from class head k f (i + 1) xs in
        let b : InstPlace = record { «module» = k; face = f; place = i } in
        by_cases (is_inst class head x)
        (λ t. ap (λ c. length (filter counts (cond c (b ∷ bs) bs))) t
        ∙ (ap (λ c. length (cond c (b ∷ filter counts bs) (filter counts bs))) e ∙ count_block false k f (i + 1) xs e))
        (λ t. ap (λ c. length (filter counts (cond c (b ∷ bs) bs))) t ∙ count_block false k f (i + 1) xs e)

    abbrev upto_in : Faces → ℕ
    upto_in xs = length (flat_map (insts_in class head) (filter upto xs))

    count_places : (f : ℕ) (ks : Faces) → length (filter counts (inst_places class head f ks)) ≡ upto_in (seen_from p f ks)
    count_places f [] = refl
    count_places f (k ∷ ks) =
        let bs = insts_from class head (module_of k) f 0 k.face.insts in
        let rs = inst_places class head (f + 1) ks in
        let ss = seen_from p (f + 1) ks in
        let rest : length (filter counts rs) ≡ upto_in ss = count_places (f + 1) ks in
        let split : length (filter counts (bs ++ rs)) ≡ length (filter counts bs) + length (filter counts rs) = ap length (filter-append counts bs rs) ∙ length-append (filter counts bs) (filter counts rs) in
        let count : (v : Bool) → p f && not (is_later (module_of k) m) ≡ v → length (filter counts (bs ++ rs)) ≡ cond v (length (insts_in class head k)) 0 + upto_in ss = λ v e. split ∙ (ap (λ n. n + length (filter counts rs)) (count_block v (module_of k) f 0 k.face.insts e) ∙ ap (λ n. cond v (length (insts_in class head k)) 0 + n) rest) in
        let none : 0 + upto_in ss ≡ upto_in ss = omega arith in
        by_cases (p f)
        (λ s. by_cases (upto k)
        (λ u. count true (ap (λ b. b && not (is_later (module_of k) m)) s ∙ u)
        ∙ (sym (length-append (insts_in class head k) (flat_map (insts_in class head) (filter upto ss)))
        ∙ (sym (ap (λ b. length (flat_map (insts_in class head) (cond b (k ∷ filter upto ss) (filter upto ss)))) u)
        ∙ sym (ap (λ b. upto_in (cond b (k ∷ ss) ss)) s))))
        (λ u. count false (ap (λ b. b && not (is_later (module_of k) m)) s ∙ u)
        ∙ (none
        ∙ (sym (ap (λ b. length (flat_map (insts_in class head) (cond b (k ∷ filter upto ss) (filter upto ss)))) u)
        ∙ sym (ap (λ b. upto_in (cond b (k ∷ ss) ss)) s)))))
        (λ s. count false (ap (λ b. b && not (is_later (module_of k) m)) s)
        ∙ (none
        ∙ sym (ap (λ b. upto_in (cond b (k ∷ ss) ss)) s)))

    -- how many places class a row are seen, in modules up to one by name
    pub count_seen : (fs : Faces) → length (filter counts (put_all module_at (inst_places class head 0 fs) [])) ≡ insts_up_to (seen_from p 0 fs) class head m
    count_seen fs =
        let e : length (filter counts (inst_places class head 0 fs)) + 0 ≡ length (filter counts (inst_places class head 0 fs)) = omega arith in
        count_put_all (inst_places class head 0 fs) [] ∙ (e ∙ count_places 0 fs)

    pub count_found : (fs : Faces) (row : List InstPlace) → row ≡ put_all module_at (inst_places class head 0 fs) [] → length (filter counts row) ≡ insts_up_to (seen_from p 0 fs) class head m
    count_found fs row e = ap (λ xs. length (filter counts xs)) e ∙ count_seen fs
