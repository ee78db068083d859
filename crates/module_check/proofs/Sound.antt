-- A module without diagnostics is sound, and fits its interface.
use Rattle.std.proofs.Common.{◌<◌, ◌^◌, ◌≡◌, ℕ, suc, ◌+◌, ◌*◌, ◌≤◌, Bool, true, false, ◌&&◌, List, [], ◌∷◌, ◌++◌, length, map, refl, ap, sym, subst, inl, inr, cond, arith, length-append}
use Rattle.std.specs.List.{list_any, list_all, flat_map, filter, AllByRecursion}
use Rattle.std.specs.Prelude.{codes}
use Rattle.std.proofs.lemmas.List.Sums.{sum_by-cons}
use Rattle.std.proofs.lemmas.Slice.Eq.{bytes_eq-Decides}
use Rattle.mk_base.specs.declared.name.Name.{Name}
use Rattle.mk_base.specs.declared.name.Space.TheVariants.{Ty}
use Rattle.mk_base.specs.declared.diag.Diag.{Diag}
use Rattle.build_theory.specs.Laws.{IsIn}
use Rattle.build_theory.proofs.Lists.{both_ways, clash, any_of, and_both, in_back}
use Rattle.plain_form.specs.declared.form.Word.{Word}
use Rattle.plain_form.specs.declared.form.DataItem.{DataItem}
use Rattle.plain_form.specs.declared.form.Written.{Written}
use Rattle.mk_base.specs.Texts.{same_text}
use Rattle.plain_scope.specs.declared.scope.DataDecl.{DataDecl}
use Rattle.plain_scope.specs.declared.scope.Content.{Content}
use Rattle.plain_scope.specs.declared.scope.Checked.TheVariants.{Sound}
use Rattle.plain_scope.specs.Scope.{same_space, exports_of, brought, heads, content_heads, scope, referred, same_entity, Pair, Use, Missing, Ambiguous, Found, use_of, use_at, twice_diags, field_diags, data_diags, datas_diags, scope_diags, found_names, resolved, content_of, with_diags, check_of, diag_at}
use Rattle.plain_scope.specs.Offered.{AreBefore, names_in, IsSound, Fits}
use Rattle.module_check.proofs.Weights.{IsShortWord, IsShortItem, IsSmall, fields_in}
use Rattle.module_check.proofs.Alls.{all_join}

with_no_diags : (c d : Content) (ds : List Diag) → with_diags c ds ≡ Sound d → (ds ≡ []) × (d ≡ c)
with_no_diags c d [] e = (refl, (let h : d ≡ c = cc in h))
with_no_diags c d (x ∷ ds) e = absurd (let h : ⊥ = cc in h)

first_empty : {X : Type 0} (xs ys : List X) → xs ++ ys ≡ [] → (xs ≡ []) × (ys ≡ [])
first_empty [] ys e = (refl, e)
first_empty (x ∷ xs) ys e = absurd (let h : ⊥ = cc in h)

not_twice : (b : Bool) (d : Diag) → cond b (d ∷ []) [] ≡ [] → b ≡ false
not_twice true d e = absurd (let h : ⊥ = cc in h)
not_twice false d e = refl

in_before : {X : Type 0} (xs ys : List X) (x : X) → IsIn x xs → IsIn x (xs ++ ys)
in_before [] ys x i = absurd i
in_before (z ∷ xs) ys x i = elim i [ inl e ↦ inl e | inr j ↦ inr (in_before xs ys x j) ]

in_mapped : {X Y : Type 0} (f : X → Y) (xs : List X) (x : X) → IsIn x xs → IsIn (f x) (map f xs)
in_mapped f [] x i = absurd i
in_mapped f (z ∷ xs) x i = elim i [ inl e ↦ inl (ap f e) | inr j ↦ inr (in_mapped f xs x j) ]

text_itself : (a b : List ℕ) → a ≡ b → same_text b a ≡ true
text_itself a b e = (bytes_eq-Decides b a).1 (sym e)

-- a word that is not defined twice is none of those before it
new_word : (words : List (List ℕ)) (w : Word) (other : List ℕ) → twice_diags w words ≡ [] → IsIn other words → other ≡ w.text → ⊥
new_word words w other e i s =
    let none : list_any (same_text w.text) words ≡ false = not_twice (list_any (same_text w.text) words) (diag_at w.at 23 (w.text ++ codes " is defined twice")) e in
    clash (list_any (same_text w.text) words) (any_of (same_text w.text) words other i (text_itself other w.text s)) none

abbrev AreOther : DataItem → DataItem → Type 0
AreOther a b = (a.ty.text ≡ b.ty.text → ⊥) × (a.con.text ≡ b.con.text → ⊥)

head_other : (pairs : List Pair) (before : List DataItem) (d e : DataItem) → data_diags pairs before d ≡ [] → IsIn e before → AreOther e d
head_other pairs before d e none i =
    let s = first_empty (twice_diags d.ty (map (λ (e : DataItem). e.ty.text) before)) (twice_diags d.con (map (λ (e : DataItem). e.con.text) before) ++ field_diags pairs d.fields) none in
    let r = first_empty (twice_diags d.con (map (λ (e : DataItem). e.con.text) before)) (field_diags pairs d.fields) s.1 in (
      new_word (map (λ (e : DataItem). e.ty.text) before) d.ty e.ty.text s.0 (in_mapped (λ (e : DataItem). e.ty.text) before e i),
      new_word (map (λ (e : DataItem). e.con.text) before) d.con e.con.text r.0 (in_mapped (λ (e : DataItem). e.con.text) before e i),
    )

others : (pairs : List Pair) (before ds : List DataItem) (e : DataItem) → datas_diags pairs before ds ≡ [] → IsIn e before → AllByRecursion (λ d. AreOther e d) ds
others pairs before [] e none i = tt
others pairs before (d ∷ ds) e none i =
    let s = first_empty (data_diags pairs before d) (datas_diags pairs (before ++ d ∷ []) ds) none in
    (head_other pairs before d e s.0 i, others pairs (before ++ d ∷ []) ds e s.1 (in_before before (d ∷ []) e i))

all_others : (pairs : List Pair) (before ds : List DataItem) → datas_diags pairs before ds ≡ [] → AreBefore AreOther ds
all_others pairs before [] none = tt
all_others pairs before (d ∷ ds) none =
    let s = first_empty (data_diags pairs before d) (datas_diags pairs (before ++ d ∷ []) ds) none in
    (others pairs (before ++ d ∷ []) ds d s.1 (in_back before d []), all_others pairs (before ++ d ∷ []) ds s.1)

all_mapped : {X Y : Type 0} (f : X → Y) (P : X → Type 0) (Q : Y → Type 0) (xs : List X) → ((x : X) → P x → Q (f x)) → AllByRecursion P xs → AllByRecursion Q (map f xs)
all_mapped f P Q [] h a = tt
all_mapped f P Q (x ∷ xs) h a = (h x a.0, all_mapped f P Q xs h a.1)

before_mapped : {X Y : Type 0} (f : X → Y) (P : X → X → Type 0) (Q : Y → Y → Type 0) (xs : List X) → ((x y : X) → P x y → Q (f x) (f y)) → AreBefore P xs → AreBefore Q (map f xs)
before_mapped f P Q [] h a = tt
before_mapped f P Q (x ∷ xs) h a = (all_mapped f (P x) (Q (f x)) xs (h x) a.0, before_mapped f P Q xs h a.1)

sound_content : (unit m : List ℕ) (w : Written) (cs : List Content) → scope_diags unit m w cs ≡ [] → IsSound unit (content_of unit m w cs)
sound_content unit m w cs none =
    let pairs : List Pair = scope unit m w cs in
    let apart = all_others pairs [] w.datas none in record {
      types = before_mapped (resolved pairs) AreOther (λ (a : DataDecl) (b : DataDecl). a.ty ≡ b.ty → ⊥) w.datas (λ x y h. h.0) apart;
      constructors = before_mapped (resolved pairs) AreOther (λ (a : DataDecl) (b : DataDecl). a.con ≡ b.con → ⊥) w.datas (λ x y h. h.1) apart;
    }

-- what is short: a unit's name and a module's name
abbrev IsShort : Name → Type 0
IsShort n = (length n.unit.text ≤ 64) × (length n.module.text < 2 ^ 32)

abbrev IsShortPair : Pair → Type 0
IsShortPair p = IsShort p.entity

all_brought : (m : List ℕ) (es : List Name) → AllByRecursion IsShort es → AllByRecursion IsShortPair (brought m es)
all_brought m [] h = tt
all_brought m (e ∷ es) h = (h.0, (h.0, all_brought m es h.1))

all_exports : (unit m : List ℕ) (hs : List (List ℕ × List ℕ)) → length unit ≤ 64 → length m < 2 ^ 32 → AllByRecursion IsShort (exports_of unit m hs)
all_exports unit m [] u v = tt
all_exports unit m (h ∷ hs) u v = ((u, v), ((u, v), all_exports unit m hs u v))

all_imported : (unit : List ℕ) (cs : List Content) → length unit ≤ 64 → AllByRecursion (λ (c : Content). length c.module < 2 ^ 32) cs
    → AllByRecursion IsShortPair (flat_map (λ (c : Content). brought c.module (exports_of unit c.module (content_heads c.datas))) cs)
all_imported unit [] u h = tt
all_imported unit (c ∷ cs) u h =
    all_join IsShortPair (brought c.module (exports_of unit c.module (content_heads c.datas))) (flat_map (λ (c : Content). brought c.module (exports_of unit c.module (content_heads c.datas))) cs)
    (all_brought c.module (exports_of unit c.module (content_heads c.datas)) (all_exports unit c.module (content_heads c.datas) u h.0)) (all_imported unit cs u h.1)

all_scope : (unit m : List ℕ) (w : Written) (cs : List Content) → length unit ≤ 64 → length m < 2 ^ 32 → AllByRecursion (λ (c : Content). length c.module < 2 ^ 32) cs → AllByRecursion IsShortPair (scope unit m w cs)
all_scope unit m w cs u v h =
    all_join IsShortPair (brought m (exports_of unit m (heads w.datas))) (flat_map (λ (c : Content). brought c.module (exports_of unit c.module (content_heads c.datas))) cs)
    (all_brought m (exports_of unit m (heads w.datas)) (all_exports unit m (heads w.datas) u v)) (all_imported unit cs u h)

abbrev IsNamed : List ℕ → Name → Type 0
IsNamed text n = IsShort n × (n.occ.text ≡ text)

all_referred : (pairs : List Pair) (text : List ℕ) → AllByRecursion IsShortPair pairs → AllByRecursion (IsNamed text) (referred pairs text)
all_referred [] text h = tt
all_referred (p ∷ ps) text h =
    let test : Pair → Bool = λ p. same_text p.qualifier [] && (same_space p.entity.occ.space Ty && same_text p.entity.occ.text text) in
    both_ways (test p)
    (λ e.
    let s = and_both (same_text p.qualifier []) (same_space p.entity.occ.space Ty && same_text p.entity.occ.text text) e in
    let r = and_both (same_space p.entity.occ.space Ty) (same_text p.entity.occ.text text) s.1 in
    subst (λ b. AllByRecursion (IsNamed text) (map (λ (q : Pair). q.entity) (cond b (p ∷ filter test ps) (filter test ps)))) (sym e)
    ((h.0, (bytes_eq-Decides p.entity.occ.text text).0 r.1), all_referred ps text h.1))
    (λ e. subst (λ b. AllByRecursion (IsNamed text) (map (λ (q : Pair). q.entity) (cond b (p ∷ filter test ps) (filter test ps)))) (sym e) (all_referred ps text h.1))

found_in : (P : Name → Type 0) (e : Name) (b : Bool) → P e → AllByRecursion P (found_names (cond b (Found e) Ambiguous))
found_in P e true p = (p, tt)
found_in P e false p = tt

all_found : (P : Name → Type 0) (es : List Name) → AllByRecursion P es → AllByRecursion P (found_names (use_of es))
all_found P [] h = tt
all_found P (e ∷ es) h = found_in P e (list_all (same_entity e) es) h.0

found_length : (u : Use) → length (found_names u) ≤ 1
found_length Missing = omega arith
found_length Ambiguous = omega arith
found_length (Found e) = omega arith

abbrev found_at : List Pair → Word → List Name
found_at pairs f = found_names (use_at pairs f.text)

names_length : (pairs : List Pair) (fs : List Word) → length (flat_map (found_at pairs) fs) ≤ length fs
names_length pairs [] = omega arith
names_length pairs (f ∷ fs) =
    let one : length (found_at pairs f) ≤ 1 = found_length (use_at pairs f.text) in
    let rest : length (flat_map (found_at pairs) fs) ≤ length fs = names_length pairs fs in
    let both : length (found_at pairs f ++ flat_map (found_at pairs) fs) ≡ length (found_at pairs f) + length (flat_map (found_at pairs) fs) = length-append (found_at pairs f) (flat_map (found_at pairs) fs) in
    omega arith

abbrev HasFits : Name → Type 0
HasFits n = (length n.unit.text ≤ 64) × (length n.module.text < 2 ^ 32) × (length n.occ.text ≤ 1048576)

named_fits : (f : List ℕ) → length f ≤ 1048576 → (es : List Name) → AllByRecursion (IsNamed f) es → AllByRecursion HasFits es
named_fits f l [] h = tt
named_fits f l (e ∷ es) h = ((h.0.0.0, h.0.0.1, subst (λ n. n ≤ 1048576) (ap length (sym h.0.1)) l), named_fits f l es h.1)

fields_fit : (pairs : List Pair) (fs : List Word) → AllByRecursion IsShortPair pairs → AllByRecursion (IsShortWord 1048576) fs → AllByRecursion HasFits (flat_map (found_at pairs) fs)
fields_fit pairs [] h l = tt
fields_fit pairs (f ∷ fs) h l =
    all_join HasFits (found_at pairs f) (flat_map (found_at pairs) fs)
    (named_fits f.text l.0 (found_at pairs f) (all_found (IsNamed f.text) (referred pairs f.text) (all_referred pairs f.text h)))
    (fields_fit pairs fs h l.1)

abbrev ItemFits : DataItem → Type 0
ItemFits d = IsShortItem 1048576 d × (length d.fields ≤ 1048576)

items_fit : (ds : List DataItem) → AllByRecursion (IsShortItem 1048576) ds → fields_in ds ≤ 1048576 → AllByRecursion ItemFits ds
items_fit [] h l = tt
items_fit (d ∷ ds) h l =
    let sum : fields_in (d ∷ ds) ≡ length d.fields + fields_in ds = sum_by-cons (λ (d : DataItem). length d.fields) d ds in
    ((h.0, omega arith), items_fit ds h.1 (omega arith))

decl_fits : (pairs : List Pair) (d : DataItem) → ItemFits d → (length d.ty.text ≤ 1048576) × (length d.con.text ≤ 1048576) × (length (flat_map (found_at pairs) d.fields) ≤ 1048576)
decl_fits pairs d h =
    let n : length (flat_map (found_at pairs) d.fields) ≤ length d.fields = names_length pairs d.fields in
    let l : length d.fields ≤ 1048576 = h.1 in
    (h.0.0, h.0.1, omega arith)

length_mapped : {X Y : Type 0} (f : X → Y) (xs : List X) → length (map f xs) ≡ length xs
length_mapped f [] = refl
length_mapped f (x ∷ xs) = ap suc (length_mapped f xs)

names_count : (unit m : List ℕ) (pairs : List Pair) (ds : List DataItem) → length (names_in unit (record { «module» = m; datas = map (resolved pairs) ds })) ≤ 2 * length ds + fields_in ds
names_count unit m pairs [] = omega arith
names_count unit m pairs (d ∷ ds) =
    let fs : List Name = flat_map (found_at pairs) d.fields in
    let rest : List Name = names_in unit (record { «module» = m; datas = map (resolved pairs) ds }) in
    let n : length fs ≤ length d.fields = names_length pairs d.fields in
    let k : length rest ≤ 2 * length ds + fields_in ds = names_count unit m pairs ds in
    let both : length (fs ++ rest) ≡ length fs + length rest = length-append fs rest in
    let sum : fields_in (d ∷ ds) ≡ length d.fields + fields_in ds = sum_by-cons (λ (d : DataItem). length d.fields) d ds in
    let all : length (names_in unit (record { «module» = m; datas = map (resolved pairs) (d ∷ ds) })) ≡ suc (suc (length (fs ++ rest))) = refl in
    omega (arith, sum, all, both, n, k)

fits_content : (unit m : List ℕ) (w : Written) (cs : List Content) → length unit ≤ 64 → length m < 2 ^ 32 → AllByRecursion (λ (c : Content). length c.module < 2 ^ 32) cs → IsSmall 1048576 1048576 w → Fits unit (content_of unit m w cs)
fits_content unit m w cs u v h small =
    let pairs : List Pair = scope unit m w cs in
    let short = all_scope unit m w cs u v h in
    let count : length (map (resolved pairs) w.datas) ≡ length w.datas = length_mapped (resolved pairs) w.datas in
    let few : 2 * length w.datas + fields_in w.datas ≤ 1048576 = small.0 in
    let fit = items_fit w.datas small.1 (omega arith) in
    let names : length (names_in unit (content_of unit m w cs)) ≤ 2 * length w.datas + fields_in w.datas = names_count unit m pairs w.datas in record {
      unit_fits = u;
      module_fits = v;
      count_fits = omega arith;
      types_fit = all_mapped (resolved pairs) ItemFits (λ (d : DataDecl). (length d.ty ≤ 1048576) × (length d.con ≤ 1048576) × (length d.fields ≤ 1048576)) w.datas (λ d l. decl_fits pairs d l) fit;
      names_fit = all_mapped (resolved pairs) ItemFits (λ (d : DataDecl). AllByRecursion HasFits d.fields) w.datas (λ d l. fields_fit pairs d.fields short l.0.2) fit;
      all_fit = omega arith;
    }

-- a module that is checked without diagnostics
pub sound_fits : (unit m : List ℕ) (w : Written) (cs : List Content) (c : Content) → check_of unit m w cs ≡ Sound c → length unit ≤ 64 → length m < 2 ^ 32 → AllByRecursion (λ (c : Content). length c.module < 2 ^ 32) cs → IsSmall 1048576 1048576 w
    → IsSound unit c × Fits unit c × (c.module ≡ m)
sound_fits unit m w cs c e u v h small =
    let s = with_no_diags (content_of unit m w cs) c (scope_diags unit m w cs) e in
    (subst (IsSound unit) (sym s.1) (sound_content unit m w cs s.0), subst (Fits unit) (sym s.1) (fits_content unit m w cs u v h small), ap (λ (d : Content). d.module) s.1)
