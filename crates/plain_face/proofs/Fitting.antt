-- What fits an interface: its names, its declarations and its counts.
use Rattle.std.proofs.Common.{◌≡◌, ℕ, ◌+◌, ◌*◌, ◌^◌, ◌<◌, ◌≤◌, zero, suc, Bool, true, false, List, [], ◌∷◌, ◌++◌, length, get_or, ◌/◌, ◌%◌, arith, length-append, append_assoc}
use Rattle.std.specs.Prelude.{nat_lt, if◌then◌else◌}
use Rattle.std.specs.List.{All, AllByRecursion, flat_map}
use Rattle.std.specs.List.Sorted.{IsPermutation}
use Rattle.std.proofs.lemmas.List.Elements.{All-from_recursion, All-contains, Contains-get_or}
use Rattle.std.proofs.lemmas.List.Sorted.{All-permutation, length_permutation}
use Rattle.mk_base.specs.declared.name.Name.{Name}
use Rattle.mk_base.specs.declared.name.Space.TheVariants.{Con, Ty}
use Rattle.plain_scope.specs.declared.scope.DataDecl.{DataDecl}
use Rattle.plain_scope.specs.declared.scope.Content.{Content}
use Rattle.plain_scope.specs.Scope.{entity}
use Rattle.wire.specs.Wire.{num, num_from}
use Rattle.plain_scope.specs.Offered.{Fits, names_in}
use Rattle.plain_face.specs.Interface.{IsTable, exports_in, field_bytes, blob, place}
use Rattle.plain_face.specs.Sizes.{NameFits, DeclFits}
use Rattle.plain_face.proofs.Names.{Export, exported}

-- ---- numbers and blobs

either_len : (b : Bool) (more n x : ℕ) (xs : List ℕ) → length xs ≤ more + 1 → length (if b then n ∷ [] else x ∷ xs) ≤ suc more + 1
either_len true more n x xs h = omega arith
either_len false more n x xs h = omega arith

num_from_len : (more n : ℕ) → length (num_from more n) ≤ more + 1
num_from_len zero n = omega arith
num_from_len (suc more) n = either_len (nat_lt n 128) more n (n % 128 + 128) (num_from more (n / 128)) (num_from_len more (n / 128))

num_len : (n : ℕ) → length (num n) ≤ 5
num_len n = num_from_len 4 n

more_fields : (a b : List ℕ) (n : ℕ) → length a ≤ 5 → length b ≤ 9 * n → length ((0 ∷ 0 ∷ 0 ∷ 1 ∷ a) ++ b) ≤ 9 * suc n
more_fields a b n h g = omega (arith, length-append a b)

fields_len : (names fs : List Name) → length (flat_map (field_bytes names) fs) ≤ 9 * length fs
fields_len names [] = omega arith
fields_len names (f ∷ fs) = more_fields (num (place names f)) (flat_map (field_bytes names) fs) (length fs) (num_len (place names f)) (fields_len names fs)

blob_len : (a b c d : List ℕ) → length a ≤ 5 → length b ≤ 1048576 → length c ≤ 5 → length d ≤ 9437184 → length (0 ∷ 1 ∷ 0 ∷ 1 ∷ ((a ++ b) ++ (0 ∷ (c ++ d)))) < 2 ^ 32
blob_len a b c d h i j k = omega (arith, length-append a b, length-append (a ++ b) (0 ∷ (c ++ d)), length-append c d)

pub blob_short : (names : List Name) (d : DataDecl) → DeclFits d → length (blob names d) < 2 ^ 32
blob_short names d f = blob_len (num (length d.con)) d.con (num (length d.fields)) (flat_map (field_bytes names) d.fields)
    (num_len (length d.con)) f.1 (num_len (length d.fields)) (let l = fields_len names d.fields in let g = f.2 in omega arith)

-- ---- the names and the declarations

all_append : {X : Type 0} (P : X → Type 0) (xs ys : List X) → AllByRecursion P xs → AllByRecursion P ys → AllByRecursion P (xs ++ ys)
all_append P [] ys h g = g
all_append P (x ∷ xs) ys h g = (h.0, all_append P xs ys h.1 g)

spoken_fit : (unit m : List ℕ) → length unit ≤ 64 → length m < 2 ^ 32 → (ds : List DataDecl) → AllByRecursion DeclFits ds → AllByRecursion (λ (d : DataDecl). AllByRecursion NameFits d.fields) ds
    → AllByRecursion NameFits (flat_map (λ (d : DataDecl). entity unit m Ty d.ty ∷ entity unit m Con d.con ∷ d.fields) ds)
spoken_fit unit m u v [] h g = tt
spoken_fit unit m u v (d ∷ ds) h g = ((u, v, h.0.0), ((u, v, h.0.1), all_append NameFits d.fields _ g.0 (spoken_fit unit m u v ds h.1 g.1)))

pub table_fits : (unit : List ℕ) (c : Content) (names : List Name) → Fits unit c → IsTable unit c names → All NameFits names
table_fits unit c names f t = λ k d l. All-contains NameFits (names_in unit c) (get_or names k d)
    (All-from_recursion NameFits (names_in unit c) (spoken_fit unit c.module f.unit_fits f.module_fits c.datas f.types_fit f.names_fit))
    ((t.whole (get_or names k d)).0 (Contains-get_or names k d l))

pub decls_fit : (unit : List ℕ) (c : Content) (decls : List DataDecl) → Fits unit c → IsPermutation c.datas decls → All DeclFits decls
decls_fit unit c decls f p = All-permutation DeclFits c.datas decls p (All-from_recursion DeclFits c.datas f.types_fit)

pub decls_few : (unit : List ℕ) (c : Content) (decls : List DataDecl) → Fits unit c → IsPermutation c.datas decls → length decls ≤ 1048576
decls_few unit c decls f p = let e = length_permutation c.datas decls p in let g = f.count_fits in omega arith

exported_len : (unit m : List ℕ) (ds : List DataDecl) → length (exported unit m ds) ≡ 2 * length ds
exported_len unit m [] = omega arith
exported_len unit m (d ∷ ds) = let e = exported_len unit m ds in omega arith

pub exports_few : (unit : List ℕ) (c : Content) (exports : List Export) → Fits unit c → IsPermutation (exports_in unit c) exports → length exports ≤ 2097152
exports_few unit c exports f p =
    let e : length exports ≡ length (exported unit c.module c.datas) = length_permutation (exports_in unit c) exports p in
    let g = exported_len unit c.module c.datas in
    let h = f.count_fits in
    omega arith

-- ---- the whole

pub spelled_by : (o p q a b rest : List ℕ) → q ≡ p ++ rest → p ≡ o ++ 72 ∷ 83 ∷ 70 ∷ 73 ∷ 0 ∷ (a ++ (b ++ 0 ∷ [])) → o ≡ []
    → q ≡ 72 ∷ 83 ∷ 70 ∷ 73 ∷ 0 ∷ (a ++ (b ++ (0 ∷ rest)))
spelled_by o p q a b rest e f g = rw (e, f, g) (simp append_assoc)
