-- Going over a declaration is reading it: the same bytes are refused, and what is kept is what the declaration has.
use Rattle.std.proofs.Common.{◌≡◌, ℕ, zero, suc, ◌+◌, ◌<◌, Bool, true, false, List, [], ◌∷◌, ◌++◌, length, map, Option, Some, None, refl, sym, ap, subst, ◌∙◌, append_assoc, arith, inl, inr}
use Rattle.std.specs.Prelude.{nat_eq, nat_lt, cond, ◌⊎◌}
use Rattle.std.specs.List.{flat_map}
use Rattle.std.proofs.lemmas.List.{append-nil, map-append}
use Rattle.std.proofs.lemmas.List.Concat.{flat_map-cons}
use Rattle.mk_base.specs.declared.name.Name.{Name}
use Rattle.mk_base.specs.declared.name.Occ.{Occ}
use Rattle.mk_base.specs.declared.name.Space.TheVariants as spaces
use Rattle.mk_base.specs.declared.kind.Kind.{Kind}
use Rattle.mk_base.specs.declared.kind.Kind.TheVariants as kinds
use Rattle.mk_base.specs.declared.ty.Ty.{Ty}
use Rattle.mk_base.specs.declared.ty.Ty.TheVariants as types
use Rattle.face_model.specs.declared.scheme.Constraint.{Constraint}
use Rattle.face_model.specs.declared.scheme.Scheme.{Scheme}
use Rattle.face_model.specs.declared.decl.Field.{Field}
use Rattle.face_model.specs.declared.decl.Constr.{Constr}
use Rattle.face_model.specs.declared.decl.Method.{Method}
use Rattle.face_model.specs.declared.decl.Body.{Body}
use Rattle.face_model.specs.declared.decl.Body.TheVariants.{Value, Alg, Synonym, Class, Abstract}
use Rattle.face_model.specs.declared.decl.Decl.{Decl}
use Rattle.wire.specs.Reading.{◌>>=◌, byte_at, num_at, text_at, times, list_at}
use Rattle.wire.proofs.Codes.{bind_some, some_is, untested}
use Rattle.decl_codec.specs.declared.going.Seen.{Seen}
use Rattle.decl_codec.specs.Names.{name_of, names_at}
use Rattle.decl_codec.specs.Blobs.{kind_nodes, kind_nodes_step, nodes_of, nodes_step, ty_names, ty_names_step, constraint_names, scheme_names, field_names, constr_names, method_names, body_names, field_occs, constr_occs, method_occs, body_occs, label_occs}
use Rattle.decl_codec.specs.Reading.{below_at, name_at, flag_at, fix_at, kind_tagged, kind_layer, kind_tree_at, kind_at, ty_tagged, ty_layer, ty_tree_at, ty_at, constraint_at, scheme_at, field_at, constr_at, method_at, value_at, alg_at, synonym_at, class_at, abstract_at, body_tagged, body_at, decl_at}
use Rattle.decl_codec.specs.Going.{Went, with_place, with_occs, go_times, go_list, go_kind_tagged, go_kind_tree, go_kind, go_kind_times, go_kinds, go_abstract, go_name, go_ty_tagged, go_ty_tree, go_ty, go_constraint, go_scheme, go_field, go_constr, go_method, go_alg, go_synonym, go_class, go_tagged, go_decl}
use Rattle.decl_codec.proofs.Trees.{fold_star, fold_arrow, fold_var, fold_con, fold_app}
use Rattle.decl_codec.proofs.Blobs.{paired, duo, made_of_two}

abbrev Names : Type 0
Names = List Name

abbrev Occs : Type 0
Occs = List Occ

-- ---- kinds: the same bytes, and the number of nodes

-- what a reading gives, by its size alone
abbrev sized : {A : Type 0} → (A → ℕ) → Option (A × List ℕ) → Option (ℕ × List ℕ)
sized size None = None
sized size (Some x) = paired (size x.0) x.1

second : (f : Kind) (o : Option (Kind × List ℕ)) → (sized kind_nodes o >>= λ x. paired (kind_nodes f + x.0 + 1) x.1) ≡ sized kind_nodes (o >>= λ x. paired (kinds.Arrow f x.0) x.1)
second f None = refl
second f (Some x) = ap (λ n. paired n x.1) (sym (fold_arrow ℕ kind_nodes_step f x.0))

two_kinds : (levels : ℕ) → ((bytes : List ℕ) → go_kind_tree levels bytes ≡ sized kind_nodes (kind_tree_at levels bytes)) → (o : Option (Kind × List ℕ))
    → (sized kind_nodes o >>= λ f. go_kind_tree levels f.1 >>= λ x. paired (f.0 + x.0 + 1) x.1) ≡ sized kind_nodes (o >>= λ f. kind_tree_at levels f.1 >>= λ x. paired (kinds.Arrow f.0 x.0) x.1)
two_kinds levels same None = refl
two_kinds levels same (Some f) = ap (λ o. o >>= λ x. paired (kind_nodes f.0 + x.0 + 1) x.1) (same f.1) ∙ second f.0 (kind_tree_at levels f.1)

kind_tests : (levels : ℕ) → ((bytes : List ℕ) → go_kind_tree levels bytes ≡ sized kind_nodes (kind_tree_at levels bytes)) → (a b : Bool) (rest : List ℕ)
    → cond a (paired 1 rest) (cond b (go_kind_tree levels rest >>= λ f. go_kind_tree levels f.1 >>= λ x. paired (f.0 + x.0 + 1) x.1) None)
    ≡ sized kind_nodes (cond a (paired kinds.Star rest) (cond b (kind_tree_at levels rest >>= λ f. kind_tree_at levels f.1 >>= λ x. paired (kinds.Arrow f.0 x.0) x.1) None))
kind_tests levels same true b rest = ap (λ n. paired n rest) (sym (fold_star ℕ kind_nodes_step))
kind_tests levels same false true rest = ap (λ o. o >>= λ f. go_kind_tree levels f.1 >>= λ x. paired (f.0 + x.0 + 1) x.1) (same rest) ∙ two_kinds levels same (kind_tree_at levels rest)
kind_tests levels same false false rest = refl

kind_behind : (levels : ℕ) → ((bytes : List ℕ) → go_kind_tree levels bytes ≡ sized kind_nodes (kind_tree_at levels bytes)) → (o : Option (ℕ × List ℕ))
    → (o >>= go_kind_tagged (go_kind_tree levels)) ≡ sized kind_nodes (o >>= kind_tagged (kind_tree_at levels))
unfolding go_kind_tagged kind_tagged
kind_behind levels same None = refl
kind_behind levels same (Some tag) = kind_tests levels same (nat_eq tag.0 0) (nat_eq tag.0 1) tag.1

kind_trees : (levels : ℕ) (bytes : List ℕ) → go_kind_tree levels bytes ≡ sized kind_nodes (kind_tree_at levels bytes)
unfolding go_kind_tree kind_tree_at kind_layer
kind_trees zero bytes = refl
kind_trees (suc levels) bytes = kind_behind levels (kind_trees levels) (byte_at bytes)

-- the bytes behind what is read
abbrev rest_of : {A : Type 0} → Option (A × List ℕ) → Option (List ℕ)
rest_of None = None
rest_of (Some x) = Some x.1

tests : {A : Type 0} (b : Bool) (x : A × List ℕ) → cond b None (Some x.1) ≡ rest_of (cond b None (Some x))
tests true x = refl
tests false x = refl

within : (o : Option (Kind × List ℕ)) → (sized kind_nodes o >>= λ k. cond (nat_lt 65536 k.0) None (Some k.1)) ≡ rest_of (o >>= λ k. cond (nat_lt 65536 (kind_nodes k.0)) None (Some k))
within None = refl
within (Some k) = tests (nat_lt 65536 (kind_nodes k.0)) k

kind_gone : (bytes : List ℕ) → go_kind bytes ≡ rest_of (kind_at bytes)
unfolding go_kind kind_at
kind_gone bytes = ap (λ o. o >>= λ k. cond (nat_lt 65536 k.0) None (Some k.1)) (kind_trees 1000 bytes) ∙ within (kind_tree_at 1000 bytes)

kept : {A : Type 0} (a : A) (o : Option (List A × List ℕ)) → rest_of o ≡ rest_of (o >>= λ xs. paired (a ∷ xs.0) xs.1)
kept a None = refl
kept a (Some xs) = refl

kinds_behind : (n : ℕ) → ((bytes : List ℕ) → go_kind_times n bytes ≡ rest_of (times kind_at n bytes)) → (o : Option (Kind × List ℕ))
    → (rest_of o >>= go_kind_times n) ≡ rest_of (o >>= λ k. times kind_at n k.1 >>= λ ks. paired (k.0 ∷ ks.0) ks.1)
kinds_behind n same None = refl
kinds_behind n same (Some k) = same k.1 ∙ kept k.0 (times kind_at n k.1)

kind_times : (n : ℕ) (bytes : List ℕ) → go_kind_times n bytes ≡ rest_of (times kind_at n bytes)
unfolding go_kind_times times
kind_times zero bytes = refl
kind_times (suc n) bytes = ap (λ o. o >>= go_kind_times n) (kind_gone bytes) ∙ kinds_behind n (kind_times n) (kind_at bytes)

-- so many are read as many
times_count : {A : Type 0} (read : List ℕ → Option (A × List ℕ)) (n : ℕ) (bytes : List ℕ) (x : List A × List ℕ) → times read n bytes ≡ Some x → length x.0 ≡ n
unfolding times
times_count {A = A} read zero bytes x e = ap (λ (y : List A × List ℕ). length y.0) (sym (some_is ([], bytes) x e))
times_count {A = A} read (suc n) bytes x e =
    let a = bind_some (read bytes) (λ y. times read n y.1 >>= λ ys. Some (y.0 ∷ ys.0, ys.1)) x e in
    let b = bind_some (times read n a.0.1) (λ ys. Some (a.0.0 ∷ ys.0, ys.1)) x a.2 in
    ap (λ (y : List A × List ℕ). length y.0) (sym (some_is (a.0.0 ∷ b.0.0, b.0.1) x b.2)) ∙ ap suc (times_count read n a.0.1 b.0 b.1)

counted : (n : ℕ) (o : Option (List Kind × List ℕ)) → ((x : List Kind × List ℕ) → o ≡ Some x → length x.0 ≡ n) → (rest_of o >>= λ r. paired n r) ≡ sized (λ (ks : List Kind). length ks) o
counted n None h = refl
counted n (Some x) h = ap (λ k. paired k x.1) (sym (h x refl))

kinds_at : (o : Option (ℕ × List ℕ)) → (o >>= λ n. go_kind_times n.0 n.1 >>= λ r. paired n.0 r) ≡ sized (λ (ks : List Kind). length ks) (o >>= λ n. times kind_at n.0 n.1)
kinds_at None = refl
kinds_at (Some n) = ap (λ o. o >>= λ r. paired n.0 r) (kind_times n.0 n.1) ∙ counted n.0 (times kind_at n.0 n.1) (times_count kind_at n.0 n.1)

-- how many kinds, and the bytes behind them
kinds_gone : (bytes : List ℕ) → go_kinds bytes ≡ sized (λ (ks : List Kind). length ks) (list_at kind_at bytes)
unfolding go_kinds list_at
kinds_gone bytes = kinds_at (num_at bytes)

-- ---- what gave nothing

map_none : {A B : Type 0} (o : Option A) (f : A → B) → (o >>= λ a. Some (f a)) ≡ None → o ≡ None
map_none None f e = refl
map_none (Some a) f e = absurd (let h : ⊥ = cc in h)

bind_none : {A B : Type 0} (o : Option A) (f : A → Option B) → (o >>= f) ≡ None → (o ≡ None) ⊎ ((a : A) × (o ≡ Some a) × (f a ≡ None))
bind_none None f e = inl refl
bind_none (Some a) f e = inr (a, refl, e)

sized_some : {A : Type 0} (size : A → ℕ) (g : Option (ℕ × List ℕ)) (o : Option (A × List ℕ)) (x : A × List ℕ) → g ≡ sized size o → o ≡ Some x → g ≡ paired (size x.0) x.1
sized_some size g o x e h = e ∙ ap (sized size) h

sized_none : {A : Type 0} (size : A → ℕ) (g : Option (ℕ × List ℕ)) (o : Option (A × List ℕ)) → g ≡ sized size o → o ≡ None → g ≡ None
sized_none size g o e h = e ∙ ap (sized size) h

abbrev nothing_of : (B : Type 0) → List B
nothing_of B = []

nothing_flat : {A B : Type 0} (xs : List A) → flat_map (λ (x : A). nothing_of B) xs ≡ []
nothing_flat [] = refl
nothing_flat {A} {B} (x ∷ xs) = flat_map-cons (λ (x : A). nothing_of B) x xs ∙ nothing_flat xs

single_flat : {A : Type 0} (xs : List A) → flat_map (λ (x : A). x ∷ []) xs ≡ xs
single_flat [] = refl
single_flat {A} (x ∷ xs) = flat_map-cons (λ (x : A). x ∷ []) x xs ∙ ap (λ (ys : List A). x ∷ ys) (single_flat xs)

-- where a test gave nothing
over_none : {A B : Type 0} (b : Bool) (x : A) (y : Option B) → cond b None (Some x) ≡ None → cond b None y ≡ None
over_none true x y e = refl
over_none false x y e = absurd (let h : ⊥ = cc in h)

-- ---- over a table

module _ (table : List Name) where
  abbrev Told : Type 0
  Told = Names × Occs

  abbrev pub tell : Seen → Told
  tell s = (names_at table s.places, s.occs)

  abbrev pub more : Told → Names → Occs → Told
  more t ns os = (t.0 ++ ns, t.1 ++ os)

  more_more : (t : Told) (ns ms : Names) (os ps : Occs) → more (more t ns os) ms ps ≡ more t (ns ++ ms) (os ++ ps)
  more_more t ns ms os ps = λ j. (append_assoc t.0 ns ms j, append_assoc t.1 os ps j)

  more_nothing : (t : Told) → t ≡ more t [] []
  more_nothing t = λ j. (sym (append-nil t.0) j, sym (append-nil t.1) j)

  -- what is read is gone over, with its names and what belongs to it kept; where nothing is read nothing is gone over
  pub record IsGone {A : Type 0} (names_of : A → Names) (occs_of : A → Occs) (read : List ℕ → Option (A × List ℕ)) (go : Seen → List ℕ → Went) : Type 0 where
    pub some : (seen : Seen) (bytes : List ℕ) (x : A × List ℕ) → read bytes ≡ Some x → (s : Seen) × (go seen bytes ≡ Some (s, x.1)) × (tell s ≡ more (tell seen) (names_of x.0) (occs_of x.0))
    pub none : (seen : Seen) (bytes : List ℕ) → read bytes ≡ None → go seen bytes ≡ None

  -- what is made of what is read
  mapped : {A B : Type 0} {names_of : A → Names} {occs_of : A → Occs} {read : List ℕ → Option (A × List ℕ)} {go : Seen → List ℕ → Went} (names_in : B → Names) (occs_in : B → Occs) (made : A → B)
      → ((a : A) → names_of a ≡ names_in (made a)) → ((a : A) → occs_of a ≡ occs_in (made a)) → IsGone names_of occs_of read go
      → IsGone names_in occs_in (λ bytes. read bytes >>= λ a. paired (made a.0) a.1) go
  mapped {A = A} {B = B} {names_of = names_of} {occs_of = occs_of} {read = read} {go = go} names_in occs_in made same also gone = record {
    some = λ seen bytes x e.
        let s = bind_some (read bytes) (λ a. paired (made a.0) a.1) x e in
        let g = gone.some seen bytes s.0 s.1 in
        let is : (made s.0.0, s.0.1) ≡ x = some_is (made s.0.0, s.0.1) x s.2 in
        subst (λ (x : B × List ℕ). (s : Seen) × (go seen bytes ≡ Some (s, x.1)) × (tell s ≡ more (tell seen) (names_in x.0) (occs_in x.0))) is
        (g.0, g.1, g.2 ∙ ap (λ ns. more (tell seen) ns (occs_of s.0.0)) (same s.0.0) ∙ ap (λ os. more (tell seen) (names_in (made s.0.0)) os) (also s.0.0));
    none = λ seen bytes e. gone.none seen bytes (map_none (read bytes) (λ a. (made a.0, a.1)) e);
  }

  -- one behind another
  then_gone : {A B : Type 0} {n : A → Names} {o : A → Occs} {r : List ℕ → Option (A × List ℕ)} {g : Seen → List ℕ → Went} {m : B → Names} {p : B → Occs} {q : A → List ℕ → Option (B × List ℕ)} {h : Seen → List ℕ → Went}
      → IsGone n o r g → ((a : A) → IsGone m p (q a) h)
      → IsGone (λ (x : A × B). n x.0 ++ m x.1) (λ x. o x.0 ++ p x.1) (λ bytes. r bytes >>= λ a. q a.0 a.1 >>= λ b. paired (duo a.0 b.0) b.1) (λ seen bytes. g seen bytes >>= λ s. h s.0 s.1)
  then_gone {A = A} {B = B} {n = n} {o = o} {r = r} {g = g} {m = m} {p = p} {q = q} {h = h} one two = record {
    some = λ seen bytes x e.
        let a = bind_some (r bytes) (λ a. q a.0 a.1 >>= λ b. paired (duo a.0 b.0) b.1) x e in
        let b = bind_some (q a.0.0 a.0.1) (λ b. paired (duo a.0.0 b.0) b.1) x a.2 in
        let f = one.some seen bytes a.0 a.1 in
        let k = (two a.0.0).some f.0 a.0.1 b.0 b.1 in
        let is : (duo a.0.0 b.0.0, b.0.1) ≡ x = some_is (duo a.0.0 b.0.0, b.0.1) x b.2 in
        subst (λ (x : (A × B) × List ℕ). (s : Seen) × ((g seen bytes >>= λ s. h s.0 s.1) ≡ Some (s, x.1)) × (tell s ≡ more (tell seen) (n x.0.0 ++ m x.0.1) (o x.0.0 ++ p x.0.1))) is
        (k.0, ap (λ w. w >>= λ s. h s.0 s.1) f.1 ∙ k.1, k.2 ∙ ap (λ t. more t (m b.0.0) (p b.0.0)) f.2 ∙ more_more (tell seen) (n a.0.0) (m b.0.0) (o a.0.0) (p b.0.0));
    none = λ seen bytes e.
        elim (bind_none (r bytes) (λ a. q a.0 a.1 >>= λ b. paired (duo a.0 b.0) b.1) e) [
          | inl k ↦ ap (λ w. w >>= λ s. h s.0 s.1) (one.none seen bytes k)
          | inr k ↦
              let f = one.some seen bytes k.0 k.1 in
              ap (λ w. w >>= λ s. h s.0 s.1) f.1 ∙ (two k.0.0).none f.0 k.0.1 (map_none (q k.0.0 k.0.1) (λ b. (duo k.0.0 b.0, b.1)) k.2)
        ];
  }

  -- behind what both read
  shared : {X A : Type 0} {n : A → Names} {o : A → Occs} (first : List ℕ → Option (X × List ℕ)) {r : X → List ℕ → Option (A × List ℕ)} {g : X → Seen → List ℕ → Went}
      → ((x : X) → IsGone n o (r x) (g x)) → IsGone n o (λ bytes. first bytes >>= λ x. r x.0 x.1) (λ seen bytes. first bytes >>= λ x. g x.0 seen x.1)
  shared {X = X} {A = A} first {r = r} {g = g} others = record {
    some = λ seen bytes y e.
        let s = bind_some (first bytes) (λ x. r x.0 x.1) y e in
        let k = (others s.0.0).some seen s.0.1 y s.2 in
        (k.0, ap (λ w. w >>= λ x. g x.0 seen x.1) s.1 ∙ k.1, k.2);
    none = λ seen bytes e.
        elim (bind_none (first bytes) (λ x. r x.0 x.1) e) [
          | inl k ↦ ap (λ w. w >>= λ x. g x.0 seen x.1) k
          | inr k ↦ ap (λ w. w >>= λ x. g x.0 seen x.1) k.1 ∙ (others k.0.0).none seen k.0.1 k.2
        ];
  }

  -- with some kept first
  kept_first : {A : Type 0} {n : A → Names} {o : A → Occs} {r : List ℕ → Option (A × List ℕ)} {g : Seen → List ℕ → Went} (os : Occs)
      → IsGone n o r g → IsGone n (λ a. os ++ o a) r (λ seen bytes. g (with_occs seen os) bytes)
  kept_first {n = n} {o = o} os gone = record {
    some = λ seen bytes x e.
        let k = gone.some (with_occs seen os) bytes x e in
        (k.0, k.1, k.2 ∙ (λ j. (names_at table seen.places ++ n x.0, append_assoc seen.occs os (o x.0) j)));
    none = λ seen bytes e. gone.none (with_occs seen os) bytes e;
  }

  -- one of two
  either_gone : {A : Type 0} {n : A → Names} {o : A → Occs} {r s : List ℕ → Option (A × List ℕ)} {g h : Seen → List ℕ → Went} (b : Bool)
      → IsGone n o r g → IsGone n o s h → IsGone n o (λ bytes. cond b (r bytes) (s bytes)) (λ seen bytes. cond b (g seen bytes) (h seen bytes))
  either_gone true one two = one
  either_gone false one two = two

  nothing_gone : {A : Type 0} {n : A → Names} {o : A → Occs} → IsGone n o (λ bytes. None) (λ seen bytes. None)
  nothing_gone = record { some = λ seen bytes x e. absurd (let h : ⊥ = cc in h); none = λ seen bytes e. refl }

  -- so many
  times_gone : {A : Type 0} {n : A → Names} {o : A → Occs} {r : List ℕ → Option (A × List ℕ)} {g : Seen → List ℕ → Went} → IsGone n o r g
      → (k : ℕ) → IsGone (flat_map n) (flat_map o) (times r k) (go_times g k)
  unfolding times go_times
  times_gone {A = A} {n = n} {o = o} {r = r} {g = g} gone zero = record {
    some = λ seen bytes x e.
        let is : ([], bytes) ≡ x = some_is ([], bytes) x e in
        subst (λ (x : List A × List ℕ). (s : Seen) × (paired seen bytes ≡ paired s x.1) × (tell s ≡ more (tell seen) (flat_map n x.0) (flat_map o x.0))) is (seen, refl, more_nothing (tell seen));
    none = λ seen bytes e. absurd (let h : ⊥ = cc in h);
  }
  times_gone {A = A} {n = n} {o = o} {r = r} {g = g} gone (suc k) = record {
    some = λ seen bytes x e.
        let a = bind_some (r bytes) (λ y. times r k y.1 >>= λ ys. Some (y.0 ∷ ys.0, ys.1)) x e in
        let b = bind_some (times r k a.0.1) (λ ys. Some (a.0.0 ∷ ys.0, ys.1)) x a.2 in
        let f = gone.some seen bytes a.0 a.1 in
        let m = (times_gone gone k).some f.0 a.0.1 b.0 b.1 in
        let is : (a.0.0 ∷ b.0.0, b.0.1) ≡ x = some_is (a.0.0 ∷ b.0.0, b.0.1) x b.2 in
        let told : tell m.0 ≡ more (tell seen) (flat_map n (a.0.0 ∷ b.0.0)) (flat_map o (a.0.0 ∷ b.0.0)) =
        m.2 ∙ ap (λ t. more t (flat_map n b.0.0) (flat_map o b.0.0)) f.2 ∙ more_more (tell seen) (n a.0.0) (flat_map n b.0.0) (o a.0.0) (flat_map o b.0.0)
        ∙ (λ j. (names_at table seen.places ++ sym (flat_map-cons n a.0.0 b.0.0) j, seen.occs ++ sym (flat_map-cons o a.0.0 b.0.0) j)) in
        subst (λ (x : List A × List ℕ). (s : Seen) × ((g seen bytes >>= λ s. go_times g k s.0 s.1) ≡ Some (s, x.1)) × (tell s ≡ more (tell seen) (flat_map n x.0) (flat_map o x.0))) is
        (m.0, ap (λ w. w >>= λ s. go_times g k s.0 s.1) f.1 ∙ m.1, told);
    none = λ seen bytes e.
        elim (bind_none (r bytes) (λ y. times r k y.1 >>= λ ys. Some (y.0 ∷ ys.0, ys.1)) e) [
          | inl h ↦ ap (λ w. w >>= λ s. go_times g k s.0 s.1) (gone.none seen bytes h)
          | inr h ↦
              let f = gone.some seen bytes h.0 h.1 in
              ap (λ w. w >>= λ s. go_times g k s.0 s.1) f.1 ∙ (times_gone gone k).none f.0 h.0.1 (map_none (times r k h.0.1) (λ ys. (h.0.0 ∷ ys.0, ys.1)) h.2)
        ];
  }

  list_gone : {A : Type 0} {n : A → Names} {o : A → Occs} {r : List ℕ → Option (A × List ℕ)} {g : Seen → List ℕ → Went} → IsGone n o r g → IsGone (flat_map n) (flat_map o) (list_at r) (go_list g)
  unfolding list_at go_list
  list_gone gone = shared num_at (times_gone gone)

  -- ---- names

  name_gone : IsGone (λ (a : Name). a ∷ []) (λ a. []) (name_at table) (go_name (length table))
  unfolding name_at go_name
  name_gone = record {
    some = λ seen bytes x e.
        let s = bind_some (below_at (length table) bytes) (λ k. paired (name_of table k.0) k.1) x e in
        let is : (name_of table s.0.0, s.0.1) ≡ x = some_is (name_of table s.0.0, s.0.1) x s.2 in
        let told : tell (with_place seen s.0.0) ≡ more (tell seen) (name_of table s.0.0 ∷ []) [] =
        λ j. (map-append (name_of table) seen.places (s.0.0 ∷ []) j, sym (append-nil seen.occs) j) in
        subst (λ (x : Name × List ℕ). (t : Seen) × ((below_at (length table) bytes >>= λ k. paired (with_place seen k.0) k.1) ≡ Some (t, x.1)) × (tell t ≡ more (tell seen) (x.0 ∷ []) [])) is
        (with_place seen s.0.0, ap (λ w. w >>= λ k. paired (with_place seen k.0) k.1) s.1, told);
    none = λ seen bytes e. ap (λ w. w >>= λ k. paired (with_place seen k.0) k.1) (map_none (below_at (length table) bytes) (λ k. (name_of table k.0, k.1)) e);
  }

  -- ---- types, with the number of their nodes

  abbrev Sized : Type 0
  Sized = Option ((Seen × ℕ) × List ℕ)

  pub record IsTree (read : List ℕ → Option (Ty × List ℕ)) (go : Seen → List ℕ → Sized) : Type 0 where
    pub some : (seen : Seen) (bytes : List ℕ) (x : Ty × List ℕ) → read bytes ≡ Some x → (s : Seen) × (go seen bytes ≡ Some ((s, nodes_of x.0), x.1)) × (tell s ≡ more (tell seen) (ty_names x.0) [])
    pub none : (seen : Seen) (bytes : List ℕ) → read bytes ≡ None → go seen bytes ≡ None

  either_tree : {r s : List ℕ → Option (Ty × List ℕ)} {g h : Seen → List ℕ → Sized} (b : Bool) → IsTree r g → IsTree s h → IsTree (λ bytes. cond b (r bytes) (s bytes)) (λ seen bytes. cond b (g seen bytes) (h seen bytes))
  either_tree true one two = one
  either_tree false one two = two

  nothing_tree : IsTree (λ bytes. None) (λ seen bytes. None)
  nothing_tree = record { some = λ seen bytes x e. absurd (let h : ⊥ = cc in h); none = λ seen bytes e. refl }

  shared_tree : {X : Type 0} (first : List ℕ → Option (X × List ℕ)) {r : X → List ℕ → Option (Ty × List ℕ)} {g : X → Seen → List ℕ → Sized}
      → ((x : X) → IsTree (r x) (g x)) → IsTree (λ bytes. first bytes >>= λ x. r x.0 x.1) (λ seen bytes. first bytes >>= λ x. g x.0 seen x.1)
  shared_tree {X = X} first {r = r} {g = g} others = record {
    some = λ seen bytes y e.
        let s = bind_some (first bytes) (λ x. r x.0 x.1) y e in
        let k = (others s.0.0).some seen s.0.1 y s.2 in
        (k.0, ap (λ w. w >>= λ x. g x.0 seen x.1) s.1 ∙ k.1, k.2);
    none = λ seen bytes e.
        elim (bind_none (first bytes) (λ x. r x.0 x.1) e) [
          | inl k ↦ ap (λ w. w >>= λ x. g x.0 seen x.1) k
          | inr k ↦ ap (λ w. w >>= λ x. g x.0 seen x.1) k.1 ∙ (others k.0.0).none seen k.0.1 k.2
        ];
  }

  abbrev counted_as : Seen → ℕ → List ℕ → Sized
  counted_as s n rest = Some ((s, n), rest)

  var_tree : (count : ℕ) → IsTree (λ bytes. below_at count bytes >>= λ n. paired (types.Var n.0) n.1) (λ seen bytes. below_at count bytes >>= λ n. counted_as seen 1 n.1)
  var_tree count = record {
    some = λ seen bytes x e.
        let s = bind_some (below_at count bytes) (λ n. paired (types.Var n.0) n.1) x e in
        let is : (types.Var s.0.0, s.0.1) ≡ x = some_is (types.Var s.0.0, s.0.1) x s.2 in
        subst (λ (x : Ty × List ℕ). (t : Seen) × ((below_at count bytes >>= λ n. counted_as seen 1 n.1) ≡ counted_as t (nodes_of x.0) x.1) × (tell t ≡ more (tell seen) (ty_names x.0) [])) is (
          seen,
          ap (λ w. w >>= λ n. counted_as seen 1 n.1) s.1 ∙ ap (λ n. counted_as seen n s.0.1) (sym (fold_var ℕ nodes_step s.0.0)),
          more_nothing (tell seen) ∙ ap (λ ns. more (tell seen) ns []) (sym (fold_var Names ty_names_step s.0.0)),
        );
    none = λ seen bytes e. ap (λ w. w >>= λ n. counted_as seen 1 n.1) (map_none (below_at count bytes) (λ n. (types.Var n.0, n.1)) e);
  }

  con_tree : IsTree (λ bytes. name_at table bytes >>= λ a. paired (types.Con a.0) a.1) (λ seen bytes. go_name (length table) seen bytes >>= λ a. counted_as a.0 1 a.1)
  con_tree = record {
    some = λ seen bytes x e.
        let s = bind_some (name_at table bytes) (λ a. paired (types.Con a.0) a.1) x e in
        let g = name_gone.some seen bytes s.0 s.1 in
        let is : (types.Con s.0.0, s.0.1) ≡ x = some_is (types.Con s.0.0, s.0.1) x s.2 in
        subst (λ (x : Ty × List ℕ). (t : Seen) × ((go_name (length table) seen bytes >>= λ a. counted_as a.0 1 a.1) ≡ counted_as t (nodes_of x.0) x.1) × (tell t ≡ more (tell seen) (ty_names x.0) [])) is (
          g.0,
          ap (λ w. w >>= λ a. counted_as a.0 1 a.1) g.1 ∙ ap (λ n. counted_as g.0 n s.0.1) (sym (fold_con ℕ nodes_step s.0.0)),
          g.2 ∙ ap (λ ns. more (tell seen) ns []) (sym (fold_con Names ty_names_step s.0.0)),
        );
    none = λ seen bytes e. ap (λ w. w >>= λ a. counted_as a.0 1 a.1) (name_gone.none seen bytes (map_none (name_at table bytes) (λ a. (types.Con a.0, a.1)) e));
  }

  app_tree : {r : List ℕ → Option (Ty × List ℕ)} {g : Seen → List ℕ → Sized} → IsTree r g
      → IsTree (λ bytes. r bytes >>= λ f. r f.1 >>= λ x. paired (types.App f.0 x.0) x.1) (λ seen bytes. g seen bytes >>= λ f. g f.0.0 f.1 >>= λ x. counted_as x.0.0 (f.0.1 + x.0.1 + 1) x.1)
  app_tree {r = r} {g = g} tree = record {
    some = λ seen bytes y e.
        let f = bind_some (r bytes) (λ f. r f.1 >>= λ x. paired (types.App f.0 x.0) x.1) y e in
        let x = bind_some (r f.0.1) (λ x. paired (types.App f.0.0 x.0) x.1) y f.2 in
        let p = tree.some seen bytes f.0 f.1 in
        let q = tree.some p.0 f.0.1 x.0 x.1 in
        let is : (types.App f.0.0 x.0.0, x.0.1) ≡ y = some_is (types.App f.0.0 x.0.0, x.0.1) y x.2 in
        let go : Sized = g seen bytes >>= λ f. g f.0.0 f.1 >>= λ x. counted_as x.0.0 (f.0.1 + x.0.1 + 1) x.1 in
        subst (λ (y : Ty × List ℕ). (t : Seen) × (go ≡ counted_as t (nodes_of y.0) y.1) × (tell t ≡ more (tell seen) (ty_names y.0) [])) is (
          q.0,
          ap (λ w. w >>= λ f. g f.0.0 f.1 >>= λ x. counted_as x.0.0 (f.0.1 + x.0.1 + 1) x.1) p.1 ∙ ap (λ w. w >>= λ x. counted_as x.0.0 (nodes_of f.0.0 + x.0.1 + 1) x.1) q.1
              ∙ ap (λ n. counted_as q.0 n x.0.1) (sym (fold_app ℕ nodes_step f.0.0 x.0.0)),
          q.2 ∙ ap (λ t. more t (ty_names x.0.0) []) p.2 ∙ more_more (tell seen) (ty_names f.0.0) (ty_names x.0.0) [] [] ∙ ap (λ ns. more (tell seen) ns []) (sym (fold_app Names ty_names_step f.0.0 x.0.0)),
        );
    none = λ seen bytes e.
        elim (bind_none (r bytes) (λ f. r f.1 >>= λ x. paired (types.App f.0 x.0) x.1) e) [
          | inl k ↦ ap (λ w. w >>= λ f. g f.0.0 f.1 >>= λ x. counted_as x.0.0 (f.0.1 + x.0.1 + 1) x.1) (tree.none seen bytes k)
          | inr k ↦
              let p = tree.some seen bytes k.0 k.1 in
              ap (λ w. w >>= λ f. g f.0.0 f.1 >>= λ x. counted_as x.0.0 (f.0.1 + x.0.1 + 1) x.1) p.1
              ∙ ap (λ w. w >>= λ x. counted_as x.0.0 (nodes_of k.0.0 + x.0.1 + 1) x.1) (tree.none p.0 k.0.1 (map_none (r k.0.1) (λ x. (types.App k.0.0 x.0, x.1)) k.2))
        ];
  }

  tree_gone : (levels count : ℕ) → IsTree (ty_tree_at (name_at table) levels count) (go_ty_tree (length table) levels count)
  unfolding ty_tree_at ty_layer ty_tagged go_ty_tree go_ty_tagged
  tree_gone zero count = nothing_tree
  tree_gone (suc levels) count =
      shared_tree byte_at (λ tag. either_tree (nat_eq tag 0) (var_tree count) (either_tree (nat_eq tag 1) con_tree (either_tree (nat_eq tag 2) (app_tree (tree_gone levels count)) nothing_tree)))

  ty_gone : (count : ℕ) → IsGone ty_names (λ t. []) (ty_at (name_at table) count) (go_ty (length table) count)
  unfolding ty_at go_ty
  ty_gone count = record {
    some = λ seen bytes x e.
        let s = bind_some (ty_tree_at (name_at table) 1000 count bytes) (λ t. cond (nat_lt 65536 (nodes_of t.0)) None (Some t)) x e in
        let g = (tree_gone 1000 count).some seen bytes s.0 s.1 in
        let u = untested (nat_lt 65536 (nodes_of s.0.0)) s.0 x s.2 in
        subst (λ (x : Ty × List ℕ). (t : Seen) × ((go_ty_tree (length table) 1000 count seen bytes >>= λ t. cond (nat_lt 65536 t.0.1) None (paired t.0.0 t.1)) ≡ Some (t, x.1)) × (tell t ≡ more (tell seen) (ty_names x.0) [])) u.1
        (g.0, ap (λ w. w >>= λ t. cond (nat_lt 65536 t.0.1) None (paired t.0.0 t.1)) g.1 ∙ ap (λ b. cond b None (paired g.0 s.0.1)) u.0, g.2);
    none = λ seen bytes e.
        elim (bind_none (ty_tree_at (name_at table) 1000 count bytes) (λ t. cond (nat_lt 65536 (nodes_of t.0)) None (Some t)) e) [
          | inl k ↦ ap (λ w. w >>= λ t. cond (nat_lt 65536 t.0.1) None (paired t.0.0 t.1)) ((tree_gone 1000 count).none seen bytes k)
          | inr k ↦
              let g = (tree_gone 1000 count).some seen bytes k.0 k.1 in
              ap (λ w. w >>= λ t. cond (nat_lt 65536 t.0.1) None (paired t.0.0 t.1)) g.1 ∙ over_none (nat_lt 65536 (nodes_of k.0.0)) k.0 (paired g.0 k.0.1) k.2
        ];
  }

  -- ---- schemes and bodies

  read_as : {A : Type 0} {n : A → Names} {o : A → Occs} {r s : List ℕ → Option (A × List ℕ)} {g : Seen → List ℕ → Went} → ((bytes : List ℕ) → s bytes ≡ r bytes) → IsGone n o r g → IsGone n o s g
  read_as same gone = record { some = λ seen bytes x e. gone.some seen bytes x (sym (same bytes) ∙ e); none = λ seen bytes e. gone.none seen bytes (sym (same bytes) ∙ e) }

  two : {A B C : Type 0} {n : A → Names} {o : A → Occs} {r : List ℕ → Option (A × List ℕ)} {g : Seen → List ℕ → Went} {m : B → Names} {p : B → Occs} {q : A → List ℕ → Option (B × List ℕ)} {h : Seen → List ℕ → Went}
      (names_in : C → Names) (occs_in : C → Occs) (made : A → B → C) → ((a : A) (b : B) → n a ++ m b ≡ names_in (made a b)) → ((a : A) (b : B) → o a ++ p b ≡ occs_in (made a b))
      → IsGone n o r g → ((a : A) → IsGone m p (q a) h)
      → IsGone names_in occs_in (λ bytes. r bytes >>= λ a. q a.0 a.1 >>= λ b. paired (made a.0 b.0) b.1) (λ seen bytes. g seen bytes >>= λ s. h s.0 s.1)
  two {r = r} {q = q} names_in occs_in made same also one others =
      read_as (λ bytes. made_of_two (r bytes) q made) (mapped names_in occs_in (λ x. made x.0 x.1) (λ x. same x.0 x.1) (λ x. also x.0 x.1) (then_gone one others))

  sized_shared : {X A : Type 0} {n : A → Names} {o : A → Occs} (first : List ℕ → Option (X × List ℕ)) (size : X → ℕ) (f : List ℕ → Option (ℕ × List ℕ)) (g : ℕ → Seen → List ℕ → Went) {r : X → List ℕ → Option (A × List ℕ)}
      → ((bytes : List ℕ) → f bytes ≡ sized size (first bytes)) → ((x : X) → IsGone n o (r x) (g (size x)))
      → IsGone n o (λ bytes. first bytes >>= λ x. r x.0 x.1) (λ seen bytes. f bytes >>= λ k. g k.0 seen k.1)
  sized_shared first size f g {r = r} same others = record {
    some = λ seen bytes y e.
        let s = bind_some (first bytes) (λ x. r x.0 x.1) y e in
        let k = (others s.0.0).some seen s.0.1 y s.2 in
        (k.0, ap (λ w. w >>= λ x. g x.0 seen x.1) (sized_some size (f bytes) (first bytes) s.0 (same bytes) s.1) ∙ k.1, k.2);
    none = λ seen bytes e.
        elim (bind_none (first bytes) (λ x. r x.0 x.1) e) [
          | inl k ↦ ap (λ w. w >>= λ x. g x.0 seen x.1) (sized_none size (f bytes) (first bytes) (same bytes) k)
          | inr k ↦ ap (λ w. w >>= λ x. g x.0 seen x.1) (sized_some size (f bytes) (first bytes) k.0 (same bytes) k.1) ∙ (others k.0.0).none seen k.0.1 k.2
        ];
  }

  rest_shared : {X A : Type 0} {n : A → Names} {o : A → Occs} (first : List ℕ → Option (X × List ℕ)) (f : List ℕ → Option (List ℕ)) {r : X → List ℕ → Option (A × List ℕ)} {g : Seen → List ℕ → Went}
      → ((bytes : List ℕ) → f bytes ≡ rest_of (first bytes)) → ((x : X) → IsGone n o (r x) g)
      → IsGone n o (λ bytes. first bytes >>= λ x. r x.0 x.1) (λ seen bytes. f bytes >>= λ rest. g seen rest)
  rest_shared first f {r = r} {g = g} same others = record {
    some = λ seen bytes y e.
        let s = bind_some (first bytes) (λ x. r x.0 x.1) y e in
        let k = (others s.0.0).some seen s.0.1 y s.2 in
        (k.0, ap (λ w. w >>= λ rest. g seen rest) (same bytes ∙ ap rest_of s.1) ∙ k.1, k.2);
    none = λ seen bytes e.
        elim (bind_none (first bytes) (λ x. r x.0 x.1) e) [
          | inl k ↦ ap (λ w. w >>= λ rest. g seen rest) (same bytes ∙ ap rest_of k)
          | inr k ↦ ap (λ w. w >>= λ rest. g seen rest) (same bytes ∙ ap rest_of k.1) ∙ (others k.0.0).none seen k.0.1 k.2
        ];
  }

  no_occs : {A : Type 0} → A → Occs
  no_occs a = []

  constraint_gone : (count : ℕ) → IsGone constraint_names (λ c. []) (constraint_at (name_at table) count) (go_constraint (length table) count)
  unfolding constraint_at go_constraint
  constraint_gone count = two constraint_names (λ c. []) (λ c t. record { class = c; ty = t }) (λ c t. refl) (λ c t. refl) name_gone (λ c. ty_gone count)

  scheme_gone : IsGone scheme_names (λ s. []) (scheme_at (name_at table)) (go_scheme (length table))
  unfolding scheme_at go_scheme
  scheme_gone =
      shared num_at (λ v. two scheme_names (λ s. []) (λ x t. record { vars = v; context = x; body = t }) (λ x t. refl) (λ x t. ap (λ (os : Occs). os ++ []) (nothing_flat x)) (list_gone (constraint_gone v)) (λ x. ty_gone v))

  field_gone : (count : ℕ) → IsGone field_names field_occs (field_at (name_at table) count) (go_field (length table) count)
  unfolding field_at go_field
  field_gone count =
      shared text_at (λ l. shared fix_at (λ f. shared flag_at (λ s.
      mapped field_names field_occs (λ t. record { label = l; fixity = f; strict = s; ty = t }) (λ t. refl) (λ t. append-nil (label_occs l)) (kept_first (label_occs l) (ty_gone count)))))

  constr_gone : (count : ℕ) → IsGone constr_names constr_occs (constr_at (name_at table) count) (go_constr (length table) count)
  unfolding constr_at go_constr
  constr_gone count =
      shared text_at (λ o. shared fix_at (λ f.
      mapped constr_names constr_occs (λ fs. record { occ = o; fixity = f; fields = fs }) (λ fs. refl) (λ fs. refl) (kept_first (record { space = spaces.Con; text = o } ∷ []) (list_gone (field_gone count)))))

  method_gone : IsGone method_names method_occs (method_at (name_at table)) (go_method (length table))
  unfolding method_at go_method
  method_gone =
      shared text_at (λ o. shared fix_at (λ f.
      mapped method_names method_occs (λ s. record { occ = o; fixity = f; scheme = s }) (λ s. refl) (λ s. refl) (kept_first (record { space = spaces.Var; text = o } ∷ []) scheme_gone)))

  value_gone : IsGone body_names body_occs (value_at (name_at table)) (go_scheme (length table))
  unfolding value_at
  value_gone = mapped body_names body_occs (λ s. Value s) (λ s. refl) (λ s. refl) scheme_gone

  alg_gone : (renamed : Bool) → IsGone body_names body_occs (alg_at (name_at table) renamed) (go_alg (length table))
  unfolding alg_at go_alg
  alg_gone renamed = sized_shared (list_at kind_at) (λ (ks : List Kind). length ks) go_kinds (λ n seen bytes. go_list (go_constr (length table) n) seen bytes) kinds_gone (λ ks. mapped body_names body_occs (λ cs. Alg renamed ks cs) (λ cs. refl) (λ cs. refl) (list_gone (constr_gone (length ks))))

  synonym_gone : IsGone body_names body_occs (synonym_at (name_at table)) (go_synonym (length table))
  unfolding synonym_at go_synonym
  synonym_gone =
      sized_shared (list_at kind_at) (λ (ks : List Kind). length ks) go_kinds (λ n seen bytes. go_kind bytes >>= λ rest. go_ty (length table) n seen rest) kinds_gone (λ ks.
      rest_shared kind_at go_kind kind_gone (λ k. mapped body_names body_occs (λ t. Synonym ks k t) (λ t. refl) (λ t. refl) (ty_gone (length ks))))

  class_gone : IsGone body_names body_occs (class_at (name_at table)) (go_class (length table))
  unfolding class_at go_class
  class_gone =
      rest_shared kind_at go_kind kind_gone (λ k. two body_names body_occs (λ ss ms. Class k ss ms) (λ ss ms. ap (λ (ns : Names). ns ++ flat_map method_names ms) (single_flat ss))
      (λ ss ms. ap (λ (os : Occs). os ++ flat_map method_occs ms) (nothing_flat ss)) (list_gone name_gone) (λ ss. list_gone method_gone))

  bare_gone : (ks : List Kind) → IsGone body_names body_occs (λ bytes. paired (Abstract ks) bytes) (λ seen bytes. paired seen bytes)
  bare_gone ks = record {
    some = λ seen bytes x e.
        subst (λ (x : Body × List ℕ). (s : Seen) × (paired seen bytes ≡ paired s x.1) × (tell s ≡ more (tell seen) (body_names x.0) (body_occs x.0))) (some_is (Abstract ks, bytes) x e) (seen, refl, more_nothing (tell seen));
    none = λ seen bytes e. absurd (let h : ⊥ = cc in h);
  }

  abstract_gone : IsGone body_names body_occs (abstract_at (name_at table)) go_abstract
  unfolding abstract_at go_abstract
  abstract_gone = sized_shared (list_at kind_at) (λ (ks : List Kind). length ks) go_kinds (λ n seen bytes. paired seen bytes) kinds_gone bare_gone

  tagged_gone : (tag : ℕ) → IsGone body_names body_occs (λ bytes. body_tagged (name_at table) (tag, bytes)) (λ seen bytes. go_tagged (length table) seen (tag, bytes))
  unfolding body_tagged go_tagged
  tagged_gone tag =
      either_gone (nat_eq tag 0) value_gone (either_gone (nat_eq tag 1) (alg_gone false) (either_gone (nat_eq tag 2) (alg_gone true)
      (either_gone (nat_eq tag 3) synonym_gone (either_gone (nat_eq tag 4) class_gone (either_gone (nat_eq tag 5) abstract_gone nothing_gone)))))

  body_gone : IsGone body_names body_occs (body_at (name_at table)) (λ seen bytes. byte_at bytes >>= λ tag. go_tagged (length table) seen tag)
  unfolding body_at
  body_gone = shared byte_at tagged_gone

  -- a declaration
  pub decl_gone : (name : Name) → IsGone (λ (d : Decl). body_names d.body) (λ d. body_occs d.body) (decl_at (name_at table) name) (go_decl (length table))
  unfolding decl_at go_decl
  decl_gone name = shared fix_at (λ f. mapped (λ (d : Decl). body_names d.body) (λ (d : Decl). body_occs d.body) (λ b. record { name = name; fixity = f; body = b }) (λ b. refl) (λ b. refl) body_gone)
