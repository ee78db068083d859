-- What is read as a kind or a type is spelled so, and what is spelled is read again.
use Rattle.std.proofs.Common.{◌≡◌, ℕ, zero, suc, ◌^◌, ◌<◌, ◌≤◌, true, false, List, [], ◌∷◌, ◌++◌, length, Option, Some, None, sym, ap, subst, ◌∙◌, append_assoc, arith, inl, inr, refl}
use Rattle.std.specs.Prelude.{nat_eq, nat_lt, cond}
use Rattle.std.specs.List.{AllByRecursion}
use Rattle.std.proofs.lemmas.Bool.{eqb-true, ltb-false, le-ltb}
use Rattle.mk_base.specs.Types.{levels_of, levels_step}
use Rattle.mk_base.specs.declared.name.Name.{Name}
use Rattle.mk_base.specs.declared.kind.Kind.{Kind}
use Rattle.mk_base.specs.declared.kind.Kind.TheOpen.{Kind-F}
use Rattle.mk_base.specs.declared.kind.Kind.TheOpen.Kind-F.{Star, Arrow}
use Rattle.mk_base.specs.declared.kind.Kind.TheVariants as kinds
use Rattle.mk_base.specs.declared.kind.Kind.TheVariants.{rolls-Star, rolls-Arrow}
use Rattle.mk_base.specs.declared.kind.Kind.TheFolds.{fold-Kind, fold-roll-Kind, ind-Kind, map-Kind}
use Rattle.mk_base.specs.declared.kind.Kind.TheViews.{roll-Kind}
use Rattle.mk_base.specs.declared.ty.Ty.{Ty}
use Rattle.mk_base.specs.declared.ty.Ty.TheOpen.{Ty-F}
use Rattle.mk_base.specs.declared.ty.Ty.TheOpen.Ty-F.{Var, Con, App}
use Rattle.mk_base.specs.declared.ty.Ty.TheVariants as types
use Rattle.mk_base.specs.declared.ty.Ty.TheVariants.{rolls-Var, rolls-Con, rolls-App}
use Rattle.mk_base.specs.declared.ty.Ty.TheFolds.{fold-Ty, fold-roll-Ty, ind-Ty, map-Ty}
use Rattle.mk_base.specs.declared.ty.Ty.TheViews.{roll-Ty}
use Rattle.wire.specs.Wire.{num}
use Rattle.wire.specs.Reading.{◌>>=◌, byte_at}
use Rattle.wire.proofs.Codes.{IsCode, IsBytes, rest_is_bytes, bind_some, some_is, chosen, byte_code, untested}
use Rattle.decl_codec.specs.Blobs.{kind_step, kind_bytes, kind_levels, kind_levels_step, kind_nodes, KindFits, ty_step, ty_bytes, ty_names, ty_names_step, nodes_of, TyFits}
use Rattle.face_model.specs.Formed.{vars_of, vars_step}
use Rattle.decl_codec.specs.Reading.{below_at, kind_tagged, kind_layer, kind_tree_at, kind_at, ty_tagged, ty_layer, ty_tree_at, ty_at}
use Rattle.decl_codec.proofs.Names.{below_code}

-- ---- what passes a bound

none_over : {A : Type 0} {Fits : A → Type 0} {spell : A → List ℕ} {read : List ℕ → Option (A × List ℕ)} (size : A → ℕ) (most : ℕ) → IsCode Fits spell read
    → IsCode (λ a. Fits a × (size a ≤ most)) spell (λ bytes. read bytes >>= λ x. cond (nat_lt most (size x.0)) None (Some x))
none_over {A = A} {Fits = Fits} {spell = spell} {read = read} size most code = record {
  takes = λ bytes y fits e.
      let s = bind_some (read bytes) (λ x. cond (nat_lt most (size x.0)) None (Some x)) y e in
      let g = untested (nat_lt most (size s.0.0)) s.0 y s.2 in
      let t = code.takes bytes s.0 fits s.1 in
      subst (λ (z : A × List ℕ). (Fits z.0 × (size z.0 ≤ most)) × (bytes ≡ spell z.0 ++ z.1)) g.1 ((t.0, ltb-false most (size s.0.0) g.0), t.1);
  again = λ a rest fits.
      ap (λ o. o >>= λ x. cond (nat_lt most (size x.0)) None (Some x)) (code.again a rest fits.0) ∙ ap (λ b. cond b None (Some (a, rest))) (le-ltb most (size a) fits.1);
}

-- ---- kinds: a fold at each variant, and induction by variants

module _ (A : Type 0) (step : Kind-F A → A) where
  pub fold_star : fold-Kind A step kinds.Star ≡ step Star
  fold_star = ap (fold-Kind A step) (sym rolls-Star) ∙ fold-roll-Kind A step Star

  pub fold_arrow : (f x : Kind) → fold-Kind A step (kinds.Arrow f x) ≡ step (Arrow (fold-Kind A step f) (fold-Kind A step x))
  fold_arrow f x = ap (fold-Kind A step) (sym (rolls-Arrow f x)) ∙ fold-roll-Kind A step (Arrow f x)

module _ (P : Kind → Type 0) (star : P kinds.Star) (arrow : (f x : Kind) → P f → P x → P (kinds.Arrow f x)) where
  kind_by_layer : (S : Type 0) (value : S → Kind) (claim : (s : S) → P (value s)) (y : Kind-F S) → P (roll-Kind (map-Kind S Kind value y))
  kind_by_layer S value claim Star = subst P (sym rolls-Star) star
  kind_by_layer S value claim (Arrow f x) = subst P (sym (rolls-Arrow (value f) (value x))) (arrow (value f) (value x) (claim f) (claim x))

  pub ind_kind : (k : Kind) → P k
  ind_kind = ind-Kind P (λ x y is. subst (λ z. P (roll-Kind z)) is (kind_by_layer _ (λ e. e.0) (λ e. e.1) y))

abbrev IsKindAgain : Kind → Type 0
IsKindAgain k = (levels : ℕ) (rest : List ℕ) → kind_levels k ≤ levels → kind_tree_at levels (kind_bytes k ++ rest) ≡ Some (k, rest)

star_again : IsKindAgain kinds.Star
unfolding kind_tree_at kind_layer kind_tagged byte_at
star_again zero rest h = absurd (omega (arith, h, fold_star ℕ kind_levels_step))
star_again (suc levels) rest h = ap (λ bytes. kind_tree_at (suc levels) (bytes ++ rest)) (fold_star (List ℕ) kind_step)

arrow_again : (f x : Kind) → IsKindAgain f → IsKindAgain x → IsKindAgain (kinds.Arrow f x)
unfolding kind_tree_at kind_layer kind_tagged byte_at
arrow_again f x p q zero rest h = absurd (omega (arith, h, fold_arrow ℕ kind_levels_step f x))
arrow_again f x p q (suc levels) rest h =
    let e = fold_arrow ℕ kind_levels_step f x in
    let read : List ℕ → Option (Kind × List ℕ) = kind_tree_at levels in
    ap (λ bytes. kind_tree_at (suc levels) (bytes ++ rest)) (fold_arrow (List ℕ) kind_step f x)
    ∙ ap (λ bytes. read bytes >>= λ f. read f.1 >>= λ x. Some (kinds.Arrow f.0 x.0, x.1)) (append_assoc (kind_bytes f) (kind_bytes x) rest)
    ∙ ap (λ o. o >>= λ f. read f.1 >>= λ x. Some (kinds.Arrow f.0 x.0, x.1)) (p levels (kind_bytes x ++ rest) (omega (arith, h, e)))
    ∙ ap (λ o. o >>= λ x. Some (kinds.Arrow f x.0, x.1)) (q levels rest (omega (arith, h, e)))

abbrev IsKindTaken : ℕ → List ℕ → Kind × List ℕ → Type 0
IsKindTaken levels bytes x = (kind_levels x.0 ≤ levels) × (bytes ≡ kind_bytes x.0 ++ x.1)

kind_takes : (levels : ℕ) (bytes : List ℕ) (x : Kind × List ℕ) → IsBytes bytes → kind_tree_at levels bytes ≡ Some x → IsKindTaken levels bytes x
unfolding kind_tree_at kind_layer kind_tagged
kind_takes zero bytes x fits e = absurd (let h : ⊥ = cc in h)
kind_takes (suc levels) bytes x fits e =
    let read : List ℕ → Option (Kind × List ℕ) = kind_tree_at levels in
    let s = bind_some (byte_at bytes) (kind_tagged read) x e in
    let t = byte_code.takes bytes s.0 fits s.1 in
    let rest_fits = rest_is_bytes bytes (s.0.0 ∷ []) s.0.1 fits t.1 in
    let at_tag : (k : ℕ) → nat_eq s.0.0 k ≡ true → IsKindTaken (suc levels) (k ∷ s.0.1) x → IsKindTaken (suc levels) bytes x =
    λ k q h. (h.0, t.1 ∙ ap (λ b. b ∷ s.0.1) (eqb-true s.0.0 k q) ∙ h.1) in
    elim (chosen (nat_eq s.0.0 0) _ _ (Some x) s.2) [
      | inl c ↦ at_tag 0 c.0 (subst (IsKindTaken (suc levels) (0 ∷ s.0.1)) (some_is (kinds.Star, s.0.1) x c.1) (omega (arith, fold_star ℕ kind_levels_step), ap (λ r. r ++ s.0.1) (sym (fold_star (List ℕ) kind_step))))
      | inr c ↦ elim (chosen (nat_eq s.0.0 1) _ _ (Some x) c.1) [
        | inl d ↦
            let f = bind_some (read s.0.1) (λ f. read f.1 >>= λ x. Some (kinds.Arrow f.0 x.0, x.1)) x d.1 in
            let p = kind_takes levels s.0.1 f.0 rest_fits f.1 in
            let g = bind_some (read f.0.1) (λ x. Some (kinds.Arrow f.0.0 x.0, x.1)) x f.2 in
            let q = kind_takes levels f.0.1 g.0 (rest_is_bytes s.0.1 (kind_bytes f.0.0) f.0.1 rest_fits p.1) g.1 in
            let whole : s.0.1 ≡ (kind_bytes f.0.0 ++ kind_bytes g.0.0) ++ g.0.1 = p.1 ∙ ap (λ r. kind_bytes f.0.0 ++ r) q.1 ∙ sym (append_assoc (kind_bytes f.0.0) (kind_bytes g.0.0) g.0.1) in
            at_tag 1 d.0 (subst (IsKindTaken (suc levels) (1 ∷ s.0.1)) (some_is (kinds.Arrow f.0.0 g.0.0, g.0.1) x g.2)
            (omega (arith, p.0, q.0, fold_arrow ℕ kind_levels_step f.0.0 g.0.0), ap (λ r. 1 ∷ r) whole ∙ ap (λ r. r ++ g.0.1) (sym (fold_arrow (List ℕ) kind_step f.0.0 g.0.0))))
        | inr d ↦ absurd (let h : ⊥ = let g = d.1 in cc in h)
      ]
    ]

kind_tree_code : (levels : ℕ) → IsCode (λ k. kind_levels k ≤ levels) kind_bytes (kind_tree_at levels)
kind_tree_code levels = record { takes = kind_takes levels; again = λ k rest fits. ind_kind IsKindAgain star_again arrow_again k levels rest fits }

pub kind_code : IsCode KindFits kind_bytes kind_at
unfolding kind_at
kind_code = none_over kind_nodes 65536 (kind_tree_code 1000)

-- ---- types: a fold at each variant, and induction by variants

module _ (A : Type 0) (step : Ty-F A → A) where
  pub fold_var : (n : ℕ) → fold-Ty A step (types.Var n) ≡ step (Var n)
  fold_var n = ap (fold-Ty A step) (sym (rolls-Var n)) ∙ fold-roll-Ty A step (Var n)

  pub fold_con : (a : Name) → fold-Ty A step (types.Con a) ≡ step (Con a)
  fold_con a = ap (fold-Ty A step) (sym (rolls-Con a)) ∙ fold-roll-Ty A step (Con a)

  pub fold_app : (f x : Ty) → fold-Ty A step (types.App f x) ≡ step (App (fold-Ty A step f) (fold-Ty A step x))
  fold_app f x = ap (fold-Ty A step) (sym (rolls-App f x)) ∙ fold-roll-Ty A step (App f x)

module _ (P : Ty → Type 0) (var : (n : ℕ) → P (types.Var n)) (con : (a : Name) → P (types.Con a)) (app : (f x : Ty) → P f → P x → P (types.App f x)) where
  by_layer : (S : Type 0) (value : S → Ty) (claim : (s : S) → P (value s)) (y : Ty-F S) → P (roll-Ty (map-Ty S Ty value y))
  by_layer S value claim (Var n) = subst P (sym (rolls-Var n)) (var n)
  by_layer S value claim (Con a) = subst P (sym (rolls-Con a)) (con a)
  by_layer S value claim (App f x) = subst P (sym (rolls-App (value f) (value x))) (app (value f) (value x) (claim f) (claim x))

  pub ind_ty : (t : Ty) → P t
  ind_ty = ind-Ty P (λ x y is. subst (λ z. P (roll-Ty z)) is (by_layer _ (λ e. e.0) (λ e. e.1) y))

-- ---- what fits, by variant

module _ {A : Type 0} (P : A → Type 0) where
  pub all_join : (xs ys : List A) → AllByRecursion P xs → AllByRecursion P ys → AllByRecursion P (xs ++ ys)
  all_join [] ys p q = q
  all_join (x ∷ xs) ys p q = (p.0, all_join xs ys p.1 q)

  pub all_front : (xs ys : List A) → AllByRecursion P (xs ++ ys) → AllByRecursion P xs
  all_front [] ys p = tt
  all_front (x ∷ xs) ys p = (p.0, all_front xs ys p.1)

  pub all_back : (xs ys : List A) → AllByRecursion P (xs ++ ys) → AllByRecursion P ys
  all_back [] ys p = p
  all_back (x ∷ xs) ys p = all_back xs ys p.1

module _ (Known : Name → Type 0) (spell_name : Name → List ℕ) (read_name : List ℕ → Option (Name × List ℕ)) (code : IsCode Known spell_name read_name) (count : ℕ) (few : count ≤ 2 ^ 32) where
  abbrev TreeFits : ℕ → Ty → Type 0
  TreeFits levels t = (levels_of t ≤ levels) × (vars_of t ≤ count) × AllByRecursion Known (ty_names t)

  var_fits : (levels n : ℕ) → n < count → TreeFits (suc levels) (types.Var n)
  var_fits levels n h =
      (omega (arith, fold_var ℕ levels_step n), omega (arith, h, fold_var ℕ vars_step n), subst (AllByRecursion Known) (sym (fold_var (List Name) ty_names_step n)) tt)

  con_fits : (levels : ℕ) (a : Name) → Known a → TreeFits (suc levels) (types.Con a)
  con_fits levels a c =
      (omega (arith, fold_con ℕ levels_step a), omega (arith, fold_con ℕ vars_step a), subst (AllByRecursion Known) (sym (fold_con (List Name) ty_names_step a)) (c, tt))

  app_fits : (levels : ℕ) (f x : Ty) → TreeFits levels f → TreeFits levels x → TreeFits (suc levels) (types.App f x)
  app_fits levels f x p q = (
    omega (arith, p.0, q.0, fold_app ℕ levels_step f x),
    omega (arith, p.1, q.1, fold_app ℕ vars_step f x),
    subst (AllByRecursion Known) (sym (fold_app (List Name) ty_names_step f x)) (all_join Known (ty_names f) (ty_names x) p.2 q.2),
  )

  var_parts : (levels n : ℕ) → TreeFits (suc levels) (types.Var n) → n < count
  var_parts levels n p = omega (arith, p.1, fold_var ℕ vars_step n)

  con_parts : (levels : ℕ) (a : Name) → TreeFits (suc levels) (types.Con a) → Known a
  con_parts levels a p = let all : AllByRecursion Known (a ∷ []) = subst (AllByRecursion Known) (fold_con (List Name) ty_names_step a) p.2 in all.0

  app_parts : (levels : ℕ) (f x : Ty) → TreeFits (suc levels) (types.App f x) → TreeFits levels f × TreeFits levels x
  app_parts levels f x p =
      let all : AllByRecursion Known (ty_names f ++ ty_names x) = subst (AllByRecursion Known) (fold_app (List Name) ty_names_step f x) p.2 in
      let e = fold_app ℕ levels_step f x in
      let v = fold_app ℕ vars_step f x in (
        (omega (arith, p.0, e), omega (arith, p.1, v), all_front Known (ty_names f) (ty_names x) all),
        (omega (arith, p.0, e), omega (arith, p.1, v), all_back Known (ty_names f) (ty_names x) all),
      )

  -- ---- what is spelled is read again

  abbrev IsAgain : Ty → Type 0
  IsAgain t = (levels : ℕ) (rest : List ℕ) → TreeFits levels t → ty_tree_at read_name levels count (ty_bytes spell_name t ++ rest) ≡ Some (t, rest)

  var_again : (n : ℕ) → IsAgain (types.Var n)
  unfolding ty_tree_at ty_layer ty_tagged byte_at
  var_again n zero rest fits = absurd (omega (arith, fits.0, fold_var ℕ levels_step n))
  var_again n (suc levels) rest fits =
      let h = var_parts levels n fits in
      ap (λ bytes. ty_tree_at read_name (suc levels) count (bytes ++ rest)) (fold_var (List ℕ) (ty_step spell_name) n)
      ∙ ap (λ o. o >>= λ v. Some (types.Var v.0, v.1)) ((below_code count).again n rest (omega (arith, h, few), h))

  con_again : (a : Name) → IsAgain (types.Con a)
  unfolding ty_tree_at ty_layer ty_tagged byte_at
  con_again a zero rest fits = absurd (omega (arith, fits.0, fold_con ℕ levels_step a))
  con_again a (suc levels) rest fits =
      ap (λ bytes. ty_tree_at read_name (suc levels) count (bytes ++ rest)) (fold_con (List ℕ) (ty_step spell_name) a)
      ∙ ap (λ o. o >>= λ v. Some (types.Con v.0, v.1)) (code.again a rest (con_parts levels a fits))

  app_again : (f x : Ty) → IsAgain f → IsAgain x → IsAgain (types.App f x)
  unfolding ty_tree_at ty_layer ty_tagged byte_at
  app_again f x p q zero rest fits = absurd (omega (arith, fits.0, fold_app ℕ levels_step f x))
  app_again f x p q (suc levels) rest fits =
      let parts = app_parts levels f x fits in
      let read : List ℕ → Option (Ty × List ℕ) = ty_tree_at read_name levels count in
      ap (λ bytes. ty_tree_at read_name (suc levels) count (bytes ++ rest)) (fold_app (List ℕ) (ty_step spell_name) f x)
      ∙ ap (λ bytes. read bytes >>= λ f. read f.1 >>= λ x. Some (types.App f.0 x.0, x.1)) (append_assoc (ty_bytes spell_name f) (ty_bytes spell_name x) rest)
      ∙ ap (λ o. o >>= λ f. read f.1 >>= λ x. Some (types.App f.0 x.0, x.1)) (p levels (ty_bytes spell_name x ++ rest) parts.0)
      ∙ ap (λ o. o >>= λ x. Some (types.App f x.0, x.1)) (q levels rest parts.1)

  -- ---- what is read is spelled so

  abbrev IsTaken : ℕ → List ℕ → Ty × List ℕ → Type 0
  IsTaken levels bytes x = TreeFits levels x.0 × (bytes ≡ ty_bytes spell_name x.0 ++ x.1)

  var_taken : (levels : ℕ) (rest : List ℕ) (x : Ty × List ℕ) → IsBytes rest → (below_at count rest >>= λ n. Some (types.Var n.0, n.1)) ≡ Some x → IsTaken (suc levels) (0 ∷ rest) x
  var_taken levels rest x fits e =
      let s = bind_some (below_at count rest) (λ n. Some (types.Var n.0, n.1)) x e in
      let t = (below_code count).takes rest s.0 fits s.1 in
      subst (IsTaken (suc levels) (0 ∷ rest)) (some_is (types.Var s.0.0, s.0.1) x s.2)
      (var_fits levels s.0.0 t.0.1, ap (λ r. 0 ∷ r) t.1 ∙ ap (λ r. r ++ s.0.1) (sym (fold_var (List ℕ) (ty_step spell_name) s.0.0)))

  con_taken : (levels : ℕ) (rest : List ℕ) (x : Ty × List ℕ) → IsBytes rest → (read_name rest >>= λ a. Some (types.Con a.0, a.1)) ≡ Some x → IsTaken (suc levels) (1 ∷ rest) x
  con_taken levels rest x fits e =
      let s = bind_some (read_name rest) (λ a. Some (types.Con a.0, a.1)) x e in
      let t = code.takes rest s.0 fits s.1 in
      subst (IsTaken (suc levels) (1 ∷ rest)) (some_is (types.Con s.0.0, s.0.1) x s.2)
      (con_fits levels s.0.0 t.0, ap (λ r. 1 ∷ r) t.1 ∙ ap (λ r. r ++ s.0.1) (sym (fold_con (List ℕ) (ty_step spell_name) s.0.0)))

  app_taken : (levels : ℕ) (read : List ℕ → Option (Ty × List ℕ)) → ((bytes : List ℕ) (x : Ty × List ℕ) → IsBytes bytes → read bytes ≡ Some x → IsTaken levels bytes x)
      → (rest : List ℕ) (x : Ty × List ℕ) → IsBytes rest → (read rest >>= λ f. read f.1 >>= λ x. Some (types.App f.0 x.0, x.1)) ≡ Some x → IsTaken (suc levels) (2 ∷ rest) x
  app_taken levels read takes rest x fits e =
      let s = bind_some (read rest) (λ f. read f.1 >>= λ x. Some (types.App f.0 x.0, x.1)) x e in
      let t = takes rest s.0 fits s.1 in
      let u = bind_some (read s.0.1) (λ x. Some (types.App s.0.0 x.0, x.1)) x s.2 in
      let v = takes s.0.1 u.0 (rest_is_bytes rest (ty_bytes spell_name s.0.0) s.0.1 fits t.1) u.1 in
      let whole : rest ≡ (ty_bytes spell_name s.0.0 ++ ty_bytes spell_name u.0.0) ++ u.0.1 =
      t.1 ∙ ap (λ r. ty_bytes spell_name s.0.0 ++ r) v.1 ∙ sym (append_assoc (ty_bytes spell_name s.0.0) (ty_bytes spell_name u.0.0) u.0.1) in
      subst (IsTaken (suc levels) (2 ∷ rest)) (some_is (types.App s.0.0 u.0.0, u.0.1) x u.2)
      (app_fits levels s.0.0 u.0.0 t.0 v.0, ap (λ r. 2 ∷ r) whole ∙ ap (λ r. r ++ u.0.1) (sym (fold_app (List ℕ) (ty_step spell_name) s.0.0 u.0.0)))

  tree_takes : (levels : ℕ) (bytes : List ℕ) (x : Ty × List ℕ) → IsBytes bytes → ty_tree_at read_name levels count bytes ≡ Some x → IsTaken levels bytes x
  unfolding ty_tree_at ty_layer ty_tagged
  tree_takes zero bytes x fits e = absurd (let h : ⊥ = cc in h)
  tree_takes (suc levels) bytes x fits e =
      let read : List ℕ → Option (Ty × List ℕ) = ty_tree_at read_name levels count in
      let s = bind_some (byte_at bytes) (ty_tagged read_name read count) x e in
      let t = byte_code.takes bytes s.0 fits s.1 in
      let rest_fits = rest_is_bytes bytes (s.0.0 ∷ []) s.0.1 fits t.1 in
      let at_tag : (k : ℕ) → nat_eq s.0.0 k ≡ true → IsTaken (suc levels) (k ∷ s.0.1) x → IsTaken (suc levels) bytes x =
      λ k q h. (h.0, t.1 ∙ ap (λ b. b ∷ s.0.1) (eqb-true s.0.0 k q) ∙ h.1) in
      elim (chosen (nat_eq s.0.0 0) _ _ (Some x) s.2) [
        | inl c ↦ at_tag 0 c.0 (var_taken levels s.0.1 x rest_fits c.1)
        | inr c ↦ elim (chosen (nat_eq s.0.0 1) _ _ (Some x) c.1) [
          | inl d ↦ at_tag 1 d.0 (con_taken levels s.0.1 x rest_fits d.1)
          | inr d ↦ elim (chosen (nat_eq s.0.0 2) _ _ (Some x) d.1) [
            | inl f ↦ at_tag 2 f.0 (app_taken levels read (tree_takes levels) s.0.1 x rest_fits f.1)
            | inr f ↦ absurd (let h : ⊥ = let g = f.1 in cc in h)
          ]
        ]
      ]

  tree_code : (levels : ℕ) → IsCode (TreeFits levels) (ty_bytes spell_name) (ty_tree_at read_name levels count)
  tree_code levels = record { takes = tree_takes levels; again = λ t rest fits. ind_ty IsAgain var_again con_again app_again t levels rest fits }

  pub ty_code : IsCode (TyFits Known count) (ty_bytes spell_name) (ty_at read_name count)
  unfolding ty_at
  ty_code = none_over nodes_of 65536 (tree_code 1000)
