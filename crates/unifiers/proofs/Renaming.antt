-- The solver does the same over other numbers.
use Rattle.std.proofs.Common.{ℕ, zero, suc, Bool, true, false, ◌≡◌, ◌↔◌, ◌+◌, ◌||◌, nat_eq, if◌then◌else◌, List, [], ◌∷◌, ◌++◌, map, length, Some, None, Option, refl, sym, ap, ◌∙◌, subst}
use Rattle.std.specs.Option.{option_map}
use Rattle.std.proofs.lemmas.List.{length-append, length-map}
use Rattle.std.proofs.lemmas.Bool.{eqb-true, eq-eqb}
use Rattle.unifiers.specs.Term.{Term, apply}
use Rattle.unifiers.specs.Term.Term.{var, con, app}
use Rattle.unifiers.specs.Unifier.{Solves, MostGeneral, after, image}
use Rattle.unifiers.proofs.Laws.{apply_after, apply_alike}
use Rattle.unifiers.specs.Solver.{same_name, has, Difference, Same, Clash, Bind, first, bind, difference, first_difference, put, settle, solve_within, variables, variables_of, solve}
use Rattle.unifiers.specs.Reading.{closed, stands_in, places, place, Scheme, scheme_of, solved_closed, solved_scheme}
use Rattle.unifiers.specs.Renaming.{number, renamed, renamed_pairs, IsRenaming, RenamedHasNoneAlike, SolverReadsRenamed}
use Rattle.unifiers.proofs.Solving.{none_where}
use Rattle.unifiers.proofs.Reading.{same_tests, reads_the_same}

module _ (f : ℕ → ℕ) (own rigid : ℕ → Bool) (h : IsRenaming f own rigid) where
  abbrev move : Difference → Difference
  move Same = Same
  move Clash = Clash
  move (Bind v t) = Bind (f v) (renamed f t)

  test_alike : (m n : ℕ) → nat_eq (f m) (f n) ≡ nat_eq m n
  test_alike m n = same_tests (nat_eq (f m) (f n)) (nat_eq m n) (λ e. eq-eqb m n (h.0 m n (eqb-true (f m) (f n) e))) (λ e. eq-eqb (f m) (f n) (ap f (eqb-true m n e)))

  has_alike : (v : ℕ) (t : Term) → has (f v) (renamed f t) ≡ has v t
  has_alike v (var n) = test_alike n v
  has_alike v (con c) = refl
  has_alike v (app g a) = let p = has_alike v g in let q = has_alike v a in ap (λ z. z || has (f v) (renamed f a)) p ∙ ap (λ z. has v g || z) q

  bound_alike : (b : Bool) (v : ℕ) (t : Term) → (if b then Clash else Bind (f v) (renamed f t)) ≡ move (if b then Clash else Bind v t)
  bound_alike true v t = refl
  bound_alike false v t = refl

  bind_alike : (v : ℕ) (t : Term) → bind rigid (f v) (renamed f t) ≡ move (bind own v t)
  bind_alike v t = ap (λ z. if z || has (f v) (renamed f t) then Clash else Bind (f v) (renamed f t)) (h.1 v)
      ∙ ap (λ z. if own v || z then Clash else Bind (f v) (renamed f t)) (has_alike v t) ∙ bound_alike (own v || has v t) v t

  pick_alike : (b c : Bool) (x y p q : Difference) → x ≡ move p → y ≡ move q → (if b then Same else (if c then x else y)) ≡ move (if b then Same else (if c then p else q))
  pick_alike true c x y p q d e = refl
  pick_alike false true x y p q d e = d
  pick_alike false false x y p q d e = e

  names_alike : (b : Bool) → (if b then Same else Clash) ≡ move (if b then Same else Clash)
  names_alike true = refl
  names_alike false = refl

  first_alike : (d e : Difference) → first (move d) (move e) ≡ move (first d e)
  first_alike Same e = refl
  first_alike Clash e = refl
  first_alike (Bind v t) e = refl

  firsts_alike : (x y d e : Difference) → x ≡ move d → y ≡ move e → first x y ≡ move (first d e)
  firsts_alike x y d e p q = ap (λ z. first z y) p ∙ ap (first (move d)) q ∙ first_alike d e

  difference_alike : (t u : Term) → difference rigid (renamed f t) (renamed f u) ≡ move (difference own t u)
  difference_alike (var m) (var n) =
      ap (λ z. if z then Same else (if rigid (f m) then bind rigid (f n) (var (f m)) else bind rigid (f m) (var (f n)))) (test_alike m n)
      ∙ ap (λ z. if nat_eq m n then Same else (if z then bind rigid (f n) (var (f m)) else bind rigid (f m) (var (f n)))) (h.1 m)
      ∙ pick_alike (nat_eq m n) (own m) (bind rigid (f n) (var (f m))) (bind rigid (f m) (var (f n))) (bind own n (var m)) (bind own m (var n)) (bind_alike n (var m)) (bind_alike m (var n))
  difference_alike (var m) (con d) = bind_alike m (con d)
  difference_alike (var m) (app g b) = bind_alike m (app g b)
  difference_alike (con c) (var n) = bind_alike n (con c)
  difference_alike (con c) (con d) = names_alike (same_name c d)
  difference_alike (con c) (app g b) = refl
  difference_alike (app k a) (var n) = bind_alike n (app k a)
  difference_alike (app k a) (con d) = refl
  difference_alike (app k a) (app g b) =
      firsts_alike (difference rigid (renamed f k) (renamed f g)) (difference rigid (renamed f a) (renamed f b)) (difference own k g) (difference own a b)
      (difference_alike k g) (difference_alike a b)

  pairs_alike : (ps : List (Term × Term)) → first_difference rigid (renamed_pairs f ps) ≡ move (first_difference own ps)
  pairs_alike [] = refl
  pairs_alike (p ∷ ps) =
      firsts_alike (difference rigid (renamed f p.0) (renamed f p.1)) (first_difference rigid (renamed_pairs f ps)) (difference own p.0 p.1) (first_difference own ps)
      (difference_alike p.0 p.1) (pairs_alike ps)

  put_alike : (v : ℕ) (w : Term) (n : ℕ) → put (f v) (renamed f w) (f n) ≡ renamed f (put v w n)
  put_alike v w n = ap (λ z. if z then renamed f w else var (f n)) (test_alike n v) ∙ by (nat_eq n v)
    where
      by : (b : Bool) → (if b then renamed f w else var (f n)) ≡ renamed f (if b then w else var n)
      by true = refl
      by false = refl

  -- where one substitution is another over other numbers, so is what it makes of a term
  applied_alike : (r s : ℕ → Term) → ((n : ℕ) → r (f n) ≡ renamed f (s n)) → (t : Term) → apply r (renamed f t) ≡ renamed f (apply s t)
  applied_alike r s e t = apply_after r (number f) t ∙ apply_alike (after r (number f)) (after (number f) s) e t ∙ sym (apply_after (number f) s t)

  images_alike : (v : ℕ) (w : Term) (ps : List (Term × Term)) → map (image (put (f v) (renamed f w))) (renamed_pairs f ps) ≡ renamed_pairs f (map (image (put v w)) ps)
  images_alike v w [] = refl
  images_alike v w (p ∷ ps) =
      let l : (t : Term) → apply (put (f v) (renamed f w)) (renamed f t) ≡ renamed f (apply (put v w) t) = applied_alike (put (f v) (renamed f w)) (put v w) (put_alike v w) in
      λ i. (l p.0 i, l p.1 i) ∷ images_alike v w ps i

  abbrev Moved : Option (ℕ → Term) → Option (ℕ → Term) → Type 0
  Moved None None = Unit {0}
  Moved None (Some r) = ⊥
  Moved (Some s) None = ⊥
  Moved (Some s) (Some r) = (n : ℕ) → r (f n) ≡ renamed f (s n)

  moved_settle : (d : Difference) (go to : ℕ → Term → Option (ℕ → Term)) → ((v : ℕ) (w : Term) → Moved (go v w) (to (f v) (renamed f w))) → Moved (settle d go) (settle (move d) to)
  moved_settle Same go to k = λ n. refl
  moved_settle Clash go to k = tt
  moved_settle (Bind v w) go to k = k v w

  moved_put : (v : ℕ) (w : Term) (o q : Option (ℕ → Term)) → Moved o q → Moved (option_map (λ s. after s (put v w)) o) (option_map (λ s. after s (put (f v) (renamed f w))) q)
  moved_put v w None None m = tt
  moved_put v w None (Some r) m = absurd m
  moved_put v w (Some s) None m = absurd m
  moved_put v w (Some s) (Some r) m = λ n. ap (apply r) (put_alike v w n) ∙ applied_alike r s m (put v w n)

  moved_within : (k : ℕ) (ps : List (Term × Term)) → Moved (solve_within own k ps) (solve_within rigid k (renamed_pairs f ps))
  moved_within zero ps = subst (λ d. Moved (solve_within own zero ps) (settle d (λ v t. None))) (sym (pairs_alike ps))
      (moved_settle (first_difference own ps) (λ v t. None) (λ v t. None) (λ v w. tt))
  moved_within (suc k) ps =
      let go : ℕ → Term → Option (ℕ → Term) = λ v t. option_map (λ s. after s (put v t)) (solve_within own k (map (image (put v t)) ps)) in
      let to : ℕ → Term → Option (ℕ → Term) = λ v t. option_map (λ s. after s (put v t)) (solve_within rigid k (map (image (put v t)) (renamed_pairs f ps))) in
      subst (λ d. Moved (settle (first_difference own ps) go) (settle d to)) (sym (pairs_alike ps))
      (moved_settle (first_difference own ps) go to
      (λ v w. moved_put v w (solve_within own k (map (image (put v w)) ps)) (solve_within rigid k (map (image (put (f v) (renamed f w))) (renamed_pairs f ps)))
      (subst (λ qs. Moved (solve_within own k (map (image (put v w)) ps)) (solve_within rigid k qs)) (sym (images_alike v w ps)) (moved_within k (map (image (put v w)) ps)))))

  variables_alike : (t : Term) → length (variables (renamed f t)) ≡ length (variables t)
  variables_alike (var n) = refl
  variables_alike (con c) = refl
  variables_alike (app g a) = length-append (variables (renamed f g)) (variables (renamed f a)) ∙ (let p = variables_alike g in let q = variables_alike a in cc) ∙ sym (length-append (variables g) (variables a))

  count_alike : (ps : List (Term × Term)) → length (variables_of (renamed_pairs f ps)) ≡ length (variables_of ps)
  count_alike [] = refl
  count_alike (p ∷ ps) =
      let x = length-append (variables (renamed f p.0)) (variables (renamed f p.1) ++ variables_of (renamed_pairs f ps)) in
      let y = length-append (variables (renamed f p.1)) (variables_of (renamed_pairs f ps)) in
      let z = length-append (variables p.0) (variables p.1 ++ variables_of ps) in
      let w = length-append (variables p.1) (variables_of ps) in
      let a = variables_alike p.0 in
      let b = variables_alike p.1 in
      let c = count_alike ps in
      cc

  moved : (ps : List (Term × Term)) → Moved (solve own ps) (solve rigid (renamed_pairs f ps))
  unfolding solve
  moved ps = subst (λ k. Moved (solve own ps) (solve_within rigid k (renamed_pairs f ps))) (sym (count_alike ps)) (moved_within (length (variables_of ps)) ps)

  none_moved : (o q : Option (ℕ → Term)) → Moved o q → (o ≡ None) ↔ (q ≡ None)
  none_moved None None m = ((λ e. refl), λ e. refl)
  none_moved None (Some r) m = absurd m
  none_moved (Some s) None m = absurd m
  none_moved (Some s) (Some r) m = ((λ e. absurd (let j : ⊥ = cc in j)), λ e. absurd (let j : ⊥ = cc in j))

  pub none_renamed : (ps : List (Term × Term)) → (solve own ps ≡ None) ↔ ((s : ℕ → Term) → Solves rigid (renamed_pairs f ps) s → ⊥)
  none_renamed ps =
      let m = none_moved (solve own ps) (solve rigid (renamed_pairs f ps)) (moved ps) in
      let n = none_where rigid (renamed_pairs f ps) in
      ((λ e. n.0 (m.0 e)), λ k. m.1 (n.1 k))

  -- ---- what is read

  stands_alike : (vs : List ℕ) (v : ℕ) → stands_in (map f vs) (f v) ≡ stands_in vs v
  stands_alike [] v = refl
  stands_alike (w ∷ ws) v = ap (λ z. z || stands_in (map f ws) (f v)) (test_alike w v) ∙ ap (λ z. nat_eq w v || z) (stands_alike ws v)

  place_alike : (vs : List ℕ) (v : ℕ) → place (map f vs) (f v) ≡ place vs v
  place_alike [] v = refl
  place_alike (w ∷ ws) v = ap (λ z. if z then 0 else (1 + place (map f ws) (f v))) (test_alike w v) ∙ ap (λ z. if nat_eq w v then 0 else (1 + z)) (place_alike ws v)

  last_alike : (vs : List ℕ) (v : ℕ) → map f vs ++ f v ∷ [] ≡ map f (vs ++ v ∷ [])
  last_alike [] v = refl
  last_alike (w ∷ ws) v = ap (λ z. f w ∷ z) (last_alike ws v)

  places_cond : (b : Bool) (vs ws : List ℕ) → (if b then map f vs else map f ws) ≡ map f (if b then vs else ws)
  places_cond true vs ws = refl
  places_cond false vs ws = refl

  places_alike : (t : Term) (vs : List ℕ) → places (map f vs) (renamed f t) ≡ map f (places vs t)
  places_alike (var v) vs = ap (λ z. if z then map f vs else (map f vs ++ f v ∷ [])) (stands_alike vs v)
      ∙ ap (λ z. if stands_in vs v then map f vs else z) (last_alike vs v) ∙ places_cond (stands_in vs v) vs (vs ++ v ∷ [])
  places_alike (con c) vs = refl
  places_alike (app g a) vs = ap (λ z. places z (renamed f a)) (places_alike g vs) ∙ places_alike a (places vs g)

  scheme_alike : (t : Term) → scheme_of (renamed f t) ≡ scheme_of t
  scheme_alike t =
      let vs = places [] t in
      let e : places [] (renamed f t) ≡ map f vs = places_alike t [] in
      let b : apply (λ v. var (place (map f vs) v)) (renamed f t) ≡ apply (λ v. var (place vs v)) t =
      apply_after (λ v. var (place (map f vs) v)) (number f) t ∙ apply_alike (λ v. var (place (map f vs) (f v))) (λ v. var (place vs v)) (λ v. ap var (place_alike vs v)) t in
      let d : (xs : List ℕ) → Scheme = λ xs. record { vars = length xs; body = apply (λ v. var (place xs v)) (renamed f t) } in
      ap d e ∙ (λ i. record { vars = length-map vs f i; body = b i })

  read_moved : (A : Type 0) (g : Term → A) → ((t : Term) → g (renamed f t) ≡ g t) → (t : Term) (o q : Option (ℕ → Term)) → Moved o q
      → option_map (λ s. g (apply s t)) o ≡ option_map (λ s. g (apply s (renamed f t))) q
  read_moved A g k t None None m = refl
  read_moved A g k t None (Some r) m = absurd m
  read_moved A g k t (Some s) None m = absurd m
  read_moved A g k t (Some s) (Some r) m = ap Some (sym (ap g (applied_alike r s m t) ∙ k (apply s t)))

  pub read_renamed : (ps : List (Term × Term)) (s : ℕ → Term) → MostGeneral rigid (renamed_pairs f ps) s
      → (k t : Term) → (solved_closed own ps k t ≡ Some (closed k (apply s (renamed f t)))) × (solved_scheme own ps t ≡ Some (scheme_of (apply s (renamed f t))))
  read_renamed ps s g k t =
      let same = reads_the_same rigid (renamed_pairs f ps) s g k (renamed f t) in (
        read_moved Term (closed k) (λ a. apply_after (λ n. k) (number f) a) t (solve own ps) (solve rigid (renamed_pairs f ps)) (moved ps) ∙ same.0,
        read_moved Scheme scheme_of scheme_alike t (solve own ps) (solve rigid (renamed_pairs f ps)) (moved ps) ∙ same.1,
      )

pub none_alike : RenamedHasNoneAlike
none_alike f own rigid h ps = none_renamed f own rigid h ps

pub reads_renamed : SolverReadsRenamed
reads_renamed f own rigid h ps s g k t = read_renamed f own rigid h ps s g k t
