-- Laws of substitutions.
use Rattle.std.proofs.Common.{ℕ, Bool, zero, suc, ◌≡◌, ◌≤◌, List, [], ◌∷◌, ◌++◌, map, refl, sym, ap, ◌∙◌, inl, inr, subst, arith}
use Rattle.std.specs.List.{Contains}
use Rattle.std.proofs.lemmas.List.Elements.{Contains-append_left, Contains-append_right, Contains-append_cases}
use Rattle.unifiers.specs.Term.{Term, apply, size, Occurs, NoTermIsAPartOfItself}
use Rattle.unifiers.specs.Term.Term.{var, con, app}
use Rattle.unifiers.specs.Unifier.{Solves, MostGeneral, after, image, Fixes, MostGeneralOneAfterAnother, SolutionsAreInstances, UniqueUpToRenaming}

pub size_least : (t : Term) → 1 ≤ size t
size_least (var n) = omega arith
size_least (con c) = omega arith
size_least (app f a) = omega arith

-- what stands in a term is no larger
pub occurs_size : (s : ℕ → Term) (v : ℕ) (t : Term) → Occurs v t → size (s v) ≤ size (apply s t)
occurs_size s v (var n) h = let e = ap (λ k. size (s k)) h in omega arith
occurs_size s v (con c) h = absurd h
occurs_size s v (app f a) h = elim h [
  | inl p ↦ let q = occurs_size s v f p in omega arith
  | inr p ↦ let q = occurs_size s v a p in omega arith
]

pub no_part : NoTermIsAPartOfItself
no_part s v (var n) h ne e = ne (ap (λ k. var k) h)
no_part s v (con c) h ne e = h
no_part s v (app f a) h ne e =
    let z = ap size e in
    elim h [
      | inl p ↦ let q = occurs_size s v f p in let r = size_least (apply s a) in absurd (omega arith)
      | inr p ↦ let q = occurs_size s v a p in let r = size_least (apply s f) in absurd (omega arith)
    ]

pub apply_after : (r s : ℕ → Term) (t : Term) → apply r (apply s t) ≡ apply (after r s) t
apply_after r s (var n) = refl
apply_after r s (con c) = refl
apply_after r s (app f a) = let p = apply_after r s f in let q = apply_after r s a in cc

-- substitutions that agree give the same
pub apply_alike : (r s : ℕ → Term) → ((n : ℕ) → r n ≡ s n) → (t : Term) → apply r t ≡ apply s t
apply_alike r s h (var n) = h n
apply_alike r s h (con c) = refl
apply_alike r s h (app f a) = let p = apply_alike r s h f in let q = apply_alike r s h a in cc

pub apply_var : (t : Term) → apply (λ n. var n) t ≡ t
apply_var (var n) = refl
apply_var (con c) = refl
apply_var (app f a) = let p = apply_var f in let q = apply_var a in cc

contains_map : (f : Term × Term → Term × Term) (ps : List (Term × Term)) (p : Term × Term) → Contains ps p → Contains (map f ps) (f p)
contains_map f [] p h = let lt = h.1 in absurd (omega arith)
contains_map f (q ∷ qs) p (zero, lt, e) = (0, omega arith, ap f e)
contains_map f (q ∷ qs) p (suc k, lt, e) = let r = contains_map f qs p (k, omega arith, e) in (suc (r.0), (let l = r.1 in omega arith), r.2)

map_contains : (f : Term × Term → Term × Term) (ps : List (Term × Term)) (p : Term × Term) → Contains (map f ps) p → (q : Term × Term) × (Contains ps q × (f q ≡ p))
map_contains f [] p h = let lt = h.1 in absurd (omega arith)
map_contains f (q ∷ qs) p (zero, lt, e) = (q, ((0, omega arith, refl), e))
map_contains f (q ∷ qs) p (suc k, lt, e) =
    let r = map_contains f qs p (k, omega arith, e) in
    (r.0, ((suc (r.1.0.0), (let l = r.1.0.1 in omega arith), r.1.0.2), r.1.1))

module _ (rigid : ℕ → Bool) (first more : List (Term × Term)) (s r : ℕ → Term) (h : MostGeneral rigid first s) (g : MostGeneral rigid (map (image s) more) r) where
  both_solve : Solves rigid (first ++ more) (after r s)
  both_solve = record {
    rigid_stay = λ n c. ap (apply r) (h.solves.rigid_stay n c) ∙ g.solves.rigid_stay n c;
    equal = λ t u c. sym (apply_after r s t) ∙ elim (Contains-append_cases first more (t, u) c) [
      | inl p ↦ ap (apply r) (h.solves.equal t u p)
      | inr p ↦ g.solves.equal (apply s t) (apply s u) (contains_map (image s) more (t, u) p)
    ] ∙ apply_after r s u;
  }

  under : (q : ℕ → Term) → Solves rigid (first ++ more) q → (n : ℕ) → apply q (s n) ≡ q n
  under q w = h.general q (record {
    rigid_stay = w.rigid_stay;
    equal = λ t u c. w.equal t u (Contains-append_left first more (t, u) c);
  })

  over : (q : ℕ → Term) → Solves rigid (first ++ more) q → Solves rigid (map (image s) more) q
  over q w = record {
    rigid_stay = w.rigid_stay;
    equal = λ t u c.
        let p = map_contains (image s) more (t, u) c in
        let a = p.0.0 in
        let b = p.0.1 in
        let e : apply q a ≡ apply q b = w.equal a b (Contains-append_right first more (a, b) p.1.0) in
        let l : apply q (apply s a) ≡ apply q a = apply_after q s a ∙ apply_alike (after q s) q (under q w) a in
        let m : apply q (apply s b) ≡ apply q b = apply_after q s b ∙ apply_alike (after q s) q (under q w) b in
        ap (λ z. apply q (z.0)) (sym p.1.1) ∙ l ∙ e ∙ sym m ∙ ap (λ z. apply q (z.1)) p.1.1;
  }

  pub most_general : MostGeneral rigid (first ++ more) (after r s)
  most_general = record {
    solves = both_solve;
    general = λ q w n. apply_after q r (s n) ∙ apply_alike (after q r) q (g.general q (over q w)) (s n) ∙ under q w n;
  }

pub one_after_another : MostGeneralOneAfterAnother
one_after_another rigid first more s r h g = most_general rigid first more s r h g

-- a substitution that gives a term back leaves its variables alone
pub stays : (s : ℕ → Term) (v : ℕ) (t : Term) → Occurs v t → apply s t ≡ t → s v ≡ var v
stays s v (var n) h e = subst (λ z. s z ≡ var z) h e
stays s v (con c) h e = absurd h
stays s v (app f a) h e = elim h [
  | inl p ↦ stays s v f p (cc)
  | inr p ↦ stays s v a p (cc)
]

-- what a substitution makes a variable is one
variable : (s : ℕ → Term) (v : ℕ) (t : Term) → apply s t ≡ var v → (w : ℕ) × ((t ≡ var w) × (s w ≡ var v))
variable s v (var w) e = (w, (refl, e))
variable s v (con c) e = absurd (cc)
variable s v (app f a) e = absurd (cc)

-- an instance of a solution solves the pairs
pub instance_solves : (rigid : ℕ → Bool) (pairs : List (Term × Term)) (s r u : ℕ → Term) → Solves rigid pairs s → Fixes rigid u → ((n : ℕ) → r n ≡ apply u (s n)) → Solves rigid pairs r
instance_solves rigid pairs s r u w f e = record {
  rigid_stay = λ n c. e n ∙ ap (apply u) (w.rigid_stay n c) ∙ f n c;
  equal = λ a b c.
      apply_alike r (after u s) e a ∙ sym (apply_after u s a) ∙ ap (apply u) (w.equal a b c) ∙ apply_after u s b ∙ sym (apply_alike r (after u s) e b);
}

pub solutions_are_instances : SolutionsAreInstances
solutions_are_instances rigid pairs s m r =
    ((λ w. (r, (w.rigid_stay, λ n. sym (m.general r w n)))), (λ p. instance_solves rigid pairs s r p.0 m.solves p.1.0 p.1.1))

pub over_again : (rigid : ℕ → Bool) (pairs : List (Term × Term)) (s r : ℕ → Term) → MostGeneral rigid pairs s → Solves rigid pairs r → (t : Term) → apply r (apply s t) ≡ apply r t
over_again rigid pairs s r m w t = apply_after r s t ∙ apply_alike (after r s) r (m.general r w) t

pub unique_up_to_renaming : UniqueUpToRenaming
unique_up_to_renaming rigid pairs s r m g t = (
  over_again rigid pairs s r m g.solves t,
  λ v o.
      variable s v (r v) (stays (after s r) v (apply s t) o
      (sym (apply_after s r (apply s t)) ∙ ap (apply s) (over_again rigid pairs s r m g.solves t) ∙ over_again rigid pairs r s g m.solves t)),
)
