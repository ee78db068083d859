-- Which constraints there are decides what is left and met, not their order, nor how often each is there.
use Rattle.std.proofs.Common.{◌≡◌, ◌⊎◌, inl, inr, ◌<◌, List, [], ◌∷◌, ◌++◌, get_or, Option, Some, None, sym, ◌∙◌, ap, subst, refl, arith}
use Rattle.std.specs.List.{Contains}
use Rattle.std.proofs.lemmas.List.Elements.{Contains-append_left, Contains-append_right, Contains-append_cases}
use Rattle.face_model.specs.declared.inst.Inst.{Inst}
use Rattle.face_model.specs.declared.scheme.Constraint.{Constraint}
use Rattle.mk_base.specs.declared.name.Name.{Name}
use Rattle.class_env.specs.declared.outcome.Fault.{Fault}
use Rattle.class_env.specs.Instances.{Outcome, outcome, unless, then}
use Rattle.class_env.specs.Reduce.{reduced, reduced_all}
use Rattle.class_env.specs.Laws.{SameMembers}

pub no_fault : (f : Fault) {A : Type 0} → Some f ≡ None → A
no_fault f e = absurd (let h : ⊥ = cc in h)

pub both_none : (a b : Outcome) → (then a b).fault ≡ None → (a.fault ≡ None) × (b.fault ≡ None)
both_none a b h = at a.fault refl h where
  at : (x : Option Fault) → a.fault ≡ x → (unless x a.rest a.met b).fault ≡ None → (a.fault ≡ None) × (b.fault ≡ None)
  at None e k = (e, k)
  at (Some f) e k = no_fault f k

pub then_plain : (a b : Outcome) → a.fault ≡ None → then a b ≡ outcome (a.rest ++ b.rest) (a.met ++ b.met) b.fault
then_plain a b e = ap (λ x. unless x a.rest a.met b) e

pub only_one : {X : Type 0} (w v : X) → Contains (w ∷ []) v → w ≡ v
only_one w v h =
    let lt : h.0 < 1 = h.1 in
    let at : h.0 ≡ 0 = omega arith in
    subst (λ k. get_or (w ∷ []) k v ≡ v) at h.2

pub split : {X : Type 0} (w : X) (ws : List X) (v : X) → Contains (w ∷ ws) v → (w ≡ v) ⊎ Contains ws v
split w ws v h = elim (Contains-append_cases (w ∷ []) ws v h) [ inl p ↦ inl (only_one w v p) | inr p ↦ inr p ]

pub here : {X : Type 0} (w : X) (ws : List X) → Contains (w ∷ ws) w
here w ws = (0, omega arith, refl)

pub there : {X : Type 0} (w : X) (ws : List X) (v : X) → Contains ws v → Contains (w ∷ ws) v
there w ws v h = Contains-append_right (w ∷ []) ws v h

module _ (m : Name → Name → List Inst) where
  each_none : (ws : List Constraint) → (reduced_all m ws).fault ≡ None → (w : Constraint) → Contains ws w → (reduced m w).fault ≡ None
  each_none [] h w q = absurd (let lt : q.0 < 0 = q.1 in omega arith)
  each_none (v ∷ ws) h w q =
      let two = both_none (reduced m v) (reduced_all m ws) h in
      elim (split v ws w q) [ inl e ↦ subst (λ (x : Constraint). (reduced m x).fault ≡ None) e two.0 | inr p ↦ each_none ws two.1 w p ]

  all_none : (ws : List Constraint) → ((w : Constraint) → Contains ws w → (reduced m w).fault ≡ None) → (reduced_all m ws).fault ≡ None
  all_none [] h = refl
  all_none (v ∷ ws) h =
      let rest : (reduced_all m ws).fault ≡ None = all_none ws (λ w q. h w (there v ws w q)) in
      ap (λ x. x.fault) (then_plain (reduced m v) (reduced_all m ws) (h v (here v ws))) ∙ rest

  -- what is left or met of all is left or met of one
  module _ {X : Type 0} (part : Outcome → List X) (joins : (a b : Outcome) → a.fault ≡ None → part (then a b) ≡ part a ++ part b) (none : (x : X) → Contains (part (reduced_all m [])) x → ⊥) where
    from : (ws : List Constraint) → (reduced_all m ws).fault ≡ None → (x : X) → Contains (part (reduced_all m ws)) x → (w : Constraint) × Contains ws w × Contains (part (reduced m w)) x
    from [] h x q = absurd (none x q)
    from (v ∷ ws) h x q =
        let two = both_none (reduced m v) (reduced_all m ws) h in
        elim (Contains-append_cases (part (reduced m v)) (part (reduced_all m ws)) x (subst (λ (xs : List X). Contains xs x) (joins (reduced m v) (reduced_all m ws) two.0) q)) [
          | inl p ↦ (v, here v ws, p)
          | inr p ↦ let k = from ws two.1 x p in (k.0, there v ws k.0 k.1, k.2)
        ]

    to : (ws : List Constraint) → (reduced_all m ws).fault ≡ None → (x : X) (w : Constraint) → Contains ws w → Contains (part (reduced m w)) x → Contains (part (reduced_all m ws)) x
    to [] h x w q p = absurd (let lt : q.0 < 0 = q.1 in omega arith)
    to (v ∷ ws) h x w q p =
        let two = both_none (reduced m v) (reduced_all m ws) h in
        subst (λ (xs : List X). Contains xs x) (sym (joins (reduced m v) (reduced_all m ws) two.0)) (elim (split v ws w q) [
          | inl e ↦ Contains-append_left (part (reduced m v)) (part (reduced_all m ws)) x (subst (λ (y : Constraint). Contains (part (reduced m y)) x) (sym e) p)
          | inr k ↦ Contains-append_right (part (reduced m v)) (part (reduced_all m ws)) x (to ws two.1 x w k p)
        ])

    goes : (ws vs : List Constraint) → ((w : Constraint) → Contains ws w → Contains vs w) → (reduced_all m ws).fault ≡ None → (reduced_all m vs).fault ≡ None → (x : X) → Contains (part (reduced_all m ws)) x → Contains (part (reduced_all m vs)) x
    goes ws vs h a b x q = let k = from ws a x q in to vs b x k.0 (h k.0 k.1) k.2

    pub same_parts : (ws vs : List Constraint) → SameMembers ws vs → (reduced_all m ws).fault ≡ None → (reduced_all m vs).fault ≡ None → SameMembers (part (reduced_all m ws)) (part (reduced_all m vs))
    same_parts ws vs h a b x = (goes ws vs (λ w. (h w).0) a b x, goes vs ws (λ w. (h w).1) b a x)

  pub order : (ws vs : List Constraint) → SameMembers ws vs → (reduced_all m ws).fault ≡ None
      → ((reduced_all m vs).fault ≡ None) × SameMembers (reduced_all m ws).rest (reduced_all m vs).rest × SameMembers (reduced_all m ws).met (reduced_all m vs).met
  order ws vs h a =
      let b : (reduced_all m vs).fault ≡ None = all_none vs (λ w q. each_none ws a w ((h w).1 q)) in (
        b,
        same_parts (λ o. o.rest) (λ x y e. ap (λ o. o.rest) (then_plain x y e)) (λ x q. let lt : q.0 < 0 = q.1 in omega arith) ws vs h a b,
        same_parts (λ o. o.met) (λ x y e. ap (λ o. o.met) (then_plain x y e)) (λ x q. let lt : q.0 < 0 = q.1 in omega arith) ws vs h a b,
      )

  -- a constraint that is there already, put before the others
  pub repeated : (w : Constraint) (ws : List Constraint) → Contains ws w → (reduced_all m ws).fault ≡ None
      → ((reduced_all m (w ∷ ws)).fault ≡ None) × SameMembers (reduced_all m ws).rest (reduced_all m (w ∷ ws)).rest × SameMembers (reduced_all m ws).met (reduced_all m (w ∷ ws)).met
  repeated w ws q a = order ws (w ∷ ws) (λ x. ((λ k. there w ws x k), (λ k. elim (split w ws x k) [ inl e ↦ subst (Contains ws) e q | inr p ↦ p ]))) a
