-- Reducing reads the instances of the pairs that it meets alone.
use Rattle.std.proofs.Common.{◌≡◌, ℕ, zero, suc, ◌+◌, List, [], ◌∷◌, get_or, length, Option, Some, None, sym, ◌∙◌, ap, refl, arith}
use Rattle.std.specs.List.{Contains}
use Rattle.std.proofs.lemmas.List.Elements.{Contains-append_left, Contains-append_right}
use Rattle.class_env.specs.Terms.{Term, Var, Con, App, term_of}
use Rattle.class_env.specs.declared.outcome.Pair.{Pair}
use Rattle.face_model.specs.declared.scheme.Constraint.{Constraint}
use Rattle.face_model.specs.declared.inst.Inst.{Inst}
use Rattle.mk_base.specs.declared.name.Name.{Name}
use Rattle.class_env.specs.declared.outcome.Fault.{Fault}
use Rattle.class_env.specs.Instances.{Outcome, outcome, nothing, unless, then, Only, No, One, Several, only_of}
use Rattle.class_env.specs.Spine.{place}
use Rattle.class_env.specs.Reduce.{reduce_at, by_instance, at_place, at_arguments, pair, reduced, reduced_all, stop, stops}
use Rattle.class_env.specs.Laws.{AgreesAt}
use Rattle.class_env.proofs.Outcomes.{then_stopped}

pub pair_in : (o : Only) (p : Pair) (args : List (Name → Outcome)) → Contains (by_instance o p args).met p
pair_in No p args = (0, omega arith, refl)
pair_in (One i) p args = (0, omega arith, refl)
pair_in Several p args = (0, omega arith, refl)

module _ (m n : Name → Name → List Inst) where
  -- where the views agree at what the first met, the second is the same
  abbrev pub Follows : Outcome → Outcome → Type 0
  Follows a b = AgreesAt m n a.met → a ≡ b

  pub then_follows : (a b c d : Outcome) → Follows a c → Follows b d → Follows (then a b) (then c d)
  then_follows a b c d f g h = at a.fault refl h where
    at : (x : Option Fault) → a.fault ≡ x → AgreesAt m n (unless x a.rest a.met b).met → then a b ≡ then c d
    at None e k =
        let first : a ≡ c = f (λ p q. k p (Contains-append_left a.met b.met p q)) in
        let second : b ≡ d = g (λ p q. k p (Contains-append_right a.met b.met p q)) in
        ap (λ x. then x b) first ∙ ap (then c) second
    at (Some y) e k =
        let first : a ≡ c = f k in
        then_stopped a b y e ∙ first ∙ sym (then_stopped c d y (ap (λ x. x.fault) (sym first) ∙ e))

  abbrev pub FollowAll : List (Name → Outcome) → List (Name → Outcome) → Type 0
  FollowAll [] [] = Unit {0}
  FollowAll [] (g ∷ gs) = ⊥
  FollowAll (f ∷ fs) [] = ⊥
  FollowAll (f ∷ fs) (g ∷ gs) = ((c : Name) → Follows (f c) (g c)) × FollowAll fs gs

  follows_at : (fs gs : List (Name → Outcome)) → FollowAll fs gs → (k : ℕ) (c : Name) → Follows (get_or fs k (λ x. nothing) c) (get_or gs k (λ x. nothing) c)
  follows_at [] [] r k c h = refl
  follows_at [] (g ∷ gs) r k c h = absurd r
  follows_at (f ∷ fs) [] r k c h = absurd r
  follows_at (f ∷ fs) (g ∷ gs) r zero c h = r.0 c h
  follows_at (f ∷ fs) (g ∷ gs) r (suc k) c h = follows_at fs gs r.1 k c h

  place_follows : (fs gs : List (Name → Outcome)) → FollowAll fs gs → (o : Option ℕ) (c : Name) → Follows (at_place o c fs) (at_place o c gs)
  place_follows fs gs r None c h = refl
  place_follows fs gs r (Some k) c h = follows_at fs gs r k c h

  lengths : (fs gs : List (Name → Outcome)) → FollowAll fs gs → length fs ≡ length gs
  lengths [] [] r = refl
  lengths [] (g ∷ gs) r = absurd r
  lengths (f ∷ fs) [] r = absurd r
  lengths (f ∷ fs) (g ∷ gs) r = ap suc (lengths fs gs r.1)

  arguments_follow : (ks : List Constraint) (fs gs : List (Name → Outcome)) → FollowAll fs gs → Follows (at_arguments ks fs) (at_arguments ks gs)
  arguments_follow [] fs gs r h = refl
  arguments_follow (k ∷ ks) fs gs r h =
      then_follows (at_place (place (term_of k.ty)) k.class fs) (at_arguments ks fs) (at_place (place (term_of k.ty)) k.class gs) (at_arguments ks gs)
      (place_follows fs gs r (place (term_of k.ty)) k.class) (arguments_follow ks fs gs r) h

  instance_follows : (o : Only) (p : Pair) (fs gs : List (Name → Outcome)) → FollowAll fs gs → Follows (by_instance o p fs) (by_instance o p gs)
  instance_follows No p fs gs r h = refl
  instance_follows (One i) p fs gs r h = then_follows (outcome [] (p ∷ []) None) (at_arguments i.context fs) (outcome [] (p ∷ []) None) (at_arguments i.context gs) (λ k. refl) (arguments_follow i.context fs gs r) h
  instance_follows Several p fs gs r h = refl

  pub follows : (t : Term) (fs gs : List (Name → Outcome)) → FollowAll fs gs → (c : Name) → Follows (reduce_at m t fs c) (reduce_at n t gs c)
  follows (Var v) [] [] r c h = refl
  follows (Var v) [] (g ∷ gs) r c h = absurd r
  follows (Var v) (f ∷ fs) [] r c h = absurd r
  follows (Var v) (f ∷ fs) (g ∷ gs) r c h = refl
  follows (Con t) fs gs r c h =
      let same : m c t ≡ n c t = h (pair c t) (pair_in (only_of (m c t) (length fs)) (pair c t) fs) in
      instance_follows (only_of (m c t) (length fs)) (pair c t) fs gs r h
      ∙ ap (λ (k : ℕ). by_instance (only_of (m c t) k) (pair c t) gs) (lengths fs gs r)
      ∙ ap (λ (is : List Inst). by_instance (only_of is (length gs)) (pair c t) gs) same
  follows (App f a) fs gs r c h = follows f (reduce_at m a [] ∷ fs) (reduce_at n a [] ∷ gs) ((λ d. follows a [] [] tt d), r) c h

  pub one_follows : (w : Constraint) → Follows (reduced m w) (reduced n w)
  one_follows w h = follows (term_of w.ty) [] [] tt w.class h

  pub all_follow : (ws : List Constraint) → Follows (reduced_all m ws) (reduced_all n ws)
  all_follow [] h = refl
  all_follow (w ∷ ws) h = then_follows (reduced m w) (reduced_all m ws) (reduced n w) (reduced_all n ws) (one_follows w) (all_follow ws) h

  pub stops_follow : (ws : List Constraint) (k : ℕ) → AgreesAt m n (reduced_all m ws).met → stops m ws k ≡ stops n ws k
  stops_follow [] k h = refl
  stops_follow (w ∷ ws) k h = at (λ j. stops_follow ws (k + 1) j) (reduced m w).fault refl h where
    at : (AgreesAt m n (reduced_all m ws).met → stops m ws (k + 1) ≡ stops n ws (k + 1)) → (x : Option Fault) → (reduced m w).fault ≡ x → AgreesAt m n (unless x (reduced m w).rest (reduced m w).met (reduced_all m ws)).met → stops m (w ∷ ws) k ≡ stops n (w ∷ ws) k
    at on None e j =
        let first : (reduced m w).fault ≡ (reduced n w).fault = ap (λ x. x.fault) (one_follows w (λ p q. j p (Contains-append_left (reduced m w).met (reduced_all m ws).met p q))) in
        let rest : stops m ws (k + 1) ≡ stops n ws (k + 1) = on (λ p q. j p (Contains-append_right (reduced m w).met (reduced_all m ws).met p q)) in
        ap (λ x. stop m x k (stops m ws (k + 1))) first ∙ ap (λ x. stop m (reduced n w).fault k x) rest
    at on (Some y) e j =
        let first : (reduced m w).fault ≡ (reduced n w).fault = ap (λ x. x.fault) (one_follows w j) in
        ap (λ x. stop m x k (stops m ws (k + 1))) e ∙ sym (ap (λ x. stop n x k (stops n ws (k + 1))) (sym first ∙ e))

pub pairs_met : (m n : Name → Name → List Inst) (ws : List Constraint) → AgreesAt m n (reduced_all m ws).met → (reduced_all m ws ≡ reduced_all n ws) × (stops m ws 0 ≡ stops n ws 0)
pairs_met m n ws h = (all_follow m n ws h, stops_follow m n ws 0 h)
