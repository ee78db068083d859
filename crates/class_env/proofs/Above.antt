-- What a class gives over superclasses, and what is read for it.
use Rattle.std.proofs.Common.{◌≡◌, inl, inr, List, sym, subst, refl}
use Rattle.std.specs.List.{Contains}
use Rattle.mk_base.specs.declared.name.Name.{Name}
use Rattle.class_env.specs.Supers.{Reaches, step, onward, Gives}

module _ (s : Name → List Name) where
  reach_trans : {a b c : Name} → Reaches s a b → Reaches s b c → Reaches s a c
  reach_trans (step h) q = onward h q
  reach_trans (onward h r) q = onward h (reach_trans r q)

  pub gives_trans : (a b c : Name) → Gives s a b → Gives s b c → Gives s a c
  gives_trans a b c (inl e) q = subst (λ (x : Name). Gives s x c) (sym e) q
  gives_trans a b c (inr r) (inl e) = inr (subst (Reaches s a) e r)
  gives_trans a b c (inr r) (inr q) = inr (reach_trans r q)

-- two views of superclasses that agree at all classes that a class gives
module _ (s u : Name → List Name) where
  reach_over : {a c : Name} → Reaches s a c → ((x : Name) → Gives s a x → s x ≡ u x) → Reaches u a c
  reach_over {a} {c} (step h) agree = step (subst (λ (l : List Name). Contains l c) (agree a (inl refl)) h)
  reach_over {a} {c} (onward {b = b} h r) agree =
      onward (subst (λ (l : List Name). Contains l b) (agree a (inl refl)) h) (reach_over r (λ d g. agree d (gives_trans s a b d (inr (step h)) g)))

  reach_back : {a c : Name} → Reaches u a c → ((x : Name) → Gives s a x → s x ≡ u x) → Reaches s a c
  reach_back {a} {c} (step h) agree = step (subst (λ (l : List Name). Contains l c) (sym (agree a (inl refl))) h)
  reach_back {a} {c} (onward {b = b} h r) agree =
      let first : Contains (s a) b = subst (λ (l : List Name). Contains l b) (sym (agree a (inl refl))) h in
      onward first (reach_back r (λ d g. agree d (gives_trans s a b d (inr (step first)) g)))

  pub gives_over : (a b : Name) → ((c : Name) → Gives s a c → s c ≡ u c) → Gives s a b → Gives u a b
  gives_over a b agree (inl e) = inl e
  gives_over a b agree (inr r) = inr (reach_over r agree)

  pub gives_back : (a b : Name) → ((c : Name) → Gives s a c → s c ≡ u c) → Gives u a b → Gives s a b
  gives_back a b agree (inl e) = inl e
  gives_back a b agree (inr r) = inr (reach_back r agree)
