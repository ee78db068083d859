-- One result behind another, and a type by its head and arguments.
use Rattle.std.proofs.Common.{◌≡◌, ℕ, ◌<◌, List, [], ◌∷◌, ◌++◌, map, length, Option, Some, None, sym, ◌∙◌, ap, refl, arith}
use Rattle.std.proofs.lemmas.List.{append_assoc, append-nil, length-map}
use Rattle.class_env.specs.Terms.{Term, Var, Con, App}
use Rattle.class_env.specs.declared.outcome.Pair.{Pair}
use Rattle.face_model.specs.declared.scheme.Constraint.{Constraint}
use Rattle.face_model.specs.declared.inst.Inst.{Inst}
use Rattle.mk_base.specs.declared.name.Name.{Name}
use Rattle.class_env.specs.declared.outcome.Fault.{Fault}
use Rattle.class_env.specs.Instances.{Outcome, outcome, unless, then, Only, One, only_of}
use Rattle.class_env.specs.Spine.{Head, Variable, Constructor, head, arguments}
use Rattle.class_env.specs.declared.outcome.Fault.TheVariants.{NoInstanceVar}
use Rattle.class_env.specs.Reduce.{reduce_at, given, on_variable, at_arguments, by_instance, pair, constraint}

pub then_assoc : (a b c : Outcome) → then (then a b) c ≡ then a (then b c)
then_assoc a b c = assoc_at a.fault b.fault where
  assoc_at : (f g : Option Fault) → then (unless f a.rest a.met (outcome b.rest b.met g)) c ≡ unless f a.rest a.met (then (outcome b.rest b.met g) c)
  assoc_at (Some f) g = refl
  assoc_at None (Some g) = refl
  assoc_at None None = let l = append_assoc a.rest b.rest c.rest in let m = append_assoc a.met b.met c.met in cc

pub then_stopped : (a b : Outcome) (f : Fault) → a.fault ≡ Some f → then a b ≡ a
then_stopped a b f e = ap (λ g. unless g a.rest a.met b) e ∙ ap (λ g. outcome a.rest a.met g) (sym e)

-- the context of the one instance behind what is there and the pair
pub on_one : (rest : List Constraint) (met more : List Pair) (p q : Pair) (o : Only) (i : Inst) (ks : List Constraint) (args : List (Name → Outcome)) → more ≡ met ++ q ∷ [] → q ≡ p → One i ≡ o → ks ≡ i.context
    → then (outcome rest more None) (at_arguments ks args) ≡ then (outcome rest met None) (by_instance o p args)
on_one rest met more p q o i ks args pushed copied one same =
    let x = at_arguments i.context args in
    ap (λ (m : List Pair). then (outcome rest m None) (at_arguments ks args)) pushed
    ∙ ap (λ (r : Pair). then (outcome rest (met ++ r ∷ []) None) (at_arguments ks args)) copied
    ∙ ap (λ (k : List Constraint). then (outcome rest (met ++ p ∷ []) None) (at_arguments k args)) same
    ∙ ap (λ (m : List Pair). outcome (rest ++ x.rest) m x.fault) (append_assoc met (p ∷ []) x.met)
    ∙ ap (λ (y : Only). then (outcome rest met None) (by_instance y p args)) one

-- a type that is applied to arguments, by its head
abbrev pub at_head : (Name → Name → List Inst) → Head → List (Name → Outcome) → Name → Outcome
at_head members (Variable v) args c = on_variable v args c
at_head members (Constructor t) args c = by_instance (only_of (members c t) (length args)) (pair c t) args

pub by_head : (members : Name → Name → List Inst) (t : Term) (args : List (Name → Outcome)) (c : Name) → reduce_at members t args c ≡ at_head members (head t) (given members t ++ args) c
by_head members (Var v) args c = refl
by_head members (Con t) args c = refl
by_head members (App f a) args c =
    let h : reduce_at members f (reduce_at members a [] ∷ args) c ≡ at_head members (head f) (given members f ++ reduce_at members a [] ∷ args) c = by_head members f (reduce_at members a [] ∷ args) c in
    h ∙ ap (λ (xs : List (Name → Outcome)). at_head members (head f) xs c) (step (arguments f)) where
      step : (ts : List Term) → map (λ x. reduce_at members x []) ts ++ reduce_at members a [] ∷ args ≡ map (λ x. reduce_at members x []) (ts ++ a ∷ []) ++ args
      step [] = refl
      step (t ∷ ts) = ap (λ xs. reduce_at members t [] ∷ xs) (step ts)

pub alone : (members : Name → Name → List Inst) (t : Term) (c : Name) → reduce_at members t [] c ≡ at_head members (head t) (given members t) c
alone members t c = by_head members t [] c ∙ ap (λ (xs : List (Name → Outcome)). at_head members (head t) xs c) (append-nil (given members t))

-- what is gathered behind what is there, by the head
module _ (members : Name → Name → List Inst) (t : Term) (c : Name) where
  heads : (h : Head) → head t ≡ h → reduce_at members t [] c ≡ at_head members h (given members t) c
  heads h e = alone members t c ∙ ap (λ (x : Head). at_head members x (given members t) c) e

  pub on_applied : (v : ℕ) (rest : List Constraint) (met : List Pair) → head t ≡ Variable v → 0 < length (arguments t) → outcome rest met (Some NoInstanceVar) ≡ then (outcome rest met None) (reduce_at members t [] c)
  on_applied v rest met e more =
      let k : on_variable v (given members t) c ≡ outcome [] [] (Some NoInstanceVar) = at (arguments t) more in
      let r : reduce_at members t [] c ≡ outcome [] [] (Some NoInstanceVar) = heads (Variable v) e ∙ k in
      let l = append-nil rest in let m = append-nil met in
      let s : then (outcome rest met None) (outcome [] [] (Some NoInstanceVar)) ≡ outcome rest met (Some NoInstanceVar) = cc in
      sym (ap (λ (x : Outcome). then (outcome rest met None) x) r ∙ s) where
        at : (ts : List Term) → 0 < length ts → on_variable v (map (λ a. reduce_at members a []) ts) c ≡ outcome [] [] (Some NoInstanceVar)
        at [] h = absurd (omega arith)
        at (a ∷ ts) h = refl

  on_plain : (v : ℕ) (rest : List Constraint) (met : List Pair) → head t ≡ Variable v → (0 < length (arguments t) → ⊥) → outcome (rest ++ constraint c v ∷ []) met None ≡ then (outcome rest met None) (reduce_at members t [] c)
  on_plain v rest met e none =
      let k : on_variable v (given members t) c ≡ outcome (constraint c v ∷ []) [] None = at (arguments t) none in
      let r : reduce_at members t [] c ≡ outcome (constraint c v ∷ []) [] None = heads (Variable v) e ∙ k in
      let m = append-nil met in
      let s : then (outcome rest met None) (outcome (constraint c v ∷ []) [] None) ≡ outcome (rest ++ constraint c v ∷ []) met None = cc in
      sym (ap (λ (x : Outcome). then (outcome rest met None) x) r ∙ s) where
        at : (ts : List Term) → (0 < length ts → ⊥) → on_variable v (map (λ a. reduce_at members a []) ts) c ≡ outcome (constraint c v ∷ []) [] None
        at [] h = refl
        at (a ∷ ts) h = absurd (h (omega arith))

  pub on_plain_pushed : (v : ℕ) (rest more : List Constraint) (met : List Pair) (d : Name) → head t ≡ Variable v → (0 < length (arguments t) → ⊥) → d ≡ c → more ≡ rest ++ constraint d v ∷ [] → outcome more met None ≡ then (outcome rest met None) (reduce_at members t [] c)
  on_plain_pushed v rest more met d e none copied pushed =
      ap (λ (xs : List Constraint). outcome xs met None) pushed ∙ ap (λ (x : Name). outcome (rest ++ constraint x v ∷ []) met None) copied ∙ on_plain v rest met e none

  pub at_con : (k : Name) (is : List Inst) (a : Outcome) → head t ≡ Constructor k → is ≡ members c k → then a (by_instance (only_of is (length (arguments t))) (pair c k) (given members t)) ≡ then a (reduce_at members t [] c)
  at_con k is a e f =
      let len : length (given members t) ≡ length (arguments t) = length-map (arguments t) (λ a. reduce_at members a []) in
      let r : reduce_at members t [] c ≡ by_instance (only_of is (length (arguments t))) (pair c k) (given members t) =
      heads (Constructor k) e ∙ ap (λ (n : ℕ). by_instance (only_of (members c k) n) (pair c k) (given members t)) len ∙ ap (λ (xs : List Inst). by_instance (only_of xs (length (arguments t))) (pair c k) (given members t)) (sym f) in
      ap (then a) (sym r)
