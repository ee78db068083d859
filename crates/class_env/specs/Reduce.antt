-- Reducing as a fold over the type: an instance's context is on its variables, so each step goes to an argument.
use Rattle.std.specs.Prelude.{ℕ, ◌+◌, List, [], ◌∷◌, Option, Some, None, get_or, map, length}
use Rattle.mk_base.specs.declared.name.Name.{Name}
use Rattle.mk_base.specs.declared.ty.Ty.TheVariants as types
use Rattle.face_model.specs.declared.inst.Inst.{Inst}
use Rattle.face_model.specs.declared.scheme.Constraint.{Constraint}
use Rattle.class_env.specs.declared.outcome.Pair.{Pair}
use Rattle.class_env.specs.declared.outcome.Fault.{Fault}
use Rattle.class_env.specs.declared.outcome.Fault.TheVariants as faults
use Rattle.class_env.specs.declared.outcome.Gathered.{Gathered}
use Rattle.class_env.specs.Terms.{Term, Var, Con, App, term_of}
use Rattle.class_env.specs.Spine.{arguments, place}
use Rattle.class_env.specs.Instances.{Outcome, outcome, nothing, then, Only, No, One, Several, only_of}

abbrev pub pair : Name → Name → Pair
pair c h = record { class = c; head = h }

abbrev pub constraint : Name → ℕ → Constraint
constraint c n = record { class = c; ty = types.Var n }

-- a variable, from what is known of the arguments that it is applied to
abbrev pub on_variable : ℕ → List (Name → Outcome) → Name → Outcome
on_variable n [] c = outcome (constraint c n ∷ []) [] None
on_variable n (a ∷ args) c = outcome [] [] (Some faults.NoInstanceVar)

-- an argument by its place, by what it gives for a class
abbrev pub at_place : Option ℕ → Name → List (Name → Outcome) → Outcome
at_place None c args = nothing
at_place (Some n) c args = get_or args n (λ d. nothing) c

-- a context at arguments; in an environment each of its constraints is on a variable that has an argument
abbrev pub at_arguments : List Constraint → List (Name → Outcome) → Outcome
at_arguments [] args = nothing
at_arguments (k ∷ ks) args = then (at_place (place (term_of k.ty)) k.class args) (at_arguments ks args)

abbrev pub by_instance : Only → Pair → List (Name → Outcome) → Outcome
by_instance No p args = outcome [] (p ∷ []) (Some (faults.NoInstance p))
by_instance (One i) p args = then (outcome [] (p ∷ []) None) (at_arguments i.context args)
by_instance Several p args = outcome [] (p ∷ []) (Some (faults.Several p))

-- over the instances of a class at a constructor
module _ (members : Name → Name → List Inst) where
  -- a class at a type, which is applied to arguments
  abbrev pub reduce_at : Term → List (Name → Outcome) → Name → Outcome
  reduce_at (Var n) args c = on_variable n args c
  reduce_at (Con h) args c = by_instance (only_of (members c h) (length args)) (pair c h) args
  reduce_at (App f x) args c = reduce_at f (reduce_at x [] ∷ args) c

  -- what each argument of a type gives
  abbrev pub given : Term → List (Name → Outcome)
  given t = map (λ a. reduce_at a []) (arguments t)

  abbrev pub reduced : Constraint → Outcome
  reduced w = reduce_at (term_of w.ty) [] w.class

  -- constraints in turn
  abbrev pub reduced_all : List Constraint → Outcome
  reduced_all [] = nothing
  reduced_all (w ∷ ws) = then (reduced w) (reduced_all ws)

  -- the place of the first constraint without a result, those before it included
  abbrev pub stop : Option Fault → ℕ → Option ℕ → Option ℕ
  stop None n after = after
  stop (Some f) n after = Some n

  abbrev pub stops : List Constraint → ℕ → Option ℕ
  stops [] n = None
  stops (w ∷ ws) n = stop (reduced w).fault n (stops ws (n + 1))

-- what was gathered, and what ended it
abbrev pub so_far : Gathered → Option Fault → Outcome
so_far g f = outcome g.rest g.met f
