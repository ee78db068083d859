-- A type as a term, its levels, and what is read back of one.
use Rattle.std.specs.Prelude.{ℕ, ◌+◌, ◌<◌, ◌≤◌, ◌≡◌, ◌⊎◌, Option, Some, None, max}
use Rattle.mk_base.specs.declared.ty.Ty.{Ty}
use Rattle.mk_base.specs.declared.ty.Ty.TheOpen.{Ty-F}
use Rattle.mk_base.specs.declared.ty.Ty.TheOpen.Ty-F.{Var, Con, App}
use Rattle.mk_base.specs.declared.ty.Ty.TheFolds.{fold-Ty}
use Rattle.unifiers.specs.Term.{Term, size}
use Rattle.unifiers.specs.Term.Term.{var, con, app}

abbrev pub term_step : Ty-F Term → Term
term_step (Var n) = var n
term_step (Con c) = con c
term_step (App f x) = app f x

-- a type as a term
abbrev pub term_of : Ty → Term
term_of = fold-Ty Term term_step

-- the nodes of the longest path from the root
abbrev pub depth : Term → ℕ
depth (var n) = 1
depth (con c) = 1
depth (app f a) = max (depth f) (depth a) + 1

-- the type of the term t, or none where it has more levels or more nodes than are left
abbrev pub IsRead : Term → ℕ → ℕ → ℕ → Option Ty → Type 0
IsRead t levels before after None = (levels < depth t) ⊎ (before < size t)
IsRead t levels before after (Some ty) = (term_of ty ≡ t) × (depth t ≤ levels) × (before ≡ after + size t)
