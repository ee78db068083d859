-- Types as trees over which a definition goes by recursion.
use Rattle.std.specs.Prelude.{ℕ}
use Rattle.mk_base.specs.declared.name.Name.{Name}
use Rattle.mk_base.specs.declared.ty.Ty.{Ty}
use Rattle.mk_base.specs.declared.ty.Ty.TheOpen.{Ty-F}
use Rattle.mk_base.specs.declared.ty.Ty.TheOpen.Ty-F.{Var as Variable, Con as Constructor, App as Application}
use Rattle.mk_base.specs.declared.ty.Ty.TheFolds.{fold-Ty}

-- a variable, a constructor, or an application
pub data Term : Type 0 where
  Var : ℕ → Term
  Con : Name → Term
  App : Term → Term → Term

abbrev pub term_step : Ty-F Term → Term
term_step (Variable n) = Var n
term_step (Constructor a) = Con a
term_step (Application f x) = App f x

abbrev pub term_of : Ty → Term
term_of = fold-Ty Term term_step
