-- What a type prints, and how many levels it has: a layer at a time, from what its parts give.
use Rattle.std.specs.Prelude.{ℕ, ◌+◌, List, [], ◌∷◌, ◌++◌, max}
use Rattle.std.specs.Fmt.{decimal}
use Rattle.mk_base.specs.declared.ty.Ty.{Ty}
use Rattle.mk_base.specs.declared.ty.Ty.TheOpen.{Ty-F}
use Rattle.mk_base.specs.declared.ty.Ty.TheOpen.Ty-F.{Var, Con, App}
use Rattle.mk_base.specs.declared.ty.Ty.TheFolds.{fold-Ty}

-- `t` and the number, the module's and the name's text, or two parts in parentheses
abbrev pub text_step : Ty-F (List ℕ) → List ℕ
text_step (Var n) = 116 ∷ decimal n
text_step (Con n) = n.module.text ++ 46 ∷ n.occ.text
text_step (App f x) = 40 ∷ f ++ 32 ∷ x ++ 41 ∷ []

abbrev pub ty_text : Ty → List ℕ
ty_text = fold-Ty (List ℕ) text_step

-- the nodes of the longest path from the root
abbrev pub levels_step : Ty-F ℕ → ℕ
levels_step (Var n) = 1
levels_step (Con n) = 1
levels_step (App f x) = max f x + 1

abbrev pub levels_of : Ty → ℕ
levels_of = fold-Ty ℕ levels_step
