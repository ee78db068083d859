-- What a kind prints: a layer at a time, from what its parts print.
use Rattle.std.specs.Prelude.{ℕ, List, [], ◌∷◌, ◌++◌, codes}
use Rattle.mk_base.specs.declared.kind.Kind.{Kind}
use Rattle.mk_base.specs.declared.kind.Kind.TheOpen.{Kind-F}
use Rattle.mk_base.specs.declared.kind.Kind.TheOpen.Kind-F.{Star, Arrow}
use Rattle.mk_base.specs.declared.kind.Kind.TheFolds.{fold-Kind}

abbrev pub text_step : Kind-F (List ℕ) → List ℕ
text_step Star = codes "*"
text_step (Arrow f x) = 40 ∷ f ++ codes " -> " ++ x ++ 41 ∷ []

abbrev pub kind_text : Kind → List ℕ
kind_text = fold-Kind (List ℕ) text_step
