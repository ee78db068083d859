-- The order of diagnostics by their places.
use Rattle.std.specs.Prelude.{ℕ, List, map}
use Rattle.mk_base.specs.declared.diag.Diag.{Diag}
use Rattle.plain_form.specs.declared.form.Written.{Written}
use Rattle.hs_syntax.specs.Rising.{AreRising}
use Rattle.plain_form.specs.Form.{places, words}
use Rattle.plain_scope.specs.declared.scope.Content.{Content}
use Rattle.plain_scope.specs.Scope.{scope_diags}

-- each diagnostic stands before all that are behind it
abbrev pub AreOrdered : List Diag → Type 0
AreOrdered ds = AreRising (map (λ (d : Diag). d.at) ds)

-- Where the names of a module stand in the order of their places, so do its diagnostics, no two at one place.
abbrev pub DiagnosticsAreOrdered : Type 0
DiagnosticsAreOrdered = (unit m : List ℕ) (w : Written) (imported : List Content) → AreRising (places (words w)) → AreOrdered (scope_diags unit m w imported)
