-- What a check answers, by the items of the module.
use Rattle.std.proofs.Common.{◌≡◌, ℕ, List, [], ◌∷◌, ap, sym, ◌∙◌, Result, Ok, Err}
use Rattle.mk_base.specs.declared.name.Node.{Node}
use Rattle.mk_base.specs.declared.diag.Diag.{Diag}
use Rattle.plain_form.specs.declared.form.Written.{Written}
use Rattle.plain_scope.specs.declared.scope.Content.{Content}
use Rattle.module_check.specs.declared.check.CheckSettings.{CheckSettings}
use Rattle.module_check.specs.Check.{after_items, behind_items, check, items_of}

abbrev pub wrong : List Diag → Result Content (List Diag)
wrong ds = Err ds

module _ (g : CheckSettings) (n : Node) (s : List ℕ) (cs : List Content) (r : Result Written Diag) (are : r ≡ items_of n s) where
  -- a module with items goes on
  pub goes_on : (w : Written) → r ≡ Ok w → behind_items g n w cs ≡ check g n s cs
  unfolding check
  goes_on w e = ap (λ x. after_items g n x cs) (sym e ∙ are)

  -- one without has that diagnostic
  pub stops : (ds : List Diag) (d : Diag) → ds ≡ d ∷ [] → r ≡ Err d → wrong ds ≡ check g n s cs
  unfolding check
  stops ds d f e = ap wrong f ∙ ap (λ x. after_items g n x cs) (sym e ∙ are)
