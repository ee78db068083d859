-- One module through its stages.
use Rattle.std.specs.Prelude.{List, [], ◌∷◌, Result, Ok, Err}
use Rattle.std.specs.Prelude.{ℕ}
use Rattle.mk_base.specs.declared.name.Node.{Node}
use Rattle.mk_base.specs.declared.diag.Diag.{Diag}
use Rattle.mk_base.specs.declared.place.Pos.{Pos}
use Rattle.hs_syntax.specs.declared.token.Token.{Token}
use Rattle.hs_lex.specs.Slow.{read_source}
use Rattle.hs_lex.specs.Told.{no_lexeme}
use Rattle.hs_layout.specs.Braced.{braced}
use Rattle.plain_form.specs.declared.form.Written.{Written}
use Rattle.plain_scope.specs.declared.scope.Content.{Content}
use Rattle.plain_scope.specs.declared.scope.Checked.{Checked}
use Rattle.plain_scope.specs.declared.scope.Checked.TheVariants.{Sound, Wrong}
use Rattle.plain_scope.specs.Scope.{check_of}
use Rattle.unbuilt_forms.specs.Unbuilt.{items}
use Rattle.module_check.specs.declared.check.CheckSettings.{CheckSettings}

-- lexemes are laid out and read as items
abbrev pub of_lexemes : Node → Result (List Token) Pos → Result Written Diag
of_lexemes n (Ok ts) = items n (braced ts)
of_lexemes n (Err at) = Err (no_lexeme at)

-- the items of a source, or the one diagnostic of the first stage that has one
abbrev pub items_of : Node → List ℕ → Result Written Diag
items_of n s = of_lexemes n (read_source s)

abbrev pub outcome_of : Checked → Result Content (List Diag)
outcome_of (Sound c) = Ok c
outcome_of (Wrong ds) = Err ds

abbrev pub behind_items : CheckSettings → Node → Written → List Content → Result Content (List Diag)
behind_items g n w cs = outcome_of (check_of g.unit.text n.module.text w cs)

abbrev pub after_items : CheckSettings → Node → Result Written Diag → List Content → Result Content (List Diag)
after_items g n (Ok w) cs = behind_items g n w cs
after_items g n (Err d) cs = Err (d ∷ [])

-- A module from its source and what its imports offer: what it offers, or the diagnostics of the first stage that has any.
unfoldable pub check : CheckSettings → Node → List ℕ → List Content → Result Content (List Diag)
check g n s cs = after_items g n (items_of n s) cs
