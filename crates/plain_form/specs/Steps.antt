-- How a source is read step by step.
use Rattle.std.specs.Prelude.{Bool}
use Rattle.plain_form.specs.declared.form.Written.{Written}
use Rattle.plain_form.specs.declared.state.Stage.TheVariants as stage
use Rattle.plain_form.specs.declared.state.State.{State}

-- a state of which the stage is of no matter
abbrev pub reading : Bool → Written → State
reading put written = record { stage = stage.End; put = put; written = written }
