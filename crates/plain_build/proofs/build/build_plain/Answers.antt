use Rattle.build_plan.specs.Plan.{IsPlan}
use Rattle.plain_build.specs.Result.{settings_in}
use Rattle.plain_build.proofs.Trees.{unit_length}
use Rattle.std.proofs.Common.{subst, refl, List}
use Rattle.mk_io.specs.declared.file.File.{File}
use Rattle.build_plan.specs.Tree.{sorted_tree}
use Rattle.plain_build.proofs.build.build_plain.Goals as goal

pub build_nodes-requires : goal.build_nodes-requires
build_nodes-requires g c = record {
  plan = subst (λ (files : List File). IsPlan (sorted_tree (settings_in c.args.input.now) files) c.in_ok-plan.plan) c.as_slice.ensures
      (c.in_ok-plan.ensures (settings_in c.args.input.now) (unit_length c.args.input.now.unit.text c.requires.unit) refl);
}
