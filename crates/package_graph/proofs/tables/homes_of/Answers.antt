use Rattle.std.proofs.Common.{◌&&◌}
use Rattle.package_graph.specs.declared.modules.PackageModule.{PackageModule}
use Rattle.mk_base.specs.Texts.{same_text}
use Rattle.package_graph.proofs.Positions.{first_next}
use Rattle.package_graph.proofs.tables.homes_of.Goals as goal

pub loop-place-preserved : goal.loop-place-preserved
loop-place-preserved c = λ u m.
    first_next (λ (p : PackageModule). same_text u p.unit.text && same_text m p.«module».text) c.args.modules.now c.loop-place.place c.index-modules-place.result _ _ c.loop-place-test.true c.index-modules-place.is (c.in_ok-add_home.ensures u m) (c.loop-place.invariant u m)
