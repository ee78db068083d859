use Rattle.package_graph.specs.declared.modules.PackageModule.{PackageModule}
use Rattle.mk_base.specs.Texts.{same_text}
use Rattle.package_graph.proofs.Positions.{first_next}
use Rattle.package_graph.proofs.tables.firsts_of.Goals as goal

pub loop-place-preserved : goal.loop-place-preserved
loop-place-preserved c = λ m.
    first_next (λ (p : PackageModule). same_text m p.«module».text) c.args.modules.now c.loop-place.place c.index-modules-place.result _ _ c.loop-place-test.true c.index-modules-place.is (c.in_ok-add_first.ensures m) (c.loop-place.invariant m)
