use Rattle.std.proofs.Common.{◌≡◌, ◌∙◌, ap}
use Rattle.package_graph.specs.declared.modules.PackageModule.{PackageModule}
use Rattle.package_graph.specs.Targets.{targets_in}
use Rattle.package_graph.proofs.PackageRows.{edges_next}
use Rattle.package_graph.proofs.tables.package_edges.Goals as goal

pub loop-module-preserved : goal.loop-module-preserved
loop-module-preserved c =
    let p : PackageModule = c.module-item.result in
    let made : c.in_ok-targets.targets.items ≡ targets_in c.in_ok-homes.homes c.args.firsts.now p.unit.text p.reaches =
    c.in_ok-targets.ensures ∙ ap (targets_in c.in_ok-homes.homes c.args.firsts.now p.unit.text) c.as_slice-names.ensures in
    edges_next c.args.modules.now c.in_ok-homes.homes c.args.firsts.now c.loop-module.module-index c.module-item.result c.loop-module.edges.items c.in_ok-targets.targets c.push.new.self.items
    c.in_ok-homes.ensures c.requires.firsts c.loop-module-test.true c.module-item.is made c.in_ok-push.ensures.items c.loop-module.invariant
