use Rattle.std.proofs.Common.{◌≡◌, None, rules}
use Rattle.package_graph.specs.Targets.{home_in, is_home}
use Rattle.package_graph.proofs.Positions.{put_last}
use Rattle.package_graph.proofs.tables.add_home.Goals as goal

pub returns-in_ok-insert : goal.returns-in_ok-insert
returns-in_ok-insert c = λ u m.
    let none : home_in c.args.homes.now c.args.home.unit.now c.args.home.«module».now ≡ None = search rules in
    put_last (λ h. is_home h.unit.now h.«module».now) c.args.homes.now c.insert.new.self c.args.home c.args.place none c.in_ok-insert.ensures.entries (is_home u m)
