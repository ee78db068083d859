use Rattle.std.proofs.Common.{◌≡◌, ◌++◌, rules}
use Rattle.bind_groups.specs.Numbers.{one_number}
use Rattle.bind_groups.proofs.Named.{places_next}
use Rattle.bind_groups.proofs.rows.places_in.Goals.{in-Some+in_ok-push, in_default}
use Rattle.bind_groups.proofs.rows.places_in.Goals as goal

pub loop-name-preserved : goal.loop-name-preserved
loop-name-preserved c =
    let made : c.match-place_of.places.items ≡ c.loop-name.places.items ++ one_number c.place_of.result = elim c.match-place_of.branch [ in-Some+in_ok-push w ↦ search rules | in_default w ↦ search rules ] in
    places_next c.args.names.now.keys c.args.some.now c.loop-name.places.items c.match-place_of.places.items c.loop-name.name-index c.place_of.result c.loop-name-test.true c.place_of.ensures made c.loop-name.invariant
