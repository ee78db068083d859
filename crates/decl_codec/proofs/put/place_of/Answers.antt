use Rattle.decl_codec.proofs.Places.{place_found, place_missing}
use Rattle.decl_codec.proofs.put.place_of.Goals as goal

pub returns-in-Ok-clause-at : goal.returns-in-Ok-clause-at
returns-in-Ok-clause-at c = place_found c.args.names.now c.args.name.now c.requires c.in-Ok.at c.in-Ok.ensures.bound c.in-Ok.ensures.ok

pub returns-in-Err-clause-at : goal.returns-in-Err-clause-at
returns-in-Err-clause-at c = place_missing c.args.names.now c.args.name.now c.requires c.in-Err.field-0 c.in-Err.ensures.position
