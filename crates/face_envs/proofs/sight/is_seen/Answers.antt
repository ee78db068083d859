use Rattle.std.proofs.Common.{◌≡◌, ◌∙◌, ap, sym, subst, is_ok, nat_eq}
use Rattle.std.specs.List.{list_any}
use Rattle.face_envs.specs.Sight.{IsRising, sees}
use Rattle.face_envs.proofs.Asked.{search_tells}
use Rattle.face_envs.proofs.sight.is_seen.Goals as goal

pub returns-in-Places : goal.returns-in-Places
returns-in-Places c =
    let found : is_ok c.binary_search.result ≡ list_any (nat_eq c.args.face) c.in-Places.places.now =
    search_tells c.in-Places.places.now c.args.face c.binary_search.result (subst IsRising c.in-Places.is c.requires) c.binary_search.ensures.position in
    c.is_ok.ensures.value ∙ (found ∙ ap (λ s. sees s c.args.face) (sym c.in-Places.is))
