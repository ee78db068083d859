use Rattle.std.proofs.Common.{◌≡◌, ◌∙◌, ap, sym}
use Rattle.std.specs.List.{remove}
use Rattle.hsmake_top.specs.Session.{without_file}
use Rattle.hsmake_top.proofs.Gone.{all_stay, taken, gone_kept, listed, place_is}
use Rattle.hsmake_top.proofs.session.Session.take_away.Goals as goal
use Rattle.hsmake_top.proofs.session.Session.take_away.Goals.{After-drop-name-inside-3}

pub returns-in_default-clause-files : goal.returns-in_default-clause-files
returns-in_default-clause-files c =
    let fs = c.args.self.now.input.files in
    sym (all_stay c.args.path.now fs (sym (listed c.args.path.now c.in_ok-name.name c.args.self.now.places.keys fs c.in_ok-name.ensures c.requires.names _ c.in_default.ensures.found)))

without : (c : After-drop-name-inside-3) → c.remove_file.new.files ≡ without_file c.args.path.now c.args.self.now.input.files
without c =
    let path = c.args.path.now in
    let fs = c.args.self.now.input.files in
    let keys = c.args.self.now.places.keys in
    let there = sym (listed path c.in_ok-name.name keys fs c.in_ok-name.ensures c.requires.names _ c.in-Some.ensures.found) in
    let place = place_is path c.in_ok-name.name keys fs c.in_ok-name.ensures c.requires.names c.in-Some.at c.in-Some.ensures.index in
    c.remove_file.ensures ∙ ap (λ i. remove fs i) place ∙ (taken path fs c.requires.distinct there).1

pub returns-clause-kept : goal.returns-clause-kept
returns-clause-kept c =
    let k = c.requires in
    let h = gone_kept c.args.path.now c.in_ok-name.name c.args.self.now.places.keys c.shift_remove_full.new.self.keys c.args.self.now.input.files c.remove_file.new.files
    c.in_ok-name.ensures k.names c.in-Some.ensures.keys (without c) k.distinct k.short in
    record { unit = k.unit; store = k.store; names = h.0; distinct = h.1; short = h.2 }

pub returns-clause-files : goal.returns-clause-files
returns-clause-files c = without c
