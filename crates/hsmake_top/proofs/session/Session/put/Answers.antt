use Rattle.std.proofs.Common.{◌≡◌, ◌∙◌}
use Rattle.mk_io.specs.declared.file.File.{File}
use Rattle.hsmake_top.specs.Session.{put_file}
use Rattle.hsmake_top.proofs.Files.{file, pushed_is, replaced_is, put_kept}
use Rattle.hsmake_top.proofs.session.Session.put.Goals as goal
use Rattle.hsmake_top.proofs.session.Session.put.Goals.{In_ok-push, After-replace_file}

pushed : (c : In_ok-push) → c.push.new.self ≡ put_file c.args.path.now c.args.body.now c.args.self.now.input.files
pushed c =
    let path = c.args.path.now in
    let body = c.args.body.now in
    let put : File = record { name = c.in_ok-name.name; bytes = c.from_vec-bytes.result } in
    let is : put ≡ file path body = λ i. record { name = c.in_ok-name.ensures i; bytes = (c.from_vec-bytes.ensures ∙ c.in_ok-from_slice.ensures.items) i } in
    pushed_is path body c.in_ok-copy.field-0 c.args.self.now.places.keys c.args.self.now.input.files c.push.new.self c.in_ok-at.is_new put
    (c.in_ok-copy.ensures ∙ c.in_ok-name.ensures) c.requires.kept.names c.in_ok-at.ensures.added is c.if-is_new.true c.in_ok-push.ensures.ok

replaced : (c : After-replace_file) → c.replace_file.new.files ≡ put_file c.args.path.now c.args.body.now c.args.self.now.input.files
replaced c =
    let path = c.args.path.now in
    let body = c.args.body.now in
    let put : File = record { name = c.in_ok-name.name; bytes = c.from_vec-bytes.result } in
    let is : put ≡ file path body = λ i. record { name = c.in_ok-name.ensures i; bytes = (c.from_vec-bytes.ensures ∙ c.in_ok-from_slice.ensures.items) i } in
    replaced_is path body c.in_ok-copy.field-0 c.args.self.now.places.keys c.args.self.now.input.files c.replace_file.new.files c.in_ok-at.is_new put
    (c.in_ok-copy.ensures ∙ c.in_ok-name.ensures) c.requires.kept.names c.in_ok-at.ensures.added is c.if-is_new.false c.in_ok-at.at c.in_ok-at.ensures.index c.replace_file.ensures

pub returns-in_ok-push-clause-kept : goal.returns-in_ok-push-clause-kept
returns-in_ok-push-clause-kept c =
    let k = c.requires.kept in
    let h = put_kept c.args.path.now c.args.body.now c.in_ok-copy.field-0 c.args.self.now.places.keys c.insert_full.new.self.keys c.args.self.now.input.files c.push.new.self
    (c.in_ok-copy.ensures ∙ c.in_ok-name.ensures) k.names c.in_ok-at.ensures.keys (pushed c) c.requires.path k.distinct k.short in
    record { unit = k.unit; store = k.store; names = h.0; distinct = h.1; short = h.2 }

pub returns-in_ok-push-clause-files : goal.returns-in_ok-push-clause-files
returns-in_ok-push-clause-files c = pushed c

pub returns-else-is_new-clause-kept : goal.returns-else-is_new-clause-kept
returns-else-is_new-clause-kept c =
    let k = c.requires.kept in
    let h = put_kept c.args.path.now c.args.body.now c.in_ok-copy.field-0 c.args.self.now.places.keys c.insert_full.new.self.keys c.args.self.now.input.files c.replace_file.new.files
    (c.in_ok-copy.ensures ∙ c.in_ok-name.ensures) k.names c.in_ok-at.ensures.keys (replaced c) c.requires.path k.distinct k.short in
    record { unit = k.unit; store = k.store; names = h.0; distinct = h.1; short = h.2 }

pub returns-else-is_new-clause-files : goal.returns-else-is_new-clause-files
returns-else-is_new-clause-files c = replaced c
