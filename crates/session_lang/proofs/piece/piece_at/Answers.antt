use Rattle.session_lang.specs.Meant.{said_by}
use Rattle.session_lang.proofs.Fields.{first_form, and_form, all_forms}
use Rattle.session_lang.proofs.piece.piece_at.Goals as goal

pub returns : goal.returns
returns c =
    let bytes = c.args.bytes.now in
    let read = first_form said_by bytes c.put_at-read.result c.put_at-read.ensures in
    let read = and_form said_by bytes 1 c.either-read.result _ _ c.either-read.ensures read c.flags_at.ensures in
    let read = and_form said_by bytes 2 c.either-read-2.result _ _ c.either-read-2.ensures read c.build_at.ensures in
    let read = and_form said_by bytes 3 c.either-read-3.result _ _ c.either-read-3.ensures read c.quit_at.ensures in
    all_forms said_by bytes c.either.result (and_form said_by bytes 4 c.either.result _ _ c.either.ensures read c.del_at.ensures)
