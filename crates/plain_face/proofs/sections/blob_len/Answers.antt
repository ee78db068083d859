use Rattle.std.proofs.Common.{ap, arith, length, length-append}
use Rattle.plain_face.specs.Interface.{blob}
use Rattle.plain_face.proofs.Fitting.{blob_short}
use Rattle.plain_face.proofs.sections.blob_len.Goals as goal

pub returns-clause-bound : goal.returns-clause-bound
returns-clause-bound c =
    let short = blob_short c.args.names.now c.args.decl.now c.requires.fits in
    let bytes = ap length c.in_ok-put_blob.ensures in
    let none = ap length c.new-bytes.ensures in
    let joined = length-append c.new-bytes.result (blob c.args.names.now c.args.decl.now) in
    let count = c.len.ensures in
    omega arith
