use Rattle.plain_face.proofs.Fitting.{table_fits, decls_fit, decls_few, exports_few, spelled_by}
use Rattle.plain_face.proofs.interface.interface_bytes.Goals as goal

pub put_sections-requires-clause-names : goal.put_sections-requires-clause-names
put_sections-requires-clause-names c = rw c.as_slice.ensures.value (table_fits c.args.unit.now c.args.content.now c.in_ok-names.names.items c.requires.fits c.in_ok-names.ensures.table)

pub put_sections-requires-clause-fits : goal.put_sections-requires-clause-fits
put_sections-requires-clause-fits c = rw c.as_slice-2.ensures.value (decls_fit c.args.unit.now c.args.content.now c.in_ok-decls.decls.items c.requires.fits c.in_ok-decls.ensures.same)

pub put_sections-requires-clause-decls : goal.put_sections-requires-clause-decls
put_sections-requires-clause-decls c = rw c.as_slice-2.ensures.value (decls_few c.args.unit.now c.args.content.now c.in_ok-decls.decls.items c.requires.fits c.in_ok-decls.ensures.same)

pub put_sections-requires-clause-exports : goal.put_sections-requires-clause-exports
put_sections-requires-clause-exports c = rw c.as_slice-3.ensures.value (exports_few c.args.unit.now c.args.content.now c.in_ok-exports.exports.items c.requires.fits c.in_ok-exports.ensures.same)

pub returns : goal.returns
returns c = record {
  names = c.as_slice.result.now;
  table = rw c.as_slice.ensures.value c.in_ok-names.ensures.table;
  decls = c.as_slice-2.result.now;
  same_decls = rw c.as_slice-2.ensures.value c.in_ok-decls.ensures.same;
  decls_sorted = rw c.as_slice-2.ensures.value c.in_ok-decls.ensures.sorted;
  exports = c.as_slice-3.result.now;
  same_exports = rw c.as_slice-3.ensures.value c.in_ok-exports.ensures.same;
  exports_sorted = rw c.as_slice-3.ensures.value c.in_ok-exports.ensures.sorted;
  spelled = spelled_by c.new-out.result c.put_head.new.out c.put_sections.new.out _ _ _ c.in_ok-put_sections.ensures c.in_ok-put_head.ensures c.new-out.ensures;
}
