use Rattle.std.proofs.Common.{◌≡◌, ◌∙◌, ◌++◌, ◌<◌, List, ℕ, Some, length, ap, sym, refl, subst}
use Rattle.std.specs.Prelude.{slice_get}
use Rattle.std.proofs.lemmas.Option.{slice_get_read}
use Rattle.numbered_nodes.specs.Bits.{room_for}
use Rattle.numbered_nodes.specs.Edges.{HaveRoom}
use Rattle.mk_base.specs.declared.diag.Diag.{Diag}
use Rattle.hs_syntax.specs.declared.header.ImportItem.{ImportItem}
use Rattle.mod_graph.specs.declared.entries.Entry.{Entry}
use Rattle.mod_graph.specs.Errors.{in_order}
use Rattle.mod_graph.specs.Told.{told_alone, told_imports, told_cycle}
use Rattle.mod_graph.proofs.NodeErrors.{told_same}
use Rattle.mod_graph.proofs.errors.node_errors.Goals as goal

pub tell_cycle-requires : goal.tell_cycle-requires
tell_cycle-requires c =
    let a = c.args.number in
    let back = sym c.deref.ensures.value in
    record {
      number = subst (λ (l : List (List ℕ)). a < length l) back (subst (λ n. a < n) (sym c.requires.rows.reach_count) c.requires.number);
      room = subst (λ (l : List (List ℕ)). HaveRoom (room_for (length l)) l) back (subst (λ n. HaveRoom (room_for n) c.args.rows.now.reach.items) (sym c.requires.rows.reach_count) c.requires.rows.reach_room);
    }

pub returns : goal.returns
returns c = λ ps tables.
    let n = c.args.numbers.now in
    let r = c.args.rows.now in
    let t = c.args.packages.now in
    let es = c.args.entries.now in
    let a = c.args.number in
    let e : Entry = c.index-entries-number.result in
    let at : slice_get es a ≡ Some e = slice_get_read es (length es) a e refl c.requires.number c.index-entries-number.is in
    let own : c.in_ok-diags.diags.items ≡ e.own = c.in_ok-diags.ensures ∙ c.as_slice.ensures in
    let alone : c.tell_alone.new.diags.items ≡ e.own ++ told_alone n e.node = c.in_ok-tell_alone.ensures ∙ ap (λ (ds : List Diag). ds ++ told_alone n e.node) own in
    let imports : c.tell_imports.new.diags.items ≡ (e.own ++ told_alone n e.node) ++ told_imports n t e.imports =
    c.in_ok-tell_imports.ensures ∙ ap (λ (ys : List ImportItem). c.tell_alone.new.diags.items ++ told_imports n t ys) c.as_slice-2.ensures ∙ ap (λ (ds : List Diag). ds ++ told_imports n t e.imports) alone in
    let cycle : c.tell_cycle.new.diags.items ≡ ((e.own ++ told_alone n e.node) ++ told_imports n t e.imports) ++ told_cycle n r.reach.items a e =
    c.in_ok-tell_cycle.ensures ∙ ap (λ (l : List (List ℕ)). c.tell_imports.new.diags.items ++ told_cycle n l a e) c.deref.ensures.value ∙ ap (λ (ds : List Diag). ds ++ told_cycle n r.reach.items a e) imports in
    told_same n r t es ps c.requires.numbers c.requires.rows tables a e c.from_vec.result c.requires.number at (c.from_vec.ensures ∙ c.put_in_order.ensures ∙ ap in_order cycle)
