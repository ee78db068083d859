-- The nodes of a tree by their names, each with what it imports and with what is wrong with its own file.
use Rattle.std.specs.Prelude.{ℕ, suc, ◌+◌, min, nat_lt, Bool, ◌||◌, List, [], ◌∷◌, ◌++◌, Some, None, Option, Result, Ok, Err, codes, if◌then◌else◌}
use Rattle.mk_base.specs.declared.place.Pos.{Pos}
use Rattle.mk_base.specs.declared.diag.Diag.{Diag}
use Rattle.hs_syntax.specs.declared.header.Header.{Header}
use Rattle.hs_syntax.specs.declared.header.ImportItem.{ImportItem}
use Rattle.mod_graph.specs.declared.input.HeaderOf.{HeaderOf}
use Rattle.mod_graph.specs.declared.entries.Entry.{Entry}
use Rattle.mod_graph.specs.Names.{same_text, less_node}
use Rattle.mk_base.specs.Places.{first_place}
use Rattle.mod_graph.specs.Prelude.{with_prelude}

abbrev pub diag_at : Pos → ℕ → List ℕ → Diag
diag_at at code text = record { at = at; code = code; text = text }

-- headers by node
abbrev pub insert : HeaderOf → List HeaderOf → List HeaderOf
insert h [] = h ∷ []
insert h (g ∷ gs) = if less_node h.node g.node then h ∷ g ∷ gs else g ∷ insert h gs

abbrev pub by_node : List HeaderOf → List HeaderOf
by_node [] = []
by_node (h ∷ hs) = insert h (by_node hs)

-- what a module's own pragmas say of a flag, and else what holds in the tree
abbrev pub effective : Bool → Option Bool → Bool
effective given None = given
effective given (Some own) = own

-- what a source counts among the bytes of all sources: at most one byte more than a source may have
abbrev pub counted : ℕ → ℕ
counted size = min 1048577 size

-- A source is too large if it has over 1,048,576 bytes, or if it takes the sources up to it, of which those before it have so many bytes, past 268,435,456.
abbrev pub is_too_large : ℕ → ℕ → Bool
is_too_large before size = nat_lt 1048576 size || nat_lt 268435456 (before + counted size)

-- the imports of a header with the implicit one; none where the source has no header
abbrev pub imports_in : Bool → Result Header Diag → List ImportItem
imports_in prelude (Ok h) = (with_prelude h (effective prelude h.prelude)).imports
imports_in prelude (Err d) = []

-- a source that is too large counts as having no imports
abbrev pub imports_unless : Bool → Bool → Result Header Diag → List ImportItem
imports_unless large prelude r = if large then [] else imports_in prelude r

abbrev pub too_large : Diag
too_large = diag_at first_place 6 (codes "source is too large")

abbrev pub too_many : Diag
too_many = diag_at first_place 7 (codes "too many modules")

-- the diagnostic that stands in place of the header, or a header that names another module than its file
abbrev pub header_errors : List ℕ → Result Header Diag → List Diag
header_errors m (Ok h) = if same_text h.name.text m then [] else diag_at h.at 13 (codes "header names " ++ h.name.text) ∷ []
header_errors m (Err d) = d ∷ []

-- of a source that is too large nothing else is told but that there are too many modules
abbrev pub own_errors : ℕ → Bool → HeaderOf → List Diag
own_errors number large h = (if large then too_large ∷ [] else header_errors h.node.module.text h.header) ++ (if nat_lt number 4096 then [] else too_many ∷ [])

abbrev pub entry_of : Bool → ℕ → Bool → HeaderOf → Entry
entry_of prelude number large h = record { node = h.node; imports = imports_unless large prelude h.header; own = own_errors number large h }

-- the entries of headers that stand by node, from a number on, where the sources before have so many bytes
abbrev pub entries_from : Bool → ℕ → ℕ → List HeaderOf → List Entry
entries_from prelude number before [] = []
entries_from prelude number before (h ∷ hs) = entry_of prelude number (is_too_large before h.size) h ∷ entries_from prelude (suc number) (before + counted h.size) hs

-- the entries of a tree, by node; the number of a node is its place there
abbrev pub entries_of : Bool → List HeaderOf → List Entry
entries_of prelude headers = entries_from prelude 0 0 (by_node headers)
