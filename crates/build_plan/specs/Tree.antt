-- A tree of sources, the headers of its modules, and what their graph tells of each node.
use Rattle.std.specs.Prelude.{ℕ, Bool, false, ◌||◌, nat_lt, List, [], ◌∷◌, ◌++◌, length, map, Some, None, Result, Ok, Err, codes, filter, if◌then◌else◌}
use Rattle.std.specs.declared.option.Option.{Option}
use Rattle.std.specs.List.{flat_map}
use Rattle.mk_base.specs.Paths.{node_of}
use Rattle.mk_base.specs.Places.{first_place}
use Rattle.mk_base.specs.declared.name.Node.{Node}
use Rattle.mk_base.specs.declared.diag.Diag.{Diag}
use Rattle.mk_base.specs.declared.place.Pos.{Pos}
use Rattle.mk_io.specs.declared.file.File.{File}
use Rattle.build_theory.specs.Build.{Tree, Language, sorted, order}
use Rattle.hs_syntax.specs.declared.header.Header.{Header}
use Rattle.hs_syntax.specs.declared.header.ImportItem.{ImportItem}
use Rattle.hs_lex.specs.Told.{no_lexeme}
use Rattle.hs_header.specs.Reading.{Fault, Lexeme, Grammar, Unknown, header_of}
use Rattle.mod_graph.specs.declared.input.HeaderOf.{HeaderOf}
use Rattle.mod_graph.specs.Names.{same_node, less_node}
use Rattle.mod_graph.specs.Entries.{diag_at, imports_in}
use Rattle.mod_graph.specs.Edges.{needs_node}
use Rattle.mod_graph.specs.Graph.{Input, entries, errors_by}
use Rattle.unbuilt_forms.specs.Unbuilt.{is_told}

-- what is set for the whole tree: its unit's name, and, where a module's pragmas say nothing, whether Prelude is imported and whether the monomorphism restriction holds
pub record Settings : Type 0 where
  pub unit : List ℕ
  pub prelude : Bool
  pub restrict : Bool

abbrev pub SourceTree : Type 0
SourceTree = Tree Settings Node (List ℕ)

-- Headers.

abbrev pub no_header : Pos → Diag
no_header at = diag_at at 3 (codes "this is no module header")

abbrev pub unknown_extension : Pos → List ℕ → Diag
unknown_extension at name = diag_at at 5 (codes "unknown extension " ++ name)

-- the diagnostic of a source that has no header
abbrev pub told : Result Header Fault → Result Header Diag
told (Ok h) = Ok h
told (Err (Lexeme at)) = Err (no_lexeme at)
told (Err (Grammar at)) = Err (no_header at)
told (Err (Unknown at name)) = Err (unknown_extension at name)

-- a boot file isn't built yet: it counts as one of its module's name that imports nothing
abbrev pub unread : List ℕ → Header
unread m = record { name = record { text = m }; at = first_place; exports = None; imports = []; prelude = Some false; restrict = None }

-- The header of a node's source. A source of over 1,048,576 bytes isn't read.
abbrev pub header_at : Node → List ℕ → Result Header Diag
header_at n s = if n.boot || nat_lt 1048576 (length s) then Ok (unread n.module.text) else told (header_of s)

abbrev pub header_for : Node × List ℕ → HeaderOf
header_for q = record { node = q.0; size = length q.1; header = header_at q.0 q.1 }

-- the graph of a tree's modules is made of their headers; there are no packages
abbrev pub input_of : SourceTree → Input
input_of t = record { headers = map header_for t.sources; packages = []; prelude = t.settings.prelude }

-- what a module imports, the implicit import of Prelude too
abbrev pub imports_of : Settings → Node → List ℕ → List ImportItem
imports_of g n s = imports_in g.prelude (header_at n s)

abbrev pub unless_none : List Diag → Option (List Diag)
unless_none [] = None
unless_none (d ∷ ds) = Some (d ∷ ds)

-- the diagnostics of the graph stage
abbrev pub graph_errors : SourceTree → Node → Option (List Diag)
graph_errors t n = unless_none (filter (is_told n) (errors_by (input_of t) n))

-- The language as far as the graph goes, of which nothing is checked.
abbrev pub planning : Language Settings Node (List ℕ) (List Diag) (List Diag) (List Diag) (List Diag)
planning = record {
  less = less_node;
  same = same_node;
  errors = λ t n s. graph_errors t n;
  needs = λ t a b. needs_node (entries (input_of t)) a b;
  check = λ t n s env. Err [];
  keep = λ ds. ds;
  missing = [];
  decide = λ t n s k env. Err [];
}

-- Sources.

-- the files that are sources; all others are passed over
abbrev pub source_at : File → Option Node → List (Node × List ℕ)
source_at f (Some n) = (n, f.bytes) ∷ []
source_at f None = []

abbrev pub sources_of : List File → List (Node × List ℕ)
sources_of files = flat_map (λ (f : File). source_at f (node_of f.name)) files

-- a tree of files, its sources by node
unfoldable pub sorted_tree : Settings → List File → SourceTree
sorted_tree g files = sorted planning (record { settings = g; sources = sources_of files })

-- the sources of a tree in the order of its nodes
unfoldable pub ordered : SourceTree → List (Node × List ℕ)
ordered t = order planning t

abbrev pub nodes_of : List (Node × List ℕ) → List Node
nodes_of qs = map (λ (q : Node × List ℕ). q.0) qs
