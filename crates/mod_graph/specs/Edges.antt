-- The edges of nodes and of modules, what is reached over them, loops, and needs. All are over the entries of a tree.
-- Boot files, and what an import with SOURCE asks for: GHC User's Guide, "Mutually recursive modules and hs-boot files"; imports: Haskell 2010 Report, section 5.3.
use Rattle.std.specs.Prelude.{◌≡◌, ◌↔◌, ◌<◌, ℕ, Bool, true, false, ◌&&◌, ◌||◌, not, nat_eq, nat_lt, List, length, slice_get, Option, unwrap_or, position}
use Rattle.std.specs.List.{list_any}
use Rattle.std.specs.Option.{option_map_or}
use Rattle.mk_base.specs.declared.name.Node.{Node}
use Rattle.hs_syntax.specs.declared.header.ImportItem.{ImportItem}
use Rattle.numbered_nodes.specs.Reach.{Reach, InOneLoop}
use Rattle.numbered_nodes.specs.Needs.{Needs}
use Rattle.mod_graph.specs.declared.entries.Entry.{Entry}
use Rattle.mod_graph.specs.Names.{same_text, same_node, node_named}
use Rattle.numbered_nodes.specs.Chains.{any_below, over, IsStep}
pub use Rattle.numbered_nodes.specs.Chains.{is_at}

-- the node that an import asks for: the real one, or with SOURCE the boot node
abbrev pub target : ImportItem → Node
target y = node_named y.module.text y.source

module _ (es : List Entry) where
  -- the number of a node
  abbrev pub number_of : Node → Option ℕ
  number_of n = position (λ (e : Entry). same_node n e.node) es

  -- the number of a module is that of its first node
  abbrev pub module_number : List ℕ → Option ℕ
  module_number m = position (λ (e : Entry). same_text m e.node.module.text) es

  abbrev pub module_of : ℕ → ℕ
  module_of a = option_map_or (λ (e : Entry). unwrap_or (module_number e.node.module.text) 0) (slice_get es a) 0

  -- An import leads to the node that it asks for, and a real node to its own boot node.
  abbrev pub leads_from : Entry → ℕ → Bool
  leads_from e b = (not e.node.boot && is_at (number_of (node_named e.node.module.text true)) b) || list_any (λ (y : ImportItem). is_at (number_of (target y)) b) e.imports

  abbrev pub leads : ℕ → ℕ → Bool
  leads a b = option_map_or (λ (e : Entry). leads_from e b) (slice_get es a) false

  -- a node of the module x imports the module y, in whatever form
  abbrev pub joins : ℕ → ℕ → Bool
  joins x y = list_any (λ (e : Entry). is_at (module_number e.node.module.text) x && list_any (λ (y' : ImportItem). is_at (module_number y'.module.text) y) e.imports) es

  -- a chain of such steps leads from the node a to the node b
  abbrev pub reaches : ℕ → ℕ → Bool
  reaches a b = over leads (length es) a b

  -- two nodes are of one loop: their modules are the same, or each reaches the other
  abbrev pub in_loop : ℕ → ℕ → Bool
  in_loop a b = nat_eq (module_of a) (module_of b) || (over joins (length es) (module_of a) (module_of b) && over joins (length es) (module_of b) (module_of a))

  -- a step of needs: to where the node leads, and from there on to any node of that loop where it is another one
  abbrev pub calls : ℕ → ℕ → Bool
  calls a b = leads a b || (nat_lt b (length es) && any_below (length es) (λ z. leads a z && (not (in_loop a z) && in_loop z b)))

  -- the node a needs the node b
  abbrev pub needs : ℕ → ℕ → Bool
  needs a b = over calls (length es) a b

  -- the same of nodes by their names
  abbrev pub needs_node : Node → Node → Bool
  needs_node m n = option_map_or (λ a. option_map_or (λ b. needs a b) (number_of n) false) (number_of m) false

  -- What these are: a chain is the transitive closure of the edges, loops are the classes of modules that reach each
  -- other, and what a node needs is the least set with all that it reaches and, with each node of another loop, all
  -- nodes of that loop and what these reach.

  abbrev pub Leads : ℕ → ℕ → Type 0
  Leads a b = IsStep leads a b

  abbrev pub Joins : ℕ → ℕ → Type 0
  Joins x y = IsStep joins x y

  abbrev pub SameLoop : ℕ → ℕ → Type 0
  SameLoop a b = InOneLoop Joins (module_of a) (module_of b)

  abbrev pub ReachIsClosure : Type 0
  ReachIsClosure = (a b : ℕ) → (reaches a b ≡ true) ↔ Reach Leads a b

  abbrev pub LoopsAreClasses : Type 0
  LoopsAreClasses = (a b : ℕ) → (in_loop a b ≡ true) ↔ SameLoop a b

  abbrev pub NeedsAreLeast : Type 0
  NeedsAreLeast = (a b : ℕ) → a < length es → b < length es → (needs a b ≡ true) ↔ Needs Leads SameLoop (length es) a b
