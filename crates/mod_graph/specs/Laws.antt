-- What holds of the order and of the needs of a tree's nodes.
use Rattle.std.specs.Prelude.{◌≡◌, ◌<◌, ℕ, Bool, true, false, List, [], ◌∷◌, slice_get, Some}
use Rattle.std.specs.Prelude.{◌↔◌}
use Rattle.std.specs.List.{Contains}
use Rattle.mk_base.specs.Order.{AreInOrder}
use Rattle.mk_base.specs.declared.name.Node.{Node}
use Rattle.mk_base.specs.declared.diag.Diag.{Diag}
use Rattle.package_graph.specs.declared.modules.PackageModule.{PackageModule}
use Rattle.mod_graph.specs.Errors.{in_order, node_errors}
use Rattle.mod_graph.specs.declared.input.HeaderOf.{HeaderOf}
use Rattle.mod_graph.specs.declared.entries.Entry.{Entry}
use Rattle.mod_graph.specs.Entries.{entries_of}
use Rattle.mod_graph.specs.Edges.{needs_node}
use Rattle.mod_graph.specs.Graph.{AreDistinct, IsNodeOrder}

-- the same headers in another order
pub data Shuffles : List HeaderOf → List HeaderOf → Type 0 where
  none : Shuffles [] []
  skip : {h : HeaderOf} {hs gs : List HeaderOf} → Shuffles hs gs → Shuffles (h ∷ hs) (h ∷ gs)
  swap : {h g : HeaderOf} {hs : List HeaderOf} → Shuffles (h ∷ g ∷ hs) (g ∷ h ∷ hs)
  then_ : {hs gs fs : List HeaderOf} → Shuffles hs gs → Shuffles gs fs → Shuffles hs fs

-- The order in which the files are handed in changes nothing: needs, order and all else are of the entries.
abbrev pub OrderOfFilesIsNothing : Type 0
OrderOfFilesIsNothing = (prelude : Bool) (hs gs : List HeaderOf) → AreDistinct hs → Shuffles hs gs → entries_of prelude hs ≡ entries_of prelude gs

-- There is one order.
abbrev pub OrderIsOne : Type 0
OrderIsOne = (es : List Entry) (ns ms : List Node) → IsNodeOrder es ns → IsNodeOrder es ms → ns ≡ ms

-- the node and all that it needs don't need themselves
abbrev pub IsCycleFreeNode : List Entry → Node → Type 0
IsCycleFreeNode es n = (needs_node es n n ≡ false) × ((m : Node) → needs_node es n m ≡ true → needs_node es m m ≡ false)

-- A node before which there is no cycle stands behind all that it needs.
abbrev pub NeedsComeFirst : Type 0
NeedsComeFirst = (prelude : Bool) (hs : List HeaderOf) → AreDistinct hs → (ns : List Node) → IsNodeOrder (entries_of prelude hs) ns
    → (j k : ℕ) (m n : Node) → slice_get ns j ≡ Some m → slice_get ns k ≡ Some n → IsCycleFreeNode (entries_of prelude hs) n → needs_node (entries_of prelude hs) n m ≡ true → j < k

-- The diagnostics of a node stand in order, and putting diagnostics in order keeps each of them.
abbrev pub ErrorsAreInOrder : Type 0
ErrorsAreInOrder = ((es : List Entry) (ps : List PackageModule) (n : Node) → AreInOrder (node_errors es ps n))
    × ((ds : List Diag) (d : Diag) → Contains (in_order ds) d ↔ Contains ds d)
