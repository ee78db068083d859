-- Tables of numbers by names.
use Rattle.std.specs.Prelude.{◌≡◌, ℕ, Bool, true, false, List, Option}
use Rattle.indexmap.specs.IndexMap.{get}
use Rattle.mod_graph.specs.declared.entries.Entry.{Entry}
use Rattle.mod_graph.specs.declared.places.Numbers.{Numbers}
use Rattle.mod_graph.specs.Names.{same_text, node_named}
use Rattle.mod_graph.specs.Edges.{number_of, module_number}

-- the number that the table has for a module's boot node or for its real one
abbrev pub number_in : Numbers → Bool → List ℕ → Option ℕ
number_in t true m = get same_text t.boots m
number_in t false m = get same_text t.reals m

abbrev pub module_in : Numbers → List ℕ → Option ℕ
module_in t m = get same_text t.modules m

-- the table has the numbers of the nodes and of the modules, and no others
abbrev pub AreNumbers : Numbers → List Entry → Type 0
AreNumbers t es = ((boot : Bool) (m : List ℕ) → number_in t boot m ≡ number_of es (node_named m boot)) × ((m : List ℕ) → module_in t m ≡ module_number es m)
