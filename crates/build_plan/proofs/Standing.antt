-- The tree of some files stands by node, and its graph is planned.
use Rattle.std.proofs.Common.{◌≡◌, ℕ, zero, suc, ◌+◌, ◌<◌, ◌≤◌, ◌^◌, Bool, List, [], ◌∷◌, ◌++◌, length, map, take, refl, ap, sym, ◌∙◌, subst, Some, None, arith, length-append}
use Rattle.std.specs.Prelude.{slice_get}
use Rattle.std.specs.declared.option.Option.{Option}
use Rattle.std.specs.List.{AllByRecursion}
use Rattle.std.proofs.lemmas.Option.{same_Some}
use Rattle.mk_base.specs.declared.name.Node.{Node}
use Rattle.mk_io.specs.declared.file.File.{File}
use Rattle.build_theory.specs.Build.{by_node}
use Rattle.build_theory.specs.Laws as laws
use Rattle.build_theory.proofs.Lists.{all_shuffled}
use Rattle.build_theory.proofs.Files.{sorting_shuffles}
use Rattle.mk_base.specs.Paths.{node_of}
use Rattle.mod_graph.specs.declared.graph.Graph.{Graph}
use Rattle.mod_graph.specs.Kept.{IsGraph}
use Rattle.mod_graph.specs.Graph.{Input, IsNodeOrder, entries}
use Rattle.mod_graph.specs.declared.input.HeaderOf.{HeaderOf}
use Rattle.package_graph.specs.declared.modules.PackageModule.{PackageModule}
use Rattle.build_plan.specs.declared.sources.Source.{Source}
use Rattle.build_plan.specs.Files.{AreDistinct, AreShort}
use Rattle.build_plan.specs.Plan.{IsStanding, IsShortNode, IsPlanned}
use Rattle.build_plan.specs.Positions.{pairs}
use Rattle.build_plan.specs.Tree.{Settings, SourceTree, header_for, input_of, planning, sorted_tree, source_at, sources_of}
use Rattle.build_plan.proofs.Alls.{all_join}
use Rattle.build_plan.proofs.Joined.{graph_order}
use Rattle.build_plan.proofs.Ordering.{shuffled_length}
use Rattle.build_plan.proofs.Paths.{short_node, sources_distinct}
use Rattle.build_plan.proofs.Sorting.{by_node_rising}

one_source : (f : File) (o : Option Node) → length (source_at f o) ≤ 1
one_source f None = omega arith
one_source f (Some n) = omega arith

sorted_length : (fs : List (Node × List ℕ)) → length (by_node planning fs) ≡ length fs
sorted_length fs = sym (shuffled_length (sorting_shuffles planning fs))

source_count : (files : List File) → length (sources_of files) ≤ length files
source_count [] = omega arith
source_count (f ∷ fs) =
    let rest : length (sources_of fs) ≤ length fs = source_count fs in
    let one : length (source_at f (node_of f.name)) ≤ 1 = one_source f (node_of f.name) in
    let both : length (source_at f (node_of f.name) ++ sources_of fs) ≡ length (source_at f (node_of f.name)) + length (sources_of fs) = length-append (source_at f (node_of f.name)) (sources_of fs) in
    omega (arith, rest, one, both)

short_file : (f : File) (o : Option Node) → node_of f.name ≡ o → length f.name < 2 ^ 32 → AllByRecursion IsShortNode (source_at f o)
short_file f None e h = tt
short_file f (Some n) e h = ((let s : length n.module.text ≤ length f.name = short_node f.name n e in omega arith), tt)

short_files : (files : List File) → AreShort files → AllByRecursion IsShortNode (sources_of files)
short_files [] h = tt
short_files (f ∷ fs) h = all_join IsShortNode (source_at f (node_of f.name)) (sources_of fs) (short_file f (node_of f.name) refl h.0) (short_files fs h.1)

-- the tree of files that are as is asked of them
pub standing_tree : (g : Settings) (files : List File) → length g.unit ≤ 64 → AreDistinct files → length files < 2 ^ 32 → AreShort files → IsStanding (sorted_tree g files)
unfolding sorted_tree
standing_tree g files unit apart few short =
    let fs : List (Node × List ℕ) = sources_of files in
    let d : laws.AreDistinct planning fs = sources_distinct files apart in
    let same : length (by_node planning fs) ≡ length fs = sorted_length fs in
    let most : length fs ≤ length files = source_count files in record {
      rising = by_node_rising fs d;
      unit = unit;
      few = omega (arith, same, most, few);
      short = all_shuffled IsShortNode (sorting_shuffles planning fs) (short_files files short);
    }

-- a standing tree's graph
pub planned_tree : (t : SourceTree) (g : Graph) (ns : List Node) → IsStanding t → IsGraph (input_of t) g → ns ≡ g.order → ((i : Input) → IsGraph i g → IsNodeOrder (entries i) ns) → IsPlanned t g
planned_tree t g ns fine is e order = record { standing = fine; graph = is; order = graph_order t fine.rising g.order (subst (IsNodeOrder (entries (input_of t))) e (order (input_of t) is)) }

pub sorted_sources_are : (g : Settings) (files : List File) → by_node planning (sources_of files) ≡ (sorted_tree g files).sources
unfolding sorted_tree
sorted_sources_are g files = refl

pub tree_prelude : (g : Settings) (files : List File) → (sorted_tree g files).settings.prelude ≡ g.prelude
unfolding sorted_tree
tree_prelude g files = refl

pub pairs_length : (sources : List Source) → length (pairs sources) ≡ length sources
pairs_length [] = refl
pairs_length (x ∷ xs) = ap suc (pairs_length xs)

pub pairs_at : (sources : List Source) (i : ℕ) (s : Source) → slice_get sources i ≡ Some s → slice_get (pairs sources) i ≡ Some (s.node, s.bytes.now)
pairs_at [] i s e = absurd (let h : ⊥ = cc in h)
pairs_at (x ∷ xs) zero s e = ap (λ (z : Source). Some (z.node, z.bytes.now)) (same_Some x s e)
pairs_at (x ∷ xs) (suc i) s e = pairs_at xs i s e

take_front : {X : Type 0} (xs ys : List X) (n : ℕ) → n ≡ length xs → take n (xs ++ ys) ≡ xs
take_front [] ys n e = ap (λ k. take k ys) e
take_front (x ∷ xs) ys zero e = absurd (omega (arith, e))
take_front (x ∷ xs) ys (suc n) e = ap (λ l. x ∷ l) (take_front xs ys n (omega (arith, e)))

-- what was sorted through a slice
pub slice_kept : {X : Type 0} (xs ys : List X) (n : ℕ) → length xs ≡ n → take n (xs ++ ys) ≡ xs
slice_kept xs ys n e = take_front xs ys n (sym e)

abbrev made_of : List HeaderOf → List PackageModule → Bool → Input
made_of hs ps p = record { headers = hs; packages = ps; prelude = p }

-- the graph that is made of a tree's headers
pub graph_of : (t : SourceTree) (g : Graph) (hs : List HeaderOf) (ps : List PackageModule) (p : Bool) → hs ≡ map header_for t.sources → ps ≡ [] → t.settings.prelude ≡ p → IsGraph (record { headers = hs; packages = ps; prelude = p }) g → IsGraph (input_of t) g
graph_of t g hs ps p e f h is =
    subst (λ (i : Input). IsGraph i g) (ap (λ (x : List HeaderOf). made_of x ps p) e ∙ ap (λ (x : List PackageModule). made_of (map header_for t.sources) x p) f ∙ ap (made_of (map header_for t.sources) []) (sym h)) is

-- the graph of the headers of sorted files
pub graph_planned : (g : Settings) (files : List File) (graph : Graph) (hs : List HeaderOf) (ps : List PackageModule) (p : Bool) → IsStanding (sorted_tree g files) → hs ≡ map header_for (sorted_tree g files).sources → ps ≡ [] → g.prelude ≡ p
    → IsGraph (record { headers = hs; packages = ps; prelude = p }) graph → IsPlanned (sorted_tree g files) graph
graph_planned g files graph hs ps p fine e f h is =
    planned_tree (sorted_tree g files) graph graph.order fine (graph_of (sorted_tree g files) graph hs ps p e f (tree_prelude g files ∙ h) is) refl (λ i j. (graph.rows.order.items, j.rows.order, j.nodes))
