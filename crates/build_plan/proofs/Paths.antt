-- Different paths are sources of different nodes.
use Rattle.std.proofs.Common.{◌≡◌, ℕ, suc, ◌≤◌, List, [], ◌∷◌, ◌++◌, length, refl, ap, sym, ◌∙◌, Some, None, arith}
use Rattle.std.specs.declared.option.Option.{Option}
use Rattle.std.specs.List.{AllByRecursion}
use Rattle.mk_base.specs.declared.name.Node.{Node}
use Rattle.mk_base.specs.Paths.{node_of, path_end, path_of, slashed}
use Rattle.mk_base.proofs.Paths.{path_is_its_spelling}
use Rattle.mk_io.specs.declared.file.File.{File}
use Rattle.build_theory.specs.Laws as laws
use Rattle.build_plan.specs.Tree.{planning, source_at, sources_of}
use Rattle.build_plan.specs.Files.{AreDistinct}
use Rattle.build_plan.proofs.Alls.{all_join}

-- the path that a node has
path_is : (path : List ℕ) (n : Node) → node_of path ≡ Some n → path ≡ path_of n
path_is path n e = ((path_is_its_spelling path n).0 e).1

one_path : (p q : List ℕ) (n : Node) → node_of p ≡ Some n → node_of q ≡ Some n → p ≡ q
one_path p q n e f = path_is p n e ∙ sym (path_is q n f)

slashed_length : (text : List ℕ) → length (slashed text) ≡ length text
slashed_length [] = refl
slashed_length (b ∷ bs) = ap suc (slashed_length bs)

front_length : (a b : List ℕ) → length a ≤ length (a ++ b)
front_length [] b = omega arith
front_length (x ∷ a) b = let h : length a ≤ length (a ++ b) = front_length a b in omega arith

pub short_node : (path : List ℕ) (n : Node) → node_of path ≡ Some n → length n.module.text ≤ length path
short_node path n e =
    let whole : length path ≡ length (slashed n.module.text ++ path_end n.boot) = ap length (path_is path n e) in
    omega (arith, whole, slashed_length n.module.text, front_length (slashed n.module.text) (path_end n.boot))

other_source : (f g : File) (n : Node) (o : Option Node) → (f.name ≡ g.name → ⊥) → node_of f.name ≡ Some n → node_of g.name ≡ o → AllByRecursion (λ (q : Node × List ℕ). n ≡ q.0 → ⊥) (source_at g o)
other_source f g n None ne e k = tt
other_source f g n (Some m) ne e k = (λ s. ne (one_path f.name g.name n e (k ∙ ap (λ x. Some x) (sym s))), tt)

other_sources : (f : File) (n : Node) (fs : List File) → node_of f.name ≡ Some n → AllByRecursion (λ (g : File). f.name ≡ g.name → ⊥) fs → AllByRecursion (λ (q : Node × List ℕ). n ≡ q.0 → ⊥) (sources_of fs)
other_sources f n [] e h = tt
other_sources f n (g ∷ gs) e h =
    all_join (λ (q : Node × List ℕ). n ≡ q.0 → ⊥) (source_at g (node_of g.name)) (sources_of gs) (other_source f g n (node_of g.name) h.0 e refl) (other_sources f n gs e h.1)

one_distinct : (f : File) (fs : List File) (o : Option Node) → node_of f.name ≡ o → AllByRecursion (λ (g : File). f.name ≡ g.name → ⊥) fs → laws.AreDistinct planning (sources_of fs) → laws.AreDistinct planning (source_at f o ++ sources_of fs)
one_distinct f fs None e h d = d
one_distinct f fs (Some n) e h d = (other_sources f n fs e h, d)

pub sources_distinct : (files : List File) → AreDistinct files → laws.AreDistinct planning (sources_of files)
sources_distinct [] h = tt
sources_distinct (f ∷ fs) h = one_distinct f fs (node_of f.name) refl h.0 (sources_distinct fs h.1)
