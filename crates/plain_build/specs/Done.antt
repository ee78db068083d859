-- What is kept of the nodes that are done.
use Rattle.std.specs.Prelude.{◌≡◌, ℕ, ◌<◌, ◌^◌, Bool, List, [], ◌∷◌, length, map, take, None}
use Rattle.std.specs.List.{AllByRecursion}
use Rattle.mk_base.specs.declared.name.Node.{Node}
use Rattle.mk_base.specs.declared.diag.Diag.{Diag}
use Rattle.build_theory.specs.Build.{Outcome, Sound, outcomes, is_sound, results, step, first_bad}
use Rattle.plain_scope.specs.declared.scope.Content.{Content}
use Rattle.plain_build.specs.declared.build.PlainBuild.{PlainBuild}
use Rattle.plain_build.specs.declared.done.Done.{Done}
use Rattle.build_plan.specs.Tree as plan
use Rattle.build_plan.specs.Tree.{graph_errors, nodes_of, ordered}
use Rattle.plain_build.specs.Plain.{PlainTree, plain}
use Rattle.plain_build.specs.Result.{PlainJudged, AreResults, settings_in}

-- the tree that is built, with its sources by node
abbrev pub sorted_tree : PlainBuild → PlainTree
sorted_tree input = plan.sorted_tree (settings_in input) input.files

-- the results of the first nodes in order, so many of them
unfoldable pub judged_before : PlainTree → ℕ → List (Node × PlainJudged)
judged_before t n = results plain t [] [] (take n (ordered t))

-- the result of a node behind the first nodes
unfoldable pub judged_next : PlainTree → Node × List ℕ → ℕ → PlainJudged
judged_next t q n = step plain t [] (outcomes (judged_before t n)) q

-- A node is checked: it has no diagnostics of the graph stage, and all that it needs is sound.
pub record IsUnblocked (t : PlainTree) (n : Node) (place : ℕ) : Type 0 where
  pub no_errors : graph_errors t n ≡ None
  pub no_bad : first_bad plain t n (outcomes (judged_before t place)) (ordered t) ≡ None

abbrev pub IsContent : Content → Outcome Node Content (List Diag) → Type 0
IsContent c (Sound b) = c ≡ b
IsContent c _ = Unit {0}

-- the contents of the sound nodes, each at its node's place
abbrev pub AreContents : List Content → List (Node × PlainJudged) → Type 0
AreContents [] [] = Unit {0}
AreContents (c ∷ cs) (j ∷ js) = IsContent c j.1.outcome × AreContents cs js
AreContents _ _ = ⊥

-- which nodes are sound
abbrev pub soundness : List (Node × PlainJudged) → List Bool
soundness js = map (λ (j : Node × PlainJudged). is_sound j.1.outcome) js

-- What is kept once so many nodes are done.
pub record IsDone (t : PlainTree) (done : Done) (n : ℕ) : Type 0 where
  pub results : AreResults t.settings.unit (nodes_of (ordered t)) done.results (judged_before t n)
  pub contents : AreContents done.contents.items (judged_before t n)
  pub small : AllByRecursion (λ (c : Content). length c.module < 2 ^ 32) done.contents.items
  pub sound : done.sound.items ≡ soundness (judged_before t n)
