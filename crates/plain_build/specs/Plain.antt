-- The part of the language that is built so far, as the theory of builds takes a language.
use Rattle.std.specs.Prelude.{ℕ, List, [], Some, Err}
use Rattle.std.specs.declared.option.Option.{Option}
use Rattle.std.specs.Option.{option_to_list}
use Rattle.std.specs.List.{flat_map}
use Rattle.std.specs.Map.{lookup}
use Rattle.mk_base.specs.declared.name.Node.{Node}
use Rattle.mk_base.specs.declared.diag.Diag.{Diag}
use Rattle.face_model.specs.declared.result.Reason.{Reason}
use Rattle.face_model.specs.declared.result.Reason.TheVariants.{NoInterface}
use Rattle.build_theory.specs.Build.{Language}
use Rattle.hs_syntax.specs.declared.header.ImportItem.{ImportItem}
use Rattle.mod_graph.specs.Names.{same_node, less_node}
use Rattle.mod_graph.specs.Edges.{needs_node}
use Rattle.mod_graph.specs.Graph.{View, entries, view_of}
use Rattle.mod_graph.specs.Graph as seen_as
use Rattle.plain_scope.specs.declared.scope.Content.{Content}
use Rattle.module_check.specs.Check.{check}
use Rattle.module_check.specs.declared.check.CheckSettings.{CheckSettings}
use Rattle.build_plan.specs.Tree.{Settings, SourceTree, graph_errors, imports_of, input_of}

-- what of that a check goes by
abbrev pub check_settings : Settings → CheckSettings
check_settings g = record { unit = record { text = g.unit }; restrict = g.restrict }

abbrev pub PlainTree : Type 0
PlainTree = SourceTree

-- the content of what a node sees of a module
abbrev pub content_seen : List (Node × Content) → Option View → List Content
content_seen env (Some (seen_as.Tree m)) = option_to_list (lookup (same_node m) env)
content_seen env _ = []

-- what the imports of a node offer, each module in the node's view of it
abbrev pub imported : PlainTree → Node → List (Node × Content) → List ImportItem → List Content
imported t n env ys = flat_map (λ (y : ImportItem). content_seen env (view_of (input_of t) n y.module.text)) ys

abbrev pub plain : Language Settings Node (List ℕ) Content Content (List Diag) Reason
plain = record {
  less = less_node;
  same = same_node;
  errors = λ t n s. graph_errors t n;
  needs = λ t a b. needs_node (entries (input_of t)) a b;
  check = λ t n s env. check (check_settings t.settings) n s (imported t n env (imports_of t.settings n s));
  keep = λ c. c;
  missing = NoInterface;
  decide = λ t n s k env. Err NoInterface;
}
