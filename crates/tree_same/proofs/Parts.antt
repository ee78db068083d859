-- Trees whose parts are the same are the same.
use Rattle.std.proofs.Common.{◌≡◌, Option, sym, ap, ◌∙◌}
use Rattle.hs_syntax.specs.declared.type_tree.TypeTree.{TypeTree}
use Rattle.hs_syntax.specs.declared.type_tree.AtypeTree.TheViews.{out-TypeTree, roll-out-TypeTree}
use Rattle.hs_syntax.specs.declared.pattern_tree.PatTree.{PatTree}
use Rattle.hs_syntax.specs.declared.pattern_tree.ApatTree.TheViews.{out-PatTree, roll-out-PatTree}
use Rattle.hs_syntax.specs.declared.item.KindTree.{KindTree}
use Rattle.hs_syntax.specs.declared.item.AkindTree.{AkindTree}
use Rattle.hs_syntax.specs.declared.item.AkindTree.TheViews.{out-KindTree, roll-KindTree, roll-out-KindTree}
use Rattle.mk_base.specs.declared.place.Pos.{Pos}
use Rattle.hs_syntax.specs.Made.{type_tree, pat_tree}

pub same_type_tree : (a b : TypeTree) → (out-TypeTree a).at ≡ (out-TypeTree b).at → (out-TypeTree a).from ≡ (out-TypeTree b).from → (out-TypeTree a).to ≡ (out-TypeTree b).to → a ≡ b
same_type_tree a b e f g =
    sym (roll-out-TypeTree a)
    ∙ (ap (λ x. type_tree x (out-TypeTree a).from (out-TypeTree a).to) e
    ∙ (ap (λ x. type_tree (out-TypeTree b).at x (out-TypeTree a).to) f
    ∙ (ap (λ x. type_tree (out-TypeTree b).at (out-TypeTree b).from x) g
    ∙ roll-out-TypeTree b)))

pub same_pat_tree : (a b : PatTree) → (out-PatTree a).at ≡ (out-PatTree b).at → (out-PatTree a).links ≡ (out-PatTree b).links → (out-PatTree a).last ≡ (out-PatTree b).last → a ≡ b
same_pat_tree a b e f g =
    sym (roll-out-PatTree a)
    ∙ (ap (λ x. pat_tree x (out-PatTree a).links (out-PatTree a).last) e
    ∙ (ap (λ x. pat_tree (out-PatTree b).at x (out-PatTree a).last) f
    ∙ (ap (λ x. pat_tree (out-PatTree b).at (out-PatTree b).links x) g
    ∙ roll-out-PatTree b)))

abbrev kind_tree : Pos → AkindTree → Option KindTree → KindTree
kind_tree at from to = roll-KindTree (record { at = at; from = from; to = to })

pub same_kind_tree : (a b : KindTree) → (out-KindTree a).at ≡ (out-KindTree b).at → (out-KindTree a).from ≡ (out-KindTree b).from → (out-KindTree a).to ≡ (out-KindTree b).to → a ≡ b
same_kind_tree a b e f g =
    sym (roll-out-KindTree a)
    ∙ (ap (λ x. kind_tree x (out-KindTree a).from (out-KindTree a).to) e
    ∙ (ap (λ x. kind_tree (out-KindTree b).at x (out-KindTree a).to) f
    ∙ (ap (λ x. kind_tree (out-KindTree b).at (out-KindTree b).from x) g
    ∙ roll-out-KindTree b)))
