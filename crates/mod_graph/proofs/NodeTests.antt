-- The tests of texts and of nodes tell them apart, and the order of nodes is strict and total.
use Rattle.std.proofs.Common.{◌≡◌, ℕ, Bool, true, false, List, refl, ap, sym, ◌∙◌}
use Rattle.std.specs.declared.cmp.Ordering.{Ordering}
use Rattle.std.specs.declared.cmp.Ordering.TheVariants.{Less, Equal, Greater}
use Rattle.std.proofs.lemmas.Slice.Eq.{bytes_eq-Decides}
use Rattle.std.specs.Ordering.{is_lt, is_eq, ordering_then, nat_cmp, ordering_reverse}
use Rattle.std.specs.Cmp.{IsTotalOrder, IsStrictWeakOrder}
use Rattle.std.proofs.lemmas.Cmp.{then_total, on_total, nat_cmp_total, nat_list_cmp_total, nat_list_eq_equiv}
use Rattle.std.proofs.lemmas.List.Sorted.{ranks_by}
use Rattle.std.specs.Cmp.Lexicographic.{texts_ties}
use Rattle.mk_base.specs.Order.{node_cmp, text_cmp, place_of_node}
use Rattle.mk_base.specs.declared.name.Node.{Node}
use Rattle.mod_graph.specs.Names.{same_text, same_flag, same_node, less_node, node_named}
use Rattle.numbered_nodes.proofs.Chains.{and_both}

pub differ : true ≡ false → ⊥
differ e = cc

pub texts_tell : (a b : List ℕ) → same_text a b ≡ true → a ≡ b
texts_tell a b e = (bytes_eq-Decides a b).0 e

pub text_itself : (a : List ℕ) → same_text a a ≡ true
text_itself a = nat_list_eq_equiv.refl a

flags_tell : (a b : Bool) → same_flag a b ≡ true → a ≡ b
flags_tell true true e = refl
flags_tell true false e = absurd (differ (sym e))
flags_tell false true e = absurd (differ (sym e))
flags_tell false false e = refl

flag_itself : (a : Bool) → same_flag a a ≡ true
flag_itself true = refl
flag_itself false = refl

same_nodes : (a b : Node) → a.module.text ≡ b.module.text → a.boot ≡ b.boot → a ≡ b
same_nodes a b e f = ap (λ m. node_named m a.boot) e ∙ ap (node_named b.module.text) f

pub same_modules : (a b : Node) → same_node a b ≡ true → a.module.text ≡ b.module.text
same_modules a b e = texts_tell a.module.text b.module.text (and_both (same_text a.module.text b.module.text) (same_flag a.boot b.boot) e).0

pub nodes_tell : (a b : Node) → same_node a b ≡ true → a ≡ b
nodes_tell a b e = same_nodes a b (same_modules a b e) (flags_tell a.boot b.boot (and_both (same_text a.module.text b.module.text) (same_flag a.boot b.boot) e).1)

pub node_itself : (a : Node) → same_node a a ≡ true
node_itself a = rw (text_itself a.module.text) (flag_itself a.boot)

node_cmp_total : IsTotalOrder node_cmp
node_cmp_total = then_total (on_total (λ (n : Node). n.module.text) nat_list_cmp_total) (on_total (λ (n : Node). place_of_node n.boot) nat_cmp_total)

less_weak : IsStrictWeakOrder less_node
less_weak = ranks_by node_cmp_total (λ n. n)

only_less : (o : Ordering) → is_lt o ≡ true → o ≡ Less
only_less Less e = refl
only_less Equal e = absurd (differ (sym e))
only_less Greater e = absurd (differ (sym e))

-- neither less nor, turned, less
only_equal : (o p : Ordering) → o ≡ ordering_reverse p → is_lt o ≡ false → is_lt p ≡ false → o ≡ Equal
only_equal Less p r e f = absurd (differ e)
only_equal Equal p r e f = refl
only_equal Greater Less r e f = absurd (differ f)
only_equal Greater Equal r e f = r
only_equal Greater Greater r e f = absurd (let h : ⊥ = cc in h)

then_equal : (o p : Ordering) → ordering_then o p ≡ Equal → (o ≡ Equal) × (p ≡ Equal)
then_equal Less p e = absurd (let h : ⊥ = cc in h)
then_equal Equal p e = (refl, e)
then_equal Greater p e = absurd (let h : ⊥ = cc in h)

same_boot : (a b : Bool) → nat_cmp (place_of_node a) (place_of_node b) ≡ Equal → a ≡ b
same_boot true true e = refl
same_boot true false e = absurd (let h : ⊥ = cc in h)
same_boot false true e = absurd (let h : ⊥ = cc in h)
same_boot false false e = refl

text_equal : (a b : List ℕ) → text_cmp a b ≡ Equal → a ≡ b
text_equal a b e = texts_tell a b (texts_ties a b ∙ ap is_eq e)

pub less_apart : (a b : Node) → less_node a b ≡ true → less_node b a ≡ false
less_apart a b e = less_weak.one_way a b e

pub less_chain : (a b c : Node) → less_node a b ≡ true → less_node b c ≡ true → less_node a c ≡ true
less_chain a b c p q = ap is_lt (node_cmp_total.trans a b c (only_less (node_cmp a b) p) (only_less (node_cmp b c) q))

pub less_total : (a b : Node) → less_node a b ≡ false → less_node b a ≡ false → a ≡ b
less_total a b p q =
    let e : node_cmp a b ≡ Equal = only_equal (node_cmp a b) (node_cmp b a) (node_cmp_total.antisymm a b) p q in
    let s = then_equal (text_cmp a.module.text b.module.text) (nat_cmp (place_of_node a.boot) (place_of_node b.boot)) e in
    same_nodes a b (text_equal a.module.text b.module.text s.0) (same_boot a.boot b.boot s.1)
