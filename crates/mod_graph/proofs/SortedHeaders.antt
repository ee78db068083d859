-- The headers stand by node, whatever their order was, and each node keeps its place among the entries.
use Rattle.std.proofs.Common.{◌≡◌, ℕ, suc, ◌+◌, Bool, true, false, List, [], ◌∷◌, refl, ap, sym, ◌∙◌, subst}
use Rattle.std.specs.List.{AllByRecursion}
use Rattle.numbered_nodes.proofs.Booleans.{both_ways}
use Rattle.mk_base.specs.declared.name.Node.{Node}
use Rattle.mod_graph.specs.declared.input.HeaderOf.{HeaderOf}
use Rattle.mod_graph.specs.declared.entries.Entry.{Entry}
use Rattle.mod_graph.specs.Names.{less_node}
use Rattle.mod_graph.specs.Entries.{insert, by_node, counted, entries_from, entries_of}
use Rattle.mod_graph.specs.Graph.{AreDistinct}
use Rattle.mod_graph.specs.Laws.{Shuffles, none, skip, swap, then_, OrderOfFilesIsNothing}
use Rattle.mod_graph.proofs.NodeTests.{differ, less_apart, less_chain, less_total}

abbrev Headers : Type 0
Headers = List HeaderOf

put_first : (f g : HeaderOf) (gs : Headers) → less_node f.node g.node ≡ true → insert f (g ∷ gs) ≡ f ∷ g ∷ gs
put_first f g gs e = rw e refl

put_later : (f g : HeaderOf) (gs : Headers) → less_node f.node g.node ≡ false → insert f (g ∷ gs) ≡ g ∷ insert f gs
put_later f g gs e = rw e refl

all_shuffled : (P : HeaderOf → Type 0) {hs gs : Headers} → Shuffles hs gs → AllByRecursion P hs → AllByRecursion P gs
all_shuffled P none h = h
all_shuffled P (skip s) h = (h.0, all_shuffled P s h.1)
all_shuffled P swap h = (h.1.0, (h.0, h.1.1))
all_shuffled P (then_ s t) h = all_shuffled P t (all_shuffled P s h)

distinct_shuffled : {hs gs : Headers} → Shuffles hs gs → AreDistinct hs → AreDistinct gs
distinct_shuffled none h = h
distinct_shuffled (skip {h = f} s) h = (all_shuffled (λ g. f.node ≡ g.node → ⊥) s h.0, distinct_shuffled s h.1)
distinct_shuffled swap h = (((λ e. h.0.0 (sym e)), h.1.0), (h.0.1, h.1.1))
distinct_shuffled (then_ s t) h = distinct_shuffled t (distinct_shuffled s h)

same_shuffled : (hs : Headers) → Shuffles hs hs
same_shuffled [] = none
same_shuffled (h ∷ hs) = skip (same_shuffled hs)

insert_shuffles : (f : HeaderOf) (gs : Headers) → Shuffles (f ∷ gs) (insert f gs)
insert_shuffles f [] = same_shuffled (f ∷ [])
insert_shuffles f (g ∷ gs) =
    both_ways (less_node f.node g.node)
    (λ y. subst (Shuffles (f ∷ g ∷ gs)) (sym (put_first f g gs y)) (same_shuffled (f ∷ g ∷ gs)))
    (λ y. subst (Shuffles (f ∷ g ∷ gs)) (sym (put_later f g gs y)) (then_ swap (skip (insert_shuffles f gs))))

-- sorting is a shuffle
sorting_shuffles : (hs : Headers) → Shuffles hs (by_node hs)
sorting_shuffles [] = none
sorting_shuffles (h ∷ hs) = then_ (skip (sorting_shuffles hs)) (insert_shuffles h (by_node hs))

-- two headers that both belong in front of the rest
heads : (f g : HeaderOf) (r : Headers) → (f.node ≡ g.node → ⊥) → insert f r ≡ f ∷ r → insert g r ≡ g ∷ r → (b c : Bool) → less_node f.node g.node ≡ b → less_node g.node f.node ≡ c → insert f (g ∷ r) ≡ insert g (f ∷ r)
heads f g r ne ef eg true true p q = absurd (differ (sym q ∙ less_apart f.node g.node p))
heads f g r ne ef eg true false p q = put_first f g r p ∙ ap (λ x. f ∷ x) (sym eg) ∙ sym (put_later g f r q)
heads f g r ne ef eg false true p q = put_later f g r p ∙ ap (λ x. g ∷ x) ef ∙ sym (put_first g f r q)
heads f g r ne ef eg false false p q = absurd (ne (less_total f.node g.node p q))

-- where g belongs before h and f doesn't, f comes behind both
behind : (f g h : HeaderOf) → less_node g.node h.node ≡ true → less_node f.node h.node ≡ false → less_node f.node g.node ≡ false
behind f g h p q = both_ways (less_node f.node g.node)
    (λ e. absurd (differ (sym (less_chain f.node g.node h.node e p) ∙ q)))
    (λ e. e)

one_behind : (f g h : HeaderOf) (hs : Headers) → less_node g.node h.node ≡ true → less_node f.node h.node ≡ false → insert f (insert g (h ∷ hs)) ≡ insert g (insert f (h ∷ hs))
one_behind f g h hs p q =
    ap (insert f) (put_first g h hs p) ∙ put_later f g (h ∷ hs) (behind f g h p q) ∙ ap (λ x. g ∷ x) (put_later f h hs q)
    ∙ sym (put_first g h (insert f hs) p) ∙ ap (insert g) (sym (put_later f h hs q))

insert_swap : (f g : HeaderOf) (hs : Headers) → (f.node ≡ g.node → ⊥) → insert f (insert g hs) ≡ insert g (insert f hs)
insert_swap f g [] ne = heads f g [] ne refl refl (less_node f.node g.node) (less_node g.node f.node) refl refl
insert_swap f g (h ∷ hs) ne =
    both_ways (less_node g.node h.node)
    (λ p. both_ways (less_node f.node h.node)
    (λ q. ap (insert f) (put_first g h hs p) ∙ heads f g (h ∷ hs) ne (put_first f h hs q) (put_first g h hs p) (less_node f.node g.node) (less_node g.node f.node) refl refl ∙ ap (insert g) (sym (put_first f h hs q)))
    (λ q. one_behind f g h hs p q))
    (λ p. both_ways (less_node f.node h.node)
    (λ q. sym (one_behind g f h hs q p))
    (λ q. ap (insert f) (put_later g h hs p) ∙ put_later f h (insert g hs) q ∙ ap (λ x. h ∷ x) (insert_swap f g hs ne) ∙ sym (put_later g h (insert f hs) p) ∙ ap (insert g) (sym (put_later f h hs q))))

same_sorted : {hs gs : Headers} → Shuffles hs gs → AreDistinct hs → by_node hs ≡ by_node gs
same_sorted none d = refl
same_sorted (skip {h = h} s) d = ap (insert h) (same_sorted s d.1)
same_sorted (swap {h = h} {g = g} {hs = hs}) d = insert_swap h g (by_node hs) d.0.0
same_sorted (then_ s t) d = same_sorted s d ∙ same_sorted t (distinct_shuffled s d)

pub order_is_nothing : OrderOfFilesIsNothing
order_is_nothing prelude hs gs d s = ap (entries_from prelude 0 0) (same_sorted s d)

-- no node stands among the entries twice
abbrev pub AreApart : List Entry → Type 0
AreApart [] = Unit {0}
AreApart (e ∷ es) = AllByRecursion (λ (f : Entry). e.node ≡ f.node → ⊥) es × AreApart es

entries_other : (n : Node) (prelude : Bool) (number before : ℕ) (hs : Headers) → AllByRecursion (λ g. n ≡ g.node → ⊥) hs → AllByRecursion (λ (f : Entry). n ≡ f.node → ⊥) (entries_from prelude number before hs)
entries_other n prelude number before [] h = tt
entries_other n prelude number before (g ∷ hs) h = (h.0, entries_other n prelude (suc number) (before + counted g.size) hs h.1)

entries_apart : (prelude : Bool) (number before : ℕ) (hs : Headers) → AreDistinct hs → AreApart (entries_from prelude number before hs)
entries_apart prelude number before [] d = tt
entries_apart prelude number before (h ∷ hs) d = (entries_other h.node prelude (suc number) (before + counted h.size) hs d.0, entries_apart prelude (suc number) (before + counted h.size) hs d.1)

pub nodes_apart : (prelude : Bool) (hs : Headers) → AreDistinct hs → AreApart (entries_of prelude hs)
nodes_apart prelude hs d = entries_apart prelude 0 0 (by_node hs) (distinct_shuffled (sorting_shuffles hs) d)
