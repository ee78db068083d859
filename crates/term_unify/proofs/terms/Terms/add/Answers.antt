use Rattle.std.proofs.Common.{ℕ, ◌≡◌, ◌||◌, List, [], ◌∷◌, ◌++◌, length, sym, ◌∙◌, subst, rules}
use Rattle.term_classes.specs.declared.node.Slot.{Slot}
use Rattle.term_classes.specs.declared.node.Node.{Node}
use Rattle.term_classes.specs.Fits.{HasParts, PartsBelow, node_at, Sound}
use Rattle.term_classes.specs.Ceilings.{PartsCapped, Lowered}
use Rattle.term_unify.specs.Arena.{Arena, Holds, layer, made, size_of, count_of, count_with, listed_with, new_slot, is_rigid, is_rigid_number, IsNext}
use Rattle.term_unify.specs.Added.{Added}
use Rattle.term_unify.proofs.Grow.{sound_new, holds_more, added_more, rigid_more, count_more}
use Rattle.term_unify.proofs.terms.Terms.add.Goals as goal

module _ (st : Arena) (nodes : List Node) (slots : List Slot) (vs ceilings marks : List ℕ) (clock : ℕ) (node : Node) (rank : ℕ) (e : st ≡ record { nodes = nodes; slots = slots; variables = vs }) (h : Holds nodes slots vs ceilings marks clock)
    (hp : HasParts node (size_of st)) (pb : PartsBelow node st.slots rank) (nx : IsNext node (count_of st)) where
  hp' : HasParts node (length nodes)
  hp' = subst (λ (s : Arena). HasParts node (size_of s)) e hp

  pb' : PartsBelow node slots rank
  pb' = subst (λ (s : Arena). PartsBelow node s.slots rank) e pb

  nx' : IsNext node (length vs)
  nx' = subst (λ (s : Arena). IsNext node (count_of s)) e nx

  holds_at : (more ns : List Node) (wide ss : List Slot) (listed top later marked : List ℕ) (at : ℕ) → more ≡ nodes ++ node ∷ [] → wide ≡ slots ++ new_slot (length nodes) rank ∷ [] → listed ≡ listed_with node vs (length nodes)
      → top ≡ ceilings ++ 18446744073709551615 ∷ [] → marked ≡ marks ++ 0 ∷ [] → ns ≡ more → ss ≡ wide → at ≡ length nodes → Lowered top later → PartsCapped (node_at ns at) ss later rank → Holds more wide listed later marked clock
  holds_at more ns wide ss listed top later marked at a b d t f u v w low here =
      subst (λ (z : List Node). Holds z wide listed later marked clock) (sym a)
      (subst (λ (z : List Slot). Holds (nodes ++ node ∷ []) z listed later marked clock) (sym b)
      (subst (λ (z : List ℕ). Holds (nodes ++ node ∷ []) (slots ++ new_slot (length nodes) rank ∷ []) z later marked clock) (sym d)
      (subst (λ (z : List ℕ). Holds (nodes ++ node ∷ []) (slots ++ new_slot (length nodes) rank ∷ []) (listed_with node vs (length nodes)) later z clock) (sym f)
      (holds_more nodes slots vs ceilings later marks clock 18446744073709551615 node rank h hp' pb' nx' (subst (λ (z : List ℕ). Lowered z later) t low)
      (subst (λ (z : List Node). PartsCapped (node_at z (length nodes)) (slots ++ new_slot (length nodes) rank ∷ []) later rank) (u ∙ a)
      (subst (λ (z : List Slot). PartsCapped (node_at ns (length nodes)) z later rank) (v ∙ b)
      (subst (λ z. PartsCapped (node_at ns z) ss later rank) w here)))))))

  sound_at : (more ns : List Node) (wide ss : List Slot) → more ≡ nodes ++ node ∷ [] → wide ≡ slots ++ new_slot (length nodes) rank ∷ [] → ns ≡ more → ss ≡ wide → Sound ns ss
  sound_at more ns wide ss a b u v =
      subst (λ (z : List Node). Sound z ss) (sym (u ∙ a)) (subst (λ (z : List Slot). Sound (nodes ++ node ∷ []) z) (sym (v ∙ b)) (sound_new nodes slots h.sound h.order h.natural node rank hp' pb'))

  module _ (P : Arena → Arena → Type 0) (p : P (record { nodes = nodes; slots = slots; variables = vs }) (record { nodes = nodes ++ node ∷ []; slots = slots ++ new_slot (length nodes) rank ∷ []; variables = listed_with node vs (length nodes) })) where
    at : (more : List Node) (wide : List Slot) (listed : List ℕ) → more ≡ nodes ++ node ∷ [] → wide ≡ slots ++ new_slot (length nodes) rank ∷ [] → listed ≡ listed_with node vs (length nodes)
        → P st (record { nodes = more; slots = wide; variables = listed })
    at more wide listed a b d =
        subst (λ (s : Arena). P s (record { nodes = more; slots = wide; variables = listed })) (sym e)
        (subst (λ (z : List Node). P (record { nodes = nodes; slots = slots; variables = vs }) (record { nodes = z; slots = wide; variables = listed })) (sym a)
        (subst (λ (z : List Slot). P (record { nodes = nodes; slots = slots; variables = vs }) (record { nodes = nodes ++ node ∷ []; slots = z; variables = listed })) (sym b)
        (subst (λ (z : List ℕ). P (record { nodes = nodes; slots = slots; variables = vs }) (record { nodes = nodes ++ node ∷ []; slots = slots ++ new_slot (length nodes) rank ∷ []; variables = z })) (sym d) p)))

  added_at : (more : List Node) (wide : List Slot) (listed : List ℕ) → more ≡ nodes ++ node ∷ [] → wide ≡ slots ++ new_slot (length nodes) rank ∷ [] → listed ≡ listed_with node vs (length nodes)
      → Added st (record { nodes = more; slots = wide; variables = listed }) (size_of st) (layer node (made st))
  added_at = at (λ s t. Added s t (size_of s) (layer node (made s))) (added_more nodes slots vs ceilings marks clock node rank h hp' pb' nx')

  rigid_at : (more : List Node) (wide : List Slot) (listed : List ℕ) → more ≡ nodes ++ node ∷ [] → wide ≡ slots ++ new_slot (length nodes) rank ∷ [] → listed ≡ listed_with node vs (length nodes)
      → (n : ℕ) → is_rigid (record { nodes = more; slots = wide; variables = listed }) n ≡ (is_rigid_number node n || is_rigid st n)
  rigid_at = at (λ s t. (n : ℕ) → is_rigid t n ≡ (is_rigid_number node n || is_rigid s n)) (rigid_more nodes slots vs ceilings marks clock node rank h hp' pb' nx')

  count_at : (more : List Node) (wide : List Slot) (listed : List ℕ) → more ≡ nodes ++ node ∷ [] → wide ≡ slots ++ new_slot (length nodes) rank ∷ [] → listed ≡ listed_with node vs (length nodes)
      → count_of (record { nodes = more; slots = wide; variables = listed }) ≡ count_with node (count_of st)
  count_at = at (λ s t. count_of t ≡ count_with node (count_of s)) (count_more node vs (length nodes))

pub cap_new-requires-clause-sound : goal.cap_new-requires-clause-sound
cap_new-requires-clause-sound c =
    let in_ = c.self.inside in
    let v : c.args.self.now ≡ record { nodes = in_.nodes.items; slots = in_.slots.items; variables = in_.variables.items } = sym c.self.view_is in
    let g = c.in_ok-grow.ensures in
    sound_at c.args.self.now in_.nodes.items in_.slots.items in_.variables.items in_.ceilings.items in_.marks.items in_.clock c.args.node c.args.rank v c.self.invariant c.requires.parts c.requires.rank c.requires.number
    c.grow.new.nodes.items c.deref.result.now c.grow.new.slots.items c.deref-2.result.now g.nodes g.slots c.deref.ensures.value c.deref-2.ensures.value

pub invariant_of-self-2 : goal.invariant_of-self-2
invariant_of-self-2 c =
    let in_ = c.self.inside in
    let v : c.args.self.now ≡ record { nodes = in_.nodes.items; slots = in_.slots.items; variables = in_.variables.items } = sym c.self.view_is in
    let g = c.in_ok-grow.ensures in
    let n : c.len-id.result ≡ length in_.nodes.items = search rules in
    holds_at c.args.self.now in_.nodes.items in_.slots.items in_.variables.items in_.ceilings.items in_.marks.items in_.clock c.args.node c.args.rank v c.self.invariant c.requires.parts c.requires.rank c.requires.number
    c.grow.new.nodes.items c.deref.result.now c.grow.new.slots.items c.deref-2.result.now c.grow.new.variables.items c.grow.new.ceilings.items c.cap_new.new.ceilings.items c.grow.new.marks.items c.len-id.result
    g.nodes g.slots g.variables g.ceilings g.marks c.deref.ensures.value c.deref-2.ensures.value n c.cap_new.ensures.lowered c.cap_new.ensures.capped

pub returns-clause-added : goal.returns-clause-added
returns-clause-added c =
    let in_ = c.self.inside in
    let v : c.args.self.now ≡ record { nodes = in_.nodes.items; slots = in_.slots.items; variables = in_.variables.items } = sym c.self.view_is in
    let g = c.in_ok-grow.ensures in
    let n : c.len-id.result ≡ size_of c.args.self.now = search rules in
    subst (λ z. Added c.args.self.now (record { nodes = c.grow.new.nodes.items; slots = c.grow.new.slots.items; variables = c.grow.new.variables.items }) z (layer c.args.node (made c.args.self.now))) (sym n)
    (added_at c.args.self.now in_.nodes.items in_.slots.items in_.variables.items in_.ceilings.items in_.marks.items in_.clock c.args.node c.args.rank v c.self.invariant c.requires.parts c.requires.rank c.requires.number
    c.grow.new.nodes.items c.grow.new.slots.items c.grow.new.variables.items g.nodes g.slots g.variables)

pub returns-clause-count : goal.returns-clause-count
returns-clause-count c =
    let in_ = c.self.inside in
    let v : c.args.self.now ≡ record { nodes = in_.nodes.items; slots = in_.slots.items; variables = in_.variables.items } = sym c.self.view_is in
    let g = c.in_ok-grow.ensures in
    count_at c.args.self.now in_.nodes.items in_.slots.items in_.variables.items in_.ceilings.items in_.marks.items in_.clock c.args.node c.args.rank v c.self.invariant c.requires.parts c.requires.rank c.requires.number
    c.grow.new.nodes.items c.grow.new.slots.items c.grow.new.variables.items g.nodes g.slots g.variables

pub returns-clause-rigid : goal.returns-clause-rigid
returns-clause-rigid c =
    let in_ = c.self.inside in
    let v : c.args.self.now ≡ record { nodes = in_.nodes.items; slots = in_.slots.items; variables = in_.variables.items } = sym c.self.view_is in
    let g = c.in_ok-grow.ensures in
    rigid_at c.args.self.now in_.nodes.items in_.slots.items in_.variables.items in_.ceilings.items in_.marks.items in_.clock c.args.node c.args.rank v c.self.invariant c.requires.parts c.requires.rank c.requires.number
    c.grow.new.nodes.items c.grow.new.slots.items c.grow.new.variables.items g.nodes g.slots g.variables
