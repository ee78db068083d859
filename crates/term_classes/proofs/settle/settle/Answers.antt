use Rattle.std.proofs.Common.{ℕ, ◌≡◌, ◌+◌, List, length, sym, ◌∙◌, subst, arith, inl, inr, vec_len, rules}
use Rattle.std.proofs.lemmas.Bool.{eqb-true}
use Rattle.term_classes.specs.declared.node.Saved.{Saved}
use Rattle.term_classes.specs.Undo.{IsPlace}
use Rattle.term_classes.specs.Settle.{IsOn}
use Rattle.term_classes.proofs.Marks.{below_most}
use Rattle.term_classes.proofs.settle.settle.Goals as goal

pub returns-then-is_empty-clause-order : goal.returns-then-is_empty-clause-order
returns-then-is_empty-clause-order c _ = λ i l e. elim (c.requires.order i l e) [
  | inl g ↦ g
  | inr p ↦ elim (c.in_ok-starts.ensures.all i (subst (λ (s : List Saved). IsPlace s i) (sym c.deref.ensures.value) p) e) [
    | inl g ↦ g
    | inr on ↦
        let y : length c.in_ok-starts.starts.items ≡ vec_len c.in_ok-starts.starts = search rules in
        let z : vec_len c.in_ok-starts.starts ≡ 0 = eqb-true (vec_len c.in_ok-starts.starts) 0 (sym c.is_empty.ensures ∙ c.if-is_empty.true) in
        let l = on.1 in
        absurd (omega arith)
  ]
]

pub walk_all-requires-clause-walk : goal.walk_all-requires-clause-walk
walk_all-requires-clause-walk c =
    let fresh = c.requires.fresh in
    record {
      sound = c.requires.sound;
      len = c.requires.len;
      order = λ i l e. elim (c.requires.order i l e) [
        | inl g ↦ inl g
        | inr p ↦ elim (c.in_ok-starts.ensures.all i (subst (λ (s : List Saved). IsPlace s i) (sym c.deref.ensures.value) p) e) [
          | inl g ↦ inl g
          | inr on ↦ inr (
            (let f = fresh i in omega arith),
            c.lowest-low.ensures i (subst (λ (s : List ℕ). IsOn s i) (sym c.deref-2.ensures.value) on),
            subst (λ (s : List ℕ). IsOn s i) (sym c.deref-3.ensures.value) on,
          )
        ]
      ];
      finished = λ i l m. let f = fresh i in absurd (omega arith);
      room = let b = below_most (c.args.clock + 1) c.args.marks.now in let n = c.requires.len in let t = c.if-low-count.false in omega arith;
    }
