use Rattle.std.proofs.Common.{◌≡◌, List, [], ◌∷◌, ◌++◌, length, ap, sym, ◌∙◌, subst}
use Rattle.std.proofs.lemmas.List.{length-set}
use Rattle.term_classes.specs.declared.node.Saved.{Saved}
use Rattle.term_classes.specs.Undo.{HoldsPlaces, rewound}
use Rattle.term_classes.proofs.Undone.{rewound_last, place_front}
use Rattle.term_classes.proofs.write.undo.Goals as goal

pub loop-at-preserved : goal.loop-at-preserved
loop-at-preserved c =
    let s = c.in-Some.field-0 in
    let rest = c.pop.new.self.items in
    let slots = c.loop-at.slots in
    let inv = c.loop-at.invariant in
    let e : c.loop-at.saved.items ≡ rest ++ s ∷ [] = c.in-Some.ensures.items in
    record {
      places = subst (λ n. HoldsPlaces n rest) (sym (length-set slots s.at s.slot))
          (place_front (length slots) rest s (subst (λ (l : List Saved). HoldsPlaces (length slots) l) e inv.places));
      same = sym (rewound_last rest s slots) ∙ ap (λ (l : List Saved). rewound l slots) (sym e) ∙ inv.same;
    }
