use Rattle.std.proofs.Common.{◌≡◌, ℕ, true, false, rules, sym, ap, ◌∙◌, refl}
use Rattle.numbered_nodes.specs.Bits.{has}
use Rattle.numbered_nodes.proofs.Words.{words_within, adds_none}
use Rattle.numbered_nodes.proofs.sets.NumberSet.is_within.Goals as goal

pub returns-then-mine-theirs : goal.returns-then-mine-theirs
returns-then-mine-theirs c = (
  (λ t. let e : false ≡ true = t in cc),
  (λ h.
      let h' : (k : ℕ) → has c.self.inside.words.items k ≡ true → has c.other.inside.words.items k ≡ true = λ k p. ap (λ ws. has ws k) c.other.view_is ∙ h k (sym (ap (λ ws. has ws k) c.self.view_is) ∙ p) in
      let d = c.if-mine-theirs in
      let no_word = adds_none c.self.inside.words.items c.other.inside.words.items c.loop-i.i c.index-mine.result.now c.index-theirs.result.now (search rules) (search rules) c.index-mine.ensures c.index-theirs.ensures (search rules) (search rules) h' in absurd (c.if-mine-theirs.true no_word)),
)

pub returns : goal.returns
returns c = (
  (λ t k p. sym (ap (λ ws. has ws k) c.other.view_is) ∙ words_within c.self.inside.words.items c.other.inside.words.items c.loop-i.i (search rules) c.loop-i.invariant k (ap (λ ws. has ws k) c.self.view_is ∙ p)),
  (λ h. refl),
)
