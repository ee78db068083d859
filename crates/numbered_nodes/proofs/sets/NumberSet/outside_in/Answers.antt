use Rattle.std.proofs.Common.{◌≡◌, ◌<◌, ◌≤◌, ◌+◌, ◌*◌, ◌-◌, ◌^◌, ℕ, List, true, false, length, arith, ap, sym, ◌∙◌, subst, rules, IfSome, IfNone}
use Rattle.numbered_nodes.specs.Bits.{has}
use Rattle.numbered_nodes.proofs.Outside.{outside, inside, word_some, word_least, word_none}
use Rattle.numbered_nodes.proofs.sets.NumberSet.outside_in.Goals as goal

pub returns-in-Some-clause-some : goal.returns-in-Some-clause-some
returns-in-Some-clause-some c =
    let xs = c.self.inside.words.items in
    let ys = c.other.inside.words.items in
    let at = c.args.at in
    let low = c.args.low in
    let found = c.in-Some.ensures.some in
    let least = c.in-Some.ensures.least in
    let x = c.index-mine.result.now in
    let y = c.index-theirs.result.now in
    let lx : at < length xs = search rules in
    let ly : at < length ys = search rules in
    let fy : y < 2 ^ 64 = search rules in
    let hit = outside xs ys at x y c.in-Some.place lx ly c.index-mine.ensures c.index-theirs.ensures fy found.1 found.2 in
    let missed = λ (q : ℕ) (from : low ≤ q) (to : q < c.in-Some.place).
    inside xs ys at x y q lx ly c.index-mine.ensures c.index-theirs.ensures fy (let h = found.1 in omega arith) (least q from to) in
    subst (λ (l : List ℕ). IfSome c.below.result (λ k. (at * 64 + low ≤ k) × (k < c.args.bound) × (has l k ≡ true) × (has c.args.other.now k ≡ false))) c.self.view_is
    (subst (λ (l : List ℕ). IfSome c.below.result (λ k. (at * 64 + low ≤ k) × (k < c.args.bound) × (has xs k ≡ true) × (has l k ≡ false))) c.other.view_is
    (word_some xs ys at low c.args.bound c.in-Some.place c.below.result found.0 c.below.ensures hit missed))

pub returns-in-Some-clause-least : goal.returns-in-Some-clause-least
returns-in-Some-clause-least c =
    let xs = c.self.inside.words.items in
    let ys = c.other.inside.words.items in
    let at = c.args.at in
    let low = c.args.low in
    let found = c.in-Some.ensures.some in
    let least = c.in-Some.ensures.least in
    let x = c.index-mine.result.now in
    let y = c.index-theirs.result.now in
    let lx : at < length xs = search rules in
    let ly : at < length ys = search rules in
    let fy : y < 2 ^ 64 = search rules in
    let hit = outside xs ys at x y c.in-Some.place lx ly c.index-mine.ensures c.index-theirs.ensures fy found.1 found.2 in
    let missed = λ (q : ℕ) (from : low ≤ q) (to : q < c.in-Some.place).
    inside xs ys at x y q lx ly c.index-mine.ensures c.index-theirs.ensures fy (let h = found.1 in omega arith) (least q from to) in
    subst (λ (l : List ℕ). IfSome c.below.result (λ k. (j : ℕ) → at * 64 + low ≤ j → j < k → has l j ≡ true → has c.args.other.now j ≡ true)) c.self.view_is
    (subst (λ (l : List ℕ). IfSome c.below.result (λ k. (j : ℕ) → at * 64 + low ≤ j → j < k → has xs j ≡ true → has l j ≡ true)) c.other.view_is
    (word_least xs ys at low c.args.bound c.in-Some.place c.below.result found.0 c.below.ensures hit missed))

pub returns-in-Some-clause-none : goal.returns-in-Some-clause-none
returns-in-Some-clause-none c =
    let xs = c.self.inside.words.items in
    let ys = c.other.inside.words.items in
    let at = c.args.at in
    let low = c.args.low in
    let found = c.in-Some.ensures.some in
    let least = c.in-Some.ensures.least in
    let x = c.index-mine.result.now in
    let y = c.index-theirs.result.now in
    let lx : at < length xs = search rules in
    let ly : at < length ys = search rules in
    let fy : y < 2 ^ 64 = search rules in
    let hit = outside xs ys at x y c.in-Some.place lx ly c.index-mine.ensures c.index-theirs.ensures fy found.1 found.2 in
    let missed = λ (q : ℕ) (from : low ≤ q) (to : q < c.in-Some.place).
    inside xs ys at x y q lx ly c.index-mine.ensures c.index-theirs.ensures fy (let h = found.1 in omega arith) (least q from to) in
    subst (λ (l : List ℕ). IfNone c.below.result ((j : ℕ) → at * 64 + low ≤ j → j < at * 64 + 64 → j < c.args.bound → has l j ≡ true → has c.args.other.now j ≡ true)) c.self.view_is
    (subst (λ (l : List ℕ). IfNone c.below.result ((j : ℕ) → at * 64 + low ≤ j → j < at * 64 + 64 → j < c.args.bound → has xs j ≡ true → has l j ≡ true)) c.other.view_is
    (word_none xs ys at low c.args.bound c.in-Some.place c.below.result found.0 c.below.ensures hit missed))

pub returns-in-None-clause-none : goal.returns-in-None-clause-none
returns-in-None-clause-none c =
    let xs = c.self.inside.words.items in
    let ys = c.other.inside.words.items in
    let at = c.args.at in
    let low = c.args.low in
    let none = c.in-None.ensures.none in
    let x = c.index-mine.result.now in
    let y = c.index-theirs.result.now in
    let lx : at < length xs = search rules in
    let ly : at < length ys = search rules in
    let fy : y < 2 ^ 64 = search rules in
    λ j from to lt h.
    let e : at * 64 + (j - at * 64) ≡ j = omega arith in
    let there = inside xs ys at x y (j - at * 64) lx ly c.index-mine.ensures c.index-theirs.ensures fy (omega arith) (none (j - at * 64) (omega arith) (omega arith)) in
    let moved : has xs j ≡ true → has ys j ≡ true = subst (λ k. has xs k ≡ true → has ys k ≡ true) e there in
    sym (ap (λ (l : List ℕ). has l j) c.other.view_is) ∙ moved (ap (λ (l : List ℕ). has l j) c.self.view_is ∙ h)
