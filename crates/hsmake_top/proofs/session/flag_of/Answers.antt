use Rattle.std.proofs.Common.{nat_eq, true, rules, tests}
use Rattle.std.proofs.lemmas.Iterator.Consumers.{fold_from_yields_List}
use Rattle.std.proofs.lemmas.Iterator.Splits.{YieldsList-from_slice_split}
use Rattle.hsmake_top.specs.Session.{flag_by}
use Rattle.hsmake_top.proofs.session.flag_of.Goals as goal

pub returns : goal.returns
returns c =
    fold_from_yields_List _ (flag_by c.args.on.now c.args.off.now) true c.fold.result c.fold.ensures.ran
    (YieldsList-from_slice_split _ (λ b. nat_eq b 32) c.args.words.now c.split.ensures.rest c.split.ensures.done c.split.ensures.closure (λ x r q k. search (rules, tests)))
    (λ a x b q k. search rules)
