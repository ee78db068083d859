use Rattle.std.proofs.Common.{◌≡◌, ◌∷◌, [], take, refl, sym, subst}
use Rattle.std.proofs.lemmas.List.{take_all}
use Rattle.session_lang.specs.Spelling.{IsFlagWords}
use Rattle.session_lang.proofs.Words.{one_word, part_of_line, no_part, words_push}
use Rattle.session_lang.proofs.piece.flag_words_at.Goals as goal

pub loop-at-preserved : goal.loop-at-preserved
loop-at-preserved c =
    let bytes = c.args.bytes.now in
    let at = c.loop-at.at in
    let word = c.in-Whole.word.now in
    let s = one_word bytes at c.loop-at.invariant.within word c.in-Whole.field-1.now c.in-Whole.ensures.1 in
    record {
      within = s.0;
      words = subst IsFlagWords (sym s.1) (words_push (take at bytes) word c.loop-at.invariant.words c.in-Whole.ensures.0);
    }

pub returns-in-More : goal.returns-in-More
returns-in-More c =
    let h = c.in-More.ensures in
    part_of_line c.args.bytes.now c.loop-at.at c.loop-at.invariant.within c.loop-at.invariant.words h.0 h.1 h.2 h.3 h.4

pub returns-in-Bad : goal.returns-in-Bad
returns-in-Bad c =
    no_part c.args.bytes.now c.loop-at.at c.loop-at.invariant.within c.loop-at-test.true c.if-bytes-at-eq10.false c.in-Bad.ensures c.loop-at.invariant.words

pub returns : goal.returns
returns c =
    let bytes = c.args.bytes.now in
    let whole : take c.loop-at.at bytes ≡ bytes = take_all c.loop-at.at bytes c.loop-at-test.false in
    (bytes, 10 ∷ [], subst IsFlagWords whole c.loop-at.invariant.words, (λ e. cc), refl)
