use Rattle.std.proofs.Common.{◌≡◌, List, ℕ, ◌++◌, IsUtf8, encode_utf8, sym, ◌∙◌, refl, tests, rules}
use Rattle.std.specs.Str.Iter.{chars_rest}
use Rattle.std.proofs.lemmas.Iterator.{YieldsList-from_chars}
use Rattle.std.proofs.lemmas.Iterator.Search.{all_from_yields_List}
use Rattle.std.proofs.lemmas.Str.{chars_past_char, IsUtf8-past_char}
use Rattle.mk_base.specs.Paths.{is_in_conid}
use Rattle.mk_base.proofs.Segments.{conid_step}
use Rattle.mk_base.proofs.path.is_conid.Goals as goal

pub returns-then-is_large : goal.returns-then-is_large
returns-then-is_large c =
    let text : List ℕ = c.args.text.now in
    let rest : List ℕ = chars_rest c.next.new.self in
    let e : text ≡ encode_utf8 c.in-Some.first ++ rest = sym c.chars-rest.ensures.rest ∙ c.in-Some.ensures.steps.0 in
    let u : IsUtf8 text = c.utf8.text in
    conid_step text rest c.in-Some.first c.all.result (chars_past_char text rest c.in-Some.first u e) (sym c.is_large.ensures ∙ c.if-is_large.true)
    (all_from_yields_List is_in_conid _ _ _ c.all.ensures.ran (YieldsList-from_chars rest (IsUtf8-past_char text rest c.in-Some.first u e) refl) (λ x b q k. search (rules, tests)))
