use Rattle.std.proofs.Common.{◌≡◌, ◌∙◌, List, not, is_some, ap, subst}
use Rattle.std.specs.List.{list_any}
use Rattle.report.specs.Report.{report_of}
use Rattle.face_model.specs.declared.result.NodeResult.{NodeResult}
use Rattle.plain_build.specs.Result.{AreResults, built, nodes_in}
use Rattle.hsmake_top.specs.Session.{input_of, results_of}
use Rattle.hsmake_top.specs.Kept.{IsKept, state_of}
use Rattle.hsmake_top.specs.declared.session.Session.{Session}
use Rattle.hsmake_top.proofs.Results.{reported, unsound}
use Rattle.hsmake_top.proofs.session.Session.build.Goals as goal

input_is : (s : Session) → IsKept s → s.input ≡ input_of (state_of s)
input_is s k = λ i. record { unit = record { text = k.unit i }; prelude = s.input.prelude; restrict = s.input.restrict; files = s.input.files; store = k.store i }

results_are : (s : Session) (rs : List NodeResult) → IsKept s → AreResults s.input.unit.text (nodes_in (built s.input)) rs (built s.input)
    → AreResults s.input.unit.text (nodes_in (results_of (state_of s))) rs (results_of (state_of s))
results_are s rs k h = subst (λ input. AreResults s.input.unit.text (nodes_in (built input)) rs (built input)) (input_is s k) h

pub report_text-requires : goal.report_text-requires
report_text-requires g c =
    let s = c.args.self.now in
    (reported s.input.unit.text c.in_ok-built.built.nodes (results_of (state_of s)) (results_are s c.in_ok-built.built.nodes c.requires.kept c.in_ok-built.ensures.build)).0

pub returns-clause-text : goal.returns-clause-text
returns-clause-text g c =
    let s = c.args.self.now in
    c.in_ok-text.ensures ∙ ap report_of (reported s.input.unit.text c.in_ok-built.built.nodes (results_of (state_of s)) (results_are s c.in_ok-built.built.nodes c.requires.kept c.in_ok-built.ensures.build)).1

pub returns-clause-failed : goal.returns-clause-failed
returns-clause-failed g c =
    let s = c.args.self.now in
    let rs = c.in_ok-built.built.nodes in
    let h = results_are s rs c.requires.kept c.in_ok-built.ensures.build in
    c.any_unsound-failed.ensures ∙ ap (λ r. list_any (λ (x : NodeResult). not (is_some x.bytes)) r) c.as_slice.ensures ∙ unsound s.input.unit.text (nodes_in (results_of (state_of s))) rs (results_of (state_of s)) h
