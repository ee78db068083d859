-- What is asked with a face behind others is told by what is asked of these.
use Rattle.std.proofs.Common.{◌≡◌, ℕ, ◌+◌, List, [], ◌++◌, Option, None, take, drop, cond, length, Some, refl, ap, sym, ◌∙◌}
use Rattle.std.specs.Option.{option_or}
use Rattle.mk_base.specs.declared.fingerprint.Fingerprint.{Fingerprint}
use Rattle.mk_base.specs.Texts.{same_text}
use Rattle.face_model.specs.declared.decl.Decl.{Decl}
use Rattle.face_model.specs.declared.inst.Inst.{Inst}
use Rattle.face_model.specs.declared.export.Export.{Export}
use Rattle.face_model.specs.declared.face.Face.{Face}
use Rattle.face_model.specs.Environments.{Faces, insts_in, insts_of, insts_up_to, is_behind, first_decl, first_print, exports_of}
use Rattle.own_env.specs.Own.{known, with_own, decl_of}
use Rattle.own_env.specs.Queries.{Query, Answer, declaration, fingerprint, exported, instances, instances_up_to, declared, printed, exporting, found, counted, ask, AnswerAlike, among, OwnAnswersAreTold}
use Rattle.own_env.proofs.Behind.{decl_behind, print_behind, exports_behind, insts_behind, up_to_behind}

abbrev decl_in : Answer → Option Decl
decl_in (declared o) = o
decl_in _ = None

abbrev print_in : Answer → Option Fingerprint
print_in (printed o) = o
print_in _ = None

abbrev exports_in : Answer → Option (List Export)
exports_in (exporting o) = o
exports_in _ = None

abbrev found_in : Answer → List Inst
found_in (found is) = is
found_in _ = []

abbrev count_in : Answer → ℕ
count_in (counted n) = n
count_in _ = 0

pub told : OwnAnswersAreTold
told f (declaration n) v w a =
    let e : first_decl v n ≡ first_decl w n = ap decl_in a.0 in
    ap declared (decl_behind n v f ∙ (ap (λ (o : Option Decl). option_or o (decl_of n f.decls)) e ∙ sym (decl_behind n w f)))
told f (fingerprint n) v w a =
    let e : first_print v n ≡ first_print w n = ap print_in a.0 in
    ap printed (print_behind n v f ∙ (e ∙ sym (print_behind n w f)))
told f (exported m) v w a =
    let e : exports_of v m ≡ exports_of w m = ap exports_in a.0 in
    ap exporting (exports_behind v f m ∙ (ap (λ (o : Option (List Export)). option_or o (cond (same_text m.text f.node.module.text) (Some f.exports) None)) e ∙ sym (exports_behind w f m)))
told f (instances class head) v w a =
    let e : insts_of v class head ≡ insts_of w class head = ap found_in a.0 in
    let c : insts_up_to v class head f.node.module ≡ insts_up_to w class head f.node.module = ap count_in a.1.0 in
    ap found (insts_behind class head v (known f) ∙ ((λ i. (take (c i) (e i) ++ insts_in class head (known f)) ++ drop (c i) (e i)) ∙ sym (insts_behind class head w (known f))))
told f (instances_up_to class head m) v w a =
    let c : insts_up_to v class head m ≡ insts_up_to w class head m = ap count_in a.0 in
    ap counted (up_to_behind class head v (known f) m ∙ (ap (λ (n : ℕ). n + cond {A = ℕ} (is_behind (known f) m) 0 (length (insts_in class head (known f)))) c ∙ sym (up_to_behind class head w (known f) m)))
