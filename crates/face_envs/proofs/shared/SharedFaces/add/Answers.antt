use Rattle.std.proofs.Common.{◌≡◌, ◌∙◌, ◌+◌, ◌++◌, ◌∷◌, [], ℕ, List, ap, cond, length, sym, subst, arith, rules}
use Rattle.indexmap.specs.IndexMap.{get}
use Rattle.face_model.specs.declared.face.Face.{Face}
use Rattle.face_model.specs.Environments.{Faces, Known, AreFormed, same_name}
use Rattle.face_model.specs.Formed.{FaceFormed}
use Rattle.face_envs.specs.Tables.{decls_from, decl_places, face_places, same_module, inst_row, insts_from, inst_places, module_at, put_all, row_of}
use Rattle.face_envs.proofs.Sorting.{put_all_more}
use Rattle.face_envs.proofs.Adding.{decls_last, faces_last, insts_places_last, formed_last}
use Rattle.face_envs.proofs.shared.SharedFaces.add.Goals as goal

pub invariant_of-result : goal.invariant_of-result
invariant_of-result c =
    let fs : Faces = c.self.inside.kept in
    let k : Known = record { face = c.args.face; prints = c.args.prints } in
    let end : ℕ = c.len-number.result in
    let is : c.push.new.self ≡ fs ++ k ∷ [] = c.in_ok-push.ensures.ok ∙ ap (λ j. fs ++ j ∷ []) c.new.ensures in
    let number : end ≡ 0 + length fs = search rules in
    record {
      formed = subst AreFormed (sym is) (formed_last fs k c.self.invariant.formed c.requires);
      of_decls = λ n. c.in_ok-add_decls.ensures n
          ∙ (ap (λ xs. xs ++ decls_from n end 0 c.as_slice.result.now) (c.self.invariant.of_decls n)
          ∙ (ap (λ i. decl_places n 0 fs ++ decls_from n i 0 c.as_slice.result.now) number
          ∙ (ap (λ ds. decl_places n 0 fs ++ decls_from n (0 + length fs) 0 ds) c.as_slice.ensures
          ∙ (sym (decls_last n 0 fs k)
          ∙ ap (decl_places n 0) (sym is)))));
      of_modules = λ m. c.in_ok-add_face.ensures m
          ∙ (ap (λ xs. xs ++ cond (same_module m k.face.node.module) (end ∷ []) []) (c.self.invariant.of_modules m)
          ∙ (ap (λ i. face_places m 0 fs ++ cond (same_module m k.face.node.module) (i ∷ []) []) number
          ∙ (sym (faces_last m 0 fs k)
          ∙ ap (face_places m 0) (sym is))));
      of_insts = λ n h. c.in_ok-add_insts.ensures n h
          ∙ (ap (put_all module_at (insts_from n h k.face.node.module end 0 c.as_slice-2.result.now)) (c.self.invariant.of_insts n h)
          ∙ (ap (λ i. put_all module_at (insts_from n h k.face.node.module i 0 c.as_slice-2.result.now) (put_all module_at (inst_places n h 0 fs) [])) number
          ∙ (ap (λ ds. put_all module_at (insts_from n h k.face.node.module (0 + length fs) 0 ds) (put_all module_at (inst_places n h 0 fs) [])) c.as_slice-2.ensures
          ∙ (sym (put_all_more module_at (inst_places n h 0 fs) (insts_from n h k.face.node.module (0 + length fs) 0 k.face.insts) [])
          ∙ (ap (λ xs. put_all module_at xs []) (sym (insts_places_last n h 0 fs k))
          ∙ ap (λ xs. put_all module_at (inst_places n h 0 xs) []) (sym is))))));
    }

pub returns : goal.returns
returns c = c.in_ok-push.ensures.ok ∙ (ap (λ j. c.self.inside.kept ++ j ∷ []) c.new.ensures ∙ ap (λ fs. fs ++ record { face = c.args.face; prints = c.args.prints } ∷ []) c.self.view_is)
