-- What is asked of a list of faces with one more behind it.
use Rattle.std.proofs.Common.{◌≡◌, ◌≤◌, ℕ, ◌+◌, Bool, true, false, List, [], ◌∷◌, ◌++◌, Option, Some, None, length, take, drop, cond, refl, ap, sym, subst, ◌∙◌, append_assoc, append-nil, length-append, arith}
use Rattle.std.specs.Prelude.{not, filter, flat_map, find}
use Rattle.std.specs.Option.{option_or}
use Rattle.mk_base.specs.Texts.{same_text}
use Rattle.mk_base.specs.declared.name.Name.{Name}
use Rattle.mk_base.specs.declared.name.ModName.{ModName}
use Rattle.face_model.specs.declared.decl.Decl.{Decl}
use Rattle.face_model.specs.declared.export.Export.{Export}
use Rattle.face_model.specs.declared.face.Face.{Face}
use Rattle.face_model.specs.declared.inst.Inst.{Inst}
use Rattle.face_model.specs.Formed.{FaceFormed}
use Rattle.face_model.specs.Environments.{Known, Faces, Entry, AreFormed, same_name, with_prints, first_entry, decl_in, print_in, first_decl, first_print, exports_in, exports_of, insts_in, is_behind, put, by_module, insts_of, insts_up_to}
use Rattle.face_envs.proofs.Sorting.{by_cases}
use Rattle.face_envs.proofs.Ends.{entry_last, find_append, insts_last, insts_up_to_last}
use Rattle.own_env.specs.Own.{known, with_own, decl_of}

-- ---- instances

module _ (class head : Name) where
  abbrev weigh : (Known → Bool) → Faces → ℕ
  weigh p xs = length (flat_map (insts_in class head) (filter p xs))

  abbrev one : (Known → Bool) → Known → ℕ
  one p x = cond {A = ℕ} (p x) (length (insts_in class head x)) 0

  weigh_next : (p : Known → Bool) (x : Known) (xs : Faces) → weigh p (x ∷ xs) ≡ one p x + weigh p xs
  weigh_next p x xs =
      let w = weigh p xs in
      let z : w ≡ 0 + w = omega arith in
      by_cases (p x)
      (λ e. ap (λ b. length (flat_map (insts_in class head) (cond b (x ∷ filter p xs) (filter p xs)))) e
      ∙ (length-append (insts_in class head x) (flat_map (insts_in class head) (filter p xs))
      ∙ sym (ap (λ b. cond {A = ℕ} b (length (insts_in class head x)) 0 + w) e)))
      (λ e. ap (λ b. length (flat_map (insts_in class head) (cond b (x ∷ filter p xs) (filter p xs)))) e
      ∙ (z ∙ sym (ap (λ b. cond {A = ℕ} b (length (insts_in class head x)) 0 + w) e)))

  turned : (a b c : ℕ) → a + (b + c) ≡ b + (a + c)
  turned a b c = omega arith

  weigh_put : (p : Known → Bool) (x : Known) (ys : Faces) → weigh p (put x ys) ≡ weigh p (x ∷ ys)
  weigh_put p x [] = refl
  weigh_put p x (y ∷ ys) =
      by_cases (is_behind x y.face.node.module)
      (λ e. ap (λ b. weigh p (cond b (y ∷ put x ys) (x ∷ y ∷ ys))) e
      ∙ (weigh_next p y (put x ys)
      ∙ (ap (λ n. one p y + n) (weigh_put p x ys ∙ weigh_next p x ys)
      ∙ (turned (one p y) (one p x) (weigh p ys)
      ∙ (sym (ap (λ n. one p x + n) (weigh_next p y ys))
      ∙ sym (weigh_next p x (y ∷ ys)))))))
      (λ e. ap (λ b. weigh p (cond b (y ∷ put x ys) (x ∷ y ∷ ys))) e)

  weigh_sorted : (p : Known → Bool) (fs : Faces) → weigh p (by_module fs) ≡ weigh p fs
  weigh_sorted p [] = refl
  weigh_sorted p (f ∷ fs) =
      weigh_put p f (by_module fs)
      ∙ (weigh_next p f (by_module fs)
      ∙ (ap (λ n. one p f + n) (weigh_sorted p fs)
      ∙ sym (weigh_next p f fs)))

  -- what is counted is among what is listed
  one_within : (p : Known → Bool) (x : Known) → one p x ≤ length (insts_in class head x)
  one_within p x =
      let n = length (insts_in class head x) in
      let none : 0 ≤ n = omega arith in
      let all : n ≤ n = omega arith in
      by_cases (p x)
      (λ e. subst (λ (b : Bool). cond {A = ℕ} b n 0 ≤ n) (sym e) all)
      (λ e. subst (λ (b : Bool). cond {A = ℕ} b n 0 ≤ n) (sym e) none)

  summed : (a b c d w l : ℕ) → w ≡ a + b → a ≤ c → b ≤ d → l ≡ c + d → w ≤ l
  summed a b c d w l e h k f = omega arith

  weigh_within : (p : Known → Bool) (xs : Faces) → weigh p xs ≤ length (flat_map (insts_in class head) xs)
  weigh_within p [] = let h : 0 ≤ 0 = omega arith in h
  weigh_within p (x ∷ xs) =
      summed (one p x) (weigh p xs) (length (insts_in class head x)) (length (flat_map (insts_in class head) xs)) (weigh p (x ∷ xs)) (length (flat_map (insts_in class head) (x ∷ xs)))
      (weigh_next p x xs) (one_within p x) (weigh_within p xs) (length-append (insts_in class head x) (flat_map (insts_in class head) xs))

  pub up_to_within : (fs : Faces) (k : Known) → insts_up_to fs class head k.face.node.module ≤ length (insts_of fs class head)
  up_to_within fs k =
      let p : Known → Bool = λ y. not (is_behind y k.face.node.module) in
      subst (λ (n : ℕ). n ≤ length (insts_of fs class head)) (weigh_sorted p fs) (weigh_within p (by_module fs))

  pub insts_behind : (fs : Faces) (k : Known) → insts_of (fs ++ k ∷ []) class head ≡ (take (insts_up_to fs class head k.face.node.module) (insts_of fs class head) ++ insts_in class head k) ++ drop (insts_up_to fs class head k.face.node.module) (insts_of fs class head)
  insts_behind fs k =
      let n : ℕ = insts_up_to fs class head k.face.node.module in
      insts_last fs k class head ∙ sym (append_assoc (take n (insts_of fs class head)) (insts_in class head k) (drop n (insts_of fs class head)))

  pub up_to_behind : (fs : Faces) (k : Known) (m : ModName) → insts_up_to (fs ++ k ∷ []) class head m ≡ insts_up_to fs class head m + cond {A = ℕ} (is_behind k m) 0 (length (insts_in class head k))
  up_to_behind fs k m =
      let own = insts_in class head k in
      insts_up_to_last fs k class head m
      ∙ ap (λ n. insts_up_to fs class head m + n)
      (by_cases (is_behind k m)
      (λ e. ap (λ b. length (flat_map (insts_in class head) (cond {A = Faces} (not b) (k ∷ []) []))) e ∙ sym (ap (λ b. cond {A = ℕ} b 0 (length own)) e))
      (λ e. ap (λ b. length (flat_map (insts_in class head) (cond {A = Faces} (not b) (k ∷ []) []))) e ∙ (ap length (append-nil own) ∙ sym (ap (λ b. cond {A = ℕ} b 0 (length own)) e))))

-- ---- declarations

module _ (n : Name) where
  abbrev test : Entry → Bool
  test e = same_name n e.0.name

  own_decl : (ds : List Decl) → decl_in (find test (with_prints ds [])) ≡ decl_of n ds
  own_decl [] = refl
  own_decl (d ∷ ds) =
      by_cases (same_name n d.name)
      (λ e. ap (λ b. decl_in (cond b (Some (d, None)) (find test (with_prints ds [])))) e ∙ sym (ap (λ b. cond b (Some d) (decl_of n ds)) e))
      (λ e. ap (λ b. decl_in (cond b (Some (d, None)) (find test (with_prints ds [])))) e ∙ (own_decl ds ∙ sym (ap (λ b. cond b (Some d) (decl_of n ds)) e)))

  own_print : (ds : List Decl) → print_in (find test (with_prints ds [])) ≡ None
  own_print [] = refl
  own_print (d ∷ ds) =
      by_cases (same_name n d.name)
      (λ e. ap (λ b. print_in (cond b (Some (d, None)) (find test (with_prints ds [])))) e)
      (λ e. ap (λ b. print_in (cond b (Some (d, None)) (find test (with_prints ds [])))) e ∙ own_print ds)

  decl_or : (a b : Option Entry) → decl_in (option_or a b) ≡ option_or (decl_in a) (decl_in b)
  decl_or None b = refl
  decl_or (Some e) b = refl

  print_or : (a b : Option Entry) → print_in b ≡ None → print_in (option_or a b) ≡ print_in a
  print_or None b e = e
  print_or (Some x) b e = refl

  entry_behind : (fs : Faces) (f : Face) → first_entry (with_own fs f) n ≡ option_or (first_entry fs n) (find test (with_prints f.decls []))
  entry_behind fs f =
      entry_last fs (known f) n ∙ ap (λ (es : List Entry). option_or (first_entry fs n) (find test es)) (append-nil (with_prints f.decls []))

  pub decl_behind : (fs : Faces) (f : Face) → first_decl (with_own fs f) n ≡ option_or (first_decl fs n) (decl_of n f.decls)
  decl_behind fs f =
      ap decl_in (entry_behind fs f)
      ∙ (decl_or (first_entry fs n) (find test (with_prints f.decls []))
      ∙ ap (option_or (first_decl fs n)) (own_decl f.decls))

  pub print_behind : (fs : Faces) (f : Face) → first_print (with_own fs f) n ≡ first_print fs n
  print_behind fs f =
      ap print_in (entry_behind fs f)
      ∙ print_or (first_entry fs n) (find test (with_prints f.decls [])) (own_print f.decls)

-- ---- exports

export_or : (a : Option Known) (k : Known) (b : Bool) → exports_in (option_or a (cond b (Some k) None)) ≡ option_or (exports_in a) (cond b (Some k.face.exports) None)
export_or None k true = refl
export_or None k false = refl
export_or (Some j) k b = refl

pub exports_behind : (fs : Faces) (f : Face) (m : ModName) → exports_of (with_own fs f) m ≡ option_or (exports_of fs m) (cond (same_text m.text f.node.module.text) (Some f.exports) None)
exports_behind fs f m =
    let t : Known → Bool = λ k. same_text m.text k.face.node.module.text in
    ap exports_in (find_append t fs (known f ∷ []))
    ∙ export_or (find t fs) (known f) (same_text m.text f.node.module.text)

-- ---- what is asked of each face

pub formed_behind : (fs : Faces) (f : Face) → AreFormed fs → FaceFormed f → AreFormed (with_own fs f)
formed_behind [] f a h = (h, tt)
formed_behind (k ∷ fs) f a h = (a.0, formed_behind fs f a.1 h)
