-- The worked example: the run of its machine.
use Rattle.std.proofs.Common.{◌≡◌, ℕ, Bool, true, false, not, ◌&&◌, ◌||◌, List, [], ◌∷◌, refl, ap, sym, ◌∙◌, subst, Some, None, inl, inr, arith, nat_eq, nat_lt}
use Rattle.std.specs.declared.option.Option.{Option}
use Rattle.std.specs.List.{list_all, list_any}
use Rattle.std.specs.Map.{lookup}
use Rattle.std.proofs.lemmas.Bool.Decides.{nat_tests}
use Rattle.build_theory.specs.Build.{Tree, Language, Judged, Checked, outcomes, is_need, is_node, is_sound_in, sorted}
use Rattle.build_theory.specs.Laws.{IsOrdered, IsExact}
use Rattle.build_theory.specs.Machine.{Event, Claim, Finish, Refuse, State, Step, Run, opening, HasPlace, NeedsComeFirst}
use Rattle.build_theory.specs.Example.{Source, Interface, Problem, Reason, Loop, NothingKept, source, adding, five, face_of_5, events, last, of_sound, of_loop}
use Rattle.build_theory.proofs.Lists.{differ, and_both, then_holds, all_holds, any_in}

module _ {G N S B K E R : Type 0} (l : Language G N S B K E R) (exact : IsExact l) (t : Tree G N S) where
  -- what holds of each need among the tree's nodes holds of all needs
  at_needs : (p : N → Bool) (m : N) → list_all (λ q. not (is_need l t m q.0) || p q.0) t.sources ≡ true → (n : N) → is_need l t m n ≡ true → p n ≡ true
  at_needs p m h n need =
      let node = any_in (λ q. l.same n q.0) t.sources (and_both (is_node l t n) (not (l.same m n) && l.needs t m n) need).0 in
      let same = exact.tells n node.0.0 node.2 in
      let there : p node.0.0 ≡ true =
      then_holds (is_need l t m node.0.0) (p node.0.0) (all_holds (λ q. not (is_need l t m q.0) || p q.0) t.sources node.0 node.1 h) (subst (λ k. is_need l t m k ≡ true) same need) in
      subst (λ k. p k ≡ true) (sym same) there

pub tells : (a b : ℕ) → nat_eq a b ≡ true → a ≡ b
tells a b e = grind (arith, nat_tests)

itself : (a : ℕ) → nat_eq a a ≡ true
itself a = grind (arith, nat_tests)

apart : (a b : ℕ) → nat_lt a b ≡ true → nat_lt b a ≡ false
apart a b e = grind (arith, nat_tests)

chain : (a b c : ℕ) → nat_lt a b ≡ true → nat_lt b c ≡ true → nat_lt a c ≡ true
chain a b c e f = grind (arith, nat_tests)

total : (a b : ℕ) → nat_lt a b ≡ false → nat_lt b a ≡ false → a ≡ b
total a b e f = grind (arith, nat_tests)

pub adding_exact : IsExact adding
adding_exact = record { tells = tells; itself = itself }

pub adding_ordered : IsOrdered adding
adding_ordered = record { apart = apart; chain = chain; total = total }

pub sweeps : Run adding (sorted adding five) [] (opening adding (sorted adding five)) events last
sweeps =
    let t = sorted adding five in
    let r : Judged ℕ Interface Problem Reason = of_sound (Checked NothingKept) face_of_5 in
    let from : List (ℕ × Judged ℕ Interface Problem Reason) = (2, of_loop) ∷ (3, of_loop) ∷ [] in
    let done : List (ℕ × Judged ℕ Interface Problem Reason) = (5, r) ∷ from in
    let s1 : State ℕ (Judged ℕ Interface Problem Reason) = record { claimed = (5, 1) ∷ []; finished = from; refused = [] } in
    let s2 : State ℕ (Judged ℕ Interface Problem Reason) = record { claimed = []; finished = done; refused = [] } in
    let s3 : State ℕ (Judged ℕ Interface Problem Reason) = record { claimed = (4, 2) ∷ []; finished = done; refused = [] } in (
      s1,
      (refl, (refl, refl, refl), at_needs adding adding_exact t (is_sound_in adding (outcomes from)) 5 refl, refl),
      (
        s2,
        ((5, record { imports = []; number = 50 }), inr (inr (inr (inr (inl refl)))), refl, refl, refl, refl),
        (
          s3,
          (refl, (refl, refl, refl), at_needs adding adding_exact t (is_sound_in adding (outcomes done)) 4 refl, refl),
          (last, (refl, refl), refl),
        ),
      ),
    )

-- 1 needs 2, which isn't sound, and each other node is finished or was given up
pub over : (e : Event ℕ (Judged ℕ Interface Problem Reason)) (next : State ℕ (Judged ℕ Interface Problem Reason)) → Step adding (sorted adding five) [] last e next → ⊥
over (Claim w m) next h =
    let f = any_in (λ (q : ℕ × Source). nat_eq m q.0) (sorted adding five).sources h.0 in
    let finished : (n : ℕ) (r : Judged ℕ Interface Problem Reason) → f.0.0 ≡ n → lookup (nat_eq n) last.finished ≡ Some r → ⊥ = λ n r e found.
    let g : Some r ≡ None = sym found ∙ ap (λ k. lookup (nat_eq k) last.finished) (sym e ∙ sym (tells m f.0.0 f.2)) ∙ h.1.0 in cc in
    elim f.1 [
      | inl e ↦ differ (sym (h.2 2 (ap (λ k. is_need adding (sorted adding five) k 2) (tells m f.0.0 f.2 ∙ ap (λ (z : ℕ × Source). z.0) e))))
      | inr i ↦ elim i [
        | inl e ↦ finished 2 of_loop (ap (λ (z : ℕ × Source). z.0) e) refl
        | inr i ↦ elim i [
          | inl e ↦ finished 3 of_loop (ap (λ (z : ℕ × Source). z.0) e) refl
          | inr i ↦ elim i [
            | inl e ↦ let g : ◌≡◌ {A = Option ℕ} (Some 2) None = ap (λ k. lookup (nat_eq k) last.refused) (sym (tells m f.0.0 f.2 ∙ ap (λ (z : ℕ × Source). z.0) e)) ∙ h.1.2 in cc
            | inr i ↦ elim i [
              | inl e ↦ finished 5 (of_sound (Checked NothingKept) face_of_5) (ap (λ (z : ℕ × Source). z.0) e) refl
              | inr i ↦ i
            ]
          ]
        ]
      ]
    ]
over (Finish w m j) next h = let g : None ≡ Some w = h.3 in cc
over (Refuse w m) next h = let g : None ≡ Some w = h.0 in cc

abbrev node : ℕ → List ℕ → ℕ → ℕ × Source
node n imports number = (n, source imports number)

-- 5 needs nothing, 4 needs 5, which stands before it, and no other node has all its needs sound
pub placed : NeedsComeFirst adding (sorted adding five) []
placed q i free sound =
    let t = sorted adding five in
    let p1 : ℕ × Source = node 1 (2 ∷ []) 10 in
    let p2 : ℕ × Source = node 2 (3 ∷ []) 20 in
    let p3 : ℕ × Source = node 3 (2 ∷ []) 30 in
    let p4 : ℕ × Source = node 4 (5 ∷ []) 40 in
    let p5 : ℕ × Source = node 5 [] 50 in
    let rest : List (ℕ × Source) = p1 ∷ p2 ∷ p3 ∷ [] in
    let looped : (p : ℕ × Source) → q ≡ p → adding.errors t p.0 p.1 ≡ Some Loop → HasPlace adding t q = λ p e f.
    let g : Some Loop ≡ None = sym f ∙ ap (λ (z : ℕ × Source). adding.errors t z.0 z.1) (sym e) ∙ free in absurd (let h : ⊥ = cc in h) in
    elim i [
      | inl e ↦ absurd (differ (sym (sound 2 (ap (λ (z : ℕ × Source). is_need adding t z.0 2) e))))
      | inr i ↦ elim i [
        | inl e ↦ looped p2 e refl
        | inr i ↦ elim i [
          | inl e ↦ looped p3 e refl
          | inr i ↦ elim i [
            | inl e ↦ subst (HasPlace adding t) (sym e) (record { before = p5 ∷ []; after = rest; whole = refl; once = (refl, tt); behind = at_needs adding adding_exact t (λ n. list_any (λ (p : ℕ × Source). nat_eq n p.0) (p5 ∷ [])) 4 refl })
            | inr i ↦ elim i [
              | inl e ↦ subst (HasPlace adding t) (sym e) (record { before = []; after = p4 ∷ rest; whole = refl; once = tt; behind = at_needs adding adding_exact t (λ n. list_any (λ (p : ℕ × Source). nat_eq n p.0) []) 5 refl })
              | inr i ↦ absurd i
            ]
          ]
        ]
      ]
    ]
