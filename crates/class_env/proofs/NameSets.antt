-- Names that are the same, and names without repetition.
use Rattle.std.proofs.Common.{rules, arith, ◌<◌, ◌≡◌, ◌⊎◌, inl, inr, Bool, true, false, List, [], ◌∷◌, ◌++◌, sym, ◌∙◌, ap, subst, refl, length, ◌≤◌}
use Rattle.std.specs.Prelude.{if◌then◌else◌}
use Rattle.std.specs.List.{Contains, IsDistinct, list_any}
use Rattle.std.specs.Bool.{Decides}
use Rattle.std.specs.Cmp.{IsEquivalence}
use Rattle.std.proofs.lemmas.Bool.Decides.{same_from_decides}
use Rattle.std.proofs.lemmas.List.{append_assoc, append-nil}
use Rattle.std.proofs.lemmas.List.Elements.{Contains-append_left, Contains-append_right, Contains-append_cases}
use Rattle.std.proofs.lemmas.Map.Made.{is_member-Decides, length-le_from_is_member}
use Rattle.indexmap.specs.IndexSet.{insert_key}
use Rattle.mk_base.specs.declared.name.Name.{Name}
use Rattle.mk_base.specs.contracts.name.NamePartialEq.TheImpl as peq
use Rattle.class_env.specs.Supers.{Grown}
use Rattle.class_env.proofs.Order.{only_one}

abbrev pub same : Name → Name → Bool
same a b = (peq.ghosts).eq a b

pub same_decides : (a b : Name) → Decides (same a b) (a ≡ b)
same_decides a b = search rules

pub grown_none : (old : List Name) → Grown old [] old
grown_none old = record { tail = []; is = sym (append-nil old); has = λ x. ((λ h. inl h), (λ h. elim h [ inl p ↦ p | inr q ↦ absurd (let lt : q.0 < 0 = q.1 in omega arith) ])) }

pub grown_by : (old more new : List Name) (x : Name) (newer : List Name) → Grown old more new → newer ≡ insert_key same new x → Grown old (more ++ x ∷ []) newer
grown_by old more new x newer g e = at (list_any (same x) new) refl where
  has_new : (y : Name) → Contains new y → Contains old y ⊎ Contains (more ++ x ∷ []) y
  has_new y h = elim ((g.has y).0 h) [ inl p ↦ inl p | inr q ↦ inr (Contains-append_left more (x ∷ []) y q) ]

  at : (b : Bool) → list_any (same x) new ≡ b → Grown old (more ++ x ∷ []) newer
  at true h =
      let is : newer ≡ new = e ∙ ap (λ (b : Bool). if b then new else new ++ x ∷ []) h in
      let there : Contains new x = (is_member-Decides same_decides new x).0 h in
      record {
        tail = g.tail;
        is = is ∙ g.is;
        has = λ y. (
          (λ k. has_new y (subst (λ (l : List Name). Contains l y) is k)),
          (λ k. subst (λ (l : List Name). Contains l y) (sym is) (elim k [
            | inl p ↦ (g.has y).1 (inl p)
            | inr q ↦ elim (Contains-append_cases more (x ∷ []) y q) [ inl r ↦ (g.has y).1 (inr r) | inr s ↦ subst (Contains new) (only_one x y s) there ]
          ])),
        );
      }
  at false h =
      let is : newer ≡ new ++ x ∷ [] = e ∙ ap (λ (b : Bool). if b then new else new ++ x ∷ []) h in
      record {
        tail = g.tail ++ x ∷ [];
        is = is ∙ ap (λ (l : List Name). l ++ x ∷ []) g.is ∙ append_assoc old g.tail (x ∷ []);
        has = λ y. (
          (λ k. elim (Contains-append_cases new (x ∷ []) y (subst (λ (l : List Name). Contains l y) is k)) [
            | inl p ↦ has_new y p
            | inr s ↦ inr (Contains-append_right more (x ∷ []) y s)
          ]),
          (λ k. subst (λ (l : List Name). Contains l y) (sym is) (elim k [
            | inl p ↦ Contains-append_left new (x ∷ []) y ((g.has y).1 (inl p))
            | inr q ↦ elim (Contains-append_cases more (x ∷ []) y q) [
              | inl r ↦ Contains-append_left new (x ∷ []) y ((g.has y).1 (inr r))
              | inr s ↦ Contains-append_right new (x ∷ []) y s
            ]
          ])),
        );
      }

-- ---- how many there are

same_laws : IsEquivalence same
same_laws = record {
  refl = λ x. (same_decides x x).1 refl;
  symm = λ x y. same_from_decides (same x y) (same y x) (same_decides x y) ((λ h. sym ((same_decides y x).0 h)), (λ e. (same_decides y x).1 (sym e)));
  congr = λ x y z e. ap (λ (a : Name). same a z) ((same_decides x y).0 e);
}

pub at_most : (xs ys : List Name) → IsDistinct same xs → ((x : Name) → Contains xs x → Contains ys x) → length xs ≤ length ys
at_most xs ys d h = length-le_from_is_member same_laws xs ys d (λ q e. (is_member-Decides same_decides ys q).1 (h q ((is_member-Decides same_decides xs q).0 e)))
