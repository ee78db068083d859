-- One loop more has a name.
use Rattle.std.proofs.Common.{◌≡◌, ◌⊎◌, ◌↔◌, ℕ, ◌<◌, List, get_or, length, refl, ap, sym, ◌∙◌, subst, inl, inr, arith, Result, Ok, Err, OnOk, ◌+◌}
use Rattle.std.specs.List.{All}
use Rattle.std.proofs.lemmas.Bool.{cases_eq, cases_lt}
use Rattle.std.proofs.lemmas.List.{get_or_default}
use Rattle.numbered_nodes.specs.Reach.{Reach, edge, onward, InOneLoop}
use Rattle.numbered_nodes.specs.Edges.{HasEdge}
use Rattle.numbered_nodes.proofs.ReachLaws.{chain, loop_sym, loop_trans}
use Rattle.node_groups.specs.Marks.{Through, IsFound, AreKept}
use Rattle.node_groups.specs.Parted.{AreParted}

-- between two nodes of a loop the way stays in the loop
on_the_way : {E : ℕ → ℕ → Type 0} (from a m x : ℕ) → InOneLoop E from a → E a m → Reach E m x → InOneLoop E from x → InOneLoop E from m
on_the_way {E} from a m x in_a e p in_x =
    let to : Reach E from m = elim in_a [ inl same ↦ subst (λ z. Reach E z m) (sym same) (edge e) | inr q ↦ chain q.0 (edge e) ] in
    let back : Reach E m from = elim in_x [ inl same ↦ subst (λ z. Reach E m z) (sym same) p | inr q ↦ chain p q.1 ] in
    inr (to, back)

module _ (g back : List (List ℕ)) (from : ℕ) where
  abbrev L : ℕ → Type 0
  L a = InOneLoop (HasEdge g) from a

  -- forward through nodes with a key that all of the loop have
  forward : (keys : List ℕ) (key : ℕ) → ((a : ℕ) → L a → get_or keys a 0 ≡ key) → {a x : ℕ} → L a → L x → Reach (HasEdge g) a x → Reach (Through g keys key) a x
  forward keys key open' in_a in_x (edge {b = x} e) = edge (e, open' x in_x)
  forward keys key open' in_a in_x (onward {a = a} {b = m} {c = x} e p) =
      let in_m = on_the_way from a m x in_a e p in_x in
      onward (e, open' m in_m) (forward keys key open' in_m in_x p)

  -- and back over turned edges
  module _ (turned : (a b : ℕ) → HasEdge back b a ↔ HasEdge g a b) where
    backward : (keys : List ℕ) (key : ℕ) → ((a : ℕ) → L a → get_or keys a 0 ≡ key) → {a x : ℕ} → L a → L x → Reach (HasEdge g) a x → Reach (Through back keys key) x a
    backward keys key open' in_a in_x (edge {a = a} {b = x} e) = edge ((turned a x).1 e, open' a in_a)
    backward keys key open' in_a in_x (onward {a = a} {b = m} {c = x} e p) =
        let in_m = on_the_way from a m x in_a e p in_x in
        chain (backward keys key open' in_m in_x p) (edge ((turned a m).1 e, open' a in_a))

    turned_reach : (keys : List ℕ) (key : ℕ) → {a x : ℕ} → Reach (Through back keys key) a x → Reach (HasEdge g) x a
    turned_reach keys key (edge {a = a} {b = x} e) = edge ((turned x a).0 e.0)
    turned_reach keys key (onward {a = a} {b = m} e p) = chain (turned_reach keys key p) (edge ((turned m a).0 e.0))

    module _ (n : ℕ) (names marks after new : List ℕ) (lt : from < n) (within : (a b : ℕ) → HasEdge g a b → (a < n) × (b < n))
        (parted : AreParted (HasEdge g) n names marks) (free : get_or names from 0 ≡ n)
        (kept_marks : AreKept from marks after) (found_back : (b : ℕ) → b < n → (get_or after b 0 ≡ from) ↔ IsFound back names n from b)
        (kept_names : AreKept from names new) (found : (b : ℕ) → b < n → (get_or new b 0 ≡ from) ↔ IsFound g after from from b) where
      loop_node : (a : ℕ) → L a → a < n
      loop_node a (inl same) = omega arith
      loop_node a (inr p) = last p.0 where
        last : {x y : ℕ} → Reach (HasEdge g) x y → y < n
        last (edge {a = x} {b = y} e) = (within x y e).1
        last (onward e q) = last q

      -- all of the loop are free
      all_free : (a : ℕ) → L a → get_or names a 0 ≡ n
      all_free a in_a = elim (cases_eq (get_or names a 0) n) [
        | inl e ↦ e
        | inr other ↦ absurd (other (sym (parted.whole a from (loop_node a in_a) lt other (loop_sym in_a)) ∙ free))
      ]

      -- all of the loop lead to `from` through free nodes
      all_marked : (a : ℕ) → L a → get_or after a 0 ≡ from
      all_marked a in_a = (found_back a (loop_node a in_a)).1 (elim in_a [
        | inl same ↦ inl (sym same)
        | inr p ↦ inr (backward names n all_free (inr p) (inl refl) p.1)
      ])

      marked_reaches : (a : ℕ) → a < n → get_or after a 0 ≡ from → (a ≡ from) ⊎ Reach (HasEdge g) a from
      marked_reaches a la e = elim ((found_back a la).0 e) [ inl same ↦ inl same | inr p ↦ inr (turned_reach names n p) ]

      through_end : {a x : ℕ} → Reach (Through g after from) a x → Reach (HasEdge g) a x × ((get_or after x 0 ≡ from) × (x < n))
      through_end (edge {a = a} {b = x} e) = (edge e.0, (e.1, (within a x e.0).1))
      through_end (onward {b = m} e p) = let q = through_end p in (onward e.0 q.0, q.1)

      -- so what is named now is the loop
      pub is_loop : (a : ℕ) → a < n → (get_or new a 0 ≡ from) ↔ L a
      is_loop a la = (
        (λ e. elim ((found a la).0 e) [
          | inl same ↦ inl (sym same)
          | inr p ↦
              let q = through_end p in
              elim (marked_reaches a la q.1.0) [
                | inl same ↦ inl (sym same)
                | inr r ↦ inr (q.0, r)
              ]
        ]),
        (λ in_a. (found a la).1 (elim in_a [
          | inl same ↦ inl (sym same)
          | inr p ↦ inr (forward after from all_marked (inl refl) (inr p) p.0)
        ])),
      )

      pub still_named : (a : ℕ) → a < n → (get_or names a 0 ≡ n → ⊥) → get_or new a 0 ≡ n → ⊥
      still_named a la some none = elim (kept_names a) [
        | inl e ↦ some (sym e ∙ none)
        | inr e ↦ absurd (omega arith)
      ]

      pub has_name : get_or new from 0 ≡ from
      has_name = (is_loop from lt).1 (inl refl)

      pub parted_next : AreParted (HasEdge g) n new after
      parted_next = record {
        named = λ a la. elim (kept_names a) [
          | inl e ↦ elim (parted.named a la) [
            | inl none ↦ inl (e ∙ none)
            | inr q ↦ inr (subst (λ k. (k < n) × InOneLoop (HasEdge g) a k) (sym e) q)
          ]
          | inr e ↦ inr (subst (λ k. (k < n) × InOneLoop (HasEdge g) a k) (sym e) (lt, loop_sym ((is_loop a la).0 e)))
        ];
        whole = λ a b la lb some in_one. elim (cases_eq (get_or new a 0) from) [
          | inl e ↦ (is_loop b lb).1 (loop_trans ((is_loop a la).0 e) in_one) ∙ sym e
          | inr other ↦ elim (kept_names a) [
            | inl e ↦
                let was = parted.whole a b la lb (λ none. some (e ∙ none)) in_one in
                elim (kept_names b) [
                  | inl f ↦ f ∙ was ∙ sym e
                  | inr f ↦ absurd (other ((is_loop a la).1 (loop_trans ((is_loop b lb).0 f) (loop_sym in_one))))
                ]
            | inr e ↦ absurd (other e)
          ]
        ];
        used = λ a la small. elim (kept_marks a) [
          | inl e ↦
              let small' : get_or marks a 0 < n = subst (λ k. k < n) e small in
              λ none. still_named (get_or marks a 0) small' (parted.used a la small') (ap (λ k. get_or new k 0) (sym e) ∙ none)
          | inr e ↦ λ none. let h = has_name in let none' : get_or new from 0 ≡ n = ap (λ k. get_or new k 0) (sym e) ∙ none in absurd (omega arith)
        ];
      }

-- a node without a name is no mark, and no name
pub no_mark : (E : ℕ → ℕ → Type 0) (n from : ℕ) (names marks : List ℕ) → AreParted E n names marks → from < n → get_or names from 0 ≡ n → (a : ℕ) → a < n → get_or marks a 0 ≡ from → ⊥
no_mark E n from names marks p lt free a la e = p.used a la (subst (λ k. k < n) (sym e) lt) (ap (λ k. get_or names k 0) e ∙ free)

pub no_name : (E : ℕ → ℕ → Type 0) (n from : ℕ) (names marks : List ℕ) → AreParted E n names marks → from < n → get_or names from 0 ≡ n → (a : ℕ) → a < n → get_or names a 0 ≡ from → ⊥
no_name E n from names marks p lt free a la e = elim (p.named a la) [
  | inl none ↦ absurd (omega arith)
  | inr q ↦
      let same = p.whole a from la lt (λ none. let small = q.0 in absurd (omega arith)) (subst (λ k. InOneLoop E a k) e q.1) in
      absurd (omega arith)
]

-- nothing has a name yet
pub none_named : (E : ℕ → ℕ → Type 0) (n : ℕ) (names marks : List ℕ) → ((a : ℕ) → a < n → get_or names a 0 ≡ n) → ((a : ℕ) → a < n → get_or marks a 0 ≡ n) → AreParted E n names marks
none_named E n names marks none unused = record {
  named = λ a la. inl (none a la);
  whole = λ a b la lb some in_one. absurd (some (none a la));
  used = λ a la small e. let m = unused a la in absurd (omega arith);
}

-- all have one
pub all_named : (E : ℕ → ℕ → Type 0) (n : ℕ) (names marks : List ℕ) → AreParted E n names marks → ((a : ℕ) → a < n → get_or names a 0 ≡ n → ⊥) → (a b : ℕ) → a < n → b < n → (get_or names a 0 ≡ get_or names b 0) ↔ InOneLoop E a b
all_named E n names marks p all a b la lb =
    let of' : (c : ℕ) → c < n → InOneLoop E c (get_or names c 0) = λ c lc. elim (p.named c lc) [ inl none ↦ absurd (all c lc none) | inr q ↦ q.1 ] in (
      (λ e. loop_trans (subst (λ k. InOneLoop E a k) e (of' a la)) (loop_sym (of' b lb))),
      (λ in_one. sym (p.whole a b la lb (all a la) in_one)),
    )

pub all_nodes : (E : ℕ → ℕ → Type 0) (n : ℕ) (names marks : List ℕ) → AreParted E n names marks → length names ≡ n → ((a : ℕ) → a < n → get_or names a 0 ≡ n → ⊥) → All (λ a. a < n) names
all_nodes E n names marks p len all k d lt =
    let lk : k < n = omega arith in
    subst (λ z. z < n) (get_or_default names k 0 d lt) (elim (p.named k lk) [ inl none ↦ absurd (all k lk none) | inr q ↦ q.0 ])

-- a fact after success that follows from another one
pub on_ok : {T E A B : Type 0} (r : Result T E) → (A → B) → OnOk r A → OnOk r B
on_ok (Ok x) f a = f a
on_ok (Err e) f a = a

pub named_next : (names new : List ℕ) (n from : ℕ) → from < n → ((a : ℕ) → a < n → (get_or names a 0 ≡ n → ⊥) → get_or new a 0 ≡ n → ⊥) → (get_or new from 0 ≡ n → ⊥) → ((a : ℕ) → a < from → get_or names a 0 ≡ n → ⊥) → (a : ℕ) → a < from + 1 → get_or new a 0 ≡ n → ⊥
named_next names new n from lt kept here before a less = elim (cases_lt a from) [
  | inl below ↦ kept a (omega arith) (before a below)
  | inr more ↦ let same : from ≡ a = omega arith in subst (λ k. get_or new k 0 ≡ n → ⊥) same here
]
