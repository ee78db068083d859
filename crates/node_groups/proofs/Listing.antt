-- The next node is put behind the others.
use Rattle.std.proofs.Common.{◌≡◌, ◌⊎◌, ◌↔◌, ℕ, ◌+◌, ◌<◌, ◌≤◌, Bool, true, false, List, [], ◌∷◌, ◌++◌, get_or, take, length, refl, ap, sym, ◌∙◌, subst, inl, inr, arith}
use Rattle.std.proofs.Math.ListN.{set}
use Rattle.std.proofs.Math.Seq.{get_or-append_seam}
use Rattle.std.specs.List.{Contains}
use Rattle.std.proofs.lemmas.Bool.{cases_eq, cases_lt}
use Rattle.std.proofs.lemmas.List.{get_or-set_same, get_or-set_other, take-append-le, take_all, get_or_append_left, length_push}
use Rattle.std.proofs.lemmas.List.Elements.{Contains-append_left, Contains-push, Contains-push_cases}
use Rattle.numbered_nodes.specs.Edges.{HasEdge}
use Rattle.node_groups.specs.Queue.{Is, IsQueue}
use Rattle.node_groups.specs.Order.{IsNext, IsOrder}

abbrev pub Next : List (List ℕ) → ℕ → List ℕ → ℕ → Type 0
Next g n done x = IsNext (HasEdge g) n (Contains done) x

true_or : (b : Bool) → (b ≡ true) ⊎ (b ≡ false)
true_or true = inl refl
true_or false = inr refl

-- what is ready first comes next
pub chosen : (g : List (List ℕ)) (n : ℕ) (listed : List Bool) (ends : List ℕ) (waiting : List (List ℕ)) (ready done : List ℕ) (y : ℕ) → IsQueue g n listed ends waiting ready [] → ((k : ℕ) → Is listed k true ↔ Contains done k) → Contains ready y → ((a : ℕ) → Contains ready a → y ≤ a) → Next g n done y
chosen g n listed ends waiting ready done y q same there least =
    let here = q.now y there in
    record {
      node = here.0;
      new = λ h. let t = (same y).1 h in let f = here.1.0 in let no' : true ≡ false = sym t ∙ f in cc;
      ready = λ z e. (same z).0 (here.1.1 z e);
      least = λ w less r. elim (true_or (get_or listed w false)) [
        | inl t ↦ (same w).0 t
        | inr out ↦ elim (q.placed w (let lt = here.0 in omega arith) out) [
          | inl h ↦ let none = h.1 in absurd (omega arith)
          | inr h ↦ elim h [
            | inl in' ↦ let le = least w in' in absurd (omega arith)
            | inr v ↦ let t = (same v.0).1 (r v.0 v.1) in let f = v.2 in let no' : true ≡ false = sym t ∙ f in absurd (let k : ⊥ = cc in k)
          ]
        ]
      ];
    }

pub same_next : (listed : List Bool) (done more : List ℕ) (y : ℕ) → y < length listed → more ≡ done ++ y ∷ [] → ((k : ℕ) → Is listed k true ↔ Contains done k) → (k : ℕ) → Is (set listed y true) k true ↔ Contains more k
same_next listed done more y lt push same k = (
  (λ t. subst (λ (l : List ℕ). Contains l k) (sym push) (elim (cases_eq k y) [
    | inl e ↦ subst (λ z. Contains (done ++ y ∷ []) z) (sym e) (Contains-push done y)
    | inr other ↦ Contains-append_left done (y ∷ []) k ((same k).0 (sym (get_or-set_other listed y k true false other) ∙ t))
  ])),
  (λ h. elim (cases_eq k y) [
    | inl e ↦ ap (λ z. get_or (set listed y true) z false) e ∙ get_or-set_same listed y true false lt
    | inr other ↦ elim (Contains-push_cases done y k (subst (λ (l : List ℕ). Contains l k) push h)) [
      | inl was ↦ get_or-set_other listed y k true false other ∙ (same k).1 was
      | inr e ↦ absurd (other (sym e))
    ]
  ]),
)

pub nexts : (g : List (List ℕ)) (n : ℕ) (done more : List ℕ) (y : ℕ) → more ≡ done ++ y ∷ [] → Next g n done y → ((i : ℕ) → i < length done → Next g n (take i done) (get_or done i 0)) → (i : ℕ) → i < length more → Next g n (take i more) (get_or more i 0)
nexts g n done more y push next before i lt =
    let long : length more ≡ length done + 1 = ap length push ∙ length_push done y in
    let front : take i more ≡ take i done = ap (λ (l : List ℕ). take i l) push ∙ take-append-le i done (y ∷ []) (omega arith) in
    elim (cases_lt i (length done)) [
      | inl less ↦
          let at : get_or more i 0 ≡ get_or done i 0 = ap (λ (l : List ℕ). get_or l i 0) push ∙ get_or_append_left done (y ∷ []) 0 i less in
          subst (λ x. Next g n (take i more) x) (sym at) (subst (λ (l : List ℕ). Next g n l (get_or done i 0)) (sym front) (before i less))
      | inr ge ↦
          let end : i ≡ length done = omega arith in
          let at : get_or more i 0 ≡ y = ap (λ (l : List ℕ). get_or l i 0) push ∙ ap (λ k. get_or (done ++ y ∷ []) k 0) end ∙ get_or-append_seam done y [] 0 in
          let all : take i more ≡ done = front ∙ take_all i done (omega arith) in
          subst (λ x. Next g n (take i more) x) (sym at) (subst (λ (l : List ℕ). Next g n l y) (sym all) next)
    ]

pub whole_order : (g : List (List ℕ)) (n : ℕ) (listed : List Bool) (done : List ℕ) → ((x : ℕ) → x < n → Is listed x false → ⊥) → ((k : ℕ) → Is listed k true ↔ Contains done k) → ((i : ℕ) → i < length done → Next g n (take i done) (get_or done i 0)) → IsOrder (HasEdge g) n done
whole_order g n listed done all same nexts' = (
  (λ x lt. elim (true_or (get_or listed x false)) [ inl t ↦ (same x).0 t | inr out ↦ absurd (all x lt out) ]),
  nexts',
)
