-- The numbers of nodes and of modules.
use Rattle.std.proofs.Common.{◌≡◌, ℕ, zero, suc, ◌+◌, ◌<◌, ◌≤◌, Bool, true, List, [], ◌∷◌, length, get_or, Some, refl, ap, sym, ◌∙◌, subst, inl, inr, arith}
use Rattle.std.specs.Option.{option_map_or, unwrap_or}
use Rattle.std.specs.List.{slice_get, list_any, position, position_or_len}
use Rattle.std.proofs.lemmas.Bool.{lt-ltb}
use Rattle.std.proofs.lemmas.List.Quantifiers.{position-Some}
use Rattle.std.proofs.lemmas.Option.{slice_get-get_or, slice_get_within, same_Some}
use Rattle.mk_base.specs.declared.name.Node.{Node}
use Rattle.numbered_nodes.proofs.Booleans.{both_ways, split_or, or_right}
use Rattle.mod_graph.specs.declared.entries.Entry.{Entry}
use Rattle.mod_graph.specs.Names.{same_text, same_node}
use Rattle.mod_graph.specs.Edges.{number_of, module_number, module_of}
use Rattle.numbered_nodes.proofs.Chains.{or_left}
use Rattle.mod_graph.proofs.NodeTests.{texts_tell, text_itself}

module _ {X : Type 0} where
  pub any_with : (p : X → Bool) (xs : List X) → list_any p xs ≡ true → (k : ℕ) × (x : X) × (slice_get xs k ≡ Some x) × (p x ≡ true)
  any_with p [] e = absurd (let h : ⊥ = cc in h)
  any_with p (x ∷ xs) e = elim (split_or (p x) (list_any p xs) e) [
    | inl h ↦ (0, x, refl, h)
    | inr h ↦ let s = any_with p xs h in (suc s.0, s.1, s.2, s.3)
  ]

  pub any_from : (p : X → Bool) (xs : List X) (k : ℕ) (x : X) → slice_get xs k ≡ Some x → p x ≡ true → list_any p xs ≡ true
  any_from p [] k x e h = absurd (let no_ : ⊥ = cc in no_)
  any_from p (y ∷ ys) zero x e h = or_left (p y) (list_any p ys) (ap p (same_Some y x e) ∙ h)
  any_from p (y ∷ ys) (suc k) x e h = or_right (p y) (list_any p ys) (any_from p ys k x e h)

  pub element_at : (xs : List X) (k : ℕ) → k < length xs → (x : X) × (slice_get xs k ≡ Some x)
  element_at [] k h = absurd (omega arith)
  element_at (x ∷ xs) zero h = (x, refl)
  element_at (x ∷ xs) (suc k) h = element_at xs k (omega arith)

  pub found_at : (p : X → Bool) (xs : List X) (k : ℕ) → position p xs ≡ Some k → (x : X) × (slice_get xs k ≡ Some x) × (p x ≡ true)
  found_at p [] k e = absurd (let h : ⊥ = cc in h)
  found_at p (y ∷ ys) k e = let s = position-Some p (y ∷ ys) k y e in (get_or (y ∷ ys) k y, slice_get-get_or (y ∷ ys) k y s.0, s.1)

  first_within : (p : X → Bool) (xs : List X) (k : ℕ) (x : X) → slice_get xs k ≡ Some x → p x ≡ true → position_or_len p xs ≤ k
  first_within p [] k x e h = absurd (let no_ : ⊥ = cc in no_)
  first_within p (y ∷ ys) zero x e h =
      let yes_ : p y ≡ true = ap p (same_Some y x e) ∙ h in
      let at : position_or_len p (y ∷ ys) ≡ 0 = rw yes_ refl in
      omega arith
  first_within p (y ∷ ys) (suc k) x e h =
      let rest = first_within p ys k x e h in
      both_ways (p y)
      (λ q. let at : position_or_len p (y ∷ ys) ≡ 0 = rw q refl in omega arith)
      (λ q. let at : position_or_len p (y ∷ ys) ≡ 1 + position_or_len p ys = rw q refl in omega arith)

  -- what passes at a place is found there or before it
  pub finds : (p : X → Bool) (xs : List X) (k : ℕ) (x : X) → slice_get xs k ≡ Some x → p x ≡ true → (i : ℕ) × (position p xs ≡ Some i) × (i ≤ k)
  finds p xs k x e h =
      let first = first_within p xs k x e h in
      let within = slice_get_within xs k x e in
      let small : position_or_len p xs < length xs = omega arith in
      (position_or_len p xs, rw (lt-ltb (position_or_len p xs) (length xs) small) refl, first)

module _ (es : List Entry) where
  pub number_found : (n : Node) (b : ℕ) → number_of es n ≡ Some b → (e : Entry) × (slice_get es b ≡ Some e) × (same_node n e.node ≡ true)
  number_found n b h = found_at (λ (e : Entry). same_node n e.node) es b h

  pub number_below : (n : Node) (b : ℕ) → number_of es n ≡ Some b → b < length es
  number_below n b h = let s = number_found n b h in slice_get_within es b s.0 s.1

  pub module_found : (m : List ℕ) (x : ℕ) → module_number es m ≡ Some x → (e : Entry) × (slice_get es x ≡ Some e) × (m ≡ e.node.module.text)
  module_found m x h = let s = found_at (λ (e : Entry). same_text m e.node.module.text) es x h in (s.0, s.1, texts_tell m s.0.node.module.text s.2)

  pub module_below : (m : List ℕ) (x : ℕ) → module_number es m ≡ Some x → x < length es
  module_below m x h = let s = module_found m x h in slice_get_within es x s.0 s.1

  pub module_finds : (k : ℕ) (e : Entry) → slice_get es k ≡ Some e → (x : ℕ) × (module_number es e.node.module.text ≡ Some x) × (x ≤ k)
  module_finds k e h = finds (λ (f : Entry). same_text e.node.module.text f.node.module.text) es k e h (text_itself e.node.module.text)

  pub module_of_is : (k : ℕ) (e : Entry) (x : ℕ) → slice_get es k ≡ Some e → module_number es e.node.module.text ≡ Some x → module_of es k ≡ x
  module_of_is k e x h p =
      ap (λ o. option_map_or (λ (f : Entry). unwrap_or (module_number es f.node.module.text) 0) o 0) h ∙ ap (λ o. unwrap_or o 0) p

  -- the nodes of a module have its number
  pub module_numbered : (k : ℕ) (e : Entry) → slice_get es k ≡ Some e → module_number es e.node.module.text ≡ Some (module_of es k)
  module_numbered k e h = let s = module_finds k e h in s.1 ∙ ap (λ x. Some x) (sym (module_of_is k e s.0 h s.1))

  pub module_not_above : (k : ℕ) → k < length es → module_of es k ≤ k
  module_not_above k lt = let at = element_at es k lt in let s = module_finds k at.0 at.1 in let e = module_of_is k at.0 s.0 at.1 s.1 in let le = s.2 in omega arith

  -- the number of a module is that of a node of it
  pub module_is_own : (m : List ℕ) (x : ℕ) → module_number es m ≡ Some x → module_of es x ≡ x
  module_is_own m x h =
      let s = module_found m x h in
      module_of_is x s.0 x s.1 (subst (λ t. module_number es t ≡ Some x) s.2 h)

  pub module_of_own : (k : ℕ) → k < length es → module_of es (module_of es k) ≡ module_of es k
  module_of_own k lt = let at = element_at es k lt in module_is_own at.0.node.module.text (module_of es k) (module_numbered k at.0 at.1)
