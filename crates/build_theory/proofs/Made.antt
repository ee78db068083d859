-- A sound interface of a clean build was made by a check.
use Rattle.std.proofs.Common.{◌≡◌, List, [], ◌∷◌, ◌++◌, ap, sym, subst, Some, None, Ok, Err}
use Rattle.std.specs.Prelude.{Result}
use Rattle.std.specs.declared.option.Option.{Option}
use Rattle.std.specs.Map.{lookup}
use Rattle.std.specs.Option.{option_map_or}
use Rattle.std.specs.List.{AllByRecursion}
use Rattle.build_theory.specs.Build.{Tree, Language, Outcome, Sound, Failed, Blocked, of_check, sorted, order, first_bad, environment, clean, clean_step, clean_results}
use Rattle.build_theory.specs.Laws.{IsExact}
use Rattle.build_theory.proofs.Lists.{all_at, lookup_in}

pub all_add : {X : Type 0} (P : X → Type 0) (xs : List X) (x : X) → AllByRecursion P xs → P x → AllByRecursion P (xs ++ x ∷ [])
all_add P [] x h p = (p, tt)
all_add P (y ∷ xs) x h p = (h.0, all_add P xs x h.1 p)

module _ {N B E : Type 0} where
  from_check : (r : Result B E) (b : B) → of_check {N = N} r ≡ Sound b → r ≡ Ok b
  from_check (Ok c) b e = let k : c ≡ b = cc in ap (λ x. Ok x) k
  from_check (Err c) b e = absurd (let h : ⊥ = cc in h)

  from_stage : (x : Option E) (y : Option N) (r : Result B E) (b : B) → option_map_or Failed x (option_map_or Blocked y (of_check r)) ≡ Sound b → r ≡ Ok b
  from_stage (Some e) y r b h = absurd (let k : ⊥ = cc in k)
  from_stage None (Some n) r b h = absurd (let k : ⊥ = cc in k)
  from_stage None None r b h = from_check r b h

module _ {G N S B K E R : Type 0} (l : Language G N S B K E R) (t : Tree G N S) where
  abbrev pub WasMade : N → B → Type 0
  WasMade n b = (s : S) × (env : List (N × B)) × (l.check t n s env ≡ Ok b)

  abbrev IsMade : N × Outcome N B E → Type 0
  IsMade r = (b : B) → r.1 ≡ Sound b → WasMade r.0 b

  all_made : (qs : List (N × S)) (done : List (N × Outcome N B E)) → AllByRecursion IsMade done → AllByRecursion IsMade (clean_results l t done qs)
  all_made [] done h = h
  all_made (q ∷ qs) done h =
      all_made qs (done ++ (q.0, clean_step l t done q) ∷ []) (all_add IsMade done (q.0, clean_step l t done q) h (λ b e.
      let env = environment l t q.0 done t.sources in
      (q.1, env, from_stage (l.errors t q.0 q.1) (first_bad l t q.0 done (order l t)) (l.check t q.0 q.1 env) b e)))

pub was_made : {G N S B K E R : Type 0} (l : Language G N S B K E R) → IsExact l → (t : Tree G N S) (m : N) (b : B) → lookup (l.same m) (clean l t) ≡ Some (Sound b) → WasMade l (sorted l t) m b
was_made l exact t m b e =
    let f = lookup_in (l.same m) (clean l t) (Sound b) e in
    subst (λ n. WasMade l (sorted l t) n b) (sym (exact.tells m f.0.0 f.2)) (all_at (IsMade l (sorted l t)) (clean l t) f.0 f.1 (all_made l (sorted l t) (order l (sorted l t)) [] tt) b f.3)
