-- A class and what is reached from it over superclasses, found one after another.
use Rattle.std.proofs.Common.{◌≡◌, ◌↔◌, inl, inr, ℕ, ◌+◌, ◌<◌, ◌≤◌, Bool, true, false, List, [], ◌∷◌, ◌++◌, length, take, get_or, Some, sym, ◌∙◌, ap, subst, refl, arith, suc, cond}
use Rattle.std.specs.Prelude.{find, flat_map}
use Rattle.std.specs.List.{Contains, IsDistinct}
use Rattle.std.proofs.Math.Seq.{take-suc}
use Rattle.std.proofs.lemmas.List.{take-append-le, take_all}
use Rattle.std.proofs.lemmas.List.Elements.{Contains-append_left, Contains-append_right, Contains-append_cases, Contains-get_or}
use Rattle.std.proofs.lemmas.Option.{slice_get-get_or}
use Rattle.mk_base.specs.declared.name.Name.{Name}
use Rattle.face_model.specs.Environments.{Faces, Entry, entries, decl_in, same_name}
use Rattle.class_env.specs.Supers.{supers_named, supers_in, supers_of, Reaches, step, onward, Gives, Grown, GrownAt, Swept}
use Rattle.class_env.proofs.Order.{only_one, here}
use Rattle.class_env.proofs.NameSets.{same, at_most}

no_member : {X : Type 0} {A : Type 0} (x : X) → Contains [] x → A
no_member x h = absurd (let lt : h.0 < 0 = h.1 in omega arith)

pub take_next : {X : Type 0} (l : List X) (j : ℕ) (d x : X) → j < length l → get_or l j d ≡ x → take (j + 1) l ≡ take j l ++ x ∷ []
take_next {X} l j d x lt e = let n : j + 1 ≡ suc j = omega arith in ap (λ (k : ℕ). take k l) n ∙ take-suc l j d lt ∙ ap (λ (y : X). take j l ++ y ∷ []) e

module _ (supers : Name → List Name) where
  reach_on : {a b c : Name} → Reaches supers a b → Contains (supers b) c → Reaches supers a c
  reach_on (step h) q = onward h (step q)
  reach_on (onward h r) q = onward h (reach_on r q)

  gives_on : (a b c : Name) → Gives supers a b → Contains (supers b) c → Gives supers a c
  gives_on a b c (inl e) q = inr (step (subst (λ (x : Name). Contains (supers x) c) (sym e) q))
  gives_on a b c (inr r) q = inr (reach_on r q)

  pub swept_first : (class : Name) (keys : List Name) → keys ≡ class ∷ [] → Swept supers class keys 0
  swept_first class keys e = record {
    start = subst (λ (l : List Name). Contains l class) (sym e) (here class []);
    given = λ x h. inl (only_one class x (subst (λ (l : List Name). Contains l x) e h));
    closed = λ y h x q. no_member y h;
  }

  pub swept_step : (class : Name) (keys : List Name) (done : ℕ) (new : List Name) → Swept supers class keys done → done < length keys → GrownAt supers keys done new → Swept supers class new (done + 1)
  swept_step class keys done new s lt grown =
      let y : Name = get_or keys done class in
      let g : Grown keys (supers y) new = grown y (slice_get-get_or keys done class lt) in
      let there : Contains keys y = Contains-get_or keys done class lt in
      let front : take (done + 1) new ≡ take done keys ++ y ∷ [] = ap (take (done + 1)) g.is ∙ take-append-le (done + 1) keys g.tail (omega arith) ∙ take_next keys done class y lt refl in
      record {
        start = (g.has class).1 (inl s.start);
        given = λ x h. elim ((g.has x).0 h) [ inl p ↦ s.given x p | inr q ↦ gives_on class y x (s.given y there) q ];
        closed = λ z h x q. elim (Contains-append_cases (take done keys) (y ∷ []) z (subst (λ (l : List Name). Contains l z) front h)) [
          | inl p ↦ (g.has x).1 (inl (s.closed z p x q))
          | inr p ↦ (g.has x).1 (inr (subst (λ (n : Name). Contains (supers n) x) (sym (only_one y z p)) q))
        ];
      }

  reached : (class : Name) (keys : List Name) → ((y : Name) → Contains keys y → (x : Name) → Contains (supers y) x → Contains keys x) → {y c : Name} → Contains keys y → Reaches supers y c → Contains keys c
  reached class keys closed {y} {c} h (step q) = closed y h c q
  reached class keys closed {y} {c} h (onward {b = b} q r) = reached class keys closed (closed y h b q) r

  pub swept_end : (class : Name) (keys : List Name) (done : ℕ) → Swept supers class keys done → length keys ≤ done → (c : Name) → Contains keys c ↔ Gives supers class c
  swept_end class keys done s le c =
      let all : take done keys ≡ keys = take_all done keys le in (
        s.given c,
        (λ g. elim g [
          | inl e ↦ subst (Contains keys) e s.start
          | inr r ↦ reached class keys (λ y h x q. s.closed y (subst (λ (l : List Name). Contains l y) (sym all) h) x q) s.start r
        ]),
      )

-- ---- how many classes there can be

abbrev pub named_in : Entry → List Name
named_in e = supers_named e.0

-- the class, and all superclasses that any declaration names
abbrev pub universe : Faces → Name → List Name
universe fs class = class ∷ flat_map named_in (entries fs)

from_found : (p : Entry → Bool) (es : List Entry) (x : Name) → Contains (supers_in (decl_in (find p es))) x → Contains (flat_map named_in es) x
from_found p [] x h = no_member x h
from_found p (e ∷ es) x h = at (p e) refl h (from_found p es x) where
  at : (b : Bool) → p e ≡ b → Contains (supers_in (decl_in (find p (e ∷ es)))) x → (Contains (supers_in (decl_in (find p es))) x → Contains (flat_map named_in es) x) → Contains (flat_map named_in (e ∷ es)) x
  at true q k on = Contains-append_left (named_in e) (flat_map named_in es) x (subst (λ (b : Bool). Contains (supers_in (decl_in (cond b (Some e) (find p es)))) x) q k)
  at false q k on = Contains-append_right (named_in e) (flat_map named_in es) x (on (subst (λ (b : Bool). Contains (supers_in (decl_in (cond b (Some e) (find p es)))) x) q k))

module _ (fs : Faces) (class : Name) where
  last_in : {y c : Name} → Reaches (supers_of fs) y c → Contains (flat_map named_in (entries fs)) c
  last_in {y} {c} (step q) = from_found (λ (e : Entry). same_name y e.0.name) (entries fs) c q
  last_in {y} {c} (onward q r) = last_in r

  given_in : (x : Name) → Gives (supers_of fs) class x → Contains (universe fs class) x
  given_in x (inl e) = subst (Contains (universe fs class)) e (here class (flat_map named_in (entries fs)))
  given_in x (inr r) = Contains-append_right (class ∷ []) (flat_map named_in (entries fs)) x (last_in r)

  pub few : (keys : List Name) (done : ℕ) → Swept (supers_of fs) class keys done → IsDistinct same keys → length keys ≤ length (universe fs class)
  few keys done s d = at_most keys (universe fs class) d (λ x h. given_in x (s.given x h))
