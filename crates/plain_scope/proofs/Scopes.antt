-- What a use of a name becomes as more names come into scope.
use Rattle.std.proofs.Common.{◌≡◌, refl, sym, ap, ◌∙◌, ℕ, Bool, true, false, cond, ◌&&◌, List, [], ◌∷◌, ◌++◌, map, append_assoc}
use Rattle.std.proofs.lemmas.List.{append-nil, map-append}
use Rattle.std.proofs.lemmas.List.Elements.{filter-append}
use Rattle.std.proofs.lemmas.List.Folds.{list_all-append}
use Rattle.std.proofs.lemmas.Cmp.{nat_list_eq_equiv}
use Rattle.std.specs.List.{list_all, filter, flat_map}
use Rattle.mk_base.specs.declared.name.Name.{Name}
use Rattle.mk_base.specs.declared.name.Space.TheVariants.{Con, Ty}
use Rattle.plain_form.specs.declared.form.Written.{Written}
use Rattle.mk_base.specs.Texts.{same_text}
use Rattle.plain_scope.specs.declared.scope.Content.{Content}
use Rattle.plain_scope.specs.Scope.{entity, same_entity, same_space, exports_of, brought, heads, content_heads, scope, referred, Pair, Use, Missing, Ambiguous, Found, use_of, use_at}
use Rattle.plain_scope.specs.Table.{added, with_type, with_types, with_contents}

and_true : (b : Bool) → (b && true) ≡ b
and_true true = refl
and_true false = refl

found_push : (a : Bool) (e f : Name) → cond (a && same_entity e f) (Found e) Ambiguous ≡ added (cond a (Found e) Ambiguous) f
found_push true e f = refl
found_push false e f = refl

-- one more entity behind the others
pub use_of-push : (es : List Name) (f : Name) → use_of (es ++ f ∷ []) ≡ added (use_of es) f
use_of-push [] f = refl
use_of-push (e ∷ es) f =
    ap (λ b. cond b (Found e) Ambiguous) (list_all-append (same_entity e) es (f ∷ []) ∙ ap (λ b. list_all (same_entity e) es && b) (and_true (same_entity e f)))
    ∙ found_push (list_all (same_entity e) es) e f

-- a use once it refers to more entities in turn
abbrev pub with_all : Use → List Name → Use
with_all u [] = u
with_all u (e ∷ es) = with_all (added u e) es

pub use_of-append : (es fs : List Name) → use_of (es ++ fs) ≡ with_all (use_of es) fs
use_of-append es [] = ap use_of (append-nil es)
use_of-append es (f ∷ fs) =
    ap use_of (sym (append_assoc es (f ∷ []) fs)) ∙ use_of-append (es ++ f ∷ []) fs ∙ ap (λ u. with_all u fs) (use_of-push es f)

with_all-append : (u : Use) (es fs : List Name) → with_all u (es ++ fs) ≡ with_all (with_all u es) fs
with_all-append u [] fs = refl
with_all-append u (e ∷ es) fs = with_all-append (added u e) es fs

pub referred-append : (ps qs : List Pair) (text : List ℕ) → referred (ps ++ qs) text ≡ referred ps text ++ referred qs text
referred-append ps qs text =
    let test : Pair → Bool = λ p. same_text p.qualifier [] && (same_space p.entity.occ.space Ty && same_text p.entity.occ.text text) in
    ap (map (λ (p : Pair). p.entity)) (filter-append test ps qs) ∙ map-append (λ (p : Pair). p.entity) (filter test ps) (filter test qs)

same_self : (unit m text : List ℕ) → same_entity (entity unit m Ty text) (entity unit m Ty text) ≡ true
same_self unit m text = simp (nat_list_eq_equiv.refl unit, nat_list_eq_equiv.refl m, nat_list_eq_equiv.refl text)

again : (b : Bool) (f e : Name) → same_entity f e ≡ b → added (cond b (Found f) Ambiguous) e ≡ cond b (Found f) Ambiguous
again true f e h = ap (λ b. cond b (Found f) Ambiguous) h
again false f e h = refl

-- an entity that comes into scope twice changes nothing the second time
added_twice : (u : Use) (e : Name) → same_entity e e ≡ true → added (added u e) e ≡ added u e
added_twice Missing e h = ap (λ b. cond b (Found e) Ambiguous) h
added_twice Ambiguous e h = refl
added_twice (Found f) e h = again (same_entity f e) f e refl

-- what a declared type brings, where b says whether its module's name is empty and t whether it is the type asked for
one_type : (b t s : Bool) (u : Use) (e p c d : Pair) (es : List Pair) → e.entity ≡ p.entity → same_entity e.entity e.entity ≡ true
    → with_all u (map (λ (q : Pair). q.entity) (cond (true && (true && t)) (e ∷ cond (b && (true && t)) (p ∷ cond (true && (false && s)) (c ∷ cond (b && (false && s)) (d ∷ es) es) (cond (b && (false && s)) (d ∷ es) es)) (cond (true && (false && s)) (c ∷ cond (b && (false && s)) (d ∷ es) es) (cond (b && (false && s)) (d ∷ es) es))) (cond (b && (true && t)) (p ∷ cond (true && (false && s)) (c ∷ cond (b && (false && s)) (d ∷ es) es) (cond (b && (false && s)) (d ∷ es) es)) (cond (true && (false && s)) (c ∷ cond (b && (false && s)) (d ∷ es) es) (cond (b && (false && s)) (d ∷ es) es)))))
    ≡ with_all (cond t (added u e.entity) u) (map (λ (q : Pair). q.entity) es)
one_type true true s u e p c d es same self =
    ap (λ (x : Name). with_all (added (added u e.entity) x) (map (λ (q : Pair). q.entity) es)) (sym same) ∙ ap (λ v. with_all v (map (λ (q : Pair). q.entity) es)) (added_twice u e.entity self)
one_type false true s u e p c d es same self = refl
one_type true false s u e p c d es same self = refl
one_type false false s u e p c d es same self = refl

-- what a module declares comes into scope: its types alone can be what a type's name refers to
pub with_all-brought : (unit m : List ℕ) (hs : List (List ℕ × List ℕ)) (text : List ℕ) (u : Use)
    → with_all u (referred (brought m (exports_of unit m hs)) text) ≡ with_types unit m hs text u
with_all-brought unit m [] text u = refl
with_all-brought unit m (h ∷ hs) text u =
    let pair : List ℕ → Name → Pair = λ q e. record { qualifier = q; entity = e } in
    let ty : Name = entity unit m Ty h.0 in
    let con : Name = entity unit m Con h.1 in
    one_type (same_text m []) (same_text h.0 text) (same_text h.1 text) u (pair [] ty) (pair m ty) (pair [] con) (pair m con)
    (filter (λ (p : Pair). same_text p.qualifier [] && (same_space p.entity.occ.space Ty && same_text p.entity.occ.text text)) (brought m (exports_of unit m hs))) refl (same_self unit m h.0)
    ∙ with_all-brought unit m hs text (with_type unit m h.0 text u)

abbrev brought_by : List ℕ → Content → List Pair
brought_by unit c = brought c.module (exports_of unit c.module (content_heads c.datas))

with_all-contents : (unit : List ℕ) (cs : List Content) (text : List ℕ) (u : Use)
    → with_all u (referred (flat_map (brought_by unit) cs) text) ≡ with_contents unit cs text u
with_all-contents unit [] text u = refl
with_all-contents unit (c ∷ cs) text u =
    ap (with_all u) (referred-append (brought_by unit c) (flat_map (brought_by unit) cs) text)
    ∙ with_all-append u (referred (brought_by unit c) text) (referred (flat_map (brought_by unit) cs) text)
    ∙ ap (λ v. with_all v (referred (flat_map (brought_by unit) cs) text)) (with_all-brought unit c.module (content_heads c.datas) text u)
    ∙ with_all-contents unit cs text (with_types unit c.module (content_heads c.datas) text u)

-- a use by the names in scope is a use by the types of the module and then of its imports
pub use_at-scope : (unit m : List ℕ) (w : Written) (imported : List Content) (text : List ℕ)
    → use_at (scope unit m w imported) text ≡ with_contents unit imported text (with_types unit m (heads w.datas) text Missing)
use_at-scope unit m w imported text =
    let own : List Pair = brought m (exports_of unit m (heads w.datas)) in
    let more : List Pair = flat_map (brought_by unit) imported in
    ap use_of (referred-append own more text)
    ∙ use_of-append (referred own text) (referred more text)
    ∙ ap (λ u. with_all u (referred more text)) (use_of-append [] (referred own text) ∙ with_all-brought unit m (heads w.datas) text Missing)
    ∙ with_all-contents unit imported text (with_types unit m (heads w.datas) text Missing)
