-- The slow reading of a source is the reading of its lexemes.
use Rattle.std.specs.Bool.{Decides}
use Rattle.std.specs.Prelude.{Option, Some, None, MatchOption, Result, Ok, Err, if◌then◌else◌}
use Rattle.std.proofs.Common.{◌≡◌, ◌⊎◌, inl, inr, ⊎_elim, ℕ, zero, suc, ◌<◌, ◌≤◌, Bool, true, false, List, [], ◌∷◌, ◌++◌, length, refl, ap, sym, ◌∙◌, subst, arith, append_assoc, length-append}
use Rattle.std.proofs.lemmas.Bool.{false≢true, cases_lt}
use Rattle.mk_base.specs.declared.place.Pos.{Pos}
use Rattle.hs_syntax.specs.declared.token.Token.{Token}
use Rattle.hs_lex.specs.declared.class.Class.{Class}
use Rattle.hs_lex.specs.declared.item.Kind.{Kind}
use Rattle.hs_lex.specs.declared.item.Kind.TheVariants.{Blank, LineComment, NestedComment, SmallName, LargeName, Operator, Number, Fraction, Quoted, Char, Special}
use Rattle.hs_lex.specs.declared.cursor.Stage.{Stage}
use Rattle.hs_lex.specs.declared.cursor.Cursor.{Cursor}
use Rattle.hs_lex.specs.Kinds.{kind_of}
use Rattle.hs_lex.specs.Lexemes.{BeginsWith, is_nil}
use Rattle.hs_lex.specs.Items.{Is, IsItem, NoItem}
use Rattle.hs_lex.specs.Deciding.{is, is_token}
use Rattle.hs_lex.specs.Slow.{kinds, kind_among, with_text, first_of_two, item_from, item_at, turn_over, put_before, go_over, read_from, read_source}
use Rattle.hs_lex.specs.Tokens.{IsToken, behind_token, Counts, position, ahead, tokens_at, IsTurn, IsRead, IsStuck, start, Lexes, IsFirstBad}
use Rattle.hs_lex.proofs.Decided.{nil_decides}
use Rattle.hs_lex.proofs.DecidedPragmas.{is_decides, token_decides}
use Rattle.hs_lex.proofs.Dispatch.{first, begins}
use Rattle.hs_lex.proofs.Reached.{items_lead, read_none}
use Rattle.hs_lex.proofs.Whole.{unique, one_bad, either}

-- the kind of a text
abbrev NoneIs : List Kind → List ℕ → List ℕ → Type 0
NoneIs [] l rest = Unit {0}
NoneIs (k ∷ ks) l rest = (Is k l rest → ⊥) × NoneIs ks l rest

abbrev KindIs : List Kind → List ℕ → List ℕ → Option Kind → Type 0
KindIs ks l rest (Some k) = Is k l rest
KindIs ks l rest None = NoneIs ks l rest

among_by : (k : Kind) (ks : List Kind) (l rest : List ℕ) (b : Bool) → Decides b (Is k l rest) → (o : Option Kind) → KindIs ks l rest o → KindIs (k ∷ ks) l rest (if b then Some k else o)
among_by k ks l rest true d o h = d.0 refl
among_by k ks l rest false d (Some j) h = h
among_by k ks l rest false d None h = ((λ x. false≢true (d.1 x)), h)

among : (ks : List Kind) (l rest : List ℕ) → KindIs ks l rest (kind_among ks l rest)
among [] l rest = tt
among (k ∷ ks) l rest = among_by k ks l rest (is k l rest) (is_decides k l rest) (kind_among ks l rest) (among ks l rest)

none_of : (k : Kind) (l rest : List ℕ) → NoneIs kinds l rest → Is k l rest → ⊥
none_of Blank l rest h = h.0
none_of LineComment l rest h = h.1.0
none_of NestedComment l rest h = h.1.1.0
none_of SmallName l rest h = h.1.1.1.0
none_of LargeName l rest h = h.1.1.1.1.0
none_of Operator l rest h = h.1.1.1.1.1.0
none_of Number l rest h = h.1.1.1.1.1.1.0
none_of Fraction l rest h = h.1.1.1.1.1.1.1.0
none_of Quoted l rest h = h.1.1.1.1.1.1.1.1.0
none_of Char l rest h = h.1.1.1.1.1.1.1.1.1.0
none_of Special l rest h = h.1.1.1.1.1.1.1.1.1.1.0

-- the longest of the items that are no shorter than done
abbrev Best : List ℕ → List ℕ → Option (Kind × List ℕ) → Type 0
Best done r (Some i) =
    (rest : List ℕ) × (done ++ r ≡ i.1 ++ rest) × Is i.0 i.1 rest × (length done ≤ length i.1) × ((j : Kind) (l s : List ℕ) → Is j l s → done ++ r ≡ l ++ s → length done ≤ length l → length l ≤ length i.1)
Best done r None = (j : Kind) (l s : List ℕ) → Is j l s → done ++ r ≡ l ++ s → length done ≤ length l → ⊥

same_parts : (a r b s : List ℕ) → a ++ r ≡ b ++ s → length a ≡ length b → (a ≡ b) × (r ≡ s)
same_parts [] r [] s e h = (refl, e)
same_parts [] r (y ∷ b) s e h = absurd (omega arith)
same_parts (x ∷ a) r [] s e h = absurd (omega arith)
same_parts (x ∷ a) r (y ∷ b) s e h =
    let t : a ++ r ≡ b ++ s = cc in
    let k : x ≡ y = cc in
    let q = same_parts a r b s t (omega arith) in
    (ap (λ z. z ∷ a) k ∙ ap (λ z. y ∷ z) q.0, q.1)

not_here : (done r : List ℕ) → NoneIs kinds done r → (j : Kind) (l s : List ℕ) → Is j l s → done ++ r ≡ l ++ s → length done ≡ length l → ⊥
not_here done r h j l s x e n =
    let q = same_parts done r l s e n in
    none_of j done r h (subst (λ z. Is j z r) (sym q.0) (subst (Is j l) (sym q.1) x))

best_end : (done : List ℕ) (o : Option Kind) → KindIs kinds done [] o → Best done [] (with_text o done)
best_end done (Some k) h = ([], refl, h, omega arith, λ j l s x e b. omega (arith, ap length e, length-append {A = ℕ} done [], length-append l s))
best_end done None h = λ j l s x e b. not_here done [] h j l s x e (omega (arith, b, ap length e, length-append {A = ℕ} done [], length-append l s))

module _ (done r : List ℕ) (c : ℕ) where
  grown : length (done ++ c ∷ []) ≡ suc (length done)
  grown = omega (arith, length-append {A = ℕ} done (c ∷ []))

  best_more : (o : Option (Kind × List ℕ)) (p : Option Kind) → Best (done ++ c ∷ []) r o → KindIs kinds done (c ∷ r) p → Best done (c ∷ r) (first_of_two o (with_text p done))
  best_more (Some i) p h q = (
    h.0,
    sym (append_assoc done (c ∷ []) r) ∙ h.1,
    h.2,
    omega (arith, h.3, grown),
    λ j l s x e b. ⊎_elim (λ lt. h.4 j l s x (append_assoc done (c ∷ []) r ∙ e) (omega (arith, lt, grown))) (λ le. omega (arith, le, h.3, grown)) (cases_lt (length done) (length l)),
  )
  best_more None (Some k) h q = (
    c ∷ r,
    refl,
    q,
    omega arith,
    λ j l s x e b. ⊎_elim (λ lt. absurd (h j l s x (append_assoc done (c ∷ []) r ∙ e) (omega (arith, lt, grown)))) (λ le. le) (cases_lt (length done) (length l)),
  )
  best_more None None h q =
      λ j l s x e b. ⊎_elim (λ lt. h j l s x (append_assoc done (c ∷ []) r ∙ e) (omega (arith, lt, grown))) (λ le. not_here done (c ∷ r) q j l s x e (omega (arith, b, le))) (cases_lt (length done) (length l))

best : (r done : List ℕ) → Best done r (item_from done r)
unfolding item_from
best [] done = best_end done (kind_among kinds done []) (among kinds done [])
best (c ∷ r) done = best_more done r c (item_from (done ++ c ∷ []) r) (kind_among kinds done (c ∷ r)) (best r (done ++ c ∷ [])) (among kinds done (c ∷ r))

-- the item that stands at the front
abbrev pub Stands : List ℕ → Option (Kind × List ℕ) → Type 0
Stands cs (Some i) = (rest : List ℕ) × IsItem i.0 i.1 cs rest
Stands cs None = NoItem cs

stands_by : (cs : List ℕ) (o : Option (Kind × List ℕ)) → Best [] cs o → Stands cs o
stands_by cs (Some i) h = (h.0, record { front = h.1; is = h.2; longest = λ j l r x e. h.4 j l r x e (omega arith) })
stands_by cs None h = λ j l r x e. h j l r x e (omega arith)

pub stands : (cs : List ℕ) → Stands cs (item_at cs)
stands cs = stands_by cs (item_from [] cs) (best cs [])

pub standing : (cs : List ℕ) → MatchOption (item_at cs) (NoItem cs) (λ i. (rest : List ℕ) × IsItem i.0 i.1 cs rest)
standing cs = by_answer (item_at cs) (stands cs)
  where
    by_answer : (o : Option (Kind × List ℕ)) → Stands cs o → MatchOption o (NoItem cs) (λ i. (rest : List ℕ) × IsItem i.0 i.1 cs rest)
    by_answer (Some i) h = h
    by_answer None h = h

-- the turn over an item
counted : (s : Stage) (k : Kind) (l : List ℕ) (b : Bool) → Decides b (IsToken s k l) → Counts s k l (if b then Some (kind_of k l) else None) (if b then behind_token s k l else s)
counted s k l true d = (d.0 refl, refl, refl)
counted s k l false d = ((λ x. false≢true (d.1 x)), refl)

turned : (c : Cursor) (k : Kind) (l : List ℕ) → IsTurn c k l (turn_over c k l)
turned c k l = (counted c.stage k l (is_token c.stage k l) (token_decides c.stage k l), refl)

-- what a reading from a cursor tells
abbrev Tells : List ℕ → Cursor → Result (List Token) Pos → Type 0
Tells source c (Ok ts) = (is : List (Kind × List ℕ)) × (d : Cursor) × IsRead source c is ts d × (ahead source d ≡ [])
Tells source c (Err at) = (is : List (Kind × List ℕ)) × (ts : List Token) × (d : Cursor) × IsRead source c is ts d × IsStuck source d at

long : (k : Class) (l : List ℕ) → BeginsWith k l → 0 < length l
long k [] h = absurd h
long k (c ∷ l) h = omega arith

module _ (source : List ℕ) (c : Cursor) where
  module _ (k : Kind) (l rest : List ℕ) (x : IsItem k l (ahead source c) rest) where
    lands : ahead source (turn_over c k l).to ≡ rest
    lands = items_lead source ((k, l) ∷ []) c (turn_over c k l).to (tokens_at source c (turn_over c k l).kind (turn_over c k l).to ++ []) rest (rest, x, refl) (turn_over c k l, [], turned c k l, refl, (refl, refl))

    pub shrinks : length (ahead source (turn_over c k l).to) < length (ahead source c)
    shrinks = omega (arith, ap length lands, ap length x.front, length-append l rest, long (first k) l (begins k l rest x.is))

    pub put : (is : List (Kind × List ℕ)) (ts : List Token) (d : Cursor) → IsRead source (turn_over c k l).to is ts d → IsRead source c ((k, l) ∷ is) (tokens_at source c (turn_over c k l).kind (turn_over c k l).to ++ ts) d
    put is ts d h = record {
      leads = (ahead source (turn_over c k l).to, subst (IsItem k l (ahead source c)) (sym lands) x, h.leads);
      tokens = (turn_over c k l, ts, turned c k l, refl, h.tokens);
    }

    over : (o : Result (List Token) Pos) → Tells source (turn_over c k l).to o → Tells source c (put_before (tokens_at source c (turn_over c k l).kind (turn_over c k l).to) o)
    over (Ok ts) h = ((k, l) ∷ h.0, h.1, put h.0 ts h.1 h.2, h.3)
    over (Err at) h = ((k, l) ∷ h.0, tokens_at source c (turn_over c k l).kind (turn_over c k l).to ++ h.1, h.2, put h.0 h.1 h.2 h.3, h.4)

  stops : (b : Bool) → Decides b (ahead source c ≡ []) → NoItem (ahead source c) → Tells source c (if b then Ok [] else Err (position c.place))
  stops true d n = ([], c, read_none source c, d.0 refl)
  stops false d n = ([], [], c, read_none source c, ((λ e. false≢true (d.1 e)), n, refl))

  goes : (on : Cursor → Result (List Token) Pos) (o : Option (Kind × List ℕ)) → Stands (ahead source c) o → ((d : Cursor) → length (ahead source d) < length (ahead source c) → Tells source d (on d)) → Tells source c (go_over source c on o)
  goes on (Some i) x each = over i.0 i.1 x.0 x.1 (on (turn_over c i.0 i.1).to) (each (turn_over c i.0 i.1).to (shrinks i.0 i.1 x.0 x.1))
  goes on None n each = stops (is_nil (ahead source c)) (nil_decides (ahead source c)) n

tells_from : (n : ℕ) (source : List ℕ) (c : Cursor) → length (ahead source c) < n → Tells source c (read_from n source c)
unfolding read_from
tells_from zero source c b = absurd (omega arith)
tells_from (suc n) source c b = goes source c (read_from n source) (item_at (ahead source c)) (stands (ahead source c)) (λ d k. tells_from n source d (omega (arith, k, b)))

tells : (source : List ℕ) → Tells source (start source) (read_source source)
unfolding read_source
tells source = tells_from (suc (length (ahead source (start source)))) source (start source) (omega arith)

-- laws
to_lexemes : (source : List ℕ) (ts : List Token) (o : Result (List Token) Pos) → Tells source (start source) o → Lexes source ts → o ≡ Ok ts
to_lexemes source ts (Ok us) h x = ap Ok (unique source us ts h x)
to_lexemes source ts (Err at) h x = absurd (either source ts at x h)

to_bad : (source : List ℕ) (at : Pos) (o : Result (List Token) Pos) → Tells source (start source) o → IsFirstBad source at → o ≡ Err at
to_bad source at (Ok us) h x = absurd (either source us at h x)
to_bad source at (Err a) h x = ap Err (one_bad source a at h x)

pub lexes_exactly : (source : List ℕ) (ts : List Token) → (read_source source ≡ Ok ts → Lexes source ts) × (Lexes source ts → read_source source ≡ Ok ts)
lexes_exactly source ts = ((λ e. subst (Tells source (start source)) e (tells source)), to_lexemes source ts (read_source source) (tells source))

pub bad_exactly : (source : List ℕ) (at : Pos) → (read_source source ≡ Err at → IsFirstBad source at) × (IsFirstBad source at → read_source source ≡ Err at)
bad_exactly source at = ((λ e. subst (Tells source (start source)) e (tells source)), to_bad source at (read_source source) (tells source))

one_or_other : (source : List ℕ) (o : Result (List Token) Pos) → Tells source (start source) o → ((ts : List Token) × Lexes source ts) ⊎ ((at : Pos) × IsFirstBad source at)
one_or_other source (Ok ts) h = inl (ts, h)
one_or_other source (Err at) h = inr (at, h)

pub total : (source : List ℕ) → ((ts : List Token) × Lexes source ts) ⊎ ((at : Pos) × IsFirstBad source at)
total source = one_or_other source (read_source source) (tells source)
