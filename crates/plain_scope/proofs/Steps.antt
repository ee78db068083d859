-- The steps of the loops over imports and data types.
use Rattle.std.proofs.Common.{◌≡◌, refl, sym, ap, ◌∙◌, ℕ, ◌+◌, ◌<◌, Bool, true, false, cond, ◌||◌, List, [], ◌∷◌, ◌++◌, length, get_or, drop, take, append_assoc}
use Rattle.std.proofs.lemmas.List.{drop_more, take_more}
use Rattle.std.proofs.lemmas.List.Folds.{list_any-append}
use Rattle.std.proofs.lemmas.Option.{slice_get_read}
use Rattle.std.proofs.lemmas.Cmp.{nat_list_eq_equiv}
use Rattle.std.specs.Option.{option_to_list}
use Rattle.std.specs.List.{list_any}
use Rattle.mk_base.specs.declared.diag.Diag.{Diag}
use Rattle.plain_form.specs.declared.form.DataItem.{DataItem}
use Rattle.mk_base.specs.Texts.{same_text}
use Rattle.plain_scope.specs.declared.scope.Content.{Content}
use Rattle.plain_scope.specs.Scope.{Pair, data_diags, datas_diags, contents_at}

or_last : (a b : Bool) → cond b true a ≡ (a || (b || false))
or_last true true = refl
or_last true false = refl
or_last false true = refl
or_last false false = refl

-- a set that took one more word has the words before and that one
pub seen_next : (old new : List ℕ → Bool) (words : List (List ℕ)) (word copied : List ℕ) → copied ≡ word → ((q : List ℕ) → new q ≡ cond (same_text copied q) true (old q))
    → ((text : List ℕ) → old text ≡ list_any (same_text text) words) → (text : List ℕ) → new text ≡ list_any (same_text text) (words ++ word ∷ [])
seen_next old new words word copied same put had text =
    put text
    ∙ ap (λ (w : List ℕ). cond (same_text w text) true (old text)) same
    ∙ ap (λ b. cond b true (old text)) (nat_list_eq_equiv.symm word text)
    ∙ ap (cond (same_text text word) true) (had text)
    ∙ or_last (list_any (same_text text) words) (same_text text word)
    ∙ sym (list_any-append (same_text text) words (word ∷ []))

-- what is in front of the next place, and what is left from this one
pub front_next : {X : Type 0} (xs : List X) (i : ℕ) (x : X) → i < length xs → x ≡ get_or xs i x → take (i + 1) xs ≡ take i xs ++ x ∷ []
front_next xs i x lt is = take_more xs i x lt ∙ ap (λ y. take i xs ++ y ∷ []) (sym is)

pub rest_next : {X : Type 0} (xs : List X) (i : ℕ) (x : X) → i < length xs → x ≡ get_or xs i x → drop i xs ≡ x ∷ drop (i + 1) xs
rest_next xs i x lt is = drop_more xs i x lt ∙ ap (λ y. y ∷ drop (i + 1) xs) (sym is)

-- the contents from this import on
pub contents_next : (contents : List Content) (imports : List ℕ) (i : ℕ) (c : Content) → i < length imports → get_or imports i 0 < length contents
    → c ≡ get_or contents (get_or imports i 0) c → contents_at contents (drop i imports) ≡ c ∷ contents_at contents (drop (i + 1) imports)
contents_next contents imports i c lt within is =
    ap (contents_at contents) (drop_more imports i 0 lt)
    ∙ ap (λ o. option_to_list o ++ contents_at contents (drop (i + 1) imports)) (slice_get_read contents (length contents) (get_or imports i 0) c refl within is)

-- the diagnostics of three parts, one behind the other
pub three_parts : (d d1 d2 d3 a b c : List Diag) → d1 ≡ d ++ a → d2 ≡ d1 ++ b → d3 ≡ d2 ++ c → d3 ≡ d ++ (a ++ (b ++ c))
three_parts d d1 d2 d3 a b c e1 e2 e3 =
    e3 ∙ ap (λ x. x ++ c) (e2 ∙ ap (λ x. x ++ b) e1) ∙ append_assoc (d ++ a) b c ∙ append_assoc d a (b ++ c)

-- once the diagnostics of a data type are put behind the earlier ones, those of the later data types are left
pub datas_next : (pairs : List Pair) (i : ℕ) (ds : List DataItem) (d : DataItem) (old new all : List Diag) → i < length ds → d ≡ get_or ds i d
    → new ≡ old ++ data_diags pairs (take i ds) d → old ++ datas_diags pairs (take i ds) (drop i ds) ≡ all
    → new ++ datas_diags pairs (take (i + 1) ds) (drop (i + 1) ds) ≡ all
datas_next pairs i ds d old new all lt is e g =
    let tail : List Diag = datas_diags pairs (take i ds ++ d ∷ []) (drop (i + 1) ds) in
    ap (λ b. new ++ datas_diags pairs b (drop (i + 1) ds)) (front_next ds i d lt is)
    ∙ ap (λ n. n ++ tail) e
    ∙ append_assoc old (data_diags pairs (take i ds) d) tail
    ∙ ap (λ r. old ++ datas_diags pairs (take i ds) r) (sym (rest_next ds i d lt is))
    ∙ g
