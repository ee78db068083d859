-- Putting into the order of modules' names, one after another.
use Rattle.std.proofs.Common.{◌≡◌, ℕ, ◌+◌, Bool, true, false, List, [], ◌∷◌, ◌++◌, length, map, take, drop, cond, refl, ap, sym, ◌∙◌, subst, append_assoc, append-nil, arith}
use Rattle.std.specs.Prelude.{not, filter, flat_map}
use Rattle.std.specs.List.{AllByRecursion}
use Rattle.std.specs.Ordering.{is_gt, ordering_reverse, nat_cmp}
use Rattle.std.specs.Cmp.Lexicographic.{slice_cmp}
use Rattle.std.specs.declared.cmp.Ordering.{Ordering}
use Rattle.std.specs.declared.cmp.Ordering.TheVariants.{Less, Equal, Greater}
use Rattle.std.proofs.lemmas.Cmp.{nat_list_cmp_total}
use Rattle.mk_base.specs.declared.name.ModName.{ModName}
use Rattle.mk_base.specs.Order.{text_cmp}
use Rattle.face_envs.specs.Tables.{is_later, put_behind, put_all}

pub by_cases : {G : Type 0} (b : Bool) → (b ≡ true → G) → (b ≡ false → G) → G
by_cases true f g = f refl
by_cases false f g = g refl

pub clash : {G : Type 0} (b : Bool) → b ≡ true → b ≡ false → G
clash b t f = absurd (let h : ⊥ = cc in h)

-- ---- the order

back : (o r : Ordering) → o ≡ ordering_reverse r → is_gt o ≡ true → r ≡ Less
back o Less e g = refl
back o Equal e g = absurd (let h : is_gt Equal ≡ true = ap is_gt (sym e) ∙ g in let k : ⊥ = cc in k)
back o Greater e g = absurd (let h : is_gt Less ≡ true = ap is_gt (sym e) ∙ g in let k : ⊥ = cc in k)

forth : (o r : Ordering) → o ≡ ordering_reverse r → r ≡ Less → is_gt o ≡ true
forth o r e l = ap is_gt e ∙ ap (λ q. is_gt (ordering_reverse q)) l

abbrev cmp : ModName → ModName → Ordering
cmp a b = text_cmp a.text b.text

less_from : (a b : ModName) → is_later a b ≡ true → cmp b a ≡ Less
less_from a b e = back (cmp a b) (cmp b a) (nat_list_cmp_total.antisymm a.text b.text) e

later_from : (a b : ModName) → cmp b a ≡ Less → is_later a b ≡ true
later_from a b e = forth (cmp a b) (cmp b a) (nat_list_cmp_total.antisymm a.text b.text) e

pub later_later : (a b c : ModName) → is_later a b ≡ true → is_later b c ≡ true → is_later a c ≡ true
later_later a b c f g = later_from a c (nat_list_cmp_total.trans c.text b.text a.text (less_from b c g) (less_from a b f))

gt_itself : (o : Ordering) → o ≡ ordering_reverse o → is_gt o ≡ false
gt_itself Less e = refl
gt_itself Equal e = refl
gt_itself Greater e = absurd (let h : ⊥ = cc in h)

pub itself : (a : ModName) → is_later a a ≡ false
itself a = gt_itself (cmp a a) (nat_list_cmp_total.antisymm a.text a.text)

at_cmp : {G : Type 0} (o : Ordering) → is_gt o ≡ false → (o ≡ Less → G) → (o ≡ Equal → G) → G
at_cmp Less e f g = f refl
at_cmp Equal e f g = g refl
at_cmp Greater e f g = absurd (let h : ⊥ = cc in h)

-- what comes behind y, or doesn't come before it, comes behind all that y comes behind
pub upto_later : (x y z : ModName) → is_later y x ≡ true → is_later y z ≡ false → is_later z x ≡ true
upto_later x y z f g =
    at_cmp (cmp y z) g
    (λ l. later_from z x (nat_list_cmp_total.trans x.text y.text z.text (less_from y x f) l))
    (λ q. ap is_gt (sym (nat_list_cmp_total.congr y.text z.text x.text q)) ∙ f)

pub upto_upto : (a b c : ModName) → is_later a b ≡ false → is_later b c ≡ false → is_later a c ≡ false
upto_upto a b c f g = by_cases (is_later a c) (λ h. clash (is_later b c) (upto_later c a b h f) g) (λ h. h)

-- ---- lists in order

module _ {T : Type 0} (key : T → ModName) where
  abbrev pub IsOrdered : List T → Type 0
  IsOrdered [] = Unit {0}
  IsOrdered (y ∷ ys) = AllByRecursion (λ (z : T). is_later (key y) (key z) ≡ false) ys × IsOrdered ys

  -- what is true of all, and of one more
  pub all_put : (P : T → Type 0) (x : T) (ys : List T) → P x → AllByRecursion P ys → AllByRecursion P (put_behind key x ys)
  all_put P x [] h a = (h, tt)
  all_put P x (y ∷ ys) h a =
      by_cases (is_later (key y) (key x))
      (λ e. subst (AllByRecursion P) (sym (ap (λ b. cond b (x ∷ y ∷ ys) (y ∷ put_behind key x ys)) e)) (h, a))
      (λ e. subst (AllByRecursion P) (sym (ap (λ b. cond b (x ∷ y ∷ ys) (y ∷ put_behind key x ys)) e)) (a.0, all_put P x ys h a.1))

  pub all_put_all : (P : T → Type 0) (xs ys : List T) → AllByRecursion P xs → AllByRecursion P ys → AllByRecursion P (put_all key xs ys)
  all_put_all P [] ys h a = a
  all_put_all P (x ∷ xs) ys h a = all_put_all P xs (put_behind key x ys) h.1 (all_put P x ys h.0 a)

  -- what doesn't come before x, where x doesn't come before those that y comes behind
  all_more : (x y : T) (ys : List T) → is_later (key x) (key y) ≡ false → AllByRecursion (λ (z : T). is_later (key y) (key z) ≡ false) ys → AllByRecursion (λ (z : T). is_later (key x) (key z) ≡ false) ys
  all_more x y [] e a = tt
  all_more x y (z ∷ ys) e a = (upto_upto (key x) (key y) (key z) e a.0, all_more x y ys e a.1)

  not_before : (x y : T) → is_later (key y) (key x) ≡ true → is_later (key x) (key y) ≡ false
  not_before x y e = by_cases (is_later (key x) (key y)) (λ h. clash (is_later (key y) (key y)) (later_later (key y) (key x) (key y) e h) (itself (key y))) (λ h. h)

  pub ordered_put : (x : T) (ys : List T) → IsOrdered ys → IsOrdered (put_behind key x ys)
  ordered_put x [] o = (tt, tt)
  ordered_put x (y ∷ ys) o =
      by_cases (is_later (key y) (key x))
      (λ e. subst IsOrdered (sym (ap (λ b. cond b (x ∷ y ∷ ys) (y ∷ put_behind key x ys)) e)) ((not_before x y e, all_more x y ys (not_before x y e) o.0), o))
      (λ e. subst IsOrdered (sym (ap (λ b. cond b (x ∷ y ∷ ys) (y ∷ put_behind key x ys)) e)) (all_put (λ (z : T). is_later (key y) (key z) ≡ false) x ys e o.0, ordered_put x ys o.1))

  pub ordered_put_all : (xs ys : List T) → IsOrdered ys → IsOrdered (put_all key xs ys)
  ordered_put_all [] ys o = o
  ordered_put_all (x ∷ xs) ys o = ordered_put_all xs (put_behind key x ys) (ordered_put x ys o)

  pub put_all_more : (xs zs ys : List T) → put_all key (xs ++ zs) ys ≡ put_all key zs (put_all key xs ys)
  put_all_more [] zs ys = refl
  put_all_more (x ∷ xs) zs ys = put_all_more xs zs (put_behind key x ys)

  -- where all stand behind x, it is put before them
  put_before : (x : T) (ys : List T) → AllByRecursion (λ (z : T). is_later (key z) (key x) ≡ true) ys → put_behind key x ys ≡ x ∷ ys
  put_before x [] a = refl
  put_before x (y ∷ ys) a = ap (λ b. cond b (x ∷ y ∷ ys) (y ∷ put_behind key x ys)) a.0

  pub all_later : (x y : T) (ys : List T) → is_later (key y) (key x) ≡ true → AllByRecursion (λ (z : T). is_later (key y) (key z) ≡ false) ys → AllByRecursion (λ (z : T). is_later (key z) (key x) ≡ true) ys
  all_later x y [] e a = tt
  all_later x y (z ∷ ys) e a = (upto_later (key x) (key y) (key z) e a.0, all_later x y ys e a.1)

  all_filter : (P : T → Type 0) (p : T → Bool) (ys : List T) → AllByRecursion P ys → AllByRecursion P (filter p ys)
  all_filter P p [] a = tt
  all_filter P p (y ∷ ys) a =
      by_cases (p y)
      (λ e. subst (AllByRecursion P) (sym (ap (λ b. cond b (y ∷ filter p ys) (filter p ys)) e)) (a.0, all_filter P p ys a.1))
      (λ e. subst (AllByRecursion P) (sym (ap (λ b. cond b (y ∷ filter p ys) (filter p ys)) e)) (all_filter P p ys a.1))

  -- what is put, and then left out, and what is put among those that are left
  filter_put_no : (p : T → Bool) (x : T) (ys : List T) → p x ≡ false → filter p (put_behind key x ys) ≡ filter p ys
  filter_put_no p x [] e = ap (λ b. cond {A = List T} b (x ∷ []) []) e
  filter_put_no p x (y ∷ ys) e =
      by_cases (is_later (key y) (key x))
      (λ l. ap (λ b. filter p (cond b (x ∷ y ∷ ys) (y ∷ put_behind key x ys))) l ∙ ap (λ b. cond b (x ∷ filter p (y ∷ ys)) (filter p (y ∷ ys))) e)
      (λ l. ap (λ b. filter p (cond b (x ∷ y ∷ ys) (y ∷ put_behind key x ys))) l ∙ ap (λ zs. cond (p y) (y ∷ zs) zs) (filter_put_no p x ys e))

  filter_put_yes : (p : T → Bool) (x : T) (ys : List T) → IsOrdered ys → p x ≡ true → filter p (put_behind key x ys) ≡ put_behind key x (filter p ys)
  filter_put_yes p x [] o e = ap (λ b. cond {A = List T} b (x ∷ []) []) e
  filter_put_yes p x (y ∷ ys) o e =
      by_cases (is_later (key y) (key x))
      (λ l. ap (λ b. filter p (cond b (x ∷ y ∷ ys) (y ∷ put_behind key x ys))) l
      ∙ (ap (λ b. cond b (x ∷ filter p (y ∷ ys)) (filter p (y ∷ ys))) e
      ∙ sym (put_before x (filter p (y ∷ ys)) (all_filter (λ (z : T). is_later (key z) (key x) ≡ true) p (y ∷ ys) (l, all_later x y ys l o.0)))))
      (λ l. ap (λ b. filter p (cond b (x ∷ y ∷ ys) (y ∷ put_behind key x ys))) l
      ∙ (ap (λ zs. cond (p y) (y ∷ zs) zs) (filter_put_yes p x ys o.1 e)
      ∙ by_cases (p y)
      (λ s. ap (λ b. cond b (y ∷ put_behind key x (filter p ys)) (put_behind key x (filter p ys))) s
      ∙ (sym (ap (λ b. cond b (x ∷ y ∷ filter p ys) (y ∷ put_behind key x (filter p ys))) l)
      ∙ sym (ap (λ b. put_behind key x (cond b (y ∷ filter p ys) (filter p ys))) s)))
      (λ s. ap (λ b. cond b (y ∷ put_behind key x (filter p ys)) (put_behind key x (filter p ys))) s
      ∙ sym (ap (λ b. put_behind key x (cond b (y ∷ filter p ys) (filter p ys))) s))))

  pub filter_put_all : (p : T → Bool) (xs ys : List T) → IsOrdered ys → filter p (put_all key xs ys) ≡ put_all key (filter p xs) (filter p ys)
  filter_put_all p [] ys o = refl
  filter_put_all p (x ∷ xs) ys o =
      filter_put_all p xs (put_behind key x ys) (ordered_put x ys o)
      ∙ by_cases (p x)
      (λ e. ap (put_all key (filter p xs)) (filter_put_yes p x ys o e) ∙ sym (ap (λ b. put_all key (cond b (x ∷ filter p xs) (filter p xs)) (filter p ys)) e))
      (λ e. ap (put_all key (filter p xs)) (filter_put_no p x ys e) ∙ sym (ap (λ b. put_all key (cond b (x ∷ filter p xs) (filter p xs)) (filter p ys)) e))
