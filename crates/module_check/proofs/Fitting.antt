-- What a sound module offers fits its spelling.
use Rattle.std.proofs.Common.{◌≡◌, ℕ, ◌<◌, ◌≤◌, ◌^◌, List, length, Result, Ok, Err, arith}
use Rattle.std.specs.List.{AllByRecursion}
use Rattle.build_theory.proofs.Lists.{all_map}
use Rattle.mk_base.specs.declared.name.Node.{Node}
use Rattle.mk_base.specs.declared.diag.Diag.{Diag}
use Rattle.plain_form.specs.declared.form.DataItem.{DataItem}
use Rattle.plain_form.specs.declared.form.Written.{Written}
use Rattle.plain_scope.specs.declared.scope.Content.{Content}
use Rattle.plain_scope.specs.declared.scope.Checked.{Checked}
use Rattle.plain_scope.specs.declared.scope.Checked.TheVariants.{Sound, Wrong}
use Rattle.plain_scope.specs.Scope.{check_of}
use Rattle.plain_scope.specs.Offered.{IsSound, Fits}
use Rattle.module_check.specs.declared.check.CheckSettings.{CheckSettings}
use Rattle.module_check.specs.Check.{after_items, check, items_of, outcome_of}
use Rattle.module_check.specs.Laws.{IsShortContent, SoundFits}
use Rattle.module_check.proofs.Sound.{sound_fits}
use Rattle.module_check.proofs.Weights.{IsShortWord, IsShortItem, weight, AreSmall, items_small}

short_more : (b : ℕ) (d : DataItem) → b ≤ 1048576 → IsShortItem b d → IsShortItem 1048576 d
short_more b d l h =
    let x : length d.ty.text ≤ b = h.0 in
    let y : length d.con.text ≤ b = h.1 in
    (omega arith, omega arith, all_map (IsShortWord b) (IsShortWord 1048576) d.fields (λ f s. let z : length f.text ≤ b = s in omega arith) h.2)

small_more : (b : ℕ) (r : Result Written Diag) → b ≤ 1048576 → AreSmall b b r → AreSmall 1048576 1048576 r
small_more b (Err d) l h = tt
small_more b (Ok w) l h = let n : weight w ≤ b = h.0 in (omega arith, all_map (IsShortItem b) (IsShortItem 1048576) w.datas (λ d s. short_more b d l s) h.1)

sound_is : (k : Checked) (c : Content) → outcome_of k ≡ Ok c → k ≡ Sound c
sound_is (Sound d) c e = let h : d ≡ c = cc in let g : ◌≡◌ {A = Checked} (Sound d) (Sound c) = cc in g
sound_is (Wrong ds) c e = absurd (let h : ⊥ = cc in h)

items_fit : (g : CheckSettings) (n : Node) (r : Result Written Diag) (cs : List Content) (c : Content) → after_items g n r cs ≡ Ok c → length g.unit.text ≤ 64 → length n.module.text < 2 ^ 32
    → AllByRecursion IsShortContent cs → AreSmall 1048576 1048576 r → IsSound g.unit.text c × Fits g.unit.text c × (c.module ≡ n.module.text)
items_fit g n (Ok w) cs c e u v h small = sound_fits g.unit.text n.module.text w cs c (sound_is (check_of g.unit.text n.module.text w cs) c e) u v h small
items_fit g n (Err d) cs c e u v h small = absurd (let h : ⊥ = cc in h)

pub checks_fit : SoundFits
unfolding check
checks_fit g n s cs c u v l h e = items_fit g n (items_of n s) cs c e u v h (small_more (length s) (items_of n s) l (items_small n s))
