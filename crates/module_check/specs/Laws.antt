-- What holds of every check.
use Rattle.std.specs.Prelude.{◌≡◌, ◌<◌, ◌≤◌, ◌^◌, ℕ, List, length, Ok, Err}
use Rattle.std.specs.List.{AllByRecursion}
use Rattle.mk_base.specs.Order.{AreInOrder}
use Rattle.mk_base.specs.declared.name.Node.{Node}
use Rattle.mk_base.specs.declared.diag.Diag.{Diag}
use Rattle.plain_scope.specs.declared.scope.Content.{Content}
use Rattle.plain_scope.specs.Offered.{IsSound, Fits}
use Rattle.module_check.specs.declared.check.CheckSettings.{CheckSettings}
use Rattle.module_check.specs.Check.{check}

-- The diagnostics of a check are in order.
abbrev pub ChecksAreOrdered : Type 0
ChecksAreOrdered = (g : CheckSettings) (n : Node) (s : List ℕ) (cs : List Content) (ds : List Diag) → check g n s cs ≡ Err ds → AreInOrder ds

-- the module's name is short
abbrev pub IsShortContent : Content → Type 0
IsShortContent c = length c.module < 2 ^ 32

-- What a sound module offers, of a source of at most 1,048,576 bytes: it bears the module's name, declares nothing twice, and fits its spelling.
abbrev pub SoundFits : Type 0
SoundFits = (g : CheckSettings) (n : Node) (s : List ℕ) (cs : List Content) (c : Content) → length g.unit.text ≤ 64 → length n.module.text < 2 ^ 32 → length s ≤ 1048576 → AllByRecursion IsShortContent cs → check g n s cs ≡ Ok c
    → IsSound g.unit.text c × Fits g.unit.text c × (c.module ≡ n.module.text)
