use Rattle.std.proofs.Common.{◌≡◌, ◌∙◌, ◌↔◌, ◌<◌, ℕ, true, List, [], length, map, get_or, ap, sym, subst}
use Rattle.numbered_nodes.specs.Bits.{has, room_for}
use Rattle.numbered_nodes.specs.Edges.{lists, HaveRoom}
use Rattle.numbered_nodes.specs.Chains.{over}
use Rattle.package_graph.specs.Packages.{package_leads, has_package}
use Rattle.package_graph.specs.Targets.{package_targets}
use Rattle.package_graph.proofs.PackageRows.{edges_in_range, reach_is_over, row_has, as_many}
use Rattle.package_graph.proofs.tables.package_rows.Goals as goal

pub reach_rows-requires : goal.reach_rows-requires
reach_rows-requires c =
    let ps = c.args.modules.now in
    let es = c.deref.result.now in
    let is : lists es ≡ map (package_targets ps) ps = ap lists c.deref.ensures.value ∙ c.in_ok-edges.ensures in
    record { range = edges_in_range ps (lists es) is (length es) (as_many es ps is) }

pub with_themselves-requires : goal.with_themselves-requires
with_themselves-requires c = record { room = subst (λ n. HaveRoom (room_for n) c.in_ok-rows.rows.items) (sym c.in_ok-rows.ensures.len) c.in_ok-rows.ensures.room }

pub returns-clause-count : goal.returns-clause-count
returns-clause-count c =
    let ps = c.args.modules.now in
    let es = c.deref.result.now in
    let is : lists es ≡ map (package_targets ps) ps = ap lists c.deref.ensures.value ∙ c.in_ok-edges.ensures in
    c.with_themselves.ensures.count ∙ c.in_ok-rows.ensures.len ∙ as_many es ps is

pub returns-clause-room : goal.returns-clause-room
returns-clause-room c =
    let ps = c.args.modules.now in
    let es = c.deref.result.now in
    let is : lists es ≡ map (package_targets ps) ps = ap lists c.deref.ensures.value ∙ c.in_ok-edges.ensures in
    subst (λ n. HaveRoom (room_for n) c.with_themselves.result.items) (c.in_ok-rows.ensures.len ∙ as_many es ps is) c.with_themselves.ensures.room

pub returns-clause-rows : goal.returns-clause-rows
returns-clause-rows c = λ j k lt _.
    let ps = c.args.modules.now in
    let es = c.deref.result.now in
    let is : lists es ≡ map (package_targets ps) ps = ap lists c.deref.ensures.value ∙ c.in_ok-edges.ensures in
    let own : List ℕ = get_or c.in_ok-rows.rows.items j [] in
    let reached = c.in_ok-rows.ensures.reach j k in
    let chains = reach_is_over ps (lists es) is j k in
    let over_is : (has own k ≡ true) ↔ (over (package_leads ps) (length ps) j k ≡ true) = (λ h. chains.0 (reached.0 h), λ e. reached.1 (chains.1 e)) in
    let within : j < length c.in_ok-rows.rows.items = subst (λ n. j < n) (sym (c.in_ok-rows.ensures.len ∙ as_many es ps is)) lt in
    let same : has (get_or c.with_themselves.result.items j []) k ≡ has_package ps j k =
    row_has ps (get_or c.with_themselves.result.items j []) own j k (c.with_themselves.ensures.rows j k within) over_is in
    (λ h. sym same ∙ h, λ h. same ∙ h)
