use Rattle.std.proofs.Common.{◌≡◌, ◌<◌, ◌≤◌, ◌∙◌, ℕ, List, Vec, Global, length, map, ap, subst, arith, rules}
use Rattle.std.proofs.lemmas.List.{length-map, take_all, take_at}
use Rattle.job_core.specs.inside.Reaches.{IsListed}
use Rattle.job_core.proofs.GroupsOfListedNeeds.{list_within, listed_needs, listed_step}
use Rattle.job_core.proofs.needs.Needs.listed.Goals as goal

pub add_list-requires : goal.add_list-requires
add_list-requires c =
    let lt : c.loop-launch.launch < length c.args.lists.items = search rules in
    let size : length c.deref_mut.result.now ≡ c.args.pages = ap length c.deref_mut.ensures.value ∙ c.loop-launch.invariant.size in
    record { within = rw (c.deref.ensures.value, size) (list_within c.args.pages c.args.lists.items c.loop-launch.launch c.index.result.now c.requires lt c.index.ensures) }

pub loop-launch-preserved : goal.loop-launch-preserved
loop-launch-preserved c =
    let lt : c.loop-launch.launch < length c.args.lists.items = search rules in
    let size : length c.add_list.new.groups ≡ c.loop-launch.groups.len = omega (arith, c.add_list.auto.groups, c.deref_mut.ensures.len) in
    let adds = rw (c.deref_mut.ensures.value, c.deref.ensures.value) at c.in_ok-add_list.ensures in
    rw (take_at c.add_list.new.groups _ c.loop-launch.groups.len size) (listed_step c.args.pages c.args.lists.items c.loop-launch.launch c.index.result.now c.loop-launch.groups.items c.add_list.new.groups lt c.index.ensures c.loop-launch.invariant adds)

pub returns-clause-needs : goal.returns-clause-needs
returns-clause-needs c =
    let ls = map (λ (v : Vec ℕ Global). v.items) c.args.lists.items in
    let past' : length c.args.lists.items ≤ c.loop-launch.launch = search rules in
    let past : length ls ≤ c.loop-launch.launch = omega (arith, past', length-map c.args.lists.items (λ (v : Vec ℕ Global). v.items)) in
    listed_needs c.args.pages c.args.lists c.loop-launch.groups c.requires (subst (λ (ns : List (List ℕ)). IsListed c.args.pages c.loop-launch.groups.items ns) (take_all c.loop-launch.launch ls past) c.loop-launch.invariant)
