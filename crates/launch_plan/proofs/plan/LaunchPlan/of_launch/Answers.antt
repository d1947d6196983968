use Rattle.std.proofs.Common.{arith}
use Rattle.launch_plan.proofs.LinksBeginItems.{steps-begin}
use Rattle.launch_plan.proofs.ListedCanBeRead.{listed-readable, least-low}
use Rattle.launch_plan.proofs.KeysAndPartsOfLinks.{read-of}
use Rattle.launch_plan.proofs.plan.LaunchPlan.of_launch.Goals as goal

pub push_steps-requires-clause-readable : goal.push_steps-requires-clause-readable
push_steps-requires-clause-readable c =
    rw c.steps.ensures.value ((listed-readable c.args.launch.now c.args.placed.now c.requires.list).readable)

pub pages_of-pages-requires : goal.pages_of-pages-requires
pages_of-pages-requires c =
    let few = (listed-readable c.args.launch.now c.args.placed.now c.requires.list).few in
    let links = rw (c.new-links.ensures.items, c.steps.ensures.value) at c.in_ok-push_steps.ensures.links in
    rw (c.as_slice.ensures.value, links) (omega (arith, few))

pub of_links-requires : goal.of_links-requires
of_links-requires c =
    let fit = (listed-readable c.args.launch.now c.args.placed.now c.requires.list).fit in
    let links = rw (c.new-links.ensures.items, c.steps.ensures.value) at c.in_ok-push_steps.ensures.links in
    let begin = steps-begin c.args.launch.now c.args.placed.now c.args.launch.now.steps in
    let count = rw (c.as_slice.ensures.value, links) at c.pages_of-pages.ensures in
    rw links (record { fit = fit; begin = begin; pages = count })

pub returns-clause-read : goal.returns-clause-read
returns-clause-read c =
    let all = (listed-readable c.args.launch.now c.args.placed.now c.requires.list).readable in
    let links = rw (c.new-links.ensures.items, c.steps.ensures.value) at c.in_ok-push_steps.ensures.links in
    rw (c.of_links.ensures, links, c.realm_params.ensures) (read-of c.args.launch.now c.args.placed.now (least-low c.args.launch.now.config c.args.launch.now.config.level) all)
