use Rattle.std.proofs.Common.{◌≡◌, ◌∙◌, List, arith, length, take, drop, ap, sym}
use Rattle.std.proofs.lemmas.List.Elements.{All-cons, All-drop, All-take}
use Rattle.rim_desc.specs.Part.{extended_by}
use Rattle.rim_desc.specs.declared.measurement.Measurement.{Measurement}
use Rattle.launch_plan.specs.Fitting.{IsFitting}
use Rattle.launch_plan.specs.Links.{keys_of}
use Rattle.launch_plan.specs.declared.link.Link.{Link}
use Rattle.launch_plan.specs.declared.link.Link.TheVariants.{Unmeasured}
use Rattle.launch_plan.proofs.LinkByLink.{keys-on}
use Rattle.rim_chain.proofs.PrefixValues.{prefix-on}
use Rattle.rim_chain.proofs.PartByPart.{empty-first, none-left}
use Rattle.rim_chain.proofs.under_way.LaunchChain.new.Goals as goal

pub invariant_of-result : goal.invariant_of-result
invariant_of-result c =
    let links : List Link = c.args.plan.now.links in
    let first : List Link = take c.args.end links in
    let front : c.split_at.result.0.now ≡ first = c.split_at.ensures.front ∙ ap (take c.args.end) c.links.ensures.links in
    let left : c.split_at-3.result.1.now ≡ drop c.args.from.links first = c.split_at-3.ensures.back ∙ ap (drop c.args.from.links) front in
    let fit = All-drop IsFitting c.args.from.links first (All-take IsFitting c.args.end links c.links.ensures.kept.fit) in
    let count = keys-on links c.args.from.links c.args.end c.requires.end.0 in
    rw left (record {
      fit = All-cons IsFitting (Unmeasured 0 0) _ (omega arith) fit;
      filled = omega (arith, count, c.requires.from.pages, c.split_at-4.ensures.back_len, c.split_at-2.ensures.front_len, c.pages_before.ensures);
    })

pub returns-clause-value : goal.returns-clause-value
returns-clause-value c =
    let p = c.args.plan.now in
    let d = c.args.row.now.digests in
    let links : List Link = drop c.args.from.links (take c.args.end p.links) in
    let digests : List Measurement = drop (length (keys_of (take c.args.from.links p.links))) (take (length (keys_of (take c.args.end p.links))) d) in
    let on = prefix-on p d c.args.from.links c.args.end c.requires.end.0 in
    rw (
      c.split_at-3.ensures.back,
      c.split_at.ensures.front,
      c.links.ensures.links,
      c.split_at-4.ensures.back,
      c.requires.from.pages,
      c.split_at-2.ensures.front,
      c.digests.ensures.digests,
      c.pages_before.ensures,
      c.params.ensures,
      c.requires.from.value,
    )
    (ap (extended_by p.params.algo _) (empty-first (Unmeasured 0 0) links digests none-left) ∙ sym on)
