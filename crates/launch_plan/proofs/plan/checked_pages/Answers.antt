use Rattle.std.proofs.Common.{◌<◌, arith, length, refl}
use Rattle.std.proofs.lemmas.Bool.{false≢true}
use Rattle.std.proofs.lemmas.List.{take_all}
use Rattle.std.proofs.lemmas.List.Elements.{All-more}
use Rattle.launch_plan.specs.Fitting.{BeginsItem, IsFitting}
use Rattle.launch_plan.specs.Links.{keys_of}
use Rattle.launch_plan.proofs.LinkByLink.{keys-so-far, keys-within}
use Rattle.launch_plan.proofs.plan.checked_pages.Goals as goal

pub returns-in_default-clause-valid : goal.returns-in_default-clause-valid
returns-in_default-clause-valid c =
    let within = keys-within c.args.links.now c.loop-link.link-index _ _ c.loop-link-test.true c.page_count.ensures in
    let count = c.loop-link.invariant.so_far.pages in
    ((λ h. absurd (false≢true h)), (λ links. (let few : length (keys_of c.args.links.now) < 18446744073709551616 = links.2 in absurd (c.in_default.ensures (omega (arith, within, count))))))

pub loop-link-preserved : goal.loop-link-preserved
loop-link-preserved c =
    let fit = c.is_fitting.ensures.0 c.if-not-is_fitting.false in
    let begin = c.begins_item.ensures.0 c.if-not-begins_item.false in
    let so_far = keys-so-far c.args.links.now c.loop-link.link-index _ _ c.loop-link-test.true c.page_count.ensures in
    let count = c.loop-link.invariant.so_far.pages in
    let more = c.in-Some.ensures in
    record {
      so_far = record {
        fit = All-more IsFitting c.args.links.now c.loop-link.link-index _ c.loop-link-test.true c.loop-link.invariant.so_far.fit fit;
        begin = All-more BeginsItem c.args.links.now c.loop-link.link-index _ c.loop-link-test.true c.loop-link.invariant.so_far.begin begin;
        pages = omega (arith, so_far, count, more.1);
      };
      few = omega (arith, more.0, more.1);
    }

pub returns-clause-valid : goal.returns-clause-valid
returns-clause-valid c =
    let all = take_all c.loop-link.link-index c.args.links.now c.loop-link-test.false in
    let fit = rw all at c.loop-link.invariant.so_far.fit in
    let begin = rw all at c.loop-link.invariant.so_far.begin in
    let count = rw all at c.loop-link.invariant.so_far.pages in
    let few = c.loop-link.invariant.few in
    ((λ _. (fit, begin, omega (arith, count, few))), (λ _. refl))
