use Rattle.std.proofs.Common.{◌∙◌, add-one, ap, slice_index_or}
use Rattle.std.proofs.Math.Seq.{take-suc}
use Rattle.std.proofs.lemmas.List.{drop_all}
use Rattle.std.proofs.lemmas.Option.{slice_get-get_or}
use Rattle.rim_launch.specs.declared.step.Step.TheVariants.{Ram}
use Rattle.rmi_list.specs.Granules.{with_config}
use Rattle.rmi_list.proofs.ListStepByStep.{listing-begins, listing-ends, listing-goes-on, listing-refused, many-reason, opening-reason}
use Rattle.rmi_list.proofs.EntryByEntry.{drop-at}
use Rattle.rmi_list.proofs.ItemsAreListable.{are-listable}
use Rattle.rmi_list.proofs.listing.draft_of.Goals as goal

pub returns-then-count-gt-REC_LIMIT-clause-reason : goal.returns-then-count-gt-REC_LIMIT-clause-reason
returns-then-count-gt-REC_LIMIT-clause-reason c =
    rw c.recs-count.ensures (many-reason (with_config c.args.launch.now c.args.config) c.args.placed.now
    (rw (← c.recs-count.ensures) c.if-count-gt-REC_LIMIT.true))

pub returns-in-Err-Refused-clause-reason : goal.returns-in-Err-Refused-clause-reason
returns-in-Err-Refused-clause-reason c =
    opening-reason (with_config c.args.launch.now c.args.config) c.args.placed.now _ _ (rw (← c.recs-count.ensures) c.if-count-gt-REC_LIMIT.false)
    c.in-Err-Refused.ensures.fault c.in-Err-Refused.field-0-is

pub loop-number-init : goal.loop-number-init
loop-number-init c =
    let opened = c.in-Ok.ensures in
    listing-begins c.args.launch.now c.args.config c.args.placed.now c.in-Ok.draft (rw (← c.recs-count.ensures) c.if-count-gt-REC_LIMIT.false)
    opened.launch opened.config opened.placed opened.entries opened.progress opened.pool opened.spans

pub step-requires-clause-items : goal.step-requires-clause-items
step-requires-clause-items c = rw c.loop-number.invariant.placed (are-listable c.args.launch.now c.args.placed.now c.steps-step-items.ensures.kept c.requires)

pub returns-in-Err-clause-reason : goal.returns-in-Err-clause-reason
returns-in-Err-clause-reason c =
    let same = c.steps-step-items.ensures.value in
    let n = c.loop-number.number in
    let steps = c.steps-step-items.result.now in
    listing-refused c.args.launch.now c.args.config c.args.placed.now c.loop-number.draft n (slice_index_or steps n (Ram 0)) c.in-Err.fault _
    c.loop-number.invariant (rw (← same) (drop-at steps n (Ram 0) c.loop-number-test.true))
    (rw (← same) (slice_get-get_or steps n (Ram 0) c.loop-number-test.true)) c.in-Err.ensures c.in_ok-reason.ensures.own

pub loop-number-preserved : goal.loop-number-preserved
loop-number-preserved c =
    let same = c.steps-step-items.ensures.value in
    let n = c.loop-number.number in
    let steps = c.steps-step-items.result.now in
    listing-goes-on c.args.launch.now c.args.config c.args.placed.now c.loop-number.draft c.step.new.self n (slice_index_or steps n (Ram 0))
    c.loop-number.invariant (rw (← same) (drop-at steps n (Ram 0) c.loop-number-test.true))
    (rw (← same) (rw add-one (take-suc steps n (Ram 0) c.loop-number-test.true))) c.in_default.ensures

pub returns-clause-whole : goal.returns-clause-whole
returns-clause-whole c =
    listing-ends c.args.launch.now c.args.config c.args.placed.now c.loop-number.draft c.push.new.self c.loop-number.number
    (rw (← c.recs-count.ensures) c.if-count-gt-REC_LIMIT.false) c.loop-number.invariant
    (rw (← c.steps-step-items.ensures.value) (drop_all c.loop-number.number c.steps-step-items.result.now c.loop-number-test.false)) c.in_ok-push.ensures

pub returns-clause-own : goal.returns-clause-own
returns-clause-own c =
    let grows = c.in_ok-push.ensures in
    (ap (λ (l : _). l.now) grows.launch ∙ c.loop-number.invariant.launch, grows.config ∙ c.loop-number.invariant.config)
