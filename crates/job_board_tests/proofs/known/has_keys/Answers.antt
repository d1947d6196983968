use Rattle.std.proofs.Common.{arith, length, subst, sym}
use Rattle.std.specs.List.{Contains}
use Rattle.std.proofs.lemmas.List.Elements.{All-from_all_within, AllWithin-more, AllWithin-upto}
use Rattle.std.proofs.lemmas.Option.{get_or_from_slice_get, slice_get_within}
use Rattle.page_jobs.specs.Table.{page_keys_of as page_keys}
use Rattle.launch_plan.specs.Links.{keys_of}
use Rattle.job_board_tests.proofs.known.has_keys.Goals as goal

pub loop-index-preserved : goal.loop-index-preserved
loop-index-preserved c =
    let keys = keys_of c.args.plan.now.links in
    let has = Contains (page_keys c.args.table.now.pages) in
    let here = c.has_key.ensures.0 c.if-not-has_key.false in
    AllWithin-more has keys 0 c.loop-index.index c.loop-index.invariant (λ d. subst has (sym (get_or_from_slice_get keys c.loop-index.index c.key.result d (sym c.key.ensures))) here)

pub returns : goal.returns
returns c =
    let keys = keys_of c.args.plan.now.links in
    let has = Contains (page_keys c.args.table.now.pages) in
    (λ yes. All-from_all_within has keys (AllWithin-upto has keys 0 c.loop-index.index (length keys) (omega (arith, c.loop-index-test.false, c.pages-index-end.ensures)) c.loop-index.invariant), λ all. cc)

pub returns-then-not-has_key : goal.returns-then-not-has_key
returns-then-not-has_key c =
    let keys = keys_of c.args.plan.now.links in
    let has = Contains (page_keys c.args.table.now.pages) in (
      λ yes. absurd (cc),
      λ all.
          let at = sym c.key.ensures in
          let here = subst has (get_or_from_slice_get keys c.loop-index.index c.key.result c.key.result at) (all c.loop-index.index c.key.result (slice_get_within keys c.loop-index.index c.key.result at)) in
          let yes = c.has_key.ensures.1 here in
          absurd (cc),
    )
