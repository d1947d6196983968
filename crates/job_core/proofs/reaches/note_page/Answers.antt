use Rattle.std.proofs.Common.{get_or, sym}
use Rattle.std.proofs.lemmas.Option.{same_Some, none-some}
use Rattle.job_core.specs.declared.reaches.Cursor.{Cursor}
use Rattle.job_core.proofs.ReachesAfterPuts.{put_here, put_none, put_one}
use Rattle.job_core.proofs.reaches.note_page.Goals as goal

abbrev start : Cursor
start = record { done = 0; met = 0 }

pub returns-in_default-clause-waits : goal.returns-in_default-clause-waits
returns-in_default-clause-waits c = put_none c.args.pages.now c.args.page c.args.groups.now c.args.cursors.now c.args.left.now c.requires.put (λ k g at in_it. none-some k (c.in_default.ensures.own k g at in_it))

pub done_to-done-requires-clause-pages : goal.done_to-done-requires-clause-pages
done_to-done-requires-clause-pages c =
    let here = put_here c.args.pages.now c.args.page c.args.groups.now c.args.cursors.now c.args.left.now c.requires.put c.in-Some.number c.index-groups-number.result start c.in-Some.ensures.there c.index-groups-number.is in
    here.is.within

pub done_to-done-requires-clause-from : goal.done_to-done-requires-clause-from
done_to-done-requires-clause-from c =
    let here = put_here c.args.pages.now c.args.page c.args.groups.now c.args.cursors.now c.args.left.now c.requires.put c.in-Some.number c.index-groups-number.result start c.in-Some.ensures.there c.index-groups-number.is in
    here.at.within

pub meet-met-requires-clause-from : goal.meet-met-requires-clause-from
meet-met-requires-clause-from c =
    let here = put_here c.args.pages.now c.args.page c.args.groups.now c.args.cursors.now c.args.left.now c.requires.put c.in-Some.number c.index-groups-number.result start c.in-Some.ensures.there c.index-groups-number.is in
    rw c.deref.ensures.value here.at.some

pub meet-met-requires-clause-named : goal.meet-met-requires-clause-named
meet-met-requires-clause-named c =
    let here = put_here c.args.pages.now c.args.page c.args.groups.now c.args.cursors.now c.args.left.now c.requires.put c.in-Some.number c.index-groups-number.result start c.in-Some.ensures.there c.index-groups-number.is in
    rw c.deref.ensures.value (λ k q at. (here.is.named k q at).0)

pub meet-met-requires-clause-counted : goal.meet-met-requires-clause-counted
meet-met-requires-clause-counted c =
    let here = put_here c.args.pages.now c.args.page c.args.groups.now c.args.cursors.now c.args.left.now c.requires.put c.in-Some.number c.index-groups-number.result start c.in-Some.ensures.there c.index-groups-number.is in
    rw c.deref.ensures.value here.counted

pub meet-met-requires-clause-rising : goal.meet-met-requires-clause-rising
meet-met-requires-clause-rising c =
    let here = put_here c.args.pages.now c.args.page c.args.groups.now c.args.cursors.now c.args.left.now c.requires.put c.in-Some.number c.index-groups-number.result start c.in-Some.ensures.there c.index-groups-number.is in
    rw c.deref.ensures.value here.is.rising

pub returns-clause-waits : goal.returns-clause-waits
returns-clause-waits c =
    let g = c.index-groups-number.result in
    let here = put_here c.args.pages.now c.args.page c.args.groups.now c.args.cursors.now c.args.left.now c.requires.put c.in-Some.number g start c.in-Some.ensures.there c.index-groups-number.is in
    let met = rw c.deref.ensures.value at c.meet-met.ensures in
    put_one c.args.pages.now c.args.page c.args.groups.now c.args.cursors.now c.args.left.now c.meet-met.new.left c.requires.put c.in-Some.number g (get_or c.args.cursors.now c.in-Some.number start) c.done_to-done.result c.meet-met.result here
    (λ k u at in_it. same_Some k c.in-Some.number (sym (c.in-Some.ensures.own k u at in_it)))
    c.done_to-done.ensures.within c.done_to-done.ensures.done c.done_to-done.ensures.stops met.within met.met met.open c.meet-met.auto.left met.left
