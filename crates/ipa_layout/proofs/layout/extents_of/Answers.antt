use Rattle.std.proofs.Common.{◌+◌, List, Ok, ap, sym, ◌∙◌, drop, length, arith}
use Rattle.std.proofs.lemmas.List.{append-nil, drop_all}
use Rattle.refusal.specs.Answer.{with_front}
use Rattle.rim_launch.specs.declared.item.Item.{Item}
use Rattle.ipa_layout.specs.declared.extent.Extent.{Extent}
use Rattle.ipa_layout.specs.Layout.{extents_of}
use Rattle.ipa_layout.specs.inside.LayoutViews.{seen}
use Rattle.ipa_layout.specs.Files.{bytes_of_files}
use Rattle.ipa_layout.proofs.ExtentsInTurn.{falls, next_item, stands, with_none}
use Rattle.ipa_layout.proofs.FilesOfItems.{all-files}
use Rattle.ipa_layout.proofs.layout.extents_of.Goals as goal

pub loop-number-init : goal.loop-number-init
loop-number-init c =
    let items = c.items-item-items.ensures.value in
    let l = c.args.launch.now in
    let stood = extents_of l.ram (seen c.args.dtb.now) (bytes_of_files c.args.files.now) 0 0 in
    record { items = items; few = omega arith; exact = rw c.in_ok-extents.ensures.items (with_none (stood c.items-item-items.result.now)) ∙ ap stood items }

pub extent_after-requires : goal.extent_after-requires
extent_after-requires c =
    all-files c.args.launch.now (length c.args.files.now) c.loop-number.number c.item-item.result c.requires
    (rw (sym c.items-item-items.ensures.value) c.loop-number-test.true) (rw (sym c.items-item-items.ensures.value) c.item-item.is)

pub returns-in-Err : goal.returns-in-Err
returns-in-Err c =
    let l = c.args.launch.now in
    let items = c.items-item-items.result.now in
    let n = c.loop-number.number in
    let stood = extents_of l.ram (seen c.args.dtb.now) (bytes_of_files c.args.files.now) n c.loop-number.pages in
    let here = next_item items n c.item-item.result c.loop-number-test.true c.item-item.is in
    let refused = rw c.ram.ensures.value at c.in-Err.ensures.exact in
    sym c.loop-number.invariant.exact ∙ ap (λ (xs : List Item). with_front c.loop-number.extents.items (stood xs)) here
    ∙ falls l.ram (seen c.args.dtb.now) (bytes_of_files c.args.files.now) n c.loop-number.pages c.loop-number.extents.items c.item-item.result (drop (n + 1) items) c.in-Err.reason (sym refused)

pub loop-number-preserved : goal.loop-number-preserved
loop-number-preserved c =
    let l = c.args.launch.now in
    let items = c.items-item-items.result.now in
    let n = c.loop-number.number in
    let stood = extents_of l.ram (seen c.args.dtb.now) (bytes_of_files c.args.files.now) n c.loop-number.pages in
    let here = next_item items n c.item-item.result c.loop-number-test.true c.item-item.is in
    let placed = rw c.ram.ensures.value at c.in-Ok.ensures.exact in
    let on = stands l.ram (seen c.args.dtb.now) (bytes_of_files c.args.files.now) n c.loop-number.pages c.loop-number.extents.items c.item-item.result (drop (n + 1) items) c.in-Ok.extent (sym placed) in
    record {
      items = c.loop-number.invariant.items;
      few = omega (arith, c.in-Ok.ensures.within, c.page_count-pages.ensures);
      exact = rw (c.in_ok-push.ensures.items, c.page_count-pages.ensures)
          (sym on ∙ ap (λ (xs : List Item). with_front c.loop-number.extents.items (stood xs)) (sym here) ∙ c.loop-number.invariant.exact);
    }

pub returns : goal.returns
returns c =
    let l = c.args.launch.now in
    let stood = extents_of l.ram (seen c.args.dtb.now) (bytes_of_files c.args.files.now) c.loop-number.number c.loop-number.pages in
    let end = drop_all c.loop-number.number c.items-item-items.result.now c.loop-number-test.false in
    sym c.loop-number.invariant.exact ∙ ap (λ (xs : List Item). with_front c.loop-number.extents.items (stood xs)) end ∙ ap (λ (xs : List Extent). Ok xs) (append-nil c.loop-number.extents.items)
