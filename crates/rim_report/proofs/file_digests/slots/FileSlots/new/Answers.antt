use Rattle.std.proofs.Common.{◌≡◌, ◌∙◌, None, ap, arith, length, replicate, rules, sym}
use Rattle.std.proofs.lemmas.List.{length-map}
use Rattle.rim_report.proofs.DigestsInSlots.{slots-empty}
use Rattle.rim_report.proofs.file_digests.slots.FileSlots.new.Goals as goal

pub invariant_of-result : goal.invariant_of-result
invariant_of-result g c =
    let files = c.args.files.now in
    let empty : c.in_ok-slots.slots.items ≡ replicate (length files) None = search rules in
    let count : length files ≡ length g.L.FilesOfRun.files = sym (length-map files (λ f. f.items)) ∙ ap length c.requires in (
      c.requires,
      slots-empty g.L.FilesOfRun.files c.in_ok-slots.slots.items (length files) empty count,
      c.in_ok-digests.ensures.items,
      omega (arith, c.in_ok-digests.ensures.exact),
    )
