use Rattle.std.proofs.Common.{◌≡◌, None, length, replicate, rules, sym}
use Rattle.std.proofs.lemmas.List.{length-map}
use Rattle.ipa_layout.specs.Files.{bytes_of_files}
use Rattle.rim_report.proofs.DigestsInSlots.{slots-empty}
use Rattle.rim_report.proofs.file_digests.slots.digests_alone.Goals as goal

pub all_digests-requires-clause-own : goal.all_digests-requires-clause-own
all_digests-requires-clause-own c =
    let files = c.args.files.now in
    let empty : c.in_ok-slots.slots.items ≡ replicate (length files) None = search rules in
    rw c.deref.ensures.value (slots-empty (bytes_of_files files) c.in_ok-slots.slots.items (length files) empty (sym (length-map files (λ f. f.items))))
