use Rattle.std.proofs.Common.{◌∙◌, ◌<◌, ap, arith, length, refl}
use Rattle.std.proofs.lemmas.List.{length-map}
use Rattle.sha2.specs.Sha256.{sha256}
use Rattle.ipa_layout.specs.Files.{bytes_of_files}
use Rattle.rim_report.proofs.DigestsInSlots.{digest-made, file-own, slot-read}
use Rattle.rim_report.proofs.file_digests.slots.digest_at.Goals as goal

pub bounds-slots-number : goal.bounds-slots-number
bounds-slots-number c =
    let files = bytes_of_files c.args.files.now in
    omega (arith, c.requires.own.size, c.requires.number, length-map c.args.files.now (λ f. f.items))

pub returns-in-Some : goal.returns-in-Some
returns-in-Some c =
    let files = bytes_of_files c.args.files.now in
    let low : c.args.number < length files = omega (arith, c.requires.number, length-map c.args.files.now (λ f. f.items)) in
    slot-read files c.args.slots.now c.args.number c.in-Some.digest c.requires.own low c.in-Some.is

pub returns-in-None : goal.returns-in-None
returns-in-None c =
    let files = bytes_of_files c.args.files.now in
    let file = c.index-files-number.result in
    digest-made files c.args.number file.items c.digest.result
    (file-own c.args.files.now files c.args.number file refl c.requires.number c.index-files-number.is)
    (c.digest.ensures ∙ ap sha256 c.as_slice.ensures.value)
