use Rattle.std.proofs.Common.{length, sym}
use Rattle.rim_launch.specs.Kinds.{has_edits}
use Rattle.ipa_layout.proofs.FilesOfItems.{found-file}
use Rattle.ipa_layout.proofs.layout.prepare_dtb.Goals as goal

pub file_bytes-requires : goal.file_bytes-requires
file_bytes-requires c = found-file c.args.launch.now (length c.args.files.now) (λ i. has_edits i.kind) c.in-Some.item.now c.requires (sym c.in-Some.ensures)
