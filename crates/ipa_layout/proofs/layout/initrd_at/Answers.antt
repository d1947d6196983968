use Rattle.std.proofs.Common.{length, sym}
use Rattle.rim_launch.specs.declared.item.Role.TheVariants as role
use Rattle.rim_launch.specs.Kinds.{has_role}
use Rattle.ipa_layout.proofs.FilesOfItems.{found-file}
use Rattle.ipa_layout.proofs.layout.initrd_at.Goals as goal

pub initrd_span-requires : goal.initrd_span-requires
initrd_span-requires c = found-file c.args.launch.now (length c.args.files.now) (has_role role.Initrd) c.in_ok-item.item.now c.requires (sym c.in_ok-item.ensures)
