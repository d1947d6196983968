-- What the program's edits are. This project's choice.
use Rattle.std.specs.Prelude.{option_map}
use Rattle.ipa_layout.specs.declared.dtb_edit.DtbEdits.{DtbEdits}
use Rattle.ipa_layout.specs.DtbEdit.{EditData}

abbrev pub edit_data : DtbEdits → EditData
edit_data c = record { bootargs = option_map (λ b. b.now) c.bootargs; initrd = c.initrd; memory = c.memory }
