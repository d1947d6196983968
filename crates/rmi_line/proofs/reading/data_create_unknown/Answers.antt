use Rattle.std.proofs.Common.{◌≡◌, ◌++◌, [], codes, refl}
use Rattle.rim_desc.specs.declared.command.Command.{Command}
use Rattle.rim_desc.specs.declared.command.Command.TheVariants.{DataCreateUnknown}
use Rattle.rmi_line.specs.Line.{words_of}
use Rattle.rmi_line.specs.Typed.{IsTyped}
use Rattle.rmi_line.specs.inside.Left.{AreLeft}
use Rattle.rmi_line.proofs.LineWordByWord.{line_from}
use Rattle.rmi_line.proofs.ReadNamed.{left_named, other_name, read_named}
use Rattle.rmi_line.proofs.reading.data_create_unknown.Goals as goal

pub returns : goal.returns
returns c =
    read_named (codes "data_unknown") _ _ c.new-words.result c.address-ipa.new.self (DataCreateUnknown _ _) c.end.result refl c.new-words.ensures c.end.ensures
    (λ left. c.address-granule.ensures.found _ (c.address-ipa.ensures.found _ left)) only
  where
    only : (other : Command) → IsTyped other → codes "data_unknown" ++ c.args.rest.now ≡ line_from (words_of other) → AreLeft c.address-ipa.new.self []
    only (DataCreateUnknown granule ipa) (granule_fits, ipa_fits) same =
        let left = left_named (codes "data_unknown") _ _ _ c.new-words.ensures same in
        let left = c.address-granule.ensures.only granule _ granule_fits left in
        c.address-ipa.ensures.only ipa _ ipa_fits left
    only other fit same = other_name _ _ same refl
