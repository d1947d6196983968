use Rattle.std.proofs.Common.{◌≡◌, ◌++◌, [], codes, refl}
use Rattle.rim_desc.specs.declared.command.Command.{Command}
use Rattle.rim_desc.specs.declared.command.Command.TheVariants.{RttCreate}
use Rattle.rmi_line.specs.Line.{words_of}
use Rattle.rmi_line.specs.Typed.{IsTyped}
use Rattle.rmi_line.specs.inside.Left.{AreLeft}
use Rattle.rmi_line.proofs.LineWordByWord.{line_from}
use Rattle.rmi_line.proofs.ReadNamed.{left_named, other_name, read_named}
use Rattle.rmi_line.proofs.reading.rtt_create.Goals as goal

pub returns : goal.returns
returns c =
    read_named (codes "rtt_create") _ _ c.new-words.result c.number-level.new.self (RttCreate _ _ _) c.end.result refl c.new-words.ensures c.end.ensures
    (λ left. c.address-rtt.ensures.found _ (c.address-ipa.ensures.found _ (c.number-level.ensures.found _ left))) only
  where
    only : (other : Command) → IsTyped other → codes "rtt_create" ++ c.args.rest.now ≡ line_from (words_of other) → AreLeft c.number-level.new.self []
    only (RttCreate rtt ipa level) (rtt_fits, ipa_fits, fit) same =
        let left = left_named (codes "rtt_create") _ _ _ c.new-words.ensures same in
        let left = c.address-rtt.ensures.only rtt _ rtt_fits left in
        let left = c.address-ipa.ensures.only ipa _ ipa_fits left in
        c.number-level.ensures.only level _ fit left
    only other fit same = other_name _ _ same refl
