use Rattle.std.proofs.Common.{◌≡◌, ◌++◌, [], codes, refl}
use Rattle.rim_desc.specs.declared.command.Command.{Command}
use Rattle.rim_desc.specs.declared.command.Command.TheVariants.{Delegate}
use Rattle.rmi_line.specs.Line.{words_of}
use Rattle.rmi_line.specs.Typed.{IsTyped}
use Rattle.rmi_line.specs.inside.Left.{AreLeft}
use Rattle.rmi_line.proofs.LineWordByWord.{line_from}
use Rattle.rmi_line.proofs.ReadNamed.{left_named, other_name, read_named}
use Rattle.rmi_line.proofs.reading.delegate.Goals as goal

pub returns : goal.returns
returns c =
    read_named (codes "delegate") _ _ c.new-words.result c.address-granule.new.self (Delegate _) c.end.result refl c.new-words.ensures c.end.ensures
    (λ left. c.address-granule.ensures.found _ left) only
  where
    only : (other : Command) → IsTyped other → codes "delegate" ++ c.args.rest.now ≡ line_from (words_of other) → AreLeft c.address-granule.new.self []
    only (Delegate granule) fit same =
        let left = left_named (codes "delegate") _ _ _ c.new-words.ensures same in
        c.address-granule.ensures.only granule _ fit left
    only other fit same = other_name _ _ same refl
