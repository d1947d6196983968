use Rattle.std.proofs.Common.{◌≡◌, ◌++◌, [], codes, refl}
use Rattle.rim_desc.specs.declared.command.Command.{Command}
use Rattle.rim_desc.specs.declared.command.Command.TheVariants.{InitRipas}
use Rattle.rmi_line.specs.Line.{words_of}
use Rattle.rmi_line.specs.Typed.{IsTyped}
use Rattle.rmi_line.specs.inside.Left.{AreLeft}
use Rattle.rmi_line.proofs.LineWordByWord.{line_from}
use Rattle.rmi_line.proofs.ReadNamed.{left_named, other_name, read_named}
use Rattle.rmi_line.proofs.reading.init_ripas.Goals as goal

pub returns : goal.returns
returns c =
    read_named (codes "init_ripas") _ _ c.new-words.result c.address-top.new.self (InitRipas _ _) c.end.result refl c.new-words.ensures c.end.ensures
    (λ left. c.address-base.ensures.found _ (c.address-top.ensures.found _ left)) only
  where
    only : (other : Command) → IsTyped other → codes "init_ripas" ++ c.args.rest.now ≡ line_from (words_of other) → AreLeft c.address-top.new.self []
    only (InitRipas base top) (base_fits, top_fits) same =
        let left = left_named (codes "init_ripas") _ _ _ c.new-words.ensures same in
        let left = c.address-base.ensures.only base _ base_fits left in
        c.address-top.ensures.only top _ top_fits left
    only other fit same = other_name _ _ same refl
