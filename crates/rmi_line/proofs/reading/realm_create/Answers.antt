use Rattle.std.proofs.Common.{◌≡◌, ◌++◌, [], codes, refl}
use Rattle.rim_desc.specs.declared.command.Command.{Command}
use Rattle.rim_desc.specs.declared.command.Command.TheVariants.{RealmCreate}
use Rattle.rmi_line.specs.Line.{words_of}
use Rattle.rmi_line.specs.Typed.{IsTyped}
use Rattle.rmi_line.specs.inside.Left.{AreLeft}
use Rattle.rmi_line.proofs.LineWordByWord.{line_from}
use Rattle.rmi_line.proofs.ReadNamed.{left_named, other_name, read_named}
use Rattle.rmi_line.proofs.reading.realm_create.Goals as goal

pub returns : goal.returns
returns c =
    read_named (codes "realm_create") _ _ c.new-words.result c.bytes.new.self (RealmCreate _ _) c.end.result refl
    c.new-words.ensures c.end.ensures
    (λ left. c.address-rd.ensures.found _ (c.address.ensures.found _ (c.number.ensures.found _ (c.number-2.ensures.found _
    (c.number-3.ensures.found _ (c.algo.ensures.found _ (c.address-2.ensures.found _ (c.numbers.ensures.found _
    (c.bytes.ensures.found _ left)))))))))
    only
  where
    only : (other : Command) → IsTyped other → codes "realm_create" ++ c.args.rest.now ≡ line_from (words_of other) → AreLeft c.bytes.new.self []
    only (RealmCreate rd p) (rd_fits, fit) same =
        let left = left_named (codes "realm_create") _ _ _ c.new-words.ensures same in
        let left = c.address-rd.ensures.only rd _ rd_fits left in
        let left = c.address.ensures.only p.rtt_base _ fit.rtt_base left in
        let left = c.number.ensures.only p.rtt_level_start _ fit.rtt_level_start left in
        let left = c.number-2.ensures.only p.rtt_num_start _ fit.rtt_num_start left in
        let left = c.number-3.ensures.only p.s2sz _ fit.s2sz left in
        let left = c.algo.ensures.only p.algo _ tt left in
        let left = c.address-2.ensures.only p.flags _ fit.flags left in
        let left = c.numbers.ensures.only p.numbers _ fit.numbers left in
        c.bytes.ensures.only p.rpv _ fit.rpv left
    only other fit same = other_name _ _ same refl
