use Rattle.std.proofs.Common.{◌≡◌, ◌++◌, [], codes, refl}
use Rattle.rim_desc.specs.declared.command.Command.{Command}
use Rattle.rim_desc.specs.declared.command.Command.TheVariants.{DataCreate}
use Rattle.std.proofs.lemmas.List.{append-nil}
use Rattle.rmi_line.specs.Line.{content_words, words_of}
use Rattle.rmi_line.specs.Typed.{IsTyped}
use Rattle.rmi_line.specs.inside.Left.{AreLeft}
use Rattle.rmi_line.proofs.LineWordByWord.{line_from}
use Rattle.rmi_line.proofs.ReadNamed.{left_named, other_name, read_named}
use Rattle.rmi_line.proofs.reading.data_create.Goals as goal

pub returns : goal.returns
returns c =
    read_named (codes "data_create") _ _ c.new-words.result c.content-content.new.self (DataCreate _ _ _) c.end.result refl c.new-words.ensures c.end.ensures
    (λ left. c.address-granule.ensures.found _ (c.address-ipa.ensures.found _ (rw (append-nil (content_words c.content-content.result)) at (c.content-content.ensures.found [] left)))) only
  where
    only : (other : Command) → IsTyped other → codes "data_create" ++ c.args.rest.now ≡ line_from (words_of other) → AreLeft c.content-content.new.self []
    only (DataCreate granule ipa content) (granule_fits, ipa_fits, fit) same =
        let left = left_named (codes "data_create") _ _ _ c.new-words.ensures same in
        let left = c.address-granule.ensures.only granule _ granule_fits left in
        let left = c.address-ipa.ensures.only ipa _ ipa_fits left in
        c.content-content.ensures.only content [] fit (rw (append-nil (content_words content)) left)
    only other fit same = other_name _ _ same refl
