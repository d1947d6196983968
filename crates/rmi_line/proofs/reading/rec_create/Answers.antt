use Rattle.std.proofs.Common.{◌≡◌, ◌++◌, [], ◌∷◌, ℕ, arith, codes, decimal, length, map, refl, subst}
use Rattle.std.proofs.lemmas.List.{append-nil, length-take}
use Rattle.rim_desc.specs.Number.{digits_of}
use Rattle.rim_desc.specs.declared.command.Command.{Command}
use Rattle.rim_desc.specs.declared.command.Command.TheVariants.{RecCreate}
use Rattle.rmi_line.specs.Line.{rec_words, words_of}
use Rattle.rmi_line.specs.Typed.{IsTyped}
use Rattle.rmi_line.specs.inside.Left.{AreLeft}
use Rattle.rmi_line.proofs.LineWordByWord.{line_from}
use Rattle.rmi_line.proofs.ReadNamed.{left_named, other_name, read_named}
use Rattle.rmi_line.proofs.TakenWords.{same_number}
use Rattle.rmi_line.proofs.reading.rec_create.Goals as goal

pub returns : goal.returns
returns c =
    read_named (codes "rec_create") _ _ c.new-words.result c.addresses-2.new.self (RecCreate c.address-rec.result c.new-params.result) c.end.result
    refl c.new-words.ensures c.end.ensures found only
  where
    found : AreLeft c.addresses-2.new.self [] → AreLeft c.new-words.result (digits_of c.address-rec.result ∷ rec_words c.new-params.result)
    found left =
        let aux = map digits_of c.addresses-2.new.places in
        let size : c.count.result ≡ length c.addresses-2.new.places = omega (arith, length-take {A = ℕ}) in
        let left = c.count.ensures.taken.found aux (rw (append-nil aux) at (c.addresses-2.ensures.found [] left)) in
        let left = c.addresses.ensures.found _ (subst (λ n. AreLeft c.addresses.new.self (decimal n ∷ aux)) size left) in
        rw c.new-params.ensures (c.address-rec.ensures.found _ (c.address-flags.ensures.found _ (c.address-mpidr.ensures.found _ (c.address-pc.ensures.found _ left))))

    only : (other : Command) → IsTyped other → codes "rec_create" ++ c.args.rest.now ≡ line_from (words_of other) → AreLeft c.addresses-2.new.self []
    only (RecCreate rec r) (rec_fits, fit) same =
        let left = left_named (codes "rec_create") _ _ _ c.new-words.ensures same in
        let left = c.address-rec.ensures.only rec _ rec_fits left in
        let left = c.address-flags.ensures.only r.flags _ fit.flags left in
        let left = c.address-mpidr.ensures.only r.mpidr _ fit.mpidr left in
        let left = c.address-pc.ensures.only r.pc _ fit.pc left in
        let before = c.addresses.ensures.only r.gprs (decimal (length r.aux) ∷ map digits_of r.aux) fit.gprs left in
        let left = c.count.ensures.taken.only (length r.aux) (map digits_of r.aux) fit.aux.0 before in
        let size = same_number c.addresses.new.self (length r.aux) c.count.result (map digits_of r.aux) (omega (arith, fit.aux.0)) (omega arith)
        before (c.count.ensures.taken.found (map digits_of r.aux) left) in
        c.addresses-2.ensures.only r.aux [] (omega (arith, size, length-take {A = ℕ}), fit.aux.1) (rw (append-nil (map digits_of r.aux)) left)
    only other fit same = other_name _ _ same refl
