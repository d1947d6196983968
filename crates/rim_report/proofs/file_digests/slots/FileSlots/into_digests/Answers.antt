use Rattle.std.proofs.Common.{◌∙◌, List, Option, ℕ, ap, map, subst, sym}
use Rattle.sha2.specs.Sha256.{sha256}
use Rattle.rim_report.specs.inside.Slots.{AreSlotsOf}
use Rattle.rim_report.proofs.file_digests.slots.FileSlots.into_digests.Goals as goal

pub all_digests-requires-clause-own : goal.all_digests-requires-clause-own
all_digests-requires-clause-own g c =
    let i = c.self.inside in
    let slots = c.deref.result.now in
    subst (λ (files : List (List ℕ)). AreSlotsOf files slots) (sym c.self.invariant.0)
    (subst (λ (os : List (Option (List ℕ))). AreSlotsOf g.L.FilesOfRun.files os) (sym c.deref.ensures.value) c.self.invariant.1)

pub returns : goal.returns
returns g c = c.all_digests.ensures ∙ ap (map sha256) c.self.invariant.0
