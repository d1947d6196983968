use Rattle.std.proofs.Common.{rules, ◌≡◌, List, ℕ, ◌++◌, map, ap, ◌∙◌}
use Rattle.std.proofs.lemmas.Simd.{map-map}
use Rattle.sha2.specs.Sha256.{sha256}
use Rattle.rim_desc.specs.Page.{zeros}
use Rattle.rim_desc.proofs.side_by_side.extend_by_sha256.Goals as goal

pub returns-in-Ok : goal.returns-in-Ok
returns-in-Ok c =
    let same : c.in-Ok.eight.now ≡ c.args.descriptors.now = search rules in
    rw same at (c.put_sha256.ensures ∙ ap (map (λ (d : List ℕ). d ++ zeros 32)) c.sha256_eight_descriptors.ensures
    ∙ map-map (λ (d : List ℕ). d ++ zeros 32) sha256 c.in-Ok.eight.now)
