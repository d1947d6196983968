use Rattle.sha2.specs.Sha256.{add32}
use Rattle.sha_lanes.proofs.LaneByLane.{both, itself, splat}
use Rattle.rim_sha256.proofs.vectors.temp1.Goals as goal

pub returns : goal.returns
returns g c =
    let h = itself c.args.h c.fits-h.0 in
    let word = itself c.args.word c.fits-word.0 in
    both add32 _ _ _ _ (both add32 _ _ _ _ (both add32 _ _ _ _ (both add32 _ _ _ _ h c.big_sigma1.ensures) c.ch.ensures) (splat c.args.k)) word
