-- tools/checks/widths.py makes this text from that for SHA-256.
use Rattle.sha2.specs.Sha512.{add64}
use Rattle.sha_lanes.proofs.LaneByLane.{both, itself, splat}
use Rattle.rim_sha512.proofs.vectors.temp1.Goals as goal

pub returns : goal.returns
returns g c =
    let h = itself c.args.h c.fits-h.0 in
    let word = itself c.args.word c.fits-word.0 in
    both add64 _ _ _ _ (both add64 _ _ _ _ (both add64 _ _ _ _ (both add64 _ _ _ _ h c.big_sigma1.ensures) c.ch.ensures) (splat c.args.k)) word
