use Rattle.rim_replay.proofs.TrueListings.{true-listing}
use Rattle.rim_replay.proofs.laws.a_true_listing_is_confirmed.Goals as goal

pub returns : goal.returns
returns c = true-listing
