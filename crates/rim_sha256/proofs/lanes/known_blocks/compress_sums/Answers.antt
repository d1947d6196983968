use Rattle.std.proofs.Common.{◌≡◌, refl, ap, ◌*◌, ◌∙◌, arith}
use Rattle.sha2.specs.Sha256.{add_state, compress, rounds, schedule}
use Rattle.sha_lanes.specs.inside.Lanes.{lane}
use Rattle.rim_sha256.proofs.lanes.known_blocks.compress_sums.Goals as goal

pub turns-init : goal.turns-init
unfolding rounds
turns-init g c j b low known = refl

pub turns-preserved : goal.turns-preserved
turns-preserved g c j b low known =
    let h = lane j c.args.state.now in
    let after = rounds h (schedule b 48) in
    let s1 = c.four_steps-v.ensures j b h low known (c.turns.invariant j b low known) in
    c.four_steps-v-in-turns.ensures j b h low known s1 ∙ ap after (omega arith)

pub returns : goal.returns
unfolding compress
returns g c j b low known =
    let done : 8 * c.turns.turn ≡ 64 = omega arith in
    c.added.ensures j low ∙ ap (add_state (lane j c.args.state.now)) (rw done at (c.turns.invariant j b low known))
