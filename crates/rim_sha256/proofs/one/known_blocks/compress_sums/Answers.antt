use Rattle.std.proofs.Common.{◌≡◌, refl, ap, ◌*◌, ◌∙◌, arith}
use Rattle.sha2.specs.Sha256.{add_state, compress, rounds, schedule}
use Rattle.rim_sha256.proofs.one.known_blocks.compress_sums.Goals as goal

pub turns-init : goal.turns-init
unfolding rounds
turns-init c b known = refl

pub turns-preserved : goal.turns-preserved
turns-preserved c b known =
    let after = rounds c.args.state.now (schedule b 48) in
    let s1 = c.four_steps-v.ensures b c.args.state.now known (c.turns.invariant b known) in
    c.four_steps-v-in-turns.ensures b c.args.state.now known s1 ∙ ap after (omega arith)

pub returns : goal.returns
unfolding compress
returns c b known =
    let done : 8 * c.turns.turn ≡ 64 = omega arith in
    c.added.ensures ∙ ap (add_state c.args.state.now) (rw done at (c.turns.invariant b known))
