use Rattle.std.proofs.Common.{refl, ap, ◌∙◌}
use Rattle.sha2.specs.Sha512.{add_state, compress, rounds}
use Rattle.rim_sha512.proofs.rounds.compress_sums.Goals as goal

pub returns : goal.returns
unfolding compress rounds
returns c b known =
    let h = c.args.state.now in
    let s1 = c.eight_steps-v.ensures b h known refl in
    let s2 = c.eight_steps-v-2.ensures b h known s1 in
    let s3 = c.eight_steps-v-3.ensures b h known s2 in
    let s4 = c.eight_steps-v-4.ensures b h known s3 in
    let s5 = c.eight_steps-v-5.ensures b h known s4 in
    let s6 = c.eight_steps-v-6.ensures b h known s5 in
    let s7 = c.eight_steps-v-7.ensures b h known s6 in
    let s8 = c.eight_steps-v-8.ensures b h known s7 in
    let s9 = c.eight_steps-v-9.ensures b h known s8 in
    let s10 = c.eight_steps-v-10.ensures b h known s9 in
    c.added.ensures ∙ ap (add_state h) s10
