-- tools/checks/widths.py makes this text from that for SHA-256.
use Rattle.std.proofs.Common.{◌≡◌, ℕ, List, ◌*◌, ◌/◌, length, take, drop, sym, ap, ◌∙◌, arith}
use Rattle.sha2.specs.Sha512.{compress, hash_after, initial_hash_512, padding}
use Rattle.sha_lanes.specs.inside.Lanes.{lane, message}
use Rattle.rim_sha512.proofs.MessageHashes.{hash_next, hash_padded}
use Rattle.rim_sha512.proofs.lanes.messages.final_hashes.Goals as goal

pub each-init : goal.each-init
unfolding hash_after
each-init g c j low = c.initial-state.ensures j low

pub each-preserved : goal.each-preserved
each-preserved g c j low =
    let i = c.each.i in
    let m = message c.args.messages.now j in
    c.compress.ensures j _ low (c.load.ensures j low)
    ∙ ap (λ (h : List ℕ). compress h (take 128 (drop (128 * i) m))) (c.each.invariant j low)
    ∙ hash_next initial_hash_512 m i

pub returns : goal.returns
returns g c j low =
    let m = message c.args.messages.now j in
    let size : length m ≡ c.args.size = c.requires.size j low in
    let done : c.each.i ≡ length m / 128 = omega arith in
    let pad : c.padding.result ≡ padding (length m) = c.padding.ensures ∙ ap padding (sym size) in
    c.compress-2.ensures j _ low (c.load_same.ensures j low)
    ∙ ap (compress (lane j c.each.state)) pad
    ∙ ap (λ (h : List ℕ). compress h (padding (length m))) (rw done at (c.each.invariant j low))
    ∙ hash_padded initial_hash_512 m (omega arith)
