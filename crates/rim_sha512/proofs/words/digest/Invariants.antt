use Rattle.std.proofs.Common.{◌≡◌, ◌*◌, length, take}
use Rattle.sha2.specs.Sha512.{digest_bytes}
use Rattle.rim_sha512.proofs.words.digest.Given as goal

abbrev pub invariant-words : goal.invariant-words
invariant-words l = (length l.out ≡ 64) × (take (8 * l.i) l.out ≡ digest_bytes l.hash l.i)
