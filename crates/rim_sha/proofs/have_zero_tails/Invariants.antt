use Rattle.std.proofs.Common.{◌≡◌, ◌++◌, take, replicate}
use Rattle.std.specs.List.{AllWithin}
use Rattle.rim_sha.proofs.have_zero_tails.Given as goal

abbrev pub invariant-loop-descriptor : goal.invariant-loop-descriptor
invariant-loop-descriptor l = AllWithin (λ d. d ≡ take 128 d ++ replicate 128 0) l.descriptors 0 l.descriptor-index
