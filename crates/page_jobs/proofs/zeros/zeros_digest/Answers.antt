use Rattle.std.proofs.Common.{◌∙◌, ◌++◌, List, ℕ, ap, sym}
use Rattle.rim_desc.specs.Page.{zeros}
use Rattle.page_jobs.proofs.DigestsOfZeros.{sha256-of-zeros, sha512-of-zeros}
use Rattle.page_jobs.proofs.zeros.zeros_digest.Goals as goal

pub returns-in-Sha256 : goal.returns-in-Sha256
unfolding zeros
returns-in-Sha256 c = rw (c.in-Sha256.is) (c.of_sha256.ensures ∙ ap (λ (d : List ℕ). d ++ zeros 32) (sym sha256-of-zeros))

pub returns-in-Sha512 : goal.returns-in-Sha512
unfolding zeros
returns-in-Sha512 c = rw (c.in-Sha512.is) (sym sha512-of-zeros)
