use Rattle.rim_desc.specs.Page.{zeros}
use Rattle.rim_desc.proofs.BytesBesideFields.{length-zeros, get_or-zeros, zero_beside}
use Rattle.rim_desc.proofs.laws.zero_elsewhere.Goals as goal

pub returns : goal.returns
returns c = λ n k fs fit listed. zero_beside fs (zeros n) n k (length-zeros n) (get_or-zeros n k) fit listed
