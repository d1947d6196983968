use Rattle.rim_desc.proofs.PageBytesByPlace.{page_bytes-at}
use Rattle.rim_desc.proofs.laws.page_bytes_at.Goals as goal

pub returns : goal.returns
returns c = page_bytes-at
