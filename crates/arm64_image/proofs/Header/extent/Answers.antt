use Rattle.std.proofs.Common.{rules}
use Rattle.arm64_image.proofs.Header.extent.Goals as goal

pub returns : goal.returns
returns c = search rules
