use Rattle.std.proofs.Common.{rules}
use Rattle.arm64_image.proofs.Header.load_offset.Goals as goal

pub returns-then-self-eq0 : goal.returns-then-self-eq0
returns-then-self-eq0 c = search rules

pub returns-else-self-eq0 : goal.returns-else-self-eq0
returns-else-self-eq0 c = search rules
