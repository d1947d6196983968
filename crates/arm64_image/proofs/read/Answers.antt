use Rattle.std.proofs.Common.{rules}
use Rattle.arm64_image.proofs.read.Goals as goal

pub returns-then-bytes-lt-HEADER_LEN : goal.returns-then-bytes-lt-HEADER_LEN
returns-then-bytes-lt-HEADER_LEN c = search rules

pub returns-then-word-ne-MAGIC : goal.returns-then-word-ne-MAGIC
returns-then-word-ne-MAGIC c = search rules

pub returns : goal.returns
returns c = search rules
