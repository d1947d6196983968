-- What is known of the pages of a launch before their commands come. This project's choice.
use Rattle.std.specs.Prelude.{◌≡◌, ℕ, ◌+◌, IfSome, Some, slice_get}
use Rattle.rim_desc.specs.declared.measurement.Measurement.{Measurement}
use Rattle.page_jobs.specs.Group.{digests_in}
use Rattle.page_jobs.specs.Page.{PageView, digest_of}
use Rattle.ipa_layout.specs.Files.{bytes_of_files}
use Rattle.rmi_list.specs.Measured.{page_contents}
use Rattle.rim_audit.specs.declared.beside.Beside.{Beside}
use Rattle.rim_audit.specs.declared.beside.Group.{Group}
use Rattle.rim_audit.specs.declared.commands.LaunchCommands.{LaunchCommands}

-- the measurement of a page of the launch's item
abbrev pub content_in : LaunchCommands → ℕ → ℕ → Measurement
content_in c item page = page_contents c.accepted.named.now.launch (bytes_of_files c.accepted.files.now) c.accepted.placed item page

-- whatever is the digest of a page is the measurement of that page of the launch's item
abbrev pub DigestIsContent : LaunchCommands → ℕ → ℕ → PageView → Type 0
DigestIsContent c item page q = (m : Measurement) → m.bytes ≡ digest_of q → m ≡ content_in c item page

-- the measurements of a group are the launch's
abbrev pub IsGroup : LaunchCommands → Group → Type 0
IsGroup c g = (k : ℕ) (m : Measurement) → slice_get (digests_in g.digests) k ≡ Some m → m ≡ content_in c g.item (g.first + k)

-- what is known is of the launch: digests are those of its files' pages, and a group is of its own pages
pub record IsOwn (c : LaunchCommands) (b : Beside) : Type 0 where
  pub known : b.known ≡ bytes_of_files c.accepted.files.now
  pub group : IfSome b.group (IsGroup c)
