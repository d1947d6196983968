-- Files that cannot be read, and what is said of each. This project's choice.
use Rattle.std.specs.Prelude.{◌≡◌, ◌⊎◌, ◌≤◌, ℕ, List, [], ◌∷◌, length}
use Rattle.shown_text.specs.Lines.{Saying, file_said}
use Rattle.rim_files.specs.declared.fault.Fault.TheVariants.{FileUnreadable, FileTooLarge}
use Rattle.rim_files.specs.Files.{IfFile, IsFileFault, Known}
use Rattle.rim_files.specs.Status.{word_of}
use Rattle.rim_files.specs.declared.file.TheConstants.{FILE_LIMIT}

-- what is said of the file at a path, of which this is known: its path and the word of why it cannot be read, with a hint of which
-- nothing is known
abbrev pub IsUnread : Known → List ℕ → Saying → Type 0
IsUnread known path s = (hint : List ℕ) × (((s ≡ file_said path (word_of FileUnreadable) hint) × IsFileFault known FileUnreadable)
    ⊎ ((s ≡ file_said path (word_of FileTooLarge) hint) × IsFileFault known FileTooLarge))

-- the first saying is why the file at a path cannot be read, and the others follow
pub record IsUnreadFirst (known : Known) (path : List ℕ) (Follows : List Saying → Type 0) (said : List Saying) : Type 0 where
  pub first : Saying
  pub rest : List Saying
  pub split : said ≡ first ∷ rest
  pub unread : IsUnread known path first
  pub follows : Follows rest

-- what is said of the files at these paths that cannot be read, in turn: each other file has at most as many bytes as the limit
abbrev pub AreUnread : (List ℕ → Known) → List (List ℕ) → List Saying → Type 0
AreUnread held [] said = said ≡ []
AreUnread held (path ∷ paths) said = (IfFile (held path) (λ bytes. length bytes ≤ FILE_LIMIT) × AreUnread held paths said)
    ⊎ IsUnreadFirst (held path) path (AreUnread held paths) said
