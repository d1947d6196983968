-- Files that were opened to be read at once. This project's choice.
use Rattle.std.specs.Prelude.{◌≡◌, ◌≤◌, ℕ, List, [], ◌∷◌, None, Result, IfErr, IfOk, length}
use Rattle.rim_files.specs.Files.{IsFileFault, IsRead, Known}
use Rattle.rim_files.specs.declared.fault.Fault.{Fault}
use Rattle.rim_files.specs.declared.file.TheConstants.{FILE_LIMIT}

-- nothing is known of the file that was opened
abbrev pub IsUnknown : {X : Type 0} → Known → X → Type 0
IsUnknown known other = known ≡ None

-- the files at these paths: the bytes that were read of the first ones, and then, of each other one, what P says of it
abbrev pub AreFollowedBy : {X : Type 0} → (Known → X → Type 0) → (List ℕ → Known) → List (List ℕ) → List (List ℕ) → List X → Type 0
AreFollowedBy P held [] [] [] = Unit {0}
AreFollowedBy P held (path ∷ paths) (file ∷ files) others = IsRead (held path) file × AreFollowedBy P held paths files others
AreFollowedBy P held (path ∷ paths) [] (other ∷ others) = P (held path) other × AreFollowedBy P held paths [] others
AreFollowedBy P held _ _ _ = ⊥

-- the outcome of reading a file of which nothing is known: bytes within the limit, or a fault of such a file
abbrev pub IsOutcome : {V : Type 0} → (V → List ℕ) → Result V Fault → Type 0
IsOutcome bytes_of outcome = IfOk outcome (λ v. length (bytes_of v) ≤ FILE_LIMIT) × IfErr outcome (IsFileFault None)
