-- Files as the program reads them. This project's choice.
use Rattle.std.specs.Prelude.{◌≡◌, ◌⊎◌, ◌<◌, ◌≤◌, ℕ, List, [], ◌∷◌, Option, None, Some, IfSome, IsSomeAnd, length}
use Rattle.rim_files.specs.declared.fault.Fault.{Fault}
use Rattle.rim_files.specs.declared.fault.Fault.TheVariants.{FileUnreadable, FileTooLarge, NoMemory}
use Rattle.rim_files.specs.declared.file.TheConstants.{FILE_LIMIT}

-- what is known of a path: nothing; that no file can be opened there, `Some None`; or the bytes of the file there
abbrev pub Known : Type 0
Known = Option (Option (List ℕ))

-- the file at a path, where something is known of it, has bytes of which this holds
abbrev pub IfFile : Known → (List ℕ → Type 0) → Type 0
IfFile known P = IfSome known (λ file. IsSomeAnd file P)

-- reading the file at a path may fail: nothing is known of the path, or that no file can be opened there
abbrev pub MayFail : Known → Type 0
MayFail known = IfSome known (λ file. file ≡ None)

-- a fault of reading a file of which this is known
abbrev pub IsFileFault : Known → Fault → Type 0
IsFileFault known FileUnreadable = MayFail known
IsFileFault known FileTooLarge = IfFile known (λ bytes. FILE_LIMIT < length bytes)
IsFileFault known NoMemory = Unit {0}
IsFileFault known _ = ⊥

-- these are all bytes of a file of which this is known
abbrev pub IsRead : Known → List ℕ → Type 0
IsRead known bytes = (length bytes ≤ FILE_LIMIT) × IfSome known (λ file. file ≡ Some bytes)

-- the bytes that were read of the files at these paths, one by one
abbrev pub AreRead : (List ℕ → Known) → List (List ℕ) → List (List ℕ) → Type 0
AreRead held [] [] = Unit {0}
AreRead held (path ∷ paths) (file ∷ files) = IsRead (held path) file × AreRead held paths files
AreRead held _ _ = ⊥

-- a fault of the first of the files at these paths that cannot be read: those before it can be
abbrev pub IsFirstFault : (List ℕ → Known) → List (List ℕ) → Fault → Type 0
IsFirstFault held [] fault = ⊥
IsFirstFault held (path ∷ paths) fault = IsFileFault (held path) fault
    ⊎ (IfFile (held path) (λ bytes. length bytes ≤ FILE_LIMIT) × IsFirstFault held paths fault)
