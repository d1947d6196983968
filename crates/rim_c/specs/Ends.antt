-- How calls end. This project's choice.
use Rattle.std.specs.Prelude.{◌≡◌, ◌⊎◌, ◌<◌, ℕ, List, [], ◌∷◌, ◌++◌, IsOkAnd, Some, length}
use Rattle.std.specs.List.{flat_map}
use Rattle.std.specs.Str.{IsUtf8}
use Rattle.rim_manifest.specs.Launches.{ReleaseData}
use Rattle.rim_manifest.specs.Manifest.{manifest_of}
use Rattle.rim_desc.specs.Measurement.{algo_value}
use Rattle.rmi_line.specs.Ends.{digest_bytes}
use Rattle.rim_words.specs.declared.definition.TheConstants.{VERSION}
use Rattle.rim_words.specs.declared.words.Ask.{Ask}
use Rattle.rim_words.specs.declared.words.Ask.TheVariants as ask
use Rattle.rim_words.specs.declared.words.LaunchAsk.{LaunchAsk}
use Rattle.rim_files.specs.declared.fault.Fault.{Fault}
use Rattle.rim_cli.specs.Done.{IsAnswer, IsManifestFault, IsRim, Refuses, RefusesManifest, RefusesRim}
use Rattle.rim_cli.specs.declared.rims.LaunchRim.{LaunchRim}
use Rattle.rim_files.specs.Files.{Known}
use Rattle.rim_c.specs.Codes.{code_of}
use Rattle.rim_c.specs.Held.{held_in}
use Rattle.rim_c.specs.Written.{IsWritten}
use Rattle.rim_c.specs.declared.codes.TheConstants.{NO_TEXT, ROOM}
use Rattle.rim_c.specs.declared.held.File.{File}

-- what a caller lends for an answer: room, with what it holds before and after the call, and a number, before and after
pub record Room : Type 0 where
  pub old : List ℕ
  pub new : List ℕ
  pub before : ℕ
  pub after : ℕ

-- there is an answer with a code, of which this holds, and it is in the room
pub record IsAnswered (Holds : List ℕ → ℕ → Type 0) (room : Room) (code : ℕ) : Type 0 where
  pub text : List ℕ
  pub holds : Holds text code
  pub written : IsWritten text room.old room.new room.after

-- there is one, for which the room is too short: how many bytes it has is said, and no more is written
pub record IsTooLong (Holds : List ℕ → ℕ → Type 0) (room : Room) (code : ℕ) : Type 0 where
  pub text : List ℕ
  pub status : ℕ
  pub holds : Holds text status
  pub is : code ≡ ROOM
  pub short : length room.old < length text
  pub count : room.after ≡ length text
  pub same : room.new ≡ room.old

-- there is none, and nothing is written
abbrev pub IsKept : Room → Type 0
IsKept room = (room.new ≡ room.old) × (room.after ≡ room.before)

-- for a fault of which this holds, with its own code
pub record IsRefused (Holds : Fault → Type 0) (room : Room) (code : ℕ) : Type 0 where
  pub fault : Fault
  pub holds : Holds fault
  pub is : code ≡ code_of fault
  pub kept : IsKept room

-- or since what is to be text is none
pub record HasNoText (bytes : List ℕ) (room : Room) (code : ℕ) : Type 0 where
  pub none : ¬ (IsUtf8 bytes)
  pub is : code ≡ NO_TEXT
  pub kept : IsKept room

-- a call ends in one of these four ways; this is to be text
abbrev pub EndsBy : (List ℕ → ℕ → Type 0) → (Fault → Type 0) → List ℕ → Room → ℕ → Type 0
EndsBy Answers Refused text room code =
    (IsAnswered Answers room code ⊎ IsTooLong Answers room code) ⊎ (IsRefused Refused room code ⊎ HasNoText text room code)

-- what is asked of a file is answered as the program answers it, with the program's status as the code, or refused as the program refuses it
abbrev pub Ends : File → List File → Ask → Room → ℕ → Type 0
Ends subject files asked room code =
    EndsBy (IsAnswer (held_in subject files) asked subject.path.now subject.bytes.now)
    (Refuses (held_in subject files) asked (held_in subject files subject.path.now)) subject.path.now room code

-- the words ask this of the launch of a name
abbrev pub AsksOf : List ℕ → LaunchAsk → Ask → Type 0
AsksOf name of_launch (ask.Launch launch asked) = (launch.now ≡ name) × (asked ≡ of_launch)
AsksOf name of_launch _ = ⊥

-- the same of what is asked of the launch of a name, which is to be text too
abbrev pub EndsOfLaunch : File → List File → List ℕ → LaunchAsk → Room → ℕ → Type 0
EndsOfLaunch subject files name of_launch room code =
    HasNoText name room code ⊎ ((asked : Ask) × AsksOf name of_launch asked × Ends subject files asked room code)

-- the bytes of the measurement of the launch of a name, with 0 as the status, and the monitor's number of the algorithm. DEN0137, RmiHashAlgorithm
pub record IsRimOf (held : List ℕ → Known) (bytes name : List ℕ) (number : ℕ) (text : List ℕ) (status : ℕ) : Type 0 where
  pub rim : LaunchRim
  pub own : IsOkAnd (manifest_of bytes) (λ r. IsRim held r name rim)
  pub digest : text ≡ digest_bytes rim.algo rim.rim.bytes
  pub algorithm : number ≡ algo_value rim.algo
  pub well : status ≡ 0

-- a call for the measurement of the launch of a name ends with it in the room, and with the number of its algorithm; or the number is as it was
-- before, and the room is too short, the call is refused, or the name or the manifest's path is not UTF-8
abbrev pub EndsWithRim : File → List File → List ℕ → (before after : ℕ) → Room → ℕ → Type 0
EndsWithRim manifest files name before after room code =
    IsAnswered (IsRimOf (held_in manifest files) manifest.bytes.now name after) room code
    ⊎ ((after ≡ before) × (IsTooLong (λ text status. (number : ℕ) × IsRimOf (held_in manifest files) manifest.bytes.now name number text status) room code
    ⊎ (IsRefused (RefusesManifest (RefusesRim (held_in manifest files) name) (held_in manifest files manifest.path.now)) room code
    ⊎ (HasNoText name room code ⊎ HasNoText manifest.path.now room code))))

-- the paths of the files that a manifest names, each with a zero byte after it
abbrev pub paths_text : ReleaseData → List ℕ
paths_text r = flat_map (λ path. path ++ 0 ∷ []) r.paths

-- a call for them ends with them, or as the manifest is refused
abbrev pub EndsWithPaths : List ℕ → Room → ℕ → Type 0
EndsWithPaths bytes room code =
    (IsAnswered (λ text status. IsOkAnd (manifest_of bytes) (λ r. text ≡ paths_text r) × (status ≡ 0)) room code
    ⊎ IsTooLong (λ text status. IsOkAnd (manifest_of bytes) (λ r. text ≡ paths_text r) × (status ≡ 0)) room code)
    ⊎ IsRefused (λ fault. IsManifestFault (Some (Some bytes)) fault) room code

-- a call for the library's version ends with it
abbrev pub EndsWithVersion : Room → ℕ → Type 0
EndsWithVersion room code =
    IsAnswered (λ text status. (text ≡ VERSION.now) × (status ≡ 0)) room code
    ⊎ IsTooLong (λ text status. (text ≡ VERSION.now) × (status ≡ 0)) room code
