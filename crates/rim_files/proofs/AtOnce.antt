-- Files are opened one after another and read at once; the fault is that of the first that cannot be read.
use Rattle.std.proofs.Common.{◌≡◌, ℕ, zero, suc, ◌+◌, ◌<◌, ◌≤◌, List, [], ◌∷◌, ◌++◌, length, slice_get, take, Option}
use Rattle.std.proofs.Common.{Result, Ok, Err, Some, None, IfErr, IfOk, IfSome, option_map, ap, ◌∙◌, subst, sym, arith, inl, inr, refl}
use Rattle.std.specs.Prelude.{All, is_some, true}
use Rattle.std.proofs.lemmas.List.Elements.{All-head, All-tail}
use Rattle.std.proofs.lemmas.Option.{none-some, same_Some}
use Rattle.rim_files.specs.Files.{AreRead, IfFile, IsFileFault, IsFirstFault, IsRead, Known}
use Rattle.rim_files.specs.AtOnce.{AreFollowedBy, IsOutcome, IsUnknown}
use Rattle.rim_files.specs.declared.fault.Fault.{Fault}
use Rattle.rim_files.specs.declared.fault.Fault.TheVariants.{FileTooLarge, FileUnreadable, NoMemory}
use Rattle.rim_files.specs.declared.file.TheConstants.{FILE_LIMIT}
use Rattle.rim_files.proofs.ReadFileByFile.{of_bytes, read_next}

-- what is known of the outcome of reading a file of which nothing is known
abbrev pub IsAnswer : {V : Type 0} → (V → List ℕ) → Known → Result V Fault → Type 0
IsAnswer bytes_of known outcome = (known ≡ None) × IsOutcome bytes_of outcome

-- the bytes of such a file, and its faults
pub read_unknown : {V : Type 0} (bytes_of : V → List ℕ) (known : Known) (v : V) → IsAnswer bytes_of known (Ok v) → IsRead known (bytes_of v)
read_unknown bytes_of known v is = (is.1.0, subst (λ (k : Known). IfSome k (λ file. file ≡ Some (bytes_of v))) (sym is.0) tt)

pub fails_unknown : {V : Type 0} (bytes_of : V → List ℕ) (known : Known) (fault : Fault) → IsAnswer bytes_of known (Err fault) → IsFileFault known fault
fails_unknown bytes_of known fault is = subst (λ (k : Known). IsFileFault k fault) (sym is.0) is.1.1

-- nothing is known of a path if nothing is known of what was opened there
pub unknown : (known : Known) (o : Option (List ℕ)) → IfFile known (λ bytes. o ≡ Some bytes) → o ≡ None → known ≡ None
unknown None o opened none = refl
unknown (Some None) o opened none = absurd opened
unknown (Some (Some bytes)) o opened none = absurd (none-some bytes (sym none ∙ opened))

-- what holds of a size holds if there is one
pub if_sized : (size : Option ℕ) (P : Type 0) → IfSome size (λ _. P) → is_some size ≡ true → P
if_sized None P holds some = cc
if_sized (Some n) P holds some = holds

-- a fault of a file of which something is known is one of a file of which nothing is
less_known : (known : Known) (fault : Fault) → IsFileFault known fault → IsFileFault None fault
less_known known FileUnreadable is = tt
less_known known FileTooLarge is = tt
less_known known NoMemory is = tt
less_known known _ is = absurd is

-- what was read of an opened file is what is at its path
pub read_there : (known : Known) (o : Option (List ℕ)) (bytes : List ℕ) → IfFile known (λ held. o ≡ Some held) → length bytes ≤ FILE_LIMIT
    → IfSome o (λ held. bytes ≡ held) → IsRead known bytes
read_there None o bytes opened few read = (few, tt)
read_there (Some None) o bytes opened few read = absurd opened
read_there (Some (Some held)) o bytes opened few read = (few, ap Some (sym (subst (λ o. IfSome o (λ h. bytes ≡ h)) opened read)))

pub fails_there : (known : Known) (o : Option (List ℕ)) (fault : Fault) → IfFile known (λ held. o ≡ Some held)
    → IsFileFault (option_map Some o) fault → IsFileFault known fault
fails_there None o fault opened is = less_known (option_map Some o) fault is
fails_there (Some None) o fault opened is = absurd opened
fails_there (Some (Some held)) o fault opened is = subst (λ o. IsFileFault (option_map Some o) fault) opened is

-- each file that was opened has an outcome
pub all_answered : {X V : Type 0} (bytes_of : V → List ℕ) (held : List ℕ → Known) (paths files : List (List ℕ)) (opened : List X)
    (outcomes : List (Result V Fault)) → AreFollowedBy IsUnknown held paths files opened → length outcomes ≡ length opened
    → All (IsOutcome bytes_of) outcomes → AreFollowedBy (IsAnswer bytes_of) held paths files outcomes
all_answered bytes_of held [] [] [] [] before long each = tt
all_answered bytes_of held [] [] [] (o ∷ os) before long each = cc
all_answered bytes_of held [] [] (x ∷ xs) outcomes before long each = absurd before
all_answered bytes_of held [] (f ∷ fs) opened outcomes before long each = absurd before
all_answered bytes_of held (p ∷ ps) (f ∷ fs) opened outcomes before long each =
    (before.0, all_answered bytes_of held ps fs opened outcomes before.1 long each)
all_answered bytes_of held (p ∷ ps) [] [] outcomes before long each = absurd before
all_answered bytes_of held (p ∷ ps) [] (x ∷ xs) [] before long each = cc
all_answered bytes_of held (p ∷ ps) [] (x ∷ xs) (o ∷ os) before long each =
    let same : length os ≡ length xs = omega (arith, long) in
    ((before.0, All-head (IsOutcome bytes_of) o os each), all_answered bytes_of held ps [] xs os before.1 same (All-tail (IsOutcome bytes_of) o os each))

-- one more file is opened, at the next path
next : {X : Type 0} (P : Known → X → Type 0) (held : List ℕ → Known) (paths : List (List ℕ)) (i : ℕ) (files : List (List ℕ)) (others : List X)
    (path : List ℕ) (other : X) → AreFollowedBy P held (take i paths) files others → slice_get paths i ≡ Some path → P (held path) other
    → AreFollowedBy P held (take (suc i) paths) files (others ++ other ∷ [])
next P held [] i files others path other before here now = cc
next P held (p ∷ ps) zero [] [] path other before here now = (subst (λ q. P (held q) other) (sym (same_Some _ _ here)) now, tt)
next P held (p ∷ ps) zero [] (o ∷ os) path other before here now = absurd before
next P held (p ∷ ps) zero (f ∷ fs) others path other before here now = absurd before
next P held (p ∷ ps) (suc i) [] [] path other before here now = absurd before
next P held (p ∷ ps) (suc i) [] (o ∷ os) path other before here now = (before.0, next P held ps i [] os path other before.1 here now)
next P held (p ∷ ps) (suc i) (f ∷ fs) others path other before here now = (before.0, next P held ps i fs others path other before.1 here now)

pub opened_next : {X : Type 0} (held now : List ℕ → Known) → now ≡ held → (paths : List (List ℕ)) (i : ℕ)
    (files : List (List ℕ)) (opened : List X) (path : List ℕ) (file : X) (more : List X)
    → AreFollowedBy IsUnknown held (take i paths) files opened → slice_get paths i ≡ Some path → now path ≡ None
    → more ≡ opened ++ file ∷ [] → AreFollowedBy IsUnknown held (take (i + 1) paths) files more
opened_next held now same paths i files opened path file more before here none pushed =
    let after : suc i ≡ i + 1 = omega arith in
    let this = subst (λ (h : List ℕ → Known). h path ≡ None) same none in
    subst (λ rs. AreFollowedBy IsUnknown held (take (i + 1) paths) files rs) (sym pushed)
    (subst (λ n. AreFollowedBy IsUnknown held (take n paths) files (opened ++ file ∷ [])) after
    (next IsUnknown held paths i files opened path file before here this))

-- the first that follows is read
pub read_first : {X : Type 0} (P : Known → X → Type 0) (held : List ℕ → Known) (paths files : List (List ℕ)) (other : X) (others : List X)
    (bytes : List ℕ) → ((known : Known) → P known other → IsRead known bytes) → AreFollowedBy P held paths files (other ∷ others)
    → AreFollowedBy P held paths (files ++ bytes ∷ []) others
read_first P held [] [] other others bytes read before = absurd before
read_first P held [] (f ∷ fs) other others bytes read before = absurd before
read_first P held (p ∷ ps) [] other others bytes read before = (read (held p) before.0, before.1)
read_first P held (p ∷ ps) (f ∷ fs) other others bytes read before = (before.0, read_first P held ps fs other others bytes read before.1)

-- a fault of the first that follows is that of the first file that cannot be read
pub first_fails : {X : Type 0} (P : Known → X → Type 0) (held : List ℕ → Known) (paths files : List (List ℕ)) (other : X) (others : List X)
    (fault : Fault) → ((known : Known) → P known other → IsFileFault known fault) → AreFollowedBy P held paths files (other ∷ others)
    → IsFirstFault held paths fault
first_fails P held [] [] other others fault fails before = absurd before
first_fails P held [] (f ∷ fs) other others fault fails before = absurd before
first_fails P held (p ∷ ps) [] other others fault fails before = inl (fails (held p) before.0)
first_fails P held (p ∷ ps) (f ∷ fs) other others fault fails before =
    inr (of_bytes (held p) f (λ bytes. length bytes ≤ FILE_LIMIT) before.0 before.0.0, first_fails P held ps fs other others fault fails before.1)

-- so is a refusal of memory, where some file follows
pub no_memory : {X : Type 0} (P : Known → X → Type 0) (held : List ℕ → Known) (paths files : List (List ℕ)) (others : List X) → 0 < length others
    → AreFollowedBy P held paths files others → IsFirstFault held paths NoMemory
no_memory P held paths files [] some before = absurd (omega (arith, some))
no_memory P held paths files (other ∷ others) some before = first_fails P held paths files other others NoMemory (λ known is. tt) before

-- a list without items
pub no_items : {X : Type 0} (xs : List X) → length xs ≡ 0 → xs ≡ []
no_items [] none = refl
no_items (x ∷ xs) none = absurd (omega (arith, none))

-- where none follows, all are read
pub none_follows : {X : Type 0} (P : Known → X → Type 0) (held : List ℕ → Known) (paths files : List (List ℕ)) (others : List X) → others ≡ []
    → AreFollowedBy P held paths files others → AreRead held paths files
none_follows P held [] [] [] none before = tt
none_follows P held [] [] (o ∷ os) none before = absurd before
none_follows P held [] (f ∷ fs) others none before = absurd before
none_follows P held (p ∷ ps) [] [] none before = absurd before
none_follows P held (p ∷ ps) [] (o ∷ os) none before = cc
none_follows P held (p ∷ ps) (f ∷ fs) others none before = (before.0, none_follows P held ps fs others none before.1)

-- and the other way round
pub all_read_yet : {X : Type 0} (P : Known → X → Type 0) (held : List ℕ → Known) (paths files : List (List ℕ)) → AreRead held paths files
    → AreFollowedBy P held paths files []
all_read_yet P held [] [] before = tt
all_read_yet P held [] (f ∷ fs) before = absurd before
all_read_yet P held (p ∷ ps) [] before = absurd before
all_read_yet P held (p ∷ ps) (f ∷ fs) before = (before.0, all_read_yet P held ps fs before.1)

-- a fault of the files before some path is that of the first file that cannot be read
pub fault_before : (held : List ℕ → Known) (paths : List (List ℕ)) (n : ℕ) (fault : Fault) → IsFirstFault held (take n paths) fault
    → IsFirstFault held paths fault
fault_before held [] zero fault is = absurd is
fault_before held [] (suc n) fault is = absurd is
fault_before held (p ∷ ps) zero fault is = absurd is
fault_before held (p ∷ ps) (suc n) fault (inl here) = inl here
fault_before held (p ∷ ps) (suc n) fault (inr later) = inr (later.0, fault_before held ps n fault later.1)

-- as many files are read as there are paths
pub read_count : (held : List ℕ → Known) (paths files : List (List ℕ)) → AreRead held paths files → length files ≡ length paths
read_count held [] [] read = refl
read_count held [] (f ∷ fs) read = absurd read
read_count held (p ∷ ps) [] read = absurd read
read_count held (p ∷ ps) (f ∷ fs) read = ap suc (read_count held ps fs read.1)

-- where memory is refused for the next file, that is a fault of the first that cannot be read
pub no_memory_next : {X : Type 0} (P : Known → X → Type 0) (held : List ℕ → Known) (paths : List (List ℕ)) (i : ℕ) (files : List (List ℕ)) (others : List X)
    (path : List ℕ) → AreFollowedBy P held (take i paths) files others → slice_get paths i ≡ Some path → IsFirstFault held paths NoMemory
no_memory_next P held [] i files others path before here = cc
no_memory_next P held (p ∷ ps) i [] others path before here = inl tt
no_memory_next P held (p ∷ ps) zero (f ∷ fs) others path before here = absurd before
no_memory_next P held (p ∷ ps) (suc i) (f ∷ fs) others path before here =
    inr (of_bytes (held p) f (λ bytes. length bytes ≤ FILE_LIMIT) before.0 before.0.0, no_memory_next P held ps i fs others path before.1 here)

-- the next file is read alone, once all before it are read
pub alone_next : {X : Type 0} (held now : List ℕ → Known) → now ≡ held → (paths : List (List ℕ)) (i : ℕ) (files more : List (List ℕ))
    (path bytes : List ℕ) (none : List X) → AreRead held (take i paths) files → slice_get paths i ≡ Some path → IsRead (now path) bytes
    → more ≡ files ++ bytes ∷ [] → none ≡ [] → AreFollowedBy IsUnknown held (take (i + 1) paths) more none
alone_next held now same paths i files more path bytes none before here read pushed empty =
    let this = subst (λ (h : List ℕ → Known). IsRead (h path) bytes) same read in
    rw (pushed, empty) (all_read_yet IsUnknown held (take (i + 1) paths) (files ++ bytes ∷ []) (read_next held paths i files path bytes before here this))
