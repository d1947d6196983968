-- Files are read up to a limit, one after another; the fault is that of the first that cannot be read.
use Rattle.std.proofs.Common.{◌≡◌, ℕ, zero, suc, ◌+◌, ◌<◌, ◌≤◌, List, [], ◌∷◌, ◌++◌, length, slice_get, take, Option, Some, None, option_map, ap, ◌∙◌, subst, sym, arith, inl, inr}
use Rattle.std.specs.Prelude.{IfSome}
use Rattle.std.proofs.lemmas.List.{length-take, take_all}
use Rattle.std.proofs.lemmas.Option.{same_Some}
use Rattle.rim_files.specs.Files.{AreRead, IfFile, IsFileFault, IsFirstFault, IsRead, Known}
use Rattle.rim_files.specs.declared.fault.Fault.{Fault}
use Rattle.rim_files.specs.declared.file.TheConstants.{FILE_LIMIT}

-- fewer bytes than the limit allows are all bytes
pub all_read : (o : Option (List ℕ)) (n : ℕ) (bytes : List ℕ) → IfSome (option_map (take n) o) (λ xs. bytes ≡ [] ++ xs)
    → length bytes < n → IfSome o (λ held. bytes ≡ held)
all_read None n bytes read few = tt
all_read (Some xs) n bytes read few =
    let short : length xs ≤ n = omega (arith, ap length read, length-take n xs) in
    read ∙ take_all n xs short

-- one more file is read, at the next path
read_after : (held : List ℕ → Known) (paths : List (List ℕ)) (i : ℕ) (files : List (List ℕ)) (path file : List ℕ)
    → AreRead held (take i paths) files → slice_get paths i ≡ Some path → IsRead (held path) file
    → AreRead held (take (suc i) paths) (files ++ file ∷ [])
read_after held [] i files path file before here now = cc
read_after held (p ∷ ps) zero [] path file before here now = (subst (λ q. IsRead (held q) file) (sym (same_Some _ _ here)) now, tt)
read_after held (p ∷ ps) zero (f ∷ fs) path file before here now = absurd before
read_after held (p ∷ ps) (suc i) [] path file before here now = absurd before
read_after held (p ∷ ps) (suc i) (f ∷ fs) path file before here now = (before.0, read_after held ps i fs path file before.1 here now)

pub read_next : (held : List ℕ → Known) (paths : List (List ℕ)) (i : ℕ) (files : List (List ℕ)) (path file : List ℕ)
    → AreRead held (take i paths) files → slice_get paths i ≡ Some path → IsRead (held path) file
    → AreRead held (take (i + 1) paths) (files ++ file ∷ [])
read_next held paths i files path file before here now =
    let next : suc i ≡ i + 1 = omega arith in
    subst (λ n. AreRead held (take n paths) (files ++ file ∷ [])) next (read_after held paths i files path file before here now)

-- what holds of the bytes that were read holds of the file
pub of_bytes : (known : Known) (bytes : List ℕ) (Q : List ℕ → Type 0) → IsRead known bytes → Q bytes → IfFile known Q
of_bytes None bytes Q read q = tt
of_bytes (Some None) bytes Q read q = let none = read.1 in cc
of_bytes (Some (Some held)) bytes Q read q = subst Q (sym (same_Some _ _ read.1)) q

-- a fault of the file after those that were read is that of the first file that cannot be read
pub first_fault : (held : List ℕ → Known) (paths : List (List ℕ)) (i : ℕ) (files : List (List ℕ)) (path : List ℕ) (fault : Fault)
    → AreRead held (take i paths) files → slice_get paths i ≡ Some path → IsFileFault (held path) fault → IsFirstFault held paths fault
first_fault held [] i files path fault before here is = cc
first_fault held (p ∷ ps) zero files path fault before here is = inl (subst (λ q. IsFileFault (held q) fault) (sym (same_Some _ _ here)) is)
first_fault held (p ∷ ps) (suc i) [] path fault before here is = absurd before
first_fault held (p ∷ ps) (suc i) (f ∷ fs) path fault before here is = inr (of_bytes (held p) f (λ bytes. length bytes ≤ FILE_LIMIT) before.0 before.0.0, first_fault held ps i fs path fault before.1 here is)
