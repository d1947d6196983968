-- What a check finds of the files of a release.
use Rattle.std.proofs.Common.{◌≡◌, ℕ, zero, suc, ◌+◌, ◌==◌, ◌≤◌, true, Global, List, [], ◌∷◌, ◌++◌, Vec, length, slice_get, take, vec_len, Some, refl, ap, subst, sym, arith, inl, inr}
use Rattle.std.proofs.lemmas.Bool.{eqb-true}
use Rattle.std.proofs.lemmas.List.{nil_from_length}
use Rattle.std.proofs.lemmas.Option.{same_Some}
use Rattle.shown_text.specs.declared.remark.Remark.{Remark}
use Rattle.shown_text.specs.Lines.{AddsLine, Saying, SayInTurn, file_said}
use Rattle.rim_files.specs.Files.{AreRead, IfFile, IsFileFault, IsRead, Known}
use Rattle.rim_files.specs.Status.{word_of}
use Rattle.rim_cli.specs.Unread.{AreUnread, IsUnread}
use Rattle.rim_cli.specs.inside.Found.{AreFound}
use Rattle.rim_files.specs.declared.fault.Fault.{Fault}
use Rattle.rim_files.specs.declared.fault.Fault.TheVariants.{Manifest, NoSuchLaunch, Start, Refused, NoDevicetree, Show, FileUnreadable, FileTooLarge, OutputIsTerminal, OutputFailed, NoMemory}
use Rattle.rim_files.proofs.ReadFileByFile.{of_bytes, read_next}
use Rattle.rim_files.specs.declared.file.TheConstants.{FILE_LIMIT}

-- a fault of a file that is no want of memory is why the file cannot be read
pub unread_said : (known : Known) (path hint : List ℕ) (fault : Fault) → IsFileFault known fault → (fault ≡ NoMemory → ⊥)
    → IsUnread known path (file_said path (word_of fault) hint)
unread_said known path hint FileUnreadable is other = (hint, inl (refl, is))
unread_said known path hint FileTooLarge is other = (hint, inr (refl, is))
unread_said known path hint NoMemory is other = absurd (other refl)
unread_said known path hint (Manifest fault) is other = absurd is
unread_said known path hint NoSuchLaunch is other = absurd is
unread_said known path hint (Start fault) is other = absurd is
unread_said known path hint (Refused fault) is other = absurd is
unread_said known path hint NoDevicetree is other = absurd is
unread_said known path hint (Show fault) is other = absurd is
unread_said known path hint OutputIsTerminal is other = absurd is
unread_said known path hint OutputFailed is other = absurd is

-- the file at the next path is read, and nothing is said of it
kept_after : (held : List ℕ → Known) (paths : List (List ℕ)) (i : ℕ) (said : List Saying) (path file : List ℕ)
    → AreUnread held (take i paths) said → slice_get paths i ≡ Some path → IsRead (held path) file → AreUnread held (take (suc i) paths) said
kept_after held [] i said path file before here read = cc
kept_after held (p ∷ ps) zero said path file before here read =
    let fits = of_bytes (held path) file (λ bytes. length bytes ≤ FILE_LIMIT) read read.0 in
    inl (subst (λ q. IfFile (held q) (λ bytes. length bytes ≤ FILE_LIMIT)) (sym (same_Some _ _ here)) fits, before)
kept_after held (p ∷ ps) (suc i) said path file (inl both) here read = inl (both.0, kept_after held ps i said path file both.1 here read)
kept_after held (p ∷ ps) (suc i) said path file (inr front) here read = inr (record {
  first = front.first;
  rest = front.rest;
  split = front.split;
  unread = front.unread;
  follows = kept_after held ps i front.rest path file front.follows here read;
})

-- it cannot be read, and why is said
added_after : (held : List ℕ → Known) (paths : List (List ℕ)) (i : ℕ) (said : List Saying) (path : List ℕ) (s : Saying)
    → AreUnread held (take i paths) said → slice_get paths i ≡ Some path → IsUnread (held path) path s → AreUnread held (take (suc i) paths) (said ++ s ∷ [])
added_after held [] i said path s before here unread = cc
added_after held (p ∷ ps) zero said path s before here unread = inr (record {
  first = s;
  rest = [];
  split = ap (λ (ss : List Saying). ss ++ s ∷ []) before;
  unread = subst (λ q. IsUnread (held q) q s) (sym (same_Some _ _ here)) unread;
  follows = refl;
})
added_after held (p ∷ ps) (suc i) said path s (inl both) here unread = inl (both.0, added_after held ps i said path s both.1 here unread)
added_after held (p ∷ ps) (suc i) said path s (inr front) here unread = inr (record {
  first = front.first;
  rest = front.rest ++ s ∷ [];
  split = ap (λ (ss : List Saying). ss ++ s ∷ []) front.split;
  unread = front.unread;
  follows = added_after held ps i front.rest path s front.follows here unread;
})

-- where one thing more is said, something is
some_said : (said : List Saying) (s : Saying) → said ++ s ∷ [] ≡ [] → ⊥
some_said [] s e = cc
some_said (first ∷ rest) s e = cc

module _ (held : List ℕ → Known) (paths : List (List ℕ)) (i : ℕ) (files : List (List ℕ)) (remarks : List Remark) (path : List ℕ)
    (found : AreFound held (take i paths) files remarks) (here : slice_get paths i ≡ Some path) where
  next : suc i ≡ i + 1
  next = omega arith

  -- what is found once the file at the next path is read, or cannot be
  pub found_file : (file : List ℕ) → IsRead (held path) file → AreFound held (take (i + 1) paths) (files ++ file ∷ []) remarks
  found_file file read = record {
    said = found.said;
    unread = subst (λ n. AreUnread held (take n paths) found.said) next (kept_after held paths i found.said path file found.unread here read);
    lines = found.lines;
    read = λ none. read_next held paths i files path file (found.read none) here read;
  }

  pub found_fault : (s : Saying) (new : List Remark) → IsUnread (held path) path s → AddsLine s remarks new → AreFound held (take (i + 1) paths) files new
  found_fault s new unread adds = record {
    said = found.said ++ s ∷ [];
    unread = subst (λ n. AreUnread held (take n paths) (found.said ++ s ∷ [])) next (added_after held paths i found.said path s found.unread here unread);
    lines = adds found.said found.lines;
    read = λ none. absurd (some_said found.said s none);
  }

no_remarks : (said : List Saying) → SayInTurn said [] → said ≡ []
no_remarks [] remarks = refl
no_remarks (s ∷ said) remarks = absurd (let split = remarks.split in cc)

-- where no remark was added, each file is read
pub all_files : (held : List ℕ → Known) (paths files : List (List ℕ)) (unread : Vec Remark Global) → AreFound held paths files unread.items
    → true ≡ (vec_len unread == 0) → AreRead held paths files
all_files held paths files unread found none =
    let empty : unread.items ≡ [] = nil_from_length unread.items (omega (arith, unread.ok, eqb-true (vec_len unread) 0 (sym none))) in
    found.read (no_remarks found.said (subst (SayInTurn found.said) empty found.lines))

-- each file that is read is one of a path
pub read_count : (held : List ℕ → Known) (paths files : List (List ℕ)) → AreRead held paths files → length files ≡ length paths
read_count held [] [] read = refl
read_count held [] (f ∷ fs) read = absurd read
read_count held (p ∷ ps) [] read = absurd read
read_count held (p ∷ ps) (f ∷ fs) read = ap suc (read_count held ps fs read.1)
