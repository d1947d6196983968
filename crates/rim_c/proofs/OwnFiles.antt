-- The file that is asked about is at its own path.
use Rattle.std.proofs.Common.{◌≡◌, ◌∙◌, ℕ, List, Some, ap, refl, subst}
use Rattle.std.proofs.lemmas.Slice.Eq.{bytes_eq-Decides}
use Rattle.rim_files.specs.Files.{IfFile, Known}
use Rattle.rim_c.specs.Held.{held_in}
use Rattle.rim_c.specs.declared.held.File.{File}

own_file : (s : File) (files : List File) → held_in s files s.path.now ≡ Some (Some s.bytes.now)
own_file s files = rw ((bytes_eq-Decides s.path.now s.path.now).1 refl) refl

-- what is known there
pub known_there : (s : File) (files : List File) (path : List ℕ) → path ≡ s.path.now → held_in s files path ≡ Some (Some s.bytes.now)
known_there s files path e = ap (held_in s files) e ∙ own_file s files

-- so what holds of the bytes at this path holds of its own
pub of_own : (s : File) (files : List File) (path : List ℕ) (P : List ℕ → Type 0) → path ≡ s.path.now → IfFile (held_in s files path) P → P s.bytes.now
of_own s files path P e holds = subst (λ (known : Known). IfFile known P) (known_there s files path e) holds
