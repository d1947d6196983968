-- The files of a release, as definitions speak of them. This project's choice.
use Rattle.std.specs.Prelude.{ℕ, List, map}
use Rattle.std.specs.declared.vec.Vec.{Vec}

-- the bytes of each file
abbrev pub bytes_of_files : {Z : Type 0} → List (Vec ℕ Z) → List (List ℕ)
bytes_of_files files = map (λ f. f.items) files
