-- Examples of what is printed of a listing, and the smallest manifest. This project's choice.
use Rattle.std.specs.Prelude.{◌≡◌, ℕ, List, [], ◌∷◌, Some, None, Ok, Err, codes, length, map}
use Rattle.rmm_model.specs.declared.outcome.Refused.TheVariants.{WalkLevel}
use Rattle.rim_manifest.specs.Launches.{ReleaseData}
use Rattle.rim_replay.specs.declared.fault.ReplayFault.TheVariants as fault
use Rattle.rim_cli.specs.Replayed.{replay_text}

-- what is printed of a listing, by what it comes to
abbrev pub PrintsExamples : Type 0
PrintsExamples = (replay_text (Ok tt) ≡ Some (codes "yes\n")) × (replay_text (Err (fault.Line 14)) ≡ Some (codes "no line 14\n"))
    × (replay_text (Err (fault.Refused 8 WalkLevel)) ≡ Some (codes "no refused 8 walk-level\n"))
    × (replay_text (Err fault.WrongRim) ≡ Some (codes "no wrong-rim\n")) × (replay_text (Err fault.NoMemory) ≡ None)

-- the smallest manifest: a launch without memory and files
abbrev pub smallest : List ℕ
smallest = codes "rim_manifest = 1\n[[launch]]\nname = \"small\"\nalgo = \"sha256\"\ns2sz = 33\n"

abbrev pub IsSmallest : ReleaseData → Type 0
IsSmallest r = (r.paths ≡ []) × (map (λ l. l.name) r.launches ≡ codes "small" ∷ [])
    × (map (λ l. l.launch.config.s2sz) r.launches ≡ 33 ∷ []) × (map (λ l. length l.launch.ram) r.launches ≡ 0 ∷ [])
