use Rattle.std.proofs.Common.{◌≡◌, ◌++◌, [], ◌∷◌, take}
use Rattle.std.specs.List.{flat_map}
use Rattle.rim_c.proofs.answers.paths_text.Given as goal

-- the paths before this one are there
abbrev pub invariant-loop-i : goal.invariant-loop-i
invariant-loop-i l = l.text.items ≡ flat_map (λ path. path ++ 0 ∷ []) (take l.i l.release.paths)
