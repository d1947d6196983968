use Rattle.std.proofs.Common.{◌≡◌, ℕ, List, [], ◌∷◌, ◌++◌, length, take}
use Rattle.job_core.specs.inside.Reaches.{IsListed}
use Rattle.job_core.proofs.needs.add_list.Given as goal

abbrev pub invariant-loop-page : goal.invariant-loop-page
invariant-loop-page l = (lists : List (List ℕ)) → length lists ≡ l.launch → IsListed (length l.fn.groups) l.fn.groups lists → IsListed (length l.fn.groups) l.groups (lists ++ take l.page-index l.list ∷ [])
