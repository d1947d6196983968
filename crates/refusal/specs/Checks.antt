-- Checks and refusals. This project's choice: checks are made one after another, and the first that holds
-- refuses.
use Rattle.std.specs.Prelude.{Bool, List, [], ◌∷◌, Result, Ok, Err, if◌then◌else◌}

-- a check: the refusal that it names, and whether it holds
abbrev pub Check : Type 0 → Type 0
Check Refusal = Refusal × Bool

-- the first check that holds refuses; else what is asked for is done
abbrev pub unless_refused : {A Refusal : Type 0} → List (Check Refusal) → A → Result A Refusal
unless_refused [] done = Ok done
unless_refused (check ∷ others) done = if check.1 then Err check.0 else unless_refused others done
