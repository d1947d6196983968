-- What one scan of a strings block finds out, so that each name is then found in one step. This project's choice.
use Rattle.std.specs.Prelude.{ℕ, suc, List, [], ◌∷◌, nat_lt, ◌==◌, if◌then◌else◌}
use Rattle.fdt_tree.specs.Names.{is_name_character}

-- how many name characters the bytes begin with
abbrev pub name_run : List ℕ → ℕ
name_run [] = 0
name_run (c ∷ cs) = if is_name_character c then suc (name_run cs) else 0

-- the same from each byte on
abbrev pub name_runs : List ℕ → List ℕ
name_runs [] = []
name_runs (c ∷ cs) = name_run (c ∷ cs) ∷ name_runs cs

-- the number of bytes up to and including the last zero byte
abbrev pub zero_end : List ℕ → ℕ
zero_end [] = 0
zero_end (c ∷ cs) = if nat_lt 0 (zero_end cs) then suc (zero_end cs) else (if c == 0 then 1 else 0)
