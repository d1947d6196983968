-- The kernel's command line. It is placed with a zero byte after it (Devicetree Specification 0.4,
-- section 2.2.4.1, strings), so it has none itself.
use Rattle.std.specs.Prelude.{ℕ, List, Bool, not, ◌==◌}
use Rattle.std.specs.List.{list_all}

abbrev pub has_no_zero : List ℕ → Bool
has_no_zero bytes = list_all (λ b. not (b == 0)) bytes
