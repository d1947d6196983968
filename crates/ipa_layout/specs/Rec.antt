-- A REC with its defaults filled in. The Linux arm64 boot protocol (booting.rst, "Call the kernel
-- image") enters the primary CPU at the kernel with the devicetree's address in x0, and x1 to x3 zero;
-- that REC 0 is the primary CPU, and that the others default to zeros, is this project's choice.
use Rattle.std.specs.Prelude.{ℕ, [], ◌∷◌, unwrap_or, ◌==◌, if◌then◌else◌}
use Rattle.rim_launch.specs.declared.rec.Rec.{Rec}
use Rattle.ipa_layout.specs.declared.rec.PlacedRec.{PlacedRec}

-- a boot value is for REC 0 alone
abbrev pub boot_value : ℕ → ℕ → ℕ
boot_value number value = if number == 0 then value else 0

-- REC `number`, where the kernel and the devicetree are at these addresses, or 0 without one
abbrev pub rec_of : ℕ → ℕ → ℕ → Rec → PlacedRec
rec_of number kernel dtb r = record {
  pc = unwrap_or r.pc (boot_value number kernel);
  x = unwrap_or r.x (boot_value number dtb ∷ 0 ∷ 0 ∷ 0 ∷ 0 ∷ 0 ∷ 0 ∷ 0 ∷ []);
  runnable = r.runnable;
}
