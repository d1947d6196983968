-- The RECs that a launch asks for. DEN0137, RmiRecParams.
use Rattle.std.specs.Prelude.{ℕ, List, if◌then◌else◌}
use Rattle.rim_desc.specs.Rec.{RecData, rec_mpidr_of}
use Rattle.ipa_layout.specs.declared.rec.PlacedRec.{PlacedRec}

-- REC `number` of a launch, with these auxiliary granules; flag bit 0 says that it is runnable
abbrev pub rec_params : ℕ → PlacedRec → List ℕ → RecData
rec_params number r aux = record {
  flags = if r.runnable then 1 else 0;
  mpidr = rec_mpidr_of number;
  pc = r.pc;
  gprs = r.x;
  aux = aux;
}
