-- A call that is planned passed its checks.
use Rattle.std.proofs.Common.{inl, inr, ◌≡◌, ℕ, ◌+◌, ◌*◌, ◌%◌, arith, false, not, ltb, eqb, List, [], ◌∷◌}
use Rattle.std.specs.Prelude.{Ok}
use Rattle.std.specs.List.{list_all}
use Rattle.std.proofs.lemmas.Bool.{cases_Bool, not-false, or_parts, ltb-false}
use Rattle.std.proofs.lemmas.Bool.Decides.{nat_tests}
use Rattle.rmm_model.specs.Blocks.{granules}
use Rattle.rmm_model.specs.Space.{is_ram}
use Rattle.rmm_model.proofs.AnswersOfChecks.{holds, none-holds, off-at}
use Rattle.refusal.specs.Checks.{Check, unless_refused}
use Rattle.rtt_plan.specs.declared.act.Act.{Act}
use Rattle.rtt_plan.specs.declared.fault.PlanFault.TheVariants as fault
use Rattle.rtt_plan.specs.Accepted.{AcceptsData, AcceptsRegion}
use Rattle.rtt_plan.specs.Planned.{Planned, data_acts, data_checks, entry_count, plan_data, plan_region, region_acts, region_checks}
use Rattle.rtt_plan.proofs.LargestBlocks.{whole-region}
use Rattle.rtt_plan.specs.declared.counting.TheConstants.{ENTRY_LIMIT}

-- an answer is what was asked for
done-is : {A Refusal : Type 0} (checks : List (Check Refusal)) (done answer : A) → unless_refused checks done ≡ Ok answer → answer ≡ done
done-is [] done answer = λ at. cc
done-is (check ∷ others) done answer = elim (cases_Bool check.1) [
  | inl on ↦ rw on (λ at. absurd (cc))
  | inr off ↦ rw off (λ at. done-is others done answer at)
]

whole-from : (x : ℕ) → not (eqb (x % 4096) 0) ≡ false → x % 4096 ≡ 0
whole-from x h = grind (arith, nat_tests)

pub region-accepted : (p : Planned) (base end : ℕ) → holds (region_checks p base end) ≡ false → AcceptsRegion p base end
region-accepted p base end off =
    let checks = region_checks p base end in
    let ends = or_parts (not (eqb (base % 4096) 0)) (not (eqb (end % 4096) 0)) (off-at checks 1 fault.NoMemory off) in
    record {
      inside = ltb-false p.space.protected_end end (off-at checks 0 fault.NoMemory off);
      whole = whole-region base end (whole-from base ends.0) (whole-from end ends.1);
      fresh = off-at checks 2 fault.NoMemory off;
      few = ltb-false ENTRY_LIMIT (p.entries + entry_count p base end) (off-at checks 3 fault.NoMemory off);
    }

pub data-accepted : (p : Planned) (base count : ℕ) → holds (data_checks p base count) ≡ false → AcceptsData p base count
data-accepted p base count off =
    let checks = data_checks p base count in
    record {
      inside = ltb-false p.space.protected_end (base + 4096 * count) (off-at checks 0 fault.NoMemory off);
      whole = whole-from base (off-at checks 1 fault.NoMemory off);
      in_ram = not-false (list_all (is_ram p.space.ram) (granules count base)) (off-at checks 2 fault.NoMemory off);
      fresh = off-at checks 3 fault.NoMemory off;
    }

pub region-planned : (p : Planned) (base end : ℕ) (acts : List Act) → plan_region p base end ≡ Ok acts
    → AcceptsRegion p base end × (acts ≡ region_acts p base end)
unfolding plan_region
region-planned p base end acts at =
    let off : holds (region_checks p base end) ≡ false = none-holds (region_checks p base end) (region_acts p base end) acts at in
    (region-accepted p base end off, done-is (region_checks p base end) (region_acts p base end) acts at)

pub data-planned : (p : Planned) (base count : ℕ) (acts : List Act) → plan_data p base count ≡ Ok acts
    → AcceptsData p base count × (acts ≡ data_acts p base count)
unfolding plan_data
data-planned p base count acts at =
    let off : holds (data_checks p base count) ≡ false = none-holds (data_checks p base count) (data_acts p base count) acts at in
    (data-accepted p base count off, done-is (data_checks p base count) (data_acts p base count) acts at)
