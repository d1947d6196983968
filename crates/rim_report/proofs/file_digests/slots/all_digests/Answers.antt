use Rattle.std.proofs.Common.{◌≡◌, ◌∙◌, ◌≤◌, List, ℕ, ap, arith, length, take}
use Rattle.std.specs.Prelude.{vec_capacity}
use Rattle.std.proofs.lemmas.List.{length-map, length-take-le}
use Rattle.sha2.specs.Sha256.{sha256}
use Rattle.ipa_layout.specs.Files.{bytes_of_files}
use Rattle.rim_report.proofs.DigestsInSlots.{digests-all, digests-next}
use Rattle.rim_report.proofs.file_digests.slots.all_digests.Goals as goal

pub push_reserved-requires : goal.push_reserved-requires
push_reserved-requires c =
    let files : List (List ℕ) = bytes_of_files c.args.files.now in
    let n = c.loop-number.number in
    let few : n ≤ length files = omega (arith, c.loop-number-test.true, length-map c.args.files.now (λ f. f.items)) in
    let made : length c.loop-number.digests.items ≡ n =
    ap length c.loop-number.invariant.0 ∙ length-map (take n files) sha256 ∙ length-take-le n files few in
    omega (arith, made, c.loop-number.digests.ok.0, c.loop-number.invariant.1, c.loop-number-test.true)

pub loop-number-preserved : goal.loop-number-preserved
loop-number-preserved c =
    let files : List (List ℕ) = bytes_of_files c.args.files.now in
    let room : length c.args.files.now ≤ vec_capacity c.push_reserved.new.self
    = omega (arith, c.push_reserved.ensures.capacity, c.loop-number.invariant.1) in (
      c.push_reserved.ensures.items
          ∙ digests-next files c.loop-number.number c.digest_at.result c.loop-number.digests.items c.digest_at.ensures c.loop-number.invariant.0,
      room,
    )

pub returns : goal.returns
returns c =
    let over : length c.args.files.now ≤ c.loop-number.number = omega (arith, c.loop-number-test.false) in
    c.loop-number.invariant.0 ∙ digests-all c.args.files.now c.loop-number.number over
