-- Contents have no byte past the digest of the algorithm.
use Rattle.std.proofs.Common.{◌≡◌, ℕ, refl, ap, sym, ◌∙◌, false, List, [], ◌++◌}
use Rattle.std.specs.Prelude.{Option, Some, None, drop}
use Rattle.std.specs.List.{slice_get}
use Rattle.std.proofs.Math.Seq.{drop-append_seam}
use Rattle.sha2.specs.Sha256.{sha256}
use Rattle.sha2.proofs.Facts256.{length-sha256}
use Rattle.rim_desc.specs.Page.{zeros}
use Rattle.rim_desc.specs.Measurement.{measurement_of}
use Rattle.rim_desc.specs.declared.measurement.Algo.{Algo}
use Rattle.rim_desc.specs.declared.measurement.Algo.TheVariants.{Sha256, Sha512}
use Rattle.rim_desc.specs.declared.measurement.Measurement.{Measurement}
use Rattle.rim_desc.specs.declared.source.Source.{Source}
use Rattle.rmm_model.specs.Checks.{is_bad_content}
use Rattle.list_model.specs.Parts.{AreContents}
use Rattle.rim_launch.specs.LaunchData.{LaunchData}
use Rattle.ipa_layout.specs.Layout.{PlacedData}
use Rattle.ipa_layout.specs.declared.placed.PlacedItem.{PlacedItem}
use Rattle.rmi_list.specs.Measured.{page_contents, item_page_digest, source_page_digest}

zeros-after : (m : List ℕ) → drop 32 (sha256 m ++ zeros 32) ≡ zeros 32
zeros-after m = ap (λ n. drop n (sha256 m ++ zeros 32)) (sym (length-sha256 m)) ∙ drop-append_seam (sha256 m) (zeros 32)

good : (algo : Algo) (m : List ℕ) → is_bad_content algo (Some (let c : Measurement = record { bytes = measurement_of algo m } in c)) ≡ false
unfolding zeros
good Sha256 m = rw (zeros-after m) refl
good Sha512 m = refl

none : (algo : Algo) → is_bad_content algo (Some (let c : Measurement = record { bytes = [] } in c)) ≡ false
none Sha256 = refl
none Sha512 = refl

pub contents-are-good : (l : LaunchData) (files : List (List ℕ)) (p : PlacedData) → AreContents l.config.algo (page_contents l files p)
contents-are-good l files p item page = by_item (slice_get p.items item)
  where
    by_item : (o : Option PlacedItem) → is_bad_content l.config.algo (Some (let c : Measurement = record { bytes = item_page_digest l.config.algo files p o page } in c)) ≡ false
    by_item None = none l.config.algo
    by_item (Some i) = by_source i.source
      where
        by_source : (o : Option Source) → is_bad_content l.config.algo (Some (let c : Measurement = record { bytes = source_page_digest l.config.algo files p i.lead o page } in c)) ≡ false
        by_source None = none l.config.algo
        by_source (Some source) = good l.config.algo _
