-- The pages of the links of steps are the first ones of their items.
use Rattle.std.proofs.Common.{inl, inr, ◌⊎◌, ◌≡◌, ℕ, refl, Bool, true, false, eqb, List, [], ◌∷◌, map}
use Rattle.std.specs.Prelude.{Option, None, Some, if◌then◌else◌}
use Rattle.std.specs.List.{All, flat_map, slice_get}
use Rattle.std.proofs.lemmas.Bool.{cases_Bool}
use Rattle.std.proofs.lemmas.List.Elements.{All-append, All-cons, All-nil}
use Rattle.rim_desc.specs.declared.measurement.Algo.{Algo}
use Rattle.rtt_plan.specs.Runs.{runs_of}
use Rattle.rtt_plan.specs.declared.run.Run.{Run}
use Rattle.rim_launch.specs.LaunchData.{LaunchData}
use Rattle.rim_launch.specs.declared.item.Region.{Region}
use Rattle.rim_launch.specs.declared.step.Step.{Step}
use Rattle.rim_launch.specs.declared.step.Step.TheVariants as step
use Rattle.ipa_layout.specs.Layout.{PlacedData}
use Rattle.ipa_layout.specs.declared.placed.PlacedItem.{PlacedItem}
use Rattle.ipa_layout.specs.declared.rec.PlacedRec.{PlacedRec}
use Rattle.rmi_list.specs.Measured.{least_level}
use Rattle.rim_desc.specs.declared.source.Source.{Source}
use Rattle.rim_desc.specs.Rule.{extends}
use Rattle.rim_desc.specs.Measurement.{measurement_of}
use Rattle.rim_desc.specs.Rec.{rec_page_of}
use Rattle.rmi_list.specs.RecParams.{rec_params}
use Rattle.rim_desc.specs.declared.rule.RecRule.{RecRule}
use Rattle.launch_plan.specs.declared.link.Link.TheVariants as link
use Rattle.launch_plan.specs.Fitting.{BeginsItem}
use Rattle.launch_plan.specs.inside.Steps.{item_links, pages_link, rec_links, region_links, run_link, source_links, step_links}

runs-begin : (rs : List Run) → All BeginsItem (map run_link rs)
runs-begin [] = All-nil BeginsItem
runs-begin (r ∷ rs) = All-cons BeginsItem (run_link r) (map run_link rs) tt (runs-begin rs)

region-begins : (level : ℕ) (o : Option Region) → All BeginsItem (region_links level o)
region-begins level None = All-nil BeginsItem
region-begins level (Some r) = runs-begin (runs_of r.base r.end level)

item-begins : (algo : Algo) (o : Option PlacedItem) → All BeginsItem (item_links algo o)
item-begins algo None = All-nil BeginsItem
item-begins algo (Some item) = by_pages (cases_Bool (eqb item.pages 0))
  where
    by_measured : (source : Source) (b : Bool) → item.measured ≡ b → BeginsItem (pages_link algo item source)
    by_measured source true e = rw e refl
    by_measured source false e = rw e tt

    by_source : (s : Option Source) → All BeginsItem (source_links algo item s)
    by_source None = All-nil BeginsItem
    by_source (Some source) = All-cons BeginsItem (pages_link algo item source) [] (by_measured source item.measured refl) (All-nil BeginsItem)

    by_pages : (eqb item.pages 0 ≡ true) ⊎ (eqb item.pages 0 ≡ false) → All BeginsItem (item_links algo (Some item))
    by_pages (inl none) = rw none (All-nil BeginsItem)
    by_pages (inr some) = rw some (by_source item.source)

rec-begins : (rule : Option RecRule) (algo : Algo) (o : Option PlacedRec) → All BeginsItem (rec_links rule algo o)
rec-begins rule algo None = All-nil BeginsItem
rec-begins rule algo (Some r) = by_rule (extends rule r.runnable)
  where
    by_rule : (b : Bool) → All BeginsItem (if b then link.Rec (record { bytes = measurement_of algo (rec_page_of (rec_params 0 r [])) }) ∷ [] else [])
    by_rule true = All-cons BeginsItem _ [] tt (All-nil BeginsItem)
    by_rule false = All-nil BeginsItem

step-begins : (l : LaunchData) (p : PlacedData) (s : Step) → All BeginsItem (step_links l p s)
step-begins l p (step.Ram n) = region-begins (least_level l.config) (slice_get l.ram n)
step-begins l p (step.Item n) = item-begins l.config.algo (slice_get p.items n)
step-begins l p (step.Rec n) = rec-begins l.config.rec_rule l.config.algo (slice_get p.recs n)

pub steps-begin : (l : LaunchData) (p : PlacedData) (ss : List Step) → All BeginsItem (flat_map (step_links l p) ss)
steps-begin l p [] = All-nil BeginsItem
steps-begin l p (s ∷ ss) = All-append BeginsItem (step_links l p s) (flat_map (step_links l p) ss) (step-begins l p s) (steps-begin l p ss)
