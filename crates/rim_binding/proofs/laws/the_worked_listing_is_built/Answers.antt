use Rattle.std.proofs.Common.{◌≡◌, true, List, refl, ap, ◌∙◌}
use Rattle.std.specs.Prelude.{None, Option, Some, option_map}
use Rattle.rim_desc.specs.Part.{Part, rim_of}
use Rattle.rim_desc.specs.declared.measurement.Algo.TheVariants.{Sha256}
use Rattle.rim_desc.specs.declared.realm.RealmParams.{RealmParams}
use Rattle.rmm_model.specs.Blocks.{granules, size, stretches}
use Rattle.rmm_model.specs.Listing.{worked_listing, worked_params, worked_parts}
use Rattle.rmm_model.specs.Owners.{give_all}
use Rattle.rmm_model.specs.Run.{accepted, run, shown}
use Rattle.rmm_model.specs.Space.{walk}
use Rattle.rmm_model.specs.State.{empty_state}
use Rattle.rmm_model.proofs.RimOfShownParts.{rim-run}
use Rattle.rim_binding.specs.HostEvents.{host_events}
use Rattle.rim_binding.proofs.laws.the_worked_listing_is_built.Goals as goal

all-taken : accepted (empty_state 0 None) worked_listing ≡ true
unfolding accepted run granules size stretches walk give_all
all-taken = refl

same-params : (run (empty_state 0 None) worked_listing).params ≡ Some worked_params
unfolding run granules size stretches walk give_all
same-params = refl

same-parts : shown (empty_state 0 None) worked_listing ≡ worked_parts
unfolding shown run granules size stretches walk give_all
same-parts = refl

pub returns-clause-built : goal.returns-clause-built
returns-clause-built c = λ memory. record {
  accepted = all-taken;
  pages = (tt, (tt, (tt, (tt, (tt, (tt, (tt, (tt, (tt, (tt, (tt, (tt, tt))))))))))));
  algo = ap (λ (o : Option RealmParams). option_map (λ (p : RealmParams). p.algo) o) same-params;
  rim = rim-run 0 None worked_listing worked_params same-params ∙ ap (λ (ps : List Part). Some (rim_of Sha256 ps)) same-parts;
}

pub returns-clause-events : goal.returns-clause-events
unfolding host_events granules size stretches walk give_all
returns-clause-events c = λ memory. refl
