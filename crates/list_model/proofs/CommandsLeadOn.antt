-- Commands that lead a monitor on can be put one after another.
use Rattle.std.proofs.Common.{◌≡◌, ◌∙◌, refl, ap, true, false, ◌&&◌, List, [], ◌∷◌, ◌++◌}
use Rattle.std.specs.Prelude.{Ok}
use Rattle.rim_desc.specs.Part.{Part}
use Rattle.rim_desc.specs.declared.command.Command.{Command}
use Rattle.rmm_model.specs.State.{State, is_empty, is_new}
use Rattle.rmm_model.specs.Effects.{measured, parts}
use Rattle.rmm_model.specs.Step.{step}
use Rattle.rmm_model.specs.Run.{accepted, run, shown}
use Rattle.rmm_model.specs.declared.outcome.Phase.{Phase}
use Rattle.rmm_model.specs.declared.outcome.Phase.TheVariants.{Empty, New, Active}
use Rattle.rmm_model.proofs.ListAfterList.{accepted-append, accepted-taken, run-append, run-taken, shown-append, shown-taken}
use Rattle.list_model.specs.Leading.{Build, Built, IsBuilt, Leads}

pub not-empty : (p : Phase) → is_new p ≡ true → is_empty p ≡ false
not-empty Empty new = absurd (cc)
not-empty New new = refl
not-empty Active new = refl

-- what is measured changes nothing of what is built
pub measured-built : (b : Build) (w : Built) (s : State) (ps : List Part) → IsBuilt b w s → IsBuilt b w (measured s ps)
measured-built b w s [] built = built
measured-built b w s (p ∷ ps) built = record {
  new = built.new;
  params = built.params;
  num_aux = built.num_aux;
  rule = built.rule;
  num_recs = built.num_recs;
  space = built.space;
  some = built.some;
  some_built = built.some_built;
  pool = built.pool;
  free = built.free;
}

pub leads-none : (b : Build) (w : Built) (s : State) → IsBuilt b w s → Leads b w s [] []
unfolding accepted shown run
leads-none b w s built = record { accepted = refl; shown = refl; built = built }

pub leads-cons : (b : Build) (w : Built) (s next : State) (c : Command) (cs : List Command) (ps qs : List Part) → step s c ≡ Ok next → parts s c ≡ ps
    → Leads b w next cs qs → Leads b w s (c ∷ cs) (ps ++ qs)
leads-cons b w s next c cs ps qs at own leads = record {
  accepted = accepted-taken s next c cs at ∙ leads.accepted;
  shown = shown-taken s next c cs at ∙ (ap (λ xs. xs ++ shown next cs) own ∙ ap (λ xs. ps ++ xs) leads.shown);
  built = rw (run-taken s next c cs at) leads.built;
}

pub leads-then : (b : Build) (v w : Built) (s : State) (cs ds : List Command) (ps qs : List Part) → Leads b v s cs ps
    → ((t : State) → IsBuilt b v t → Leads b w t ds qs) → Leads b w s (cs ++ ds) (ps ++ qs)
leads-then b v w s cs ds ps qs first later =
    let second : Leads b w (run s cs) ds qs = later (run s cs) first.built in
    record {
      accepted = accepted-append s cs ds ∙ (ap (λ b. b && accepted (run s cs) ds) first.accepted ∙ second.accepted);
      shown = shown-append s cs ds ∙ (ap (λ xs. xs ++ shown (run s cs) ds) first.shown ∙ ap (λ xs. ps ++ xs) second.shown);
      built = rw (run-append s cs ds) second.built;
    }
