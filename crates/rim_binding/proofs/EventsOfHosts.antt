-- What accepted commands measure is the parts of the host's events, and these begin with the realm's creation, which is the only one.
use Rattle.std.proofs.Common.{◌≡◌, ℕ, ◌-◌, ◌/◌, inl, inr, ◌∙◌, true, false, List, [], ◌∷◌, ◌++◌, map, refl, sym, ap, subst}
use Rattle.std.specs.List.{AllByRecursion}
use Rattle.std.specs.Prelude.{None, Ok, Option, Some, option_map}
use Rattle.std.proofs.lemmas.Bool.{cases_Bool, not-false}
use Rattle.std.proofs.lemmas.List.{map-append}
use Rattle.std.proofs.lemmas.Option.{same_Some}
use Rattle.std.proofs.lemmas.Simd.{map-map}
use Rattle.rim_desc.specs.Part.{Data, Part}
use Rattle.rim_desc.specs.Rule.{extends}
use Rattle.rim_desc.specs.declared.command.Command.{Command}
use Rattle.rim_desc.specs.declared.command.Command.TheVariants.{Activate, DataCreate, DataCreateUnknown, Delegate, InitRipas, RealmCreate, RecCreate, RttCreate}
use Rattle.rim_desc.specs.declared.measurement.Algo.{Algo}
use Rattle.rim_desc.specs.declared.realm.RealmParams.{RealmParams}
use Rattle.rim_desc.specs.declared.rule.RecRule.{RecRule}
use Rattle.rmm_model.specs.declared.outcome.Phase.{Phase}
use Rattle.rmm_model.specs.declared.outcome.Phase.TheVariants.{Active, Empty, New}
use Rattle.rmm_model.specs.declared.outcome.Refused.TheVariants as refusal
use Rattle.rmm_model.specs.Blocks.{size, stretches}
use Rattle.rmm_model.specs.Checks.{checks, walk_of}
use Rattle.rmm_model.specs.Effects.{changed, is_runnable, measured, parts, rec_parts}
use Rattle.rmm_model.specs.Run.{accepted, run, shown}
use Rattle.rmm_model.specs.State.{State, algo_of, empty_state, is_empty, is_new}
use Rattle.rmm_model.specs.Step.{step}
use Rattle.rmm_model.proofs.AnswersOfChecks.{holds, off-at}
use Rattle.rmm_model.proofs.ListAfterList.{run-taken, shown-taken}
use Rattle.rim_accepted.proofs.PagesOfItems.{each-append}
use Rattle.rim_binding.specs.Event.{BecameRam, Created, Event, measured_params, part_of}
use Rattle.rim_binding.specs.Widths.{FitsCommand}
use Rattle.rim_binding.specs.HostEvents.{IsMeasuredPage, Memory, command_events, host_events}
use Rattle.rim_binding.proofs.AddressesFit.{Taken, next, taken}
use Rattle.rim_binding.proofs.EventsFromParts.{created-rec, created-realm}
use Rattle.rim_binding.proofs.WidthsOfEvents.{FitsInside, HasCreation}

host-events-taken : (memory : Memory) (s : State) (c : Command) (cs : List Command) → step s c ≡ Ok (next s c)
    → host_events memory s (c ∷ cs) ≡ command_events memory s c ++ host_events memory (next s c) cs
unfolding host_events
host-events-taken memory s c cs at = rw at refl

-- ---- one command

ranges-inside : (ranges : List (ℕ × ℕ)) → AllByRecursion FitsInside (map (λ (r : ℕ × ℕ). BecameRam r.0 r.1) ranges)
ranges-inside [] = tt
ranges-inside (r ∷ ranges) = (tt, ranges-inside ranges)

-- a realm with these parameters
record Live (q : RealmParams) (s : State) : Type 0 where
  phase : is_empty s.phase ≡ false
  params : s.params ≡ Some q

measured-live : (q : RealmParams) (s : State) (ps : List Part) → Live q s → Live q (measured s ps)
measured-live q s [] live = live
measured-live q s (part ∷ ps) live = record { phase = live.phase; params = live.params }

not-again : (q : RealmParams) (s : State) (rd : ℕ) (p : RealmParams) → Live q s → holds (checks s (RealmCreate rd p)) ≡ false → ⊥
not-again q s rd p live off =
    let phase : is_empty s.phase ≡ false = live.phase in
    let bare : is_empty s.phase ≡ true = not-false (is_empty s.phase) (off-at (checks s (RealmCreate rd p)) 0 refusal.State off) in
    absurd (cc)

changed-live : (q : RealmParams) (s : State) (c : Command) → Live q s → holds (checks s c) ≡ false → Live q (changed s c)
changed-live q s (Delegate granule) live off = record { phase = live.phase; params = live.params }
changed-live q s (RealmCreate rd p) live off = absurd (not-again q s rd p live off)
changed-live q s (RttCreate rtt ipa level) live off = record { phase = live.phase; params = live.params }
changed-live q s (InitRipas base top) live off = record { phase = live.phase; params = live.params }
changed-live q s (DataCreate granule ipa content) live off = record { phase = live.phase; params = live.params }
changed-live q s (DataCreateUnknown granule ipa) live off = record { phase = live.phase; params = live.params }
changed-live q s (RecCreate rec params) live off = record { phase = live.phase; params = live.params }
changed-live q s Activate live off = record { phase = refl; params = live.params }

command-inside : (memory : Memory) (q : RealmParams) (s : State) (c : Command) → Live q s → holds (checks s c) ≡ false → FitsCommand c
    → AllByRecursion FitsInside (command_events memory s c)
command-inside memory q s (Delegate granule) live off fits = tt
command-inside memory q s (RealmCreate rd p) live off fits = absurd (not-again q s rd p live off)
command-inside memory q s (RttCreate rtt ipa level) live off fits = tt
command-inside memory q s (InitRipas base top) live off fits =
    let entry : ℕ = size (walk_of s.space base) in ranges-inside (stretches ((top - base) / entry) entry base)
command-inside memory q s (DataCreate granule ipa None) live off fits = (tt, tt)
command-inside memory q s (DataCreate granule ipa (Some content)) live off fits = (memory.is_page ipa, tt)
command-inside memory q s (DataCreateUnknown granule ipa) live off fits = tt
command-inside memory q s (RecCreate rec params) live off fits = elim (cases_Bool (extends s.rule (is_runnable params.flags))) [
  | inl on ↦ rw on (fits, tt)
  | inr none ↦ rw none tt
]
command-inside memory q s Activate live off fits = tt

command-parts : (memory : Memory) (q : RealmParams) (s : State) (c : Command) → s.params ≡ Some q → IsMeasuredPage q.algo memory c
    → parts s c ≡ map (part_of q.algo) (command_events memory s c)
command-parts memory q s (Delegate granule) params page = refl
command-parts memory q s (RealmCreate rd p) params page = ap (λ (x : Part). x ∷ []) (created-realm p)
command-parts memory q s (RttCreate rtt ipa level) params page = refl
command-parts memory q s (InitRipas base top) params page =
    let entry : ℕ = size (walk_of s.space base) in
    sym (map-map (part_of q.algo) (λ (r : ℕ × ℕ). BecameRam r.0 r.1) (stretches ((top - base) / entry) entry base))
command-parts memory q s (DataCreate granule ipa None) params page = refl
command-parts memory q s (DataCreate granule ipa (Some content)) params page = ap (λ (m : List ℕ). Data ipa (Some m) ∷ []) page
command-parts memory q s (DataCreateUnknown granule ipa) params page = refl
command-parts memory q s (RecCreate rec r) params page =
    ap (λ (o : Option RealmParams). rec_parts s.rule (algo_of o) r) params ∙ created-rec (extends s.rule (is_runnable r.flags)) q.algo r
command-parts memory q s Activate params page = refl

-- ---- the commands after the realm's creation

record LiveRun (memory : Memory) (q : RealmParams) (s : State) (cs : List Command) : Type 0 where
  params : (run s cs).params ≡ Some q
  inside : AllByRecursion FitsInside (host_events memory s cs)
  parts : AllByRecursion (IsMeasuredPage q.algo memory) cs → shown s cs ≡ map (part_of q.algo) (host_events memory s cs)

live-run : (memory : Memory) (q : RealmParams) (cs : List Command) (s : State) → Live q s → accepted s cs ≡ true → AllByRecursion FitsCommand cs
    → LiveRun memory q s cs
unfolding run shown host_events
live-run memory q [] s live all fits = record { params = live.params; inside = tt; parts = λ pages. refl }
live-run memory q (c ∷ cs) s live all fits =
    let here : Taken s c cs = taken s c cs all in
    let later : Live q (next s c) = measured-live q (changed s c) (parts s c) (changed-live q s c live here.off) in
    let rest : LiveRun memory q (next s c) cs = live-run memory q cs (next s c) later here.others fits.1 in
    let events : host_events memory s (c ∷ cs) ≡ command_events memory s c ++ host_events memory (next s c) cs = host-events-taken memory s c cs here.at in
    record {
      params = ap (λ (t : State). t.params) (run-taken s (next s c) c cs here.at) ∙ rest.params;
      inside = subst (AllByRecursion FitsInside) (sym events)
          (each-append FitsInside (command_events memory s c) (host_events memory (next s c) cs)
          (command-inside memory q s c live here.off fits.0) rest.inside);
      parts = λ pages. shown-taken s (next s c) c cs here.at
          ∙ (λ i. command-parts memory q s c live.params pages.0 i ++ rest.parts pages.1 i)
          ∙ sym (map-append (part_of q.algo) (command_events memory s c) (host_events memory (next s c) cs))
          ∙ ap (map (part_of q.algo)) (sym events);
    }

-- ---- all commands, from a state without a realm

record Bare (s : State) : Type 0 where
  phase : is_empty s.phase ≡ true
  params : s.params ≡ None

not-new : (phase : Phase) → is_empty phase ≡ true → is_new phase ≡ true → ⊥
not-new Empty empty new = absurd (cc)
not-new New empty new = absurd (cc)
not-new Active empty new = absurd (cc)

pub record Begun (memory : Memory) (algo : Algo) (s : State) (cs : List Command) : Type 0 where
  pub creation : HasCreation (host_events memory s cs)
  pub parts : shown s cs ≡ map (part_of algo) (host_events memory s cs)

created-run : (memory : Memory) (algo : Algo) (rd : ℕ) (p : RealmParams) (cs : List Command) (s : State) → accepted s (RealmCreate rd p ∷ cs) ≡ true
    → AllByRecursion FitsCommand (RealmCreate rd p ∷ cs) → AllByRecursion (IsMeasuredPage algo memory) cs
    → option_map (λ (q : RealmParams). q.algo) (run s (RealmCreate rd p ∷ cs)).params ≡ Some algo → Begun memory algo s (RealmCreate rd p ∷ cs)
created-run memory algo rd p cs s all fits pages by_algo =
    let c : Command = RealmCreate rd p in
    let here : Taken s c cs = taken s c cs all in
    let live : Live p (next s c) = measured-live p (changed s c) (parts s c) (record { phase = refl; params = refl }) in
    let rest : LiveRun memory p (next s c) cs = live-run memory p cs (next s c) live here.others fits.1 in
    let events : host_events memory s (c ∷ cs) ≡ Created (measured_params p) ∷ host_events memory (next s c) cs = host-events-taken memory s c cs here.at in
    let params : (run s (c ∷ cs)).params ≡ Some p = ap (λ (t : State). t.params) (run-taken s (next s c) c cs here.at) ∙ rest.params in
    let same : p.algo ≡ algo =
    same_Some p.algo algo (sym (ap (option_map (λ (q : RealmParams). q.algo)) params) ∙ by_algo) in
    let others : shown (next s c) cs ≡ map (part_of p.algo) (host_events memory (next s c) cs) =
    rest.parts (subst (λ (a : Algo). AllByRecursion (IsMeasuredPage a memory) cs) (sym same) pages) in
    let whole : shown s (c ∷ cs) ≡ map (part_of p.algo) (host_events memory s (c ∷ cs)) =
    shown-taken s (next s c) c cs here.at ∙ (λ i. created-realm p i ∷ others i) ∙ ap (map (part_of p.algo)) (sym events) in
    record {
      creation = record {
        params = measured_params p;
        others = host_events memory (next s c) cs;
        created = events;
        params_fit = fits.0;
        inside = rest.inside;
      };
      parts = subst (λ (a : Algo). shown s (c ∷ cs) ≡ map (part_of a) (host_events memory s (c ∷ cs))) same whole;
    }

bare-run : (memory : Memory) (algo : Algo) (cs : List Command) (s : State) → Bare s → accepted s cs ≡ true → AllByRecursion FitsCommand cs
    → AllByRecursion (IsMeasuredPage algo memory) cs → option_map (λ (q : RealmParams). q.algo) (run s cs).params ≡ Some algo → Begun memory algo s cs
unfolding run
bare-run memory algo [] s bare all fits pages by_algo =
    let none : option_map (λ (q : RealmParams). q.algo) s.params ≡ None = ap (option_map (λ (q : RealmParams). q.algo)) bare.params in
    absurd (cc)
bare-run memory algo (Delegate granule ∷ cs) s bare all fits pages by_algo =
    let c : Command = Delegate granule in
    let here : Taken s c cs = taken s c cs all in
    let later : Bare (next s c) = record { phase = bare.phase; params = bare.params } in
    let rest : Begun memory algo (next s c) cs = bare-run memory algo cs (next s c) later here.others fits.1 pages.1
    (ap (λ (t : State). option_map (λ (q : RealmParams). q.algo) t.params) (sym (run-taken s (next s c) c cs here.at)) ∙ by_algo) in
    let events : host_events memory s (c ∷ cs) ≡ host_events memory (next s c) cs = host-events-taken memory s c cs here.at in
    record {
      creation = subst HasCreation (sym events) rest.creation;
      parts = shown-taken s (next s c) c cs here.at ∙ rest.parts ∙ ap (map (part_of algo)) (sym events);
    }
bare-run memory algo (RealmCreate rd p ∷ cs) s bare all fits pages by_algo = created-run memory algo rd p cs s all fits pages.1 by_algo
bare-run memory algo (RttCreate rtt ipa level ∷ cs) s bare all fits pages by_algo =
    let here : Taken s (RttCreate rtt ipa level) cs = taken s (RttCreate rtt ipa level) cs all in
    let phase : is_empty s.phase ≡ true = bare.phase in
    let off : is_empty s.phase ≡ false = off-at (checks s (RttCreate rtt ipa level)) 0 refusal.State here.off in
    absurd (cc)
bare-run memory algo (InitRipas base top ∷ cs) s bare all fits pages by_algo =
    let here : Taken s (InitRipas base top) cs = taken s (InitRipas base top) cs all in
    absurd (not-new s.phase bare.phase (not-false (is_new s.phase) (off-at (checks s (InitRipas base top)) 0 refusal.State here.off)))
bare-run memory algo (DataCreate granule ipa content ∷ cs) s bare all fits pages by_algo =
    let here : Taken s (DataCreate granule ipa content) cs = taken s (DataCreate granule ipa content) cs all in
    absurd (not-new s.phase bare.phase (not-false (is_new s.phase) (off-at (checks s (DataCreate granule ipa content)) 0 refusal.State here.off)))
bare-run memory algo (DataCreateUnknown granule ipa ∷ cs) s bare all fits pages by_algo =
    let here : Taken s (DataCreateUnknown granule ipa) cs = taken s (DataCreateUnknown granule ipa) cs all in
    let phase : is_empty s.phase ≡ true = bare.phase in
    let off : is_empty s.phase ≡ false = off-at (checks s (DataCreateUnknown granule ipa)) 0 refusal.State here.off in
    absurd (cc)
bare-run memory algo (RecCreate rec params ∷ cs) s bare all fits pages by_algo =
    let here : Taken s (RecCreate rec params) cs = taken s (RecCreate rec params) cs all in
    absurd (not-new s.phase bare.phase (not-false (is_new s.phase) (off-at (checks s (RecCreate rec params)) 0 refusal.State here.off)))
bare-run memory algo (Activate ∷ cs) s bare all fits pages by_algo =
    let here : Taken s Activate cs = taken s Activate cs all in
    absurd (not-new s.phase bare.phase (not-false (is_new s.phase) (off-at (checks s Activate) 0 refusal.State here.off)))

-- from the start state on
pub host-run : (memory : Memory) (algo : Algo) (num_aux : ℕ) (rule : Option RecRule) (cs : List Command) → accepted (empty_state num_aux rule) cs ≡ true
    → AllByRecursion FitsCommand cs → AllByRecursion (IsMeasuredPage algo memory) cs
    → option_map (λ (q : RealmParams). q.algo) (run (empty_state num_aux rule) cs).params ≡ Some algo → Begun memory algo (empty_state num_aux rule) cs
host-run memory algo num_aux rule cs all fits pages by_algo =
    bare-run memory algo cs (empty_state num_aux rule) (record { phase = refl; params = refl }) all fits pages by_algo

-- ---- after activation

active-measured : (s : State) (ps : List Part) → s.phase ≡ Active → (measured s ps).phase ≡ Active
active-measured s [] active = active
active-measured s (part ∷ ps) active = active

-- a command that is taken after activation has no events, and leaves the realm active
record Quiet (memory : Memory) (s : State) (c : Command) : Type 0 where
  none : command_events memory s c ≡ []
  phase : (changed s c).phase ≡ Active

not-active : (phase : Phase) → phase ≡ Active → is_new phase ≡ true → ⊥
not-active Empty active new = absurd (cc)
not-active New active new = absurd (cc)
not-active Active active new = absurd (cc)

not-bare : (phase : Phase) → phase ≡ Active → is_empty phase ≡ true → ⊥
not-bare Empty active empty = absurd (cc)
not-bare New active empty = absurd (cc)
not-bare Active active empty = absurd (cc)

quiet : (memory : Memory) (s : State) (c : Command) → s.phase ≡ Active → holds (checks s c) ≡ false → Quiet memory s c
quiet memory s (Delegate granule) active off = record { none = refl; phase = active }
quiet memory s (RealmCreate rd p) active off =
    absurd (not-bare s.phase active (not-false (is_empty s.phase) (off-at (checks s (RealmCreate rd p)) 0 refusal.State off)))
quiet memory s (RttCreate rtt ipa level) active off = record { none = refl; phase = active }
quiet memory s (InitRipas base top) active off =
    absurd (not-active s.phase active (not-false (is_new s.phase) (off-at (checks s (InitRipas base top)) 0 refusal.State off)))
quiet memory s (DataCreate granule ipa content) active off =
    absurd (not-active s.phase active (not-false (is_new s.phase) (off-at (checks s (DataCreate granule ipa content)) 0 refusal.State off)))
quiet memory s (DataCreateUnknown granule ipa) active off = record { none = refl; phase = active }
quiet memory s (RecCreate rec params) active off =
    absurd (not-active s.phase active (not-false (is_new s.phase) (off-at (checks s (RecCreate rec params)) 0 refusal.State off)))
quiet memory s Activate active off = record { none = refl; phase = refl }

pub active-run : (memory : Memory) (cs : List Command) (s : State) → s.phase ≡ Active → accepted s cs ≡ true → host_events memory s cs ≡ []
unfolding host_events
active-run memory [] s active all = refl
active-run memory (c ∷ cs) s active all =
    let here : Taken s c cs = taken s c cs all in
    let still : Quiet memory s c = quiet memory s c active here.off in
    host-events-taken memory s c cs here.at
    ∙ ap (λ (es : List Event). es ++ host_events memory (next s c) cs) still.none
    ∙ active-run memory cs (next s c) (active-measured (changed s c) (parts s c) still.phase) here.others
