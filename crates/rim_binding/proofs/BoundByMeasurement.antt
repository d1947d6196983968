-- A measurement binds the events of a launch, whoever built the realm.
use Rattle.std.proofs.Common.{◌≡◌, ℕ, inl, inr, ◌∙◌, List, [], ◌∷◌, map, refl, sym, ap, subst, arith}
use Rattle.std.specs.List.{All, AllByRecursion}
use Rattle.std.specs.Prelude.{None, Ok, Option, Result, Some, option_map}
use Rattle.std.proofs.lemmas.List.Elements.{All-tail}
use Rattle.std.proofs.lemmas.Option.{same_Some}
use Rattle.rim_desc.specs.Page.{zeros}
use Rattle.rim_desc.specs.Part.{Part, Realm, rim_of}
use Rattle.rim_desc.specs.declared.command.Command.{Command}
use Rattle.rim_desc.specs.declared.measurement.Algo.{Algo}
use Rattle.rim_desc.specs.declared.measurement.Algo.TheVariants.{Sha256}
use Rattle.rim_desc.specs.declared.realm.RealmParams.{RealmParams}
use Rattle.rim_desc.specs.declared.rule.RecRule.{RecRule}
use Rattle.rmm_model.specs.Run.{accepted, run, shown}
use Rattle.rmm_model.specs.State.{State, empty_state}
use Rattle.rmm_model.proofs.RimOfShownParts.{rim-run}
use Rattle.list_model.specs.Entries.{commands_of}
use Rattle.rim_launch.specs.LaunchData.{LaunchData}
use Rattle.ipa_layout.specs.Layout.{PlacedData}
use Rattle.rmi_list.specs.Following.{IsFollowed}
use Rattle.rmi_list.specs.Measured.{measured, page_contents}
use Rattle.rmi_list.proofs.ListIsFollowed.{list-is-followed}
use Rattle.rmi_list.proofs.NoBytePastDigest.{contents-are-good}
use Rattle.rim_accepted.specs.Accepted.{rim_for}
use Rattle.rim_accepted.specs.declared.audit_fault.AuditFault.{AuditFault}
use Rattle.rim_accepted.proofs.AcceptedLaunches.{IsAccepted, accepted-is}
use Rattle.rim_accepted.proofs.LinesAreTrue.{accepted-measured}
use Rattle.rim_binding.specs.Binding.{AlikeHaveOneRim, AnyHost, HasRim, IsRimOf, PartsAreBound, TwoLaunches}
use Rattle.rim_binding.specs.Chain.{IsChained}
use Rattle.rim_binding.specs.Event.{Created, Event, part_of}
use Rattle.rim_binding.specs.HostEvents.{IsBuilt, Memory, host_events}
use Rattle.rim_binding.specs.LaunchEvents.{launch_events}
use Rattle.rim_binding.specs.Widths.{FitsCommand, FitsLaunch}
use Rattle.rim_binding.proofs.AddressesFit.{HasAddresses, IsLow, shown-addressed}
use Rattle.rim_binding.proofs.ChainsFromTheirEnds.{same_realm}
use Rattle.rim_binding.proofs.EventsFromParts.{IsHistory, same_history}
use Rattle.rim_binding.proofs.EventsOfHosts.{Begun, host-run}
use Rattle.rim_binding.proofs.EventsOfLaunches.{launch-parts}
use Rattle.rim_binding.proofs.LaunchesFit.{launch-creation}
use Rattle.rim_binding.proofs.WidthsOfEvents.{history}

each-by-recursion : {A : Type 0} (P : A → Type 0) (xs : List A) → All P xs → AllByRecursion P xs
each-by-recursion P [] fit = tt
each-by-recursion P (x ∷ xs) fit = (fit 0 x (omega arith), each-by-recursion P xs (All-tail P x xs fit))

empty-low : (num_aux : ℕ) (rule : Option RecRule) → IsLow (empty_state num_aux rule)
empty-low num_aux rule = omega arith

-- ---- parts

pub parts-are-bound : PartsAreBound
parts-are-bound algo p q xs ys p_fits q_fits xs_fit ys_fit same =
    elim (same_realm algo (IsChained algo (zeros 64) (Realm p ∷ xs)) (IsChained algo (zeros 64) (Realm q ∷ ys)) p q xs ys p_fits q_fits xs_fit ys_fit
    (λ m m_in. m_in) (λ m m_in. m_in) same) [
      | inl all ↦ inl (λ i. Realm (all.pages i) ∷ all.parts i)
      | inr found ↦ inr found
    ]

-- ---- what a host built

-- a realm's events, with its measurement
pub record IsMeasured (algo : Algo) (rim : List ℕ) (events : List Event) : Type 0 where
  pub is_history : IsHistory events
  pub at : IsRimOf algo rim events

record HasAlgo (algo : Algo) (o : Option RealmParams) : Type 0 where
  params : RealmParams
  there : o ≡ Some params
  same : params.algo ≡ algo

has-algo : (algo : Algo) (o : Option RealmParams) → option_map (λ (p : RealmParams). p.algo) o ≡ Some algo → HasAlgo algo o
has-algo algo None same = absurd (cc)
has-algo algo (Some p) same = record { params = p; there = refl; same = same_Some p.algo algo same }

pub host-measured : (num_aux : ℕ) (rule : Option RecRule) (memory : Memory) (commands : List Command) (algo : Algo) (rim : List ℕ) → All FitsCommand commands
    → IsBuilt num_aux rule memory commands algo rim → IsMeasured algo rim (host_events memory (empty_state num_aux rule) commands)
host-measured num_aux rule memory commands algo rim fit built =
    let s : State = empty_state num_aux rule in
    let begun : Begun memory algo s commands =
    host-run memory algo num_aux rule commands built.accepted (each-by-recursion FitsCommand commands fit) built.pages built.algo in
    let addresses : AllByRecursion HasAddresses (map (part_of algo) (host_events memory s commands)) =
    subst (AllByRecursion HasAddresses) begun.parts (shown-addressed commands s (empty-low num_aux rule) built.accepted) in
    let realm : HasAlgo algo (run s commands).params = has-algo algo (run s commands).params built.algo in
    let rims : rim ≡ rim_of realm.params.algo (shown s commands) =
    same_Some rim (rim_of realm.params.algo (shown s commands)) (sym built.rim ∙ rim-run num_aux rule commands realm.params realm.there) in
    record {
      is_history = history algo (host_events memory s commands) begun.creation addresses;
      at = rims ∙ (λ i. rim_of (realm.same i) (begun.parts i));
    }

-- ---- an accepted launch

one-answer : (r : Result (List ℕ) AuditFault) (m n : List ℕ) → r ≡ Ok m → r ≡ Ok n → m ≡ n
one-answer r m n first second = cc

pub launch-rim : (files : List (List ℕ)) (l : LaunchData) (p : PlacedData) (rim : List ℕ) → HasRim files l p rim
    → IsRimOf l.config.algo rim (launch_events files l p)
launch-rim files l p rim has =
    one-answer (rim_for l files) rim (rim_of l.config.algo (measured l p (page_contents l files p))) has.rim (accepted-measured files l p has.accepted)
    ∙ ap (rim_of l.config.algo) (launch-parts files l p)

launch-measured : (files : List (List ℕ)) (l : LaunchData) (p : PlacedData) (rim : List ℕ) → FitsLaunch files l p → HasRim files l p rim
    → IsMeasured l.config.algo rim (launch_events files l p)
launch-measured files l p rim fits has =
    let is : IsAccepted l files p = accepted-is l files p has.accepted in
    let s : State = empty_state l.config.num_aux l.config.rec_rule in
    let commands : List Command = commands_of (page_contents l files p) is.entries in
    let followed : IsFollowed l.config.algo l.config.num_aux l.config.rec_rule commands (measured l p (page_contents l files p)) =
    list-is-followed l p (page_contents l files p) is.entries (contents-are-good l files p) is.listed in
    let addresses : AllByRecursion HasAddresses (map (part_of l.config.algo) (launch_events files l p)) =
    subst (AllByRecursion HasAddresses) (followed.shown ∙ launch-parts files l p)
    (shown-addressed commands s (empty-low l.config.num_aux l.config.rec_rule) followed.accepted) in
    record {
      is_history = history l.config.algo (launch_events files l p) (launch-creation files l p fits) addresses;
      at = launch-rim files l p rim has;
    }

pub any-host : (files : List (List ℕ)) (l : LaunchData) (p : PlacedData) (commands : List Command) → FitsLaunch files l p → All FitsCommand commands
    → AnyHost files l p commands
any-host files l p commands fits fit num_aux rule memory rim has built =
    let host : IsMeasured l.config.algo rim (host_events memory (empty_state num_aux rule) commands) =
    host-measured num_aux rule memory commands l.config.algo rim fit built in
    let launch : IsMeasured l.config.algo rim (launch_events files l p) = launch-measured files l p rim fits has in
    same_history l.config.algo (host_events memory (empty_state num_aux rule) commands) (launch_events files l p) host.is_history launch.is_history
    (sym host.at ∙ launch.at)

pub two-launches : (files files2 : List (List ℕ)) (l l2 : LaunchData) (p p2 : PlacedData) → FitsLaunch files l p → FitsLaunch files2 l2 p2
    → TwoLaunches files l p files2 l2 p2
two-launches files files2 l l2 p p2 fits fits2 rim algo has has2 =
    let first : IsMeasured l.config.algo rim (launch_events files l p) = launch-measured files l p rim fits has in
    let second : IsMeasured l.config.algo rim (launch_events files2 l2 p2) =
    subst (λ (a : Algo). IsMeasured a rim (launch_events files2 l2 p2)) (sym algo) (launch-measured files2 l2 p2 rim fits2 has2) in
    same_history l.config.algo (launch_events files l p) (launch_events files2 l2 p2) first.is_history second.is_history (sym first.at ∙ second.at)

-- ---- the other direction

algo_in : List Event → Algo
algo_in (Created m ∷ events) = m.algo
algo_in _ = Sha256

pub alike-have-one-rim : AlikeHaveOneRim
unfolding algo_in
alike-have-one-rim files files2 l l2 p p2 accepted accepted2 alike =
    let algo : l.config.algo ≡ l2.config.algo = ap algo_in alike in
    accepted-measured files l p accepted
    ∙ ap (λ (ps : List Part). Ok (rim_of l.config.algo ps)) (launch-parts files l p)
    ∙ (λ i. Ok (rim_of (algo i) (map (part_of (algo i)) (alike i))))
    ∙ ap (λ (ps : List Part). Ok (rim_of l2.config.algo ps)) (sym (launch-parts files2 l2 p2))
    ∙ sym (accepted-measured files2 l2 p2 accepted2)
