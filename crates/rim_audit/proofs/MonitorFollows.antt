-- A monitor takes each command of a launch in its turn, so a refusal is want of memory.
use Rattle.std.proofs.Common.{inl, inr, ◌≡◌, ℕ, ◌+◌, ◌∙◌, zero, suc, true, List, [], ◌∷◌, length, take, ap, sym, subst, arith}
use Rattle.std.specs.Prelude.{Option, Some, None, option_map, Ok, Err, IsOk, Result, is_ok, ◌⊎◌}
use Rattle.std.specs.List.{slice_get}
use Rattle.std.proofs.lemmas.Bool.{and_parts}
use Rattle.std.proofs.lemmas.List.{take_all}
use Rattle.std.proofs.lemmas.Option.{same_Some}
use Rattle.rim_desc.specs.declared.command.Command.{Command}
use Rattle.rim_desc.specs.declared.measurement.Measurement.{Measurement}
use Rattle.rmm_model.specs.declared.outcome.Refused.{Refused}
use Rattle.rmm_model.specs.Run.{accepted, after, run}
use Rattle.rmm_model.specs.State.{State, empty_state}
use Rattle.rmm_model.specs.Step.{step}
use Rattle.rmi_list.proofs.NoBytePastDigest.{contents-are-good}
use Rattle.rmi_list.proofs.ListIsFollowed.{list-is-followed}
use Rattle.rmi_list.specs.Following.{IsFollowed}
use Rattle.rmi_list.specs.Measured.{page_contents, measured}
use Rattle.ipa_layout.specs.Files.{bytes_of_files}
use Rattle.rim_audit.specs.declared.commands.LaunchCommands.{LaunchCommands}
use Rattle.rim_audit.specs.inside.Commands.{commands_in, state_after}

-- a command of a list that is accepted is taken in its turn
pub taken-in-turn : (s : State) (cs : List Command) (i : ℕ) (c : Command) → accepted s cs ≡ true → slice_get cs i ≡ Some c
    → is_ok (step (run s (take i cs)) c) ≡ true
unfolding accepted run
taken-in-turn s [] i c ok at = absurd (cc)
taken-in-turn s (x ∷ cs) zero c ok at = let same : x ≡ c = same_Some x c at in subst (λ (y : Command). is_ok (step s y) ≡ true) same (and_parts _ _ ok).0
taken-in-turn s (x ∷ cs) (suc i) c ok at = taken-in-turn (after s (step s x)) cs i c (and_parts _ _ ok).1 at

-- where it leads
pub led-on : (s next : State) (cs : List Command) (i : ℕ) (c : Command) → slice_get cs i ≡ Some c → step (run s (take i cs)) c ≡ Ok next
    → next ≡ run s (take (suc i) cs)
unfolding run
led-on s next [] i c at taken = absurd (cc)
led-on s next (x ∷ cs) zero c at taken =
    let same : x ≡ c = same_Some x c at in
    ap (after s) (sym taken ∙ ap (step s) (sym same))
led-on s next (x ∷ cs) (suc i) c at taken = led-on (after s (step s x)) next cs i c at taken

module _ (l : LaunchCommands) where
  pub followed : IsFollowed l.accepted.named.now.launch.config.algo l.accepted.named.now.launch.config.num_aux l.accepted.named.now.launch.config.rec_rule
      (commands_in l)
      (measured l.accepted.named.now.launch l.accepted.placed
      (page_contents l.accepted.named.now.launch (bytes_of_files l.accepted.files.now) l.accepted.placed))
  followed =
      list-is-followed l.accepted.named.now.launch l.accepted.placed
      (page_contents l.accepted.named.now.launch (bytes_of_files l.accepted.files.now) l.accepted.placed) l.plan
      (contents-are-good l.accepted.named.now.launch (bytes_of_files l.accepted.files.now) l.accepted.placed) l.is_listed

  pub never-refused : (i : ℕ) (c : Command) → slice_get (commands_in l) i ≡ Some c → is_ok (step (state_after l i) c) ≡ true
  never-refused i c at =
      taken-in-turn (empty_state l.accepted.named.now.launch.config.num_aux l.accepted.named.now.launch.config.rec_rule)
      (commands_in l) i c followed.accepted at

  pub given : (i : ℕ) (c : Command) (next : State) → slice_get (commands_in l) i ≡ Some c → step (state_after l i) c ≡ Ok next → next ≡ state_after l (i + 1)
  given i c next at taken =
      let same : suc i ≡ i + 1 = omega arith in
      led-on (empty_state l.accepted.named.now.launch.config.num_aux l.accepted.named.now.launch.config.rec_rule) next (commands_in l) i c at taken
      ∙ ap (state_after l) same

  pub all-given : state_after l (length (commands_in l)) ≡ run (empty_state l.accepted.named.now.launch.config.num_aux
      l.accepted.named.now.launch.config.rec_rule)
      (commands_in l)
  all-given =
      ap (run (empty_state l.accepted.named.now.launch.config.num_aux l.accepted.named.now.launch.config.rec_rule))
      (take_all (length (commands_in l)) (commands_in l) (omega arith))

  -- the monitor holds a measurement then
  pub has-rim : (s : State) (rim : Option Measurement) → s ≡ state_after l (length (commands_in l)) → option_map (λ m. m.bytes) rim ≡ s.rim → rim ≡ None → ⊥
  has-rim s rim at shown none =
      let no : option_map (λ m. m.bytes) (let no_rim : Option Measurement = None in no_rim) ≡ Some _
      = ap (option_map (λ (m : Measurement). m.bytes)) (sym none) ∙ shown ∙ ap (λ (t : State). t.rim) (at ∙ all-given) ∙ followed.rim in
      absurd (cc)

-- where a command is taken in its turn, a refusal can be want of memory alone
pub only-memory : (taken : Result State Refused) (e full : Refused) → is_ok taken ≡ true → (((e ≡ full) × IsOk taken) ⊎ (taken ≡ Err e)) → e ≡ full
only-memory taken e full ok (inl memory) = memory.0
only-memory taken e full ok (inr refused) =
    absurd (let refusal : Result State Refused = Err e in let no : is_ok refusal ≡ true = ap is_ok (sym refused) ∙ ok in cc)
