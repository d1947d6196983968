-- A listing of commands that a monitor takes, with the measurement that it holds then, comes to yes.
use Rattle.std.proofs.Common.{◌≡◌, ℕ, ◌+◌, ◌≤◌, ◌∙◌, true, List, [], ◌∷◌, ◌++◌, append_assoc, refl, sym, ap, subst, arith}
use Rattle.std.specs.Prelude.{Err, None, Ok, Option, Result, Some, codes, is_ok, option_map}
use Rattle.std.specs.List.{All, flat_map}
use Rattle.std.proofs.lemmas.Bool.{and_parts}
use Rattle.std.proofs.lemmas.List.Elements.{All-tail}
use Rattle.std.proofs.lemmas.Option.{same_Some}
use Rattle.std.specs.Cmp.Lexicographic.{nat_list_eq_equiv}
use Rattle.rim_desc.specs.Measurement.{algo_word}
use Rattle.rim_desc.specs.declared.command.Command.{Command}
use Rattle.rim_desc.specs.declared.measurement.Algo.{Algo}
use Rattle.rim_desc.specs.declared.measurement.Measurement.{Measurement}
use Rattle.rim_desc.specs.declared.realm.RealmParams.{RealmParams}
use Rattle.rim_desc.specs.declared.rec.TheConstants.{AUX_LIMIT}
use Rattle.rim_desc.specs.declared.rule.RecRule.{RecRule}
use Rattle.rmm_model.specs.Run.{accepted, after, run}
use Rattle.rmm_model.specs.State.{State, empty_state}
use Rattle.rmm_model.specs.Step.{step}
use Rattle.rmm_model.specs.declared.outcome.Refused.{Refused}
use Rattle.rmi_line.specs.Ends.{command_line, digest_bytes, first_line, last_line, listing_text, with_newline}
use Rattle.rmi_line.specs.Line.{line_of}
use Rattle.rmi_line.specs.Typed.{Are64Bytes, IsTyped}
use Rattle.rmi_line.proofs.EndsWordByWord.{first-one_line, last-no_command, last-one_line}
use Rattle.rmi_line.proofs.SpacesPartWords.{line_of-one_line}
use Rattle.rim_replay.specs.Replay.{ReplayAnswer, Replays, Takes, is_held}
use Rattle.rim_replay.proofs.LineByLine.{at-line, first-line}
use Rattle.rim_replay.proofs.PiecesOfTexts.{pieces}

-- the realm has what the last line says
held : (params : Option RealmParams) (rim : Option (List ℕ)) (algo : Algo) (m : Measurement) → option_map (λ p. p.algo) params ≡ Some algo
    → rim ≡ Some m.bytes → is_held params rim algo m ≡ true
held None rim algo m by is = cc
held (Some p) None algo m by is = cc
held (Some p) (Some bytes) algo m by is =
    let same : p.algo ≡ algo = same_Some p.algo algo by in
    let own : bytes ≡ m.bytes = same_Some bytes m.bytes is in
    rw (same, own, nat_list_eq_equiv.refl (algo_word algo), nat_list_eq_equiv.refl (digest_bytes algo m.bytes)) refl

-- a step that is not refused leads on
taken : (r : Result State Refused) → is_ok r ≡ true → (t : State) × (r ≡ Ok t)
taken (Ok t) ok = (t, refl)
taken (Err e) ok = cc

module _ (algo : Algo) (m : Measurement) (fit : Are64Bytes m.bytes) where
  abbrev end : List ℕ
  end = with_newline (last_line algo m.bytes)

  replays : (n : ℕ) (s : State) (cs : List Command) → All IsTyped cs → accepted s cs ≡ true → option_map (λ p. p.algo) (run s cs).params ≡ Some algo
      → (run s cs).rim ≡ Some m.bytes
      → Replays n s (pieces (flat_map command_line cs ++ end)) (Ok tt)
  unfolding accepted run
  replays n s [] typed ok by is =
      at-line n s end (last_line algo m.bytes) [] (Ok tt) None refl (last-one_line algo m.bytes) (last-no_command algo m.bytes)
      (Some (algo, m), (refl, fit), rw (held s.params s.rim algo m by is) refl)
  replays n s (c ∷ cs) typed ok by is =
      let parts = and_parts (is_ok (step s c)) (accepted (after s (step s c)) cs) ok in
      let next = taken (step s c) parts.0 in
      let more : List ℕ = flat_map command_line cs ++ end in
      let text : (command_line c ++ flat_map command_line cs) ++ end ≡ line_of c ++ (10 ∷ more) =
      append_assoc (command_line c) (flat_map command_line cs) end ∙ append_assoc (line_of c) (codes "\n") more in
      let same : after s (step s c) ≡ next.0 = ap (after s) next.1 in
      let rest = replays (n + 1) next.0 cs (All-tail IsTyped c cs typed)
      (ap (λ t. accepted t cs) (sym same) ∙ parts.1)
      (ap (λ t. option_map (λ (p : RealmParams). p.algo) (run t cs).params) (sym same) ∙ by)
      (ap (λ t. (run t cs).rim) (sym same) ∙ is) in
      at-line n s ((command_line c ++ flat_map command_line cs) ++ end) (line_of c) more (Ok tt) (Some c) text (line_of-one_line c)
      (refl, typed 0 c (omega arith))
      (subst (λ (r : Result State Refused). Takes n r (λ t. Replays (n + 1) t (pieces more) (Ok tt)) (Ok tt)) (sym next.1) rest)

pub true-listing : (num_aux : ℕ) (rule : Option RecRule) (commands : List Command) (algo : Algo) (rim : List ℕ) → num_aux ≤ AUX_LIMIT → All IsTyped commands
    → Are64Bytes rim → accepted (empty_state num_aux rule) commands ≡ true
    → option_map (λ p. p.algo) (run (empty_state num_aux rule) commands).params ≡ Some algo → (run (empty_state num_aux rule) commands).rim ≡ Some rim
    → ReplayAnswer (listing_text num_aux rule commands algo rim) (Ok tt)
true-listing num_aux rule commands algo rim few typed fit ok by is =
    let m : Measurement = record { bytes = rim } in
    let last : List ℕ = with_newline (last_line algo rim) in
    let more : List ℕ = flat_map command_line commands ++ last in
    let text : listing_text num_aux rule commands algo rim ≡ first_line num_aux rule ++ (10 ∷ more) =
    append_assoc (with_newline (first_line num_aux rule)) (flat_map command_line commands) last ∙ append_assoc (first_line num_aux rule) (codes "\n") more in
    first-line (listing_text num_aux rule commands algo rim) (first_line num_aux rule) more (Ok tt) (Some (num_aux, rule)) text
    (first-one_line num_aux rule) (refl, few)
    (replays algo m fit 2 (empty_state num_aux rule) commands typed ok by is)
