-- Each line of a trace shows what a monitor holds after its command, and the last line the launch's measurement.
use Rattle.std.proofs.Common.{inl, inr, ◌≡◌, ℕ, zero, suc, ◌+◌, ◌-◌, ◌/◌, ◌%◌, ◌<◌, ◌≤◌, ◌⊎◌, ◌∙◌, true, false, not, ◌||◌, List, [], ◌∷◌, ◌++◌, take, drop}
use Rattle.std.proofs.Common.{refl, ap, sym, subst, arith, append_assoc, Bool}
use Rattle.std.specs.Prelude.{Option, Some, None, Result, Ok, Err, is_ok, nat_le, option_map, unwrap_or}
use Rattle.std.specs.List.{slice_get}
use Rattle.std.specs.Result.{result_map_both}
use Rattle.std.proofs.lemmas.Bool.{eqb-true, not-false, or_parts}
use Rattle.std.proofs.lemmas.Bool.Decides.{nat_tests}
use Rattle.std.proofs.lemmas.List.{append-nil, take-append-drop}
use Rattle.std.proofs.lemmas.Nat.{le-div}
use Rattle.refusal.specs.Answer.{◌>>=◌}
use Rattle.rim_desc.specs.Measurement.{measurement_of}
use Rattle.rim_desc.specs.Part.{Part, Rec, Ripas, rim_of}
use Rattle.rim_desc.specs.Rec.{rec_page_of}
use Rattle.rim_desc.specs.Rule.{extends}
use Rattle.rim_desc.specs.declared.command.Command.{Command}
use Rattle.rim_desc.specs.declared.command.Command.TheVariants.{Delegate, RealmCreate, RttCreate, InitRipas, DataCreate, DataCreateUnknown, RecCreate, Activate}
use Rattle.rim_desc.specs.declared.measurement.Algo.{Algo}
use Rattle.rim_desc.specs.declared.rule.RecRule.{RecRule}
use Rattle.rim_desc.specs.declared.realm.RealmParams.{RealmParams}
use Rattle.rmm_model.specs.declared.outcome.Phase.{Phase}
use Rattle.rmm_model.specs.declared.outcome.Phase.TheVariants.{Empty, New, Active}
use Rattle.rmm_model.specs.declared.outcome.Refused.{Refused}
use Rattle.rmm_model.specs.declared.outcome.Refused.TheVariants as refusal
use Rattle.rmm_model.specs.Blocks.{size, down, is_multiple, stretches}
use Rattle.rmm_model.specs.Checks.{checks, walk_of}
use Rattle.rmm_model.specs.Effects.{changed, is_runnable, measured, parts, ripas_parts}
use Rattle.rmm_model.specs.Run.{after, parts_of, run, shown}
use Rattle.rmm_model.specs.State.{State, algo_of, empty_state, is_empty, is_new}
use Rattle.rmm_model.specs.Step.{step}
use Rattle.rmm_model.proofs.AnswersOfChecks.{holds, none-holds, off-at}
use Rattle.rmm_model.proofs.BlockArithmetic.{down-multiple, size-pos}
use Rattle.rmm_model.proofs.ListAfterList.{run-append, shown-append}
use Rattle.rmm_model.proofs.RimOfShownParts.{rim-run, step-cases}
use Rattle.rtt_plan.proofs.RoundingToBlocks.{down-top}
use Rattle.list_model.specs.Entries.{Entry, commands_of}
use Rattle.rim_launch.specs.LaunchData.{LaunchData}
use Rattle.ipa_layout.specs.Layout.{PlacedData, places}
use Rattle.ipa_layout.specs.declared.fault.LayoutFault.{LayoutFault}
use Rattle.rmi_list.proofs.ListIsFollowed.{list-is-followed}
use Rattle.rmi_list.proofs.NoBytePastDigest.{contents-are-good}
use Rattle.rmi_list.specs.Following.{IsFollowed}
use Rattle.rmi_list.specs.Listed.{listed}
use Rattle.rmi_list.specs.Measured.{page_contents}
use Rattle.rmi_list.specs.Measured as launch
use Rattle.rmi_list.specs.declared.fault.ListFault.{ListFault}
use Rattle.rim_accepted.specs.Accepted.{commands_for, entries_of, layout_fault, list_fault, rim_after}
use Rattle.rim_audit.specs.Trace.{TracesEndWithTheRim, TracesShowWhatIsHeld, line_if_held, rim_held, rim_line, trace_line, trace_lines, trace_with}
use Rattle.rim_audit.specs.declared.commands.LaunchCommands.{LaunchCommands}
use Rattle.rim_audit.specs.inside.Commands.{commands_in, state_after}
use Rattle.rim_accepted.proofs.LinesOfLaunches.{one-more}
use Rattle.rim_audit.proofs.MonitorFollows.{followed, led-on, taken-in-turn}

-- ---- a command that is taken

-- it measures nothing, and has no line; or it measures something, and there is a realm after it
data Shows (s : State) (c : Command) : Type 0 where
  Nothing : parts s c ≡ [] → ((t : State) → t.rule ≡ s.rule → rim_held t c ≡ None) → Shows s c
  Something : (first : Part) → (others : List Part) → parts s c ≡ first ∷ others → is_empty (changed s c).phase ≡ false
      → ((t : State) → t.rule ≡ s.rule → rim_held t c ≡ t.rim) → Shows s c

not-empty : (phase : Phase) → is_new phase ≡ true → is_empty phase ≡ false
not-empty Empty new = absurd (cc)
not-empty New new = refl
not-empty Active new = refl

-- a range of whole entries has some
some-entries : (n base top : ℕ) → 0 < n → base % n ≡ 0 → top % n ≡ 0 → base < top → 0 < (top - base) / n
some-entries n base top some low high lt =
    let from : down n base ≡ base = down-multiple n base some low in
    let whole : down n base + n ≤ top = down-top n base top some (down-multiple n top some high) lt in
    let one : 1 ≤ (top - base) / n = le-div 1 (top - base) n some (omega arith) in
    omega arith

-- so it has a part
some-parts : (k s x : ℕ) → 0 < k → (first : Part) × (others : List Part) × (ripas_parts (stretches k s x) ≡ first ∷ others)
unfolding stretches
some-parts zero s x some = absurd (omega arith)
some-parts (suc k) s x some = (Ripas x (x + s), ripas_parts (stretches k s (x + s)), refl)

shows-of : (s : State) (c : Command) → holds (checks s c) ≡ false → Shows s c
shows-of s (Delegate granule) off = Nothing refl (λ t same. refl)
shows-of s (RealmCreate rd p) off = Something _ [] refl refl (λ t same. refl)
shows-of s (RttCreate rtt ipa level) off = Nothing refl (λ t same. refl)
shows-of s (InitRipas base top) off =
    let c : Command = InitRipas base top in
    let entry = size (walk_of s.space base) in
    let lt : base < top = (let no : nat_le top base ≡ false = off-at (checks s c) 1 refusal.State off in grind (arith, nat_tests)) in
    let cut = or_parts (not (is_multiple entry base) || not (is_multiple entry top)) _ (off-at (checks s c) 4 refusal.State off) in
    let whole = or_parts (not (is_multiple entry base)) (not (is_multiple entry top)) cut.0 in
    let low : base % entry ≡ 0 = eqb-true (base % entry) 0 (not-false (is_multiple entry base) whole.0) in
    let high : top % entry ≡ 0 = eqb-true (top % entry) 0 (not-false (is_multiple entry top) whole.1) in
    let some = some-parts ((top - base) / entry) entry base (some-entries entry base top (size-pos (walk_of s.space base)) low high lt) in
    Something some.0 some.1 some.2 (not-empty s.phase (not-false (is_new s.phase) (off-at (checks s c) 0 refusal.State off))) (λ t same. refl)
shows-of s (DataCreate granule ipa content) off =
    Something _ [] refl (not-empty s.phase (not-false (is_new s.phase) (off-at (checks s (DataCreate granule ipa content)) 0 refusal.State off)))
    (λ t same. refl)
shows-of s (DataCreateUnknown granule ipa) off = Nothing refl (λ t same. refl)
shows-of s Activate off = Nothing refl (λ t same. refl)
shows-of s (RecCreate rec params) off = by_rule (extends s.rule (is_runnable params.flags)) refl
  where
    by_rule : (b : Bool) → extends s.rule (is_runnable params.flags) ≡ b → Shows s (RecCreate rec params)
    by_rule false e = Nothing (rw e refl) (λ t same. rw (same, e) refl)
    by_rule true e = Something (Rec (measurement_of (algo_of s.params) (rec_page_of params))) [] (rw e refl)
        (not-empty s.phase (not-false (is_new s.phase) (off-at (checks s (RecCreate rec params)) 0 refusal.State off))) (λ t same. rw (same, e) refl)

-- ---- a monitor keeps its rule

changed-rule : (s : State) (c : Command) → (changed s c).rule ≡ s.rule
changed-rule s (Delegate granule) = refl
changed-rule s (RealmCreate rd p) = refl
changed-rule s (RttCreate rtt ipa level) = refl
changed-rule s (InitRipas base top) = refl
changed-rule s (DataCreate granule ipa content) = refl
changed-rule s (DataCreateUnknown granule ipa) = refl
changed-rule s (RecCreate rec params) = refl
changed-rule s Activate = refl

taken-rule : (s : State) (c : Command) (ps : List Part) → (measured (changed s c) ps).rule ≡ s.rule
taken-rule s c [] = changed-rule s c
taken-rule s c (part ∷ ps) = changed-rule s c

-- ---- a realm keeps its parameters

measured-same : (s : State) (ps : List Part) → ((measured s ps).phase ≡ s.phase) × ((measured s ps).params ≡ s.params)
measured-same s [] = (refl, refl)
measured-same s (part ∷ ps) = (refl, refl)

changed-keeps : (s : State) (c : Command) → is_empty s.phase ≡ false → is_ok (step s c) ≡ true
    → (is_empty (changed s c).phase ≡ false) × ((changed s c).params ≡ s.params)
changed-keeps s (Delegate granule) full ok = (full, refl)
changed-keeps s (RealmCreate rd p) full ok = absurd (let no : is_ok (step s (RealmCreate rd p)) ≡ false = rw full refl in cc)
changed-keeps s (RttCreate rtt ipa level) full ok = (full, refl)
changed-keeps s (InitRipas base top) full ok = (full, refl)
changed-keeps s (DataCreate granule ipa content) full ok = (full, refl)
changed-keeps s (DataCreateUnknown granule ipa) full ok = (full, refl)
changed-keeps s (RecCreate rec params) full ok = (full, refl)
changed-keeps s Activate full ok = (refl, refl)

after-keeps : (s : State) (c : Command) → is_empty s.phase ≡ false → (is_empty (after s (step s c)).phase ≡ false) × ((after s (step s c)).params ≡ s.params)
after-keeps s c full = elim (step-cases s c) [
  | inr e ↦ rw e.1 (full, refl)
  | inl at ↦
      let kept = changed-keeps s c full (ap is_ok at) in
      let same = measured-same (changed s c) (parts s c) in
      rw at (ap is_empty same.0 ∙ kept.0, same.1 ∙ kept.1)
]

run-keeps : (cs : List Command) (s : State) → is_empty s.phase ≡ false → (run s cs).params ≡ s.params
unfolding run
run-keeps [] s full = refl
run-keeps (c ∷ cs) s full = let kept = after-keeps s c full in run-keeps cs (after s (step s c)) kept.0 ∙ kept.1

-- ---- lines one after another

-- what a command measures
abbrev own : State → Command → List Part
own s c = parts_of (step s c) (parts s c)

-- the lines of two lists, one after the other
lines-append : (algo : Algo) (before : List Part) (s : State) (cs ds : List Command)
    → trace_lines algo before s (cs ++ ds) ≡ trace_lines algo before s cs ++ trace_lines algo (before ++ shown s cs) (run s cs) ds
unfolding trace_lines run shown
lines-append algo before s [] ds = ap (λ (ps : List Part). trace_lines algo ps s ds) (sym (append-nil before))
lines-append algo before s (c ∷ cs) ds =
    let next = after s (step s c) in
    let line = trace_line algo before (own s c) c in
    let front = trace_lines algo (before ++ own s c) next cs in
    ap (λ (text : List ℕ). line ++ text) (lines-append algo (before ++ own s c) next cs ds)
    ∙ ap (λ (ps : List Part). line ++ (front ++ trace_lines algo ps (run next cs) ds)) (append_assoc before (own s c) (shown next cs))
    ∙ sym (append_assoc line front (trace_lines algo (before ++ (own s c ++ shown next cs)) (run next cs) ds))

line-alone : (algo : Algo) (before : List Part) (s : State) (c : Command)
    → trace_lines algo before s (c ∷ []) ≡ trace_line algo before (own s c) c
unfolding trace_lines
line-alone algo before s c = append-nil (trace_line algo before (own s c) c)

shown-alone : (s : State) (c : Command) → shown s (c ∷ []) ≡ own s c
unfolding shown
shown-alone s c = append-nil (own s c)

-- ---- the last line of some commands

-- the last command that measures something, and the lines up to its own
record EndsAt (algo : Algo) (before : List Part) (s : State) (cs : List Command) : Type 0 where
  front : List Command
  last : Command
  others : List Command
  is : cs ≡ front ++ last ∷ others
  lines : trace_lines algo before s cs ≡ trace_lines algo before s front ++ rim_line algo (rim_of algo (before ++ shown s cs)) last

-- where nothing is measured there are no lines
ends-at : (algo : Algo) (before : List Part) (s : State) (cs : List Command)
    → ((shown s cs ≡ []) × (trace_lines algo before s cs ≡ [])) ⊎ EndsAt algo before s cs
unfolding shown trace_lines
ends-at algo before s [] = inl (refl, refl)
ends-at algo before s (c ∷ cs) = go (own s c) refl (ends-at algo (before ++ own s c) (after s (step s c)) cs)
  where
    go : (ps : List Part) → own s c ≡ ps → let next = after s (step s c) in
        ((shown next cs ≡ []) × (trace_lines algo (before ++ own s c) next cs ≡ [])) ⊎ EndsAt algo (before ++ own s c) next cs
        → ((shown s (c ∷ cs) ≡ []) × (trace_lines algo before s (c ∷ cs) ≡ [])) ⊎ EndsAt algo before s (c ∷ cs)
    go ps is (inr at) =
        let next = after s (step s c) in
        let line = trace_line algo before (own s c) c in
        let front = trace_lines algo (before ++ own s c) next at.front in
        inr (record {
          front = c ∷ at.front;
          last = at.last;
          others = at.others;
          is = ap (λ (ds : List Command). c ∷ ds) at.is;
          lines = ap (λ (text : List ℕ). line ++ text) at.lines
              ∙ ap (λ (qs : List Part). line ++ (front ++ rim_line algo (rim_of algo qs) at.last)) (append_assoc before (own s c) (shown next cs))
              ∙ sym (append_assoc line front (rim_line algo (rim_of algo (before ++ (own s c ++ shown next cs))) at.last));
        })
    go [] is (inl none) =
        let next = after s (step s c) in
        inl (
          ap (λ (ps : List Part). ps ++ shown next cs) is ∙ none.0,
          ap (λ (ps : List Part). trace_line algo before ps c ++ trace_lines algo (before ++ own s c) next cs) is ∙ none.1,
        )
    go (part ∷ ps) is (inl none) =
        let next = after s (step s c) in
        inr (record {
          front = [];
          last = c;
          others = cs;
          is = refl;
          lines = ap (λ (qs : List Part). trace_line algo before qs c ++ trace_lines algo (before ++ own s c) next cs) is
              ∙ ap (λ (text : List ℕ). rim_line algo (rim_of algo (before ++ part ∷ ps)) c ++ text) none.1
              ∙ append-nil (rim_line algo (rim_of algo (before ++ part ∷ ps)) c)
              ∙ ap (λ (qs : List Part). rim_line algo (rim_of algo (before ++ qs)) c)
              (sym (append-nil (part ∷ ps)) ∙ ap (λ (qs : List Part). (part ∷ ps) ++ qs) (sym none.0) ∙ ap (λ (qs : List Part). qs ++ shown next cs) (sym is));
        })

-- ---- the lines of a list that a monitor follows

by-algo : (o : Option RealmParams) (algo : Algo) → option_map (λ p. p.algo) o ≡ Some algo → (p : RealmParams) × (o ≡ Some p) × (p.algo ≡ algo)
by-algo None algo at = absurd (cc)
by-algo (Some p) algo at = (p, refl, cc)

module _ (algo : Algo) (num_aux : ℕ) (rule : Option RecRule) (cs : List Command) (all : List Part) (followed : IsFollowed algo num_aux rule cs all) where
  -- where the monitor is between two commands, and what it has measured
  abbrev state : ℕ → State
  state n = run (empty_state num_aux rule) (take n cs)

  abbrev so-far : ℕ → List Part
  so-far n = shown (empty_state num_aux rule) (take n cs)

  -- where there is a realm, its measurement is that of the parts so far
  rim-so-far : (n : ℕ) → is_empty (state n).phase ≡ false → (state n).rim ≡ Some (rim_of algo (so-far n))
  rim-so-far n full =
      let whole : run (state n) (drop n cs) ≡ run (empty_state num_aux rule) cs
      = sym (run-append (empty_state num_aux rule) (take n cs) (drop n cs)) ∙ ap (run (empty_state num_aux rule)) (take-append-drop n cs) in
      let same : (run (empty_state num_aux rule) cs).params ≡ (state n).params
      = ap (λ (s : State). s.params) (sym whole) ∙ run-keeps (drop n cs) (state n) full in
      let is = by-algo (state n).params algo (ap (option_map (λ (p : RealmParams). p.algo)) (sym same) ∙ followed.by_algo) in
      rim-run num_aux rule (take n cs) is.0 is.1 ∙ ap (λ (a : Algo). Some (rim_of a (so-far n))) is.2

  more-shown : (i : ℕ) (c : Command) → slice_get cs i ≡ Some c → so-far (i + 1) ≡ so-far i ++ own (state i) c
  more-shown i c at =
      ap (shown (empty_state num_aux rule)) (sym (one-more cs i c at)) ∙ shown-append (empty_state num_aux rule) (take i cs) (c ∷ [])
      ∙ ap (λ (ps : List Part). so-far i ++ ps) (shown-alone (state i) c)

  -- the state after it, which has the same rule
  next-is : (i : ℕ) (c : Command) → slice_get cs i ≡ Some c → step (state i) c ≡ Ok (measured (changed (state i) c) (parts (state i) c))
      → measured (changed (state i) c) (parts (state i) c) ≡ state (i + 1)
  next-is i c at taken =
      let as_taken : suc i ≡ i + 1 = omega arith in
      led-on (empty_state num_aux rule) (measured (changed (state i) c) (parts (state i) c)) cs i c at taken ∙ ap state as_taken

  rule-after : (i : ℕ) (c : Command) → slice_get cs i ≡ Some c → step (state i) c ≡ Ok (measured (changed (state i) c) (parts (state i) c))
      → (state (i + 1)).rule ≡ (state i).rule
  rule-after i c at taken = sym (ap (λ (t : State). t.rule) (next-is i c at taken)) ∙ taken-rule (state i) c (parts (state i) c)

  -- so a command's line shows what the monitor holds after it
  line-of-taken : (i : ℕ) (c : Command) → slice_get cs i ≡ Some c → step (state i) c ≡ Ok (measured (changed (state i) c) (parts (state i) c))
      → Shows (state i) c
      → trace_line algo (so-far i) (own (state i) c) c ≡ line_if_held algo (rim_held (state (i + 1)) c) c
  line-of-taken i c at taken (Nothing none unheld) = rw (taken, none, unheld (state (i + 1)) (rule-after i c at taken)) refl
  line-of-taken i c at taken (Something first others some full is_held) =
      let s = state i in
      let next : measured (changed s c) (parts s c) ≡ state (i + 1) = next-is i c at taken in
      let realm : is_empty (state (i + 1)).phase ≡ false
      = ap (λ (t : State). is_empty t.phase) (sym next) ∙ ap is_empty (measured-same (changed s c) (parts s c)).0 ∙ full in
      let own_are : own s c ≡ first ∷ others = ap (λ (r : Result State Refused). parts_of r (parts s c)) taken ∙ some in
      let held : rim_held (state (i + 1)) c ≡ Some (rim_of algo (so-far i ++ first ∷ others))
      = is_held (state (i + 1)) (rule-after i c at taken) ∙ rim-so-far (i + 1) realm
      ∙ ap (λ (ps : List Part). Some (rim_of algo ps)) (more-shown i c at ∙ ap (λ (ps : List Part). so-far i ++ ps) own_are) in
      ap (λ (ps : List Part). trace_line algo (so-far i) ps c) own_are ∙ ap (λ (rim : Option (List ℕ)). line_if_held algo rim c) (sym held)

  line-of-step : (i : ℕ) (c : Command) → slice_get cs i ≡ Some c
      → trace_line algo (so-far i) (own (state i) c) c ≡ line_if_held algo (rim_held (state (i + 1)) c) c
  line-of-step i c at =
      let done = measured (changed (state i) c) (parts (state i) c) in
      elim (step-cases (state i) c) [
        | inr e ↦
            absurd (let no : is_ok (step (state i) c) ≡ false = ap is_ok e.1 in let yes = taken-in-turn
            (empty_state num_aux rule) cs i c followed.accepted at in cc)
        | inl taken ↦ line-of-taken i c at taken (shows-of (state i) c (none-holds (checks (state i) c) done done taken))
      ]

  -- the lines of some commands, and of one more
  one-more-line : (i : ℕ) (c : Command) → slice_get cs i ≡ Some c
      → trace_lines algo [] (empty_state num_aux rule) (take (i + 1) cs)
      ≡ trace_lines algo [] (empty_state num_aux rule) (take i cs) ++ line_if_held algo (rim_held (state (i + 1)) c) c
  one-more-line i c at =
      ap (trace_lines algo [] (empty_state num_aux rule)) (sym (one-more cs i c at))
      ∙ lines-append algo [] (empty_state num_aux rule) (take i cs) (c ∷ [])
      ∙ ap (λ (line : List ℕ). trace_lines algo [] (empty_state num_aux rule) (take i cs) ++ line)
      (line-alone algo (so-far i) (state i) c ∙ line-of-step i c at)

-- ---- the lines of a launch

-- what is added for a command that was given
pub line-next : (l : LaunchCommands) (i : ℕ) (c : Command) (now new : List ℕ) → slice_get (commands_in l) i ≡ Some c
    → now ≡ trace_with l.accepted.named.now.launch (take i (commands_in l))
    → new ≡ now ++ line_if_held l.accepted.named.now.launch.config.algo (rim_held (state_after l (i + 1)) c) c
    → new ≡ trace_with l.accepted.named.now.launch (take (i + 1) (commands_in l))
line-next l i c now new at so_far added =
    let config = l.accepted.named.now.launch.config in
    added ∙ ap (λ (text : List ℕ). text ++ line_if_held config.algo (rim_held (state_after l (i + 1)) c) c) so_far
    ∙ sym (one-more-line config.algo config.num_aux config.rec_rule (commands_in l) _ (followed l) i c at)

-- a launch that is accepted, whose commands a monitor follows
record Follows (files : List (List ℕ)) (l : LaunchData) (commands : List Command) : Type 0 where
  place : PlacedData
  is : IsFollowed l.config.algo l.config.num_aux l.config.rec_rule commands (launch.measured l place (page_contents l files place))

follows : (files : List (List ℕ)) (l : LaunchData) (commands : List Command) → commands_for l files ≡ Ok commands → Follows files l commands
unfolding commands_for
follows files l commands given = by_place (places l files) given
  where
    by_list : (p : PlacedData) (found : Result (List Entry) ListFault) → listed l p ≡ found
        → (result_map_both (λ entries. entries) list_fault found >>= λ entries. Ok (commands_of (page_contents l files p) entries)) ≡ Ok commands
        → Follows files l commands
    by_list p (Err fault) is same = absurd (cc)
    by_list p (Ok entries) is same =
        let own = page_contents l files p in
        let they_are : commands_of own entries ≡ commands = cc in
        record {
          place = p;
          is = subst (λ (cs : List Command). IsFollowed l.config.algo l.config.num_aux l.config.rec_rule cs (launch.measured l p own)) they_are
              (list-is-followed l p own entries (contents-are-good l files p) is);
        }

    by_place : (place : Result PlacedData LayoutFault)
        → (result_map_both (λ p. p) layout_fault place >>= λ p. entries_of l p >>= λ entries. Ok (commands_of (page_contents l files p) entries))
        ≡ Ok commands → Follows files l commands
    by_place (Err fault) same = absurd (cc)
    by_place (Ok p) same = by_list p (listed l p) refl same

pub traces-show : TracesShowWhatIsHeld
traces-show files l commands i c given at = one-more-line l.config.algo l.config.num_aux l.config.rec_rule commands _ (follows files l commands given).is i c at

pub traces-end : TracesEndWithTheRim
traces-end files l commands given =
    let f = follows files l commands given in
    let held : rim_after l commands ≡ rim_of l.config.algo (shown (empty_state l.config.num_aux l.config.rec_rule) commands)
    = ap (λ (rim : Option (List ℕ)). unwrap_or rim []) f.is.rim ∙ ap (rim_of l.config.algo) (sym f.is.shown) in
    elim (ends-at l.config.algo [] (empty_state l.config.num_aux l.config.rec_rule) commands) [
      | inl none ↦ absurd (let no = sym none.0 ∙ f.is.shown in cc)
      | inr at ↦ record {
        before = at.front;
        last = at.last;
        others = at.others;
        split = at.is;
        trace = at.lines ∙ ap (λ (rim : List ℕ). trace_with l at.front ++ rim_line l.config.algo rim at.last) (sym held);
      }
    ]
