use Rattle.std.proofs.Common.{[], ◌∙◌, ◌<◌, List, ℕ, ap, get_or, is_some, length, ltb-true, refl, subst, sym}
use Rattle.std.proofs.lemmas.Option.{slice_get_read}
use Rattle.rim_manifest.specs.Launches.{NamedData}
use Rattle.shown_text.specs.Lines.{AddsLine}
use Rattle.rim_check.specs.Warned.{warning_said}
use Rattle.rim_check.specs.declared.warnings.Warning.{Warning}
use Rattle.rim_check.proofs.WarningLines.{no-more, warned-more, warned-next}
use Rattle.rim_check.proofs.warnings.Warnings.remarks.Goals as goal
use Rattle.rim_check.proofs.warnings.Warnings.remarks.Goals.{in-Some+in_ok-push_warning, in_default, then-self-gt0+in_ok-push_more, else-self-gt0}

pub loop-warning-init : goal.loop-warning-init
loop-warning-init c = λ files are. record { said = []; each = tt; lines = c.new-remarks.ensures.items }

pub loop-warning-preserved : goal.loop-warning-preserved
loop-warning-preserved c = λ files are. elim c.match-get.branch [
  | in-Some+in_ok-push_warning w ↦
      let launches : List NamedData = c.args.launches.now in
      let launch : NamedData = w.in-Some.launch.now in
      let low = ltb-true c.warning-item.result.launch (length launches) (sym c.get.ensures.lookup.0 ∙ ap (λ o. is_some o) w.in-Some.is) in
      let there = slice_get_read launches (length launches) c.warning-item.result.launch launch refl low w.in-Some.ensures.lookup.1 in
      let others = c.warning-item.result.others in
      let adds = subst (λ (name : List ℕ). AddsLine (warning_said name others) c.loop-warning.remarks.items w.push_warning.new.remarks.items)
      w.name.ensures w.in_ok-push_warning.ensures.adds in
      let item = c.warning-item.is ∙ ap (λ
      (ws : List Warning). get_or ws c.loop-warning.warning-index c.warning-item.result) c.deref-warning-items.ensures.value in
      let inside = subst (λ (ws : List Warning). c.loop-warning.warning-index < length ws) c.deref-warning-items.ensures.value c.loop-warning-test.true in
      rw w.remarks-is (warned-next files launches c.args.self.now c.loop-warning.warning-index c.warning-item.result launch _ _ inside item there
      w.in_ok-push_warning.ensures.few adds are
      (c.loop-warning.invariant files are))
  | in_default w ↦ rw w.remarks-is (c.loop-warning.invariant files are)
]

pub returns : goal.returns
returns c = λ files are. elim c.if-self-gt0.branch [
  | then-self-gt0+in_ok-push_more w ↦ rw w.remarks-is (warned-more files c.args.launches.now c.args.self.now.more _ _ w.in_ok-push_more.ensures
      (c.loop-warning.invariant files are))
  | else-self-gt0 w ↦ rw w.remarks-is (no-more files c.args.launches.now c.loop-warning.remarks.items (c.loop-warning.invariant files are))
]
