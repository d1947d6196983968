use Rattle.std.proofs.Common.{◌≡◌, false, true, sym, ◌∙◌}
use Rattle.std.specs.Prelude.{Contains}
use Rattle.std.proofs.lemmas.Result.{on_ok_weaker}
use Rattle.rim_manifest.specs.Manifest.{name_faults_if}
use Rattle.rim_manifest.proofs.FaultsInTurn.{adds_if}
use Rattle.rim_manifest.proofs.naming.NameFaults.note_if.Goals as goal
use Rattle.rim_manifest.proofs.naming.NameFaults.note_if.Goals.{then-has, else-has}

pub returns : goal.returns
returns c =
    let has = name_faults_if c.args.self.two_names c.args.self.no_file c.args.self.bad_step in
    let among : c.if-has.note_if ≡ true → Contains has c.args.finding.fault =
    elim c.if-has.branch [
      | then-has w ↦ λ _. c.has.ensures w.if-has.true
      | else-has w ↦ λ e. let no : false ≡ true = sym w.if-has.false ∙ sym w.note_if-is ∙ e in cc
    ] in
    on_ok_weaker c.note_if.result (adds_if has c.if-has.note_if c.args.finding.fault _ _ among) c.note_if.ensures
