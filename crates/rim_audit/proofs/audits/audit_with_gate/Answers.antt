use Rattle.std.proofs.Common.{◌≡◌, ◌∙◌, ◌++◌, ℕ, List, Vec, Global, ap, codes, map}
use Rattle.ipa_layout.specs.Files.{bytes_of_files}
use Rattle.rim_manifest.specs.Launches.{NamedData}
use Rattle.rim_accepted.specs.Accepted.{rim_for}
use Rattle.rim_accepted.specs.Lines.{lines_of, seen}
use Rattle.rim_accepted.specs.Lines.{lines_with}
use Rattle.std.specs.Prelude.{is_err}
use Rattle.std.specs.List.{list_any}
use Rattle.rim_accepted.proofs.LinesOfLaunches.{own-lines}
use Rattle.rim_accepted.proofs.RefusedLaunches.{any-refused}
use Rattle.rim_audit.proofs.audits.audit_with_gate.Goals as goal

pub returns-clause-text : goal.returns-clause-text
returns-clause-text g c =
    let files : List (List ℕ) = bytes_of_files c.args.loaded.files.now in
    let launches : List NamedData = c.args.loaded.release.now.launches in
    let came = ap (map seen) c.deref.ensures.value ∙ c.in_ok-outcomes.ensures in
    let lines : lines_with c.all_launches.result.now c.deref.result.now ≡ lines_of files launches
    = ap (λ (ls : List NamedData). lines_with ls c.deref.result.now) c.all_launches.ensures.value ∙ own-lines files launches c.deref.result.now came in
    c.in_ok-push_lines.ensures.text
    ∙ ap (λ (text : List ℕ). text ++ lines_with c.all_launches.result.now c.deref.result.now)
    (c.in_ok-extend_from_slice.ensures.items ∙ ap (λ (text : List ℕ). text ++ codes "rim-audit 1\n") c.new-text.ensures.items)
    ∙ ap (λ (text : List ℕ). codes "rim-audit 1\n" ++ text) lines

pub returns-clause-refused : goal.returns-clause-refused
returns-clause-refused g c =
    let files : List (List ℕ) = bytes_of_files c.args.loaded.files.now in
    let launches : List NamedData = c.args.loaded.release.now.launches in
    let came = c.in_ok-outcomes.ensures in
    c.has_refused.ensures ∙ ap (list_any is_err) c.deref-2.ensures.value ∙ any-refused files launches _ came
