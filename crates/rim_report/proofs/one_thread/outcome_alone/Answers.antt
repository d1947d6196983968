use Rattle.std.proofs.Common.{◌≡◌, ◌∙◌, List, ℕ, Vec, Global, Ok, ap, ap₂, length, map, sym}
use Rattle.ipa_layout.specs.Files.{bytes_of_files}
use Rattle.rim_manifest.specs.Launches.{NamedData, ReleaseData}
use Rattle.rim_pages.specs.Pages.{page_keys}
use Rattle.rim_accepted.specs.Lines.{has_refused, outcomes_for, seen}
use Rattle.rim_accepted.specs.Outcomes.{OutcomesView}
use Rattle.rim_report.specs.Report.{measured_of}
use Rattle.rim_report.proofs.one_thread.outcome_alone.Goals as goal

pub returns-clause-report : goal.returns-clause-report
returns-clause-report c =
    let files : c.in_ok-accepted.accepted.files ≡ bytes_of_files c.args.files.now.items
    = c.in_ok-accepted.ensures.files ∙ ap bytes_of_files c.new.ensures.files in
    let launches : c.in_ok-accepted.accepted.release.launches ≡ c.args.release.now.launches
    = ap (λ (r : ReleaseData). r.launches) (c.in_ok-accepted.ensures.release ∙ c.new.ensures.release) in
    ap₂ (measured_of) (sym files) (sym launches) ∙ c.in_ok-measured.ensures.report
    ∙ ap (λ (v : Vec ℕ Global). Ok v.items) (sym c.with.ensures.report)

pub returns-clause-launches : goal.returns-clause-launches
returns-clause-launches c =
    let files : c.in_ok-accepted.accepted.files ≡ bytes_of_files c.args.files.now.items
    = c.in_ok-accepted.ensures.files ∙ ap bytes_of_files c.new.ensures.files in
    let launches : c.in_ok-accepted.accepted.release.launches ≡ c.args.release.now.launches
    = ap (λ (r : ReleaseData). r.launches) (c.in_ok-accepted.ensures.release ∙ c.new.ensures.release) in
    ap (λ v. map seen v.items) c.with.ensures.launches ∙ c.in_ok-measured.ensures.launches ∙ ap₂ outcomes_for files launches

pub returns-clause-accepted : goal.returns-clause-accepted
returns-clause-accepted c =
    let files : c.in_ok-accepted.accepted.files ≡ bytes_of_files c.args.files.now.items
    = c.in_ok-accepted.ensures.files ∙ ap bytes_of_files c.new.ensures.files in
    let launches : c.in_ok-accepted.accepted.release.launches ≡ c.args.release.now.launches
    = ap (λ (r : ReleaseData). r.launches) (c.in_ok-accepted.ensures.release ∙ c.new.ensures.release) in (
      ap (λ (a : OutcomesView). a.release) c.with.ensures.accepted ∙ c.in_ok-accepted.ensures.release ∙ c.new.ensures.release,
      ap (λ (a : OutcomesView). a.files) c.with.ensures.accepted ∙ files,
    )

pub returns-clause-refused : goal.returns-clause-refused
returns-clause-refused c =
    let files : c.in_ok-accepted.accepted.files ≡ bytes_of_files c.args.files.now.items
    = c.in_ok-accepted.ensures.files ∙ ap bytes_of_files c.new.ensures.files in
    let launches : c.in_ok-accepted.accepted.release.launches ≡ c.args.release.now.launches
    = ap (λ (r : ReleaseData). r.launches) (c.in_ok-accepted.ensures.release ∙ c.new.ensures.release) in
    c.with.ensures.refused ∙ c.in_ok-measured.ensures.refused ∙ ap₂ has_refused files launches

pub returns-clause-pages : goal.returns-clause-pages
returns-clause-pages c =
    let files : c.in_ok-accepted.accepted.files ≡ bytes_of_files c.args.files.now.items
    = c.in_ok-accepted.ensures.files ∙ ap bytes_of_files c.new.ensures.files in
    let launches : c.in_ok-accepted.accepted.release.launches ≡ c.args.release.now.launches
    = ap (λ (r : ReleaseData). r.launches) (c.in_ok-accepted.ensures.release ∙ c.new.ensures.release) in
    c.with.ensures.pages ∙ c.in_ok-measured.ensures.pages
    ∙ ap₂ (λ (fs : List (List ℕ)) (ls : List NamedData). length (page_keys fs ls)) files launches

pub returns-clause-shares : goal.returns-clause-shares
returns-clause-shares c =
    rw (c.with.ensures.shares, c.with.ensures.pages, c.with.ensures.started) c.in_ok-measured.ensures.shares
