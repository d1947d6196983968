use Rattle.std.proofs.Common.{◌≡◌, ◌∙◌, ℕ, List, ap, inr, map}
use Rattle.std.specs.Prelude.{Ok, Err, Result}
use Rattle.ipa_layout.specs.Files.{bytes_of_files}
use Rattle.rim_desc.specs.declared.measurement.Measurement.{Measurement}
use Rattle.rim_launch.specs.LaunchData.{LaunchData}
use Rattle.rim_launch.specs.declared.config.Config.{Config}
use Rattle.rim_accepted.specs.Accepted.{rim_for}
use Rattle.rim_accepted.specs.Lines.{outcomes_for, seen}
use Rattle.rim_accepted.specs.declared.audit_fault.AuditFault.{AuditFault}
use Rattle.rim_cli.specs.Done.{IsRim, RefusesRim}
use Rattle.rim_files.specs.Files.{Known}
use Rattle.rim_files.specs.declared.fault.Fault.TheVariants.{Refused}
use Rattle.rim_cli.proofs.ReleaseOfManifest.{found_launch, of_release}
use Rattle.rim_cli.proofs.RimsOfLaunches.{rim_at}
use Rattle.rim_cli.proofs.rims.launch_rim.Goals as goal

pub returns-in-Ok-index-clause-rim : goal.returns-in-Ok-index-clause-rim
returns-in-Ok-index-clause-rim g c =
    let held : List ℕ → Known = g.O.Opener.held c.args.opener.now in
    let found = c.in_ok-found.found in
    let own = c.loaded.result in
    let outcomes : List (Result Measurement AuditFault) = c.in-Ok.outcome.launches.items in
    let same : map seen outcomes ≡ outcomes_for (bytes_of_files found.files.items) found.release.launches
    = c.in-Ok.ensures.launches in
    let is = rim_at (bytes_of_files found.files.items) found.release.launches outcomes found.number own.launch.now c.index.result.now same found.there
    c.loaded.ensures.launch c.index.ensures in
    of_release (held c.args.path.now) found.release (λ r. IsRim held r c.args.launch.now (record { algo = c.config-algo.result.algo; rim = c.in-Ok-index.rim }))
    c.in_ok-found.ensures.release
    (found_launch held c.args.launch.now found.release found.number own.launch.now (map (λ file. file.items) found.files.items)
    (λ l fs. (rim_for l.launch fs ≡ Ok c.in-Ok-index.rim.bytes) × (c.config-algo.result.algo ≡ l.launch.config.algo))
    c.in_ok-found.ensures.number c.loaded.ensures.launch c.in_ok-found.ensures.files
    (is ∙ ap seen c.in-Ok-index.is, ap (λ (k : Config). k.algo) c.config-algo.ensures.value ∙ ap (λ (l : LaunchData). l.config.algo) c.launch.ensures))

pub returns-clause-refused : goal.returns-clause-refused
returns-clause-refused g c =
    let held : List ℕ → Known = g.O.Opener.held c.args.opener.now in
    let found = c.in_ok-found.found in
    let own = c.loaded.result in
    let outcomes : List (Result Measurement AuditFault) = c.in-Ok.outcome.launches.items in
    let same : map seen outcomes ≡ outcomes_for (bytes_of_files found.files.items) found.release.launches
    = c.in-Ok.ensures.launches in
    let is = rim_at (bytes_of_files found.files.items) found.release.launches outcomes found.number own.launch.now c.index.result.now same found.there
    c.loaded.ensures.launch c.index.ensures in
    let fault = c.in-Err-index.fault in
    inr (of_release (held c.args.path.now) found.release (λ r. RefusesRim held c.args.launch.now r (Refused fault)) c.in_ok-found.ensures.release
    (inr (found_launch held c.args.launch.now found.release found.number own.launch.now (map (λ file. file.items) found.files.items)
    (λ l fs. rim_for l.launch fs ≡ Err fault)
    c.in_ok-found.ensures.number c.loaded.ensures.launch c.in_ok-found.ensures.files (is ∙ ap seen c.in-Err-index.is))))
