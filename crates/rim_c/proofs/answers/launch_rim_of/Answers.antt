use Rattle.std.proofs.Common.{◌≡◌, ℕ, List, inl, inr, refl, subst}
use Rattle.std.specs.Prelude.{IsOkAnd}
use Rattle.rim_manifest.specs.Manifest.{manifest_of}
use Rattle.rim_files.specs.Files.{IfFile, Known}
use Rattle.rim_cli.specs.Done.{IsRim, RefusesManifest, RefusesRim}
use Rattle.rim_cli.specs.declared.rims.LaunchRim.{LaunchRim}
use Rattle.rim_desc.specs.Measurement.{algo_value}
use Rattle.rim_c.specs.Held.{held_in}
use Rattle.rim_c.specs.declared.held.File.{File}
use Rattle.rim_c.proofs.OwnFiles.{of_own}
use Rattle.rim_c.proofs.answers.launch_rim_of.Goals as goal

-- a measurement that was found at a path that is the manifest's is that of the manifest's own launch
own : (s : File) (files : List File) (path launch name : List ℕ) (m : LaunchRim) → path ≡ s.path.now → launch ≡ name
    → IfFile (held_in s files path) (λ bytes. IsOkAnd (manifest_of bytes) (λ r. IsRim (held_in s files) r launch m))
    → IsOkAnd (manifest_of s.bytes.now) (λ r. IsRim (held_in s files) r name m)
own s files path launch name m here named found =
    subst (λ (n : List ℕ). IsOkAnd (manifest_of s.bytes.now) (λ r. IsRim (held_in s files) r n m)) named
    (of_own s files path (λ bytes. IsOkAnd (manifest_of bytes) (λ r. IsRim (held_in s files) r launch m)) here found)

pub returns-else-not-put : goal.returns-else-not-put
returns-else-not-put c =
    let found = own c.args.manifest.now c.args.files.now _ _ c.args.launch.now c.in-Ok-launch_rim.found c.in-Ok-from_utf8.ensures.cases.0
    c.in-Ok.ensures.cases.0 c.in-Ok-launch_rim.ensures.rim in
    inl (record {
      text = c.digest.result.now;
      holds = record { rim = c.in-Ok-launch_rim.found; own = found; digest = c.digest.ensures.value; algorithm = c.number_of.ensures; well = refl };
      written = c.put.ensures.put c.if-not-put.false;
    })

pub returns-then-not-put : goal.returns-then-not-put
returns-then-not-put c =
    let m = c.in-Ok-launch_rim.found in
    let found = own c.args.manifest.now c.args.files.now _ _ c.args.launch.now m c.in-Ok-from_utf8.ensures.cases.0
    c.in-Ok.ensures.cases.0 c.in-Ok-launch_rim.ensures.rim in
    let short = c.put.ensures.short c.if-not-put.true in
    inr (
      refl,
      inl (record {
        text = c.digest.result.now;
        status = 0;
        holds = (algo_value m.algo, record { rim = m; own = found; digest = c.digest.ensures.value; algorithm = refl; well = refl });
        is = refl;
        short = short.1;
        count = c.put.ensures.count;
        same = short.0;
      }),
    )

pub returns-in-Err : goal.returns-in-Err
returns-in-Err c =
    let s : File = c.args.manifest.now in
    let held : List ℕ → Known = held_in s c.args.files.now in
    let fault = c.in-Err.fault in
    let named = subst (λ (name : List ℕ). RefusesManifest (RefusesRim held name) (held c.in-Ok-from_utf8.path.now) fault) c.in-Ok.ensures.cases.0
    c.in-Err.ensures.refused in
    inr (
      refl,
      inr (inl (record {
        fault = fault;
        holds = subst (λ (path : List ℕ). RefusesManifest (RefusesRim held c.args.launch.now) (held path) fault) c.in-Ok-from_utf8.ensures.cases.0 named;
        is = c.code_of.ensures.value;
        kept = (refl, refl);
      })),
    )
