use Rattle.std.proofs.Common.{◌≡◌, List, ℕ}
use Rattle.std.specs.Prelude.{Ok}
use Rattle.std.proofs.lemmas.Result.{IfErr-weaker, IfOk-weaker}
use Rattle.rim_manifest.specs.Manifest.{manifest_of}
use Rattle.rim_files.specs.Files.{Known}
use Rattle.rim_files.proofs.ReadFileByFile.{of_bytes}
use Rattle.rim_cli.proofs.found.read_release.Goals as goal

pub returns-clause-read : goal.returns-clause-read
returns-clause-read g c =
    IfOk-weaker c.release_in.result _ _
    (λ r read. of_bytes _ (g.O.Reader.Bytes.AsSlice.items c.in_ok-text.text) (λ bytes. manifest_of bytes ≡ Ok r) c.in_ok-text.ensures.read
    (rw c.as_slice.ensures at read)) c.release_in.ensures.read

pub returns-clause-fault : goal.returns-clause-fault
returns-clause-fault g c =
    let held : List ℕ → Known = g.O.Opener.held c.args.opener.now in
    IfErr-weaker c.release_in.result _ _ (λ e fault. fault (held c.args.path.now) (rw c.as_slice.ensures c.in_ok-text.ensures.read))
    c.release_in.ensures.fault
