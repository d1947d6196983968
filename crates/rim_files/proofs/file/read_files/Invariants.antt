use Rattle.std.proofs.Common.{◌≡◌, map, take, vec_len}
use Rattle.rim_files.specs.Files.{AreRead}
use Rattle.rim_files.proofs.file.read_files.Given as goal

abbrev pub invariant-loop-i : goal.invariant-loop-i
invariant-loop-i g l = record {
  counted : vec_len l.files ≡ l.i;
  held : g.O.Opener.held l.opener ≡ g.O.Opener.held l.initial.opener;
  read : AreRead (g.O.Opener.held l.initial.opener) (take l.i l.release.paths) (map (λ file. file.items) l.files.items);
}
