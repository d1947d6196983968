use Rattle.std.proofs.Common.{◌≡◌, map, take}
use Rattle.rim_files.specs.AtOnce.{AreFollowedBy, IsUnknown}
use Rattle.rim_files.proofs.at_once.read_files_at_once.Given as goal

abbrev pub invariant-loop-i : goal.invariant-loop-i
invariant-loop-i g l = record {
  held : g.O.Opener.held l.opener ≡ g.O.Opener.held l.initial.opener;
  begun : AreFollowedBy IsUnknown (g.O.Opener.held l.initial.opener) (take l.i l.release.paths)
      (map (λ file. file.items) l.files.items) l.opened.items;
}
