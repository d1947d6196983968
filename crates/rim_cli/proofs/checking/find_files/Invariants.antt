use Rattle.std.proofs.Common.{◌≡◌, map, take}
use Rattle.rim_cli.specs.inside.Found.{AreFound}
use Rattle.rim_cli.proofs.checking.find_files.Given as goal

abbrev pub invariant-loop-i : goal.invariant-loop-i
invariant-loop-i g l = record {
  held : g.O.Opener.held l.opener ≡ g.O.Opener.held l.initial.opener;
  found : AreFound (g.O.Opener.held l.initial.opener) (take l.i l.release.paths) (map (λ file. file.items) l.files.items) l.unread.items;
}
