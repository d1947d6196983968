use Rattle.std.proofs.Common.{◌≡◌, Some, refl, slice_get}
use Rattle.std.proofs.lemmas.List.{length-map}
use Rattle.std.proofs.lemmas.Option.{slice_get-map, slice_get_read}
use Rattle.rim_manifest.proofs.manifest.Release.path.Goals as goal

pub returns : goal.returns
returns c =
    let read : slice_get c.self.inside.paths.items c.args.i ≡ Some c.index.result.now =
    slice_get_read _ _ c.args.i c.index.result.now refl (rw (← c.self.view_is, length-map) at c.requires) c.index.ensures in
    rw (← c.self.view_is, slice_get-map, read, ← c.as_str.ensures.value)
