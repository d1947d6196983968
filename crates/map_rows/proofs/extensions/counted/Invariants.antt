use Rattle.std.proofs.Common.{◌≡◌, take}
use Rattle.map_rows.specs.inside.Links.{links_extensions}
use Rattle.map_rows.proofs.extensions.counted.Given as goal

-- the extensions of the links so far
abbrev pub invariant-loop-link : goal.invariant-loop-link
invariant-loop-link l = l.found ≡ links_extensions (take l.link-index l.links)
