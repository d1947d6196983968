-- Members that several maps have. This project's choice.
use Rattle.std.specs.Prelude.{codes}
use Rattle.serde_json.specs.Data.{Members, array, put}
use Rattle.serde_json.specs.View.{items_of}
use Rattle.rim_map.specs.MapJson.{SpaceView}

-- some members and those of an address space
abbrev pub with_space : SpaceView → Members → Members
with_space space members = put (codes "regions") (array (items_of space.regions)) (put (codes "items") (array (items_of space.items))
    (put (codes "gaps") (array (items_of space.gaps)) members))
