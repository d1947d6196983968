use Rattle.std.proofs.Common.{refl}
use Rattle.rim_sha256.proofs.lanes.rounds.added.Goals as goal

pub returns : goal.returns
returns g c j low =
    rw (
      c.eight.ensures,
      c.add.ensures.1 j low,
      c.add-2.ensures.1 j low,
      c.add-3.ensures.1 j low,
      c.add-4.ensures.1 j low,
      c.add-5.ensures.1 j low,
      c.add-6.ensures.1 j low,
      c.add-7.ensures.1 j low,
      c.add-8.ensures.1 j low,
    )
    refl
