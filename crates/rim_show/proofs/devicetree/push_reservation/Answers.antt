use Rattle.std.proofs.Common.{append_assoc}
use Rattle.rim_show.specs.ShownDevicetree.{reservation_line}
use Rattle.rim_show.proofs.devicetree.push_reservation.Goals as goal

pub returns : goal.returns
unfolding reservation_line
returns c = rw (
  c.in_ok-extend_from_slice-3.ensures.items,
  c.in_ok-push_digits-2.ensures.added,
  c.in_ok-extend_from_slice-2.ensures.items,
  c.in_ok-push_digits.ensures.added,
  c.in_ok-extend_from_slice.ensures.items,
) (simp append_assoc)
