use Rattle.std.proofs.Common.{◌≡◌, ◌++◌, take}
use Rattle.std.specs.List.{flat_map}
use Rattle.rim_show.specs.ShownDevicetree.{reservation_line}
use Rattle.rim_show.proofs.devicetree.push_reservations.Given as goal

abbrev pub invariant-loop-reservation : goal.invariant-loop-reservation
invariant-loop-reservation l = l.text.items ≡ l.initial.text.items ++ flat_map reservation_line (take l.reservation-index l.reservations)
