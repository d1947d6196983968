use Rattle.std.proofs.Common.{refl}
use Rattle.ipa_layout.proofs.layout.gather.Goals as goal

pub returns : goal.returns
returns c = rw (c.new.ensures, c.in_ok-items.ensures, c.in_ok-recs.ensures, c.items-3.ensures.value, c.recs.ensures.value, c.number-number.ensures, c.address_of.ensures, c.address_of-2.ensures, c.extent_at-kernel.ensures, c.extent_at-dtb.ensures, c.index_of.ensures, c.index_of-2.ensures, c.items.ensures.value, c.items-2.ensures.value) refl
