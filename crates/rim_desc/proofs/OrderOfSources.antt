-- The order of sources is total, and sources that are equal in it are one.
use Rattle.std.proofs.Common.{◌≡◌, ℕ, true, refl, ap, arith}
use Rattle.std.proofs.lemmas.Bool.Decides.{nat_tests}
use Rattle.std.specs.Cmp.{IsTotalOrder, nat_cmp_total}
use Rattle.std.specs.Ordering.{is_eq, ordering_reverse}
use Rattle.std.specs.declared.cmp.Ordering.TheVariants.{Less, Equal}
use Rattle.rim_desc.specs.Source.{source_cmp}
use Rattle.rim_desc.specs.declared.source.Source.{Source}
use Rattle.rim_desc.specs.declared.source.Source.TheVariants.{File, Edited}

pub source_total : IsTotalOrder source_cmp
source_total = record { antisymm = turned; trans = chained; congr = alike }
  where
    turned : (a b : Source) → source_cmp a b ≡ ordering_reverse (source_cmp b a)
    turned (File a) (File b) = nat_cmp_total.antisymm a b
    turned (File a) (Edited b) = refl
    turned (Edited a) (File b) = refl
    turned (Edited a) (Edited b) = nat_cmp_total.antisymm a b

    chained : (a b d : Source) → source_cmp a b ≡ Less → source_cmp b d ≡ Less → source_cmp a d ≡ Less
    chained (File a) (File b) (File d) first next = nat_cmp_total.trans a b d first next
    chained (File a) (File b) (Edited d) first next = refl
    chained (File a) (Edited b) (File d) first next = absurd (cc)
    chained (File a) (Edited b) (Edited d) first next = refl
    chained (Edited a) (File b) d first next = absurd (cc)
    chained (Edited a) (Edited b) (File d) first next = absurd (cc)
    chained (Edited a) (Edited b) (Edited d) first next = nat_cmp_total.trans a b d first next

    alike : (a b d : Source) → source_cmp a b ≡ Equal → source_cmp a d ≡ source_cmp b d
    alike (File a) (File b) (File d) same = nat_cmp_total.congr a b d same
    alike (File a) (File b) (Edited d) same = refl
    alike (File a) (Edited b) d same = absurd (cc)
    alike (Edited a) (File b) d same = absurd (cc)
    alike (Edited a) (Edited b) (File d) same = refl
    alike (Edited a) (Edited b) (Edited d) same = nat_cmp_total.congr a b d same

-- sources of which none is before the other are one
pub source-equal : (a b : Source) → is_eq (source_cmp a b) ≡ true → a ≡ b
source-equal (File a) (File b) same = let one : a ≡ b = grind (arith, nat_tests) in ap (λ (n : ℕ). File n) one
source-equal (File a) (Edited b) same = absurd (cc)
source-equal (Edited a) (File b) same = absurd (cc)
source-equal (Edited a) (Edited b) same = let one : a ≡ b = grind (arith, nat_tests) in ap (λ (n : ℕ). Edited n) one
