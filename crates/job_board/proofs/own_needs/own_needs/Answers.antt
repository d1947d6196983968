use Rattle.std.proofs.Common.{rules, ◌≡◌, ℕ, ◌+◌, ◌<◌, ◌^◌, false, get_or, is_lt, length, arith, inl, inr, true, nat_lt}
use Rattle.std.specs.Prelude.{◌⊎◌, ◌≤◌, ◌==◌}
use Rattle.std.proofs.lemmas.Bool.{cases_lt}
use Rattle.std.proofs.lemmas.Bool.Decides.{nat_tests}
use Rattle.job_board.specs.contracts.grouping.StretchOrd.TheImpl.{ghosts as order}
use Rattle.job_board.specs.declared.grouping.Stretch.{Stretch}
use Rattle.job_core.proofs.NeedsOfGroups.{reaches_are_needs}
use Rattle.job_board.proofs.NeedsOfOwnPages.{AreRising, Rises, groups_own, own_groups}
use Rattle.job_board.proofs.own_needs.own_needs.Goals as goal

either : (x y : ℕ) → (y < x) ⊎ (x ≤ y) → (x ≤ y) ⊎ (y < x)
either x y (inl lt) = inr lt
either x y (inr le) = inl le

-- what the sort says of two neighbours
rises : (a b : Stretch) → is_lt (order.cmp b a) ≡ false → Rises a b
rises a b falls = by (cases_lt a.first b.first)
  where
    by_count : (a.count ≤ b.count) ⊎ (b.count < a.count) → a.first ≡ b.first → Rises a b
    by_count (inl le) same = inr (same, le)
    by_count (inr lt) same =
        let first : nat_lt b.first a.first ≡ false = grind (arith, nat_tests) in
        let equal : (b.first == a.first) ≡ true = grind (arith, nat_tests) in
        let count : nat_lt b.count a.count ≡ true = grind (arith, nat_tests) in
        let impossible = rw (first, equal, count) at falls in
        absurd (cc)

    by_first : (b.first < a.first) ⊎ (a.first ≤ b.first) → b.first ≤ a.first → Rises a b
    by_first (inl lt) le =
        let first : nat_lt b.first a.first ≡ true = grind (arith, nat_tests) in
        let impossible = rw first at falls in
        absurd (cc)
    by_first (inr ge) le = by_count (either a.count b.count (cases_lt b.count a.count)) (omega (arith, ge, le))

    by : (a.first < b.first) ⊎ (b.first ≤ a.first) → Rises a b
    by (inl lt) = inl lt
    by (inr le) = by_first (cases_lt b.first a.first) le

in_order : (c : goal.After-drop-stretches-2) → AreRising c.sort_unstable.new.self.items
in_order c = λ k d lt. rises (get_or c.sort_unstable.new.self.items k d) (get_or c.sort_unstable.new.self.items (k + 1) d) (c.sort_unstable.ensures.sorted k d (omega arith) lt)

few : (c : goal.After-drop-stretches-2) → length c.sort_unstable.new.self.items < 2 ^ 64
few c = search rules

pub returns-clause-needs : goal.returns-clause-needs
returns-clause-needs c =
    reaches_are_needs (length c.args.table.now.pages) (length c.args.plans.now) c.in_ok-groups.groups
    (own_groups c.args.table.now c.pages-pages.ensures.table c.args.plans.now c.in_ok-stretches.stretches.items c.sort_unstable.new.self.items c.in_ok-groups.groups.items
    c.requires c.in_ok-stretches.ensures.begin c.in_ok-stretches.ensures.stretches c.sort_unstable.ensures.permutation (in_order c) (few c) (λ are. rw (← c.deref.ensures.value) (c.in_ok-groups.ensures (length c.args.table.now.pages) (length c.args.plans.now) (rw c.deref.ensures.value are))))

pub returns-clause-own : goal.returns-clause-own
returns-clause-own c =
    groups_own c.args.table.now c.pages-pages.ensures.table c.args.plans.now c.in_ok-stretches.stretches.items c.sort_unstable.new.self.items c.in_ok-groups.groups.items
    c.requires c.in_ok-stretches.ensures.begin c.in_ok-stretches.ensures.stretches c.sort_unstable.ensures.permutation (in_order c) (few c) (λ are. rw (← c.deref.ensures.value) (c.in_ok-groups.ensures (length c.args.table.now.pages) (length c.args.plans.now) (rw c.deref.ensures.value are)))
