use Rattle.std.proofs.Common.{◌≡◌, ◌+◌, ◌<◌, ◌≤◌, ◌∙◌, ℕ, List, arith, false, true, leb, ltb, sym, ◌&&◌}
use Rattle.std.specs.Map.Iter.{deref_pair}
use Rattle.std.specs.BTreeMap.Range.{range_contains}
use Rattle.std.specs.Ordering.{nat_cmp}
use Rattle.std.specs.declared.ops.Bound.TheVariants.{Included, Unbounded}
use Rattle.std.proofs.lemmas.Bool.Decides.{nat_tests}
use Rattle.rmm_model.specs.Blocks.{is_multiple}
use Rattle.rmm_model.specs.Space.{overlaps}
use Rattle.rmm_model.proofs.LastMeets.{last-all, last-any, last-meets, last-passes, none-meets, begins-up_to}
use Rattle.rmm_model.proofs.RangesOfRam.{no-ram}
use Rattle.rtt_plan.proofs.questions.ram_end.Goals as goal

pub returns-then-ipa-top-clause-some : goal.returns-then-ipa-top-clause-some
returns-then-ipa-top-clause-some c =
    let ram : List (ℕ × ℕ) = c.args.ram.now.entries in
    let first : ℕ = c.in-Some.field-0-0.now in
    let top : ℕ = c.in-Some.top.now in
    let begins : range_contains nat_cmp Unbounded (Included c.args.ipa) first ≡ true =
    last-passes deref_pair (λ e. range_contains nat_cmp Unbounded (Included c.args.ipa) e.0) ram
    c.range.result c.next_back.new.self c.next_back.result (c.in-Some.field-0-0, c.in-Some.top)
    (c.range.ensures.between tt) c.in-Some.is c.next_back.ensures.steps in
    let below : first ≤ c.args.ipa = grind (arith, nat_tests) in
    let pages : (is_multiple 4096 first && is_multiple 4096 top && ltb first top) ≡ true =
    last-all deref_pair (λ e. range_contains nat_cmp Unbounded (Included c.args.ipa) e.0) (λ r. is_multiple 4096 r.0 && is_multiple 4096 r.1 && ltb r.0 r.1) ram
    c.range.result c.next_back.new.self c.next_back.result (c.in-Some.field-0-0, c.in-Some.top)
    (c.range.ensures.between tt) c.in-Some.is c.next_back.ensures.steps c.requires.whole in
    let some : c.args.ipa < top = grind (arith, nat_tests) in
    record {
      past = some;
      whole = grind (arith, nat_tests);
      all = λ y lo hi.
          last-any deref_pair (λ e. range_contains nat_cmp Unbounded (Included c.args.ipa) e.0) (λ r. leb r.0 y && ltb y r.1) ram
          c.range.result c.next_back.new.self c.next_back.result (c.in-Some.field-0-0, c.in-Some.top)
          (c.range.ensures.between tt) c.in-Some.is c.next_back.ensures.steps
          (both first top y (omega arith) hi);
    }
  where
    both : (b t y : ℕ) → b ≤ y → y < t → (leb b y && ltb y t) ≡ true
    both b t y lo hi = grind (arith, nat_tests)

pub returns-else-ipa-top-clause-none : goal.returns-else-ipa-top-clause-none
returns-else-ipa-top-clause-none c =
    let meets : ltb c.args.ipa c.in-Some.top.now ≡ overlaps c.args.ram.now.entries c.args.ipa (c.args.ipa + 1) =
    last-meets deref_pair (λ e. range_contains nat_cmp Unbounded (Included c.args.ipa) e.0) c.args.ram.now.entries
    c.range.result c.next_back.new.self c.next_back.result (c.in-Some.field-0-0, c.in-Some.top) c.args.ipa (c.args.ipa + 1)
    c.requires.apart (begins-up_to c.args.ipa) (c.range.ensures.between tt) c.in-Some.is c.next_back.ensures.steps in
    let off : ltb c.args.ipa c.in-Some.top.now ≡ false = grind (arith, nat_tests) in
    no-ram c.args.ram.now.entries c.args.ipa (c.args.ipa + 1) c.args.ipa (sym meets ∙ off) (omega arith) (omega arith)

pub returns-in-None-clause-none : goal.returns-in-None-clause-none
returns-in-None-clause-none c =
    no-ram c.args.ram.now.entries c.args.ipa (c.args.ipa + 1) c.args.ipa
    (sym (none-meets deref_pair (λ e. range_contains nat_cmp Unbounded (Included c.args.ipa) e.0) c.args.ram.now.entries
    c.range.result c.next_back.new.self c.next_back.result c.args.ipa (c.args.ipa + 1)
    (begins-up_to c.args.ipa) (c.range.ensures.between tt) c.in-None.is c.next_back.ensures.steps))
    (omega arith) (omega arith)
