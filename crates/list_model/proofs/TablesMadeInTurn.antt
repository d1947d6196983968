-- The tables that a block needs are made one after another.
use Rattle.std.proofs.Common.{◌≡◌, ℕ, zero, suc, ◌+◌, ◌-◌, ◌%◌, ◌<◌, ◌≤◌, ◌∙◌, refl, arith, Bool, true, false, not, cond, List, [], ◌∷◌, ◌++◌, length, append_assoc}
use Rattle.std.specs.Prelude.{Ok, nat_lt}
use Rattle.std.specs.List.{filter, list_all}
use Rattle.std.proofs.lemmas.Bool.{and_parts}
use Rattle.std.proofs.lemmas.Bool.Decides.{nat_tests}
use Rattle.std.proofs.lemmas.List.{append-nil}
use Rattle.rim_desc.specs.declared.command.Command.{Command}
use Rattle.rim_desc.specs.declared.command.Command.TheVariants.{Delegate, RttCreate}
use Rattle.rmm_model.specs.Blocks.{down, size, span}
use Rattle.rmm_model.specs.Checks.{walk_of}
use Rattle.rmm_model.specs.Space.{SameSpace, Space, after_table, made}
use Rattle.rmm_model.specs.State.{State}
use Rattle.rmm_model.specs.Owners.{give}
use Rattle.rmm_model.specs.Effects.{changed}
use Rattle.rmm_model.specs.Step.{step}
use Rattle.rmm_model.specs.declared.outcome.Kind.TheVariants as kind
use Rattle.rmm_model.specs.declared.table.Table.{Table}
use Rattle.rmm_model.proofs.BlockArithmetic.{down-le, multiple-of, span-size}
use Rattle.rmm_model.proofs.KindsAfterGifts.{kind_of-here, kind_of-other}
use Rattle.rmm_model.proofs.SameSpaces.{insert-alike, walk-same}
use Rattle.rmm_model.proofs.CommandsTaken.{delegate-taken, rtt_create-taken}
use Rattle.rtt_plan.specs.InTurn.{AreMadeInTurn, CanBeMade}
use Rattle.rtt_plan.specs.Missing.{missing, needed}
use Rattle.list_model.specs.Entries.{Contents, commands_of, granule, table_entries}
use Rattle.list_model.specs.Leading.{Build, Built, IsBuilt, Leads}
use Rattle.list_model.proofs.CommandsLeadOn.{leads-cons, leads-none, not-empty}

-- ---- tables of the protected half

abbrev pub are_inside : ℕ → List Table → Bool
are_inside protected_end ts = list_all (λ t. nat_lt t.base protected_end) ts

missing-inside : (ts : List Table) (protected_end x n j : ℕ) → x < protected_end → are_inside protected_end (filter (λ t. not (made ts t.level t.base)) (needed n j x)) ≡ true
unfolding needed
missing-inside ts protected_end x zero j inside = refl
missing-inside ts protected_end x (suc n) j inside = by_test (missing-inside ts protected_end x n (suc j) inside) (made ts (suc j) (down (span (suc j)) x))
  where
    t : Table
    t = record { level = suc j; base = down (span (suc j)) x }

    rest : List Table
    rest = filter (λ t. not (made ts t.level t.base)) (needed n (suc j) x)

    here : nat_lt t.base protected_end ≡ true
    here = let low : down (span (suc j)) x ≤ x = down-le (span (suc j)) x in grind (arith, nat_tests)

    by_test : are_inside protected_end rest ≡ true → (c : Bool) → are_inside protected_end (cond (not c) (t ∷ rest) rest) ≡ true
    by_test others true = others
    by_test others false = rw (here, others) refl

pub are-inside : (start : ℕ) (ts : List Table) (l x protected_end : ℕ) → x < protected_end → are_inside protected_end (missing start ts l x) ≡ true
are-inside start ts l x protected_end inside = missing-inside ts protected_end x (l - start) start inside

-- ---- one table

-- a table covers as much as an entry of the table above it
span-above : (l : ℕ) → 0 < l → l ≤ 3 → span l ≡ size (l - 1)
span-above zero pos low = absurd (omega arith)
span-above (suc j) pos low = let e : suc j - 1 ≡ j = omega arith in rw e (span-size j (omega arith))

abbrev pub with_tables : Built → List Table → Built
with_tables w ts = record w { space = record w.space { tables = w.space.tables ++ ts }; taken = w.taken + length ts }

same-more : (s t : Space) (u : Table) → SameSpace s t → SameSpace (after_table s u.level u.base) (record t { tables = t.tables ++ u ∷ [] })
same-more s t u same = record {
  start = same.start;
  protected_end = same.protected_end;
  tables = insert-alike s.tables t.tables u same.tables;
  ram = same.ram;
  ranges = same.ranges;
  assigned = same.assigned;
}

table-built : (b : Build) (w : Built) (s : State) (t : Table) → IsBuilt b w s
    → IsBuilt b (with_tables w (t ∷ [])) (changed (changed s (Delegate (granule b.pool w.taken))) (RttCreate (granule b.pool w.taken) t.base t.level))
table-built b w s t built = record {
  new = built.new;
  params = built.params;
  num_aux = built.num_aux;
  rule = built.rule;
  num_recs = built.num_recs;
  space = same-more s.space w.space t built.space;
  some = built.some;
  some_built = built.some_built;
  pool = built.pool;
  free = λ h o.
      kind_of-other (give s.owners (granule b.pool w.taken) kind.Delegated) (granule b.pool w.taken) h kind.Rtt (λ e. omega arith)
      ∙ (kind_of-other s.owners (granule b.pool w.taken) h kind.Delegated (λ e. omega arith) ∙ built.free h (omega arith));
}

table-leads : (contents : Contents) (b : Build) (w v : Built) (s : State) (t : Table) (cs : List Command) → IsBuilt b w s
    → CanBeMade w.space.start w.space.tables t → t.base < w.space.protected_end
    → ((u : State) → IsBuilt b (with_tables w (t ∷ [])) u → Leads b v u cs [])
    → Leads b v s (Delegate (granule b.pool w.taken) ∷ RttCreate (granule b.pool w.taken) t.base t.level ∷ cs) []
table-leads contents b w v s t cs built can inside later =
    let g : ℕ = granule b.pool w.taken in
    let s1 : State = changed s (Delegate g) in
    let g_at : g % 4096 ≡ 0 = omega (arith, built.pool) in
    let delegated : step s (Delegate g) ≡ Ok s1 = delegate-taken s g g_at (built.free g (omega arith)) in
    let walked : walk_of s.space t.base ≡ t.level - 1 = walk-same s.space w.space t.base built.space ∙ can.above in
    let level : w.space.start < t.level = can.level in
    let deepest : t.level ≤ 3 = can.deepest in
    let spanned : span t.level ≡ size (t.level - 1) = span-above t.level (omega arith) deepest in
    let place : t.base % size (t.level - 1) ≡ 0 = multiple-of (size (t.level - 1)) t.base (rw (← spanned) can.base_at) in
    let start : s.space.start ≡ w.space.start = built.space.start in
    let protected_end : s.space.protected_end ≡ w.space.protected_end = built.space.protected_end in
    let made_it : step s1 (RttCreate g t.base t.level) ≡ Ok (changed s1 (RttCreate g t.base t.level)) =
    rtt_create-taken s1 g t.base t.level (not-empty s.phase built.new) (omega arith) deepest g_at place (omega arith) walked (kind_of-here s.owners g kind.Delegated) in
    leads-cons b v s s1 (Delegate g) (RttCreate g t.base t.level ∷ cs) [] [] delegated refl
    (leads-cons b v s1 (changed s1 (RttCreate g t.base t.level)) (RttCreate g t.base t.level) cs [] [] made_it refl
    (later (changed s1 (RttCreate g t.base t.level)) (table-built b w s t built)))

-- ---- some tables

pub tables-lead : (contents : Contents) (b : Build) (new : List Table) (w : Built) (s : State) → IsBuilt b w s
    → AreMadeInTurn w.space.start w.space.tables new → are_inside w.space.protected_end new ≡ true
    → Leads b (with_tables w new) s (commands_of contents (table_entries b.pool w.taken new)) []
unfolding AreMadeInTurn table_entries
tables-lead contents b [] w s built made inside =
    let e : w.space.tables ++ [] ≡ w.space.tables = append-nil w.space.tables in
    let f : w.taken + 0 ≡ w.taken = omega arith in
    leads-none b (with_tables w []) s (rw (e, f) built)
tables-lead contents b (t ∷ new) w s built made inside =
    let parts = and_parts (nat_lt t.base w.space.protected_end) (are_inside w.space.protected_end new) inside in
    let e : (w.space.tables ++ t ∷ []) ++ new ≡ w.space.tables ++ (t ∷ new) = append_assoc w.space.tables (t ∷ []) new in
    let f : (w.taken + 1) + length new ≡ w.taken + length (t ∷ new) = omega arith in
    table-leads contents b w (with_tables w (t ∷ new)) s t (commands_of contents (table_entries b.pool (w.taken + 1) new)) built (made.0) (grind (arith, nat_tests))
    (λ u then. rw (← e, ← f) (tables-lead contents b new (with_tables w (t ∷ [])) u then (made.1) parts.1))
