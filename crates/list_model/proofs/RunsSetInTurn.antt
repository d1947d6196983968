-- The runs of a region are set one after another.
use Rattle.std.proofs.Common.{◌≡◌, ℕ, ◌+◌, ◌-◌, ◌/◌, ◌%◌, ◌<◌, ◌≤◌, ◌∙◌, refl, ap, arith, true, false, ◌&&◌, ◌||◌, leb, ltb, List, [], ◌∷◌, ◌++◌, length}
use Rattle.std.specs.Prelude.{Ok}
use Rattle.std.proofs.lemmas.Bool.Decides.{nat_tests}
use Rattle.std.proofs.lemmas.List.{map-append}
use Rattle.rim_desc.specs.Part.{Part, Ripas}
use Rattle.rim_desc.specs.declared.command.Command.{Command}
use Rattle.rim_desc.specs.declared.command.Command.TheVariants.{InitRipas}
use Rattle.rmm_model.specs.Blocks.{down, size, stretches}
use Rattle.rmm_model.specs.Checks.{walk_of}
use Rattle.rmm_model.specs.Space.{SameSpace, Space, after_run, are_some, deeper, overlaps}
use Rattle.rmm_model.specs.State.{State}
use Rattle.rmm_model.specs.Effects.{changed, measured, parts, ripas_parts}
use Rattle.rmm_model.specs.Step.{step}
use Rattle.rmm_model.specs.declared.table.Table.{Table}
use Rattle.rmm_model.proofs.BlockArithmetic.{multiple-of}
use Rattle.rmm_model.proofs.SameSpaces.{deeper-alike, walk-same}
use Rattle.rmm_model.proofs.OneMoreInSpace.{are_some-insert, is_ram-insert, overlaps-insert}
use Rattle.rmm_model.proofs.CommandsTaken.{init_ripas-taken}
use Rattle.rtt_plan.specs.Following.{AreRuns, IsRun, blocks_of}
use Rattle.rtt_plan.specs.InTurn.{AreSetInTurn, CanBeSet}
use Rattle.rtt_plan.specs.Missing.{missing, run_tables}
use Rattle.rtt_plan.specs.declared.run.Run.{Run}
use Rattle.rtt_plan.proofs.RoundingToBlocks.{down-size}
use Rattle.list_model.specs.Entries.{Contents, Entry, Whole, command_of, commands_of, delegated, run_entries, table_entries}
use Rattle.list_model.specs.Leading.{Build, Built, IsBuilt, Leads}
use Rattle.list_model.proofs.GranulesOfEntries.{count-append, count-tables}
use Rattle.list_model.proofs.CommandsLeadOn.{leads-cons, leads-none, leads-then}
use Rattle.list_model.proofs.TablesMadeInTurn.{are-inside, tables-lead, with_tables}

-- ---- one run

abbrev pub with_run : Built → Run → Built
with_run w r = record w { space = record w.space { ram = (r.base, r.top) ∷ w.space.ram } }

same-set : (s t : Space) (base top : ℕ) → are_some s.ram ≡ true → base < top → overlaps s.ram base top ≡ false → SameSpace s t
    → SameSpace (after_run s base top) (record t { ram = (base, top) ∷ t.ram })
same-set s t base top some lt free same = record {
  start = same.start;
  protected_end = same.protected_end;
  tables = same.tables;
  ram = λ x. is_ram-insert s.ram base top x some lt free ∙ ap (λ old. (leb base x && ltb x top) || old) (same.ram x);
  ranges = λ from to below. overlaps-insert s.ram base top from to some lt free ∙ ap (λ old. (ltb base to && ltb from top) || old) (same.ranges from to below);
  assigned = same.assigned;
}

run-built : (b : Build) (w : Built) (s : State) (r : Run) (ps : List Part) → IsBuilt b w s → r.base < r.top → overlaps s.space.ram r.base r.top ≡ false
    → IsBuilt b (with_run w r) (measured (changed s (InitRipas r.base r.top)) ps)
run-built b w s r [] built lt free = record {
  new = built.new;
  params = built.params;
  num_aux = built.num_aux;
  rule = built.rule;
  num_recs = built.num_recs;
  space = same-set s.space w.space r.base r.top built.some lt free built.space;
  some = are_some-insert s.space.ram r.base r.top built.some lt;
  some_built = (let i : are_some w.space.ram ≡ true = built.some_built in grind (arith, nat_tests));
  pool = built.pool;
  free = built.free;
}
run-built b w s r (p ∷ ps) built lt free = record {
  new = built.new;
  params = built.params;
  num_aux = built.num_aux;
  rule = built.rule;
  num_recs = built.num_recs;
  space = same-set s.space w.space r.base r.top built.some lt free built.space;
  some = are_some-insert s.space.ram r.base r.top built.some lt;
  some_built = (let i : are_some w.space.ram ≡ true = built.some_built in grind (arith, nat_tests));
  pool = built.pool;
  free = built.free;
}

page-multiple : (x : ℕ) → down (size 3) x ≡ x → x % 4096 ≡ 0
unfolding size
page-multiple x at = multiple-of 4096 x at

-- the blocks of a run
abbrev blocks_in : Run → List (ℕ × ℕ)
blocks_in r = stretches ((r.top - r.base) / size r.level) (size r.level) r.base

run-leads : (b : Build) (w v : Built) (s : State) (least_level : ℕ) (r : Run) (cs : List Command) (qs : List Part) → IsBuilt b w s
    → CanBeSet w.space.start w.space.tables w.space.ram r → IsRun least_level r → r.top ≤ w.space.protected_end
    → ((u : State) → IsBuilt b (with_run w r) u → Leads b v u cs qs)
    → Leads b v s (InitRipas r.base r.top ∷ cs) (ripas_parts (blocks_in r) ++ qs)
run-leads b w v s least_level r cs qs built can run inside later =
    let some : r.base < r.top = run.some in
    let walked : walk_of s.space r.base ≡ r.level = walk-same s.space w.space r.base built.space ∙ can.ends in
    let free : overlaps s.space.ram r.base r.top ≡ false = built.space.ranges r.base r.top some ∙ can.free in
    let none : deeper s.space.tables r.level r.base r.top ≡ false = deeper-alike s.space.tables w.space.tables r.level r.base r.top built.space.tables ∙ can.none_deeper in
    let protected_end : s.space.protected_end ≡ w.space.protected_end = built.space.protected_end in
    let page_base : r.base % 4096 ≡ 0 = page-multiple r.base (down-size r.level 3 r.base run.deepest run.base_at) in
    let page_top : r.top % 4096 ≡ 0 = page-multiple r.top (down-size r.level 3 r.top run.deepest run.top_at) in
    let next : State = measured (changed s (InitRipas r.base r.top)) (parts s (InitRipas r.base r.top)) in
    let taken : step s (InitRipas r.base r.top) ≡ Ok next =
    init_ripas-taken s r.base r.top r.level built.new some page_base page_top (omega arith) walked
    (multiple-of (size r.level) r.base run.base_at) (multiple-of (size r.level) r.top run.top_at) run.in_table free none in
    let own : parts s (InitRipas r.base r.top) ≡ ripas_parts (blocks_in r) = rw walked refl in
    leads-cons b v s next (InitRipas r.base r.top) cs (ripas_parts (blocks_in r)) qs taken own
    (later next (run-built b w s r (parts s (InitRipas r.base r.top)) built some free))

-- ---- some runs

-- RAM with some runs, the last first
unfoldable pub piled : List Run → List (ℕ × ℕ) → List (ℕ × ℕ)
piled [] ram = ram
piled (r ∷ rs) ram = piled rs ((r.base, r.top) ∷ ram)

abbrev pub with_runs : ℕ → Built → List Run → Built
with_runs pool w rs = record w {
  space = record w.space { tables = run_tables w.space.start w.space.tables rs; ram = piled rs w.space.ram };
  taken = w.taken + delegated (run_entries pool w.taken w.space.start w.space.tables rs);
}

pub runs-lead : (contents : Contents) (b : Build) (least_level end : ℕ) (rs : List Run) (x : ℕ) (w : Built) (s : State) → IsBuilt b w s
    → AreSetInTurn w.space.start w.space.tables w.space.ram rs → AreRuns least_level x end rs → end ≤ w.space.protected_end
    → Leads b (with_runs b.pool w rs) s (commands_of contents (run_entries b.pool w.taken w.space.start w.space.tables rs)) (ripas_parts (blocks_of rs))
unfolding AreSetInTurn AreRuns run_entries run_tables blocks_of piled
runs-lead contents b least_level end [] x w s built set runs inside =
    let e : w.taken + 0 ≡ w.taken = omega arith in
    leads-none b (with_runs b.pool w []) s (rw e built)
runs-lead contents b least_level end (r ∷ rs) x w s built set runs inside =
    let run : IsRun least_level r = runs.0 in
    let below : r.top ≤ end = runs.2 in
    let some : r.base < r.top = run.some in
    let new : List Table = missing w.space.start w.space.tables r.level r.base in
    let w1 : Built = with_tables w new in
    let w2 : Built = with_run w1 r in
    let rest : List Entry = run_entries b.pool (w.taken + length new) w.space.start (w.space.tables ++ new) rs in
    let all : Built = with_runs b.pool w2 rs in
    let first : Leads b w1 s (commands_of contents (table_entries b.pool w.taken new)) [] =
    tables-lead contents b new w s built (set.0) (are-inside w.space.start w.space.tables r.level r.base w.space.protected_end (omega arith)) in
    let later : (u : State) → IsBuilt b w2 u → Leads b all u (commands_of contents rest) (ripas_parts (blocks_of rs)) =
    λ u then. runs-lead contents b least_level end rs r.top w2 u then (set.2) (runs.3) inside in
    let whole = leads-then b w1 all s (commands_of contents (table_entries b.pool w.taken new)) (InitRipas r.base r.top ∷ commands_of contents rest)
    [] (ripas_parts (blocks_in r) ++ ripas_parts (blocks_of rs)) first
    (λ t then. run-leads b w1 all t least_level r (commands_of contents rest) (ripas_parts (blocks_of rs)) then (set.1) run (omega arith) later) in
    let words : commands_of contents (table_entries b.pool w.taken new ++ (Whole (InitRipas r.base r.top) ∷ rest))
    ≡ commands_of contents (table_entries b.pool w.taken new) ++ (InitRipas r.base r.top ∷ commands_of contents rest) =
    map-append (command_of contents) (table_entries b.pool w.taken new) (Whole (InitRipas r.base r.top) ∷ rest) in
    let said : ripas_parts (blocks_in r ++ blocks_of rs) ≡ ripas_parts (blocks_in r) ++ ripas_parts (blocks_of rs) =
    map-append (λ (q : ℕ × ℕ). Ripas q.0 q.1) (blocks_in r) (blocks_of rs) in
    let a : delegated (table_entries b.pool w.taken new ++ (Whole (InitRipas r.base r.top) ∷ rest)) ≡ delegated (table_entries b.pool w.taken new) + delegated rest =
    count-append (table_entries b.pool w.taken new) (Whole (InitRipas r.base r.top) ∷ rest) in
    let c : delegated (table_entries b.pool w.taken new) ≡ length new = count-tables b.pool w.taken new in
    let count : (w.taken + length new) + delegated rest ≡ w.taken + delegated (table_entries b.pool w.taken new ++ (Whole (InitRipas r.base r.top) ∷ rest)) = omega arith in
    rw (words, said, ← count) whole
