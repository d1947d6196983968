-- Plans that agree go on alike.
use Rattle.std.proofs.Common.{◌≡◌, ℕ, ◌-◌, ◌<◌, ◌∙◌, sym, refl, ap, not, ◌||◌, List, [], ◌∷◌, ◌++◌, map}
use Rattle.refusal.specs.Checks.{unless_refused}
use Rattle.rmm_model.specs.Blocks.{granules}
use Rattle.rmm_model.specs.Checks.{walk_of}
use Rattle.rmm_model.specs.Space.{SameTables, has, is_ram, made, overlaps}
use Rattle.rmm_model.specs.declared.table.Table.{Table}
use Rattle.rmm_model.proofs.AppendedSpaces.{has-append, overlaps-append, ram-append}
use Rattle.rmm_model.proofs.SameSpaces.{append-alike, same-refl, same-sym, same-trans, walk-same}
use Rattle.rmm_model.proofs.TestsThatAgree.{filter-same, list_all-same, list_any-same}
use Rattle.rtt_plan.specs.declared.act.Act.TheVariants as act
use Rattle.rtt_plan.specs.declared.run.Run.{Run}
use Rattle.rtt_plan.specs.Planned.{AgreesWith, Planned, after_data, after_region, data_acts, data_checks, plan_data, plan_region, region_checks}
use Rattle.rtt_plan.specs.Runs.{runs_of}
use Rattle.rtt_plan.specs.Missing.{needed, page_acts, page_tables, put_page, run_acts, run_tables, table_act, missing}

-- ---- tables

pub missing-alike : (start level x : ℕ) (ts us : List Table) → SameTables ts us → missing start ts level x ≡ missing start us level x
missing-alike start level x ts us alike =
    filter-same (λ t. not (made ts t.level t.base)) (λ t. not (made us t.level t.base)) (needed (level - start) start x) (λ t. ap not (alike t.level t.base))

-- the tables after a block's were added
pub more-alike : (start level x : ℕ) (ts us : List Table) → SameTables ts us → SameTables (ts ++ missing start ts level x) (us ++ missing start us level x)
more-alike start level x ts us alike = rw (missing-alike start level x ts us alike) (append-alike ts us (missing start us level x) alike)

pub run_tables-alike : (start : ℕ) (runs : List Run) (ts us : List Table) → SameTables ts us → SameTables (run_tables start ts runs) (run_tables start us runs)
unfolding run_tables
run_tables-alike start [] ts us alike = alike
run_tables-alike start (r ∷ rs) ts us alike =
    run_tables-alike start rs (ts ++ missing start ts r.level r.base) (us ++ missing start us r.level r.base) (more-alike start r.level r.base ts us alike)

pub page_tables-alike : (start : ℕ) (pages : List ℕ) (ts us : List Table) → SameTables ts us → SameTables (page_tables start ts pages) (page_tables start us pages)
unfolding page_tables
page_tables-alike start [] ts us alike = alike
page_tables-alike start (x ∷ xs) ts us alike =
    page_tables-alike start xs (ts ++ missing start ts 3 x) (us ++ missing start us 3 x) (more-alike start 3 x ts us alike)

-- ---- acts

pub run_acts-alike : (start : ℕ) (runs : List Run) (ts us : List Table) → SameTables ts us → run_acts start ts runs ≡ run_acts start us runs
unfolding run_acts
run_acts-alike start [] ts us alike = refl
run_acts-alike start (r ∷ rs) ts us alike =
    let new : List Table = missing start us r.level r.base in
    rw (missing-alike start r.level r.base ts us alike)
    (ap (λ acts. map table_act new ++ (act.Run r.base r.top r.level ∷ acts)) (run_acts-alike start rs (ts ++ new) (us ++ new) (append-alike ts us new alike)))

pub page_acts-alike : (start : ℕ) (pages : List ℕ) (ts us : List Table) → SameTables ts us → page_acts start ts pages ≡ page_acts start us pages
unfolding page_acts
page_acts-alike start [] ts us alike = refl
page_acts-alike start (x ∷ xs) ts us alike =
    let new : List Table = missing start us 3 x in
    rw (missing-alike start 3 x ts us alike)
    (ap (λ acts. map table_act new ++ put_page x acts) (page_acts-alike start xs (ts ++ new) (us ++ new) (append-alike ts us new alike)))

-- ---- plans

pub agrees-refl : (p : Planned) → AgreesWith p p
agrees-refl p = record { space = same-refl p.space; least_level = refl; entries = refl }

pub agrees-sym : (p q : Planned) → AgreesWith p q → AgreesWith q p
agrees-sym p q agrees = record { space = same-sym p.space q.space agrees.space; least_level = sym agrees.least_level; entries = sym agrees.entries }

pub agrees-trans : (p q r : Planned) → AgreesWith p q → AgreesWith q r → AgreesWith p r
agrees-trans p q r first second = record {
  space = same-trans p.space q.space r.space first.space second.space;
  least_level = first.least_level ∙ second.least_level;
  entries = first.entries ∙ second.entries;
}

pub data_acts-alike : (p q : Planned) (base count : ℕ) → AgreesWith p q → data_acts p base count ≡ data_acts q base count
data_acts-alike p q base count agrees =
    ap (λ start. page_acts start p.space.tables (granules count base)) agrees.space.start
    ∙ page_acts-alike q.space.start (granules count base) p.space.tables q.space.tables agrees.space.tables

pub walks-alike : (p q : Planned) (x : ℕ) → AgreesWith p q → walk_of p.space x ≡ walk_of q.space x
walks-alike p q x agrees = walk-same p.space q.space x agrees.space

pub plan_region-alike : (p q : Planned) (base end : ℕ) → base < end → AgreesWith p q → plan_region p base end ≡ plan_region q base end
unfolding plan_region
plan_region-alike p q base end lt agrees =
    rw (agrees.space.protected_end, agrees.space.ranges base end lt, agrees.entries, agrees.least_level, agrees.space.start)
    (ap (unless_refused (region_checks q base end)) (run_acts-alike q.space.start (runs_of base end q.least_level) p.space.tables q.space.tables agrees.space.tables))

pub plan_data-alike : (p q : Planned) (base count : ℕ) → AgreesWith p q → plan_data p base count ≡ plan_data q base count
unfolding plan_data
plan_data-alike p q base count agrees =
    rw (
      agrees.space.protected_end,
      list_all-same (is_ram p.space.ram) (is_ram q.space.ram) (granules count base) agrees.space.ram,
      list_any-same (has p.space.assigned) (has q.space.assigned) (granules count base) agrees.space.assigned,
    )
    (ap (unless_refused (data_checks q base count)) (data_acts-alike p q base count agrees))

pub after_region-alike : (p q : Planned) (base end : ℕ) → AgreesWith p q → AgreesWith (after_region p base end) (after_region q base end)
after_region-alike p q base end agrees = record {
  space = record {
    start = agrees.space.start;
    protected_end = agrees.space.protected_end;
    tables = rw (agrees.space.start, agrees.least_level) (run_tables-alike q.space.start (runs_of base end q.least_level) p.space.tables q.space.tables agrees.space.tables);
    ram = λ x. ram-append p.space.ram ((base, end) ∷ []) x ∙ ap (λ b. b || is_ram ((base, end) ∷ []) x) (agrees.space.ram x)
        ∙ sym (ram-append q.space.ram ((base, end) ∷ []) x);
    ranges = λ from to lt. overlaps-append p.space.ram ((base, end) ∷ []) from to ∙ ap (λ b. b || overlaps ((base, end) ∷ []) from to) (agrees.space.ranges from to lt)
        ∙ sym (overlaps-append q.space.ram ((base, end) ∷ []) from to);
    assigned = agrees.space.assigned;
  };
  least_level = agrees.least_level;
  entries = rw (agrees.entries, agrees.least_level) refl;
}

pub after_data-alike : (p q : Planned) (base count : ℕ) → AgreesWith p q → AgreesWith (after_data p base count) (after_data q base count)
after_data-alike p q base count agrees = record {
  space = record {
    start = agrees.space.start;
    protected_end = agrees.space.protected_end;
    tables = rw (agrees.space.start) (page_tables-alike q.space.start (granules count base) p.space.tables q.space.tables agrees.space.tables);
    ram = agrees.space.ram;
    ranges = agrees.space.ranges;
    assigned = λ x. has-append p.space.assigned (granules count base) x ∙ ap (λ b. b || has (granules count base) x) (agrees.space.assigned x)
        ∙ sym (has-append q.space.assigned (granules count base) x);
  };
  least_level = agrees.least_level;
  entries = agrees.entries;
}
