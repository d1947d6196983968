-- Whole regions and items: their entries lead from what was planned before them to what is planned with them.
use Rattle.std.proofs.Common.{◌≡◌, ℕ, zero, suc, ◌+◌, ◌*◌, ◌<◌, ◌≤◌, ◌∙◌, sym, refl, ap, arith, Bool, true, ◌&&◌, ◌||◌, leb, ltb, eqb, List, [], ◌∷◌, ◌++◌, map}
use Rattle.std.specs.List.{range_with_len}
use Rattle.std.proofs.lemmas.Bool.Decides.{nat_tests}
use Rattle.std.proofs.Math.Bool.{or_comm, or_assoc}
use Rattle.rtt_plan.proofs.OneMoreRange.{or-last}
use Rattle.rmm_model.proofs.OneMoreInSpace.{or-swap}
use Rattle.rim_desc.specs.Part.{Ripas}
use Rattle.rmm_model.specs.Blocks.{granules, size}
use Rattle.rmm_model.specs.Effects.{ripas_parts}
use Rattle.rmm_model.specs.Space.{SameSpace, are_some, has, is_ram}
use Rattle.rmm_model.specs.State.{State}
use Rattle.rmm_model.proofs.AppendedSpaces.{has-append, ram-append}
use Rattle.rmm_model.proofs.SameSpaces.{overlaps-same, same-trans}
use Rattle.rtt_plan.specs.Accepted.{AcceptsData, AcceptsRegion}
use Rattle.rtt_plan.specs.Entries.{block_level, entries}
use Rattle.rtt_plan.specs.Following.{AreRuns, IsRun, block_of, blocks_of, ranges_of}
use Rattle.rtt_plan.specs.InTurn.{AreFilledInTurn, AreSetInTurn}
use Rattle.rtt_plan.specs.Planned.{IsPlanned, Planned, after_data, after_region}
use Rattle.rtt_plan.specs.Runs.{runs_of}
use Rattle.rtt_plan.specs.declared.run.Run.{Run}
use Rattle.rtt_plan.proofs.RunsCoverRegion.{ram-runs, region-blocks, region-runs}
use Rattle.rtt_plan.proofs.RunsAndPagesInTurn.{pages-in-turn, region-in-turn}
use Rattle.list_model.specs.declared.content.PageContent.{PageContent}
use Rattle.list_model.specs.declared.content.PageContent.TheVariants.{Measured, Unmeasured, Unknown}
use Rattle.list_model.specs.Entries.{Contents, commands_of, delegated, item_entries, region_entries}
use Rattle.list_model.specs.Leading.{Build, Built, IsBuilt, Leads, planned}
use Rattle.list_model.specs.Parts.{AreContents, block_parts, page_part, page_parts}
use Rattle.list_model.proofs.PagesCreatedInTurn.{pages-lead, parts_from, parts_of_page, piled_pages, with_pages}
use Rattle.list_model.proofs.RunsSetInTurn.{piled, runs-lead, with_runs}

-- what is built is the same where the spaces are
same-built : (b : Build) (v w : Built) (s : State) → IsBuilt b v s → SameSpace v.space w.space → v.taken ≡ w.taken → v.num_recs ≡ w.num_recs
    → are_some w.space.ram ≡ true → IsBuilt b w s
same-built b v w s built same taken num_recs some = record {
  new = built.new;
  params = built.params;
  num_aux = built.num_aux;
  rule = built.rule;
  num_recs = built.num_recs ∙ num_recs;
  space = same-trans s.space v.space w.space built.space same;
  some = built.some;
  some_built = some;
  pool = built.pool;
  free = λ g o. built.free g (omega arith);
}

-- ---- a region

piled-ram : (rs : List Run) (ram : List (ℕ × ℕ)) (y : ℕ) → is_ram (piled rs ram) y ≡ (is_ram (ranges_of rs) y || is_ram ram y)
unfolding piled
piled-ram [] ram y = refl
piled-ram (r ∷ rs) ram y =
    let i = piled-ram rs ((r.base, r.top) ∷ ram) y in
    let h : Bool = leb r.base y && ltb y r.top in
    i ∙ or-swap (is_ram (ranges_of rs) y) h (is_ram ram y) ∙ sym (or_assoc h (is_ram (ranges_of rs) y) (is_ram ram y))

piled-some : (least_level x end : ℕ) (rs : List Run) (ram : List (ℕ × ℕ)) → AreRuns least_level x end rs → are_some ram ≡ true → are_some (piled rs ram) ≡ true
unfolding piled AreRuns
piled-some least_level x end [] ram runs some = some
piled-some least_level x end (r ∷ rs) ram runs some =
    let run : IsRun least_level r = runs.0 in
    let lt : r.base < r.top = run.some in
    let more : are_some ((r.base, r.top) ∷ ram) ≡ true = grind (arith, nat_tests) in
    piled-some least_level r.top end rs ((r.base, r.top) ∷ ram) (runs.3) more

some-append : (ram : List (ℕ × ℕ)) (base end : ℕ) → base < end → are_some ram ≡ true → are_some (ram ++ (base, end) ∷ []) ≡ true
some-append [] base end lt some = grind (arith, nat_tests)
some-append (r ∷ ram) base end lt some =
    let i : are_some ram ≡ true → are_some (ram ++ (base, end) ∷ []) ≡ true = some-append ram base end lt in
    grind (arith, nat_tests)

-- the blocks of a region are content one by one
block-parts : (base end least_level : ℕ) (xs : List ℕ)
    → ripas_parts (map (block_of base end least_level) xs) ≡ map (λ x. Ripas x (x + size (block_level base end least_level x))) xs
block-parts base end least_level [] = refl
block-parts base end least_level (x ∷ xs) = ap (λ ps. Ripas x (x + size (block_level base end least_level x)) ∷ ps) (block-parts base end least_level xs)

pub region-leads : (contents : Contents) (b : Build) (p : Planned) (n num_recs base end : ℕ) (s : State) → IsBuilt b (planned p n num_recs) s → IsPlanned p
    → base < end
    → AcceptsRegion p base end
    → Leads b (planned (after_region p base end) (n + delegated (region_entries b.pool n p base end)) num_recs) s
    (commands_of contents (region_entries b.pool n p base end)) (block_parts base end p.least_level)
region-leads contents b p n num_recs base end s built is_planned lt accepts =
    let start : ℕ = p.space.start in
    let ram : List (ℕ × ℕ) = p.space.ram in
    let rs : List Run = runs_of base end p.least_level in
    let runs : AreRuns start base end rs = region-runs start base end p.least_level is_planned.allowed accepts.whole is_planned.deepest lt in
    let set : AreSetInTurn start p.space.tables ram rs = region-in-turn start base end p.least_level p.space.tables ram
    is_planned.allowed is_planned.deepest lt accepts.whole is_planned.formed is_planned.used accepts.fresh in
    let led = runs-lead contents b start end rs base (planned p n num_recs) s built set runs accepts.inside in
    let some : are_some (piled rs ram) ≡ true = piled-some start base end rs ram runs built.some_built in
    let some_after : are_some (ram ++ (base, end) ∷ []) ≡ true = some-append ram base end lt built.some_built in
    let same_ram : (y : ℕ) → is_ram (piled rs ram) y ≡ is_ram (ram ++ (base, end) ∷ []) y = λ y.
    piled-ram rs ram y ∙ ap (λ h. h || is_ram ram y) (ram-runs start base end rs runs y) ∙ or-last (leb base y && ltb y end) (is_ram ram y)
    ∙ sym (ram-append ram ((base, end) ∷ []) y) in
    let after : Built = planned (after_region p base end) (n + delegated (region_entries b.pool n p base end)) num_recs in
    let same : SameSpace (with_runs b.pool (planned p n num_recs) rs).space after.space = record {
      start = refl;
      protected_end = refl;
      tables = λ level at. refl;
      ram = same_ram;
      ranges = λ from to below. overlaps-same (piled rs ram) (ram ++ (base, end) ∷ []) some some_after same_ram from to below;
      assigned = λ x. refl;
    } in
    let said : ripas_parts (blocks_of rs) ≡ block_parts base end p.least_level =
    ap ripas_parts (region-blocks base end p.least_level accepts.whole is_planned.deepest lt)
    ∙ block-parts base end p.least_level (entries base end p.least_level) in
    record {
      accepted = led.accepted;
      shown = led.shown ∙ said;
      built = same-built b (with_runs b.pool (planned p n num_recs) rs) after _ led.built same refl refl some_after;
    }

-- ---- an item

piled-has : (xs assigned : List ℕ) (y : ℕ) → has (piled_pages xs assigned) y ≡ (has xs y || has assigned y)
unfolding piled_pages
piled-has [] assigned y = refl
piled-has (x ∷ xs) assigned y = piled-has xs (x ∷ assigned) y
    ∙ or-swap (has xs y) (eqb x y) (has assigned y) ∙ sym (or_assoc (eqb x y) (has xs y) (has assigned y))

-- the parts of the pages from the kth on, page by page and as a whole
module _ (content : PageContent) (contents : Contents) (item base : ℕ)
    (one : (x k : ℕ) → parts_of_page content contents item x k ≡ page_part content contents item x k ∷ []) where
  parts-numbered : (count k : ℕ)
      → parts_from content contents item k (granules count (base + 4096 * k))
      ≡ map (λ page. page_part content contents item (base + 4096 * page) page) (range_with_len k count)
  unfolding parts_from granules
  parts-numbered zero k = refl
  parts-numbered (suc count) k =
      let e : base + 4096 * k + 4096 ≡ base + 4096 * (k + 1) = omega arith in
      rw (one (base + 4096 * k) k, e) (ap (λ ps. page_part content contents item (base + 4096 * k) k ∷ ps) (parts-numbered count (k + 1)))

no-parts : (contents : Contents) (item k : ℕ) (xs : List ℕ) → parts_from Unknown contents item k xs ≡ []
unfolding parts_from
no-parts contents item k [] = refl
no-parts contents item k (x ∷ xs) = no-parts contents item (k + 1) xs

all-parts : (content : PageContent) (contents : Contents) (item base count : ℕ)
    → parts_from content contents item 0 (granules count base) ≡ page_parts content contents item base count
all-parts Measured contents item base count =
    let first : base + 4096 * 0 ≡ base = omega arith in
    ap (λ x. parts_from Measured contents item 0 (granules count x)) (sym first) ∙ parts-numbered Measured contents item base (λ x k. refl) count 0
all-parts Unmeasured contents item base count =
    let first : base + 4096 * 0 ≡ base = omega arith in
    ap (λ x. parts_from Unmeasured contents item 0 (granules count x)) (sym first) ∙ parts-numbered Unmeasured contents item base (λ x k. refl) count 0
all-parts Unknown contents item base count = no-parts contents item 0 (granules count base)

pub item-leads : (contents : Contents) (b : Build) (p : Planned) (n num_recs : ℕ) (content : PageContent) (item base count : ℕ) (s : State)
    → IsBuilt b (planned p n num_recs) s → IsPlanned p
    → AreContents b.params.algo contents → AcceptsData p base count
    → Leads b (planned (after_data p base count) (n + delegated (item_entries b.pool n p content item base count)) num_recs) s
    (commands_of contents (item_entries b.pool n p content item base count)) (page_parts content contents item base count)
item-leads contents b p n num_recs content item base count s built is_planned good accepts =
    let start : ℕ = p.space.start in
    let xs : List ℕ = granules count base in
    let high : start ≤ 2 = is_planned.highest in
    let filled : AreFilledInTurn start p.space.tables p.space.ram p.space.assigned xs =
    pages-in-turn count start base p.space.tables p.space.ram p.space.assigned (omega arith) is_planned.formed accepts.in_ram accepts.fresh in
    let led = pages-lead contents content item b count 0 base (planned p n num_recs) s built good filled accepts.whole accepts.inside in
    let after : Built = planned (after_data p base count) (n + delegated (item_entries b.pool n p content item base count)) num_recs in
    let same : SameSpace (with_pages b.pool (planned p n num_recs) content item 0 xs).space after.space = record {
      start = refl;
      protected_end = refl;
      tables = λ level at. refl;
      ram = λ x. refl;
      ranges = λ from to below. refl;
      assigned = λ y. piled-has xs p.space.assigned y ∙ or_comm (has xs y) (has p.space.assigned y) ∙ sym (has-append p.space.assigned xs y);
    } in
    let said : parts_from content contents item 0 xs ≡ page_parts content contents item base count = all-parts content contents item base count in
    record {
      accepted = led.accepted;
      shown = led.shown ∙ said;
      built = same-built b (with_pages b.pool (planned p n num_recs) content item 0 xs) after _ led.built same refl refl built.some_built;
    }
