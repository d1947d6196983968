-- The acts of the pages of one table: one group of them.
use Rattle.std.proofs.Common.{inl, inr, ◌≡◌, ℕ, zero, suc, ◌+◌, ◌-◌, ◌*◌, ◌/◌, ◌%◌, ◌<◌, ◌≤◌, ◌∙◌, sym, refl, ap, arith, true, false, not, ◌&&◌, eqb, List, [], ◌∷◌, ◌++◌, ◌⊎◌, map, min}
use Rattle.std.specs.List.{filter}
use Rattle.std.proofs.lemmas.Bool.{cases_Bool, cases_lt}
use Rattle.std.proofs.lemmas.Bool.Decides.{nat_tests}
use Rattle.std.proofs.lemmas.List.{append-nil}
use Rattle.rmm_model.specs.Blocks.{down, granules, size, span}
use Rattle.rmm_model.specs.Space.{made}
use Rattle.rmm_model.specs.declared.table.Table.{Table}
use Rattle.rmm_model.proofs.BlockArithmetic.{down-le, down-lt, down-same, in-block, span-nest, span-pos}
use Rattle.rtt_plan.specs.declared.act.Act.{Act}
use Rattle.rtt_plan.specs.declared.act.Act.TheVariants as act
use Rattle.rtt_plan.specs.Missing.{missing, needed, page_acts, page_tables, put_page, table_act}
use Rattle.rtt_plan.proofs.WithMissingTables.{there-after}

-- ---- the tables of one level 3 table's pages are the same

-- addresses that one level 3 table covers are covered by one table of each level above
one-table : (d j x y : ℕ) → d + j ≡ 3 → x / span 3 ≡ y / span 3 → x / span j ≡ y / span j
one-table zero j x y e same = let f : j ≡ 3 = omega arith in rw f same
one-table (suc d) j x y e same = span-nest j x y (one-table d (suc j) x y (omega arith) same)

-- no table is missing that is made
none-missing : (ts : List Table) (n k x : ℕ) → ((j : ℕ) → k < j → j ≤ k + n → made ts j (down (span j) x) ≡ true)
    → filter (λ t. not (made ts t.level t.base)) (needed n k x) ≡ []
unfolding needed
none-missing ts zero k x all = refl
none-missing ts (suc n) k x all =
    let here : made ts (suc k) (down (span (suc k)) x) ≡ true = all (suc k) (omega arith) (omega arith) in
    rw here (none-missing ts n (suc k) x (λ j lo hi. all j (omega arith) (omega arith)))

-- after the tables of a page none is missing for the pages of its level 3 table
pub none-after : (start : ℕ) (ts : List Table) (x y : ℕ) → start ≤ 3 → y / span 3 ≡ x / span 3 → missing start (ts ++ missing start ts 3 x) 3 y ≡ []
none-after start ts x y low same =
    none-missing (ts ++ missing start ts 3 x) (3 - start) start y (λ j lo hi.
    let le : j ≤ 3 = omega arith in
    let e : down (span j) y ≡ down (span j) x = down-same (span j) y x (one-table (3 - j) j y x (omega arith) same) in
    rw e (there-after start ts 3 x j lo le))

-- ---- the acts of one group

-- a page of another table does not join
apart : (x y : ℕ) (acts : List Act) → (y / span 3 ≡ x / span 3 → ⊥) → put_page x (put_page y acts) ≡ act.Pages x 1 ∷ put_page y acts
apart x y [] other = let f : eqb y (x + 4096) && eqb (y / span 3) (x / span 3) ≡ false = grind (arith, nat_tests) in rw f refl
apart x y (act.Table base level ∷ acts) other = let f : eqb y (x + 4096) && eqb (y / span 3) (x / span 3) ≡ false = grind (arith, nat_tests) in rw f refl
apart x y (act.Run base top level ∷ acts) other = let f : eqb y (x + 4096) && eqb (y / span 3) (x / span 3) ≡ false = grind (arith, nat_tests) in rw f refl
apart x y (act.Pages base count ∷ acts) other =
    let f : eqb y (x + 4096) && eqb (y / span 3) (x / span 3) ≡ false = grind (arith, nat_tests) in
    elim (cases_Bool (eqb base (y + 4096) && eqb (base / span 3) (y / span 3))) [
      | inl t ↦ rw t (rw f refl)
      | inr g ↦ rw g (rw f refl)
    ]

-- nor does one that tables come before
apart-tables : (x : ℕ) (new : List Table) (y : ℕ) (acts : List Act) → (y / span 3 ≡ x / span 3 → ⊥)
    → put_page x (map table_act new ++ put_page y acts) ≡ act.Pages x 1 ∷ (map table_act new ++ put_page y acts)
apart-tables x [] y acts other = apart x y acts other
apart-tables x (t ∷ new) y acts other = refl

joined : (x n : ℕ) (acts : List Act) → (x + 4096) / span 3 ≡ x / span 3 → put_page x (act.Pages (x + 4096) n ∷ acts) ≡ act.Pages x (suc n) ∷ acts
joined x n acts same = let t : eqb (x + 4096) (x + 4096) && eqb ((x + 4096) / span 3) (x / span 3) ≡ true = grind (arith, nat_tests) in rw t refl

-- a page that needs no table
no-table : (start : ℕ) (ts : List Table) (x : ℕ) (xs : List ℕ) → missing start ts 3 x ≡ []
    → (page_acts start ts (x ∷ xs) ≡ put_page x (page_acts start ts xs)) × (page_tables start ts (x ∷ xs) ≡ page_tables start ts xs)
unfolding page_acts page_tables
no-table start ts x xs none = (
  rw none (ap (λ us. put_page x (page_acts start us xs)) (append-nil ts)),
  rw none (ap (λ us. page_tables start us xs) (append-nil ts)),
)

-- n + 1 pages of one table t, none of which needs a table, and r pages more, that begin in another table
pub record IsGroup (start : ℕ) (ts : List Table) (n r x : ℕ) : Type 0 where
  pub acts : page_acts start ts (granules (suc n + r) x) ≡ act.Pages x (suc n) ∷ page_acts start ts (granules r (x + 4096 * suc n))
  pub tables : page_tables start ts (granules (suc n + r) x) ≡ page_tables start ts (granules r (x + 4096 * suc n))

last-page : (start : ℕ) (ts : List Table) (r x : ℕ) → (r ≡ 0) ⊎ ((x + 4096) / span 3 ≡ x / span 3 → ⊥)
    → put_page x (page_acts start ts (granules r (x + 4096))) ≡ act.Pages x 1 ∷ page_acts start ts (granules r (x + 4096))
unfolding page_acts granules
last-page start ts zero x other = refl
last-page start ts (suc r) x (inl none) = absurd (omega arith)
last-page start ts (suc r) x (inr other) =
    apart-tables x (missing start ts 3 (x + 4096)) (x + 4096) (page_acts start (ts ++ missing start ts 3 (x + 4096)) (granules r (x + 4096 + 4096))) other

one-group : (start : ℕ) (ts : List Table) (t n r x : ℕ) → ((y : ℕ) → y / span 3 ≡ t → missing start ts 3 y ≡ []) → ((k : ℕ) → k ≤ n → (x + 4096 * k) / span 3 ≡ t)
    → (r ≡ 0) ⊎ ((x + 4096 * suc n) / span 3 ≡ t → ⊥) → IsGroup start ts n r x
unfolding granules
one-group start ts t zero r x made_all inside other =
    let here : x / span 3 ≡ t = (let h : (x + 4096 * 0) / span 3 ≡ t = inside 0 (omega arith) in let e : x + 4096 * 0 ≡ x = omega arith in rw e at h) in
    let e : suc zero + r ≡ suc r = omega arith in
    let f : x + 4096 * suc zero ≡ x + 4096 = omega arith in
    let step = no-table start ts x (granules r (x + 4096)) (made_all x here) in
    record {
      acts = rw (e, f) (step.0 ∙ last-page start ts r x (rw here (rw f at other)));
      tables = rw (e, f) (step.1);
    }
one-group start ts t (suc n) r x made_all inside other =
    let here : x / span 3 ≡ t = (let h : (x + 4096 * 0) / span 3 ≡ t = inside 0 (omega arith) in let e : x + 4096 * 0 ≡ x = omega arith in rw e at h) in
    let next : (x + 4096) / span 3 ≡ t = (let h : (x + 4096 * 1) / span 3 ≡ t = inside 1 (omega arith) in let e : x + 4096 * 1 ≡ x + 4096 = omega arith in rw e at h) in
    let e : suc (suc n) + r ≡ suc (suc n + r) = omega arith in
    let f : x + 4096 * suc (suc n) ≡ x + 4096 + 4096 * suc n = omega arith in
    let step = no-table start ts x (granules (suc n + r) (x + 4096)) (made_all x here) in
    let i : IsGroup start ts n r (x + 4096) =
    one-group start ts t n r (x + 4096) made_all
    (λ k le. let g : x + 4096 + 4096 * k ≡ x + 4096 * suc k = omega arith in rw g (inside (suc k) (omega arith)))
    (rw f at other) in
    record {
      acts = rw (e, f) (step.0 ∙ ap (put_page x) i.acts ∙ joined x (suc n) (page_acts start ts (granules r (x + 4096 + 4096 * suc n))) (next ∙ sym here));
      tables = rw (e, f) (step.1 ∙ i.tables);
    }

-- ---- the first group of some pages

-- the tables of the first page come first
tables-first : (start : ℕ) (ts : List Table) (x : ℕ) (xs : List ℕ) → start ≤ 3
    → (page_acts start ts (x ∷ xs) ≡ map table_act (missing start ts 3 x) ++ page_acts start (ts ++ missing start ts 3 x) (x ∷ xs))
    × (page_tables start ts (x ∷ xs) ≡ page_tables start (ts ++ missing start ts 3 x) (x ∷ xs))
unfolding page_acts page_tables
tables-first start ts x xs low =
    let new : List Table = missing start ts 3 x in
    let step = no-table start (ts ++ new) x xs (none-after start ts x x low refl) in (
      ap (λ acts. map table_act new ++ acts) (sym (step.0)),
      sym (step.1),
    )

-- how many pages a table has from a page on
abbrev pub pages_in_table : ℕ → ℕ
pages_in_table x = (down (span 3) x + span 3 - x) / 4096

whole-table : (x : ℕ) → x % 4096 ≡ 0 → 4096 * pages_in_table x ≡ down (span 3) x + span 3 - x
unfolding size
whole-table x at = omega arith

some-pages : (x : ℕ) → x % 4096 ≡ 0 → 0 < pages_in_table x
some-pages x at =
    let e : 4096 * pages_in_table x ≡ down (span 3) x + span 3 - x = whole-table x at in
    let lt : x < down (span 3) x + span 3 = down-lt (span 3) x (span-pos 3) in
    omega arith

-- the first group of pages, after the tables that it needs
pub record IsFirstGroup (start : ℕ) (ts : List Table) (count x g : ℕ) : Type 0 where
  pub acts : page_acts start ts (granules count x)
      ≡ map table_act (missing start ts 3 x) ++ (act.Pages x g ∷ page_acts start (ts ++ missing start ts 3 x) (granules (count - g) (x + 4096 * g)))
  pub tables : page_tables start ts (granules count x) ≡ page_tables start (ts ++ missing start ts 3 x) (granules (count - g) (x + 4096 * g))
  pub some : 0 < g
  pub most : g ≤ count

group-of : (start : ℕ) (ts : List Table) (n r x : ℕ) → start ≤ 3 → x % 4096 ≡ 0 → suc n ≤ pages_in_table x → (r ≡ 0) ⊎ (suc n ≡ pages_in_table x)
    → IsFirstGroup start ts (suc n + r) x (suc n)
unfolding granules
group-of start ts n r x low at le last =
    let new : List Table = missing start ts 3 x in
    let whole : 4096 * pages_in_table x ≡ down (span 3) x + span 3 - x = whole-table x at in
    let back : down (span 3) x ≤ x = down-le (span 3) x in
    let group : IsGroup start (ts ++ new) n r x =
    one-group start (ts ++ new) (x / span 3) n r x (λ y same. none-after start ts x y low same)
    (λ k to. in-block (span 3) x (x + 4096 * k) (omega arith) (omega arith))
    (elim last [
      | inl none ↦ inl none
      | inr full ↦ inr (λ same.
          let end : x + 4096 * suc n ≡ down (span 3) x + span 3 = omega arith in
          let down_same : down (span 3) (x + 4096 * suc n) ≡ down (span 3) x = down-same (span 3) (x + 4096 * suc n) x same in
          let lt : x + 4096 * suc n < down (span 3) (x + 4096 * suc n) + span 3 = down-lt (span 3) (x + 4096 * suc n) (span-pos 3) in
          omega arith)
    ]) in
    let e : suc n + r ≡ suc (n + r) = omega arith in
    let f : suc n + r - suc n ≡ r = omega arith in
    let first = tables-first start ts x (granules (n + r) (x + 4096)) low in
    let acts = rw e at group.acts in
    let tables = rw e at group.tables in
    record {
      acts = rw (f, e) (first.0 ∙ ap (λ more. map table_act new ++ more) acts);
      tables = rw (f, e) (first.1 ∙ tables);
      some = omega arith;
      most = omega arith;
    }

pub first-group : (start : ℕ) (ts : List Table) (count x g : ℕ) → start ≤ 3 → x % 4096 ≡ 0 → 0 < count → g ≡ min (pages_in_table x) count → IsFirstGroup start ts count x g
first-group start ts count x g low at some to =
    let many : 0 < pages_in_table x = some-pages x at in
    let e : suc (g - 1) ≡ g = omega arith in
    let f : g + (count - g) ≡ count = omega arith in
    rw f at (rw e at (group-of start ts (g - 1) (count - g) x low at (omega arith) (last (cases_lt (pages_in_table x) count))))
  where
    last : (pages_in_table x < count) ⊎ (count ≤ pages_in_table x) → (count - g ≡ 0) ⊎ (suc (g - 1) ≡ pages_in_table x)
    last (inl less) = inr (let many : 0 < pages_in_table x = some-pages x at in omega arith)
    last (inr more) = inl (omega arith)
