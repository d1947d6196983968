-- A row of a table's digests is the row of a run's own pages, so a launch chains to its own value.
use Rattle.std.proofs.Common.{◌≡◌, ℕ, true, List, [], ◌∷◌, ◌++◌, length, map, take, drop, Option, Some, None, is_some, refl, sym, ap, ◌∙◌}
use Rattle.std.proofs.Common.{subst, arith, inl, inr}
use Rattle.std.specs.Prelude.{IfNone, IfSome, option_and_then, option_map}
use Rattle.std.specs.List.{slice_get}
use Rattle.std.proofs.lemmas.Bool.{and_parts}
use Rattle.std.proofs.lemmas.List.{take-append-drop}
use Rattle.std.proofs.lemmas.List.Concat.{flat_map-append}
use Rattle.std.proofs.lemmas.List.Folds.{list_all-append}
use Rattle.std.proofs.lemmas.Option.{same_Some, slice_get-map, slice_get_cases, slice_get_within}
use Rattle.rim_desc.specs.declared.measurement.Measurement.{Measurement}
use Rattle.page_jobs.specs.Page.{PageView, digest_of}
use Rattle.page_jobs.specs.Table.{IsTable, TableView, digest_at, digest_in, slot_of}
use Rattle.page_jobs.specs.declared.page.PageKey.{PageKey}
use Rattle.rim_chain.specs.Jobs.{JobView}
use Rattle.launch_plan.specs.Links.{PlanView, chain_of, keys_in, keys_of}
use Rattle.launch_plan.specs.declared.link.Link.{Link}
use Rattle.launch_plan.specs.Rows.{HaveFirstPages, IsRowOf, has_all}
use Rattle.job_tasks.specs.Tasks.{IsOwnLaunch, IsOwnRow, IsOwnValue, digest_among, whole_table}
use Rattle.job_tasks.specs.inside.Rows.{AreDigestsFor}

same_bytes : (m d : Measurement) → m.bytes ≡ d.bytes → m ≡ d
same_bytes m d same = ap (λ bytes. let n : Measurement = record { bytes = bytes } in n) same

module _ (t : TableView) (table : IsTable t) where
  slot_own : (j : ℕ) (d : Measurement) → digest_in t j ≡ Some d → option_map digest_of (slice_get t.pages j) ≡ Some d.bytes
  slot_own j d at = by (slice_get t.digests j) refl at
    where
      by : (o : Option (Option Measurement)) → slice_get t.digests j ≡ o → option_and_then (λ slot. slot) o ≡ Some d
          → option_map digest_of (slice_get t.pages j) ≡ Some d.bytes
      by None is none = cc
      by (Some None) is none = cc
      by (Some (Some m)) is some =
          let same : m ≡ d = same_Some m d some in
          elim (slice_get_cases t.pages j).1 [
            | inl (page, within, there, _) ↦
                ap (option_map digest_of) there ∙ ap (λ bytes. Some bytes) (sym (table.own j page m there is) ∙ ap (λ (n : Measurement). n.bytes) same)
            | inr (past, _) ↦ absurd (omega (arith, past, slice_get_within t.digests j (Some m) is, table.size))
          ]

  key_own : (key : PageKey) (d : Measurement) → digest_at t key ≡ Some d → digest_among t.pages key ≡ Some d.bytes
  key_own key d at = by (slot_of t.pages key) at
    where
      by : (o : Option ℕ) → option_and_then (digest_in t) o ≡ Some d → option_map digest_of (option_and_then (slice_get t.pages) o) ≡ Some d.bytes
      by None none = cc
      by (Some j) at = slot_own j d at

  key_row : (key : PageKey) (d : Measurement) → digest_among t.pages key ≡ Some d.bytes → is_some (digest_at t key) ≡ true → digest_at t key ≡ Some d
  key_row key d own some = by (digest_at t key) refl some
    where
      by : (o : Option Measurement) → digest_at t key ≡ o → is_some o ≡ true → o ≡ Some d
      by None at none = cc
      by (Some m) at is = ap (λ n. Some n) (same_bytes m d (same_Some m.bytes d.bytes (sym (key_own key m at) ∙ own)))

  pub own_row : (keys : List PageKey) (digests : List Measurement) → IsRowOf t keys digests → IsOwnRow t.pages keys digests
  own_row [] [] row = refl
  own_row [] (d ∷ digests) row = cc
  own_row (key ∷ keys) [] row = cc
  own_row (key ∷ keys) (d ∷ digests) row =
      let here : digest_at t key ≡ Some d = cc in
      let rest : map (digest_at t) keys ≡ map (λ e. Some e) digests = cc in
      rw (key_own key d here, own_row keys digests rest) refl

  pub row_of_own : (keys : List PageKey) (digests : List Measurement) → IsOwnRow t.pages keys digests → has_all t keys ≡ true → IsRowOf t keys digests
  row_of_own [] [] own all = refl
  row_of_own [] (d ∷ digests) own all = cc
  row_of_own (key ∷ keys) [] own all = cc
  row_of_own (key ∷ keys) (d ∷ digests) own all =
      let parts = and_parts (is_some (digest_at t key)) (has_all t keys) all in
      let here : digest_among t.pages key ≡ Some d.bytes = cc in
      let rest : map (digest_among t.pages) keys ≡ map (λ (e : Measurement). Some e.bytes) digests = cc in
      rw (key_row key d here parts.0, row_of_own keys digests rest parts.1) refl

-- so it is of a run's pages, which are the table's
pub run_row : (t : TableView) → IsTable t → (pages : List PageView) (keys : List PageKey) (digests : List Measurement) → t.pages ≡ pages
    → IsRowOf t keys digests → IsOwnRow pages keys digests
run_row t table pages keys digests same row = subst (λ (ps : List PageView). IsOwnRow ps keys digests) same (own_row t table keys digests row)

-- it is the row of these pages' whole table too
whole_key : (pages : List PageView) (key : PageKey) (d : Measurement) → digest_among pages key ≡ Some d.bytes → digest_at (whole_table pages) key ≡ Some d
whole_key pages key d own = by (slot_of pages key) own
  where
    in_slot : (o : Option PageView) → option_map digest_of o ≡ Some d.bytes
        → option_and_then (λ (slot : Option Measurement). slot) (option_map (λ p. let m : Measurement = record { bytes = digest_of p } in Some m) o) ≡ Some d
    in_slot None none = cc
    in_slot (Some p) at = ap (λ bytes. let m : Measurement = record { bytes = bytes } in Some m) (same_Some (digest_of p) d.bytes at)

    by : (o : Option ℕ) → option_map digest_of (option_and_then (slice_get pages) o) ≡ Some d.bytes → option_and_then (digest_in (whole_table pages)) o ≡ Some d
    by None none = cc
    by (Some j) at =
        ap (option_and_then (λ (slot : Option Measurement). slot)) (slice_get-map (λ p. let m : Measurement = record { bytes = digest_of p } in Some m) pages j)
        ∙ in_slot (slice_get pages j) at

pub whole_row : (pages : List PageView) (keys : List PageKey) (digests : List Measurement) → IsOwnRow pages keys digests
    → IsRowOf (whole_table pages) keys digests
whole_row pages [] [] own = refl
whole_row pages [] (d ∷ digests) own = cc
whole_row pages (key ∷ keys) [] own = cc
whole_row pages (key ∷ keys) (d ∷ digests) own =
    let here : digest_among pages key ≡ Some d.bytes = cc in
    let rest : map (digest_among pages) keys ≡ map (λ (e : Measurement). Some e.bytes) digests = cc in
    rw (whole_key pages key d here, whole_row pages keys digests rest) refl

-- the first digests are those of the first keys
own_front : (pages : List PageView) (front back : List PageKey) (digests : List Measurement) → IsOwnRow pages (front ++ back) digests
    → IsOwnRow pages front (take (length front) digests)
own_front pages [] back digests own = refl
own_front pages (key ∷ front) back [] own = cc
own_front pages (key ∷ front) back (d ∷ digests) own =
    let here : digest_among pages key ≡ Some d.bytes = cc in
    let rest : map (digest_among pages) (front ++ back) ≡ map (λ (e : Measurement). Some e.bytes) digests = cc in
    rw (here, own_front pages front back digests rest) refl

-- the pages of the first n links of a plan are the first ones of another: of a row of the other, the first digests are theirs
own_begun : (pages : List PageView) (kept links : List Link) (n : ℕ) (digests : List Measurement) → HaveFirstPages n links kept
    → IsOwnRow pages (keys_of kept) digests
    → IsOwnRow pages (keys_of (take n links)) (take (length (keys_of (take n links))) digests)
own_begun pages kept links n digests (m, same) own =
    rw same (own_front pages (keys_of (take m kept)) (keys_of (drop m kept)) digests
    (subst (λ (keys : List PageKey). IsOwnRow pages keys digests)
    (ap keys_of (sym (take-append-drop m kept)) ∙ flat_map-append keys_in (take m kept) (drop m kept)) own))

-- a table with a digest for each key of a plan has one for each of its first links
begun_filled : (t : TableView) (links : List Link) (n : ℕ) → has_all t (keys_of links) ≡ true → has_all t (keys_of (take n links)) ≡ true
begun_filled t links n all =
    (and_parts (has_all t (keys_of (take n links))) (has_all t (keys_of (drop n links)))
    (sym (list_all-append (λ key. is_some (digest_at t key)) (keys_of (take n links)) (keys_of (drop n links)))
    ∙ (ap (has_all t) (sym (ap keys_of (sym (take-append-drop n links)) ∙ flat_map-append keys_in (take n links) (drop n links))) ∙ all))).0

-- so a row that was filled for another launch, or for none, has the table's digests of the pages that both begin with
pub row_begun : {X : Type 0} (view : X → PlanView) (t : TableView) (pages : List PageView) (links : List Link) (n : ℕ) (kept : Option X)
    (digests : List Measurement) → IsTable t → t.pages ≡ pages
    → AreDigestsFor pages (option_map view kept) digests → IfSome kept (λ k. HaveFirstPages n links (view k).links) → IfNone kept (n ≡ 0)
    → has_all t (keys_of links) ≡ true
    → IsRowOf t (keys_of (take n links)) (take (length (keys_of (take n links))) digests)
row_begun view t pages links n None digests table same empty begun none all =
    subst (λ (m : ℕ). IsRowOf t (keys_of (take m links)) (take (length (keys_of (take m links))) digests)) (sym none) refl
row_begun view t pages links n (Some k) digests table same own begun none all =
    row_of_own t table (keys_of (take n links)) (take (length (keys_of (take n links))) digests)
    (own_begun t.pages (view k).links links n digests begun (subst (λ (ps : List PageView). IsOwnRow ps (keys_of (view k).links) digests) (sym same) own))
    (begun_filled t links n all)

-- ---- what a launch of a run chains to

pub same_rows : (pages : List PageView) (keys : List PageKey) (ds es : List Measurement) → IsOwnRow pages keys ds → IsOwnRow pages keys es → ds ≡ es
same_rows pages [] [] [] a b = refl
same_rows pages [] [] (e ∷ es) a b = cc
same_rows pages [] (d ∷ ds) es a b = cc
same_rows pages (key ∷ keys) [] es a b = cc
same_rows pages (key ∷ keys) (d ∷ ds) [] a b = cc
same_rows pages (key ∷ keys) (d ∷ ds) (e ∷ es) a b =
    let first : digest_among pages key ≡ Some d.bytes = cc in
    let second : digest_among pages key ≡ Some e.bytes = cc in
    let rest : map (digest_among pages) keys ≡ map (λ (m : Measurement). Some m.bytes) ds = cc in
    let others : map (digest_among pages) keys ≡ map (λ (m : Measurement). Some m.bytes) es = cc in
    let here : d ≡ e = same_bytes d e (same_Some d.bytes e.bytes (sym first ∙ second)) in
    rw (here, same_rows pages keys ds es rest others) refl

pub own_value : (pages : List PageView) (plans : List PlanView) (job : JobView) (value : Measurement) → IsOwnLaunch pages plans job
    → value.bytes ≡ chain_of job.plan job.row.digests
    → IsOwnValue pages plans job.number value
own_value pages plans job value own chained = λ p digests at row.
    let same : job.plan ≡ p = same_Some job.plan p (sym own.0 ∙ at) in
    let rows : job.row.digests ≡ digests =
    same_rows pages (keys_of p.links) job.row.digests digests (subst (λ (q : PlanView). IsOwnRow pages (keys_of q.links) job.row.digests) same own.1) row in
    chained ∙ (ap (λ (q : PlanView). chain_of q job.row.digests) same ∙ ap (chain_of p) rows)
