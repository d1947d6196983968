-- A table with one digest more is a table, where the digest is that of the slot's page.
use Rattle.std.proofs.Common.{◌≡◌, ℕ, ◌<◌, length, set, get_or, Option, Some, None, is_some, false, refl, ap, sym, ◌∙◌, arith, inl, inr}
use Rattle.std.specs.Prelude.{IfSome}
use Rattle.std.specs.List.{slice_get}
use Rattle.std.proofs.lemmas.Bool.{cases_eq}
use Rattle.std.proofs.lemmas.List.{get_or-set_same, get_or-set_other, length-set}
use Rattle.std.proofs.lemmas.Option.{same_Some, get_or_from_slice_get, slice_get-get_or, slice_get_read, slice_get_within}
use Rattle.rim_desc.specs.declared.measurement.Measurement.{Measurement}
use Rattle.page_jobs.specs.Page.{PageView, digest_of}
use Rattle.page_jobs.specs.Table.{IsTable, TableView, page_at, slot_of, with_digest}
use Rattle.page_jobs.specs.declared.page.PageKey.{PageKey}
use Rattle.page_jobs.proofs.SearchByKey.{slot-key}

-- a slot of its own page's digest leaves a table one
pub filled_table : (t : TableView) (j : ℕ) (p : PageView) (m : Measurement) → IsTable t → slice_get t.pages j ≡ Some p → m.bytes ≡ digest_of p
    → IsTable (with_digest t j m)
filled_table t j p m table page own = record {
  rising = table.rising;
  size = length-set t.digests j (Some m) ∙ table.size;
  own = λ i q n at slot. elim (cases_eq i j) [
    | inl here ↦ here_own i q n here at slot
    | inr other ↦ table.own i q n at (there i n other slot)
  ];
}
  where
    within : j < length t.digests
    within = omega (arith, slice_get_within t.pages j p page, table.size)

    here_own : (i : ℕ) (q : PageView) (n : Measurement) → i ≡ j → slice_get t.pages i ≡ Some q → slice_get (set t.digests j (Some m)) i ≡ Some (Some n)
        → n.bytes ≡ digest_of q
    here_own i q n here at slot =
        let same : Some m ≡ Some n =
        sym (get_or-set_same t.digests j (Some m) (Some m) within) ∙ ap (λ k. get_or (set t.digests j (Some m)) k (Some m)) (sym here)
        ∙ get_or_from_slice_get (set t.digests j (Some m)) i (Some n) (Some m) slot in
        let pages : Some p ≡ Some q = sym page ∙ ap (slice_get t.pages) (sym here) ∙ at in
        ap (λ (x : Measurement). x.bytes) (sym (same_Some _ _ same)) ∙ own ∙ ap digest_of (same_Some _ _ pages)

    there : (i : ℕ) (n : Measurement) → (i ≡ j → ⊥) → slice_get (set t.digests j (Some m)) i ≡ Some (Some n) → slice_get t.digests i ≡ Some (Some n)
    there i n other slot =
        let low : i < length t.digests = omega (arith, slice_get_within (set t.digests j (Some m)) i (Some n) slot, length-set t.digests j (Some m)) in
        slice_get-get_or t.digests i (Some n) low
        ∙ ap Some (sym (get_or-set_other t.digests j i (Some m) (Some n) other) ∙ get_or_from_slice_get (set t.digests j (Some m)) i (Some n) (Some n) slot)

-- a slot that reads as none is empty
pub empty_slot : (t u : TableView) (j : ℕ) (p : PageView) (x : Option Measurement) → IsTable t → t ≡ u → slice_get u.pages j ≡ Some p
    → x ≡ get_or t.digests j x → is_some x ≡ false → slice_get u.digests j ≡ Some None
empty_slot t u j p (Some m) table same page read none = cc
empty_slot t u j p None table same page read none =
    let here : slice_get t.pages j ≡ Some p = ap (λ (v : TableView). slice_get v.pages j) same ∙ page in
    ap (λ (v : TableView). slice_get v.digests j) (sym same)
    ∙ slice_get_read t.digests (length t.pages) j None (sym table.size) (slice_get_within t.pages j p here) read

-- ---- what a key finds

-- a digest that is that of the page in the key's slot, is that of the page that has the key
pub own-at : (t : TableView) (key : PageKey) (j : ℕ) (r : Option Measurement) → slot_of t.pages key ≡ Some j
    → IfSome r (λ m. IfSome (slice_get t.pages j) (λ p. m.bytes ≡ digest_of p))
    → IfSome r (λ m. IfSome (page_at t key) (λ p. (p.key ≡ key) × (m.bytes ≡ digest_of p)))
own-at t key j None at own = own
own-at t key j (Some m) at own = rw at (with-key (slice_get t.pages j) (λ p here. slot-key t.pages key j p at here) own)
  where
    with-key : (o : Option PageView) → ((p : PageView) → o ≡ Some p → p.key ≡ key) → IfSome o (λ p. m.bytes ≡ digest_of p)
        → IfSome o (λ p. (p.key ≡ key) × (m.bytes ≡ digest_of p))
    with-key None same own = own
    with-key (Some p) same own = (same p refl, own)
