-- Pages of one item with numbers in a row have slots in a row.
use Rattle.std.proofs.Common.{◌≡◌, ℕ, zero, suc, ◌+◌, ◌<◌, List, [], Some, ap, ◌∙◌, subst, arith}
use Rattle.std.specs.List.{Contains, slice_get}
use Rattle.std.specs.Ordering.{is_eq}
use Rattle.std.proofs.lemmas.List.Quantifiers.{position-Some}
use Rattle.std.proofs.lemmas.Option.{slice_get-get_or}
use Rattle.page_jobs.specs.Key.{IsRising, key_cmp, next_key}
use Rattle.page_jobs.specs.Page.{PageView}
use Rattle.page_jobs.specs.Table.{page_keys_of, slot_of}
use Rattle.page_jobs.specs.declared.page.PageKey.{PageKey}
use Rattle.page_jobs.proofs.SearchByKey.{slot-key}
use Rattle.page_jobs.proofs.SlotOfNextPage.{slot-next}
use Rattle.launch_plan.specs.Links.{key_after}

-- the page in a slot
pub page_in : (pages : List PageView) (key : PageKey) (j : ℕ) → slot_of pages key ≡ Some j → (p : PageView) × (slice_get pages j ≡ Some p) × (p.key ≡ key)
page_in pages key j at =
    let other : PageView = record { key = key; bytes = [] } in
    let found = position-Some (λ (p : PageView). is_eq (key_cmp p.key key)) pages j other at in
    let here = slice_get-get_or pages j other found.0 in
    (_, here, slot-key pages key j _ at here)

numbered : PageKey → ℕ → PageKey
numbered key n = record key { number = n }

-- the pages of a link have the slots from that of its first page on
pub slots_follow : (pages : List PageView) → IsRising (page_keys_of pages) → (key : PageKey) (j count : ℕ) → slot_of pages key ≡ Some j
    → ((n : ℕ) → n < count → Contains (page_keys_of pages) (key_after key n)) → (n : ℕ) → n < count → slot_of pages (key_after key n) ≡ Some (j + n)
unfolding numbered
slots_follow pages rising key j count first has zero lt =
    let same : key.number + 0 ≡ key.number = omega arith in
    let place : j ≡ j + 0 = omega arith in
    ap (λ n. slot_of pages (numbered key n)) same ∙ (first ∙ ap (λ n. Some n) place)
slots_follow pages rising key j count first has (suc n) lt =
    let below : n < count = omega (arith, lt) in
    let before = slots_follow pages rising key j count first has n below in
    let number : key.number + suc n ≡ key.number + n + 1 = omega arith in
    let next : key_after key (suc n) ≡ next_key (key_after key n) = ap (numbered key) number in
    let place : j + n + 1 ≡ j + suc n = omega arith in
    ap (slot_of pages) next
    ∙ (slot-next pages rising (key_after key n) (j + n) before (subst (Contains (page_keys_of pages)) next (has (suc n) lt)) ∙ ap (λ n. Some n) place)
