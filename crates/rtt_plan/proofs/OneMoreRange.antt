-- Ranges in order, with one more that meets none of them.
use Rattle.std.proofs.Common.{◌≡◌, ℕ, ◌+◌, ◌-◌, ◌*◌, ◌/◌, ◌%◌, ◌<◌, ◌≤◌, ◌∙◌, sym, refl, ap, arith, Bool, true, false, ◌&&◌, ◌||◌, leb, ltb, List, [], ◌∷◌}
use Rattle.std.proofs.Common.{◌++◌}
use Rattle.std.specs.declared.cmp.Ordering.{Ordering}
use Rattle.std.specs.declared.cmp.Ordering.TheVariants.{Less, Equal, Greater}
use Rattle.std.specs.BTreeMap.{insert_entry}
use Rattle.std.specs.List.{list_all, list_any}
use Rattle.std.specs.Ordering.{match_ordering, nat_cmp}
use Rattle.std.proofs.Math.Nat.{mul-div_cancel}
use Rattle.std.proofs.lemmas.Bool.{and_parts}
use Rattle.std.proofs.lemmas.Bool.Decides.{nat_tests}
use Rattle.std.proofs.lemmas.Map.Lookups.{exact_unsigned}
use Rattle.std.proofs.Math.Bool.{or_comm, or-false}
use Rattle.rmm_model.specs.Apart.{are_apart}
use Rattle.rmm_model.specs.Blocks.{granules, is_multiple}
use Rattle.rmm_model.specs.Space.{has, is_ram, overlaps}
use Rattle.rmm_model.proofs.AppendedSpaces.{has-append, overlaps-append, ram-append}
use Rattle.rmm_model.proofs.LastMeets.{apart-some}
use Rattle.rmm_model.proofs.OneMoreInSpace.{any-insert_entry, is_ram-insert, none-at, overlaps-insert}
use Rattle.rtt_plan.specs.inside.PageRanges.{are_pages, pages_of}

pub or-last : (a b : Bool) → (a || b) ≡ (b || (a || false))
or-last a b = or_comm a b ∙ ap (λ c. b || c) (sym (or-false a))

-- ---- RAM

pub ram-more : (ram : List (ℕ × ℕ)) (base end x : ℕ) → are_apart 0 ram ≡ true → base < end → overlaps ram base end ≡ false
    → is_ram (insert_entry nat_cmp ram base end) x ≡ is_ram (ram ++ (base, end) ∷ []) x
ram-more ram base end x apart some free =
    is_ram-insert ram base end x (apart-some ram 0 apart) some free ∙ or-last (leb base x && ltb x end) (is_ram ram x)
    ∙ sym (ram-append ram ((base, end) ∷ []) x)

pub overlaps-more : (ram : List (ℕ × ℕ)) (base end from to : ℕ) → are_apart 0 ram ≡ true → base < end → overlaps ram base end ≡ false
    → overlaps (insert_entry nat_cmp ram base end) from to ≡ overlaps (ram ++ (base, end) ∷ []) from to
overlaps-more ram base end from to apart some free =
    overlaps-insert ram base end from to (apart-some ram 0 apart) some free ∙ or-last (ltb base to && ltb from end) (overlaps ram from to)
    ∙ sym (overlaps-append ram ((base, end) ∷ []) from to)

-- ---- pages

all-insert : (p : ℕ × ℕ → Bool) (es : List (ℕ × ℕ)) (k v : ℕ) → p (k, v) ≡ true → list_all p es ≡ true → list_all p (insert_entry nat_cmp es k v) ≡ true
all-insert p [] k v new all = rw new refl
all-insert p (e ∷ es) k v new all =
    let parts = and_parts (p e) (list_all p es) all in
    placed (nat_cmp k e.0) refl parts.0 parts.1 (all-insert p es k v new parts.1)
  where
    placed : (o : Ordering) → nat_cmp k e.0 ≡ o → p e ≡ true → list_all p es ≡ true → list_all p (insert_entry nat_cmp es k v) ≡ true
        → list_all p (match_ordering o ((k, v) ∷ e ∷ es) ((e.0, v) ∷ es) (e ∷ insert_entry nat_cmp es k v)) ≡ true
    placed Less at here rest i = rw (new, here) rest
    placed Equal at here rest i =
        let same : e.0 ≡ k = sym (exact_unsigned k (e.0) at) in
        let put : p (e.0, v) ≡ true = ap (λ (n : ℕ). p (n, v)) same ∙ new in
        rw put rest
    placed Greater at here rest i = rw here i

pub pages-more : (es : List (ℕ × ℕ)) (base top : ℕ) → are_pages es ≡ true → base % 4096 ≡ 0 → top % 4096 ≡ 0 → base < top
    → are_pages (insert_entry nat_cmp es base top) ≡ true
pages-more es base top pages at to some =
    all-insert (λ r. is_multiple 4096 r.0 && is_multiple 4096 r.1 && ltb r.0 r.1) es base top (grind (arith, nat_tests)) pages

-- a page is in some ranges where it is in one of them
has-in : (es : List (ℕ × ℕ)) (x : ℕ) → has (pages_of es) x ≡ list_any (λ r. has (granules ((r.1 - r.0) / 4096) r.0) x) es
has-in [] x = refl
has-in (r ∷ rs) x = has-append (granules ((r.1 - r.0) / 4096) r.0) (pages_of rs) x ∙ ap (λ b. has (granules ((r.1 - r.0) / 4096) r.0) x || b) (has-in rs x)

pub assigned-more : (es : List (ℕ × ℕ)) (base count x : ℕ) → are_apart 0 es ≡ true → 1 ≤ count → overlaps es base (base + 4096 * count) ≡ false
    → has (pages_of (insert_entry nat_cmp es base (base + 4096 * count))) x ≡ has (pages_of es ++ granules count base) x
assigned-more es base count x apart some free =
    let p : ℕ × ℕ → Bool = λ r. has (granules ((r.1 - r.0) / 4096) r.0) x in
    let pos : 0 < 4096 = omega arith in
    let bytes : base + 4096 * count - base ≡ count * 4096 = omega arith in
    let number : (base + 4096 * count - base) / 4096 ≡ count = rw bytes (mul-div_cancel count pos) in
    let less : base < base + 4096 * count = omega arith in
    has-in (insert_entry nat_cmp es base (base + 4096 * count)) x
    ∙ any-insert_entry p es base (base + 4096 * count) (none-at es base (base + 4096 * count) (apart-some es 0 apart) less free)
    ∙ ap (λ (n : ℕ). has (granules n base) x || list_any p es) number
    ∙ or_comm (has (granules count base) x) (list_any p es)
    ∙ ap (λ b. b || has (granules count base) x) (sym (has-in es x))
    ∙ sym (has-append (pages_of es) (granules count base) x)
