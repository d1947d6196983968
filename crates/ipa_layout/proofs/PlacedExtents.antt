-- Extents that do not meet share no page, and each item that is placed has its own extent.
use Rattle.std.proofs.Common.{◌≡◌, ℕ, zero, suc, ◌+◌, ◌-◌, ◌*◌, ◌^◌, ◌<◌, ◌≤◌, max, Bool, true, false, cond, eqb, List, [], ◌∷◌, length, Option, Some, Result}
use Rattle.std.proofs.Common.{Ok, Err, refl, sym, ap, subst, ◌∙◌, arith}
use Rattle.std.specs.Prelude.{◌==◌, ◌&&◌, not, None, option_map, sum_by}
use Rattle.std.specs.List.{list_any, slice_get}
use Rattle.std.specs.Option.{option_or}
use Rattle.std.specs.Result.{result_map_both}
use Rattle.std.proofs.lemmas.Bool.{eqb-false, leb-false, lt-ltb, ltb-false, ne_eqb, or_parts}
use Rattle.std.proofs.lemmas.List.Sums.{sum_by-cons}
use Rattle.refusal.proofs.AnswersInTurn.{bind-ok}
use Rattle.refusal.specs.Checks.{Check, unless_refused}
use Rattle.arm64_image.specs.ImageHeader.{read_of, load_offset_of, extent_of}
use Rattle.arm64_image.specs.declared.Header.{Header}
use Rattle.arm64_image.specs.declared.ImageFault.{ImageFault}
use Rattle.fdt_header.specs.declared.fault.FdtFault.{FdtFault}
use Rattle.rim_launch.specs.declared.item.Item.{Item}
use Rattle.rim_launch.specs.declared.item.Region.{Region}
use Rattle.ipa_layout.specs.declared.extent.WantedExtent.{WantedExtent}
use Rattle.ipa_layout.specs.declared.extent.Extent.{Extent}
use Rattle.ipa_layout.specs.declared.placed.PlacedItem.{PlacedItem}
use Rattle.ipa_layout.specs.declared.reason.ItemExtent.{ItemExtent}
use Rattle.ipa_layout.specs.declared.reason.ItemReason.{ItemReason}
use Rattle.ipa_layout.specs.declared.reason.LayoutReason.TheVariants as reason
use Rattle.rim_launch.specs.declared.item.Role.TheVariants as role
use Rattle.rim_launch.specs.Kinds.{has_role}
use Rattle.ipa_layout.specs.Extent.{end_page, first_page, kernel_at, page_count_of, size_of, wanted_of}
use Rattle.ipa_layout.specs.ItemCheck.{checked_if, checked_item, checked_wanted, checks_of, pages_with}
use Rattle.ipa_layout.specs.Overlap.{first_met, first_overlap, overlaps}
use Rattle.ipa_layout.specs.Layout.{bytes_of, extent_after, extents_of, item_at, items_at, of_item}

-- ---- one item

-- what is known of an item's extent
pub record IsSound (s : Extent) : Type 0 where
  pub size : s.size ≤ s.len
  pub low : s.address < 2 ^ 64
  pub end : s.address + s.len ≤ 2 ^ 64

wanted-fits : (i : Item) (bytes : List ℕ) (a : WantedExtent) → wanted_of i bytes ≡ Ok a → a.size ≤ a.len
unfolding wanted_of
wanted-fits i bytes a e = go (has_role role.Kernel i) (read_of bytes) e
  where
    go : (b : Bool) (r : Result Header ImageFault)
        → (let q : Result WantedExtent ItemReason = cond b (kernel_at i (length bytes) r)
        (Ok (record { address = i.at; size = size_of i (length bytes); len = size_of i (length bytes) })) in q) ≡ Ok a → a.size ≤ a.len
    go true (Err f) q = absurd cc
    go true (Ok h) q =
        let n = size_of i (length bytes) in
        let same : (let x : WantedExtent = record { address = i.at + load_offset_of h; size = n; len = max n (extent_of h (length bytes)) } in x) ≡ a = cc in
        omega (arith, ap (λ (x : WantedExtent). x.size) same, ap (λ (x : WantedExtent). x.len) same)
    go false r q =
        let n = size_of i (length bytes) in
        let same : (let x : WantedExtent = record { address = i.at; size = n; len = n } in x) ≡ a = cc in
        omega (arith, ap (λ (x : WantedExtent). x.size) same, ap (λ (x : WantedExtent). x.len) same)

-- none of these checks holds
abbrev NoneHolds : {R : Type 0} → List (Check R) → Type 0
NoneHolds [] = Unit {0}
NoneHolds (check ∷ others) = (check.1 ≡ false) × NoneHolds others

none-refuse : {A R : Type 0} (checks : List (Check R)) (x y : A) → unless_refused checks x ≡ Ok y → NoneHolds checks × (x ≡ y)
none-refuse [] x y e = (tt, cc)
none-refuse {A} {R} (check ∷ others) x y e = go check.1 refl e (none-refuse others x y)
  where
    go : (b : Bool) → check.1 ≡ b → (let r : Result A R = cond b (Err check.0) (unless_refused others x) in r) ≡ Ok y
        → (unless_refused others x ≡ Ok y → NoneHolds others × (x ≡ y))
        → NoneHolds (check ∷ others) × (x ≡ y)
    go true q h rest = absurd cc
    go false q h rest = let r = rest h in ((q, r.0), r.1)

checked_wanted-sound : (ram : List Region) (pages : ℕ) (i : Item) (count : ℕ) (a : WantedExtent) (s : Extent) → a.size ≤ a.len
    → checked_wanted ram pages i count a ≡ Ok s
    → IsSound s × (pages + page_count_of s.address s.size ≤ 1048576)
unfolding checked_wanted
checked_wanted-sound ram pages i count a s fits e =
    let stood : Extent = record { address = a.address; size = a.size; len = a.len } in
    let none = none-refuse (checks_of ram pages i count a) stood s e in
    let few = ltb-false 1048576 (pages_with pages a) none.0.1.1.1.1.0 in
    let past = or_parts _ _ none.0.1.1.1.1.1.0 in
    let low = leb-false (2 ^ 64) a.address past.0 in
    let end = ltb-false (2 ^ 64) (a.address + a.len) past.1 in
    subst (λ (x : Extent). IsSound x × (pages + page_count_of x.address x.size ≤ 1048576)) none.1 (record { size = fits; low = low; end = end }, few)

placed-sound : (ram : List Region) (pages : ℕ) (i : Item) (bytes : List ℕ) (s : Extent) → checked_item ram pages i bytes ≡ Ok s
    → IsSound s × (pages + page_count_of s.address s.size ≤ 1048576)
placed-sound ram pages i bytes s e = go (wanted_of i bytes) refl e
  where
    go : (r : Result WantedExtent ItemReason) → wanted_of i bytes ≡ r → checked_if ram pages i (length bytes) r ≡ Ok s
        → IsSound s × (pages + page_count_of s.address s.size ≤ 1048576)
    go (Err f) q h = absurd cc
    go (Ok a) q h = checked_wanted-sound ram pages i (length bytes) a s (wanted-fits i bytes a q) h

-- the first page after an item's pages is not after its extent
pages-end : (s : Extent) → IsSound s → 0 < page_count_of s.address s.size → first_page s.address + page_count_of s.address s.size ≤ end_page (s.address + s.len)
pages-end s sound = go (eqb s.size 0) refl
  where
    go : (b : Bool) → eqb s.size 0 ≡ b → 0 < cond b 0 (first_page (s.address + s.size - 1) + 1 - first_page s.address)
        → first_page s.address + cond b 0 (first_page (s.address + s.size - 1) + 1 - first_page s.address) ≤ end_page (s.address + s.len)
    go true e some = absurd (omega arith)
    go false e some = omega (arith, sound.size, eqb-false s.size 0 e)

has-extent : (s : Extent) → IsSound s → 0 < page_count_of s.address s.size → 0 < s.len
has-extent s sound = go (eqb s.size 0) refl
  where
    go : (b : Bool) → eqb s.size 0 ≡ b → 0 < cond b 0 (first_page (s.address + s.size - 1) + 1 - first_page s.address) → 0 < s.len
    go true e some = absurd (omega arith)
    go false e some = omega (arith, sound.size, eqb-false s.size 0 e)

-- all of its pages are below 2^52
pub pages-low : (s : Extent) → IsSound s → 4096 * (first_page s.address + page_count_of s.address s.size) ≤ 2 ^ 64
pages-low s sound = go (eqb s.size 0) refl
  where
    go : (b : Bool) → eqb s.size 0 ≡ b → 4096 * (first_page s.address + cond b 0 (first_page (s.address + s.size - 1) + 1 - first_page s.address)) ≤ 2 ^ 64
    go true e = omega (arith, sound.low)
    go false e = omega (arith, sound.low, sound.size, sound.end)

-- ---- two items

all-four : (a b c d : Bool) → a ≡ true → b ≡ true → c ≡ true → d ≡ true → (a && b && c && d) ≡ true
all-four a b c d p q r s = rw (p, q, r, s) refl

not-none : (n : ℕ) → 0 < n → not (n == 0) ≡ true
not-none n h = ap not (ne_eqb n 0 (λ none. omega (arith, none)))

-- items that do not meet have no page in common
pub no-page-shared : (a b : Extent) → IsSound a → IsSound b → overlaps a b ≡ false → (page : ℕ)
    → first_page a.address ≤ page → page < first_page a.address + page_count_of a.address a.size
    → first_page b.address ≤ page → page < first_page b.address + page_count_of b.address b.size → ⊥
no-page-shared a b sa sb checked_together page from-a to-a from-b to-b =
    let some-a : 0 < page_count_of a.address a.size = omega arith in
    let some-b : 0 < page_count_of b.address b.size = omega arith in
    let end-a = pages-end a sa some-a in
    let end-b = pages-end b sb some-b in
    let met : overlaps a b ≡ true = all-four _ _ _ _ (not-none a.len (has-extent a sa some-a)) (not-none b.len (has-extent b sb some-b))
    (lt-ltb (first_page a.address) (end_page (b.address + b.len)) (omega (arith, end-b)))
    (lt-ltb (first_page b.address) (end_page (a.address + a.len)) (omega (arith, end-a))) in
    let z : true ≡ false = sym met ∙ checked_together in absurd cc

pub none-there : {X : Type 0} (t : X → Bool) (xs : List X) (k : ℕ) (x : X) → list_any t xs ≡ false → slice_get xs k ≡ Some x → t x ≡ false
none-there t [] k x h e = absurd cc
none-there t (y ∷ ys) zero x h e = let same : y ≡ x = cc in ap t (sym same) ∙ (or_parts (t y) (list_any t ys) h).0
none-there t (y ∷ ys) (suc k) x h e = none-there t ys k x (or_parts (t y) (list_any t ys) h).1 e

-- an item that meets none of some others meets each of them not
met-none : (a : Extent) (n : ℕ) (others : List Extent) (k : ℕ) (b : Extent) → first_met a n others ≡ None → slice_get others k ≡ Some b → overlaps a b ≡ false
met-none a n [] k b none e = absurd cc
met-none a n (x ∷ others) zero b none e = let same : x ≡ b = cc in ap (overlaps a) (sym same) ∙ passed (overlaps a x) none
  where
    passed : (t : Bool) → cond t (Some (let s : ItemExtent = record { item = n; extent = x } in s)) (first_met a (n + 1) others) ≡ None → t ≡ false
    passed true h = absurd cc
    passed false h = refl
met-none a n (x ∷ others) (suc k) b none e = met-none a (n + 1) others k b (passed (overlaps a x) none) e
  where
    passed : (t : Bool) → cond t (Some (let s : ItemExtent = record { item = n; extent = x } in s)) (first_met a (n + 1) others) ≡ None
        → first_met a (n + 1) others ≡ None
    passed true h = absurd cc
    passed false h = h

none-of-both : {X Y : Type 0} (f : X → Y) (o : Option X) (p : Option Y) → option_or (option_map f o) p ≡ None → (o ≡ None) × (p ≡ None)
none-of-both f None p h = (refl, h)
none-of-both f (Some x) p h = absurd cc

-- where no two meet
pub two-apart : (ss : List Extent) (n j k : ℕ) (a b : Extent) → first_overlap n ss ≡ None → j < k → slice_get ss j ≡ Some a → slice_get ss k ≡ Some b
    → overlaps a b ≡ false
two-apart [] n j k a b h lt e f = absurd cc
two-apart (s ∷ ss) n zero zero a b h lt e f = absurd (omega arith)
two-apart (s ∷ ss) n zero (suc k) a b h lt e f =
    let same : s ≡ a = cc in
    ap (λ (x : Extent). overlaps x b) (sym same) ∙ met-none s (n + 1) ss k b (none-of-both _ (first_met s (n + 1) ss) (first_overlap (n + 1) ss) h).0 f
two-apart (s ∷ ss) n (suc j) zero a b h lt e f = absurd (omega arith)
two-apart (s ∷ ss) n (suc j) (suc k) a b h lt e f =
    two-apart ss (n + 1) j k a b (none-of-both _ (first_met s (n + 1) ss) (first_overlap (n + 1) ss) h).1 (omega arith) e f

-- ---- all items

-- an answer that is the same but for its error
pub ok-mapped : {A D E : Type 0} (r : Result A D) (g : D → E) (x : A) → result_map_both (λ (a : A). a) g r ≡ Ok x → r ≡ Ok x
ok-mapped {A} {D} (Ok y) g x e = let same : y ≡ x = cc in ap (λ (a : A). Ok a) same
ok-mapped (Err d) g x e = absurd cc

module _ (ram : List Region) (edited : Result (Option (List ℕ)) FdtFault) (files : List (List ℕ)) where
  -- the first item has an extent, and so have the others after it
  pub record Split (n pages : ℕ) (i : Item) (items : List Item) (ss : List Extent) : Type 0 where
    pub bytes : List ℕ
    pub first : Extent
    pub others : List Extent
    pub has : bytes_of edited files i ≡ Ok bytes
    pub stands : checked_item ram pages i bytes ≡ Ok first
    pub rest : extents_of ram edited files (n + 1) (pages + page_count_of first.address first.size) items ≡ Ok others
    pub is : ss ≡ first ∷ others

  split : (n pages : ℕ) (i : Item) (items : List Item) (ss : List Extent) → extents_of ram edited files n pages (i ∷ items) ≡ Ok ss → Split n pages i items ss
  split n pages i items ss e =
      let o = bind-ok (of_item n (extent_after ram edited files pages i)) _ ss e in
      let b = bind-ok (bytes_of edited files i) (checked_item ram pages i) o.0 (ok-mapped (extent_after ram edited files pages i) (reason.Item n) o.0 o.1) in
      let r = bind-ok (extents_of ram edited files (n + 1) (pages + page_count_of o.0.address o.0.size) items) _ ss o.2 in
      let same : ss ≡ o.0 ∷ r.0 = cc in
      record { bytes = b.0; first = o.0; others = r.0; has = b.1; stands = b.2; rest = r.1; is = same }

  pub rows-length : (n pages : ℕ) (items : List Item) (ss : List Extent) → extents_of ram edited files n pages items ≡ Ok ss → length ss ≡ length items
  rows-length n pages [] ss e = let same : [] ≡ ss = cc in ap length (sym same)
  rows-length n pages (i ∷ items) ss e =
      let p = split n pages i items ss e in
      omega (arith, ap length p.is, rows-length (n + 1) (pages + page_count_of p.first.address p.first.size) items p.others p.rest)

  -- each of them has bytes and is sound
  pub rows-at : (n pages : ℕ) (items : List Item) (ss : List Extent) (k : ℕ) (i : Item) (s : Extent) → extents_of ram edited files n pages items ≡ Ok ss
      → slice_get items k ≡ Some i → slice_get ss k ≡ Some s → IsSound s × (bytes : List ℕ) × (bytes_of edited files i ≡ Ok bytes)
  rows-at n pages [] ss k i s e f g = absurd cc
  rows-at n pages (j ∷ items) ss zero i s e f g =
      let p = split n pages j items ss e in
      let same : j ≡ i = cc in
      let own : slice_get (p.first ∷ p.others) zero ≡ Some s = rw p.is at g in
      let this : p.first ≡ s = cc in
      (subst IsSound this (placed-sound ram pages j p.bytes p.first p.stands).0, p.bytes, ap (bytes_of edited files) (sym same) ∙ p.has)
  rows-at n pages (j ∷ items) ss (suc k) i s e f g =
      let p = split n pages j items ss e in
      let own : slice_get (p.first ∷ p.others) (suc k) ≡ Some s = rw p.is at g in
      rows-at (n + 1) (pages + page_count_of p.first.address p.first.size) items p.others k i s p.rest f own

  pub rows-total : (n pages : ℕ) (items : List Item) (ss : List Extent) → pages ≤ 1048576 → extents_of ram edited files n pages items ≡ Ok ss
      → pages + sum_by (λ s. page_count_of s.address s.size) ss ≤ 1048576
  rows-total n pages [] ss few e = let same : [] ≡ ss = cc in rw (sym same) (omega arith)
  rows-total n pages (i ∷ items) ss few e =
      let p = split n pages i items ss e in
      let now = (placed-sound ram pages i p.bytes p.first p.stands).1 in
      let rest = rows-total (n + 1) (pages + page_count_of p.first.address p.first.size) items p.others now p.rest in
      rw p.is (omega (arith, sum_by-cons (λ s. page_count_of s.address s.size) p.first p.others, rest))

-- ---- as they are placed

pub items-length : (launch : ℕ) (items : List Item) (ss : List Extent) → length ss ≡ length items → length (items_at launch items ss) ≡ length items
items-length launch [] ss e = refl
items-length launch (i ∷ items) [] e = absurd (omega arith)
items-length launch (i ∷ items) (s ∷ ss) e = omega (arith, items-length launch items ss (omega arith))

pub item-there : (launch : ℕ) (items : List Item) (ss : List Extent) (k : ℕ) (i : Item) (p : PlacedItem) → slice_get items k ≡ Some i
    → slice_get (items_at launch items ss) k ≡ Some p
    → (s : Extent) × (slice_get ss k ≡ Some s) × (p ≡ item_at launch i s)
item-there launch [] ss k i p e f = absurd cc
item-there launch (j ∷ items) [] k i p e f = absurd cc
item-there launch (j ∷ items) (s ∷ ss) zero i p e f =
    let same : j ≡ i = cc in
    let placed : item_at launch j s ≡ p = cc in
    (s, refl, sym placed ∙ ap (λ (x : Item). item_at launch x s) same)
item-there launch (j ∷ items) (s ∷ ss) (suc k) i p e f = item-there launch items ss k i p e f

pub items-total : (launch : ℕ) (items : List Item) (ss : List Extent) → length ss ≡ length items
    → sum_by (λ i. i.pages) (items_at launch items ss) ≡ sum_by (λ s. page_count_of s.address s.size) ss
unfolding item_at
items-total launch [] [] e = refl
items-total launch [] (s ∷ ss) e = absurd (omega arith)
items-total launch (i ∷ items) [] e = absurd (omega arith)
items-total launch (i ∷ items) (s ∷ ss) e =
    omega (
      arith,
      sum_by-cons (λ i. i.pages) (item_at launch i s) (items_at launch items ss),
      sum_by-cons (λ s. page_count_of s.address s.size) s ss,
      items-total launch items ss (omega arith),
    )
