-- The laws of placed launches: their parts, each item, few pages, and no page of two items.
use Rattle.std.proofs.Common.{◌≡◌, ℕ, ◌*◌, ◌%◌, ◌^◌, ◌<◌, ◌≤◌, Bool, true, false, cond, List, length, Option, Some, None, Result, Ok, Err, refl, sym, ap, ◌∙◌}
use Rattle.std.proofs.Common.{arith, get_or, subst, [], ◌∷◌}
use Rattle.std.proofs.Math.Nat.{mod-lt}
use Rattle.std.proofs.lemmas.Option.{slice_get-get_or, slice_get_within}
use Rattle.std.specs.Prelude.{IsSome, option_map}
use Rattle.std.specs.List.{find, enumerate_from, slice_get}
use Rattle.std.specs.Result.{result_unwrap_or}
use Rattle.std.proofs.lemmas.List.{length-map}
use Rattle.std.proofs.lemmas.List.FromFn.{length-enumerate_from}
use Rattle.refusal.proofs.AnswersInTurn.{bind-ok}
use Rattle.refusal.specs.Answer.{◌>>=◌}
use Rattle.fdt_header.specs.declared.fault.FdtFault.{FdtFault}
use Rattle.rim_launch.specs.declared.item.Item.{Item}
use Rattle.ipa_layout.specs.declared.extent.Extent.{Extent}
use Rattle.ipa_layout.specs.declared.placed.PlacedItem.{PlacedItem}
use Rattle.ipa_layout.specs.declared.reason.ItemExtent.{ItemExtent}
use Rattle.ipa_layout.specs.declared.reason.ItemReason.{ItemReason}
use Rattle.rim_launch.specs.LaunchData.{LaunchData}
use Rattle.rim_desc.specs.declared.source.Source.TheVariants.{File, Edited}
use Rattle.rim_launch.specs.declared.item.ItemKind.{ItemKind}
use Rattle.rim_launch.specs.declared.item.ItemKind.TheVariants.{Kernel, Initrd, Dtb, Raw, Unknown}
use Rattle.rim_launch.specs.Kinds.{file_of, has_edits}
use Rattle.rim_launch.specs.Whole.{is_whole}
use Rattle.ipa_layout.specs.Overlap.{apart_unless, checked_all, first_overlap}
use Rattle.ipa_layout.specs.Reason.{fault_of}
use Rattle.ipa_layout.specs.Layout.{IsPlaced, PlacedData, bytes_of, checked_together, edited_bytes, edited_dtb, edited_item, extents_of, file_bytes, item_at}
use Rattle.ipa_layout.specs.Layout.{items_at, laid_out, placed_at, source_of}
use Rattle.ipa_layout.specs.Laws.{HasPage, IsItem, IsSourceOf, page_end, page_total}
use Rattle.ipa_layout.proofs.FoundInLists.{found-none}
use Rattle.ipa_layout.proofs.PlacedExtents.{IsSound, item-there, items-length, items-total, no-page-shared, none-there, ok-mapped, pages-low, rows-at}
use Rattle.ipa_layout.proofs.PlacedExtents.{rows-length, rows-total, two-apart}

-- the extents of a placed launch's items
record Parts (l : LaunchData) (files : List (List ℕ)) (p : PlacedData) : Type 0 where
  extents : List Extent
  stood : extents_of l.ram (edited_dtb l files) files 0 0 l.items ≡ Ok extents
  none_meet : first_overlap 0 extents ≡ None
  is : p ≡ placed_at l (result_unwrap_or (edited_dtb l files) None) extents

not-met : (items : List Item) (ss : List Extent) (u : Unit {0}) → checked_together items ss ≡ Ok u → first_overlap 0 ss ≡ None
unfolding checked_all
not-met items ss u e = let b = bind-ok (apart_unless (first_overlap 0 ss)) _ u e in none (first_overlap 0 ss) b.0 b.1
  where
    none : (o : Option (ItemExtent × ItemExtent)) (v : Unit {0}) → apart_unless o ≡ Ok v → o ≡ None
    none None v h = refl
    none (Some p) v h = absurd cc

parts : (l : LaunchData) (files : List (List ℕ)) (p : PlacedData) → IsPlaced l files p → Parts l files p
parts l files p h =
    let s = bind-ok (extents_of l.ram (edited_dtb l files) files 0 0 l.items) _ p (ok-mapped (laid_out l files) fault_of p h.placed) in
    let a = bind-ok (checked_together l.items s.0) _ p s.2 in
    let same : placed_at l (result_unwrap_or (edited_dtb l files) None) s.0 ≡ p = cc in
    record { extents = s.0; stood = s.1; none_meet = not-met l.items s.0 a.0 a.1; is = sym same }

module _ (l : LaunchData) (files : List (List ℕ)) (p : PlacedData) (h : IsPlaced l files p) where
  pub same-number : p.number ≡ l.number
  same-number = ap (λ (q : PlacedData). q.number) (parts l files p h).is

  pub as-many-items : length p.items ≡ length l.items
  as-many-items =
      let r = parts l files p h in
      let rows = rows-length l.ram (edited_dtb l files) files 0 0 l.items r.extents r.stood in
      ap (λ (q : PlacedData). length q.items) r.is ∙ items-length l.number l.items r.extents rows

  pub as-many-recs : length p.recs ≡ length l.recs
  as-many-recs =
      let r = parts l files p h in
      ap (λ (q : PlacedData). length q.recs) r.is ∙ length-map (enumerate_from 0 l.recs) _ ∙ length-enumerate_from 0 l.recs

  pub few-pages : page_total p ≤ 1048576
  few-pages =
      let r = parts l files p h in
      let rows = rows-length l.ram (edited_dtb l files) files 0 0 l.items r.extents r.stood in
      omega (
        arith,
        ap page_total r.is,
        items-total l.number l.items r.extents rows,
        rows-total l.ram (edited_dtb l files) files 0 0 l.items r.extents (omega arith) r.stood,
      )

  -- the extent of an item of the launch, and its bytes
  record Own (k : ℕ) (item : Item) (i : PlacedItem) : Type 0 where
    extent : Extent
    at : slice_get (parts l files p h).extents k ≡ Some extent
    is : i ≡ item_at l.number item extent
    sound : IsSound extent
    bytes : List ℕ
    has : bytes_of (edited_dtb l files) files item ≡ Ok bytes

  own : (k : ℕ) (item : Item) (i : PlacedItem) → IsItem l p k item i → Own k item i
  own k item i it =
      let r = parts l files p h in
      let placed : slice_get (items_at l.number l.items r.extents) k ≡ Some i = ap (λ (q : PlacedData). slice_get q.items k) (sym r.is) ∙ it.placed in
      let s = item-there l.number l.items r.extents k item i it.in_launch placed in
      let row = rows-at l.ram (edited_dtb l files) files 0 0 l.items r.extents k item s.0 r.stood it.in_launch s.1 in
      record { extent = s.0; at = s.1; is = s.2; sound = row.0; bytes = row.1; has = row.2 }

  pub lead-is : (k : ℕ) (item : Item) (i : PlacedItem) → IsItem l p k item i → i.lead ≡ i.address % 4096
  unfolding item_at
  lead-is k item i it = let o = own k item i it in rw o.is refl

  pub measured-is : (k : ℕ) (item : Item) (i : PlacedItem) → IsItem l p k item i → i.measured ≡ item.measured
  unfolding item_at
  measured-is k item i it = let o = own k item i it in rw o.is refl

  pub end-is : (k : ℕ) (item : Item) (i : PlacedItem) → IsItem l p k item i → 4096 * page_end i ≤ 2 ^ 64
  unfolding item_at
  end-is k item i it = let o = own k item i it in rw o.is (pages-low o.extent o.sound)

  pub pages-checked_together : (m n : ℕ) (a b : Item) (i j : PlacedItem) → m < n → IsItem l p m a i → IsItem l p n b j → (page : ℕ) → HasPage i page
      → HasPage j page → ⊥
  unfolding item_at
  pages-checked_together m n a b i j lt of-a of-b page in-a in-b =
      let o = own m a i of-a in
      let q = own n b j of-b in
      let r = parts l files p h in
      let apart = two-apart r.extents 0 m n o.extent q.extent r.none_meet lt o.at q.at in
      let x = rw o.is at in-a in
      let y = rw q.is at in-b in
      no-page-shared o.extent q.extent o.sound q.sound apart page x.0 x.1 y.0 y.1

  -- an item with edits is the devicetree that was edited
  with_edits-some : (item : Item) (k : ℕ) (bytes : List ℕ) → slice_get l.items k ≡ Some item → has_edits item.kind ≡ true
      → edited_bytes (edited_dtb l files) ≡ Ok bytes
      → IsSome (result_unwrap_or (edited_dtb l files) None)
  with_edits-some item k bytes at edits has = go (find (λ i. has_edits i.kind) l.items) refl has
    where
      some-of : (o : Option Item) (r : Result (List ℕ) FdtFault)
          → (let q : Result (Option (List ℕ)) FdtFault = r >>= λ b. Ok (Some b) in edited_bytes q) ≡ Ok bytes
          → (let q : Result (Option (List ℕ)) FdtFault = r >>= λ b. Ok (Some b) in IsSome (result_unwrap_or q None))
      some-of o (Ok b) e = refl
      some-of o (Err f) e = absurd cc

      go : (o : Option Item) → find (λ i. has_edits i.kind) l.items ≡ o → edited_bytes (edited_item l files o) ≡ Ok bytes
          → IsSome (result_unwrap_or (edited_item l files o) None)
      go None e q =
          let passed = none-there (λ (i : Item). has_edits i.kind) l.items k item (found-none (λ (i : Item). has_edits i.kind) l.items e) at in
          let z : true ≡ false = sym edits ∙ passed in absurd cc
      go (Some i) e q = some-of (Some i) _ q

  pub source-is : (k : ℕ) (item : Item) (i : PlacedItem) → IsItem l p k item i → IsSourceOf l p item i.source
  unfolding item_at
  source-is k item i it =
      let o = own k item i it in
      rw o.is (go o.bytes (has_edits item.kind) refl o.has)
    where
      go : (bytes : List ℕ) (b : Bool) → has_edits item.kind ≡ b
          → (let r : Result (List ℕ) ItemReason = cond b (edited_bytes (edited_dtb l files)) (Ok (file_bytes files item.kind)) in r) ≡ Ok bytes
          → IsSourceOf l p item (cond b (Some (Edited l.number)) (option_map File (file_of item.kind)))
      go bytes true e q = (e, refl, rw (ap (λ (x : PlacedData). x.edited) (parts l files p h).is) (with_edits-some item k bytes it.in_launch e q))
      go bytes false e q = from-file (file_of item.kind) refl
        where
          from-file : (file : Option ℕ) → file_of item.kind ≡ file → IsSourceOf l p item (option_map File file)
          from-file None there = there
          from-file (Some n) there = (e, there)

  -- an item that is measured has a file, so it has a source
  pub known-is : (k : ℕ) (item : Item) (i : PlacedItem) → IsItem l p k item i → i.measured ≡ true → IsSome i.source
  unfolding item_at
  known-is k item i it on =
      let o = own k item i it in
      rw o.is (of-kind item.kind item.size (subst (λ (m : Bool). is_whole item.kind item.size m ≡ true) (sym (measured-is k item i it) ∙ on) item.whole))
    where
      from : (b : Bool) (file : ℕ) → IsSome (cond b (Some (Edited l.number)) (Some (File file)))
      from true file = refl
      from false file = refl

      of-kind : (kind : ItemKind) (size : Option ℕ) → is_whole kind size true ≡ true → IsSome (source_of l.number kind)
      of-kind (Kernel file) size whole = refl
      of-kind (Initrd file) size whole = refl
      of-kind (Dtb file edits) size whole = from (has_edits (Dtb file edits)) file
      of-kind (Raw file) size whole = refl
      of-kind Unknown None whole = absurd (cc)
      of-kind Unknown (Some n) whole = absurd (cc)

-- an item begins within its first page
pub lead-low : (l : LaunchData) (files : List (List ℕ)) (p : PlacedData) (number : ℕ) (item : PlacedItem) → IsPlaced l files p
    → slice_get p.items number ≡ Some item → item.lead < 4096
lead-low l files p number item is_placed at =
    let inside : number < length p.items = slice_get_within p.items number item at in
    by_items l.items refl (omega (arith, inside, as-many-items l files p is_placed))
  where
    by_items : (items : List Item) → items ≡ l.items → number < length items → item.lead < 4096
    by_items [] e within = absurd (omega (arith, within))
    by_items (first ∷ others) e within =
        let asked : slice_get l.items number ≡ Some (get_or (first ∷ others) number first)
        = ap (λ xs. slice_get xs number) (sym e) ∙ slice_get-get_or (first ∷ others) number first within in
        let lead : item.lead ≡ item.address % 4096
        = lead-is l files p is_placed number (get_or (first ∷ others) number first) item (record { in_launch = asked; placed = at }) in
        let low : item.address % 4096 < 4096 = mod-lt item.address (omega arith) in
        omega (arith, lead, low)
