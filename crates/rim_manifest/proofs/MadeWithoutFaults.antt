-- The type of a launch has what is read where no fault not-false, and only then.
use Rattle.std.proofs.Common.{◌≡◌, ℕ, zero, suc, ◌+◌, ◌<◌, ◌≤◌, List, [], ◌∷◌, ◌++◌, length, get_or, map, Bool, true, false, cond, not, ◌||◌, Option, Some}
use Rattle.std.proofs.Common.{None, Ok, Err, refl, ap, sym, ◌∙◌, codes, arith}
use Rattle.std.specs.List.{flat_map, list_all, list_any}
use Rattle.std.proofs.lemmas.Bool.{le-leb, and_parts, or_parts, not-false}
use Rattle.std.proofs.lemmas.List.{length-map}
use Rattle.std.proofs.Math.Bool.{and-false}
use Rattle.toml.specs.Data.{Data, Members, get, table}
use Rattle.toml.specs.View.{view}
use Rattle.toml.specs.declared.value.Value.{Value}
use Rattle.rim_launch.specs.Kinds.{edits_possible, once_each}
use Rattle.rim_launch.specs.LaunchData.{LaunchData, is_launch, steps_fit}
use Rattle.rim_launch.specs.declared.item.Role.TheVariants.{Kernel, Initrd, Dtb}
use Rattle.rim_launch.specs.Steps.{steps_complete}
use Rattle.rim_launch.specs.declared.config.Config.{Config}
use Rattle.rim_launch.specs.declared.item.Region.{Region}
use Rattle.rim_launch.specs.declared.item.Item.{Item}
use Rattle.rim_launch.specs.declared.rec.Rec.{Rec}
use Rattle.rim_launch.specs.declared.step.Step.{Step}
use Rattle.rim_launch.proofs.DefaultStepsComplete.{default-complete}
use Rattle.rim_manifest.specs.declared.fault.ManifestFault.{ManifestFault}
use Rattle.rim_manifest.specs.declared.fault.ManifestFault.TheVariants.{BadStep}
use Rattle.rim_rules.specs.declared.form.Presence.TheVariants.{Optional}
use Rattle.rim_rules.specs.Items.{item_of}
use Rattle.rim_manifest.specs.Launches.{NamedData, config_of, items_of, launch_of, launches_from, ram_of, rec_of, recs_of, region_in}
use Rattle.rim_rules.specs.Forms.{items_of as values_of}
use Rattle.rim_manifest.specs.StepTexts.{is_misnamed, misnames, step_in, steps_in}
use Rattle.rim_rules.specs.Versions.{version_at}
use Rattle.rim_rules.specs.declared.version.FormatVersion.{FormatVersion}
use Rattle.rim_rules.specs.Values.{array_at}
use Rattle.rim_rules.specs.Names.{has_asked, kinds_once, repeats, share_names}
use Rattle.rim_manifest.specs.Manifest.{all_made, files_at, has_two_names, launch_faults, launches_at, launches_of, made, manifest_faults}
use Rattle.rim_manifest.specs.Faults.{lowest}
use Rattle.rim_manifest.proofs.LowestFault.{none_noted}
use Rattle.rim_manifest.proofs.TablesWithoutFaults.{TopIsGood, empty_parts, few_regions, few_tables, good_launch, good_top}
use Rattle.rim_rules.proofs.ItemsFromTables.{count-items, initrd-items, memory-items}

-- ---- no fault

asked-items : (files : List Data) (d : Data) → edits_possible (ram_of d) (items_of files d) ≡ has_asked d
asked-items files d =
    let items = array_at (codes "item") d in
    rw (count-items files Initrd items, initrd-items files items, memory-items files items, length-map (array_at (codes "ram") d) region_in) refl

once-items : (files : List Data) (d : Data) → once_each (items_of files d) ≡ kinds_once (array_at (codes "item") d)
once-items files d =
    let items = array_at (codes "item") d in
    rw (count-items files Kernel items, count-items files Initrd items, count-items files Dtb items) refl

-- the steps of a launch, stated or not
steps_hold : (files : List Data) (d : Data) (o : Option Data) → misnames d o ≡ false
    → steps_complete (length (ram_of d)) (length (items_of files d)) (length (recs_of d))
    (steps_in (length (ram_of d)) (array_at (codes "item") d) (items_of files d) (length (recs_of d)) o) ≡ true
steps_hold files d None e = default-complete (length (ram_of d)) (items_of files d) (length (recs_of d))
steps_hold files d (Some s) e =
    rw (
      length-map (array_at (codes "ram") d) region_in,
      length-map (array_at (codes "item") d) (item_of files),
      length-map (array_at (codes "rec") d) rec_of,
    ) (not-false _ e)

steps_named : (files : List Data) (d : Data) (o : Option Data)
    → steps_complete (length (ram_of d)) (length (items_of files d)) (length (recs_of d))
    (steps_in (length (ram_of d)) (array_at (codes "item") d) (items_of files d) (length (recs_of d)) o) ≡ true
    → misnames d o ≡ false
steps_named files d None e = refl
steps_named files d (Some s) e =
    let lengths : steps_complete (length (array_at (codes "ram") d)) (length (array_at (codes "item") d)) (length (array_at (codes "rec") d))
    (map (step_in (array_at (codes "item") d)) (values_of s)) ≡ true =
    rw (
      ← length-map (array_at (codes "ram") d) region_in,
      ← length-map (array_at (codes "item") d) (item_of files),
      ← length-map (array_at (codes "rec") d) rec_of,
    ) e in
    ap not lengths

is_made : (v : FormatVersion) (files : List Data) (n : ℕ) (d : Data) → length (array_at (codes "ram") d) ≤ 64 → length (array_at (codes "item") d) ≤ 64
    → length (array_at (codes "rec") d) ≤ 1024
    → kinds_once (array_at (codes "item") d) ≡ true → has_asked d ≡ true → is_misnamed d ≡ false → is_launch (launch_of v files n d).launch ≡ true
unfolding is_launch
is_made v files n d ram items recs once asked named =
    let regions : length (ram_of d) ≤ 64 = omega (arith, ram, length-map (array_at (codes "ram") d) region_in) in
    let things : length (items_of files d) ≤ 64 = omega (arith, items, length-map (array_at (codes "item") d) (item_of files)) in
    let processors : length (recs_of d) ≤ 1024 = omega (arith, recs, length-map (array_at (codes "rec") d) rec_of) in
    rw (le-leb _ _ regions, le-leb _ _ things, le-leb _ _ processors, once-items files d, once, asked-items files d, asked)
    (steps_hold files d (get (codes "steps") d) named)

launch_made : (v : FormatVersion) (files : List Data) (n : ℕ) (d : Data) → launch_faults v d ≡ [] → repeats d ≡ false → is_misnamed d ≡ false
    → is_launch (launch_of v files n d).launch ≡ true
launch_made v files n (table ms) e single named =
    let good = good_launch v ms e in
    let rest = good.rest.1.1.1.1.1 in
    let once = not-false (kinds_once (array_at (codes "item") (table ms))) (or_parts (share_names (array_at (codes "item") (table ms))) _ single).1 in
    is_made v files n (table ms) (few_regions (codes "ram") Optional 64 _ rest.0) (few_tables (codes "item") Optional 64 _ rest.1.0)
    (few_tables (codes "rec") Optional 1024 _ rest.1.1.0) once good.asked named
launch_made v files n d e single named = is_made v files n d (omega arith) (omega arith) (omega arith) refl refl named

launches_made : (v : FormatVersion) (files : List Data) (n : ℕ) (ds : List Data) → flat_map (launch_faults v) ds ≡ [] → list_any repeats ds ≡ false
    → list_any is_misnamed ds ≡ false
    → list_all (λ (l : NamedData). is_launch l.launch) (launches_from v files n ds) ≡ true
launches_made v files n [] e single named = refl
launches_made v files n (d ∷ ds) e single named =
    let parts = empty_parts (launch_faults v d) (flat_map (launch_faults v) ds) e in
    let each = or_parts (repeats d) (list_any repeats ds) single in
    let fits = or_parts (is_misnamed d) (list_any is_misnamed ds) named in
    rw (launch_made v files n d parts.0 each.0 fits.0) (launches_made v files (n + 1) ds parts.1 each.1 fits.1)

-- where the type has all launches, their steps fit
launches_named : (v : FormatVersion) (files : List Data) (n : ℕ) (ds : List Data)
    → list_all (λ (l : NamedData). is_launch l.launch) (launches_from v files n ds) ≡ true → list_any is_misnamed ds ≡ false
unfolding is_launch
launches_named v files n [] e = refl
launches_named v files n (d ∷ ds) e =
    let parts = and_parts (is_launch (launch_of v files n d).launch) (list_all (λ (l : NamedData). is_launch l.launch) (launches_from v files (n + 1) ds)) e in
    let fits = (and_parts _ (steps_fit (launch_of v files n d).launch) parts.0).1 in
    rw (steps_named files d (get (codes "steps") d) fits) (launches_named v files (n + 1) ds parts.1)

-- what the reader of all launches answers
pub all_read : (ms : Members) (ls : List NamedData) → all_made (launches_of ms) ≡ Ok ls
    → (ls ≡ launches_of ms) × (list_any is_misnamed (launches_at ms) ≡ false)
all_read ms ls e = go (list_all (λ (l : NamedData). is_launch l.launch) (launches_of ms)) refl e
  where
    go : (b : Bool) → list_all (λ (l : NamedData). is_launch l.launch) (launches_of ms) ≡ b → cond b (Ok (launches_of ms)) (Err BadStep) ≡ Ok ls
        → (ls ≡ launches_of ms) × (list_any is_misnamed (launches_at ms) ≡ false)
    go true t h = let same : ls ≡ launches_of ms = cc in (same, launches_named (version_at ms) (files_at ms) 0 (launches_at ms) t)
    go false t h = cc

pub all_refused : (ms : Members) (f : ManifestFault) → lowest (manifest_faults ms) ≡ None → has_two_names ms ≡ false → all_made (launches_of ms) ≡ Err f
    → (f ≡ BadStep) × (list_any is_misnamed (launches_at ms) ≡ true)
all_refused ms f e single refused = go (list_any is_misnamed (launches_at ms)) refl
  where
    good : TopIsGood ms
    good = good_top ms (none_noted (manifest_faults ms) e)

    once : list_any repeats (launches_at ms) ≡ false
    once = (or_parts (share_names (files_at ms) || share_names (launches_at ms)) (list_any repeats (launches_at ms)) single).1

    fault : (b : Bool) → cond b (Ok (launches_of ms)) (Err BadStep) ≡ Err f → f ≡ BadStep
    fault true h = cc
    fault false h = cc

    go : (b : Bool) → list_any is_misnamed (launches_at ms) ≡ b → (f ≡ BadStep) × (b ≡ true)
    go true t = (fault (list_all (λ (l : NamedData). is_launch l.launch) (launches_of ms)) refused, refl)
    go false t =
        let all : list_all (λ (l : NamedData). is_launch l.launch) (launches_of ms) ≡ true =
        launches_made (version_at ms) (files_at ms) 0 (launches_at ms) good.launches once t in
        let made_all : all_made (launches_of ms) ≡ Ok (launches_of ms) = rw all refl in
        cc

-- ---- one launch, as the program makes it

pub parts_read : (v : FormatVersion) (files : List Data) (n : ℕ) (d : Data) (config : Config) (ram : List Region) (items : List Item) (recs : List Rec)
    (steps : List Step) (o : Option LaunchData)
    → config ≡ config_of v d → ram ≡ ram_of d → items ≡ items_of files d → recs ≡ recs_of d
    → steps ≡ steps_in (length ram) (array_at (codes "item") d) items (length recs) (get (codes "steps") d)
    → (let l : LaunchData = record { number = n; config = config; ram = ram; items = items; recs = recs; steps = steps } in o ≡ cond (is_launch l)
    (Some l) None)
    → o ≡ cond (is_launch (launch_of v files n d).launch) (Some (launch_of v files n d).launch) None
parts_read v files n d config ram items recs steps o config_is ram_is items_is recs_is steps_is e = rw (steps_is, config_is, ram_is, items_is, recs_is) at e

pub some_made : (l : NamedData) (name : List ℕ) (names : List (List ℕ)) (x : LaunchData) (o : Option LaunchData) → name ≡ l.name → names ≡ l.item_names
    → o ≡ cond (is_launch l.launch) (Some l.launch) None → o ≡ Some x
    → made l ≡ Ok (record { name = name; launch = x; item_names = names })
some_made l name names x o named items e there = go (is_launch l.launch) (sym there ∙ e)
  where
    go : (b : Bool) → Some x ≡ cond b (Some l.launch) None → cond b (Ok l) (Err BadStep) ≡ Ok (record { name = name; launch = x; item_names = names })
    go true same = let launch : x ≡ l.launch = cc in ap Ok (sym (λ i. record { name = named i; launch = launch i; item_names = items i }))
    go false same = cc

pub none_made : (l : NamedData) (o : Option LaunchData) → o ≡ cond (is_launch l.launch) (Some l.launch) None → o ≡ None → made l ≡ Err BadStep
none_made l o e there = go (is_launch l.launch) (sym there ∙ e)
  where
    go : (b : Bool) → None ≡ cond b (Some l.launch) None → cond b (Ok l) (Err BadStep) ≡ Err BadStep
    go true same = cc
    go false same = refl

-- ---- launches, one after another

pub read_made : (l x : NamedData) → made l ≡ Ok x → (x ≡ l) × (is_launch x.launch ≡ true)
read_made l x e = go (is_launch l.launch) refl e
  where
    go : (b : Bool) → is_launch l.launch ≡ b → cond b (Ok l) (Err BadStep) ≡ Ok x → (x ≡ l) × (is_launch x.launch ≡ true)
    go true t h = let same : x ≡ l = cc in (same, ap (λ (m : NamedData). is_launch m.launch) same ∙ t)
    go false t h = cc

all_with_last : (p : NamedData → Bool) (ls : List NamedData) (l : NamedData) → list_all p ls ≡ true → p l ≡ true → list_all p (ls ++ l ∷ []) ≡ true
all_with_last p [] l e h = rw h refl
all_with_last p (m ∷ ls) l e h = let parts = and_parts (p m) (list_all p ls) e in rw parts.0 (all_with_last p ls l parts.1 h)

pub made_step : (ls after : List NamedData) (l : NamedData) → list_all (λ (m : NamedData). is_launch m.launch) ls ≡ true → is_launch l.launch ≡ true
    → after ≡ ls ++ l ∷ []
    → list_all (λ (m : NamedData). is_launch m.launch) after ≡ true
made_step ls after l so_far one pushed =
    ap (list_all (λ (m : NamedData). is_launch m.launch)) pushed ∙ all_with_last (λ (m : NamedData). is_launch m.launch) ls l so_far one

pub made_all : (ls wanted : List NamedData) → ls ≡ wanted → list_all (λ (m : NamedData). is_launch m.launch) ls ≡ true → all_made wanted ≡ Ok ls
made_all ls wanted same all = rw (← same, all) refl

not_all : (version : FormatVersion) (files : List Data) (n : ℕ) (vs : List Value) (i : ℕ) (v : Value) → i < length vs → v ≡ get_or vs i v
    → is_launch (launch_of version files (n + i) (view v)).launch ≡ false
    → list_all (λ (l : NamedData). is_launch l.launch) (launches_from version files n (map view vs)) ≡ false
not_all version files n [] i v h at e = absurd (omega arith)
not_all version files n (w ∷ vs) zero v h at e =
    let place : n + 0 ≡ n = omega arith in
    let first : is_launch (launch_of version files n (view w)).launch ≡ false =
    ap (λ u. is_launch (launch_of version files n (view u)).launch) (sym at)
    ∙ ap (λ k. is_launch (launch_of version files k (view v)).launch) (sym place) ∙ e in
    rw first refl
not_all version files n (w ∷ vs) (suc i) v h at e =
    let place : n + 1 + i ≡ n + suc i = omega arith in
    rw (not_all version files (n + 1) vs i v (omega arith) at (ap (λ k. is_launch (launch_of version files k (view v)).launch) place ∙ e)) (and-false _)

pub one_not_made : (version : FormatVersion) (files : List Data) (vs : List Value) (i : ℕ) (v : Value) (f : ManifestFault) → i < length vs
    → v ≡ get_or vs i v → made (launch_of version files i (view v)) ≡ Err f
    → all_made (launches_from version files 0 (map view vs)) ≡ Err f
one_not_made version files vs i v f h at e = go (is_launch (launch_of version files i (view v)).launch) refl e
  where
    go : (b : Bool) → is_launch (launch_of version files i (view v)).launch ≡ b → cond b (Ok (launch_of version files i (view v))) (Err BadStep) ≡ Err f
        → all_made (launches_from version files 0 (map view vs)) ≡ Err f
    go true t same = cc
    go false t same =
        let place : 0 + i ≡ i = omega arith in
        rw (not_all version files 0 vs i v h at (ap (λ k. is_launch (launch_of version files k (view v)).launch) place ∙ t))
        (let fault : BadStep ≡ f = cc in ap Err fault)
