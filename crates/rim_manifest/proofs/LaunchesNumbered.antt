-- Launches read one after another, each with its place as its number.
use Rattle.std.proofs.Common.{◌≡◌, ℕ, zero, suc, slice_get, refl, ◌+◌, ◌<◌, List, [], ◌∷◌, ◌++◌, length, get_or, take, map, Bool, true, false, cond, not, ◌&&◌}
use Rattle.std.proofs.Common.{codes, Some, None, ap, sym, ◌∙◌, arith}
use Rattle.std.proofs.lemmas.List.{length-map, length-take-le, map-append, take_more}
use Rattle.toml.specs.Data.{Data, get}
use Rattle.toml.specs.View.{view}
use Rattle.toml.specs.declared.value.Value.{Value}
use Rattle.rim_launch.specs.LaunchData.{has_files}
use Rattle.std.specs.List.{list_all, list_any}
use Rattle.std.proofs.lemmas.Bool.{lt-ltb, or_parts, not-false}
use Rattle.rim_launch.specs.Kinds.{file_of, is_below}
use Rattle.rim_rules.specs.Items.{item_of}
use Rattle.rim_rules.specs.Names.{file_at, has_file, is_named, lacks_file, lacks_its_file, needs_file, role_at}
use Rattle.rim_rules.specs.Values.{array_at, text_in}
use Rattle.rim_rules.proofs.ItemsFromTables.{file_of-kind, found_below}
use Rattle.rim_rules.specs.declared.version.FormatVersion.{FormatVersion}
use Rattle.rim_manifest.specs.Launches.{AreNumbered, NamedData, ReleaseData, launch_of, launches_from}

-- one more launch is read
launches_more : (v : FormatVersion) (files : List Data) (n : ℕ) (ds : List Data) (d : Data)
    → launches_from v files n (ds ++ d ∷ []) ≡ launches_from v files n ds ++ launch_of v files (n + length ds) d ∷ []
launches_more v files n [] d = ap (λ k. launch_of v files k d ∷ []) (omega arith)
launches_more v files n (e ∷ ds) d =
    let place : n + 1 + length ds ≡ n + length (e ∷ ds) = omega arith in
    ap (λ ls. launch_of v files n e ∷ ls) (launches_more v files (n + 1) ds d ∙ ap (λ k. launches_from v files (n + 1) ds ++ launch_of v files k d ∷ []) place)

-- the step of a loop that reads them
pub launches_step : (version : FormatVersion) (files : List Data) (vs : List Value) (i : ℕ) (v : Value) (ls after : List NamedData) (l : NamedData)
    → i < length vs → v ≡ get_or vs i v
    → ls ≡ launches_from version files 0 (map view (take i vs)) → l ≡ launch_of version files i (view v) → after ≡ ls ++ l ∷ []
    → after ≡ launches_from version files 0 (map view (take (i + 1) vs))
launches_step version files vs i v ls after l h at so_far read pushed =
    let place : i ≡ 0 + length (map view (take i vs)) = omega (arith, h, length-map (take i vs) view, length-take-le i vs (omega (arith, h))) in
    let one_more : map view (take (i + 1) vs) ≡ map view (take i vs) ++ view v ∷ [] =
    ap (map view) (take_more vs i v h ∙ ap (λ w. take i vs ++ w ∷ []) (sym at)) ∙ map-append view (take i vs) (v ∷ []) in
    pushed ∙ ap (λ ms. ms ++ l ∷ []) so_far
    ∙ ap (λ m. launches_from version files 0 (map view (take i vs)) ++ m ∷ []) (read ∙ ap (λ k. launch_of version files k (view v)) place)
    ∙ sym (ap (launches_from version files 0) one_more ∙ launches_more version files 0 (map view (take i vs)) (view v))

-- ---- the number of a launch is its place, and its files are those of the release

below_count : (files : List Data) (d : Data) (needed : Bool) → (needed && not (has_file files d)) ≡ false
    → is_below (length files) (cond needed (Some (file_at files d)) None) ≡ true
below_count files d true e =
    let below : file_at files d < length files = found_below (is_named (text_in (get (codes "file") d))) files (not-false (has_file files d) e) in
    lt-ltb _ _ below
below_count files d false e = refl

files_of_items : (files : List Data) (ds : List Data) → list_any (lacks_its_file files) ds ≡ false
    → list_all (λ i. is_below (length files) (file_of i.kind)) (map (item_of files) ds) ≡ true
unfolding item_of
files_of_items files [] e = refl
files_of_items files (d ∷ ds) e =
    let parts = or_parts (lacks_its_file files d) (list_any (lacks_its_file files) ds) e in
    rw (file_of-kind (role_at d) (file_at files d) d, below_count files d (needs_file (role_at d)) parts.0) (files_of_items files ds parts.1)

place : (v : FormatVersion) (files : List Data) (n : ℕ) (ds : List Data) (i : ℕ) (l : NamedData) → list_any (lacks_file files) ds ≡ false
    → slice_get (launches_from v files n ds) i ≡ Some l
    → (l.launch.number ≡ n + i) × (has_files l.launch (length files) ≡ true)
place v files n [] i l none e = cc
place v files n (d ∷ ds) zero l none e =
    let same : launch_of v files n d ≡ l = cc in
    let first : lacks_file files d ≡ false = (or_parts (lacks_file files d) (list_any (lacks_file files) ds) none).0 in (
      ap (λ (m : NamedData). m.launch.number) (sym same) ∙ omega arith,
      ap (λ (m : NamedData). has_files m.launch (length files)) (sym same) ∙ files_of_items files (array_at (codes "item") d) first,
    )
place v files n (d ∷ ds) (suc i) l none e =
    let rest = place v files (n + 1) ds i l (or_parts (lacks_file files d) (list_any (lacks_file files) ds) none).1 e in
    (rest.0 ∙ omega arith, rest.1)

pub are_numbered : (v : FormatVersion) (files ds : List Data) (r : ReleaseData) → list_any (lacks_file files) ds ≡ false → length r.paths ≡ length files
    → r.launches ≡ launches_from v files 0 ds → AreNumbered r
are_numbered v files ds r none paths e = λ i l there.
    let found = place v files 0 ds i l none (ap (λ ls. slice_get ls i) (sym e) ∙ there) in
    (found.0 ∙ omega arith, ap (has_files l.launch) paths ∙ found.1)
