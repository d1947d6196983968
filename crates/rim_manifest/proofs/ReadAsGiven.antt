-- What is read of a manifest without faults is what the manifest gives.
use Rattle.std.proofs.Common.{◌≡◌, ◌≤◌, ℕ, zero, suc, ◌+◌, List, [], ◌∷◌, length, drop, map, Bool, true, false, not, ◌&&◌, Option, Some, None, Ok, pos, refl}
use Rattle.std.proofs.Common.{ap, sym, subst, ◌∙◌, codes, true≢false}
use Rattle.std.specs.Prelude.{IsSome, is_some, position, slice_get, unwrap_or}
use Rattle.std.specs.List.{AllByRecursion, flat_map, list_all, list_any}
use Rattle.std.proofs.lemmas.Slice.Eq.{bytes_eq-Decides}
use Rattle.std.proofs.lemmas.Bool.{and_parts, or_parts, not-false}
use Rattle.toml.specs.Data.{Data, string, integer, array, table, Members, get, get_member}
use Rattle.rim_desc.specs.declared.rule.RecRule.{RecRule}
use Rattle.rim_launch.specs.declared.rec.Rec.{Rec}
use Rattle.rim_manifest.specs.declared.fault.ManifestFault.{ManifestFault}
use Rattle.rim_manifest.specs.declared.fault.ManifestFault.TheVariants.{BadStep, NoSuchFile, TwoNames}
use Rattle.rim_rules.specs.declared.form.Form.TheVariants as form
use Rattle.rim_rules.specs.declared.form.Presence.TheVariants.{Optional}
use Rattle.rim_manifest.specs.Faults.{fault_if, lowest}
use Rattle.rim_rules.specs.Forms.{is_table, items_list}
use Rattle.rim_manifest.specs.Given.{EachGives, GivesBootargs, GivesBytes, GivesFile, GivesItem, GivesKind, GivesMeasured, GivesName}
use Rattle.rim_manifest.specs.Given.{GivesNumber, GivesPath, GivesRec}
use Rattle.rim_manifest.specs.Given.{GivesRule, GivesSize, GivesSteps, GivesWord, GivesWords, HasItsRule, IsGiven}
use Rattle.rim_manifest.specs.Launches.{ReleaseData, config_of, items_of, ram_of, recs_of, launch_of, launches_from, rec_of, number_of}
use Rattle.rim_rules.specs.Values.{algorithm_in, array_at, base_in, digits_in, number_in, text_in, word_in, words_in}
use Rattle.rim_manifest.specs.Manifest.{fault_or_named, fault_or_release, files_at, has_no_file, has_two_names, item_faults, launch_faults, launches_at}
use Rattle.rim_manifest.specs.Manifest.{manifest_faults, name_faults, path_of, read_of, release_of}
use Rattle.rim_manifest.specs.Checks.{rule_faults, ruled_faults, table_faults}
use Rattle.rim_launch.specs.Kinds.{file_of}
use Rattle.rim_launch.specs.Steps.{each_once, steps_complete}
use Rattle.rim_launch.specs.declared.conditions.StepTarget.{StepTarget}
use Rattle.rim_launch.specs.declared.conditions.StepTarget.TheVariants as part
use Rattle.rim_manifest.specs.StepTexts.{has_bad_steps, is_miscounted, is_misnamed, misnames, step_in, steps_in}
use Rattle.rim_manifest.proofs.StepsAsSpelled.{texts_given}
use Rattle.rim_launch.specs.declared.item.Role.{Role}
use Rattle.rim_launch.specs.declared.item.Role.TheVariants.{Kernel, Initrd, Dtb, Raw, Unknown}
use Rattle.rim_rules.specs.Items.{bootargs_in, item_of, kind_of, measured_for, size_for}
use Rattle.rim_rules.specs.Names.{file_at, has_file, is_named, lacks_file, lacks_its_file, name_of, needs_file, role_at}
use Rattle.rim_rules.specs.Kinds.{kind_word, rules_of}
use Rattle.rim_rules.specs.Rules.{added_rules, dtb_rules, file_rules, item_rules, launch_rules, launch_rules_2, rec_rules, unknown_rules, number_rule}
use Rattle.rim_desc.specs.Numbers.{Number, rmm_1_0}
use Rattle.rim_rules.specs.Versions.{is_not_runnable, lacks_rule, rule_for, rule_in, launch_rules_in, version_at}
use Rattle.rim_rules.specs.declared.version.FormatVersion.{FormatVersion}
use Rattle.rim_rules.specs.declared.version.FormatVersion.TheVariants.{One, Two}
use Rattle.rim_manifest.proofs.TablesWithoutFaults.{all_first, all_tables, each_value, empty_parts, few_regions, good_launch, good_top, good_value}
use Rattle.rim_manifest.proofs.TablesWithoutFaults.{not_faulty, not_given}
use Rattle.rim_rules.proofs.ItemsFromTables.{found_there, role_of-kind}
use Rattle.rim_rules.proofs.ListsOfValues.{list_any_map}
use Rattle.rim_manifest.proofs.LowestFault.{none_noted}
use Rattle.rim_desc.specs.Measurement.{algo_word}
use Rattle.rim_manifest.proofs.ValuesAsGiven.{NoFault, algorithm_read, base_read, bootargs_read, bytes_read, given, name_there, number_given, number_there}
use Rattle.rim_manifest.proofs.ValuesAsGiven.{regions_given, role_there, rule_read, size_given, size_there, text_there, there, truth_given, word_read}
use Rattle.rim_manifest.proofs.ValuesAsGiven.{words_read}

-- ---- rules for RECs

-- version 1 gives none, since its launches have no such key
rule_given : (v : FormatVersion) (ms : Members) → table_faults (launch_rules_in v) ms ≡ []
    → GivesRule v (get_member (codes "rec_rule") ms) (rule_for v (get_member (codes "rec_rule") ms))
rule_given One ms e = (not_given launch_rules (codes "rec_rule") ms refl e, refl)
rule_given Two ms e =
    given form.RecRule (λ o. GivesRule Two o (rule_in o)) tt rule_read (get_member (codes "rec_rule") ms)
    (all_first (λ r. rule_faults r ms ≡ []) launch_rules added_rules (each_value launch_rules_2 ms e)).1.0

has_rule : (b : Bool) (o : Option Data) (rule : Option RecRule) → GivesRule Two o rule → (b && not (is_some o)) ≡ false → b ≡ true → IsSome rule
has_rule true (Some d) (Some rule) gives e any = refl
has_rule true (Some d) None gives e any = absurd gives
has_rule true None rule gives e any = cc
has_rule false o rule gives e any = cc

-- what is said of the RECs' tables is said of the RECs
none_without : (v : FormatVersion) (files : List Data) (n : ℕ) (ms : Members) → table_faults (launch_rules_in v) ms ≡ []
    → lacks_rule v (table ms) ≡ false → HasItsRule v (launch_of v files n (table ms)).launch
unfolding config_of
none_without One files n ms own ruled = tt
none_without Two files n ms own ruled = λ any.
    let recs = array_at (codes "rec") (table ms) in
    has_rule (list_any is_not_runnable recs) (get_member (codes "rec_rule") ms) _ (rule_given Two ms own) ruled
    (sym (list_any_map (λ (r : Rec). not r.runnable) rec_of recs) ∙ any)

-- ---- lists of tables, each without faults

rec_given : (d : Data) → is_table d ≡ true → ruled_faults rec_rules d ≡ [] → GivesRec d (rec_of d)
rec_given (table ms) t e =
    let each = each_value rec_rules ms e in
    record {
      pc = given form.Word (λ o. GivesWord o (word_in o)) tt word_read (get_member (codes "pc") ms) each.0;
      x = given (form.Words 8) (λ o. GivesWords o (words_in o)) tt (words_read 8) (get_member (codes "x") ms) each.1.0;
      runnable = truth_given true _ each.1.1.0;
    }
rec_given _ t e = cc

tables_given : {X : Type 0} (Gives : Data → X → Type 0) (f : Data → X) (faults : Data → List ManifestFault)
    → ((d : Data) → is_table d ≡ true → faults d ≡ [] → Gives d (f d))
    → (ds : List Data) → list_all is_table ds ≡ true → flat_map faults ds ≡ [] → EachGives Gives ds (map f ds)
tables_given Gives f faults each [] tables e = tt
tables_given Gives f faults each (d ∷ ds) tables e =
    let shapes = and_parts (is_table d) (list_all is_table ds) tables in
    let parts = empty_parts (faults d) (flat_map faults ds) e in
    (each d shapes.0 parts.0, tables_given Gives f faults each ds shapes.1 parts.1)

-- ---- files and items

path_given : (d : Data) → is_table d ≡ true → ruled_faults file_rules d ≡ [] → GivesPath d (path_of d)
path_given (table ms) t e = text_there form.Text (λ d. refl) _ (each_value file_rules ms e).1.0
path_given _ t e = cc

-- an item of each kind has a name
name_given : (d : Data) → is_table d ≡ true → item_faults d ≡ [] → GivesName d (name_of d)
name_given (table ms) t e = named (role_at (table ms)) e
  where
    named : (r : Role) → table_faults (rules_of r) ms ≡ [] → GivesName (table ms) (name_of (table ms))
    named Kernel e = name_there _ (each_value item_rules ms e).0
    named Initrd e = name_there _ (each_value item_rules ms e).0
    named Raw e = name_there _ (each_value item_rules ms e).0
    named Dtb e = name_there _ (each_value dtb_rules ms e).0
    named Unknown e = name_there _ (each_value unknown_rules ms e).0
name_given _ t e = cc

first_of_four : (a b c d : Bool) → (a && b && c && d) ≡ true → a ≡ true
first_of_four true b c d e = refl
first_of_four false b c d e = cc

-- the files, each without faults
module _ (files : List Data) (tables : list_all is_table files ≡ true) (good : flat_map (ruled_faults file_rules) files ≡ []) where
  at_place : (fs : List Data) (n : ℕ) (f : Data) → list_all is_table fs ≡ true → flat_map (ruled_faults file_rules) fs ≡ []
      → slice_get fs n ≡ Some f → get (codes "name") f ≡ Some (string (name_of f))
  at_place [] n f t e found = cc
  at_place (table ms ∷ fs) zero f t e found =
      let same : table ms ≡ f = cc in
      subst (λ d. get (codes "name") d ≡ Some (string (name_of d))) same
      (name_there _ (each_value file_rules ms (empty_parts (table_faults file_rules ms) _ e).0).0)
  at_place (_ ∷ fs) zero f t e found = cc
  at_place (g ∷ fs) (suc n) f t e found =
      at_place fs n f (and_parts (is_table g) (list_all is_table fs) t).1 (empty_parts (ruled_faults file_rules g) _ e).1 found

  file_given : (name : List ℕ) → list_any (is_named name) files ≡ true
      → GivesFile files (Some (string name)) (Some (unwrap_or (position (is_named name) files) 0))
  file_given name any =
      let found = found_there (is_named name) files any in
      let named : name_of found.0 ≡ name = (bytes_eq-Decides (name_of found.0) name).0 found.2 in
      (found.0, found.1, at_place files _ found.0 tables good found.1 ∙ ap (λ n. Some (string n)) named)

  -- what an item's table gives but for the edits of a devicetree
  abbrev ItemGives : Role → Members → Type 0
  ItemGives r ms =
      (get_member (codes "kind") ms ≡ Some (string (kind_word (role_at (table ms)))))
      × (get_member (codes "at") ms ≡ Some (integer (pos (number_in 0 9223372036854775807 0 (get_member (codes "at") ms)))))
      × GivesFile files (get_member (codes "file") ms) (file_of (kind_of r (file_at files (table ms)) (table ms)))
      × GivesSize (get_member (codes "size") ms) (size_for r (get_member (codes "size") ms))
      × GivesMeasured (kind_of r (file_at files (table ms)) (table ms)) (get_member (codes "measured") ms) (measured_for r (get_member (codes "measured") ms))

  -- an item whose content is known, of whichever kind it is
  known_gives : (ms : Members) → AllByRecursion (λ rule. rule_faults rule ms ≡ []) item_rules → not (has_file files (table ms)) ≡ false
      → ItemGives Raw ms
  known_gives ms each found =
      let name = text_there form.AnyText (λ d. refl) (get_member (codes "file") ms) each.1.1.0 in
      let file = file_given (text_in (get_member (codes "file") ms)) (not-false (has_file files (table ms)) found) in (
        role_there _ each.1.0,
        number_there 0 9223372036854775807 0 _ each.1.1.1.0,
        subst (λ o. GivesFile files o (Some (file_at files (table ms)))) (sym name) file,
        size_given _ each.1.1.1.1.0,
        truth_given true _ each.1.1.1.1.1.0,
      )

  item_gives : (r : Role) (ms : Members) → table_faults (rules_of r) ms ≡ [] → (needs_file r && not (has_file files (table ms))) ≡ false
      → ItemGives r ms
  item_gives Kernel ms e found = known_gives ms (each_value item_rules ms e) found
  item_gives Initrd ms e found = known_gives ms (each_value item_rules ms e) found
  item_gives Raw ms e found = known_gives ms (each_value item_rules ms e) found
  item_gives Dtb ms e found =
      let edits = drop (length item_rules) dtb_rules in
      known_gives ms (all_first (λ rule. rule_faults rule ms ≡ []) item_rules edits (each_value dtb_rules ms e)).0 found
  item_gives Unknown ms e found =
      let each = each_value unknown_rules ms e in (
        role_there _ each.1.0,
        number_there 0 9223372036854775807 0 _ each.1.1.0,
        rw (not_given unknown_rules (codes "file") ms refl e) tt,
        (size_there _ each.1.1.1.0).1,
        (not_given unknown_rules (codes "measured") ms refl e, refl),
      )

  kind_given : (r : Role) (file : ℕ) (ms : Members) → table_faults (rules_of r) ms ≡ [] → GivesKind (table ms) (kind_of r file (table ms))
  kind_given Dtb file ms e =
      let each = (each_value dtb_rules ms e).1.1.1.1.1.1 in
      record {
        bootargs = given form.Bootargs (λ o. GivesBootargs o (bootargs_in o)) tt bootargs_read (get_member (codes "bootargs") ms) each.0;
        initrd = truth_given false _ each.1.0;
        memory = truth_given false _ each.1.1.0;
      }
  kind_given Kernel file ms e = tt
  kind_given Initrd file ms e = tt
  kind_given Raw file ms e = tt
  kind_given Unknown file ms e = (size_there _ (each_value unknown_rules ms e).1.1.1.0).0

  item_given : (d : Data) → is_table d ≡ true → item_faults d ≡ [] → lacks_its_file files d ≡ false → GivesItem files d (item_of files d)
  unfolding item_of
  item_given (table ms) t e found =
      let r = role_at (table ms) in
      let gives = item_gives r ms e found in
      record {
        role = gives.0 ∙ ap (λ r. Some (string (kind_word r))) (sym (role_of-kind r (file_at files (table ms)) (table ms)));
        file = gives.2;
        kind = kind_given r (file_at files (table ms)) ms e;
        at = gives.1;
        size = gives.3;
        measured = gives.4;
      }
  item_given _ t e found = cc

  items_given : (ds : List Data) → list_all is_table ds ≡ true → flat_map item_faults ds ≡ [] → list_any (lacks_its_file files) ds ≡ false
      → EachGives (GivesItem files) ds (map (item_of files) ds)
  items_given [] t e found = tt
  items_given (d ∷ ds) t e found =
      let shapes = and_parts (is_table d) (list_all is_table ds) t in
      let parts = empty_parts (item_faults d) (flat_map item_faults ds) e in
      let files_found = or_parts (lacks_its_file files d) (list_any (lacks_its_file files) ds) found in
      (item_given d shapes.0 parts.0 files_found.0, items_given ds shapes.1 parts.1 files_found.1)

  -- the steps, given or not
  steps_given : (v : FormatVersion) (d : Data) (n : ℕ) (o : Option Data) → length (array_at (codes "ram") d) ≤ 64
      → NoFault form.Texts Optional o → misnames d o ≡ false
      → GivesSteps (array_at (codes "item") d) o
      (record (launch_of v files n d).launch { steps = steps_in (length (ram_of d)) (array_at (codes "item") d) (items_of files d) (length (recs_of d)) o })
  steps_given v d n None few e fits = refl
  steps_given v d n (Some (array ds)) few e fits =
      let items = array_at (codes "item") d in
      let regions = length (array_at (codes "ram") d) in
      let recs = length (array_at (codes "rec") d) in
      let steps = map (step_in items) (items_list ds) in
      let complete = not-false (steps_complete regions (length items) recs steps) fits in
      let once = λ (target : StepTarget) (n : ℕ). each_once target steps n in
      let named = first_of_four _ (once part.Ram regions) (once part.Item (length items)) (once part.Rec recs) complete in
      texts_given items regions (length items) recs (items_list ds) few (good_value form.Texts (array ds) e).kind named
  steps_given v d n (Some d') few e fits = absurd (true≢false (sym (good_value form.Texts d' e).kind))

  -- ---- launches

  numbers_given : (rows : List Number) (ms : Members) → AllByRecursion (λ r. rule_faults r ms ≡ []) (map number_rule rows)
      → AllByRecursion (λ row. GivesNumber 0 (get_member row.name ms) (number_of (table ms) row)) rows
  numbers_given [] ms e = tt
  numbers_given (row ∷ rows) ms e = (number_given 0 row.most 0 _ e.0, numbers_given rows ms e.1)

  launch_given : (v : FormatVersion) (n : ℕ) (d : Data) → is_table d ≡ true → launch_faults v d ≡ [] → lacks_file files d ≡ false
      → is_misnamed d ≡ false → IsGiven v files d (launch_of v files n d)
  unfolding config_of
  launch_given v n (table ms) t e found fits =
      let whole = good_launch v ms e in
      let each = whole.launch in
      let rest = whole.rest.1.1.1 in
      let items = all_tables (codes "item") Optional 64 (get_member (codes "item") ms) rest.1.1.1.0 in
      let recs = all_tables (codes "rec") Optional 1024 (get_member (codes "rec") ms) rest.1.1.1.1.0 in
      let few = few_regions (codes "ram") Optional 64 _ rest.1.1.0 in
      record {
        name = name_there _ each.0;
        algo = there form.Algorithm (λ o. o ≡ Some (string (algo_word (algorithm_in o)))) algorithm_read (get_member (codes "algo") ms) each.1.0;
        s2sz = number_there 32 48 32 _ each.1.1.0;
        sve = truth_given false _ each.1.1.1.0;
        pmu = truth_given false _ each.1.1.1.1.0;
        numbers = numbers_given rmm_1_0 ms whole.numbers;
        rpv = given (form.Digits 128) (λ o. GivesBytes o (digits_in o)) refl bytes_read (get_member (codes "rpv") ms) whole.rest.0;
        block_level = number_given 0 3 2 _ whole.rest.1.0;
        num_aux = number_given 0 16 0 _ whole.rest.1.1.0;
        rec_rule = rule_given v ms whole.own;
        pool_base = given form.PoolBase (λ o. GivesNumber 0x800000000 o (base_in o)) refl base_read (get_member (codes "pool_base") ms) rest.0;
        pool_count = number_given 1 16777216 16777216 _ rest.1.0;
        ram = regions_given 64 _ rest.1.1.0;
        items = items_given (array_at (codes "item") (table ms)) items whole.items found;
        recs = tables_given GivesRec rec_of (ruled_faults rec_rules) rec_given (array_at (codes "rec") (table ms)) recs whole.recs;
        ruled = none_without v files n ms whole.own whole.ruled;
        steps = steps_given v (table ms) n (get_member (codes "steps") ms) few rest.1.1.1.1.1.0 fits;
        item_names = tables_given GivesName name_of item_faults name_given (array_at (codes "item") (table ms)) items whole.items;
      }
  launch_given v n _ t e found fits = cc

  launches_given : (v : FormatVersion) (n : ℕ) (ds : List Data) → list_all is_table ds ≡ true → flat_map (launch_faults v) ds ≡ []
      → list_any (lacks_file files) ds ≡ false → list_any is_misnamed ds ≡ false → EachGives (IsGiven v files) ds (launches_from v files n ds)
  launches_given v n [] t e found fits = tt
  launches_given v n (d ∷ ds) t e found fits =
      let shapes = and_parts (is_table d) (list_all is_table ds) t in
      let parts = empty_parts (launch_faults v d) (flat_map (launch_faults v) ds) e in
      let each = or_parts (lacks_file files d) (list_any (lacks_file files) ds) found in
      let steps = or_parts (is_misnamed d) (list_any is_misnamed ds) fits in
      (launch_given v n d shapes.0 parts.0 each.0 steps.0, launches_given v (n + 1) ds shapes.1 parts.1 each.1 steps.1)

-- ---- the document

abbrev AllGiven : Members → ReleaseData → Type 0
AllGiven ms r = EachGives GivesPath (files_at ms) r.paths × EachGives (IsGiven (version_at ms) (files_at ms)) (launches_at ms) r.launches

faultless : (ms : Members) → manifest_faults ms ≡ [] → name_faults ms ≡ [] → AllGiven ms (release_of ms)
unfolding name_faults
faultless ms e named =
    let good = good_top ms e in
    let files = all_tables (codes "file") Optional 64 (get_member (codes "file") ms) good.top.1.1.0 in
    let launches = all_tables (codes "launch") Optional 1024 (get_member (codes "launch") ms) good.top.1.0 in
    let after_names = (empty_parts (fault_if (has_two_names ms) TwoNames) _ named).1 in
    let found = not_faulty (has_no_file ms) NoSuchFile (empty_parts (fault_if (has_no_file ms) NoSuchFile) _ after_names).0 in
    let steps = not_faulty (has_bad_steps (launches_at ms)) BadStep (empty_parts (fault_if (has_no_file ms) NoSuchFile) _ after_names).1 in
    let fits = (or_parts (list_any is_miscounted (launches_at ms)) (list_any is_misnamed (launches_at ms)) steps).1 in (
      tables_given GivesPath path_of (ruled_faults file_rules) path_given (files_at ms) files good.files,
      launches_given (files_at ms) files good.files (version_at ms) 0 (launches_at ms) launches good.launches found fits,
    )

pub accepted_as_given : (ms : Members) (r : ReleaseData) → read_of ms ≡ Ok r → AllGiven ms r
accepted_as_given ms r h = of_tables (lowest (manifest_faults ms)) refl h
  where
    of_names : (o : Option ManifestFault) → manifest_faults ms ≡ [] → lowest (name_faults ms) ≡ o → fault_or_release ms o ≡ Ok r → AllGiven ms r
    of_names (Some g) none found e = cc
    of_names None none found e =
        let same : release_of ms ≡ r = cc in
        subst (AllGiven ms) same (faultless ms none (none_noted (name_faults ms) found))

    of_tables : (o : Option ManifestFault) → lowest (manifest_faults ms) ≡ o → fault_or_named ms o ≡ Ok r → AllGiven ms r
    of_tables (Some g) found e = cc
    of_tables None found e = of_names (lowest (name_faults ms)) (none_noted (manifest_faults ms) found) refl e
