-- What not-false of the values of a table, where no fault not-false.
use Rattle.std.proofs.Common.{◌≡◌, ℕ, ◌≤◌, List, [], ◌∷◌, ◌++◌, length, Bool, true, false, cond, not, Option, Some, None, Ordering, Less, Equal, Greater, refl}
use Rattle.std.proofs.Common.{◌+◌, map, drop, ap, sym, ◌∙◌, codes, true≢false, arith}
use Rattle.std.specs.Prelude.{nat_lt}
use Rattle.std.specs.List.{AllByRecursion, flat_map, list_all}
use Rattle.std.specs.Ordering.{nat_cmp, match_ordering}
use Rattle.std.specs.Cmp.Lexicographic.{slice_cmp}
use Rattle.std.proofs.lemmas.Bool.{ltb-false, or_parts, not-false}
use Rattle.std.proofs.lemmas.Map.Lookups.{exact_bytes}
use Rattle.toml.specs.Data.{Data, array, table, Members, no_members, member, get_member}
use Rattle.rim_manifest.specs.declared.fault.ManifestFault.{ManifestFault}
use Rattle.rim_manifest.specs.declared.fault.ManifestFault.TheVariants.{Limit, MissingKey, Range, UnknownKey, Version, WrongKind}
use Rattle.rim_rules.specs.declared.form.Form.{Form}
use Rattle.rim_rules.specs.declared.form.Form.TheVariants as form
use Rattle.rim_rules.specs.declared.form.Presence.{Presence}
use Rattle.rim_manifest.specs.Faults.{fault_if}
use Rattle.rim_rules.specs.Forms.{has_kind, is_over, is_table, is_within, items_in, items_list}
use Rattle.rim_manifest.specs.Manifest.{files_at, item_faults, launch_faults, launches_at, manifest_faults}
use Rattle.rim_rules.specs.Names.{has_asked}
use Rattle.rim_rules.specs.Values.{array_at}
use Rattle.rim_manifest.specs.Checks.{cell_faults, has_unknown_key, is_known, rule_faults, ruled_faults, table_faults, value_faults}
use Rattle.rim_desc.specs.Numbers.{rmm_1_0}
use Rattle.rim_rules.specs.Rules.{Rule, added_rules, file_rules, launch_rules, launch_rules_2, number_rule, rec_rules, top_rules}
use Rattle.rim_rules.specs.Versions.{has_version, lacks_rule, launch_rules_in, version_at}
use Rattle.rim_rules.specs.declared.version.FormatVersion.{FormatVersion}
use Rattle.rim_rules.specs.declared.version.FormatVersion.TheVariants.{One, Two}

-- ---- lists of faults that are empty

pub empty_parts : {X : Type 0} (xs ys : List X) → xs ++ ys ≡ [] → (xs ≡ []) × (ys ≡ [])
empty_parts [] ys e = (refl, e)
empty_parts (x ∷ xs) ys e = cc

pub all_first : {X : Type 0} (P : X → Type 0) (xs ys : List X) → AllByRecursion P (xs ++ ys) → AllByRecursion P xs × AllByRecursion P ys
all_first P [] ys e = (tt, e)
all_first P (x ∷ xs) ys e = let rest = all_first P xs ys e.1 in ((e.0, rest.0), rest.1)

pub each_empty : {X Y : Type 0} (f : X → List Y) (xs : List X) → flat_map f xs ≡ [] → AllByRecursion (λ x. f x ≡ []) xs
each_empty f [] e = tt
each_empty f (x ∷ xs) e = let parts = empty_parts (f x) (flat_map f xs) e in (parts.0, each_empty f xs parts.1)

pub not_faulty : (b : Bool) (f : ManifestFault) → fault_if b f ≡ [] → b ≡ false
not_faulty false f e = refl
not_faulty true f e = cc

-- ---- the value at a key

pub record IsGood (f : Form) (d : Data) : Type 0 where
  pub kind : has_kind f d ≡ true
  pub few : is_over f d ≡ false
  pub within : is_within f d ≡ true

pub good_value : (f : Form) (d : Data) → cond (has_kind f d) (value_faults f d) (WrongKind ∷ []) ≡ [] → IsGood f d
good_value f d e = go (has_kind f d) refl e
  where
    go : (b : Bool) → has_kind f d ≡ b → cond b (value_faults f d) (WrongKind ∷ []) ≡ [] → IsGood f d
    go true k h =
        let parts = empty_parts (fault_if (is_over f d) Limit) _ h in
        record { kind = k; few = not_faulty (is_over f d) Limit parts.0; within = not-false (is_within f d) (not_faulty (not (is_within f d)) Range parts.1) }
    go false k h = cc

-- an array of tables has no more members than its form allows
not_over : (most n : ℕ) → nat_lt most n ≡ false → n ≤ most
not_over most n e = ltb-false most n e

pub few_tables : (key : List ℕ) (p : Presence) (most : ℕ) (o : Option Data) → cell_faults (record { key = key; form = form.Tables most; presence = p }) o ≡ []
    → length (items_in o) ≤ most
few_tables key p most None e = omega arith
few_tables key p most (Some (array ds)) e = not_over most (length (items_list ds)) (good_value (form.Tables most) (array ds) e).few
few_tables key p most (Some d) e = absurd (true≢false (sym (good_value (form.Tables most) d e).kind))

pub all_tables : (key : List ℕ) (p : Presence) (most : ℕ) (o : Option Data) → cell_faults (record { key = key; form = form.Tables most; presence = p }) o ≡ []
    → list_all is_table (items_in o) ≡ true
all_tables key p most None e = refl
all_tables key p most (Some (array ds)) e = (good_value (form.Tables most) (array ds) e).kind
all_tables key p most (Some d) e = refl

pub few_regions : (key : List ℕ) (p : Presence) (most : ℕ) (o : Option Data) → cell_faults (record { key = key; form = form.Regions most; presence = p }) o ≡ []
    → length (items_in o) ≤ most
few_regions key p most None e = omega arith
few_regions key p most (Some (array ds)) e = not_over most (length (items_list ds)) (good_value (form.Regions most) (array ds) e).few
few_regions key p most (Some d) e = absurd (true≢false (sym (good_value (form.Regions most) d e).kind))

-- ---- the tables

-- the values at the keys of a table that has no fault
pub each_value : (rs : List Rule) (ms : Members) → table_faults rs ms ≡ [] → AllByRecursion (λ r. rule_faults r ms ≡ []) rs
each_value rs ms e = each_empty (λ r. rule_faults r ms) rs (empty_parts (fault_if (has_unknown_key rs ms) UnknownKey) _ e).1

-- a key without a rule is in no table without faults
not_this_key : (rs : List Rule) (k l : List ℕ) (d : Data) (ms : Members) → is_known rs k ≡ false → is_known rs l ≡ true → get_member k ms ≡ None
    → get_member k (member l d ms) ≡ None
not_this_key rs k l d ms other known rest = go (slice_cmp nat_cmp k l) refl
  where
    go : (o : Ordering) → slice_cmp nat_cmp k l ≡ o → match_ordering o (get_member k ms) (Some d) (get_member k ms) ≡ None
    go Less order = rest
    go Equal order = absurd (true≢false (sym known ∙ ap (is_known rs) (sym (exact_bytes k l order)) ∙ other))
    go Greater order = rest

no_other_key : (rs : List Rule) (k : List ℕ) (ms : Members) → is_known rs k ≡ false → has_unknown_key rs ms ≡ false → get_member k ms ≡ None
no_other_key rs k no_members other e = refl
no_other_key rs k (member l d ms) other e =
    let parts = or_parts (not (is_known rs l)) (has_unknown_key rs ms) e in
    not_this_key rs k l d ms other (not-false (is_known rs l) parts.0) (no_other_key rs k ms other parts.1)

pub not_given : (rs : List Rule) (k : List ℕ) (ms : Members) → is_known rs k ≡ false → table_faults rs ms ≡ [] → get_member k ms ≡ None
not_given rs k ms other e =
    no_other_key rs k ms other (not_faulty (has_unknown_key rs ms) UnknownKey (empty_parts (fault_if (has_unknown_key rs ms) UnknownKey) _ e).0)

pub record TopIsGood (ms : Members) : Type 0 where
  pub top : AllByRecursion (λ r. rule_faults r ms ≡ []) top_rules
  pub files : flat_map (ruled_faults file_rules) (files_at ms) ≡ []
  pub launches : flat_map (launch_faults (version_at ms)) (launches_at ms) ≡ []

pub good_top : (ms : Members) → manifest_faults ms ≡ [] → TopIsGood ms
unfolding manifest_faults
good_top ms e =
    let after_version = empty_parts (fault_if (not (has_version (get_member (codes "rim_manifest") ms))) Version) _ e in
    let after_top = empty_parts (table_faults top_rules ms) _ after_version.1 in
    let after_files = empty_parts (flat_map (ruled_faults file_rules) (files_at ms)) _ after_top.1 in
    record { top = each_value top_rules ms after_top.0; files = after_files.0; launches = after_files.1 }

-- the keys of version 1 are in and_parts versions
rules_of_both : (v : FormatVersion) (ms : Members) → table_faults (launch_rules_in v) ms ≡ [] → AllByRecursion (λ r. rule_faults r ms ≡ []) launch_rules
rules_of_both One ms e = each_value launch_rules ms e
rules_of_both Two ms e = (all_first (λ r. rule_faults r ms ≡ []) launch_rules added_rules (each_value launch_rules_2 ms e)).0

pub record LaunchIsGood (v : FormatVersion) (ms : Members) : Type 0 where
  pub own : table_faults (launch_rules_in v) ms ≡ []
  pub launch : AllByRecursion (λ r. rule_faults r ms ≡ []) launch_rules
  pub numbers : AllByRecursion (λ r. rule_faults r ms ≡ []) (map number_rule rmm_1_0)
  -- of the keys after the numbers
  pub rest : AllByRecursion (λ r. rule_faults r ms ≡ []) (drop (5 + length rmm_1_0) launch_rules)
  pub items : flat_map item_faults (array_at (codes "item") (table ms)) ≡ []
  pub recs : flat_map (ruled_faults rec_rules) (array_at (codes "rec") (table ms)) ≡ []
  pub asked : has_asked (table ms) ≡ true
  pub ruled : lacks_rule v (table ms) ≡ false

pub good_launch : (v : FormatVersion) (ms : Members) → launch_faults v (table ms) ≡ [] → LaunchIsGood v ms
unfolding launch_faults
good_launch v ms e =
    let after_table = empty_parts (table_faults (launch_rules_in v) ms) _ e in
    let after_items = empty_parts (flat_map item_faults (array_at (codes "item") (table ms))) _ after_table.1 in
    let after_recs = empty_parts (flat_map (ruled_faults rec_rules) (array_at (codes "rec") (table ms))) _ after_items.1 in
    let after_asked = empty_parts (fault_if (not (has_asked (table ms))) MissingKey) _ after_recs.1 in
    let launch = rules_of_both v ms after_table.0 in
    let numbers = all_first (λ r. rule_faults r ms ≡ []) (map number_rule rmm_1_0) (drop (5 + length rmm_1_0) launch_rules) launch.1.1.1.1.1 in
    record {
      own = after_table.0;
      launch = launch;
      numbers = numbers.0;
      rest = numbers.1;
      items = after_items.0;
      recs = after_recs.0;
      asked = not-false (has_asked (table ms)) (not_faulty (not (has_asked (table ms))) MissingKey after_asked.0);
      ruled = not_faulty (lacks_rule v (table ms)) MissingKey after_asked.1;
    }
