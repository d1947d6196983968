-- The lowest of some faults: where it comes from, and what it is below.
use Rattle.std.proofs.Common.{◌≡◌, ℕ, ◌≤◌, ◌<◌, List, [], ◌∷◌, ◌++◌, length, zero, suc, Bool, true, false, cond, not, Option, Some, None, Err, refl, ap, ◌∙◌}
use Rattle.std.proofs.Common.{arith, ◌⊎◌, inl, inr, codes, sym}
use Rattle.std.specs.Prelude.{nat_le, Contains, slice_index_or}
use Rattle.std.specs.List.{AllByRecursion, flat_map}
use Rattle.std.proofs.lemmas.Bool.{leb-false, leb-true}
use Rattle.std.proofs.lemmas.List.Elements.{All-from_recursion, Contains-append_cases, Contains-append_left, Contains-append_right}
use Rattle.toml.specs.Data.{Data, Members, table, get_member}
use Rattle.rim_manifest.specs.declared.fault.ManifestFault.{ManifestFault}
use Rattle.rim_manifest.specs.declared.fault.ManifestFault.TheVariants.{Version, WrongKind, UnknownKey, MissingKey, Limit, Range, TwoNames, NoSuchFile, BadStep}
use Rattle.rim_manifest.specs.Faults.{IsLowest, fault_if, lower, lowest, noted, rank_of}
use Rattle.rim_rules.specs.Forms.{has_kind, is_over, is_required, is_within}
use Rattle.rim_rules.specs.Rules.{Rule, file_rules, rec_rules, top_rules}
use Rattle.rim_rules.specs.Versions.{has_version, lacks_rule, launch_rules_in, version_at}
use Rattle.rim_rules.specs.declared.version.FormatVersion.{FormatVersion}
use Rattle.rim_manifest.specs.Checks.{cell_faults, has_unknown_key, rule_faults, ruled_faults, table_faults}
use Rattle.rim_manifest.specs.Manifest.{all_faults, fault_or_named, fault_or_release, files_at, has_no_file, has_two_names, item_faults, launch_faults}
use Rattle.rim_manifest.specs.Manifest.{launches_at, manifest_faults, name_faults, name_faults_if, named_of, read_of}
use Rattle.rim_rules.specs.Kinds.{rules_of}
use Rattle.rim_rules.specs.Names.{has_asked, role_at}
use Rattle.rim_manifest.specs.StepTexts.{has_bad_steps}
use Rattle.rim_rules.specs.Values.{array_at}

-- f does not come after what was found so far
AtLeast : ManifestFault → Option ManifestFault → Type 0
AtLeast f None = Unit {0}
AtLeast f (Some g) = rank_of f ≤ rank_of g

-- f does not come after any of the faults
NotBehind : ManifestFault → List ManifestFault → Type 0
NotBehind f fs = AllByRecursion (λ g. rank_of f ≤ rank_of g) fs

record Found (o : Option ManifestFault) (fs : List ManifestFault) (f : ManifestFault) : Type 0 where
  origin : (o ≡ Some f) ⊎ Contains fs f
  start : AtLeast f o
  each : NotBehind f fs

at_head : (f g : ManifestFault) (gs : List ManifestFault) → g ≡ f → Contains (g ∷ gs) f
at_head f g gs e = (0, omega arith, e)

same_rank : (f g : ManifestFault) → Some g ≡ Some f → rank_of f ≤ rank_of g
same_rank f g e = let same : g ≡ f = cc in let ranks : rank_of g ≡ rank_of f = ap rank_of same in omega arith

found_two : (x g : ManifestFault) (gs : List ManifestFault) (f : ManifestFault) (b : Bool) → nat_le (rank_of x) (rank_of g) ≡ b
    → Found (cond b (Some x) (Some g)) gs f → Found (Some x) (g ∷ gs) f
unfolding AtLeast NotBehind
found_two x g gs f true test h =
    let order = leb-true (rank_of x) (rank_of g) test in
    let start : rank_of f ≤ rank_of x = h.start in
    let head : rank_of f ≤ rank_of g = omega arith in
    record {
      origin = elim h.origin [ inl e ↦ inl e | inr there ↦ inr (Contains-append_right (g ∷ []) gs f there) ];
      start = start;
      each = (head, h.each);
    }
found_two x g gs f false test h =
    let order = leb-false (rank_of x) (rank_of g) test in
    let head : rank_of f ≤ rank_of g = h.start in
    let start : rank_of f ≤ rank_of x = omega arith in
    record {
      origin = elim h.origin [ inl e ↦ inr (at_head f g gs (cc)) | inr there ↦ inr (Contains-append_right (g ∷ []) gs f there) ];
      start = start;
      each = (head, h.each);
    }

found_behind : (o : Option ManifestFault) (g : ManifestFault) (gs : List ManifestFault) (f : ManifestFault)
    → Found (lower o g) gs f → Found o (g ∷ gs) f
unfolding lower AtLeast NotBehind
found_behind None g gs f h = record {
  origin = elim h.origin [ inl e ↦ inr (at_head f g gs (cc)) | inr there ↦ inr (Contains-append_right (g ∷ []) gs f there) ];
  start = tt;
  each = (h.start, h.each);
}
found_behind (Some x) g gs f h = found_two x g gs f (nat_le (rank_of x) (rank_of g)) refl h

noted_found : (o : Option ManifestFault) (fs : List ManifestFault) (f : ManifestFault) → noted o fs ≡ Some f → Found o fs f
unfolding AtLeast NotBehind
noted_found None [] f h = cc
noted_found (Some g) [] f h = record { origin = inl h; start = same_rank f g h; each = tt }
noted_found o (g ∷ gs) f h = found_behind o g gs f (noted_found (lower o g) gs f h)

-- nothing was found only where no fault is
kept : (x g : ManifestFault) (gs : List ManifestFault) (b : Bool) → ((y : ManifestFault) → (noted (Some y) gs ≡ None) → ⊥)
    → noted (cond b (Some x) (Some g)) gs ≡ None → ⊥
kept x g gs true ih h = ih x h
kept x g gs false ih h = ih g h

some_noted : (x : ManifestFault) (fs : List ManifestFault) → (noted (Some x) fs ≡ None) → ⊥
unfolding lower
some_noted x [] h = cc
some_noted x (g ∷ gs) h = kept x g gs (nat_le (rank_of x) (rank_of g)) (λ y. some_noted y gs) h

pub none_noted : (fs : List ManifestFault) → lowest fs ≡ None → fs ≡ []
unfolding lower
none_noted [] h = refl
none_noted (f ∷ fs) h = absurd (some_noted f fs h)

-- faults that do not come after `TwoNames`, as those of the tables
Early : List ManifestFault → Type 0
Early fs = AllByRecursion (λ g. rank_of g ≤ 7) fs

early_append : (fs gs : List ManifestFault) → Early fs → Early gs → Early (fs ++ gs)
unfolding Early
early_append [] gs p q = q
early_append (f ∷ fs) gs p q = (p.0, early_append fs gs p.1 q)

early_flat_map : {X : Type 0} (f : X → List ManifestFault) → ((x : X) → Early (f x)) → (xs : List X) → Early (flat_map f xs)
unfolding Early
early_flat_map f each [] = tt
early_flat_map f each (x ∷ xs) = early_append (f x) (flat_map f xs) (each x) (early_flat_map f each xs)

early_if : (b : Bool) (f : ManifestFault) → rank_of f ≤ 7 → Early (fault_if b f)
unfolding Early
early_if true f h = (h, tt)
early_if false f h = tt

early_cell : (r : Rule) (o : Option Data) → Early (cell_faults r o)
unfolding Early
early_cell r None = early_if (is_required r.presence) MissingKey (omega arith)
early_cell r (Some d) = by_kind (has_kind r.form d)
  where
    by_kind : (b : Bool) → Early (cond b (fault_if (is_over r.form d) Limit ++ fault_if (not (is_within r.form d)) Range) (WrongKind ∷ []))
    by_kind true = early_append _ _ (early_if (is_over r.form d) Limit (omega arith)) (early_if (not (is_within r.form d)) Range (omega arith))
    by_kind false = (omega arith, tt)

early_table : (rs : List Rule) (ms : Members) → Early (table_faults rs ms)
early_table rs ms =
    early_append _ _ (early_if (has_unknown_key rs ms) UnknownKey (omega arith))
    (early_flat_map (λ r. rule_faults r ms) (λ r. early_cell r (get_member r.key ms)) rs)

early_ruled : (rs : List Rule) (d : Data) → Early (ruled_faults rs d)
unfolding Early
early_ruled rs (table ms) = early_table rs ms
early_ruled rs _ = tt

early_launch : (v : FormatVersion) (d : Data) → Early (launch_faults v d)
unfolding launch_faults Early
early_launch v (table ms) =
    early_append _ _ (early_table (launch_rules_in v) ms)
    (early_append _ _ (early_flat_map item_faults (λ d. early_ruled (rules_of (role_at d)) d) (array_at (codes "item") (table ms)))
    (early_append _ _ (early_flat_map (ruled_faults rec_rules) (early_ruled rec_rules) (array_at (codes "rec") (table ms)))
    (early_append _ _ (early_if (not (has_asked (table ms))) MissingKey (omega arith)) (early_if (lacks_rule v (table ms)) MissingKey (omega arith)))))
early_launch v _ = tt

early_manifest : (ms : Members) → Early (manifest_faults ms)
unfolding manifest_faults
early_manifest ms =
    early_append _ _ (early_if (not (has_version (get_member (codes "rim_manifest") ms))) Version (omega arith))
    (early_append _ _ (early_table top_rules ms)
    (early_append _ _ (early_flat_map (ruled_faults file_rules) (early_ruled file_rules) (files_at ms))
    (early_flat_map (launch_faults (version_at ms)) (early_launch (version_at ms)) (launches_at ms))))

behind_append : (f : ManifestFault) (fs gs : List ManifestFault) → NotBehind f fs → NotBehind f gs → NotBehind f (fs ++ gs)
unfolding NotBehind
behind_append f [] gs p q = q
behind_append f (g ∷ fs) gs p q = (p.0, behind_append f fs gs p.1 q)

behind_if : (f : ManifestFault) (b : Bool) (g : ManifestFault) → rank_of f ≤ rank_of g → NotBehind f (fault_if b g)
unfolding NotBehind
behind_if f true g h = (h, tt)
behind_if f false g h = tt

early_of : (f : ManifestFault) (fs : List ManifestFault) → Early fs → (k : ℕ) → k < length fs → slice_index_or fs k f ≡ f → rank_of f ≤ 7
unfolding Early
early_of f [] p k h e = absurd (omega arith)
early_of f (g ∷ gs) p zero h e = let same : rank_of g ≡ rank_of f = ap rank_of e in let low : rank_of g ≤ 7 = p.0 in omega arith
early_of f (g ∷ gs) p (suc k) h e = early_of f gs p.1 k (omega arith) e

late_names : (ms : Members) (f : ManifestFault) → rank_of f ≤ 7 → NotBehind f (name_faults ms)
unfolding name_faults
late_names ms f low =
    behind_append f _ _ (behind_if f (has_two_names ms) TwoNames low)
    (behind_append f _ _ (behind_if f (has_no_file ms) NoSuchFile (omega (arith, low)))
    (behind_if f (has_bad_steps (launches_at ms)) BadStep (omega (arith, low))))

-- the fault that a document is refused with is the lowest of all that hold: one of a table, or else one of names
by_tables : (ms : Members) (f : ManifestFault) → lowest (manifest_faults ms) ≡ Some f → IsLowest f (all_faults ms)
unfolding NotBehind AtLeast
by_tables ms f found =
    let facts = noted_found None (manifest_faults ms) f found in
    let there : Contains (manifest_faults ms) f = elim facts.origin [ inl none ↦ absurd (cc) | inr there ↦ there ] in
    let low : rank_of f ≤ 7 = early_of f (manifest_faults ms) (early_manifest ms) there.0 there.1 there.2 in
    record {
      holds = Contains-append_left (manifest_faults ms) _ f there;
      first = All-from_recursion (λ g. rank_of f ≤ rank_of g) (all_faults ms) (behind_append f (manifest_faults ms) _ facts.each (late_names ms f low));
    }

by_names : (ms : Members) (f : ManifestFault) → manifest_faults ms ≡ [] → lowest (name_faults ms) ≡ Some f → IsLowest f (all_faults ms)
unfolding NotBehind AtLeast
by_names ms f none found =
    let facts = noted_found None (name_faults ms) f found in
    let there : Contains (name_faults ms) f = elim facts.origin [ inl none ↦ absurd (cc) | inr there ↦ there ] in
    let nothing : NotBehind f (manifest_faults ms) = rw none tt in
    record {
      holds = Contains-append_right (manifest_faults ms) (name_faults ms) f there;
      first = All-from_recursion (λ g. rank_of f ≤ rank_of g) (all_faults ms) (behind_append f (manifest_faults ms) (name_faults ms) nothing facts.each);
    }

-- ---- faults of names that a document has

pub lowest_contained : (fs : List ManifestFault) (f : ManifestFault) → lowest fs ≡ Some f → Contains fs f
lowest_contained fs f found = elim (noted_found None fs f found).origin [ inl none ↦ absurd (cc) | inr there ↦ there ]

pub named_contained : (ms : Members) (f : ManifestFault) → named_of ms ≡ Err f → Contains (name_faults ms) f
named_contained ms f h = by_lowest (lowest (name_faults ms)) refl h
  where
    by_lowest : (o : Option ManifestFault) → lowest (name_faults ms) ≡ o → fault_or_release ms o ≡ Err f → Contains (name_faults ms) f
    by_lowest (Some g) found e = let same : g ≡ f = cc in lowest_contained (name_faults ms) f (found ∙ ap Some same)
    by_lowest None found e = cc

if_among : (b b' : Bool) (g f : ManifestFault) → (b ≡ true → b' ≡ true) → Contains (fault_if b g) f → Contains (fault_if b' g) f
if_among true true g f holds there = there
if_among true false g f holds there = let no : false ≡ true = holds refl in cc
if_among false b' g f holds there = absurd (omega (arith, there.1))

-- what is found by these tests holds in the document
pub name_among : (ms : Members) (two none bad : Bool) → two ≡ has_two_names ms → none ≡ has_no_file ms
    → (bad ≡ true → has_bad_steps (launches_at ms) ≡ true) → (f : ManifestFault) → Contains (name_faults_if two none bad) f → Contains (name_faults ms) f
unfolding name_faults
name_among ms two none bad two_is none_is bad_is f there =
    let twos : List ManifestFault = fault_if (has_two_names ms) TwoNames in
    let nones : List ManifestFault = fault_if (has_no_file ms) NoSuchFile in
    let bads : List ManifestFault = fault_if (has_bad_steps (launches_at ms)) BadStep in
    elim (Contains-append_cases _ _ f there) [
      | inl first ↦ Contains-append_left twos (nones ++ bads) f (if_among two (has_two_names ms) TwoNames f (λ e. sym two_is ∙ e) first)
      | inr later ↦
          Contains-append_right twos (nones ++ bads) f (elim (Contains-append_cases _ _ f later) [
            | inl second ↦ Contains-append_left nones bads f (if_among none (has_no_file ms) NoSuchFile f (λ e. sym none_is ∙ e) second)
            | inr third ↦ Contains-append_right nones bads f (if_among bad (has_bad_steps (launches_at ms)) BadStep f bad_is third)
          ])
    ]

pub among_two : (a b c : Bool) → a ≡ true → Contains (name_faults_if a b c) TwoNames
among_two a b c e = rw e (0, omega arith, refl)

pub among_none : (a b c : Bool) → b ≡ true → Contains (name_faults_if a b c) NoSuchFile
among_none a b c e = Contains-append_right (fault_if a TwoNames) _ NoSuchFile (rw e (0, omega arith, refl))

pub among_bad : (a b c : Bool) → c ≡ true → Contains (name_faults_if a b c) BadStep
among_bad a b c e =
    Contains-append_right (fault_if a TwoNames) _ BadStep (Contains-append_right (fault_if b NoSuchFile) _ BadStep (rw e (0, omega arith, refl)))

pub refused_by_lowest : (ms : Members) (f : ManifestFault) → read_of ms ≡ Err f → IsLowest f (all_faults ms)
refused_by_lowest ms f h = of_tables (lowest (manifest_faults ms)) refl h
  where
    of_names : (o : Option ManifestFault) → manifest_faults ms ≡ [] → lowest (name_faults ms) ≡ o → fault_or_release ms o ≡ Err f → IsLowest f (all_faults ms)
    of_names (Some g) none found e = let same : g ≡ f = cc in by_names ms f none (found ∙ ap Some same)
    of_names None none found e = cc

    of_tables : (o : Option ManifestFault) → lowest (manifest_faults ms) ≡ o → fault_or_named ms o ≡ Err f → IsLowest f (all_faults ms)
    of_tables (Some g) found e = let same : g ≡ f = cc in by_tables ms f (found ∙ ap Some same)
    of_tables None found e = of_names (lowest (name_faults ms)) (none_noted (manifest_faults ms) found) refl e
