-- The faults of a table whose keys have rules. This project's choice.
use Rattle.std.specs.Prelude.{ℕ, Bool, not, List, [], ◌∷◌, ◌++◌, Option, Some, None, if◌then◌else◌}
use Rattle.std.specs.List.{list_any, flat_map}
use Rattle.std.specs.Str.{bytes_eq}
use Rattle.toml.specs.Data.{Data, Members, get_member, table}
use Rattle.rim_manifest.specs.declared.fault.ManifestFault.{ManifestFault}
use Rattle.rim_manifest.specs.declared.fault.ManifestFault.TheVariants.{WrongKind, UnknownKey, MissingKey, Limit, Range}
use Rattle.rim_rules.specs.declared.form.Form.{Form}
use Rattle.rim_manifest.specs.Faults.{fault_if}
use Rattle.rim_rules.specs.Forms.{has_kind, is_over, is_required, is_within, keys_list}
use Rattle.rim_rules.specs.Rules.{Rule}

-- the faults of a value that is of its form's kind
abbrev pub value_faults : Form → Data → List ManifestFault
value_faults f d = fault_if (is_over f d) Limit ++ fault_if (not (is_within f d)) Range

-- the faults of the value at the key of a rule
abbrev pub cell_faults : Rule → Option Data → List ManifestFault
cell_faults r (Some d) = if has_kind r.form d then value_faults r.form d else WrongKind ∷ []
cell_faults r None = fault_if (is_required r.presence) MissingKey

abbrev pub rule_faults : Rule → Members → List ManifestFault
rule_faults r ms = cell_faults r (get_member r.key ms)

-- whether a rule has the key
abbrev pub is_known : List Rule → List ℕ → Bool
is_known rs k = list_any (λ r. bytes_eq r.key k) rs

abbrev pub has_unknown_key : List Rule → Members → Bool
has_unknown_key rs ms = list_any (λ k. not (is_known rs k)) (keys_list ms)

-- the faults of a table: a key without a rule, and the values at the keys of the rules
abbrev pub table_faults : List Rule → Members → List ManifestFault
table_faults rs ms = fault_if (has_unknown_key rs ms) UnknownKey ++ flat_map (λ r. rule_faults r ms) rs

-- the faults of a value in an array of tables whose keys have these rules
abbrev pub ruled_faults : List Rule → Data → List ManifestFault
ruled_faults rs (table ms) = table_faults rs ms
ruled_faults rs _ = []
