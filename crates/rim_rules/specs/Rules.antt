-- The keys of a manifest's tables: what each may hold, and whether it has to be given. This project's
-- choice; what a realm's parameters may be is DEN0137's, RmiRealmParams.
use Rattle.std.specs.Prelude.{ℕ, pos, List, [], ◌∷◌, ◌++◌, codes, map}
use Rattle.std.specs.Borrow.{Bor}
use Rattle.rim_rules.specs.declared.form.Form.{Form}
use Rattle.rim_rules.specs.declared.form.Form.TheVariants as form
use Rattle.rim_rules.specs.declared.form.Presence.{Presence}
use Rattle.rim_rules.specs.declared.form.Presence.TheVariants.{Required, Optional}
use Rattle.rim_desc.specs.Numbers.{Number, rmm_1_0}
use Rattle.rim_desc.specs.declared.rec.TheConstants.{AUX_LIMIT}
use Rattle.rim_launch.specs.declared.config.TheConstants.{POOL_LIMIT}
use Rattle.rmm_model.specs.declared.start.TheConstants.{LEAST_WIDTH, MOST_WIDTH}
use Rattle.rim_launch.specs.declared.launch.TheConstants.{ITEM_LIMIT, NAMED_REC_LIMIT, REGION_LIMIT}
use Rattle.rim_rules.specs.declared.rules.TheConstants.{FILE_COUNT_LIMIT, LAUNCH_LIMIT}

pub record Rule : Type 0 where
  pub key : List ℕ
  pub form : Form
  pub presence : Presence

-- a rule as the code writes it
abbrev pub rule_of : Bor (List ℕ) × Form × Presence → Rule
rule_of r = record { key = r.0.now; form = r.1; presence = r.2 }

abbrev pub rule : List ℕ → Form → Presence → Rule
rule key form presence = record { key = key; form = form; presence = presence }

-- a number of a realm's parameters
abbrev pub number_rule : Number → Rule
number_rule row = rule row.name (form.Number (pos 0) (pos row.most)) Optional

-- the keys at the top
abbrev pub top_rules : List Rule
top_rules =
    rule (codes "rim_manifest") form.Version Required
    ∷ rule (codes "launch") (form.Tables LAUNCH_LIMIT) Optional
    ∷ rule (codes "file") (form.Tables FILE_COUNT_LIMIT) Optional ∷ []

-- the keys of a file
abbrev pub file_rules : List Rule
file_rules =
    rule (codes "name") form.Name Required
    ∷ rule (codes "path") form.Text Required ∷ []

-- the keys of a launch in version 1
abbrev pub launch_rules : List Rule
launch_rules =
    rule (codes "name") form.Name Required
    ∷ rule (codes "algo") form.Algorithm Required
    ∷ rule (codes "s2sz") (form.Number (pos LEAST_WIDTH) (pos MOST_WIDTH)) Required
    ∷ rule (codes "sve") form.Truth Optional
    ∷ rule (codes "pmu") form.Truth Optional
    ∷ map number_rule rmm_1_0
    ++ (rule (codes "rpv") (form.Digits 128) Optional
    ∷ rule (codes "block_level") (form.Number (pos 0) (pos 3)) Optional
    ∷ rule (codes "num_aux") (form.Number (pos 0) (pos AUX_LIMIT)) Optional
    ∷ rule (codes "pool_base") form.PoolBase Optional
    ∷ rule (codes "pool_count") (form.Number (pos 1) (pos POOL_LIMIT)) Optional
    ∷ rule (codes "ram") (form.Regions REGION_LIMIT) Optional
    ∷ rule (codes "item") (form.Tables ITEM_LIMIT) Optional
    ∷ rule (codes "rec") (form.Tables NAMED_REC_LIMIT) Optional
    ∷ rule (codes "steps") form.Texts Optional ∷ [])

-- the key that version 2 adds
abbrev pub added_rules : List Rule
added_rules = rule (codes "rec_rule") form.RecRule Optional ∷ []

-- the keys of a launch in version 2
abbrev pub launch_rules_2 : List Rule
launch_rules_2 = launch_rules ++ added_rules

-- the keys of an item that is no devicetree, and whose content is known
abbrev pub item_rules : List Rule
item_rules =
    rule (codes "name") form.Name Required
    ∷ rule (codes "kind") form.ItemKind Required
    ∷ rule (codes "file") form.AnyText Required
    ∷ rule (codes "at") (form.Number (pos 0) (pos 9223372036854775807)) Required
    ∷ rule (codes "size") (form.Number (pos 0) (pos 9223372036854775807)) Optional
    ∷ rule (codes "measured") form.Truth Optional ∷ []

-- the keys of a devicetree
abbrev pub dtb_rules : List Rule
dtb_rules = item_rules
    ++ (rule (codes "bootargs") form.Bootargs Optional
    ∷ rule (codes "initrd") form.Truth Optional
    ∷ rule (codes "memory") form.Truth Optional ∷ [])

-- the keys of an item of unknown content (DEN0137, RMI_DATA_CREATE_UNKNOWN): it has no file and is not measured, so its
-- size has to be given
abbrev pub unknown_rules : List Rule
unknown_rules =
    rule (codes "name") form.Name Required
    ∷ rule (codes "kind") form.ItemKind Required
    ∷ rule (codes "at") (form.Number (pos 0) (pos 9223372036854775807)) Required
    ∷ rule (codes "size") (form.Number (pos 0) (pos 9223372036854775807)) Required ∷ []

-- the keys of a REC
abbrev pub rec_rules : List Rule
rec_rules =
    rule (codes "pc") form.Word Optional
    ∷ rule (codes "x") (form.Words 8) Optional
    ∷ rule (codes "runnable") form.Truth Optional ∷ []
