-- The versions of a manifest's format, and what parts them: in version 2 a launch may have a rule for its RECs, and has
-- to have one where a REC is not runnable. This project's choice.
use Rattle.std.specs.Prelude.{ℕ, Bool, true, false, not, ◌&&◌, ◌||◌, ◌==◌, pos, List, Option, Some, None, is_some, codes, if◌then◌else◌}
use Rattle.std.specs.List.{list_any}
use Rattle.std.specs.Str.{bytes_eq}
use Rattle.toml.specs.Data.{Data, string, integer, Members, get, get_member}
use Rattle.rim_desc.specs.Rule.{rule_word}
use Rattle.rim_desc.specs.declared.rule.RecRule.{RecRule}
use Rattle.rim_desc.specs.declared.rule.RecRule.TheVariants.{All, Runnable}
use Rattle.rim_rules.specs.declared.version.FormatVersion.{FormatVersion}
use Rattle.rim_rules.specs.declared.version.FormatVersion.TheVariants.{One, Two}
use Rattle.rim_rules.specs.Rules.{Rule, launch_rules, launch_rules_2}
use Rattle.rim_rules.specs.Values.{array_at, truth_in}

-- whether the format's number is 1 or 2
abbrev pub has_version : Option Data → Bool
has_version (Some (integer (pos n))) = (n == 1) || (n == 2)
has_version _ = false

-- the version that the format's number gives; any other number is a fault, and the rest is looked at as in version 1
abbrev pub version_of : Option Data → FormatVersion
version_of (Some (integer (pos n))) = if n == 2 then Two else One
version_of _ = One

-- the version of a manifest
abbrev pub version_at : Members → FormatVersion
version_at ms = version_of (get_member (codes "rim_manifest") ms)

-- the keys of a launch
abbrev pub launch_rules_in : FormatVersion → List Rule
launch_rules_in One = launch_rules
launch_rules_in Two = launch_rules_2

-- ---- the rule for the RECs of a launch

-- a REC is said to be not runnable
abbrev pub is_not_runnable : Data → Bool
is_not_runnable d = not (truth_in true (get (codes "runnable") d))

-- a launch of version 2 has such a REC, and no rule
abbrev pub lacks_rule : FormatVersion → Data → Bool
lacks_rule One d = false
lacks_rule Two d = list_any is_not_runnable (array_at (codes "rec") d) && not (is_some (get (codes "rec_rule") d))

-- the rule of a word, if it is one
abbrev pub rule_of_word : List ℕ → Option RecRule
rule_of_word word =
    if bytes_eq word (rule_word All) then Some All
    else if bytes_eq word (rule_word Runnable) then Some Runnable
    else None

-- the rule at a key, if any
abbrev pub rule_in : Option Data → Option RecRule
rule_in (Some (string s)) = rule_of_word s
rule_in _ = None

-- the rule of a launch: version 1 has none
abbrev pub rule_for : FormatVersion → Option Data → Option RecRule
rule_for One o = None
rule_for Two o = rule_in o
