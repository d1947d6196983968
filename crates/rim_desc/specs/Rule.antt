-- Which RECs extend the measurement. By DEN0137, RMI_REC_CREATE, just those that are runnable; that a manifest may state
-- another rule, or none, is this project's choice.
use Rattle.std.specs.Prelude.{ℕ, Bool, true, List, Option, Some, None, codes}
use Rattle.rim_desc.specs.declared.rule.RecRule.{RecRule}
use Rattle.rim_desc.specs.declared.rule.RecRule.TheVariants.{All, Runnable}

abbrev pub rule_word : RecRule → List ℕ
rule_word All = codes "all"
rule_word Runnable = codes "runnable"

abbrev pub extends_by : RecRule → Bool → Bool
extends_by All is_runnable = true
extends_by Runnable is_runnable = is_runnable

-- without a rule each REC does, and none is made that is not runnable
abbrev pub extends : Option RecRule → Bool → Bool
extends None is_runnable = true
extends (Some rule) is_runnable = extends_by rule is_runnable
