-- The words of what a launch has: the kinds of items and what the steps are about; and the keys of items by their kind. This project's choice.
use Rattle.std.specs.Prelude.{ℕ, List, [], ◌∷◌, Option, codes}
use Rattle.std.specs.List.{find}
use Rattle.std.specs.Str.{bytes_eq}
use Rattle.rim_launch.specs.declared.item.Role.{Role}
use Rattle.rim_launch.specs.declared.item.Role.TheVariants.{Kernel, Initrd, Dtb, Raw, Unknown}
use Rattle.rim_rules.specs.Rules.{Rule, dtb_rules, item_rules, unknown_rules}
use Rattle.rim_rules.specs.declared.kind.StepKind.{StepKind}
use Rattle.rim_rules.specs.declared.kind.StepKind.TheVariants as about

-- the word of an item's kind
abbrev pub kind_word : Role → List ℕ
kind_word Kernel = codes "kernel"
kind_word Initrd = codes "initrd"
kind_word Dtb = codes "dtb"
kind_word Raw = codes "raw"
kind_word Unknown = codes "unknown"

abbrev pub kinds : List Role
kinds = Kernel ∷ Initrd ∷ Dtb ∷ Raw ∷ Unknown ∷ []

-- the kind that has a word
abbrev pub kind_of_word : List ℕ → Option Role
kind_of_word word = find (λ kind. bytes_eq (kind_word kind) word) kinds

-- the keys of an item of a kind
abbrev pub rules_of : Role → List Rule
rules_of Dtb = dtb_rules
rules_of Unknown = unknown_rules
rules_of _ = item_rules

-- how the text of a step begins that is about a region, an item or a REC
abbrev pub step_front : StepKind → List ℕ
step_front about.Ram = codes "ram "
step_front about.Item = codes "item "
step_front about.Rec = codes "rec "
