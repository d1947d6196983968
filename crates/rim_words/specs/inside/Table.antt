-- The list of subcommands as the program has it, and what a parse leaves of one. This project's choice.
use Rattle.std.specs.Prelude.{◌≡◌, ◌⊎◌, ⊤, Bool, true, false, List, [], ◌∷◌, IfSome, is_some, map}
use Rattle.std.specs.List.{AllByRecursion}
use Rattle.clap.specs.Words.{Accepts, Row, Rule, Text, first_of}
use Rattle.rim_words.specs.declared.definition.Argument.{Argument}
use Rattle.rim_words.specs.declared.definition.Argument.TheVariants.{Operand, Flag, Workers, Output}
use Rattle.rim_words.specs.declared.definition.Subcommand.{Subcommand}
use Rattle.rim_words.specs.Command.{commands, flag_rule, operand_rule, output, workers_rule}

-- an argument, by its rule
abbrev pub rule_in : Argument → Rule
rule_in (Operand id name help) = operand_rule id.now
rule_in (Flag name help) = flag_rule name.now
rule_in Workers = workers_rule
rule_in Output = output

-- a subcommand, by its name and the rules of its arguments
abbrev pub command_in : Subcommand → Text × List Rule
command_in c = (c.name.now, map rule_in c.arguments.now)

-- an operand that has to be given has a text
abbrev pub IsGiven : Bool → Text → List Row → Type 0
IsGiven true id rows = is_some (first_of id rows) ≡ true
IsGiven false id rows = ⊤

-- what holds of an argument in the matches of its subcommand, where `clap` takes the words: an operand has a text, and a text that
-- has a parser passes it
abbrev pub IsTaken : List Row → Rule → Type 0
IsTaken rows a = IsGiven a.required a.id rows
    × IfSome a.parser (λ parser. IfSome (first_of a.id rows) (λ text. Accepts a.ignore_case parser text))

-- the name and the matches of some subcommand of these
abbrev pub IsEnteredIn : List (Text × List Rule) → Text → List Row → Type 0
IsEnteredIn [] name rows = ⊥
IsEnteredIn (c ∷ cs) name rows = ((name ≡ c.0) × AllByRecursion (IsTaken rows) c.1) ⊎ IsEnteredIn cs name rows

abbrev pub IsEntered : Text → List Row → Type 0
IsEntered name rows = IsEnteredIn commands name rows
