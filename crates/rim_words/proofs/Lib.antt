-- To prove: `command` reads words as their definition says. Where `clap` takes them, the matches of the subcommand hold what they are to.
-- That follows from this:
pub mod EnteredSubcommand
-- where no step of a parse fails, each match of an argument has values that pass its parser;
pub mod MatchesPassParsers
-- each use of an argument keeps this for the rows of its level
pub mod ValuesOfArguments
-- which a test of the arguments says;
pub mod SoundArguments
-- and it enters no `help`
pub mod HelpIsNotEntered
-- Words that are refused: the kind of error says whether they are a mistake or ask for help
pub mod KindsOfRefusal
-- what is asked for, by its subcommand
pub mod RequestsOfSubcommands
