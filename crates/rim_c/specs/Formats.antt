-- How an answer is written. This project's choice.
use Rattle.std.specs.Prelude.{Bool, true, false}
use Rattle.rim_words.specs.declared.words.Format.{Format}
use Rattle.rim_words.specs.declared.words.Format.TheVariants.{Text, Json}

-- as one JSON object, or as lines
abbrev pub format_of : Bool → Format
format_of true = Json
format_of false = Text
