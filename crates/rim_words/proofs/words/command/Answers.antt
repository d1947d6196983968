use Rattle.std.proofs.Common.{◌∙◌, ◌≡◌, List, Option, sym, ap, map, subst}
use Rattle.clap.specs.Words.{App, HasKind, HasMatchesOf, Row, Text, fault_of, found_of, is_simple, is_simple_and_free, rows_of, subcommand_of, subcommand_rows_of, takes}
use Rattle.clap.specs.declared.parser.matches.ArgMatches.{ArgMatches}
use Rattle.rim_words.specs.Command.{ReadsRequest, rim}
use Rattle.rim_words.proofs.EnteredSubcommand.{entered_good, rows_met}
use Rattle.rim_words.proofs.words.command.Goals as goal

-- what the definition has on the words is what the matches have
words_met : (a : App) (words : List Text) (m : ArgMatches) → a ≡ rim → HasMatchesOf a words m → subcommand_rows_of m ≡ subcommand_of rim words
words_met a words m shape matches = (matches (ap is_simple shape)).1 ∙ ap (λ (a : App). subcommand_of a words) shape

pub request_of-requires : goal.request_of-requires
request_of-requires g c =
    let words = map g.S.AsStr.text c.args.words.now in
    let met = words_met _ words _ c.in_ok-rim.ensures.shape c.in-Ok.ensures.matches in
    let rows = rows_met _ c.in-Some.name.now (rows_of (found_of c.in-Some.given.now)) (sym c.in-Some.ensures.name) (sym c.in-Some.ensures.rows) in
    let none = c.in-Ok.ensures.kinds (ap is_simple_and_free c.in_ok-rim.ensures.shape) in
    entered_good words (c.in-Some.name.now, rows_of (found_of c.in-Some.given.now)) (ap (λ (a : App). fault_of a words) (sym c.in_ok-rim.ensures.shape) ∙ none) (sym met ∙ rows)

pub returns-in-Err-clause-takes : goal.returns-in-Err-clause-takes
returns-in-Err-clause-takes g c t =
    let words = map g.S.AsStr.text c.args.words.now in
    c.refusal.ensures.memory (c.in-Err.ensures.passes (ap (λ (a : App). takes a words) c.in_ok-rim.ensures.shape ∙ t))

pub returns-in-Err-clause-refused : goal.returns-in-Err-clause-refused
returns-in-Err-clause-refused g c =
    let words = map g.S.AsStr.text c.args.words.now in
    let kinds = c.in-Err.ensures.kinds (ap is_simple_and_free c.in_ok-rim.ensures.shape) in
    c.refusal.ensures.kinds (fault_of rim words) (subst (λ (a : App). HasKind (fault_of a words) c.in-Err.error) c.in_ok-rim.ensures.shape kinds)

pub returns-clause-sound : goal.returns-clause-sound
returns-clause-sound g c =
    let words = map g.S.AsStr.text c.args.words.now in
    let none = c.in-Ok.ensures.kinds (ap is_simple_and_free c.in_ok-rim.ensures.shape) in
    ap (λ (a : App). fault_of a words) (sym c.in_ok-rim.ensures.shape) ∙ none

pub returns-clause-reads : goal.returns-clause-reads
returns-clause-reads g c =
    let words = map g.S.AsStr.text c.args.words.now in
    let met = words_met _ words _ c.in_ok-rim.ensures.shape c.in-Ok.ensures.matches in
    let rows = rows_met _ c.in-Some.name.now (rows_of (found_of c.in-Some.given.now)) (sym c.in-Some.ensures.name) (sym c.in-Some.ensures.rows) in
    subst (λ (entered : Option (Text × List Row)). ReadsRequest entered c.request_of.result) (sym (sym met ∙ rows)) c.request_of.ensures
