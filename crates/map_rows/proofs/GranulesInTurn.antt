-- The granules of commands are added command by command; what pages contain does not count.
use Rattle.std.proofs.Common.{◌≡◌, ◌∙◌, ℕ, ◌+◌, List, [], ◌∷◌, ◌++◌, take, refl, ap, ap₂, sym}
use Rattle.std.specs.Prelude.{Some, replicate, sum_by}
use Rattle.std.specs.List.{slice_get}
use Rattle.std.proofs.lemmas.List.Sums.{sum_by-cons, sum_by_push}
use Rattle.rim_desc.specs.declared.command.Command.{Command}
use Rattle.list_model.specs.Entries.{Contents, Entry, Page, Whole, command_of, commands_of}
use Rattle.rim_accepted.proofs.LinesOfLaunches.{one-more}
use Rattle.map_rows.specs.Granules.{granules_of, plus, uses}
use Rattle.map_rows.specs.declared.granules.Granules.{Granules}

-- contents of pages that no count looks at
abbrev pub any_contents : Contents
any_contents item page = record { bytes = replicate 64 0 }

-- a command more
pushed : (cs : List Command) (c : Command) → granules_of (cs ++ c ∷ []) ≡ plus (granules_of cs) (uses c)
pushed cs c =
    rw (
      sum_by_push (λ x. (uses x).auxiliary) cs c,
      sum_by_push (λ x. (uses x).delegated) cs c,
      sum_by_push (λ x. (uses x).descriptors) cs c,
      sum_by_push (λ x. (uses x).pages) cs c,
      sum_by_push (λ x. (uses x).recs) cs c,
      sum_by_push (λ x. (uses x).start_tables) cs c,
      sum_by_push (λ x. (uses x).tables_1) cs c,
      sum_by_push (λ x. (uses x).tables_2) cs c,
      sum_by_push (λ x. (uses x).tables_3) cs c,
    ) refl

pub granules-next : (cs : List Command) (i : ℕ) (c : Command) → slice_get cs i ≡ Some c
    → plus (granules_of (take i cs)) (uses c) ≡ granules_of (take (i + 1) cs)
granules-next cs i c at = sym (pushed (take i cs) c) ∙ ap granules_of (one-more cs i c at)

-- ---- contents

same-use : (one other : Contents) (e : Entry) → uses (command_of one e) ≡ uses (command_of other e)
same-use one other (Whole c) = refl
same-use one other (Page granule ipa item page) = refl

same-sum : (one other : Contents) (f : Granules → ℕ) (es : List Entry)
    → sum_by (λ c. f (uses c)) (commands_of one es) ≡ sum_by (λ c. f (uses c)) (commands_of other es)
same-sum one other f [] = refl
same-sum one other f (e ∷ es) =
    sum_by-cons (λ c. f (uses c)) (command_of one e) (commands_of one es)
    ∙ ap₂ (λ (a b : ℕ). a + b) (ap f (same-use one other e)) (same-sum one other f es)
    ∙ sym (sum_by-cons (λ c. f (uses c)) (command_of other e) (commands_of other es))

pub same-granules : (one other : Contents) (es : List Entry) → granules_of (commands_of one es) ≡ granules_of (commands_of other es)
same-granules one other es =
    rw (
      same-sum one other (λ g. g.auxiliary) es,
      same-sum one other (λ g. g.delegated) es,
      same-sum one other (λ g. g.descriptors) es,
      same-sum one other (λ g. g.pages) es,
      same-sum one other (λ g. g.recs) es,
      same-sum one other (λ g. g.start_tables) es,
      same-sum one other (λ g. g.tables_1) es,
      same-sum one other (λ g. g.tables_2) es,
      same-sum one other (λ g. g.tables_3) es,
    ) refl
