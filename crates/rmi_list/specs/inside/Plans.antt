-- What contracts see of a plan, and what its type keeps. This project's choice.
use Rattle.std.specs.Prelude.{◌≡◌, ℕ, ◌+◌, ◌<◌, ◌≤◌, ◌^◌, List, length, slice_index, take}
use Rattle.std.specs.List.{All, sum_by}
use Rattle.list_model.specs.Entries.{Entry}
use Rattle.rmi_list.specs.declared.plan.Plan.TheInside.{Inside}
use Rattle.rmi_list.specs.declared.span.Span.{Span}
use Rattle.rmi_list.specs.inside.Spans.{IsSpan, commands_in, entries_of}
use Rattle.rim_desc.specs.declared.rec.TheConstants.{AUX_LIMIT, REC_LIMIT}

-- its commands, whose measured contents are open
abbrev pub shown_plan : Inside → List Entry
shown_plan p = entries_of p.params p.num_aux p.recs.items p.spans.items

-- of some spans, how many commands come before each, and at last how many there are in all
pub record AreStarts (spans : List Span) (starts : List ℕ) : Type 0 where
  pub count : length starts ≡ length spans + 1
  pub at : (i : ℕ) → i ≤ length spans → slice_index starts i ≡ sum_by commands_in (take i spans)

-- the pool begins below 2^48, and there are no more auxiliary granules and RECs than a list may have
pub record IsWellFormed (p : Inside) : Type 0 where
  pub pool : p.params.rtt_base < 2 ^ 48
  pub aux : p.num_aux ≤ AUX_LIMIT
  pub few : length p.recs.items ≤ REC_LIMIT
  pub starts : AreStarts p.spans.items p.starts.items
  pub spans : All IsSpan p.spans.items
