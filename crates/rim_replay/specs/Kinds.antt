-- The words of a monitor's refusals. This project's choice.
use Rattle.std.specs.Prelude.{ℕ, List, codes}
use Rattle.rmm_model.specs.declared.outcome.Refused.{Refused}
use Rattle.rmm_model.specs.declared.outcome.Refused.TheVariants as refused

abbrev pub refused_kind_of : Refused → List ℕ
refused_kind_of refused.State = codes "state"
refused_kind_of refused.BadParams = codes "bad-params"
refused_kind_of refused.Unaligned = codes "unaligned"
refused_kind_of refused.OutsideProtected = codes "outside-protected"
refused_kind_of refused.WalkLevel = codes "walk-level"
refused_kind_of refused.NotFresh = codes "not-fresh"
refused_kind_of refused.NotRam = codes "not-ram"
refused_kind_of refused.Assigned = codes "assigned"
refused_kind_of refused.RecIndex = codes "rec-index"
refused_kind_of refused.AuxCount = codes "aux-count"
refused_kind_of refused.NotUndelegated = codes "not-undelegated"
refused_kind_of refused.NotDelegated = codes "not-delegated"
refused_kind_of refused.NoMemory = codes "no-memory"
