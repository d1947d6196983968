use Rattle.rmi_list.proofs.ListStepByStep.{IsListing}
use Rattle.rmi_list.proofs.listing.draft_of.Given as goal

abbrev pub invariant-loop-number : goal.invariant-loop-number
invariant-loop-number l = IsListing l.launch l.fn.config l.placed l.draft l.number
