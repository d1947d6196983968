use Rattle.rmi_list.proofs.listing.list_with_reason.Goals as goal

pub returns-in-Err-clause-reason : goal.returns-in-Err-clause-reason
returns-in-Err-clause-reason c = rw (c.in-Err.is, c.config.ensures.value) at c.in_ok-draft.ensures.reason
