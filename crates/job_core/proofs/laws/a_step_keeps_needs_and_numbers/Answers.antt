use Rattle.job_core.proofs.WhatStepsChange as kept
use Rattle.job_core.proofs.laws.a_step_keeps_needs_and_numbers.Goals as goal

pub returns-clause-needs : goal.returns-clause-needs
returns-clause-needs c = kept.needs

pub returns-clause-workers : goal.returns-clause-workers
returns-clause-workers c = kept.workers

pub returns-clause-pages : goal.returns-clause-pages
returns-clause-pages c = kept.pages

pub returns-clause-launches : goal.returns-clause-launches
returns-clause-launches c = kept.launches

pub returns-clause-first : goal.returns-clause-first
returns-clause-first c = kept.first
