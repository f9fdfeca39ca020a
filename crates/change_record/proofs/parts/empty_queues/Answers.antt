use Rattle.change_record.proofs.parts.empty_queues.Goals as goal

pub returns-clause-pool : goal.returns-clause-pool
returns-clause-pool c = c.in_ok-new.ensures

pub returns-clause-tags : goal.returns-clause-tags
returns-clause-tags c = c.in_ok-new-2.ensures

pub returns-clause-queues : goal.returns-clause-queues
returns-clause-queues c = c.in_ok-new-3.ensures

pub returns-clause-requeued : goal.returns-clause-requeued
returns-clause-requeued c = c.in_ok-new-4.ensures
