use Rattle.host_paths.proofs.worker.tell.Goals as goal

pub returns-in-Answer-Refused-OutOfMemory-clause-why : goal.returns-in-Answer-Refused-OutOfMemory-clause-why
returns-in-Answer-Refused-OutOfMemory-clause-why g c = tt
