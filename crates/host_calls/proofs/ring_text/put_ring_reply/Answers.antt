use Rattle.host_calls.proofs.ring_text.put_ring_reply.Goals as goal

pub returns-in_ok-extend_from_slice-in-Closed : goal.returns-in_ok-extend_from_slice-in-Closed
returns-in_ok-extend_from_slice-in-Closed c = rw c.in-Closed.is c.in_ok-extend_from_slice-in-Closed.ensures.items
