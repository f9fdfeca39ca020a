use Rattle.std.proofs.Common.{◌≡◌, Some, None, sym, ap, ◌∙◌, subst, rules}
use Rattle.dispatch_core.proofs.Words.{Request, queue_slots, meaning, at, HasFewSectors, total_count}
use Rattle.process_queue.specs.Next.{next_slot}
use Rattle.dispatch_core.proofs.NextFound.{next_none, next_empty, next_size_is, size_read, no_size}
use Rattle.dispatch_core.proofs.dispatch_by_bfq.next_size.Goals as goal

pub returns-in_default-clause-size : goal.returns-in_default-clause-size
returns-in_default-clause-size c =
    let t = c.args.parts.now.tables in
    let none : next_slot t.requests t.bios (queue_slots c.args.seat t.links) ((meaning t).head c.args.seat) ≡ None = search rules in
    sym (no_size t c.args.seat (next_none t c.args.seat none))

pub returns-in_default-request-clause-size : goal.returns-in_default-request-clause-size
returns-in_default-request-clause-size c =
    let t = c.args.parts.now.tables in
    let slot = c.in-Some.slot in
    let some : next_slot t.requests t.bios (queue_slots c.args.seat t.links) ((meaning t).head c.args.seat) ≡ Some slot = search rules in
    let none : at t.requests slot ≡ None = search rules in
    sym (no_size t c.args.seat (next_empty t c.args.seat slot some none))

pub returns-clause-size : goal.returns-clause-size
returns-clause-size c =
    let t = c.args.parts.now.tables in
    let slot = c.in-Some.slot in
    let request : Request = c.in-Some-request.request.now in
    let some : next_slot t.requests t.bios (queue_slots c.args.seat t.links) ((meaning t).head c.args.seat) ≡ Some slot = search rules in
    let here : at t.requests slot ≡ Some request = search rules in
    let pool : c.pool-3.result.now.bios ≡ t.bios = c.pool-3.ensures.bios in
    let few : HasFewSectors c.pool-3.result.now.bios = subst HasFewSectors (sym pool) c.requires.few in
    let count : c.range_of_request.result.count ≡ total_count t.bios request.bios.items = c.range_of_request.ensures.count few ∙ ap (λ b. total_count b request.bios.items) pool in
    count ∙ sym (next_size_is t c.args.seat slot request some here ∙ size_read t.bios request.bios.items)
