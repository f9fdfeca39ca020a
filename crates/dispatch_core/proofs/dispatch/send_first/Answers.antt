use Rattle.std.proofs.Common.{◌≡◌, ◌+◌, List, length, Some, None, subst, sym, ap, ◌∙◌, arith, rules}
use Rattle.dispatch_core.proofs.Words.{Request, first_slot, Tables, bios_at, meaning, range_of, at, WellFormed, sent_tables, HasFewSectors, first_start, total_count}
use Rattle.change_record.specs.declared.change.Change.{Change}
use Rattle.change_record.specs.Trail.{IsTrail}
use Rattle.plain.specs.Step.{of_sizes}
use Rattle.plain.specs.Steps.Dispatch.{sent}
use Rattle.dispatch_core.proofs.Sides.{CanSend}
use Rattle.dispatch_core.proofs.Queues.{whole, first_found, sent-queue_was}
use Rattle.dispatch_core.proofs.Laws.{sent-well, sent-meaning}
use Rattle.dispatch_core.proofs.Sectors.{few_sectors_of, range_is, request_taken}
use Rattle.dispatch_core.proofs.Decided.{sent_made, sent_late, sent_accepts, Answers-err}
use Rattle.dispatch_core.proofs.Recorded.{one_more}
use Rattle.dispatch_core.proofs.dispatch.send_first.Goals as goal

pub returns-then-not-room-clause-answers : goal.returns-then-not-room-clause-answers
returns-then-not-room-clause-answers c =
    let l = of_sizes c.args.sizes in
    let t = c.args.parts.now.tables in
    let n = c.args.serial in
    let next = c.requires.next in
    let tag = c.args.tag in
    let free = c.requires.free in
    let found = first_found l n t c.args.seat c.requires.well next in
    let slot = found.0 in
    let request : Request = found.2 in
    let can : CanSend l t c.args.seat slot tag request = record { within = found.4; first = found.1; here = found.3; tag_within = omega (arith, free.within, c.requires.well.sized.tags); tag_free = free.is_free } in
    let was = sent-queue_was l n t c.args.seat slot tag request c.requires.well can in
    sym (sent_late l (meaning t) n c.args.room c.args.seat tag (whole t request) ((meaning (sent_tables t n c.args.seat slot tag)).queue c.args.seat) was c.if-not-room.true)

pub unreachable-requires : goal.unreachable-requires
unreachable-requires c =
    let l = of_sizes c.args.sizes in
    let t = c.args.parts.now.tables in
    let n = c.args.serial in
    let next = c.requires.next in
    let tag = c.args.tag in
    let free = c.requires.free in
    let found = first_found l n t c.args.seat c.requires.well next in
    let none : first_slot c.args.seat t.links ≡ None = search rules in
    let some = found.1 in
    cc

pub unreachable-requires-in_default-request : goal.unreachable-requires-in_default-request
unreachable-requires-in_default-request c =
    let l = of_sizes c.args.sizes in
    let t = c.args.parts.now.tables in
    let n = c.args.serial in
    let next = c.requires.next in
    let tag = c.args.tag in
    let free = c.requires.free in
    let found = first_found l n t c.args.seat c.requires.well next in
    let first : first_slot c.args.seat t.links ≡ Some c.in-Some.slot = search rules in
    let none : at t.requests c.in-Some.slot ≡ None = search rules in
    let known = found.1 in
    let some : at t.requests found.0 ≡ Some found.2 = found.3 in
    cc

pub returns-in_err-reserve-clause-answers : goal.returns-in_err-reserve-clause-answers
returns-in_err-reserve-clause-answers c =
    let l = of_sizes c.args.sizes in
    let t = c.args.parts.now.tables in
    let n = c.args.serial in
    let next = c.requires.next in
    let tag = c.args.tag in
    let free = c.requires.free in
    let found = first_found l n t c.args.seat c.requires.well next in
    let slot = c.in-Some.slot in
    let first : first_slot c.args.seat t.links ≡ Some slot = search rules in
    let request : Request = c.in-Some-request.request.now in
    let here : at t.requests slot ≡ Some request = search rules in
    let can : CanSend l t c.args.seat slot tag request = record { within = found.4; first = first; here = here; tag_within = omega (arith, free.within, c.requires.well.sized.tags); tag_free = free.is_free } in
    let was = sent-queue_was l n t c.args.seat slot tag request c.requires.well can in
    Answers-err (λ m. sent m n c.args.room c.args.seat tag (m.queue c.args.seat)) t t c.from_residual.result (search rules) (sent_accepts l (meaning t) n c.args.room c.args.seat tag (whole t request) ((meaning (sent_tables t n c.args.seat slot tag)).queue c.args.seat) was c.if-not-room.false)

pub returns-clause-answers : goal.returns-clause-answers
returns-clause-answers c =
    let l = of_sizes c.args.sizes in
    let t = c.args.parts.now.tables in
    let n = c.args.serial in
    let next = c.requires.next in
    let tag = c.args.tag in
    let free = c.requires.free in
    let found = first_found l n t c.args.seat c.requires.well next in
    let slot = c.in-Some.slot in
    let first : first_slot c.args.seat t.links ≡ Some slot = search rules in
    let request : Request = c.in-Some-request.request.now in
    let here : at t.requests slot ≡ Some request = search rules in
    let can : CanSend l t c.args.seat slot tag request = record { within = found.4; first = first; here = here; tag_within = omega (arith, free.within, c.requires.well.sized.tags); tag_free = free.is_free } in
    let was = sent-queue_was l n t c.args.seat slot tag request c.requires.well can in
    let now : c.exchange-3.new.parts.tables ≡ sent_tables t n c.args.seat slot tag = search rules in
    let pool : c.pool-2.result.now.bios ≡ t.bios = c.pool-2.ensures.bios in
    let few : HasFewSectors c.pool-2.result.now.bios = subst HasFewSectors (sym pool) (few_sectors_of l n t c.requires.well) in
    let start : c.range_of_request-range.result.start ≡ first_start t.bios request.bios.items = c.range_of_request-range.ensures.start ∙ ap (λ b. first_start b request.bios.items) pool in
    let count : c.range_of_request-range.result.count ≡ total_count t.bios request.bios.items = c.range_of_request-range.ensures.count few ∙ ap (λ b. total_count b request.bios.items) pool in
    let read : c.range_of_request-range.result ≡ record { start = first_start t.bios request.bios.items; count = total_count t.bios request.bios.items } = (λ i. record { start = start i; count = count i }) in
    let range : c.range_of_request-range.result ≡ range_of (bios_at t.bios request.bios.items) = read ∙ sym (range_is t.bios request.bios.items (request_taken l n t slot request c.requires.well here)) in
    let next = ap meaning now ∙ sent-meaning l n t c.args.seat slot tag request c.requires.well can in
    sent_made l (meaning t) n c.args.room c.args.seat tag (whole t request) ((meaning (sent_tables t n c.args.seat slot tag)).queue c.args.seat) was
    (meaning c.exchange-3.new.parts.tables) c.range_of_request-range.result next range c.if-not-room.false

pub returns-clause-leaves : goal.returns-clause-leaves
returns-clause-leaves c =
    let l = of_sizes c.args.sizes in
    let t = c.args.parts.now.tables in
    let n = c.args.serial in
    let next = c.requires.next in
    let tag = c.args.tag in
    let free = c.requires.free in
    let found = first_found l n t c.args.seat c.requires.well next in
    let slot = c.in-Some.slot in
    let first : first_slot c.args.seat t.links ≡ Some slot = search rules in
    let request : Request = c.in-Some-request.request.now in
    let here : at t.requests slot ≡ Some request = search rules in
    let can : CanSend l t c.args.seat slot tag request = record { within = found.4; first = first; here = here; tag_within = omega (arith, free.within, c.requires.well.sized.tags); tag_free = free.is_free } in
    let was = sent-queue_was l n t c.args.seat slot tag request c.requires.well can in
    let now : c.exchange-3.new.parts.tables ≡ sent_tables t n c.args.seat slot tag = search rules in
    let P : Tables → Type 0 = λ u. WellFormed l (n + 1) u in (
      subst P (sym now) (sent-well l n t c.args.seat slot tag request c.requires.well can),
      omega (arith, c.exchange.ensures.spare, c.exchange-2.ensures.spare, c.exchange-3.ensures.spare, c.in_ok-reserve.ensures.spare),
      omega (
        arith,
        one_more c.reserve.new.self.current c.exchange.new.self.current _ c.exchange.ensures.recorded,
        one_more c.exchange.new.self.current c.exchange-2.new.self.current _ c.exchange-2.ensures.recorded,
        one_more c.exchange-2.new.self.current c.exchange-3.new.self.current _ c.exchange-3.ensures.recorded,
        ap length c.reserve.ensures.current,
      ),
      omega (
        arith,
        one_more c.reserve.new.self.current c.exchange.new.self.current _ c.exchange.ensures.recorded,
        one_more c.exchange.new.self.current c.exchange-2.new.self.current _ c.exchange-2.ensures.recorded,
        one_more c.exchange-2.new.self.current c.exchange-3.new.self.current _ c.exchange-3.ensures.recorded,
        ap length c.reserve.ensures.current,
      ),
    )

pub returns-clause-trail : goal.returns-clause-trail
returns-clause-trail c = λ origin h.
    let P : List Change → Type 0 = λ changes. IsTrail changes c.args.parts.now.tables origin in
    c.exchange-3.ensures.trail origin (c.exchange-2.ensures.trail origin (c.exchange.ensures.trail origin (subst P (sym c.reserve.ensures.current) h)))

pub returns-clause-steps : goal.returns-clause-steps
returns-clause-steps c = c.exchange-3.ensures.steps ∙ c.exchange-2.ensures.steps ∙ c.exchange.ensures.steps ∙ c.in_ok-reserve.ensures.steps
