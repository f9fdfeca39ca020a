use Rattle.std.proofs.Common.{◌≡◌, None, Some, ◌∙◌, ap, sym, subst, rules}
use Rattle.dispatch_core.proofs.Words.{Seat, Tables, Request, nth_slot, at, HasFewSectors, first_start, total_count}
use Rattle.plain.specs.Step.{of_sizes}
use Rattle.plain.specs.declared.view.RequestView.TheVariants.{Queued}
use Rattle.dispatch_core.proofs.Sectors.{few_sectors_of}
use Rattle.dispatch_core.proofs.Places.{request_view-past, request_view-none, request_view-queued, short_queue}
use Rattle.dispatch_core.proofs.QueueFacts.{some_of}
use Rattle.dispatch_core.proofs.machine.View.request.Goals as goal

pub returns-then-is_none-clause-few : goal.returns-then-is_none-clause-few
returns-then-is_none-clause-few c = λ n w.
    short_queue (of_sizes c.args.self.now.sizes) n c.args.self.now.tables c.args.seat w.0

pub returns-in_default-clause-shown : goal.returns-in_default-clause-shown
returns-in_default-clause-shown c = λ n w.
    let t : Tables = c.args.self.now.tables in
    let same : c.machine.inside.parts.tables ≡ t = ap (λ m. m.tables) (c.machine.view_is ∙ c.self.view_is) in
    let sits : (s : Seat) × (c.seat.result ≡ Some s) = some_of c.seat.result (search rules) in
    let taken : at t.seats c.args.seat ≡ Some sits.0 = ap (λ u. at u.seats c.args.seat) (sym same) ∙ sym c.seat.ensures ∙ sits.1 in
    let none : None ≡ nth_slot c.args.seat t.links c.args.place = sym c.in_default.is ∙ c.nth.ensures ∙ ap (λ links. nth_slot c.args.seat links c.args.place) (c.queues.ensures ∙ ap (λ u. u.links) same) in
    request_view-past (of_sizes c.args.self.now.sizes) n t c.args.seat c.args.place sits.0 w.0 taken none

pub returns-in_default-clause-few : goal.returns-in_default-clause-few
returns-in_default-clause-few c = λ n w.
    short_queue (of_sizes c.args.self.now.sizes) n c.args.self.now.tables c.args.seat w.0

pub returns-in_default-request-clause-shown : goal.returns-in_default-request-clause-shown
returns-in_default-request-clause-shown c = λ n w.
    let t : Tables = c.args.self.now.tables in
    let same : c.machine.inside.parts.tables ≡ t = ap (λ m. m.tables) (c.machine.view_is ∙ c.self.view_is) in
    let sits : (s : Seat) × (c.seat.result ≡ Some s) = some_of c.seat.result (search rules) in
    let taken : at t.seats c.args.seat ≡ Some sits.0 = ap (λ u. at u.seats c.args.seat) (sym same) ∙ sym c.seat.ensures ∙ sits.1 in
    let found : Some c.in-Some.slot ≡ nth_slot c.args.seat t.links c.args.place = sym c.in-Some.is ∙ c.nth.ensures ∙ ap (λ links. nth_slot c.args.seat links c.args.place) (c.queues.ensures ∙ ap (λ u. u.links) same) in
    let none : at t.requests c.in-Some.slot ≡ None = search rules in
    request_view-none (of_sizes c.args.self.now.sizes) n t c.args.seat c.args.place sits.0 c.in-Some.slot w.0 taken found none

pub returns-in_default-request-clause-few : goal.returns-in_default-request-clause-few
returns-in_default-request-clause-few c = λ n w.
    short_queue (of_sizes c.args.self.now.sizes) n c.args.self.now.tables c.args.seat w.0

pub returns-clause-shown : goal.returns-clause-shown
returns-clause-shown c = λ n w.
    let t : Tables = c.args.self.now.tables in
    let l = of_sizes c.args.self.now.sizes in
    let r : Request = c.in-Some-request.request.now in
    let same : c.machine.inside.parts.tables ≡ t = ap (λ m. m.tables) (c.machine.view_is ∙ c.self.view_is) in
    let sits : (s : Seat) × (c.seat.result ≡ Some s) = some_of c.seat.result (search rules) in
    let taken : at t.seats c.args.seat ≡ Some sits.0 = ap (λ u. at u.seats c.args.seat) (sym same) ∙ sym c.seat.ensures ∙ sits.1 in
    let found : Some c.in-Some.slot ≡ nth_slot c.args.seat t.links c.args.place = sym c.in-Some.is ∙ c.nth.ensures ∙ ap (λ links. nth_slot c.args.seat links c.args.place) (c.queues.ensures ∙ ap (λ u. u.links) same) in
    let here : at t.requests c.in-Some.slot ≡ Some r = search rules in
    let pool : c.pool-2.result.now.bios ≡ t.bios = c.pool-2.ensures.bios ∙ ap (λ u. u.bios) same in
    let few : HasFewSectors c.pool-2.result.now.bios = subst HasFewSectors (sym pool) (few_sectors_of l n t w.0) in
    let start : c.range_of_request.result.start ≡ first_start t.bios r.bios.items = c.range_of_request.ensures.start ∙ ap (λ b. first_start b r.bios.items) pool in
    let count : c.range_of_request.result.count ≡ total_count t.bios r.bios.items = c.range_of_request.ensures.count few ∙ ap (λ b. total_count b r.bios.items) pool in
    ap (Queued c.range_of_request.result) c.len.ensures.value
    ∙ request_view-queued l n t c.args.seat c.args.place sits.0 c.in-Some.slot r c.range_of_request.result w.0 taken found here start count

pub returns-clause-few : goal.returns-clause-few
returns-clause-few c = λ n w.
    short_queue (of_sizes c.args.self.now.sizes) n c.args.self.now.tables c.args.seat w.0
