use Rattle.std.proofs.Common.{◌≡◌, None, Some, ◌∙◌, ap, sym, rules}
use Rattle.std.specs.Option.{option_and_then}
use Rattle.dispatch_core.proofs.Words.{whole_at, Tables, nth_slot}
use Rattle.plain.specs.Step.{of_sizes}
use Rattle.dispatch_core.proofs.Listing.{queued_at}
use Rattle.dispatch_core.proofs.Places.{short_queue}
use Rattle.dispatch_core.proofs.machine.View.queued.Goals as goal

pub returns-in_err-slot-clause-request : goal.returns-in_err-slot-clause-request
returns-in_err-slot-clause-request c = λ n w.
    let t : Tables = c.args.self.now.tables in
    let same : c.machine.inside.parts.tables ≡ t = ap (λ m. m.tables) (c.machine.view_is ∙ c.self.view_is) in
    let none : c.nth.result ≡ None = search rules in
    let gone : c.from_residual.result ≡ None = search rules in
    let found : c.nth.result ≡ nth_slot c.args.seat t.links c.args.place = c.nth.ensures ∙ ap (λ links. nth_slot c.args.seat links c.args.place) (c.queues.ensures ∙ ap (λ u. u.links) same) in
    gone ∙ ap (option_and_then (whole_at t.requests t.bios)) (sym none) ∙ queued_at (of_sizes c.args.self.now.sizes) n t c.args.seat c.args.place c.nth.result w.0 found

pub returns-clause-request : goal.returns-clause-request
returns-clause-request c = λ n w.
    let t : Tables = c.args.self.now.tables in
    let same : c.machine.inside.parts.tables ≡ t = ap (λ m. m.tables) (c.machine.view_is ∙ c.self.view_is) in
    let some : c.nth.result ≡ Some c.in_ok-slot.slot = search rules in
    let found : c.nth.result ≡ nth_slot c.args.seat t.links c.args.place = c.nth.ensures ∙ ap (λ links. nth_slot c.args.seat links c.args.place) (c.queues.ensures ∙ ap (λ u. u.links) same) in
    c.listed.ensures ∙ ap (option_and_then (whole_at t.requests t.bios)) (sym some) ∙ queued_at (of_sizes c.args.self.now.sizes) n t c.args.seat c.args.place c.nth.result w.0 found

pub returns-in_err-slot-clause-few : goal.returns-in_err-slot-clause-few
returns-in_err-slot-clause-few c = λ n w.
    short_queue (of_sizes c.args.self.now.sizes) n c.args.self.now.tables c.args.seat w.0

pub returns-clause-few : goal.returns-clause-few
returns-clause-few c = λ n w.
    short_queue (of_sizes c.args.self.now.sizes) n c.args.self.now.tables c.args.seat w.0
