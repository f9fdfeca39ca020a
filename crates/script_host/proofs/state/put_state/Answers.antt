use Rattle.std.proofs.Common.{ℕ, List, ◌++◌, codes, ap, ◌∙◌}
use Rattle.std.specs.List.{flat_map}
use Rattle.plain.specs.Lists.{numbers, seats}
use Rattle.plain.specs.Machine.{Plain}
use Rattle.dispatch_core.specs.Running.{plain_of}
use Rattle.host_console.specs.State.{again_text, flight_text, group_text, served_text, taken_text}
use Rattle.script_host.proofs.Told.{on_ok}
use Rattle.script_host.proofs.Line.{line_told}
use Rattle.script_host.proofs.state.put_state.Goals as goal

pub returns : goal.returns
returns c =
    let m : Plain = plain_of c.args.view.now in
    let tags : ℕ = c.args.view.now.sizes.tags in
    let seated : List ℕ = flat_map (taken_text m) seats in
    let again : List ℕ = flat_map (again_text m) m.requeued in
    let flying : List ℕ = flight_text tags m in
    let service : List ℕ = served_text m.bfq.in_service in
    let groups : List ℕ = flat_map (group_text m) (numbers 0 32) in
    let one = c.in_ok-put_head.ensures in
    let two = c.in_ok-put_seats.ensures ∙ ap (λ t. t ++ seated) one in
    let three = c.in_ok-put_requeued.ensures ∙ ap (λ t. t ++ (codes " requeued" ++ again)) two in
    let four = c.in_ok-put_flight.ensures ∙ ap (λ t. t ++ (codes " flight" ++ flying)) three in
    let five = c.in_ok-put_served.ensures ∙ (ap (λ s. c.put_flight.new.out.items ++ served_text s) c.in_service.ensures ∙ ap (λ t. t ++ service) four) in
    on_ok c.put_groups.result (λ put. line_told tags m c.args.out.now.items c.put_groups.new.out.items (put ∙ ap (λ t. t ++ groups) five)) c.put_groups.ensures
