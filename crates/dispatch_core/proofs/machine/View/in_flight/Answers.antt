use Rattle.std.proofs.Common.{◌≡◌, Some, ◌∙◌, ap, sym, subst, rules}
use Rattle.dispatch_core.proofs.Words.{Request, at, HasFewSectors, first_start, total_count}
use Rattle.plain.specs.Step.{of_sizes}
use Rattle.dispatch_core.proofs.Sectors.{few_sectors_of}
use Rattle.dispatch_core.proofs.Looks.{shown_flight}
use Rattle.dispatch_core.proofs.machine.View.in_flight.Goals as goal

pub returns : goal.returns
returns c = λ n w.
    let t = c.args.self.now.tables in
    let l = of_sizes c.args.self.now.sizes in
    let r : Request = c.in-Some-request.request.now in
    let same : c.machine.inside.parts.tables ≡ t = ap (λ m. m.tables) (c.machine.view_is ∙ c.self.view_is) in
    let tagged : at t.tags c.args.tag ≡ Some c.in-Some.issue = search rules in
    let here : at t.requests c.in-Some.issue.slot ≡ Some r = search rules in
    let pool : c.pool-2.result.now.bios ≡ t.bios = c.pool-2.ensures.bios ∙ ap (λ u. u.bios) same in
    let few : HasFewSectors c.pool-2.result.now.bios = subst HasFewSectors (sym pool) (few_sectors_of l n t w.0) in
    let start : c.range_of_request.result.start ≡ first_start t.bios r.bios.items = c.range_of_request.ensures.start ∙ ap (λ b. first_start b r.bios.items) pool in
    let count : c.range_of_request.result.count ≡ total_count t.bios r.bios.items = c.range_of_request.ensures.count few ∙ ap (λ b. total_count b r.bios.items) pool in
    shown_flight l n t c.args.tag c.in-Some.issue r c.range_of_request.result w.0 tagged here start count
