use Rattle.std.proofs.Common.{◌≡◌, ◌+◌, length, Some, None, subst, sym, ap, ◌∙◌, arith, rules, List}
use Rattle.sector_core.specs.Table.{AllTaken, IsFirstFree}
use Rattle.dispatch_core.proofs.Words.{Request, bios_at, Tables, meaning, range_of, at, WellFormed, sent_again_tables, HasFewSectors, first_start, total_count}
use Rattle.plain.specs.Step.{of_sizes}
use Rattle.plain.specs.Steps.Dispatch.{dispatch}
use Rattle.dispatch_core.proofs.Sectors.{few_sectors_of}
use Rattle.dispatch_core.proofs.NextServed.{range_read}
use Rattle.dispatch_core.proofs.Queues.{whole, no_tag_free, tag_free}
use Rattle.dispatch_core.proofs.SentAgain.{CanSendAgain, again_found, again-list, again-well, again-meaning, again_full, again_late, again_made, again_accepts}
use Rattle.dispatch_core.proofs.Decided.{Answers-err}
use Rattle.dispatch_core.proofs.Recorded.{one_more}
use Rattle.change_record.specs.declared.change.Change.{Change}
use Rattle.change_record.specs.Trail.{IsTrail}
use Rattle.dispatch_core.proofs.dispatch.send_again.Goals as goal

pub returns-in_default-clause-answers : goal.returns-in_default-clause-answers
returns-in_default-clause-answers c =
    let l = of_sizes c.args.sizes in
    let t = c.args.parts.now.tables in
    let n = c.args.serial in
    let slot = c.args.slot in
    let first = c.requires.first in
    let found = again_found l n t slot c.requires.well first in
    let list = again-list l n t slot 0 found.0 c.requires.well first found.1 in
    let all : AllTaken t.tags = search rules in
    sym (again_full l (meaning t) n c.args.room _ _ list (no_tag_free l n t c.requires.well all))

pub returns-then-not-room-clause-answers : goal.returns-then-not-room-clause-answers
returns-then-not-room-clause-answers c =
    let l = of_sizes c.args.sizes in
    let t = c.args.parts.now.tables in
    let n = c.args.serial in
    let slot = c.args.slot in
    let first = c.requires.first in
    let tag = c.in-Some.tag in
    let free : IsFirstFree t.tags tag = search rules in
    let lowest = tag_free l n t tag c.requires.well free in
    let found = again_found l n t slot c.requires.well first in
    let list = again-list l n t slot tag found.0 c.requires.well first found.1 in
    sym (again_late l (meaning t) n c.args.room _ _ list tag lowest c.if-not-room.true)

pub unreachable-requires : goal.unreachable-requires
unreachable-requires c =
    let l = of_sizes c.args.sizes in
    let t = c.args.parts.now.tables in
    let n = c.args.serial in
    let slot = c.args.slot in
    let first = c.requires.first in
    let found = again_found l n t slot c.requires.well first in
    let none : at t.requests slot ≡ None = search rules in
    let some : at t.requests slot ≡ Some found.0 = found.1 in
    cc

pub returns-in_err-reserve-clause-answers : goal.returns-in_err-reserve-clause-answers
returns-in_err-reserve-clause-answers c =
    let l = of_sizes c.args.sizes in
    let t = c.args.parts.now.tables in
    let n = c.args.serial in
    let slot = c.args.slot in
    let first = c.requires.first in
    let tag = c.in-Some.tag in
    let free : IsFirstFree t.tags tag = search rules in
    let lowest = tag_free l n t tag c.requires.well free in
    let request : Request = c.in-Some-request.request.now in
    let here : at t.requests slot ≡ Some request = search rules in
    let list = again-list l n t slot tag request c.requires.well first here in
    Answers-err (λ m. dispatch l m n c.args.room) t t c.from_residual.result (search rules) (again_accepts l (meaning t) n c.args.room _ _ list tag lowest c.if-not-room.false)

pub returns-clause-answers : goal.returns-clause-answers
returns-clause-answers c =
    let l = of_sizes c.args.sizes in
    let t = c.args.parts.now.tables in
    let n = c.args.serial in
    let slot = c.args.slot in
    let first = c.requires.first in
    let tag = c.in-Some.tag in
    let free : IsFirstFree t.tags tag = search rules in
    let lowest = tag_free l n t tag c.requires.well free in
    let request : Request = c.in-Some-request.request.now in
    let here : at t.requests slot ≡ Some request = search rules in
    let list = again-list l n t slot tag request c.requires.well first here in
    let can : CanSendAgain l t slot tag request = record { first = first; here = here; tag_within = omega (arith, free.within, c.requires.well.sized.tags); tag_free = free.is_free } in
    let now : c.exchange-2.new.parts.tables ≡ sent_again_tables t n slot tag = search rules in
    let pool : c.pool-2.result.now.bios ≡ t.bios = c.pool-2.ensures.bios in
    let few : HasFewSectors c.pool-2.result.now.bios = subst HasFewSectors (sym pool) (few_sectors_of l n t c.requires.well) in
    let range : c.range_of_request-range.result ≡ range_of (bios_at t.bios request.bios.items) =
    range_read l n t slot request c.requires.well here c.range_of_request-range.result
    (c.range_of_request-range.ensures.start ∙ ap (λ b. first_start b request.bios.items) pool)
    (c.range_of_request-range.ensures.count few ∙ ap (λ b. total_count b request.bios.items) pool) in
    let next = ap meaning now ∙ again-meaning l n t slot tag request c.requires.well can in
    again_made l (meaning t) n c.args.room (whole t request) (meaning (sent_again_tables t n slot tag)).requeued list tag lowest
    (meaning c.exchange-2.new.parts.tables) c.range_of_request-range.result next range c.if-not-room.false

pub returns-clause-leaves : goal.returns-clause-leaves
returns-clause-leaves c =
    let l = of_sizes c.args.sizes in
    let t = c.args.parts.now.tables in
    let n = c.args.serial in
    let slot = c.args.slot in
    let first = c.requires.first in
    let tag = c.in-Some.tag in
    let free : IsFirstFree t.tags tag = search rules in
    let request : Request = c.in-Some-request.request.now in
    let here : at t.requests slot ≡ Some request = search rules in
    let can : CanSendAgain l t slot tag request = record { first = first; here = here; tag_within = omega (arith, free.within, c.requires.well.sized.tags); tag_free = free.is_free } in
    let now : c.exchange-2.new.parts.tables ≡ sent_again_tables t n slot tag = search rules in
    let P : Tables → Type 0 = λ u. WellFormed l (n + 1) u in (
      subst P (sym now) (again-well l n t slot tag request c.requires.well can),
      omega (arith, c.exchange.ensures.spare, c.exchange-2.ensures.spare, c.in_ok-reserve.ensures.spare),
      omega (
        arith,
        one_more c.reserve.new.self.current c.exchange.new.self.current _ c.exchange.ensures.recorded,
        one_more c.exchange.new.self.current c.exchange-2.new.self.current _ c.exchange-2.ensures.recorded,
        ap length c.reserve.ensures.current,
      ),
      omega (
        arith,
        one_more c.reserve.new.self.current c.exchange.new.self.current _ c.exchange.ensures.recorded,
        one_more c.exchange.new.self.current c.exchange-2.new.self.current _ c.exchange-2.ensures.recorded,
        ap length c.reserve.ensures.current,
      ),
    )

pub returns-clause-trail : goal.returns-clause-trail
returns-clause-trail c = λ origin h.
    let P : List Change → Type 0 = λ changes. IsTrail changes c.args.parts.now.tables origin in
    c.exchange-2.ensures.trail origin (c.exchange.ensures.trail origin (subst P (sym c.reserve.ensures.current) h))

pub returns-clause-steps : goal.returns-clause-steps
returns-clause-steps c = c.exchange-2.ensures.steps ∙ c.exchange.ensures.steps ∙ c.in_ok-reserve.ensures.steps
