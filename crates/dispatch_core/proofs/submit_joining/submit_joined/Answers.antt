use Rattle.std.proofs.Common.{◌≡◌, ◌+◌, length, Some, None, subst, sym, ap, ◌∙◌, arith, rules}
use Rattle.dispatch_core.proofs.Words.{Request, Tables, bios_at, Plain, meaning, submit, submitted, at, WellFormed, joined_tables}
use Rattle.plain.specs.declared.answer.Answer.{Answer}
use Rattle.plain.specs.declared.answer.Answer.TheVariants.{Accepted}
use Rattle.plain.specs.declared.answer.Reply.TheVariants.{Queued}
use Rattle.plain.specs.Step.{of_sizes, MayGiveWay}
use Rattle.plain.specs.Tests.{accepted}
use Rattle.dispatch_core.specs.Counts.{submit_exchanges}
use Rattle.dispatch_core.proofs.Sides.{CanJoin}
use Rattle.dispatch_core.proofs.Sectors.{request_taken}
use Rattle.dispatch_core.proofs.Written.{length-bios_at}
use Rattle.dispatch_core.proofs.Merges.{merge_linked, merge_request, merge_some}
use Rattle.dispatch_core.proofs.Laws.{joined-well, joined-meaning}
use Rattle.dispatch_core.proofs.Decided.{submit_joins, Answers-err}
use Rattle.dispatch_core.proofs.submit_joining.submit_joined.Goals as goal

pub returns-then-not-room-clause-answers : goal.returns-then-not-room-clause-answers
returns-then-not-room-clause-answers c =
    let l = of_sizes c.args.sizes in
    let t = c.args.parts.now.tables in
    let may = c.requires.may in
    let linked = merge_linked t c.args.seat c.args.session c.args.op c.args.range c.args.found c.requires.joins in
    let queued_here = c.requires.well.placed.link c.args.found.slot linked.0 linked.1 in
    let some = merge_some t c.args.seat c.args.session c.args.op c.args.range c.args.found c.requires.joins queued_here.request queued_here.here in
    let goes = submit_joins l (meaning t) c.args.serial c.args.room c.args.seat c.args.session c.args.op c.args.range c.args.payload.now c.args.entry may.within may.sits may.stays may.session_is may.some_sectors may.few_sectors may.payload_fits may.in_image may.thawed may.few _ some in
    sym (goes ∙ ap (λ b. accepted b (meaning t) (submitted (meaning t) c.args.serial c.args.seat c.args.session c.args.op c.args.range c.args.payload.now) (Queued c.args.serial)) c.if-not-room.true)

pub unreachable-requires : goal.unreachable-requires
unreachable-requires c =
    let t = c.args.parts.now.tables in
    let linked = merge_linked t c.args.seat c.args.session c.args.op c.args.range c.args.found c.requires.joins in
    let queued_here = c.requires.well.placed.link c.args.found.slot linked.0 linked.1 in
    let here : at t.requests c.args.found.slot ≡ Some queued_here.request = queued_here.here in
    let none : at t.requests c.args.found.slot ≡ None = search rules in
    let both : None ≡ Some queued_here.request = sym none ∙ here in
    absurd cc

pub with_slot-requires : goal.with_slot-requires
with_slot-requires c =
    let l = of_sizes c.args.sizes in
    let t = c.args.parts.now.tables in
    let r : Request = c.in-Some.request.now in
    let here : at t.requests c.args.found.slot ≡ Some r = search rules in
    let joined = merge_request t c.args.seat c.args.session c.args.op c.args.range c.args.found c.requires.joins r here in
    let same : length (bios_at t.bios r.bios.items) ≡ length r.bios.items = length-bios_at t.bios r.bios.items (request_taken l c.args.serial t c.args.found.slot r c.requires.well here) in
    omega (arith, same, joined.few_bios)

pub returns-in_err-request-clause-answers : goal.returns-in_err-request-clause-answers
returns-in_err-request-clause-answers c =
    let l = of_sizes c.args.sizes in
    let t = c.args.parts.now.tables in
    let may = c.requires.may in
    let r : Request = c.in-Some.request.now in
    let here : at t.requests c.args.found.slot ≡ Some r = search rules in
    let some = merge_some t c.args.seat c.args.session c.args.op c.args.range c.args.found c.requires.joins r here in
    let goes = submit_joins l (meaning t) c.args.serial c.args.room c.args.seat c.args.session c.args.op c.args.range c.args.payload.now c.args.entry may.within may.sits may.stays may.session_is may.some_sectors may.few_sectors may.payload_fits may.in_image may.thawed may.few _ some in
    let accepts : submit l (meaning t) c.args.serial c.args.room c.args.seat c.args.session c.args.op c.args.range c.args.payload.now
    ≡ (submitted (meaning t) c.args.serial c.args.seat c.args.session c.args.op c.args.range c.args.payload.now, Accepted (Queued c.args.serial)) =
    goes ∙ ap (λ b. accepted b (meaning t) (submitted (meaning t) c.args.serial c.args.seat c.args.session c.args.op c.args.range c.args.payload.now) (Queued c.args.serial)) c.if-not-room.false in
    let P : Plain × Answer → Type 0 = λ o. MayGiveWay o.1 in
    Answers-err (λ m. submit l m c.args.serial c.args.room c.args.seat c.args.session c.args.op c.args.range c.args.payload.now) t t c.from_residual.result (search rules) (subst P (sym accepts) tt)

pub returns-in_err-bio-clause-answers : goal.returns-in_err-bio-clause-answers
returns-in_err-bio-clause-answers c =
    let l = of_sizes c.args.sizes in
    let t = c.args.parts.now.tables in
    let may = c.requires.may in
    let r : Request = c.in-Some.request.now in
    let here : at t.requests c.args.found.slot ≡ Some r = search rules in
    let some = merge_some t c.args.seat c.args.session c.args.op c.args.range c.args.found c.requires.joins r here in
    let goes = submit_joins l (meaning t) c.args.serial c.args.room c.args.seat c.args.session c.args.op c.args.range c.args.payload.now c.args.entry may.within may.sits may.stays may.session_is may.some_sectors may.few_sectors may.payload_fits may.in_image may.thawed may.few _ some in
    let accepts : submit l (meaning t) c.args.serial c.args.room c.args.seat c.args.session c.args.op c.args.range c.args.payload.now
    ≡ (submitted (meaning t) c.args.serial c.args.seat c.args.session c.args.op c.args.range c.args.payload.now, Accepted (Queued c.args.serial)) =
    goes ∙ ap (λ b. accepted b (meaning t) (submitted (meaning t) c.args.serial c.args.seat c.args.session c.args.op c.args.range c.args.payload.now) (Queued c.args.serial)) c.if-not-room.false in
    let P : Plain × Answer → Type 0 = λ o. MayGiveWay o.1 in
    Answers-err (λ m. submit l m c.args.serial c.args.room c.args.seat c.args.session c.args.op c.args.range c.args.payload.now) t t c.from_residual-in_err-bio.result (search rules) (subst P (sym accepts) tt)

pub returns-in_err-reserve-clause-answers : goal.returns-in_err-reserve-clause-answers
returns-in_err-reserve-clause-answers c =
    let l = of_sizes c.args.sizes in
    let t = c.args.parts.now.tables in
    let may = c.requires.may in
    let r : Request = c.in-Some.request.now in
    let here : at t.requests c.args.found.slot ≡ Some r = search rules in
    let some = merge_some t c.args.seat c.args.session c.args.op c.args.range c.args.found c.requires.joins r here in
    let goes = submit_joins l (meaning t) c.args.serial c.args.room c.args.seat c.args.session c.args.op c.args.range c.args.payload.now c.args.entry may.within may.sits may.stays may.session_is may.some_sectors may.few_sectors may.payload_fits may.in_image may.thawed may.few _ some in
    let accepts : submit l (meaning t) c.args.serial c.args.room c.args.seat c.args.session c.args.op c.args.range c.args.payload.now
    ≡ (submitted (meaning t) c.args.serial c.args.seat c.args.session c.args.op c.args.range c.args.payload.now, Accepted (Queued c.args.serial)) =
    goes ∙ ap (λ b. accepted b (meaning t) (submitted (meaning t) c.args.serial c.args.seat c.args.session c.args.op c.args.range c.args.payload.now) (Queued c.args.serial)) c.if-not-room.false in
    let P : Plain × Answer → Type 0 = λ o. MayGiveWay o.1 in
    Answers-err (λ m. submit l m c.args.serial c.args.room c.args.seat c.args.session c.args.op c.args.range c.args.payload.now) t t c.from_residual-in_err-reserve.result (search rules) (subst P (sym accepts) tt)

pub returns-clause-answers : goal.returns-clause-answers
returns-clause-answers c =
    let l = of_sizes c.args.sizes in
    let t = c.args.parts.now.tables in
    let may = c.requires.may in
    let r : Request = c.in-Some.request.now in
    let here : at t.requests c.args.found.slot ≡ Some r = search rules in
    let joined = merge_request t c.args.seat c.args.session c.args.op c.args.range c.args.found c.requires.joins r here in
    let linked = merge_linked t c.args.seat c.args.session c.args.op c.args.range c.args.found c.requires.joins in
    let some = merge_some t c.args.seat c.args.session c.args.op c.args.range c.args.found c.requires.joins r here in
    let goes = submit_joins l (meaning t) c.args.serial c.args.room c.args.seat c.args.session c.args.op c.args.range c.args.payload.now c.args.entry may.within may.sits may.stays may.session_is may.some_sectors may.few_sectors may.payload_fits may.in_image may.thawed may.few _ some in
    let accepts : submit l (meaning t) c.args.serial c.args.room c.args.seat c.args.session c.args.op c.args.range c.args.payload.now
    ≡ (submitted (meaning t) c.args.serial c.args.seat c.args.session c.args.op c.args.range c.args.payload.now, Accepted (Queued c.args.serial)) =
    goes ∙ ap (λ b. accepted b (meaning t) (submitted (meaning t) c.args.serial c.args.seat c.args.session c.args.op c.args.range c.args.payload.now) (Queued c.args.serial)) c.if-not-room.false in
    let can : CanJoin l t c.args.seat c.args.entry c.args.found.slot c.args.place c.args.session c.args.op c.args.range c.args.payload.now r = record {
      may = may;
      here = here;
      session_is = joined.session_is;
      op_is = joined.op_is;
      link = linked.0;
      linked = linked.1;
      link_seat = linked.2;
    } in
    let now : c.put_bio.new.parts.tables ≡ joined_tables t c.args.serial c.args.seat c.args.entry c.args.found.slot c.args.place r c.args.found.front c.args.range c.args.payload.now = search rules in
    sym (accepts ∙ ap (λ m. (m, Accepted (Queued c.args.serial))) (sym (ap meaning now ∙ joined-meaning l c.args.serial t c.args.seat c.args.entry c.args.place c.args.session c.args.op c.args.range c.args.payload.now r c.args.found c.requires.well can c.requires.joins)))

pub returns-clause-leaves : goal.returns-clause-leaves
returns-clause-leaves c =
    let l = of_sizes c.args.sizes in
    let t = c.args.parts.now.tables in
    let may = c.requires.may in
    let r : Request = c.in-Some.request.now in
    let here : at t.requests c.args.found.slot ≡ Some r = search rules in
    let joined = merge_request t c.args.seat c.args.session c.args.op c.args.range c.args.found c.requires.joins r here in
    let linked = merge_linked t c.args.seat c.args.session c.args.op c.args.range c.args.found c.requires.joins in
    let some = merge_some t c.args.seat c.args.session c.args.op c.args.range c.args.found c.requires.joins r here in
    let can : CanJoin l t c.args.seat c.args.entry c.args.found.slot c.args.place c.args.session c.args.op c.args.range c.args.payload.now r = record {
      may = may;
      here = here;
      session_is = joined.session_is;
      op_is = joined.op_is;
      link = linked.0;
      linked = linked.1;
      link_seat = linked.2;
    } in
    let now : c.put_bio.new.parts.tables ≡ joined_tables t c.args.serial c.args.seat c.args.entry c.args.found.slot c.args.place r c.args.found.front c.args.range c.args.payload.now = search rules in
    let P : Tables → Type 0 = λ u. WellFormed l (c.args.serial + 1) u in (
      subst P (sym now) (joined-well l c.args.serial t c.args.seat c.args.entry c.args.found.slot c.args.place c.args.session c.args.op c.args.range c.args.payload.now r c.args.found.front c.requires.well can),
      omega (arith, c.put_bio.ensures.spare, c.in_ok-reserve.ensures.spare),
      omega (arith, c.put_bio.ensures.count, ap length c.reserve.ensures.current, ap submit_exchanges some),
      omega (arith, c.put_bio.ensures.count, ap length c.reserve.ensures.current, ap submit_exchanges some),
    )
