use Rattle.std.proofs.Common.{◌≡◌, ◌+◌, ◌&&◌, List, cond, length, None, Some, refl, subst, sym, ap, ◌∙◌, arith, rules}
use Rattle.sector_core.specs.Table.{AllTaken}
use Rattle.change_record.specs.declared.change.Change.{Change}
use Rattle.dispatch_core.proofs.Words.{Tables, Plain, meaning, bfq_of, whole_at, submit, submitted, needs_request, woken, at, WellFormed, submitted_tables, is_empty, queue_slots, activate}
use Rattle.change_record.specs.Trail.{IsTrail}
use Rattle.plain.specs.declared.answer.Answer.{Answer}
use Rattle.plain.specs.declared.answer.Answer.TheVariants.{Accepted, Refused}
use Rattle.plain.specs.declared.answer.Reply.TheVariants.{Queued}
use Rattle.plain.specs.Step.{of_sizes, MayGiveWay}
use Rattle.dispatch_core.specs.Counts.{submit_exchanges}
use Rattle.dispatch_core.proofs.Sides.{CanSubmit}
use Rattle.dispatch_core.proofs.Queues.{requests_full, requests_free}
use Rattle.dispatch_core.proofs.Laws.{submitted-well, submitted-meaning}
use Rattle.dispatch_core.proofs.Decided.{submit_full, submit_goes, not_both, needs_full, gives_way, if_late, if_made, if_full, woken_by, Answers-err}
use Rattle.dispatch_core.proofs.Merges.{merge_none}
use Rattle.plain.specs.declared.answer.Reply.{Reply}
use Rattle.plain.specs.declared.answer.Code.TheVariants.{VtimeFull}
use Rattle.plain.specs.Entities.{is_bfq}
use Rattle.std.specs.Option.{option_map}
use Rattle.dispatch_core.proofs.QueueLists.{queue_empty}
use Rattle.dispatch_core.proofs.QueueFacts.{linked_some}
use Rattle.dispatch_core.proofs.Ruling.{served-meaning, served-well}
use Rattle.dispatch_core.proofs.Waking.{woken-slot}
use Rattle.dispatch_core.proofs.Recorded.{not_begun, allowed}
use Rattle.dispatch_core.proofs.submit_alone.submit_new.Goals as goal

pub returns-in_default-clause-answers : goal.returns-in_default-clause-answers
returns-in_default-clause-answers c =
    let l = of_sizes c.args.sizes in
    let t = c.args.parts.now.tables in
    let entry = c.args.entry in
    let may = c.requires.may in
    let alone = merge_none t c.args.seat c.args.session c.args.op c.args.range c.requires.alone in
    let all : AllTaken t.requests = search rules in
    sym (submit_full l (meaning t) c.args.serial c.args.room c.args.seat c.args.session c.args.op c.args.range c.args.payload.now entry may.within may.sits may.stays may.session_is may.some_sectors may.few_sectors may.payload_fits may.in_image may.thawed may.few (needs_full (meaning t) c.args.seat c.args.session c.args.op c.args.range _ alone (requests_full l c.args.serial t c.requires.well all)))

pub returns-then-not-room-clause-answers : goal.returns-then-not-room-clause-answers
returns-then-not-room-clause-answers c =
    let l = of_sizes c.args.sizes in
    let t = c.args.parts.now.tables in
    let entry = c.args.entry in
    let may = c.requires.may in
    let alone = merge_none t c.args.seat c.args.session c.args.op c.args.range c.requires.alone in
    let free : at t.requests c.in-Some.slot ≡ None = search rules in
    let room_left = not_both (needs_request (meaning t) c.args.seat c.args.session c.args.op c.args.range) _ (requests_free l c.args.serial t c.in-Some.slot c.requires.well (search rules)) in
    let goes = submit_goes l (meaning t) c.args.serial c.args.room c.args.seat c.args.session c.args.op c.args.range c.args.payload.now entry may.within may.sits may.stays may.session_is may.some_sectors may.few_sectors may.payload_fits may.in_image may.thawed may.few room_left in
    sym (goes ∙ if_late c.args.room (meaning t) _ c.if-not-room.true)

pub returns-in_err-bio-clause-answers : goal.returns-in_err-bio-clause-answers
returns-in_err-bio-clause-answers c =
    let l = of_sizes c.args.sizes in
    let t = c.args.parts.now.tables in
    let entry = c.args.entry in
    let may = c.requires.may in
    let alone = merge_none t c.args.seat c.args.session c.args.op c.args.range c.requires.alone in
    let free : at t.requests c.in-Some.slot ≡ None = search rules in
    let room_left = not_both (needs_request (meaning t) c.args.seat c.args.session c.args.op c.args.range) _ (requests_free l c.args.serial t c.in-Some.slot c.requires.well (search rules)) in
    let goes = submit_goes l (meaning t) c.args.serial c.args.room c.args.seat c.args.session c.args.op c.args.range c.args.payload.now entry may.within may.sits may.stays may.session_is may.some_sectors may.few_sectors may.payload_fits may.in_image may.thawed may.few room_left in
    let P : Plain × Answer → Type 0 = λ o. MayGiveWay o.1 in
    Answers-err (λ m. submit l m c.args.serial c.args.room c.args.seat c.args.session c.args.op c.args.range c.args.payload.now) t t c.from_residual.result (search rules) (subst P (sym goes) (gives_way c.args.room (meaning t) _ c.if-not-room.false))

pub returns-in_err-request-clause-answers : goal.returns-in_err-request-clause-answers
returns-in_err-request-clause-answers c =
    let l = of_sizes c.args.sizes in
    let t = c.args.parts.now.tables in
    let entry = c.args.entry in
    let may = c.requires.may in
    let alone = merge_none t c.args.seat c.args.session c.args.op c.args.range c.requires.alone in
    let free : at t.requests c.in-Some.slot ≡ None = search rules in
    let room_left = not_both (needs_request (meaning t) c.args.seat c.args.session c.args.op c.args.range) _ (requests_free l c.args.serial t c.in-Some.slot c.requires.well (search rules)) in
    let goes = submit_goes l (meaning t) c.args.serial c.args.room c.args.seat c.args.session c.args.op c.args.range c.args.payload.now entry may.within may.sits may.stays may.session_is may.some_sectors may.few_sectors may.payload_fits may.in_image may.thawed may.few room_left in
    let P : Plain × Answer → Type 0 = λ o. MayGiveWay o.1 in
    Answers-err (λ m. submit l m c.args.serial c.args.room c.args.seat c.args.session c.args.op c.args.range c.args.payload.now) t t c.from_residual-in_err-request.result (search rules) (subst P (sym goes) (gives_way c.args.room (meaning t) _ c.if-not-room.false))

pub returns-in_err-reserve-clause-answers : goal.returns-in_err-reserve-clause-answers
returns-in_err-reserve-clause-answers c =
    let l = of_sizes c.args.sizes in
    let t = c.args.parts.now.tables in
    let entry = c.args.entry in
    let may = c.requires.may in
    let alone = merge_none t c.args.seat c.args.session c.args.op c.args.range c.requires.alone in
    let free : at t.requests c.in-Some.slot ≡ None = search rules in
    let room_left = not_both (needs_request (meaning t) c.args.seat c.args.session c.args.op c.args.range) _ (requests_free l c.args.serial t c.in-Some.slot c.requires.well (search rules)) in
    let goes = submit_goes l (meaning t) c.args.serial c.args.room c.args.seat c.args.session c.args.op c.args.range c.args.payload.now entry may.within may.sits may.stays may.session_is may.some_sectors may.few_sectors may.payload_fits may.in_image may.thawed may.few room_left in
    let P : Plain × Answer → Type 0 = λ o. MayGiveWay o.1 in
    Answers-err (λ m. submit l m c.args.serial c.args.room c.args.seat c.args.session c.args.op c.args.range c.args.payload.now) t t c.from_residual-in_err-reserve.result (search rules) (subst P (sym goes) (gives_way c.args.room (meaning t) _ c.if-not-room.false))

pub returns-in-Ok-clause-answers : goal.returns-in-Ok-clause-answers
returns-in-Ok-clause-answers c =
    let l = of_sizes c.args.sizes in
    let n = c.args.serial in
    let t = c.args.parts.now.tables in
    let m = meaning t in
    let seat = c.args.seat in
    let entry = c.args.entry in
    let may = c.requires.may in
    let alone = merge_none t seat c.args.session c.args.op c.args.range c.requires.alone in
    let free : at t.requests c.in-Some.slot ≡ None = search rules in
    let can : CanSubmit l t seat entry c.in-Some.slot c.args.place c.args.session c.args.op c.args.range c.args.payload.now = record {
      within = may.within;
      sits = may.sits;
      session_is = may.session_is;
      few = may.few;
      slot_within = search rules;
      slot_free = free;
      place_of = may.place_of;
      place_free = may.place_free;
      some_sectors = may.some_sectors;
      few_sectors = may.few_sectors;
      in_image = may.in_image;
      payload_fits = may.payload_fits;
    } in
    let u = c.insert.new.parts.tables in
    let now : u ≡ submitted_tables t n seat entry c.in-Some.slot c.args.place c.args.session c.args.op c.args.range c.args.payload.now = search rules in
    let room_left = not_both (needs_request m seat c.args.session c.args.op c.args.range) _ (requests_free l n t c.in-Some.slot c.requires.well (search rules)) in
    let goes = submit_goes l m n c.args.room seat c.args.session c.args.op c.args.range c.args.payload.now entry may.within may.sits may.stays may.session_is may.some_sectors may.few_sectors may.payload_fits may.in_image may.thawed may.few room_left in
    let sub = submitted m n seat c.args.session c.args.op c.args.range c.args.payload.now in
    let reply : Plain → Plain × Reply = λ next. (next, Queued n) in
    let wakes : c.is_woken-wakes.result ≡ (is_bfq m.scheduler && is_empty (m.queue seat)) =
    c.is_woken-wakes.ensures ∙ ap (λ b. is_bfq m.scheduler && b) (sym (queue_empty (whole_at t.requests t.bios) seat t.links (linked_some n t c.requires.well.placed))) in
    let same : bfq_of u ≡ m.bfq = ap bfq_of now in
    let asked : cond c.is_woken-wakes.result (activate seat m.bfq) (Some m.bfq) ≡ cond c.is_woken-wakes.result (activate seat (bfq_of u)) (Some (bfq_of u)) =
    ap (λ b. cond c.is_woken-wakes.result (activate seat b) (Some b)) (sym same) in
    let v = c.wake.new.parts.tables in
    let woke : woken m seat sub ≡ Some (let p : Plain = record sub { bfq = bfq_of v } in p) =
    woken_by m seat sub c.is_woken-wakes.result (Some (bfq_of v)) wakes refl (asked ∙ c.in-Ok.ensures.made) in
    let after : meaning v ≡ record sub { bfq = bfq_of v } =
    served-meaning u v c.in-Ok.ensures.others
    ∙ ap (λ (x : Plain). let p : Plain = record x { bfq = bfq_of v } in p)
    (ap meaning now ∙ submitted-meaning l n t seat entry c.in-Some.slot c.args.place c.args.session c.args.op c.args.range c.args.payload.now c.requires.well can alone) in
    sym (goes ∙ if_made c.args.room m _ _ (Queued n) c.if-not-room.false (ap (option_map reply) woke) ∙ ap (λ x. (x, Accepted (Queued n))) (sym after))

pub returns-in-Ok-clause-leaves : goal.returns-in-Ok-clause-leaves
returns-in-Ok-clause-leaves c =
    let l = of_sizes c.args.sizes in
    let n = c.args.serial in
    let t = c.args.parts.now.tables in
    let m = meaning t in
    let seat = c.args.seat in
    let entry = c.args.entry in
    let may = c.requires.may in
    let alone = merge_none t seat c.args.session c.args.op c.args.range c.requires.alone in
    let free : at t.requests c.in-Some.slot ≡ None = search rules in
    let can : CanSubmit l t seat entry c.in-Some.slot c.args.place c.args.session c.args.op c.args.range c.args.payload.now = record {
      within = may.within;
      sits = may.sits;
      session_is = may.session_is;
      few = may.few;
      slot_within = search rules;
      slot_free = free;
      place_of = may.place_of;
      place_free = may.place_free;
      some_sectors = may.some_sectors;
      few_sectors = may.few_sectors;
      in_image = may.in_image;
      payload_fits = may.payload_fits;
    } in
    let u = c.insert.new.parts.tables in
    let now : u ≡ submitted_tables t n seat entry c.in-Some.slot c.args.place c.args.session c.args.op c.args.range c.args.payload.now = search rules in
    let v = c.wake.new.parts.tables in
    let P : Tables → Type 0 = λ x. WellFormed l (n + 1) x in
    let well = subst P (sym now) (submitted-well l n t seat entry c.in-Some.slot c.args.place c.args.session c.args.op c.args.range c.args.payload.now c.requires.well can) in
    let slot : v.in_service ≡ u.in_service = woken-slot c.is_woken-wakes.result seat (bfq_of u) (bfq_of v) c.in-Ok.ensures.made in
    let more = allowed c.is_woken-wakes.result (is_bfq t.scheduler) (is_empty (queue_slots seat t.links)) 5 c.is_woken-wakes.ensures in (
      served-well l (n + 1) u v c.in-Ok.ensures.others well c.in-Ok.ensures.sized c.in-Ok.ensures.bounded (λ s e. well.young s (sym slot ∙ e)),
      omega (arith, c.in-Ok.ensures.spare, c.insert.ensures.spare, c.in_ok-reserve.ensures.spare),
      omega (arith, c.in-Ok.ensures.some, c.insert.ensures.count, ap length c.reserve.ensures.current, ap submit_exchanges alone),
      omega (arith, more, c.in-Ok.ensures.few, c.insert.ensures.count, ap length c.reserve.ensures.current, ap submit_exchanges alone),
    )

pub abandon-requires : goal.abandon-requires
abandon-requires c =
    let t = c.args.parts.now.tables in
    let begun = not_begun c.reserve.new.self.current t (c.reserve.ensures.current ∙ c.requires.idle) in
    let trail = c.in-Err.ensures.trail t (c.insert.ensures.trail t begun) in
    trail.fits

pub returns-in-Err-clause-answers : goal.returns-in-Err-clause-answers
returns-in-Err-clause-answers c =
    let l = of_sizes c.args.sizes in
    let n = c.args.serial in
    let t = c.args.parts.now.tables in
    let m = meaning t in
    let seat = c.args.seat in
    let entry = c.args.entry in
    let may = c.requires.may in
    let alone = merge_none t seat c.args.session c.args.op c.args.range c.requires.alone in
    let free : at t.requests c.in-Some.slot ≡ None = search rules in
    let can : CanSubmit l t seat entry c.in-Some.slot c.args.place c.args.session c.args.op c.args.range c.args.payload.now = record {
      within = may.within;
      sits = may.sits;
      session_is = may.session_is;
      few = may.few;
      slot_within = search rules;
      slot_free = free;
      place_of = may.place_of;
      place_free = may.place_free;
      some_sectors = may.some_sectors;
      few_sectors = may.few_sectors;
      in_image = may.in_image;
      payload_fits = may.payload_fits;
    } in
    let u = c.insert.new.parts.tables in
    let now : u ≡ submitted_tables t n seat entry c.in-Some.slot c.args.place c.args.session c.args.op c.args.range c.args.payload.now = search rules in
    let room_left = not_both (needs_request m seat c.args.session c.args.op c.args.range) _ (requests_free l n t c.in-Some.slot c.requires.well (search rules)) in
    let goes = submit_goes l m n c.args.room seat c.args.session c.args.op c.args.range c.args.payload.now entry may.within may.sits may.stays may.session_is may.some_sectors may.few_sectors may.payload_fits may.in_image may.thawed may.few room_left in
    let sub = submitted m n seat c.args.session c.args.op c.args.range c.args.payload.now in
    let reply : Plain → Plain × Reply = λ next. (next, Queued n) in
    let wakes : c.is_woken-wakes.result ≡ (is_bfq m.scheduler && is_empty (m.queue seat)) =
    c.is_woken-wakes.ensures ∙ ap (λ b. is_bfq m.scheduler && b) (sym (queue_empty (whole_at t.requests t.bios) seat t.links (linked_some n t c.requires.well.placed))) in
    let same : bfq_of u ≡ m.bfq = ap bfq_of now in
    let asked : cond c.is_woken-wakes.result (activate seat m.bfq) (Some m.bfq) ≡ cond c.is_woken-wakes.result (activate seat (bfq_of u)) (Some (bfq_of u)) =
    ap (λ b. cond c.is_woken-wakes.result (activate seat b) (Some b)) (sym same) in
    let begun = not_begun c.reserve.new.self.current t (c.reserve.ensures.current ∙ c.requires.idle) in
    let trail = c.in-Err.ensures.trail t (c.insert.ensures.trail t begun) in
    let woke : woken m seat sub ≡ None = woken_by m seat sub c.is_woken-wakes.result None wakes refl (asked ∙ c.in-Err.ensures.made) in
    sym (goes ∙ if_full c.args.room m _ c.if-not-room.false (ap (option_map reply) woke)
    ∙ ap (λ x. (meaning x, Refused VtimeFull)) (sym (c.abandon.ensures.tables ∙ trail.back)))

pub returns-in-Err-clause-leaves : goal.returns-in-Err-clause-leaves
returns-in-Err-clause-leaves c =
    let t = c.args.parts.now.tables in
    let begun = not_begun c.reserve.new.self.current t (c.reserve.ensures.current ∙ c.requires.idle) in
    let trail = c.in-Err.ensures.trail t (c.insert.ensures.trail t begun) in
    (c.abandon.ensures.tables ∙ trail.back, c.abandon.ensures.current ∙ sym c.requires.idle)

pub returns-in-Ok-clause-trail : goal.returns-in-Ok-clause-trail
returns-in-Ok-clause-trail c = λ origin h.
    let P : List Change → Type 0 = λ changes. IsTrail changes c.args.parts.now.tables origin in
    c.in-Ok.ensures.trail origin (c.insert.ensures.trail origin (subst P (sym c.reserve.ensures.current) h))

pub returns-in-Err-clause-trail : goal.returns-in-Err-clause-trail
returns-in-Err-clause-trail c = λ origin h.
    let t = c.args.parts.now.tables in
    let begun = not_begun c.reserve.new.self.current t (c.reserve.ensures.current ∙ c.requires.idle) in
    let trail = c.in-Err.ensures.trail t (c.insert.ensures.trail t begun) in
    let P : List Change → Type 0 = λ changes. IsTrail changes t origin in
    let Q : Tables → Type 0 = λ u. IsTrail c.abandon.new.self.current u origin in
    subst Q (sym (c.abandon.ensures.tables ∙ trail.back)) (subst P (sym (c.abandon.ensures.current ∙ sym c.requires.idle)) h)
