use Rattle.std.proofs.Common.{◌≡◌, ◌<◌, Some, None, subst, sym, ap, ◌∙◌, rules}
use Rattle.dispatch_core.proofs.Words.{Request, Issue, bios_at, Flight, meaning, fits, size_of, at, HasFewSectors, total_count}
use Rattle.plain.specs.Step.{of_sizes}
use Rattle.dispatch_core.proofs.Queues.{whole, flight_borne, flight_is, no_flight}
use Rattle.dispatch_core.proofs.Sectors.{few_sectors_of, size_is, request_taken}
use Rattle.dispatch_core.proofs.Decided.{finish_past, finish_free, finish_stale, finish_bad, finish_late}
use Rattle.dispatch_core.proofs.finish.found_request.Goals as goal

pub returns-then-tag-sizes : goal.returns-then-tag-sizes
returns-then-tag-sizes c = finish_past (of_sizes c.args.sizes) (meaning c.args.parts.now.tables) c.args.room c.args.tag c.args.issue c.args.outcome.now c.if-tag-sizes.true

pub returns-in_default : goal.returns-in_default
returns-in_default c =
    let t = c.args.parts.now.tables in
    let none : at t.tags c.args.tag ≡ None = search rules in
    finish_free (of_sizes c.args.sizes) (meaning t) c.args.room c.args.tag c.args.issue c.args.outcome.now c.if-tag-sizes.false (no_flight t c.args.tag none)

pub returns-then-borne-issue : goal.returns-then-borne-issue
returns-then-borne-issue c =
    let l = of_sizes c.args.sizes in
    let t = c.args.parts.now.tables in
    let borne : Issue = c.in-Some.borne in
    let tagged : at t.tags c.args.tag ≡ Some borne = search rules in
    let found = flight_is l c.args.serial t c.args.tag borne c.requires tagged in
    finish_stale l (meaning t) c.args.room c.args.tag c.args.issue c.args.outcome.now c.if-tag-sizes.false _ found.2 c.if-borne-issue.true

pub returns-then-not-fits_outcome : goal.returns-then-not-fits_outcome
returns-then-not-fits_outcome c =
    let l = of_sizes c.args.sizes in
    let t = c.args.parts.now.tables in
    let n = c.args.serial in
    let borne : Issue = c.in-Some.borne in
    let r : Request = c.in-Some-request.request.now in
    let f : Flight = record { issue = borne.issue; request = whole t r } in
    let within : c.args.tag < l.tags = c.if-tag-sizes.false in
    let tagged : at t.tags c.args.tag ≡ Some borne = search rules in
    let here : at t.requests borne.slot ≡ Some r = search rules in
    let flight : (meaning t).flight c.args.tag ≡ Some f = flight_borne t (at t.tags c.args.tag) borne r tagged here in
    let same : borne.issue ≡ c.args.issue = c.if-borne-issue.false in
    let pool : c.pool-2.result.now.bios ≡ t.bios = c.pool-2.ensures.bios in
    let few : HasFewSectors c.pool-2.result.now.bios = subst HasFewSectors (sym pool) (few_sectors_of l n t c.requires) in
    let count : c.range_of_request-size.result.count ≡ total_count t.bios r.bios.items = c.range_of_request-size.ensures.count few ∙ ap (λ b. total_count b r.bios.items) pool in
    let size : size_of (bios_at t.bios r.bios.items) ≡ c.range_of_request-size.result.count = size_is t.bios r.bios.items (request_taken l n t borne.slot r c.requires here) ∙ sym count in
    let judged : fits r.op (size_of (bios_at t.bios r.bios.items)) c.args.outcome.now ≡ c.fits_outcome.result = ap (λ k. fits r.op k c.args.outcome.now) size ∙ sym c.fits_outcome.ensures in
    finish_bad l (meaning t) c.args.room c.args.tag c.args.issue c.args.outcome.now within f flight same (judged ∙ c.if-not-fits_outcome.true)

pub returns-then-not-room : goal.returns-then-not-room
returns-then-not-room c =
    let l = of_sizes c.args.sizes in
    let t = c.args.parts.now.tables in
    let n = c.args.serial in
    let borne : Issue = c.in-Some.borne in
    let r : Request = c.in-Some-request.request.now in
    let f : Flight = record { issue = borne.issue; request = whole t r } in
    let within : c.args.tag < l.tags = c.if-tag-sizes.false in
    let tagged : at t.tags c.args.tag ≡ Some borne = search rules in
    let here : at t.requests borne.slot ≡ Some r = search rules in
    let flight : (meaning t).flight c.args.tag ≡ Some f = flight_borne t (at t.tags c.args.tag) borne r tagged here in
    let same : borne.issue ≡ c.args.issue = c.if-borne-issue.false in
    let pool : c.pool-2.result.now.bios ≡ t.bios = c.pool-2.ensures.bios in
    let few : HasFewSectors c.pool-2.result.now.bios = subst HasFewSectors (sym pool) (few_sectors_of l n t c.requires) in
    let count : c.range_of_request-size.result.count ≡ total_count t.bios r.bios.items = c.range_of_request-size.ensures.count few ∙ ap (λ b. total_count b r.bios.items) pool in
    let size : size_of (bios_at t.bios r.bios.items) ≡ c.range_of_request-size.result.count = size_is t.bios r.bios.items (request_taken l n t borne.slot r c.requires here) ∙ sym count in
    let judged : fits r.op (size_of (bios_at t.bios r.bios.items)) c.args.outcome.now ≡ c.fits_outcome.result = ap (λ k. fits r.op k c.args.outcome.now) size ∙ sym c.fits_outcome.ensures in
    finish_late l (meaning t) c.args.room c.args.tag c.args.issue c.args.outcome.now within f flight same (judged ∙ c.if-not-fits_outcome.false) c.if-not-room.true

pub unreachable-requires-in_default-seat_of : goal.unreachable-requires-in_default-seat_of
unreachable-requires-in_default-seat_of c =
    let t = c.args.parts.now.tables in
    let here : at t.requests c.in-Some.borne.slot ≡ Some c.in-Some-request.request.now = search rules in
    let owned = c.requires.kept.request c.in-Some.borne.slot c.in-Some-request.request.now here in
    c.in_default-seat_of.ensures owned.seat owned.entry owned.within owned.sits owned.session

pub returns : goal.returns
returns c =
    let l = of_sizes c.args.sizes in
    let t = c.args.parts.now.tables in
    let borne : Issue = c.in-Some.borne in
    let r : Request = c.in-Some-request.request.now in
    let tagged : at t.tags c.args.tag ≡ Some borne = search rules in
    let here : at t.requests borne.slot ≡ Some r = search rules in
    let pool : c.pool-2.result.now.bios ≡ t.bios = c.pool-2.ensures.bios in
    let few : HasFewSectors c.pool-2.result.now.bios = subst HasFewSectors (sym pool) (few_sectors_of l c.args.serial t c.requires) in
    let found = c.in-Some-seat_of.ensures in
    record {
      within = c.if-tag-sizes.false;
      in_time = c.if-not-room.false;
      borne = tagged ∙ ap (λ k. Some (let i : Issue = record { issue = k; slot = borne.slot } in i)) c.if-borne-issue.false;
      request = r;
      here = here;
      seat_within = found.0;
      entry = found.1;
      sits = found.2;
      session = found.3;
      size_is = c.range_of_request-size.ensures.count few ∙ ap (λ b. total_count b r.bios.items) pool;
      good = sym c.fits_outcome.ensures ∙ c.if-not-fits_outcome.false;
    }
