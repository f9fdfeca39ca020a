use Rattle.std.proofs.Common.{◌≡◌, ◌<◌, true, Some, None, sym, ◌∙◌, rules}
use Rattle.sector_core.specs.Table.{AllTaken}
use Rattle.request_pool.specs.Slots.{seat_slots}
use Rattle.plain.specs.Step.{of_sizes}
use Rattle.dispatch_core.proofs.Words.{at, meaning}
use Rattle.dispatch_core.proofs.Bios.{free_place}
use Rattle.dispatch_core.proofs.Decided.{submit_seat, submit_nobody, submit_stale, submit_count, submit_length, submit_range, submit_leaver, submit_frozen, submit_many}
use Rattle.dispatch_core.proofs.submit.run_submit.Goals as goal

pub unreachable-requires : goal.unreachable-requires
unreachable-requires c =
    let l = of_sizes c.args.sizes in
    let t = c.args.parts.now.tables in
    let entry = c.in-Some.entry in
    let sits : at t.seats c.args.seat ≡ Some entry = sym c.seat.ensures ∙ c.in-Some.is in
    let few : entry.unreaped < 32 = c.if-entry-ge-SESSION_BIOS.false in
    let all : AllTaken (seat_slots c.args.seat t.bios) = search rules in
    free_place l c.args.serial t c.args.seat entry c.requires.well c.if-seat-ge-SEATS.false sits few all

pub returns-then-seat-ge-SEATS-clause-answers : goal.returns-then-seat-ge-SEATS-clause-answers
returns-then-seat-ge-SEATS-clause-answers c =
    let l = of_sizes c.args.sizes in
    let t = c.args.parts.now.tables in
    let m = meaning t in
    sym (submit_seat l m c.args.serial c.args.room c.args.seat c.args.session c.args.op c.args.range c.args.payload.now c.if-seat-ge-SEATS.true)

pub returns-in_default-clause-answers : goal.returns-in_default-clause-answers
returns-in_default-clause-answers c =
    let l = of_sizes c.args.sizes in
    let t = c.args.parts.now.tables in
    let m = meaning t in
    let none : at t.seats c.args.seat ≡ None = search rules in
    sym (submit_nobody l m c.args.serial c.args.room c.args.seat c.args.session c.args.op c.args.range c.args.payload.now c.if-seat-ge-SEATS.false none)

pub returns-then-entry-session-clause-answers : goal.returns-then-entry-session-clause-answers
returns-then-entry-session-clause-answers c =
    let l = of_sizes c.args.sizes in
    let t = c.args.parts.now.tables in
    let m = meaning t in
    let entry = c.in-Some.entry in
    let sits : at t.seats c.args.seat ≡ Some entry = sym c.seat.ensures ∙ c.in-Some.is in
    let within : c.args.seat < 16 = c.if-seat-ge-SEATS.false in
    sym (submit_stale l m c.args.serial c.args.room c.args.seat c.args.session c.args.op c.args.range c.args.payload.now entry within sits (search rules) (search rules))

pub returns-then-range-eq0-clause-answers : goal.returns-then-range-eq0-clause-answers
returns-then-range-eq0-clause-answers c =
    let l = of_sizes c.args.sizes in
    let t = c.args.parts.now.tables in
    let m = meaning t in
    let entry = c.in-Some.entry in
    let sits : at t.seats c.args.seat ≡ Some entry = sym c.seat.ensures ∙ c.in-Some.is in
    let within : c.args.seat < 16 = c.if-seat-ge-SEATS.false in
    sym (submit_count l m c.args.serial c.args.room c.args.seat c.args.session c.args.op c.args.range c.args.payload.now entry within sits (search rules) (search rules) (search rules))

pub returns-then-len-payload_len-clause-answers : goal.returns-then-len-payload_len-clause-answers
returns-then-len-payload_len-clause-answers c =
    let l = of_sizes c.args.sizes in
    let t = c.args.parts.now.tables in
    let m = meaning t in
    let entry = c.in-Some.entry in
    let sits : at t.seats c.args.seat ≡ Some entry = sym c.seat.ensures ∙ c.in-Some.is in
    let within : c.args.seat < 16 = c.if-seat-ge-SEATS.false in
    sym (submit_length l m c.args.serial c.args.room c.args.seat c.args.session c.args.op c.args.range c.args.payload.now entry within sits (search rules) (search rules) (search rules) (search rules) (search rules))

pub returns-then-not-is_within-clause-answers : goal.returns-then-not-is_within-clause-answers
returns-then-not-is_within-clause-answers c =
    let l = of_sizes c.args.sizes in
    let t = c.args.parts.now.tables in
    let m = meaning t in
    let entry = c.in-Some.entry in
    let sits : at t.seats c.args.seat ≡ Some entry = sym c.seat.ensures ∙ c.in-Some.is in
    let within : c.args.seat < 16 = c.if-seat-ge-SEATS.false in
    sym (submit_range l m c.args.serial c.args.room c.args.seat c.args.session c.args.op c.args.range c.args.payload.now entry within sits (search rules) (search rules) (search rules) (search rules) (search rules) (search rules))

pub returns-then-entry-ge-SESSION_BIOS-clause-answers : goal.returns-then-entry-ge-SESSION_BIOS-clause-answers
returns-then-entry-ge-SESSION_BIOS-clause-answers c =
    let l = of_sizes c.args.sizes in
    let t = c.args.parts.now.tables in
    let m = meaning t in
    let entry = c.in-Some.entry in
    let sits : at t.seats c.args.seat ≡ Some entry = sym c.seat.ensures ∙ c.in-Some.is in
    let within : c.args.seat < 16 = c.if-seat-ge-SEATS.false in
    sym (submit_many l m c.args.serial c.args.room c.args.seat c.args.session c.args.op c.args.range c.args.payload.now entry within sits (search rules) (search rules) (search rules) (search rules) (search rules) (search rules) (search rules) c.if-entry-ge-SESSION_BIOS.true)

pub returns-then-entry-clause-answers : goal.returns-then-entry-clause-answers
returns-then-entry-clause-answers c =
    let l = of_sizes c.args.sizes in
    let t = c.args.parts.now.tables in
    let m = meaning t in
    let entry = c.in-Some.entry in
    let sits : at t.seats c.args.seat ≡ Some entry = sym c.seat.ensures ∙ c.in-Some.is in
    let leaves : entry.leaving ≡ true = search rules in
    sym (submit_leaver l m c.args.serial c.args.room c.args.seat c.args.session c.args.op c.args.range c.args.payload.now entry c.if-seat-ge-SEATS.false sits leaves)

pub returns-then-frozen-clause-answers : goal.returns-then-frozen-clause-answers
returns-then-frozen-clause-answers c =
    let l = of_sizes c.args.sizes in
    let t = c.args.parts.now.tables in
    let m = meaning t in
    let entry = c.in-Some.entry in
    let sits : at t.seats c.args.seat ≡ Some entry = sym c.seat.ensures ∙ c.in-Some.is in
    let within : c.args.seat < 16 = c.if-seat-ge-SEATS.false in
    let frozen : t.frozen ≡ true = search rules in
    sym (submit_frozen l m c.args.serial c.args.room c.args.seat c.args.session c.args.op c.args.range c.args.payload.now entry within sits (search rules) (search rules) (search rules) (search rules) (search rules) (search rules) frozen)
