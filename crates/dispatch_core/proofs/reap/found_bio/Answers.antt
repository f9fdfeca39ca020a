use Rattle.std.proofs.Common.{◌≡◌, false, Some, ◌∙◌, sym, rules}
use Rattle.std.specs.Prelude.{slice_get}
use Rattle.change_record.specs.Machine.{outbox_at}
use Rattle.plain.specs.Step.{of_sizes}
use Rattle.dispatch_core.proofs.MayReap.{refused_late}
use Rattle.dispatch_core.proofs.reap.found_bio.Goals as goal

pub returns : goal.returns
returns c = record {
  within = c.if-seat-ge-SEATS.false;
  sits = sym c.seat.ensures ∙ c.in-Some.is;
  stays = search rules;
  session_is = c.if-entry-session.false;
  owed = c.if-entry-eq0.false;
  first = search rules;
  in_time = c.if-not-room.false;
}

pub returns-then-not-room : goal.returns-then-not-room
returns-then-not-room c =
    let t = c.args.parts.now.tables in
    let entry = c.in-Some.entry in
    let stays : entry.leaving ≡ false = search rules in
    let first : slice_get (outbox_at t.outboxes c.args.seat) 0 ≡ Some c.in-Some-copied.place = search rules in
    refused_late (of_sizes c.args.sizes) c.args.serial t c.args.room c.args.seat c.args.session entry c.in-Some-copied.place c.requires c.if-seat-ge-SEATS.false (sym c.seat.ensures ∙ c.in-Some.is)
    stays c.if-entry-session.false c.if-entry-eq0.false first c.if-not-room.true
