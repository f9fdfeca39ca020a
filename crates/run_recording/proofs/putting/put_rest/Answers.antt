use Rattle.std.proofs.Common.{ℕ, ◌+◌, sym, subst}
use Rattle.host_core.specs.Journal.{Entry as Page}
use Rattle.run_recording.specs.Recorded.{HasRecorded}
use Rattle.run_recording.proofs.Rests.{recorded_none, recorded_more, recorded_cut, recorded_all}
use Rattle.run_recording.proofs.putting.put_rest.Goals as goal

pub loop-name-init : goal.loop-name-init
loop-name-init g c = λ within. recorded_none _ _ _ within

pub loop-name-preserved : goal.loop-name-preserved
loop-name-preserved g c = λ within.
    let pages = (g.B.Judges.pages c.args.book.now).entries in
    let page : Page = record { name = c.in-Some.name; call = c.in-Some.call.now } in
    let more =
    recorded_more (g.W.Write.contents c.args.writer.now) (g.W.Write.contents c.loop-name.writer) (g.W.Write.contents c.put_entry.new.writer)
    pages c.args.next.now c.loop-name.next page (c.loop-name.invariant within) (sym c.in-Some.ensures) c.if-not-put_entry.ensures in
    subst (λ (n : ℕ). HasRecorded (g.W.Write.contents c.args.writer.now) (g.W.Write.contents c.put_entry.new.writer) pages c.args.next.now n)
    (sym c.in-Some-checked_add.ensures.1) more
