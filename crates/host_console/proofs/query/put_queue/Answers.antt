use Rattle.std.proofs.Common.{◌<◌, ◌++◌, length, sym, ap, ◌∙◌, append-nil, arith}
use Rattle.plain.specs.Keeper.{machine_of}
use Rattle.host_console.specs.Printed.{request_text}
use Rattle.host_console.proofs.Queues.{begun, left-free, left-past, left-queued, one_more, told_free}
use Rattle.host_console.proofs.query.put_queue.Goals as goal

pub loop-place-init : goal.loop-place-init
loop-place-init g c = record {
  whole = begun c.args.out.now.items _ (g.K.Shows.state c.args.keeper.now) c.args.seat c.in_ok-write.ensures.bytes;
  within = omega arith;
  few = λ h. omega (arith, h);
}

pub returns-in-Free : goal.returns-in-Free
returns-in-Free g c =
    let m = machine_of (g.K.Shows.state c.args.keeper.now) in
    let free = left-free (m.seat c.args.seat) (m.queue c.args.seat) c.loop-place.place c.in-Free.ensures.view in
    told_free c.write-in-Free.result c.loop-place.out.items _ _ _ c.write-in-Free.ensures.bytes free c.loop-place.invariant.whole

pub returns-in-Past : goal.returns-in-Past
returns-in-Past g c =
    let m = machine_of (g.K.Shows.state c.args.keeper.now) in
    let past = left-past (m.seat c.args.seat) (m.queue c.args.seat) c.loop-place.place c.in-Past.ensures.view in
    sym (append-nil c.loop-place.out.items) ∙ ap (λ ys. c.loop-place.out.items ++ ys) (sym past) ∙ c.loop-place.invariant.whole

pub loop-place-preserved : goal.loop-place-preserved
loop-place-preserved g c =
    let m = machine_of (g.K.Shows.state c.args.keeper.now) in
    let next = left-queued (m.seat c.args.seat) (m.queue c.args.seat) c.loop-place.place c.in-Queued.range c.in-Queued.bios c.in-Queued.ensures.view in
    let here : c.loop-place.place < length (m.queue c.args.seat) = next.0 in
    record {
      whole = one_more c.loop-place.out.items c.put_request.new.out.items _ _ (request_text c.in-Queued.range c.in-Queued.bios) _
          c.in_ok-put_request-in-Queued.ensures next.1 c.loop-place.invariant.whole;
      within = omega (arith, here);
      few = λ h. c.in-Queued.ensures.few;
    }

pub returns : goal.returns
returns g c = absurd (omega (arith, c.loop-place.invariant.within, c.loop-place-test.false, c.loop-place.invariant.few (omega arith)))
