use Rattle.std.proofs.Common.{map, sym, ◌∙◌}
use Rattle.std.proofs.lemmas.List.{length-map}
use Rattle.rtrb.specs.Ring.{sent, received, known_items}
use Rattle.host_core.proofs.Left.{found, found-asked}
use Rattle.host_core.proofs.desk.Desk.settle.Goals as goal

pub returns-clause-settled : goal.returns-clause-settled
returns-clause-settled g c =
    let desk = c.args.self.now in
    let seat = c.args.end.seat in
    let calls = c.slots_beside-left in
    let replies = c.slots_beside-uncollected in
    let untaken = known_items calls.new.self in
    let rest = known_items replies.new.self in
    record {
      untaken = map (g.C.Staged.asked_by desk.number) untaken;
      calls_are = found-asked g.C.Staged.asked_by seat.number desk.number (sent seat.calls) (received desk.calls) untaken c.requires.2
          (found (sent seat.calls) (sent calls.new.producer) (received desk.calls) (received calls.new.self) untaken calls.ensures.producer.1 calls.ensures.looked.1 calls.ensures.fifo);
      left_is = calls.ensures.value ∙ sym (length-map untaken (g.C.Staged.asked_by desk.number));
      rest = rest;
      replies_are = found (sent desk.replies) (sent replies.new.producer) (received seat.replies) (received replies.new.self) rest
          replies.ensures.producer.1 replies.ensures.looked.1 replies.ensures.fifo;
      uncollected_is = replies.ensures.value;
    }
