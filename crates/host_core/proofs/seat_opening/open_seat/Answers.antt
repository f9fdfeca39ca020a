use Rattle.std.proofs.Common.{refl}
use Rattle.host_core.proofs.seat_opening.open_seat.Goals as goal

pub returns : goal.returns
returns g c =
    let calls = c.in_ok-calls_in.ensures in
    let replies = c.in_ok-replies_in.ensures in
    record {
      calls = calls.pair;
      replies = replies.pair;
      call_places = calls.producer.2;
      reply_places = replies.producer.2;
      staged = calls.producer.0;
      collected = replies.consumer.0;
      unclosed = refl;
      taken = calls.consumer.0;
      replied = replies.producer.0;
      closed = refl;
      waiting = refl;
      numbered = refl;
      seat_numbered = refl;
    }
