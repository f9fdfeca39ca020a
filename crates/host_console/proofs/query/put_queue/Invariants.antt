use Rattle.std.proofs.Common.{◌≡◌, ◌≤◌, ◌<◌, ◌^◌, ◌++◌, length}
use Rattle.plain.specs.Keeper.{machine_of}
use Rattle.host_console.specs.Printed.{queue_text}
use Rattle.host_console.proofs.Queues.{left}
use Rattle.host_console.proofs.query.put_queue.Given as goal

abbrev pub invariant-loop-place : goal.invariant-loop-place
invariant-loop-place g l = record {
  whole : l.out.items ++ left ((machine_of (g.K.Shows.state l.keeper)).seat l.seat) ((machine_of (g.K.Shows.state l.keeper)).queue l.seat) l.place
      ≡ l.fn.out.items ++ queue_text (g.K.Shows.state l.keeper) l.seat;
  within : l.place ≤ length ((machine_of (g.K.Shows.state l.keeper)).queue l.seat);
  few : 0 < l.place → length ((machine_of (g.K.Shows.state l.keeper)).queue l.seat) < 2 ^ 16;
}
