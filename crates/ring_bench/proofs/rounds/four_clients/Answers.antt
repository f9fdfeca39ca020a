use Rattle.host_core.proofs.Seated.{caller-stays, caller-works, device-stays, operator-stays, operator-works}
use Rattle.ring_bench.proofs.rounds.four_clients.Goals as goal

pub last_of-requires : goal.last_of-requires
last_of-requires g c = λ i s at. (c.in_ok-core.ensures.idle.0 i s at, c.in_ok-core.ensures.seated.0 i s at)

pub settle_all-requires-clause-done : goal.settle_all-requires-clause-done
settle_all-requires-clause-done g c =
    let was = c.in_ok-core.core in
    let core = c.work-core.result.0 in
    let done = c.work-core.result.1 in
    let operator = c.in_ok-core.operator in
    let stays = c.work-core.ensures.0 in
    let same = c.work-core.ensures.1 in (
      caller-works core c.in_ok-first.first done.first.0.seat (caller-stays was core c.in_ok-first.first c.in_ok-first.ensures.seat.1 stays) same.0,
      caller-works core c.in_ok-second.second done.first.1.seat (caller-stays was core c.in_ok-second.second c.in_ok-second.ensures.seat.1 stays) same.1,
      caller-works core c.in_ok-third.third done.second.0.seat (caller-stays was core c.in_ok-third.third c.in_ok-third.ensures.seat.1 stays) same.2,
      caller-works core c.in_ok-fourth.fourth done.second.1.seat (caller-stays was core c.in_ok-fourth.fourth c.in_ok-fourth.ensures.seat.1 stays) same.3,
      operator-works core operator done.operator (operator-stays was core operator c.in_ok-core.ensures.seated.2 stays) same.4,
    )

pub settle_all-requires-clause-callers : goal.settle_all-requires-clause-callers
settle_all-requires-clause-callers g c =
    λ i s at. caller-stays c.in_ok-core.core c.work-core.result.0 s (c.in_ok-fourth.ensures.rest i s at).1 c.work-core.ensures.0

pub settle_all-requires-clause-devices : goal.settle_all-requires-clause-devices
settle_all-requires-clause-devices g c =
    λ i s at. device-stays c.in_ok-core.core c.work-core.result.0 s (c.in_ok-core.ensures.seated.1 i s at) c.work-core.ensures.0
