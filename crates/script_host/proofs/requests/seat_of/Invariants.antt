use Rattle.std.proofs.Common.{◌≡◌, ◌-◌}
use Rattle.std.specs.List.{find}
use Rattle.plain.specs.Lists.{numbers}
use Rattle.plain.specs.Sessions.{is_session}
use Rattle.dispatch_core.specs.Running.{plain_of}
use Rattle.script_host.proofs.requests.seat_of.Given as goal

-- no seat before this one is the session's
abbrev pub invariant-loop-seat : goal.invariant-loop-seat
invariant-loop-seat l =
    find (λ seat. is_session l.session ((plain_of l.view).seat seat)) (numbers 0 16) ≡ find (λ seat. is_session l.session ((plain_of l.view).seat seat)) (numbers l.seat (16 - l.seat))
