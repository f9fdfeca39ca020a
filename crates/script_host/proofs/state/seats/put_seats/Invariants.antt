use Rattle.std.proofs.Common.{◌≡◌, ◌++◌, ◌-◌}
use Rattle.std.specs.List.{flat_map}
use Rattle.plain.specs.Lists.{numbers}
use Rattle.dispatch_core.specs.Running.{plain_of}
use Rattle.host_console.specs.State.{taken_text}
use Rattle.script_host.proofs.state.seats.put_seats.Given as goal

-- what was told and the texts that are left are the whole
abbrev pub invariant-loop-seat : goal.invariant-loop-seat
invariant-loop-seat l = l.out.items ++ flat_map (taken_text (plain_of l.view)) (numbers l.seat (16 - l.seat)) ≡ l.fn.out.items ++ flat_map (taken_text (plain_of l.view)) (numbers 0 16)
