use Rattle.std.proofs.Common.{◌≡◌, ◌++◌, ◌<◌, ◌^◌, length, drop}
use Rattle.std.specs.List.{flat_map}
use Rattle.dispatch_core.specs.Running.{plain_of}
use Rattle.host_console.specs.Views.{queued_text}
use Rattle.script_host.proofs.requests.put_queued.Given as goal

-- what was told and the texts that are left are the whole
abbrev pub invariant-loop-place : goal.invariant-loop-place
invariant-loop-place l = record {
  whole : l.out.items ++ flat_map queued_text (drop l.place ((plain_of l.view).queue l.seat)) ≡ l.fn.out.items ++ flat_map queued_text ((plain_of l.view).queue l.seat);
  few : 0 < l.place → length ((plain_of l.view).queue l.seat) < 2 ^ 16;
}
