use Rattle.std.proofs.Common.{◌≡◌, ◌++◌, ◌<◌, ◌^◌, length, drop}
use Rattle.std.specs.List.{flat_map}
use Rattle.dispatch_core.specs.Running.{plain_of}
use Rattle.host_console.specs.Views.{again_text}
use Rattle.script_host.proofs.requests.put_list.Given as goal

-- what was told and the texts that are left are the whole
abbrev pub invariant-loop-place : goal.invariant-loop-place
invariant-loop-place l = record {
  whole : l.out.items ++ flat_map (again_text (plain_of l.view)) (drop l.place (plain_of l.view).requeued) ≡ l.fn.out.items ++ flat_map (again_text (plain_of l.view)) (plain_of l.view).requeued;
  few : 0 < l.place → length (plain_of l.view).requeued < 2 ^ 16;
}
