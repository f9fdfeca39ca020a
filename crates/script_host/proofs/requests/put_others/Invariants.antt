use Rattle.std.proofs.Common.{◌≡◌, ◌++◌, ◌<◌, ◌≤◌, length, drop}
use Rattle.std.specs.List.{flat_map}
use Rattle.host_console.specs.Views.{next_text}
use Rattle.script_host.proofs.requests.put_others.Given as goal

-- what was told and the texts that are left are the whole
abbrev pub invariant-loop-place : goal.invariant-loop-place
invariant-loop-place l = record {
  whole : l.out.items ++ flat_map next_text (drop l.place l.request.bios) ≡ l.fn.out.items ++ flat_map next_text (drop 1 l.request.bios);
  few : 1 < l.place → length l.request.bios ≤ 32;
}
