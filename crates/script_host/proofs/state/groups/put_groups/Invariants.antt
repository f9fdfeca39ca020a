use Rattle.std.proofs.Common.{◌≡◌, ◌++◌, ◌-◌}
use Rattle.std.specs.List.{flat_map}
use Rattle.plain.specs.Lists.{numbers}
use Rattle.dispatch_core.specs.Running.{plain_of}
use Rattle.host_console.specs.State.{group_text}
use Rattle.script_host.proofs.state.groups.put_groups.Given as goal

-- what was told and the texts that are left are the whole
abbrev pub invariant-loop-group : goal.invariant-loop-group
invariant-loop-group l = l.out.items ++ flat_map (group_text (plain_of l.view)) (numbers l.group (32 - l.group)) ≡ l.fn.out.items ++ flat_map (group_text (plain_of l.view)) (numbers 0 32)
