use Rattle.std.proofs.Common.{◌≡◌, ◌++◌, ◌-◌}
use Rattle.std.specs.List.{flat_map}
use Rattle.plain.specs.Lists.{numbers}
use Rattle.dispatch_core.specs.Running.{plain_of}
use Rattle.host_console.specs.State.{member_text}
use Rattle.script_host.proofs.state.groups.put_members.Given as goal

-- what was told and the texts that are left are the whole
abbrev pub invariant-loop-entity : goal.invariant-loop-entity
invariant-loop-entity l = l.out.items ++ flat_map (member_text (plain_of l.view) l.group) (numbers l.entity (48 - l.entity)) ≡ l.fn.out.items ++ flat_map (member_text (plain_of l.view) l.group) (numbers 0 48)
