use Rattle.std.proofs.Common.{◌≡◌, ◌++◌, ◌-◌}
use Rattle.std.specs.List.{flat_map}
use Rattle.plain.specs.Lists.{numbers}
use Rattle.dispatch_core.specs.Running.{plain_of}
use Rattle.host_console.specs.Views.{tag_text}
use Rattle.script_host.proofs.flights.put_tags.Given as goal

-- what was told and the texts that are left are the whole
abbrev pub invariant-loop-tag : goal.invariant-loop-tag
invariant-loop-tag l = l.out.items ++ flat_map (tag_text (plain_of l.view)) (numbers l.tag (l.view.sizes.tags - l.tag)) ≡ l.fn.out.items ++ flat_map (tag_text (plain_of l.view)) (numbers 0 l.view.sizes.tags)
