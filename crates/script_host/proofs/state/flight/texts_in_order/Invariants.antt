use Rattle.std.proofs.Common.{◌≡◌, ◌-◌, ◌≤◌, map}
use Rattle.std.specs.List.{flat_map}
use Rattle.plain.specs.Lists.{numbers}
use Rattle.dispatch_core.specs.Running.{plain_of}
use Rattle.host_console.specs.State.{borne, in_order, owned_text}
use Rattle.script_host.specs.Texts.{texts_of}
use Rattle.script_host.proofs.state.flight.texts_in_order.Given as goal

-- the texts are those of the tags from this one on
abbrev pub invariant-loop-tag : goal.invariant-loop-tag
invariant-loop-tag l = record {
  within : l.tag ≤ l.view.sizes.tags;
  texts : texts_of l.texts.items ≡ in_order (map (owned_text (plain_of l.view)) (flat_map (λ tag. borne ((plain_of l.view).flight tag)) (numbers l.tag (l.view.sizes.tags - l.tag))));
}
