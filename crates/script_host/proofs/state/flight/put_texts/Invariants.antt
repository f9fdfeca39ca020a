use Rattle.std.proofs.Common.{◌≡◌, ◌++◌, drop}
use Rattle.std.specs.List.{flat_map}
use Rattle.host_console.specs.State.{spaced}
use Rattle.script_host.specs.Texts.{texts_of}
use Rattle.script_host.proofs.state.flight.put_texts.Given as goal

-- what was told and the texts that are left are the whole
abbrev pub invariant-loop-text : goal.invariant-loop-text
invariant-loop-text l = l.out.items ++ flat_map spaced (texts_of (drop l.text-index l.texts.items)) ≡ l.fn.out.items ++ flat_map spaced (texts_of l.texts.items)
