use Rattle.std.proofs.Common.{◌≡◌, ◌++◌, take, drop}
use Rattle.host_console.specs.State.{placed}
use Rattle.script_host.specs.Texts.{texts_of}
use Rattle.script_host.proofs.state.flight.place_of.Given as goal

-- the text goes behind those that were looked at, and is placed among the others
abbrev pub invariant-loop-place : goal.invariant-loop-place
invariant-loop-place l = placed l.text (texts_of l.texts.items) ≡ take l.place (texts_of l.texts.items) ++ placed l.text (drop l.place (texts_of l.texts.items))
