use Rattle.std.proofs.Common.{sym, ◌∙◌}
use Rattle.operator_asking.proofs.running.run_call.Goals as goal

pub returns-then-not-write_flushed : goal.returns-then-not-write_flushed
returns-then-not-write_flushed g c =
    let part = c.if-not-write_flushed.ensures in
    let line = sym c.in-Ok-line.ensures ∙ sym c.as_slice.ensures.value in
    (c.in-Ok.reply, c.in-Ok.ensures, (part.0, part.1, line ∙ part.2, part.3))
