use Rattle.std.proofs.Common.{◌++◌, sym, ap, ◌∙◌, arith}
use Rattle.dispatch_core.specs.Running.{plain_of}
use Rattle.host_console.specs.State.{group_text}
use Rattle.script_host.proofs.Told.{more_numbers, no_numbers, one_more, all_told}
use Rattle.script_host.proofs.state.groups.put_groups.Goals as goal

pub loop-group-preserved : goal.loop-group-preserved
loop-group-preserved c =
    let next = more_numbers (group_text (plain_of c.args.view.now)) c.loop-group.group 32 c.loop-group-test.true in
    one_more c.loop-group.out.items c.put_group.new.out.items _ _ _ c.in_ok-put_group.ensures (ap (λ ys. c.loop-group.out.items ++ ys) (sym next) ∙ c.loop-group.invariant)

pub returns : goal.returns
returns c =
    all_told c.loop-group.out.items _ _ (no_numbers (group_text (plain_of c.args.view.now)) c.loop-group.group 32 (omega (arith, c.loop-group-test.false))) c.loop-group.invariant
