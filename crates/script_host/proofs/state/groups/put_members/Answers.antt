use Rattle.std.proofs.Common.{◌++◌, sym, ap, ◌∙◌, arith}
use Rattle.dispatch_core.specs.Running.{plain_of}
use Rattle.host_console.specs.State.{member_text}
use Rattle.script_host.proofs.Told.{more_numbers, no_numbers, one_more, all_told}
use Rattle.script_host.proofs.state.groups.put_members.Goals as goal

pub loop-entity-preserved : goal.loop-entity-preserved
loop-entity-preserved c =
    let next = more_numbers (member_text (plain_of c.args.view.now) c.args.group) c.loop-entity.entity 48 c.loop-entity-test.true in
    one_more c.loop-entity.out.items c.put_member.new.out.items _ _ _ c.in_ok-put_member.ensures (ap (λ ys. c.loop-entity.out.items ++ ys) (sym next) ∙ c.loop-entity.invariant)

pub returns : goal.returns
returns c =
    all_told c.loop-entity.out.items _ _ (no_numbers (member_text (plain_of c.args.view.now) c.args.group) c.loop-entity.entity 48 (omega (arith, c.loop-entity-test.false))) c.loop-entity.invariant
