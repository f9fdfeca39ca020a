use Rattle.std.proofs.Common.{◌++◌, sym, ap, ◌∙◌, arith}
use Rattle.dispatch_core.specs.Running.{plain_of}
use Rattle.host_console.specs.Views.{tag_text}
use Rattle.script_host.proofs.Told.{more_numbers, no_numbers, one_more, all_told}
use Rattle.script_host.proofs.flights.put_tags.Goals as goal

pub loop-tag-preserved : goal.loop-tag-preserved
loop-tag-preserved c =
    let next = more_numbers (tag_text (plain_of c.args.view.now)) c.loop-tag.tag c.args.view.now.sizes.tags (omega (arith, c.loop-tag-test.true, c.tags-tag-end.ensures)) in
    one_more c.loop-tag.out.items c.put_tag.new.out.items _ _ _ c.in_ok-put_tag.ensures (ap (λ ys. c.loop-tag.out.items ++ ys) (sym next) ∙ c.loop-tag.invariant)

pub returns : goal.returns
returns c =
    all_told c.loop-tag.out.items _ _ (no_numbers (tag_text (plain_of c.args.view.now)) c.loop-tag.tag c.args.view.now.sizes.tags (omega (arith, c.loop-tag-test.false, c.tags-tag-end.ensures))) c.loop-tag.invariant
