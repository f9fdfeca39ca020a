use Rattle.std.proofs.Common.{◌++◌, sym, ap, ◌∙◌, arith}
use Rattle.dispatch_core.specs.Running.{plain_of}
use Rattle.host_console.specs.Views.{queued_text}
use Rattle.script_host.proofs.Told.{more, none, done, one_more, all_told}
use Rattle.script_host.proofs.requests.put_queued.Goals as goal

pub returns-in-None : goal.returns-in-None
returns-in-None c =
    all_told c.loop-place.out.items _ _ (none queued_text ((plain_of c.args.view.now).queue c.args.seat) c.loop-place.place (sym (c.queued.ensures.request c.requires.sound.0 c.requires.sound.1) ∙ c.in-None.is)) c.loop-place.invariant.whole

pub loop-place-preserved : goal.loop-place-preserved
loop-place-preserved c =
    let next = more queued_text ((plain_of c.args.view.now).queue c.args.seat) c.loop-place.place c.in-Some.request (sym (c.queued.ensures.request c.requires.sound.0 c.requires.sound.1) ∙ c.in-Some.is) in
    record {
      whole = one_more c.loop-place.out.items c.put_item.new.out.items _ _ _ c.in_ok-put_item-in-Some.ensures (ap (λ ys. c.loop-place.out.items ++ ys) (sym next) ∙ c.loop-place.invariant.whole);
      few = λ h. c.queued.ensures.few c.requires.sound.0 c.requires.sound.1;
    }

pub returns : goal.returns
returns c =
    let few = c.loop-place.invariant.few (omega (arith, c.loop-place-test.false)) in
    all_told c.loop-place.out.items _ _ (done queued_text ((plain_of c.args.view.now).queue c.args.seat) c.loop-place.place (omega (arith, few, c.loop-place-test.false))) c.loop-place.invariant.whole
