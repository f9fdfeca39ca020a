use Rattle.std.proofs.Common.{ℕ, ◌-◌, List, map, sym, ap, ◌∙◌, arith}
use Rattle.std.specs.List.{flat_map}
use Rattle.plain.specs.Lists.{numbers}
use Rattle.plain.specs.Machine.{Plain, WholeRequest}
use Rattle.dispatch_core.specs.Running.{plain_of}
use Rattle.host_console.specs.State.{borne, in_order, owned_text}
use Rattle.script_host.proofs.Placed.{map_both, tags_more}
use Rattle.script_host.proofs.state.flight.texts_in_order.Goals as goal

pub loop-tag-preserved : goal.loop-tag-preserved
loop-tag-preserved c =
    let m : Plain = plain_of c.args.view.now in
    let tag : ℕ = c.loop-tag.tag in
    let tags : ℕ = c.args.view.now.sizes.tags in
    let bears : ℕ → List WholeRequest = λ t. borne (m.flight t) in
    let others : List WholeRequest = flat_map bears (numbers tag (tags - tag)) in
    let all = tags_more bears tag tags (omega (arith, c.loop-tag-test.true)) c.loop-tag.invariant.within in
    record {
      within = omega (arith, c.loop-tag.invariant.within);
      texts = c.in_ok-place_tag.ensures (map (owned_text m) others) c.loop-tag.invariant.texts
          ∙ (ap in_order (sym (map_both (owned_text m) (bears (tag - 1)) others)) ∙ ap (λ rs. in_order (map (owned_text m) rs)) (sym all));
    }
