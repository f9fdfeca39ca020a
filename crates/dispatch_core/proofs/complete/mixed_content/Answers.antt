use Rattle.std.proofs.Common.{rules, ap, ◌∙◌, ◌≡◌, ◌-◌, ◌++◌, take, drop}
use Rattle.std.specs.Prelude.{unwrap_or}
use Rattle.std.specs.FinMap as blocks
use Rattle.plain.specs.Steps.Finish.{content}
use Rattle.dispatch_core.proofs.Contents.{all_more, content-more, content-none, first_bytes, other_bytes}
use Rattle.dispatch_core.proofs.complete.mixed_content.Goals as goal

pub loop-sector-init : goal.loop-sector-init
loop-sector-init c =
    ap (λ l. l ++ content c.args.overlay.now c.args.range.start (c.end-sector-end.result - c.args.range.start) c.args.bytes.now) c.in_ok-found.ensures.items
    ∙ ap (λ n. content c.args.overlay.now c.args.range.start n c.args.bytes.now) (all_more c.args.range.start c.args.range.count c.end-sector-end.result c.end-sector-end.ensures)

pub loop-sector-preserved : goal.loop-sector-preserved
loop-sector-preserved c =
    let overlay = c.args.overlay.now in
    let found = c.loop-sector.found.items in
    let rest = c.loop-sector.rest.now in
    let sector = c.loop-sector.sector in
    let all = content overlay c.args.range.start c.args.range.count c.args.bytes.now in
    let others : c.split_at.result.1.now ≡ drop 512 rest = c.split_at.ensures.back ∙ other_bytes rest c.min.result (search rules) in
    let first : c.split_at.result.0.now ≡ take 512 rest = c.split_at.ensures.front ∙ first_bytes rest c.min.result (search rules) in
    let more : c.extend_from_slice.new.self.items ≡ found ++ unwrap_or (blocks.get overlay sector) (take 512 rest) =
    c.in_ok-extend_from_slice.ensures.items ∙ ap (λ l. found ++ l) (c.block_or.ensures ∙ ap (unwrap_or (blocks.get overlay sector)) first) in
    content-more overlay found c.extend_from_slice.new.self.items rest c.split_at.result.1.now all sector c.end-sector-end.result c.loop-sector-test.true more others c.loop-sector.invariant

pub returns : goal.returns
returns c = c.in_ok-from_vec.ensures.ok ∙ content-none c.args.overlay.now c.loop-sector.found.items c.loop-sector.rest.now (content c.args.overlay.now c.args.range.start c.args.range.count c.args.bytes.now) c.loop-sector.sector c.end-sector-end.result c.loop-sector-test.false c.loop-sector.invariant
