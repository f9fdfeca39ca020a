use Rattle.std.proofs.Common.{◌*◌, take, ap, ◌∙◌}
use Rattle.dispatch_core.proofs.Contents.{content-free}
use Rattle.dispatch_core.proofs.complete.content_of.Goals as goal

pub returns-then-is_free : goal.returns-then-is_free
returns-then-is_free c =
    c.truncate.ensures ∙ ap (take (512 * c.args.range.count)) c.in_ok-found.ensures.cases
    ∙ content-free c.args.overlay.now c.args.range.start c.args.range.count c.args.bytes.now (c.is_free.ensures c.if-is_free.true)
