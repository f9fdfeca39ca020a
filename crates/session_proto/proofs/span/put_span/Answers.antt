use Rattle.std.proofs.Common.{ℕ, List, ◌++◌, ap, ◌∙◌, append_assoc}
use Rattle.std.specs.Int.{w16, w64}
use Rattle.std.proofs.lemmas.Result.{on_ok_weaker}
use Rattle.session_proto.specs.Fields.{big_endian}
use Rattle.session_proto.specs.Client.{span_bytes}
use Rattle.session_proto.proofs.span.put_span.Goals as goal

pub returns : goal.returns
unfolding span_bytes big_endian
returns c =
    let session = big_endian w64 c.args.session in
    let start = big_endian w64 c.args.range.start in
    let count = big_endian w16 c.args.range.count in
    on_ok_weaker c.put_u16.result
    (λ e. e ∙ ap (λ (x : List ℕ). x ++ count) (c.in_ok-put_u64-2.ensures ∙ ap (λ (x : List ℕ). x ++ start) c.in_ok-put_u64.ensures)
    ∙ append_assoc (c.args.out.now.items ++ session) start count ∙ append_assoc c.args.out.now.items session (start ++ count))
    c.put_u16.ensures
