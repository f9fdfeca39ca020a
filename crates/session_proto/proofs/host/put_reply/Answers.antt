use Rattle.std.proofs.Common.{ℕ, List, [], ◌∷◌, ◌++◌, sym, ap, ◌∙◌, append_assoc}
use Rattle.std.specs.Int.{w32}
use Rattle.session_proto.specs.Fields.{big_endian}
use Rattle.session_proto.specs.Host.{reply_body}
use Rattle.session_proto.proofs.host.put_reply.Goals as goal

pub returns-in_ok-put_u32-in-Moved-2 : goal.returns-in_ok-put_u32-in-Moved-2
returns-in_ok-put_u32-in-Moved-2 c =
    let out = c.args.out.now.items in
    let kind : List ℕ = 0x93 ∷ [] in
    let cursor = big_endian w32 c.in-Moved.cursor in
    let length = big_endian w32 c.in-Moved.length in
    c.in_ok-put_u32-in-Moved-2.ensures ∙ ap (λ (x : List ℕ). x ++ length) (c.in_ok-put_u32-in-Moved.ensures ∙ ap (λ (x : List ℕ). x ++ cursor) c.in_ok-push-in-Moved.ensures.items)
    ∙ append_assoc (out ++ kind) cursor length ∙ append_assoc out kind (cursor ++ length) ∙ ap (λ r. out ++ reply_body r) (sym c.in-Moved.is)
