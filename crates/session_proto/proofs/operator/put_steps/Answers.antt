use Rattle.std.proofs.Common.{ℕ, List, [], ◌∷◌, ◌++◌, ap, ◌∙◌, append_assoc}
use Rattle.std.specs.Int.{w32}
use Rattle.std.proofs.lemmas.Result.{on_ok_weaker}
use Rattle.session_proto.specs.Fields.{big_endian}
use Rattle.session_proto.proofs.operator.put_steps.Goals as goal

pub returns : goal.returns
returns c = on_ok_weaker c.put_u32.result
    (λ e. e ∙ ap (λ (x : List ℕ). x ++ big_endian w32 c.args.k) c.in_ok-push.ensures.items ∙ append_assoc c.args.out.now.items (c.args.kind ∷ []) (big_endian w32 c.args.k))
    c.put_u32.ensures
