use Rattle.std.proofs.Common.{ℕ, List, [], ◌∷◌, ◌++◌, ap, ◌∙◌, append_assoc}
use Rattle.std.specs.Int.{w8, w16}
use Rattle.std.proofs.lemmas.Result.{on_ok_weaker}
use Rattle.session_proto.specs.Fields.{big_endian}
use Rattle.session_proto.proofs.operator.put_weight.Goals as goal

pub returns : goal.returns
returns c =
    let kind : List ℕ = c.args.kind ∷ [] in
    let group = big_endian w8 c.args.group in
    let weight = big_endian w16 c.args.weight in
    on_ok_weaker c.put_u16.result
    (λ e. e ∙ ap (λ (x : List ℕ). x ++ weight) (c.in_ok-put_u8.ensures ∙ ap (λ (x : List ℕ). x ++ group) c.in_ok-push.ensures.items)
    ∙ append_assoc (c.args.out.now.items ++ kind) group weight ∙ append_assoc c.args.out.now.items kind (group ++ weight))
    c.put_u16.ensures
