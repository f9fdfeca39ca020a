use Rattle.std.proofs.Common.{ℕ, List, ◌∷◌, ◌++◌, ap, ◌∙◌, append_assoc}
use Rattle.std.specs.Int.{w8, w64}
use Rattle.std.proofs.lemmas.Result.{on_ok_weaker}
use Rattle.session_proto.specs.Fields.{big_endian}
use Rattle.session_proto.proofs.host.put_result.Goals as goal

pub returns-in_ok-put_name-in-IoError : goal.returns-in_ok-put_name-in-IoError
returns-in_ok-put_name-in-IoError c =
    let out = c.args.out.now.items in
    let name : List ℕ = 0x85 ∷ big_endian w64 c.args.bio in
    rw c.in-IoError.is (on_ok_weaker c.put_u8.result
    (λ e. e ∙ ap (λ (x : List ℕ). x ++ big_endian w8 c.number_of.result) c.in_ok-put_name-in-IoError.ensures ∙ append_assoc out name (big_endian w8 c.number_of.result)
    ∙ ap (λ (k : ℕ). out ++ (name ++ big_endian w8 k)) c.number_of.ensures)
    c.put_u8.ensures)
