use Rattle.std.proofs.Common.{◌≡◌, ℕ, List, [], ◌∷◌, ◌++◌, ap, ◌∙◌, append_assoc, rules}
use Rattle.dispatch_core.specs.Running.{plain_of}
use Rattle.plain.specs.Steps.Finish.{seat_of}
use Rattle.host_console.specs.Views.{owner_text}
use Rattle.host_console.specs.State.{request_text, owned_text}
use Rattle.script_host.proofs.Told.{on_ok}
use Rattle.script_host.proofs.state.requests.put_owned.Goals as goal

pub returns : goal.returns
returns c =
    let old : List ℕ = c.args.out.now.items in
    let owner : List ℕ = owner_text c.seat_of.result in
    let text : List ℕ = request_text c.args.request.now in
    let told : c.put_owner.new.out.items ≡ old ++ (owner ++ 58 ∷ []) = search rules in
    let joined : (old ++ (owner ++ 58 ∷ [])) ++ text ≡ old ++ (owner ++ 58 ∷ text) = simp append_assoc in
    let same : owner ++ 58 ∷ text ≡ owned_text (plain_of c.args.view.now) c.args.request.now =
    ap (λ o. owner_text o ++ 58 ∷ text) (c.seat_of.ensures ∙ ap (seat_of (plain_of c.args.view.now)) c.session.ensures) in
    on_ok c.put_request.result (λ put. put ∙ ap (λ w. w ++ text) told ∙ joined ∙ ap (λ t. old ++ t) same) c.put_request.ensures
