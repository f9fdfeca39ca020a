use Rattle.std.proofs.Common.{◌≡◌, ℕ, List, [], ◌∷◌, ◌++◌, None, Some, sym, ap, ◌∙◌, append_assoc, rules}
use Rattle.std.specs.Fmt.{decimal}
use Rattle.plain.specs.Machine.{Plain}
use Rattle.dispatch_core.specs.Running.{plain_of}
use Rattle.host_console.specs.Views.{owned_text, tag_text}
use Rattle.script_host.proofs.Told.{on_ok}
use Rattle.script_host.proofs.flights.put_tag.Goals as goal

pub returns-in_ok-write-in-Some : goal.returns-in_ok-write-in-Some
returns-in_ok-write-in-Some c =
    let m : Plain = plain_of c.args.view.now in
    let old : List ℕ = c.args.out.now.items in
    let tag : List ℕ = decimal c.args.tag in
    let issue : List ℕ = decimal c.in-Some.flying.issue in
    let text : List ℕ = owned_text m c.in-Some.flying.request in
    let told : c.write.new.self.items ≡ old ++ (32 ∷ (tag ++ 58 ∷ (issue ++ 58 ∷ []))) = search rules in
    let joined : (old ++ (32 ∷ (tag ++ 58 ∷ (issue ++ 58 ∷ [])))) ++ text ≡ old ++ (32 ∷ (tag ++ 58 ∷ (issue ++ 58 ∷ text))) = simp append_assoc in
    let same : 32 ∷ (tag ++ 58 ∷ (issue ++ 58 ∷ text)) ≡ tag_text m c.args.tag =
    ap (λ o. elim o [ None ↦ [] | Some f ↦ 32 ∷ (tag ++ 58 ∷ (decimal f.issue ++ 58 ∷ owned_text m f.request)) ]) (sym c.in-Some.is ∙ c.flight.ensures) in
    on_ok c.put_owned.result (λ put. search rules ∙ ap (λ w. w ++ text) told ∙ joined ∙ ap (λ t. old ++ t) same) c.put_owned.ensures
