-- A run of calls, one more at its end.
use Rattle.std.proofs.Common.{List, [], ◌∷◌, ◌++◌, refl, subst}
use Rattle.plain.specs.declared.call.Call.{Call}
use Rattle.plain.specs.declared.answer.Answer.{Answer}
use Rattle.plain.specs.Keeper.{State}
use Rattle.plain.specs.Headline.{MayCall, MayRun}
use Rattle.history.specs.Kept.{Kept}
use Rattle.history.specs.Turns.{Turns, KeptRun}

pub run-more : (k mid next : State) (calls : List Call) (answers : List Answer) (call : Call) (answer : Answer)
    → MayRun k calls answers mid → MayCall mid call answer next → MayRun k (calls ++ call ∷ []) (answers ++ answer ∷ []) next
run-more k mid next [] [] call answer h c = let P : State → Type 0 = λ s. MayCall s call answer next in (next, subst P h c, refl)
run-more k mid next [] (a ∷ answers) call answer h c = absurd h
run-more k mid next (x ∷ calls) [] call answer h c = absurd h
run-more k mid next (x ∷ calls) (a ∷ answers) call answer h c = (h.0, h.1, run-more h.0 mid next calls answers call answer h.2 c)

pub kept-more : (k mid next : Kept) (calls : List Call) (answers : List Answer) (call : Call) (answer : Answer)
    → KeptRun k calls answers mid → MayCall mid.state call answer next.state → Turns mid call answer next
    → KeptRun k (calls ++ call ∷ []) (answers ++ answer ∷ []) next
kept-more k mid next [] [] call answer h c t =
    let P : Kept → Type 0 = λ s. MayCall s.state call answer next.state in
    let Q : Kept → Type 0 = λ s. Turns s call answer next in
    (next, subst P h c, subst Q h t, refl)
kept-more k mid next [] (a ∷ answers) call answer h c t = absurd h
kept-more k mid next (x ∷ calls) [] call answer h c t = absurd h
kept-more k mid next (x ∷ calls) (a ∷ answers) call answer h c t = (h.0, h.1, h.2, kept-more h.0 mid next calls answers call answer h.3 c t)
