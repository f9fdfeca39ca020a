use Rattle.std.proofs.Common.{[], ◌∷◌, ◌++◌, map, refl, sym, ap, ◌∙◌, subst}
use Rattle.std.proofs.lemmas.Bool.{true≢false}
use Rattle.std.proofs.lemmas.List.{map-append}
use Rattle.rtrb.specs.Ring.{sent, received}
use Rattle.host_core.specs.Kinds.{IsOfKind}
use Rattle.host_core.specs.Seats.{row_of}
use Rattle.host_core.proofs.SeatTook.{none-waits, took-one}
use Rattle.host_core.proofs.desk.Desk.take.Goals.{else-cached_slots-lt2-via-then-cached_slots-lt2+else-slots-lt2, else-cached_slots-lt2-via-else-cached_slots-lt2}
use Rattle.host_core.proofs.desk.Desk.take.Goals as goal

pub returns-in-Ok-clause-took : goal.returns-in-Ok-clause-took
returns-in-Ok-clause-took g c =
    let desk = c.args.self.now in
    let asked = g.C.Staged.asked_by desk.number in
    took-one (row_of g.C.Staged.asked_by g.C.Staged.named desk) _ c.asked.result refl
    (elim c.else-cached_slots-lt2.branch [
      | else-cached_slots-lt2-via-then-cached_slots-lt2+else-slots-lt2 w ↦ ap (λ t. sent t.1.1.0) w.self-is ∙ w.slots.ensures.looked.1
      | else-cached_slots-lt2-via-else-cached_slots-lt2 w ↦ ap (λ t. sent t.1.1.0) w.self-is
    ])
    refl (none-waits desk.waiting (cc)) (subst (IsOfKind (g.C.Staged.named desk.number)) (sym c.asked.ensures) (g.met.C.Staged.asks desk.number c.in-Ok.call))
    (ap (map asked) c.in-Ok.ensures.ok.0 ∙ map-append asked (received desk.calls) (c.in-Ok.call ∷ []) ∙ ap (λ a. map asked (received desk.calls) ++ a ∷ []) (sym c.asked.ensures))
    refl

pub returns-in-Ok-clause-stays : goal.returns-in-Ok-clause-stays
returns-in-Ok-clause-stays g c = λ e. absurd (true≢false (cc))
