-- A reap tells the result of the first bio in the outbox.
use Rattle.std.proofs.Common.{true, false, Bool, ◌≡◌, inl, inr, ℕ, ◌+◌, ◌==◌, List, [], ◌∷◌, ◌++◌, All, Option, Some, None, cond, unwrap_or, refl, sym, subst, ap}
use Rattle.std.proofs.lemmas.List.Elements.{All-head}
use Rattle.sector_core.specs.declared.bio.BioFields.{BioFields as Bio}
use Rattle.sector_core.specs.declared.bio.BioResult.{BioResult}
use Rattle.sector_core.specs.declared.bio.BioResult.TheVariants.{Written}
use Rattle.plain.specs.Machine.{Plain}
use Rattle.plain.specs.declared.answer.Reply.{Reply}
use Rattle.plain.specs.declared.answer.Reply.TheVariants.{Attached, Queued, Completed, Left, Issued, Finished, Requeued, Group, Done, Moved, Taken}
use Rattle.plain.specs.declared.answer.Answer.{Answer}
use Rattle.plain.specs.declared.answer.Answer.TheVariants.{Refused, NotYet}
use Rattle.plain.specs.declared.answer.Code.TheVariants.{NothingOwed}
use Rattle.plain.specs.declared.answer.Cause.{Cause}
use Rattle.plain.specs.declared.answer.Cause.TheVariants.{Held}
use Rattle.plain.specs.declared.step.Step.{Step}
use Rattle.plain.specs.declared.step.Step.TheVariants.{Reap}
use Rattle.plain.specs.declared.call.Call.{Call}
use Rattle.plain.specs.declared.call.Call.TheVariants.{Do}
use Rattle.plain.specs.Opening.{Limits}
use Rattle.plain.specs.Sessions.{seat_tests, unreaped}
use Rattle.plain.specs.Steps.Reap.{reaped, reap}
use Rattle.plain.specs.Step.{step}
use Rattle.plain.specs.Keeper.{State, machine_of, has_room, did, called}
use Rattle.plain.specs.Headline.{replay}
use Rattle.host_calls.specs.Lengths.{FitsSectors, HasFittingResult}
use Rattle.host_calls.specs.Answered.{IsAnswer}
use Rattle.host_calls.specs.Results.{IsFirst, ReapsTellResults}
use Rattle.host_calls.proofs.Fillings.{machine-filled}
use Rattle.host_calls.proofs.Replies.{first-is, accepted-is, did-is}

-- such a reply is about the first bio of this outbox
abbrev IsOfFirst : List Bio → Reply → Type 0
IsOfFirst outbox (Attached session) = Unit {0}
IsOfFirst outbox (Queued bio) = Unit {0}
IsOfFirst outbox (Completed serial result) = IsFirst serial result outbox
IsOfFirst outbox Left = Unit {0}
IsOfFirst outbox (Issued tag issue op range) = Unit {0}
IsOfFirst outbox (Finished bios) = Unit {0}
IsOfFirst outbox Requeued = Unit {0}
IsOfFirst outbox (Group number) = Unit {0}
IsOfFirst outbox Done = Unit {0}
IsOfFirst outbox (Moved cursor steps) = Unit {0}
IsOfFirst outbox (Taken work) = Unit {0}

-- whatever the cause
abbrev Any : Cause → Type 0
Any cause = Unit {0}

-- a result that fits is there
there : (count : ℕ) (o : Option BioResult) → FitsSectors count o → o ≡ Some (unwrap_or o Written)
there count None fits = absurd fits
there count (Some result) fits = refl

reaped-first : (room : Bool) (m : Plain) (seat : ℕ) (bios : List Bio) → m.outbox seat ≡ bios → All HasFittingResult bios → IsAnswer (IsOfFirst (m.outbox seat)) Any (reaped room m seat bios).1
reaped-first room m seat [] is h = tt
reaped-first room m seat (bio ∷ bios) is h =
    let its : HasFittingResult bio = All-head HasFittingResult bio bios h in
    accepted-is (IsOfFirst (m.outbox seat)) Any room m _ (Completed bio.serial (unwrap_or bio.result Written)) (bio, bios, is, refl, there bio.range.count bio.result its.1)

reap-first : (m : Plain) (room : Bool) (seat session : ℕ) → All HasFittingResult (m.outbox seat) → IsAnswer (IsOfFirst (m.outbox seat)) Any (reap m room seat session).1
reap-first m room seat session h =
    let tests : List (Bool × Answer) = seat_tests m seat session ++ ((unreaped m seat == 0, Refused NothingOwed) ∷ []) in
    first-is (IsOfFirst (m.outbox seat)) Any tests m (reaped room m seat (m.outbox seat)) (tt, (tt, (tt, (tt, tt)))) (reaped-first room m seat (m.outbox seat) refl h)

called-first : (k : State) (seat session : ℕ) → All HasFittingResult ((machine_of k).outbox seat)
    → IsAnswer (IsOfFirst ((machine_of k).outbox seat)) Any (called k (Do (Reap seat session))).1
called-first k seat session h =
    let m : Plain = machine_of k in
    let s : Step = Reap seat session in
    let answer : Answer = (step k.limits m (k.last + 1) (has_room k) s).1 in
    elim k.held as (λ t. IsAnswer (IsOfFirst (m.outbox seat)) Any (cond t (k, NotYet Held) (did k s answer)).1) [
      | true ↦ tt
      | false ↦ did-is (IsOfFirst (m.outbox seat)) Any k s answer (reap-first m (has_room k) seat session h)
    ]

-- the law
pub reaps-tell : (l : Limits) (most : ℕ) (journal : List Call) → ReapsTellResults l most journal
reaps-tell l most journal seat session serial result next may =
    let k : State = replay l most journal in
    let outbox : List Bio = (machine_of k).outbox seat in
    elim may [
      | inl plain ↦
          let same = ap (λ (o : State × Answer). o.1) plain in
          subst (IsAnswer (IsOfFirst outbox) Any) (sym same) (called-first k seat session ((machine-filled l most journal).2 seat))
      | inr wants ↦ let refused = wants.2 in cc
    ]
