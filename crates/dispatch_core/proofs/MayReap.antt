-- What follows from the tests of Reap, and from an answer that declines.
use Rattle.std.proofs.Common.{◌≡◌, ◌≢◌, ℕ, ◌+◌, ◌<◌, Bool, ◌≤◌, false, List, [], ◌∷◌, All, length, arith, drop, Some, refl, subst, sym, ap, ◌∙◌}
use Rattle.std.specs.Prelude.{unwrap_or, slice_get}
use Rattle.std.proofs.lemmas.List.Elements.{All-head}
use Rattle.dispatch_core.proofs.Words.{Bio, Seat, Tables, Plain, meaning, outbox_at, bios_at, Limits, at, IsCompleted, WellFormed, reaped_tables}
use Rattle.sector_core.specs.declared.bio.BioResult.{BioResult}
use Rattle.sector_core.specs.declared.bio.BioResult.TheVariants.{Written}
use Rattle.change_record.specs.declared.change.Change.{Change}
use Rattle.plain.specs.declared.answer.Answer.{Answer}
use Rattle.plain.specs.declared.answer.Answer.TheVariants.{Accepted, Refused, NotYet}
use Rattle.plain.specs.declared.answer.Code.TheVariants.{HistoryFull}
use Rattle.plain.specs.declared.answer.Reply.TheVariants.{Completed}
use Rattle.plain.specs.Tests.{StepResult}
use Rattle.plain.specs.Step.{MayGiveWay}
use Rattle.plain.specs.Steps.Reap.{reap}
use Rattle.dispatch_core.specs.Ready.{MayReap}
use Rattle.dispatch_core.specs.Relation.{Declines, Leaves}
use Rattle.dispatch_core.proofs.Sides.{CanReap}
use Rattle.dispatch_core.proofs.Bios.{reaped-outbox_was}
use Rattle.dispatch_core.proofs.Laws as laws
use Rattle.dispatch_core.proofs.Decided.{reap_does, reap_late, first_of_list}

-- an answer that declines is the plain step's
pub declined-answers : (m : Plain) (answer : Answer) (outcome : StepResult) → Declines m answer outcome → (m, answer) ≡ outcome
declined-answers m (Accepted reply) outcome e = absurd cc
declined-answers m (Refused code) outcome e = e
declined-answers m (NotYet cause) outcome e = e

-- and all is left as it was
pub declined-leaves : (l : Limits) (n least more : ℕ) (m : Plain) (answer : Answer) (outcome : StepResult) (t : Tables) (changes : List Change) (spare : ℕ) → Declines m answer outcome
    → Leaves l n least more answer t changes t changes spare
declined-leaves l n least more m (Accepted reply) outcome t changes spare e = absurd cc
declined-leaves l n least more m (Refused code) outcome t changes spare e = (refl, refl)
declined-leaves l n least more m (NotYet cause) outcome t changes spare e = (refl, refl)

module _ (l : Limits) (n : ℕ) (t : Tables) (room : Bool) (seat session : ℕ) (entry : Seat) (place : ℕ) (w : WellFormed l n t) (may : MayReap t room seat session entry place)
    (bio : Bio) (here : at t.bios place ≡ Some bio) where
  abbrev rest : List ℕ
  rest = drop 1 (outbox_at t.outboxes seat)

  can : CanReap t seat entry place rest bio
  can = record { within = may.within; sits = may.sits; outbox = first_of_list (outbox_at t.outboxes seat) place may.first; here = here }

  does : reap (meaning t) room seat session ≡ (meaning (reaped_tables t seat entry place rest), Accepted (Completed bio.serial (unwrap_or bio.result Written)))
  does =
      reap_does (meaning t) room seat session entry may.within may.sits may.stays may.session_is may.owed bio (bios_at t.bios rest)
      (reaped-outbox_was l n t seat entry place rest bio w can) may.in_time
      ∙ ap (λ m. (m, Accepted (Completed bio.serial (unwrap_or bio.result Written)))) (sym (laws.reaped-meaning l n t seat entry place rest bio w can))

  pub may_give_way : MayGiveWay (reap (meaning t) room seat session).1
  may_give_way = let P : StepResult → Type 0 = λ o. MayGiveWay o.1 in subst P (sym does) tt

  module _ (now : Tables) (tables : now ≡ reaped_tables t seat entry place rest) where
    pub reaped-answers : (result : BioResult) → result ≡ unwrap_or bio.result Written → (meaning now, Accepted (Completed bio.serial result)) ≡ reap (meaning t) room seat session
    reaped-answers result e =
        ap (λ r. (meaning now, Accepted (Completed bio.serial r))) e
        ∙ ap (λ u. (meaning u, Accepted (Completed bio.serial (unwrap_or bio.result Written)))) tables ∙ sym does

    pub reaped-well : WellFormed l (n + 1) now
    reaped-well =
        let P : Tables → Type 0 = λ u. WellFormed l (n + 1) u in
        subst P (sym tables) (laws.reaped-well l n t seat entry place rest bio w can)

-- without room in the history it is refused
pub refused_late : (l : Limits) (n : ℕ) (t : Tables) (room : Bool) (seat session : ℕ) (entry : Seat) (place : ℕ) → WellFormed l n t → seat < 16 → at t.seats seat ≡ Some entry → entry.leaving ≡ false
    → entry.session ≡ session → entry.unreaped ≢ 0 → slice_get (outbox_at t.outboxes seat) 0 ≡ Some place → room ≡ false → (meaning t, Refused HistoryFull) ≡ reap (meaning t) room seat session
refused_late l n t room seat session entry place w within sits stays same owed first late =
    let others : List ℕ = drop 1 (outbox_at t.outboxes seat) in
    let outbox : outbox_at t.outboxes seat ≡ place ∷ others = first_of_list (outbox_at t.outboxes seat) place first in
    let P : List ℕ → Type 0 = λ s. All (IsCompleted t.bios seat) s in
    let done = All-head (IsCompleted t.bios seat) place others (subst P outbox (w.kept.outbox seat within)) in
    let can : CanReap t seat entry place others done.bio = record { within = within; sits = sits; outbox = outbox; here = done.here } in
    sym (reap_late (meaning t) room seat session entry within sits stays same owed done.bio (bios_at t.bios others)
    (reaped-outbox_was l n t seat entry place others done.bio w can) late)

-- a bio is at the place
pub place_taken : (l : Limits) (n : ℕ) (t : Tables) (room : Bool) (seat session : ℕ) (entry : Seat) (place : ℕ) → WellFormed l n t → MayReap t room seat session entry place
    → (bio : Bio) × (at t.bios place ≡ Some bio)
place_taken l n t room seat session entry place w may =
    let others : List ℕ = drop 1 (outbox_at t.outboxes seat) in
    let P : List ℕ → Type 0 = λ s. All (IsCompleted t.bios seat) s in
    let done = All-head (IsCompleted t.bios seat) place others (subst P (first_of_list (outbox_at t.outboxes seat) place may.first) (w.kept.outbox seat may.within)) in
    (done.bio, done.here)

pub one_waits : (places : List ℕ) (place : ℕ) → slice_get places 0 ≡ Some place → 1 ≤ length places
one_waits [] place e = absurd cc
one_waits (first ∷ others) place e = omega arith

pub one_owed : (k : ℕ) → k ≢ 0 → 1 ≤ k
one_owed k h = omega arith
