-- What follows from the tests of Finish.
use Rattle.std.proofs.Common.{◌≡◌, ℕ, ◌+◌, ◌≤◌, List, Bool, true, cond, length, Option, Some, refl, subst, sym, ap, ◌∙◌, arith}
use Rattle.std.specs.Prelude.{IfSome}
use Rattle.dispatch_core.proofs.Words.{Outcome, Effect, Request, Seat, Tables, Flight, meaning, outbox_at, bios_at, Limits, after_finish, finish, effect_of, fits, size_of, at, WellFormed, ended_tables, total_count}
use Rattle.plain.specs.declared.answer.Answer.TheVariants.{Accepted}
use Rattle.plain.specs.declared.answer.Reply.TheVariants.{Finished}
use Rattle.plain.specs.Step.{MayGiveWay}
use Rattle.dispatch_core.specs.Counts.{blocks_put, finish_exchanges, is_of_leaver}
use Rattle.dispatch_core.specs.Ready.{IsReady, MayFinish}
use Rattle.dispatch_core.proofs.Sides.{CanFinish}
use Rattle.dispatch_core.proofs.FinishLaws as laws
use Rattle.dispatch_core.proofs.Written.{length-bios_at}
use Rattle.dispatch_core.proofs.Queues.{whole, flight_borne}
use Rattle.dispatch_core.proofs.Sectors.{size_is, request_taken}
use Rattle.dispatch_core.proofs.Finishing.{request_ready}
use Rattle.dispatch_core.proofs.Decided.{finish_does, finish_accepts}

same_request : (o : Option Request) (a b : Request) → o ≡ Some a → o ≡ Some b → a ≡ b
same_request o a b e f = cc

module _ (l : Limits) (n : ℕ) (t : Tables) (room : Bool) (tag issue : ℕ) (outcome : Outcome) (slot seat size : ℕ) (w : WellFormed l n t) (may : MayFinish l t room tag issue outcome slot seat size) where
  can : CanFinish t tag issue slot seat may.entry may.request
  can = record { borne = may.borne; here = may.here; within = may.seat_within; sits = may.sits; session = may.session }

  flight : (meaning t).flight tag ≡ Some (let f : Flight = record { issue = issue; request = whole t may.request } in f)
  flight = flight_borne t (at t.tags tag) (record { issue = issue; slot = slot }) may.request may.borne may.here

  sectors : size_of (bios_at t.bios may.request.bios.items) ≡ total_count t.bios may.request.bios.items
  sectors = size_is t.bios may.request.bios.items (request_taken l n t slot may.request w may.here)

  good : fits may.request.op (size_of (bios_at t.bios may.request.bios.items)) outcome ≡ true
  good = ap (λ k. fits may.request.op k outcome) (sectors ∙ sym may.size_is) ∙ may.good

  pub may_give_way : MayGiveWay (finish l (meaning t) room tag issue outcome).1
  may_give_way = finish_accepts l (meaning t) room tag issue outcome may.within _ flight refl good may.in_time

  -- with the slots of the request's bios as they were read, and what the outcome does to it
  module _ (slots : List ℕ) (request : Request) (here : at t.requests slot ≡ Some request) (read : slots ≡ request.bios.items)
      (effect : Effect) (does : effect ≡ effect_of outcome request.op) where
    list : slots ≡ may.request.bios.items
    list = read ∙ ap (λ (r : Request). r.bios.items) (same_request (at t.requests slot) request may.request here may.here)

    -- what the outcome does to the request
    its : effect ≡ effect_of outcome may.request.op
    its = does ∙ ap (λ (r : Request). effect_of outcome r.op) (same_request (at t.requests slot) request may.request here may.here)

    pub may_ready : IsReady t.bios slots effect
    may_ready =
        let P : List ℕ → Type 0 = λ s. IsReady t.bios s effect in
        let Q : Effect → Type 0 = λ e. IsReady t.bios may.request.bios.items e in
        subst P (sym list) (subst Q (sym its) (request_ready l n t tag issue slot seat may.entry may.request outcome w can (ap (λ k. fits may.request.op k outcome) (sym may.size_is) ∙ may.good)))

    pub may_fit : length (outbox_at t.outboxes seat) + length slots ≤ 32
    may_fit = omega (arith, laws.outbox_room l n t tag issue slot seat may.entry may.request w can, ap length list)

    pub may_size : size ≡ total_count t.bios slots
    may_size = may.size_is ∙ ap (total_count t.bios) (sym list)

    number : length (bios_at t.bios may.request.bios.items) ≡ length slots
    number = length-bios_at t.bios may.request.bios.items (request_taken l n t slot may.request w may.here) ∙ sym (ap length list)

    -- how many exchanges there are
    pub may_make : finish_exchanges outcome ((meaning t).flight tag) ≡ length slots + blocks_put effect (total_count t.bios slots) + 3
    may_make =
        ap (finish_exchanges outcome) flight
        ∙ ap (λ k. k + blocks_put (effect_of outcome may.request.op) (size_of (bios_at t.bios may.request.bios.items)) + 3) number
        ∙ ap (λ e. length slots + blocks_put e (size_of (bios_at t.bios may.request.bios.items)) + 3) (sym its)
        ∙ ap (λ k. length slots + blocks_put effect k + 3) (sectors ∙ ap (total_count t.bios) (sym list))

    pub may_make_most : (made least : ℕ) → IfSome (at t.seats seat) (λ entry. made ≤ least + (length slots + blocks_put effect (total_count t.bios slots) + 3 + cond entry.leaving 2 0))
        → made ≤ least + (finish_exchanges outcome ((meaning t).flight tag) + cond (is_of_leaver (meaning t) ((meaning t).flight tag)) 2 0)
    may_make_most made least h =
        let P : Option Seat → Type 0 = λ o. IfSome o (λ entry. made ≤ least + (length slots + blocks_put effect (total_count t.bios slots) + 3 + cond entry.leaving 2 0)) in
        let most = subst P may.sits h in
        let two : Bool → ℕ = λ b. cond b 2 0 in
        let more : two (is_of_leaver (meaning t) ((meaning t).flight tag)) ≡ two may.entry.leaving =
        ap (λ o. two (is_of_leaver (meaning t) o)) flight ∙ ap two (laws.leaver_is l n t tag issue slot seat may.entry may.request effect w can) in
        omega (arith, may_make, more, most)

    module _ (now : Tables) (ended : IfSome (at t.seats seat) (λ entry. now ≡ ended_tables t tag slot seat entry slots effect)) where
      tables : now ≡ ended_tables t tag slot seat may.entry may.request.bios.items effect
      tables =
          let P : Option Seat → Type 0 = λ o. IfSome o (λ entry. now ≡ ended_tables t tag slot seat entry slots effect) in
          subst P may.sits ended ∙ ap (λ s. ended_tables t tag slot seat may.entry s effect) list

      pub ended-well : WellFormed l (n + 1) now
      ended-well =
          let P : Tables → Type 0 = λ u. WellFormed l (n + 1) u in
          subst P (sym tables) (laws.ended-well l n t tag issue slot seat may.entry may.request effect w can)

      pub ended-answers : (meaning now, Accepted (Finished (length slots))) ≡ finish l (meaning t) room tag issue outcome
      ended-answers =
          let next =
          ap meaning tables ∙ laws.ended-meaning l n t tag issue slot seat may.entry may.request effect w can
          ∙ ap (λ e. after_finish l (meaning t) tag e (whole t may.request)) its in
          sym (finish_does l (meaning t) room tag issue outcome may.within _ flight refl good may.in_time
          ∙ ap (λ m. (m, Accepted (Finished (length (bios_at t.bios may.request.bios.items))))) (sym next)
          ∙ ap (λ k. (meaning now, Accepted (Finished k))) number)
