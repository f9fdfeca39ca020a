-- Finish: its tables hold together, and mean what the plain step does.
use Rattle.std.proofs.Common.{◌≡◌, ℕ, ◌+◌, ◌≤◌, List, [], ◌∷◌, ◌++◌, cond, true, false, length, Option, Some, None, set, refl, sym, ap, ◌∙◌, arith, length-set}
use Rattle.std.specs.Option.{option_map_or}
use Rattle.dispatch_core.proofs.Words.{Bio, Effect, Request, Seat, Tables, bios_at, Plain, put, meaning, outbox_at, Limits, completed, delivered, after_effect, after_finish, seat_of, is_leaving, WellFormed, finished_tables, dropped_tables, ended_tables, with_bios}
use Rattle.plain.specs.Entities.{owed_fewer, without_gone}
use Rattle.dispatch_core.proofs.Sides.{CanFinish}
use Rattle.dispatch_core.proofs.Ruling.{ruled_like}
use Rattle.dispatch_core.proofs.Laws.{young_later}
use Rattle.dispatch_core.proofs.Finishes as finish
use Rattle.dispatch_core.proofs.Ended.{dropped-well, dropped-meaning}
use Rattle.dispatch_core.proofs.Queues.{whole, finished-placed, finished-queue, finished-requeued, finished-flight}

-- the request's bios fit into the outbox
pub outbox_room : (l : Limits) (n : ℕ) (t : Tables) (tag issue slot seat : ℕ) (entry : Seat) (request : Request) → WellFormed l n t → CanFinish t tag issue slot seat entry request
    → length (outbox_at t.outboxes seat) + length request.bios.items ≤ 32
outbox_room l n t tag issue slot seat entry request w can = finish.outbox_room l n t tag issue slot seat entry request w can

-- a table of bios is as long as before where bios were written into it
pub length-with_bios : (table : List (Option Bio)) (slots : List ℕ) (bios : List Bio) → length (with_bios table slots bios) ≡ length table
length-with_bios table [] bios = refl
length-with_bios table (slot ∷ slots) [] = refl
length-with_bios table (slot ∷ slots) (bio ∷ bios) = length-with_bios (set table slot (Some bio)) slots bios ∙ length-set table slot (Some bio)

module _ (l : Limits) (n : ℕ) (t : Tables) (tag issue slot seat : ℕ) (entry : Seat) (request : Request) (effect : Effect) (w : WellFormed l n t) (can : CanFinish t tag issue slot seat entry request) where
  -- the bios with their results
  abbrev results : List Bio
  results = completed effect t.overlay (bios_at t.bios request.bios.items)

  -- the plain machine with the request off its tag
  abbrev off : Plain
  off = record (meaning t) { overlay = after_effect effect t.overlay (bios_at t.bios request.bios.items); flight = put (meaning t).flight tag None }

  finished-well : entry.leaving ≡ false → WellFormed l (n + 1) (finished_tables t tag slot seat request.bios.items effect)
  finished-well stays = record {
    sized = record {
      requests = length-set t.requests slot _ ∙ w.sized.requests;
      bios = length-with_bios t.bios request.bios.items _ ∙ w.sized.bios;
      tags = length-set t.tags tag _ ∙ w.sized.tags;
      links = w.sized.links;
      requeued = w.sized.requeued;
      outboxes = length-set t.outboxes seat _ ∙ w.sized.outboxes;
      seats = w.sized.seats;
      few_tags = w.sized.few_tags;
      few_requests = w.sized.few_requests;
      small_image = w.sized.small_image;
    };
    seated = finish.seated l n t tag issue slot seat entry request w can effect stays;
    kept = finish.kept l n t tag issue slot seat entry request w can effect;
    placed = finished-placed l n t tag issue slot seat entry request effect w can;
    ruled = ruled_like l t (finished_tables t tag slot seat request.bios.items effect) w.ruled;
    young = young_later n t.in_service w.young;
    first = let h = w.first in omega arith;
    served = w.served;
  }

  finished-meaning : meaning (finished_tables t tag slot seat request.bios.items effect) ≡ record off { outbox = put (meaning t).outbox seat ((meaning t).outbox seat ++ results) }
  finished-meaning i = record {
    overlay = after_effect effect t.overlay (bios_at t.bios request.bios.items);
    seat = (meaning t).seat;
    queue = finished-queue l n t tag issue slot seat entry request effect w can i;
    requeued = finished-requeued l n t tag issue slot seat entry request effect w can i;
    outbox = finish.outbox_is l n t tag issue slot seat entry request w can effect i;
    flight = finished-flight l n t tag issue slot seat entry request effect w can i;
    frozen = t.frozen;
    served = t.served;
    head = (meaning t).head;
    bfq = (meaning t).bfq;
    scheduler = t.scheduler;
  }

  -- the tables hold together, whether the session leaves or stays
  pub ended-well : WellFormed l (n + 1) (ended_tables t tag slot seat entry request.bios.items effect)
  ended-well = (elim entry.leaving as (λ b. entry.leaving ≡ b
      → WellFormed l (n + 1) (cond b (dropped_tables t tag slot seat entry request.bios.items effect) (finished_tables t tag slot seat request.bios.items effect))) [
        | true ↦ λ leaves. dropped-well l n t tag issue slot seat entry request effect w can leaves
        | false ↦ λ stays. finished-well stays
      ]) refl

  -- the results are delivered to this seat
  delivered_here : after_finish l (meaning t) tag effect (whole t request) ≡ delivered l results off seat
  delivered_here = ap (λ o. option_map_or (delivered l results off) o off) (finish.seat_found l n t tag issue slot seat entry request w can)

  -- and they mean what the plain step does
  pub ended-meaning : meaning (ended_tables t tag slot seat entry request.bios.items effect) ≡ after_finish l (meaning t) tag effect (whole t request)
  ended-meaning = (elim entry.leaving as (λ b. entry.leaving ≡ b
      → meaning (cond b (dropped_tables t tag slot seat entry request.bios.items effect) (finished_tables t tag slot seat request.bios.items effect))
      ≡ cond b (without_gone l seat (owed_fewer seat (length results) off)) (let m : Plain = record off { outbox = put (meaning t).outbox seat ((meaning t).outbox seat ++ results) } in m)) [
        | true ↦ λ leaves. dropped-meaning l n t tag issue slot seat entry request effect w can leaves
        | false ↦ λ _. finished-meaning
      ]) refl
      ∙ sym (delivered_here ∙ ap (λ o. cond (is_leaving o) (without_gone l seat (owed_fewer seat (length results) off))
      (let m : Plain = record off { outbox = put (meaning t).outbox seat ((meaning t).outbox seat ++ results) } in m)) can.sits)

  -- whether the session leaves, as the plain machine counts exchanges
  pub leaver_is : option_map_or (λ k. is_leaving ((meaning t).seat k)) (seat_of (meaning t) request.session) false ≡ entry.leaving
  leaver_is = ap (λ o. option_map_or (λ k. is_leaving ((meaning t).seat k)) o false) (finish.seat_found l n t tag issue slot seat entry request w can) ∙ ap is_leaving can.sits
