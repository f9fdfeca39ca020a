-- Some bios of a session that leaves are dropped.
use Rattle.std.proofs.Common.{◌≡◌, inl, inr, ℕ, ◌+◌, ◌-◌, ◌<◌, List, [], cond, true, false, Option, Some, None, length, get_or, set, ◌==◌, refl, sym, ap, ◌∙◌, subst, arith, eq-eqb}
use Rattle.std.specs.Prelude.{All, sum_by}
use Rattle.std.specs.Option.{option_map, option_map_or}
use Rattle.std.proofs.Math.Path.{fun_ext}
use Rattle.std.proofs.lemmas.Bool.{cases_eq}
use Rattle.std.proofs.lemmas.List.{get_or-set_same, get_or-set_other}
use Rattle.arrayvec.specs.ArrayVec.{ArrayVec}
use Rattle.dispatch_core.proofs.Words.{Bio, Blocks, put, Request, Issue, Seat, Tables, outbox_at, Limits, with_unreaped, at, one, times, named, WellFormed, Seated, Kept, Placed, IsSlotOf, IsCompleted, leaving_entry, without_bios}
use Rattle.request_pool.specs.Slots.{seat_slots}
use Rattle.dispatch_core.specs.WellFormed.{taken}
use Rattle.dispatch_core.proofs.Times.{Apart, at_within}
use Rattle.dispatch_core.proofs.Room.{Distinct}
use Rattle.dispatch_core.proofs.Keeping.{KeepsSessions, sessions_set, owned_by, early_set, apart_set, left_set, waiting_same, completed_same, by_request, by_outbox}
use Rattle.dispatch_core.proofs.Written.{AreTaken}
use Rattle.dispatch_core.proofs.Dropped.{without_bios_apart, one-without_bios, was_there, taken-without_here, taken-without_other}

-- a value that was put twice, and one that was put
pub put_again : {A : Type 0} (f : ℕ → A) (k : ℕ) (a b : A) → put (put f k a) k b ≡ put f k b
put_again f k a b = fun_ext (λ n. elim (n == k) as (λ c. cond c b (cond c a (f n)) ≡ cond c b (f n)) [ true ↦ refl | false ↦ refl ])

pub put_here : {A : Type 0} (f : ℕ → A) (k : ℕ) (a : A) → put f k a k ≡ a
put_here f k a = ap (λ b. cond b a (f k)) (eq-eqb k k refl)

-- requests stay where they are while sessions keep their seats
pub placed_like : (n : ℕ) (t : Tables) (overlay : Blocks) (bios : List (Option Bio)) (outboxes : List (ArrayVec ℕ)) (seats : List (Option Seat)) → KeepsSessions t.seats seats → Placed n t
    → Placed n (record t { overlay = overlay; bios = bios; outboxes = outboxes; seats = seats })
placed_like n t overlay bios outboxes seats keeps p = record {
  link = λ k link e. let q = p.link k link e in let now = keeps link.seat q.entry q.sits in record {
    early = q.early;
    within = q.within;
    request = q.request;
    here = q.here;
    entry = now.0;
    sits = now.1;
    session = now.2 ∙ q.session;
  };
  apart = p.apart;
  again = p.again;
  tag = p.tag;
  requeued = p.requeued;
  once = p.once;
  counted = p.counted;
}

module _ (l : Limits) (n : ℕ) (t : Tables) (seat : ℕ) (entry : Seat) (slots : List ℕ) (w : WellFormed l n t) (within : seat < 16) (sits : at t.seats seat ≡ Some entry)
    (of : All (IsSlotOf seat) slots) (few : Distinct slots) (have : AreTaken t.bios slots) where
  -- the entry that counts fewer
  abbrev fewer : Seat
  fewer = leaving_entry entry (length slots)

  seat_within : seat < length t.seats
  seat_within = at_within t.seats seat entry sits

  counted_less : (k : ℕ) → k < 16 → option_map_or (λ s. s.unreaped) (at (set t.seats seat (Some fewer)) k) 0 ≡ taken (seat_slots k (without_bios t.bios slots))
  counted_less k h = elim (cases_eq k seat) [
    | inl e ↦
        let was : entry.unreaped ≡ taken (seat_slots seat t.bios) = sym (ap (λ o. option_map_or (λ (s : Seat). s.unreaped) o 0) sits) ∙ w.seated.counted seat within in
        let less = taken-without_here seat t.bios slots within w.sized.bios of few have in
        let now : fewer.unreaped ≡ taken (seat_slots seat (without_bios t.bios slots)) = omega (arith, was, less) in
        let here : option_map_or (λ s. s.unreaped) (at (set t.seats seat (Some fewer)) seat) 0 ≡ taken (seat_slots seat (without_bios t.bios slots)) =
        ap (λ o. option_map_or (λ (s : Seat). s.unreaped) o 0) (get_or-set_same t.seats seat (Some fewer) None seat_within) ∙ now in
        subst (λ j. option_map_or (λ s. s.unreaped) (at (set t.seats seat (Some (leaving_entry entry (length slots)))) j) 0 ≡ taken (seat_slots j (without_bios t.bios slots))) (sym e) here
    | inr other ↦
        ap (λ o. option_map_or (λ (s : Seat). s.unreaped) o 0) (get_or-set_other t.seats seat k (Some fewer) None other) ∙ w.seated.counted k h
        ∙ sym (taken-without_other seat k t.bios slots other of)
  ]

  -- the sessions keep their seats
  pub sessions_less : KeepsSessions t.seats (set t.seats seat (Some (leaving_entry entry (length slots))))
  sessions_less = sessions_set t.seats seat entry fewer sits refl

  module _ (overlay : Blocks) (requests : List (Option Request)) (tags : List (Option Issue)) (outboxes : List (ArrayVec ℕ)) where
    -- the tables without those bios
    abbrev less : Tables
    less = record t {
      overlay = overlay;
      bios = without_bios t.bios slots;
      requests = requests;
      tags = tags;
      outboxes = outboxes;
      seats = set t.seats seat (Some (leaving_entry entry (length slots)));
    }

    -- the seats keep their rules
    pub less-seated : outbox_at outboxes seat ≡ [] → ((k : ℕ) → (k ≡ seat → ⊥) → outbox_at outboxes k ≡ outbox_at t.outboxes k)
        → Seated (n + 1) (record t { overlay = overlay; bios = without_bios t.bios slots; requests = requests; tags = tags; outboxes = outboxes; seats = set t.seats seat (Some (leaving_entry entry (length slots))) })
    less-seated empty others = record {
      early = early_set n t.seats seat fewer seat_within (let early = w.seated.early seat entry sits in omega arith) w.seated.early;
      apart = apart_set t.seats seat fewer seat_within w.seated.apart (λ j a h e. w.seated.apart j seat a entry h sits e);
      counted = counted_less;
      left = left_set t.seats outboxes seat fewer seat_within (λ _. empty) (λ k s h leaves. elim (cases_eq k seat) [
        | inl e ↦ ap (outbox_at outboxes) e ∙ empty
        | inr other ↦ others k other ∙ w.seated.left k s h leaves
      ]);
    }

    module _ (were : (k : ℕ) (r : Request) → at requests k ≡ Some r → (at t.requests k ≡ Some r) × All (λ q. Apart q slots) r.bios.items)
        (boxed : (j : ℕ) → j < 16 → All (λ q. Apart q slots × IsCompleted t.bios j q) (outbox_at outboxes j))
        (once : (q : ℕ) → sum_by (by_request q) requests + sum_by (by_outbox q) outboxes + times q slots ≡ one (at t.bios q)) where
      less_once : (q : ℕ) → named less q ≡ one (at less.bios q)
      less_once q =
          let gone = one-without_bios t.bios slots q few have in
          let goal : sum_by (by_request q) requests + sum_by (by_outbox q) outboxes ≡ one (at (without_bios t.bios slots) q) = omega (arith, gone, once q) in
          goal

      -- the bios keep their rules
      pub less-kept : Kept l (record t { overlay = overlay; bios = without_bios t.bios slots; requests = requests; tags = tags; outboxes = outboxes; seats = set t.seats seat (Some (leaving_entry entry (length slots))) })
      less-kept = record {
        bio = λ q b e. w.kept.bio q b (was_there t.bios slots q b have few e);
        request = λ k r e. let old = were k r e in owned_by t less r sessions_less
            (λ j all i d lt. waiting_same t.bios less.bios r.op j (get_or r.bios.items i d) (without_bios_apart t.bios slots (get_or r.bios.items i d) (old.1 i d lt)) (all i d lt))
            (w.kept.request k r old.0);
        outbox = λ j h i d lt. let old = boxed j h i d lt in completed_same t.bios less.bios j (get_or (outbox_at outboxes j) i d) (without_bios_apart t.bios slots (get_or (outbox_at outboxes j) i d) old.0) old.1;
        once = less_once;
      }

  -- the entry of the seat, as the plain machine counts it
  pub less-seat : (f : ℕ → Option Seat) (e : Seat) (count : ℕ) → f seat ≡ Some e → (let s : Seat = record e { leaving = true } in s) ≡ (let s : Seat = record entry { leaving = true } in s) → e.leaving ≡ true → count ≡ length slots
      → put f seat (option_map (with_unreaped (option_map_or (λ s. s.unreaped) (f seat) 0 - count)) (f seat)) ≡ put f seat (Some (leaving_entry entry (length slots)))
  less-seat f e count here like leaves same =
      let counted : (o : Option Seat) → o ≡ Some e → option_map (with_unreaped (option_map_or (λ s. s.unreaped) o 0 - count)) o ≡ Some (with_unreaped (e.unreaped - count) e) =
      λ o p. ap (λ o. option_map (with_unreaped (option_map_or (λ s. s.unreaped) o 0 - count)) o) p in
      let entry_is : with_unreaped (e.unreaped - count) e ≡ leaving_entry entry (length slots) =
      ap (λ b. let s : Seat = record e { unreaped = e.unreaped - count; leaving = b } in s) leaves
      ∙ ap (λ (s : Seat). let r : Seat = record s { unreaped = s.unreaped - count } in r) like
      ∙ ap (leaving_entry entry) same in
      ap (put f seat) (counted (f seat) here ∙ ap Some entry_is)
