-- Leave: the bios of the outbox are dropped.
use Rattle.std.proofs.Common.{◌≡◌, inl, inr, ℕ, ◌+◌, ◌<◌, ◌≤◌, List, [], Some, None, length, get_or, set, refl, sym, ap, ◌∙◌, subst, arith, length-set}
use Rattle.std.specs.Prelude.{All, sum_by}
use Rattle.std.specs.Option.{option_map}
use Rattle.std.proofs.Math.Path.{fun_ext}
use Rattle.std.proofs.lemmas.Bool.{cases_eq, cases_lt}
use Rattle.std.proofs.lemmas.List.{get_or-set_same}
use Rattle.std.proofs.lemmas.List.Elements.{All-nil, All-same}
use Rattle.dispatch_core.proofs.Words.{Request, bios_at, Seat, Tables, Plain, put, meaning, whole_at, outbox_at, Limits, at, one, times, WellFormed, IsSlotOf, IsCompleted, leaving_entry, left_tables, without_bios}
use Rattle.plain.specs.Steps.Leave.{with_leaving, left}
use Rattle.plain.specs.Entities.{owed_fewer, without_gone}
use Rattle.dispatch_core.proofs.Times.{Apart}
use Rattle.dispatch_core.proofs.Room.{Distinct}
use Rattle.dispatch_core.proofs.Keeping.{put-set, put_from, outbox_same, outbox_other, outbox_past, one_seat, waiting_apart, by_request, by_outbox, outboxes_set, outbox_named}
use Rattle.dispatch_core.proofs.Written.{one-le, AreTaken, length-bios_at}
use Rattle.dispatch_core.proofs.Dropped.{length-without_bios, bios_at-without}
use Rattle.dispatch_core.proofs.QueueLists.{same_queue}
use Rattle.dispatch_core.proofs.QueueFacts.{whole_same, flight_same}
use Rattle.dispatch_core.proofs.Requeued.{requeued_same}
use Rattle.dispatch_core.proofs.Laws.{WellFormed-later}
use Rattle.dispatch_core.proofs.Lessened.{put_again, put_here, placed_like, sessions_less, less-seated, less-kept, less-seat}
use Rattle.dispatch_core.proofs.Freed.{or_gone, or_gone-well, or_gone-meaning, fewer_is}

module _ (l : Limits) (n : ℕ) (t : Tables) (seat : ℕ) (entry : Seat) (w : WellFormed l n t) (within : seat < 16) (sits : at t.seats seat ≡ Some entry) where
  -- the slots in the outbox
  abbrev slots : List ℕ
  slots = outbox_at t.outboxes seat

  -- the entry that counts fewer
  abbrev fewer : Seat
  fewer = leaving_entry entry (length slots)

  -- the tables without those bios
  abbrev now : Tables
  now = record t {
    overlay = t.overlay;
    bios = without_bios t.bios slots;
    requests = t.requests;
    tags = t.tags;
    outboxes = set t.outboxes seat (record { items = [] });
    seats = set t.seats seat (Some fewer);
  }

  outbox_within : seat < length t.outboxes
  outbox_within = omega (arith, within, w.sized.outboxes)

  done : All (IsCompleted t.bios seat) slots
  done = w.kept.outbox seat within

  of : All (IsSlotOf seat) slots
  of k d lt = (done k d lt).slot_of

  have : AreTaken t.bios slots
  have k d lt = ap one (done k d lt).here

  few : Distinct slots
  few q =
      let once : sum_by (by_request q) t.requests + sum_by (by_outbox q) t.outboxes ≡ one (at t.bios q) = w.kept.once q in
      let here : times q slots ≤ sum_by (by_outbox q) t.outboxes = outbox_named q t.outboxes seat outbox_within in
      omega (arith, once, here, one-le (at t.bios q))

  -- the bios of requests stay
  asked_apart : (k : ℕ) (r : Request) → at t.requests k ≡ Some r → All (λ q. Apart q slots) r.bios.items
  asked_apart k r h i d lt m c le e =
      let owned = w.kept.request k r h in
      waiting_apart t.bios r.op owned.seat seat (get_or r.bios.items i d) (get_or slots m c) (owned.bios i d lt) (done m c le) (sym e)

  -- and those of other outboxes
  boxed_apart : (j : ℕ) → (j ≡ seat → ⊥) → j < 16 → All (λ q. Apart q slots) (outbox_at t.outboxes j)
  boxed_apart j other h i d lt m c le e = other (one_seat j seat (get_or (outbox_at t.outboxes j) i d) (w.kept.outbox j h i d lt).slot_of (subst (IsSlotOf seat) e (of m c le)))

  boxed : (j : ℕ) → j < 16 → All (λ q. Apart q slots × IsCompleted t.bios j q) (outbox_at now.outboxes j)
  boxed j h = elim (cases_eq j seat) [
    | inl e ↦ All-same (λ q. Apart q slots × IsCompleted t.bios j q) (outbox_at now.outboxes j) [] (ap (outbox_at now.outboxes) e ∙ outbox_same t.outboxes seat [] outbox_within) (All-nil (λ q. Apart q slots × IsCompleted t.bios j q))
    | inr other ↦ All-same (λ q. Apart q slots × IsCompleted t.bios j q) (outbox_at now.outboxes j) (outbox_at t.outboxes j) (outbox_other t.outboxes seat j [] other)
        (λ i d lt. (boxed_apart j other h i d lt, w.kept.outbox j h i d lt))
  ]

  once_less : (q : ℕ) → sum_by (by_request q) t.requests + sum_by (by_outbox q) now.outboxes + times q slots ≡ one (at t.bios q)
  once_less q =
      let sums : sum_by (by_outbox q) now.outboxes + times q slots ≡ sum_by (by_outbox q) t.outboxes + times q [] = outboxes_set q t.outboxes seat [] outbox_within in
      let none : times q [] ≡ 0 = refl in
      let once : sum_by (by_request q) t.requests + sum_by (by_outbox q) t.outboxes ≡ one (at t.bios q) = w.kept.once q in
      omega (arith, sums, none, once)

  later : WellFormed l (n + 1) t
  later = WellFormed-later l n t w

  now-well : WellFormed l (n + 1) now
  now-well = record {
    sized = record {
      requests = w.sized.requests;
      bios = length-without_bios t.bios slots ∙ w.sized.bios;
      tags = w.sized.tags;
      links = w.sized.links;
      requeued = w.sized.requeued;
      outboxes = length-set t.outboxes seat _ ∙ w.sized.outboxes;
      seats = length-set t.seats seat _ ∙ w.sized.seats;
      few_tags = w.sized.few_tags;
      few_requests = w.sized.few_requests;
      small_image = w.sized.small_image;
    };
    seated = less-seated l n t seat entry slots w within sits of few have t.overlay t.requests t.tags now.outboxes (outbox_same t.outboxes seat [] outbox_within) (λ k other. outbox_other t.outboxes seat k [] other);
    kept = less-kept l n t seat entry slots w within sits of few have t.overlay t.requests t.tags now.outboxes (λ k r h. (h, asked_apart k r h)) boxed once_less;
    placed = placed_like (n + 1) t t.overlay now.bios now.outboxes now.seats (sessions_less l n t seat entry slots w within sits of few have) later.placed;
    ruled = w.ruled;
    young = later.young;
    first = later.first;
    served = w.served;
  }

  -- what it means

  -- every request stays
  whole_still : (k : ℕ) → whole_at now.requests now.bios k ≡ whole_at t.requests t.bios k
  whole_still k = whole_same t.requests t.requests t.bios now.bios k refl (λ r e. bios_at-without t.bios slots r.bios.items (asked_apart k r e))

  -- the plain machine after its session said that it leaves
  abbrev said : Plain
  said = record (meaning t) { seat = put (meaning t).seat seat (option_map with_leaving ((meaning t).seat seat)); outbox = put (meaning t).outbox seat [] }

  said_entry : said.seat seat ≡ Some (with_leaving entry)
  said_entry = put_here (meaning t).seat seat (option_map with_leaving ((meaning t).seat seat)) ∙ ap (option_map with_leaving) sits

  seat_is : (meaning now).seat ≡ (owed_fewer seat (length ((meaning t).outbox seat)) said).seat
  seat_is =
      put-set t.seats seat (Some fewer) (omega (arith, within, w.sized.seats))
      ∙ sym (less-seat l n t seat entry slots w within sits of few have said.seat (with_leaving entry) (length ((meaning t).outbox seat)) said_entry refl refl (length-bios_at t.bios slots have)
      ∙ put_again (meaning t).seat seat (option_map with_leaving ((meaning t).seat seat)) (Some fewer))

  outbox_is : (meaning now).outbox ≡ put (meaning t).outbox seat []
  outbox_is = put_from (meaning t).outbox (meaning now).outbox seat []
      (ap (bios_at now.bios) (outbox_same t.outboxes seat [] outbox_within))
      (λ j other. ap (bios_at now.bios) (outbox_other t.outboxes seat j [] other) ∙ elim (cases_lt j 16) [
        | inl h ↦ bios_at-without t.bios slots (outbox_at t.outboxes j) (boxed_apart j other h)
        | inr past ↦
            let none : outbox_at t.outboxes j ≡ [] = outbox_past t.outboxes j (omega (arith, past, w.sized.outboxes)) in
            ap (bios_at now.bios) none ∙ sym (ap (bios_at t.bios) none)
      ])

  now-meaning : meaning now ≡ owed_fewer seat (length ((meaning t).outbox seat)) said
  now-meaning i = record {
    overlay = t.overlay;
    seat = seat_is i;
    queue = fun_ext (λ q. same_queue (whole_at now.requests now.bios) (whole_at t.requests t.bios) q t.links (λ k m e _. whole_still k)) i;
    requeued = requeued_same t now refl (λ k _ _. whole_still k) i;
    outbox = outbox_is i;
    flight = fun_ext (λ tag. flight_same t.requests now.requests t.bios now.bios (at t.tags tag) (λ issue _. whole_still issue.slot)) i;
    frozen = t.frozen;
    served = t.served;
    head = (meaning t).head;
    bfq = (meaning t).bfq;
    scheduler = t.scheduler;
  }

  now_sits : at now.seats seat ≡ Some fewer
  now_sits = get_or-set_same t.seats seat (Some fewer) None (omega (arith, within, w.sized.seats))

  tables_are : left_tables t seat entry slots ≡ or_gone now seat fewer
  tables_are = fewer_is (record t { bios = without_bios t.bios slots; outboxes = set t.outboxes seat (record { items = [] }) }) seat entry (length slots)

  -- the tables of a Leave hold together, and mean what the plain step does
  pub left-well : WellFormed l (n + 1) (left_tables t seat entry (outbox_at t.outboxes seat))
  left-well = subst (WellFormed l (n + 1)) (sym tables_are) (or_gone-well l (n + 1) now seat fewer now-well within now_sits)

  pub left-meaning : meaning (left_tables t seat entry (outbox_at t.outboxes seat)) ≡ left l (meaning t) seat
  left-meaning = ap meaning tables_are ∙ or_gone-meaning l (n + 1) now seat fewer now-well within now_sits refl ∙ ap (without_gone l seat) now-meaning

  -- the outbox has as many bios as slots
  pub length-outbox : length ((meaning t).outbox seat) ≡ length (outbox_at t.outboxes seat)
  length-outbox = length-bios_at t.bios slots have
