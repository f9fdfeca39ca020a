-- A seat is freed: no request of its session is left, and its entity goes.
use Rattle.std.proofs.Common.{◌≡◌, inl, inr, ℕ, ◌-◌, ◌<◌, cond, true, false, Some, None, length, set, nat_le, refl, sym, ap, ◌∙◌, arith, length-set, le-leb}
use Rattle.std.specs.Option.{option_map_or}
use Rattle.std.proofs.lemmas.Bool.{cases_lt, lt-leb}
use Rattle.std.proofs.lemmas.Bool.Decides.{nat_tests}
use Rattle.std.proofs.lemmas.Option.{same_Some}
use Rattle.std.proofs.lemmas.List.{get_or-set_other, set-set}
use Rattle.request_pool.specs.Slots.{seat_slots}
use Rattle.dispatch_core.proofs.Words.{Request, Seat, Tables, with_member, tree_at, Plain, put, meaning, bfq_of, group_of, Limits, at, WellFormed, leaving_entry, gone_tables, fewer_tables}
use Rattle.plain.specs.Entities.{without_entity, without_gone}
use Rattle.dispatch_core.specs.WellFormed.{taken}
use Rattle.dispatch_core.proofs.Times.{set_cases, at_within}
use Rattle.dispatch_core.proofs.Keeping.{put-set}
use Rattle.dispatch_core.proofs.Ruling.{well_with}
use Rattle.dispatch_core.proofs.Grouping.{dropped-ruled, dropped-meaning}
use Rattle.dispatch_core.proofs.Gone.{no_request, gone_is}

module _ (l : Limits) (n : ℕ) (t : Tables) (seat : ℕ) (entry : Seat) (w : WellFormed l n t) (within : seat < 16) (sits : at t.seats seat ≡ Some entry) (none : entry.unreaped ≡ 0) where
  -- the tables with the seat free
  abbrev freed : Tables
  freed = record t { seats = set t.seats seat None }

  seat_within : seat < length t.seats
  seat_within = at_within t.seats seat entry sits

  -- who sits at a seat sat there
  sat : (k : ℕ) (s : Seat) → at (set t.seats seat None) k ≡ Some s → at t.seats k ≡ Some s
  sat k s h = elim (set_cases t.seats seat k None seat_within) [
    | inl here ↦ let both : None ≡ Some s = sym here.1 ∙ h in absurd cc
    | inr other ↦ sym other.1 ∙ h
  ]

  -- and who is of another session sits there still
  sits_still : (k : ℕ) (s : Seat) → at t.seats k ≡ Some s → (s.session ≡ entry.session → ⊥) → at (set t.seats seat None) k ≡ Some s
  sits_still k s h other =
      get_or-set_other t.seats seat k None None (λ e. other (ap (λ (x : Seat). x.session) (same_Some s entry (sym h ∙ ap (at t.seats) e ∙ sits)))) ∙ h

  -- no request is of the session
  apart_session : (k : ℕ) (r : Request) → at t.requests k ≡ Some r → (s : Seat) → s.session ≡ r.session → s.session ≡ entry.session → ⊥
  apart_session k r h s is same = no_request l n t seat entry w within sits none k r h (sym is ∙ same)

  freed_counted : (k : ℕ) → k < 16 → option_map_or (λ s. s.unreaped) (at (set t.seats seat None) k) 0 ≡ taken (seat_slots k t.bios)
  freed_counted k h = elim (set_cases t.seats seat k None seat_within) [
    | inl here ↦
        let was : entry.unreaped ≡ taken (seat_slots seat t.bios) = sym (ap (λ o. option_map_or (λ (s : Seat). s.unreaped) o 0) sits) ∙ w.seated.counted seat within in
        ap (λ o. option_map_or (λ (s : Seat). s.unreaped) o 0) here.1 ∙ sym none ∙ was ∙ sym (ap (λ j. taken (seat_slots j t.bios)) here.0)
    | inr other ↦ ap (λ o. option_map_or (λ (s : Seat). s.unreaped) o 0) other.1 ∙ w.seated.counted k h
  ]

  freed_well : WellFormed l n freed
  freed_well = record {
    sized = record {
      requests = w.sized.requests;
      bios = w.sized.bios;
      tags = w.sized.tags;
      links = w.sized.links;
      requeued = w.sized.requeued;
      outboxes = w.sized.outboxes;
      seats = length-set t.seats seat None ∙ w.sized.seats;
      few_tags = w.sized.few_tags;
      few_requests = w.sized.few_requests;
      small_image = w.sized.small_image;
    };
    seated = record {
      early = λ k s h. w.seated.early k s (sat k s h);
      apart = λ j k a b p q e. w.seated.apart j k a b (sat j a p) (sat k b q) e;
      counted = freed_counted;
      left = λ k s h e. w.seated.left k s (sat k s h) e;
    };
    kept = record {
      bio = w.kept.bio;
      request = λ k r e. let o = w.kept.request k r e in record {
        seat = o.seat;
        entry = o.entry;
        within = o.within;
        sits = sits_still o.seat o.entry o.sits (apart_session k r e o.entry o.session);
        session = o.session;
        bios = o.bios;
        some_bios = o.some_bios;
      };
      outbox = w.kept.outbox;
      once = w.kept.once;
    };
    placed = record {
      link = λ k link e. let q = w.placed.link k link e in record {
        early = q.early;
        within = q.within;
        request = q.request;
        here = q.here;
        entry = q.entry;
        sits = sits_still link.seat q.entry q.sits (apart_session k q.request q.here q.entry q.session);
        session = q.session;
      };
      apart = w.placed.apart;
      again = w.placed.again;
      tag = w.placed.tag;
      requeued = w.placed.requeued;
      once = w.placed.once;
      counted = w.placed.counted;
    };
    ruled = w.ruled;
    young = w.young;
    first = w.first;
    served = w.served;
  }

  gone-well : WellFormed l n (gone_tables t seat)
  gone-well =
      let group = group_of (bfq_of t) seat in
      let entity_within : seat < 48 = omega (arith, within) in
      well_with l n freed t.heads (set t.trees group (with_member (tree_at t group) seat None)) (set t.parents seat None) t.weights t.budgets t.in_service freed_well
      (dropped-ruled l n freed seat freed_well entity_within) w.young

  gone-meaning : meaning (gone_tables t seat) ≡ record (meaning t) { seat = put (meaning t).seat seat None; bfq = without_entity seat (bfq_of t) }
  gone-meaning =
      let entity_within : seat < 48 = omega (arith, within) in
      dropped-meaning l n freed seat freed_well entity_within
      ∙ ap (λ f. let m : Plain = record (meaning t) { seat = f; bfq = without_entity seat (bfq_of t) } in m) (put-set t.seats seat None seat_within)

no_more : (u : ℕ) → nat_le u 0 ≡ true → u ≡ 0
no_more u e = grind (arith, nat_tests)

-- the tables without the session where its seat counts no bio
abbrev pub or_gone : Tables → ℕ → Seat → Tables
or_gone t seat entry = cond (nat_le entry.unreaped 0) (gone_tables t seat) t

module _ (l : Limits) (n : ℕ) (t : Tables) (seat : ℕ) (entry : Seat) (w : WellFormed l n t) (within : seat < 16) (sits : at t.seats seat ≡ Some entry) where
  pub or_gone-well : WellFormed l n (or_gone t seat entry)
  or_gone-well = (elim (nat_le entry.unreaped 0) as (λ b. nat_le entry.unreaped 0 ≡ b → WellFormed l n (cond b (gone_tables t seat) t)) [
    | true ↦ λ e. gone-well l n t seat entry w within sits (no_more entry.unreaped e)
    | false ↦ λ _. w
  ]) refl

  -- and the plain machine without it where no request of it is left
  pub or_gone-meaning : entry.leaving ≡ true → meaning (or_gone t seat entry) ≡ without_gone l seat (meaning t)
  or_gone-meaning leaves =
      let gone : Plain = record (meaning t) { seat = put (meaning t).seat seat None; bfq = without_entity seat (bfq_of t) } in
      (elim (nat_le entry.unreaped 0) as (λ b. nat_le entry.unreaped 0 ≡ b → meaning (cond b (gone_tables t seat) t)
      ≡ cond b (let m : Plain = record (meaning t) { seat = put (meaning t).seat seat None; bfq = without_entity seat (bfq_of t) } in m) (meaning t)) [
        | true ↦ λ e. gone-meaning l n t seat entry w within sits (no_more entry.unreaped e)
        | false ↦ λ _. refl
      ]) refl
      ∙ ap (λ b. cond b gone (meaning t)) (sym (gone_is l n t seat entry w within sits leaves))

-- a count is no greater than another where nothing of it is left without that
le_minus : (a b : ℕ) → nat_le a b ≡ nat_le (a - b) 0
le_minus a b = elim (cases_lt b a) [
  | inl more ↦ lt-leb a b more ∙ sym (lt-leb (a - b) 0 (omega (arith, more)))
  | inr few ↦ le-leb a b few ∙ sym (le-leb (a - b) 0 (omega (arith, few)))
]

-- the tables with the entry counting fewer
abbrev pub counted_fewer : Tables → ℕ → Seat → ℕ → Tables
counted_fewer t seat entry count = record t { seats = set t.seats seat (Some (leaving_entry entry count)) }

gone_again : (t : Tables) (seat : ℕ) (entry : Seat) (count : ℕ) → gone_tables (counted_fewer t seat entry count) seat ≡ gone_tables t seat
gone_again t seat entry count =
    ap (λ s. let u : Tables = record (gone_tables t seat) { seats = s } in u) (set-set t.seats seat (Some (leaving_entry entry count)) None)

-- a session that is owed fewer bios goes where it is owed none then
pub fewer_is : (t : Tables) (seat : ℕ) (entry : Seat) (count : ℕ) → fewer_tables t seat entry count ≡ or_gone (counted_fewer t seat entry count) seat (leaving_entry entry count)
fewer_is t seat entry count =
    ap (λ b. cond b (gone_tables t seat) (counted_fewer t seat entry count)) (le_minus entry.unreaped count)
    ∙ ap (λ g. cond (nat_le (entry.unreaped - count) 0) g (counted_fewer t seat entry count)) (sym (gone_again t seat entry count))
