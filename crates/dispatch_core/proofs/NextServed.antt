-- Dispatch under bfq: what the plain machine does at each of its ends.
use Rattle.std.proofs.Common.{◌≡◌, ℕ, ◌+◌, Option, Some, None, true, false, cond, sym, ap, ◌∙◌, subst, arith, rules, List, Result, Ok, Err, IsErr, MatchResult}
use Rattle.std.specs.Option.{option_map, option_and_then, is_none}
use Rattle.dispatch_core.proofs.Words.{Range, Request, queue_slots, is_empty, bios_at, has_start, InService, Tables, WholeRequest, Bfq, Plain, put, meaning, whole_at, bfq_of, charge, expire, select, Limits, shape, range_of, at, WellFormed, sent_next_tables, first_start, total_count}
use Rattle.sector_core.specs.Table.{IsFirstFree}
use Rattle.process_queue.specs.Next.{next_slot}
use Rattle.plain.specs.declared.seat.Expiry.TheVariants.{Emptying}
use Rattle.bfq_select.specs.Service.{IsSized, IsBounded, OnlyServes}
use Rattle.plain.specs.declared.answer.Reply.{Reply}
use Rattle.plain.specs.declared.answer.Reply.TheVariants.{Issued}
use Rattle.plain.specs.Steps.Dispatch.{next_request, next_size, with_budget_in, with_selected, without_first, without_empty, sent_next, sent_in, sent_by_bfq}
use Rattle.dispatch_core.proofs.Sectors.{range_is, request_taken}
use Rattle.dispatch_core.proofs.QueueLists.{queue_empty}
use Rattle.dispatch_core.proofs.QueueFacts.{whole_with, linked_some}
use Rattle.dispatch_core.proofs.Ruling.{served-meaning, served-well}
use Rattle.dispatch_core.proofs.NextSlot.{expire_slot, charge_young, no_slot_young}
use Rattle.dispatch_core.proofs.NextFound.{next_some, next_find, next_linked}
use Rattle.dispatch_core.proofs.NextSent.{CanSendNext, next-well, next-queue_now, next-meaning}

-- the machine after a request was sent, with this of bfq
abbrev pub sent_with : Plain → ℕ → ℕ → ℕ → WholeRequest → Bfq → Plain
sent_with m n tag seat r c = record m {
  queue = put m.queue seat (without_first (has_start shape (range_of r.bios).start) (m.queue seat));
  head = put m.head seat ((range_of r.bios).start + (range_of r.bios).count);
  flight = put m.flight tag (Some (record { issue = n; request = r }));
  bfq = c;
}

-- and the reply
abbrev sent_to : Plain → ℕ → ℕ → ℕ → WholeRequest → Bfq → Plain × Reply
sent_to m n tag seat r c = (sent_with m n tag seat r c, Issued tag n r.op (range_of r.bios))

module _ (l : Limits) (m : Plain) (n tag : ℕ) (b : Bfq) (slot : InService) (serves : b.in_service ≡ Some slot) where
  -- a queue in service without a next request sends nothing
  pub next_lacks : next_request m slot.seat ≡ None → sent_in l m n tag b ≡ None
  next_lacks none =
      ap (option_and_then (λ (s : InService). option_and_then (sent_next l m n tag b s.seat) (next_request m s.seat))) serves
      ∙ ap (option_and_then (sent_next l m n tag b slot.seat)) none

  module _ (r : WholeRequest) (next : next_request m slot.seat ≡ Some r) where
    -- the queue without its next request
    abbrev rest : List WholeRequest
    rest = without_first (has_start shape (range_of r.bios).start) (m.queue slot.seat)

    -- its next request is charged
    next_goes : sent_in l m n tag b ≡ option_map (sent_to m n tag slot.seat r) (option_and_then (without_empty l rest) (charge (range_of r.bios).count b))
    next_goes =
        ap (option_and_then (λ (s : InService). option_and_then (sent_next l m n tag b s.seat) (next_request m s.seat))) serves
        ∙ ap (option_and_then (sent_next l m n tag b slot.seat)) next

    -- a charge that is refused refuses it
    pub next_uncharged : charge (range_of r.bios).count b ≡ None → sent_in l m n tag b ≡ None
    next_uncharged none = next_goes ∙ ap (λ o. option_map (sent_to m n tag slot.seat r) (option_and_then (without_empty l rest) o)) none

    module _ (c : Bfq) (charged : charge (range_of r.bios).count b ≡ Some c) where
      -- then the queue is empty, or goes on
      next_charged : sent_in l m n tag b ≡ option_map (sent_to m n tag slot.seat r) (without_empty l rest c)
      next_charged = next_goes ∙ ap (λ o. option_map (sent_to m n tag slot.seat r) (option_and_then (without_empty l rest) o)) charged

      -- a queue that is not empty goes on
      pub next_on : is_empty rest ≡ false → sent_in l m n tag b ≡ Some (sent_to m n tag slot.seat r c)
      next_on full = next_charged ∙ ap (λ e. option_map (sent_to m n tag slot.seat r) (cond e (expire Emptying l.max_budget false c) (Some c))) full

      -- an empty one expires
      pub next_out : (o : Option Bfq) → is_empty rest ≡ true → expire Emptying l.max_budget false c ≡ o → sent_in l m n tag b ≡ option_map (sent_to m n tag slot.seat r) o
      next_out o none expires =
          next_charged ∙ ap (λ e. option_map (sent_to m n tag slot.seat r) (cond e (expire Emptying l.max_budget false c) (Some c))) none
          ∙ ap (option_map (sent_to m n tag slot.seat r)) expires

-- the request of the queue in service that is next, and a free tag
module _ (l : Limits) (n tag : ℕ) (t : Tables) (slot : InService) (place : ℕ) (request : Request) (w : WellFormed l n t) (serves : t.in_service ≡ Some slot)
    (found : next_slot t.requests t.bios (queue_slots slot.seat t.links) ((meaning t).head slot.seat) ≡ Some place) (here : at t.requests place ≡ Some request)
    (free : IsFirstFree t.tags tag) where
  -- as the plain machine has it
  abbrev sent_request : WholeRequest
  sent_request = whole_with t.bios request

  -- where it lies
  abbrev sent_range : Range
  sent_range = range_of (bios_at t.bios request.bios.items)

  -- it is the next one of the plain machine
  next_is : next_request (meaning t) slot.seat ≡ Some sent_request
  next_is = next_some t slot.seat place request found here

  -- where the charge is refused
  pub served_uncharged : charge sent_range.count (bfq_of t) ≡ None → sent_in l (meaning t) n tag (bfq_of t) ≡ None
  served_uncharged none = next_uncharged l (meaning t) n tag (bfq_of t) slot serves sent_request next_is none

  -- where it was made
  module _ (charged : Tables) (sized : IsSized charged) (bounded : IsBounded (bfq_of charged)) (others : OnlyServes t charged)
      (made : charge sent_range.count (bfq_of t) ≡ Some (bfq_of charged)) (head : ℕ) (head_is : head ≡ sent_range.start + sent_range.count)
      (out : Tables) (taken : out ≡ sent_next_tables charged n slot.seat place tag head) where
    -- the tables with what the charge has changed
    abbrev known : Tables
    known = record t { trees = charged.trees; budgets = charged.budgets; in_service = charged.in_service }

    -- they hold together
    known_well : WellFormed l n known
    known_well = subst (WellFormed l n) others (served-well l n t charged others w sized bounded (charge_young sent_range.count n (bfq_of t) (bfq_of charged) made w.young))

    -- the request can be sent
    can : CanSendNext l known slot.seat place tag request
    can =
        let linked = next_linked t slot.seat place request found here in
        record {
          link = linked.0;
          linked = linked.1;
          link_seat = linked.2;
          here = here;
          found = next_find t slot.seat place request found here;
          tag_within = omega (arith, free.within, w.sized.tags);
          tag_free = free.is_free;
        }

    -- what it leaves, by those tables
    out_is : out ≡ sent_next_tables known n slot.seat place tag head
    out_is = taken ∙ ap (λ u. sent_next_tables u n slot.seat place tag head) others

    -- the sending leaves bfq
    out_bfq : bfq_of charged ≡ bfq_of out
    out_bfq = sym (ap bfq_of taken)

    -- the machine then holds together
    pub served_well : WellFormed l (n + 1) out
    served_well = subst (WellFormed l (n + 1)) (sym out_is) (next-well l n known slot.seat place tag head request known_well can)

    -- and is what the plain one makes
    served_meaning : meaning out ≡ sent_with (meaning t) n tag slot.seat sent_request (bfq_of out)
    served_meaning =
        ap meaning out_is ∙ next-meaning l n known slot.seat place tag head request known_well can
        ∙ ap (λ h. let m : Plain = record (sent_with (meaning t) n tag slot.seat sent_request (bfq_of known)) { head = put (meaning t).head slot.seat h } in m) head_is
        ∙ ap (sent_with (meaning t) n tag slot.seat sent_request) (sym (ap bfq_of others) ∙ out_bfq)

    -- its queue is empty where no slot is linked
    served_empty : is_empty (queue_slots slot.seat out.links) ≡ is_empty (without_first (has_start shape sent_range.start) ((meaning t).queue slot.seat))
    served_empty =
        sym (queue_empty (whole_at out.requests out.bios) slot.seat out.links (linked_some (n + 1) out served_well.placed))
        ∙ ap (λ u. is_empty ((meaning u).queue slot.seat)) out_is ∙ ap is_empty (next-queue_now l n known slot.seat place tag head request known_well can)

    -- where it is not empty
    pub served_on : is_empty (queue_slots slot.seat out.links) ≡ false → sent_in l (meaning t) n tag (bfq_of t) ≡ Some (meaning out, Issued tag n request.op sent_range)
    served_on full =
        next_on l (meaning t) n tag (bfq_of t) slot serves sent_request next_is (bfq_of charged) made (sym served_empty ∙ full)
        ∙ ap (λ b. Some (sent_to (meaning t) n tag slot.seat sent_request b)) out_bfq
        ∙ ap (λ m. Some (m, Issued tag n request.op sent_range)) (sym served_meaning)

    module _ (none : is_empty (queue_slots slot.seat out.links) ≡ true) where
      -- where it is empty
      goes_out : (o : Option Bfq) → expire Emptying l.max_budget false (bfq_of out) ≡ o
          → sent_in l (meaning t) n tag (bfq_of t) ≡ option_map (sent_to (meaning t) n tag slot.seat sent_request) o
      goes_out o expires =
          next_out l (meaning t) n tag (bfq_of t) slot serves sent_request next_is (bfq_of charged) made o (sym served_empty ∙ none)
          (ap (expire Emptying l.max_budget false) out_bfq ∙ expires)

      -- where the expiry is refused
      pub served_unexpired : expire Emptying l.max_budget false (bfq_of out) ≡ None → sent_in l (meaning t) n tag (bfq_of t) ≡ None
      served_unexpired refused = goes_out None refused

      module _ (last : Tables) (last_sized : IsSized last) (last_bounded : IsBounded (bfq_of last)) (last_others : OnlyServes out last) where
        -- where it expired
        pub served_out : expire Emptying l.max_budget false (bfq_of out) ≡ Some (bfq_of last)
            → sent_in l (meaning t) n tag (bfq_of t) ≡ Some (meaning last, Issued tag n request.op sent_range)
        served_out expires =
            goes_out (Some (bfq_of last)) expires
            ∙ ap (λ m. Some (m, Issued tag n request.op sent_range)) (sym (served-meaning out last last_others
            ∙ ap (λ m. let p : Plain = record m { bfq = bfq_of last } in p) served_meaning))

        -- the machine then holds together
        pub last_well : expire Emptying l.max_budget false (bfq_of out) ≡ Some (bfq_of last) → WellFormed l (n + 1) last
        last_well expires = served-well l (n + 1) out last last_others served_well last_sized last_bounded
            (no_slot_young (n + 1) last.in_service (expire_slot Emptying l.max_budget false (bfq_of out) (bfq_of last) expires))

-- the rules before it
module _ (l : Limits) (n tag : ℕ) (t : Tables) where
  -- a queue of tables of which only bfq differs has as great a next request
  pub same_size : (u : Tables) (seat : ℕ) → OnlyServes t u → next_size (meaning u) seat ≡ next_size (meaning t) seat
  same_size u seat others = ap (λ m. next_size m seat) (served-meaning t u others)

  -- and is sent as well
  same_sent : (u : Tables) (b : Bfq) → OnlyServes t u → sent_in l (meaning u) n tag b ≡ sent_in l (meaning t) n tag b
  same_sent u b others = ap (λ m. sent_in l m n tag b) (served-meaning t u others)

  -- where no room could be made nothing is sent
  pub bfq_full : with_budget_in l (meaning t) t.in_service ≡ None → sent_by_bfq l (meaning t) n tag ≡ None
  bfq_full none = ap (option_and_then (λ b. sent_in l (meaning t) n tag (with_selected b))) none

  module _ (b c : Bfq) (made : with_budget_in l (meaning t) t.in_service ≡ Some b) (chosen : with_selected b ≡ c) where
    -- room was made, and a queue chosen
    by_slot : sent_by_bfq l (meaning t) n tag ≡ sent_in l (meaning t) n tag c
    by_slot = ap (option_and_then (λ b. sent_in l (meaning t) n tag (with_selected b))) made ∙ ap (sent_in l (meaning t) n tag) chosen

    -- nor where no queue is in service
    pub bfq_idle : c.in_service ≡ None → sent_by_bfq l (meaning t) n tag ≡ None
    bfq_idle none = by_slot ∙ ap (option_and_then (λ (s : InService). option_and_then (sent_next l (meaning t) n tag c s.seat) (next_request (meaning t) s.seat))) none

    -- else the next request of that queue is
    pub bfq_sends : (u : Tables) → OnlyServes t u → sent_by_bfq l (meaning t) n tag ≡ sent_in l (meaning u) n tag c
    bfq_sends u others = by_slot ∙ sym (same_sent u c others)

-- the range of a request, as it was read
pub range_read : (l : Limits) (n : ℕ) (t : Tables) (slot : ℕ) (request : Request) → WellFormed l n t → at t.requests slot ≡ Some request → (range : Range)
    → range.start ≡ first_start t.bios request.bios.items → range.count ≡ total_count t.bios request.bios.items → range ≡ range_of (bios_at t.bios request.bios.items)
range_read l n t slot request w here range start count =
    let read : range ≡ record { start = first_start t.bios request.bios.items; count = total_count t.bios request.bios.items } = (λ i. record { start = start i; count = count i }) in
    read ∙ sym (range_is t.bios request.bios.items (request_taken l n t slot request w here))

-- a refusal that is an error
pub refused_by : {A E : Type 0} (P : A → Type 0) (Q : Type 0) (r : Result A E) → IsErr r → Q → MatchResult r P (λ _. Q)
refused_by P Q (Ok a) e q = absurd (search rules)
refused_by P Q (Err w) e q = q

-- a slot that is there is kept
pub slot_kept : (b : Bfq) → is_none b.in_service ≡ false → with_selected b ≡ b
slot_kept b there = ap (λ e. cond e (select b) b) there

-- and else a queue is selected
pub slot_chosen : (b : Bfq) → is_none b.in_service ≡ true → with_selected b ≡ select b
slot_chosen b none = ap (λ e. cond e (select b) b) none
