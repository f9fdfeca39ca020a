-- The next request of a queue is sent: the machine after it.
use Rattle.std.proofs.Common.{◌≡◌, ℕ, ◌+◌, ◌<◌, length, Some, None, inl, inr, IsSome, ◌==◌, count_by, refl, sym, ap, ◌∙◌, subst, arith, length-set, eq-eqb, ne_eqb}
use Rattle.std.specs.List.{filter_map, find}
use Rattle.std.specs.Option.{option_map}
use Rattle.std.proofs.lemmas.Bool.{cases_eq, cond-true, cond-false}
use Rattle.std.proofs.lemmas.List.{get_or-set_same, get_or-set_other}
use Rattle.std.proofs.lemmas.List.Sums.{sum_by-set}
use Rattle.std.proofs.lemmas.Option.{same_Some}
use Rattle.dispatch_core.proofs.Words.{Request, Issue, Link, queue_slots, bios_at, shape_at, has_start, Tables, meaning, whole_at, put, Limits, shape, range_of, at, one, bears, WellFormed, Placed, sent_next_tables}
use Rattle.plain.specs.Steps.Dispatch.{without_first}
use Rattle.dispatch_core.proofs.QueueLists.{within_of, freed, kept_of, queue-taken_other}
use Rattle.dispatch_core.proofs.Counts.{taken-set}
use Rattle.dispatch_core.proofs.QueueFacts.{put_is, is_some_of, set_cases, whole_with, flight_of, borne}
use Rattle.dispatch_core.proofs.Queues.{moved, flight_borne}
use Rattle.dispatch_core.proofs.Ruling.{ruled_of, put_set}
use Rattle.dispatch_core.proofs.NextFound.{start_reads}
use Rattle.dispatch_core.proofs.NextTaken.{queue-taken}

-- the first request of the seat's queue with its start, and a free tag
pub record CanSendNext (l : Limits) (t : Tables) (seat slot tag : ℕ) (request : Request) : Type 0 where
  pub link : Link
  pub linked : at t.links slot ≡ Some link
  pub link_seat : link.seat ≡ seat
  pub here : at t.requests slot ≡ Some request
  pub found : find (has_start (shape_at t.requests t.bios) (range_of (bios_at t.bios request.bios.items)).start) (queue_slots seat t.links) ≡ Some slot
  pub tag_within : tag < l.tags
  pub tag_free : at t.tags tag ≡ None

module _ (l : Limits) (n : ℕ) (t : Tables) (seat slot tag head : ℕ) (request : Request) (w : WellFormed l n t) (can : CanSendNext l t seat slot tag request) where
  -- the request that is sent goes from its queue to its tag
  next-placed : Placed (n + 1) (sent_next_tables t n seat slot tag head)
  next-placed =
      let u : Tables = sent_next_tables t n seat slot tag head in
      let issue_new : Issue = record { issue = n; slot = slot } in
      let hl : slot < length t.links = within_of t.links slot can.link can.linked in
      let ht : tag < length t.tags = omega (arith, can.tag_within, w.sized.tags) in
      record {
        link = λ k link e. moved n t u k link (w.placed.link k link (kept_of t.links slot k can.link link can.linked e).1) refl (λ _ s f. record { now = s; there = f; session = refl });
        apart = λ i j a b e f same.
            w.placed.apart i j a b (kept_of t.links slot i can.link a can.linked e).1 (kept_of t.links slot j can.link b can.linked f).1 same;
        again = w.placed.again;
        tag = λ j issue e. elim (set_cases t.tags tag j (Some issue_new) issue ht e) [
          | inl g ↦
              let P : Issue → Type 0 = λ x. (x.issue < n + 1) × IsSome (at t.requests x.slot) in
              subst P (same_Some issue_new issue g.1) (omega arith, is_some_of (at t.requests slot) request can.here)
          | inr g ↦ let h = w.placed.tag j issue g.1 in (omega (arith, h.0), h.1)
        ];
        requeued = λ k link e. let q = w.placed.requeued k link e in record { early = let h = q.early in omega arith; number = q.number; here = q.here };
        once = λ k.
            let put : count_by (bears k) u.tags + borne k (at t.tags tag) ≡ count_by (bears k) t.tags + borne k (Some issue_new) =
            sum_by-set (borne k) t.tags tag (Some issue_new) None ht in
            let was : borne k (at t.tags tag) ≡ 0 = ap (borne k) can.tag_free in
            elim (cases_eq k slot) [
              | inl same ↦
                  let a : one (at t.links k) ≡ 1 = ap one (ap (at t.links) same ∙ can.linked) in
                  let b : one (at u.links k) ≡ 0 = ap one (ap (at u.links) same ∙ freed t.links slot can.link can.linked) in
                  let c : borne k (Some issue_new) ≡ 1 = cond-true (slot == k) 1 0 (eq-eqb slot k (sym same)) in
                  omega (arith, put, was, a, b, c, w.placed.once k)
              | inr other ↦
                  let b : one (at u.links k) ≡ one (at t.links k) = ap one (get_or-set_other t.links slot k None None other) in
                  let c : borne k (Some issue_new) ≡ 0 = cond-false (slot == k) 1 0 (ne_eqb slot k (λ f. other (sym f))) in
                  omega (arith, put, was, b, c, w.placed.once k)
            ];
        counted =
            let a : one (at t.links slot) ≡ 1 = ap one can.linked in
            let b : one (at t.tags tag) ≡ 0 = ap one can.tag_free in
            omega (arith, a, b, taken-set t.links slot None hl, taken-set t.tags tag (Some issue_new) ht, w.placed.counted);
      }

  -- the machine holds together as before
  pub next-well : WellFormed l (n + 1) (sent_next_tables t n seat slot tag head)
  next-well =
      let r = w.ruled in
      record {
        sized = record {
          requests = w.sized.requests;
          bios = w.sized.bios;
          tags = length-set t.tags tag _ ∙ w.sized.tags;
          links = length-set t.links slot _ ∙ w.sized.links;
          requeued = w.sized.requeued;
          outboxes = w.sized.outboxes;
          seats = w.sized.seats;
          few_tags = w.sized.few_tags;
          few_requests = w.sized.few_requests;
          small_image = w.sized.small_image;
        };
        seated = record { early = λ k s h. let early = w.seated.early k s h in omega arith; apart = w.seated.apart; counted = w.seated.counted; left = w.seated.left };
        kept = w.kept;
        placed = next-placed;
        ruled = ruled_of l t (sent_next_tables t n seat slot tag head) r (length-set t.heads seat head ∙ r.heads)
            (record { trees = r.sized.trees; parents = r.sized.parents; weights = r.sized.weights; budgets = r.sized.budgets; groups = r.sized.groups; seat = r.sized.seat }) r.bounded;
        young = λ s e. let h = w.young s e in omega arith;
        first = let h = w.first in omega arith;
        served = w.served;
      }

  -- the queue has lost the request
  pub next-queue_now : (meaning (sent_next_tables t n seat slot tag head)).queue seat
      ≡ without_first (has_start shape (range_of (bios_at t.bios request.bios.items)).start) ((meaning t).queue seat)
  next-queue_now =
      let start : ℕ = (range_of (bios_at t.bios request.bios.items)).start in
      queue-taken (has_start (shape_at t.requests t.bios) start) (has_start shape start) (whole_at t.requests t.bios) (whole_with t.bios request) seat slot t.links (start_reads t start)
      w.placed.apart (ap (option_map (whole_with t.bios)) can.here) can.found

  -- the other queues stay
  next-queue : (meaning (sent_next_tables t n seat slot tag head)).queue
      ≡ put (meaning t).queue seat (without_first (has_start shape (range_of (bios_at t.bios request.bios.items)).start) ((meaning t).queue seat))
  next-queue =
      put_is (meaning t).queue (meaning (sent_next_tables t n seat slot tag head)).queue seat _ next-queue_now
      (λ q other. ap (filter_map (whole_at t.requests t.bios))
      (queue-taken_other q slot t.links can.link w.placed.apart can.linked (λ f. other (sym f ∙ can.link_seat))))

  -- the tag bears the request that is sent
  next-flight : (meaning (sent_next_tables t n seat slot tag head)).flight ≡ put (meaning t).flight tag (Some (record { issue = n; request = whole_with t.bios request }))
  next-flight =
      let u : Tables = sent_next_tables t n seat slot tag head in
      put_is (meaning t).flight (meaning u).flight tag (Some (record { issue = n; request = whole_with t.bios request }))
      (flight_borne t (at u.tags tag) (record { issue = n; slot = slot }) request (get_or-set_same t.tags tag _ None (omega (arith, can.tag_within, w.sized.tags))) can.here)
      (λ j other. ap (flight_of t.requests t.bios) (get_or-set_other t.tags tag j _ None other))

  -- what the machine is then
  pub next-meaning : meaning (sent_next_tables t n seat slot tag head) ≡ record (meaning t) {
    queue = put (meaning t).queue seat (without_first (has_start shape (range_of (bios_at t.bios request.bios.items)).start) ((meaning t).queue seat));
    head = put (meaning t).head seat head;
    flight = put (meaning t).flight tag (Some (record { issue = n; request = whole_with t.bios request }));
  }
  next-meaning i = record {
    overlay = t.overlay;
    seat = (meaning t).seat;
    queue = next-queue i;
    requeued = (meaning t).requeued;
    outbox = (meaning t).outbox;
    flight = next-flight i;
    frozen = t.frozen;
    served = t.served;
    head = put_set t.heads seat head 0 (omega (arith, (w.placed.link slot can.link can.linked).within, can.link_seat, w.ruled.heads)) i;
    bfq = (meaning t).bfq;
    scheduler = t.scheduler;
  }
