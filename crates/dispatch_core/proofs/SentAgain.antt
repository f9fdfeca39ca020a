-- The first request of the dispatch list goes to a tag.
use Rattle.std.proofs.Common.{◌≡◌, ℕ, ◌+◌, ◌<◌, List, [], ◌∷◌, length, Option, Some, None, Bool, true, false, ◌&&◌, cond, inl, inr, IsSome, ◌==◌, count_by, refl, sym, ap, ◌∙◌, subst, arith, length-set, eq-eqb, ne_eqb}
use Rattle.std.specs.Prelude.{Result, IfOk}
use Rattle.std.specs.List.{filter_map}
use Rattle.std.specs.Option.{option_map}
use Rattle.std.proofs.lemmas.Bool.{cases_eq, cond-true, cond-false}
use Rattle.std.proofs.lemmas.List.{get_or-set_same, get_or-set_other}
use Rattle.std.proofs.lemmas.List.Sums.{sum_by-set}
use Rattle.std.proofs.lemmas.Option.{same_Some}
use Rattle.dispatch_core.proofs.Words.{Range, Request, Issue, Link, queue_slots, first_slot, first_in, is_empty, Tables, WholeRequest, Plain, put, meaning, whole_at, Limits, range_of, at, one, bears, WellFormed, Placed, sent_again_tables}
use Rattle.sector_core.specs.declared.memory.OutOfMemory.{OutOfMemory as WantOfMemory}
use Rattle.change_record.specs.declared.change.Change.{Change}
use Rattle.plain.specs.declared.answer.Answer.{Answer}
use Rattle.plain.specs.declared.answer.Answer.TheVariants.{Accepted, Refused}
use Rattle.plain.specs.declared.answer.Code.TheVariants.{NoTag, HistoryFull}
use Rattle.plain.specs.declared.answer.Reply.TheVariants.{Issued}
use Rattle.plain.specs.declared.step.Step.TheVariants.{Dispatch}
use Rattle.plain.specs.Step.{MayGiveWay}
use Rattle.plain.specs.Entities.{is_bfq}
use Rattle.plain.specs.Steps.Dispatch.{lowest_free, dispatch, dispatch_of, sent_again}
use Rattle.plain.specs.Tests.{accepted}
use Rattle.dispatch_core.specs.Counts.{dispatch_exchanges, rule_exchanges}
use Rattle.dispatch_core.specs.Relation.{Leaves}
use Rattle.dispatch_core.proofs.QueueLists.{within_of, freed, kept_of, first_linked, queue-taken_first}
use Rattle.dispatch_core.proofs.Counts.{taken-set}
use Rattle.dispatch_core.proofs.QueueFacts.{put_is, some_of, is_some_of, set_cases, flight_of, borne}
use Rattle.dispatch_core.proofs.Requeued.{requeued_still}
use Rattle.dispatch_core.proofs.Queues.{whole, moved, flight_borne}
use Rattle.dispatch_core.proofs.Ruling.{ruled_like}

-- a list without a first element has none
none_first : (f : ℕ → Option WholeRequest) (slots : List ℕ) → first_in slots ≡ None → filter_map f slots ≡ []
none_first f [] e = refl
none_first f (x ∷ xs) e = absurd cc

-- where no slot is the first of the dispatch list, the list is empty
pub none_again : (t : Tables) → first_slot 0 t.requeued ≡ None → (meaning t).requeued ≡ []
none_again t none = none_first (whole_at t.requests t.bios) (queue_slots 0 t.requeued) none

-- the first slot of the dispatch list has a request
pub again_found : (l : Limits) (n : ℕ) (t : Tables) (slot : ℕ) → WellFormed l n t → first_slot 0 t.requeued ≡ Some slot → (request : Request) × (at t.requests slot ≡ Some request)
again_found l n t slot w first =
    let linked : (link : Link) × (at t.requeued slot ≡ Some link) × (link.seat ≡ 0) = first_linked 0 slot t.requeued first in
    some_of (at t.requests slot) (w.placed.requeued slot linked.0 linked.1).here

-- the first of the dispatch list, and a free tag
pub record CanSendAgain (l : Limits) (t : Tables) (slot tag : ℕ) (request : Request) : Type 0 where
  pub first : first_slot 0 t.requeued ≡ Some slot
  pub here : at t.requests slot ≡ Some request
  pub tag_within : tag < l.tags
  pub tag_free : at t.tags tag ≡ None

-- the list begins with the request, whatever the tag
pub again-list : (l : Limits) (n : ℕ) (t : Tables) (slot tag : ℕ) (request : Request) → WellFormed l n t → first_slot 0 t.requeued ≡ Some slot → at t.requests slot ≡ Some request
    → (meaning t).requeued ≡ whole t request ∷ (meaning (sent_again_tables t n slot tag)).requeued
again-list l n t slot tag request w first here =
    queue-taken_first (whole_at t.requests t.bios) (whole t request) 0 slot t.requeued w.placed.again first (ap (option_map (whole t)) here)

module _ (l : Limits) (n : ℕ) (t : Tables) (slot tag : ℕ) (request : Request) (w : WellFormed l n t) (can : CanSendAgain l t slot tag request) where
  -- the tables then
  abbrev now : Tables
  now = sent_again_tables t n slot tag

  -- what the tag bears
  abbrev issue_new : Issue
  issue_new = record { issue = n; slot = slot }

  -- the link of the slot
  abbrev linked : (link : Link) × (at t.requeued slot ≡ Some link) × (link.seat ≡ 0)
  linked = first_linked 0 slot t.requeued can.first

  -- the tag is in its table
  tag_there : tag < length t.tags
  tag_there = omega (arith, can.tag_within, w.sized.tags)

  -- the request goes from the list to its tag
  again-once : (k : ℕ) → count_by (bears k) now.tags + one (at now.links k) + one (at now.requeued k) ≡ one (at now.requests k)
  again-once k =
      let put : count_by (bears k) now.tags + borne k (at t.tags tag) ≡ count_by (bears k) t.tags + borne k (Some issue_new) =
      sum_by-set (borne k) t.tags tag (Some issue_new) None tag_there in
      let was : borne k (at t.tags tag) ≡ 0 = ap (borne k) can.tag_free in
      elim (cases_eq k slot) [
        | inl same ↦
            let a : one (at t.requeued k) ≡ 1 = ap one (ap (at t.requeued) same ∙ linked.1) in
            let b : one (at now.requeued k) ≡ 0 = ap one (ap (at now.requeued) same ∙ freed t.requeued slot linked.0 linked.1) in
            let c : borne k (Some issue_new) ≡ 1 = cond-true (slot == k) 1 0 (eq-eqb slot k (sym same)) in
            omega (arith, put, was, a, b, c, w.placed.once k)
        | inr other ↦
            let b : one (at now.requeued k) ≡ one (at t.requeued k) = ap one (get_or-set_other t.requeued slot k None None other) in
            let c : borne k (Some issue_new) ≡ 0 = cond-false (slot == k) 1 0 (ne_eqb slot k (λ f. other (sym f))) in
            omega (arith, put, was, b, c, w.placed.once k)
      ]

  -- each request stands in one place
  again-placed : Placed (n + 1) now
  again-placed = record {
    link = λ k link e. moved n t now k link (w.placed.link k link e) refl (λ _ s f. record { now = s; there = f; session = refl });
    apart = w.placed.apart;
    again = λ i j a b e f same.
        w.placed.again i j a b (kept_of t.requeued slot i linked.0 a linked.1 e).1 (kept_of t.requeued slot j linked.0 b linked.1 f).1 same;
    tag = λ j issue e. elim (set_cases t.tags tag j (Some issue_new) issue tag_there e) [
      | inl g ↦
          let P : Issue → Type 0 = λ x. (x.issue < n + 1) × IsSome (at t.requests x.slot) in
          subst P (same_Some issue_new issue g.1) (omega arith, is_some_of (at t.requests slot) request can.here)
      | inr g ↦ let h = w.placed.tag j issue g.1 in (omega (arith, h.0), h.1)
    ];
    requeued = λ k link e. let q = w.placed.requeued k link (kept_of t.requeued slot k linked.0 link linked.1 e).1 in requeued_still n t now k link q q.here;
    once = again-once;
    counted =
        let a : one (at t.requeued slot) ≡ 1 = ap one linked.1 in
        let b : one (at t.tags tag) ≡ 0 = ap one can.tag_free in
        omega (arith, a, b, taken-set t.requeued slot None (within_of t.requeued slot linked.0 linked.1), taken-set t.tags tag (Some issue_new) tag_there, w.placed.counted);
  }

  -- the machine holds together as before
  pub again-well : WellFormed l (n + 1) now
  again-well = record {
    sized = record {
      requests = w.sized.requests;
      bios = w.sized.bios;
      tags = length-set t.tags tag _ ∙ w.sized.tags;
      links = w.sized.links;
      requeued = length-set t.requeued slot _ ∙ w.sized.requeued;
      outboxes = w.sized.outboxes;
      seats = w.sized.seats;
      few_tags = w.sized.few_tags;
      few_requests = w.sized.few_requests;
      small_image = w.sized.small_image;
    };
    seated = record { early = λ k s h. let early = w.seated.early k s h in omega arith; apart = w.seated.apart; counted = w.seated.counted; left = w.seated.left };
    kept = w.kept;
    placed = again-placed;
    ruled = ruled_like l t now w.ruled;
    young = λ s e. let h = w.young s e in omega arith;
    first = let h = w.first in omega arith;
    served = w.served;
  }

  -- the tag bears the request that is sent
  again-flight : (meaning now).flight ≡ put (meaning t).flight tag (Some (record { issue = n; request = whole t request }))
  again-flight =
      put_is (meaning t).flight (meaning now).flight tag (Some (record { issue = n; request = whole t request }))
      (flight_borne t (at now.tags tag) issue_new request (get_or-set_same t.tags tag _ None tag_there) can.here)
      (λ j other. ap (flight_of t.requests t.bios) (get_or-set_other t.tags tag j _ None other))

  -- what the machine is then
  pub again-meaning : meaning now ≡ record (meaning t) {
    requeued = (meaning now).requeued;
    flight = put (meaning t).flight tag (Some (record { issue = n; request = whole t request }));
  }
  again-meaning i = record {
    overlay = t.overlay;
    seat = (meaning t).seat;
    queue = (meaning t).queue;
    requeued = (meaning now).requeued;
    outbox = (meaning t).outbox;
    flight = again-flight i;
    frozen = t.frozen;
    served = t.served;
    head = (meaning t).head;
    bfq = (meaning t).bfq;
    scheduler = t.scheduler;
  }

-- Dispatch where the dispatch list is not empty.
module _ (l : Limits) (m : Plain) (n : ℕ) (room : Bool) (r : WholeRequest) (rs : List WholeRequest) (list : m.requeued ≡ r ∷ rs) where
  -- its first request is sent
  again_goes : (o : Option ℕ) → lowest_free l m ≡ o → dispatch l m n room ≡ sent_again m n room r rs o
  again_goes o is = ap (dispatch_of l m n room) list ∙ ap (sent_again m n room r rs) is

  -- but not without a tag
  pub again_full : lowest_free l m ≡ None → dispatch l m n room ≡ (m, Refused NoTag)
  again_full none = again_goes None none

  -- no more exchanges are made than two
  pub again_few : (dispatch_exchanges m.requeued ≡ 2) × (rule_exchanges m Dispatch ≡ 0)
  again_few = (ap dispatch_exchanges list, ap (λ (x : List WholeRequest). cond (is_empty x && is_bfq m.scheduler) 31 0) list)

  module _ (tag : ℕ) (lowest : lowest_free l m ≡ Some tag) where
    -- the machine then
    abbrev after_again : Plain
    after_again = record m { requeued = rs; flight = put m.flight tag (Some (record { issue = n; request = r })) }

    pub again_late : room ≡ false → dispatch l m n room ≡ (m, Refused HistoryFull)
    again_late e = again_goes (Some tag) lowest ∙ ap (λ b. accepted b m after_again (Issued tag n r.op (range_of r.bios))) e

    again_does : room ≡ true → dispatch l m n room ≡ (after_again, Accepted (Issued tag n r.op (range_of r.bios)))
    again_does e = again_goes (Some tag) lowest ∙ ap (λ b. accepted b m after_again (Issued tag n r.op (range_of r.bios))) e

    -- with the range as it was read
    pub again_made : (then_is : Plain) (range : Range) → then_is ≡ after_again → range ≡ range_of r.bios → room ≡ true → (then_is, Accepted (Issued tag n r.op range)) ≡ dispatch l m n room
    again_made then_is range same read e =
        ap (λ x. (x, Accepted (Issued tag n r.op range))) same ∙ ap (λ x. (after_again, Accepted (Issued tag n r.op x))) read ∙ sym (again_does e)

    pub again_accepts : room ≡ true → MayGiveWay (dispatch l m n room).1
    again_accepts e = let P : Plain × Answer → Type 0 = λ o. MayGiveWay o.1 in subst P (sym (again_does e)) tt

-- two exchanges, as they are counted of a Dispatch
pub leaves_again : (l : Limits) (n a b : ℕ) (r : Result Answer WantOfMemory) (before now : Tables) (changes left : List Change) (spare : ℕ) → a ≡ 2 → b ≡ 0
    → IfOk r (λ answer. Leaves l n 2 0 answer before changes now left spare) → IfOk r (λ answer. Leaves l n a b answer before changes now left spare)
leaves_again l n a b r before now changes left spare e f h =
    let P : ℕ → Type 0 = λ k. IfOk r (λ answer. Leaves l n k b answer before changes now left spare) in
    let Q : ℕ → Type 0 = λ k. IfOk r (λ answer. Leaves l n 2 k answer before changes now left spare) in
    subst P (sym e) (subst Q (sym f) h)
