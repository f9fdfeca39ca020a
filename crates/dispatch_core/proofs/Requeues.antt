-- A request goes from its tag to the end of the dispatch list.
use Rattle.std.proofs.Common.{◌≡◌, ℕ, ◌+◌, ◌<◌, [], ◌∷◌, ◌++◌, length, Some, None, Bool, true, false, not, inl, inr, nat_le, nat_eq, ◌==◌, count_by, refl, sym, ap, ◌∙◌, subst, arith, length-set, eq-eqb, ne_eqb}
use Rattle.std.specs.Option.{option_map}
use Rattle.std.proofs.lemmas.Bool.{cases_eq, cond-true, cond-false}
use Rattle.std.proofs.lemmas.Bool.Decides.{nat_tests}
use Rattle.std.proofs.lemmas.List.{get_or-set_same, get_or-set_other}
use Rattle.std.proofs.lemmas.List.Sums.{sum_by-set}
use Rattle.std.proofs.lemmas.Option.{same_Some}
use Rattle.dispatch_core.proofs.Words.{Request, Issue, Link, Tables, Flight, Plain, put, meaning, whole_at, Limits, at, one, bears, WellFormed, Placed, IsRequeued, requeued_tables}
use Rattle.plain.specs.declared.answer.Answer.TheVariants.{Accepted}
use Rattle.plain.specs.declared.answer.Reply.TheVariants.{Requeued}
use Rattle.plain.specs.Steps.Requeue.{requeue}
use Rattle.dispatch_core.proofs.QueueLists.{within_of, freed, kept_of, queue-put_last}
use Rattle.dispatch_core.proofs.Counts.{taken-set}
use Rattle.dispatch_core.proofs.QueueFacts.{put_is, is_some_of, set_cases, flight_of, borne}
use Rattle.dispatch_core.proofs.Requeued.{requeued_still, unrequeued_borne}
use Rattle.dispatch_core.proofs.Queues.{whole, moved, no_flight}
use Rattle.dispatch_core.proofs.Ruling.{ruled_like}

module _ (l : Limits) (n : ℕ) (t : Tables) (tag issue slot : ℕ) (request : Request) (w : WellFormed l n t)
    (bears_it : at t.tags tag ≡ Some (record { issue = issue; slot = slot })) (here : at t.requests slot ≡ Some request) where
  -- what the tag bears
  abbrev gone : Issue
  gone = record { issue = issue; slot = slot }

  -- the new link
  abbrev link_new : Link
  link_new = record { seat = 0; serial = n }

  -- the tables then
  abbrev now : Tables
  now = requeued_tables t n slot tag

  -- its place is within the dispatch list
  within : slot < length t.requeued
  within = let h = within_of t.requests slot request here in omega (arith, h, w.sized.requests, w.sized.requeued)

  -- and free
  free : at t.requeued slot ≡ None
  free = unrequeued_borne n t tag gone w.placed bears_it

  -- the new link is one of the dispatch list
  link_is : IsRequeued (n + 1) now slot link_new
  link_is = record { early = omega arith; number = refl; here = is_some_of (at t.requests slot) request here }

  -- no link of the list is as late
  links_apart : (i j : ℕ) (a b : Link) → at now.requeued i ≡ Some a → at now.requeued j ≡ Some b → a.serial ≡ b.serial → i ≡ j
  links_apart i j a b e f same = elim (set_cases t.requeued slot i (Some link_new) a within e) [
    | inl g ↦ elim (set_cases t.requeued slot j (Some link_new) b within f) [
      | inl h ↦ g.0 ∙ sym h.0
      | inr h ↦
          let y : n ≡ a.serial = ap (λ (m : Link). m.serial) (same_Some link_new a g.1) in
          let z : b.serial < n = (w.placed.requeued j b h.1).early in
          absurd (omega (arith, y, z, same))
    ]
    | inr g ↦ elim (set_cases t.requeued slot j (Some link_new) b within f) [
      | inl h ↦
          let y : n ≡ b.serial = ap (λ (m : Link). m.serial) (same_Some link_new b h.1) in
          let z : a.serial < n = (w.placed.requeued i a g.1).early in
          absurd (omega (arith, y, z, same))
      | inr h ↦ w.placed.again i j a b g.1 h.1 same
    ]
  ]

  -- each link is one of the dispatch list
  links_are : (k : ℕ) (link : Link) → at now.requeued k ≡ Some link → IsRequeued (n + 1) now k link
  links_are k link e = elim (set_cases t.requeued slot k (Some link_new) link within e) [
    | inl g ↦
        let P : Link → Type 0 = λ x. IsRequeued (n + 1) now slot x in
        let Q : ℕ → Type 0 = λ i. IsRequeued (n + 1) now i link in
        let same : link_new ≡ link = same_Some link_new link g.1 in
        subst Q (sym g.0) (subst P same link_is)
    | inr g ↦ let q = w.placed.requeued k link g.1 in requeued_still n t now k link q q.here
  ]

  -- the request leaves its tag, and is in the dispatch list
  requeue-once : (k : ℕ) → count_by (bears k) now.tags + one (at now.links k) + one (at now.requeued k) ≡ one (at now.requests k)
  requeue-once k =
      let ht = within_of t.tags tag gone bears_it in
      let put : count_by (bears k) now.tags + borne k (at t.tags tag) ≡ count_by (bears k) t.tags + 0 = sum_by-set (borne k) t.tags tag None None ht in
      elim (cases_eq k slot) [
        | inl same ↦
            let a : borne k (at t.tags tag) ≡ 1 = ap (borne k) bears_it ∙ cond-true (slot == k) 1 0 (eq-eqb slot k (sym same)) in
            let b : one (at t.requeued k) ≡ 0 = ap one (ap (at t.requeued) same ∙ free) in
            let c : one (at now.requeued k) ≡ 1 = ap one (ap (at now.requeued) same ∙ get_or-set_same t.requeued slot (Some link_new) None within) in
            omega (arith, put, a, b, c, w.placed.once k)
        | inr other ↦
            let a : borne k (at t.tags tag) ≡ 0 = ap (borne k) bears_it ∙ cond-false (slot == k) 1 0 (ne_eqb slot k (λ f. other (sym f))) in
            let c : one (at now.requeued k) ≡ one (at t.requeued k) = ap one (get_or-set_other t.requeued slot k (Some link_new) None other) in
            omega (arith, put, a, c, w.placed.once k)
      ]

  -- each request stands in one place
  requeue-placed : Placed (n + 1) now
  requeue-placed = record {
    link = λ k link e. moved n t now k link (w.placed.link k link e) refl (λ _ s f. record { now = s; there = f; session = refl });
    apart = w.placed.apart;
    again = links_apart;
    tag = λ j b e. let h = w.placed.tag j b (kept_of t.tags tag j gone b bears_it e).1 in (omega (arith, h.0), h.1);
    requeued = links_are;
    once = requeue-once;
    counted =
        let a : one (at t.tags tag) ≡ 1 = ap one bears_it in
        let b : one (at t.requeued slot) ≡ 0 = ap one free in
        omega (arith, a, b, taken-set t.tags tag None (within_of t.tags tag gone bears_it), taken-set t.requeued slot (Some link_new) within, w.placed.counted);
  }

  -- the machine holds together as before
  pub requeue-well : WellFormed l (n + 1) now
  requeue-well = record {
    sized = record {
      requests = w.sized.requests;
      bios = w.sized.bios;
      tags = length-set t.tags tag _ ∙ w.sized.tags;
      links = w.sized.links;
      requeued = length-set t.requeued slot _ ∙ w.sized.requeued;
      outboxes = w.sized.outboxes;
      seats = w.sized.seats;
      few_tags = w.sized.few_tags;
      few_requests = w.sized.few_requests;
      small_image = w.sized.small_image;
    };
    seated = record { early = λ k s h. let early = w.seated.early k s h in omega arith; apart = w.seated.apart; counted = w.seated.counted; left = w.seated.left };
    kept = w.kept;
    placed = requeue-placed;
    ruled = ruled_like l t now w.ruled;
    young = λ s e. let h = w.young s e in omega arith;
    first = let h = w.first in omega arith;
    served = w.served;
  }

  -- the request is the last of the dispatch list
  requeue-list : (meaning now).requeued ≡ (meaning t).requeued ++ whole t request ∷ []
  requeue-list =
      queue-put_last (whole_at t.requests t.bios) (whole t request) 0 slot t.requeued link_new within free (λ j m e. (w.placed.requeued j m e).early) refl (ap (option_map (whole t)) here)

  -- and its tag is free
  requeue-flight : (meaning now).flight ≡ put (meaning t).flight tag None
  requeue-flight =
      put_is (meaning t).flight (meaning now).flight tag None (no_flight now tag (freed t.tags tag gone bears_it))
      (λ j other. ap (flight_of t.requests t.bios) (get_or-set_other t.tags tag j None None other))

  -- what the machine is then
  pub requeue-meaning : meaning now ≡ record (meaning t) {
    flight = put (meaning t).flight tag None;
    requeued = (meaning t).requeued ++ whole t request ∷ [];
  }
  requeue-meaning i = record {
    overlay = t.overlay;
    seat = (meaning t).seat;
    queue = (meaning t).queue;
    requeued = requeue-list i;
    outbox = (meaning t).outbox;
    flight = requeue-flight i;
    frozen = t.frozen;
    served = t.served;
    head = (meaning t).head;
    bfq = (meaning t).bfq;
    scheduler = t.scheduler;
  }

not_past : (a b : ℕ) → a < b → nat_le b a ≡ false
not_past a b h = grind (arith, nat_tests)

same_issue : (a b : ℕ) → a ≡ b → not (nat_eq a b) ≡ false
same_issue a b e = grind (arith, nat_tests)

-- Requeue where its tests have passed
pub requeue_does : (l : Limits) (m : Plain) (room : Bool) (tag issue : ℕ) (f : Flight) → tag < l.tags → m.flight tag ≡ Some f → f.issue ≡ issue → room ≡ true
    → requeue l m room tag issue ≡ (record m { flight = put m.flight tag None; requeued = m.requeued ++ f.request ∷ [] }, Accepted Requeued)
requeue_does l m room tag issue f h is same has_room =
    let e1 = not_past tag l.tags h in
    let e2 = same_issue f.issue issue same in
    rw (e1, is, e2, has_room) refl
