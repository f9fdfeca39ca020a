-- What a dispatch under bfq finds on its way.
use Rattle.std.proofs.Common.{◌≡◌, ℕ, ◌+◌, List, Some}
use Rattle.std.specs.Option.{option_and_then}
use Rattle.plain.specs.Next.{has_start}
use Rattle.plain.specs.declared.seat.InService.{InService}
use Rattle.plain.specs.Machine.{WholeRequest, Bfq, Plain, put}
use Rattle.plain.specs.Rules.{charge}
use Rattle.plain.specs.declared.answer.Reply.{Reply}
use Rattle.plain.specs.declared.answer.Reply.TheVariants.{Issued}
use Rattle.plain.specs.Opening.{Limits}
use Rattle.plain.specs.Requests.{shape, range_of}
use Rattle.plain.specs.Steps.Dispatch.{next_request, with_budget_in, with_selected, without_first, without_empty, sent_next, sent_in, sent_by_bfq}
use Rattle.plain_laws.proofs.Puts.{and_then_is, map_is}
use Rattle.plain_laws.proofs.Sendings.{dispatched}

-- a queue without the request that is sent
abbrev pub rest_of : Plain → ℕ → WholeRequest → List WholeRequest
rest_of m seat request = without_first (has_start shape (range_of request.bios).start) (m.queue seat)

-- the machine after this request is sent, with this of BFQ, and the reply
abbrev pub sent_to : Plain → ℕ → ℕ → ℕ → WholeRequest → Bfq → Plain × Reply
sent_to m n tag seat request last = (
  dispatched m n seat tag request (rest_of m seat request) m.served (put m.head seat ((range_of request.bios).start + (range_of request.bios).count)) last,
  Issued tag n request.op (range_of request.bios),
)

-- the queue in service expires if it has to, one is selected if none is in service then, its next request is charged, and it expires if
-- it is empty then
pub record Sent (l : Limits) (m : Plain) (n tag : ℕ) (o : Plain × Reply) : Type 0 where
  pub ready : Bfq
  pub readies : with_budget_in l m m.bfq.in_service ≡ Some ready
  pub slot : InService
  pub serves : (with_selected ready).in_service ≡ Some slot
  pub request : WholeRequest
  pub next : next_request m slot.seat ≡ Some request
  pub charged : Bfq
  pub charges : charge (range_of request.bios).count (with_selected ready) ≡ Some charged
  pub last : Bfq
  pub ends : without_empty l (rest_of m slot.seat request) charged ≡ Some last
  pub made : sent_to m n tag slot.seat request last ≡ o

pub sent-is : (l : Limits) (m : Plain) (n tag : ℕ) (o : Plain × Reply) → sent_by_bfq l m n tag ≡ Some o → Sent l m n tag o
sent-is l m n tag o e =
    let within = and_then_is (λ b. sent_in l m n tag (with_selected b)) (with_budget_in l m m.bfq.in_service) o e in
    let b : Bfq = with_selected within.0 in
    let slot = and_then_is (λ slot. option_and_then (sent_next l m n tag b slot.seat) (next_request m slot.seat)) b.in_service o within.2 in
    let seat : ℕ = slot.0.seat in
    let next = and_then_is (sent_next l m n tag b seat) (next_request m seat) o slot.2 in
    let r : WholeRequest = next.0 in
    let size : ℕ = (range_of r.bios).count in
    let done = map_is (sent_to m n tag seat r) (option_and_then (without_empty l (rest_of m seat r)) (charge size b)) o next.2 in
    let charged = and_then_is (without_empty l (rest_of m seat r)) (charge size b) done.0 done.1 in
    record {
      ready = within.0;
      readies = within.1;
      slot = slot.0;
      serves = slot.1;
      request = r;
      next = next.1;
      charged = charged.0;
      charges = charged.1;
      last = done.0;
      ends = charged.2;
      made = done.2;
    }
