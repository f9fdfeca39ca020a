-- What the tables mean: the plain machine that one reads off them (our profile).
use Rattle.std.specs.Prelude.{ℕ, List, [], Option, None, slice_index_or}
use Rattle.std.specs.List.{filter_map}
use Rattle.std.specs.Option.{option_map, option_and_then}
use Rattle.arrayvec.specs.ArrayVec.{ArrayVec}
use Rattle.sector_core.specs.declared.bio.BioFields.{BioFields as Bio}
use Rattle.request_pool.specs.declared.RequestFields.{RequestFields as Request}
use Rattle.plain.specs.Machine.{WholeRequest, Bfq, Plain}
use Rattle.process_queue.specs.Queue.{queue_slots}
use Rattle.process_queue.specs.Merge.{bios_at}
use Rattle.change_record.specs.Tables.{Tables}
use Rattle.change_record.specs.Exchange.{tree_of}
use Rattle.plain.specs.Classes.{Classes}
use Rattle.plain.specs.declared.seat.InService.{InService}
use Rattle.plain.specs.Groups.{parent}

-- the request in a slot, with its bios
abbrev pub whole_at : List (Option Request) → List (Option Bio) → ℕ → Option WholeRequest
whole_at requests bios slot =
    option_map (λ r. record { session = r.session; op = r.op; bios = bios_at bios r.bios.items }) (slice_index_or requests slot None)

-- the slots of the bios in a seat's outbox
abbrev pub outbox_at : List (ArrayVec ℕ) → ℕ → List ℕ
outbox_at outboxes seat = (slice_index_or outboxes seat (record { items = [] })).items

-- what these tables of BFQ mean
abbrev pub bfq_in : List Classes → List (Option ℕ) → List ℕ → List ℕ → Option InService → Bfq
bfq_in trees parents weights budgets slot = record {
  parent = parent parents;
  service = tree_of trees;
  pending = λ entity. slice_index_or weights entity 1;
  budget = λ entity. slice_index_or budgets entity 256;
  in_service = slot;
}

abbrev pub bfq_of : Tables → Bfq
bfq_of t = bfq_in t.trees t.parents t.weights t.budgets t.in_service

abbrev pub meaning : Tables → Plain
meaning t = record {
  overlay = t.overlay;
  seat = λ seat. slice_index_or t.seats seat None;
  queue = λ seat. filter_map (whole_at t.requests t.bios) (queue_slots seat t.links);
  requeued = filter_map (whole_at t.requests t.bios) (queue_slots 0 t.requeued);
  outbox = λ seat. bios_at t.bios (outbox_at t.outboxes seat);
  flight = λ tag. option_and_then (λ issue. option_map (λ r. record { issue = issue.issue; request = r }) (whole_at t.requests t.bios issue.slot)) (slice_index_or t.tags tag None);
  frozen = t.frozen;
  served = t.served;
  head = λ seat. slice_index_or t.heads seat 0;
  bfq = bfq_of t;
  scheduler = t.scheduler;
}
