-- Submit: a bio joins a queued request of its seat, or becomes a request of its own at the end of the queue (blk-mq).
use Rattle.std.specs.Prelude.{ℕ, ◌+◌, ◌*◌, ◌==◌, nat_le, nat_lt, Bool, not, ◌||◌, ◌&&◌, List, [], ◌∷◌, ◌++◌, length, Option, None, Some, if◌then◌else◌}
use Rattle.std.specs.Option.{option_map, is_none}
use Rattle.plain.specs.Lists.{is_empty}
use Rattle.sector_core.specs.declared.range.Range.{Range}
use Rattle.sector_core.specs.declared.bio.Op.{Op}
use Rattle.sector_core.specs.declared.bio.Op.TheVariants.{Fetch, Store, Discard}
use Rattle.sector_core.specs.declared.bio.BioFields.{BioFields as Bio}
use Rattle.plain.specs.Machine.{WholeRequest, Plain, put}
use Rattle.plain.specs.Merge.{merge_of, joins_at}
use Rattle.plain.specs.Opening.{Limits}
use Rattle.plain.specs.Rules.{activate}
use Rattle.plain.specs.declared.answer.Code.TheVariants.{BadCount, BadLength, OutOfRange, TooManyBios}
use Rattle.plain.specs.declared.answer.Cause.TheVariants.{Frozen, RequestsFull}
use Rattle.plain.specs.declared.answer.Reply.TheVariants.{Queued}
use Rattle.plain.specs.declared.answer.Answer.TheVariants.{Refused, NotYet}
use Rattle.plain.specs.Tests.{StepResult, unless, accepted_if}
use Rattle.plain.specs.Sessions.{seat_tests, unreaped, with_unreaped}
use Rattle.plain.specs.Requests.{shape, requests_of}
use Rattle.plain.specs.Entities.{is_bfq}

-- 512 bytes a sector for a store, none for a fetch or a discard (our profile)
abbrev pub payload_length : Op → ℕ → ℕ
payload_length Fetch count = 0
payload_length Store count = 512 * count
payload_length Discard count = 0

-- the request that a bio of a session joins in a seat's queue, and whether at its front (blk-mq: a bio is merged before any scheduler is asked)
abbrev pub merge_in : Plain → ℕ → ℕ → Op → Range → Option (WholeRequest × Bool)
merge_in m seat session op range = merge_of shape (m.queue seat) session op range

-- a bio that waits, named by the step's serial (our profile)
abbrev pub new_bio : ℕ → Range → List ℕ → Bio
new_bio n range payload = record { serial = n; range = range; payload = payload; result = None }

-- a request with one more bio, at its front or at its end, so that its bios stay in the order of their sectors (blk-mq)
abbrev pub with_bio : Bool → Bio → WholeRequest → WholeRequest
with_bio front bio request = record request { bios = if front then bio ∷ request.bios else request.bios ++ bio ∷ [] }

-- a list with its first element changed that passes a test; the others, and their places, stay (our profile)
abbrev pub change_first : {A : Type 0} → (A → Bool) → (A → A) → List A → List A
change_first passes change [] = []
change_first passes change (x ∷ xs) = if passes x then change x ∷ xs else x ∷ change_first passes change xs

-- a queue with one more bio: in the request that it joins, the first that passes the test by which it was found, where it stands; or in a
-- new one at the end (blk-mq; that a request keeps its place is our profile)
abbrev pub queue_with : ℕ → Op → Bio → Option (WholeRequest × Bool) → List WholeRequest → List WholeRequest
queue_with session op bio None queue = queue ++ record { session = session; op = op; bios = bio ∷ [] } ∷ []
queue_with session op bio (Some found) queue = change_first (joins_at shape found.1 session op bio.range) (with_bio found.1 bio) queue

-- a bio is in a seat's queue, and its session has one more that is not yet reaped (blk-mq; the count is our profile)
abbrev pub submitted : Plain → ℕ → ℕ → ℕ → Op → Range → List ℕ → Plain
submitted m n seat session op range payload = record m {
  seat = put m.seat seat (option_map (with_unreaped (unreaped m seat + 1)) (m.seat seat));
  queue = put m.queue seat (queue_with session op (new_bio n range payload) (merge_in m seat session op range) (m.queue seat));
}

-- a bio needs a free request if it joins none (our profile)
abbrev pub needs_request : Plain → ℕ → ℕ → Op → Range → Bool
needs_request m seat session op range = is_none (merge_in m seat session op range)

-- bfq: with a request in a queue that was empty, its entity waits to be served
abbrev pub woken : Plain → ℕ → Plain → Option Plain
woken m seat next =
    if is_bfq m.scheduler && is_empty (m.queue seat) then option_map (λ b. record next { bfq = b }) (activate seat m.bfq) else Some next

-- a bio is taken if it is right, the host is not frozen, its session has fewer than 32 bios, and it joins a request or one is free (blk-mq; the tests
-- and limits are our profile)
abbrev pub submit : Limits → Plain → ℕ → Bool → ℕ → ℕ → Op → Range → List ℕ → StepResult
submit l m n room seat session op range payload = unless (seat_tests m seat session ++ (
    (range.count == 0 || nat_lt 64 range.count, Refused BadCount)
    ∷ (not (length payload == payload_length op range.count), Refused BadLength)
    ∷ (nat_lt l.sectors (range.start + range.count), Refused OutOfRange)
    ∷ (m.frozen, NotYet Frozen)
    ∷ (nat_le 32 (unreaped m seat), Refused TooManyBios)
    ∷ (needs_request m seat session op range && nat_le l.requests (requests_of l m), NotYet RequestsFull)
    ∷ [])) m
    (accepted_if room m (option_map (λ next. (next, Queued n)) (woken m seat (submitted m n seat session op range payload))))
