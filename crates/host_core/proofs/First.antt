-- What a seat that is settled has collected.
use Rattle.std.proofs.Common.{true, false, Bool, ◌≡◌, ℕ, ◌≤◌, List, length, subst, arith}
use Rattle.host_calls.specs.declared.ring.RingReply.{RingReply}
use Rattle.host_calls.specs.declared.ring.RingReply.TheVariants.{Answer as Answered}
use Rattle.host_calls.specs.declared.seat.SeatName.{SeatName}
use Rattle.host_core.specs.Journal.{Pages}
use Rattle.host_core.specs.declared.judges.Judges as journal
use Rattle.host_core.specs.Rows.{Row}
use Rattle.host_core.specs.SeatSettling.{AreSettled}
use Rattle.host_core.specs.declared.asked.Asked.{Asked}
use Rattle.host_core.specs.Account.{IsFirstPart}
use Rattle.host_core.proofs.SeatAccounts.{account-first}
use Rattle.host_core.specs.RowSettling.{name_of, staged_calls, collected_replies, IsSettled}
use Rattle.host_core.specs.declared.row_settling.SeatEnd.{SeatEnd}
use Rattle.host_core.specs.Cores.{seats_of}
use Rattle.host_core.specs.Keeping.{devices_among, judges, is_entry, entry_under, is_own, closing, IsKept, AreKept}
use Rattle.host_core.specs.Settling.{IsFirst}
use Rattle.host_core.specs.declared.turns.Core.{Core}

one-closing : (b : Bool) → length (closing b) ≤ 1
one-closing true = omega arith
one-closing false = omega arith

-- it is the first part of the account that the core keeps of the seat
first-row : (devices : ℕ) (p : Pages) (r : Row) (name : SeatName) (calls : List Asked) (replies : List RingReply) (left uncollected : ℕ) → r.name ≡ name
    → AreSettled calls replies r left uncollected → IsKept devices p r
    → IsFirstPart (judges devices p.limits p.most name) is_entry (entry_under name) (is_own name) Answered p.entries r.taken r.waiting r.replied calls replies (closing r.closed)
first-row devices p r name calls replies left uncollected named s h =
    subst (λ n. IsFirstPart (judges devices p.limits p.most n) is_entry (entry_under n) (is_own n) Answered p.entries r.taken r.waiting r.replied calls replies (closing r.closed)) named
    (account-first (judges devices p.limits p.most r.name) is_entry (entry_under r.name) (is_own r.name) Answered p.entries r.taken r.waiting calls s.untaken replies s.rest
    r.replied (closing r.closed) h s.replies_are s.calls_are (one-closing r.closed))

pub first-of : {B : Type 0} {j : journal.Ghosts B} (p : Pages) (core : Core B j) (end : SeatEnd) (left uncollected : ℕ)
    → IsSettled (seats_of core) (name_of end) (staged_calls end) (collected_replies end) left uncollected → AreKept p (seats_of core) → IsFirst p core end
first-of p core end left uncollected s h = record {
  row = s.row;
  place = s.place;
  stands = s.stands;
  named = s.named;
  first = first-row (devices_among (seats_of core)) p s.row (name_of end) (staged_calls end) (collected_replies end) left uncollected s.named s.settled (h s.place s.row s.stands);
}
