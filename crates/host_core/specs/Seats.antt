-- What a seat and its desk have had: calls and replies.
use Rattle.std.specs.Prelude.{◌≡◌, ℕ, Bool, true, false, List, [], None, map, option_to_list}
use Rattle.rtrb.specs.Ring.{sent, received, producer_capacity, known_free, known_items, SameProducer, SameConsumer, IsPair}
use Rattle.host_calls.specs.declared.ring.RingReply.{RingReply}
use Rattle.host_calls.specs.declared.ring.RingReply.TheVariants.{Answer as Answered, Closed as Closing}
use Rattle.host_calls.specs.declared.seat.SeatName.{SeatName}
use Rattle.host_core.specs.Rows.{Row}
use Rattle.host_core.specs.declared.asked.Asked.{Asked}
use Rattle.host_core.specs.declared.desk.Desk.{Desk}
use Rattle.host_core.specs.declared.seat.Seat.{Seat}

-- whether Closed was collected, with this reply
abbrev pub closed_by : Bool → RingReply → Bool
closed_by was (Answered answer) = was
closed_by was Closing = true

module _ {C P : Type 0} where
  -- its number, among the seats of its kind
  abbrev pub seat_number : Seat C P → ℕ
  seat_number s = s.number

  -- the calls that a seat has staged, and the replies that it has collected
  abbrev pub staged : Seat C P → List C
  staged s = sent s.calls

  abbrev pub collected : Seat C P → List RingReply
  collected s = received s.replies

  -- whether it has collected Closed
  abbrev pub is_closed : Seat C P → Bool
  is_closed s = s.closed

  -- no place for a call is known to be free, and no reply is known to be there
  abbrev pub IsFull : Seat C P → Type 0
  IsFull s = known_free s.calls ≡ 0

  abbrev pub HasNothing : Seat C P → Type 0
  HasNothing s = known_items s.replies ≡ []

  -- the same two rings, and the same number; and so for a desk
  abbrev pub SameSeat : Seat C P → Seat C P → Type 0
  SameSeat a b = SameProducer a.calls b.calls × SameConsumer a.replies b.replies × (b.number ≡ a.number)

  abbrev pub SameDesk : Desk C P → Desk C P → Type 0
  SameDesk a b = SameConsumer a.calls b.calls × SameProducer a.replies b.replies × (b.number ≡ a.number)

  -- the calls that a desk has taken, the one that waits, if one does, and the replies that it has given
  abbrev pub taken : Desk C P → List C
  taken d = received d.calls

  abbrev pub waits : Desk C P → List Asked
  waits d = option_to_list d.waiting

  abbrev pub replied : Desk C P → List RingReply
  replied d = sent d.replies

  -- a desk as a row, by how its kind puts the number in and is named
  abbrev pub row_of : (ℕ → C → Asked) → (ℕ → SeatName) → Desk C P → Row
  row_of asked_by named d = record {
    name = named d.number;
    taken = map (asked_by d.number) (taken d);
    waiting = waits d;
    replied = replied d;
    closed = d.closed;
  }

  -- a seat and its desk before the first call: four places each way (our profile)
  pub record IsFresh (s : Seat C P) (d : Desk C P) (number : ℕ) : Type 0 where
    pub calls : IsPair s.calls d.calls
    pub replies : IsPair d.replies s.replies
    pub call_places : producer_capacity s.calls ≡ 4
    pub reply_places : producer_capacity d.replies ≡ 4
    pub staged : staged s ≡ []
    pub collected : collected s ≡ []
    pub unclosed : is_closed s ≡ false
    pub taken : taken d ≡ []
    pub replied : replied d ≡ []
    pub closed : d.closed ≡ false
    pub waiting : d.waiting ≡ None
    pub numbered : d.number ≡ number
    pub seat_numbered : s.number ≡ number

  -- a seat and a desk of the same two rings, under one number
  abbrev pub AreBeside : Seat C P → Desk C P → Type 0
  AreBeside s d = IsPair s.calls d.calls × IsPair d.replies s.replies × (d.number ≡ s.number)
