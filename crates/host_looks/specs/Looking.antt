-- What is asked and told of looks.
use Rattle.std.specs.Prelude.{◌≡◌, ◌⊎◌, ℕ, List, ◌++◌, [], ◌∷◌, Option, None, Some, true}
use Rattle.rtrb.specs.Ring.{sent, received, producer_capacity, known_free, known_items, SameProducer, SameConsumer, IsPair}
use Rattle.script_line.specs.declared.line.Line.{Line}
use Rattle.plain.specs.Keeper.{State}
use Rattle.host_console.specs.Printed.{Tells}
use Rattle.host_looks.specs.declared.told.Told.{Told}
use Rattle.host_looks.specs.declared.seat.LookSeat.{LookSeat}
use Rattle.host_looks.specs.declared.desk.LookDesk.{LookDesk}

-- the queries that a seat has sent out, and what it has heard of them
abbrev pub asked : LookSeat → List Line
asked seat = sent seat.lines

abbrev pub heard : LookSeat → List (Option Told)
heard seat = received seat.replies

-- the queries that a desk has taken, and what it has told of them
abbrev pub taken : LookDesk → List Line
taken desk = received desk.lines

abbrev pub replied : LookDesk → List (Option Told)
replied desk = sent desk.replies

-- the same two rings
abbrev pub SameSeat : LookSeat → LookSeat → Type 0
SameSeat a b = SameProducer a.lines b.lines × SameConsumer a.replies b.replies

abbrev pub SameDesk : LookDesk → LookDesk → Type 0
SameDesk a b = SameConsumer a.lines b.lines × SameProducer a.replies b.replies

-- a seat and its desk before the first query
pub record IsFresh (seat : LookSeat) (desk : LookDesk) : Type 0 where
  pub lines : IsPair seat.lines desk.lines
  pub replies : IsPair desk.replies seat.replies
  pub places : producer_capacity desk.replies ≡ 1
  pub asked : asked seat ≡ []
  pub heard : heard seat ≡ []
  pub taken : taken desk ≡ []
  pub replied : replied desk ≡ []

-- what is told of a query at a keeper: its text there, or nothing for want of memory
abbrev pub IsReply : State → Line → Option Told → Type 0
IsReply k line None = Unit {0}
IsReply k line (Some t) = (t.line ≡ line) × Tells k line t.text.items

-- one query more was taken, and what is told of it is the next reply
pub record Served (k : State) (a b : LookDesk) : Type 0 where
  pub line : Line
  pub reply : Option Told
  pub took : taken b ≡ taken a ++ line ∷ []
  pub told : replied b ≡ replied a ++ reply ∷ []
  pub is_reply : IsReply k line reply

-- nothing was taken, as no query is known to be there, or no place for a reply
pub record Idles (a b : LookDesk) : Type 0 where
  pub took : taken b ≡ taken a
  pub told : replied b ≡ replied a
  pub why : (known_items b.lines ≡ []) ⊎ (known_free b.replies ≡ 0)

-- one query more was asked, and this was heard next
abbrev pub Asked : LookSeat → Line → Told → LookSeat → Type 0
Asked a line t b = (t.line ≡ line) × (asked b ≡ asked a ++ line ∷ []) × (heard b ≡ heard a ++ Some t ∷ [])
