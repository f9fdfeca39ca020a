-- The core's journal: the accepted calls, each under the name of its seat.
use denote.Ref.{Bor}
use Rattle.std.specs.Prelude.{ℕ, List, [], ◌∷◌, ◌++◌, map}
use Rattle.plain.specs.declared.call.Call.{Call}
use Rattle.plain.specs.declared.answer.Answer.{Answer}
use Rattle.plain.specs.declared.answer.Answer.TheVariants.{Accepted, Refused, NotYet}
use Rattle.plain.specs.Opening.{Limits}
use Rattle.plain.specs.Keeper.{State}
use Rattle.plain.specs.Headline.{MayCall, replay}
use Rattle.host_calls.specs.declared.seat.SeatName.{SeatName}

-- an accepted call, under the name of its seat
pub record Entry : Type 0 where
  pub name : SeatName
  pub call : Call

-- the calls of a journal, in order
abbrev pub calls_of : List Entry → List Call
calls_of journal = map (λ e. e.call) journal

-- an accepted call is the journal's next entry
abbrev pub entered_by : List Entry → SeatName → Call → Answer → List Entry
entered_by journal name call (Accepted reply) = journal ++ record { name = name; call = call } ∷ []
entered_by journal name call (Refused code) = journal
entered_by journal name call (NotYet cause) = journal

-- an entry as a name and a call that is looked at
abbrev pub shown_entry : SeatName × Bor Call → Entry
shown_entry e = record { name = e.0; call = e.1.now }

-- what the keeper of a journal may answer to a call
abbrev pub Allows : Limits → ℕ → List Call → Call → Answer → Type 0
Allows l most journal call answer = (next : State) × MayCall (replay l most journal) call answer next

-- what a core knows of its keeper: what it was made for, and the journal
pub record Pages : Type 0 where
  pub limits : Limits
  pub most : ℕ
  pub entries : List Entry
