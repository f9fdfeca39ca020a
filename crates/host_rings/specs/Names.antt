-- A keeper and the names of its journal's entries.
use Rattle.std.specs.Prelude.{◌≡◌, ℕ, ◌≤◌, List, [], ◌∷◌, length}
use Rattle.plain.specs.declared.call.Call.{Call}
use Rattle.plain.specs.Keeper.{State}
use Rattle.plain.specs.Headline.{replay}
use Rattle.host_calls.specs.declared.seat.SeatName.{SeatName}
use Rattle.host_core.specs.Journal.{Entry}

-- the entries of as many names and calls
abbrev pub entries : List SeatName → List Call → List Entry
entries [] calls = []
entries (name ∷ names) [] = []
entries (name ∷ names) (call ∷ calls) = record { name = name; call = call } ∷ entries names calls

-- each entry of the keeper's journal has a name, there is room for the names of all that it may hold, and it is the replay of its journal
pub record IsBook (k : State) (names : List SeatName) (len capacity : ℕ) : Type 0 where
  pub counted : len ≡ length names
  pub even : length names ≡ length k.journal
  pub room : k.most ≤ capacity
  pub few : length k.journal ≤ k.most
  pub replays : k ≡ replay k.limits k.most k.journal
