-- What a keeper is at any time.
use Rattle.std.specs.Prelude.{◌≡◌, ℕ, ◌≤◌, ◌<◌, ◌^◌, Bool, length}
use Rattle.plain.specs.Step.{of_sizes}
use Rattle.plain.specs.Keeper.{State}
use Rattle.plain.specs.Headline.{replay}
use Rattle.history.specs.Roll.{Line}

-- the state that a line with its journal and a hold make
abbrev pub state_of : Line → Bool → ℕ → State
state_of r held most = record {
  limits = of_sizes r.sizes;
  most = most;
  line = r.steps;
  cursor = r.cursor;
  held = held;
  last = r.last;
  journal = r.journal;
}

-- the journal has room for an Undo of each step that stands; it holds no more than it may, and an entry for each step;
-- and the state is the replay of the journal
pub record IsKeeper (r : Line) (held : Bool) (most : ℕ) : Type 0 where
  pub reserved : r.cursor ≤ r.spare
  pub bounded : most < 2 ^ 32
  pub few : length r.journal ≤ most
  pub steps : length r.steps ≤ length r.journal
  pub serials : r.last ≤ length r.journal
  pub replayed : state_of r held most ≡ replay (of_sizes r.sizes) most r.journal
