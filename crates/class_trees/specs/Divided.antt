-- The members of a group divided among three trees, one for each class.
use Rattle.std.specs.Prelude.{◌≡◌, List, [], ◌∷◌, Option}
use Rattle.std.specs.Option.{option_or}
use Rattle.sector_core.specs.declared.class.Class.TheVariants.{RealTime, BestEffort, Idle}
use Rattle.plain.specs.declared.member.Member.{Member}
use Rattle.plain.specs.Members.{Service}
use Rattle.plain.specs.Classes.{Classes, only}

-- the members of three lists, each under its number
abbrev pub merged : List (Option Member) → List (Option Member) → List (Option Member) → List (Option Member)
merged [] bs is = []
merged (r ∷ rs) [] is = []
merged (r ∷ rs) (b ∷ bs) [] = []
merged (r ∷ rs) (b ∷ bs) (i ∷ is) = option_or (option_or r b) i ∷ merged rs bs is

-- a group, from the three trees
abbrev pub together : Service → Service → Service → Classes
together r b i = record {
  vtimes = record { real_time = r.vtime; best_effort = b.vtime; idle = i.vtime };
  members = merged r.members b.members i.members;
}

-- each tree has the members of its class
pub record AreDivided (r b i : Service) : Type 0 where
  pub real_time : r.members ≡ only RealTime (merged r.members b.members i.members)
  pub best_effort : b.members ≡ only BestEffort (merged r.members b.members i.members)
  pub idle : i.members ≡ only Idle (merged r.members b.members i.members)
