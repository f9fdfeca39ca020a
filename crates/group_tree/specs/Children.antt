-- The children of a group: the entities that are in it, linked both ways.
use Rattle.std.specs.Prelude.{ℕ, ◌<◌, ◌≡◌, nat_lt, List, length, cond, Option, Some, None, slice_index_or}
use Rattle.std.specs.Option.{option_map_or}
use Rattle.linked_rows.specs.declared.Sides.{Sides}
use Rattle.linked_rows.specs.declared.Ends.{Ends}
use Rattle.linked_rows.specs.Chains.{row_behind, cut_sides, cut_ends, spliced_sides, spliced_ends, one_if, times, IsList}

-- the group, if its children are linked: those of the root and of the groups that there can be (our profile)
abbrev pub linked : Option ℕ → Option ℕ
linked None = None
linked (Some g) = cond (nat_lt g 32) (Some g) None

-- an entity goes out of the children of a group, if they are linked
abbrev pub left_sides : List Sides → Option ℕ → ℕ → List Sides
left_sides sides group e = option_map_or (λ g. cut_sides sides e) group sides

abbrev pub left_ends : List Sides → List Ends → Option ℕ → ℕ → List Ends
left_ends sides ends group e = option_map_or (λ g. cut_ends sides ends g e) group ends

-- an entity comes before them
abbrev pub entered_sides : List Sides → List Ends → Option ℕ → ℕ → List Sides
entered_sides sides ends group e = option_map_or (λ g. spliced_sides sides None e (row_behind sides ends g None)) group sides

abbrev pub entered_ends : List Sides → List Ends → Option ℕ → ℕ → List Ends
entered_ends sides ends group e = option_map_or (λ g. spliced_ends ends g None e (row_behind sides ends g None)) group ends

-- one for an entity whose parent is the group
abbrev pub here : ℕ → Option ℕ → ℕ
here group None = 0
here group (Some p) = one_if p group

-- the entities whose parent is the group are linked both ways, each once, in some order
pub record Children (group : ℕ) (parents : List (Option ℕ)) (sides : List Sides) (ends : List Ends) : Type 0 where
  pub entities : List ℕ
  pub own : IsList sides ends group entities
  pub counts : (i : ℕ) → times i entities ≡ here group (slice_index_or parents i None)

-- a place for each entity, and the children of each group
pub record IsGroups (parents : List (Option ℕ)) (sides : List Sides) (ends : List Ends) : Type 0 where
  pub children : (group : ℕ) → group < 32 → Children group parents sides ends
  pub places : length parents ≡ 48
  pub sides_length : length sides ≡ 48
  pub ends_length : length ends ≡ 32
