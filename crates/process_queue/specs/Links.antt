-- The links of slots in their queues: where a slot is put, and what the tables hold.
use Rattle.std.specs.Prelude.{ℕ, zero, suc, ◌+◌, ◌-◌, ◌<◌, ◌≤◌, ◌≡◌, List, [], ◌∷◌, length, cond, Option, Some, None, slice_index_or}
use Rattle.std.specs.Option.{option_map_or}
use Rattle.linked_rows.specs.declared.Sides.{Sides}
use Rattle.linked_rows.specs.declared.Ends.{Ends}
use Rattle.linked_rows.specs.Chains.{side_at, ends_at, row_behind, cut_sides, cut_ends, spliced_sides, spliced_ends, IsList}
use Rattle.process_queue.specs.declared.Link.{Link}
use Rattle.process_queue.specs.Queue.{is_after, queue_slots}

-- the serial of a slot, if it is linked
abbrev pub serial_at : List (Option Link) → ℕ → ℕ
serial_at links slot = option_map_or (λ l. l.serial) (slice_index_or links slot None) 0

-- a linked slot is taken out of its queue
abbrev pub unlinked_sides : List (Option Link) → List Sides → ℕ → List Sides
unlinked_sides links sides slot = option_map_or (λ l. cut_sides sides slot) (slice_index_or links slot None) sides

abbrev pub unlinked_ends : List (Option Link) → List Sides → List Ends → ℕ → List Ends
unlinked_ends links sides ends slot = option_map_or (λ l. cut_ends sides ends l.seat slot) (slice_index_or links slot None) ends

-- from a slot back to the first one that does not come after an entry
unfoldable pub walk_back : List (Option Link) → List Sides → ℕ × ℕ → ℕ → Option ℕ → Option ℕ
walk_back links sides e zero at = at
walk_back links sides e (suc k) None = None
walk_back links sides e (suc k) (Some i) =
    cond (is_after (Some e) (serial_at links i, i)) (walk_back links sides e k (side_at sides i).before) (Some i)

-- the slot that an entry is put behind, if there is one
abbrev pub place_before : List (Option Link) → List Sides → List Ends → ℕ → ℕ × ℕ → Option ℕ
place_before links sides ends seat e = walk_back links sides e (length links) (ends_at ends seat).last

-- a free slot is put there
abbrev pub linked_sides : List (Option Link) → List Sides → List Ends → ℕ → Link → List Sides
linked_sides links sides ends slot l =
    spliced_sides sides (place_before links sides ends l.seat (l.serial, slot)) slot
    (row_behind sides ends l.seat (place_before links sides ends l.seat (l.serial, slot)))

abbrev pub linked_ends : List (Option Link) → List Sides → List Ends → ℕ → Link → List Ends
linked_ends links sides ends slot l =
    spliced_ends ends l.seat (place_before links sides ends l.seat (l.serial, slot)) slot
    (row_behind sides ends l.seat (place_before links sides ends l.seat (l.serial, slot)))

-- how many slots are linked
abbrev pub linked_in : List (Option Link) → ℕ
linked_in [] = 0
linked_in (None ∷ links) = linked_in links
linked_in (Some l ∷ links) = 1 + linked_in links

-- one fewer, if the slot that was taken out was linked
abbrev pub fewer : ℕ → Option Link → ℕ
fewer queued None = queued
fewer queued (Some l) = queued - 1

-- each seat's queue is linked both ways and its ends are known; and the linked slots are counted
pub record IsQueues (links : List (Option Link)) (sides : List Sides) (ends : List Ends) (queued : ℕ) : Type 0 where
  pub queues : (seat : ℕ) → seat < 256 → IsList sides ends seat (queue_slots seat links)
  pub count : queued ≡ linked_in links
  pub seats : (i : ℕ) (l : Link) → slice_index_or links i None ≡ Some l → l.seat < 256
  pub sides_length : length sides ≡ length links
  pub ends_length : length ends ≡ 256
  pub few : length links ≤ 65535
