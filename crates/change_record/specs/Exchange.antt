-- An exchange puts a value at a place and leaves the old value in its stead (our profile).
use Rattle.std.specs.Prelude.{◌≡◌, ℕ, List, [], ◌∷◌, Option, None, Some, IsSome, slice_set, slice_index_or}
use Rattle.std.specs.FinMap as map
use Rattle.plain.specs.Machine.{Blocks}
use Rattle.overlay.specs.Blocks.{exchanged}
use Rattle.change_record.specs.declared.change.Change.{Change}
use Rattle.change_record.specs.declared.change.Change.TheVariants.{Sector, RequestSlot, BioSlot, Tag, QueueLink, OutboxWhole, SeatEntry, Requeued, Mode, Head, TreeMember, Vtime, GroupEntry, Pending, Budget, Serving}
use Rattle.plain.specs.Classes.{Classes, same_times, with_member, with_vtimes}
use Rattle.change_record.specs.Tables.{Tables}

-- the trees of a group; where there is no such group, one without a place
abbrev pub tree_of : List Classes → ℕ → Classes
tree_of trees group = slice_index_or trees group (record { vtimes = same_times 0; members = [] })

abbrev pub tree_at : Tables → ℕ → Classes
tree_at t group = tree_of t.trees group

-- the tables with the change's value at its place
abbrev pub after : Tables → Change → Tables
after t (Sector sector block) = record t { overlay = exchanged t.overlay sector block }
after t (RequestSlot slot request) = record t { requests = slice_set t.requests slot request }
after t (BioSlot slot bio) = record t { bios = slice_set t.bios slot bio }
after t (Tag tag issue) = record t { tags = slice_set t.tags tag issue }
after t (QueueLink slot link) = record t { links = slice_set t.links slot link }
after t (OutboxWhole seat outbox) = record t { outboxes = slice_set t.outboxes seat outbox }
after t (SeatEntry seat entry) = record t { seats = slice_set t.seats seat entry }
after t (Requeued slot link) = record t { requeued = slice_set t.requeued slot link }
after t (Mode scheduler frozen served) = record t { scheduler = scheduler; frozen = frozen; served = served }
after t (Head seat head) = record t { heads = slice_set t.heads seat head }
after t (TreeMember group entity member) = record t { trees = slice_set t.trees group (with_member (tree_at t group) entity member) }
after t (Vtime group vtimes) = record t { trees = slice_set t.trees group (with_vtimes (tree_at t group) vtimes) }
after t (GroupEntry entity group) = record t { parents = slice_set t.parents entity group }
after t (Pending entity weight) = record t { weights = slice_set t.weights entity weight }
after t (Budget entity budget) = record t { budgets = slice_set t.budgets entity budget }
after t (Serving slot) = record t { in_service = slot }

-- the change with the value that stood at its place; where there is no such place, as it was
abbrev pub left_by : Tables → Change → Change
left_by t (Sector sector block) = Sector sector (map.get t.overlay sector)
left_by t (RequestSlot slot request) = RequestSlot slot (slice_index_or t.requests slot request)
left_by t (BioSlot slot bio) = BioSlot slot (slice_index_or t.bios slot bio)
left_by t (Tag tag issue) = Tag tag (slice_index_or t.tags tag issue)
left_by t (QueueLink slot link) = QueueLink slot (slice_index_or t.links slot link)
left_by t (OutboxWhole seat outbox) = OutboxWhole seat (slice_index_or t.outboxes seat outbox)
left_by t (SeatEntry seat entry) = SeatEntry seat (slice_index_or t.seats seat entry)
left_by t (Requeued slot link) = Requeued slot (slice_index_or t.requeued slot link)
left_by t (Mode scheduler frozen served) = Mode t.scheduler t.frozen t.served
left_by t (Head seat head) = Head seat (slice_index_or t.heads seat head)
left_by t (TreeMember group entity member) = TreeMember group entity (slice_index_or (tree_at t group).members entity member)
left_by t (Vtime group vtimes) = Vtime group (slice_index_or t.trees group (with_vtimes (tree_at t group) vtimes)).vtimes
left_by t (GroupEntry entity group) = GroupEntry entity (slice_index_or t.parents entity group)
left_by t (Pending entity weight) = Pending entity (slice_index_or t.weights entity weight)
left_by t (Budget entity budget) = Budget entity (slice_index_or t.budgets entity budget)
left_by t (Serving slot) = Serving t.in_service

-- the exchange would add a block to the overlay, the one thing that takes memory
abbrev pub AddsBlock : Tables → Change → Type 0
AddsBlock t (Sector sector block) = (map.get t.overlay sector ≡ None) × IsSome block
AddsBlock t (RequestSlot slot request) = ⊥
AddsBlock t (BioSlot slot bio) = ⊥
AddsBlock t (Tag tag issue) = ⊥
AddsBlock t (QueueLink slot link) = ⊥
AddsBlock t (OutboxWhole seat outbox) = ⊥
AddsBlock t (SeatEntry seat entry) = ⊥
AddsBlock t (Requeued slot link) = ⊥
AddsBlock t (Mode scheduler frozen served) = ⊥
AddsBlock t (Head seat head) = ⊥
AddsBlock t (TreeMember group entity member) = ⊥
AddsBlock t (Vtime group vtimes) = ⊥
AddsBlock t (GroupEntry entity group) = ⊥
AddsBlock t (Pending entity weight) = ⊥
AddsBlock t (Budget entity budget) = ⊥
AddsBlock t (Serving slot) = ⊥

-- the place is not in the overlay, so that its exchange takes no memory
abbrev pub IsBesideOverlay : Change → Type 0
IsBesideOverlay (Sector sector block) = ⊥
IsBesideOverlay (RequestSlot slot request) = Unit {0}
IsBesideOverlay (BioSlot slot bio) = Unit {0}
IsBesideOverlay (Tag tag issue) = Unit {0}
IsBesideOverlay (QueueLink slot link) = Unit {0}
IsBesideOverlay (OutboxWhole seat outbox) = Unit {0}
IsBesideOverlay (SeatEntry seat entry) = Unit {0}
IsBesideOverlay (Requeued slot link) = Unit {0}
IsBesideOverlay (Mode scheduler frozen served) = Unit {0}
IsBesideOverlay (Head seat head) = Unit {0}
IsBesideOverlay (TreeMember group entity member) = Unit {0}
IsBesideOverlay (Vtime group vtimes) = Unit {0}
IsBesideOverlay (GroupEntry entity group) = Unit {0}
IsBesideOverlay (Pending entity weight) = Unit {0}
IsBesideOverlay (Budget entity budget) = Unit {0}
IsBesideOverlay (Serving slot) = Unit {0}

-- at this sector there is a block already, or none is put there
abbrev pub FitsAt : Blocks → ℕ → Option (List ℕ) → Type 0
FitsAt blocks sector None = Unit {0}
FitsAt blocks sector (Some block) = IsSome (map.get blocks sector)

-- the exchange adds no block
abbrev pub FitsIn : Tables → Change → Type 0
FitsIn t (Sector sector block) = FitsAt t.overlay sector block
FitsIn t (RequestSlot slot request) = Unit {0}
FitsIn t (BioSlot slot bio) = Unit {0}
FitsIn t (Tag tag issue) = Unit {0}
FitsIn t (QueueLink slot link) = Unit {0}
FitsIn t (OutboxWhole seat outbox) = Unit {0}
FitsIn t (SeatEntry seat entry) = Unit {0}
FitsIn t (Requeued slot link) = Unit {0}
FitsIn t (Mode scheduler frozen served) = Unit {0}
FitsIn t (Head seat head) = Unit {0}
FitsIn t (TreeMember group entity member) = Unit {0}
FitsIn t (Vtime group vtimes) = Unit {0}
FitsIn t (GroupEntry entity group) = Unit {0}
FitsIn t (Pending entity weight) = Unit {0}
FitsIn t (Budget entity budget) = Unit {0}
FitsIn t (Serving slot) = Unit {0}

-- all changes of a list in order: the tables after them, and what each leaves
abbrev pub forth_tables : List Change → Tables → Tables
forth_tables [] t = t
forth_tables (c ∷ cs) t = forth_tables cs (after t c)

abbrev pub forth_left : List Change → Tables → List Change
forth_left [] t = []
forth_left (c ∷ cs) t = left_by t c ∷ forth_left cs (after t c)

-- all changes of a list in reverse order: the tables after them, and what each leaves
abbrev pub back_tables : List Change → Tables → Tables
back_tables [] t = t
back_tables (c ∷ cs) t = after (back_tables cs t) c

abbrev pub back_left : List Change → Tables → List Change
back_left [] t = []
back_left (c ∷ cs) t = left_by (back_tables cs t) c ∷ back_left cs t

-- turning the list back adds no block
abbrev pub FitBack : List Change → Tables → Type 0
FitBack [] t = Unit {0}
FitBack (c ∷ cs) t = FitBack cs t × FitsIn (back_tables cs t) c

-- turning the list forth adds no block
abbrev pub FitForth : List Change → Tables → Type 0
FitForth [] t = Unit {0}
FitForth (c ∷ cs) t = FitsIn t c × FitForth cs (after t c)

-- the change takes no block away
abbrev pub IsPut : Change → Type 0
IsPut (Sector sector block) = IsSome block
IsPut (RequestSlot slot request) = Unit {0}
IsPut (BioSlot slot bio) = Unit {0}
IsPut (Tag tag issue) = Unit {0}
IsPut (QueueLink slot link) = Unit {0}
IsPut (OutboxWhole seat outbox) = Unit {0}
IsPut (SeatEntry seat entry) = Unit {0}
IsPut (Requeued slot link) = Unit {0}
IsPut (Mode scheduler frozen served) = Unit {0}
IsPut (Head seat head) = Unit {0}
IsPut (TreeMember group entity member) = Unit {0}
IsPut (Vtime group vtimes) = Unit {0}
IsPut (GroupEntry entity group) = Unit {0}
IsPut (Pending entity weight) = Unit {0}
IsPut (Budget entity budget) = Unit {0}
IsPut (Serving slot) = Unit {0}

abbrev pub ArePuts : List Change → Type 0
ArePuts [] = Unit {0}
ArePuts (c ∷ cs) = IsPut c × ArePuts cs
