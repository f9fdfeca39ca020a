-- The orders of a group's members over one table of rows, and what joins them to the list of members.
use Rattle.std.specs.Prelude.{◌≡◌, ℕ, ◌+◌, ◌^◌, ◌<◌, List, [], ◌∷◌, length, Option, Some, None, slice_index_or}
use Rattle.augmented_tree.specs.declared.row.Figures.{Figures}
use Rattle.augmented_tree.specs.declared.row.Row.{Row}
use Rattle.augmented_tree.specs.Rows.{height_at}
use Rattle.augmented_tree.specs.Tables.{insert_rows, remove_rows}
use Rattle.augmented_tree.specs.Trees.{Entry, root_of, tally, IsHeld, IsBalanced, IsOrdered, tree_in}
use Rattle.plain.specs.declared.member.State.{State}
use Rattle.plain.specs.declared.member.State.TheVariants.{Idle, Active, Serving}
use Rattle.plain.specs.declared.member.Member.{Member}
use Rattle.service_tree.specs.declared.order.Orders.{Orders}

-- one order: the rows, and the link of its top (our profile)
pub record Order : Type 0 where
  pub rows : List Row
  pub root : Option ℕ

-- the order of the active members (BFQ: the active tree)
abbrev pub active_order : Orders → Order
active_order t = record { rows = t.rows; root = t.active }

-- the order of the idle members (BFQ: the idle tree)
abbrev pub idle_order : Orders → Order
idle_order t = record { rows = t.rows; root = t.idle }

-- a member is inserted (AVL tree)
abbrev pub inserted : Order → ℕ → Figures → Order
inserted o n f = record {
  rows = (insert_rows (height_at o.rows o.root) o.rows o.root n f).0;
  root = Some (insert_rows (height_at o.rows o.root) o.rows o.root n f).1;
}

-- a member is removed (AVL tree)
abbrev pub removed : Order → ℕ → ℕ → Order
removed o n key = record {
  rows = (remove_rows (height_at o.rows o.root) o.rows o.root n key).0;
  root = (remove_rows (height_at o.rows o.root) o.rows o.root n key).1;
}

-- a member goes out of an order, if it stands there (our profile)
abbrev pub left_out : Order → ℕ → Option Figures → Order
left_out o n None = o
left_out o n (Some f) = removed o n f.key

-- a member goes into an order, if it belongs there (our profile)
abbrev pub brought_in : Order → ℕ → Option Figures → Order
brought_in o n None = o
brought_in o n (Some f) = inserted o n f

-- the active order has become another one (our profile)
abbrev pub with_active : Orders → Order → Orders
with_active t o = record { rows = o.rows; active = o.root; idle = t.idle }

-- the idle order has become another one (our profile)
abbrev pub with_idle : Orders → Order → Orders
with_idle t o = record { rows = o.rows; active = t.active; idle = o.root }

-- in this state a member is in the active order, by its start (B-WF2Q+)
abbrev pub if_active : State → Member → Option Figures
if_active Idle m = None
if_active Active m = Some (record { key = m.start; finish = m.finish; weight = m.weight })
if_active Serving m = None

-- in this state a member is in the idle order, by its finish (B-WF2Q+)
abbrev pub if_idle : State → Member → Option Figures
if_idle Idle m = Some (record { key = m.finish; finish = m.finish; weight = m.weight })
if_idle Active m = None
if_idle Serving m = None

-- in this state a member is in no order, and its weight is kept beside them (BFQ: the entity in service)
abbrev pub if_serving : State → Member → ℕ
if_serving Idle m = 0
if_serving Active m = 0
if_serving Serving m = m.weight

-- what the active order knows of a member (our profile)
abbrev pub active_of : Option Member → Option Figures
active_of None = None
active_of (Some m) = if_active m.state m

-- what the idle order knows of a member (our profile)
abbrev pub idle_of : Option Member → Option Figures
idle_of None = None
idle_of (Some m) = if_idle m.state m

-- the weight of a member in service (our profile)
abbrev pub serving_of : Option Member → ℕ
serving_of None = 0
serving_of (Some m) = if_serving m.state m

-- what a member adds to a sum over an order
abbrev pub share : (Entry → ℕ) → ℕ → Option Figures → ℕ
share f n None = 0
share f n (Some g) = f (n, g)

-- the sum of a number over the members that belong into an order; the first place has the number `base`
abbrev pub counted : (Option Member → Option Figures) → (Entry → ℕ) → ℕ → List (Option Member) → ℕ
counted by f base [] = 0
counted by f base (x ∷ xs) = share f base (by x) + counted by f (base + 1) xs

-- the sum of the weights of the members in service (B-WF2Q+)
abbrev pub served : List (Option Member) → ℕ
served [] = 0
served (x ∷ xs) = serving_of x + served xs

-- the active order without a member (our profile)
abbrev pub without_active : Orders → ℕ → Option Member → Orders
without_active t n m = with_active t (left_out (active_order t) n (active_of m))

-- the idle order without a member (our profile)
abbrev pub without_idle : Orders → ℕ → Option Member → Orders
without_idle t n m = with_idle t (left_out (idle_order t) n (idle_of m))

-- the orders without a member (our profile)
abbrev pub without_member : Orders → ℕ → Option Member → Orders
without_member t n m = without_idle (without_active t n m) n m

-- the active order with a member, if it is active (our profile)
abbrev pub also_active : Orders → ℕ → Option Member → Orders
also_active t n m = with_active t (brought_in (active_order t) n (active_of m))

-- the idle order with a member, if it is idle (our profile)
abbrev pub also_idle : Orders → ℕ → Option Member → Orders
also_idle t n m = with_idle t (brought_in (idle_order t) n (idle_of m))

-- the orders with a member (our profile)
abbrev pub with_member : Orders → ℕ → Option Member → Orders
with_member t n m = also_idle (also_active t n m) n m

-- a member leaves the orders, and another one comes in its place (our profile)
abbrev pub exchanged : Orders → ℕ → Option Member → Option Member → Orders
exchanged t n old new = with_member (without_member t n old) n new

-- the order is a balanced search tree of just these members: each row has the least and the sum of its subtree (AVL tree, augmented)
pub record IsRanked (by : Option Member → Option Figures) (members : List (Option Member)) (o : Order) : Type 0 where
  pub root_is : o.root ≡ root_of (tree_in o.rows o.root)
  pub held : IsHeld o.rows (tree_in o.rows o.root)
  pub balanced : IsBalanced (tree_in o.rows o.root)
  pub ordered : IsOrdered (tree_in o.rows o.root)
  pub counts : (f : Entry → ℕ) → tally f (tree_in o.rows o.root) ≡ counted by f 0 members
  pub places : length o.rows ≡ 48

-- each member stands where its state asks for it, and the weights of those in service are summed up (BFQ: its service trees)
pub record IsService (members : List (Option Member)) (orders : Orders) (serving : ℕ) : Type 0 where
  pub active : IsRanked active_of members (active_order orders)
  pub idle : IsRanked idle_of members (idle_order orders)
  pub serving_is : serving ≡ served members
  pub light : (i : ℕ) (m : Member) → slice_index_or members i None ≡ Some m → m.weight < 2 ^ 32
  pub places : length members ≡ 48
