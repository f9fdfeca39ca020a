-- Pages of eight sectors, and the map from sectors to blocks that they are (our profile).
use Rattle.std.specs.Prelude.{◌≡◌, ℕ, zero, suc, ◌+◌, ◌*◌, ◌^◌, ◌<◌, ◌==◌, ◌&&◌, true, cond, is_some, length, List, [], ◌∷◌, Option, None, Bool, IsSome, slice_index_or}
use Rattle.std.specs.Option.{option_map_or}
use Rattle.std.specs.Ordering.{nat_cmp}
use Rattle.std.specs.Map.{lookup}
use Rattle.std.specs.BTreeMap.{is_at}
use Rattle.std.specs.FinMap as map
use Rattle.plain.specs.Machine.{Blocks}
use Rattle.overlay.specs.Blocks.{exchanged}

-- what stands at each place of a page
abbrev pub Places : Type 0
Places = List (Option (List ℕ))

-- the mask: a number whose binary digits say which places have a block, the first place the lowest digit
unfoldable pub mask_of : Places → ℕ
mask_of [] = 0
mask_of (place ∷ places) = cond (is_some place) 1 0 + 2 * mask_of places

-- some place has a block
abbrev pub HasBlock : Places → Type 0
HasBlock places = (k : ℕ) × IsSome (slice_index_or places k None)

-- no place has one
abbrev pub HasNone : Places → Type 0
HasNone places = (k : ℕ) → slice_index_or places k None ≡ None

-- a page: eight places, the mask of just those that have a block, and it is not empty
pub record IsPage (mask : ℕ) (places : Places) : Type 0 where
  pub eight : length places ≡ 8
  pub masked : mask ≡ mask_of places
  pub stored : HasBlock places

-- pages by their numbers
abbrev pub Pages : Type 0
Pages = List (ℕ × Places)

-- whether there is a page with this number
abbrev pub has_page : Pages → ℕ → Bool
has_page pages number = is_some (lookup (is_at (nat_cmp number)) pages)

-- each page is one of sectors that there can be: the greatest page has the sectors up to 2 ^ 64 - 1
abbrev pub IsNumbered : Pages → Type 0
IsNumbered pages = (number : ℕ) → has_page pages number ≡ true → number < 2 ^ 61

-- what stands at a place of a page
abbrev pub stands : Pages → ℕ → ℕ → Option (List ℕ)
stands pages number place = option_map_or (λ places. slice_index_or places place None) (lookup (is_at (nat_cmp number)) pages) None

-- the pages with this at a place of one of them, and else as they were
abbrev pub Puts : Pages → Pages → ℕ → ℕ → Option (List ℕ) → Type 0
Puts old new number place block = (m k : ℕ) → stands new m k ≡ cond ((m == number) && (k == place)) block (stands old m k)

-- the map with the first `count` places of a page from sector `base` on
abbrev pub with_places : ℕ → ℕ → Places → Blocks → Blocks
with_places zero base places blocks = blocks
with_places (suc count) base places blocks = exchanged (with_places count base places blocks) (base + count) (slice_index_or places count None)

-- the map that some pages are: page `n` has the eight sectors from `8 * n` on
abbrev pub blocks_of : Pages → Blocks
blocks_of [] = map.empty
blocks_of (page ∷ pages) = with_places 8 (page.0 * 8) page.1 (blocks_of pages)
