-- Blocks have 512 bytes, and what is read has the bytes of its sectors.
use Rattle.std.proofs.Common.{true, false, Bool, ◌≡◌, ℕ, zero, suc, ◌+◌, ◌*◌, ◌≤◌, List, [], ◌∷◌, length, take, drop, replicate, Option, None, Some, All, cond, unwrap_or, refl, sym, ap, ◌∙◌, subst, arith, eqb-true}
use Rattle.std.specs.Ordering.{nat_cmp, eq_by_cmp}
use Rattle.std.specs.FinMap as blocks
use Rattle.std.specs.Cmp.{nat_cmp_total}
use Rattle.std.proofs.lemmas.List.{length-append, length-drop, length-take, length-replicate}
use Rattle.std.proofs.lemmas.List.Elements.{All-nil, All-cons, All-head, All-tail}
use Rattle.sector_core.specs.declared.bio.BioFields.{BioFields as Bio}
use Rattle.sector_core.specs.declared.bio.Op.{Op}
use Rattle.sector_core.specs.declared.bio.Op.TheVariants.{Fetch, Store, Discard}
use Rattle.sector_core.specs.declared.bio.Outcome.{Outcome}
use Rattle.sector_core.specs.declared.bio.Outcome.TheVariants.{Fetched, Stored, Failed}
use Rattle.sector_core.specs.declared.bio.Effect.{Effect}
use Rattle.sector_core.specs.declared.bio.Effect.TheVariants.{Reads, Writes, Clears, Fails}
use Rattle.plain.specs.Machine.{Blocks}
use Rattle.plain.specs.Steps.Finish.{effect_of, fits, with_blocks, with_stored, with_zeros, with_cleared, after_effect, content, result_of, rest_of_effect, completed}
use Rattle.plain.specs.Requests.{size_of}
use Rattle.plain_laws.proofs.Puts.{some_is}
use Rattle.plain_laws.proofs.Wholes.{size_of-cons}
use Rattle.host_calls.specs.Lengths.{BlocksAreFull, HasPayload, FitsSectors, HasFittingResult}

-- a block more of 512 bytes
full-at : (c : Bool) (block : List ℕ) (o : Option (List ℕ)) (b : List ℕ) → length block ≡ 512 → ((b : List ℕ) → o ≡ Some b → length b ≡ 512)
    → cond c (Some block) o ≡ Some b → length b ≡ 512
full-at true block o b size h e = sym (ap length (some_is block b e)) ∙ size
full-at false block o b size h e = h b e

full-insert : (overlay : Blocks) (sector : ℕ) (block : List ℕ) → length block ≡ 512 → BlocksAreFull overlay → BlocksAreFull (blocks.insert overlay sector block)
full-insert overlay sector block size full s b e =
    full-at (eq_by_cmp nat_cmp s sector) block (blocks.get overlay s) b size (full s) (sym (blocks.get-insert nat_cmp_total overlay sector block s) ∙ e)

with_blocks-full : (count : ℕ) (overlay : Blocks) (sector : ℕ) (bytes : List ℕ) → length bytes ≡ 512 * count → BlocksAreFull overlay → BlocksAreFull (with_blocks overlay sector count bytes)
with_blocks-full zero overlay sector bytes size full = full
with_blocks-full (suc count) overlay sector bytes size full =
    with_blocks-full count (blocks.insert overlay sector (take 512 bytes)) (sector + 1) (drop 512 bytes)
    (omega (arith, size, length-drop 512 bytes))
    (full-insert overlay sector (take 512 bytes) (omega (arith, size, length-take 512 bytes)) full)

with_stored-full : (bios : List Bio) (overlay : Blocks) → BlocksAreFull overlay → All (HasPayload Store) bios → BlocksAreFull (with_stored overlay bios)
with_stored-full [] overlay full all = full
with_stored-full (bio ∷ bios) overlay full all =
    with_stored-full bios (with_blocks overlay bio.range.start bio.range.count bio.payload)
    (with_blocks-full bio.range.count overlay bio.range.start bio.payload (All-head (HasPayload Store) bio bios all).1 full) (All-tail (HasPayload Store) bio bios all)

with_zeros-full : (count : ℕ) (overlay : Blocks) (sector : ℕ) → BlocksAreFull overlay → BlocksAreFull (with_zeros overlay sector count)
with_zeros-full zero overlay sector full = full
with_zeros-full (suc count) overlay sector full =
    with_zeros-full count (blocks.insert overlay sector (replicate 512 0)) (sector + 1) (full-insert overlay sector (replicate 512 0) (length-replicate {A = ℕ} 512 0) full)

with_cleared-full : (bios : List Bio) (overlay : Blocks) → BlocksAreFull overlay → BlocksAreFull (with_cleared overlay bios)
with_cleared-full [] overlay full = full
with_cleared-full (bio ∷ bios) overlay full =
    with_cleared-full bios (with_zeros overlay bio.range.start bio.range.count) (with_zeros-full bio.range.count overlay bio.range.start full)

-- what becomes of the overlay leaves them so
pub blocks-stay : (op : Op) (outcome : Outcome) (overlay : Blocks) (bios : List Bio) → fits op (size_of bios) outcome ≡ true → BlocksAreFull overlay → All (HasPayload op) bios
    → BlocksAreFull (after_effect (effect_of outcome op) overlay bios)
blocks-stay op (Fetched bytes) overlay bios h full all = full
blocks-stay Fetch Stored overlay bios h full all = cc
blocks-stay Store Stored overlay bios h full all = with_stored-full bios overlay full all
blocks-stay Discard Stored overlay bios h full all = with_cleared-full bios overlay full
blocks-stay op (Failed kind) overlay bios h full all = full

-- a sector's content has 512 bytes
one-content : (o : Option (List ℕ)) (base : List ℕ) → ((b : List ℕ) → o ≡ Some b → length b ≡ 512) → length base ≡ 512 → length (unwrap_or o base) ≡ 512
one-content None base h e = e
one-content (Some b) base h e = h b refl

content-length : (count : ℕ) (overlay : Blocks) (sector : ℕ) (base : List ℕ) → BlocksAreFull overlay → 512 * count ≤ length base → length (content overlay sector count base) ≡ 512 * count
content-length zero overlay sector base full h = refl
content-length (suc count) overlay sector base full h =
    let first = unwrap_or (blocks.get overlay sector) (take 512 base) in
    let one : length first ≡ 512 = one-content (blocks.get overlay sector) (take 512 base) (full sector) (omega (arith, h, length-take 512 base)) in
    let others = content-length count overlay (sector + 1) (drop 512 base) full (omega (arith, h, length-drop 512 base)) in
    omega (arith, length-append first (content overlay (sector + 1) count (drop 512 base)), one, others)

-- the effect has bytes for so many sectors
abbrev HasBytes : ℕ → Effect → Type 0
HasBytes count (Reads bytes) = 512 * count ≤ length bytes
HasBytes count Writes = Unit {0}
HasBytes count Clears = Unit {0}
HasBytes count (Fails kind) = Unit {0}

result-fits : (effect : Effect) (overlay : Blocks) (bio : Bio) → BlocksAreFull overlay → HasBytes bio.range.count effect → FitsSectors bio.range.count (Some (result_of effect overlay bio))
result-fits (Reads bytes) overlay bio full h = content-length bio.range.count overlay bio.range.start bytes full h
result-fits Writes overlay bio full h = tt
result-fits Clears overlay bio full h = tt
result-fits (Fails kind) overlay bio full h = tt

front-bytes : (a b : ℕ) (effect : Effect) → HasBytes (a + b) effect → HasBytes a effect
front-bytes a b (Reads bytes) h = omega (arith, h)
front-bytes a b Writes h = tt
front-bytes a b Clears h = tt
front-bytes a b (Fails kind) h = tt

rest-bytes : (a b : ℕ) (effect : Effect) → HasBytes (a + b) effect → HasBytes b (rest_of_effect a effect)
rest-bytes a b (Reads bytes) h = omega (arith, h, length-drop (512 * a) bytes)
rest-bytes a b Writes h = tt
rest-bytes a b Clears h = tt
rest-bytes a b (Fails kind) h = tt

completed-fit : (op : Op) (effect : Effect) (overlay : Blocks) (bios : List Bio) → BlocksAreFull overlay → All (HasPayload op) bios → HasBytes (size_of bios) effect
    → All HasFittingResult (completed effect overlay bios)
completed-fit op effect overlay [] full all h = All-nil HasFittingResult
completed-fit op effect overlay (bio ∷ bios) full all h =
    let has : HasBytes (bio.range.count + size_of bios) effect = subst (λ n. HasBytes n effect) (size_of-cons bio bios) h in
    All-cons HasFittingResult (record bio { result = Some (result_of effect overlay bio) }) (completed (rest_of_effect bio.range.count effect) overlay bios)
    ((All-head (HasPayload op) bio bios all).0, result-fits effect overlay bio full (front-bytes bio.range.count (size_of bios) effect has))
    (completed-fit op (rest_of_effect bio.range.count effect) overlay bios full (All-tail (HasPayload op) bio bios all) (rest-bytes bio.range.count (size_of bios) effect has))

fitted-bytes : (op : Op) (size : ℕ) (outcome : Outcome) → fits op size outcome ≡ true → HasBytes size (effect_of outcome op)
fitted-bytes Fetch size (Fetched bytes) h = let e = eqb-true (length bytes) (512 * size) h in omega (arith, e)
fitted-bytes Fetch size Stored h = tt
fitted-bytes Fetch size (Failed kind) h = tt
fitted-bytes Store size (Fetched bytes) h = cc
fitted-bytes Store size Stored h = tt
fitted-bytes Store size (Failed kind) h = tt
fitted-bytes Discard size (Fetched bytes) h = cc
fitted-bytes Discard size Stored h = tt
fitted-bytes Discard size (Failed kind) h = tt

-- each bio that is completed has a result for its sectors
pub results-fit : (op : Op) (outcome : Outcome) (overlay : Blocks) (bios : List Bio) → fits op (size_of bios) outcome ≡ true → BlocksAreFull overlay → All (HasPayload op) bios
    → All HasFittingResult (completed (effect_of outcome op) overlay bios)
results-fit op outcome overlay bios h full all = completed-fit op (effect_of outcome op) overlay bios full all (fitted-bytes op (size_of bios) outcome h)
