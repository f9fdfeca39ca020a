-- The sectors of a range, one by one: what is read of them, and what is stored into them.
use Rattle.std.proofs.Common.{◌≡◌, ℕ, zero, suc, ◌+◌, ◌-◌, ◌*◌, ◌<◌, ◌≤◌, List, ◌++◌, min, take, drop, replicate, length, refl, sym, ap, ◌∙◌, arith, append_assoc, append-nil}
use Rattle.std.specs.Prelude.{unwrap_or}
use Rattle.std.proofs.Math.Seq.{take-add}
use Rattle.std.proofs.lemmas.List.{take_min, drop_min}
use Rattle.plain.specs.Runs.{IsFree}
use Rattle.std.specs.FinMap as blocks
use Rattle.dispatch_core.proofs.Words.{Blocks, Tables, content, with_blocks, with_zeros}

-- one sector more is to come
one_more : (sector end : ℕ) → sector < end → end - sector ≡ suc (end - (sector + 1))
one_more sector end h = omega arith

-- no sector is to come
none_more : (sector end : ℕ) → end ≤ sector → end - sector ≡ 0
none_more sector end h = omega arith

-- all sectors are to come
pub all_more : (start count end : ℕ) → end ≡ start + count → end - start ≡ count
all_more start count end e = omega arith

-- the content of the first sector comes first
pub content-more : (overlay : Blocks) (found now rest others all : List ℕ) (sector end : ℕ) → sector < end
    → now ≡ found ++ unwrap_or (blocks.get overlay sector) (take 512 rest) → others ≡ drop 512 rest
    → found ++ content overlay sector (end - sector) rest ≡ all → now ++ content overlay (sector + 1) (end - (sector + 1)) others ≡ all
content-more overlay found now rest others all sector end h e f whole =
    let first = unwrap_or (blocks.get overlay sector) (take 512 rest) in
    ap (λ l. l ++ content overlay (sector + 1) (end - (sector + 1)) others) e
    ∙ ap (λ l. (found ++ first) ++ content overlay (sector + 1) (end - (sector + 1)) l) f
    ∙ append_assoc found first (content overlay (sector + 1) (end - (sector + 1)) (drop 512 rest))
    ∙ ap (λ n. found ++ content overlay sector n rest) (sym (one_more sector end h))
    ∙ whole

-- and with no sector to come all has been found
pub content-none : (overlay : Blocks) (found rest all : List ℕ) (sector end : ℕ) → end ≤ sector → found ++ content overlay sector (end - sector) rest ≡ all → found ≡ all
content-none overlay found rest all sector end h whole =
    sym (append-nil found) ∙ ap (λ n. found ++ content overlay sector n rest) (sym (none_more sector end h)) ∙ whole

-- where no sector has a block, the content is the base's
pub content-free : (overlay : Blocks) (sector count : ℕ) (base : List ℕ) → ((k : ℕ) → sector ≤ k → k < sector + count → IsFree overlay k)
    → take (512 * count) base ≡ content overlay sector count base
content-free overlay sector zero base free = refl
content-free overlay sector (suc count) base free =
    ap (λ n. take n base) (let e : 512 * suc count ≡ 512 + 512 * count = omega arith in e)
    ∙ take-add 512 (512 * count) base
    ∙ ap (λ l. take 512 base ++ l) (content-free overlay (sector + 1) count (drop 512 base) (λ k from to. free k (omega (arith, from)) (omega (arith, to))))
    ∙ ap (λ o. unwrap_or o (take 512 base) ++ content overlay (sector + 1) count (drop 512 base)) (sym (free sector (omega arith) (omega arith)))

-- the first block is put first
pub with_blocks-more : (overlay now : Blocks) (block rest others : List ℕ) (sector end : ℕ) (all : Blocks) → sector < end
    → block ≡ take 512 rest → others ≡ drop 512 rest → now ≡ blocks.insert overlay sector block
    → with_blocks overlay sector (end - sector) rest ≡ all → with_blocks now (sector + 1) (end - (sector + 1)) others ≡ all
with_blocks-more overlay now block rest others sector end all h e f g whole =
    ap (λ o. with_blocks o (sector + 1) (end - (sector + 1)) others) (g ∙ ap (blocks.insert overlay sector) e)
    ∙ ap (λ l. with_blocks (blocks.insert overlay sector (take 512 rest)) (sector + 1) (end - (sector + 1)) l) f
    ∙ ap (λ n. with_blocks overlay sector n rest) (sym (one_more sector end h))
    ∙ whole

-- and the first block of zeros
pub with_zeros-more : (overlay now : Blocks) (block : List ℕ) (sector end : ℕ) (all : Blocks) → sector < end
    → block ≡ replicate 512 0 → now ≡ blocks.insert overlay sector block
    → with_zeros overlay sector (end - sector) ≡ all → with_zeros now (sector + 1) (end - (sector + 1)) ≡ all
with_zeros-more overlay now block sector end all h e g whole =
    ap (λ o. with_zeros o (sector + 1) (end - (sector + 1))) (g ∙ ap (blocks.insert overlay sector) e)
    ∙ ap (λ n. with_zeros overlay sector n) (sym (one_more sector end h))
    ∙ whole

-- the first 512 bytes, where there are as many
pub first_bytes : (rest : List ℕ) (cut : ℕ) → cut ≡ min (length rest) 512 → take cut rest ≡ take 512 rest
first_bytes rest cut e = let f : cut ≡ min 512 (length rest) = omega arith in ap (λ n. take n rest) f ∙ take_min 512 rest

-- and the bytes after them
pub other_bytes : (rest : List ℕ) (cut : ℕ) → cut ≡ min (length rest) 512 → drop cut rest ≡ drop 512 rest
other_bytes rest cut e = let f : cut ≡ min 512 (length rest) = omega arith in ap (λ n. drop n rest) f ∙ drop_min 512 rest

-- only the overlay has changed
pub only_overlay : (t u v : Tables) (overlay : Blocks) → u ≡ record t { overlay = u.overlay } → v ≡ record u { overlay = overlay } → v ≡ record t { overlay = v.overlay }
only_overlay t u v overlay e f =
    f ∙ ap (λ (w : Tables). record w { overlay = overlay }) e ∙ ap (λ o. record t { overlay = o }) (sym (ap (λ (w : Tables). w.overlay) f))
