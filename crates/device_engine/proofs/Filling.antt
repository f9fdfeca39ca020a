-- A buffer that is filled read by read.
use Rattle.std.proofs.Common.{◌≡◌, ℕ, ◌+◌, ◌<◌, ◌≤◌, List, ◌∷◌, ◌++◌, length, take, drop, take-add, drop-drop, take_at, drop_at, length-take-le, refl, sym, ap, subst, ◌∙◌}
use Rattle.std.specs.Prelude.{None, Some, Result, Ok}
use Rattle.std.proofs.lemmas.List.{take-append-le}
use Rattle.base_image.specs.Image.{Known, Tells, Log, logged}
use Rattle.base_image.specs.declared.image.ImageFault.{ImageFault}
use Rattle.base_image.specs.declared.read.LoggedRead.{LoggedRead}
use Rattle.device_engine.specs.Fill.{GoesOn, IsNext, StopsAt, Made, given}

-- the first bytes of a buffer are the image's bytes from an offset on
abbrev pub IsRead : Known → ℕ → List ℕ → ℕ → Type 0
IsRead None offset buffer at = Unit {0}
IsRead (Some all) offset buffer at = take at buffer ≡ take at (drop offset all)

-- so many more bytes of a part that stands behind those read
read_more : (all front part rest : List ℕ) (offset at n : ℕ)
    → length front ≡ at
    → n ≤ length part
    → front ≡ take at (drop offset all)
    → take n part ≡ take n (drop (offset + at) all)
    → take (at + n) (front ++ (part ++ rest)) ≡ take (at + n) (drop offset all)
read_more all front part rest offset at n long within read more =
    let left = take-add at n (front ++ (part ++ rest)) in
    let right = take-add at n (drop offset all) in
    let begins = take_at front (part ++ rest) at long in
    let goes_on = drop_at front (part ++ rest) at long in
    let part_only = take-append-le n part rest within in
    let further = drop-drop at offset all in
    cc

-- so many more bytes are read, behind those that are
pub read_on : (known : Known) (buffer part rest : List ℕ) (offset at n : ℕ)
    → at ≤ length buffer
    → n ≤ length part
    → IsRead known offset buffer at
    → Tells known (offset + at) part n
    → IsRead known offset (take at buffer ++ (part ++ rest)) (at + n)
read_on None buffer part rest offset at n fits within read more = tt
read_on (Some all) buffer part rest offset at n fits within read more =
    read_more all (take at buffer) part rest offset at n (length-take-le at buffer fits) within read more.0

-- reads went on behind one another, and gave so many bytes
abbrev pub GoesUpto : ℕ → ℕ → ℕ → Log → Type 0
GoesUpto offset bytes at reads = GoesOn offset bytes reads × (given reads ≡ at)

-- the read of what is left is the next
next : (offset bytes at asked : ℕ) (outcome : Result ℕ ImageFault) (reads : Log) → given reads ≡ at → at + asked ≡ bytes → 0 < asked
    → IsNext offset bytes reads (record { offset = offset + at; asked = asked; outcome = outcome })
next offset bytes at asked outcome reads upto all some =
    (ap (λ n. offset + n) (sym upto), ap (λ n. n + asked) upto ∙ all, some)

-- a read of what is left goes on behind those, if it gives some bytes; and else they stop at it
module _ (offset bytes at asked : ℕ) (first before after : Log) where
  pub made_more : (n wide : ℕ) → Made (GoesUpto offset bytes at) first before → after ≡ logged before (offset + at) asked (Ok n)
      → at + asked ≡ bytes → 0 < asked → 0 < n → n ≤ asked → bytes ≡ wide → Made (GoesUpto offset wide (at + n)) first after
  made_more n wide made log all some gives few same =
      let read : LoggedRead = record { offset = offset + at; asked = asked; outcome = Ok n } in
      let P : ℕ → Type 0 = λ b. Made (GoesUpto offset b (at + n)) first after in
      subst P same (
        read ∷ made.0,
        ((next offset bytes at asked (Ok n) made.0 made.1.1 all some, (n, refl, gives, few), made.1.0), ap (λ m. m + n) made.1.1),
        log ∙ ap (λ (l : Log). read ∷ l) made.2,
      )

  pub made_stops : (came outcome : Result ℕ ImageFault) (wide : ℕ) → Made (GoesUpto offset bytes at) first before
      → after ≡ logged before (offset + at) asked came → at + asked ≡ bytes → 0 < asked → came ≡ outcome → bytes ≡ wide
      → Made (StopsAt offset wide outcome) first after
  made_stops came outcome wide made log all some is same =
      let read : LoggedRead = record { offset = offset + at; asked = asked; outcome = came } in
      let P : ℕ → Type 0 = λ b. Made (StopsAt offset b outcome) first after in
      subst P same (
        read ∷ made.0,
        (next offset bytes at asked came made.0 made.1.1 all some, is, made.1.0),
        log ∙ ap (λ (l : Log). read ∷ l) made.2,
      )
