-- What lines print over payloads.
use Rattle.std.proofs.Common.{◌≡◌, ℕ, false, cond, List, refl, ap, subst, true≢false, ◌*◌, take, drop}
use Rattle.std.specs.Prelude.{Option, None, Some}
use Rattle.plain.specs.Keeper.{State}
use Rattle.base_image.specs.Image.{Disk}
use Rattle.script_line.specs.Script.{IsStrange}
use Rattle.script_line.specs.declared.line.Line.{Line}
use Rattle.script_line.specs.declared.line.Line.TheVariants.{WriteFrom, Finish, Work, Sector, Queue, Cursor, Vtime, ClassVtime, Entity, Class, Show}
use Rattle.host_console.specs.Payload.{brought, bytes_from, reaches, runs_over, size_of, takes_bytes}
use Rattle.host_console.specs.Printed.{Desk, Prints, Looks, AnswersOver, write_if}

-- a keeper and an image over a payload
abbrev over : State → Disk → Option (List ℕ) → Desk
over k disk payload = record { keeper = k; disk = disk; payload = payload }

-- what a write from the payload may print, by the bytes that it takes
abbrev PrintsBytes : Desk → Line → ℕ → ℕ → ℕ → ℕ → List ℕ → Desk → Option (List ℕ) → Type 0
PrintsBytes before line s n a c text after bytes = elim (write_if s n a c bytes) [ None ↦ Looks before line text after | Some made ↦ AnswersOver before made text after ]

pub other_payload : (k : State) (disk : Disk) (one other : Option (List ℕ)) (line : Line) (text : List ℕ) (after : Desk) → takes_bytes line ≡ false
    → Prints (over k disk one) line text after → Prints (over k disk other) line text (over after.keeper after.disk other)
other_payload k disk one other (WriteFrom s n a c f) text after none h = absurd (true≢false none)
other_payload k disk one other (Finish t i e) text after none h = (h.0, h.1, refl)
other_payload k disk one other (Work t i) text after none h = (h.0, h.1, h.2, refl)
other_payload k disk one other (Sector number) text after none h = (ap (λ d. over d.keeper d.disk other) h.0, h.1)
other_payload k disk one other (Queue seat) text after none h = (ap (λ d. over d.keeper d.disk other) h.0, h.1)
other_payload k disk one other Cursor text after none h = (ap (λ d. over d.keeper d.disk other) h.0, h.1)
other_payload k disk one other (Vtime group) text after none h = (ap (λ d. over d.keeper d.disk other) h.0, h.1)
other_payload k disk one other (ClassVtime group named) text after none h = (ap (λ d. over d.keeper d.disk other) h.0, h.1)
other_payload k disk one other (Entity number) text after none h = (ap (λ d. over d.keeper d.disk other) h.0, h.1)
other_payload k disk one other (Class number) text after none h = (ap (λ d. over d.keeper d.disk other) h.0, h.1)
other_payload k disk one other (Show look) text after none h = (ap (λ d. over d.keeper d.disk other) h.0, h.1)
other_payload k disk one other _ text after none h = (h.0, h.1, refl)

same_bytes : (before after : Desk) (s n a c f : ℕ) (text : List ℕ) (bytes : Option (List ℕ))
    → PrintsBytes before (WriteFrom s n a c f) s n a c text after bytes → after.payload ≡ before.payload
same_bytes before after s n a c f text None h = absurd h.1
same_bytes before after s n a c f text (Some bytes) h = h.2

pub same_payload : (before after : Desk) (line : Line) (text : List ℕ) → Prints before line text after → after.payload ≡ before.payload
same_payload before after (WriteFrom s n a c f) text h = same_bytes before after s n a c f text (bytes_from before.payload f c) h
same_payload before after (Finish t i e) text h = h.2
same_payload before after (Work t i) text h = h.3
same_payload before after (Sector number) text h = ap (λ d. d.payload) h.0
same_payload before after (Queue seat) text h = ap (λ d. d.payload) h.0
same_payload before after Cursor text h = ap (λ d. d.payload) h.0
same_payload before after (Vtime group) text h = ap (λ d. d.payload) h.0
same_payload before after (ClassVtime group named) text h = ap (λ d. d.payload) h.0
same_payload before after (Entity number) text h = ap (λ d. d.payload) h.0
same_payload before after (Class number) text h = ap (λ d. d.payload) h.0
same_payload before after (Show look) text h = ap (λ d. d.payload) h.0
same_payload before after _ text h = h.2

-- where the payload does not reach there are no bytes
none_there : (payload : Option (List ℕ)) (from count : ℕ) → reaches (size_of payload) from count ≡ false → bytes_from payload from count ≡ None
none_there None from count h = refl
none_there (Some payload) from count h = ap (λ b. cond b (Some (take (512 * brought count) (drop (512 * from) payload))) None) h

pub bad_of_length : (before : Desk) (line : Line) → runs_over (size_of before.payload) line ≡ false → IsStrange Prints before line
bad_of_length before (WriteFrom s n a c f) none text after h =
    let left : Looks before (WriteFrom s n a c f) text after =
    subst (PrintsBytes before (WriteFrom s n a c f) s n a c text after) (none_there before.payload f c none) h in
    left.1
bad_of_length before _ none text after h = true≢false none
