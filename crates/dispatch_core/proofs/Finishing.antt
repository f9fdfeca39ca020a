-- A request that the device has finished is ready to be completed.
use Rattle.std.proofs.Common.{◌≡◌, ℕ, ◌*◌, length, Option, Some, true, nat_eq, subst, arith}
use Rattle.std.proofs.lemmas.Bool.Decides.{nat_tests}
use Rattle.dispatch_core.proofs.Words.{Op, Bio, Outcome, Request, Seat, Tables, Limits, effect_of, fits, payload_length, WellFormed, total_count}
use Rattle.sector_core.specs.declared.bio.Op.TheVariants.{Fetch, Store, Discard}
use Rattle.sector_core.specs.declared.bio.Outcome.TheVariants.{Fetched, Stored, Failed}
use Rattle.dispatch_core.specs.Ready.{IsReady, HasBytes, HasPayload}
use Rattle.dispatch_core.proofs.Sides.{CanFinish}
use Rattle.dispatch_core.proofs.Finishes.{distinct}
use Rattle.dispatch_core.proofs.Sectors.{request_taken}

equal_numbers : (a b : ℕ) → nat_eq a b ≡ true → a ≡ b
equal_numbers a b e = grind (arith, nat_tests)

-- the bytes of a fetch are there
bytes_there : (op : Op) (size : ℕ) (outcome : Outcome) → fits op size outcome ≡ true → HasBytes size (effect_of outcome op)
bytes_there Fetch size (Fetched bytes) e = let h = equal_numbers (length bytes) (512 * size) e in omega arith
bytes_there Fetch size Stored e = tt
bytes_there Fetch size (Failed kind) e = tt
bytes_there Store size (Fetched bytes) e = cc
bytes_there Store size Stored e = tt
bytes_there Store size (Failed kind) e = tt
bytes_there Discard size (Fetched bytes) e = cc
bytes_there Discard size Stored e = tt
bytes_there Discard size (Failed kind) e = tt

-- the bytes of a store are there
payload_there : (op : Op) (size : ℕ) (outcome : Outcome) (bio : Bio) → fits op size outcome ≡ true → length bio.payload ≡ payload_length op bio.range.count → HasPayload (effect_of outcome op) bio
payload_there op size (Fetched bytes) bio e h = tt
payload_there op size (Failed kind) bio e h = tt
payload_there Fetch size Stored bio e h = cc
payload_there Store size Stored bio e h = omega arith
payload_there Discard size Stored bio e h = tt

same_bio : (o : Option Bio) (a b : Bio) → o ≡ Some a → o ≡ Some b → a ≡ b
same_bio o a b e f = cc

pub request_ready : (l : Limits) (n : ℕ) (t : Tables) (tag issue slot seat : ℕ) (entry : Seat) (request : Request) (outcome : Outcome) → WellFormed l n t → CanFinish t tag issue slot seat entry request
    → fits request.op (total_count t.bios request.bios.items) outcome ≡ true → IsReady t.bios request.bios.items (effect_of outcome request.op)
request_ready l n t tag issue slot seat entry request outcome w can good = record {
  distinct = distinct l n t tag issue slot seat entry request w can;
  taken = request_taken l n t slot request w can.here;
  ranges = λ place bio here. let b = w.kept.bio place bio here in omega (arith, b.within, w.sized.small_image);
  small = λ place bio here. (w.kept.bio place bio here).few_sectors;
  payloads = λ k d lt bio here.
      let waits = (w.kept.request slot request can.here).bios k d lt in
      let P : Bio → Type 0 = λ b. HasPayload (effect_of outcome request.op) b in
      subst P (same_bio _ waits.bio bio waits.here here) (payload_there request.op (total_count t.bios request.bios.items) outcome waits.bio good waits.payload);
  bytes = bytes_there request.op (total_count t.bios request.bios.items) outcome good;
}
