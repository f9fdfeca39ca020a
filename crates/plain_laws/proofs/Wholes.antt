-- Every step leaves every request with 1 to 32 adjacent bios and at most 256 sectors.
use Rattle.std.proofs.Common.{true, false, Bool, ◌≡◌, ℕ, ◌+◌, ◌<◌, ◌≤◌, List, [], ◌∷◌, ◌++◌, length, map, refl, sym, ◌∙◌, subst, arith, eqb-true}
use Rattle.std.proofs.lemmas.List.{length_push}
use Rattle.std.proofs.lemmas.List.Elements.{All-nil, All-cons, All-append}
use Rattle.std.proofs.lemmas.List.Sums.{sum_by-cons}
use Rattle.sector_core.specs.declared.bio.BioFields.{BioFields as Bio}
use Rattle.sector_core.specs.declared.bio.Op.{Op}
use Rattle.plain.specs.Merge.{shape_of, joins_at}
use Rattle.plain.specs.Machine.{WholeRequest, Plain}
use Rattle.plain.specs.declared.call.Call.{Call}
use Rattle.plain.specs.Opening.{Limits, opening}
use Rattle.plain.specs.Requests.{shape, size_of, range_of}
use Rattle.plain.specs.Steps.Submit.{merge_in, new_bio, with_bio, queue_with}
use Rattle.plain_laws.specs.Requests.{EachRequest}
use Rattle.plain_laws.specs.Whole.{AreInOrder, HasSectors, IsWhole, AreWhole, KeepsWhole, RequestsAreWhole}
use Rattle.plain_laws.proofs.Joins.{All-queue_with, joined_is}
use Rattle.plain_laws.proofs.Leads.{Leads, step-leads}
use Rattle.plain_laws.proofs.Moves.{Moves, moves-lead}
use Rattle.plain_laws.proofs.Stamps.{machine-leads}
use Rattle.plain_laws.proofs.Each.{each-queued, each-sent, each-resent, each-given_back, each-landed}

-- a list of bios has the sectors of its first and of the rest
pub size_of-cons : (bio : Bio) (bios : List Bio) → size_of (bio ∷ bios) ≡ bio.range.count + size_of bios
size_of-cons bio bios = omega (arith, sum_by-cons (λ n. n) bio.range.count (map (λ b. b.range.count) bios))

-- and with one more at its end, the sectors of both
size_of-push : (bios : List Bio) (bio : Bio) → size_of (bios ++ bio ∷ []) ≡ size_of bios + bio.range.count
size_of-push [] bio = omega arith
size_of-push (b ∷ bios) bio = omega (arith, size_of-cons b bios, size_of-cons b (bios ++ bio ∷ []), size_of-push bios bio)

-- bios in order stay so with one more at the end, from where they end
AreInOrder-push : (start : ℕ) (bios : List Bio) (bio : Bio) → AreInOrder start bios → start + size_of bios ≡ bio.range.start → AreInOrder start (bios ++ bio ∷ [])
AreInOrder-push start [] bio h e = (omega (arith, e), tt)
AreInOrder-push start (b ∷ bios) bio h e =
    (h.0, AreInOrder-push (start + b.range.count) bios bio h.1 (omega (arith, e, size_of-cons b bios)))

-- what a merge asks of a request is where its range starts
start_of_shape : (session : ℕ) (op : Op) (bios : List Bio) → (shape_of session op bios).start ≡ (range_of bios).start
start_of_shape session op [] = refl
start_of_shape session op (bio ∷ bios) = refl

-- one more bio at the end does not move the start
start-push : (bios : List Bio) (bio : Bio) → 1 ≤ length bios → (range_of (bios ++ bio ∷ [])).start ≡ (range_of bios).start
start-push [] bio h = absurd (omega (arith, h))
start-push (b ∷ bios) bio h = refl

-- a new request is whole: one bio of 1 to 64 sectors
IsWhole-new : (session : ℕ) (op : Op) (bio : Bio) → HasSectors bio → IsWhole (record { session = session; op = op; bios = bio ∷ [] })
IsWhole-new session op bio has = record {
  some_bios = omega arith;
  few_bios = omega arith;
  few_sectors = let few = has.1 in omega (arith, few);
  each = All-cons HasSectors bio [] has (All-nil HasSectors);
  in_order = (refl, tt);
}

-- a request that a bio joins stays whole
IsWhole-joined : (session : ℕ) (op : Op) (bio : Bio) → HasSectors bio → (front : Bool) (r : WholeRequest) → joins_at shape front session op bio.range r ≡ true → IsWhole r → IsWhole (with_bio front bio r)
IsWhole-joined session op bio has true r joined h =
    let j = joined_is true session op bio.range r joined in
    let at : bio.range.start + bio.range.count ≡ (shape_of r.session r.op r.bios).start = eqb-true (bio.range.start + bio.range.count) (shape_of r.session r.op r.bios).start j.3 in
    let next : (range_of r.bios).start ≡ bio.range.start + bio.range.count = sym (at ∙ start_of_shape r.session r.op r.bios) in
    let few : length r.bios < 32 = j.2 in
    let sectors : size_of r.bios + bio.range.count ≤ 256 = j.1 in
    record {
      some_bios = omega arith;
      few_bios = omega (arith, few);
      few_sectors = omega (arith, sectors, size_of-cons bio r.bios);
      each = All-cons HasSectors bio r.bios has h.each;
      in_order = (refl, subst (λ s. AreInOrder s r.bios) next h.in_order);
    }
IsWhole-joined session op bio has false r joined h =
    let j = joined_is false session op bio.range r joined in
    let at : (shape_of r.session r.op r.bios).start + size_of r.bios ≡ bio.range.start = eqb-true ((shape_of r.session r.op r.bios).start + size_of r.bios) bio.range.start j.3 in
    let first : (shape_of r.session r.op r.bios).start ≡ (range_of r.bios).start = start_of_shape r.session r.op r.bios in
    let ends : (range_of r.bios).start + size_of r.bios ≡ bio.range.start = omega (arith, at, first) in
    let same : (range_of r.bios).start ≡ (range_of (r.bios ++ bio ∷ [])).start = sym (start-push r.bios bio h.some_bios) in
    let few : length r.bios < 32 = j.2 in
    let sectors : size_of r.bios + bio.range.count ≤ 256 = j.1 in
    record {
      some_bios = omega (arith, length_push r.bios bio);
      few_bios = omega (arith, few, length_push r.bios bio);
      few_sectors = omega (arith, sectors, size_of-push r.bios bio);
      each = All-append HasSectors r.bios (bio ∷ []) h.each (All-cons HasSectors bio [] has (All-nil HasSectors));
      in_order = subst (λ s. AreInOrder s (r.bios ++ bio ∷ [])) same (AreInOrder-push (range_of r.bios).start r.bios bio h.in_order ends);
    }

whole-moves : (l : Limits) → Moves l (λ n m. EachRequest IsWhole m)
whole-moves l = record {
  later = λ n n' m le h. h;
  attaches = λ n m seat s small free fresh h. h;
  submits = λ n m seat session op range payload small its sized h.
      let bio : Bio = new_bio n range payload in
      let has : HasSectors bio = (sized.some_sectors, sized.few_sectors) in
      each-queued IsWhole m seat (queue_with session op bio (merge_in m seat session op range) (m.queue seat))
      (All-queue_with IsWhole session op bio (merge_in m seat session op range) (m.queue seat) (IsWhole-new session op bio has) (IsWhole-joined session op bio has) (h.0 seat)) h;
  changes = λ n m seat f stays h. h;
  reaps = λ n m seat bio bios is h. h;
  drops = λ n m seat h. h;
  frees = λ n m seat gone h. h;
  sends = λ n i m seat tag r rest is low free h. each-sent IsWhole m i seat tag r rest is h;
  resends = λ n i m tag r rest is low free h. each-resent IsWhole m i tag r rest is h;
  gives_back = λ n m tag f low is h. each-given_back IsWhole m tag f is h;
  lands = λ n m tag f outcome low is fit h. each-landed IsWhole m tag h;
  delivers = λ n m tag f outcome seat low is fit small its h. each-landed IsWhole m tag h;
  rests = λ n m frozen served head b scheduler h. h;
}

-- every accepted step leaves the requests whole
pub whole-leads : (l : Limits) → Leads l (λ n m. EachRequest IsWhole m)
whole-leads l = moves-lead l (λ n m. EachRequest IsWhole m) (whole-moves l)

-- before the first step no request is queued, in the dispatch list or in flight
pub whole-opening : (l : Limits) → EachRequest IsWhole (opening l)
whole-opening l = (λ seat. All-nil IsWhole, All-nil IsWhole, λ tag f e. cc)

pub all-whole : (m : Plain) → EachRequest IsWhole m → AreWhole m
all-whole m h = record { queued = h.0; requeued = h.1; flying = h.2 }

-- so does every step
pub step-whole : (l : Limits) (m : Plain) → KeepsWhole l m
step-whole l m n room s h = all-whole _ (step-leads l (λ n m. EachRequest IsWhole m) (whole-leads l) m n room s (h.queued, h.requeued, h.flying))

-- so every keeper's machine has whole requests
pub requests-whole : (l : Limits) (most : ℕ) (journal : List Call) → RequestsAreWhole l most journal
requests-whole l most journal = all-whole _ (machine-leads l most journal (λ n m. EachRequest IsWhole m) (whole-leads l) (whole-opening l))
