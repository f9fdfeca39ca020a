-- Every step leaves blocks, payloads and results with the bytes of their sectors.
use Rattle.std.proofs.Common.{true, ◌≡◌, ℕ, List, [], ◌∷◌, ◌++◌, None, All, refl, sym, subst}
use Rattle.std.specs.FinMap as blocks
use Rattle.std.proofs.lemmas.List.Elements.{All-nil, All-cons, All-append, All-same, All-tail}
use Rattle.sector_core.specs.declared.bio.BioFields.{BioFields as Bio}
use Rattle.sector_core.specs.declared.bio.Op.{Op}
use Rattle.sector_core.specs.declared.bio.Op.TheVariants.{Fetch, Store, Discard}
use Rattle.sector_core.specs.declared.range.Range.{Range}
use Rattle.plain.specs.Merge.{same_op}
use Rattle.plain.specs.Machine.{Plain}
use Rattle.plain.specs.declared.call.Call.{Call}
use Rattle.plain.specs.Keeper.{machine_of}
use Rattle.plain.specs.Headline.{replay}
use Rattle.plain.specs.Opening.{Limits, opening}
use Rattle.plain.specs.Steps.Submit.{new_bio, queue_with, merge_in}
use Rattle.plain.specs.Steps.Finish.{effect_of, completed}
use Rattle.plain_laws.proofs.Joins.{All-queue_with, joined_is}
use Rattle.plain_laws.specs.Requests.{EachRequest}
use Rattle.host_calls.specs.Lengths.{BlocksAreFull, HasPayload, HasPayloads, HasFittingResult, ResultsFit, EachBlockIsFull, EachPayloadFits, EachResultFits}
use Rattle.plain_laws.proofs.Leads.{IsSized}
use Rattle.plain_laws.proofs.Moves.{Moves}
use Rattle.plain_laws.proofs.Stamps.{machine-moves}
use Rattle.plain_laws.proofs.Each.{put-all, with_bio-all, each-queued, each-sent, each-resent, each-given_back, each-landed}
use Rattle.host_calls.proofs.Full.{blocks-stay, results-fit}

-- what has been stored, what waits and what is completed has the bytes of its sectors
abbrev pub Filled : Plain → Type 0
Filled m = BlocksAreFull m.overlay × EachRequest HasPayloads m × ResultsFit m

-- two operations that the test finds the same
same_op-is : (a b : Op) → same_op a b ≡ true → a ≡ b
same_op-is Fetch Fetch h = refl
same_op-is Fetch Store h = cc
same_op-is Fetch Discard h = cc
same_op-is Store Fetch h = cc
same_op-is Store Store h = refl
same_op-is Store Discard h = cc
same_op-is Discard Fetch h = cc
same_op-is Discard Store h = cc
same_op-is Discard Discard h = refl

filled-queue : (n : ℕ) (m : Plain) (seat session : ℕ) (op : Op) (range : Range) (payload : List ℕ) → IsSized op range payload → All HasPayloads (m.queue seat)
    → All HasPayloads (queue_with session op (new_bio n range payload) (merge_in m seat session op range) (m.queue seat))
filled-queue n m seat session op range payload is all =
    let bio : Bio = new_bio n range payload in
    let its : HasPayload op bio = ((is.some_sectors, is.few_sectors), is.bytes) in
    All-queue_with HasPayloads session op bio (merge_in m seat session op range) (m.queue seat)
    (All-cons (HasPayload op) bio [] its (All-nil (HasPayload op)))
    (λ front r joined h.
    let same : r.op ≡ op = same_op-is r.op op (joined_is front session op range r joined).4 in
    let here : HasPayload r.op bio = subst (λ o. HasPayload o bio) (sym same) its in
    with_bio-all (HasPayload r.op) front bio r here h)
    all

filled-moves : (l : Limits) → Moves l (λ n m. Filled m)
filled-moves l = record {
  later = λ n n' m le h. h;
  attaches = λ n m seat s small free new h. h;
  submits = λ n m seat session op range payload small its is h.
      (h.0, each-queued HasPayloads m seat _ (filled-queue n m seat session op range payload is (h.1.0 seat)) h.1, h.2);
  changes = λ n m seat f stays h. h;
  reaps = λ n m seat bio bios is h.
      (h.0, h.1, put-all HasFittingResult m.outbox seat bios (All-tail HasFittingResult bio bios (All-same HasFittingResult (bio ∷ bios) (m.outbox seat) (sym is) (h.2 seat))) h.2);
  drops = λ n m seat h. (h.0, h.1, put-all HasFittingResult m.outbox seat [] (All-nil HasFittingResult) h.2);
  frees = λ n m seat gone h. h;
  sends = λ n i m seat tag r rest is low free h. (h.0, each-sent HasPayloads m i seat tag r rest is h.1, h.2);
  resends = λ n i m tag r rest is low free h. (h.0, each-resent HasPayloads m i tag r rest is h.1, h.2);
  gives_back = λ n m tag f low is h. (h.0, each-given_back HasPayloads m tag f is h.1, h.2);
  lands = λ n m tag f outcome low is fit h.
      (blocks-stay f.request.op outcome m.overlay f.request.bios fit h.0 (h.1.2 tag f is), each-landed HasPayloads m tag h.1, h.2);
  delivers = λ n m tag f outcome seat low is fit small its h.
      let bios : List Bio = completed (effect_of outcome f.request.op) m.overlay f.request.bios in
      let fitted : All HasFittingResult bios = results-fit f.request.op outcome m.overlay f.request.bios fit h.0 (h.1.2 tag f is) in (
        blocks-stay f.request.op outcome m.overlay f.request.bios fit h.0 (h.1.2 tag f is),
        each-landed HasPayloads m tag h.1,
        put-all HasFittingResult m.outbox seat (m.outbox seat ++ bios) (All-append HasFittingResult (m.outbox seat) bios (h.2 seat) fitted) h.2,
      );
  rests = λ n m frozen served head b scheduler h. h;
}

-- before the first one nothing is stored, queued or completed
filled-opening : (l : Limits) → Filled (opening l)
filled-opening l = (λ sector block e. let none : blocks.get (opening l).overlay sector ≡ None = blocks.get-empty _ _ in cc, (λ seat. All-nil HasPayloads, All-nil HasPayloads, λ tag f e. cc), λ seat. All-nil HasFittingResult)

-- so every keeper's machine
pub machine-filled : (l : Limits) (most : ℕ) (journal : List Call) → Filled (machine_of (replay l most journal))
machine-filled l most journal = machine-moves l most journal (λ n m. Filled m) (filled-moves l) (filled-opening l)

pub blocks-full : (l : Limits) (most : ℕ) (journal : List Call) → EachBlockIsFull l most journal
blocks-full l most journal = (machine-filled l most journal).0

pub payloads-fit : (l : Limits) (most : ℕ) (journal : List Call) → EachPayloadFits l most journal
payloads-fit l most journal = (machine-filled l most journal).1

pub results-fit-out : (l : Limits) (most : ℕ) (journal : List Call) → EachResultFits l most journal
results-fit-out l most journal = (machine-filled l most journal).2
