-- Every step leaves results in outboxes alone.
use Rattle.std.proofs.Common.{◌≡◌, ℕ, List, [], ◌∷◌, ◌++◌, Some, None, All, refl, sym}
use Rattle.std.proofs.lemmas.List.Elements.{All-nil, All-cons, All-append, All-same, All-tail}
use Rattle.sector_core.specs.declared.bio.BioFields.{BioFields as Bio}
use Rattle.sector_core.specs.declared.bio.Op.{Op}
use Rattle.sector_core.specs.declared.bio.Effect.{Effect}
use Rattle.sector_core.specs.declared.range.Range.{Range}
use Rattle.plain.specs.Machine.{Blocks, Plain}
use Rattle.plain.specs.declared.call.Call.{Call}
use Rattle.plain.specs.Opening.{Limits}
use Rattle.plain.specs.Steps.Submit.{new_bio, queue_with, merge_in}
use Rattle.plain.specs.Steps.Finish.{effect_of, completed, result_of, rest_of_effect}
use Rattle.plain_laws.proofs.Joins.{All-queue_with}
use Rattle.host_calls.specs.Results.{HasResult, Waits, ResultsAreOut, OutboxesHaveResults}
use Rattle.plain_laws.proofs.Moves.{Moves}
use Rattle.plain_laws.proofs.Stamps.{machine-moves}
use Rattle.plain_laws.proofs.Each.{put-all, with_bio-all, each-queued, each-sent, each-resent, each-given_back, each-landed}

-- each bio that is completed has a result
completed-all : (effect : Effect) (overlay : Blocks) (bios : List Bio) → All HasResult (completed effect overlay bios)
completed-all effect overlay [] = All-nil HasResult
completed-all effect overlay (bio ∷ bios) =
    All-cons HasResult (record bio { result = Some (result_of effect overlay bio) }) (completed (rest_of_effect bio.range.count effect) overlay bios) refl
    (completed-all (rest_of_effect bio.range.count effect) overlay bios)

abbrev HasNone : Bio → Type 0
HasNone bio = bio.result ≡ None

waiting-queue : (n : ℕ) (m : Plain) (seat session : ℕ) (op : Op) (range : Range) (payload : List ℕ) → All Waits (m.queue seat)
    → All Waits (queue_with session op (new_bio n range payload) (merge_in m seat session op range) (m.queue seat))
waiting-queue n m seat session op range payload all =
    let bio : Bio = new_bio n range payload in
    All-queue_with Waits session op bio (merge_in m seat session op range) (m.queue seat)
    (All-cons HasNone bio [] refl (All-nil HasNone)) (λ front r joined h. with_bio-all HasNone front bio r refl h) all

results-moves : (l : Limits) → Moves l (λ n m. ResultsAreOut m)
results-moves l = record {
  later = λ n n' m le h. h;
  attaches = λ n m seat s small free new h. h;
  submits = λ n m seat session op range payload small its is h.
      (each-queued Waits m seat _ (waiting-queue n m seat session op range payload (h.0.0 seat)) h.0, h.1);
  changes = λ n m seat f stays h. h;
  reaps = λ n m seat bio bios is h.
      (h.0, put-all HasResult m.outbox seat bios (All-tail HasResult bio bios (All-same HasResult (bio ∷ bios) (m.outbox seat) (sym is) (h.1 seat))) h.1);
  drops = λ n m seat h. (h.0, put-all HasResult m.outbox seat [] (All-nil HasResult) h.1);
  frees = λ n m seat gone h. h;
  sends = λ n i m seat tag r rest is low free h. (each-sent Waits m i seat tag r rest is h.0, h.1);
  resends = λ n i m tag r rest is low free h. (each-resent Waits m i tag r rest is h.0, h.1);
  gives_back = λ n m tag f low is h. (each-given_back Waits m tag f is h.0, h.1);
  lands = λ n m tag f outcome low is fit h. (each-landed Waits m tag h.0, h.1);
  delivers = λ n m tag f outcome seat low is fit small its h.
      let bios : List Bio = completed (effect_of outcome f.request.op) m.overlay f.request.bios in (
        each-landed Waits m tag h.0,
        put-all HasResult m.outbox seat (m.outbox seat ++ bios) (All-append HasResult (m.outbox seat) bios (h.1 seat) (completed-all (effect_of outcome f.request.op) m.overlay f.request.bios)) h.1,
      );
  rests = λ n m frozen served head b scheduler h. h;
}

-- so on every keeper's machine
pub results-out : (l : Limits) (most : ℕ) (journal : List Call) → OutboxesHaveResults l most journal
results-out l most journal =
    machine-moves l most journal (λ n m. ResultsAreOut m) (results-moves l) ((λ seat. All-nil Waits, All-nil Waits, λ tag f e. cc), λ seat. All-nil HasResult)
