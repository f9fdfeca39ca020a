-- What holds of each request, where one of them moves.
use Rattle.std.proofs.Common.{true, false, Bool, ◌≡◌, inl, inr, ℕ, List, ◌∷◌, Option, Some, None, All, sym, subst}
use Rattle.std.proofs.lemmas.Bool.{cases_eq}
use Rattle.std.proofs.lemmas.List.Elements.{All-cons, All-same, All-head, All-tail, All-push}
use Rattle.sector_core.specs.declared.bio.BioFields.{BioFields as Bio}
use Rattle.plain.specs.Machine.{WholeRequest, Flight, Plain, put}
use Rattle.plain.specs.Steps.Submit.{with_bio}
use Rattle.plain_laws.proofs.Puts.{put_here, put_other, put_cases, some_is}
use Rattle.plain_laws.proofs.Sendings.{IsTaken, resent, given_back}
use Rattle.plain_laws.specs.Requests.{EachRequest}
use Rattle.plain_laws.proofs.Moves.{sent_from}

-- one list of many changes
pub put-all : {A : Type 0} (P : A → Type 0) (f : ℕ → List A) (k : ℕ) (xs : List A) → All P xs → ((n : ℕ) → All P (f n)) → (n : ℕ) → All P (put f k xs n)
put-all P f k xs all h n = elim (cases_eq n k) [
  | inl same ↦ All-same P (put f k xs n) xs (put_here f k xs n same) all
  | inr other ↦ All-same P (put f k xs n) (f n) (put_other f k xs n other) (h n)
]

-- a flight more
pub flown : (P : ℕ → WholeRequest → Type 0) (flights : ℕ → Option Flight) (tag issue : ℕ) (r : WholeRequest) → P tag r → ((k : ℕ) (f : Flight) → flights k ≡ Some f → P k f.request)
    → (k : ℕ) (f : Flight) → put flights tag (Some (record { issue = issue; request = r })) k ≡ Some f → P k f.request
flown P flights tag issue r its h k f e = elim (put_cases flights tag (Some (record { issue = issue; request = r })) k (Some f) e) [
  | inl x ↦
      let here : P tag f.request = subst (λ (g : Flight). P tag g.request) (some_is (record { issue = issue; request = r }) f x.1) its in
      subst (λ j. P j f.request) (sym x.0) here
  | inr x ↦ h k f x.1
]

-- and one less
pub ended : (P : ℕ → WholeRequest → Type 0) (flights : ℕ → Option Flight) (tag : ℕ) → ((k : ℕ) (f : Flight) → flights k ≡ Some f → P k f.request)
    → (k : ℕ) (f : Flight) → put flights tag None k ≡ Some f → P k f.request
ended P flights tag h k f e = elim (put_cases flights tag None k (Some f) e) [
  | inl x ↦ cc
  | inr x ↦ h k f x.1
]

pub each-queued : (P : WholeRequest → Type 0) (m : Plain) (seat : ℕ) (requests : List WholeRequest) → All P requests → EachRequest P m → EachRequest P (record m { queue = put m.queue seat requests })
each-queued P m seat requests all h = (put-all P m.queue seat requests all h.0, h.1, h.2)

pub each-sent : (P : WholeRequest → Type 0) (m : Plain) (i seat tag : ℕ) (r : WholeRequest) (rest : List WholeRequest) → IsTaken (m.queue seat) r rest
    → EachRequest P m → EachRequest P (sent_from m i seat tag r rest)
each-sent P m i seat tag r rest is h = (put-all P m.queue seat rest (is.others P (h.0 seat)) h.0, h.1, flown (λ k. P) m.flight tag i r (is.this P (h.0 seat)) h.2)

pub each-resent : (P : WholeRequest → Type 0) (m : Plain) (i tag : ℕ) (r : WholeRequest) (rest : List WholeRequest) → m.requeued ≡ r ∷ rest → EachRequest P m → EachRequest P (resent m i tag r rest)
each-resent P m i tag r rest first h =
    let all : All P (r ∷ rest) = All-same P (r ∷ rest) m.requeued (sym first) h.1 in
    (h.0, All-tail P r rest all, flown (λ k. P) m.flight tag i r (All-head P r rest all) h.2)

pub each-given_back : (P : WholeRequest → Type 0) (m : Plain) (tag : ℕ) (f : Flight) → m.flight tag ≡ Some f → EachRequest P m → EachRequest P (given_back m tag f.request)
each-given_back P m tag f is h = (h.0, All-push P m.requeued f.request h.1 (h.2 tag f is), ended (λ k. P) m.flight tag h.2)

pub each-landed : (P : WholeRequest → Type 0) (m : Plain) (tag : ℕ) → EachRequest P m → EachRequest P (record m { flight = put m.flight tag None })
each-landed P m tag h = (h.0, h.1, ended (λ k. P) m.flight tag h.2)

-- a request with one more bio
pub with_bio-all : (P : Bio → Type 0) (front : Bool) (bio : Bio) (r : WholeRequest) → P bio → All P r.bios → All P (with_bio front bio r).bios
with_bio-all P true bio r its all = All-cons P bio r.bios its all
with_bio-all P false bio r its all = All-push P r.bios bio all its
