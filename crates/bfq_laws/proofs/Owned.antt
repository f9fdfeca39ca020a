-- Each request of a seat's queue is of the session that sits there, and so a free seat has nothing queued.
use Rattle.std.proofs.Common.{true, false, Bool, ◌≡◌, inl, inr, ℕ, ◌+◌, ◌==◌, ◌&&◌, List, [], ◌∷◌, ◌++◌, All, Option, Some, None, is_some, cond, filter, eqb-true, eq-eqb, refl, sym, ap, ◌∙◌, subst}
use Rattle.std.specs.Option.{option_map, option_map_or}
use Rattle.std.proofs.lemmas.Bool.{cases_eq}
use Rattle.std.proofs.lemmas.List.Elements.{All-nil, All-cons, All-head, All-tail, All-push}
use Rattle.sector_core.specs.declared.bio.BioFields.{BioFields as Bio}
use Rattle.sector_core.specs.declared.bio.Op.{Op}
use Rattle.sector_core.specs.declared.range.Range.{Range}
use Rattle.plain.specs.Lists.{is_empty}
use Rattle.plain.specs.Merge.{joins_at}
use Rattle.plain.specs.Next.{has_start}
use Rattle.plain.specs.declared.seat.Seat.{Seat}
use Rattle.plain.specs.Machine.{WholeRequest, Plain, put}
use Rattle.plain.specs.Rules.{activate}
use Rattle.plain.specs.declared.answer.Reply.{Reply}
use Rattle.plain.specs.Opening.{Limits}
use Rattle.plain.specs.Entities.{is_bfq}
use Rattle.plain.specs.Sessions.{is_session, unreaped, with_unreaped}
use Rattle.plain.specs.Steps.Submit.{new_bio, with_bio, change_first, queue_with, merge_in, submitted, woken}
use Rattle.plain.specs.Requests.{is_of, flying, left_of, is_gone, range_of, shape}
use Rattle.plain.specs.Steps.Dispatch.{without_first, sent_by_bfq}
use Rattle.plain_laws.proofs.Puts.{put_here, put_other, some_is, map_is}
use Rattle.plain_laws.proofs.Moves.{Stays}
use Rattle.plain_laws.proofs.Sent.{sent-is}
use Rattle.bfq_laws.proofs.Walk.{Keeps}

abbrev pub Owns : Option Seat → WholeRequest → Type 0
Owns seat r = is_session r.session seat ≡ true

abbrev pub Owned : Plain → Type 0
Owned m = (seat : ℕ) → All (Owns (m.seat seat)) (m.queue seat)

all-empty : (P : WholeRequest → Type 0) (xs : List WholeRequest) → is_empty xs ≡ true → All P xs
all-empty P [] e = All-nil P
all-empty P (x ∷ xs) e = cc

all-turned : (P Q : WholeRequest → Type 0) → ((r : WholeRequest) → P r → Q r) → (xs : List WholeRequest) → All P xs → All Q xs
all-turned P Q turn [] all = All-nil Q
all-turned P Q turn (x ∷ xs) all = All-cons Q x xs (turn x (All-head P x xs all)) (all-turned P Q turn xs (All-tail P x xs all))

-- nobody's queue is empty
nobody-owns : (o : Option Seat) (xs : List WholeRequest) → o ≡ None → All (Owns o) xs → is_empty xs ≡ true
nobody-owns o [] none all = refl
nobody-owns o (x ∷ xs) none all =
    let its : is_session x.session o ≡ true = All-head (Owns o) x xs all in
    let no : is_session x.session o ≡ false = ap (is_session x.session) none in cc

none-of : (o : Option Seat) → is_some o ≡ false → o ≡ None
none-of None e = refl
none-of (Some s) e = cc

pub free-empty : (m : Plain) → Owned m → (seat : ℕ) → is_some (m.seat seat) ≡ false → is_empty (m.queue seat) ≡ true
free-empty m h seat free = nobody-owns (m.seat seat) (m.queue seat) (none-of (m.seat seat) free) (h seat)

pub session-sits : (session : ℕ) (o : Option Seat) → is_session session o ≡ true → is_some o ≡ true
session-sits session None e = cc
session-sits session (Some s) e = refl

-- a seat changes, or a queue
put-seat : (seats : ℕ → Option Seat) (queue : ℕ → List WholeRequest) (k : ℕ) (seat : Option Seat) → All (Owns seat) (queue k) → ((e : ℕ) → All (Owns (seats e)) (queue e))
    → (e : ℕ) → All (Owns (put seats k seat e)) (queue e)
put-seat seats queue k seat all h e = elim (cases_eq e k) [
  | inl same ↦ subst (λ o. All (Owns o) (queue e)) (sym (put_here seats k seat e same)) (subst (λ i. All (Owns seat) (queue i)) (sym same) all)
  | inr other ↦ subst (λ o. All (Owns o) (queue e)) (sym (put_other seats k seat e other)) (h e)
]

put-empty : (seats : ℕ → Option Seat) (queue : ℕ → List WholeRequest) (k : ℕ) (seat : Option Seat) → is_empty (queue k) ≡ true → ((e : ℕ) → All (Owns (seats e)) (queue e))
    → (e : ℕ) → All (Owns (put seats k seat e)) (queue e)
put-empty seats queue k seat empty h = put-seat seats queue k seat (all-empty (Owns seat) (queue k) empty) h

put-queue : (seats : ℕ → Option Seat) (queue : ℕ → List WholeRequest) (k : ℕ) (requests : List WholeRequest) → All (Owns (seats k)) requests → ((e : ℕ) → All (Owns (seats e)) (queue e))
    → (e : ℕ) → All (Owns (seats e)) (put queue k requests e)
put-queue seats queue k requests all h e = elim (cases_eq e k) [
  | inl same ↦ subst (All (Owns (seats e))) (sym (put_here queue k requests e same)) (subst (λ i. All (Owns (seats i)) requests) (sym same) all)
  | inr other ↦ subst (All (Owns (seats e))) (sym (put_other queue k requests e other)) (h e)
]

-- the entry of a seat changes, and not its session
same-session : (f : Seat → Seat) → Stays f → (o : Option Seat) (session : ℕ) → is_session session (option_map f o) ≡ is_session session o
same-session f stays None session = refl
same-session f stays (Some s) session = ap (λ n. n == session) (stays s)

entered-owned : (m : Plain) (seat : ℕ) (f : Seat → Seat) → Stays f → Owned m → (e : ℕ) → All (Owns (put m.seat seat (option_map f (m.seat seat)) e)) (m.queue e)
entered-owned m seat f stays h =
    let o : Option Seat = m.seat seat in
    put-seat m.seat m.queue seat (option_map f o) (all-turned (Owns o) (Owns (option_map f o)) (λ r its. same-session f stays o r.session ∙ its) (m.queue seat) (h seat)) h

-- Submit
all-changed : (P : WholeRequest → Type 0) (passes : WholeRequest → Bool) (change : WholeRequest → WholeRequest) → ((r : WholeRequest) → P r → P (change r)) → (xs : List WholeRequest)
    → All P xs → All P (change_first passes change xs)
all-changed P passes change keeps [] all = all
all-changed P passes change keeps (x ∷ xs) all =
    let here : P x = All-head P x xs all in
    let rest : All P xs = All-tail P x xs all in
    elim (passes x) as (λ t. All P (cond t (change x ∷ xs) (x ∷ change_first passes change xs))) [
      | true ↦ All-cons P (change x) xs (keeps x here) rest
      | false ↦ All-cons P x (change_first passes change xs) here (all-changed P passes change keeps xs rest)
    ]

queued-owned : (o : Option Seat) (session : ℕ) (op : Op) (bio : Bio) (found : Option (WholeRequest × Bool)) (queue : List WholeRequest) → is_session session o ≡ true → All (Owns o) queue
    → All (Owns o) (queue_with session op bio found queue)
queued-owned o session op bio None queue its all = All-push (Owns o) queue (record { session = session; op = op; bios = bio ∷ [] }) all its
queued-owned o session op bio (Some found) queue its all = all-changed (Owns o) (joins_at shape found.1 session op bio.range) (with_bio found.1 bio) (λ r h. h) queue all

submitted-owned : (m : Plain) (n seat session : ℕ) (op : Op) (range : Range) (payload : List ℕ) → is_session session (m.seat seat) ≡ true → Owned m → Owned (submitted m n seat session op range payload)
submitted-owned m n seat session op range payload its h =
    let f : Seat → Seat = with_unreaped (unreaped m seat + 1) in
    let seats : ℕ → Option Seat = put m.seat seat (option_map f (m.seat seat)) in
    let bio : Bio = new_bio n range payload in
    let after : (e : ℕ) → All (Owns (seats e)) (m.queue e) = entered-owned m seat f (λ s. refl) h in
    let still : is_session session (seats seat) ≡ true = ap (is_session session) (put_here m.seat seat (option_map f (m.seat seat)) seat refl) ∙ same-session f (λ s. refl) (m.seat seat) session ∙ its in
    put-queue seats m.queue seat (queue_with session op bio (merge_in m seat session op range) (m.queue seat))
    (queued-owned (seats seat) session op bio (merge_in m seat session op range) (m.queue seat) still (after seat)) after

woken-owned : (m : Plain) (seat : ℕ) (next o : Plain) → woken m seat next ≡ Some o → Owned next → Owned o
woken-owned m seat next o e h =
    elim (is_bfq m.scheduler && is_empty (m.queue seat)) as (λ t. cond t (option_map (λ b. record next { bfq = b }) (activate seat m.bfq)) (Some next) ≡ Some o → Owned o) [
      | true ↦ λ is. let a = map_is (λ b. record next { bfq = b }) (activate seat m.bfq) o is in subst Owned a.2 h
      | false ↦ λ is. subst Owned (some_is next o is) h
    ] e

-- Dispatch
all-without : (P : WholeRequest → Type 0) (passes : WholeRequest → Bool) (xs : List WholeRequest) → All P xs → All P (without_first passes xs)
all-without P passes [] all = all
all-without P passes (x ∷ xs) all =
    let rest : All P xs = All-tail P x xs all in
    elim (passes x) as (λ t. All P (cond t xs (x ∷ without_first passes xs))) [
      | true ↦ rest
      | false ↦ All-cons P x (without_first passes xs) (All-head P x xs all) (all-without P passes xs rest)
    ]

sent-owned : (l : Limits) (m : Plain) (n tag : ℕ) (o : Plain × Reply) → sent_by_bfq l m n tag ≡ Some o → Owned m → Owned o.0
sent-owned l m n tag o e h =
    let s = sent-is l m n tag o e in
    let k : ℕ = s.slot.seat in
    let first : WholeRequest → Bool = has_start shape (range_of s.request.bios).start in
    let now : (e : ℕ) → All (Owns (m.seat e)) (put m.queue k (without_first first (m.queue k)) e) =
    put-queue m.seat m.queue k (without_first first (m.queue k)) (all-without (Owns (m.seat k)) first (m.queue k) (h k)) h in
    let Q : Plain × Reply → Type 0 = λ y. Owned y.0 in
    subst Q s.made now

-- who leaves, and has no request left, has none queued
gone-seat : (l : Limits) (m : Plain) (k : ℕ) (o : Option Seat) → option_map_or (λ (s : Seat). s.leaving && is_empty (left_of l m k s.session)) o false ≡ true
    → (s : Seat) × (o ≡ Some s) × (is_empty (left_of l m k s.session) ≡ true)
gone-seat l m k None e = cc
gone-seat l m k (Some s) e =
    let rest : Bool = is_empty (left_of l m k s.session) in
    (s, refl, elim s.leaving as (λ t. (t && rest) ≡ true → rest ≡ true) [ true ↦ λ f. f | false ↦ λ f. cc ] e)

none-left : (session : ℕ) (xs ys zs : List WholeRequest) → All (λ r. is_of session r ≡ true) xs → is_empty (filter (is_of session) (xs ++ ys ++ zs)) ≡ true → is_empty xs ≡ true
none-left session [] ys zs all e = refl
none-left session (x ∷ xs) ys zs all e =
    let its : is_of session x ≡ true = All-head (λ r. is_of session r ≡ true) x xs all in
    let rest : List WholeRequest = filter (is_of session) (xs ++ ys ++ zs) in
    elim (is_of session x) as (λ t. is_of session x ≡ t → is_empty (cond t (x ∷ rest) rest) ≡ true → false ≡ true) [ true ↦ λ _ f. f | false ↦ λ no _. cc ] refl e

pub gone-empty : (l : Limits) (m : Plain) (k : ℕ) → Owned m → is_gone l m k ≡ true → (is_some (m.seat k) ≡ true) × (is_empty (m.queue k) ≡ true)
gone-empty l m k h e =
    let s = gone-seat l m k (m.seat k) e in
    let session : ℕ = s.0.session in
    let own : All (Owns (Some s.0)) (m.queue k) = subst (λ o. All (Owns o) (m.queue k)) s.1 (h k) in
    let all : All (λ r. is_of session r ≡ true) (m.queue k) =
    all-turned (Owns (Some s.0)) (λ r. is_of session r ≡ true) (λ r its. eq-eqb r.session session (sym (eqb-true session r.session its))) (m.queue k) own in
    (ap is_some s.1, none-left session (m.queue k) m.requeued (flying l m) all s.2)

-- every step
pub keeps-owned : (l : Limits) → Keeps l Owned
keeps-owned l = record {
  attaches = λ m n seat group prio class _ free _ _ h. put-empty m.seat m.queue seat _ (free-empty m h seat (ap is_some free)) h;
  submits = λ m n seat session op range payload next _ its e h. woken-owned m seat (submitted m n seat session op range payload) next e (submitted-owned m n seat session op range payload its h);
  enters = λ m seat f outbox stays h. entered-owned m seat f stays h;
  goes = λ m seat _ last h. put-empty m.seat m.queue seat None (gone-empty l m seat h last).1 h;
  takes_turns = λ m n seat tag request requests _ its h.
      put-queue m.seat m.queue seat requests (All-tail (Owns (m.seat seat)) request requests (subst (All (Owns (m.seat seat))) its (h seat))) h;
  sends = λ m n tag o _ whole e h. sent-owned l m n tag o e h;
  moves = λ m overlay requests outbox flight frozen h. h;
  makes = λ m group parent weight _ _ _ _ h. h;
  drops = λ m group _ _ _ h. h;
  weighs = λ m group weight _ h. h;
  ticks = λ m slot _ h. h;
  switches = λ m scheduler _ h. h;
}
