-- Leave and Finish: completed bios go to an outbox, or are dropped with their session, whose seat is free with the last of its requests.
use Rattle.std.proofs.Common.{true, false, Bool, ◌≡◌, ◌≢◌, inl, inr, ℕ, zero, suc, ◌+◌, ◌<◌, ◌≤◌, ◌&&◌, not, List, [], ◌∷◌, ◌++◌, length, Option, Some, None, All, cond, refl, sym, ap, ◌∙◌, arith, eq-eqb}
use Rattle.std.specs.List.{find, filter}
use Rattle.std.specs.Option.{option_map, option_map_or}
use Rattle.std.proofs.lemmas.Bool.{cases_eq, and_parts}
use Rattle.std.proofs.lemmas.List.{length-append}
use Rattle.std.proofs.lemmas.List.Elements.{All-nil, All-same, All-head, All-weaker}
use Rattle.sector_core.specs.declared.bio.BioFields.{BioFields as Bio}
use Rattle.sector_core.specs.declared.bio.Effect.{Effect}
use Rattle.plain.specs.Machine.{Blocks, WholeRequest, Flight, Bfq, Plain, put}
use Rattle.plain.specs.Lists.{numbers, is_empty}
use Rattle.plain.specs.declared.seat.Seat.{Seat}
use Rattle.plain.specs.Opening.{Limits}
use Rattle.plain.specs.Sessions.{is_session, is_leaving, has_session}
use Rattle.plain.specs.Entities.{without_entity, without_gone, owed_fewer}
use Rattle.plain.specs.Requests.{flying, is_of, left_of, is_gone}
use Rattle.plain.specs.Steps.Leave.{with_leaving, left}
use Rattle.plain.specs.Steps.Finish.{completed, rest_of_effect, after_effect, seat_of, delivered, after_finish}
use Rattle.plain_laws.specs.Owed.{bios_in, owed}
use Rattle.plain_laws.proofs.Puts.{put_here, put_other, put_cases, map_is}
use Rattle.plain_laws.proofs.Flights.{find-numbers, bios_flown, bios_of-put}
use Rattle.plain_laws.proofs.Debts.{Seated, SitsAt, Placed, Sound, sitter, bios_in-other, bios_in-same}
use Rattle.plain_laws.proofs.Counters.{CountsOthers, Seated-changed, SitsAt-changed, session_is, fewer-sound}
use Rattle.plain_laws.proofs.Sendings.{landed}

-- where no request of a session is left, a queue of its requests is empty
none_left : (session : ℕ) (queue list flights : List WholeRequest) → is_empty (filter (is_of session) (queue ++ list ++ flights)) ≡ true
    → All (λ r. is_of session r ≡ true) queue → queue ≡ []
none_left session [] list flights none h = refl
none_left session (r ∷ queue) list flights none h =
    let its : is_of session r ≡ true = All-head (λ r. is_of session r ≡ true) r queue h in
    let rest : List WholeRequest = filter (is_of session) (queue ++ list ++ flights) in
    elim (is_of session r) as (λ b. is_of session r ≡ b → is_empty (cond b (r ∷ rest) rest) ≡ true → r ∷ queue ≡ []) [
      | true ↦ λ _ nothing. cc
      | false ↦ λ not_its _. let both : true ≡ false = sym its ∙ not_its in cc
    ] refl none

-- who leaves where no request is left
pub gone_is : (l : Limits) (m : Plain) (seat : ℕ) (o : Option Seat) → m.seat seat ≡ o
    → option_map_or (λ s. s.leaving && is_empty (left_of l m seat s.session)) o false ≡ true
    → (s : Seat) × (m.seat seat ≡ Some s) × (s.leaving ≡ true) × (is_empty (left_of l m seat s.session) ≡ true)
gone_is l m seat None is gone = cc
gone_is l m seat (Some s) is gone = let both = and_parts s.leaving (is_empty (left_of l m seat s.session)) gone in (s, is, both.0, both.1)

-- its queue is empty
gone_queue : (l : Limits) (n : ℕ) (m : Plain) (seat : ℕ) (s : Seat) → m.seat seat ≡ Some s → is_empty (left_of l m seat s.session) ≡ true → Placed n m → m.queue seat ≡ []
gone_queue l n m seat s is none h =
    let its : All (λ r. is_of s.session r ≡ true) (m.queue seat) =
    All-weaker (SitsAt m.seat seat) (λ r. is_of s.session r ≡ true)
    (λ r sits. eq-eqb r.session s.session (sym (session_is m seat r.session s is sits))) (m.queue seat) (h.queued seat) in
    none_left s.session (m.queue seat) m.requeued (flying l m) none its

-- the seats without one
pub Seated-freed : (n : ℕ) (seats : ℕ → Option Seat) (seat : ℕ) → Seated n seats → Seated n (put seats seat None)
Seated-freed n seats seat h =
    let was : (k : ℕ) (s : Seat) → put seats seat None k ≡ Some s → seats k ≡ Some s =
    λ k s e. elim (put_cases seats seat None k (Some s) e) [
      | inl x ↦ cc
      | inr x ↦ x.1
    ] in
    record {
      within = λ k s e. h.within k s (was k s e);
      given = λ k s e. h.given k s (was k s e);
      apart = λ j k s t e f same. h.apart j k s t (was j s e) (was k t f) same;
    }

-- a session that leaves with nothing queued goes
freed-sound : (l : Limits) (n : ℕ) (m : Plain) (seat : ℕ) (s : Seat) (b : Bfq) → m.seat seat ≡ Some s → s.leaving ≡ true → m.queue seat ≡ []
    → Sound l n m → Sound l n (record m { seat = put m.seat seat None; bfq = b })
freed-sound l n m seat s b is leaves nothing h =
    let p = h.placed in
    record {
      placed = record {
        seated = Seated-freed n m.seat seat p.seated;
        queued = λ k. elim (cases_eq k seat) [
          | inl e ↦ All-same (SitsAt (put m.seat seat None) k) (m.queue k) [] (ap m.queue e ∙ nothing) (All-nil (SitsAt (put m.seat seat None) k))
          | inr ne ↦
              All-weaker (SitsAt m.seat k) (SitsAt (put m.seat seat None) k)
              (λ r sits. ap (is_session r.session) (put_other m.seat seat None k ne) ∙ sits) (m.queue k) (p.queued k)
        ];
        requeued = p.requeued;
        flown = p.flown;
        empty = λ k e. elim (cases_eq k seat) [
          | inl same ↦ p.empty k (ap has_session (ap m.seat same ∙ is) ∙ ap not leaves)
          | inr ne ↦ p.empty k (sym (ap has_session (put_other m.seat seat None k ne)) ∙ e)
        ];
      };
      counts = λ k t e. elim (put_cases m.seat seat None k (Some t) e) [
        | inl x ↦ cc
        | inr x ↦ h.counts k t x.1
      ];
    }

pub without_gone-sound : (l : Limits) (n seat : ℕ) (m : Plain) → Sound l n m → Sound l n (without_gone l seat m)
without_gone-sound l n seat m h =
    let b : Bfq = without_entity seat m.bfq in
    elim (is_gone l m seat) as (λ t. is_gone l m seat ≡ t → Sound l n (cond t (record m { seat = put m.seat seat None; bfq = b }) m)) [
      | true ↦ λ gone.
          let who = gone_is l m seat (m.seat seat) refl gone in
          freed-sound l n m seat who.0 b who.1 who.2 (gone_queue l n m seat who.0 who.1 who.3 h.placed) h
      | false ↦ λ _. h
    ] refl

-- Leave: the outbox is dropped.
abbrev marked : Plain → ℕ → Plain
marked m seat = record m { seat = put m.seat seat (option_map with_leaving (m.seat seat)); outbox = put m.outbox seat [] }

marked-placed : (n : ℕ) (m : Plain) (seat : ℕ) → Placed n m → Placed n (marked m seat)
marked-placed n m seat h = record {
  seated = Seated-changed n m.seat seat with_leaving (λ s. refl) h.seated;
  queued = λ k. SitsAt-changed m.seat seat with_leaving k (m.queue k) (λ s. refl) (h.queued k);
  requeued = h.requeued;
  flown = h.flown;
  empty = λ k e. elim (cases_eq k seat) [
    | inl same ↦ put_here m.outbox seat [] k same
    | inr ne ↦ put_other m.outbox seat [] k ne ∙ h.empty k (sym (ap has_session (put_other m.seat seat (option_map with_leaving (m.seat seat)) k ne)) ∙ e)
  ];
}

pub left-sound : (l : Limits) (n : ℕ) (m : Plain) (seat : ℕ) → Sound l n m → Sound l n (left l m seat)
left-sound l n m seat h =
    let next : Plain = marked m seat in
    let count : ℕ = length (m.outbox seat) in
    let others : CountsOthers l next seat =
    λ k s ne e.
    let had = h.counts k s (sym (put_other m.seat seat (option_map with_leaving (m.seat seat)) k ne) ∙ e) in
    let outbox : length (put m.outbox seat [] k) ≡ length (m.outbox k) = ap length (put_other m.outbox seat [] k ne) in
    omega (arith, had, outbox) in
    let more : (s : Seat) → next.seat seat ≡ Some s → s.unreaped ≡ owed l next seat s.session + count =
    λ s e.
    let old = map_is with_leaving (m.seat seat) s (sym (put_here m.seat seat (option_map with_leaving (m.seat seat)) seat refl) ∙ e) in
    let had = h.counts seat old.0 old.1 in
    let counter : s.unreaped ≡ old.0.unreaped = sym (ap (λ (t : Seat). t.unreaped) old.2) in
    let its : owed l next seat s.session ≡ owed l next seat old.0.session = sym (ap (λ (t : Seat). owed l next seat t.session) old.2) in
    let outbox : length (put m.outbox seat [] seat) ≡ 0 = ap length (put_here m.outbox seat [] seat refl) in
    let now : old.0.unreaped ≡ owed l next seat old.0.session + count = omega (arith, had, outbox) in
    counter ∙ now ∙ sym (ap (λ a. a + count) its) in
    without_gone-sound l n seat (owed_fewer seat count next) (fewer-sound l n next seat count (marked-placed n m seat h.placed) others more)

-- Finish: every bio of a request is completed.
length-completed : (effect : Effect) (overlay : Blocks) (bios : List Bio) → length (completed effect overlay bios) ≡ length bios
length-completed effect overlay [] = refl
length-completed effect overlay (bio ∷ bios) = let rest = length-completed (rest_of_effect bio.range.count effect) overlay bios in omega (arith, rest)

-- what is not found in a run of numbers is none of them
not_found : (p : ℕ → Bool) (from count k : ℕ) → find p (numbers from count) ≡ None → from ≤ k → k < from + count → p k ≡ false
not_found p from zero k e lo hi = absurd (omega (arith, lo, hi))
not_found p from (suc count) k e lo hi =
    elim (p from) as (λ b. p from ≡ b → cond b (Some from) (find p (numbers (from + 1) count)) ≡ None → p k ≡ false) [
      | true ↦ λ _ r. cc
      | false ↦ λ q r. elim (cases_eq k from) [
        | inl same ↦ ap p same ∙ q
        | inr ne ↦ not_found p (from + 1) count k r (omega arith) (omega arith)
      ]
    ] refl e

-- bios are delivered to the seat of their session, whose counter has them already
delivered-sound : (l : Limits) (n : ℕ) (m : Plain) (seat : ℕ) (bios : List Bio) (entry : Seat) → m.seat seat ≡ Some entry → Placed n m → CountsOthers l m seat
    → ((s : Seat) → m.seat seat ≡ Some s → s.unreaped ≡ owed l m seat s.session + length bios) → Sound l n (delivered l bios m seat)
delivered-sound l n m seat bios entry is p others more =
    let longer : List Bio = m.outbox seat ++ bios in
    let next : Plain = record m { outbox = put m.outbox seat longer } in
    elim (is_leaving (m.seat seat)) as (λ t. is_leaving (m.seat seat) ≡ t → Sound l n (cond t (without_gone l seat (owed_fewer seat (length bios) m)) next)) [
      | true ↦ λ _. without_gone-sound l n seat (owed_fewer seat (length bios) m) (fewer-sound l n m seat (length bios) p others more)
      | false ↦ λ stays. record {
        placed = record {
          seated = p.seated;
          queued = p.queued;
          requeued = p.requeued;
          flown = p.flown;
          empty = λ k none. elim (cases_eq k seat) [
            | inl same ↦
                let a : entry.leaving ≡ false = sym (ap is_leaving is) ∙ stays in
                let b : not entry.leaving ≡ false = sym (ap has_session (ap m.seat same ∙ is)) ∙ none in
                let both : true ≡ false = sym (ap not a) ∙ b in
                cc
            | inr ne ↦ put_other m.outbox seat longer k ne ∙ p.empty k none
          ];
        };
        counts = λ k s e. elim (cases_eq k seat) [
          | inl same ↦
              let had = more s (sym (ap m.seat same) ∙ e) in
              let outbox : length (put m.outbox seat longer seat) ≡ length (m.outbox seat) + length bios =
              ap length (put_here m.outbox seat longer seat refl) ∙ length-append (m.outbox seat) bios in
              let now : s.unreaped ≡ owed l next seat s.session = omega (arith, had, outbox) in
              now ∙ sym (ap (λ j. owed l next j s.session) same)
          | inr ne ↦
              let had = others k s ne e in
              let outbox : length (put m.outbox seat longer k) ≡ length (m.outbox k) = ap length (put_other m.outbox seat longer k ne) in
              omega (arith, had, outbox)
        ];
      }
    ] refl

pub after_finish-sound : (l : Limits) (n : ℕ) (m : Plain) (tag : ℕ) (effect : Effect) (flight : Flight)
    → tag < l.tags → m.flight tag ≡ Some flight → Sound l n m → Sound l n (after_finish l m tag effect flight.request)
after_finish-sound l n m tag effect flight lt borne h =
    let r : WholeRequest = flight.request in
    let bios : List Bio = completed effect m.overlay r.bios in
    let next : Plain = record m { overlay = after_effect effect m.overlay r.bios; flight = put m.flight tag None } in
    let p = h.placed in
    let placed : Placed n next = record { seated = p.seated; queued = p.queued; requeued = p.requeued; flown = landed n m.flight tag p.flown; empty = p.empty } in
    let owes : (k : ℕ) (s : Seat) → m.seat k ≡ Some s → s.unreaped ≡ owed l next k s.session + bios_in s.session r =
    λ k s e.
    let had = h.counts k s e in
    let flights = bios_of-put s.session m.flight l.tags tag None lt in
    let its : bios_flown s.session (m.flight tag) ≡ bios_in s.session r = ap (bios_flown s.session) borne in
    omega (arith, had, flights, its) in
    let away : (k : ℕ) (s : Seat) → m.seat k ≡ Some s → r.session ≢ s.session → s.unreaped ≡ owed l next k s.session =
    λ k s e other.
    let had = owes k s e in
    let none : bios_in s.session r ≡ 0 = bios_in-other s.session r other in
    omega (arith, had, none) in
    elim (seat_of m r.session) as (λ o. seat_of m r.session ≡ o → Sound l n (option_map_or (delivered l bios next) o next)) [
      | None ↦ λ nowhere. record {
        placed = placed;
        counts = λ k s e. away k s e
            (λ same.
            let sits : is_session r.session (m.seat k) ≡ true = ap (is_session r.session) e ∙ eq-eqb s.session r.session (sym same) in
            let not_here : is_session r.session (m.seat k) ≡ false =
            not_found (λ seat. is_session r.session (m.seat seat)) 0 16 k nowhere (omega arith) (omega (arith, p.seated.within k s e)) in
            let both : true ≡ false = sym sits ∙ not_here in
            cc);
      }
      | Some seat ↦ λ found.
          let sits : is_session r.session (m.seat seat) ≡ true = (find-numbers (λ seat. is_session r.session (m.seat seat)) 0 16 seat found).2 in
          let entry = sitter r.session (m.seat seat) sits in
          delivered-sound l n next seat bios entry.0 entry.1 placed
          (λ k s ne e. away k s e (λ same. ne (p.seated.apart k seat s entry.0 e entry.1 (sym same ∙ sym entry.2))))
          (λ s e.
          let had = owes seat s e in
          let its : bios_in s.session r ≡ length r.bios = bios_in-same s.session r (sym (session_is m seat r.session s e sits)) in
          omega (arith, had, its, length-completed effect m.overlay r.bios))
    ] refl
