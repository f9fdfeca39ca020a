-- Under BFQ a session's entity is idle exactly where its queue is empty.
use Rattle.std.proofs.Common.{true, false, Bool, ◌≡◌, ◌≢◌, inl, inr, ℕ, zero, suc, ◌+◌, ◌<◌, ◌≤◌, nat_lt, not, ◌&&◌, List, [], ◌∷◌, length, Option, Some, None, is_some, unwrap_or, ◌==◌, eqb-true, cond, slice_index_or, replicate, refl, sym, ap, ◌∙◌, subst, arith}
use Rattle.std.specs.Option.{is_none, option_map}
use Rattle.std.proofs.lemmas.Bool.{cases_eq, ltb-true, ltb-false}
use Rattle.plain.specs.declared.member.Member.{Member}
use Rattle.sector_core.specs.declared.bio.BioFields.{BioFields as Bio}
use Rattle.sector_core.specs.declared.bio.Op.{Op}
use Rattle.sector_core.specs.declared.range.Range.{Range}
use Rattle.sector_core.specs.declared.class.Class.{Class}
use Rattle.sector_core.specs.declared.class.Class.TheVariants.{BestEffort}
use Rattle.plain.specs.Classes.{same_times}
use Rattle.plain.specs.Lists.{is_empty}
use Rattle.plain.specs.Merge.{joins_at, merge_of}
use Rattle.plain.specs.Groups.{has_entity, entity_of}
use Rattle.plain.specs.declared.seat.Seat.{Seat}
use Rattle.plain.specs.declared.seat.InService.{InService}
use Rattle.plain.specs.Opening.{empty_service, Limits, opening}
use Rattle.plain.specs.Machine.{WholeRequest, Bfq, Plain, put}
use Rattle.plain.specs.declared.seat.Expiry.{Expiry}
use Rattle.plain.specs.declared.seat.Expiry.TheVariants.{Emptying}
use Rattle.plain.specs.Rules.{absent, is_idle, group_of, activate, select, expire, stands}
use Rattle.plain.specs.declared.answer.Reply.{Reply}
use Rattle.plain.specs.Entities.{is_bfq, with_entity, without_entity}
use Rattle.plain.specs.Steps.Attach.{attached}
use Rattle.plain.specs.Steps.Submit.{new_bio, with_bio, change_first, queue_with, submitted, woken}
use Rattle.plain.specs.Requests.{range_of, shape}
use Rattle.plain.specs.Steps.Dispatch.{has_queued, with_budget_in, with_selected, without_empty, sent_by_bfq}
use Rattle.plain.specs.Steps.Tick.{older}
use Rattle.plain_laws.proofs.Puts.{put_here, put_other, some_is, map_is}
use Rattle.plain_laws.proofs.Leads.{made}
use Rattle.plain_laws.proofs.Sent.{rest_of, sent-is}
use Rattle.plain_laws.proofs.Placed.{placed, placed-here, placed-elsewhere, placed-other, length-member, places_of}
use Rattle.bfq_laws.proofs.Quiet.{activate-quiet, charge-slot, expire-slot}
use Rattle.bfq_laws.proofs.Overdue.{overdue}
use Rattle.bfq_laws.proofs.Walk.{entered, gone}
use Rattle.bfq_laws.proofs.Tree.{Over, Over-same, Over-trans, Over-vtime, idle, idle-over, Tree, Tree-over, sits-above, Sets, activate-sets, charge-over, expire-sets, Choice, select-choice}

-- each taken seat's entity is idle exactly where its queue is empty; and the queue in service, if one is, is not empty
pub record Busy (seats : ℕ → Option Seat) (queue : ℕ → List WholeRequest) (b : Bfq) : Type 0 where
  pub tree : Tree seats b
  pub rests : (e : ℕ) → e < 16 → is_some (seats e) ≡ true → idle b e ≡ is_empty (queue e)
  pub serves : (slot : InService) → b.in_service ≡ Some slot → (slot.seat < 16) × (is_some (seats slot.seat) ≡ true) × (is_empty (queue slot.seat) ≡ false)

-- and a free seat has nothing queued
pub record Tidy (m : Plain) : Type 0 where
  pub busy : Busy m.seat m.queue m.bfq
  pub free : (e : ℕ) → is_some (m.seat e) ≡ false → is_empty (m.queue e) ≡ true

Busy-over : (seats : ℕ → Option Seat) (queue : ℕ → List WholeRequest) (b c : Bfq) → Over b c → c.in_service ≡ b.in_service → Busy seats queue b → Busy seats queue c
Busy-over seats queue b c over slots h = record {
  tree = Tree-over seats b c over h.tree;
  rests = λ e lt sits. idle-over b c e lt over ∙ h.rests e lt sits;
  serves = λ slot at. h.serves slot (sym slots ∙ at);
}

-- the same seats are taken
abbrev pub Alike : (ℕ → Option Seat) → (ℕ → Option Seat) → Type 0
Alike before after = (seat : ℕ) → is_some (after seat) ≡ is_some (before seat)

mapped : (f : Seat → Seat) (o : Option Seat) → is_some (option_map f o) ≡ is_some o
mapped f None = refl
mapped f (Some s) = refl

pub put-alike : (seats : ℕ → Option Seat) (seat : ℕ) (f : Seat → Seat) → Alike seats (put seats seat (option_map f (seats seat)))
put-alike seats seat f e = elim (cases_eq e seat) [
  | inl same ↦ ap is_some (put_here seats seat (option_map f (seats seat)) e same) ∙ mapped f (seats seat) ∙ ap (λ k. is_some (seats k)) (sym same)
  | inr other ↦ ap is_some (put_other seats seat (option_map f (seats seat)) e other)
]

pub Tree-alike : (before after : ℕ → Option Seat) (b : Bfq) → Alike before after → Tree before b → Tree after b
Tree-alike before after b alike h = record {
  above = λ e lt sits. h.above e lt (sym (alike e) ∙ sits);
  known = λ g e lt there. let k = h.known g e lt there in (alike e ∙ k.0, k.1);
  lengths = h.lengths;
}

-- a queue with one more bio is not empty
changed-some : (passes : WholeRequest → Bool) (f : WholeRequest → WholeRequest) (x : WholeRequest) (xs : List WholeRequest) → is_empty (change_first passes f (x ∷ xs)) ≡ false
changed-some passes f x xs = elim (passes x) as (λ t. is_empty (cond t (f x ∷ xs) (x ∷ change_first passes f xs)) ≡ false) [ true ↦ refl | false ↦ refl ]

joined-some : (session : ℕ) (op : Op) (bio : Bio) (found : Option (WholeRequest × Bool)) (x : WholeRequest) (xs : List WholeRequest) → is_empty (queue_with session op bio found (x ∷ xs)) ≡ false
joined-some session op bio None x xs = refl
joined-some session op bio (Some found) x xs = changed-some (joins_at shape found.1 session op bio.range) (with_bio found.1 bio) x xs

queued-some : (session : ℕ) (op : Op) (bio : Bio) (queue : List WholeRequest) → is_empty (queue_with session op bio (merge_of shape queue session op bio.range) queue) ≡ false
queued-some session op bio [] = refl
queued-some session op bio (x ∷ xs) = joined-some session op bio (merge_of shape (x ∷ xs) session op bio.range) x xs

outside : (a x : Bool) → cond (a && false) x false ≡ true → ⊥
outside true x e = cc
outside false x e = cc

second_true : (a b : Bool) → (a && b) ≡ true → b ≡ true
second_true true b e = e
second_true false b e = cc

second_false : (a b : Bool) → a ≡ true → (a && b) ≡ false → b ≡ false
second_false true b t e = e
second_false false b t e = cc

pub stood : (b : Bfq) (group : ℕ) → stands b group ≡ true → group < 32
stood b group e = elim (group == 0) as (λ t. (group == 0) ≡ t → cond t true (cond (has_entity group) (is_some (b.parent (16 + group))) false) ≡ true → group < 32) [
  | true ↦ λ z _. let is : group ≡ 0 = eqb-true group 0 z in omega (arith, is)
  | false ↦ λ _ f.
      elim (nat_lt group 32) as (λ t. nat_lt group 32 ≡ t → cond (nat_lt 0 group && t) (is_some (b.parent (16 + group))) false ≡ true → group < 32) [
        | true ↦ λ lt _. ltb-true group 32 lt
        | false ↦ λ _ g. absurd (outside (nat_lt 0 group) (is_some (b.parent (16 + group))) g)
      ] refl f
] refl e

-- Attach: a free seat is not that of the queue in service, and its queue is empty.
pub attached-tidy : (l : Limits) (m : Plain) (n seat group prio : ℕ) (class : Class) → seat < 16 → m.seat seat ≡ None → stands m.bfq group ≡ true → Tidy m → Tidy (attached l m n seat group prio class)
attached-tidy l m n seat group prio class small free is h =
    let next : Plain = attached l m n seat group prio class in
    let b : Bfq = m.bfq in
    let c : Bfq = next.bfq in
    let low : group < 32 = stood b group is in
    let empty : is_empty (m.queue seat) ≡ true = h.free seat (ap is_some free) in
    let len : length (places_of b group) ≡ 48 = h.busy.tree.lengths group low in
    let room : seat < length (places_of b group) = omega (arith, small, len) in
    let apart : (e : ℕ) → is_some (m.seat e) ≡ true → e ≢ seat = λ e sits same. let no : is_some (m.seat e) ≡ false = ap (λ k. is_some (m.seat k)) same ∙ ap is_some free in cc in
    let before : (e : ℕ) → e ≢ seat → is_some (next.seat e) ≡ is_some (m.seat e) = λ e other. ap is_some (put_other m.seat seat _ e other) in
    let sits_now : (e : ℕ) → e ≡ seat → is_some (next.seat e) ≡ true = λ e same. ap is_some (put_here m.seat seat _ e same) in
    let rests_now : idle c seat ≡ true =
    ap (λ o. is_idle (unwrap_or (placed c (unwrap_or o 0) seat) absent).state) (put_here b.parent seat (Some group) seat refl)
    ∙ ap (λ o. is_idle (unwrap_or o absent).state) (placed-here b group seat _ room) in
    record {
      busy = record {
        tree = record {
          above = λ e lt sits. elim (cases_eq e seat) [
            | inl same ↦ (group, put_here b.parent seat (Some group) e same, low)
            | inr other ↦ let a = h.busy.tree.above e lt (sym (before e other) ∙ sits) in (a.0, put_other b.parent seat (Some group) e other ∙ a.1, a.2)
          ];
          known = λ g e lt there. elim (cases_eq e seat) [
            | inl same ↦ elim (cases_eq g group) [
              | inl its ↦ (sits_now e same, put_here b.parent seat (Some group) e same ∙ ap (λ j. Some j) (sym its))
              | inr away ↦ absurd (apart e (h.busy.tree.known g e lt (ap is_some (sym (placed-elsewhere b group _ _ g e away)) ∙ there)).0 same)
            ]
            | inr other ↦
                let k = h.busy.tree.known g e lt (ap is_some (sym (placed-other b group seat _ g e other)) ∙ there) in
                (before e other ∙ k.0, put_other b.parent seat (Some group) e other ∙ k.1)
          ];
          lengths = λ g lt. length-member b group seat _ g ∙ h.busy.tree.lengths g lt;
        };
        rests = λ e lt sits. elim (cases_eq e seat) [
          | inl same ↦ ap (idle c) same ∙ rests_now ∙ sym empty ∙ ap (λ k. is_empty (m.queue k)) (sym same)
          | inr other ↦
              ap (λ o. is_idle (unwrap_or (placed c (unwrap_or o 0) e) absent).state) (put_other b.parent seat (Some group) e other)
              ∙ ap (λ o. is_idle (unwrap_or o absent).state) (placed-other b group seat _ (group_of b e) e other)
              ∙ h.busy.rests e lt (sym (before e other) ∙ sits)
        ];
        serves = λ slot at. let s = h.busy.serves slot at in (s.0, before slot.seat (apart slot.seat s.1) ∙ s.1, s.2);
      };
      free = λ e no. elim (cases_eq e seat) [
        | inl same ↦ let yes : is_some (next.seat e) ≡ true = sits_now e same in cc
        | inr other ↦ h.free e (sym (before e other) ∙ no)
      ];
    }

-- Submit
submitted-tidy : (m : Plain) (n seat session : ℕ) (op : Op) (range : Range) (payload : List ℕ) (b : Bfq) → is_some (m.seat seat) ≡ true → Sets m.seat seat false m.bfq b → b.in_service ≡ m.bfq.in_service
    → Tidy m → Tidy (record (submitted m n seat session op range payload) { bfq = b })
submitted-tidy m n seat session op range payload b taken sets slots h =
    let next : Plain = submitted m n seat session op range payload in
    let bio : Bio = new_bio n range payload in
    let alike : Alike m.seat next.seat = put-alike m.seat seat _ in
    let full : is_empty (next.queue seat) ≡ false = ap is_empty (put_here m.queue seat _ seat refl) ∙ queued-some session op bio (m.queue seat) in
    record {
      busy = record {
        tree = Tree-alike m.seat next.seat b alike sets.tree;
        rests = λ e lt sits. elim (cases_eq e seat) [
          | inl same ↦ ap (idle b) same ∙ sets.here ∙ sym full ∙ ap (λ k. is_empty (next.queue k)) (sym same)
          | inr other ↦ sets.there e lt other ∙ h.busy.rests e lt (sym (alike e) ∙ sits) ∙ sym (ap is_empty (put_other m.queue seat _ e other))
        ];
        serves = λ slot at.
            let s = h.busy.serves slot (sym slots ∙ at) in
            let still : is_empty (next.queue slot.seat) ≡ false = elim (cases_eq slot.seat seat) [
              | inl same ↦ ap (λ k. is_empty (next.queue k)) same ∙ full
              | inr other ↦ ap is_empty (put_other m.queue seat _ slot.seat other) ∙ s.2
            ] in
            (s.0, alike slot.seat ∙ s.1, still);
      };
      free = λ e no. elim (cases_eq e seat) [
        | inl same ↦ let yes : is_some (next.seat e) ≡ true = alike e ∙ ap (λ k. is_some (m.seat k)) same ∙ taken in cc
        | inr other ↦ ap is_empty (put_other m.queue seat _ e other) ∙ h.free e (sym (alike e) ∙ no)
      ];
    }

pub woken-tidy : (m : Plain) (n seat session : ℕ) (op : Op) (range : Range) (payload : List ℕ) (o : Plain) → seat < 16 → is_some (m.seat seat) ≡ true
    → woken m seat (submitted m n seat session op range payload) ≡ Some o → (is_bfq m.scheduler ≡ true → Tidy m) → is_bfq o.scheduler ≡ true → Tidy o
woken-tidy m n seat session op range payload o small taken e had =
    let next : Plain = submitted m n seat session op range payload in
    let Q : Plain → Type 0 = λ x. is_bfq x.scheduler ≡ true → Tidy x in
    elim (is_bfq m.scheduler && is_empty (m.queue seat)) as (λ t. (is_bfq m.scheduler && is_empty (m.queue seat)) ≡ t
    → cond t (option_map (λ b. record next { bfq = b }) (activate seat m.bfq)) (Some next) ≡ Some o → Q o) [
      | true ↦ λ both is.
          let a = map_is (λ b. record next { bfq = b }) (activate seat m.bfq) o is in
          let quiet = activate-quiet seat m.bfq a.0 a.1 in
          let now : Q (record next { bfq = a.0 }) = λ under.
          let h : Tidy m = had under in
          let rests : idle m.bfq seat ≡ true = h.busy.rests seat small taken ∙ second_true (is_bfq m.scheduler) (is_empty (m.queue seat)) both in
          submitted-tidy m n seat session op range payload a.0 taken (activate-sets m.seat seat m.bfq a.0 small taken h.busy.tree rests a.1) quiet.1 h in
          subst Q a.2 now
      | false ↦ λ both is.
          let now : Q next = λ under.
          let h : Tidy m = had under in
          let awake : idle m.bfq seat ≡ false = h.busy.rests seat small taken ∙ second_false (is_bfq m.scheduler) (is_empty (m.queue seat)) under both in
          let kept = submitted-tidy m n seat session op range payload m.bfq taken (record { tree = h.busy.tree; here = awake; there = λ e lt ne. refl }) refl h in
          record { busy = kept.busy; free = kept.free } in
          subst Q (some_is next o is) now
    ] refl e

-- Dispatch
-- where the queue in service expires, with this queued then
expired-busy : (l : Limits) (cause : Expiry) (queued : Bool) (seats : ℕ → Option Seat) (queue : ℕ → List WholeRequest) (b c : Bfq)
    → ((slot : InService) → b.in_service ≡ Some slot → (slot.seat < 16) × (is_some (seats slot.seat) ≡ true) × (is_empty (queue slot.seat) ≡ not queued)) → Tree seats b
    → ((e : ℕ) → e < 16 → is_some (seats e) ≡ true → ((slot : InService) → b.in_service ≡ Some slot → e ≢ slot.seat) → idle b e ≡ is_empty (queue e))
    → expire cause l.max_budget queued b ≡ Some c → Busy seats queue c
expired-busy l cause queued seats queue b c sits tree rests e =
    let x = expire-slot cause l.max_budget queued b c e in
    let s = expire-sets seats cause l.max_budget queued b c (λ slot at. let y = sits slot at in (y.0, y.1)) tree e in
    let k : ℕ = s.0.seat in
    let sets : Sets seats k (not queued) b c = s.2 in
    record {
      tree = sets.tree;
      rests = λ i lt taken. elim (cases_eq i k) [
        | inl same ↦ ap (idle c) same ∙ sets.here ∙ sym (sits s.0 s.1).2 ∙ ap (λ j. is_empty (queue j)) (sym same)
        | inr other ↦ sets.there i lt other ∙ rests i lt taken (λ slot at same. other (same ∙ ap (λ (z : InService). z.seat) (some_is slot s.0 (sym at ∙ s.1))))
      ];
      serves = λ slot at. let none : Some slot ≡ None = sym at ∙ x.3 in cc;
    }

pub with_budget_in-busy : (l : Limits) (m : Plain) (o : Option InService) (b : Bfq) → m.bfq.in_service ≡ o → with_budget_in l m o ≡ Some b
    → Busy m.seat m.queue m.bfq → Busy m.seat m.queue b
with_budget_in-busy l m None b at e h = subst (Busy m.seat m.queue) (some_is m.bfq b e) h
with_budget_in-busy l m (Some slot) b at e h =
    elim (overdue l m slot b e) [
      | inl x ↦
          let waits : has_queued m slot.seat ≡ true = ap not (h.serves slot at).2 in
          let expires : expire x.0 l.max_budget true m.bfq ≡ Some b = subst (λ q. expire x.0 l.max_budget q m.bfq ≡ Some b) waits x.1 in
          expired-busy l x.0 true m.seat m.queue m.bfq b h.serves h.tree (λ e lt taken _. h.rests e lt taken) expires
      | inr y ↦ subst (Busy m.seat m.queue) y.1 h
    ]

pub no_slot : (o : Option InService) → is_none o ≡ true → o ≡ None
no_slot None e = refl
no_slot (Some slot) e = cc

pub with_selected-busy : (seats : ℕ → Option Seat) (queue : ℕ → List WholeRequest) (b : Bfq) → Busy seats queue b → Busy seats queue (with_selected b)
with_selected-busy seats queue b h = elim (is_none b.in_service) as (λ t. is_none b.in_service ≡ t → Busy seats queue (cond t (select b) b)) [
  | true ↦ λ none.
      let choice : Choice seats (idle b) (select b) =
      select-choice seats (idle b) b (record { tree = h.tree; same = λ e lt. refl; chosen = λ slot at. let no : Some slot ≡ None = sym at ∙ no_slot b.in_service none in cc }) in
      record {
        tree = choice.tree;
        rests = λ e lt taken. choice.same e lt ∙ h.rests e lt taken;
        serves = λ slot at. let s = choice.chosen slot at in (s.0, s.1, sym (h.rests slot.seat s.0 s.1) ∙ s.2);
      }
  | false ↦ λ _. h
] refl

-- the queue in service has lost a request
without_empty-busy : (l : Limits) (seats : ℕ → Option Seat) (queue : ℕ → List WholeRequest) (k : ℕ) (rest : List WholeRequest) (b c : Bfq)
    → ((slot : InService) → b.in_service ≡ Some slot → slot.seat ≡ k) → (slot : InService) → b.in_service ≡ Some slot → Busy seats queue b → without_empty l rest b ≡ Some c → Busy seats (put queue k rest) c
without_empty-busy l seats queue k rest b c its slot at h e =
    elim (is_empty rest) as (λ t. is_empty rest ≡ t → cond t (expire Emptying l.max_budget false b) (Some b) ≡ Some c → Busy seats (put queue k rest) c) [
      | true ↦ λ empty f.
          let x = expire-slot Emptying l.max_budget false b c f in
          expired-busy l Emptying false seats (put queue k rest) b c
          (λ slot at. let s = h.serves slot at in (s.0, s.1, ap is_empty (put_here queue k rest slot.seat (its slot at)) ∙ empty)) h.tree
          (λ e lt taken apart.
          let other : e ≢ k = λ same. apart x.0 x.1 (same ∙ sym (its x.0 x.1)) in
          h.rests e lt taken ∙ sym (ap is_empty (put_other queue k rest e other))) f
      | false ↦ λ full f. subst (Busy seats (put queue k rest)) (some_is b c f) (record {
        tree = h.tree;
        rests = λ e lt taken. elim (cases_eq e k) [
          | inl same ↦ h.rests e lt taken ∙ ap (λ j. is_empty (queue j)) (same ∙ sym (its slot at)) ∙ (h.serves slot at).2 ∙ sym (ap is_empty (put_here queue k rest e same) ∙ full)
          | inr other ↦ h.rests e lt taken ∙ sym (ap is_empty (put_other queue k rest e other))
        ];
        serves = λ slot at. let s = h.serves slot at in (s.0, s.1, ap is_empty (put_here queue k rest slot.seat (its slot at)) ∙ full);
      })
    ] refl e

pub sent_by_bfq-tidy : (l : Limits) (m : Plain) (n tag : ℕ) (o : Plain × Reply) → sent_by_bfq l m n tag ≡ Some o → Tidy m → Tidy o.0
sent_by_bfq-tidy l m n tag o e h =
    let s = sent-is l m n tag o e in
    let b : Bfq = with_selected s.ready in
    let ready : Busy m.seat m.queue b = with_selected-busy m.seat m.queue s.ready (with_budget_in-busy l m m.bfq.in_service s.ready refl s.readies h.busy) in
    let k : ℕ = s.slot.seat in
    let r : WholeRequest = s.request in
    let size : ℕ = (range_of r.bios).count in
    let rest : List WholeRequest = rest_of m k r in
    let c : Bfq = s.charged in
    let x = charge-slot size b c s.charges in
    let over : Over b c = charge-over size b c s.charges in
    let now : InService = record x.0 { service = x.0.service + size } in
    let one : x.0.seat ≡ k = ap (λ (z : InService). z.seat) (some_is x.0 s.slot (sym x.1 ∙ s.serves)) in
    let its : (other : InService) → c.in_service ≡ Some other → other.seat ≡ k = λ other at. ap (λ (z : InService). z.seat) (some_is other now (sym at ∙ x.3)) ∙ one in
    let before = ready.serves x.0 x.1 in
    let P : ℕ → Type 0 = λ j. (j < 16) × (is_some (m.seat j) ≡ true) × (is_empty (m.queue j) ≡ false) in
    let at_k : P k = subst P one before in
    let after : Busy m.seat m.queue c = record {
      tree = Tree-over m.seat b c over ready.tree;
      rests = λ e lt sits. idle-over b c e lt over ∙ ready.rests e lt sits;
      serves = λ other at. subst P (sym (its other at)) at_k;
    } in
    let ended : Busy m.seat (put m.queue k rest) s.last = without_empty-busy l m.seat m.queue k rest c s.last its now x.3 after s.ends in
    let Q : Plain × Reply → Type 0 = λ y. Tidy y.0 in
    subst Q s.made (record {
      busy = record { tree = ended.tree; rests = ended.rests; serves = ended.serves };
      free = λ e no. elim (cases_eq e k) [
        | inl same ↦ let sits : is_some (m.seat e) ≡ true = ap (λ j. is_some (m.seat j)) same ∙ at_k.1 in cc
        | inr other ↦ ap is_empty (put_other m.queue k rest e other) ∙ h.free e no
      ];
    })

-- a seat's entry changes
pub entered-tidy : (m : Plain) (seat : ℕ) (f : Seat → Seat) (outbox : ℕ → List Bio) → Tidy m → Tidy (entered m seat f outbox)
entered-tidy m seat f outbox h =
    let next : Plain = entered m seat f outbox in
    let alike : Alike m.seat next.seat = put-alike m.seat seat f in
    record {
      busy = record {
        tree = Tree-alike m.seat next.seat m.bfq alike h.busy.tree;
        rests = λ e lt sits. h.busy.rests e lt (sym (alike e) ∙ sits);
        serves = λ slot at. let s = h.busy.serves slot at in (s.0, alike slot.seat ∙ s.1, s.2);
      };
      free = λ e no. h.free e (sym (alike e) ∙ no);
    }

-- the queue in service of a seat that goes would be empty
pub away-from : (m : Plain) (k : ℕ) → is_empty (m.queue k) ≡ true → Tidy m → (slot : InService) → m.bfq.in_service ≡ Some slot → slot.seat ≢ k
away-from m k empty h slot at same =
    let s = h.busy.serves slot at in let no : is_empty (m.queue slot.seat) ≡ true = ap (λ j. is_empty (m.queue j)) same ∙ empty in cc

-- a seat with an empty queue is free again
pub gone-tidy : (m : Plain) (k : ℕ) → k < 16 → is_some (m.seat k) ≡ true → is_empty (m.queue k) ≡ true → Tidy m → Tidy (gone m k)
gone-tidy m k small taken empty h =
    let b : Bfq = m.bfq in
    let next : Plain = gone m k in
    let c : Bfq = next.bfq in
    let g : ℕ = group_of b k in
    let up = sits-above m.seat k b small taken h.busy.tree in
    let len : length (places_of b g) ≡ 48 = h.busy.tree.lengths g up.1 in
    let room : k < length (places_of b g) = omega (arith, small, len) in
    let before : (e : ℕ) → e ≢ k → is_some (next.seat e) ≡ is_some (m.seat e) = λ e other. ap is_some (put_other m.seat k None e other) in
    let apart : (e : ℕ) → is_some (next.seat e) ≡ true → e ≢ k = λ e sits same. let no : is_some (next.seat e) ≡ false = ap is_some (put_here m.seat k None e same) in cc in
    record {
      busy = record {
        tree = record {
          above = λ e lt sits.
              let other = apart e sits in
              let a = h.busy.tree.above e lt (sym (before e other) ∙ sits) in
              (a.0, put_other b.parent k None e other ∙ a.1, a.2);
          known = λ j e lt there. elim (cases_eq e k) [
            | inl same ↦ elim (cases_eq j g) [
              | inl its ↦
                  let no : is_some (placed c j e) ≡ false =
                  ap (λ x. is_some (placed c j x)) same ∙ ap (λ i. is_some (placed c i k)) its ∙ ap is_some (placed-here b g k None room) in cc
              | inr other ↦
                  let w = h.busy.tree.known j e lt (ap is_some (sym (placed-elsewhere b g _ _ j e other)) ∙ there) in
                  absurd (other (some_is j g (sym w.1 ∙ ap b.parent same ∙ up.0)))
            ]
            | inr other ↦
                let w = h.busy.tree.known j e lt (ap is_some (sym (placed-other b g k None j e other)) ∙ there) in
                (before e other ∙ w.0, put_other b.parent k None e other ∙ w.1)
          ];
          lengths = λ j lt. length-member b g k None j ∙ h.busy.tree.lengths j lt;
        };
        rests = λ e lt sits.
            let other = apart e sits in
            ap (λ o. is_idle (unwrap_or (placed c (unwrap_or o 0) e) absent).state) (put_other b.parent k None e other)
            ∙ ap (λ o. is_idle (unwrap_or o absent).state) (placed-other b g k None (group_of b e) e other)
            ∙ h.busy.rests e lt (sym (before e other) ∙ sits);
        serves = λ slot at. let s = h.busy.serves slot at in (s.0, before slot.seat (away-from m k empty h slot at) ∙ s.1, s.2);
      };
      free = λ e no. elim (cases_eq e k) [
        | inl same ↦ ap (λ j. is_empty (m.queue j)) same ∙ empty
        | inr other ↦ h.free e (sym (before e other) ∙ no)
      ];
    }

-- the queue in service is one tick older
pub ticked-tidy : (m : Plain) (slot : InService) → m.bfq.in_service ≡ Some slot → Tidy m → Tidy (record m { bfq = record m.bfq { in_service = Some (older slot) } })
ticked-tidy m slot is h =
    let c : Bfq = record m.bfq { in_service = Some (older slot) } in
    let over : Over m.bfq c = Over-same m.bfq c refl refl in
    let P : InService → Type 0 = λ s. (s.seat < 16) × (is_some (m.seat s.seat) ≡ true) × (is_empty (m.queue s.seat) ≡ false) in
    record {
      busy = record {
        tree = Tree-over m.seat m.bfq c over h.busy.tree;
        rests = λ e lt sits. idle-over m.bfq c e lt over ∙ h.busy.rests e lt sits;
        serves = λ other at. subst P (some_is (older slot) other at) (h.busy.serves slot is);
      };
      free = h.free;
    }

-- what BFQ knows of sessions' queues is as it was
pub over-tidy : (m : Plain) (c : Bfq) → Over m.bfq c → c.in_service ≡ m.bfq.in_service → Tidy m → Tidy (record m { bfq = c })
over-tidy m c over slots h =
    let kept : Busy m.seat m.queue c = Busy-over m.seat m.queue m.bfq c over slots h.busy in
    record { busy = kept; free = h.free }

-- a group is made under its parent, or goes
pub made-over : (l : Limits) (b : Bfq) (group parent weight : ℕ) → Over b (made l group parent weight b)
made-over l b group parent weight =
    let k : ℕ = entity_of group in
    let high : 16 ≤ k = omega arith in
    let with_it : Bfq = with_entity l k parent BestEffort weight b in
    let over : Over b with_it = record {
      parents = λ e lt. put_other b.parent k (Some parent) e (λ same. absurd (omega (arith, same, lt, high)));
      places = λ g e lt. placed-other b parent k _ g e (λ same. absurd (omega (arith, same, lt, high)));
      lengths = λ g. length-member b parent k _ g;
    } in
    Over-trans b with_it (made l group parent weight b) over (Over-vtime with_it group (same_times l.first_vtime))

pub dropped-over : (b : Bfq) (group : ℕ) → Over b (without_entity (entity_of group) b)
dropped-over b group =
    let k : ℕ = entity_of group in
    let high : 16 ≤ k = omega arith in
    record {
      parents = λ e lt. put_other b.parent k None e (λ same. absurd (omega (arith, same, lt, high)));
      places = λ g e lt. placed-other b (group_of b k) k None g e (λ same. absurd (omega (arith, same, lt, high)));
      lengths = λ g. length-member b (group_of b k) k None g;
    }

-- before the first step
free_place : (place : Option Member) (n k : ℕ) → slice_index_or (replicate n place) k place ≡ place
free_place place zero k = refl
free_place place (suc n) zero = refl
free_place place (suc n) (suc k) = free_place place n k

pub opening-none : (l : Limits) (g e : ℕ) → placed (opening l).bfq g e ≡ None
opening-none l g e = elim (nat_lt g 32) as (λ t. slice_index_or (cond t (empty_service l.first_vtime) (record { vtimes = same_times 0; members = [] })).members e None ≡ None) [
  | true ↦ free_place None 48 e
  | false ↦ refl
]

pub opening-tidy : (l : Limits) → Tidy (opening l)
opening-tidy l = record {
  busy = record {
    tree = record {
      above = λ e lt sits. cc;
      known = λ g e lt there.
          let none : is_some (placed (opening l).bfq g e) ≡ false = elim (nat_lt g 32) as (λ t. is_some (slice_index_or (cond t (empty_service l.first_vtime) (record { vtimes = same_times 0; members = [] })).members e None) ≡ false) [
            | true ↦ ap is_some (free_place None 48 e)
            | false ↦ refl
          ] in cc;
      lengths = λ g lt. elim (nat_lt g 32) as (λ t. nat_lt g 32 ≡ t → length (cond t (empty_service l.first_vtime) (record { vtimes = same_times 0; members = [] })).members ≡ 48) [
        | true ↦ λ _. refl
        | false ↦ λ no. let far : 32 ≤ g = ltb-false g 32 no in absurd (omega (arith, far, lt))
      ] refl;
    };
    rests = λ e lt sits. cc;
    serves = λ slot at. cc;
  };
  free = λ e no. refl;
}
