-- The queues as BFQ knows them: under another scheduler it knows of none, and so every session's entity is idle.
use Rattle.std.proofs.Common.{true, false, Bool, ◌≡◌, inl, inr, ℕ, ◌+◌, ◌<◌, nat_lt, ◌&&◌, List, [], Option, Some, is_some, cond, refl, sym, ap, ◌∙◌, subst}
use Rattle.std.specs.Option.{option_map}
use Rattle.std.proofs.lemmas.Bool.{cases_eq, ltb-true, ltb-false}
use Rattle.sector_core.specs.declared.bio.Op.{Op}
use Rattle.sector_core.specs.declared.range.Range.{Range}
use Rattle.sector_core.specs.declared.config.Scheduler.{Scheduler}
use Rattle.plain.specs.Lists.{is_empty}
use Rattle.plain.specs.declared.seat.Seat.{Seat}
use Rattle.plain.specs.declared.seat.InService.{InService}
use Rattle.plain.specs.Machine.{WholeRequest, Bfq, Plain}
use Rattle.plain.specs.Rules.{group_of, put_vtimes, activate}
use Rattle.plain.specs.declared.answer.Reply.{Reply}
use Rattle.plain.specs.Opening.{Limits}
use Rattle.plain.specs.Entities.{is_bfq}
use Rattle.plain.specs.Sessions.{unreaped, with_unreaped}
use Rattle.plain.specs.Steps.Submit.{submitted, woken}
use Rattle.plain.specs.Steps.Dispatch.{sent_by_bfq}
use Rattle.plain.specs.Steps.Switch.{with_first_budgets, begun_again, switched}
use Rattle.plain_laws.proofs.Puts.{some_is, map_is}
use Rattle.plain_laws.proofs.Sent.{sent-is}
use Rattle.plain_laws.proofs.Begun.{timed, begun-keeps}
use Rattle.bfq_laws.proofs.Walk.{sent_in_turn}
use Rattle.bfq_laws.proofs.Tree.{Over, Over-same, Over-member, Over-vtime, idle, idle-over, Tree, Tree-over, Sets, sets-own}
use Rattle.bfq_laws.proofs.Busy.{Tidy, woken-tidy, entered-tidy, sent_by_bfq-tidy}
use Rattle.bfq_laws.proofs.Owned.{Owned, free-empty}
use Rattle.plain.specs.Classes.{same_times}

-- the queues that BFQ knows of, where this is whether it is the scheduler
abbrev pub seen : Bool → Plain → Plain
seen known m = record m { queue = λ seat. cond known (m.queue seat) [] }

abbrev pub under : Plain → Plain
under m = seen (is_bfq m.scheduler) m

abbrev pub Calm : Plain → Type 0
Calm m = Tidy (under m)

pub calm-as : (m : Plain) (known : Bool) → is_bfq m.scheduler ≡ known → Calm m → Tidy (seen known m)
calm-as m known e h = let P : Bool → Type 0 = λ t. Tidy (seen t m) in subst P e h

pub as-calm : (m : Plain) (known : Bool) → is_bfq m.scheduler ≡ known → Tidy (seen known m) → Calm m
as-calm m known e h = let P : Bool → Type 0 = λ t. Tidy (seen t m) in subst P (sym e) h

-- under BFQ it knows of all
pub calm-tidy : (m : Plain) → is_bfq m.scheduler ≡ true → Calm m → Tidy m
calm-tidy m e h = let t : Tidy (seen true m) = calm-as m true e h in record { busy = t.busy; free = t.free }

pub tidy-calm : (m : Plain) → is_bfq m.scheduler ≡ true → Tidy m → Calm m
tidy-calm m e h = let t : Tidy (seen true m) = record { busy = h.busy; free = h.free } in as-calm m true e t

-- Submit
pub woken-scheduler : (m : Plain) (seat : ℕ) (next o : Plain) → woken m seat next ≡ Some o → next.scheduler ≡ o.scheduler
woken-scheduler m seat next o e =
    elim (is_bfq m.scheduler && is_empty (m.queue seat)) as (λ t. cond t (option_map (λ b. record next { bfq = b }) (activate seat m.bfq)) (Some next) ≡ Some o → next.scheduler ≡ o.scheduler) [
      | true ↦ λ is. let a = map_is (λ b. record next { bfq = b }) (activate seat m.bfq) o is in ap (λ (x : Plain). x.scheduler) a.2
      | false ↦ λ is. ap (λ (x : Plain). x.scheduler) (some_is next o is)
    ] e

-- under another scheduler nobody wakes
pub woken-none : (m : Plain) (seat : ℕ) (next o : Plain) → is_bfq m.scheduler ≡ false → woken m seat next ≡ Some o → next ≡ o
woken-none m seat next o off e =
    elim (is_bfq m.scheduler) as (λ t. t ≡ false → cond (t && is_empty (m.queue seat)) (option_map (λ b. record next { bfq = b }) (activate seat m.bfq)) (Some next) ≡ Some o → next ≡ o) [
      | true ↦ λ bad _. cc
      | false ↦ λ _ f. some_is next o f
    ] off e

pub woken-calm : (m : Plain) (n seat session : ℕ) (op : Op) (range : Range) (payload : List ℕ) (o : Plain) → seat < 16 → is_some (m.seat seat) ≡ true
    → woken m seat (submitted m n seat session op range payload) ≡ Some o → Calm m → Calm o
woken-calm m n seat session op range payload o small taken e h =
    let next : Plain = submitted m n seat session op range payload in
    let same : next.scheduler ≡ o.scheduler = woken-scheduler m seat next o e in
    elim (is_bfq m.scheduler) as (λ t. is_bfq m.scheduler ≡ t → Calm o) [
      | true ↦ λ is.
          let now : is_bfq o.scheduler ≡ true = ap is_bfq (sym same) ∙ is in
          tidy-calm o now (woken-tidy m n seat session op range payload o small taken e (λ yes. calm-tidy m yes h) now)
      | false ↦ λ no.
          let kept : Tidy (seen false next) = entered-tidy (seen false m) seat (with_unreaped (unreaped m seat + 1)) m.outbox (calm-as m false no h) in
          subst Calm (woken-none m seat next o no e) (as-calm next false no kept)
    ] refl

-- Dispatch
pub turned-calm : (m : Plain) (n seat tag : ℕ) (request : WholeRequest) (requests : List WholeRequest) → is_bfq m.scheduler ≡ false → Calm m → Calm (sent_in_turn m n seat tag request requests)
turned-calm m n seat tag request requests off h =
    let next : Plain = sent_in_turn m n seat tag request requests in
    let t : Tidy (seen false m) = calm-as m false off h in
    let kept : Tidy (seen false next) = record { busy = t.busy; free = t.free } in
    as-calm next false off kept

-- the scheduler is as it was
pub sent_by_bfq-scheduler : (l : Limits) (m : Plain) (n tag : ℕ) (o : Plain × Reply) → sent_by_bfq l m n tag ≡ Some o → m.scheduler ≡ o.0.scheduler
sent_by_bfq-scheduler l m n tag o e = ap (λ (y : Plain × Reply). y.0.scheduler) (sent-is l m n tag o e).made

pub sent-calm : (l : Limits) (m : Plain) (n tag : ℕ) (o : Plain × Reply) → is_bfq m.scheduler ≡ true → sent_by_bfq l m n tag ≡ Some o → Calm m → Calm o.0
sent-calm l m n tag o is e h = tidy-calm o.0 (ap is_bfq (sym (sent_by_bfq-scheduler l m n tag o e)) ∙ is) (sent_by_bfq-tidy l m n tag o e (calm-tidy m is h))

-- Switch: no queue has a request, so nobody waits or is served, before or after.
pub empty-seen : (known : Bool) (xs : List WholeRequest) → is_empty xs ≡ true → is_empty (cond known xs []) ≡ true
empty-seen true xs e = e
empty-seen false xs e = refl

-- sessions' queues are in their groups, idle or not as they were
pub record Same (seats : ℕ → Option Seat) (b c : Bfq) : Type 0 where
  pub tree : Tree seats c
  pub idles : (e : ℕ) → e < 16 → idle c e ≡ idle b e
  pub slots : c.in_service ≡ b.in_service
  pub parents : c.parent ≡ b.parent

same-over : (seats : ℕ → Option Seat) (b c d : Bfq) → Over c d → d.in_service ≡ c.in_service → d.parent ≡ c.parent → Same seats b c → Same seats b d
same-over seats b c d over slots parents h = record {
  tree = Tree-over seats c d over h.tree;
  idles = λ e lt. idle-over c d e lt over ∙ h.idles e lt;
  slots = slots ∙ h.slots;
  parents = parents ∙ h.parents;
}

same-timed : (l : Limits) (seats : ℕ → Option Seat) (b c : Bfq) (e : ℕ) → (e < 16 → is_some (seats e) ≡ true) → Same seats b c → Same seats b (timed l e c)
same-timed l seats b c e sits h =
    elim (nat_lt e 16) as (λ t. nat_lt e 16 ≡ t → Same seats b (timed l e c)) [
      | true ↦ λ is.
          let small : e < 16 = ltb-true e 16 is in
          let sets : Sets seats e (idle c e) c (timed l e c) = sets-own seats e c _ small (sits small) h.tree in
          record {
            tree = sets.tree;
            idles = λ i lt. elim (cases_eq i e) [
              | inl same ↦ ap (idle (timed l e c)) same ∙ sets.here ∙ ap (idle c) (sym same) ∙ h.idles i lt
              | inr other ↦ sets.there i lt other ∙ h.idles i lt
            ];
            slots = h.slots;
            parents = h.parents;
          }
      | false ↦ λ no. same-over seats b c (timed l e c) (Over-member c (group_of c e) e _ (ltb-false e 16 no)) refl refl h
    ] refl

pub begun-same : (l : Limits) (seats : ℕ → Option Seat) (b : Bfq) (scheduler : Scheduler) → ((e g : ℕ) → e < 16 → b.parent e ≡ Some g → is_some (seats e) ≡ true) → Tree seats b
    → Same seats b (begun_again l scheduler b)
begun-same l seats b scheduler sits tree = begun-keeps l (Same seats b) (record {
  times = λ c e g up h. same-timed l seats b c e (λ small. sits e g small (ap (λ (f : ℕ → Option ℕ). f e) (sym h.parents) ∙ up)) h;
  vtimes = λ c g h. same-over seats b c (put_vtimes g (same_times l.first_vtime) c) (Over-vtime c g (same_times l.first_vtime)) refl refl h;
  budgets = λ c h. same-over seats b c (with_first_budgets l c) (Over-same c (with_first_budgets l c) refl refl) refl refl h;
}) scheduler b (record { tree = tree; idles = λ e lt. refl; slots = refl; parents = refl })

-- nobody is in service then
pub drained-slot : (m : Plain) → ((seat : ℕ) → seat < 16 → is_empty (m.queue seat) ≡ true) → Calm m → (slot : InService) → m.bfq.in_service ≡ Some slot → ⊥
drained-slot m drained h slot is =
    let s = h.busy.serves slot is in
    let empty : is_empty (cond (is_bfq m.scheduler) (m.queue slot.seat) []) ≡ true = empty-seen (is_bfq m.scheduler) (m.queue slot.seat) (drained slot.seat s.0) in
    cc

pub switched-calm : (l : Limits) (m : Plain) (scheduler : Scheduler) → ((seat : ℕ) → seat < 16 → is_empty (m.queue seat) ≡ true)
    → ((e g : ℕ) → e < 16 → m.bfq.parent e ≡ Some g → is_some (m.seat e) ≡ true) → Owned m → Calm m → Calm (switched l m scheduler)
switched-calm l m scheduler drained sits owned h =
    let b : Bfq = m.bfq in
    let c : Bfq = begun_again l scheduler b in
    let same : Same m.seat b c = begun-same l m.seat b scheduler sits h.busy.tree in
    record {
      busy = record {
        tree = same.tree;
        rests = λ e lt taken.
            same.idles e lt ∙ h.busy.rests e lt taken ∙ empty-seen (is_bfq m.scheduler) (m.queue e) (drained e lt) ∙ sym (empty-seen (is_bfq scheduler) (m.queue e) (drained e lt));
        serves = λ slot at. absurd (drained-slot m drained h slot (sym same.slots ∙ at));
      };
      free = λ e no. empty-seen (is_bfq scheduler) (m.queue e) (free-empty m owned e no);
    }
