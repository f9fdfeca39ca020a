-- What each change of BFQ's part of a machine keeps, every accepted step keeps.
use Rattle.std.proofs.Common.{true, false, ◌≡◌, ℕ, ◌+◌, ◌<◌, ◌≤◌, List, [], ◌++◌, length, Some, None, cond, arith}
use Rattle.std.specs.Option.{option_map, option_map_or}
use Rattle.sector_core.specs.declared.bio.BioFields.{BioFields as Bio}
use Rattle.sector_core.specs.declared.bio.Effect.{Effect}
use Rattle.sector_core.specs.declared.class.Class.{Class}
use Rattle.sector_core.specs.declared.class.Class.TheVariants.{BestEffort}
use Rattle.plain.specs.Groups.{entity_of, path}
use Rattle.plain.specs.Classes.{same_times}
use Rattle.plain.specs.declared.seat.InService.{InService}
use Rattle.plain.specs.Machine.{WholeRequest, Bfq, Plain, put}
use Rattle.plain.specs.Rules.{put_vtimes}
use Rattle.plain.specs.Opening.{Limits}
use Rattle.plain.specs.Entities.{with_entity, without_entity, without_gone, owed_fewer}
use Rattle.plain.specs.Steps.Attach.{prio_weight}
use Rattle.plain.specs.Steps.Submit.{submitted}
use Rattle.plain.specs.Requests.{is_gone}
use Rattle.plain.specs.Steps.Leave.{with_leaving, left}
use Rattle.plain.specs.Sessions.{is_leaving}
use Rattle.plain.specs.Steps.Finish.{effect_of, seat_of, delivered, completed, after_effect, after_finish}
use Rattle.plain.specs.Steps.Switch.{with_first_budgets}
use Rattle.plain.specs.Steps.Tick.{older}
use Rattle.plain_laws.proofs.Leads.{Leads}
use Rattle.plain_laws.proofs.Rules.{Any, all_any, Changes, woken-bfq, sent_by_bfq-rules}
use Rattle.plain_laws.proofs.Begun.{Again, timed, begun-keeps}

-- what stands after steps with serials below a number, each change of BFQ's part keeps
pub record Ruled (l : Limits) (Q : ℕ → Bfq → Type 0) : Type 0 where
  pub later : (n n' : ℕ) (b : Bfq) → n ≤ n' → Q n b → Q n' b
  pub rules : (n : ℕ) → Changes l.max_budget Any (Q (n + 1))
  pub enters : (n : ℕ) (b : Bfq) (entity group : ℕ) (class : Class) (weight : ℕ) → Q n b → Q n (with_entity l entity group class weight b)
  pub begins : (n : ℕ) (b : Bfq) (seat : ℕ) → seat < 16 → Q n b → Q n (record b { budget = put b.budget seat l.first_budget })
  pub goes : (n : ℕ) (b : Bfq) (entity : ℕ) → Q n b → Q n (without_entity entity b)
  pub weighs : (n : ℕ) (b : Bfq) (entity weight : ℕ) → Q n b → Q n (record b { pending = put b.pending entity weight })
  pub opens : (n : ℕ) (b : Bfq) (group : ℕ) → Q n b → Q n (put_vtimes group (same_times l.first_vtime) b)
  pub restarts : (n : ℕ) (b : Bfq) (entity group : ℕ) → b.parent entity ≡ Some group → Q n b → Q n (timed l entity b)
  pub budgets : (n : ℕ) (b : Bfq) → Q n b → Q n (with_first_budgets l b)
  pub ticks : (n : ℕ) (b : Bfq) (slot : InService) → b.in_service ≡ Some slot → Q n b → Q (n + 1) (record b { in_service = Some (older slot) })

-- Switch
pub again : (l : Limits) (Q : ℕ → Bfq → Type 0) → Ruled l Q → (n : ℕ) → Again l (Q n)
again l Q k n = record { times = k.restarts n; vtimes = k.opens n; budgets = k.budgets n }

-- Leave, and a seat that is free with the last of a session's requests: what holds with its entity and without it
without_gone-bfq : (l : Limits) (P : Bfq → Type 0) (seat : ℕ) (m : Plain) → P m.bfq → P (without_entity seat m.bfq) → P (without_gone l seat m).bfq
without_gone-bfq l P seat m h gone =
    elim (is_gone l m seat) as (λ t. P (cond t (record m { seat = put m.seat seat None; bfq = without_entity seat m.bfq }) m).bfq) [ true ↦ gone | false ↦ h ]

pub left-bfq : (l : Limits) (P : Bfq → Type 0) (seat : ℕ) (m : Plain) → P m.bfq → P (without_entity seat m.bfq) → P (left l m seat).bfq
left-bfq l P seat m h gone =
    let marked : Plain = record m { seat = put m.seat seat (option_map with_leaving (m.seat seat)); outbox = put m.outbox seat [] } in
    without_gone-bfq l P seat (owed_fewer seat (length (m.outbox seat)) marked) h gone

-- Finish
pub after_finish-bfq : (l : Limits) (P : Bfq → Type 0) (m : Plain) (tag : ℕ) (effect : Effect) (r : WholeRequest) → P m.bfq → ((seat : ℕ) → P (without_entity seat m.bfq)) → P (after_finish l m tag effect r).bfq
after_finish-bfq l P m tag effect r h gone =
    let next : Plain = record m { overlay = after_effect effect m.overlay r.bios; flight = put m.flight tag None } in
    let bios : List Bio = completed effect m.overlay r.bios in
    elim (seat_of m r.session) as (λ o. P (option_map_or (delivered l bios next) o next).bfq) [
      | None ↦ h
      | Some seat ↦ elim (is_leaving (m.seat seat)) as (λ t. P (cond t (without_gone l seat (owed_fewer seat (length bios) next)) (record next { outbox = put next.outbox seat (next.outbox seat ++ bios) })).bfq) [
        | true ↦ without_gone-bfq l P seat (owed_fewer seat (length bios) next) h (gone seat)
        | false ↦ h
      ]
    ]

-- so does every accepted step
pub ruled-leads : (l : Limits) (Q : ℕ → Bfq → Type 0) → Ruled l Q → Leads l (λ n m. Q n m.bfq)
ruled-leads l Q k = record {
  later = λ n n' m le h. k.later n n' m.bfq le h;
  stays = λ n m h. h;
  attaches = λ n m seat group prio class small free known few h.
      let inside : Bfq = with_entity l seat group class (prio_weight prio) m.bfq in
      k.later n (n + 1) _ (omega arith) (k.begins n inside seat small (k.enters n m.bfq seat group class (prio_weight prio) h));
  submits = λ n m seat session op range payload next small its sized is h.
      let now : Q (n + 1) m.bfq = k.later n (n + 1) m.bfq (omega arith) h in
      woken-bfq Any (Q (n + 1)) (k.rules n).stamps m seat (submitted m n seat session op range payload) next (all_any (path m.bfq.parent seat)) is now now;
  reaps = λ n m seat bio bios is h. h;
  leaves = λ n m seat small there h. left-bfq l (Q n) seat m h (k.goes n m.bfq seat h);
  takes_turns = λ n m seat tag r rest none is low free h. h;
  sends = λ n m tag o bfq is low free h. sent_by_bfq-rules l Any (Q (n + 1)) (k.rules n) m n tag o is (k.later n (n + 1) m.bfq (omega arith) h);
  resends = λ n m tag r rest is low free h. h;
  finishes = λ n m tag f outcome low is fit h. after_finish-bfq l (Q n) m tag (effect_of outcome f.request.op) f.request h (λ seat. k.goes n m.bfq seat h);
  gives_back = λ n m tag f low is h. h;
  makes = λ n m group parent weight known weighs few is h. k.opens n _ group (k.enters n m.bfq (entity_of group) parent BestEffort weight h);
  drops = λ n m group known other unused h. k.goes n m.bfq (entity_of group) h;
  weighs = λ n m group weight known other weighs h. k.weighs n m.bfq (entity_of group) weight h;
  freezes = λ n m frozen h. h;
  switches = λ _ n m scheduler none h. begun-keeps l (Q n) (again l Q k n) scheduler m.bfq h;
  ticks = λ n m slot is h. k.ticks n m.bfq slot is h;
}
