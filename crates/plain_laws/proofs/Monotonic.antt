-- Every step lets no virtual time fall of a group that stands before and after it.
use Rattle.std.proofs.Common.{true, false, ◌≡◌, inl, inr, ℕ, ◌≤◌, not, Some, None, refl, sym, ap, ◌∙◌, subst, arith}
use Rattle.std.proofs.lemmas.Bool.{cases_eq}
use Rattle.sector_core.specs.declared.class.Class.TheVariants.{BestEffort}
use Rattle.plain.specs.Groups.{entity_of, path}
use Rattle.plain.specs.Classes.{Classes, same_times, time_of, with_vtimes}
use Rattle.plain.specs.Machine.{Bfq, Plain}
use Rattle.plain.specs.Rules.{vtime_of, stands, group_of}
use Rattle.plain.specs.Opening.{Limits}
use Rattle.plain.specs.Steps.Attach.{attached}
use Rattle.plain.specs.Steps.Submit.{submitted}
use Rattle.plain.specs.Steps.Leave.{left}
use Rattle.plain.specs.Steps.Finish.{effect_of, after_finish}
use Rattle.plain.specs.Entities.{without_entity, with_entity}
use Rattle.plain.specs.Steps.GroupMake.{free_group}
use Rattle.plain_laws.specs.Times.{VtimesNeverFall, KeepsVtimes}
use Rattle.plain_laws.proofs.Puts.{put_other}
use Rattle.plain_laws.proofs.Flights.{find-numbers}
use Rattle.plain_laws.proofs.Leads.{made, Steps, step-steps}
use Rattle.plain_laws.proofs.Rules.{Any, all_any, woken-bfq, sent_by_bfq-rules}
use Rattle.plain_laws.proofs.Ruled.{left-bfq, after_finish-bfq}
use Rattle.plain_laws.proofs.Times.{Rise, Rise-refl, Rise-member, rise-changes}

-- no time has fallen since
since : (b : Bfq) (m : Plain) (c : Bfq) → m.bfq ≡ b → Rise m.bfq c → VtimesNeverFall b c
since b m c is rise = subst (λ (a : Bfq). VtimesNeverFall a c) is (λ group class before after. rise group class)

-- a new group did not stand before; in its parent the members alone change
made-since : (l : Limits) (b : Bfq) (group parent weight : ℕ) → free_group b ≡ Some group → VtimesNeverFall b (made l group parent weight b)
made-since l b group parent weight found g class before after =
    let inside : Bfq = with_entity l (entity_of group) parent BestEffort weight b in
    let free : not (stands b group) ≡ true = (find-numbers (λ g. not (stands b g)) 1 31 group found).2 in
    elim (cases_eq g group) [
      | inl is ↦ let stood : stands b group ≡ true = sym (ap (stands b) is) ∙ before in cc
      | inr ne ↦
          let others : vtime_of (made l group parent weight b) g class ≡ vtime_of inside g class =
          ap (λ (t : Classes). time_of t.vtimes class) (put_other inside.service group (with_vtimes (inside.service group) (same_times l.first_vtime)) g ne) in
          let members : vtime_of b g class ≤ vtime_of inside g class = Rise-member b parent (entity_of group) _ g class in
          omega (arith, others, members)
    ]

-- every step but a switch
since-steps : (l : Limits) (b : Bfq) → Steps l ⊥ (λ n m. m.bfq ≡ b) (λ n m. VtimesNeverFall b m.bfq)
since-steps l b =
    let same : (m : Plain) → m.bfq ≡ b → VtimesNeverFall b m.bfq = λ m is. since b m m.bfq is (Rise-refl m.bfq) in
    record {
      later = λ n n' m le h. h;
      stays = λ n m is. same m is;
      attaches = λ n m seat group prio class small free known few is. since b m (attached l m n seat group prio class).bfq is (λ g d. Rise-member m.bfq group seat _ g d);
      submits = λ n m seat session op range payload next small its sized w is.
          let rises : Rise m.bfq next.bfq =
          woken-bfq Any (Rise m.bfq) (rise-changes 0 m.bfq).stamps m seat (submitted m n seat session op range payload) next (all_any (path m.bfq.parent seat)) w (Rise-refl m.bfq) (Rise-refl m.bfq) in
          since b m next.bfq is rises;
      reaps = λ n m seat bio bios first is. same m is;
      leaves = λ n m seat small there is. since b m (left l m seat).bfq is (left-bfq l (Rise m.bfq) seat m (Rise-refl m.bfq) (λ g d. Rise-member m.bfq (group_of m.bfq seat) seat None g d));
      takes_turns = λ n m seat tag r rest none first low free is. same m is;
      sends = λ n m tag o bfq sent low free is. since b m o.0.bfq is (sent_by_bfq-rules l Any (Rise m.bfq) (rise-changes l.max_budget m.bfq) m n tag o sent (Rise-refl m.bfq));
      resends = λ n m tag r rest first low free is. same m is;
      finishes = λ n m tag f outcome low borne fit is.
          since b m (after_finish l m tag (effect_of outcome f.request.op) f.request).bfq is (after_finish-bfq l (Rise m.bfq) m tag (effect_of outcome f.request.op) f.request (Rise-refl m.bfq) (λ seat g d. Rise-member m.bfq (group_of m.bfq seat) seat None g d));
      gives_back = λ n m tag f low borne is. same m is;
      makes = λ n m group parent weight known weighs few free is. subst (λ (a : Bfq). VtimesNeverFall a (made l group parent weight m.bfq)) is (made-since l m.bfq group parent weight free);
      drops = λ n m group known other unused is. since b m (without_entity (entity_of group) m.bfq) is (λ g d. Rise-member m.bfq (group_of m.bfq (entity_of group)) (entity_of group) None g d);
      weighs = λ n m group weight known other weighs is. same m is;
      freezes = λ n m frozen is. same m is;
      switches = λ never n m scheduler none is. absurd never;
      ticks = λ n m slot there is. same m is;
    }

-- the law
pub step-vtimes : (l : Limits) (m : Plain) → KeepsVtimes l m
step-vtimes l m n room s other =
    step-steps l ⊥ (λ n x. x.bfq ≡ m.bfq) (λ n x. VtimesNeverFall m.bfq x.bfq) (since-steps l m.bfq) m n room s (λ is. let bad : true ≡ false = sym is ∙ other in cc) refl
