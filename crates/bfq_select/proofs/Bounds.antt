-- The bounds of the numbers, after each exchange.
use Rattle.std.proofs.Common.{arith, ◌≡◌, ℕ, zero, suc, ◌≤◌, ◌^◌, ◌==◌, List, [], ◌∷◌, Option, Some, None, true, false, if◌then◌else◌, slice_index_or, slice_set, MatchOption, IfSome, sym, ap, ◌∙◌, subst}
use Rattle.sector_core.specs.declared.class.Class.{Class}
use Rattle.plain.specs.declared.member.Member.{Member}
use Rattle.plain.specs.declared.member.Vtimes.{Vtimes}
use Rattle.plain.specs.Classes.{Classes, only, time_of, with_time, with_member, with_vtimes}
use Rattle.class_laws.proofs.Times.{each_time}
use Rattle.class_laws.proofs.Highest.{active-from}
use Rattle.plain.specs.Members.{IsLeastStart, NoneActive}
use Rattle.plain.specs.declared.seat.InService.{InService}
use Rattle.plain.specs.Machine.{Bfq, put}
use Rattle.plain.specs.declared.seat.Expiry.{Expiry}
use Rattle.plain.specs.declared.seat.Expiry.TheVariants.{Exhaustion, Timeout, Emptying}
use Rattle.plain.specs.Rules.{put_member, put_vtime, budget_after}
use Rattle.bfq_select.specs.Service.{IsBounded}

-- what holds of each member and of the new one holds of each after it is put
pub each_set : {A : Type 0} (P : A → Type 0) (xs : List (Option A)) (i : ℕ) (new : A)
    → ((j : ℕ) (m : A) → slice_index_or xs j None ≡ Some m → P m) → P new
    → (j : ℕ) (m : A) → slice_index_or (slice_set xs i (Some new)) j None ≡ Some m → P m
each_set P [] i new all here j m e = all j m e
each_set P (x ∷ xs) zero new all here zero m e = let same : new ≡ m = cc in subst P same here
each_set P (x ∷ xs) zero new all here (suc j) m e = all (suc j) m e
each_set P (x ∷ xs) (suc i) new all here zero m e = all zero m e
each_set P (x ∷ xs) (suc i) new all here (suc j) m e = each_set P xs i new (λ k n f. all (suc k) n f) here j m e

-- what holds of each group's tree and of the new one holds of each after it is put
pub each_put : (P : Classes → Type 0) (f : ℕ → Classes) (group : ℕ) (new : Classes) → ((g : ℕ) → P (f g)) → P new → (g : ℕ) → P (put f group new g)
each_put P f group new all here g =
    elim (g == group) as (λ b. P (if b then new else f g)) [
      | true ↦ here
      | false ↦ all g
    ]

-- each virtual time is 2^62 at most
abbrev AreVtimes : Classes → Type 0
AreVtimes s = (class : Class) → time_of s.vtimes class ≤ 2 ^ 62

-- each member of a tree starts by 2^62, and ends by then
abbrev AreStarts : Classes → Type 0
AreStarts s = (entity : ℕ) (m : Member) → slice_index_or s.members entity None ≡ Some m → m.start ≤ 2 ^ 62

abbrev AreFinishes : Classes → Type 0
AreFinishes s = (entity : ℕ) (m : Member) → slice_index_or s.members entity None ≡ Some m → m.finish ≤ 2 ^ 62

pub bounded_member : (b c : Bfq) (group entity : ℕ) (new : Member) → c ≡ put_member group entity new b → IsBounded b → new.start ≤ 2 ^ 62 → new.finish ≤ 2 ^ 62 → IsBounded c
bounded_member b c group entity new e v start finish =
    let old = b.service group in
    let now : Classes = with_member old entity (Some new) in
    let put_in : IsBounded (put_member group entity new b) = record {
      vtimes = each_put AreVtimes b.service group now v.vtimes (v.vtimes group);
      starts = each_put AreStarts b.service group now v.starts (each_set (λ m. m.start ≤ 2 ^ 62) old.members entity new (v.starts group) start);
      finishes = each_put AreFinishes b.service group now v.finishes (each_set (λ m. m.finish ≤ 2 ^ 62) old.members entity new (v.finishes group) finish);
      least_budgets = v.least_budgets;
      most_budgets = v.most_budgets;
      served = v.served;
    } in
    subst IsBounded (sym e) put_in

pub bounded_vtime : (b c : Bfq) (group : ℕ) (class : Class) (vtime : ℕ) → c ≡ put_vtime group class vtime b → IsBounded b → vtime ≤ 2 ^ 62 → IsBounded c
bounded_vtime b c group class vtime e v small =
    let old = b.service group in
    let now : Classes = with_vtimes old (with_time old.vtimes class vtime) in
    let put_in : IsBounded (put_vtime group class vtime b) = record {
      vtimes = each_put AreVtimes b.service group now v.vtimes (each_time (λ n. n ≤ 2 ^ 62) old.vtimes class vtime (v.vtimes group) small);
      starts = each_put AreStarts b.service group now v.starts (v.starts group);
      finishes = each_put AreFinishes b.service group now v.finishes (v.finishes group);
      least_budgets = v.least_budgets;
      most_budgets = v.most_budgets;
      served = v.served;
    } in
    subst IsBounded (sym e) put_in

pub bounded_slot : (b c : Bfq) (slot : Option InService) → c ≡ record b { in_service = slot } → IsBounded b
    → ((served : InService) → slot ≡ Some served → served.service ≤ 65536) → IsBounded c
bounded_slot b c slot e v fits =
    let put_in : IsBounded (record b { in_service = slot }) = record {
      vtimes = v.vtimes;
      starts = v.starts;
      finishes = v.finishes;
      least_budgets = v.least_budgets;
      most_budgets = v.most_budgets;
      served = fits;
    } in
    subst IsBounded (sym e) put_in

-- a new budget is within the bounds of budgets
pub least_after : (cause : Expiry) (budget service most : ℕ) → 256 ≤ budget → 256 ≤ most → 256 ≤ budget_after cause budget service most
least_after Exhaustion budget service most least fits = omega (arith, least, fits)
least_after Timeout budget service most least fits = omega (arith, least, fits)
least_after Emptying budget service most least fits = omega arith

pub most_after : (cause : Expiry) (budget service most : ℕ) → most ≤ 65536 → service ≤ 65536 → budget_after cause budget service most ≤ 65536
most_after Exhaustion budget service most fits served = omega (arith, fits)
most_after Timeout budget service most fits served = omega (arith, fits)
most_after Emptying budget service most fits served = omega (arith, served)

-- the least start of a class is the start of a member
pub small_least : (b : Bfq) (group : ℕ) (class : Class) (ms : List (Option Member)) (o : Option ℕ) → IsBounded b → (b.service group).members ≡ ms
    → MatchOption o (NoneActive (only class ms)) (IsLeastStart (only class ms)) → IfSome o (λ start. start ≤ 2 ^ 62)
small_least b group class ms None v is l = tt
small_least b group class ms (Some s) v is l =
    let at = active-from class ms l.number l.member l.active_at in
    let start = v.starts group l.number l.member (ap (λ (xs : List (Option Member)). slice_index_or xs l.number None) is ∙ at.0.0) in
    omega (arith, start, l.attained)
