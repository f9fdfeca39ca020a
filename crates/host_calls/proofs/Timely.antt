-- No time is above 2^62.
use Rattle.std.proofs.Common.{true, false, ◌≡◌, inl, inr, ℕ, zero, suc, ◌+◌, ◌<◌, ◌≤◌, ◌^◌, nat_lt, List, [], ◌∷◌, Option, Some, None, cond, map, slice_index_or, slice_set, replicate, unwrap_or, refl, sym, subst, arith}
use Rattle.std.specs.List.{filter}
use Rattle.std.proofs.lemmas.Bool.{cases_eq, ltb-true}
use Rattle.sector_core.specs.declared.class.Class.{Class}
use Rattle.plain.specs.declared.member.Member.{Member}
use Rattle.plain.specs.declared.member.Vtimes.{Vtimes}
use Rattle.plain.specs.Classes.{Classes, same_times, time_of, with_time, with_member, with_vtimes}
use Rattle.class_laws.proofs.Times.{each_time, same_most}
use Rattle.class_laws.proofs.Highest.{only-placed}
use Rattle.plain.specs.Members.{is_active, numbered, lesser, least}
use Rattle.plain.specs.Groups.{path}
use Rattle.plain.specs.Opening.{empty_service, Limits, opening_bfq}
use Rattle.plain.specs.Machine.{Bfq, put}
use Rattle.plain.specs.Rules.{group_of, member_in, put_member, put_vtime, put_vtimes, service_in, absent}
use Rattle.plain.specs.declared.call.Call.{Call}
use Rattle.plain_laws.proofs.Puts.{put_here, put_other, some_is}
use Rattle.host_calls.specs.Bounds.{AreTimely, TimesAreBounded}
use Rattle.plain_laws.proofs.Placed.{places_of, placed, put_place}
use Rattle.plain_laws.proofs.Rules.{Any, all_any, Changes}
use Rattle.plain_laws.proofs.Ruled.{Ruled, ruled-leads}
use Rattle.plain_laws.proofs.Stamps.{machine-leads}

-- a member's times
abbrev HasTimes : Member → Type 0
HasTimes member = (member.start ≤ 2 ^ 62) × (member.finish ≤ 2 ^ 62)

-- this holds of each member that is there
abbrev EachMember : (Member → Type 0) → List (Option Member) → Type 0
EachMember P members = (entity : ℕ) (member : Member) → slice_index_or members entity None ≡ Some member → P member

-- each group's times
abbrev Timely : Bfq → Type 0
Timely b = (group : ℕ) → AreTimely (b.service group)

each-set : (P : Member → Type 0) (members : List (Option Member)) (i : ℕ) (new : Option Member) → EachMember P members → ((member : Member) → new ≡ Some member → P member)
    → EachMember P (slice_set members i new)
each-set P [] i new all here k member e = all k member e
each-set P (x ∷ xs) zero new all here zero member e = here member e
each-set P (x ∷ xs) zero new all here (suc k) member e = all (suc k) member e
each-set P (x ∷ xs) (suc i) new all here zero member e = all zero member e
each-set P (x ∷ xs) (suc i) new all here (suc k) member e = each-set P xs i new (λ j other f. all (suc j) other f) here k member e

-- a tree in the place of another one
put-timely : (b : Bfq) (group : ℕ) (tree : Classes) → AreTimely tree → Timely b → (g : ℕ) → AreTimely (put b.service group tree g)
put-timely b group tree its h g = elim (cases_eq g group) [
  | inl same ↦ subst AreTimely (sym (put_here b.service group tree g same)) its
  | inr other ↦ subst AreTimely (sym (put_other b.service group tree g other)) (h g)
]

-- a member changes, or goes
member-timely : (b : Bfq) (group entity : ℕ) (new : Option Member) → ((member : Member) → new ≡ Some member → HasTimes member) → Timely b → Timely (put_place group entity new b)
member-timely b group entity new its h =
    put-timely b group (with_member (b.service group) entity new) ((h group).0, each-set HasTimes (places_of b group) entity new (h group).1 its) h

put_member-timely : (b : Bfq) (group entity : ℕ) (new : Member) → HasTimes new → Timely b → Timely (put_member group entity new b)
put_member-timely b group entity new its h = member-timely b group entity (Some new) (λ member e. subst HasTimes (some_is new member e) its) h

-- a virtual time is another one
put_vtimes-timely : (b : Bfq) (group : ℕ) (vtimes : Vtimes) → ((class : Class) → time_of vtimes class ≤ 2 ^ 62) → Timely b → Timely (put_vtimes group vtimes b)
put_vtimes-timely b group vtimes le h = put-timely b group (with_vtimes (b.service group) vtimes) (le, (h group).1) h

put_vtime-timely : (b : Bfq) (group : ℕ) (class : Class) (vtime : ℕ) → vtime ≤ 2 ^ 62 → Timely b → Timely (put_vtime group class vtime b)
put_vtime-timely b group class vtime le h =
    put_vtimes-timely b group (with_time (b.service group).vtimes class vtime) (each_time (λ n. n ≤ 2 ^ 62) (b.service group).vtimes class vtime (h group).0 le) h

-- what is known of an entity has such times, be it a member or not
known-timely : (o : Option Member) → ((member : Member) → o ≡ Some member → HasTimes member) → HasTimes (unwrap_or o absent)
known-timely None h = (omega arith, omega arith)
known-timely (Some member) h = h member refl

member_in-timely : (b : Bfq) (group entity : ℕ) → Timely b → HasTimes (member_in b group entity)
member_in-timely b group entity h = known-timely (placed b group entity) ((h group).1 entity)

-- the least start is that of a member
lesser-le : (n : ℕ) (o : Option ℕ) → lesser n o ≤ n
lesser-le n None = omega arith
lesser-le n (Some other) = elim (nat_lt other n) as (λ t. nat_lt other n ≡ t → cond t other n ≤ n) [
  | true ↦ λ less. let lt : other < n = ltb-true other n less in omega (arith, lt)
  | false ↦ λ _. omega arith
] refl

least_start-timely : (base : ℕ) (members : List (Option Member)) (start : ℕ) → EachMember HasTimes members
    → least (map (λ e. e.1.start) (filter (λ e. is_active e.1.state) (numbered base members))) ≡ Some start → start ≤ 2 ^ 62
least_start-timely base [] start h e = cc
least_start-timely base (None ∷ members) start h e = least_start-timely (base + 1) members start (λ k member f. h (suc k) member f) e
least_start-timely base (Some m ∷ members) start h e =
    let rest : List (ℕ × Member) = filter (λ e. is_active e.1.state) (numbered (base + 1) members) in
    elim (is_active m.state) as (λ t. least (map (λ e. e.1.start) (cond t ((base, m) ∷ rest) rest)) ≡ Some start → start ≤ 2 ^ 62) [
      | true ↦ λ f.
          let others : Option ℕ = least (map (λ e. e.1.start) rest) in
          let its : m.start ≤ 2 ^ 62 = (h 0 m refl).0 in
          let le : lesser m.start others ≤ m.start = lesser-le m.start others in
          let is : lesser m.start others ≡ start = some_is (lesser m.start others) start f in
          omega (arith, its, le, is)
      | false ↦ λ f. least_start-timely (base + 1) members start (λ k member g. h (suc k) member g) f
    ] e

timely-changes : (most : ℕ) → Changes most Any Timely
timely-changes most = record {
  paths = λ b slot is h. all_any (path b.parent slot.seat);
  stamps = λ b start entity _ le h. put_member-timely b (group_of b entity) entity _ (omega (arith, le), le) h;
  selects = record {
    jumps = λ b group class start nobody is h.
        put_vtime-timely b group class start
        (least_start-timely 0 (service_in b group class).members start (λ e m at. (h group).1 e m (only-placed class (b.service group).members e m at).0) is) h;
    passes = λ b group class entity is high h. put_member-timely b group entity _ (member_in-timely b group entity h) h;
    begins = λ b group class seat is small h. put_member-timely b group seat _ (member_in-timely b group seat h) h;
  };
  charges = λ b slot sectors is h. h;
  rises = λ b group class vtime rise le h. put_vtime-timely b group class vtime le h;
  ends = λ b slot cause is h. h;
  rests = λ b finish entity _ le h. put_member-timely b (group_of b entity) entity _ (le, le) h;
}

timely-ruled : (l : Limits) → l.first_vtime ≤ 2 ^ 62 → Ruled l (λ n b. Timely b)
timely-ruled l first = record {
  later = λ n n' b le h. h;
  rules = λ n. timely-changes l.max_budget;
  enters = λ n b entity group class weight h. put_member-timely b group entity _ (first, first) h;
  begins = λ n b seat small h. h;
  goes = λ n b entity h. member-timely b (group_of b entity) entity None (λ member e. cc) h;
  weighs = λ n b entity weight h. h;
  opens = λ n b group h. put_vtimes-timely b group (same_times l.first_vtime) (same_most l.first_vtime (2 ^ 62) first) h;
  restarts = λ n b entity group up h. put_member-timely b (group_of b entity) entity _ (first, first) h;
  budgets = λ n b h. h;
  ticks = λ n b slot is h. h;
}

-- a list of places without members
no-member : (count k : ℕ) (member : Member) → slice_index_or (replicate count None) k None ≡ Some member → ⊥
no-member zero k member e = cc
no-member (suc count) zero member e = cc
no-member (suc count) (suc k) member e = no-member count k member e

opening-timely : (l : Limits) → l.first_vtime ≤ 2 ^ 62 → Timely (opening_bfq l)
opening-timely l first g = elim (nat_lt g 32) as (λ t. AreTimely (cond t (empty_service l.first_vtime) (record { vtimes = same_times 0; members = [] }))) [
  | true ↦ (same_most l.first_vtime (2 ^ 62) first, λ k member e. absurd (no-member 48 k member e))
  | false ↦ (same_most 0 (2 ^ 62) (omega arith), λ k member e. cc)
]

-- so on every keeper's machine
pub times-bounded : (l : Limits) (most : ℕ) (journal : List Call) → TimesAreBounded l most journal
times-bounded l most journal first = machine-leads l most journal (λ n m. Timely m.bfq) (ruled-leads l (λ n b. Timely b) (timely-ruled l first)) (opening-timely l first)
