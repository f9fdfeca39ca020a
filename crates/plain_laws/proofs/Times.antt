-- The rules of BFQ let no virtual time fall.
use Rattle.std.proofs.Common.{true, false, ◌≡◌, inl, inr, ℕ, ◌<◌, ◌≤◌, nat_le, nat_lt, ◌&&◌, List, [], ◌∷◌, Option, Some, None, cond, map, refl, ap, arith}
use Rattle.std.specs.List.{filter}
use Rattle.std.specs.Option.{option_map}
use Rattle.std.proofs.lemmas.Bool.{cases_eq, leb-false}
use Rattle.sector_core.specs.declared.class.Class.{Class}
use Rattle.plain.specs.declared.member.Member.{Member}
use Rattle.plain.specs.Classes.{Classes, time_of, with_time, with_member, with_vtimes}
use Rattle.class_laws.proofs.Times.{times_rise}
use Rattle.plain.specs.Members.{is_active, is_eligible, numbered, lesser, least, soonest}
use Rattle.plain.specs.Groups.{path}
use Rattle.plain.specs.Machine.{Bfq, put}
use Rattle.plain.specs.Rules.{group_of, vtime_of, put_member, put_vtime, picked, service_in}
use Rattle.plain_laws.proofs.Puts.{put_here, put_other, some_is}
use Rattle.plain_laws.proofs.Placed.{places_of, least_of, put_place}
use Rattle.plain_laws.proofs.Rules.{Any, all_any, Changes}

-- no group has a lesser virtual time later
abbrev pub Rise : Bfq → Bfq → Type 0
Rise before after = (group : ℕ) (class : Class) → vtime_of before group class ≤ vtime_of after group class

-- where the virtual times are the same
pub Rise-refl : (b : Bfq) → Rise b b
Rise-refl b g d = omega arith

Rise-trans : (b c d : Bfq) → Rise b c → Rise c d → Rise b d
Rise-trans b c d first second g class = omega (arith, first g class, second g class)

-- a tree put in the place of another one with no greater virtual time
Rise-put : (b : Bfq) (group : ℕ) (tree : Classes) → ((d : Class) → time_of (b.service group).vtimes d ≤ time_of tree.vtimes d)
    → (g : ℕ) (d : Class) → time_of (b.service g).vtimes d ≤ time_of (put b.service group tree g).vtimes d
Rise-put b group tree le g d = elim (cases_eq g group) [
  | inl e ↦
      let now : time_of (put b.service group tree g).vtimes d ≡ time_of tree.vtimes d = ap (λ (t : Classes). time_of t.vtimes d) (put_here b.service group tree g e) in
      let was : time_of (b.service g).vtimes d ≡ time_of (b.service group).vtimes d = ap (λ k. time_of (b.service k).vtimes d) e in
      omega (arith, le d, now, was)
  | inr ne ↦
      let same : time_of (put b.service group tree g).vtimes d ≡ time_of (b.service g).vtimes d = ap (λ (t : Classes). time_of t.vtimes d) (put_other b.service group tree g ne) in
      omega (arith, same)
]

-- an entity changes, or goes
pub Rise-member : (b : Bfq) (group entity : ℕ) (member : Option Member) → Rise b (put_place group entity member b)
Rise-member b group entity member g d = Rise-put b group (with_member (b.service group) entity member) (λ c. omega arith) g d

-- a virtual time is set to no lesser one
Rise-vtime : (b : Bfq) (group : ℕ) (class : Class) (vtime : ℕ) → vtime_of b group class ≤ vtime → Rise b (put_vtime group class vtime b)
Rise-vtime b group class vtime le g d =
    Rise-put b group (with_vtimes (b.service group) (with_time (b.service group).vtimes class vtime)) (times_rise (b.service group).vtimes class vtime le) g d

-- where no member is eligible, the least start is after the virtual time
none_soonest : (es : List (ℕ × Member)) → option_map (λ (e : ℕ × Member). e.0) (soonest es) ≡ None → es ≡ []
none_soonest [] h = refl
none_soonest (e ∷ es) h = cc

starts_after : (vtime : ℕ) (es : List (ℕ × Member)) (start : ℕ) → filter (λ e. is_eligible vtime e.1) es ≡ []
    → least (map (λ e. e.1.start) (filter (λ e. is_active e.1.state) es)) ≡ Some start → vtime ≤ start
starts_after vtime [] start none is = cc
starts_after vtime (e ∷ es) start none is =
    let eligible : List (ℕ × Member) = filter (λ e. is_eligible vtime e.1) es in
    let starts : List ℕ = map (λ e. e.1.start) (filter (λ e. is_active e.1.state) es) in
    elim (is_active e.1.state) as (λ a. cond (a && nat_le e.1.start vtime) (e ∷ eligible) eligible ≡ []
    → least (map (λ e. e.1.start) (cond a (e ∷ filter (λ e. is_active e.1.state) es) (filter (λ e. is_active e.1.state) es))) ≡ Some start → vtime ≤ start) [
      | false ↦ λ n i. starts_after vtime es start n i
      | true ↦ λ n i.
          elim (nat_le e.1.start vtime) as (λ t. nat_le e.1.start vtime ≡ t → cond t (e ∷ eligible) eligible ≡ [] → vtime ≤ start) [
            | true ↦ λ _ some. cc
            | false ↦ λ late rest.
                let after : vtime < e.1.start = leb-false e.1.start vtime late in
                elim (least starts) as (λ o. least starts ≡ o → Some (lesser e.1.start o) ≡ Some start → vtime ≤ start) [
                  | None ↦ λ _ one. let same : e.1.start ≡ start = some_is e.1.start start one in omega (arith, after, same)
                  | Some other ↦ λ q two.
                      let others : vtime ≤ other = starts_after vtime es other rest q in
                      elim (nat_lt other e.1.start) as (λ t. Some (cond t other e.1.start) ≡ Some start → vtime ≤ start) [
                        | true ↦ λ same. let is : other ≡ start = some_is other start same in omega (arith, others, is)
                        | false ↦ λ same. let is : e.1.start ≡ start = some_is e.1.start start same in omega (arith, after, is)
                      ] two
                ] refl i
          ] refl n
    ] none is

jump-rise : (b : Bfq) (group : ℕ) (class : Class) (start : ℕ) → picked b group class ≡ None → least_of b group class ≡ Some start → Rise b (put_vtime group class start b)
jump-rise b group class start nobody is =
    let vtime : ℕ = vtime_of b group class in
    let members : List (Option Member) = (service_in b group class).members in
    Rise-vtime b group class start (starts_after vtime (numbered 0 members) start (none_soonest (filter (λ e. is_eligible vtime e.1) (numbered 0 members)) nobody) is)

-- each change of a rule
pub rise-changes : (most : ℕ) (b : Bfq) → Changes most Any (Rise b)
rise-changes most b =
    let member : (c : Bfq) (group entity : ℕ) (new : Member) → Rise b c → Rise b (put_member group entity new c) =
    λ c group entity new h. Rise-trans b c (put_member group entity new c) h (λ g d. Rise-member c group entity (Some new) g d) in
    record {
      paths = λ c slot is h. all_any (path c.parent slot.seat);
      stamps = λ c start entity _ le h. member c (group_of c entity) entity _ h;
      selects = record {
        jumps = λ c group class start nobody is h. Rise-trans b c (put_vtime group class start c) h (jump-rise c group class start nobody is);
        passes = λ c group class entity is high h. member c group entity _ h;
        begins = λ c group class seat is small h. member c group seat _ h;
      };
      charges = λ c slot sectors is h. h;
      rises = λ c group class vtime rise le h. Rise-trans b c (put_vtime group class vtime c) h (Rise-vtime c group class vtime rise);
      ends = λ c slot cause is h. h;
      rests = λ c finish entity _ le h. member c (group_of c entity) entity _ h;
    }
