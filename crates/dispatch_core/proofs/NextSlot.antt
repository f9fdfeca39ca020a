-- Which queue is in service after a rule of bfq, and what it has been served.
use Rattle.std.proofs.Common.{◌≡◌, ℕ, zero, suc, ◌+◌, ◌-◌, ◌<◌, ◌≤◌, List, [], ◌∷◌, Option, None, Some, Bool, true, false, cond, is_some, nat_le, nat_lt, All, refl, sym, ap, ◌∙◌, subst, arith}
use Rattle.std.specs.List.{find}
use Rattle.std.specs.Option.{option_map_or, option_and_then}
use Rattle.std.proofs.lemmas.Option.{same_Some}
use Rattle.std.proofs.lemmas.List.Elements.{All-head, All-tail}
use Rattle.sector_core.specs.declared.class.Class.{Class}
use Rattle.plain.specs.Members.{least_start}
use Rattle.plain.specs.Groups.{path}
use Rattle.dispatch_core.proofs.Words.{InService, Tables, Bfq, WholeRequest, Plain, meaning, bfq_of, starts, wanted, has_start, top, put_vtime, group_of, along, finish_from, stamped, stamp, picked, jumped, in_service, on_pick, select, risen, charge_one, served_more, charge, ended, is_backlogged, rested, expire_one, out_of_service, expire, chosen_in, class_in, class_of, on_class, service_in, shape, size_of}
use Rattle.plain.specs.Rules.{select_from}
use Rattle.bfq_select.specs.Service.{OnlyServes}
use Rattle.dispatch_core.proofs.Ruling.{IsYoung, served-meaning}
use Rattle.plain.specs.declared.seat.Expiry.{Expiry}
use Rattle.plain.specs.Rules.{taken}
use Rattle.plain.specs.Steps.Dispatch.{next_request, next_size}
use Rattle.plain_laws.specs.Whole.{IsWhole, AreWhole}

-- a stamp leaves the slot
stamp_slot : (start entity : ℕ) (b c : Bfq) → stamp start entity b ≡ Some c → c.in_service ≡ b.in_service
stamp_slot start entity b c e =
    elim (nat_le (finish_from start entity b) top) as (λ t. cond t (Some (stamped start entity b)) None ≡ Some c → c.in_service ≡ b.in_service) [
      | true ↦ λ f. ap (λ (x : Bfq). x.in_service) (sym (same_Some (stamped start entity b) c f))
      | false ↦ λ f. cc
    ] e

-- and so does an entity that leaves the service
expire_one_slot : (service : ℕ) (queued : Bool) (entity : ℕ) (b c : Bfq) → expire_one service queued entity b ≡ Some c → c.in_service ≡ b.in_service
expire_one_slot service queued entity b c e =
    let finish : ℕ = ended service entity b in
    elim (nat_le finish top) as (λ t. cond t (cond (is_backlogged queued entity b) (stamp finish entity b) (Some (rested finish entity b))) None ≡ Some c → c.in_service ≡ b.in_service) [
      | true ↦ λ f. elim (is_backlogged queued entity b) as (λ t. cond t (stamp finish entity b) (Some (rested finish entity b)) ≡ Some c → c.in_service ≡ b.in_service) [
        | true ↦ λ g. stamp_slot finish entity b c g
        | false ↦ λ g. ap (λ (x : Bfq). x.in_service) (sym (same_Some (rested finish entity b) c g))
      ] f
      | false ↦ λ f. cc
    ] e

-- a rule that leaves the slot at each entity leaves it along a path
along_slot : (rule : ℕ → Bfq → Option Bfq) → ((entity : ℕ) (b c : Bfq) → rule entity b ≡ Some c → c.in_service ≡ b.in_service) → (entities : List ℕ) (b c : Bfq) → along rule entities b ≡ Some c → c.in_service ≡ b.in_service
along_slot rule keeps [] b c e = ap (λ (x : Bfq). x.in_service) (sym (same_Some b c e))
along_slot rule keeps (entity ∷ entities) b c e =
    elim (rule entity b) as (λ o. rule entity b ≡ o → option_and_then (along rule entities) o ≡ Some c → c.in_service ≡ b.in_service) [
      | None ↦ λ _ f. cc
      | Some d ↦ λ first f. along_slot rule keeps entities d c f ∙ keeps entity b d first
    ] refl e

-- no queue is in service after one has expired
pub expire_slot : (cause : Expiry) (most : ℕ) (queued : Bool) (b c : Bfq) → expire cause most queued b ≡ Some c → c.in_service ≡ None
expire_slot cause most queued b c e =
    elim b.in_service as (λ o. option_and_then (λ (slot : InService). along (expire_one slot.service queued) (path b.parent slot.seat) (out_of_service cause most slot b)) o ≡ Some c → c.in_service ≡ None) [
      | None ↦ λ f. cc
      | Some slot ↦ λ f. along_slot (expire_one slot.service queued) (expire_one_slot slot.service queued) (path b.parent slot.seat) (out_of_service cause most slot b) c f
    ] e

-- a charge leaves the slot at each entity
charge_one_slot : (sectors entity : ℕ) (b c : Bfq) → charge_one sectors entity b ≡ Some c → c.in_service ≡ b.in_service
charge_one_slot sectors entity b c e =
    let vtime : ℕ = risen sectors (group_of b entity) (class_of b entity) b in
    elim (nat_le vtime top) as (λ t. cond t (Some (put_vtime (group_of b entity) (class_of b entity) vtime b)) None ≡ Some c → c.in_service ≡ b.in_service) [
      | true ↦ λ f. ap (λ (x : Bfq). x.in_service) (sym (same_Some (put_vtime (group_of b entity) (class_of b entity) vtime b) c f))
      | false ↦ λ f. cc
    ] e

-- the queue in service is as old after a charge as before
pub charge_young : (sectors n : ℕ) (b c : Bfq) → charge sectors b ≡ Some c → IsYoung n b.in_service → IsYoung n c.in_service
charge_young sectors n b c e young =
    elim b.in_service as (λ o. b.in_service ≡ o → option_and_then (λ (slot : InService). along (charge_one sectors) (path b.parent slot.seat) (served_more sectors slot b)) o ≡ Some c → IsYoung n c.in_service) [
      | None ↦ λ _ f. cc
      | Some slot ↦ λ is f s g.
          let more : InService = record slot { service = slot.service + sectors } in
          let kept : c.in_service ≡ Some more = along_slot (charge_one sectors) (charge_one_slot sectors) (path b.parent slot.seat) (served_more sectors slot b) c f in
          let age : slot.age ≡ s.age = ap (λ (x : InService). x.age) (same_Some more s (sym kept ∙ g)) in
          let before : slot.age < n = young slot is in
          omega (arith, age, before)
    ] refl e

-- where no queue is in service none is old
pub no_slot_young : (n : ℕ) (o : Option InService) → o ≡ None → IsYoung n o
no_slot_young n o none slot e = absurd cc

-- nothing has been served in a slot, and no tick has passed
abbrev IsFresh : Option InService → Type 0
IsFresh o = (slot : InService) → o ≡ Some slot → (slot.service ≡ 0) × (slot.age ≡ 0)

-- a jump of the virtual time leaves the slot
jumped_slot : (group : ℕ) (class : Class) (b : Bfq) → (jumped group class b).in_service ≡ b.in_service
jumped_slot group class b =
    elim (is_some (picked b group class)) as (λ t. (let c : Bfq = cond t b (option_map_or (λ start. put_vtime group class start b) (least_start (service_in b group class).members) b) in c.in_service) ≡ b.in_service) [
      | true ↦ refl
      | false ↦ elim (least_start (service_in b group class).members) as (λ o. (let c : Bfq = option_map_or (λ start. put_vtime group class start b) o b in c.in_service) ≡ b.in_service) [
        | None ↦ refl
        | Some start ↦ refl
      ]
    ]

-- what is taken is fresh, where the levels below leave it so
taken_fresh : (choose : ℕ → Bfq → Bfq) → ((h : ℕ) (c : Bfq) → IsFresh c.in_service → IsFresh (choose h c).in_service) → (group : ℕ) (b : Bfq) (entity : ℕ) → IsFresh b.in_service
    → IsFresh (taken choose group b entity).in_service
taken_fresh choose keeps group b entity fresh =
    elim (nat_lt entity 16) as (λ t. IsFresh (let c : Bfq = cond t (record (in_service group entity b) { in_service = Some (record { seat = entity; service = 0; age = 0 }) }) (choose (entity - 16) (in_service group entity b)) in c.in_service)) [
      | true ↦ λ slot e.
          let new : InService = record { seat = entity; service = 0; age = 0 } in
          let same : new ≡ slot = same_Some new slot e in
          (ap (λ (s : InService). s.service) (sym same), ap (λ (s : InService). s.age) (sym same))
      | false ↦ keeps (entity - 16) (in_service group entity b) fresh
    ]

-- so is what follows a pick
on_pick_fresh : (found : Option ℕ) (b : Bfq) (next : ℕ → Bfq) → IsFresh b.in_service → ((entity : ℕ) → IsFresh (next entity).in_service) → IsFresh (on_pick found b next).in_service
on_pick_fresh None b next fresh each = fresh
on_pick_fresh (Some entity) b next fresh each = each entity

on_class_fresh : (found : Option Class) (b : Bfq) (next : Class → Bfq) → IsFresh b.in_service → ((class : Class) → IsFresh (next class).in_service) → IsFresh (on_class found b next).in_service
on_class_fresh None b next fresh each = fresh
on_class_fresh (Some class) b next fresh each = each class

-- and what so many levels choose
select_from_fresh : (levels group : ℕ) (b : Bfq) → IsFresh b.in_service → IsFresh (select_from levels group b).in_service
unfolding select_from
select_from_fresh zero group b fresh = fresh
select_from_fresh (suc levels) group b fresh =
    let choose : ℕ → Bfq → Bfq = λ h d. select_from levels h d in
    on_class_fresh (class_in b group) b (chosen_in choose group b) fresh (λ class.
    let c : Bfq = jumped group class b in
    let still : IsFresh c.in_service = λ slot e. fresh slot (sym (jumped_slot group class b) ∙ e) in
    on_pick_fresh (picked c group class) c (taken choose group c) still (λ entity. taken_fresh choose (λ h d. select_from_fresh levels h d) group c entity still))

-- a queue that was selected has been served nothing yet
pub select_fresh : (b : Bfq) (slot : InService) → b.in_service ≡ None → (select b).in_service ≡ Some slot → slot.service ≡ 0
select_fresh b slot none e = (select_from_fresh 5 0 b (λ s f. cc) slot e).0

-- and is young
pub select_young : (n : ℕ) (b : Bfq) → 1 ≤ n → b.in_service ≡ None → IsYoung n (select b).in_service
select_young n b first none slot e =
    let age : slot.age ≡ 0 = (select_from_fresh 5 0 b (λ s f. cc) slot e).1 in
    omega (arith, age, first)

-- what is found in a list is one of it
find_all : {A : Type 0} (P : A → Type 0) (passes : A → Bool) (xs : List A) (a : A) → All P xs → find passes xs ≡ Some a → P a
find_all P passes [] a all e = cc
find_all P passes (x ∷ xs) a all e = elim (passes x) as (λ b. cond b (Some x) (find passes xs) ≡ Some a → P a) [
  | true ↦ λ f. subst P (same_Some x a f) (All-head P x xs all)
  | false ↦ λ f. find_all P passes xs a (All-tail P x xs all) f
] e

-- the next request has at most 256 sectors
pub next_small : (m : Plain) (seat : ℕ) → AreWhole m → next_size m seat ≤ 256
next_small m seat whole =
    elim (next_request m seat) as (λ o. next_request m seat ≡ o → option_map_or (λ (r : WholeRequest). size_of r.bios) o 0 ≤ 256) [
      | None ↦ λ _. omega arith
      | Some r ↦ λ e. (next_whole r e).few_sectors
    ] refl where
      -- the next request is whole
      next_whole : (r : WholeRequest) → next_request m seat ≡ Some r → IsWhole r
      next_whole r e = elim (wanted (m.head seat) (starts shape (m.queue seat)))
          as (λ o. option_and_then (λ sector. find (has_start shape sector) (m.queue seat)) o ≡ Some r → IsWhole r) [
            | None ↦ λ f. cc
            | Some sector ↦ λ f. find_all IsWhole (has_start shape sector) (m.queue seat) r (whole.queued seat) f
          ] e

-- requests stay whole where only bfq differs
pub served_whole : (t u : Tables) → OnlyServes t u → AreWhole (meaning t) → AreWhole (meaning u)
served_whole t u others whole =
    let still : AreWhole (record (meaning t) { bfq = bfq_of u }) = record { queued = whole.queued; requeued = whole.requeued; flying = whole.flying } in
    subst AreWhole (sym (served-meaning t u others)) still
