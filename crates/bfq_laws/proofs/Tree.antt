-- Which entities of sessions are idle, and how the rules of BFQ change that.
use Rattle.std.proofs.Common.{true, false, Bool, ◌≡◌, ◌≢◌, inl, inr, ℕ, ◌-◌, ◌<◌, ◌≤◌, nat_le, nat_lt, not, List, length, Option, Some, None, is_some, unwrap_or, cond, refl, sym, ap, ◌∙◌, subst, arith, rules}
use Rattle.std.specs.Option.{option_and_then}
use Rattle.std.proofs.lemmas.Bool.{cases_eq, cond-true}
use Rattle.plain.specs.declared.member.Member.{Member}
use Rattle.plain.specs.declared.member.Vtimes.{Vtimes}
use Rattle.plain.specs.Classes.{Classes}
use Rattle.plain.specs.Groups.{climb, most_levels, path}
use Rattle.plain.specs.declared.seat.InService.{InService}
use Rattle.plain.specs.declared.seat.Seat.{Seat}
use Rattle.plain.specs.Machine.{Bfq}
use Rattle.plain.specs.declared.seat.Expiry.{Expiry}
use Rattle.plain.specs.Rules.{top, absent, group_of, member_of, put_member, put_vtime, put_vtimes, class_in, is_idle, along, finish_from, stamped, stamp, start_from, activate_path, activate, in_service, select, served_more, charge, ended, is_backlogged, rested, expire_one, out_of_service, expire}
use Rattle.plain_laws.proofs.Puts.{some_is, and_then_is}
use Rattle.plain_laws.proofs.Placed.{placed, placed-here, placed-elsewhere, placed-other, placed-vtime, placed-same, put_place, places_of, places-vtime, length-member, least_of}
use Rattle.plain_laws.proofs.Rules.{High, climb-high, StampsKeep, RestsKeep, selected, Selects, unrefused, activate_path-keeps, select-keeps, charge-is, charges-keep, expire-is, expires-keep}
use Rattle.bfq_laws.proofs.Picks.{picked-is}

-- the sessions' queues are as they were
pub record Over (b c : Bfq) : Type 0 where
  pub parents : (e : ℕ) → e < 16 → c.parent e ≡ b.parent e
  pub places : (g e : ℕ) → e < 16 → placed c g e ≡ placed b g e
  pub lengths : (g : ℕ) → length (places_of c g) ≡ length (places_of b g)

pub Over-same : (b c : Bfq) → c.parent ≡ b.parent → c.service ≡ b.service → Over b c
Over-same b c p s = record {
  parents = λ e _. ap (λ (f : ℕ → Option ℕ). f e) p;
  places = λ g e _. placed-same b c s g e;
  lengths = λ g. ap (λ (f : ℕ → Classes). length (f g).members) s;
}

pub Over-trans : (b c d : Bfq) → Over b c → Over c d → Over b d
Over-trans b c d first second = record {
  parents = λ e lt. second.parents e lt ∙ first.parents e lt;
  places = λ g e lt. second.places g e lt ∙ first.places g e lt;
  lengths = λ g. second.lengths g ∙ first.lengths g;
}

-- a group changes
pub Over-member : (b : Bfq) (group k : ℕ) (new : Option Member) → 16 ≤ k → Over b (put_place group k new b)
Over-member b group k new high = record {
  parents = λ e lt. refl;
  places = λ g e lt. placed-other b group k new g e (λ same. absurd (omega (arith, same, lt, high)));
  lengths = λ g. length-member b group k new g;
}

pub Over-vtime : (b : Bfq) (group : ℕ) (vtimes : Vtimes) → Over b (put_vtimes group vtimes b)
Over-vtime b group vtimes = record {
  parents = λ e lt. refl;
  places = λ g e lt. placed-vtime b group vtimes g e;
  lengths = λ g. ap length (places-vtime b group vtimes g);
}

-- an entity is idle
abbrev pub idle : Bfq → ℕ → Bool
idle b e = is_idle (member_of b e).state

pub idle-over : (b c : Bfq) (e : ℕ) → e < 16 → Over b c → idle c e ≡ idle b e
idle-over b c e lt over =
    ap (λ o. is_idle (unwrap_or (placed c (unwrap_or o 0) e) absent).state) (over.parents e lt)
    ∙ ap (λ o. is_idle (unwrap_or o absent).state) (over.places (group_of b e) e lt)

-- a seat that is taken is in a group, and is a member of no other one; each group has a place for each entity
pub record Tree (seats : ℕ → Option Seat) (b : Bfq) : Type 0 where
  pub above : (e : ℕ) → e < 16 → is_some (seats e) ≡ true → (g : ℕ) × (b.parent e ≡ Some g) × (g < 32)
  pub known : (g e : ℕ) → e < 16 → is_some (placed b g e) ≡ true → (is_some (seats e) ≡ true) × (b.parent e ≡ Some g)
  pub lengths : (g : ℕ) → g < 32 → length (places_of b g) ≡ 48

pub Tree-over : (seats : ℕ → Option Seat) (b c : Bfq) → Over b c → Tree seats b → Tree seats c
Tree-over seats b c over tree = record {
  above = λ e lt sits. let a = tree.above e lt sits in (a.0, over.parents e lt ∙ a.1, a.2);
  known = λ g e lt there. let k = tree.known g e lt (ap is_some (sym (over.places g e lt)) ∙ there) in (k.0, over.parents e lt ∙ k.1);
  lengths = λ g lt. over.lengths g ∙ tree.lengths g lt;
}

-- one session's queue becomes idle or not, and the others are as they were
pub record Sets (seats : ℕ → Option Seat) (k : ℕ) (v : Bool) (b c : Bfq) : Type 0 where
  pub tree : Tree seats c
  pub here : idle c k ≡ v
  pub there : (e : ℕ) → e < 16 → e ≢ k → idle c e ≡ idle b e

Sets-over : (seats : ℕ → Option Seat) (k : ℕ) (v : Bool) (b c d : Bfq) → k < 16 → Sets seats k v b c → Over c d → Sets seats k v b d
Sets-over seats k v b c d small sets over = record {
  tree = Tree-over seats c d over sets.tree;
  here = idle-over c d k small over ∙ sets.here;
  there = λ e lt ne. idle-over c d e lt over ∙ sets.there e lt ne;
}

sets-member : (seats : ℕ → Option Seat) (k : ℕ) (b : Bfq) (group : ℕ) (new : Member) → k < 16 → is_some (seats k) ≡ true → b.parent k ≡ Some group → group < 32 → Tree seats b
    → Sets seats k (is_idle new.state) b (put_member group k new b)
sets-member seats k b group new small sits parent few tree =
    let c : Bfq = put_member group k new b in
    let len : length (places_of b group) ≡ 48 = tree.lengths group few in
    let lt : k < length (places_of b group) = omega (arith, small, len) in
    let now : placed c group k ≡ Some new = placed-here b group k (Some new) lt in
    record {
      tree = record {
        above = tree.above;
        known = λ g e low there. elim (cases_eq e k) [
          | inl same ↦ elim (cases_eq g group) [
            | inl its ↦ (ap (λ j. is_some (seats j)) same ∙ sits, ap b.parent same ∙ parent ∙ ap (λ j. Some j) (sym its))
            | inr other ↦ tree.known g e low (ap is_some (sym (placed-elsewhere b group k (Some new) g e other)) ∙ there)
          ]
          | inr other ↦ tree.known g e low (ap is_some (sym (placed-other b group k (Some new) g e other)) ∙ there)
        ];
        lengths = λ g lt. length-member b group k (Some new) g ∙ tree.lengths g lt;
      };
      here =
          ap (λ o. is_idle (unwrap_or (placed c (unwrap_or o 0) k) absent).state) parent ∙ ap (λ o. is_idle (unwrap_or o absent).state) now;
      there = λ e low other. ap (λ o. is_idle (unwrap_or o absent).state) (placed-other b group k (Some new) (group_of b e) e other);
    }

pub sits-above : (seats : ℕ → Option Seat) (k : ℕ) (b : Bfq) → k < 16 → is_some (seats k) ≡ true → Tree seats b → (b.parent k ≡ Some (group_of b k)) × (group_of b k < 32)
sits-above seats k b small sits tree =
    let a = tree.above k small sits in
    let g : ℕ = a.0 in
    let is : group_of b k ≡ g = ap (λ o. unwrap_or o 0) a.1 in
    let few : g < 32 = a.2 in
    (a.1 ∙ ap (λ j. Some j) (sym is), omega (arith, is, few))

pub sets-own : (seats : ℕ → Option Seat) (k : ℕ) (b : Bfq) (new : Member) → k < 16 → is_some (seats k) ≡ true → Tree seats b → Sets seats k (is_idle new.state) b (put_member (group_of b k) k new b)
sets-own seats k b new small sits tree = let a = sits-above seats k b small sits tree in sets-member seats k b (group_of b k) new small sits a.0 a.1 tree

-- a group that waits or rests leaves the sessions' queues
over-stamps : (b : Bfq) → StampsKeep High (Over b)
over-stamps b c start entity high _ h = Over-trans b c (stamped start entity c) h (Over-member c (group_of c entity) entity _ high)

over-rests : (b : Bfq) → RestsKeep High (Over b)
over-rests b c finish entity high _ h = Over-trans b c (rested finish entity c) h (Over-member c (group_of c entity) entity _ high)

stamp-sets : (seats : ℕ → Option Seat) (start k : ℕ) (b c : Bfq) → k < 16 → is_some (seats k) ≡ true → Tree seats b → stamp start k b ≡ Some c → Sets seats k false b c
stamp-sets seats start k b c small sits tree e =
    let made = unrefused (nat_le (finish_from start k b) top) (stamped start k b) c e in
    subst (Sets seats k false b) made.1 (sets-own seats k b _ small sits tree)

-- Activate
pub activate-sets : (seats : ℕ → Option Seat) (seat : ℕ) (b c : Bfq) → seat < 16 → is_some (seats seat) ≡ true → Tree seats b → idle b seat ≡ true → activate seat b ≡ Some c → Sets seats seat false b c
activate-sets seats seat b c small sits tree rests e =
    let up : List ℕ = climb most_levels b.parent (b.parent seat) in
    elim (idle b seat) as (λ t. t ≡ true → cond t (option_and_then (activate_path up) (stamp (start_from b seat) seat b)) (Some b) ≡ Some c → Sets seats seat false b c) [
      | true ↦ λ _ f.
          let first = and_then_is (activate_path up) (stamp (start_from b seat) seat b) c f in
          Sets-over seats seat false b first.0 c small (stamp-sets seats (start_from b seat) seat b first.0 small sits tree first.1)
          (activate_path-keeps High (Over first.0) (over-stamps first.0) up first.0 c (climb-high most_levels b.parent (b.parent seat)) first.2 (Over-same first.0 first.0 refl refl))
      | false ↦ λ no. cc
    ] rests e

-- Charge
pub charge-over : (sectors : ℕ) (b c : Bfq) → charge sectors b ≡ Some c → Over b c
charge-over sectors b c e =
    let slot = charge-is sectors b c e in
    let more : Bfq = served_more sectors slot.0 b in
    charges-keep (Over b) (λ d group class vtime _ _ h. Over-trans b d (put_vtime group class vtime d) h (Over-vtime d group _)) sectors (path b.parent slot.0.seat) more c slot.2 (Over-same b more refl refl)

-- Expire
expire_one-sets : (seats : ℕ → Option Seat) (service : ℕ) (queued : Bool) (k : ℕ) (b c : Bfq) → k < 16 → is_some (seats k) ≡ true → Tree seats b → expire_one service queued k b ≡ Some c → Sets seats k (not queued) b c
expire_one-sets seats service queued k b c small sits tree e =
    let finish : ℕ = ended service k b in
    let yes : nat_lt k 16 ≡ true = search (rules, small) in
    let its : is_backlogged queued k b ≡ queued = cond-true (nat_lt k 16) queued (is_some (class_in b (k - 16))) yes in
    elim (nat_le finish top) as (λ t. cond t (cond (is_backlogged queued k b) (stamp finish k b) (Some (rested finish k b))) None ≡ Some c → Sets seats k (not queued) b c) [
      | true ↦ λ f. elim (is_backlogged queued k b) as (λ t. is_backlogged queued k b ≡ t → cond t (stamp finish k b) (Some (rested finish k b)) ≡ Some c → Sets seats k (not queued) b c) [
        | true ↦ λ is s. subst (λ v. Sets seats k v b c) (ap not (sym is ∙ its)) (stamp-sets seats finish k b c small sits tree s)
        | false ↦ λ is s. subst (λ v. Sets seats k v b c) (ap not (sym is ∙ its)) (subst (Sets seats k true b) (some_is (rested finish k b) c s) (sets-own seats k b _ small sits tree))
      ] refl f
      | false ↦ λ f. cc
    ] e

-- the queue in service becomes idle where nothing is queued
pub expire-sets : (seats : ℕ → Option Seat) (cause : Expiry) (most : ℕ) (queued : Bool) (b c : Bfq)
    → ((slot : InService) → b.in_service ≡ Some slot → (slot.seat < 16) × (is_some (seats slot.seat) ≡ true)) → Tree seats b → expire cause most queued b ≡ Some c
    → (slot : InService) × (b.in_service ≡ Some slot) × Sets seats slot.seat (not queued) b c
expire-sets seats cause most queued b c sits tree e =
    let slot = expire-is cause most queued b c e in
    let k : ℕ = slot.0.seat in
    let out : Bfq = out_of_service cause most slot.0 b in
    let up : List ℕ = climb most_levels b.parent (b.parent k) in
    let s = sits slot.0 slot.1 in
    let first = and_then_is (along (expire_one slot.0.service queued) up) (expire_one slot.0.service queued k out) c slot.2 in
    let sets : Sets seats k (not queued) out first.0 =
    expire_one-sets seats slot.0.service queued k out first.0 s.0 s.1 (Tree-over seats b out (Over-same b out refl refl) tree) first.1 in
    let after : Sets seats k (not queued) out c =
    Sets-over seats k (not queued) out first.0 c s.0 sets
    (expires-keep High (Over first.0) (over-stamps first.0) (over-rests first.0) slot.0.service queued up first.0 c (climb-high most_levels b.parent (b.parent k)) first.2 (Over-same first.0 first.0 refl refl)) in
    (slot.0, slot.1, record { tree = after.tree; here = after.here; there = λ e lt ne. after.there e lt ne ∙ idle-over b out e lt (Over-same b out refl refl) })

-- the queue in service, if one is, is that of a seat that is taken and was not idle; the same ones are idle
pub record Choice (seats : ℕ → Option Seat) (was : ℕ → Bool) (b : Bfq) : Type 0 where
  pub tree : Tree seats b
  pub same : (e : ℕ) → e < 16 → idle b e ≡ was e
  pub chosen : (slot : InService) → b.in_service ≡ Some slot → (slot.seat < 16) × (is_some (seats slot.seat) ≡ true) × (was slot.seat ≡ false)

Choice-over : (seats : ℕ → Option Seat) (was : ℕ → Bool) (b c : Bfq) → Over b c → c.in_service ≡ b.in_service → Choice seats was b → Choice seats was c
Choice-over seats was b c over slots h = record {
  tree = Tree-over seats b c over h.tree;
  same = λ e lt. idle-over b c e lt over ∙ h.same e lt;
  chosen = λ slot at. h.chosen slot (sym slots ∙ at);
}

-- each change of select: who is picked was not idle
choice-selects : (seats : ℕ → Option Seat) (was : ℕ → Bool) → Selects (Choice seats was)
choice-selects seats was = record {
  jumps = λ b group class start nobody is h. Choice-over seats was b (put_vtime group class start b) (Over-vtime b group _) refl h;
  passes = λ b group class entity is high h. Choice-over seats was b (in_service group entity b) (Over-member b group entity _ high) refl h;
  begins = λ b group class entity is small h.
      let m = picked-is b group class entity is in
      let c : Bfq = in_service group entity b in
      let slot : InService = record { seat = entity; service = 0; age = 0 } in
      let served : Bfq = selected group entity b in
      let k = h.tree.known group entity small (ap is_some m.1) in
      let a = h.tree.above entity small k.0 in
      let same : a.0 ≡ group = some_is a.0 group (sym a.1 ∙ k.1) in
      let low : a.0 < 32 = a.2 in
      let sets : Sets seats entity false b c = sets-member seats entity b group _ small k.0 k.1 (omega (arith, same, low)) h.tree in
      let over : Over c served = Over-same c served refl refl in
      let awake : idle b entity ≡ false =
      ap (λ o. is_idle (unwrap_or (placed b (unwrap_or o 0) entity) absent).state) k.1 ∙ ap (λ o. is_idle (unwrap_or o absent).state) m.1 ∙ ap is_idle m.2 in
      let was_so : was entity ≡ false = sym (h.same entity small) ∙ awake in
      let P : InService → Type 0 = λ s. (s.seat < 16) × (is_some (seats s.seat) ≡ true) × (was s.seat ≡ false) in
      record {
        tree = Tree-over seats c served over sets.tree;
        same = λ e lt. elim (cases_eq e entity) [
          | inl its ↦ idle-over c served e lt over ∙ ap (idle c) its ∙ sets.here ∙ sym was_so ∙ ap was (sym its)
          | inr other ↦ idle-over c served e lt over ∙ sets.there e lt other ∙ h.same e lt
        ];
        chosen = λ other at. subst P (some_is slot other at) (small, k.0, was_so);
      };
}

pub select-choice : (seats : ℕ → Option Seat) (was : ℕ → Bool) (b : Bfq) → Choice seats was b → Choice seats was (select b)
select-choice seats was = select-keeps (Choice seats was) (choice-selects seats was)
