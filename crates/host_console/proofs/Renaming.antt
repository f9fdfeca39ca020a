-- Machines that differ in names alone print one line.
use Rattle.std.proofs.Common.{◌≡◌, ℕ, inl, inr, ◌==◌, Bool, true, false, cond, List, [], ◌∷◌, ◌++◌, codes, Option, None, Some, refl, sym, ap, ◌∙◌, arith}
use Rattle.std.specs.Prelude.{◌+◌, map, is_some, unwrap_or, slice_index_or, if◌then◌else◌}
use Rattle.std.specs.Option.{option_map}
use Rattle.std.specs.List.{flat_map, find}
use Rattle.std.specs.Fmt.{decimal}
use Rattle.std.proofs.lemmas.List.Concat.{flat_map-cons}
use Rattle.std.proofs.lemmas.Bool.{cases_Bool}
use Rattle.std.proofs.lemmas.Bool.Decides.{nat_tests}
use Rattle.sector_core.specs.declared.bio.BioFields.{BioFields as Bio}
use Rattle.plain.specs.Lists.{numbers, seats}
use Rattle.plain.specs.declared.seat.Seat.{Seat}
use Rattle.plain.specs.Machine.{WholeRequest, Bfq, Plain}
use Rattle.sector_core.specs.declared.class.Class.TheVariants.{RealTime, BestEffort, Idle}
use Rattle.plain.specs.Classes.{Classes, time_of}
use Rattle.plain.specs.Groups.{has_entity}
use Rattle.plain.specs.Looks.{service_of}
use Rattle.plain.specs.declared.member.Member.{Member}
use Rattle.plain.specs.Steps.GroupDrop.{is_in}
use Rattle.plain.specs.Rules.{absent, group_of, stands}
use Rattle.plain.specs.Sessions.{is_session}
use Rattle.plain.specs.Steps.Finish.{seat_of}
use Rattle.host_console.specs.Views.{owner_text, op_text, parent_text, scheduler_text}
use Rattle.host_console.specs.State.{bio_text, bios_text, next_text, request_text, waiting_text, owned_text, again_text, done_text, under_tags, in_order, spaced, flight_text, seated_text, taken_text, served_text, shown_text, member_text, times_text, group_text, run_text, state_look}
use Rattle.host_console.specs.Naming.{Names, IsNamed, named_seat, named_bio, named_request}
use Rattle.host_console.proofs.Placing.{ordered, reordered_map}

-- the texts of what is changed are those of what it was, if each is
flat_changed : {A B : Type 0} (f : B → List ℕ) (g : A → List ℕ) (h : A → B) → ((x : A) → f (h x) ≡ g x) → (xs : List A) → flat_map f (map h xs) ≡ flat_map g xs
flat_changed f g h same [] = refl
flat_changed f g h same (x ∷ xs) =
    let others = flat_changed f g h same xs in
    flat_map-cons f (h x) (map h xs) ∙ (ap (λ t. t ++ flat_map f (map h xs)) (same x) ∙ (ap (λ t. g x ++ t) others ∙ sym (flat_map-cons g x xs)))

map_changed : {A B C : Type 0} (f : B → C) (g : A → C) (h : A → B) → ((x : A) → f (h x) ≡ g x) → (xs : List A) → map f (map h xs) ≡ map g xs
map_changed f g h same [] = refl
map_changed f g h same (x ∷ xs) =
    let others = map_changed f g h same xs in
    let one = same x in
    cc

flat_alike : (f g : ℕ → List ℕ) → ((x : ℕ) → f x ≡ g x) → (xs : List ℕ) → flat_map f xs ≡ flat_map g xs
flat_alike f g same [] = refl
flat_alike f g same (x ∷ xs) =
    let others = flat_alike f g same xs in
    flat_map-cons f x xs ∙ (ap (λ t. t ++ flat_map f xs) (same x) ∙ (ap (λ t. g x ++ t) others ∙ sym (flat_map-cons g x xs)))

find_alike : (p q : ℕ → Bool) → ((x : ℕ) → p x ≡ q x) → (xs : List ℕ) → find p xs ≡ find q xs
find_alike p q same [] = refl
find_alike p q same (x ∷ xs) =
    let others = find_alike p q same xs in
    ap (λ b. cond b (Some x) (find p xs)) (same x) ∙ ap (λ o. cond (q x) (Some x) o) others

-- two sessions are one under other names if they were one
same_test : (names : Names) (a b : ℕ) → (names.session a == names.session b) ≡ (a == b)
same_test names a b = elim (cases_Bool (a == b)) [
  | inl e ↦
      let same : a ≡ b = grind (arith, nat_tests) in
      let renamed : names.session a ≡ names.session b = ap names.session same in
      let yes : (names.session a == names.session b) ≡ true = grind (arith, nat_tests) in
      yes ∙ sym e
  | inr e ↦ elim (cases_Bool (names.session a == names.session b)) [
    | inl n ↦
        let renamed : names.session a ≡ names.session b = grind (arith, nat_tests) in
        let same : a ≡ b = names.apart a b renamed in
        let yes : (a == b) ≡ true = grind (arith, nat_tests) in
        n ∙ sym yes
    | inr n ↦ n ∙ sym e
  ]
]

is_named : (names : Names) (session : ℕ) (s : Option Seat) → is_session (names.session session) (option_map (named_seat names) s) ≡ is_session session s
is_named names session None = refl
is_named names session (Some s) = same_test names s.session session

module _ (names : Names) (tags : ℕ) (m other : Plain) (h : IsNamed names tags m other) where
  seat_named : (session : ℕ) → seat_of other (names.session session) ≡ seat_of m session
  seat_named session = find_alike (λ seat. is_session (names.session session) (other.seat seat)) (λ seat. is_session session (m.seat seat))
      (λ seat. ap (is_session (names.session session)) (h.seat seat) ∙ is_named names session (m.seat seat)) seats

  bios_named : (bios : List Bio) → bios_text (map (named_bio names) bios) ≡ bios_text bios
  bios_named [] = refl
  bios_named (bio ∷ bios) =
      let others = flat_changed next_text next_text (named_bio names) (λ b. refl) bios in
      ap (λ t. 58 ∷ (bio_text bio ++ t)) others

  request_named : (r : WholeRequest) → request_text (named_request names r) ≡ request_text r
  request_named r = ap (λ t. op_text r.op ++ t) (bios_named r.bios)

  owned_named : (r : WholeRequest) → owned_text other (named_request names r) ≡ owned_text m r
  owned_named r =
      ap (λ o. owner_text o ++ 58 ∷ request_text (named_request names r)) (seat_named r.session)
      ∙ ap (λ t. owner_text (seat_of m r.session) ++ 58 ∷ t) (request_named r)

  again_named : flat_map (again_text other) other.requeued ≡ flat_map (again_text m) m.requeued
  again_named = ap (flat_map (again_text other)) h.requeued
      ∙ flat_changed (again_text other) (again_text m) (named_request names) (λ r. ap (λ t. 32 ∷ t) (owned_named r)) m.requeued

  flight_named : flight_text tags other ≡ flight_text tags m
  flight_named =
      let moved : in_order (map (owned_text other) (map (named_request names) (under_tags tags m))) ≡ in_order (map (owned_text other) (under_tags tags other))
      = ordered _ _ (reordered_map (owned_text other) _ _ h.flight) in
      let same : map (owned_text other) (map (named_request names) (under_tags tags m)) ≡ map (owned_text m) (under_tags tags m)
      = map_changed (owned_text other) (owned_text m) (named_request names) owned_named (under_tags tags m) in
      ap (flat_map spaced) (sym moved ∙ ap in_order same)

  queue_named : (seat : ℕ) → is_some (m.seat seat) ≡ true → flat_map waiting_text (other.queue seat) ≡ flat_map waiting_text (m.queue seat)
  queue_named seat taken = ap (flat_map waiting_text) (h.queue seat taken)
      ∙ flat_changed waiting_text waiting_text (named_request names) (λ r. ap (λ t. 32 ∷ t) (request_named r)) (m.queue seat)

  outbox_named : (seat : ℕ) → is_some (m.seat seat) ≡ true → flat_map done_text (other.outbox seat) ≡ flat_map done_text (m.outbox seat)
  outbox_named seat taken = ap (flat_map done_text) (h.outbox seat taken)
      ∙ flat_changed done_text done_text (named_bio names) (λ b. refl) (m.outbox seat)

  -- what is told of a seat by who sits there
  abbrev told : Plain → ℕ → Option Seat → List ℕ
  told p seat s = seated_text seat s (group_of p.bfq seat) (p.head seat) (flat_map waiting_text (p.queue seat)) (flat_map done_text (p.outbox seat))

  seat_by : (seat : ℕ) (s : Option Seat) → m.seat seat ≡ s → taken_text other seat ≡ taken_text m seat
  seat_by seat None free =
      ap (told other seat) (h.seat seat ∙ ap (option_map (named_seat names)) free) ∙ sym (ap (told m seat) free)
  seat_by seat (Some s) sits =
      let taken : is_some (m.seat seat) ≡ true = ap is_some sits in
      let group : group_of other.bfq seat ≡ group_of m.bfq seat = ap (λ p. unwrap_or p 0) (h.parent seat) in
      ap (told other seat) (h.seat seat ∙ ap (option_map (named_seat names)) sits)
      ∙ (ap (λ g. seated_text seat (Some s) g (other.head seat) (flat_map waiting_text (other.queue seat)) (flat_map done_text (other.outbox seat))) group
      ∙ (ap (λ n. seated_text seat (Some s) (group_of m.bfq seat) n (flat_map waiting_text (other.queue seat)) (flat_map done_text (other.outbox seat))) (h.head seat taken)
      ∙ (ap (λ q. seated_text seat (Some s) (group_of m.bfq seat) (m.head seat) q (flat_map done_text (other.outbox seat))) (queue_named seat taken)
      ∙ (ap (λ b. seated_text seat (Some s) (group_of m.bfq seat) (m.head seat) (flat_map waiting_text (m.queue seat)) b) (outbox_named seat taken)
      ∙ sym (ap (told m seat) sits)))))

  seat_told : (seat : ℕ) → taken_text other seat ≡ taken_text m seat
  seat_told seat = seat_by seat (m.seat seat) refl

  -- an entity as its group knows it
  abbrev member : ℕ → Classes → Member
  member entity service = unwrap_or (slice_index_or service.members entity None) absent

  -- what is told of an entity by its group, if it is in the group
  abbrev item : Bool → ℕ → Option ℕ → Classes → ℕ → ℕ → Bfq → List ℕ
  item here entity parent service pending budget b =
      if here then shown_text entity (if is_some parent then Some (record {
        class = (member entity service).class;
        state = (member entity service).state;
        start = (member entity service).start;
        finish = (member entity service).finish;
        weight = (member entity service).weight;
        budget = budget;
        service = service_of (member entity service).state b;
      }) else None) pending else []

  item_is : (p : Plain) (group entity : ℕ) → member_text p group entity
      ≡ item (is_in group (p.bfq.parent entity)) entity (p.bfq.parent entity) (p.bfq.service (unwrap_or (p.bfq.parent entity) 0)) (p.bfq.pending entity) (p.bfq.budget entity) p.bfq
  item_is p group entity = refl

  item_by : (p : Plain) (group entity : ℕ) (parent : Option ℕ) → p.bfq.parent entity ≡ parent → member_text p group entity
      ≡ item (is_in group parent) entity parent (p.bfq.service (unwrap_or parent 0)) (p.bfq.pending entity) (p.bfq.budget entity) p.bfq
  item_by p group entity parent its = item_is p group entity
      ∙ ap (λ o. item (is_in group o) entity o (p.bfq.service (unwrap_or o 0)) (p.bfq.pending entity) (p.bfq.budget entity) p.bfq) its

  member_by : (group entity : ℕ) (parent : Option ℕ) → stands m.bfq group ≡ true → m.bfq.parent entity ≡ parent → member_text other group entity ≡ member_text m group entity
  member_by group entity None stood its =
      item_by other group entity None (h.parent entity ∙ its) ∙ sym (item_by m group entity None its)
  member_by group entity (Some number) stood its =
      let known : is_some (m.bfq.parent entity) ≡ true = ap is_some its in
      let one = item_by other group entity (Some number) (h.parent entity ∙ its) in
      let two = item_by m group entity (Some number) its in
      elim (cases_Bool (number == group)) [
        | inl e ↦
            let same : number ≡ group = grind (arith, nat_tests) in
            let its_own : other.bfq.service number ≡ m.bfq.service number = h.service number (ap (stands m.bfq) same ∙ stood) in
            one
            ∙ (ap (λ s. item (number == group) entity (Some number) s (other.bfq.pending entity) (other.bfq.budget entity) other.bfq) its_own
            ∙ (ap (λ n. item (number == group) entity (Some number) (m.bfq.service number) n (other.bfq.budget entity) other.bfq) (h.pending entity known)
            ∙ (ap (λ n. item (number == group) entity (Some number) (m.bfq.service number) (m.bfq.pending entity) n other.bfq) (h.budget entity known)
            ∙ sym two)))
        | inr e ↦
            one
            ∙ (ap (λ b. item b entity (Some number) (other.bfq.service number) (other.bfq.pending entity) (other.bfq.budget entity) other.bfq) e
            ∙ (sym (ap (λ b. item b entity (Some number) (m.bfq.service number) (m.bfq.pending entity) (m.bfq.budget entity) m.bfq) e)
            ∙ sym two))
      ]

  -- the times of a group by what is known of it
  abbrev timed : ℕ → Option ℕ → Classes → List ℕ
  timed group parent service =
      codes " tree "
      ++ (decimal group ++ 32 ∷ (parent_text parent ++ 32 ∷ (decimal (time_of service.vtimes RealTime) ++ 32 ∷ (decimal (time_of service.vtimes BestEffort) ++ 32 ∷ decimal (time_of service.vtimes Idle)))))

  times_told : (group : ℕ) → stands m.bfq group ≡ true → times_text other group ≡ times_text m group
  times_told group stood = ap (λ o. timed group o (other.bfq.service group)) (h.parent (16 + group)) ∙ ap (timed group (m.bfq.parent (16 + group))) (h.service group stood)

  stands_same : (group : ℕ) → stands other.bfq group ≡ stands m.bfq group
  stands_same group = ap (λ o. if group == 0 then true else if has_entity group then is_some o else false) (h.parent (16 + group))

  group_told : (group : ℕ) → group_text other group ≡ group_text m group
  unfolding group_text
  group_told group =
      let all : Plain → List ℕ = λ p. times_text p group ++ flat_map (member_text p group) (numbers 0 48) in
      elim (cases_Bool (stands m.bfq group)) [
        | inl e ↦
            ap (λ b. if b then all other else []) (stands_same group ∙ e)
            ∙ (ap (λ t. t ++ flat_map (member_text other group) (numbers 0 48)) (times_told group e)
            ∙ (ap (λ t. times_text m group ++ t) (flat_alike (member_text other group) (member_text m group) (λ n. member_by group n (m.bfq.parent n) e refl) (numbers 0 48))
            ∙ sym (ap (λ b. if b then all m else []) e)))
        | inr e ↦ ap (λ b. if b then all other else []) (stands_same group ∙ e) ∙ sym (ap (λ b. if b then all m else []) e)
      ]

  -- the parts of a line, one behind the other
  abbrev line_of : List ℕ → List ℕ → List ℕ → List ℕ → List ℕ → List ℕ → List ℕ → List ℕ → List ℕ
  line_of scheduler run served seated requeued flight service groups =
      codes "state "
      ++ (scheduler ++ 32 ∷ (run ++ 32 ∷ (served ++ (seated ++ (codes " requeued"
      ++ (requeued ++ (codes " flight" ++ (flight ++ (service ++ groups)))))))))

  line_is : (p : Plain) → state_look tags p ≡ line_of (scheduler_text p.scheduler) (run_text p.frozen) (decimal p.served) (flat_map (taken_text p) seats)
      (flat_map (again_text p) p.requeued) (flight_text tags p) (served_text p.bfq.in_service) (flat_map (group_text p) (numbers 0 32))
  unfolding state_look
  line_is p = refl

  same_parts : (a a' b b' c c' d d' e e' f f' g g' i i' : List ℕ) → a ≡ a' → b ≡ b' → c ≡ c' → d ≡ d' → e ≡ e' → f ≡ f' → g ≡ g' → i ≡ i'
      → line_of a b c d e f g i ≡ line_of a' b' c' d' e' f' g' i'
  same_parts a a' b b' c c' d d' e e' f f' g g' i i' p q r s t u v w = cc

  pub one_line : state_look tags other ≡ state_look tags m
  one_line =
      line_is other
      ∙ (same_parts _ _ _ _ _ _ _ _ _ _ _ _ _ _ _ _ (ap scheduler_text h.scheduler) (ap run_text h.frozen) (ap decimal h.served)
      (flat_alike (taken_text other) (taken_text m) seat_told seats) again_named flight_named (ap served_text h.in_service)
      (flat_alike (group_text other) (group_text m) group_told (numbers 0 32))
      ∙ sym (line_is m))
