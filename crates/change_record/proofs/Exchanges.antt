-- The laws of exchanges: one turned twice is undone, and so are lists of them.
use Rattle.std.proofs.Common.{◌≡◌, ℕ, zero, suc, List, [], ◌∷◌, ◌++◌, Option, None, Some, IsSome, Bool, true, false, cond, length, get_or, set, refl, sym, ap, ◌∙◌, subst, arith}
use Rattle.std.specs.Ordering.{nat_cmp, is_eq, eq_by_cmp}
use Rattle.std.specs.declared.cmp.Ordering.TheVariants.{Less, Equal, Greater}
use Rattle.std.specs.Cmp.{nat_cmp_total, eq_by_cmp_equiv}
use Rattle.std.specs.FinMap as map
use Rattle.plain.specs.Machine.{Blocks}
use Rattle.overlay.specs.Blocks.{exchanged}
use Rattle.change_record.specs.declared.change.Change.{Change}
use Rattle.change_record.specs.declared.change.Change.TheVariants.{Sector, RequestSlot, BioSlot, Tag, QueueLink, OutboxWhole, SeatEntry, Requeued, Mode, Head, TreeMember, Vtime, GroupEntry, Pending, Budget, Serving}
use Rattle.plain.specs.declared.member.Member.{Member}
use Rattle.plain.specs.declared.member.Vtimes.{Vtimes}
use Rattle.plain.specs.Classes.{Classes, same_times, with_member, with_vtimes}
use Rattle.change_record.specs.Tables.{Tables}
use Rattle.change_record.specs.Exchange.{after, left_by, FitsAt, FitsIn, IsPut, ArePuts, FitBack, forth_tables, forth_left, back_tables, back_left}

-- lists: putting back what stood there
set-set_back : {A : Type 0} (xs : List A) (i : ℕ) (y : A) → set (set xs i y) i (get_or xs i y) ≡ xs
set-set_back [] i y = refl
set-set_back (x ∷ xs) zero y = refl
set-set_back (x ∷ xs) (suc i) y = ap (λ l. x ∷ l) (set-set_back xs i y)

get_or-set_back : {A : Type 0} (xs : List A) (i : ℕ) (y : A) → get_or (set xs i y) i (get_or xs i y) ≡ y
get_or-set_back [] i y = refl
get_or-set_back (x ∷ xs) zero y = refl
get_or-set_back (x ∷ xs) (suc i) y = get_or-set_back xs i y

-- maps: putting back what stood there
get-exchanged : (m : Blocks) (k : ℕ) (w : Option (List ℕ)) (q : ℕ) → map.get (exchanged m k w) q ≡ cond (eq_by_cmp nat_cmp q k) w (map.get m q)
get-exchanged m k None q = map.get-remove nat_cmp_total m k q
get-exchanged m k (Some b) q = map.get-insert nat_cmp_total m k b q

get_same : (m : Blocks) (k q : ℕ) → cond (eq_by_cmp nat_cmp q k) (map.get m k) (map.get m q) ≡ map.get m q
get_same m k q = elim (nat_cmp q k) as (λ r. nat_cmp q k ≡ r → cond (is_eq r) (map.get m k) (map.get m q) ≡ map.get m q) [
  | Less ↦ λ p. refl
  | Equal ↦ λ p. map.get_tied nat_cmp_total m q k p
  | Greater ↦ λ p. refl
] refl

twice : {A : Type 0} (b : Bool) (x y z : A) → cond b x (cond b y z) ≡ cond b x z
twice true x y z = refl
twice false x y z = refl

exchanged-exchanged : (m : Blocks) (k : ℕ) (w : Option (List ℕ)) → exchanged (exchanged m k w) k (map.get m k) ≡ m
exchanged-exchanged m k w = map.same_map nat_cmp_total map.nat_cmp-IsAntisymmetric _ _ (λ q.
    get-exchanged (exchanged m k w) k (map.get m k) q
    ∙ ap (cond (eq_by_cmp nat_cmp q k) (map.get m k)) (get-exchanged m k w q)
    ∙ twice (eq_by_cmp nat_cmp q k) (map.get m k) w (map.get m q) ∙ get_same m k q)

pub get-exchanged_here : (m : Blocks) (k : ℕ) (w : Option (List ℕ)) → map.get (exchanged m k w) k ≡ w
get-exchanged_here m k w = get-exchanged m k w k ∙ ap (λ b. cond b w (map.get m k)) ((eq_by_cmp_equiv nat_cmp_total).refl k)

-- trees: putting back what stood in one of them
abbrev tree_in : List Classes → ℕ → Classes
tree_in trees group = get_or trees group (record { vtimes = same_times 0; members = [] })

tree_member_back : (trees : List Classes) (group entity : ℕ) (member : Option Member) →
    let now = set trees group (with_member (tree_in trees group) entity member) in
    set now group (with_member (tree_in now group) entity (get_or (tree_in trees group).members entity member)) ≡ trees
tree_member_back [] group entity member = refl
tree_member_back (t ∷ ts) zero entity member = ap (λ l. record t { members = l } ∷ ts) (set-set_back t.members entity member)
tree_member_back (t ∷ ts) (suc group) entity member = ap (λ l. t ∷ l) (tree_member_back ts group entity member)

member_left_back : (trees : List Classes) (group entity : ℕ) (member : Option Member) →
    let now = set trees group (with_member (tree_in trees group) entity member) in
    get_or (tree_in now group).members entity (get_or (tree_in trees group).members entity member) ≡ member
member_left_back [] group entity member = refl
member_left_back (t ∷ ts) zero entity member = get_or-set_back t.members entity member
member_left_back (t ∷ ts) (suc group) entity member = member_left_back ts group entity member

vtime_back : (trees : List Classes) (group : ℕ) (vtime : Vtimes) →
    let now = set trees group (with_vtimes (tree_in trees group) vtime) in
    set now group (with_vtimes (tree_in now group) (get_or trees group (with_vtimes (tree_in trees group) vtime)).vtimes) ≡ trees
vtime_back [] group vtime = refl
vtime_back (t ∷ ts) zero vtime = refl
vtime_back (t ∷ ts) (suc group) vtime = ap (λ l. t ∷ l) (vtime_back ts group vtime)

vtime_left_back : (trees : List Classes) (group : ℕ) (vtime : Vtimes) →
    let old = (get_or trees group (with_vtimes (tree_in trees group) vtime)).vtimes in
    let now = set trees group (with_vtimes (tree_in trees group) vtime) in
    (get_or now group (with_vtimes (tree_in now group) old)).vtimes ≡ vtime
vtime_left_back [] group vtime = refl
vtime_left_back (t ∷ ts) zero vtime = refl
vtime_left_back (t ∷ ts) (suc group) vtime = vtime_left_back ts group vtime

-- an exchange turned twice leaves the tables and the change as they were
pub after-after : (t : Tables) (c : Change) → after (after t c) (left_by t c) ≡ t
after-after t (Sector sector block) = ap (λ m. record t { overlay = m }) (exchanged-exchanged t.overlay sector block)
after-after t (RequestSlot slot request) = ap (λ l. record t { requests = l }) (set-set_back t.requests slot request)
after-after t (BioSlot slot bio) = ap (λ l. record t { bios = l }) (set-set_back t.bios slot bio)
after-after t (Tag tag issue) = ap (λ l. record t { tags = l }) (set-set_back t.tags tag issue)
after-after t (QueueLink slot link) = ap (λ l. record t { links = l }) (set-set_back t.links slot link)
after-after t (Requeued slot link) = ap (λ l. record t { requeued = l }) (set-set_back t.requeued slot link)
after-after t (OutboxWhole seat outbox) = ap (λ l. record t { outboxes = l }) (set-set_back t.outboxes seat outbox)
after-after t (SeatEntry seat entry) = ap (λ l. record t { seats = l }) (set-set_back t.seats seat entry)
after-after t (Mode scheduler frozen served) = refl
after-after t (Head seat head) = ap (λ l. record t { heads = l }) (set-set_back t.heads seat head)
after-after t (TreeMember group entity member) = ap (λ l. record t { trees = l }) (tree_member_back t.trees group entity member)
after-after t (Vtime group vtime) = ap (λ l. record t { trees = l }) (vtime_back t.trees group vtime)
after-after t (GroupEntry entity group) = ap (λ l. record t { parents = l }) (set-set_back t.parents entity group)
after-after t (Pending entity weight) = ap (λ l. record t { weights = l }) (set-set_back t.weights entity weight)
after-after t (Budget entity budget) = ap (λ l. record t { budgets = l }) (set-set_back t.budgets entity budget)
after-after t (Serving slot) = refl

pub left_by-after : (t : Tables) (c : Change) → left_by (after t c) (left_by t c) ≡ c
left_by-after t (Sector sector block) = ap (Sector sector) (get-exchanged_here t.overlay sector block)
left_by-after t (RequestSlot slot request) = ap (RequestSlot slot) (get_or-set_back t.requests slot request)
left_by-after t (BioSlot slot bio) = ap (BioSlot slot) (get_or-set_back t.bios slot bio)
left_by-after t (Tag tag issue) = ap (Tag tag) (get_or-set_back t.tags tag issue)
left_by-after t (QueueLink slot link) = ap (QueueLink slot) (get_or-set_back t.links slot link)
left_by-after t (Requeued slot link) = ap (Requeued slot) (get_or-set_back t.requeued slot link)
left_by-after t (OutboxWhole seat outbox) = ap (OutboxWhole seat) (get_or-set_back t.outboxes seat outbox)
left_by-after t (SeatEntry seat entry) = ap (SeatEntry seat) (get_or-set_back t.seats seat entry)
left_by-after t (Mode scheduler frozen served) = refl
left_by-after t (Head seat head) = ap (Head seat) (get_or-set_back t.heads seat head)
left_by-after t (TreeMember group entity member) = ap (TreeMember group entity) (member_left_back t.trees group entity member)
left_by-after t (Vtime group vtime) = ap (Vtime group) (vtime_left_back t.trees group vtime)
left_by-after t (GroupEntry entity group) = ap (GroupEntry entity) (get_or-set_back t.parents entity group)
left_by-after t (Pending entity weight) = ap (Pending entity) (get_or-set_back t.weights entity weight)
left_by-after t (Budget entity budget) = ap (Budget entity) (get_or-set_back t.budgets entity budget)
left_by-after t (Serving slot) = refl

-- lists turned forth and then back
pub back_tables-forth : (cs : List Change) (t : Tables) → back_tables (forth_left cs t) (forth_tables cs t) ≡ t
back_tables-forth [] t = refl
back_tables-forth (c ∷ cs) t = ap (λ u. after u (left_by t c)) (back_tables-forth cs (after t c)) ∙ after-after t c

pub back_left-forth : (cs : List Change) (t : Tables) → back_left (forth_left cs t) (forth_tables cs t) ≡ cs
back_left-forth [] t = refl
back_left-forth (c ∷ cs) t =
    ap (λ u. left_by u (left_by t c) ∷ back_left (forth_left cs (after t c)) (forth_tables cs (after t c))) (back_tables-forth cs (after t c))
    ∙ ap (λ d. d ∷ back_left (forth_left cs (after t c)) (forth_tables cs (after t c))) (left_by-after t c)
    ∙ ap (λ ds. c ∷ ds) (back_left-forth cs (after t c))

-- lists turned back and then forth
pub forth_tables-back : (cs : List Change) (t : Tables) → forth_tables (back_left cs t) (back_tables cs t) ≡ t
forth_tables-back [] t = refl
forth_tables-back (c ∷ cs) t = ap (forth_tables (back_left cs t)) (after-after (back_tables cs t) c) ∙ forth_tables-back cs t

pub forth_left-back : (cs : List Change) (t : Tables) → forth_left (back_left cs t) (back_tables cs t) ≡ cs
forth_left-back [] t = refl
forth_left-back (c ∷ cs) t =
    ap (λ d. d ∷ forth_left (back_left cs t) (after (after (back_tables cs t) c) (left_by (back_tables cs t) c))) (left_by-after (back_tables cs t) c)
    ∙ ap (λ u. c ∷ forth_left (back_left cs t) u) (after-after (back_tables cs t) c)
    ∙ ap (λ ds. c ∷ ds) (forth_left-back cs t)

-- lists one after the other
pub forth_tables-append : (cs ds : List Change) (t : Tables) → forth_tables (cs ++ ds) t ≡ forth_tables ds (forth_tables cs t)
forth_tables-append [] ds t = refl
forth_tables-append (c ∷ cs) ds t = forth_tables-append cs ds (after t c)

pub forth_left-append : (cs ds : List Change) (t : Tables) → forth_left (cs ++ ds) t ≡ forth_left cs t ++ forth_left ds (forth_tables cs t)
forth_left-append [] ds t = refl
forth_left-append (c ∷ cs) ds t = ap (λ l. left_by t c ∷ l) (forth_left-append cs ds (after t c))

pub back_tables-append : (cs ds : List Change) (t : Tables) → back_tables (cs ++ ds) t ≡ back_tables cs (back_tables ds t)
back_tables-append [] ds t = refl
back_tables-append (c ∷ cs) ds t = ap (λ u. after u c) (back_tables-append cs ds t)

pub back_left-append : (cs ds : List Change) (t : Tables) → back_left (cs ++ ds) t ≡ back_left cs (back_tables ds t) ++ back_left ds t
back_left-append [] ds t = refl
back_left-append (c ∷ cs) ds t =
    ap (λ u. left_by u c ∷ back_left (cs ++ ds) t) (back_tables-append cs ds t)
    ∙ ap (λ l. left_by (back_tables cs (back_tables ds t)) c ∷ l) (back_left-append cs ds t)

pub FitBack-append : (cs ds : List Change) (t : Tables) → FitBack ds t → FitBack cs (back_tables ds t) → FitBack (cs ++ ds) t
FitBack-append [] ds t d c = d
FitBack-append (e ∷ cs) ds t d c =
    let P : Tables → Type 0 = λ u. FitsIn u e in
    (FitBack-append cs ds t d c.0, subst P (sym (back_tables-append cs ds t)) c.1)

pub FitBack-first : (cs ds : List Change) (t : Tables) → FitBack (cs ++ ds) t → FitBack cs (back_tables ds t)
FitBack-first [] ds t h = tt
FitBack-first (e ∷ cs) ds t h =
    let P : Tables → Type 0 = λ u. FitsIn u e in
    (FitBack-first cs ds t h.0, subst P (back_tables-append cs ds t) h.1)

pub FitBack-last : (cs ds : List Change) (t : Tables) → FitBack (cs ++ ds) t → FitBack ds t
FitBack-last [] ds t h = h
FitBack-last (e ∷ cs) ds t h = FitBack-last cs ds t h.0

pub ArePuts-append : (cs ds : List Change) → ArePuts cs → ArePuts ds → ArePuts (cs ++ ds)
ArePuts-append [] ds c d = d
ArePuts-append (e ∷ cs) ds c d = (c.0, ArePuts-append cs ds c.1 d)

fits_here : (m : Blocks) (k : ℕ) (w : Option (List ℕ)) → IsSome (map.get m k) → FitsAt m k w
fits_here m k None h = tt
fits_here m k (Some b) h = h

-- what a put leaves can be put back without adding a block
pub FitsIn-left_by : (t : Tables) (c : Change) → IsPut c → FitsIn (after t c) (left_by t c)
FitsIn-left_by t (Sector sector block) p = fits_here (exchanged t.overlay sector block) sector (map.get t.overlay sector)
    (let P : Option (List ℕ) → Type 0 = λ o. IsSome o in subst P (sym (get-exchanged_here t.overlay sector block)) p)
FitsIn-left_by t (RequestSlot slot request) p = tt
FitsIn-left_by t (BioSlot slot bio) p = tt
FitsIn-left_by t (Tag tag issue) p = tt
FitsIn-left_by t (QueueLink slot link) p = tt
FitsIn-left_by t (Requeued slot link) p = tt
FitsIn-left_by t (OutboxWhole seat outbox) p = tt
FitsIn-left_by t (SeatEntry seat entry) p = tt
FitsIn-left_by t (Mode scheduler frozen served) p = tt
FitsIn-left_by t (Head seat head) p = tt
FitsIn-left_by t (TreeMember group entity member) p = tt
FitsIn-left_by t (Vtime group vtime) p = tt
FitsIn-left_by t (GroupEntry entity group) p = tt
FitsIn-left_by t (Pending entity weight) p = tt
FitsIn-left_by t (Budget entity budget) p = tt
FitsIn-left_by t (Serving slot) p = tt

pub FitBack-forth : (cs : List Change) (t : Tables) → ArePuts cs → FitBack (forth_left cs t) (forth_tables cs t)
FitBack-forth [] t p = tt
FitBack-forth (c ∷ cs) t p =
    let P : Tables → Type 0 = λ u. FitsIn u (left_by t c) in
    (FitBack-forth cs (after t c) p.1, subst P (sym (back_tables-forth cs (after t c))) (FitsIn-left_by t c p.0))

pub length-forth_left : (cs : List Change) (t : Tables) → length (forth_left cs t) ≡ length cs
length-forth_left [] t = refl
length-forth_left (c ∷ cs) t = let e = length-forth_left cs (after t c) in omega arith

pub length-back_left : (cs : List Change) (t : Tables) → length (back_left cs t) ≡ length cs
length-back_left [] t = refl
length-back_left (c ∷ cs) t = let e = length-back_left cs t in omega arith
