-- Machines that differ in names alone (our profile): sessions, serials, issues and tags.
use Rattle.std.specs.Prelude.{◌≡◌, ℕ, true, List, [], ◌∷◌, is_some, map}
use Rattle.std.specs.Option.{option_map}
use Rattle.sector_core.specs.declared.bio.BioFields.{BioFields as Bio}
use Rattle.plain.specs.declared.seat.Seat.{Seat}
use Rattle.plain.specs.Machine.{WholeRequest, Plain}
use Rattle.plain.specs.Rules.{stands}
use Rattle.host_console.specs.State.{under_tags}

-- the same in another order: neighbours change places, as often as it takes
pub data IsReordered {A : Type 0} : List A → List A → Type 0 where
  none : IsReordered [] []
  next : (x : A) (xs ys : List A) → IsReordered xs ys → IsReordered (x ∷ xs) (x ∷ ys)
  neighbours : (x y : A) (xs : List A) → IsReordered (x ∷ y ∷ xs) (y ∷ x ∷ xs)
  twice : (xs ys zs : List A) → IsReordered xs ys → IsReordered ys zs → IsReordered xs zs

-- other names of sessions, of which no two are one, and of bios
pub record Names : Type 0 where
  pub session : ℕ → ℕ
  pub serial : ℕ → ℕ
  pub apart : (a b : ℕ) → session a ≡ session b → a ≡ b

abbrev pub named_seat : Names → Seat → Seat
named_seat names s = record s { session = names.session s.session }

abbrev pub named_bio : Names → Bio → Bio
named_bio names bio = record bio { serial = names.serial bio.serial }

abbrev pub named_request : Names → WholeRequest → WholeRequest
named_request names r = record r { session = names.session r.session; bios = map (named_bio names) r.bios }

-- the second machine is the first under these names, but for its tags and issues; in flight are the same requests, under whatever tags. What
-- is stored is not compared, nor what free seats and groups that are gone have left behind.
pub record IsNamed (names : Names) (tags : ℕ) (m other : Plain) : Type 0 where
  pub seat : (n : ℕ) → other.seat n ≡ option_map (named_seat names) (m.seat n)
  pub queue : (n : ℕ) → is_some (m.seat n) ≡ true → other.queue n ≡ map (named_request names) (m.queue n)
  pub requeued : other.requeued ≡ map (named_request names) m.requeued
  pub outbox : (n : ℕ) → is_some (m.seat n) ≡ true → other.outbox n ≡ map (named_bio names) (m.outbox n)
  pub flight : IsReordered (map (named_request names) (under_tags tags m)) (under_tags tags other)
  pub frozen : other.frozen ≡ m.frozen
  pub served : other.served ≡ m.served
  pub head : (n : ℕ) → is_some (m.seat n) ≡ true → other.head n ≡ m.head n
  pub parent : (entity : ℕ) → other.bfq.parent entity ≡ m.bfq.parent entity
  pub service : (group : ℕ) → stands m.bfq group ≡ true → other.bfq.service group ≡ m.bfq.service group
  pub pending : (entity : ℕ) → is_some (m.bfq.parent entity) ≡ true → other.bfq.pending entity ≡ m.bfq.pending entity
  pub budget : (entity : ℕ) → is_some (m.bfq.parent entity) ≡ true → other.bfq.budget entity ≡ m.bfq.budget entity
  pub in_service : other.bfq.in_service ≡ m.bfq.in_service
  pub scheduler : other.scheduler ≡ m.scheduler
