-- The bios of a finished request whose session leaves are dropped one by one.
use Rattle.std.proofs.Common.{◌≡◌, inl, inr, ℕ, ◌+◌, ◌<◌, ◌^◌, List, [], ◌∷◌, Option, Some, None, length, get_or, set, drop, refl, sym, ap, ◌∙◌, subst, arith}
use Rattle.std.specs.Prelude.{IfSome}
use Rattle.std.proofs.lemmas.List.{get_or-set_other, drop_more}
use Rattle.std.proofs.lemmas.List.Sums.{sum_by-cons}
use Rattle.std.proofs.lemmas.List.Elements.{All-head, All-tail}
use Rattle.dispatch_core.proofs.Words.{Bio, Effect, Blocks, Tables, bios_at, after_effect, at, one, without_bios, count_of_bio, count_at, total_count}
use Rattle.sector_core.specs.declared.bio.Effect.TheVariants.{Reads, Writes, Clears, Fails}
use Rattle.dispatch_core.specs.Ready.{IsReady, HasBytes, HasPayload}
use Rattle.dispatch_core.proofs.Times.{Apart, set_cases, at_within, bios_at-set}
use Rattle.dispatch_core.proofs.Room.{Distinct-head, Distinct-tail}
use Rattle.dispatch_core.proofs.Completing.{first_bio, total_cons, bios_at-cons}

-- the tables when every bio in these slots is dropped, and what they store is stored
abbrev pub all_dropped : Effect → Tables → List ℕ → Tables
all_dropped effect t slots = record t {
  overlay = after_effect effect t.overlay (bios_at t.bios slots);
  bios = without_bios t.bios slots;
}

-- the first bio is stored, and then the others
stored_more : (effect : Effect) (overlay : Blocks) (bio : Bio) (bios : List Bio) → after_effect effect (after_effect effect overlay (bio ∷ [])) bios ≡ after_effect effect overlay (bio ∷ bios)
stored_more (Reads bytes) overlay bio bios = refl
stored_more Writes overlay bio bios = refl
stored_more Clears overlay bio bios = refl
stored_more (Fails kind) overlay bio bios = refl

-- a bio is stored as it is without its result
pub copy_stored : (effect : Effect) (overlay : Blocks) (bio : Bio) → after_effect effect overlay ((let b : Bio = record bio { result = None } in b) ∷ []) ≡ after_effect effect overlay (bio ∷ [])
copy_stored (Reads bytes) overlay bio = refl
copy_stored Writes overlay bio = refl
copy_stored Clears overlay bio = refl
copy_stored (Fails kind) overlay bio = refl

-- and has the bytes that it has
copy_payload : (effect : Effect) (bio : Bio) → HasPayload effect bio → HasPayload effect (let b : Bio = record bio { result = None } in b)
copy_payload (Reads bytes) bio h = tt
copy_payload Writes bio h = h
copy_payload Clears bio h = tt
copy_payload (Fails kind) bio h = tt

-- fewer sectors have their bytes too
bytes_fewer : (effect : Effect) (count more : ℕ) → HasBytes (count + more) effect → HasBytes more effect
bytes_fewer (Reads bytes) count more h = omega (arith, h)
bytes_fewer Writes count more h = tt
bytes_fewer Clears count more h = tt
bytes_fewer (Fails kind) count more h = tt

-- the sectors of slots are those of the slots without another bio
total_without : (bios : List (Option Bio)) (slot : ℕ) (slots : List ℕ) → Apart slot slots → total_count (set bios slot None) slots ≡ total_count bios slots
total_without bios slot [] apart = refl
total_without bios slot (s ∷ slots) apart =
    let first : count_at (set bios slot None) s ≡ count_at bios s = ap count_of_bio (get_or-set_other bios slot s None None (All-head (λ x. x ≡ slot → ⊥) s slots apart)) in
    let rest = total_without bios slot slots (All-tail (λ x. x ≡ slot → ⊥) s slots apart) in
    omega (arith, first, rest, sum_by-cons (count_at bios) s slots, sum_by-cons (count_at (set bios slot None)) s slots)

module _ (effect : Effect) (t : Tables) (slot : ℕ) (slots : List ℕ) (ready : IsReady t.bios (slot ∷ slots) effect) (copy : Bio)
    (is : IfSome (at t.bios slot) (λ bio. copy ≡ record bio { result = None })) where
  -- the bio in the first slot
  abbrev first : Bio
  first = (first_bio effect t slot slots ready).0

  here : at t.bios slot ≡ Some first
  here = (first_bio effect t slot slots ready).1

  -- the copy is that bio, without its result
  copy_is : copy ≡ record first { result = None }
  copy_is = subst (λ o. IfSome o (λ bio. copy ≡ record bio { result = None })) here is

  -- its range, its bytes and its sectors
  pub copy_ends : copy.range.start + copy.range.count < 2 ^ 64
  copy_ends = subst (λ (d : Bio). d.range.start + d.range.count < 2 ^ 64) (sym copy_is) (ready.ranges slot first here)

  pub copy_has : HasPayload effect copy
  copy_has =
      let P : Bio → Type 0 = λ d. HasPayload effect d in
      subst P (sym copy_is) (copy_payload effect first (All-head (λ q. (b : Bio) → at t.bios q ≡ Some b → HasPayload effect b) slot slots ready.payloads first here))

  pub copy_total : total_count t.bios (slot ∷ slots) ≡ copy.range.count + total_count t.bios slots
  copy_total = total_cons t.bios slot slots first here ∙ sym (ap (λ (d : Bio). d.range.count + total_count t.bios slots) copy_is)

  module _ (u v : Tables) (put : u ≡ record t { overlay = after_effect effect t.overlay (copy ∷ []) }) (cleared : v ≡ record u { bios = set u.bios slot None }) where
    -- the tables without the first bio
    gone : v ≡ record t { overlay = after_effect effect t.overlay (first ∷ []); bios = set t.bios slot None }
    gone =
        cleared ∙ ap (λ (w : Tables). record w { bios = set w.bios slot None }) put
        ∙ ap (λ d. record t { overlay = after_effect effect t.overlay (d ∷ []); bios = set t.bios slot None }) copy_is
        ∙ ap (λ o. record t { overlay = o; bios = set t.bios slot None }) (copy_stored effect t.overlay first)

    apart : Apart slot slots
    apart = Distinct-head slot slots ready.distinct

    -- the others are to come
    pub dropped_more : all_dropped effect v slots ≡ all_dropped effect t (slot ∷ slots)
    dropped_more =
        ap (λ w. all_dropped effect w slots) gone
        ∙ ap (λ l. record t { overlay = after_effect effect (after_effect effect t.overlay (first ∷ [])) l; bios = without_bios (set t.bios slot None) slots }) (bios_at-set t.bios slot None slots apart)
        ∙ ap (λ o. record t { overlay = o; bios = without_bios (set t.bios slot None) slots }) (stored_more effect t.overlay first (bios_at t.bios slots))
        ∙ ap (λ l. record t { overlay = after_effect effect t.overlay l; bios = without_bios (set t.bios slot None) slots }) (sym (bios_at-cons t.bios slot slots first here))

    -- with as many sectors as before
    pub copy_total_more : total_count v.bios slots ≡ total_count t.bios slots
    copy_total_more = ap (λ (w : Tables). total_count w.bios slots) gone ∙ total_without t.bios slot slots apart

    -- and are ready
    pub copy_ready : IsReady v.bios slots effect
    copy_ready =
        let cleared_bios : List (Option Bio) = set t.bios slot None in
        let within : slot < length t.bios = at_within t.bios slot first here in
        let was : (q : ℕ) (b : Bio) → at cleared_bios q ≡ Some b → at t.bios q ≡ Some b = λ q b h. elim (set_cases t.bios slot q None within) [
          | inl it ↦ let both : None ≡ Some b = sym it.1 ∙ h in absurd cc
          | inr other ↦ sym other.1 ∙ h
        ] in
        let P : Tables → Type 0 = λ w. IsReady w.bios slots effect in
        let R : ℕ → Type 0 = λ n. HasBytes n effect in
        subst P (sym gone) (record {
          distinct = Distinct-tail slot slots ready.distinct;
          taken = λ k d lt. ap one (get_or-set_other t.bios slot (get_or slots k d) None None (apart k d lt)) ∙ All-tail (λ q. one (at t.bios q) ≡ 1) slot slots ready.taken k d lt;
          ranges = λ q b h. ready.ranges q b (was q b h);
          small = λ q b h. ready.small q b (was q b h);
          payloads = λ k d lt b h. All-tail (λ q. (c : Bio) → at t.bios q ≡ Some c → HasPayload effect c) slot slots ready.payloads k d lt b (was (get_or slots k d) b h);
          bytes = subst R (sym (total_without t.bios slot slots apart)) (bytes_fewer effect first.range.count (total_count t.bios slots) (subst R (total_cons t.bios slot slots first here) ready.bytes));
        })

-- what the tables will be, at a place of the list
pub dropped_at : (effect : Effect) (t : Tables) (slots : List ℕ) (i : ℕ) → i < length slots → all_dropped effect t (get_or slots i 0 ∷ drop (i + 1) slots) ≡ all_dropped effect t (drop i slots)
dropped_at effect t slots i h = sym (ap (all_dropped effect t) (drop_more slots i 0 h))
