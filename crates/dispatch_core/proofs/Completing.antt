-- The bios of a finished request get their results one by one.
use Rattle.std.proofs.Common.{◌≡◌, inl, inr, ℕ, ◌+◌, ◌*◌, ◌<◌, ◌≤◌, ◌^◌, List, [], ◌∷◌, Option, Some, None, length, get_or, set, drop, refl, sym, ap, ◌∙◌, subst, arith, length-drop}
use Rattle.std.specs.Prelude.{IsSome, IfSome}
use Rattle.std.specs.List.{cons_option}
use Rattle.std.proofs.lemmas.List.{get_or-set_other, drop_more}
use Rattle.std.proofs.lemmas.List.Sums.{sum_by-cons}
use Rattle.std.proofs.lemmas.List.Elements.{All-head, All-tail}
use Rattle.dispatch_core.proofs.Words.{Range, Bio, Effect, Blocks, Tables, bios_at, after_effect, completed, result_of, rest_of_effect, at, one, with_bios, count_of_bio, count_at, total_count}
use Rattle.sector_core.specs.declared.bio.BioResult.TheVariants.{Written, Discarded}
use Rattle.sector_core.specs.declared.bio.Effect.TheVariants.{Reads, Writes, Clears, Fails}
use Rattle.dispatch_core.specs.Ready.{IsReady, HasBytes, HasPayload}
use Rattle.dispatch_core.proofs.Times.{Apart, set_cases, at_within, bios_at-set}
use Rattle.dispatch_core.proofs.Room.{Distinct-head, Distinct-tail}
use Rattle.dispatch_core.proofs.Written.{some_of}

-- the tables with the results of these bios in these slots
abbrev with_results : Effect → Tables → List ℕ → List Bio → Tables
with_results effect t slots bios = record t {
  overlay = after_effect effect t.overlay bios;
  bios = with_bios t.bios slots (completed effect t.overlay bios);
}

-- the tables when every bio in these slots has its result
abbrev pub completed_tables : Effect → Tables → List ℕ → Tables
completed_tables effect t slots = with_results effect t slots (bios_at t.bios slots)

-- a bio with its result
abbrev pub done_of : Effect → Tables → Bio → Bio
done_of effect t bio = record bio { result = Some (result_of effect t.overlay bio) }

-- the tables when one bio has its result
abbrev pub one_completed : Effect → Tables → ℕ → Bio → Tables
one_completed effect t slot bio = record t {
  overlay = after_effect effect t.overlay (bio ∷ []);
  bios = set t.bios slot (Some (done_of effect t bio));
}

-- the results of a store do not depend on the overlay, and those of a discard neither
stored_alike : (a b : Blocks) (bios : List Bio) → completed Writes a bios ≡ completed Writes b bios
stored_alike a b [] = refl
stored_alike a b (bio ∷ bios) = ap (λ l. record bio { result = Some Written } ∷ l) (stored_alike a b bios)

cleared_alike : (a b : Blocks) (bios : List Bio) → completed Clears a bios ≡ completed Clears b bios
cleared_alike a b [] = refl
cleared_alike a b (bio ∷ bios) = ap (λ l. record bio { result = Some Discarded } ∷ l) (cleared_alike a b bios)

-- the first bio and then the others
results_more : (effect : Effect) (t : Tables) (slot : ℕ) (slots : List ℕ) (bio : Bio) (bios : List Bio)
    → with_results (rest_of_effect bio.range.count effect) (one_completed effect t slot bio) slots bios ≡ with_results effect t (slot ∷ slots) (bio ∷ bios)
results_more (Reads bytes) t slot slots bio bios = refl
results_more Writes t slot slots bio bios =
    ap (λ l. record t { overlay = after_effect Writes t.overlay (bio ∷ bios); bios = with_bios (set t.bios slot (Some (done_of Writes t bio))) slots l })
    (stored_alike (after_effect Writes t.overlay (bio ∷ [])) t.overlay bios)
results_more Clears t slot slots bio bios =
    ap (λ l. record t { overlay = after_effect Clears t.overlay (bio ∷ bios); bios = with_bios (set t.bios slot (Some (done_of Clears t bio))) slots l })
    (cleared_alike (after_effect Clears t.overlay (bio ∷ [])) t.overlay bios)
results_more (Fails kind) t slot slots bio bios = refl

-- the bio in the first slot is the first of the bios
pub bios_at-cons : (bios : List (Option Bio)) (slot : ℕ) (slots : List ℕ) (bio : Bio) → at bios slot ≡ Some bio → bios_at bios (slot ∷ slots) ≡ bio ∷ bios_at bios slots
bios_at-cons bios slot slots bio here = ap (λ o. cons_option o (bios_at bios slots)) here

-- so one bio and then the others is all of them
pub completed_more : (effect : Effect) (t u : Tables) (slot : ℕ) (slots : List ℕ) (bio : Bio) → IsReady t.bios (slot ∷ slots) effect → at t.bios slot ≡ Some bio → u ≡ one_completed effect t slot bio
    → completed_tables (rest_of_effect bio.range.count effect) u slots ≡ completed_tables effect t (slot ∷ slots)
completed_more effect t u slot slots bio ready here now =
    ap (λ v. completed_tables (rest_of_effect bio.range.count effect) v slots) now
    ∙ ap (with_results (rest_of_effect bio.range.count effect) (one_completed effect t slot bio) slots)
    (bios_at-set t.bios slot (Some (done_of effect t bio)) slots (Distinct-head slot slots ready.distinct))
    ∙ results_more effect t slot slots bio (bios_at t.bios slots)
    ∙ ap (with_results effect t (slot ∷ slots)) (sym (bios_at-cons t.bios slot slots bio here))

-- the sectors of the first slot and of the others
pub total_cons : (bios : List (Option Bio)) (slot : ℕ) (slots : List ℕ) (bio : Bio) → at bios slot ≡ Some bio → total_count bios (slot ∷ slots) ≡ bio.range.count + total_count bios slots
total_cons bios slot slots bio here = sum_by-cons (count_at bios) slot slots ∙ ap (λ o. count_of_bio o + total_count bios slots) here

-- a bio of the same range in its place
count_set : (bios : List (Option Bio)) (slot : ℕ) (bio done : Bio) (q : ℕ) → at bios slot ≡ Some bio → done.range ≡ bio.range → count_at (set bios slot (Some done)) q ≡ count_at bios q
count_set bios slot bio done q here same = elim (set_cases bios slot q (Some done) (at_within bios slot bio here)) [
  | inl it ↦ ap count_of_bio it.1 ∙ ap (λ (r : Range). r.count) same ∙ sym (ap (count_at bios) it.0 ∙ ap count_of_bio here)
  | inr other ↦ ap count_of_bio other.1
]

-- changes no count of sectors
total_set : (bios : List (Option Bio)) (slot : ℕ) (slots : List ℕ) (bio done : Bio) → at bios slot ≡ Some bio → done.range ≡ bio.range → total_count (set bios slot (Some done)) slots ≡ total_count bios slots
total_set bios slot [] bio done here same = refl
total_set bios slot (s ∷ slots) bio done here same =
    let first = count_set bios slot bio done s here same in
    let rest = total_set bios slot slots bio done here same in
    omega (arith, first, rest, sum_by-cons (count_at bios) s slots, sum_by-cons (count_at (set bios slot (Some done))) s slots)

-- the bytes that are left are enough for the others
bytes_rest : (effect : Effect) (count more : ℕ) → HasBytes (count + more) effect → HasBytes more (rest_of_effect count effect)
bytes_rest (Reads bytes) count more h = omega (arith, h, length-drop (512 * count) bytes)
bytes_rest Writes count more h = tt
bytes_rest Clears count more h = tt
bytes_rest (Fails kind) count more h = tt

-- and those of the first are there
bytes_first : (effect : Effect) (count more : ℕ) → HasBytes (count + more) effect → HasBytes count effect
bytes_first (Reads bytes) count more h = omega (arith, h)
bytes_first Writes count more h = tt
bytes_first Clears count more h = tt
bytes_first (Fails kind) count more h = tt

-- what is to be stored has its bytes still
payload_rest : (effect : Effect) (count : ℕ) (bio : Bio) → HasPayload effect bio → HasPayload (rest_of_effect count effect) bio
payload_rest (Reads bytes) count bio h = tt
payload_rest Writes count bio h = h
payload_rest Clears count bio h = tt
payload_rest (Fails kind) count bio h = tt

-- a bio with its result is stored as it was without
done_stored : (effect : Effect) (t : Tables) (bio : Bio) → after_effect effect t.overlay (done_of effect t bio ∷ []) ≡ after_effect effect t.overlay (bio ∷ [])
done_stored (Reads bytes) t bio = refl
done_stored Writes t bio = refl
done_stored Clears t bio = refl
done_stored (Fails kind) t bio = refl

-- and has its bytes
done_payload : (effect : Effect) (t : Tables) (bio : Bio) → HasPayload effect bio → HasPayload effect (done_of effect t bio)
done_payload (Reads bytes) t bio h = tt
done_payload Writes t bio h = h
done_payload Clears t bio h = tt
done_payload (Fails kind) t bio h = tt

-- its blocks put, and then the bio with its result
pub one_now : (effect : Effect) (t u v : Tables) (slot : ℕ) (bio done : Bio) → done ≡ done_of effect t bio → u ≡ record t { overlay = after_effect effect t.overlay (done ∷ []) }
    → v ≡ record u { bios = set u.bios slot (Some done) } → v ≡ one_completed effect t slot bio
one_now effect t u v slot bio done e f g =
    g ∙ ap (λ (w : Tables). record w { bios = set w.bios slot (Some done) }) f
    ∙ ap (λ d. record t { overlay = after_effect effect t.overlay (d ∷ []); bios = set t.bios slot (Some d) }) e
    ∙ ap (λ o. record t { overlay = o; bios = set t.bios slot (Some (done_of effect t bio)) }) (done_stored effect t bio)

module _ (effect : Effect) (t : Tables) (slot : ℕ) (slots : List ℕ) (ready : IsReady t.bios (slot ∷ slots) effect) where
  -- there is a bio in the first slot
  pub first_bio : (b : Bio) × (at t.bios slot ≡ Some b)
  first_bio = some_of (at t.bios slot) (All-head (λ q. one (at t.bios q) ≡ 1) slot slots ready.taken)

  -- so the slot is taken
  pub first_taken : IsSome (at t.bios slot)
  first_taken = subst (λ o. IsSome o) (sym first_bio.1) refl

  -- and its range ends somewhere
  pub first_ends : IfSome (at t.bios slot) (λ bio. bio.range.start + bio.range.count < 2 ^ 64)
  first_ends = subst (λ o. IfSome o (λ bio. bio.range.start + bio.range.count < 2 ^ 64)) (sym first_bio.1) (ready.ranges slot first_bio.0 first_bio.1)

  -- what is said of the bio in the first slot is said of this one
  pub first_done : (done : Bio) → IfSome (at t.bios slot) (λ bio. done ≡ record bio { result = Some (result_of effect t.overlay bio) }) → done ≡ done_of effect t first_bio.0
  first_done done h = subst (λ o. IfSome o (λ bio. done ≡ record bio { result = Some (result_of effect t.overlay bio) })) first_bio.1 h

  -- its range, its bytes and its sectors are those of the bio with its result
  pub first_ends_done : (done : Bio) → done ≡ done_of effect t first_bio.0 → done.range.start + done.range.count < 2 ^ 64
  first_ends_done done e = subst (λ (d : Bio). d.range.start + d.range.count < 2 ^ 64) (sym e) (ready.ranges slot first_bio.0 first_bio.1)

  pub first_payload : (done : Bio) → done ≡ done_of effect t first_bio.0 → HasPayload effect done
  first_payload done e =
      let P : Bio → Type 0 = λ d. HasPayload effect d in
      subst P (sym e) (done_payload effect t first_bio.0 (All-head (λ q. (b : Bio) → at t.bios q ≡ Some b → HasPayload effect b) slot slots ready.payloads first_bio.0 first_bio.1))

  pub first_total : (done : Bio) → done ≡ done_of effect t first_bio.0 → total_count t.bios (slot ∷ slots) ≡ done.range.count + total_count t.bios slots
  first_total done e = total_cons t.bios slot slots first_bio.0 first_bio.1 ∙ sym (ap (λ (d : Bio). d.range.count + total_count t.bios slots) e)

  pub first_bytes : (done : Bio) → done ≡ done_of effect t first_bio.0 → HasBytes done.range.count effect
  first_bytes done e =
      let P : ℕ → Type 0 = λ n. HasBytes n effect in
      bytes_first effect done.range.count (total_count t.bios slots) (subst P (first_total done e) ready.bytes)

  -- and when it has its result
  module _ (u v : Tables) (done : Bio) (is : done ≡ done_of effect t first_bio.0) (put : u ≡ record t { overlay = after_effect effect t.overlay (done ∷ []) })
      (set_it : v ≡ record u { bios = set u.bios slot (Some done) }) where
    -- the tables are those with its result
    now : v ≡ one_completed effect t slot first_bio.0
    now = one_now effect t u v slot first_bio.0 done is put set_it

    -- it has as many sectors as before
    count_is : done.range.count ≡ first_bio.0.range.count
    count_is = ap (λ (d : Bio). d.range.count) is

    -- the others are to come
    pub tables_more : completed_tables (rest_of_effect done.range.count effect) v slots ≡ completed_tables effect t (slot ∷ slots)
    tables_more = ap (λ n. completed_tables (rest_of_effect n effect) v slots) count_is ∙ completed_more effect t v slot slots first_bio.0 ready first_bio.1 now

    -- with as many sectors as before
    pub total_more : total_count v.bios slots ≡ total_count t.bios slots
    total_more = ap (λ (w : Tables). total_count w.bios slots) now ∙ total_set t.bios slot slots first_bio.0 (done_of effect t first_bio.0) first_bio.1 refl

    -- and are ready
    pub ready_more : IsReady v.bios slots (rest_of_effect done.range.count effect)
    ready_more =
        let written = set t.bios slot (Some (done_of effect t first_bio.0)) in
        let within : slot < length t.bios = at_within t.bios slot first_bio.0 first_bio.1 in
        let apart : Apart slot slots = Distinct-head slot slots ready.distinct in
        let P : Tables → Type 0 = λ w. IsReady w.bios slots (rest_of_effect first_bio.0.range.count effect) in
        let Q : ℕ → Type 0 = λ n. IsReady v.bios slots (rest_of_effect n effect) in
        let others : (q : ℕ) (b : Bio) → at written q ≡ Some b → (c : Bio) × (at t.bios q ≡ Some c) × (b.range ≡ c.range) = λ q b h. elim (set_cases t.bios slot q (Some (done_of effect t first_bio.0)) within) [
          | inl here ↦
              let both : Some (done_of effect t first_bio.0) ≡ Some b = sym here.1 ∙ h in
              let same : done_of effect t first_bio.0 ≡ b = cc in
              (first_bio.0, ap (at t.bios) here.0 ∙ first_bio.1, sym (ap (λ (d : Bio). d.range) same))
          | inr other ↦ (b, sym other.1 ∙ h, refl)
        ] in
        let total : total_count written slots ≡ total_count t.bios slots = total_set t.bios slot slots first_bio.0 (done_of effect t first_bio.0) first_bio.1 refl in
        let R : ℕ → Type 0 = λ n. HasBytes n effect in
        let S : ℕ → Type 0 = λ n. HasBytes n (rest_of_effect first_bio.0.range.count effect) in
        subst Q (sym count_is) (subst P (sym now) (record {
          distinct = Distinct-tail slot slots ready.distinct;
          taken = λ k d lt. ap one (get_or-set_other t.bios slot (get_or slots k d) (Some (done_of effect t first_bio.0)) None (apart k d lt)) ∙ All-tail (λ q. one (at t.bios q) ≡ 1) slot slots ready.taken k d lt;
          ranges = λ q b h. let w = others q b h in subst (λ (r : Range). r.start + r.count < 2 ^ 64) (sym w.2) (ready.ranges q w.0 w.1);
          small = λ q b h. let w = others q b h in subst (λ (r : Range). r.count ≤ 64) (sym w.2) (ready.small q w.0 w.1);
          payloads = λ k d lt b h. payload_rest effect first_bio.0.range.count b
              (All-tail (λ q. (c : Bio) → at t.bios q ≡ Some c → HasPayload effect c) slot slots ready.payloads k d lt b
              (sym (get_or-set_other t.bios slot (get_or slots k d) (Some (done_of effect t first_bio.0)) None (apart k d lt)) ∙ h));
          bytes = subst S (sym total) (bytes_rest effect first_bio.0.range.count (total_count t.bios slots) (subst R (total_cons t.bios slot slots first_bio.0 first_bio.1) ready.bytes));
        }))

-- what is to come, at a place of the list
pub ready_at : (bios : List (Option Bio)) (slots : List ℕ) (i : ℕ) (effect : Effect) → i < length slots → IsReady bios (drop i slots) effect → IsReady bios (get_or slots i 0 ∷ drop (i + 1) slots) effect
ready_at bios slots i effect h ready = let P : List ℕ → Type 0 = λ l. IsReady bios l effect in subst P (drop_more slots i 0 h) ready

-- and what the tables will be
pub tables_at : (effect : Effect) (t : Tables) (slots : List ℕ) (i : ℕ) → i < length slots → completed_tables effect t (get_or slots i 0 ∷ drop (i + 1) slots) ≡ completed_tables effect t (drop i slots)
tables_at effect t slots i h = sym (ap (completed_tables effect t) (drop_more slots i 0 h))

-- how many changes are to come
abbrev pub changes_of : List (Option Bio) → List ℕ → ℕ
changes_of bios slots = total_count bios slots + length slots

pub changes_at : (bios : List (Option Bio)) (slots : List ℕ) (i : ℕ) → i < length slots → changes_of bios (drop i slots) ≡ total_count bios (get_or slots i 0 ∷ drop (i + 1) slots) + (1 + length (drop (i + 1) slots))
changes_at bios slots i h = let e : length (get_or slots i 0 ∷ drop (i + 1) slots) ≡ 1 + length (drop (i + 1) slots) = omega arith in ap (changes_of bios) (drop_more slots i 0 h) ∙ ap (λ n. total_count bios (get_or slots i 0 ∷ drop (i + 1) slots) + n) e
