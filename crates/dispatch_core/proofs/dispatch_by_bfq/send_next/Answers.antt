use Rattle.std.proofs.Common.{◌≡◌, ℕ, ◌+◌, ◌≤◌, Option, Some, None, true, false, sym, ap, ◌∙◌, subst, arith, rules}
use Rattle.std.proofs.lemmas.Option.{same_Some}
use Rattle.dispatch_core.proofs.Words.{Range, charge, expire, Request, queue_slots, is_empty, bios_at, Tables, Loose, Plain, meaning, bfq_of, range_of, at, WellFormed, sent_next_tables, HasFewSectors, first_start, total_count}
use Rattle.plain.specs.declared.seat.Expiry.TheVariants.{Emptying}
use Rattle.process_queue.specs.Next.{next_slot}
use Rattle.plain.specs.declared.seat.InService.{InService as ServiceSlot}
use Rattle.change_record.specs.Trail.{IsTrail}
use Rattle.plain.specs.Step.{of_sizes}
use Rattle.plain.specs.Steps.Dispatch.{next_size, sent_in}
use Rattle.plain.specs.declared.answer.Reply.{Reply}
use Rattle.plain.specs.declared.answer.Reply.TheVariants.{Issued}
use Rattle.bfq_select.specs.Service.{IsBounded}
use Rattle.dispatch_core.proofs.Sectors.{few_sectors_of}
use Rattle.dispatch_core.proofs.NextFound.{next_none, next_empty, next_size_is, size_of_range}
use Rattle.dispatch_core.proofs.NextServed.{range_read, refused_by, next_lacks, served_uncharged, served_well, served_on, served_unexpired, served_out, last_well}
use Rattle.dispatch_core.proofs.dispatch_by_bfq.send_next.Goals.{then-is_empty+in_ok-expire, else-is_empty}
use Rattle.dispatch_core.proofs.dispatch_by_bfq.send_next.Goals as goal

pub returns-in_default-clause-made : goal.returns-in_default-clause-made
returns-in_default-clause-made c =
    let t = c.args.parts.now.tables in
    let slot = c.args.slot in
    let none : next_slot t.requests t.bios (queue_slots slot.seat t.links) ((meaning t).head slot.seat) ≡ None = search rules in
    next_lacks (of_sizes c.args.sizes) (meaning t) c.args.serial c.args.tag (bfq_of t) slot c.requires.serves (next_none t slot.seat none)

pub returns-in_default-request-clause-made : goal.returns-in_default-request-clause-made
returns-in_default-request-clause-made c =
    let t = c.args.parts.now.tables in
    let slot = c.args.slot in
    let place = c.in-Some.place in
    let some : next_slot t.requests t.bios (queue_slots slot.seat t.links) ((meaning t).head slot.seat) ≡ Some place = search rules in
    let none : at t.requests place ≡ None = search rules in
    next_lacks (of_sizes c.args.sizes) (meaning t) c.args.serial c.args.tag (bfq_of t) slot c.requires.serves (next_empty t slot.seat place some none)

pub charge-requires-clause-fits : goal.charge-requires-clause-fits
charge-requires-clause-fits c = λ s e.
    let l = of_sizes c.args.sizes in
    let t = c.args.parts.now.tables in
    let n = c.args.serial in
    let tag = c.args.tag in
    let slot = c.args.slot in
    let place = c.in-Some.place in
    let request : Request = c.in-Some-request.request.now in
    let some : next_slot t.requests t.bios (queue_slots slot.seat t.links) ((meaning t).head slot.seat) ≡ Some place = search rules in
    let here : at t.requests place ≡ Some request = search rules in
    let pool : c.pool-3.result.now.bios ≡ t.bios = c.pool-3.ensures.bios in
    let few : HasFewSectors c.pool-3.result.now.bios = subst HasFewSectors (sym pool) (few_sectors_of l n t c.requires.well) in
    let range : c.range_of_request-range.result ≡ range_of (bios_at t.bios request.bios.items) =
    range_read l n t place request c.requires.well here c.range_of_request-range.result
    (c.range_of_request-range.ensures.start ∙ ap (λ b. first_start b request.bios.items) pool)
    (c.range_of_request-range.ensures.count few ∙ ap (λ b. total_count b request.bios.items) pool) in
    let same : slot ≡ s = same_Some slot s (sym c.requires.serves ∙ e) in
    let size : c.range_of_request-range.result.count ≡ next_size (meaning t) slot.seat =
    ap (λ (r : Range). r.count) range ∙ size_of_range (bios_at t.bios request.bios.items) ∙ sym (next_size_is t slot.seat place request some here) in
    let P : ServiceSlot → Type 0 = λ x. x.service + c.range_of_request-range.result.count ≤ (bfq_of t).budget x.seat in
    subst P same (let h = c.requires.fits in omega (arith, h, size))

pub returns-in_err-charge-clause-made : goal.returns-in_err-charge-clause-made
returns-in_err-charge-clause-made c =
    let l = of_sizes c.args.sizes in
    let t = c.args.parts.now.tables in
    let n = c.args.serial in
    let tag = c.args.tag in
    let slot = c.args.slot in
    let place = c.in-Some.place in
    let request : Request = c.in-Some-request.request.now in
    let some : next_slot t.requests t.bios (queue_slots slot.seat t.links) ((meaning t).head slot.seat) ≡ Some place = search rules in
    let here : at t.requests place ≡ Some request = search rules in
    let pool : c.pool-3.result.now.bios ≡ t.bios = c.pool-3.ensures.bios in
    let few : HasFewSectors c.pool-3.result.now.bios = subst HasFewSectors (sym pool) (few_sectors_of l n t c.requires.well) in
    let range : c.range_of_request-range.result ≡ range_of (bios_at t.bios request.bios.items) =
    range_read l n t place request c.requires.well here c.range_of_request-range.result
    (c.range_of_request-range.ensures.start ∙ ap (λ b. first_start b request.bios.items) pool)
    (c.range_of_request-range.ensures.count few ∙ ap (λ b. total_count b request.bios.items) pool) in
    let none : charge (range_of (bios_at t.bios request.bios.items)).count (bfq_of t) ≡ None =
    ap (λ (r : Range). charge r.count (bfq_of t)) (sym range) ∙ c.in_err-charge.ensures.made in
    refused_by _ _ c.from_residual.result (search rules) (served_uncharged l n tag t slot place request c.requires.well c.requires.serves some here c.requires.free none)

pub expire-requires-clause-bounded : goal.expire-requires-clause-bounded
expire-requires-clause-bounded c =
    let P : Tables → Type 0 = λ u. IsBounded (bfq_of u) in
    subst P (sym c.take_out.ensures.tables) c.charge.ensures.bounded

pub returns-in_err-expire-clause-made : goal.returns-in_err-expire-clause-made
returns-in_err-expire-clause-made c =
    let l = of_sizes c.args.sizes in
    let t = c.args.parts.now.tables in
    let n = c.args.serial in
    let tag = c.args.tag in
    let slot = c.args.slot in
    let place = c.in-Some.place in
    let request : Request = c.in-Some-request.request.now in
    let some : next_slot t.requests t.bios (queue_slots slot.seat t.links) ((meaning t).head slot.seat) ≡ Some place = search rules in
    let here : at t.requests place ≡ Some request = search rules in
    let pool : c.pool-3.result.now.bios ≡ t.bios = c.pool-3.ensures.bios in
    let few : HasFewSectors c.pool-3.result.now.bios = subst HasFewSectors (sym pool) (few_sectors_of l n t c.requires.well) in
    let range : c.range_of_request-range.result ≡ range_of (bios_at t.bios request.bios.items) =
    range_read l n t place request c.requires.well here c.range_of_request-range.result
    (c.range_of_request-range.ensures.start ∙ ap (λ b. first_start b request.bios.items) pool)
    (c.range_of_request-range.ensures.count few ∙ ap (λ b. total_count b request.bios.items) pool) in
    let charged : charge (range_of (bios_at t.bios request.bios.items)).count (bfq_of t) ≡ Some (bfq_of c.charge.new.parts.tables) =
    ap (λ (r : Range). charge r.count (bfq_of t)) (sym range) ∙ c.in_ok-charge.ensures.made in
    let head : ℕ = c.range_of_request-range.result.start + c.range_of_request-range.result.count in
    let taken : c.take_out.new.parts.tables ≡ sent_next_tables c.charge.new.parts.tables n slot.seat place tag head = search rules in
    let head_is = ap (λ (r : Range). r.start + r.count) range in
    let none : is_empty (queue_slots slot.seat c.take_out.new.parts.tables.links) ≡ true = search rules in
    refused_by _ _ c.from_residual-in_err-expire.result (search rules) (served_unexpired l n tag t slot place request c.requires.well c.requires.serves some here c.requires.free
    c.charge.new.parts.tables c.charge.ensures.sized c.charge.ensures.bounded c.charge.ensures.others charged head head_is c.take_out.new.parts.tables taken
    none c.in_err-expire.ensures.made)

pub returns-in_err-expire-clause-trail : goal.returns-in_err-expire-clause-trail
returns-in_err-expire-clause-trail c = λ origin h. c.expire.ensures.trail origin (c.take_out.ensures.trail origin (c.charge.ensures.trail origin h))

pub returns-clause-made : goal.returns-clause-made
returns-clause-made c =
    let l = of_sizes c.args.sizes in
    let t = c.args.parts.now.tables in
    let n = c.args.serial in
    let tag = c.args.tag in
    let slot = c.args.slot in
    let place = c.in-Some.place in
    let request : Request = c.in-Some-request.request.now in
    let some : next_slot t.requests t.bios (queue_slots slot.seat t.links) ((meaning t).head slot.seat) ≡ Some place = search rules in
    let here : at t.requests place ≡ Some request = search rules in
    let pool : c.pool-3.result.now.bios ≡ t.bios = c.pool-3.ensures.bios in
    let few : HasFewSectors c.pool-3.result.now.bios = subst HasFewSectors (sym pool) (few_sectors_of l n t c.requires.well) in
    let range : c.range_of_request-range.result ≡ range_of (bios_at t.bios request.bios.items) =
    range_read l n t place request c.requires.well here c.range_of_request-range.result
    (c.range_of_request-range.ensures.start ∙ ap (λ b. first_start b request.bios.items) pool)
    (c.range_of_request-range.ensures.count few ∙ ap (λ b. total_count b request.bios.items) pool) in
    let charged : charge (range_of (bios_at t.bios request.bios.items)).count (bfq_of t) ≡ Some (bfq_of c.charge.new.parts.tables) =
    ap (λ (r : Range). charge r.count (bfq_of t)) (sym range) ∙ c.in_ok-charge.ensures.made in
    let head : ℕ = c.range_of_request-range.result.start + c.range_of_request-range.result.count in
    let taken : c.take_out.new.parts.tables ≡ sent_next_tables c.charge.new.parts.tables n slot.seat place tag head = search rules in
    let head_is = ap (λ (r : Range). r.start + r.count) range in
    let R : Tables → Type 0 = λ x. sent_in l (meaning t) n tag (bfq_of t) ≡ Some (meaning x, Issued tag n request.op c.range_of_request-range.result) in
    let reply : Plain → Option (Plain × Reply) = λ m. Some (m, Issued tag n request.op c.range_of_request-range.result) in
    let replied : (m : Plain) → Some (m, Issued tag n request.op (range_of (bios_at t.bios request.bios.items))) ≡ reply m =
    λ m. ap (λ (r : Range). Some (m, Issued tag n request.op r)) (sym range) in
    elim c.if-is_empty.branch [
      | then-is_empty+in_ok-expire w ↦
          let none : is_empty (queue_slots slot.seat c.take_out.new.parts.tables.links) ≡ true = search rules in
          let expired : expire Emptying l.max_budget false (bfq_of c.take_out.new.parts.tables) ≡ Some (bfq_of w.expire.new.parts.tables) = w.in_ok-expire.ensures.made in
          subst R (sym (ap (λ (p : Loose). p.tables) w.parts-is)) (served_out l n tag t slot place request c.requires.well c.requires.serves some here c.requires.free
          c.charge.new.parts.tables c.charge.ensures.sized c.charge.ensures.bounded c.charge.ensures.others charged head head_is c.take_out.new.parts.tables taken
          none w.expire.new.parts.tables w.expire.ensures.sized w.expire.ensures.bounded w.expire.ensures.others expired ∙ replied (meaning w.expire.new.parts.tables))
      | else-is_empty w ↦
          let full : is_empty (queue_slots slot.seat c.take_out.new.parts.tables.links) ≡ false = search rules in
          subst R (sym (ap (λ (p : Loose). p.tables) w.parts-is)) (served_on l n tag t slot place request c.requires.well c.requires.serves some here c.requires.free
          c.charge.new.parts.tables c.charge.ensures.sized c.charge.ensures.bounded c.charge.ensures.others charged head head_is c.take_out.new.parts.tables taken full ∙ replied (meaning c.take_out.new.parts.tables))
    ]

pub returns-clause-well : goal.returns-clause-well
returns-clause-well c =
    let l = of_sizes c.args.sizes in
    let t = c.args.parts.now.tables in
    let n = c.args.serial in
    let tag = c.args.tag in
    let slot = c.args.slot in
    let place = c.in-Some.place in
    let request : Request = c.in-Some-request.request.now in
    let some : next_slot t.requests t.bios (queue_slots slot.seat t.links) ((meaning t).head slot.seat) ≡ Some place = search rules in
    let here : at t.requests place ≡ Some request = search rules in
    let pool : c.pool-3.result.now.bios ≡ t.bios = c.pool-3.ensures.bios in
    let few : HasFewSectors c.pool-3.result.now.bios = subst HasFewSectors (sym pool) (few_sectors_of l n t c.requires.well) in
    let range : c.range_of_request-range.result ≡ range_of (bios_at t.bios request.bios.items) =
    range_read l n t place request c.requires.well here c.range_of_request-range.result
    (c.range_of_request-range.ensures.start ∙ ap (λ b. first_start b request.bios.items) pool)
    (c.range_of_request-range.ensures.count few ∙ ap (λ b. total_count b request.bios.items) pool) in
    let charged : charge (range_of (bios_at t.bios request.bios.items)).count (bfq_of t) ≡ Some (bfq_of c.charge.new.parts.tables) =
    ap (λ (r : Range). charge r.count (bfq_of t)) (sym range) ∙ c.in_ok-charge.ensures.made in
    let head : ℕ = c.range_of_request-range.result.start + c.range_of_request-range.result.count in
    let taken : c.take_out.new.parts.tables ≡ sent_next_tables c.charge.new.parts.tables n slot.seat place tag head = search rules in
    let head_is = ap (λ (r : Range). r.start + r.count) range in
    let R : Tables → Type 0 = λ x. WellFormed l (n + 1) x in
    elim c.if-is_empty.branch [
      | then-is_empty+in_ok-expire w ↦
          let none : is_empty (queue_slots slot.seat c.take_out.new.parts.tables.links) ≡ true = search rules in
          let expired : expire Emptying l.max_budget false (bfq_of c.take_out.new.parts.tables) ≡ Some (bfq_of w.expire.new.parts.tables) = w.in_ok-expire.ensures.made in
          subst R (sym (ap (λ (p : Loose). p.tables) w.parts-is)) (last_well l n tag t slot place request c.requires.well c.requires.serves some here c.requires.free
          c.charge.new.parts.tables c.charge.ensures.sized c.charge.ensures.bounded c.charge.ensures.others charged head head_is c.take_out.new.parts.tables taken
          none w.expire.new.parts.tables w.expire.ensures.sized w.expire.ensures.bounded w.expire.ensures.others expired)
      | else-is_empty w ↦ subst R (sym (ap (λ (p : Loose). p.tables) w.parts-is)) (served_well l n tag t slot place request c.requires.well c.requires.serves some here c.requires.free
          c.charge.new.parts.tables c.charge.ensures.sized c.charge.ensures.bounded c.charge.ensures.others charged head head_is c.take_out.new.parts.tables taken)
    ]

pub returns-clause-trail : goal.returns-clause-trail
returns-clause-trail c = λ origin h.
    let before = c.take_out.ensures.trail origin (c.charge.ensures.trail origin h) in
    elim c.if-is_empty.branch [
      | then-is_empty+in_ok-expire w ↦
          let last : IsTrail w.expire.new.tape.current w.expire.new.parts.tables origin = w.expire.ensures.trail origin before in
          search rules
      | else-is_empty w ↦ search rules
    ]
