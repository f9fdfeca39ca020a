use Rattle.std.proofs.Common.{◌≡◌, ◌+◌, ◌≤◌, Option, Some, None, true, false, MatchResult, sym, ap, ◌∙◌, subst, arith, rules}
use Rattle.std.specs.Option.{is_none}
use Rattle.dispatch_core.proofs.Words.{Tables, Loose, Plain, Bfq, meaning, bfq_of, select, WellFormed}
use Rattle.plain.specs.declared.seat.InService.{InService as ServiceSlot}
use Rattle.change_record.specs.Trail.{IsTrail}
use Rattle.bfq_select.specs.Service.{OnlyServes}
use Rattle.plain.specs.declared.answer.Reply.{Reply}
use Rattle.plain.specs.Step.{of_sizes}
use Rattle.plain.specs.Steps.Dispatch.{next_size, with_selected, sent_by_bfq}
use Rattle.plain_laws.specs.Whole.{AreWhole}
use Rattle.dispatch_core.proofs.Ruling.{IsYoung, served-well, serves_then}
use Rattle.dispatch_core.proofs.NextSlot.{select_fresh, select_young, next_small, served_whole}
use Rattle.dispatch_core.proofs.NextServed.{same_size, bfq_sends, slot_kept, slot_chosen}
use Rattle.dispatch_core.proofs.dispatch_by_bfq.serve.Goals.{then-is_none, else-is_none}
use Rattle.dispatch_core.proofs.dispatch_by_bfq.serve.Goals as goal

pub send_next-requires-clause-well : goal.send_next-requires-clause-well
send_next-requires-clause-well c =
    let l = of_sizes c.args.sizes in
    let n = c.args.serial in
    let before = c.make_room.new.parts.tables in
    let R : Tables → Type 0 = λ x. WellFormed l n x in
    elim c.if-is_none.branch [
      | then-is_none w ↦
          let none : before.in_service ≡ None = search rules in
          let P : Bfq → Type 0 = λ b. IsYoung n b.in_service in
          let young : IsYoung n w.select.new.parts.tables.in_service = subst P (sym w.select.ensures.made) (select_young n (bfq_of before) c.in_ok-make_room.ensures.well.first none) in
          subst R (sym (ap (λ (p : Loose). p.tables) w.parts-is))
          (served-well l n before w.select.new.parts.tables w.select.ensures.others c.in_ok-make_room.ensures.well w.select.ensures.sized w.select.ensures.bounded young)
      | else-is_none w ↦ subst R (sym (ap (λ (p : Loose). p.tables) w.parts-is)) c.in_ok-make_room.ensures.well
    ]

pub send_next-requires-clause-whole : goal.send_next-requires-clause-whole
send_next-requires-clause-whole c =
    let t = c.args.parts.now.tables in
    let before = c.make_room.new.parts.tables in
    let whole : AreWhole (meaning before) = served_whole t before c.make_room.ensures.others c.requires.whole in
    let R : Tables → Type 0 = λ x. AreWhole (meaning x) in
    elim c.if-is_none.branch [
      | then-is_none w ↦ subst R (sym (ap (λ (p : Loose). p.tables) w.parts-is)) (served_whole before w.select.new.parts.tables w.select.ensures.others whole)
      | else-is_none w ↦ subst R (sym (ap (λ (p : Loose). p.tables) w.parts-is)) whole
    ]

pub send_next-requires-clause-fits : goal.send_next-requires-clause-fits
send_next-requires-clause-fits c =
    let t = c.args.parts.now.tables in
    let before = c.make_room.new.parts.tables in
    let slot : ServiceSlot = c.in-Some.slot in
    let serves : c.if-is_none.parts.tables.in_service ≡ Some slot = search rules in
    let whole : AreWhole (meaning before) = served_whole t before c.make_room.ensures.others c.requires.whole in
    let R : Tables → Type 0 = λ x. slot.service + next_size (meaning x) slot.seat ≤ (bfq_of x).budget slot.seat in
    elim c.if-is_none.branch [
      | then-is_none w ↦
          let now = w.select.new.parts.tables in
          let same : c.if-is_none.parts.tables ≡ now = ap (λ (p : Loose). p.tables) w.parts-is in
          let none : before.in_service ≡ None = search rules in
          let here : (select (bfq_of before)).in_service ≡ Some slot = sym (ap (λ (b : Bfq). b.in_service) w.select.ensures.made) ∙ sym (ap (λ (x : Tables). x.in_service) same) ∙ serves in
          let fresh : slot.service ≡ 0 = select_fresh (bfq_of before) slot none here in
          let small : next_size (meaning now) slot.seat ≤ 256 = next_small (meaning now) slot.seat (served_whole before now w.select.ensures.others whole) in
          let least = w.select.ensures.bounded.least_budgets slot.seat in
          subst R (sym same) (omega (arith, fresh, small, least))
      | else-is_none w ↦
          let same : c.if-is_none.parts.tables ≡ before = ap (λ (p : Loose). p.tables) w.parts-is in
          let fits : slot.service + next_size (meaning t) slot.seat ≤ (bfq_of before).budget slot.seat =
          c.in_ok-make_room.ensures.fits slot (sym (ap (λ (x : Tables). x.in_service) same) ∙ serves) in
          let size : next_size (meaning before) slot.seat ≡ next_size (meaning t) slot.seat =
          same_size (of_sizes c.args.sizes) c.args.serial c.args.tag t before slot.seat c.make_room.ensures.others in
          subst R (sym same) (omega (arith, fits, size))
    ]

pub returns-clause-made : goal.returns-clause-made
returns-clause-made c =
    let l = of_sizes c.args.sizes in
    let n = c.args.serial in
    let tag = c.args.tag in
    let t = c.args.parts.now.tables in
    let before = c.make_room.new.parts.tables in
    let now = c.if-is_none.parts.tables in
    let P : Option (Plain × Reply) → Type 0 =
    λ o. MatchResult c.send_next.result (λ reply. o ≡ Some (meaning c.send_next.new.parts.tables, reply)) (λ _. o ≡ None) in
    let sends : with_selected (bfq_of before) ≡ bfq_of now → OnlyServes t now → P (sent_by_bfq l (meaning t) n tag) =
    λ chosen others. subst P (sym (bfq_sends l n tag t (bfq_of before) (bfq_of now) c.in_ok-make_room.ensures.made chosen now others)) c.send_next.ensures.made in
    elim c.if-is_none.branch [
      | then-is_none w ↦
          let same : now ≡ w.select.new.parts.tables = ap (λ (p : Loose). p.tables) w.parts-is in
          let none : is_none before.in_service ≡ true = search rules in
          sends (slot_chosen (bfq_of before) none ∙ sym w.select.ensures.made ∙ ap bfq_of (sym same))
          (subst (OnlyServes t) (sym same) (serves_then t before w.select.new.parts.tables c.make_room.ensures.others w.select.ensures.others))
      | else-is_none w ↦
          let same : now ≡ before = ap (λ (p : Loose). p.tables) w.parts-is in
          let there : is_none before.in_service ≡ false = search rules in
          sends (slot_kept (bfq_of before) there ∙ ap bfq_of (sym same)) (subst (OnlyServes t) (sym same) c.make_room.ensures.others)
    ]

pub returns-clause-trail : goal.returns-clause-trail
returns-clause-trail c = λ origin h.
    let before : IsTrail c.make_room.new.tape.current c.make_room.new.parts.tables origin = c.make_room.ensures.trail origin h in
    let now : IsTrail c.if-is_none.tape.current c.if-is_none.parts.tables origin =
    elim c.if-is_none.branch [
      | then-is_none w ↦
          let chosen : IsTrail w.select.new.tape.current w.select.new.parts.tables origin = w.select.ensures.trail origin before in
          search rules
      | else-is_none w ↦ search rules
    ] in
    c.send_next.ensures.trail origin now
