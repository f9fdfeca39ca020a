use Rattle.std.proofs.Common.{◌≡◌, ℕ, ◌+◌, ◌≤◌, List, true, false, is_some, length, subst, sym, ap, ◌∙◌, arith, rules}
use Rattle.std.specs.Prelude.{count_by}
use Rattle.sector_core.specs.declared.config.Scheduler.{Scheduler}
use Rattle.sector_core.specs.declared.config.Scheduler.TheVariants.{Bfq as BfqScheduler}
use Rattle.dispatch_core.proofs.Words.{numbers, Tables, Bfq, bfq_of, meaning, WellFormed}
use Rattle.change_record.specs.declared.change.Change.{Change}
use Rattle.change_record.specs.Trail.{IsTrail}
use Rattle.bfq_select.specs.Service.{IsSized, IsBounded}
use Rattle.plain.specs.declared.answer.Answer.TheVariants.{Accepted}
use Rattle.plain.specs.declared.answer.Reply.TheVariants.{Done}
use Rattle.plain.specs.Step.{of_sizes}
use Rattle.plain.specs.Steps.Switch.{is_same, begun_again, switch}
use Rattle.dispatch_core.specs.Counts.{switch_exchanges}
use Rattle.dispatch_core.proofs.Decided.{Answers-err}
use Rattle.dispatch_core.proofs.Recorded.{one_more}
use Rattle.dispatch_core.proofs.Switches.{any_request, switch_full, switch_same, switch_late, switch_does, switch_accepts, begun, heads_begun, all_begun, bfq_kept, sized_kept, begun-meaning, begun-well, count_begun, exactly}
use Rattle.dispatch_core.proofs.switch.run_switch.Goals as goal

pub returns-then-has_request-clause-answers : goal.returns-then-has_request-clause-answers
returns-then-has_request-clause-answers c =
    let l = of_sizes c.args.sizes in
    let t = c.args.parts.now.tables in
    let frozen : t.frozen ≡ true = sym c.frozen.ensures ∙ c.if-not-frozen.false in
    let full = sym (any_request l c.args.serial t c.requires) ∙ sym c.has_request.ensures ∙ c.if-has_request.true in
    sym (switch_full l (meaning t) c.args.room c.args.scheduler frozen full)

pub returns-then-is_same-clause-answers : goal.returns-then-is_same-clause-answers
returns-then-is_same-clause-answers c =
    let l = of_sizes c.args.sizes in
    let t = c.args.parts.now.tables in
    let frozen : t.frozen ≡ true = sym c.frozen.ensures ∙ c.if-not-frozen.false in
    let drained = sym (any_request l c.args.serial t c.requires) ∙ sym c.has_request.ensures ∙ c.if-has_request.false in
    let same : is_same c.args.scheduler t.scheduler ≡ true = ap (is_same c.args.scheduler) (sym c.scheduler.ensures) ∙ sym c.is_same.ensures ∙ c.if-is_same.true in
    sym (switch_same l (meaning t) c.args.room c.args.scheduler frozen drained same)

pub returns-then-not-room-clause-answers : goal.returns-then-not-room-clause-answers
returns-then-not-room-clause-answers c =
    let l = of_sizes c.args.sizes in
    let t = c.args.parts.now.tables in
    let frozen : t.frozen ≡ true = sym c.frozen.ensures ∙ c.if-not-frozen.false in
    let drained = sym (any_request l c.args.serial t c.requires) ∙ sym c.has_request.ensures ∙ c.if-has_request.false in
    let other : is_same c.args.scheduler t.scheduler ≡ false = ap (is_same c.args.scheduler) (sym c.scheduler.ensures) ∙ sym c.is_same.ensures ∙ c.if-is_same.false in
    sym (switch_late l (meaning t) c.args.room c.args.scheduler frozen drained other c.if-not-room.true)

pub returns-in_err-reserve-clause-answers : goal.returns-in_err-reserve-clause-answers
returns-in_err-reserve-clause-answers c =
    let l = of_sizes c.args.sizes in
    let t = c.args.parts.now.tables in
    let frozen : t.frozen ≡ true = sym c.frozen.ensures ∙ c.if-not-frozen.false in
    let drained = sym (any_request l c.args.serial t c.requires) ∙ sym c.has_request.ensures ∙ c.if-has_request.false in
    let other : is_same c.args.scheduler t.scheduler ≡ false = ap (is_same c.args.scheduler) (sym c.scheduler.ensures) ∙ sym c.is_same.ensures ∙ c.if-is_same.false in
    Answers-err (λ m. switch l m c.args.room c.args.scheduler) t t c.from_residual.result (search rules)
    (switch_accepts l (meaning t) c.args.room c.args.scheduler frozen drained other c.if-not-room.false)

pub returns-in-Plain-clause-answers : goal.returns-in-Plain-clause-answers
returns-in-Plain-clause-answers c =
    let l = of_sizes c.args.sizes in
    let t = c.args.parts.now.tables in
    let frozen : t.frozen ≡ true = sym c.frozen.ensures ∙ c.if-not-frozen.false in
    let drained = sym (any_request l c.args.serial t c.requires) ∙ sym c.has_request.ensures ∙ c.if-has_request.false in
    let other : is_same c.args.scheduler t.scheduler ≡ false = ap (is_same c.args.scheduler) (sym c.scheduler.ensures) ∙ sym c.is_same.ensures ∙ c.if-is_same.false in
    let h = c.begin_heads.new.parts.tables in
    let begins : h ≡ begun t c.args.scheduler h.heads t.trees t.budgets = heads_begun t c.exchange.new.parts.tables h c.args.scheduler c.exchange.ensures.tables c.begin_heads.ensures.others in
    let again = ap (λ (s : Scheduler). begun_again l s (bfq_of t)) c.in-Plain.is in
    let next = ap meaning begins ∙ begun-meaning l t c.args.scheduler h.heads t.trees t.budgets frozen c.begin_heads.ensures.made (sym again) in
    sym (switch_does l (meaning t) c.args.room c.args.scheduler frozen drained other c.if-not-room.false ∙ ap (λ m. (m, Accepted Done)) (sym next))

pub returns-in-Plain-clause-leaves : goal.returns-in-Plain-clause-leaves
returns-in-Plain-clause-leaves c =
    let l = of_sizes c.args.sizes in
    let t = c.args.parts.now.tables in
    let h = c.begin_heads.new.parts.tables in
    let begins : h ≡ begun t c.args.scheduler h.heads t.trees t.budgets = heads_begun t c.exchange.new.parts.tables h c.args.scheduler c.exchange.ensures.tables c.begin_heads.ensures.others in
    let P : Tables → Type 0 = λ x. WellFormed l (c.args.serial + 1) x in
    let kind : switch_exchanges (meaning t) c.args.scheduler ≡ 17 = ap (switch_exchanges (meaning t)) c.in-Plain.is in
    let one = one_more c.reserve.new.self.current c.exchange.new.self.current _ c.exchange.ensures.recorded in
    let kept = ap length c.reserve.ensures.current in
    let sized = subst IsSized begins (sized_kept t h c.args.scheduler begins c.requires.ruled.sized) in
    let count = exactly (length c.args.tape.now.current) (length c.begin_heads.new.tape.current) (switch_exchanges (meaning t) c.args.scheduler)
    (omega (arith, kind, one, kept, c.begin_heads.ensures.count)) in (
      subst P (sym begins) (begun-well l c.args.serial t c.args.scheduler h.heads t.trees t.budgets c.requires c.begin_heads.ensures.heads sized c.requires.ruled.bounded),
      omega (arith, c.begin_heads.ensures.spare, c.exchange.ensures.spare, c.in_ok-reserve.ensures.spare),
      count.0,
      count.1,
    )

pub returns-in-Bfq-clause-answers : goal.returns-in-Bfq-clause-answers
returns-in-Bfq-clause-answers c =
    let l = of_sizes c.args.sizes in
    let t = c.args.parts.now.tables in
    let frozen : t.frozen ≡ true = sym c.frozen.ensures ∙ c.if-not-frozen.false in
    let drained = sym (any_request l c.args.serial t c.requires) ∙ sym c.has_request.ensures ∙ c.if-has_request.false in
    let other : is_same c.args.scheduler t.scheduler ≡ false = ap (is_same c.args.scheduler) (sym c.scheduler.ensures) ∙ sym c.is_same.ensures ∙ c.if-is_same.false in
    let h = c.begin_heads.new.parts.tables in
    let begins : h ≡ begun t c.args.scheduler h.heads t.trees t.budgets = heads_begun t c.exchange.new.parts.tables h c.args.scheduler c.exchange.ensures.tables c.begin_heads.ensures.others in
    let u = c.begin_again.new.parts.tables in
    let now : u ≡ begun t c.args.scheduler h.heads u.trees u.budgets = all_begun t h u c.args.scheduler begins c.begin_again.ensures.others in
    let kind = ap (λ (s : Scheduler). begun_again l s (bfq_of t)) c.in-Bfq.is in
    let again = ap bfq_of (sym now) ∙ c.begin_again.ensures.made ∙ ap (λ (b : Bfq). begun_again l BfqScheduler b) (bfq_kept t h c.args.scheduler begins) ∙ sym kind in
    let next = ap meaning now ∙ begun-meaning l t c.args.scheduler h.heads u.trees u.budgets frozen c.begin_heads.ensures.made again in
    sym (switch_does l (meaning t) c.args.room c.args.scheduler frozen drained other c.if-not-room.false ∙ ap (λ m. (m, Accepted Done)) (sym next))

pub returns-in-Bfq-clause-leaves : goal.returns-in-Bfq-clause-leaves
returns-in-Bfq-clause-leaves c =
    let l = of_sizes c.args.sizes in
    let t = c.args.parts.now.tables in
    let h = c.begin_heads.new.parts.tables in
    let begins : h ≡ begun t c.args.scheduler h.heads t.trees t.budgets = heads_begun t c.exchange.new.parts.tables h c.args.scheduler c.exchange.ensures.tables c.begin_heads.ensures.others in
    let u = c.begin_again.new.parts.tables in
    let now : u ≡ begun t c.args.scheduler h.heads u.trees u.budgets = all_begun t h u c.args.scheduler begins c.begin_again.ensures.others in
    let P : Tables → Type 0 = λ x. WellFormed l (c.args.serial + 1) x in
    let IsWithin : Tables → Type 0 = λ x. IsBounded (bfq_of x) in
    let before = length c.args.tape.now.current in
    let grouped : ℕ = count_by (λ entity. is_some ((bfq_of t).parent entity)) (numbers 0 48) in
    let kind : switch_exchanges (meaning t) c.args.scheduler ≡ 65 + grouped = ap (switch_exchanges (meaning t)) c.in-Bfq.is in
    let one = one_more c.reserve.new.self.current c.exchange.new.self.current _ c.exchange.ensures.recorded ∙ ap (λ (xs : List Change). length xs + 1) c.reserve.ensures.current in
    let rest = c.begin_again.ensures.count ∙ ap (λ (b : Bfq). length c.begin_heads.new.tape.current + (48 + count_by (λ entity. is_some (b.parent entity)) (numbers 0 48))) (bfq_kept t h c.args.scheduler begins) in
    let all = count_begun before (length c.begin_heads.new.tape.current) (length c.begin_again.new.tape.current) (length c.exchange.new.self.current) grouped one c.begin_heads.ensures.count rest in
    let count = exactly before (length c.begin_again.new.tape.current) (switch_exchanges (meaning t) c.args.scheduler) (all ∙ ap (λ k. before + k) (sym kind)) in
    let sized = subst IsSized now c.begin_again.ensures.sized in
    let bounded = subst IsWithin now c.begin_again.ensures.bounded in (
      subst P (sym now) (begun-well l c.args.serial t c.args.scheduler h.heads u.trees u.budgets c.requires c.begin_heads.ensures.heads sized bounded),
      subst (λ (k : ℕ). 1 ≤ k) (sym (c.begin_again.ensures.spare ∙ c.begin_heads.ensures.spare ∙ c.exchange.ensures.spare)) c.in_ok-reserve.ensures.spare,
      count.0,
      count.1,
    )

pub returns-in-Bfq-clause-trail : goal.returns-in-Bfq-clause-trail
returns-in-Bfq-clause-trail c = λ origin h.
    let P : List Change → Type 0 = λ changes. IsTrail changes c.args.parts.now.tables origin in
    c.begin_again.ensures.trail origin (c.begin_heads.ensures.trail origin (c.exchange.ensures.trail origin (subst P (sym c.reserve.ensures.current) h)))
