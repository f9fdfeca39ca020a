-- A machine told part by part.
use Rattle.std.proofs.Common.{◌≡◌, ℕ, List, ◌∷◌, ◌++◌, codes, ap, ◌∙◌, append_assoc}
use Rattle.std.specs.List.{flat_map}
use Rattle.std.specs.Fmt.{decimal}
use Rattle.plain.specs.Lists.{numbers, seats}
use Rattle.plain.specs.Machine.{Plain}
use Rattle.host_console.specs.Views.{scheduler_text}
use Rattle.host_console.specs.State.{again_text, flight_text, group_text, run_text, served_text, state_look, taken_text}

-- parts that are put one behind the other
parts : (old a b c d e f : List ℕ) → (((((old ++ a) ++ b) ++ c) ++ d) ++ e) ++ f ≡ old ++ (a ++ (b ++ (c ++ (d ++ (e ++ f)))))
parts old a b c d e f = simp append_assoc

first : (scheduler run served more : List ℕ) → (codes "state " ++ (scheduler ++ 32 ∷ (run ++ 32 ∷ served))) ++ more ≡ codes "state " ++ (scheduler ++ 32 ∷ (run ++ 32 ∷ (served ++ more)))
first scheduler run served more = simp append_assoc

named : (again flying more : List ℕ)
    → (codes " requeued" ++ again) ++ ((codes " flight" ++ flying) ++ more) ≡ codes " requeued" ++ (again ++ (codes " flight" ++ (flying ++ more)))
named again flying more = append_assoc (codes " requeued") again ((codes " flight" ++ flying) ++ more)
    ∙ ap (λ t. codes " requeued" ++ (again ++ t)) (append_assoc (codes " flight") flying more)

joined : (old scheduler run served seated again flying service groups : List ℕ)
    → (((((old ++ (codes "state " ++ (scheduler ++ 32 ∷ (run ++ 32 ∷ served)))) ++ seated) ++ (codes " requeued" ++ again)) ++ (codes " flight" ++ flying)) ++ service) ++ groups
    ≡ old ++ (codes "state " ++ (scheduler ++ 32 ∷ (run ++ 32 ∷ (served ++ (seated ++ (codes " requeued" ++ (again ++ (codes " flight" ++ (flying ++ (service ++ groups))))))))))
joined old scheduler run served seated again flying service groups =
    parts old (codes "state " ++ (scheduler ++ 32 ∷ (run ++ 32 ∷ served))) seated (codes " requeued" ++ again) (codes " flight" ++ flying) service groups
    ∙ (ap (λ t. old ++ ((codes "state " ++ (scheduler ++ 32 ∷ (run ++ 32 ∷ served))) ++ (seated ++ t))) (named again flying (service ++ groups))
    ∙ ap (λ t. old ++ t) (first scheduler run served (seated ++ (codes " requeued" ++ (again ++ (codes " flight" ++ (flying ++ (service ++ groups))))))))

-- the parts of a machine, one behind the other, are its line
pub line_told : (tags : ℕ) (m : Plain) (old done : List ℕ)
    → done ≡ (((((old ++ (codes "state " ++ (scheduler_text m.scheduler ++ 32 ∷ (run_text m.frozen ++ 32 ∷ decimal m.served)))) ++ flat_map (taken_text m) seats)
    ++ (codes " requeued" ++ flat_map (again_text m) m.requeued)) ++ (codes " flight" ++ flight_text tags m)) ++ served_text m.bfq.in_service) ++ flat_map (group_text m) (numbers 0 32)
    → done ≡ old ++ state_look tags m
unfolding state_look
line_told tags m old done is = is ∙ joined old (scheduler_text m.scheduler) (run_text m.frozen) (decimal m.served) (flat_map (taken_text m) seats)
    (flat_map (again_text m) m.requeued) (flight_text tags m) (served_text m.bfq.in_service) (flat_map (group_text m) (numbers 0 32))
