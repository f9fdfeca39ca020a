-- The lemma of each goal by name: a search finds it late.
use Rattle.std.proofs.Common.{◌≡◌, ◌∙◌, codes, refl}
use Rattle.std.proofs.lemmas.Bool.Decides.{Decides-eqb}
use Rattle.std.proofs.lemmas.Slice.Eq.{slice_eq-Decides}
use Rattle.script_line.specs.Plain.{ReadsClass}
use Rattle.script_line.specs.declared.line.Line.TheVariants.{ClassAttach, ClassVtime}
use Rattle.script_line.proofs.Plains.{of_one, of_three}
use Rattle.script_line.proofs.Named.{class_fitted}
use Rattle.script_line.proofs.classed.class_line.Goals as goal

pub returns-in-len1 : goal.returns-in-len1
returns-in-len1 c =
    let is : c.args.word.now ≡ codes "vtime" = (slice_eq-Decides Decides-eqb _ _ _ c.eq.ensures).0 c.if-eq.true ∙ c.as_slice.ensures in
    of_one (λ ns. ReadsClass c.args.word.now ns c.args.class c.class_vtime.result) c.args.given.now c.in-len1.len_at_least c.in-len1.len_below
    (class_fitted c.args.word.now _ c.args.class (ClassVtime _ c.args.class) c.class_vtime.result (is, refl, refl) c.class_vtime.ensures)

pub returns-in-len3 : goal.returns-in-len3
returns-in-len3 c =
    let is : c.args.word.now ≡ codes "attach" = (slice_eq-Decides Decides-eqb _ _ _ c.eq-then-given-lt4.ensures).0 c.if-eq-2.true ∙ c.as_slice-then-given-lt4.ensures in
    of_three (λ ns. ReadsClass c.args.word.now ns c.args.class c.class_attach.result) c.args.given.now c.in-len3.len_at_least c.in-len3.len_below
    (class_fitted c.args.word.now _ c.args.class (ClassAttach _ _ _ c.args.class) c.class_attach.result (is, refl, refl) c.class_attach.ensures)
