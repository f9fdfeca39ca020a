-- The lemma of each goal by name: a search finds it late.
use Rattle.std.proofs.Common.{◌≡◌, ◌∙◌, codes, refl}
use Rattle.std.proofs.lemmas.Bool.Decides.{Decides-eqb}
use Rattle.std.proofs.lemmas.Slice.Eq.{slice_eq-Decides}
use Rattle.script_line.specs.declared.line.Line.TheVariants.{Undo, Redo, Queue, Drop, Vtime, Entity, Leave, Class}
use Rattle.script_line.proofs.Same.{reads_fitted}
use Rattle.script_line.proofs.plain.with_one.Goals as goal

pub returns-then-eq : goal.returns-then-eq
returns-then-eq c =
    let is : c.args.word.now ≡ codes "undo" = (slice_eq-Decides Decides-eqb _ _ _ c.eq.ensures).0 c.if-eq.true ∙ c.as_slice.ensures in
    reads_fitted c.args.word.now _ (Undo c.args.a) c.undo.result (is, refl) c.undo.ensures

pub returns-then-eq-2 : goal.returns-then-eq-2
returns-then-eq-2 c =
    let is : c.args.word.now ≡ codes "redo" = (slice_eq-Decides Decides-eqb _ _ _ c.eq-else-eq.ensures).0 c.if-eq-2.true ∙ c.as_slice-else-eq.ensures in
    reads_fitted c.args.word.now _ (Redo c.args.a) c.redo.result (is, refl) c.redo.ensures

pub returns-then-eq-4 : goal.returns-then-eq-4
returns-then-eq-4 c =
    let is : c.args.word.now ≡ codes "queue" = (slice_eq-Decides Decides-eqb _ _ _ c.eq-else-eq-3.ensures).0 c.if-eq-4.true ∙ c.as_slice-else-eq-3.ensures in
    reads_fitted c.args.word.now _ (Queue c.args.a) c.queue.result (is, refl) c.queue.ensures

pub returns-then-eq-5 : goal.returns-then-eq-5
returns-then-eq-5 c =
    let is : c.args.word.now ≡ codes "drop" = (slice_eq-Decides Decides-eqb _ _ _ c.eq-else-eq-4.ensures).0 c.if-eq-5.true ∙ c.as_slice-else-eq-4.ensures in
    reads_fitted c.args.word.now _ (Drop c.args.a) c.drop_group.result (is, refl) c.drop_group.ensures

pub returns-then-eq-6 : goal.returns-then-eq-6
returns-then-eq-6 c =
    let is : c.args.word.now ≡ codes "vtime" = (slice_eq-Decides Decides-eqb _ _ _ c.eq-else-eq-5.ensures).0 c.if-eq-6.true ∙ c.as_slice-else-eq-5.ensures in
    reads_fitted c.args.word.now _ (Vtime c.args.a) c.vtime.result (is, refl) c.vtime.ensures

pub returns-then-eq-7 : goal.returns-then-eq-7
returns-then-eq-7 c =
    let is : c.args.word.now ≡ codes "entity" = (slice_eq-Decides Decides-eqb _ _ _ c.eq-else-eq-6.ensures).0 c.if-eq-7.true ∙ c.as_slice-else-eq-6.ensures in
    reads_fitted c.args.word.now _ (Entity c.args.a) c.entity.result (is, refl) c.entity.ensures

pub returns-then-eq-8 : goal.returns-then-eq-8
returns-then-eq-8 c =
    let is : c.args.word.now ≡ codes "leave" = (slice_eq-Decides Decides-eqb _ _ _ c.eq-else-eq-7.ensures).0 c.if-eq-8.true ∙ c.as_slice-else-eq-7.ensures in
    reads_fitted c.args.word.now _ (Leave c.args.a) c.leave.result (is, refl) c.leave.ensures

pub returns-then-eq-9 : goal.returns-then-eq-9
returns-then-eq-9 c =
    let is : c.args.word.now ≡ codes "class" = (slice_eq-Decides Decides-eqb _ _ _ c.eq-else-eq-8.ensures).0 c.if-eq-9.true ∙ c.as_slice-else-eq-8.ensures in
    reads_fitted c.args.word.now _ (Class c.args.a) c.class_of.result (is, refl) c.class_of.ensures
