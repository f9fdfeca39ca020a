use Rattle.std.proofs.Common.{◌≡◌, ◌∙◌, ℕ, List, [], ◌∷◌, refl, sym, ◌<◌, ◌≤◌, length, take, subst, ap, arith, inl, inr}
use Rattle.std.proofs.lemmas.List.{length-append, length-take}
use Rattle.std.proofs.lemmas.Bool.{false≢true}
use Rattle.std.specs.Io.KnownBytes.{Consumes}
use Rattle.session_proto.specs.Opened.{HeldCalls, HasGrown, HasRoomLess}
use Rattle.session_proto.proofs.Steps.{piece_fed, piece_unfed, read_fails, input_breaks}
use Rattle.session_proto.proofs.serving.read_calls.Goals as goal

-- what is not empty has bytes
some_bytes : (bytes : List ℕ) → (bytes ≡ [] → ⊥) → 0 < length bytes
some_bytes [] some = absurd (some refl)
some_bytes (b ∷ bytes) some = omega arith

pub returns-in-Ok-feed-clause-reads : goal.returns-in-Ok-feed-clause-reads
returns-in-Ok-feed-clause-reads g c = λ start limit calls under past.
    let piece = take c.in-Ok.count c.read.new.buf in
    let few : length piece ≤ 8192 = omega (arith, length-take c.in-Ok.count c.read.new.buf, c.in-Ok.ensures.bound, c.requires.few) in
    piece_fed limit start _ _ c.args.feeder.now c.feed.new.self calls piece c.in-Ok-feed.fed c.requires.sound c.in-Ok.ensures.bytes.0 few under
    c.in-Ok-feed.ensures.came past

pub returns-in_default-clause-reads : goal.returns-in_default-clause-reads
returns-in_default-clause-reads g c = λ start limit calls under past.
    read_fails limit start _ _ c.args.feeder.now calls c.requires.sound c.in_default.ensures.bytes past

-- that the input has ended between two frames is left to search, which a wrong body of it needs
pub returns-then-count-eq0-clause-reads : goal.returns-then-count-eq0-clause-reads
returns-then-count-eq0-clause-reads g c = λ start limit calls under past.
    let P : ℕ → Type 0 = λ n. Consumes (g.R.Read.remaining c.args.reader.now) (g.R.Read.remaining c.read.new.self) (take n c.read.new.buf) in
    let some : 0 < length c.read.new.buf = omega (arith, c.requires.some) in
    let held : 0 < length c.args.feeder.now.bytes = some_bytes c.args.feeder.now.bytes (λ none. false≢true (sym c.if-is_between.false ∙ c.is_between.ensures.1 none)) in
    input_breaks limit start _ _ c.args.feeder.now calls c.requires.sound (subst P c.if-count-eq0.true c.in-Ok.ensures.bytes.0)
    (c.in-Ok.ensures.bytes.1 c.if-count-eq0.true some) held past

pub returns-in-Err-clause-reads : goal.returns-in-Err-clause-reads
returns-in-Err-clause-reads g c = λ start limit calls under past.
    let piece = take c.in-Ok.count c.read.new.buf in
    let some : 0 < length piece = omega (arith, c.in-Ok.ensures.bound, c.if-count-eq0.false) in
    let few : length piece ≤ 8192 = omega (arith, length-take c.in-Ok.count c.read.new.buf, c.in-Ok.ensures.bound, c.requires.few) in
    piece_unfed limit start _ _ c.args.feeder.now calls piece c.requires.sound c.in-Ok.ensures.bytes.0 some few under past

-- a piece with bytes makes what is held longer, if the version does not become known with it
grown : (before after : HeldCalls) (piece : List ℕ) → 0 < length piece → HasGrown before piece after → HasRoomLess before after
grown before after piece some (inl grows) = inl (omega (arith, some, ap length grows.0, length-append before.bytes piece), grows.1)
grown before after piece some (inr known) = inr known

pub returns-in-Ok-feed-clause-grows : goal.returns-in-Ok-feed-clause-grows
returns-in-Ok-feed-clause-grows g c = λ none sound.
    let piece = take c.in-Ok.count c.read.new.buf in
    let some : 0 < length piece = omega (arith, length-take c.in-Ok.count c.read.new.buf, c.in-Ok.ensures.bound, c.if-count-eq0.false) in
    grown c.args.feeder.now c.feed.new.self piece some (c.in-Ok-feed.ensures.grows none sound)
