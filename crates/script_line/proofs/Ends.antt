-- How a run goes on, and how it ends, over plain variables.
use Rattle.std.proofs.Common.{◌≡◌, ℕ, ◌+◌, ◌<◌, ◌≤◌, List, [], ◌∷◌, ◌++◌, length, refl, sym, ap, subst, ◌∙◌, append_assoc, append-nil, length-append, length-take, take, drop, take-append-drop, arith, inl, inr}
use Rattle.std.specs.Io.KnownBytes.{Appends, Consumes, Keeps, IsAtEnd}
use Rattle.script_line.specs.declared.line.Line.{Line}
use Rattle.script_line.specs.Script.{Known, HasNoEnd, IsLine, IsSilent, IsBad, IsWhole, IsNext, IsBadNext, Step, MayHaveRun, ended, bad_text, EndsBy, IsEnd, too_many, too_long, no_line}
use Rattle.byte_writing.specs.Written.{IsCut}
use Rattle.script_line.specs.Steps.{IsBadEnd, IsReadEnd, IsLineEnd, IsLastEnd, SoFar, OneMore}
use Rattle.script_line.specs.declared.ending.ScriptEnd.{ScriptEnd}
use Rattle.script_line.specs.declared.ending.ScriptEnd.TheVariants.{Done, BadLine, ReadFault, WriteFault, OutOfMemory}
use Rattle.script_line.proofs.Bytes.{Appends-none, Appends-more, Consumes-none, Consumes-more, Consumes-kept, Appends-kept, All-push, All-append, All-front, ended-push, Runs-push}

-- the line that has begun is the next, once it is whole
pub is_next : {C : Type 0} (prints : C → Line → List ℕ → C → Type 0) (r0 r1 w0 w1 : Known) (c0 c1 : C) (count : ℕ) (line after : List ℕ)
    (s : SoFar prints r0 r1 w0 w1 c0 c1 count line after) → count < 1048576 → IsWhole r1 line after → IsNext r1 s.lines (line ++ after) line
is_next prints r0 r1 w0 w1 c0 c1 count line after s room whole =
    let counted = s.counted in
    record { after = after; begins = refl; whole = whole; is_line = s.is_line; room = omega arith }

-- the next line's bytes, and what is left of the piece that was read
near_rest : (begun waiting : List ℕ) → IsLine begun → length waiting ≤ 4096 → length (begun ++ waiting) ≤ 256 + 4096
near_rest begun waiting line few = let short = line.1 in omega (arith, short, few, length-append begun waiting)

-- only a front of what the line prints is written
pub stops_write : {C : Type 0} (prints : C → Line → List ℕ → C → Type 0) (r0 r1 w0 w1 w2 : Known) (c0 c1 c2 : C) (count : ℕ) (line after text : List ℕ)
    → SoFar prints r0 r1 w0 w1 c0 c1 count line after → count < 1048576 → IsWhole r1 line after
    → Step prints c1 line text c2 → IsCut w1 w2 text → IsEnd prints r0 r1 w0 w2 c0 c2 WriteFault
stops_write {C} prints r0 r1 w0 w1 w2 c0 c1 c2 count line after text s room whole step cut =
    let counted = s.counted in
    let P : List ℕ → Type 0 = λ t. Step prints c1 line t c2 in
    record {
      lines = s.lines;
      text = s.text;
      rest = line ++ after;
      last = c1;
      read = s.read;
      near = near_rest line after s.is_line s.near;
      each = s.each;
      few = omega arith;
      runs = s.runs;
      ends = inr (
        cut.0,
        cut.1,
        Appends-more w0 w1 w2 s.text cut.0 s.wrote cut.4,
        inl (line, is_next prints r0 r1 w0 w1 c0 c1 count line after s room whole, subst P cut.3 step),
      );
    }

-- a line that is not silent has bytes
bad_line_some : (line : List ℕ) → (IsSilent line → ⊥) → 0 < length line
bad_line_some [] loud = absurd (loud tt)
bad_line_some (b ∷ bs) loud = omega arith

-- a bad line has bytes
bad_some : {C : Type 0} (prints : C → Line → List ℕ → C → Type 0) (last : C) (left : Known) (lines : List (List ℕ)) (rest : List ℕ)
    → IsBadNext prints last left lines rest → 0 < length rest
bad_some prints last left lines rest (too_many some _) = some
bad_some prints last left lines rest (too_long front more e _ long) = omega (arith, ap length e, length-append front more)
bad_some prints last left lines rest (no_line line next bad) =
    let some = bad_line_some line bad.0 in
    omega (arith, ap length next.begins, length-append line next.after)

-- the bad line is told of, in whole, in part or not at all
pub stops_bad : {C : Type 0} (prints : C → Line → List ℕ → C → Type 0) (r0 r1 w0 w1 w2 : Known) (c0 c1 c2 : C) (count : ℕ) (begun waiting : List ℕ)
    (s : SoFar prints r0 r1 w0 w1 c0 c1 count begun waiting) → IsBadNext prints c1 r1 s.lines (begun ++ waiting) → c2 ≡ c1
    → (why : ScriptEnd) → IsBadEnd w1 w2 (count + 1) why → IsEnd prints r0 r1 w0 w2 c0 c2 why
stops_bad prints r0 r1 w0 w1 w2 c0 c1 c2 count begun waiting s bad same Done h = absurd h
stops_bad prints r0 r1 w0 w1 w2 c0 c1 c2 count begun waiting s bad same (BadLine n) h =
    let counted = s.counted in
    let few = s.few in
    let number : n ≡ count + 1 = h.0 in
    let P : ℕ → Type 0 = λ k. Appends w0 w2 (s.text ++ bad_text k) in
    record {
      lines = s.lines;
      text = s.text;
      rest = begun ++ waiting;
      last = c1;
      read = s.read;
      near = near_rest begun waiting s.is_line s.near;
      each = s.each;
      few = omega arith;
      runs = s.runs;
      ends = (omega arith, bad, subst P (sym number) (Appends-more w0 w1 w2 s.text (bad_text (count + 1)) s.wrote h.1), same);
    }
stops_bad prints r0 r1 w0 w1 w2 c0 c1 c2 count begun waiting s bad same ReadFault h = absurd h
stops_bad prints r0 r1 w0 w1 w2 c0 c1 c2 count begun waiting s bad same WriteFault h =
    let counted = s.counted in
    let few = s.few in
    let number : count + 1 ≡ length s.lines + 1 = omega arith in
    record {
      lines = s.lines;
      text = s.text;
      rest = begun ++ waiting;
      last = c1;
      read = s.read;
      near = near_rest begun waiting s.is_line s.near;
      each = s.each;
      few = omega arith;
      runs = s.runs;
      ends = inr (h.0, h.1, Appends-more w0 w1 w2 s.text h.0 s.wrote h.4, inr (bad, sym h.3 ∙ ap bad_text number, same));
    }
stops_bad prints r0 r1 w0 w1 w2 c0 c1 c2 count begun waiting s bad same OutOfMemory h =
    let counted = s.counted in
    let few = s.few in
    let P : Known → Type 0 = λ w. Appends w0 w s.text in
    record {
      lines = s.lines;
      text = s.text;
      rest = begun ++ waiting;
      last = c1;
      read = s.read;
      near = near_rest begun waiting s.is_line s.near;
      each = s.each;
      few = omega arith;
      runs = s.runs;
      ends = (bad_some prints c1 r1 s.lines (begun ++ waiting) bad, subst P (sym h) s.wrote, inl same);
    }

-- one line too many
pub stops_many : {C : Type 0} (prints : C → Line → List ℕ → C → Type 0) (r0 r1 w0 w1 w2 : Known) (c0 c1 : C) (count : ℕ) (begun waiting : List ℕ)
    → SoFar prints r0 r1 w0 w1 c0 c1 count begun waiting → 0 < length waiting → count ≡ 1048576
    → (why : ScriptEnd) → IsBadEnd w1 w2 (count + 1) why → IsEnd prints r0 r1 w0 w2 c0 c1 why
stops_many prints r0 r1 w0 w1 w2 c0 c1 count begun waiting s some full =
    stops_bad prints r0 r1 w0 w1 w2 c0 c1 c1 count begun waiting s
    (too_many (omega (arith, length-append begun waiting)) (sym s.counted ∙ full)) refl

-- a byte too many, or more
pub stops_long : {C : Type 0} (prints : C → Line → List ℕ → C → Type 0) (r0 r1 w0 w1 w2 : Known) (c0 c1 : C) (count : ℕ) (begun waiting front after : List ℕ)
    → SoFar prints r0 r1 w0 w1 c0 c1 count begun waiting → waiting ≡ front ++ after → HasNoEnd front → 256 < length begun + length front
    → (why : ScriptEnd) → IsBadEnd w1 w2 (count + 1) why → IsEnd prints r0 r1 w0 w2 c0 c1 why
stops_long prints r0 r1 w0 w1 w2 c0 c1 count begun waiting front after s whole other long =
    let line : List ℕ = begun ++ front in
    let size : 256 < length line = omega (arith, length-append begun front) in
    let parts : begun ++ waiting ≡ take 257 line ++ (drop 257 line ++ after) =
    ap (λ l. begun ++ l) whole ∙ sym (append_assoc begun front after)
    ∙ ap (λ l. l ++ after) (sym (take-append-drop 257 line)) ∙ append_assoc (take 257 line) (drop 257 line) after in
    stops_bad prints r0 r1 w0 w1 w2 c0 c1 c1 count begun waiting s
    (too_long (take 257 line) (drop 257 line ++ after) parts
    (All-front (λ b. b ≡ 10 → ⊥) 257 line (All-append (λ b. b ≡ 10 → ⊥) begun front s.is_line.0 other))
    (omega (arith, length-take 257 line))) refl

-- bytes of the line that has begun, which are in it then
pub begun_more : {C : Type 0} (prints : C → Line → List ℕ → C → Type 0) (r0 r1 w0 w1 : Known) (c0 c1 : C) (count : ℕ) (begun waiting front after now : List ℕ)
    → SoFar prints r0 r1 w0 w1 c0 c1 count begun waiting → waiting ≡ front ++ after → HasNoEnd front → now ≡ begun ++ front → length now ≤ 256
    → (count ≡ 1048576 → ⊥) → SoFar prints r0 r1 w0 w1 c0 c1 count now after
begun_more prints r0 r1 w0 w1 c0 c1 count begun waiting front after now s whole other is short fewer =
    let R : List ℕ → Type 0 = λ bytes. Consumes r0 r1 (ended s.lines ++ bytes) in
    let same : begun ++ waiting ≡ now ++ after =
    ap (λ l. begun ++ l) whole ∙ sym (append_assoc begun front after) ∙ ap (λ l. l ++ after) (sym is) in
    let few = s.few in
    record {
      lines = s.lines;
      text = s.text;
      read = subst R same s.read;
      near = (let near = s.near in omega (arith, near, ap length whole, length-append front after));
      each = s.each;
      counted = s.counted;
      few = s.few;
      is_line = (subst HasNoEnd (sym is) (All-append (λ b. b ≡ 10 → ⊥) begun front s.is_line.0 other), short);
      room = λ _. omega arith;
      runs = s.runs;
      wrote = s.wrote;
    }

-- no line
pub stops_unread : {C : Type 0} (prints : C → Line → List ℕ → C → Type 0) (r0 r1 w0 w1 w2 : Known) (c0 c1 c2 : C) (count : ℕ) (line after : List ℕ)
    → SoFar prints r0 r1 w0 w1 c0 c1 count line after → count < 1048576 → IsWhole r1 line after → IsBad prints c1 line → c2 ≡ c1
    → (why : ScriptEnd) → IsBadEnd w1 w2 (count + 1) why → IsEnd prints r0 r1 w0 w2 c0 c2 why
stops_unread prints r0 r1 w0 w1 w2 c0 c1 c2 count line after s room whole bad same =
    stops_bad prints r0 r1 w0 w1 w2 c0 c1 c2 count line after s
    (no_line line (is_next prints r0 r1 w0 w1 c0 c1 count line after s room whole) bad) same

-- what the line prints is written
pub one_more : {C : Type 0} (prints : C → Line → List ℕ → C → Type 0) (r0 r1 w0 w1 w2 : Known) (c0 c1 c2 : C) (count : ℕ) (line after text : List ℕ)
    → SoFar prints r0 r1 w0 w1 c0 c1 count line after → count < 1048576 → Step prints c1 line text c2 → Appends w1 w2 text
    → OneMore prints r0 r1 w0 w2 c0 c2 (count + 1) line after
one_more prints r0 r1 w0 w1 w2 c0 c1 c2 count line after text s room step wrote = record {
  lines = s.lines;
  text = s.text;
  printed = text;
  last = c1;
  read = s.read;
  near = s.near;
  each = s.each;
  counted = ap (λ n. n + 1) s.counted;
  few = omega arith;
  is_line = s.is_line;
  runs = s.runs;
  step = step;
  wrote = Appends-more w0 w1 w2 s.text text s.wrote wrote;
}

-- a bad line ends a run as a line may
pub bad_line_end : (w0 w1 : Known) (number : ℕ) (why : ScriptEnd) → IsBadEnd w0 w1 number why → IsLineEnd why
bad_line_end w0 w1 number Done h = h
bad_line_end w0 w1 number (BadLine n) h = tt
bad_line_end w0 w1 number ReadFault h = h
bad_line_end w0 w1 number WriteFault h = tt
bad_line_end w0 w1 number OutOfMemory h = tt

-- a line that ends a run may be the last
pub last_end : (why : ScriptEnd) → IsLineEnd why → IsLastEnd why
last_end Done h = tt
last_end (BadLine n) h = tt
last_end ReadFault h = h
last_end WriteFault h = tt
last_end OutOfMemory h = tt

-- the line that was run is one of the lines that have run, once its 0A is taken
pub next_line : {C : Type 0} (prints : C → Line → List ℕ → C → Type 0) (r0 r1 w0 w1 : Known) (c0 c1 : C) (count : ℕ) (line begun waiting : List ℕ)
    → begun ≡ [] → OneMore prints r0 r1 w0 w1 c0 c1 count line (10 ∷ waiting) → SoFar prints r0 r1 w0 w1 c0 c1 count begun waiting
next_line prints r0 r1 w0 w1 c0 c1 count line begun waiting empty o =
    let P : List ℕ → Type 0 = λ b. SoFar prints r0 r1 w0 w1 c0 c1 count b waiting in
    let R : List ℕ → Type 0 = λ bytes. Consumes r0 r1 bytes in
    subst P (sym empty) (record {
      lines = o.lines ++ (line ∷ []);
      text = o.text ++ o.printed;
      read = subst R (sym (ended-push o.lines line waiting)) o.read;
      near = (let near = o.near in omega (arith, near));
      each = All-push IsLine o.lines line o.each o.is_line;
      counted = o.counted ∙ sym (length-append o.lines (line ∷ []));
      few = o.few;
      is_line = (tt, omega arith);
      room = λ h. absurd (omega arith);
      runs = Runs-push prints c0 o.lines o.text o.last line o.printed c1 o.runs o.step;
      wrote = o.wrote;
    })

-- the last line ran, and has no 0A
pub done_last : {C : Type 0} (prints : C → Line → List ℕ → C → Type 0) (r0 r1 w0 w1 : Known) (c0 c1 : C) (count : ℕ) (line : List ℕ)
    → OneMore prints r0 r1 w0 w1 c0 c1 count line [] → IsAtEnd r1 → 0 < length line → IsEnd prints r0 r1 w0 w1 c0 c1 Done
done_last prints r0 r1 w0 w1 c0 c1 count line o at_end some =
    let R : List ℕ → Type 0 = λ bytes. Consumes r0 r1 (ended o.lines ++ bytes) in
    let counted = o.counted in
    let few = o.few in
    record {
      lines = o.lines;
      text = o.text;
      rest = line;
      last = o.last;
      read = subst R (append-nil line) o.read;
      near = (let short = o.is_line.1 in omega (arith, short));
      each = o.each;
      few = omega arith;
      runs = o.runs;
      ends = (
        at_end,
        inr (
          o.printed,
          record { after = []; begins = sym (append-nil line); whole = inr (refl, some, at_end); is_line = o.is_line; room = omega arith },
          o.step,
          o.wrote,
        ),
      );
    }

pub done_none : {C : Type 0} (prints : C → Line → List ℕ → C → Type 0) (r0 r1 w0 w1 : Known) (c0 c1 : C) (count : ℕ) (begun : List ℕ)
    → begun ≡ [] → SoFar prints r0 r1 w0 w1 c0 c1 count begun [] → IsAtEnd r1 → IsEnd prints r0 r1 w0 w1 c0 c1 Done
done_none prints r0 r1 w0 w1 c0 c1 count begun empty s at_end =
    let R : List ℕ → Type 0 = λ bytes. Consumes r0 r1 (ended s.lines ++ (bytes ++ [])) in
    let counted = s.counted in
    let few = s.few in
    record {
      lines = s.lines;
      text = s.text;
      rest = [];
      last = c1;
      read = subst R empty s.read;
      near = omega arith;
      each = s.each;
      few = omega arith;
      runs = s.runs;
      ends = (at_end, inl (refl, s.wrote, refl));
    }

-- there is no memory for what the line prints
pub stops_memory : {C : Type 0} (prints : C → Line → List ℕ → C → Type 0) (r0 r1 w0 w1 : Known) (c0 c1 c2 : C) (count : ℕ) (line after : List ℕ)
    → SoFar prints r0 r1 w0 w1 c0 c1 count line after → count < 1048576 → IsWhole r1 line after
    → 0 < length line → MayHaveRun (Step prints) c1 line c2 → IsEnd prints r0 r1 w0 w1 c0 c2 OutOfMemory
stops_memory prints r0 r1 w0 w1 c0 c1 c2 count line after s room whole some may =
    let counted = s.counted in
    let few = s.few in
    record {
      lines = s.lines;
      text = s.text;
      rest = line ++ after;
      last = c1;
      read = s.read;
      near = near_rest line after s.is_line s.near;
      each = s.each;
      few = omega arith;
      runs = s.runs;
      ends = (
        omega (arith, length-append line after),
        s.wrote,
        elim may [
          | inl same ↦ inl same
          | inr ran ↦ inr (line, ran.0, is_next prints r0 r1 w0 w1 c0 c1 count line after s room whole, ran.1)
        ],
      );
    }

-- the flush before a read failed, or the read
pub stops_read : {C : Type 0} (prints : C → Line → List ℕ → C → Type 0) (r0 r1 r2 w0 w1 w2 : Known) (c0 c1 : C) (count : ℕ) (begun : List ℕ)
    → SoFar prints r0 r1 w0 w1 c0 c1 count begun [] → Keeps r1 r2 → Keeps w1 w2
    → (why : ScriptEnd) → IsReadEnd why → IsEnd prints r0 r2 w0 w2 c0 c1 why
stops_read {C} prints r0 r1 r2 w0 w1 w2 c0 c1 count begun s kept wrote why is =
    let R : List ℕ → Type 0 = λ bytes. Consumes r0 r1 (ended s.lines ++ bytes) in
    let E : ScriptEnd → Type 0 = λ end. EndsBy prints r2 w0 w2 s.lines s.text begun c1 c1 end in
    let same : Appends w0 w2 s.text = Appends-kept w0 w1 w2 s.text s.wrote wrote in
    let counted = s.counted in
    let few = s.few in
    record {
      lines = s.lines;
      text = s.text;
      rest = begun;
      last = c1;
      read = Consumes-kept r0 r1 r2 (ended s.lines ++ begun) (subst R (append-nil begun) s.read) kept;
      near = (let short = s.is_line.1 in omega (arith, short));
      each = s.each;
      few = omega arith;
      runs = s.runs;
      ends = elim is [
        | inl flush ↦ subst E (sym flush) (inl (same, refl))
        | inr read ↦ subst E (sym read) (s.is_line, (λ h. let room = s.room h in omega arith), same, refl)
      ];
    }

-- a flush keeps how the run ended
ends_kept : {C : Type 0} (prints : C → Line → List ℕ → C → Type 0) (left w0 w1 w2 : Known) (lines : List (List ℕ)) (text rest : List ℕ) (last now : C)
    → Keeps w1 w2 → (why : ScriptEnd) → EndsBy prints left w0 w1 lines text rest last now why → EndsBy prints left w0 w2 lines text rest last now why
ends_kept prints left w0 w1 w2 lines text rest last now kept Done h = (
  h.0,
  elim h.1 [
    | inl none ↦ inl (none.0, Appends-kept w0 w1 w2 text none.1 kept, none.2)
    | inr ran ↦ inr (ran.0, ran.1, ran.2, Appends-kept w0 w1 w2 (text ++ ran.0) ran.3 kept)
  ],
)
ends_kept prints left w0 w1 w2 lines text rest last now kept (BadLine n) h =
    (h.0, h.1, Appends-kept w0 w1 w2 (text ++ bad_text n) h.2 kept, h.3)
ends_kept prints left w0 w1 w2 lines text rest last now kept ReadFault h =
    (h.0, h.1, Appends-kept w0 w1 w2 text h.2 kept, h.3)
ends_kept prints left w0 w1 w2 lines text rest last now kept WriteFault h = elim h [
  | inl none ↦ inl (Appends-kept w0 w1 w2 text none.0 kept, none.1)
  | inr front ↦ inr (front.0, front.1, Appends-kept w0 w1 w2 (text ++ front.0) front.2 kept, front.3)
]
ends_kept prints left w0 w1 w2 lines text rest last now kept OutOfMemory h =
    (h.0, Appends-kept w0 w1 w2 text h.1 kept, h.2)

-- a flush that fails makes a write fault of any end
ends_unflushed : {C : Type 0} (prints : C → Line → List ℕ → C → Type 0) (left w0 w1 w2 : Known) (lines : List (List ℕ)) (text rest : List ℕ) (last now : C)
    → Keeps w1 w2 → (why : ScriptEnd) → EndsBy prints left w0 w1 lines text rest last now why → EndsBy prints left w0 w2 lines text rest last now WriteFault
ends_unflushed prints left w0 w1 w2 lines text rest last now kept Done h =
    let P : List ℕ → Type 0 = λ t. Step prints last rest t now in
    elim h.1 [
      | inl none ↦ inl (Appends-kept w0 w1 w2 text none.1 kept, none.2)
      | inr ran ↦ inr (
        ran.0,
        [],
        Appends-kept w0 w1 w2 (text ++ ran.0) ran.3 kept,
        inl (rest, ran.1, subst P (sym (append-nil ran.0)) ran.2),
      )
    ]
ends_unflushed prints left w0 w1 w2 lines text rest last now kept (BadLine n) h =
    inr (bad_text n, [], Appends-kept w0 w1 w2 (text ++ bad_text n) h.2 kept, inr (h.1, append-nil (bad_text n) ∙ ap bad_text h.0, h.3))
ends_unflushed prints left w0 w1 w2 lines text rest last now kept ReadFault h =
    inl (Appends-kept w0 w1 w2 text h.2 kept, h.3)
ends_unflushed prints left w0 w1 w2 lines text rest last now kept WriteFault h =
    ends_kept prints left w0 w1 w2 lines text rest last now kept WriteFault h
ends_unflushed prints left w0 w1 w2 lines text rest last now kept OutOfMemory h =
    let P : List ℕ → Type 0 = λ t. Appends w0 w2 t in
    let wrote : Appends w0 w2 text = Appends-kept w0 w1 w2 text h.1 kept in
    elim h.2 [
      | inl same ↦ inl (wrote, same)
      | inr ran ↦ inr ([], ran.1, subst P (sym (append-nil text)) wrote, inl (ran.0, ran.2, ran.3))
    ]

pub flushed : {C : Type 0} (prints : C → Line → List ℕ → C → Type 0) (r0 r1 w0 w1 w2 : Known) (c0 c1 : C) (why : ScriptEnd)
    → IsEnd prints r0 r1 w0 w1 c0 c1 why → Keeps w1 w2 → IsEnd prints r0 r1 w0 w2 c0 c1 why
flushed prints r0 r1 w0 w1 w2 c0 c1 why end kept = record {
  lines = end.lines;
  text = end.text;
  rest = end.rest;
  last = end.last;
  read = end.read;
  near = end.near;
  each = end.each;
  few = end.few;
  runs = end.runs;
  ends = ends_kept prints r1 w0 w1 w2 end.lines end.text end.rest end.last c1 kept why end.ends;
}

pub unflushed : {C : Type 0} (prints : C → Line → List ℕ → C → Type 0) (r0 r1 w0 w1 w2 : Known) (c0 c1 : C) (why : ScriptEnd)
    → IsEnd prints r0 r1 w0 w1 c0 c1 why → Keeps w1 w2 → IsEnd prints r0 r1 w0 w2 c0 c1 WriteFault
unflushed prints r0 r1 w0 w1 w2 c0 c1 why end kept = record {
  lines = end.lines;
  text = end.text;
  rest = end.rest;
  last = end.last;
  read = end.read;
  near = end.near;
  each = end.each;
  few = end.few;
  runs = end.runs;
  ends = ends_unflushed prints r1 w0 w1 w2 end.lines end.text end.rest end.last c1 kept why end.ends;
}

-- a piece was read, after a flush
pub fed : {C : Type 0} (prints : C → Line → List ℕ → C → Type 0) (r0 r1 r2 w0 w1 w2 : Known) (c0 c1 : C) (count : ℕ) (begun piece : List ℕ)
    → SoFar prints r0 r1 w0 w1 c0 c1 count begun [] → Keeps w1 w2 → Consumes r1 r2 piece → length piece ≤ 4096 → SoFar prints r0 r2 w0 w2 c0 c1 count begun piece
fed prints r0 r1 r2 w0 w1 w2 c0 c1 count begun piece s kept more few =
    let R : List ℕ → Type 0 = λ bytes. Consumes r0 r1 (ended s.lines ++ bytes) in
    let Q : List ℕ → Type 0 = λ bytes. Consumes r0 r2 bytes in
    record {
      lines = s.lines;
      text = s.text;
      read = subst Q (append_assoc (ended s.lines) begun piece)
          (Consumes-more r0 r1 r2 (ended s.lines ++ begun) piece (subst R (append-nil begun) s.read) more);
      near = few;
      each = s.each;
      counted = s.counted;
      few = s.few;
      is_line = s.is_line;
      room = s.room;
      runs = s.runs;
      wrote = Appends-kept w0 w1 w2 s.text s.wrote kept;
    }

-- nothing is read or written yet
pub begun_none : {C : Type 0} (prints : C → Line → List ℕ → C → Type 0) (r w : Known) (c : C) (begun : List ℕ)
    → begun ≡ [] → SoFar prints r r w w c c 0 begun []
begun_none prints r w c begun empty =
    let P : List ℕ → Type 0 = λ b. SoFar prints r r w w c c 0 b [] in
    subst P (sym empty) (record {
      lines = [];
      text = [];
      read = Consumes-none r;
      near = omega arith;
      each = tt;
      counted = refl;
      few = omega arith;
      is_line = (tt, omega arith);
      room = λ h. absurd (omega arith);
      runs = (refl, refl);
      wrote = Appends-none w;
    })
