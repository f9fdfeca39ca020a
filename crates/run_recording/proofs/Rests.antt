-- The frames of entries, and of one more.
use Rattle.std.proofs.Common.{◌≡◌, ℕ, suc, ◌+◌, ◌-◌, ◌<◌, ◌≤◌, List, [], ◌∷◌, ◌++◌, length, take, drop, get_or, Option, Some, None, true, false, inl, inr, refl, sym, ap, ◌∙◌, subst, append_assoc, append-nil, arith}
use Rattle.std.specs.Prelude.{slice_get}
use Rattle.std.specs.Io.KnownBytes.{Appends}
use Rattle.std.proofs.Math.Seq.{take-suc}
use Rattle.std.proofs.lemmas.List.{length-drop, get_or-drop}
use Rattle.std.proofs.lemmas.Option.{slice_get_within, slice_get_cases, get_or_from_slice_get}
use Rattle.host_core.specs.Journal.{Entry as Page}
use Rattle.run_recording.specs.Recorded.{Known, IsFrameOf, AreFrames, between, IsPut, HasRecorded, HasStopped}

Appends-none : (w : Known) → Appends w w []
Appends-none None = tt
Appends-none (Some xs) = sym (append-nil xs)

Appends-more : (a b c : Known) (x y : List ℕ) → Appends a b x → Appends b c y → Appends a c (x ++ y)
Appends-more None b c x y h k = tt
Appends-more (Some xs) None c x y h k = absurd h
Appends-more (Some xs) (Some ys) None x y h k = absurd k
Appends-more (Some xs) (Some ys) (Some zs) x y h k = k ∙ ap (λ l. l ++ y) h ∙ append_assoc xs x y

-- frames, and one more behind them
AreFrames-push : (pages : List Page) (bytes : List ℕ) (page : Page) (frame : List ℕ) → AreFrames pages bytes → IsFrameOf page.name page.call frame
    → AreFrames (pages ++ page ∷ []) (bytes ++ frame)
AreFrames-push [] bytes page frame are is = (frame, [], is, refl, ap (λ (l : List ℕ). l ++ frame) are ∙ sym (append-nil frame))
AreFrames-push (p ∷ pages) bytes page frame are is = (
  are.0,
  are.1 ++ frame,
  are.2,
  AreFrames-push pages are.1 page frame are.3 is,
  ap (λ (l : List ℕ). l ++ frame) are.4 ∙ append_assoc are.0 are.1 frame,
)

-- the entries up to one, and that one
between-push : (pages : List Page) (from to : ℕ) (page : Page) → from ≤ to → slice_get pages to ≡ Some page
    → between pages from (to + 1) ≡ between pages from to ++ page ∷ []
between-push pages from to page order is =
    let rest : List Page = drop from pages in
    let count : ℕ = to - from in
    let within : to < length pages = slice_get_within pages to page is in
    let there : from + count ≡ to = omega (arith, order) in
    let same : get_or rest count page ≡ page =
    get_or-drop from pages count page ∙ ap (λ (n : ℕ). get_or pages n page) there ∙ get_or_from_slice_get pages to page page is in
    let more : to + 1 - from ≡ suc count = omega (arith, order) in
    ap (λ (n : ℕ). take n rest) more ∙ take-suc rest count page (omega (arith, within, order, length-drop from pages))
    ∙ ap (λ (p : Page). take count rest ++ p ∷ []) same

zero_is : (n : ℕ) → 0 ≡ n - n
zero_is n = omega arith

pub recorded_none : (w : Known) (pages : List Page) (from : ℕ) → from ≤ length pages → HasRecorded w w pages from from
recorded_none w pages from within = record {
  order = omega arith;
  within = within;
  bytes = [];
  frames = subst (λ (n : ℕ). AreFrames (take n (drop from pages)) []) (zero_is from) refl;
  appended = Appends-none w;
}

pub recorded_more : (w0 w1 w2 : Known) (pages : List Page) (from to : ℕ) (page : Page) → HasRecorded w0 w1 pages from to
    → slice_get pages to ≡ Some page → IsPut w1 w2 page.name page.call true → HasRecorded w0 w2 pages from (to + 1)
recorded_more w0 w1 w2 pages from to page h is put = record {
  order = omega (arith, h.order);
  within = omega (arith, slice_get_within pages to page is);
  bytes = h.bytes ++ put.0;
  frames = subst (λ (ps : List Page). AreFrames ps (h.bytes ++ put.0)) (sym (between-push pages from to page h.order is))
      (AreFrames-push (between pages from to) h.bytes page put.0 h.frames put.1);
  appended = Appends-more w0 w1 w2 h.bytes put.0 h.appended put.2;
}

pub recorded_cut : (w0 w1 w2 : Known) (pages : List Page) (from to : ℕ) (page : Page) → HasRecorded w0 w1 pages from to
    → slice_get pages to ≡ Some page → IsPut w1 w2 page.name page.call false → HasStopped w0 w2 pages from to
recorded_cut w0 w1 w2 pages from to page h is put =
    record { mid = w1; recorded = h; page = page; next = is; front = put.0; is_front = put.1; appended = put.2 }

not_both : (o : Option Page) (page : Page) → o ≡ Some page → o ≡ None → ⊥
not_both None page e f = absurd cc
not_both (Some x) page e f = absurd cc

pub recorded_all : (w0 w1 : Known) (pages : List Page) (from to : ℕ) → HasRecorded w0 w1 pages from to → slice_get pages to ≡ None → to ≡ length pages
recorded_all w0 w1 pages from to h is =
    elim (slice_get_cases pages to).1 [
      | inl found ↦ absurd (not_both (slice_get pages to) found.0 found.2 is)
      | inr past ↦ omega (arith, past.0, h.within)
    ]
