-- One exchange of a list that is turned back or forth, at its place in the list.
use Rattle.std.proofs.Common.{◌≡◌, ℕ, zero, suc, ◌+◌, ◌-◌, ◌<◌, ◌≤◌, ◌%◌, ◌^◌, List, [], ◌∷◌, ◌++◌, length, get_or, set, take, drop, refl, sym, ap, ◌∙◌, subst, arith, append_assoc}
use Rattle.std.proofs.lemmas.List.{take_more, take-set, drop-set, set-get_or, length-take-le, take-append-drop}
use Rattle.std.proofs.Math.Seq.{drop-cons}
use Rattle.change_record.specs.declared.change.Change.{Change}
use Rattle.change_record.specs.Tables.{Tables}
use Rattle.change_record.specs.Exchange.{after, left_by, FitsIn, ArePuts, FitBack, FitForth, forth_tables, forth_left, back_tables, back_left}
use Rattle.change_record.proofs.Exchanges.{back_tables-append, back_left-append, FitBack-first, FitBack-last, FitBack-forth, forth_tables-append, forth_left-append, back_tables-forth, back_left-forth, length-forth_left}

pub take_at : (cs : List Change) (i : ℕ) (x : Change) → 0 < i → i ≤ length cs → take i cs ≡ take (i - 1) cs ++ get_or cs (i - 1) x ∷ []
take_at cs zero x h le = absurd (omega arith)
take_at cs (suc i) x h le = let e : suc i ≡ (suc i - 1) + 1 = omega arith in ap (λ n. take n cs) e ∙ take_more cs (suc i - 1) x (omega arith)

pub back_tables-at : (cs : List Change) (i : ℕ) (x : Change) (t : Tables) → 0 < i → i ≤ length cs
    → back_tables (take i cs) t ≡ back_tables (take (i - 1) cs) (after t (get_or cs (i - 1) x))
back_tables-at cs i x t h le = ap (λ l. back_tables l t) (take_at cs i x h le) ∙ back_tables-append (take (i - 1) cs) (get_or cs (i - 1) x ∷ []) t

pub back_left-at : (cs : List Change) (i : ℕ) (x : Change) (t : Tables) → 0 < i → i ≤ length cs
    → back_left (take i cs) t ≡ back_left (take (i - 1) cs) (after t (get_or cs (i - 1) x)) ++ left_by t (get_or cs (i - 1) x) ∷ []
back_left-at cs i x t h le = ap (λ l. back_left l t) (take_at cs i x h le) ∙ back_left-append (take (i - 1) cs) (get_or cs (i - 1) x ∷ []) t

pub FitBack-at : (cs : List Change) (i : ℕ) (x : Change) (t : Tables) → 0 < i → i ≤ length cs → FitBack (take i cs) t
    → FitsIn t (get_or cs (i - 1) x) × FitBack (take (i - 1) cs) (after t (get_or cs (i - 1) x))
FitBack-at cs i x t h le fits =
    let P : List Change → Type 0 = λ l. FitBack l t in
    let whole : FitBack (take (i - 1) cs ++ get_or cs (i - 1) x ∷ []) t = subst P (take_at cs i x h le) fits in
    ((FitBack-last (take (i - 1) cs) (get_or cs (i - 1) x ∷ []) t whole).1, FitBack-first (take (i - 1) cs) (get_or cs (i - 1) x ∷ []) t whole)

pub tables_left : (cs : List Change) (i : ℕ) (x d : Change) (t u : Tables) → 0 < i → i ≤ length cs → u ≡ after t (get_or cs (i - 1) x)
    → back_tables (take (i - 1) (set cs (i - 1) d)) u ≡ back_tables (take i cs) t
tables_left cs i x d t u h le e =
    ap (λ l. back_tables l u) (take-set cs (i - 1) d) ∙ ap (back_tables (take (i - 1) cs)) e ∙ sym (back_tables-at cs i x t h le)

pub left_left : (cs : List Change) (i : ℕ) (x d : Change) (t u : Tables) → 0 < i → i ≤ length cs → u ≡ after t (get_or cs (i - 1) x) → d ≡ left_by t (get_or cs (i - 1) x)
    → back_left (take (i - 1) (set cs (i - 1) d)) u ++ drop (i - 1) (set cs (i - 1) d) ≡ back_left (take i cs) t ++ drop i cs
left_left cs i x d t u h le e f =
    let n : (i - 1) + 1 ≡ i = omega arith in
    let front : back_left (take (i - 1) (set cs (i - 1) d)) u ≡ back_left (take (i - 1) cs) (after t (get_or cs (i - 1) x)) =
    ap (λ l. back_left l u) (take-set cs (i - 1) d) ∙ ap (back_left (take (i - 1) cs)) e in
    let rest : drop (i - 1) (set cs (i - 1) d) ≡ left_by t (get_or cs (i - 1) x) ∷ drop i cs =
    drop-set cs (i - 1) d (omega arith) ∙ ap (λ l. d ∷ drop l cs) n ∙ ap (λ y. y ∷ drop i cs) f in
    ap (λ l. l ++ drop (i - 1) (set cs (i - 1) d)) front
    ∙ ap (λ l. back_left (take (i - 1) cs) (after t (get_or cs (i - 1) x)) ++ l) rest
    ∙ sym (append_assoc (back_left (take (i - 1) cs) (after t (get_or cs (i - 1) x))) (left_by t (get_or cs (i - 1) x) ∷ []) (drop i cs))
    ∙ sym (ap (λ l. l ++ drop i cs) (back_left-at cs i x t h le))

pub turns_left : (a i : ℕ) → 0 < i → ((a + 1) % 2 ^ 64 + (i - 1)) % 2 ^ 64 ≡ (a + i) % 2 ^ 64
turns_left a i h = omega arith

-- a list in two parts, at the first place of the second
set_join : {A : Type 0} (xs ys : List A) (y d : A) (i : ℕ) → i ≡ length xs → set (xs ++ y ∷ ys) i d ≡ xs ++ d ∷ ys
set_join [] ys y d zero e = refl
set_join [] ys y d (suc i) e = absurd (omega arith)
set_join (x ∷ xs) ys y d zero e = absurd (omega arith)
set_join (x ∷ xs) ys y d (suc i) e = ap (λ l. x ∷ l) (set_join xs ys y d i (omega arith))

get_or_join : {A : Type 0} (xs ys : List A) (y d : A) (i : ℕ) → i ≡ length xs → get_or (xs ++ y ∷ ys) i d ≡ y
get_or_join [] ys y d zero e = refl
get_or_join [] ys y d (suc i) e = absurd (omega arith)
get_or_join (x ∷ xs) ys y d zero e = absurd (omega arith)
get_or_join (x ∷ xs) ys y d (suc i) e = get_or_join xs ys y d i (omega arith)

take_join : {A : Type 0} (xs ys : List A) (i : ℕ) → i ≡ length xs → take i (xs ++ ys) ≡ xs
take_join [] ys zero e = refl
take_join [] ys (suc i) e = absurd (omega arith)
take_join (x ∷ xs) ys zero e = absurd (omega arith)
take_join (x ∷ xs) ys (suc i) e = ap (λ l. x ∷ l) (take_join xs ys i (omega arith))

drop_join : {A : Type 0} (xs ys : List A) (i : ℕ) → i ≡ length xs → drop i (xs ++ ys) ≡ ys
drop_join [] ys zero e = refl
drop_join [] ys (suc i) e = absurd (omega arith)
drop_join (x ∷ xs) ys zero e = absurd (omega arith)
drop_join (x ∷ xs) ys (suc i) e = drop_join xs ys i (omega arith)

ArePuts-take : (cs : List Change) (i : ℕ) → ArePuts cs → ArePuts (take i cs)
ArePuts-take [] zero p = tt
ArePuts-take [] (suc i) p = tt
ArePuts-take (c ∷ cs) zero p = tt
ArePuts-take (c ∷ cs) (suc i) p = (p.0, ArePuts-take cs i p.1)

done_length : (cs : List Change) (i : ℕ) (t : Tables) → i ≤ length cs → i ≡ length (forth_left (take i cs) t)
done_length cs i t h = sym (length-forth_left (take i cs) t ∙ length-take-le i cs h)

cut_at : (cs : List Change) (i : ℕ) (x : Change) → i < length cs → drop i cs ≡ get_or cs i x ∷ drop (i + 1) cs
cut_at cs i x h = let e : suc i ≡ i + 1 = omega arith in drop-cons cs i x h ∙ ap (λ n. get_or cs i x ∷ drop n cs) e

-- the element that comes next is still the one of the list
turned_next : (cs now : List Change) (i : ℕ) (x : Change) (t : Tables) → i < length cs → now ≡ forth_left (take i cs) t ++ drop i cs → get_or now i x ≡ get_or cs i x
turned_next cs now i x t h e =
    ap (λ l. get_or l i x) (e ∙ ap (λ l. forth_left (take i cs) t ++ l) (cut_at cs i x h))
    ∙ get_or_join (forth_left (take i cs) t) (drop (i + 1) cs) (get_or cs i x) x i (done_length cs i t (omega arith))

pub forth_tables-at : (cs now : List Change) (i : ℕ) (x : Change) (t u v : Tables) → i < length cs → now ≡ forth_left (take i cs) t ++ drop i cs
    → u ≡ forth_tables (take i cs) t → v ≡ after u (get_or now i x) → v ≡ forth_tables (take (i + 1) cs) t
forth_tables-at cs now i x t u v h e f g =
    g ∙ ap (after u) (turned_next cs now i x t h e) ∙ ap (λ w. after w (get_or cs i x)) f
    ∙ sym (ap (λ l. forth_tables l t) (take_more cs i x h) ∙ forth_tables-append (take i cs) (get_or cs i x ∷ []) t)

pub forth_left-at : (cs now : List Change) (i : ℕ) (x d : Change) (t u : Tables) → i < length cs → now ≡ forth_left (take i cs) t ++ drop i cs
    → u ≡ forth_tables (take i cs) t → d ≡ left_by u (get_or now i x) → set now i d ≡ forth_left (take (i + 1) cs) t ++ drop (i + 1) cs
forth_left-at cs now i x d t u h e f g =
    let done = forth_left (take i cs) t in
    let left : d ≡ left_by (forth_tables (take i cs) t) (get_or cs i x) =
    g ∙ ap (left_by u) (turned_next cs now i x t h e) ∙ ap (λ w. left_by w (get_or cs i x)) f in
    ap (λ l. set l i d) (e ∙ ap (λ l. done ++ l) (cut_at cs i x h))
    ∙ set_join done (drop (i + 1) cs) (get_or cs i x) d i (done_length cs i t (omega arith))
    ∙ ap (λ y. done ++ y ∷ drop (i + 1) cs) left
    ∙ sym (append_assoc done (left_by (forth_tables (take i cs) t) (get_or cs i x) ∷ []) (drop (i + 1) cs))
    ∙ ap (λ l. l ++ drop (i + 1) cs) (sym (ap (λ l. forth_left l t) (take_more cs i x h) ∙ forth_left-append (take i cs) (get_or cs i x ∷ []) t))

-- where turning the list forth adds no block, the exchange that comes next adds none
FitForth-at : (cs : List Change) (i : ℕ) (x : Change) (t : Tables) → i < length cs → FitForth cs t → FitsIn (forth_tables (take i cs) t) (get_or cs i x)
FitForth-at [] i x t h fits = absurd (omega arith)
FitForth-at (c ∷ cs) zero x t h fits = fits.0
FitForth-at (c ∷ cs) (suc i) x t h fits = FitForth-at cs i x (after t c) (omega arith) fits.1

pub fits_next : (cs now : List Change) (i : ℕ) (x : Change) (t u : Tables) → i < length cs → now ≡ forth_left (take i cs) t ++ drop i cs
    → u ≡ forth_tables (take i cs) t → FitForth cs t → FitsIn u (get_or now i x)
fits_next cs now i x t u h e f fits =
    let P : Tables → Type 0 = λ v. FitsIn v (get_or now i x) in
    let Q : Change → Type 0 = λ c. FitsIn (forth_tables (take i cs) t) c in
    subst P (sym f) (subst Q (sym (turned_next cs now i x t h e)) (FitForth-at cs i x t h fits))

-- where an exchange is refused, those before it are turned back
pub done_before : (cs now : List Change) (i : ℕ) (x d : Change) (t : Tables) → i < length cs → now ≡ forth_left (take i cs) t ++ drop i cs → d ≡ get_or now i x
    → take i (set now i d) ≡ forth_left (take i cs) t
done_before cs now i x d t h e g = take-set now i d ∙ ap (take i) e ∙ take_join (forth_left (take i cs) t) (drop i cs) i (done_length cs i t (omega arith))

pub fits_before : (cs now : List Change) (i : ℕ) (x d : Change) (t u : Tables) → i < length cs → ArePuts cs → now ≡ forth_left (take i cs) t ++ drop i cs → d ≡ get_or now i x
    → u ≡ forth_tables (take i cs) t → FitBack (take i (set now i d)) u
fits_before cs now i x d t u h puts e g f =
    let P : Tables → Type 0 = λ v. FitBack (forth_left (take i cs) t) v in
    let Q : List Change → Type 0 = λ l. FitBack l u in
    subst Q (sym (done_before cs now i x d t h e g)) (subst P (sym f) (FitBack-forth (take i cs) t (ArePuts-take cs i puts)))

pub tables_before : (cs now : List Change) (i : ℕ) (x d : Change) (t u : Tables) → i < length cs → now ≡ forth_left (take i cs) t ++ drop i cs → d ≡ get_or now i x
    → u ≡ forth_tables (take i cs) t → back_tables (take i (set now i d)) u ≡ t
tables_before cs now i x d t u h e g f =
    ap (λ l. back_tables l u) (done_before cs now i x d t h e g) ∙ ap (back_tables (forth_left (take i cs) t)) f ∙ back_tables-forth (take i cs) t

pub changes_before : (cs now : List Change) (i : ℕ) (x d : Change) (t u : Tables) → i < length cs → now ≡ forth_left (take i cs) t ++ drop i cs → d ≡ get_or now i x
    → u ≡ forth_tables (take i cs) t → back_left (take i (set now i d)) u ++ drop i (set now i d) ≡ cs
changes_before cs now i x d t u h e g f =
    let same : set now i d ≡ now = ap (set now i) g ∙ set-get_or now i x in
    let rest : drop i (set now i d) ≡ drop i cs = ap (drop i) (same ∙ e) ∙ drop_join (forth_left (take i cs) t) (drop i cs) i (done_length cs i t (omega arith)) in
    ap (λ l. back_left l u ++ drop i (set now i d)) (done_before cs now i x d t h e g)
    ∙ ap (λ v. back_left (forth_left (take i cs) t) v ++ drop i (set now i d)) f
    ∙ ap (λ l. l ++ drop i (set now i d)) (back_left-forth (take i cs) t)
    ∙ ap (λ l. take i cs ++ l) rest ∙ take-append-drop i cs
