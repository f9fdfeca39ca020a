-- One more exchange keeps the trail.
use Rattle.std.proofs.Common.{◌≡◌, List, [], ◌∷◌, ◌++◌, sym, ap, ◌∙◌, subst}
use Rattle.change_record.specs.declared.change.Change.{Change}
use Rattle.change_record.specs.Tables.{Tables}
use Rattle.change_record.specs.Exchange.{after, left_by, IsPut, ArePuts, FitBack, back_tables, back_left}
use Rattle.change_record.specs.Trail.{IsTrail, KeepsTrail}
use Rattle.change_record.proofs.Exchanges.{after-after, left_by-after, back_tables-append, back_left-append, FitBack-append, ArePuts-append, FitsIn-left_by}

IsTrail-after : (changes : List Change) (t origin : Tables) (c : Change) → IsPut c → IsTrail changes t origin → IsTrail (changes ++ left_by t c ∷ []) (after t c) origin
IsTrail-after changes t origin c p trail =
    let P : Tables → Type 0 = λ u. FitBack changes u in
    let Q : List Change → Type 0 = λ l. ArePuts l in
    let left : back_left (changes ++ left_by t c ∷ []) (after t c) ≡ back_left changes t ++ c ∷ [] =
    back_left-append changes (left_by t c ∷ []) (after t c)
    ∙ ap (λ u. back_left changes u ++ left_by (after t c) (left_by t c) ∷ []) (after-after t c)
    ∙ ap (λ d. back_left changes t ++ d ∷ []) (left_by-after t c) in
    record {
      back = back_tables-append changes (left_by t c ∷ []) (after t c) ∙ ap (back_tables changes) (after-after t c) ∙ trail.back;
      fits = FitBack-append changes (left_by t c ∷ []) (after t c) (tt, FitsIn-left_by t c p) (subst P (sym (after-after t c)) trail.fits);
      puts = subst Q (sym left) (ArePuts-append (back_left changes t) (c ∷ []) trail.puts (p, tt));
    }

-- an exchange that has been turned and pushed
pub KeepsTrail-push : (changes now : List Change) (t u : Tables) (c left : Change) → IsPut c → left ≡ left_by t c → u ≡ after t c → now ≡ changes ++ left ∷ [] → KeepsTrail changes t now u
KeepsTrail-push changes now t u c left p e f g origin trail =
    let P : List Change → Type 0 = λ l. IsTrail l u origin in
    let Q : Tables → Type 0 = λ v. IsTrail (changes ++ left_by t c ∷ []) v origin in
    subst P (sym (g ∙ ap (λ d. changes ++ d ∷ []) e)) (subst Q (sym f) (IsTrail-after changes t origin c p trail))
