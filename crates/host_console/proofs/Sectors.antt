-- A sector that shows what it has prints what it has.
use Rattle.std.proofs.Common.{◌≡◌, ℕ, List, ◌∷◌, ◌++◌, Option, None, Some, Bool, false, cond, codes, sym, ap, ◌∙◌, le-leb}
use Rattle.std.proofs.lemmas.Bool.{lt-leb}
use Rattle.std.specs.FinMap as blocks
use Rattle.plain.specs.Keeper.{State, machine_of}
use Rattle.std.specs.Fmt.{decimal}
use Rattle.sector_text.specs.Hex.{hex_of}
use Rattle.plain.specs.declared.view.SectorView.{SectorView}
use Rattle.plain.specs.declared.view.SectorView.TheVariants as content
use Rattle.host_console.specs.Printed.{IsContent, shown_text, sector_text}

-- the text of a sector, by whether it is past the image, and what the overlay has
abbrev text_by : ℕ → Bool → Option (List ℕ) → List ℕ
text_by number past block =
    codes "sector " ++ (decimal number ++ 32 ∷ cond past (codes "none") (elim block [ None ↦ codes "base" | Some block ↦ codes "overlay " ++ hex_of block ]))

pub content_shown : (k : State) (number : ℕ) (shown : SectorView) → IsContent k number shown → shown_text number shown ≡ sector_text k number
content_shown k number content.Outside h =
    sym (ap (λ b. text_by number b (blocks.get (machine_of k).overlay number)) (le-leb k.limits.sectors number h))
content_shown k number content.Base h =
    sym (ap (λ b. text_by number b (blocks.get (machine_of k).overlay number)) (lt-leb k.limits.sectors number h.0) ∙ ap (text_by number false) h.1)
content_shown k number (content.Stored block) h =
    sym (ap (λ b. text_by number b (blocks.get (machine_of k).overlay number)) (lt-leb k.limits.sectors number h.0) ∙ ap (text_by number false) h.1)
