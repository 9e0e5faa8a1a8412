-- Lines one after another, and how long they are. Assumes nothing.
use Rattle.std.proofs.Common.{◌≡◌, ℕ, ◌+◌, ◌*◌, ◌^◌, ◌<◌, ◌≤◌, ◌⊎◌, ⊎_elim, List, [], ◌∷◌, ◌++◌, ℤ, length, length-append, append-nil, append_assoc, refl, sym, ap, ap₂, ◌∙◌, arith}
use Rattle.std.specs.Int.Signed.{mag}
use Rattle.drift.specs.declared.DriftReport.{DriftReport}
use Rattle.model.specs.declared.micro.MicroId.{MicroId}
use Rattle.text.specs.declared.text.Text.{Text}
use Rattle.text.specs.Ascii.{ascii}
use Rattle.text.specs.Text.{Added, Within}
use Rattle.text.specs.Laws.Pieces.{nothing, both, worded}
use Rattle.text.specs.Laws.Sizes.{piece, beside, number_within, integer_within}
use Rattle.families_lines.specs.Lines.{line_of, lines_of, last_line}

-- the lines so far, those of the creation numbers and labels that are left, and how long they may be
pub record Lined (t : Text) (ids : List MicroId) (labels : List ℤ) (ids_left : List MicroId) (labels_left : List ℤ) (u : Text) : Type 0 where
  pub done : List ℕ
  pub added : Added t done u
  pub left : done ++ lines_of ids_left labels_left ≡ lines_of ids labels
  pub within : length done + 43 * length ids_left ≤ 43 * length ids

pub no_lines :
    (t : Text) {ids ids_left : List MicroId} {labels labels_left : List ℤ} → ids_left ≡ ids → labels_left ≡ labels →
    Lined t ids labels ids_left labels_left t
no_lines t e f =
    record { done = []; added = nothing t; left = ap₂ lines_of e f; within = omega (arith, ap length e) }

pub lines_more :
    {t u v : Text} {ids ids_left rest : List MicroId} {labels labels_left more : List ℤ} (id : MicroId) (label : ℤ) →
    Lined t ids labels ids_left labels_left u →
    ids_left ≡ id ∷ rest →
    labels_left ≡ label ∷ more →
    Added u (line_of id label) v →
    Within (line_of id label) 43 →
    Lined t ids labels rest more v
unfolding lines_of
lines_more {rest = rest} {more = more} id label p e f q w =
    record {
      done = p.done ++ line_of id label;
      added = both p.added q;
      left = append_assoc p.done (line_of id label) (lines_of rest more) ∙ sym (ap₂ (λ (is : List MicroId) (ls : List ℤ). p.done ++ lines_of is ls) e f) ∙ p.left;
      within = omega (arith, length-append p.done (line_of id label), w.is, p.within, ap length e);
    }

-- and all of them at last
none_left : (ids : List MicroId) (labels : List ℤ) → (ids ≡ []) ⊎ (labels ≡ []) → lines_of ids labels ≡ []
unfolding lines_of
none_left [] labels h = refl
none_left (id ∷ ids) [] h = refl
none_left (id ∷ ids) (label ∷ labels) h = ⊎_elim (λ e. absurd (let q : ◌≡◌ {A = List MicroId} (id ∷ ids) [] = e in cc)) (λ e. absurd (let q : ◌≡◌ {A = List ℤ} (label ∷ labels) [] = e in cc)) h

pub all_lines :
    {t u : Text} {ids ids_left : List MicroId} {labels labels_left : List ℤ} →
    Lined t ids labels ids_left labels_left u →
    (ids_left ≡ []) ⊎ (labels_left ≡ []) →
    Added t (lines_of ids labels) u × Within (lines_of ids labels) (43 * length ids)
all_lines {ids_left = is} {labels_left = ls} p h =
    let e = sym (append-nil p.done) ∙ ap (λ (f : List ℕ). p.done ++ f) (sym (none_left is ls h)) ∙ p.left in
    (worded e p.added, record { is = omega (arith, ap length e, p.within) })

pub line_within : (id : MicroId) (label : ℤ) → id.0 < 2 ^ 64 → mag label < 2 ^ 63 → Within (line_of id label) 43
line_within id label h k = beside (beside (beside (number_within id.0 h) (piece (ascii " "))) (integer_within label k)) (piece (ascii "\n"))

pub last_within : (report : DriftReport) → report.alarms < 2 ^ 64 → report.window < 2 ^ 64 → Within (last_line report) 56
last_within report h k =
    beside
    (beside (beside (beside (piece (ascii "alarms ")) (number_within report.alarms h)) (piece (ascii " window "))) (number_within report.window k))
    (piece (ascii "\n"))
