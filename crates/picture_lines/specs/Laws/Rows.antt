-- What is drawn goes by the rows below n alone. Assumes nothing.
use Rattle.std.proofs.Common.{◌≡◌, ℕ, zero, suc, ◌<◌, ◌≤◌, List, [], ◌++◌, ℤ, ◌+◌, ◌*◌, cond, eqb, pos, min, get_or, length, take, map, refl, ap, ap₂, ◌∙◌, arith, length-take}
use Rattle.std.proofs.lemmas.List.{get_or-take}
use Rattle.std.proofs.lemmas.List.FromFn.{get_or-map-range_with_len, length-map-range_with_len}
use Rattle.std.specs.List.{range_with_len}
use lib.Ieee.{Float, nan}
use Rattle.model.specs.Limits.{micros_most}
use Rattle.text.specs.Text.{each}
use Rattle.picture_grid.specs.declared.grid.Plot.{Plot}
use Rattle.picture_grid.specs.declared.upward.Upward.{Upward}
use Rattle.picture_grid.specs.declared.upward.Upward.TheVariants.{BeatError, Amplitude}
use Rattle.picture_grid.specs.Grid.{grid_text}
use Rattle.picture_lines.specs.declared.row.Row.{Row}
use Rattle.picture_lines.specs.Row.{letter_of, mark_of, row_at, row_in}
use Rattle.picture_lines.specs.Words.{line_in, lines_in, words_of, alarm_of}
use Rattle.picture_lines.specs.Plot.{marked, plot_of}
use Rattle.picture_lines.specs.Picture.{held_text, legend, page_of}
use Rattle.text.specs.Ascii.{ascii}

each_same : (f g : ℕ → List ℕ) (n : ℕ) → ((i : ℕ) → i < n → f i ≡ g i) → each f n ≡ each g n
unfolding each
each_same f g zero h = refl
each_same f g (suc n) h = ap₂ ◌++◌ (each_same f g n (λ (i : ℕ) (k : i < n). h i (omega arith))) (h n (omega arith))

module _ (at bt : ℕ → Row) where
  lines_same : (n mark : ℕ) → ((i : ℕ) → i < n → at i ≡ bt i) → lines_in at n mark ≡ lines_in bt n mark
  lines_same n mark h =
      each_same (λ (i : ℕ). line_in mark (at i)) (λ (i : ℕ). line_in mark (bt i)) n (λ (i : ℕ) (k : i < n). ap (line_in mark) (h i k))

  words_same : (n alarms : ℕ) → ((i : ℕ) → i < n → at i ≡ bt i) → words_of at n alarms ≡ words_of bt n alarms
  words_same n alarms h =
      ap₂ (λ (families weak : List ℕ). families ++ weak ++ alarm_of alarms)
      (each_same (λ (k : ℕ). lines_in at n (letter_of k)) (λ (k : ℕ). lines_in bt n (letter_of k)) 53 (λ (k : ℕ) (b : k < 53). lines_same n (letter_of k) h))
      (lines_same n 46 h)

  plot_same : (up : Upward) (n : ℕ) → ((i : ℕ) → i < n → at i ≡ bt i) → plot_of up at n ≡ plot_of up bt n
  unfolding plot_of
  plot_same up zero h = refl
  plot_same up (suc n) h = ap₂ (marked up) (plot_same up n (λ (i : ℕ) (k : i < n). h i (omega arith))) (h n (omega arith))

  held_same : (n alarms : ℕ) → ((i : ℕ) → i < n → at i ≡ bt i) → held_text at n alarms ≡ held_text bt n alarms
  held_same n alarms h =
      ap₂ (λ (words grid : List ℕ). words ++ grid ++ grid_text Amplitude (plot_of Amplitude at n) ++ legend) (words_same n alarms h)
      (ap (grid_text BeatError) (plot_same BeatError n h))
      ∙ ap (λ (p : Plot). words_of bt n alarms ++ grid_text BeatError (plot_of BeatError bt n) ++ grid_text Amplitude p ++ legend)
      (plot_same Amplitude n h)

-- the first n of all rows
pub held_rows :
    (centres weights : List Float) (labels : List ℤ) (all : List Row) (n alarms : ℕ) →
    n ≤ micros_most →
    all ≡ map (row_at centres weights labels) (range_with_len 0 micros_most) →
    held_text (row_in (take n all)) (length (take n all)) alarms ≡ held_text (row_at centres weights labels) n alarms
held_rows centres weights labels all n alarms few e =
    let f = row_at centres weights labels in
    let l : length (take n all) ≡ n = omega (arith, length-take n all, ap length e, length-map-range_with_len f 0 micros_most) in
    ap (λ (k : ℕ). held_text (row_in (take n all)) k alarms) l
    ∙ held_same (row_in (take n all)) f n alarms (λ (i : ℕ) (h : i < n).
    get_or-take n all i (row_in [] 0) h ∙ ap (λ (rows : List Row). row_in rows i) e ∙ get_or-map-range_with_len f 0 micros_most i i (row_in [] 0) (omega arith) (omega arith))

-- labels past n are not looked at
pub page_first :
    (centres weights : List Float) (labels : List ℤ) (n alarms : ℕ) →
    n ≤ length labels →
    page_of (min (length (take n labels)) micros_most) centres weights (take n labels) alarms ≡ page_of (min n micros_most) centres weights labels alarms
page_first centres weights labels n alarms h =
    let l : length (take n labels) ≡ n = omega (arith, length-take n labels) in
    ap (λ (k : ℕ). page_of (min k micros_most) centres weights (take n labels) alarms) l
    ∙ ap (λ (t : List ℕ). cond (eqb (min n micros_most) 0) (ascii "no reading is held\n" ++ alarm_of alarms) t)
    (held_same (row_at centres weights (take n labels)) (row_at centres weights labels) (min n micros_most) alarms
    (λ (i : ℕ) (k : i < min n micros_most). let j : i < n = omega arith in ap (row_by i) (get_or-take n labels i (pos 0) j)))
  where
    row_by : ℕ → ℤ → Row
    row_by i label =
        record {
          rate = get_or centres (i * 3) nan;
          amplitude = get_or centres (i * 3 + 1) nan;
          beat_error = get_or centres (i * 3 + 2) nan;
          weight = get_or weights i nan;
          mark = mark_of label;
        }
