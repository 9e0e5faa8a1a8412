-- How long figures and grids are. Assumes nothing.
use Rattle.std.specs.Prelude.{◌≡◌, ℕ, ◌+◌, ◌-◌, ◌*◌, ◌/◌, ◌%◌, ◌^◌, ◌<◌, ◌≤◌, Bool, true, false, cond, List, [], ◌∷◌, ◌==◌, is_nan, refl, Float}
use Rattle.std.proofs.Common.{sym, true≢false, div-lt_iff_lt-mul, arith, ltb-true}
use Rattle.std.specs.Float.{nan, inf, fin}
use Rattle.std.specs.Float.Ieee.{up, down, of_bits, lt, neg, to_unsigned}
use Rattle.std.specs.Float.Ieee.Fits.{down_pos}
use Rattle.float.specs.Rounded.{◌⊕◌, nought}
use Rattle.text.specs.Ascii.{ascii}
use Rattle.text.specs.Laws.Sizes.{of_either, piece, wider, beside, either, each_within, blanks_within, digits_within, number_within, right_within}
use Rattle.text.specs.Text.{Within}
use Rattle.picture_grid.specs.declared.grid.Plot.{Plot}
use Rattle.picture_grid.specs.declared.upward.Upward.{Upward}
use Rattle.picture_grid.specs.declared.upward.Upward.TheVariants.{BeatError, Amplitude}
use Rattle.picture_grid.specs.Figure.{half, limit, rounded_of, tenths, sized, figure_of}
use Rattle.picture_grid.specs.Upward.{low_of, step_of, title_of}
use Rattle.picture_grid.specs.Grid.{cell_text, line_text, border, sides, axis, border_text, row_text, rows_text, hidden_text, grid_text}

-- what is below 100,000 is cut to a number below it
pub cut_below : (x : Float) → lt x limit ≡ true → to_unsigned 64 x < 10 ^ 5
unfolding lt of_bits to_unsigned
cut_below nan h = omega arith
cut_below (inf true) h = omega arith
cut_below (inf false) h = absurd (true≢false (sym h))
cut_below (fin true m e) h = omega arith
cut_below (fin false m e) h =
    let u = ltb-true (m * up e * 1) (3125 * 2 ^ 5 * down e) h in
    let p : m * up e < 10 ^ 5 * down e = omega arith in
    let d : m * up e / down e < 10 ^ 5 = (div-lt_iff_lt-mul (down_pos e)).1 p in
    omega arith

rounded_below : (x : Float) → rounded_of x < 10 ^ 5
unfolding rounded_of
rounded_below x = go (lt (x ⊕ half) limit) refl
  where
    top : 99999 < 10 ^ 5
    top = omega arith

    low : (n : ℕ) → n < 10 ^ 5 → cond (lt nought (x ⊕ half)) n 0 < 10 ^ 5
    low n h = of_either (λ (k : ℕ). k < 10 ^ 5) (lt nought (x ⊕ half)) n 0 h (omega arith)

    go : (b : Bool) → lt (x ⊕ half) limit ≡ b → cond (lt nought (x ⊕ half)) (cond b (to_unsigned 64 (x ⊕ half)) 99999) 0 < 10 ^ 5
    go true e = low (to_unsigned 64 (x ⊕ half)) (cut_below (x ⊕ half) e)
    go false e = low 99999 top

-- a sign, four digits, a point and a digit
tenths_within : (width sign n : ℕ) → width ≤ 4 → n < 10 ^ 5 → Within (tenths width sign n) 7
tenths_within width sign n w h =
    let t : n / 10 < 10 ^ 4 = omega arith in
    let u : n % 10 < 10 ^ 1 = omega arith in
    beside (beside (right_within width sign (n / 10) 3 w t) (piece (ascii "."))) (digits_within 0 (n % 10) u)

sized_within : (width sign beyond : ℕ) (x : Float) → width ≤ 4 → Within (sized width sign beyond x) 8
sized_within width sign beyond x w =
    let o : 0 ≤ 1 = omega arith in
    beside (either (lt (x ⊕ half) limit) (wider o (piece [])) (piece (beyond ∷ []))) (tenths_within width sign (rounded_of x) w (rounded_below x))

pub figure_within : (width plus : ℕ) (x : Float) → width ≤ 4 → Within (figure_of width plus x) 8
unfolding figure_of
figure_within width plus x w =
    let n : width + 3 ≤ 8 = omega arith in
    either (is_nan x) (wider n (beside (blanks_within width) (piece (ascii "nan"))))
    (either (lt x nought) (sized_within width 45 60 (neg x) w) (sized_within width plus 62 x w))

line_within : (frame cells : List ℕ) (row : ℕ) → Within (line_text frame cells row) 63
line_within frame cells row = each_within (cell_text frame cells row) 1 (λ (i : ℕ). piece (cell_text frame cells row i)) 63

border_within : (cells : List ℕ) (row : ℕ) → Within (border_text cells row) 71
border_within cells row = beside (beside (piece (ascii "       ")) (line_within border cells row)) (piece (ascii "\n"))

-- the figures of the lines
lines_below : (up : Upward) (i : ℕ) → low_of up + (18 - i) * step_of up < 10 ^ 5
lines_below BeatError i = omega arith
lines_below Amplitude i = omega arith

row_within : (up : Upward) (cells : List ℕ) (i : ℕ) → Within (row_text up cells (18 - i)) 72
row_within up cells i =
    let w : 3 ≤ 4 = omega arith in
    beside
    (beside (beside (tenths_within 3 32 (low_of up + (18 - i) * step_of up) w (lines_below up i)) (piece (ascii " "))) (line_within sides cells (18 - i + 1)))
    (piece (ascii "\n"))

rows_within : (up : Upward) (cells : List ℕ) → Within (rows_text up cells) 1368
rows_within up cells = each_within (λ (i : ℕ). row_text up cells (18 - i)) 72 (row_within up cells) 19

hidden_within : (hidden : ℕ) → hidden < 2 ^ 64 → Within (hidden_text hidden) 38
hidden_within hidden h =
    let o : 0 ≤ 38 = omega arith in
    either (hidden == 0) (wider o (piece [])) (beside (beside (piece (ascii "not shown (nan): ")) (number_within hidden h)) (piece (ascii "\n")))

title_within : (up : Upward) → Within (title_of up) 17
title_within BeatError = piece (title_of BeatError)
title_within Amplitude = piece (title_of Amplitude)

pub grid_within : (up : Upward) (plot : Plot) → plot.hidden < 2 ^ 64 → Within (grid_text up plot) 1648
unfolding grid_text
grid_within up plot h =
    beside
    (beside
    (beside (beside (beside (title_within up) (border_within plot.cells 20)) (rows_within up plot.cells)) (border_within plot.cells 0))
    (piece axis))
    (hidden_within plot.hidden h)
