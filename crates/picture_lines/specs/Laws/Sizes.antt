-- How long the page of at most 64 micro-clusters is: the room takes it. Assumes nothing.
use Rattle.std.specs.Prelude.{ℕ, zero, suc, ◌+◌, ◌*◌, ◌^◌, ◌≤◌, ◌<◌, ◌≡◌, refl, Bool, true, false, cond, List, [], ◌∷◌, ◌++◌, ◌⊎◌, eqb, ltb, ℤ, length, get_or, set, Float}
use Rattle.std.proofs.Common.{sym, ap, ◌∙◌, inl, inr, ⊎_elim, le_refl, arith, lt-ltb, le-ltb, ne_eqb, length-append}
use Rattle.std.proofs.Math.Logic.{by_cases}
use Rattle.std.proofs.Math.Decide.{dec_lt, ℕ_discrete}
use Rattle.float.specs.Rounded.{◌⊗◌}
use Rattle.model.specs.Limits.{micros_most}
use Rattle.text.specs.Ascii.{ascii}
use Rattle.text.specs.Text.{room, each, Within}
use Rattle.text.specs.Laws.Sizes.{piece, wider, beside, either, each_within, number_within}
use Rattle.picture_grid.specs.declared.grid.Plot.{Plot}
use Rattle.picture_grid.specs.declared.upward.Upward.{Upward}
use Rattle.picture_grid.specs.declared.upward.Upward.TheVariants.{BeatError, Amplitude}
use Rattle.picture_grid.specs.Figure.{ten}
use Rattle.picture_grid.specs.Grid.{grid_text}
use Rattle.picture_grid.specs.Laws.Sizes.{figure_within, grid_within}
use Rattle.picture_lines.specs.declared.row.Row.{Row}
use Rattle.picture_lines.specs.Row.{letter_of, row_at}
use Rattle.picture_lines.specs.Words.{heading_of, line_of, line_in, lines_in, alarm_of, words_of}
use Rattle.picture_lines.specs.Plot.{place_of, is_hidden, over_of, plot_of}
use Rattle.picture_lines.specs.Picture.{legend, held_text, page_of}

-- a line: 65 bytes and four figures
line_within : (row : Row) → Within (line_of row) 97
unfolding line_of
line_within row =
    let three : 3 ≤ 4 = omega arith in
    let one : 1 ≤ 4 = omega arith in
    let heading : Within (heading_of row.mark) 9 =
    either (eqb row.mark 46) (piece (ascii "no family")) (beside (beside (piece (ascii "family ")) (piece (row.mark ∷ []))) (piece (ascii " ")))
    in
    let rate = beside (beside heading (piece (ascii "  rate "))) (figure_within 3 43 (row.rate ⊗ ten) three) in
    let amplitude = beside (beside rate (piece (ascii " s/d   amplitude "))) (figure_within 3 32 (row.amplitude ⊗ ten) three) in
    let error = beside (beside amplitude (piece (ascii " deg   beat error "))) (figure_within 1 32 row.beat_error one) in
    beside (beside (beside error (piece (ascii " ms   weight "))) (figure_within 3 32 (row.weight ⊗ ten) three)) (piece (ascii "\n"))

-- the letters are different, and none is the dot
record Letter (k : ℕ) : Type 0 where
  is : ((k < 26) × (letter_of k ≡ 65 + k)) ⊎ (((26 ≤ k) × (k < 52) × (letter_of k ≡ 71 + k)) ⊎ ((52 ≤ k) × (letter_of k ≡ 35)))

letter_is : (k : ℕ) → Letter k
letter_is k = by_cases (dec_lt k 26)
    (λ h. record { is = inl (h, ap (λ (t : Bool). cond t (65 + k) (cond (ltb k 52) (71 + k) 35)) (lt-ltb k 26 h)) })
    (λ h.
    let g : 26 ≤ k = omega arith in
    let e : letter_of k ≡ cond (ltb k 52) (71 + k) 35 = ap (λ (t : Bool). cond t (65 + k) (cond (ltb k 52) (71 + k) 35)) (le-ltb k 26 g) in
    by_cases (dec_lt k 52)
    (λ j. record { is = inr (inl (g, j, e ∙ ap (λ (t : Bool). cond t (71 + k) 35) (lt-ltb k 52 j))) })
    (λ j. let i : 52 ≤ k = omega arith in record { is = inr (inr (i, e ∙ ap (λ (t : Bool). cond t (71 + k) 35) (le-ltb k 52 i))) }))

no_dot : (k : ℕ) → letter_of k ≡ 46 → ⊥
no_dot k e = ⊎_elim (λ a. omega (arith, a.1)) (⊎_elim (λ b. omega (arith, b.0, b.2)) (λ d. omega (arith, d.1))) (letter_is k).is

different : (k m : ℕ) → k < m → m < 53 → letter_of k ≡ letter_of m → ⊥
different k m h j e =
    ⊎_elim
    (λ a. ⊎_elim (λ x. omega (arith, a.1, x.1)) (⊎_elim (λ y. omega (arith, a.0, a.1, y.0, y.2)) (λ z. omega (arith, a.1, z.1))) (letter_is m).is)
    (⊎_elim
    (λ b. ⊎_elim (λ x. omega (arith, b.0, x.0)) (⊎_elim (λ y. omega (arith, b.2, y.2)) (λ z. omega (arith, b.0, b.2, z.1))) (letter_is m).is)
    (λ d. omega (arith, d.0)))
    (letter_is k).is

-- a micro-cluster's line has no bytes, or its mark
in_or_not : (mark : ℕ) (row : Row) → (length (line_in mark row) ≡ 0) ⊎ ((row.mark ≡ mark) × (length (line_in mark row) ≤ 97))
in_or_not mark row = by_cases (ℕ_discrete row.mark mark)
    (λ e. let o : 0 ≤ 97 = omega arith in inr (e, (either (eqb row.mark mark) (line_within row) (wider o (piece []))).is))
    (λ n. inl (ap (λ (t : Bool). length (cond t (line_of row) [])) (ne_eqb row.mark mark n)))

abbrev in_families : Row → ℕ → List ℕ
in_families row m = each (λ (k : ℕ). line_in (letter_of k) row) m

-- it is in one of the first m families
record Found (row : Row) (m : ℕ) : Type 0 where
  family : ℕ
  below : family < m
  mark : row.mark ≡ letter_of family
  within : length (in_families row m) ≤ 97

family_more :
    (row : Row) (m : ℕ) → m < 53 → (length (in_families row m) ≡ 0) ⊎ Found row m →
    (length (in_families row (suc m)) ≡ 0) ⊎ Found row (suc m)
unfolding each
family_more row m h o =
    let l : length (in_families row (suc m)) ≡ length (in_families row m) + length (line_in (letter_of m) row) =
    length-append (in_families row m) (line_in (letter_of m) row)
    in
    let n : m < suc m = omega arith in
    ⊎_elim
    (λ (z : length (line_in (letter_of m) row) ≡ 0).
    ⊎_elim (λ (y : length (in_families row m) ≡ 0). let w : length (in_families row (suc m)) ≡ 0 = omega (arith, l, y, z) in inl w)
    (λ (f : Found row m).
    let b : f.family < suc m = omega (arith, f.below) in
    let w : length (in_families row (suc m)) ≤ 97 = omega (arith, l, z, f.within) in
    inr (record { family = f.family; below = b; mark = f.mark; within = w }))
    o)
    (λ (s : (row.mark ≡ letter_of m) × (length (line_in (letter_of m) row) ≤ 97)).
    ⊎_elim
    (λ (y : length (in_families row m) ≡ 0).
    let w : length (in_families row (suc m)) ≤ 97 = omega (arith, l, y, s.1) in
    inr (record { family = m; below = n; mark = s.0; within = w }))
    (λ (f : Found row m). absurd (different f.family m f.below h (sym f.mark ∙ s.0)))
    o)
    (in_or_not (letter_of m) row)

-- in at most one
at_most_one : (row : Row) (m : ℕ) → m ≤ 53 → (length (in_families row m) ≡ 0) ⊎ Found row m
unfolding each
at_most_one row zero h = inl refl
at_most_one row (suc m) h = family_more row m (omega arith) (at_most_one row m (omega arith))

-- or in none, which is told at the end
once : (row : Row) (m : ℕ) → m ≤ 53 → length (in_families row m) + length (line_in 46 row) ≤ 97
once row m h =
    ⊎_elim
    (λ (y : length (in_families row m) ≡ 0).
    let o : 0 ≤ 97 = omega arith in
    let w : Within (line_in 46 row) 97 = either (eqb row.mark 46) (line_within row) (wider o (piece [])) in
    omega (arith, y, w.is))
    (λ (f : Found row m).
    ⊎_elim (λ (z : length (line_in 46 row) ≡ 0). omega (arith, f.within, z))
    (λ (s : (row.mark ≡ 46) × (length (line_in 46 row) ≤ 97)). absurd (no_dot f.family (sym f.mark ∙ s.0)))
    (in_or_not 46 row))
    (at_most_one row m h)

each_both : (f g : ℕ → List ℕ) (m : ℕ) → length (each (λ (k : ℕ). f k ++ g k) m) ≡ length (each f m) + length (each g m)
unfolding each
each_both f g zero = refl
each_both f g (suc m) =
    omega (
      arith,
      length-append (each (λ (k : ℕ). f k ++ g k) m) (f m ++ g m),
      length-append (f m) (g m),
      length-append (each f m) (f m),
      length-append (each g m) (g m),
      each_both f g m,
    )

-- so n micro-clusters have no more than n lines
lines_within :
    (at : ℕ → Row) (m : ℕ) → m ≤ 53 → (n : ℕ) →
    length (each (λ (k : ℕ). lines_in at n (letter_of k)) m) + length (lines_in at n 46) ≤ 97 * n
unfolding each
lines_within at m h zero = omega (arith, (each_within (λ (k : ℕ). []) 0 (λ (i : ℕ). piece []) m).is)
lines_within at m h (suc n) =
    let e :
    length (each (λ (k : ℕ). lines_in at (suc n) (letter_of k)) m) ≡ length (each (λ (k : ℕ). lines_in at n (letter_of k)) m) + length (in_families (at n) m)
    =
    each_both (λ (k : ℕ). lines_in at n (letter_of k)) (λ (k : ℕ). line_in (letter_of k) (at n)) m
    in
    let d : length (lines_in at (suc n) 46) ≡ length (lines_in at n 46) + length (line_in 46 (at n)) = length-append (lines_in at n 46) (line_in 46 (at n)) in
    omega (arith, e, d, once (at n) m h, lines_within at m h n)

alarm_within : (alarms : ℕ) → alarms < 2 ^ 64 → Within (alarm_of alarms) 48
alarm_within alarms h =
    let o : 29 ≤ 48 = omega arith in
    let t : 6 ≤ 7 = omega arith in
    either (eqb alarms 0) (wider o (piece (ascii "the drift alarm did not ring\n")))
    (beside (beside (piece (ascii "the drift alarm rang ")) (number_within alarms h))
    (either (eqb alarms 1) (wider t (piece (ascii " time\n"))) (piece (ascii " times\n"))))

-- a micro-cluster is counted or marked
module _ (plot : Plot) (place mark : ℕ) where
  abbrev told : Bool → Plot
  told hidden =
      cond hidden (record { cells = plot.cells; hidden = plot.hidden + 1 }) (record { cells = set plot.cells place mark; hidden = plot.hidden })

  one_more : (b : Bool) → (told b).hidden ≤ plot.hidden + 1
  one_more true = omega arith
  one_more false = omega arith

-- no more are hidden than there are
hidden_few : (up : Upward) (at : ℕ → Row) (n : ℕ) → (plot_of up at n).hidden ≤ n
unfolding plot_of
hidden_few up at zero = omega arith
hidden_few up at (suc n) =
    let m : (plot_of up at (suc n)).hidden ≤ (plot_of up at n).hidden + 1 =
    one_more (plot_of up at n) (place_of up (at n)) (over_of (get_or (plot_of up at n).cells (place_of up (at n)) 0) (at n).mark) (is_hidden up (at n))
    in
    omega (arith, m, hidden_few up at n)

module _ (at : ℕ → Row) (n alarms : ℕ) (few : n ≤ micros_most) (h : alarms < 2 ^ 64) where
  abbrev families : List ℕ
  families = each (λ (k : ℕ). lines_in at n (letter_of k)) 53

  words_within : Within (words_of at n alarms) 6256
  words_within =
      let m : 53 ≤ 53 = le_refl 53 in
      let l : length families + length (lines_in at n 46) ≤ 97 * n = lines_within at 53 m n in
      let k : length (families ++ lines_in at n 46) ≤ 6208 = omega (arith, l, length-append families (lines_in at n 46)) in
      let w : Within (families ++ lines_in at n 46) 6208 = record { is = k } in
      beside w (alarm_within alarms h)

  drawn_within : (up : Upward) → Within (grid_text up (plot_of up at n)) 1648
  drawn_within up = let k : (plot_of up at n).hidden < 2 ^ 64 = omega (arith, hidden_few up at n) in grid_within up (plot_of up at n) k

  held_within : Within (held_text at n alarms) room
  held_within =
      let k : 6256 + 1648 + 1648 + length legend ≤ room = omega arith in
      wider k (beside (beside (beside words_within (drawn_within BeatError)) (drawn_within Amplitude)) (piece legend))

-- a page is never cut
pub page_within :
    (n : ℕ) (centres weights : List Float) (labels : List ℤ) (alarms : ℕ) → n ≤ micros_most → alarms < 2 ^ 64 →
    Within (page_of n centres weights labels alarms) room
page_within n centres weights labels alarms few h =
    let k : 19 + 48 ≤ room = omega arith in
    either (eqb n 0) (wider k (beside (piece (ascii "no reading is held\n")) (alarm_within alarms h)))
    (held_within (row_at centres weights labels) n alarms few h)
