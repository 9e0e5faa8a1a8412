-- A grid as text: 19 lines of 61 cells and a frame around them, rate to the right, another figure upwards. Definitions only.
use Rattle.std.specs.Prelude.{ℕ, ◌+◌, ◌-◌, ◌*◌, cond, List, [], ◌∷◌, ◌++◌, ◌==◌, slice_index}
use Rattle.text.specs.Ascii.{ascii}
use Rattle.text.specs.Decimal.{decimal}
use Rattle.text.specs.Text.{each}
use Rattle.picture_grid.specs.declared.grid.Plot.{Plot}
use Rattle.picture_grid.specs.declared.upward.Upward.{Upward}
use Rattle.picture_grid.specs.Figure.{tenths}
use Rattle.picture_grid.specs.Upward.{low_of, step_of, title_of}

-- a cell without a mark shows the frame
abbrev pub framed : (frame mark : ℕ) → ℕ
framed frame mark = cond (mark == 32) frame mark

abbrev pub cell_text : (frame cells : List ℕ) (row i : ℕ) → List ℕ
cell_text frame cells row i = framed (slice_index frame i) (slice_index cells (row * 63 + i)) ∷ []

abbrev pub line_text : (frame cells : List ℕ) (row : ℕ) → List ℕ
line_text frame cells row = each (cell_text frame cells row) 63

-- the frame's top and bottom, its sides, and what stands below it
abbrev pub border : List ℕ
border = ascii "+|--------------|--------------|--------------|--------------|+"

abbrev pub sides : List ℕ
sides = ascii "|                                                             |"

abbrev pub axis : List ℕ
axis = ascii "       -60            -30             0             +30            +60  rate (s/d)\n"

abbrev pub border_text : (cells : List ℕ) (row : ℕ) → List ℕ
border_text cells row =
    ascii "       " ++ line_text border cells row ++ ascii "\n"

abbrev pub row_text : Upward → (cells : List ℕ) (row : ℕ) → List ℕ
row_text up cells row =
    tenths 3 32 (low_of up + row * step_of up)
    ++ ascii " "
    ++ line_text sides cells (row + 1)
    ++ ascii "\n"

-- from the top down
abbrev pub rows_text : Upward → (cells : List ℕ) → List ℕ
rows_text up cells = each (λ (i : ℕ). row_text up cells (18 - i)) 19

abbrev pub hidden_text : ℕ → List ℕ
hidden_text hidden = cond (hidden == 0) [] (ascii "not shown (nan): " ++ decimal hidden ++ ascii "\n")

unfoldable pub grid_text : Upward → Plot → List ℕ
grid_text up plot =
    title_of up
    ++ border_text plot.cells 20
    ++ rows_text up plot.cells
    ++ border_text plot.cells 0
    ++ axis
    ++ hidden_text plot.hidden
