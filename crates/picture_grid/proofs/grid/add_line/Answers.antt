-- `add_line` meets its contract. Assumes nothing.
use Rattle.std.proofs.Common.{◌≡◌, ℕ, ◌*◌, [], ◌∷◌, length, drop, sym, ap, ap₂, ◌∙◌, length-drop, arith, rules}
use Rattle.std.proofs.lemmas.List.{get_or-drop, length_push}
use Rattle.std.proofs.lemmas.Slice.{between_to_end}
use Rattle.std.proofs.lemmas.Slice.Zip.{zip_turn, zip_end}
use Rattle.text.specs.Laws.Pieces.{first, more, ended, worded}
use Rattle.picture_grid.specs.Grid.{cell_text, framed}
use Rattle.picture_grid.proofs.grid.add_line.Goals as goal

pub loop-frame-init : goal.loop-frame-init
loop-frame-init c = first (cell_text c.args.frame.now c.args.cells.now c.args.row) c.args.text.now

pub loop-frame-preserved : goal.loop-frame-preserved
loop-frame-preserved c =
    let cells = c.args.cells.now in
    let row = c.args.row in
    let i = length c.loop-frame.yielded in
    let t = zip_turn c.args.frame.now (drop (row * 63) cells) c.loop-frame.yielded c.into_iter-frame-iterator.result c.loop-frame.frame-iterator c.next.new.self c.next.result (search rules) (search (rules, between_to_end cells (c.args.row * 63) (length cells) (omega arith))) c.loop-frame.yielded_by (c.in-Some.frame, c.in-Some.mark) c.in-Some.is c.next.ensures.steps in
    let cell : c.framed.result ∷ [] ≡ cell_text c.args.frame.now cells row i =
    ap (λ (m : ℕ). m ∷ []) (c.framed.ensures ∙ ap₂ framed (t.2 0) (t.3 0 ∙ get_or-drop (row * 63) cells i 0))
    in
    ended (cell_text c.args.frame.now cells row) (sym (length_push c.loop-frame.yielded (c.in-Some.frame, c.in-Some.mark)))
    (more (cell_text c.args.frame.now cells row) i c.loop-frame.invariant (worded cell c.add_byte.ensures))

pub returns : goal.returns
returns c =
    let cells = c.args.cells.now in
    let at = c.args.row * 63 in
    let n = zip_end c.args.frame.now (drop at cells) c.loop-frame.yielded c.into_iter-frame-iterator.result c.loop-frame.frame-iterator c.next.new.self c.next.result (search rules) (search (rules, between_to_end cells (c.args.row * 63) (length cells) (omega arith))) c.loop-frame.yielded_by c.in-None.is c.next.ensures.steps in
    ended (cell_text c.args.frame.now cells c.args.row) (omega (arith, n, length-drop at cells)) c.loop-frame.invariant
