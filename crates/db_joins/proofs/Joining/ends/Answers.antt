-- `ends` meets its contract: an end that is not there is past those of which `strong` says anything. Assumes nothing.
use Rattle.std.proofs.Common.{◌≡◌, sym, ap, ◌∙◌, Bool, ◌&&◌, false, get_or}
use lib.Ieee.{le}
use mathlib.Core.List.{map}
use native.Mathlib.Omega.{arith}
use Rattle.model.specs.DbInsert.{id_of, faded_link}
use Rattle.db_joins.proofs.Pairing.{place_some, place_none, ends_are, lo_past, hi_past}
use Rattle.db_joins.proofs.Joining.ends.Goals.{then-is_strong, else-is_strong, then-is_strong-2, else-is_strong-2}
use Rattle.db_joins.proofs.Joining.ends.Goals as goal

pub returns-in_err-i : goal.returns-in_err-i
returns-in_err-i c =
    let a = c.args in
    let none = place_none a.self.now.micros.now a.l.now.lo (sym c.place_of.ensures ∙ c.in_err-i.was) in
    c.from_residual.ensures ∙ lo_past (map id_of a.self.now.micros.now) a.self.now.strong.now a.self.now.lambda a.self.now.t a.self.now.dense a.l.now (omega arith)

pub returns-in_err-j : goal.returns-in_err-j
returns-in_err-j c =
    let a = c.args in
    let none = place_none a.self.now.micros.now a.l.now.hi (sym c.place_of-2.ensures ∙ c.in_err-j.was) in
    c.from_residual-in_err-j.ensures ∙ hi_past (map id_of a.self.now.micros.now) a.self.now.strong.now a.self.now.lambda a.self.now.t a.self.now.dense a.l.now (omega arith)

pub returns : goal.returns
returns c =
    let a = c.args in
    let s = a.self.now.strong.now in
    let lasts : Bool = le a.self.now.dense (faded_link a.self.now.lambda a.self.now.t a.l.now) in
    let both : c.if-is_strong.value ≡ (c.is_strong.result && get_or s c.in_ok-j.j false) = elim c.if-is_strong.branch [
      | then-is_strong w ↦ rw w.if-is_strong.true (w.value-is ∙ w.is_strong-then-is_strong.ensures)
      | else-is_strong w ↦ rw w.if-is_strong.false (w.value-is ∙ w.if-is_strong.false)
    ] in
    let all : c.if-is_strong-2.joins ≡ (c.if-is_strong.value && lasts) = elim c.if-is_strong-2.branch [
      | then-is_strong-2 w ↦ rw w.if-is_strong-2.true (w.joins-is ∙ ap (le a.self.now.dense) w.faded.ensures)
      | else-is_strong-2 w ↦ rw w.if-is_strong-2.false (w.joins-is ∙ w.if-is_strong-2.false)
    ] in
    c.then_some.ensures
    ∙ ends_are (map id_of a.self.now.micros.now) s a.self.now.lambda a.self.now.t a.self.now.dense a.l.now c.in_ok-i.i c.in_ok-j.j
    (place_some a.self.now.micros.now a.l.now.lo c.in_ok-i.i (sym c.place_of.ensures ∙ c.in_ok-i.was))
    (place_some a.self.now.micros.now a.l.now.hi c.in_ok-j.j (sym c.place_of-2.ensures ∙ c.in_ok-j.was)) _
    (all ∙ ap (λ (b : Bool). b && lasts) (both ∙ ap (λ (b : Bool). b && get_or s c.in_ok-j.j false) c.is_strong.ensures))
