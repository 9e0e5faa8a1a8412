-- `DbStream::insert` meets its contract. Assumes nothing.
use Rattle.std.proofs.Common.{◌≡◌, rules, true, false, List, Float, length, take, ap, subst, sym, ◌∙◌, refl, arith}
use Rattle.model.specs.Limits.{micros_most}
use Rattle.model.specs.Answers.{is_done, Insertion}
use Rattle.model.specs.Dbstream.{tick_of}
use Rattle.model.specs.Laws.Insert.{point_is, taken_asks}
use Rattle.dbstream.specs.Inside.Placed.{placed_by, told_of}
use Rattle.dbstream.specs.View.{view}
use Rattle.model.proofs.Laws.Numbers.{error_refuses}
use Rattle.dbstream.proofs.Inserts.{Met, scanned, inserted}
use Rattle.dbstream.proofs.stream.DbStream.insert.Goals.{After-scan_for-scan}
use Rattle.dbstream.proofs.stream.DbStream.insert.Goals as goal

-- the array has the coordinates of a point that has dim of them
coordinates : (c : goal.After-scan_for-scan) → length c.args.x.now ≡ c.dim-dim.result → take c.dim-dim.result c.padded-point.result ≡ c.args.x.now
coordinates c h = point_is c.args.x.now c.padded-point.result c.dim-dim.result h (omega (arith, c.dim-dim.ensures)) c.padded-point.ensures

met : (c : goal.After-scan_for-scan) → length c.args.x.now ≡ c.dim-dim.result → Met c.args.self.now c.args.x.now c.dim-dim.result c.scan_for-scan.result
met c h =
    let s = c.args.self.now in
    let places : length s.micros ≡ micros_most = search rules in
    let measured : length c.scan_for-scan.result.distances ≡ micros_most = search rules in
    subst (λ (z : List Float). Met s z c.dim-dim.result c.scan_for-scan.result) (coordinates c h)
    (scanned s _ c.dim-dim.result c.scan_for-scan.result c.dim-dim.ensures places measured c.held.result.now c.held.ensures.value c.scan_for-scan.ensures)

pub returns-in_err-insertion_asked-clause-told : goal.returns-in_err-insertion_asked-clause-told
returns-in_err-insertion_asked-clause-told c =
    let s = c.args.self.now in
    let scanned = (goal.at.returns-in_err-insertion_asked-clause-told c).After-scan_for-scan in
    let same : c.from_residual.result ≡ c.insertion_asked.result = search rules in
    let refused : is_done c.insertion_asked.result ≡ false = ap is_done c.in_err-insertion_asked.was ∙ error_refuses _ in
    ap (λ (a : Insertion). record { answer = a; stream = view s }) same
    ∙ inserted c.dim-dim.ensures (met scanned) c.insertion_asked.result c.has_place-place.result
    c.has_place-place.ensures c.insertion_asked.ensures false (view s) (sym refused) refl

pub returns-clause-told : goal.returns-clause-told
returns-clause-told c =
    let s = c.args.self.now in
    let scan = c.scan_for-scan.result in
    let scanned = (goal.at.returns-clause-told c).After-scan_for-scan in
    let done : is_done c.insertion_asked.result ≡ true = ap is_done c.in_ok-insertion_asked.was in
    ap (λ (a : Insertion). record { answer = a; stream = view c.take.new.self }) (sym c.in_ok-insertion_asked.was)
    ∙ inserted c.dim-dim.ensures (met scanned) c.insertion_asked.result c.has_place-place.result
    c.has_place-place.ensures c.insertion_asked.ensures true (view c.take.new.self) (sym done)
    (c.take.ensures ∙ ap (λ (z : List Float). tick_of (placed_by s scan z) (told_of s scan z))
    (coordinates scanned (taken_asks c.dim-dim.result _ s.t c.has_place-place.result c.insertion_asked.result c.insertion_asked.ensures done).0))
