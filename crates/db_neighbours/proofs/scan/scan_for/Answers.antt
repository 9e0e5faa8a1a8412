-- `scan_for` meets its contract. Assumes nothing.
use Rattle.std.proofs.Common.{rules, ◌≡◌, ℕ, ◌≤◌, min, List, map, length, take, refl, sym, ap, ◌∙◌, arith, length-take, length-take-le, Float}
use Rattle.std.proofs.lemmas.List.{take_all}
use mathlib.Core.List.{map-map}
use Rattle.lists.specs.Retain.{retain}
use Rattle.lists.specs.Laws.Maps.{map_length}
use Rattle.lists.specs.Laws.Rest.{cut_take, take_min}
use Rattle.feature.specs.Feature.{max_dim}
use Rattle.db_micro.specs.Held.{held, cut_to}
use Rattle.model.specs.Limits.{micros_most}
use Rattle.model.specs.Body.{distance_to}
use Rattle.model.specs.declared.micro.DbMicro.{DbMicro}
use Rattle.model.specs.DbInsert.{id_of, is_neighbour, least_of}
use Rattle.db_neighbours.specs.declared.scan.Scan.{Scan}
use Rattle.db_neighbours.specs.Near.{distances_to}
use Rattle.db_neighbours.specs.Laws.Views.{neighbours_view}
use Rattle.db_neighbours.specs.Scanned.{scan_told, scan_of}
use Rattle.db_neighbours.proofs.scan.scan_for.Goals as goal

-- as many as are taken, where there are so many places
counts : {A : Type 0} (k : ℕ) (l held : List A) → k ≤ length l → take k l ≡ held → k ≡ length held
counts k l held few e = sym (length-take-le k l few) ∙ ap length e

scanned :
    (r : Float) (x : List Float) (ms : List DbMicro) (n : ℕ) (s : Scan) →
    take n s.distances ≡ distances_to x ms →
    s.nearest ≡ least_of (take n s.distances) →
    take s.count s.ids ≡ map id_of (retain (is_neighbour r x) ms) →
    s.count ≤ length s.ids →
    scan_told n s ≡ scan_of r x ms
scanned r x ms n s measured nearest near few =
    let count : s.count ≡ length (retain (is_neighbour r x) ms) = counts s.count s.ids _ few near ∙ map_length id_of (retain (is_neighbour r x) ms) in
    rw (nearest, measured, near, count)

pub returns : goal.returns
returns c =
    let a = c.args in
    let x = a.x.now in
    let dim : ℕ = min a.dim max_dim in
    let n : ℕ = length a.micros.now in
    let ms : List DbMicro = take c.min.result a.micros.now in
    let all : List DbMicro = take micros_most a.micros.now in
    let ds = c.each-distances.result in
    let far : DbMicro → Float = λ (m : DbMicro). distance_to x (cut_to dim m).body in
    let same : ms ≡ all = ap (λ (k : ℕ). take k a.micros.now) (omega (arith, c.min.ensures)) ∙ take_min micros_most n a.micros.now refl in
    let size : length ms ≡ min n micros_most = length-take c.min.result a.micros.now ∙ omega (arith, c.min.ensures) in
    let few : length ms ≤ micros_most = omega (arith, size) in
    let measured : take (length ms) ds ≡ map far ms = c.each-distances.ensures far (λ m v k. search rules) ∙ ap (map far) (take_all micros_most ms few) in
    let cut : take (length ms) ds ≡ take n ds = cut_take (length ms) n micros_most ds size (omega arith) in
    scanned a.r x (held dim micros_most a.micros.now) n _
    (sym cut ∙ measured ∙ ap (map far) same ∙ sym (map-map (λ (m : DbMicro). distance_to x m.body) (cut_to dim) all))
    (c.least-nearest.ensures ∙ ap least_of cut)
    (c.near_ids-count.ensures.near far measured ∙ neighbours_view a.r x dim ms ∙ ap (λ (l : List DbMicro). map id_of (retain (is_neighbour a.r x) (map (cut_to dim) l))) same)
    (omega (arith, c.near_ids-count.ensures.few, few))
