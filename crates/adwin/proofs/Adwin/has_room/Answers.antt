-- `Adwin::has_room` meets its contract. Assumes nothing.
use Rattle.std.proofs.Common.{◌≡◌, Bool, ◌&&◌, ltb, length, sym, ap, ◌∙◌, lt-ltb, arith}
use Rattle.adwin.specs.Settings.{limit, places}
use Rattle.adwin.proofs.Room.{room_is}
use Rattle.adwin.proofs.Adwin.has_room.Goals as goal

pub returns-then-self-lt-LIMIT : goal.returns-then-self-lt-LIMIT
returns-then-self-lt-LIMIT c =
    let a = c.args.self.now in
    let b : length a.buckets ≡ places = omega arith in
    let k : length a.classes ≡ places = omega arith in
    ap (λ (t : Bool). t && ltb a.count places) (sym (lt-ltb a.taken limit c.if-self-lt-LIMIT.true)) ∙ room_is a b k
