-- `Adwin::take` meets its contract. Assumes nothing.
use Rattle.adwin.proofs.Updates.{Pushed, unsearched, searched}
use Rattle.adwin.proofs.Room.{has_place}
use Rattle.adwin.specs.Laws.Cases.{not_finite, no_room}
use Rattle.adwin.specs.Settings.{places}
use Rattle.std.proofs.Common.{◌≡◌, length, sym, ap, ◌∙◌, arith}
use Rattle.adwin.specs.Buckets.{push_of}
use Rattle.adwin.specs.View.{held_of, view}
use Rattle.adwin.specs.Inside.Lists.{with_held}
use Rattle.adwin_buckets.specs.declared.bucket.Bucket.{Bucket}
use Rattle.adwin.proofs.Adwin.take.Goals.{After-push_bucket}
use Rattle.adwin.proofs.Adwin.take.Goals as goal

-- what is known once the bucket is pushed
pushed : (c : goal.After-push_bucket) → Pushed c.args.self.now c.args.value c.push_bucket.new.self
pushed c =
    let a = c.args.self.now in
    record {
      finite = sym c.is_finite.ensures ∙ c.if-not-is_finite.false;
      room = sym c.has_room.ensures ∙ c.if-not-has_room.false;
      held = c.push_bucket.ensures.1 ∙ ap (λ (b : Bucket). with_held (view a) (push_of (held_of a) b)) c.single.ensures;
    }

pub returns-then-not-is_finite-clause-window_after : goal.returns-then-not-is_finite-clause-window_after
returns-then-not-is_finite-clause-window_after c =
    not_finite (view c.args.self.now) c.args.value (sym c.is_finite.ensures ∙ c.if-not-is_finite.true)

pub returns-then-not-has_room-clause-window_after : goal.returns-then-not-has_room-clause-window_after
returns-then-not-has_room-clause-window_after c =
    no_room (view c.args.self.now) c.args.value (sym c.is_finite.ensures ∙ c.if-not-is_finite.false)
    (sym c.has_room.ensures ∙ c.if-not-has_room.true)

pub push_bucket-requires : goal.push_bucket-requires
push_bucket-requires c =
    let a = c.args.self.now in
    let b : length a.buckets ≡ places = omega arith in
    let k : length a.classes ≡ places = omega arith in
    has_place a b k (sym c.has_room.ensures ∙ c.if-not-has_room.false)

pub returns-then-self-clause-window_after : goal.returns-then-self-clause-window_after
returns-then-self-clause-window_after c =
    rw c.variance_with-self.ensures (unsearched _ _ _ (pushed (goal.at.returns-then-self-clause-window_after c).After-push_bucket) c.if-self.true)

pub returns-clause-window_after : goal.returns-clause-window_after
returns-clause-window_after c =
    c.shrink.ensures ∙ rw c.variance_with-self.ensures (searched _ _ _ (pushed (goal.at.returns-clause-window_after c).After-push_bucket) c.if-self.false)
