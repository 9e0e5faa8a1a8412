-- Whether a window has room, by the struct's figures. Assumes nothing.
use Rattle.std.proofs.Common.{◌≡◌, ◌<◌, min, Bool, true, false, ◌&&◌, ltb, length, sym, ap, ◌∙◌, true≢false, arith, length-take, ltb-true, le-ltb, lt-ltb}
use mathlib.Core.Logic.{by_cases}
use native.Mathlib.Decide.{dec_lt}
use Rattle.adwin.specs.declared.Adwin.{Adwin}
use Rattle.adwin.specs.Settings.{limit, places}
use Rattle.adwin.specs.Window.{has_room}
use Rattle.adwin.specs.View.{classed, held_of, view}
use Rattle.adwin.proofs.Classes.{classed_length}

module _ (a : Adwin) (b : length a.buckets ≡ places) (k : length a.classes ≡ places) where
  held_count : length (held_of a) ≡ min a.count places
  held_count = length-take a.count (classed a.classes a.buckets) ∙ ap (min a.count) (classed_length a.classes a.buckets (k ∙ sym b) ∙ b)

  same_test : ltb a.count places ≡ ltb (length (held_of a)) places
  same_test =
      by_cases (dec_lt a.count places)
      (λ h. lt-ltb a.count places h ∙ sym (lt-ltb (length (held_of a)) places (omega (arith, held_count))))
      (λ h. le-ltb a.count places (omega arith) ∙ sym (le-ltb (length (held_of a)) places (omega (arith, held_count))))

  -- the code's test is the definition's
  pub room_is : (ltb a.taken limit && ltb a.count places) ≡ has_room (view a)
  room_is = ap (λ (t : Bool). ltb a.taken limit && t) same_test

  -- a window with room has a place for its next bucket
  pub has_place : has_room (view a) ≡ true → a.count < places
  has_place e = go (ltb a.taken limit) (room_is ∙ e)
    where
      go : (t : Bool) → (t && ltb a.count places) ≡ true → a.count < places
      go true e = ltb-true a.count places e
      go false e = absurd (true≢false (sym e))
