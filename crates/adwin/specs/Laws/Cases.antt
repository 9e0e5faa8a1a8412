-- An update by its cases: a value that is not finite, one refused, one without a cut search, one with.
use Rattle.std.specs.Prelude.{◌≡◌, ◌+◌, ◌<◌, ◌≤◌, Bool, true, false, cond, ◌&&◌, List, [], length, nat_lt, Float}
use Rattle.std.proofs.Math.Path.{refl}
use Rattle.std.proofs.Common.{sym, ◌∙◌, true≢false, arith, ltb-true}
use Rattle.float.specs.Order.{is_finite}
use Rattle.adwin.specs.Settings.{limit, places}
use Rattle.adwin.specs.Buckets.{Classed}
use Rattle.adwin.specs.Cut.{search_of}
use Rattle.adwin.specs.Window.{Window, Outcome, quiet, full, has_room, due, grown, shrunk, update_of}
use Rattle.adwin.specs.History.{dropped_by}

module _ (w : Window) (x : Float) where
  -- what holds in each case, of the outcome and of what its search drops, holds of the update
  pub update_cases :
      (P : Outcome → List Classed → Type 0) →
      (is_finite x ≡ false → P (quiet w) []) →
      (is_finite x ≡ true → has_room w ≡ false → P (full w) []) →
      (is_finite x ≡ true → has_room w ≡ true → due w ≡ false → P (quiet (grown w x)) []) →
      (is_finite x ≡ true → has_room w ≡ true → due w ≡ true → P (shrunk (grown w x)) (search_of w.delta (grown w x).sums (grown w x).held).dropped) →
      P (update_of w x) (dropped_by w x)
  unfolding update_of dropped_by
  update_cases P a b c d = go (is_finite x) refl (has_room w) refl (due w) refl
    where
      go :
          (f : Bool) →
          is_finite x ≡ f →
          (r : Bool) →
          has_room w ≡ r →
          (t : Bool) →
          due w ≡ t →
          P (cond f (cond r (cond t (shrunk (grown w x)) (quiet (grown w x))) (full w)) (quiet w))
          (cond (f && (r && t)) (search_of w.delta (grown w x).sums (grown w x).held).dropped [])
      go false e r h t i = a e
      go true e false h t i = b e h
      go true e true h false i = c e h i
      go true e true h true i = d e h i

  -- a value that isn't finite changes nothing
  pub not_finite : is_finite x ≡ false → quiet w ≡ update_of w x
  not_finite p =
      update_cases (λ (o : Outcome) (l : List Classed). quiet w ≡ o) (λ e. refl) (λ e h. absurd (true≢false (sym e ∙ p)))
      (λ e h i. absurd (true≢false (sym e ∙ p))) (λ e h i. absurd (true≢false (sym e ∙ p)))

  module _ (p : is_finite x ≡ true) where
    pub no_room : has_room w ≡ false → full w ≡ update_of w x
    no_room q =
        update_cases (λ (o : Outcome) (l : List Classed). full w ≡ o) (λ e. absurd (true≢false (sym p ∙ e))) (λ e h. refl)
        (λ e h i. absurd (true≢false (sym h ∙ q))) (λ e h i. absurd (true≢false (sym h ∙ q)))

    module _ (q : has_room w ≡ true) where
      pub not_due : due w ≡ false → quiet (grown w x) ≡ update_of w x
      not_due r =
          update_cases (λ (o : Outcome) (l : List Classed). quiet (grown w x) ≡ o) (λ e. absurd (true≢false (sym p ∙ e)))
          (λ e h. absurd (true≢false (sym q ∙ h))) (λ e h i. refl) (λ e h i. absurd (true≢false (sym i ∙ r)))

      -- on every 32nd value the cut search follows
      pub is_due : due w ≡ true → shrunk (grown w x) ≡ update_of w x
      is_due r =
          update_cases (λ (o : Outcome) (l : List Classed). shrunk (grown w x) ≡ o) (λ e. absurd (true≢false (sym p ∙ e)))
          (λ e h. absurd (true≢false (sym q ∙ h))) (λ e h i. absurd (true≢false (sym r ∙ i))) (λ e h i. refl)

-- room means that fewer values are taken than the limit
pub room_taken : (w : Window) → has_room w ≡ true → w.taken < limit
room_taken w h = go (nat_lt w.taken limit) refl h
  where
    go : (t : Bool) → nat_lt w.taken limit ≡ t → (t && nat_lt (length w.held) places) ≡ true → w.taken < limit
    go true e q = ltb-true w.taken limit e
    go false e q = absurd (true≢false (sym q))

-- an update that rings takes its value
pub record Takes (w : Window) (o : Outcome) : Type 0 where
  pub more : w.taken + cond o.alarm 1 0 ≤ o.window.taken
  pub within : o.window.taken ≤ limit

-- so does every update, and no more are taken than the limit
pub update_takes : (w : Window) (x : Float) → w.taken ≤ limit → Takes w (update_of w x)
unfolding grown shrunk
update_takes w x h =
    update_cases w x (λ (o : Outcome) (l : List Classed). Takes w o) (λ e. record { more = omega arith; within = h })
    (λ e r. record { more = omega arith; within = h })
    (λ e r i. record { more = omega arith; within = omega (arith, room_taken w r) })
    (λ e r i. record { more = omega (arith, one_at_most (shrunk (grown w x)).alarm); within = omega (arith, room_taken w r) })
  where
    one_at_most : (b : Bool) → cond b 1 0 ≤ 1
    one_at_most true = omega arith
    one_at_most false = omega arith
