-- Of the bodies: their means one after another, each w coordinates wide. Assumes nothing.
use Prim.Native.Nat.{ℕ, zero, suc, ◌+◌, ◌*◌, ◌≤◌, ◌<◌}
use native.Mathlib.Nat.{suc-mul, add_comm, mul-le-mul_right}
use native.Mathlib.Numerals.{add-one}
use native.Mathlib.Omega.{arith}
use mathlib.Core.Path.{◌≡◌, sym, ap, ap₂, ◌∙◌, subst}
use mathlib.Core.List.{List, [], ◌∷◌, ◌++◌, map}
use lib.Ieee.{Float}
use lib.ListN.{length, take, drop, get_or, length-append}
use lib.Seq.{take_at, drop_at, drop-drop, length-take-le}
use mir.Val.{Val}
use denote.Array.{each}
use denote.Shadow.{shadow}
use denote.Struct.Declared.{row}
use Rattle.std.specs.List.{All}
use Rattle.std.proofs.lemmas.List.{get_or-map}
use Rattle.std.proofs.lemmas.List.Elements.{All-take}
use Rattle.lists.specs.Laws.Maps.{map_length, map_get_d}
use Rattle.feature.specs.Feature.{max_dim}
use Rattle.model.specs.declared.body.Body.{Body}
use Rattle.model.specs.contracts.body.Body.{the_type}
use Rattle.model.specs.Body.{body_in}
use Rattle.model.specs.ReadOut.{written, centres_of}
use Rattle.readout.proofs.Copies.{partly, copy_end, block_step}
use borrow.Rule.Slice.PartMut.{put_mid}

-- every mean has w coordinates
abbrev pub Wide : ℕ → List Body → Type 0
Wide w l = All (λ (b : Body). length b.cf.mean ≡ w) l

wide_first : (w : ℕ) (b : Body) (l : List Body) → Wide w (b ∷ l) → length b.cf.mean ≡ w
wide_first w b l h = h 0 b (omega arith)

wide_rest : (w : ℕ) (b : Body) (l : List Body) → Wide w (b ∷ l) → Wide w l
wide_rest w b l h = λ k d r. h (suc k) d (omega (arith, r))

wide_more : (w : ℕ) (b : Body) (l : List Body) → length b.cf.mean ≡ w → Wide w l → Wide w (b ∷ l)
wide_more w b l e h zero d r = e
wide_more w b l e h (suc k) d r = h k d (omega (arith, r))

-- what an array of bodies says of itself
pub means_wide : (l : List Body) (vs : List Val) → shadow (each Body (row the_type).own_val l vs) → Wide max_dim l
means_wide [] vs p = λ k d r. absurd (omega (arith, r))
means_wide (b ∷ l) [] p = absurd p
means_wide (b ∷ l) (v ∷ vs) p = wide_more max_dim b l p.0.1.1.0.1.1.1.0.1.0.1 (means_wide l vs p.1)

pub wide_take : (w n : ℕ) (l : List Body) → Wide w l → Wide w (take n l)
wide_take w = All-take (λ (b : Body). length b.cf.mean ≡ w)

wide_within : (w k : ℕ) → w ≤ k → (l : List Body) → Wide k l → Wide w (map (body_in w) l)
wide_within w k q l h = λ i d r.
    let low : i < length l = omega (arith, r, map_length (body_in w) l) in
    ap (λ (b : Body). length b.cf.mean) (get_or-map (body_in w) l i d d low) ∙ length-take-le w (get_or l i d).cf.mean (omega (arith, q, h i d low))

-- ---- the centres of a list of such means
centres_length : (w : ℕ) (l : List Body) → Wide w l → length (centres_of l) ≡ length l * w
unfolding centres_of
centres_length w [] h = omega arith
centres_length w (b ∷ l) h =
    length-append b.cf.mean (centres_of l) ∙ ap₂ (λ (a b : ℕ). a + b) (wide_first w b l h) (centres_length w l (wide_rest w b l h))
    ∙ add_comm w (length l * w) ∙ sym (suc-mul (length l) w)

centres_at : (w : ℕ) (l : List Body) → Wide w l → (i : ℕ) (z : Body) → i < length l → take w (drop (i * w) (centres_of l)) ≡ (get_or l i z).cf.mean
unfolding centres_of
centres_at w [] h i z k = absurd (omega arith)
centres_at w (b ∷ l) h zero z k =
    ap (λ (n : ℕ). take w (drop n (b.cf.mean ++ centres_of l))) (let e : 0 * w ≡ 0 = omega arith in e)
    ∙ take_at b.cf.mean (centres_of l) w (wide_first w b l h)
centres_at w (b ∷ l) h (suc i) z k =
    ap (λ (n : ℕ). take w (drop n (b.cf.mean ++ centres_of l))) (suc-mul i w ∙ add_comm (i * w) w)
    ∙ ap (take w) (sym (drop-drop (i * w) w (b.cf.mean ++ centres_of l)) ∙ ap (drop (i * w)) (drop_at b.cf.mean (centres_of l) w (wide_first w b l h)))
    ∙ centres_at w l (wide_rest w b l h) i z (let q : i < length l = omega arith in q)

-- ---- of the bodies, cut to w coordinates
abbrev pub centres_due : ℕ → List Body → List Float
centres_due w l = centres_of (map (body_in w) l)

module _ (w : ℕ) (l : List Body) (wide : Wide max_dim l) (low : w ≤ max_dim) where
  pub due_length : length (centres_due w l) ≡ length l * w
  due_length =
      centres_length w (map (body_in w) l) (wide_within w max_dim low l wide) ∙ ap (λ (m : ℕ). m * w) (map_length (body_in w) l)

  due_at : (i : ℕ) (z : Body) → i < length l → take w (get_or l i z).cf.mean ≡ take w (drop (i * w) (centres_due w l))
  due_at i z k =
      sym
      (centres_at w (map (body_in w) l) (wide_within w max_dim low l wide) i (body_in w z) (omega (arith, k, map_length (body_in w) l))
      ∙ ap (λ (b : Body). b.cf.mean) (map_get_d (body_in w) l i z))

-- ---- room for the next block
block_room : (i n w most : ℕ) → i < n → n * w ≤ most → i * w + w ≤ most
block_room i n w most h k =
    let q : suc i * w ≤ n * w = mul-le-mul_right w (let s : suc i ≤ n = omega arith in s) in
    omega (arith, suc-mul i w)

next_block : (i w : ℕ) → i * w + w ≡ (i + 1) * w
next_block i w = sym (ap (λ (k : ℕ). k * w) (add-one i) ∙ suc-mul i w)

-- ---- a turn of the loop: i means are written, one block of w each
pub turn_start : (w : ℕ) (l : List Body) (lent : List Float) → lent ≡ partly (centres_due w l) lent (0 * w)
turn_start w l lent = let e : 0 ≡ 0 * w = omega arith in ap (partly (centres_due w l) lent) e

pub record Turn (w : ℕ) (l : List Body) (lent out : List Float) (i : ℕ) : Type 0 where
  pub wide : Wide max_dim l
  pub low : w ≤ max_dim
  pub room : length l * w ≤ length lent
  pub done : out ≡ partly (centres_due w l) lent (i * w)

module _ {w : ℕ} {l : List Body} {lent out : List Float} {i : ℕ} (t : Turn w l lent out i) where
  count : length (centres_due w l) ≡ length l * w
  count = due_length w l t.wide t.low

  pub turn_end : i ≡ length l → out ≡ written (centres_due w l) lent
  turn_end k = copy_end (centres_due w l) lent out (length l * w) count t.room (i * w) t.done (ap (λ (m : ℕ). m * w) k)

  pub turn_step :
      (k : i < length l) (z : Body) (q : ℕ) (part : List Float) → q ≡ w → part ≡ take w (get_or l i z).cf.mean →
      put_mid (i * w) q out part ≡ partly (centres_due w l) lent ((i + 1) * w)
  turn_step k z q part eq ep =
      rw (eq, ep)
      (block_step (centres_due w l) lent out (i * w) w t.done
      (subst (λ (m : ℕ). i * w + w ≤ m) (sym count) (block_room i (length l) w (length l * w) k (omega arith))) (take w (get_or l i z).cf.mean)
      (due_at w l t.wide t.low i z k))
      ∙ ap (partly (centres_due w l) lent) (next_block i w)
