-- The first link that does not stand before a key, what a gain does there, and which factor it leaves. Assumes nothing.
use Rattle.std.proofs.Common.{◌≡◌, ℕ, suc, zero, ◌+◌, ◌-◌, ◌<◌, ◌≤◌, Bool, true, false, cond, refl, sym, ap, subst, ◌∙◌, List, [], ◌∷◌, ◌++◌, length, take, drop, set, get_or, arith, length-append, length-drop, length-take-le, lt-ltb, le-ltb, ap₂, Float}
use Rattle.std.proofs.Common.{take-append-drop, drop-cons}
use Rattle.std.proofs.Math.Logic.{by_cases}
use Rattle.std.proofs.Math.Decide.{dec_lt}
use Rattle.std.proofs.Math.Seq.{take-take}
use Rattle.std.proofs.lemmas.List.{set_split, drop_all, take_at, drop_at, get_or-take}
use Rattle.lists.specs.Laws.Rest.{take_set}
use mathlib.Core.List.{foldl}
use Rattle.model.specs.declared.link.Link.{Link}
use Rattle.model.specs.declared.micro.MicroId.{MicroId}
use Rattle.db_gains.specs.declared.factor.Factor.{Factor}
use Rattle.db_gains.specs.declared.walk.Walk.{Walk}
use Rattle.model.specs.Limits.{links_most}
use Rattle.model.specs.DbInsert.{before, same_ends, gains, gain_in, gain_of, has_room}
use Rattle.db_gains.specs.Factor.{Right, factor_after, since_of}
use Rattle.db_gains.specs.Walk.{Ready, front, pair_walked, pairs_walked, resumed_at}
use Rattle.db_gains.specs.Laws.Factor.{factor_passed, factor_same, factor_kept}
use Rattle.db_gains.specs.Laws.Passed.{Passed, Absent, passed_on, gain_passed, gain_same, gain_after}

-- the first of a list does not stand before the key
abbrev Stops : Link → List Link → Type 0
Stops k [] = Unit
Stops k (l ∷ ls) = before l k ≡ false

module _ (k : Link) where
  pub front_most : (ls : List Link) → front k ls ≤ length ls
  front_most [] = omega arith
  front_most (l ∷ ls) = go (front_most ls) (before l k)
    where
      go : front k ls ≤ length ls → (b : Bool) → cond b (1 + front k ls) 0 ≤ suc (length ls)
      go h true = omega (arith, h)
      go h false = omega arith

  pub front_passed : (ls : List Link) → Passed k (take (front k ls) ls)
  front_passed [] = tt
  front_passed (l ∷ ls) = go (front_passed ls) (before l k) refl
    where
      go : Passed k (take (front k ls) ls) → (b : Bool) → before l k ≡ b → Passed k (take (cond b (1 + front k ls) 0) (l ∷ ls))
      go h true e =
          let one : 1 + front k ls ≡ suc (front k ls) = omega arith in
          subst (λ (n : ℕ). Passed k (take n (l ∷ ls))) (sym one) (e, h)
      go h false e = tt

  stops : (ls : List Link) → Stops k (drop (front k ls) ls)
  stops [] = tt
  stops (l ∷ ls) = go (stops ls) (before l k) refl
    where
      go : Stops k (drop (front k ls) ls) → (b : Bool) → before l k ≡ b → Stops k (drop (cond b (1 + front k ls) 0) (l ∷ ls))
      go h true e =
          let one : 1 + front k ls ≡ suc (front k ls) = omega arith in
          subst (λ (n : ℕ). Stops k (drop n (l ∷ ls))) (sym one) h
      go h false e = e

  -- a search that begins after links passed finds what one from the front does
  pub front_after : (a : ℕ) (ls : List Link) → a ≤ length ls → Passed k (take a ls) → a + front k (drop a ls) ≡ front k ls
  front_after zero ls h p = omega arith
  front_after (suc a) [] h p = absurd (omega (arith, h))
  front_after (suc a) (l ∷ ls) h p =
      let more : a + front k (drop a ls) ≡ front k ls = front_after a ls (omega (arith, h)) p.1 in
      rw p.0 (omega (arith, more))

  abbrev pub walk : (at steps : ℕ) → Factor → Walk
  walk a s f = record { at = a; key = k; steps = s; factor = f }

  -- where a walk goes on for the key, all links are passed
  pub resumed_passed :
      (ls : List Link) (w : Walk) → w.at ≤ length ls → Passed w.key (take w.at ls) → (resumed_at w k ≤ length ls) × Passed k (take (resumed_at w k) ls)
  resumed_passed ls w h p = go (before k w.key) refl
    where
      go : (b : Bool) → before k w.key ≡ b → (cond b 0 w.at ≤ length ls) × Passed k (take (cond b 0 w.at) ls)
      go true e = (omega arith, tt)
      go false e = (h, passed_on w.key k (take w.at ls) e p)

  -- there is none of the key's ends
  absent : (ls : List Link) (z : Link) → (front k ls < length ls → same_ends (get_or ls (front k ls) z) k ≡ false) → Absent k (drop (front k ls) ls)
  absent ls z none =
      by_cases (dec_lt (front k ls) (length ls))
      (λ h. let first : drop (front k ls) ls ≡ get_or ls (front k ls) z ∷ drop (suc (front k ls)) ls = drop-cons ls (front k ls) z h in
      subst (Absent k) (sym first) (subst (Stops k) first (stops ls), none h))
      (λ h. subst (Absent k) (sym (drop_all (front k ls) ls (omega (arith, h)))) tt)

  -- ---- what a gain does at that place
  module _ (lambda t : Float) (room : Bool) (ls : List Link) where
    gain_front : gain_in lambda t room k ls ≡ take (front k ls) ls ++ gain_in lambda t room k (drop (front k ls) ls)
    gain_front =
        ap (gain_in lambda t room k) (sym (take-append-drop (front k ls) ls))
        ∙ gain_passed lambda t room k (take (front k ls) ls) (drop (front k ls) ls) (front_passed ls)

    -- the link there has the key's ends
    pub gain_there :
        (z : Link) → front k ls < length ls → same_ends (get_or ls (front k ls) z) k ≡ true →
        set ls (front k ls) (gains lambda t (get_or ls (front k ls) z)) ≡ gain_in lambda t room k ls
    gain_there z h e =
        let first : drop (front k ls) ls ≡ get_or ls (front k ls) z ∷ drop (suc (front k ls)) ls = drop-cons ls (front k ls) z h in
        set_split ls (front k ls) (gains lambda t (get_or ls (front k ls) z)) h
        ∙ ap (λ (r : List Link). take (front k ls) ls ++ r)
        (sym (ap (gain_in lambda t room k) first ∙ gain_same lambda t room k (get_or ls (front k ls) z) (drop (suc (front k ls)) ls) (subst (Stops k) first (stops ls)) e))
        ∙ sym gain_front

    pub gain_new :
        (z : Link) → (front k ls < length ls → same_ends (get_or ls (front k ls) z) k ≡ false) →
        gain_in lambda t room k ls ≡ take (front k ls) ls ++ cond room (gains lambda t k ∷ drop (front k ls) ls) (drop (front k ls) ls)
    gain_new z none = gain_front ∙ ap (λ (r : List Link). take (front k ls) ls ++ r) (gain_after lambda t room k (drop (front k ls) ls) (absent ls z none))

  -- ---- which factor it leaves
  module _ (lambda t : Float) (f : Factor) (ls : List Link) (z : Link) where
    factor_front : factor_after lambda t k ls f ≡ factor_after lambda t k (drop (front k ls) ls) f
    factor_front =
        ap (λ (r : List Link). factor_after lambda t k r f) (sym (take-append-drop (front k ls) ls))
        ∙ factor_passed lambda t k f (take (front k ls) ls) (drop (front k ls) ls) (front_passed ls)

    -- the link there has the key's ends
    pub factor_there :
        front k ls < length ls → same_ends (get_or ls (front k ls) z) k ≡ true →
        factor_after lambda t k ls f ≡ since_of lambda t f (get_or ls (front k ls) z).last
    factor_there h e =
        let first : drop (front k ls) ls ≡ get_or ls (front k ls) z ∷ drop (suc (front k ls)) ls = drop-cons ls (front k ls) z h in
        factor_front ∙ ap (λ (r : List Link). factor_after lambda t k r f) first
        ∙ factor_same lambda t k f (get_or ls (front k ls) z) (drop (suc (front k ls)) ls) (subst (Stops k) first (stops ls)) e

    pub factor_absent : (front k ls < length ls → same_ends (get_or ls (front k ls) z) k ≡ false) → factor_after lambda t k ls f ≡ f
    factor_absent none = factor_front ∙ factor_kept lambda t k f (drop (front k ls) ls) (absent ls z none)

-- what holds of a walk at its own place, by what it is
pub at_place : (P : Walk → Type 0) {v : Walk} {k : Link} {m s : ℕ} {f : Factor} → v ≡ walk k m s f → P (walk k v.at s f) → P v
at_place P {v} {k} {m} {s} {f} e p = subst P (sym e) (subst (λ (n : ℕ). P (walk k n s f)) (ap (λ (w : Walk). w.at) e) p)

-- ---- the first n links of an array, whose walk is at the place found
module _ (k : Link) (lambda t : Float) (n : ℕ) (xs : List Link) (at : ℕ) (fits : n ≤ length xs) (found : at ≡ front k (take n xs)) where
  within : at ≤ n
  within = omega (arith, found, front_most k (take n xs), length-take-le n xs fits)

  -- a walk there, over an array that begins as this one does up to the place
  pub ready_there :
      (ys : List Link) (s : ℕ) (f : Factor) → at ≤ length ys → take at ys ≡ take at (take n xs) → Right lambda t f → Ready lambda t (walk k at s f) ys
  ready_there ys s f h same r =
      let passed : Passed k (take at (take n xs)) = subst (λ (m : ℕ). Passed k (take m (take n xs))) (sym found) (front_passed k (take n xs)) in
      record { place = h; passed = subst (Passed k) (sym same) passed; right = r }

  -- the link there has the key's ends
  module _ (z : Link) (h : at < n) where
    read : get_or (take n xs) at z ≡ get_or xs at z
    read = get_or-take n xs at z h

    low : front k (take n xs) < length (take n xs)
    low = omega (arith, h, found, length-take-le n xs fits)

    ends : (b : Bool) → same_ends (get_or xs at z) k ≡ b → same_ends (get_or (take n xs) (front k (take n xs)) z) k ≡ b
    ends b e = subst (λ (m : ℕ). same_ends (get_or (take n xs) m z) k ≡ b) found (ap (λ (l : Link). same_ends l k) read ∙ e)

    pub gained_there :
        (room : Bool) (v : Link) → same_ends (get_or xs at z) k ≡ true → v ≡ gains lambda t (get_or xs at z) →
        take n (set xs at v) ≡ gain_in lambda t room k (take n xs)
    gained_there room v e new =
        let ls : List Link = take n xs in
        take_set n xs at v ∙ ap (set ls at) (new ∙ ap (gains lambda t) (sym read))
        ∙ ap (λ (m : ℕ). set ls m (gains lambda t (get_or ls m z))) found
        ∙ gain_there k lambda t room ls z low (ends true e)

    pub left_there : (f : Factor) → same_ends (get_or xs at z) k ≡ true → factor_after lambda t k (take n xs) f ≡ since_of lambda t f (get_or xs at z).last
    left_there f e =
        let ls : List Link = take n xs in
        factor_there k lambda t f ls z low (ends true e)
        ∙ ap (λ (m : ℕ). since_of lambda t f (get_or ls m z).last) (sym found)
        ∙ ap (λ (l : Link). since_of lambda t f l.last) read

  module _ (z : Link) (none : at < n → same_ends (get_or xs at z) k ≡ false) where
    apart : front k (take n xs) < length (take n xs) → same_ends (get_or (take n xs) (front k (take n xs)) z) k ≡ false
    apart h = let less : at < n = omega (arith, h, found, length-take-le n xs fits) in ends z less false (none less)

    pub left_absent : (f : Factor) → factor_after lambda t k (take n xs) f ≡ f
    left_absent f = factor_absent k lambda t f (take n xs) z apart

    -- the key has no link: a new one goes there, if there is room
    new_there : (room : Bool) → gain_in lambda t room k (take n xs) ≡ take at (take n xs) ++ cond room (gains lambda t k ∷ drop at (take n xs)) (drop at (take n xs))
    new_there room =
        let ls : List Link = take n xs in
        gain_new k lambda t room ls z apart
        ∙ ap (λ (m : ℕ). take m ls ++ cond room (gains lambda t k ∷ drop m ls) (drop m ls)) (sym found)

    pub gained_full : links_most ≤ n → take n xs ≡ gain_in lambda t (has_room (take n xs)) k (take n xs)
    gained_full full =
        let ls : List Link = take n xs in
        let o : has_room ls ≡ false = le-ltb (length ls) links_most (omega (arith, full, length-take-le n xs fits)) in
        sym (ap (λ (room : Bool). gain_in lambda t room k ls) o ∙ new_there false ∙ take-append-drop at ls)

  -- s are the first n + 1 places, ys what stands in them once v is put there
  module _
      (s ys post : List Link) (v : Link) (room : n < links_most) (all : n + 1 ≤ length xs) (es : s ≡ take (n + 1) xs)
      (e : ys ≡ take at s ++ v ∷ drop at (take (length s - 1) s)) where
    put : ys ≡ take at (take n xs) ++ v ∷ drop at (take n xs)
    put =
        let size : length s - 1 ≡ n = omega (arith, ap (λ (r : List Link). length r) es, length-take-le (n + 1) xs all) in
        let more : at ≤ n + 1 = omega (arith, within) in
        let some : n ≤ n + 1 = omega arith in
        e
        ∙ ap₂ (λ (p q : List Link). p ++ v ∷ drop at q)
        (ap (take at) es ∙ take-take at (n + 1) xs more ∙ sym (take-take at n xs within))
        (ap (λ (m : ℕ). take m s) size ∙ ap (take n) es ∙ take-take n (n + 1) xs some)

    size : length ys ≡ n + 1
    size =
        let a : length (take at (take n xs)) ≡ at = length-take-le at (take n xs) (omega (arith, within, length-take-le n xs fits)) in
        let b : length (drop at (take n xs)) ≡ n - at = length-drop at (take n xs) ∙ ap (λ (m : ℕ). m - at) (length-take-le n xs fits) in
        ap (λ (r : List Link). length r) put ∙ length-append (take at (take n xs)) (v ∷ drop at (take n xs)) ∙ omega (arith, a, b, within)

    pub whole : take (n + 1) (ys ++ post) ≡ take at (take n xs) ++ v ∷ drop at (take n xs)
    whole = take_at ys post (n + 1) size ∙ put

    pub rest_new : drop (n + 1) (ys ++ post) ≡ post
    rest_new = drop_at ys post (n + 1) size

    pub gained_new : (z : Link) → (at < n → same_ends (get_or xs at z) k ≡ false) → v ≡ gains lambda t k → take (n + 1) (ys ++ post) ≡ gain_in lambda t (has_room (take n xs)) k (take n xs)
    gained_new z none new =
        let ls : List Link = take n xs in
        let o : has_room ls ≡ true = lt-ltb (length ls) links_most (omega (arith, room, length-take-le n xs fits)) in
        whole ∙ ap (λ (l : Link). take at ls ++ l ∷ drop at ls) new ∙ sym (ap (λ (r : Bool). gain_in lambda t r k ls) o ∙ new_there z none true)

    pub ready_new : (i : ℕ) (f : Factor) → Right lambda t f → Ready lambda t (walk k at i f) (take (n + 1) (ys ++ post))
    ready_new i f r =
        let a : length (take at (take n xs)) ≡ at = length-take-le at (take n xs) (omega (arith, within, length-take-le n xs fits)) in
        let long : at ≤ length (take (n + 1) (ys ++ post)) =
        omega (arith, ap (λ (r : List Link). length r) whole, length-append (take at (take n xs)) (v ∷ drop at (take n xs)), a) in
        ready_there (take (n + 1) (ys ++ post)) i f long
        (ap (take at) whole ∙ take_at (take at (take n xs)) (v ∷ drop at (take n xs)) at a) r

-- ---- all pairs
module _ (lambda t : Float) where
  -- the links that a walk leaves are those of the gains
  pub walked_gains : (s : Walk × List Link) (ps : List (MicroId × MicroId)) → (pairs_walked lambda t s ps).1 ≡ foldl (gain_of lambda t) s.1 ps
  walked_gains s [] = refl
  walked_gains s (p ∷ ps) = walked_gains (pair_walked lambda t s p) ps
