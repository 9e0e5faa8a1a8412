-- Pieces one after another are one piece. Assumes nothing.
use Rattle.std.specs.Prelude.{ℕ, zero, suc, ◌+◌, ◌≤◌, ◌≡◌, refl, List, [], ◌∷◌, ◌++◌, length, take}
use Rattle.std.proofs.Common.{sym, ap, ◌∙◌, subst, inl, inr, ⊎_elim, append-nil, append_assoc, add-one, arith, length-take, take_all}
use Rattle.text.specs.declared.text.Text.{Text}
use Rattle.text.specs.Text.{room, text_of, Added, each}

take_front : (n : ℕ) (u q : List ℕ) → take n (take n u ++ q) ≡ take n (u ++ q)
take_front zero u q = refl
take_front (suc n) [] q = refl
take_front (suc n) (x ∷ u) q = ap (λ (t : List ℕ). x ∷ t) (take_front n u q)

-- nothing is added to a text as it was given
pub nothing : (t : Text) → Added t [] t
nothing t =
    record {
      is = sym (ap (take room) (append-nil (text_of t)) ∙ take_all room (text_of t) (omega (arith, t.full, length-take t.len t.bytes)));
      len = inr refl;
    }

-- two pieces, one after the other; `search both` finds any number of them
pub both : {t u v : Text} {p q : List ℕ} → Added t p u → Added u q v → Added t (p ++ q) v
both {t} {u} {v} {p} {q} a b =
    record {
      is =
          b.is
          ∙ ap (λ (f : List ℕ). take room (f ++ q)) a.is
          ∙ take_front room (text_of t ++ p) q
          ∙ ap (take room) (append_assoc (text_of t) p q);
      len =
          ⊎_elim inl
          (λ (e : v.len ≡ u.len). ⊎_elim (λ (h : u.len ≤ room). inl (omega arith)) (λ (d : u.len ≡ t.len). inr (e ∙ d)) a.len)
          b.len;
    }

-- many pieces: none at first, then one more
pub first : (f : ℕ → List ℕ) (t : Text) → Added t (each f 0) t
unfolding each
first f t = nothing t

pub more : (f : ℕ → List ℕ) (i : ℕ) {t u v : Text} → Added t (each f i) u → Added u (f i) v → Added t (each f (i + 1)) v
unfolding each
more f i {t} {u} {v} a b = subst (λ (k : ℕ). Added t (each f k) v) (sym (add-one i)) (both a b)

-- and all at last
pub ended : (f : ℕ → List ℕ) {i n : ℕ} {t u : Text} → i ≡ n → Added t (each f i) u → Added t (each f n) u
ended f {i} {n} {t} {u} e a = subst (λ (k : ℕ). Added t (each f k) u) e a

-- the same piece in other words
pub worded : {t u : Text} {p q : List ℕ} → p ≡ q → Added t p u → Added t q u
worded {t} {u} {p} {q} e a = subst (λ (l : List ℕ). Added t l u) e a

-- a text that was blank at first is what was added, if the room takes it
pub from_blank : {b t : Text} {p : List ℕ} → text_of b ≡ [] → Added b p t → length p ≤ room → text_of t ≡ p
from_blank {b} {t} {p} e a h = a.is ∙ ap (λ (f : List ℕ). take room (f ++ p)) e ∙ take_all room p h
