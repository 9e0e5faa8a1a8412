-- A piece is copied behind a text, as far as the room goes. Assumes nothing.
use Rattle.std.proofs.Common.{◌≡◌, ℕ, ◌+◌, ◌-◌, ◌≤◌, List, ◌++◌, min, length, take, length-append, length-take, take_all, sym, ap, ap₂, ◌∙◌, inl, arith}
use Rattle.std.proofs.Math.Logic.{by_cases}
use Rattle.std.proofs.Math.Decide.{dec_le}
use Rattle.std.proofs.Math.Seq.{take-length, take-take, take-append-add, length-take-le}
use Rattle.std.proofs.lemmas.Slice.{take-put_mid}
use borrow.Rule.Slice.PartMut.{put_mid}
use Rattle.lists.specs.Laws.Rest.{cut_take}
use Rattle.text.specs.declared.text.Text.{Text}
use Rattle.text.specs.Text.{room, Added}

short : (m n : ℕ) (p : List ℕ) → n ≡ min (length p) m → take m (take n p) ≡ take m p
short m n p e = by_cases (dec_le (length p) m)
    (λ h. let q : n ≡ length p = omega arith in ap (λ (k : ℕ). take m (take k p)) q ∙ ap (take m) (take-length p))
    (λ h. let q : n ≡ m = omega arith in ap (λ (k : ℕ). take m (take k p)) q ∙ take-take m m p (omega arith))

-- what is left of the piece finds no room
cut_piece :
    (a p : List ℕ) (at n : ℕ) →
    length a ≡ at →
    at ≤ room →
    n ≡ min (length p) (room - at) →
    take room (a ++ take n p) ≡ take room (a ++ p)
cut_piece a p at n l h e =
    let r : room ≡ length a + (room - at) = omega arith in
    ap (λ (k : ℕ). take k (a ++ take n p)) r
    ∙ take-append-add a (take n p) (room - at)
    ∙ ap (λ (q : List ℕ). a ++ q) (short (room - at) n p e)
    ∙ sym (take-append-add a p (room - at))
    ∙ ap (λ (k : ℕ). take k (a ++ p)) (sym r)

pub added :
    (text after : Text) (at n : ℕ) (piece copied : List ℕ) → at ≡ min text.len room → n ≡ min (length piece) (room - at) →
    copied ≡ take n piece →
    after.bytes ≡ put_mid at (at + n - at) text.bytes copied →
    after.len ≡ at + n →
    Added text piece after
added text after at n piece copied a k e b s =
    let h : at ≤ room = omega arith in
    let m : at + n ≤ room = omega arith in
    let c : length copied ≡ n = ap length e ∙ length-take-le n piece (omega arith) in
    let w : at + n ≡ at + length copied = omega arith in
    let q = length-append (take at text.bytes) (take n piece) in
    let f : length text.bytes ≡ room = text.full in
    record {
      is =
          ap₂ (λ (i : ℕ) (l : List ℕ). take i l) s b
          ∙ take-put_mid at (at + n - at) text.bytes copied (at + n) w (omega arith)
          ∙ ap (λ (f : List ℕ). take at text.bytes ++ f) e
          ∙ sym (take_all room (take at text.bytes ++ take n piece) (omega (arith, q, length-take at text.bytes, length-take n piece)))
          ∙ cut_piece (take at text.bytes) piece at n (length-take-le at text.bytes (omega arith)) h k
          ∙ ap (λ (f : List ℕ). take room (f ++ piece)) (cut_take at text.len room text.bytes a text.full);
      len = inl (omega arith);
    }
