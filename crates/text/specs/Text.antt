-- A text that grows piece by piece, in a room of 16,384 bytes. Definitions only.
use Rattle.std.specs.Prelude.{ℕ, zero, suc, ◌≤◌, ◌≡◌, ◌⊎◌, List, [], ◌++◌, length, take}
use Rattle.text.specs.declared.text.Text.{Text}
use Rattle.text.specs.Ascii.{ascii}

abbrev pub room : ℕ
room = 16384

abbrev pub text_of : Text → List ℕ
text_of t = take t.len t.bytes

-- the text afterwards is the text with the piece, as far as the room goes; its length is no more than the room, or was given so
pub record Added (text : Text) (piece : List ℕ) (after : Text) : Type 0 where
  pub is : text_of after ≡ take room (text_of text ++ piece)
  pub len : (after.len ≤ room) ⊎ (after.len ≡ text.len)

-- a piece of at most n bytes
pub record Within (p : List ℕ) (n : ℕ) : Type 0 where
  pub is : length p ≤ n

-- the pieces f 0, f 1, .. , f (n − 1), one after another
unfoldable pub each : (ℕ → List ℕ) → ℕ → List ℕ
each f zero = []
each f (suc n) = each f n ++ f n

abbrev pub blanks : ℕ → List ℕ
blanks n = each (λ (i : ℕ). ascii " ") n
