-- Words of 8 bytes, "all little-endian". Definitions only.
use Rattle.std.specs.Prelude.{ℕ, zero, suc, ◌+◌, ◌*◌, List, get_or}

-- the n bytes from a place on, the first of the least weight; a byte past the end counts 0
unfoldable pub little_endian : ℕ → List ℕ → ℕ → ℕ
little_endian zero bytes at = 0
little_endian (suc n) bytes at = get_or bytes at 0 + 256 * little_endian n bytes (at + 1)

abbrev pub word_at : List ℕ → ℕ → ℕ
word_at bytes at = little_endian 8 bytes at
