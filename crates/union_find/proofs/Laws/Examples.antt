-- Document 02, item 8, worked out: three pairs, the last of places that are chained already, and three of four places sought. Assumes nothing.
use Rattle.std.specs.Prelude.{◌≡◌, refl, true, false, [], ◌∷◌, ◌++◌}
use Rattle.union_find.specs.Forest.{new_of, find_from, find_of, link_of, union_of, join_of}
use Rattle.union_find.specs.Steps.{join_steps, joins_steps, seek_steps, places_from, find_steps}

-- two finds a pair, then one for each of the places 0, 1 and 2
pub nine_finds :
    find_steps (true ∷ true ∷ true ∷ false ∷ []) ((0, 1) ∷ (0, 2) ∷ (1, 2) ∷ [])
    ≡ (0 ∷ 0 ∷ []) ++ (0 ∷ 0 ∷ []) ++ (1 ∷ 1 ∷ []) ++ (0 ∷ 1 ∷ 1 ∷ [])
unfolding find_steps joins_steps join_steps seek_steps places_from new_of find_from find_of link_of union_of join_of
nine_finds = refl
