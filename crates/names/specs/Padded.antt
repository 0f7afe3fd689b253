-- What the bytes of a name field are.
use Rattle.std.specs.Prelude.{Bool, true, cond, [], ◌∷◌, eqb}
use Rattle.meaning.specs.Name.{Name, name_byte}
use Rattle.meaning.specs.Rows.{every}

-- name bytes, and then spaces to the end
unfoldable pub padded : Name → Bool
padded [] = true
padded (b ∷ bs) = cond (name_byte b) (padded bs) (every (eqb 32) (b ∷ bs))
