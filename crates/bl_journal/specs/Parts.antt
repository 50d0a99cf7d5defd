-- What the parts of a call promise each other.
use Rattle.std.specs.Prelude.{◌≡◌, ℕ, List, [], ◌∷◌, flat_map}
use Rattle.bl_image.specs.Images.{word_bytes, Fits64}
use Rattle.bl_journal.specs.Records.{mark, Begins, Tells, body_words, came_in, went_in}

-- The words tell these rows that came and these that went.
pub record TellsRows (salt : ℕ) (words : List ℕ) (came went : List (ℕ × ℕ)) : Type 0 where
  pub bodies : List (List ℕ)
  pub tells : Tells salt words bodies
  pub came_are : came ≡ flat_map came_in bodies
  pub went_are : went ≡ flat_map went_in bodies

-- The bytes are a head with that salt and one record of these rows.
pub record IsNewLog (salt : ℕ) (rows : List (ℕ × ℕ)) (bytes : List ℕ) : Type 0 where
  pub words : List ℕ
  pub spelled : bytes ≡ word_bytes (mark ∷ salt ∷ words)
  pub fits : Fits64 (salt ∷ words)
  pub begins : Begins salt words (body_words rows []) []
