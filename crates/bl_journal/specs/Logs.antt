-- What a log stands for, and a journal between two calls.
use Rattle.std.specs.Prelude.{◌≡◌, ◌⊎◌, ℕ, ◌+◌, ◌*◌, ◌<◌, List, [], ◌∷◌, ◌++◌, length, replicate, flat_map, Option}
use Rattle.bl_journal.specs.Files.{Only}
use Rattle.bl_image.specs.Images.{word_bytes, Fits64}
use Rattle.bl_journal.specs.Records.{mark, came_in, went_in, Begins, HasRecords}
use Rattle.bl_journal.specs.Rows.{IsLeft}
use Rattle.bl_journal.specs.declared.journal.Journal.{Journal}

-- The bytes are the log of a map: it has the rows that came, by all records together, more often than they went.
pub record IsLogOf (bytes : List ℕ) (m : ℕ → Option ℕ) : Type 0 where
  pub words : List ℕ
  pub spelled : bytes ≡ word_bytes words
  pub fits : Fits64 words
  pub bodies : List (List ℕ)
  pub records : HasRecords words bodies
  pub left : IsLeft (flat_map came_in bodies) (flat_map went_in bodies) m

-- The bytes are a log whose last record has that body, or one that has one record alone.
pub record EndsIn (bytes last : List ℕ) : Type 0 where
  pub words : List ℕ
  pub bodies : List (List ℕ)
  pub spelled : bytes ≡ word_bytes words
  pub fits : Fits64 words
  pub records : HasRecords words bodies
  pub end : ((body : List ℕ) × (bodies ≡ body ∷ [])) ⊎ ((front : List (List ℕ)) × (bodies ≡ front ++ last ∷ []))

-- the words are records with these bodies, and nothing else
abbrev pub Spells : ℕ → List ℕ → List (List ℕ) → Type 0
Spells salt words [] = words ≡ []
Spells salt words (body ∷ bodies) = (rest : List ℕ) × Begins salt words body rest × Spells salt rest bodies

-- The file of that size is a log of the map with that salt, whose records end there, and has zeros behind them.
pub record HasRoom (file : List ℕ) (salt end size : ℕ) (m : ℕ → Option ℕ) : Type 0 where
  pub front : List ℕ
  pub zeros : ℕ
  pub bodies : List (List ℕ)
  pub file_is : file ≡ word_bytes (mark ∷ salt ∷ (front ++ replicate zeros 0))
  pub fits : Fits64 (salt ∷ front)
  pub spells : Spells salt front bodies
  pub ends : end ≡ 16 + 8 * length front
  pub sized : size ≡ end + 8 * zeros
  pub left : IsLeft (flat_map came_in bodies) (flat_map went_in bodies) m

-- the file of a journal
abbrev pub device_of : {D : Type 0} → Journal D → D
device_of journal = journal.device

-- The file is the log of that map, all of it on the disk; and where the journal says that there is room behind its records, there are zeros.
pub record KeepsMap {D : Type 0} (seen : D → List ℕ) (moment : D → ℕ) (leaves : D → ℕ → List ℕ → Type 0) (m : ℕ → Option ℕ) (journal : Journal D) : Type 0 where
  pub log : IsLogOf (seen journal.device) m
  pub durable : Only (seen journal.device) (leaves journal.device (moment journal.device))
  pub room : journal.end < journal.size → HasRoom (seen journal.device) journal.salt journal.end journal.size m
