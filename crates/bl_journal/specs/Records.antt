-- The words of a log: its head, records, and zeros.
use Rattle.std.specs.Prelude.{◌≡◌, ℕ, ◌+◌, ◌*◌, ◌^◌, ◌<◌, List, [], ◌∷◌, ◌++◌, length, take, drop, sum}

-- the words of rows: each key and its value
abbrev pub row_words : List (ℕ × ℕ) → List ℕ
row_words [] = []
row_words (row ∷ rows) = row.0 ∷ row.1 ∷ row_words rows

-- the rows that words spell; a last word alone spells none
abbrev pub rows_in : List ℕ → List (ℕ × ℕ)
rows_in (key ∷ value ∷ rest) = (key, value) ∷ rows_in rest
rows_in rest = []

-- the body of a record: how many rows came, these rows, and the rows that went
abbrev pub body_words : List (ℕ × ℕ) → List (ℕ × ℕ) → List ℕ
body_words came went = length came ∷ (row_words came ++ row_words went)

-- the rows that came, as a body says
abbrev pub came_in : List ℕ → List (ℕ × ℕ)
came_in [] = []
came_in (count ∷ rows) = rows_in (take (2 * count) rows)

-- the rows that went
abbrev pub went_in : List ℕ → List (ℕ × ℕ)
went_in [] = []
went_in (count ∷ rows) = rows_in (drop (2 * count) rows)

-- The words begin with a record of a log with that salt, and the rest stands behind it: how many words the record has; what is wanting of the
-- sum of its other words to the greatest number of 128 bits, in two words; the salt; and the body.
pub record Begins (salt : ℕ) (words body rest : List ℕ) : Type 0 where
  pub low : ℕ
  pub high : ℕ
  pub words_are : words ≡ (4 + length body) ∷ low ∷ high ∷ salt ∷ (body ++ rest)
  pub some : 0 < length body
  pub completes : 4 + length body + salt + sum body + low + 2 ^ 64 * high + 1 ≡ 2 ^ 128

-- The words tell records with these bodies, one after another, up to what is none.
abbrev pub Tells : ℕ → List ℕ → List (List ℕ) → Type 0
Tells salt words [] = (body rest : List ℕ) → ¬ Begins salt words body rest
Tells salt words (body ∷ bodies) = (rest : List ℕ) × Begins salt words body rest × Tells salt rest bodies

-- "BLNKLOG1" as a word
abbrev pub mark : ℕ
mark = 3550894020304456770

-- A log has its mark, a salt, and records with these bodies; or there is none yet.
abbrev pub HasRecords : List ℕ → List (List ℕ) → Type 0
HasRecords [] bodies = bodies ≡ []
HasRecords (first ∷ []) bodies = ⊥
HasRecords (first ∷ salt ∷ words) bodies = (first ≡ mark) × Tells salt words bodies
