-- What is wrong with words that are no page's.
use Rattle.std.specs.Prelude.{◌≡◌, ℕ, zero, suc, ◌+◌, ◌*◌, ◌/◌, ◌%◌, ◌<◌, ◌≤◌, ◌^◌, List, [], ◌∷◌, slice_index, take, drop}
use Rattle.bl_page.specs.declared.page.WordFault.{WordFault}
use Rattle.bl_page.specs.declared.page.WordFault.TheVariants as fault
use Rattle.bl_page.specs.Pairs.{end_of, RisesFrom, AllWithin, BeginsWith, NameNumbers, AreNumbers}

pub data Kind : Type 0 where
  Anchor : Kind
  Leaf : Kind
  Inner : Kind
  Dead : Kind

abbrev pub number : Kind → ℕ
number Anchor = 1
number Leaf = 2
number Inner = 3
number Dead = 4

-- the parts of word 0

abbrev pub kind_in : List ℕ → ℕ
kind_in words = slice_index words 0 / 2 ^ 32

abbrev pub level_in : List ℕ → ℕ
level_in words = slice_index words 0 / 2 ^ 16 % 2 ^ 16

abbrev pub count_in : List ℕ → ℕ
count_in words = slice_index words 0 % 2 ^ 16

-- that many pairs from the front
abbrev pub pairs_in : ℕ → List ℕ → List (ℕ × ℕ)
pairs_in zero words = []
pairs_in (suc n) [] = []
pairs_in (suc n) (key ∷ []) = []
pairs_in (suc n) (key ∷ word ∷ words) = (key, word) ∷ pairs_in n words

abbrev pub pairs_of : List ℕ → List (ℕ × ℕ)
pairs_of words = pairs_in (count_in words) (drop 4 words)

-- Words in which a key can be sought: the pairs fit, their keys rise, and zeros stand behind them.
pub record HasPairs (words : List ℕ) : Type 0 where
  pub few : count_in words ≤ 14
  pub rises : RisesFrom 0 (pairs_of words)
  pub rest : (i : ℕ) → 4 + 2 * count_in words ≤ i → i < 32 → slice_index words i ≡ 0

-- how many words the entries take
abbrev pub width : Kind → ℕ → ℕ
width Anchor count = count
width Leaf count = 2 * count
width Inner count = 2 * count
width Dead count = 0

-- What is demanded of the words of each kind. Where they name pages, the numbers are below a bound.

abbrev pub IsOf : Kind → List ℕ → Type 0
IsOf kind words = kind_in words ≡ number kind

abbrev pub LevelFits : Kind → List ℕ → Type 0
LevelFits Anchor words = level_in words ≡ 0
LevelFits Leaf words = level_in words ≡ 0
LevelFits Inner words = (1 ≤ level_in words) × (level_in words ≤ 11)
LevelFits Dead words = level_in words ≤ 11

abbrev pub CountFits : Kind → List ℕ → Type 0
CountFits Anchor words = (1 ≤ count_in words) × (count_in words ≤ 12)
CountFits Leaf words = count_in words ≤ 14
CountFits Inner words = (1 ≤ count_in words) × (count_in words ≤ 14)
CountFits Dead words = count_in words ≡ 0

abbrev pub BoundsFit : ℕ → Kind → List ℕ → Type 0
BoundsFit most Anchor words = (slice_index words 1 ≡ 0) × (slice_index words 2 ≡ 0) × (slice_index words 3 ≡ 0)
BoundsFit most Leaf words = (slice_index words 1 < end_of (slice_index words 2)) × (slice_index words 3 < most)
BoundsFit most Inner words = (slice_index words 1 < end_of (slice_index words 2)) × (slice_index words 3 < most)
BoundsFit most Dead words = (slice_index words 2 ≡ 0) × (slice_index words 3 < most)

abbrev pub OrderFits : Kind → List ℕ → Type 0
OrderFits Anchor words = Unit {0}
OrderFits Leaf words = RisesFrom 0 (pairs_of words)
OrderFits Inner words = RisesFrom 0 (pairs_of words)
OrderFits Dead words = Unit {0}

abbrev pub CoverFits : ℕ → Kind → List ℕ → Type 0
CoverFits most Anchor words = AreNumbers most (take (count_in words) (drop 4 words))
CoverFits most Leaf words = AllWithin (slice_index words 1) (slice_index words 2) (pairs_of words)
CoverFits most Inner words =
    AllWithin (slice_index words 1) (slice_index words 2) (pairs_of words) × BeginsWith (slice_index words 1) (pairs_of words) × NameNumbers most (pairs_of words)
CoverFits most Dead words = Unit {0}

abbrev pub RestFits : Kind → List ℕ → Type 0
RestFits kind words = (i : ℕ) → 4 + width kind (count_in words) ≤ i → i < 32 → slice_index words i ≡ 0

-- The fault is the first that applies: the demands before it are met, its own is not.
abbrev pub IsWordFault : ℕ → WordFault → List ℕ → Type 0
IsWordFault most fault.Kind words = (kind : Kind) → ¬ IsOf kind words
IsWordFault most fault.Level words = (kind : Kind) × IsOf kind words × ¬ LevelFits kind words
IsWordFault most fault.Count words = (kind : Kind) × IsOf kind words × LevelFits kind words × ¬ CountFits kind words
IsWordFault most fault.Bounds words = (kind : Kind) × IsOf kind words × LevelFits kind words × CountFits kind words × ¬ BoundsFit most kind words
IsWordFault most fault.Order words = (kind : Kind) × IsOf kind words × LevelFits kind words × CountFits kind words × BoundsFit most kind words × ¬ OrderFits kind words
IsWordFault most fault.Cover words =
    (kind : Kind) × IsOf kind words × LevelFits kind words × CountFits kind words × BoundsFit most kind words × OrderFits kind words × ¬ CoverFits most kind words
IsWordFault most fault.Rest words =
    (kind : Kind) × IsOf kind words × LevelFits kind words × CountFits kind words × BoundsFit most kind words × OrderFits kind words × CoverFits most kind words
    × ¬ RestFits kind words
