-- The 32 words of a page.
use Rattle.std.specs.Prelude.{ℕ, ◌+◌, ◌*◌, ◌-◌, ◌^◌, ◌<◌, List, [], ◌∷◌, ◌++◌, length, replicate}
use Rattle.bl_page.specs.declared.page.Page.{Page}
use Rattle.bl_page.specs.declared.page.Page.TheVariants.{Anchor, Leaf, Inner, Dead}
use Rattle.bl_page.specs.Pairs.{NameNumbers, AreNumbers}

-- the kind in the upper half of word 0, then the level and the count, 16 bits each
abbrev pub head : ℕ → ℕ → ℕ → ℕ
head kind level count = kind * 2 ^ 32 + level * 2 ^ 16 + count

-- two words for each pair: the key, and what stands with it
abbrev pub entries_of : List (ℕ × ℕ) → List ℕ
entries_of [] = []
entries_of (pair ∷ pairs) = pair.0 ∷ pair.1 ∷ entries_of pairs

-- word 0, the bounds, the link, the entries, and zeros up to 32 words
abbrev pub layout : ℕ → ℕ → ℕ → ℕ → List ℕ → List ℕ
layout first low high right entries = first ∷ low ∷ high ∷ right ∷ entries ++ replicate (28 - length entries) 0

abbrev pub words_of : Page → List ℕ
words_of (Anchor a) = layout (head 1 0 (length a.leftmost.items)) 0 0 0 a.leftmost.items
words_of (Leaf l) = layout (head 2 0 (length l.rows.items)) l.low l.high l.right (entries_of l.rows.items)
words_of (Inner i) = layout (head 3 i.level (length i.children.items)) i.low i.high i.right (entries_of i.children.items)
words_of (Dead d) = layout (head 4 d.level 0) d.low 0 d.right []

-- Every page that it names has a number below that bound. Words of version 1 name pages below 2 ^ 16.
abbrev pub IsBelow : ℕ → Page → Type 0
IsBelow most (Anchor a) = AreNumbers most a.leftmost.items
IsBelow most (Leaf l) = l.right < most
IsBelow most (Inner i) = (i.right < most) × NameNumbers most i.children.items
IsBelow most (Dead d) = d.right < most
