-- The bytes of an image.
use Rattle.std.specs.List.{AllByRecursion}
use Rattle.std.specs.Prelude.{◌≡◌, ℕ, ◌+◌, ◌*◌, ◌^◌, ◌-◌, ◌<◌, ◌≤◌, ◌≢◌, zero, suc, max, nat_lt, if◌then◌else◌, List, [], ◌∷◌, ◌++◌, length, take, drop, codes, flat_map, replicate, Option, Some, None}
use Rattle.byteorder.specs.Endian.{little_bytes}
use Rattle.bl_page.specs.declared.page.Page.{Page}
use Rattle.bl_page.specs.Words.{words_of, IsBelow}
use Rattle.bl_image.specs.declared.fault.ImageFault.{ImageFault}
use Rattle.bl_image.specs.declared.fault.ImageFault.TheVariants as fault

-- up to 65,536 pages are version 1, more are version 2
abbrev pub version_of : ℕ → ℕ
version_of count = if nat_lt 65536 count then 2 else 1

-- what the numbers of pages are below that the words name, by the version
abbrev pub bound_of : ℕ → ℕ
bound_of count = if nat_lt 65536 count then 2 ^ 32 else 2 ^ 16

-- so many pages at least are stored of so many: all in version 1, and 4 in version 2
abbrev pub least_stored : ℕ → ℕ
least_stored count = if nat_lt 65536 count then 4 else count

-- what the head tells of so many stored pages: in version 1 nothing
abbrev pub told_of : ℕ → ℕ → ℕ
told_of count kept = if nat_lt 65536 count then kept else 0

-- the mark; the version, the number of pages, and what is told of the stored ones, four bytes each; and zeros
abbrev pub head_bytes : ℕ → ℕ → List ℕ
head_bytes count kept =
    codes "BLNKIDX1" ++ little_bytes 4 (version_of count) ++ little_bytes 4 count ++ little_bytes 4 (told_of count kept) ++ replicate 12 0

-- one page more in front: it counts where it is in use, or where one behind it is
abbrev pub one_more : Option Page → ℕ → ℕ
one_more None zero = 0
one_more None (suc n) = suc (suc n)
one_more (Some page) n = suc n

-- how many pages there are up to the last one that is in use
abbrev pub used_to : List (Option Page) → ℕ
used_to [] = 0
used_to (page ∷ pages) = one_more page (used_to pages)

-- how many pages are stored: in version 1 all, in version 2 those up to the last one in use, and 4 at least
abbrev pub stored : List (Option Page) → ℕ
stored pages = max (least_stored (length pages)) (used_to pages)

-- the words of a page, or zeros where it is not in use
abbrev pub page_words : Option Page → List ℕ
page_words None = replicate 32 0
page_words (Some page) = words_of page

-- each word as eight bytes, the lowest first
abbrev pub word_bytes : List ℕ → List ℕ
word_bytes words = flat_map (little_bytes 8) words

-- the words of a page, or of one that is not in use
abbrev pub IsSpelled : List ℕ → Type 0
IsSpelled words = (page : Option Page) × (words ≡ page_words page)

abbrev pub page_bytes : Option Page → List ℕ
page_bytes page = word_bytes (page_words page)

-- the head, and 256 bytes for each page that is stored
abbrev pub image_bytes : List (Option Page) → List ℕ
image_bytes pages = head_bytes (length pages) (stored pages) ++ flat_map page_bytes (take (stored pages) pages)

-- so many bytes has the image of these pages
abbrev pub image_size : List (Option Page) → ℕ
image_size pages = 32 + 256 * stored pages

-- an image has 4 to 2^28 pages
abbrev pub IsCount : ℕ → Type 0
IsCount count = (4 ≤ count) × (count ≤ 2 ^ 28)

-- the bytes of page x
abbrev pub chunk : List ℕ → ℕ → List ℕ
chunk bytes x = take 256 (drop (32 + 256 * x) bytes)

-- So many pages may be stored of so many, and in version 2 no page more than has to be: behind the fourth the last one is in use.
pub record IsStored (bytes : List ℕ) (count kept : ℕ) : Type 0 where
  pub least : least_stored count ≤ kept
  pub most : kept ≤ count
  pub last : least_stored count < kept → chunk bytes (kept - 1) ≢ replicate 256 0

-- The bytes begin with the head of so many pages, of which so many are stored, and have the length for these.
pub record IsHead (bytes : List ℕ) (count kept : ℕ) : Type 0 where
  pub count_fits : IsCount count
  pub kept_fits : IsStored bytes count kept
  pub long : length bytes ≡ 32 + 256 * kept
  pub head : take 32 bytes ≡ head_bytes count kept

-- words of 64 bits
abbrev pub Fits64 : List ℕ → Type 0
Fits64 words = AllByRecursion (λ word. word < 2 ^ 64) words

-- the page, if it is in use, names pages whose numbers are below that bound
abbrev pub NamesBelow : ℕ → Option Page → Type 0
NamesBelow most None = Unit {0}
NamesBelow most (Some page) = IsBelow most page

-- The bytes are those of a page that names such pages, or of one that is not in use.
abbrev pub ArePage : ℕ → List ℕ → Type 0
ArePage most bytes = (page : Option Page) × NamesBelow most page × Fits64 (page_words page) × (bytes ≡ page_bytes page)

-- The pages are those that are stored behind the head.
pub record AreStored (bytes : List ℕ) (count kept : ℕ) (pages : List (Option Page)) : Type 0 where
  pub many : length pages ≡ kept
  pub words : AllByRecursion (λ page. Fits64 (page_words page)) pages
  pub within : AllByRecursion (NamesBelow (bound_of count)) pages
  pub bytes_are : flat_map page_bytes pages ≡ drop 32 bytes

-- Why bytes are no image's: there is no such head, or page x is the least whose bytes are no page's. Memory says nothing of them.
abbrev pub IsFault : ImageFault → List ℕ → Type 0
IsFault fault.Head bytes = (count kept : ℕ) → ¬ IsHead bytes count kept
IsFault (fault.Page x) bytes = (count : ℕ) × (kept : ℕ) × IsHead bytes count kept × (x < kept)
    × ¬ ArePage (bound_of count) (chunk bytes x) × ((y : ℕ) → y < x → ArePage (bound_of count) (chunk bytes y))
IsFault fault.Memory bytes = Unit {0}

-- The bytes are the image of these pages.
pub record IsImage (pages : List (Option Page)) (bytes : List ℕ) : Type 0 where
  pub count : IsCount (length pages)
  pub words : AllByRecursion (λ page. Fits64 (page_words page)) pages
  pub bytes_are : bytes ≡ image_bytes pages

-- The pages name pages by numbers that the version has. Those of a sound image do, as each number is that of a page of the image.
abbrev pub AreWithin : List (Option Page) → Type 0
AreWithin pages = AllByRecursion (NamesBelow (bound_of (length pages))) pages
