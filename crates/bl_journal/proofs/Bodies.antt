-- The bodies of records: what they say, that words tell one list of them, and the map that is left.
use Rattle.std.proofs.Common.{◌≡◌, ℕ, ◌+◌, ◌*◌, List, [], ◌∷◌, ◌++◌, length, take, drop, refl, sym, ◌∙◌, ap, subst, arith, Option}
use Rattle.std.specs.Prelude.{flat_map}
use Rattle.std.proofs.lemmas.List.{take_at, drop_at, append-nil}
use Rattle.std.proofs.lemmas.Grind.{flat_map-append}
use Rattle.bl_journal.specs.Rows.{times, IsLeft, Leads, AreLeft}
use Rattle.bl_image.specs.Images.{word_bytes, Fits64}
use Rattle.bl_journal.specs.Records.{Begins, Tells, HasRecords, row_words, rows_in, body_words, came_in, went_in}
use Rattle.bl_journal.specs.Logs.{IsLogOf}
use Rattle.bl_journal.proofs.Leaving.{times-append}
use Rattle.bl_journal.proofs.Spelling.{bytes_same}
use Rattle.bl_journal.specs.Parts.{TellsRows}

length-row_words : (rows : List (ℕ × ℕ)) → length (row_words rows) ≡ 2 * length rows
length-row_words [] = refl
length-row_words (row ∷ rows) = let rest = length-row_words rows in omega arith

rows_of_words : (rows : List (ℕ × ℕ)) → rows_in (row_words rows) ≡ rows
rows_of_words [] = refl
rows_of_words (row ∷ rows) = ap (λ (l : List (ℕ × ℕ)). row ∷ l) (rows_of_words rows)

pub came_of_body : (came went : List (ℕ × ℕ)) → came_in (body_words came went) ≡ came
came_of_body came went = ap rows_in (take_at (row_words came) (row_words went) (2 * length came) (length-row_words came)) ∙ rows_of_words came

pub went_of_body : (came went : List (ℕ × ℕ)) → went_in (body_words came went) ≡ went
went_of_body came went = ap rows_in (drop_at (row_words came) (row_words went) (2 * length came) (length-row_words came)) ∙ rows_of_words went

-- a record stands in one way at the front of words
same_body : (salt : ℕ) (words body rest body' rest' : List ℕ) → Begins salt words body rest → Begins salt words body' rest' → (body ≡ body') × (rest ≡ rest')
same_body salt words body rest body' rest' one other =
    let is : (4 + length body) ∷ one.low ∷ one.high ∷ salt ∷ (body ++ rest) ≡ (4 + length body') ∷ other.low ∷ other.high ∷ salt ∷ (body' ++ rest') = sym one.words_are ∙ other.words_are in
    let count : 4 + length body ≡ 4 + length body' = cc in
    let behind : body ++ rest ≡ body' ++ rest' = cc in
    let long : length body' ≡ length body = omega arith in (
      sym (take_at body rest (length body) refl) ∙ ap (λ (l : List ℕ). take (length body) l) behind ∙ take_at body' rest' (length body) long,
      sym (drop_at body rest (length body) refl) ∙ ap (λ (l : List ℕ). drop (length body) l) behind ∙ drop_at body' rest' (length body) long,
    )

same_bodies : (salt : ℕ) (words : List ℕ) (bodies others : List (List ℕ)) → Tells salt words bodies → Tells salt words others → bodies ≡ others
same_bodies salt words [] [] one other = refl
same_bodies salt words [] (body ∷ others) one other = absurd (one body other.0 other.1)
same_bodies salt words (body ∷ bodies) [] one other = absurd (other body one.0 one.1)
same_bodies salt words (body ∷ bodies) (body' ∷ others) one other =
    let same = same_body salt words body one.0 body' other.0 one.1 other.1 in
    let rest = same_bodies salt one.0 bodies others one.2 (subst (λ (l : List ℕ). Tells salt l others) (sym same.1) other.2) in
    let first : body ≡ body' = same.0 in
    cc

-- the rows of one record more, counted
times_push : (key value : ℕ) (read : List ℕ → List (ℕ × ℕ)) (bodies : List (List ℕ)) (body : List ℕ) (rows : List (ℕ × ℕ)) → read body ≡ rows
    → times key value (flat_map read (bodies ++ body ∷ [])) ≡ times key value (flat_map read bodies) + times key value rows
times_push key value read bodies body rows is =
    ap (λ (l : List (ℕ × ℕ)). times key value l) (flat_map-append read bodies (body ∷ []) ∙ ap (λ (l : List (ℕ × ℕ)). flat_map read bodies ++ l) (append-nil (read body) ∙ is))
    ∙ times-append key value (flat_map read bodies) rows

-- the map after one record more
pub left_more : (bodies : List (List ℕ)) (came went : List (ℕ × ℕ)) (old new : ℕ → Option ℕ)
    → IsLeft (flat_map came_in bodies) (flat_map went_in bodies) old → Leads came went old new
    → IsLeft (flat_map came_in (bodies ++ body_words came went ∷ [])) (flat_map went_in (bodies ++ body_words came went ∷ [])) new
left_more bodies came went old new left leads key value =
    let c1 = times_push key value came_in bodies (body_words came went) came (came_of_body came went) in
    let c2 = times_push key value went_in bodies (body_words came went) went (went_of_body came went) in
    omega (arith, left key value, leads key value, c1, c2)

-- the map after these rows came and those went
pub left_with : (rows came went after : List (ℕ × ℕ)) (old new : ℕ → Option ℕ) → IsLeft rows [] old → Leads came went old new → AreLeft (rows ++ came) went after → IsLeft after [] new
left_with rows came went after old new left leads are key value =
    let c = times-append key value rows came in
    omega (arith, left key value, leads key value, are key value, c)

-- the same map, by its rows
pub left_same : (came went : List (ℕ × ℕ)) (old new : ℕ → Option ℕ) → IsLeft came went old → Leads [] [] old new → IsLeft came went new
left_same came went old new left leads key value = omega (arith, left key value, leads key value)

pub nothing_leads : (m : ℕ → Option ℕ) → Leads [] [] m m
nothing_leads m key value = refl

-- one record of all rows
pub left_of_rows : (rows : List (ℕ × ℕ)) (m : ℕ → Option ℕ) → IsLeft rows [] m → IsLeft (flat_map came_in (body_words rows [] ∷ [])) (flat_map went_in (body_words rows [] ∷ [])) m
left_of_rows rows m left key value =
    let c1 = times_push key value came_in [] (body_words rows []) rows (came_of_body rows []) in
    let c2 = times_push key value went_in [] (body_words rows []) [] (went_of_body rows []) in
    omega (arith, left key value, c1, c2)

-- what the words of a log tell is what its map has
pub left_told : (bytes words records : List ℕ) (first salt : ℕ) (came went rows : List (ℕ × ℕ)) (m : ℕ → Option ℕ) → word_bytes words ≡ bytes → Fits64 words → words ≡ first ∷ salt ∷ records
    → IsLogOf bytes m → TellsRows salt records came went → AreLeft came went rows → IsLeft rows [] m
left_told bytes words records first salt came went rows m spelled fits is log told are key value =
    let same : log.words ≡ words = bytes_same log.words words log.fits fits (sym log.spelled ∙ sym spelled) in
    let theirs : HasRecords (first ∷ salt ∷ records) log.bodies = subst (λ (l : List ℕ). HasRecords l log.bodies) (same ∙ is) log.records in
    let one = same_bodies salt records told.bodies log.bodies told.tells theirs.1 in
    let c1 = ap (λ (l : List (ℕ × ℕ)). times key value l) told.came_are in
    let c2 = ap (λ (l : List (ℕ × ℕ)). times key value l) told.went_are in
    let c3 = ap (λ (bs : List (List ℕ)). times key value (flat_map came_in bs)) one in
    let c4 = ap (λ (bs : List (List ℕ)). times key value (flat_map went_in bs)) one in
    omega (arith, c1, c2, c3, c4, log.left key value, are key value)
