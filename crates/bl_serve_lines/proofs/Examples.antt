-- Worked examples of the definitions.
use Rattle.std.proofs.Common.{◌≡◌, ℕ, ◌<◌, true, false, List, [], ◌∷◌, codes, decimal, get_or, refl, ap, ◌∙◌, lit<, lit≤, Option, Some, None, arith}
use Rattle.std.proofs.lemmas.Fmt.{decimal_digit}
use Rattle.std.proofs.lemmas.List.Elements.{All-nil, All-cons}
use Rattle.bl_model.specs.declared.operation.Op.TheVariants.{Find, Insert, Change, Part, PartDown}
use Rattle.bl_model.specs.declared.operation.Reply.TheVariants.{Found, Absent, Inserted, Replaced, Changed, Differs, Rows}
use Rattle.bl_model.specs.declared.operation.Next.TheVariants.{More, End}
use Rattle.bl_model.specs.declared.operation.Entry.{Entry}
use Rattle.bl_model.specs.Map.{empty}
use Rattle.bl_model.specs.History.{IsLegalFrom}
use Rattle.bl_serve_lines.specs.declared.listing.Listing.{Listing}
use Rattle.bl_serve_lines.specs.declared.listing.Listing.TheVariants as listing
use Rattle.bl_serve_lines.specs.declared.request.Request.TheVariants.{Ask, Scan, Save, Sync}
use Rattle.bl_serve_lines.specs.Text.{Spells}
use Rattle.bl_serve_lines.specs.Scans.{AreParts, scan_of}
use Rattle.bl_serve_lines.specs.Lines.{Line, Adds, Fits, Replied, Added, Scanned, Saved, Stated, Synced, answer_text, input_of, output_of, rest_text, text_of}
use Rattle.bl_serve_lines.specs.Served.{Interleaves, on_key}
use Rattle.bl_serve_lines.specs.Served.Interleaves.{Done, Takes}

abbrev inserted : Entry
inserted = record { pass = 0; op = Insert 1 5; reply = Inserted }

abbrev found : Entry
found = record { pass = 0; op = Find 1; reply = Found 5 }

-- with two workers, the find of the second line may come first, if it is of another key
abbrev missed : Entry
missed = record { pass = 1; op = Find 2; reply = Absent }

find_first_is_legal : IsLegalFrom empty (missed ∷ inserted ∷ [])
find_first_is_legal = (refl, (refl, tt))

find_first_interleaves : Interleaves ((inserted ∷ []) ∷ (missed ∷ []) ∷ []) (missed ∷ inserted ∷ [])
find_first_interleaves = Takes ((inserted ∷ []) ∷ []) missed [] [] (inserted ∷ []) (Takes [] inserted [] ([] ∷ []) []
    (Done ([] ∷ [] ∷ []) (All-cons (λ list. list ≡ []) [] ([] ∷ []) refl (All-cons (λ list. list ≡ []) [] [] refl (All-nil (λ list. list ≡ []))))))

-- one of the same key may not
abbrev too_soon : Entry
too_soon = record { pass = 1; op = Find 1; reply = Absent }

find_too_soon : ((key : ℕ) → on_key key (too_soon ∷ inserted ∷ []) ≡ on_key key (inserted ∷ too_soon ∷ [])) → ⊥
find_too_soon order = let e = ap first_pass (order 1) in omega (arith, e)
  where
    first_pass : List Entry → ℕ
    first_pass [] = 0
    first_pass (e ∷ es) = e.pass

one : decimal 1 ≡ codes "1"
one = decimal_digit 1 (lit< tt)

two : decimal 2 ≡ codes "2"
two = decimal_digit 2 (lit< tt)

three : decimal 3 ≡ codes "3"
three = decimal_digit 3 (lit< tt)

four : decimal 4 ≡ codes "4"
four = decimal_digit 4 (lit< tt)

five : decimal 5 ≡ codes "5"
five = decimal_digit 5 (lit< tt)

-- a line and what it spells
insert_line : Spells (codes "insert 1 5") (Ask (Insert 1 5))
insert_line = (lit< tt, lit< tt, simp (one, five))

-- the key, then what it is to have, then what it gets
change_line : Spells (codes "change 1 5 2") (Ask (Change 1 5 2))
change_line = (lit< tt, lit< tt, lit< tt, simp (one, five, two))

-- the other way round it is another request
change_back : Spells (codes "change 1 5 2") (Ask (Change 1 2 5)) → ⊥
change_back spells =
    let other : codes "change 1 5 2" ≡ codes "change 1 2 5" = spells.3 ∙ simp (one, two, five) in
    let byte : 53 ≡ 50 = ap (λ t. get_or t 9 0) other in omega (arith, byte)

sync_line : Spells (codes "sync") Sync
sync_line = refl

-- a line that names a file
save_line : Spells (codes "save it") Save
save_line = (codes "it", record { some = lit< tt; short = lit≤ tt; plain = All-cons (λ b. 32 < b) 105 (116 ∷ []) (lit< tt) (All-cons (λ b. 32 < b) 116 [] (lit< tt) (All-nil (λ b. 32 < b))) }, refl)

-- two rows of a leaf, which is the whole map, went into a file; or did not
abbrev all_rows : Entry
all_rows = record { pass = 0; op = Part 0; reply = Rows (record { items = (1, 5) ∷ (3, 4) ∷ [] }) End }

saved_written : answer_text (Saved (all_rows ∷ []) true) ≡ codes "saved 2"
saved_written = simp two

unsaved_written : answer_text (Saved (all_rows ∷ []) false) ≡ codes "unsaved"
unsaved_written = refl

-- of four pages, one may be retired, and not one more than there are
stat_fits : Fits (4, 4) (codes "stat") (Stated 4 2 1)
stat_fits = (refl, (lit≤ tt, lit≤ tt, lit≤ tt))

stat_of_five : Fits (4, 4) (codes "stat") (Stated 5 2 1) → ⊥
stat_of_five fits = let all = fits.1.1 in omega (arith, all)

-- an index that may grow to eight may have five by now, and has no fewer than four
stat_grown : Fits (4, 8) (codes "stat") (Stated 5 2 1)
stat_grown = (refl, (lit≤ tt, lit≤ tt, lit≤ tt))

stat_of_three : Fits (4, 8) (codes "stat") (Stated 3 2 1) → ⊥
stat_of_three fits = let all = fits.1.0 in omega (arith, all)

stat_of_too_many : Fits (4, 4) (codes "stat") (Stated 4 3 2) → ⊥
stat_of_too_many fits = let few = fits.1.2 in omega (arith, few)

stat_written : answer_text (Stated 4 2 1) ≡ codes "pages 4 used 2 free 1"
stat_written = simp (four, two, one)

-- three lines with their answers, as they are read and written, and bytes with no LF behind them
abbrev lines : List Line
lines = record { bytes = codes "insert 1 5"; answer = Replied inserted } ∷ record { bytes = codes "find 1"; answer = Replied found } ∷ record { bytes = codes "sync"; answer = Synced } ∷ []

as_read : input_of lines ≡ codes "insert 1 5\nfind 1\nsync\n"
as_read = refl

as_written : output_of 1 lines ≡ codes "1 inserted\n2 found 5\n3 synced\n"
as_written = simp (one, two, three, five)

text_written : text_of 1 lines (codes "find") ≡ codes "1 inserted\n2 found 5\n3 synced\n4 malformed\n"
text_written = simp (one, two, three, four, five)

rest_written : rest_text 4 (codes "find") ≡ codes "4 malformed\n"
rest_written = simp four

abbrev changed : Entry
changed = record { pass = 0; op = Change 1 5 2; reply = Changed }

-- another value than the old one is there
abbrev kept : Entry
kept = record { pass = 0; op = Change 1 5 2; reply = Differs 2 }

changes_are_legal : IsLegalFrom empty (inserted ∷ changed ∷ kept ∷ [])
changes_are_legal = (refl, (refl, ((refl, λ same. omega (arith, same)), tt)))

abbrev changes : List Line
changes = record { bytes = codes "change 1 5 2"; answer = Replied changed } ∷ record { bytes = codes "change 1 5 2"; answer = Replied kept } ∷ []

changes_written : output_of 1 changes ≡ codes "1 changed\n2 differs 2\n"
changes_written = simp (one, two)

scan_line : Spells (codes "scan 1 4") (Scan (listing.Scan 1 4 None))
scan_line = (lit< tt, lit< tt, tt, simp (one, four))

-- at most two rows of it
limited_line : Spells (codes "scan 1 4 limit 2") (Scan (listing.Scan 1 4 (Some 2)))
limited_line = (lit< tt, lit< tt, lit< tt, simp (one, four, two))

abbrev first_part : Entry
first_part = record { pass = 0; op = Part 1; reply = Rows (record { items = (1, 2) ∷ (2, 3) ∷ [] }) (More 3) }

abbrev second_part : Entry
second_part = record { pass = 0; op = Part 3; reply = Rows (record { items = (3, 1) ∷ (4, 5) ∷ [] }) End }

abbrev both : List Entry
both = first_part ∷ second_part ∷ []

abbrev Parts : Listing → List Entry → Type 0
Parts asked parts = AreParts (scan_of asked) parts

scan_parts : Parts (listing.Scan 1 4 None) both
scan_parts = (1, refl, refl, (3, refl, refl, refl))

-- a scan from 5 up to 5 has none
no_parts : Parts (listing.Scan 5 5 None) []
no_parts = refl

none_written : answer_text (Scanned (listing.Scan 5 5 None) []) ≡ codes "rows"
none_written = refl

-- a scan from 1 up to 4 in two parts, of which the second goes on past its end
scan_written : answer_text (Scanned (listing.Scan 1 4 None) both) ≡ codes "rows 1=2 2=3 3=1"
scan_written = simp (one, two, three)

-- a scan from 1 on in the same parts lists all their rows
scan_from_fits : Fits (4, 4) (codes "scanfrom 1") (Scanned (listing.ScanFrom 1 None) both)
scan_from_fits = ((lit< tt, tt, simp one), (1, refl, refl, (3, refl, refl, refl)))

scan_from_written : answer_text (Scanned (listing.ScanFrom 1 None) both) ≡ codes "rows 1=2 2=3 3=1 4=5"
scan_from_written = simp (one, two, three, four, five)

-- it has not ended where the map goes on, and one that lists two rows at most has; no part is read behind it
first_part_alone : Parts (listing.ScanFrom 1 None) (first_part ∷ []) → ⊥
first_part_alone are = let e : ◌≡◌ {A = Option ℕ} (Some 3) None = are.3 in let never : ⊥ = cc in never

first_part_of_two : Parts (listing.ScanFrom 1 (Some 2)) (first_part ∷ [])
first_part_of_two = (1, refl, refl, refl)

a_part_too_many : Parts (listing.ScanFrom 1 (Some 2)) both → ⊥
a_part_too_many are = let e : ◌≡◌ {A = Option ℕ} None (Some are.3.0) = are.3.1 in let never : ⊥ = cc in never

-- three rows take both, and the fourth one is not listed
three_written : answer_text (Scanned (listing.ScanFrom 1 (Some 3)) both) ≡ codes "rows 1=2 2=3 3=1"
three_written = simp (one, two, three)

-- the first row of all, and the one behind 1, which begins at 2
first_written : answer_text (Scanned listing.First (first_part ∷ [])) ≡ codes "rows 1=2"
first_written = simp (one, two)

next_begins : (scan_of (listing.Next 1)).from ≡ Some 2
next_begins = refl

-- there is none behind the greatest key, and none before the least one
none_behind : Parts (listing.Next 18446744073709551615) []
none_behind = refl

none_before : Parts (listing.Previous 0) []
none_before = refl

count_written : answer_text (Scanned (listing.Count 1 4) both) ≡ codes "count 3"
count_written = simp three

abbrev high_part : Entry
high_part = record { pass = 0; op = PartDown 3; reply = Rows (record { items = (3, 1) ∷ [] }) (More 2) }

abbrev low_part : Entry
low_part = record { pass = 0; op = PartDown 2; reply = Rows (record { items = (2, 3) ∷ (1, 2) ∷ [] }) End }

-- a scan from below 4 down to 2 in two parts, of which the second goes on past its end
scan_down_fits : Fits (4, 4) (codes "scandown 2 4") (Scanned (listing.ScanDown 2 4 None) (high_part ∷ low_part ∷ []))
scan_down_fits = ((lit< tt, lit< tt, tt, simp (two, four)), (3, refl, refl, (2, refl, refl, refl)))

scan_down_written : answer_text (Scanned (listing.ScanDown 2 4 None) (high_part ∷ low_part ∷ [])) ≡ codes "rows 3=1 2=3"
scan_down_written = simp (one, two, three)

-- one from 3 on has the same parts
scan_down_from_fits : Fits (4, 4) (codes "scandownfrom 3") (Scanned (listing.ScanDownFrom 3 None) (high_part ∷ low_part ∷ []))
scan_down_from_fits = ((lit< tt, tt, simp three), (3, refl, refl, (2, refl, refl, refl)))

-- below 0 there is no key, and below 3 none from 3 on
no_parts_down : Parts (listing.ScanDown 0 0 None) []
no_parts_down = refl

none_from_three : Parts (listing.ScanDown 3 3 None) []
none_from_three = refl

-- an addition finds 5, and changes it to 7; the reply says what was there
abbrev to_seven : Entry
to_seven = record { pass = 0; op = Change 1 5 7; reply = Changed }

sum_fits : Fits (4, 4) (codes "add 1 2") (Added 1 2 (found ∷ to_seven ∷ []) (Replaced 5))
sum_fits = ((lit< tt, lit< tt, simp (one, two)), (refl, (refl, (refl, refl))))

sum_written : answer_text (Added 1 2 (found ∷ to_seven ∷ []) (Replaced 5)) ≡ codes "replaced 5"
sum_written = simp five

sums_are_legal : IsLegalFrom empty (inserted ∷ found ∷ to_seven ∷ [])
sums_are_legal = (refl, (refl, (refl, tt)))

-- what is not there stays away
no_sum : Adds 2 5 None (missed ∷ []) Absent
no_sum = (refl, (refl, refl))

-- nothing is changed that was not looked up
from_nowhere : Adds 1 2 None (to_seven ∷ []) (Replaced 5) → ⊥
from_nowhere adds = let e : Change 1 5 7 ≡ Find 1 = adds.0 in let never : ⊥ = cc in never
