-- The rows that a line asks for: the scan that lists them, its parts, and what is told of them.
use Rattle.std.specs.Prelude.{◌≡◌, ℕ, zero, suc, ◌-◌, ◌^◌, Bool, true, ◌&&◌, if◌then◌else◌, Option, Some, None, List, [], ◌∷◌, ◌++◌, length, take, flat_map, filter, nat_le, nat_lt, codes, decimal}
use Rattle.bl_model.specs.declared.operation.Op.{Op}
use Rattle.bl_model.specs.declared.operation.Op.TheVariants.{Part, PartDown}
use Rattle.bl_model.specs.declared.operation.Reply.{Reply}
use Rattle.bl_model.specs.Parts.{rows_of, ended_at}
use Rattle.bl_model.specs.declared.operation.Entry.{Entry}
use Rattle.bl_serve_lines.specs.declared.listing.Listing.{Listing}
use Rattle.bl_serve_lines.specs.declared.listing.Listing.TheVariants as listing
use Rattle.bl_serve_lines.specs.declared.listing.Until.{Until}
use Rattle.bl_serve_lines.specs.declared.listing.Until.TheVariants.{Top, Below, DownTo}
use Rattle.bl_serve_lines.specs.declared.listing.Tells.{Tells}
use Rattle.bl_serve_lines.specs.declared.listing.Tells.TheVariants as tells
use Rattle.bl_serve_lines.specs.declared.listing.Scan.{Scan}
use Rattle.bl_serve_lines.specs.Text.{row_text}

-- the greatest key below that one, if there is one
abbrev pub key_below : ℕ → Option ℕ
key_below zero = None
key_below (suc key) = Some key

-- the least key above it
abbrev pub key_above : ℕ → Option ℕ
key_above key = if nat_lt key (2 ^ 64 - 1) then Some (suc key) else None

-- what is told of the rows of a scan that has this limit
abbrev pub limited : Option ℕ → Tells
limited None = tells.All
limited (Some most) = tells.First most

-- the scan that a line asks for: from which key on, if there is one, up to where, and what is told of its rows
abbrev pub scan_of : Listing → Scan
scan_of (listing.Scan low high limit) = record { from = Some low; until = Below high; tells = limited limit }
scan_of (listing.ScanFrom low limit) = record { from = Some low; until = Top; tells = limited limit }
scan_of (listing.ScanDown low high limit) = record { from = key_below high; until = DownTo low; tells = limited limit }
scan_of (listing.ScanDownFrom high limit) = record { from = Some high; until = DownTo 0; tells = limited limit }
scan_of listing.First = record { from = Some 0; until = Top; tells = tells.First 1 }
scan_of listing.Last = record { from = Some (2 ^ 64 - 1); until = DownTo 0; tells = tells.First 1 }
scan_of (listing.Next key) = record { from = key_above key; until = Top; tells = tells.First 1 }
scan_of (listing.Previous key) = record { from = key_below key; until = DownTo 0; tells = tells.First 1 }
scan_of (listing.Count low high) = record { from = Some low; until = Below high; tells = tells.Count }

-- the key lies before the end of a scan
abbrev pub is_before : Until → ℕ → Bool
is_before Top key = true
is_before (Below high) key = nat_lt key high
is_before (DownTo low) key = nat_le low key

-- rows are wanted
abbrev pub wants_more : Tells → Bool
wants_more tells.All = true
wants_more (tells.First most) = nat_lt 0 most
wants_more tells.Count = true

-- what is told behind so many rows
abbrev pub less : Tells → ℕ → Tells
less tells.All met = tells.All
less (tells.First most) met = tells.First (most - met)
less tells.Count met = tells.Count

-- the key from which a scan goes on: none, where it lies behind the end, or no rows are wanted
abbrev pub place_in : Until → Tells → Option ℕ → Option ℕ
place_in until tells None = None
place_in until tells (Some from) = if is_before until from && wants_more tells then Some from else None

abbrev pub place_of : Scan → Option ℕ
place_of scan = place_in scan.until scan.tells scan.from

-- the operation that lists the rows of a leaf from that key on
abbrev pub part_of : Until → ℕ → Op
part_of Top from = Part from
part_of (Below high) from = Part from
part_of (DownTo low) from = PartDown from

-- the rows that lie before the end
abbrev pub rows_before : Until → List (ℕ × ℕ) → List (ℕ × ℕ)
rows_before until rows = filter (λ row. is_before until row.0) rows

-- what is left of a scan behind a part
abbrev pub behind : Scan → Reply → Scan
behind scan reply = record { from = ended_at reply; until = scan.until; tells = less scan.tells (length (rows_before scan.until (rows_of reply))) }

-- The parts of a scan, each from the key from which it goes on behind the others. Behind the last one there is none.
abbrev pub AreParts : Scan → List Entry → Type 0
AreParts scan [] = place_of scan ≡ None
AreParts scan (part ∷ parts) = (from : ℕ) × (place_of scan ≡ Some from) × (part.op ≡ part_of scan.until from) × AreParts (behind scan part.reply) parts

-- those of its rows that are told
abbrev pub shown : Tells → List (ℕ × ℕ) → List (ℕ × ℕ)
shown tells.All rows = rows
shown (tells.First most) rows = take most rows
shown tells.Count rows = []

-- what is printed of its rows
abbrev pub told_text : Tells → List (ℕ × ℕ) → List ℕ
told_text tells.Count rows = codes "count " ++ decimal (length rows)
told_text tells rows = codes "rows" ++ flat_map row_text (shown tells rows)
