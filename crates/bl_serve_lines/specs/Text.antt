-- The text of requests and of replies.
use Rattle.std.specs.Prelude.{◌≡◌, ℕ, ◌<◌, ◌≤◌, ◌^◌, List, [], ◌∷◌, ◌++◌, All, length, flat_map, codes, decimal, None, Some, Option, IfSome}
use Rattle.bl_model.specs.declared.operation.Op.TheVariants.{Find, Insert, Put, Delete, Change, Part, PartDown}
use Rattle.bl_model.specs.declared.operation.Next.{Next}
use Rattle.bl_model.specs.declared.operation.Next.TheVariants.{More, End}
use Rattle.bl_model.specs.declared.operation.Reply.{Reply}
use Rattle.bl_model.specs.declared.operation.Reply.TheVariants.{Found, Absent, Inserted, Present, Replaced, Deleted, Changed, Differs, Rows, NoRoom}
use Rattle.bl_serve_lines.specs.declared.listing.Listing.TheVariants as listing
use Rattle.bl_serve_lines.specs.declared.request.Request.{Request}
use Rattle.bl_serve_lines.specs.declared.request.Request.TheVariants.{Ask, Add, Scan, Save, Stat, Sync}
use Rattle.bl_serve_lines.specs.declared.print.Response.{Response}
use Rattle.bl_serve_lines.specs.declared.print.Response.TheVariants.{Replied, Stated, Synced, Malformed}

-- what stands behind the bounds of a scan that has this limit of rows
abbrev pub limit_text : Option ℕ → List ℕ
limit_text None = []
limit_text (Some most) = codes " limit " ++ decimal most

-- a limit has 32 bits
abbrev pub IsLimit : Option ℕ → Type 0
IsLimit limit = IfSome limit (λ most. most < 2 ^ 32)

-- what may name a file in a line: 1 to 64 bytes, none of which is a space or below it
pub record IsFileName (name : List ℕ) : Type 0 where
  pub some : 0 < length name
  pub short : length name ≤ 64
  pub plain : All (λ b. 32 < b) name

-- the line is a spelling of the request, whose numbers have 64 bits; no line asks for one part alone
abbrev pub Spells : List ℕ → Request → Type 0
Spells line (Ask (Find key)) = (key < 2 ^ 64) × (line ≡ codes "find " ++ decimal key)
Spells line (Ask (Insert key value)) = (key < 2 ^ 64) × (value < 2 ^ 64) × (line ≡ codes "insert " ++ decimal key ++ codes " " ++ decimal value)
Spells line (Ask (Put key value)) = (key < 2 ^ 64) × (value < 2 ^ 64) × (line ≡ codes "put " ++ decimal key ++ codes " " ++ decimal value)
Spells line (Ask (Delete key)) = (key < 2 ^ 64) × (line ≡ codes "delete " ++ decimal key)
Spells line (Ask (Change key old new)) =
    (key < 2 ^ 64) × (old < 2 ^ 64) × (new < 2 ^ 64) × (line ≡ codes "change " ++ decimal key ++ codes " " ++ decimal old ++ codes " " ++ decimal new)
Spells line (Ask (Part from)) = ⊥
Spells line (Ask (PartDown from)) = ⊥
Spells line (Add key number) = (key < 2 ^ 64) × (number < 2 ^ 64) × (line ≡ codes "add " ++ decimal key ++ codes " " ++ decimal number)
Spells line (Scan (listing.Scan low high limit)) =
    (low < 2 ^ 64) × (high < 2 ^ 64) × IsLimit limit × (line ≡ codes "scan " ++ decimal low ++ codes " " ++ decimal high ++ limit_text limit)
Spells line (Scan (listing.ScanFrom low limit)) = (low < 2 ^ 64) × IsLimit limit × (line ≡ codes "scanfrom " ++ decimal low ++ limit_text limit)
Spells line (Scan (listing.ScanDown low high limit)) =
    (low < 2 ^ 64) × (high < 2 ^ 64) × IsLimit limit × (line ≡ codes "scandown " ++ decimal low ++ codes " " ++ decimal high ++ limit_text limit)
Spells line (Scan (listing.ScanDownFrom high limit)) = (high < 2 ^ 64) × IsLimit limit × (line ≡ codes "scandownfrom " ++ decimal high ++ limit_text limit)
Spells line (Scan listing.First) = line ≡ codes "first"
Spells line (Scan listing.Last) = line ≡ codes "last"
Spells line (Scan (listing.Next key)) = (key < 2 ^ 64) × (line ≡ codes "next " ++ decimal key)
Spells line (Scan (listing.Previous key)) = (key < 2 ^ 64) × (line ≡ codes "previous " ++ decimal key)
Spells line (Scan (listing.Count low high)) = (low < 2 ^ 64) × (high < 2 ^ 64) × (line ≡ codes "count " ++ decimal low ++ codes " " ++ decimal high)
Spells line Save = (name : List ℕ) × IsFileName name × (line ≡ codes "save " ++ name)
Spells line Stat = line ≡ codes "stat"
Spells line Sync = line ≡ codes "sync"

-- the line is a spelling of no request
abbrev pub IsMalformed : List ℕ → Type 0
IsMalformed line = (request : Request) → Spells line request → ⊥

-- what a line means: a request, or nothing
abbrev pub Means : List ℕ → Option Request → Type 0
Means line (Some request) = Spells line request
Means line None = IsMalformed line

-- how a row is printed
abbrev pub row_text : ℕ × ℕ → List ℕ
row_text row = codes " " ++ decimal row.0 ++ (codes "=" ++ decimal row.1)

-- how it is printed where a part went
abbrev pub next_text : Next → List ℕ
next_text (More key) = codes " more " ++ decimal key
next_text End = codes " end"

-- how a reply is printed
abbrev pub reply_text : Reply → List ℕ
reply_text (Found value) = codes "found " ++ decimal value
reply_text Absent = codes "absent"
reply_text Inserted = codes "inserted"
reply_text (Present value) = codes "present " ++ decimal value
reply_text (Replaced value) = codes "replaced " ++ decimal value
reply_text (Deleted value) = codes "deleted " ++ decimal value
reply_text Changed = codes "changed"
reply_text (Differs value) = codes "differs " ++ decimal value
reply_text (Rows rows next) = codes "rows" ++ flat_map row_text rows.items ++ next_text next
reply_text NoRoom = codes "noroom"

-- how the room of an index is printed: all pages, those in use, and those that may be taken
abbrev pub room_text : ℕ → ℕ → ℕ → List ℕ
room_text all used free = codes "pages " ++ decimal all ++ (codes " used " ++ decimal used) ++ (codes " free " ++ decimal free)

-- what is printed behind a line's number
abbrev pub response_text : Response → List ℕ
response_text (Replied reply) = reply_text reply
response_text (Stated all used free) = room_text all used free
response_text Synced = codes "synced"
response_text Malformed = codes "malformed"

-- a whole output line: the number, a space, the text, LF
abbrev pub numbered : ℕ → List ℕ → List ℕ
numbered number text = decimal number ++ codes " " ++ text ++ 10 ∷ []
