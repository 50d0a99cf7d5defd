-- What a server says at its end of requests that were malformed.
use Rattle.std.specs.Prelude.{ℕ, List, ◌++◌, codes, decimal}
use Rattle.bl_serve_lines.specs.declared.wrong.Wrong.{Wrong}
use Rattle.bl_serve_lines.specs.declared.wrong.Wrong.TheVariants.{Word, Long, Open}

-- the line of one
abbrev pub one_malformed_text : ℕ → List ℕ
one_malformed_text first = codes "blink: 1 request was malformed: line " ++ decimal first

-- the line of so many, with the number of the first one's line
abbrev pub malformed_text : ℕ → ℕ → List ℕ
malformed_text malformed first = codes "blink: " ++ (decimal malformed ++ (codes " requests were malformed; the first is line " ++ decimal first))

-- what is said behind it of what is wrong with that line
abbrev pub wrong_text : Wrong → List ℕ
wrong_text (Word place) = codes ", at word " ++ decimal place
wrong_text Long = codes ", which has more than 69 bytes"
wrong_text Open = codes ", which ends without a line feed"
