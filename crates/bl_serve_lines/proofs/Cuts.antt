-- A line, piece by piece.
use Rattle.std.proofs.Common.{◌≡◌, ◌≢◌, ℕ, zero, suc, Bool, true, ◌+◌, ◌-◌, ◌<◌, ◌≤◌, min, List, [], ◌∷◌, ◌++◌, length, take, drop, get_or, slice_index, refl, ap, sym, ◌∙◌, subst, append_assoc, length-append, drop-cons, arith, inl, inr, Some, None, Result, Ok, OnOk}
use Rattle.std.proofs.Math.Seq.{take-append-add}
use Rattle.std.proofs.lemmas.Bool.{cases_lt, cases_eq, cases_Bool, cond-true, cond-false, false≢true}
use Rattle.std.proofs.lemmas.Bool.Decides.{nat_tests}
use Rattle.std.proofs.lemmas.List.{append-nil, take-append-le, take-append-drop, take_all, drop-take, get_or-take, length-take, length-take-le, length-drop, drop-drop}
use Rattle.std.proofs.lemmas.List.Elements.{All-from_get_or, All-append, All-nil}
use Rattle.memchr.specs.Find.{IsFirstByte, NoneBefore, Nowhere, Passes, is_byte, places, places_from}
use Rattle.bl_serve_lines.specs.Lines.{HasNoLf}
use Rattle.bl_serve_lines.specs.Streams.{IsFirstLine}

-- bytes of a slice that were put behind a list with room for 70
pub keep_is : (old piece new : List ℕ) (room kept : ℕ) → room + length old ≡ 70 → kept ≡ min (length piece) room → new ≡ old ++ take kept piece → new ≡ take 70 (old ++ piece)
keep_is old piece new room kept fits is e = e ∙ ap (λ t. old ++ t) (elim (cases_lt (length piece) room) [
  | inl less ↦ let all : kept ≡ length piece = omega arith in ap (λ n. take n piece) all ∙ take_all (length piece) piece (omega arith) ∙ sym (take_all room piece (omega arith))
  | inr more ↦ let some : kept ≡ room = omega arith in ap (λ n. take n piece) some
]) ∙ sym (take-append-add old piece room) ∙ ap (λ n. take n (old ++ piece)) (let size : length old + room ≡ 70 = omega (arith, fits) in size)

-- no LF stands before the first one
pub no_lf_before : (ahead : List ℕ) (place : ℕ) → place < length ahead → Nowhere (Passes (is_byte 10) ahead) 0 place → HasNoLf (take place ahead)
no_lf_before ahead place lt none = All-from_get_or (λ b. b ≢ 10) (take place ahead) 0 (λ i in_range e.
    let few : i < place = omega (arith, length-take-le place ahead (omega arith)) in
    none i (omega arith) few (grind (arith, nat_tests, get_or-take place ahead i 0 few, e)))

pub no_lf_any : (ahead : List ℕ) → Nowhere (Passes (is_byte 10) ahead) 0 (length ahead) → HasNoLf ahead
no_lf_any ahead none = All-from_get_or (λ b. b ≢ 10) ahead 0 (λ i in_range e. none i (omega arith) in_range (grind (arith, nat_tests, e)))

pub no_lf_nil : HasNoLf []
no_lf_nil = All-nil (λ b. b ≢ 10)

pub no_lf_more : (bytes piece : List ℕ) → HasNoLf bytes → HasNoLf piece → HasNoLf (bytes ++ piece)
no_lf_more bytes piece h k = All-append (λ b. b ≢ 10) bytes piece h k

-- a list at one of its bytes
pub split_at : (ahead : List ℕ) (place : ℕ) → place < length ahead → get_or ahead place 0 ≡ 10 → ahead ≡ take place ahead ++ 10 ∷ drop (place + 1) ahead
split_at ahead place lt e = sym (take-append-drop place ahead) ∙ ap (λ t. take place ahead ++ t) (drop-cons ahead place 0 lt ∙ ap (λ b. b ∷ drop (suc place) ahead) e ∙ ap (λ n. 10 ∷ drop n ahead) (let one : suc place ≡ place + 1 = omega arith in one))

-- what stands behind so many bytes of the part of a buffer
pub rest_of_part : (bytes : List ℕ) (from upto count : ℕ) → count ≤ upto - from
    → drop count (take (upto - from) (drop from bytes)) ≡ take (upto - (from + count)) (drop (from + count) bytes)
rest_of_part bytes from upto count le =
    let n : upto - from ≡ count + (upto - (from + count)) = omega arith in
    ap (λ m. drop count (take m (drop from bytes))) n ∙ drop-take count (upto - (from + count)) (drop from bytes)
    ∙ ap (take (upto - (from + count))) (drop-drop count from bytes)

-- what is left of the part, where so many bytes of it are let go
pub passed_over : (bytes self : List ℕ) (from upto count : ℕ) → upto ≤ length bytes → take (upto - from) (drop from bytes) ≡ self → count ≤ length self
    → take (upto - (from + count)) (drop (from + count) bytes) ≡ drop count self
passed_over bytes self from upto count inside is few =
    let size : length self ≡ upto - from = ap length (sym is) ∙ length-take-le (upto - from) (drop from bytes) (omega (arith, length-drop from bytes)) in
    sym (rest_of_part bytes from upto count (omega (arith, size, few))) ∙ ap (drop count) is

-- the kept bytes of a line, with a further piece
pub kept_more : (bytes old new piece : List ℕ) → old ≡ take 70 bytes → new ≡ take 70 (old ++ piece) → new ≡ take 70 (bytes ++ piece)
kept_more bytes old new piece is e = elim (cases_lt (length bytes) 70) [
  | inl short ↦ e ∙ ap (λ t. take 70 (t ++ piece)) (is ∙ take_all 70 bytes (omega arith))
  | inr long ↦ let len : length old ≡ 70 = ap length is ∙ length-take-le 70 bytes long in
      e ∙ take-append-le 70 old piece (omega (arith, len)) ∙ take_all 70 old (omega (arith, len)) ∙ is ∙ sym (take-append-le 70 bytes piece long)
]

-- a line ends in a piece: p was read ahead, m was read now, and together they are q
pub line_ends : (s more bytes p m q piece rest : List ℕ) → s ++ more ≡ bytes ++ p → q ≡ p ++ m → q ≡ piece ++ 10 ∷ rest → s ++ (more ++ m) ≡ (bytes ++ piece) ++ 10 ∷ rest
line_ends s more bytes p m q piece rest h e cut = sym (append_assoc s more m) ∙ ap (λ t. t ++ m) h ∙ append_assoc bytes p m ∙ ap (λ t. bytes ++ t) (sym e ∙ cut) ∙ sym (append_assoc bytes piece (10 ∷ rest))

-- a line goes on behind a piece
pub line_goes_on : (s more bytes p m q piece new : List ℕ) → s ++ more ≡ bytes ++ p → q ≡ p ++ m → q ≡ piece → new ≡ [] → s ++ (more ++ m) ≡ (bytes ++ piece) ++ new
line_goes_on s more bytes p m q piece new h e is none = sym (append_assoc s more m) ∙ ap (λ t. t ++ m) h ∙ append_assoc bytes p m ∙ ap (λ t. bytes ++ t) (sym e ∙ is) ∙ sym (append-nil (bytes ++ piece)) ∙ ap (λ t. (bytes ++ piece) ++ t) (sym none)

-- no byte is left behind those of the line
pub line_stops : (s more bytes p m new : List ℕ) → s ++ more ≡ bytes ++ p → p ≡ [] → m ≡ [] → new ≡ [] → s ++ (more ++ m) ≡ bytes ++ new
line_stops s more bytes p m new h none no_more end = ap (λ t. s ++ (more ++ t)) no_more ∙ ap (λ t. s ++ t) (append-nil more) ∙ h ∙ ap (λ t. bytes ++ t) (none ∙ sym end)

pub short_line : (bytes kept : List ℕ) → kept ≡ take 70 bytes → length kept ≤ 69 → length bytes ≤ 69
short_line bytes kept is few = let size = length-take 70 bytes in let same : length kept ≡ length (take 70 bytes) = ap length is in omega (arith, size, same)

pub long_line_cut : (bytes kept : List ℕ) → kept ≡ take 70 bytes → 69 < length kept → 69 < length bytes
long_line_cut bytes kept is many = let size = length-take 70 bytes in let same : length kept ≡ length (take 70 bytes) = ap length is in omega (arith, size, same)

pub some_byte : (bytes kept : List ℕ) → kept ≡ take 70 bytes → (length kept ≡ 0 → ⊥) → 0 < length bytes
some_byte bytes kept is some = let size = length-take 70 bytes in let same : length kept ≡ length (take 70 bytes) = ap length is in omega (arith, size, same, some)

pub count_on : (bytes q : List ℕ) (n : ℕ) → n ≤ length bytes → 0 < length q → n + 1 ≤ length (bytes ++ q)
count_on bytes q n few some = let size = length-append bytes q in omega (arith, size)

-- the bytes up to the first LF of what was read ahead
pub piece_to_lf : (bytes self old new : List ℕ) (from upto place : ℕ) → from ≤ upto → upto ≤ length bytes → take (upto - from) (drop from bytes) ≡ self
    → IsFirstByte (is_byte 10) (take (upto - from) (drop from bytes)) (Some place) → new ≡ take 70 (old ++ take place (take (upto - from) (drop from bytes)))
    → (piece : List ℕ) × HasNoLf piece × (new ≡ take 70 (old ++ piece)) × (self ≡ piece ++ 10 ∷ take (upto - (from + (place + 1))) (drop (from + (place + 1)) bytes))
piece_to_lf bytes self old new from upto place le inside is first kept =
    let ahead = take (upto - from) (drop from bytes) in
    let lt : place < length ahead = first.0.high in
    let lf : get_or ahead place 0 ≡ 10 = grind (arith, nat_tests, first.1) in
    let size : length ahead ≡ upto - from = length-take-le (upto - from) (drop from bytes) (omega (arith, length-drop from bytes)) in (
      take place ahead,
      no_lf_before ahead place lt first.0.before,
      kept,
      sym is ∙ split_at ahead place lt lf ∙ ap (λ t. take place ahead ++ 10 ∷ t) (rest_of_part bytes from upto (place + 1) (omega (arith, size, lt))),
    )

-- what holds where a call is Ok, where it was
pub ok_of : {T E : Type 0} {P : Type 0} (r : Result T E) (x : T) → r ≡ Ok x → OnOk r P → P
ok_of {T} {E} {P} r x is h = subst (λ y. OnOk y P) is h

-- all of what was read ahead, where no LF is in it
pub piece_whole : (bytes self old new : List ℕ) (from upto : ℕ) → take (upto - from) (drop from bytes) ≡ self
    → IsFirstByte (is_byte 10) (take (upto - from) (drop from bytes)) None → new ≡ take 70 (old ++ take (upto - from) (drop from bytes))
    → (piece : List ℕ) × HasNoLf piece × (new ≡ take 70 (old ++ piece)) × ((self ≡ piece) × (take (upto - upto) (drop upto bytes) ≡ []))
piece_whole bytes self old new from upto is none kept = let nothing : upto - upto ≡ 0 = omega arith in
    (take (upto - from) (drop from bytes), no_lf_any (take (upto - from) (drop from bytes)) none, kept, (sym is, ap (λ n. take n (drop upto bytes)) nothing))

-- the bytes up to the first LF are the first line
pub first_line : (bytes self : List ℕ) (from upto place : ℕ) → from ≤ upto → upto ≤ length bytes → take (upto - from) (drop from bytes) ≡ self
    → IsFirstByte (is_byte 10) (take (upto - from) (drop from bytes)) (Some place) → IsFirstLine (take place (take (upto - from) (drop from bytes))) self
unfolding piece_to_lf
first_line bytes self from upto place le inside is first =
    let cut = piece_to_lf bytes self [] (take 70 ([] ++ take place (take (upto - from) (drop from bytes)))) from upto place le inside is first refl in
    record { rest = take (upto - (from + (place + 1))) (drop (from + (place + 1)) bytes); cut = cut.1; begins = cut.3 }

-- the first of the places that pass is the first place that does
first_of_places : (test : ℕ → Bool) (hay : List ℕ) (i n end k : ℕ) (later : List ℕ) → i + n ≡ end → places_from test hay i n ≡ k ∷ later → NoneBefore (Passes test hay) i end k × Passes test hay k
unfolding places_from
first_of_places test hay i zero end k later fits is = absurd (let no : ⊥ = cc in no)
first_of_places test hay i (suc n) end k later fits is = elim (cases_Bool (test (slice_index hay i))) [
  | inl passes ↦ let here : i ∷ places_from test hay (i + 1) n ≡ k ∷ later = sym (cond-true _ _ _ passes) ∙ is in let same : i ≡ k = cc in
      subst (λ (z : ℕ). NoneBefore (Passes test hay) i end z × Passes test hay z) same (record { low = omega arith; high = omega (arith, fits); before = λ j low high. absurd (omega (arith, low, high)) }, passes)
  | inr fails ↦ let r = first_of_places test hay (i + 1) n end k later (omega (arith, fits)) (sym (cond-false _ _ _ fails) ∙ is) in let low = r.0.low in (
    record {
      low = omega (arith, low);
      high = r.0.high;
      before = λ j from upto hit. elim (cases_eq j i) [
        | inl at ↦ false≢true (sym fails ∙ subst (λ (z : ℕ). test (slice_index hay z) ≡ true) at hit)
        | inr other ↦ r.0.before j (omega (arith, from, other)) upto hit
      ];
    },
    r.1,
  )
]

pub found_first : (hay : List ℕ) (k : ℕ) (later : List ℕ) → places (is_byte 10) hay ≡ k ∷ later → IsFirstByte (is_byte 10) hay (Some k)
found_first hay k later is = first_of_places (is_byte 10) hay 0 (length hay - 0) (length hay) k later (omega arith) is
