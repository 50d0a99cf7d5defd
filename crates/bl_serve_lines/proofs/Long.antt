-- No request is spelled in more than 69 bytes.
use Rattle.std.proofs.Common.{◌≡◌, ℕ, ◌+◌, ◌<◌, ◌≤◌, ◌^◌, List, [], ◌++◌, length, codes, decimal, refl, ap, sym, ◌∙◌, length-append, append-nil, arith}
use Rattle.std.proofs.lemmas.Fmt.{length-decimal-le}
use Rattle.std.specs.Prelude.{Option, Some, None, IsNone}
use Rattle.bl_model.specs.declared.operation.Op.TheVariants.{Find, Insert, Put, Delete, Change, Part, PartDown}
use Rattle.bl_serve_lines.specs.declared.listing.Listing.TheVariants as listing
use Rattle.bl_serve_lines.specs.declared.request.Request.{Request}
use Rattle.bl_serve_lines.specs.declared.request.Request.TheVariants.{Ask, Add, Scan, Save, Stat, Sync}
use Rattle.bl_serve_lines.specs.Text.{IsLimit, limit_text, Spells, IsMalformed, Means}

short_number : (n : ℕ) → n < 2 ^ 64 → length (decimal n) ≤ 20
short_number n small = length-decimal-le 20 n (omega arith) (omega arith) small

short_limit : (limit : Option ℕ) → IsLimit limit → length (limit_text limit) ≤ 17
short_limit None small = omega arith
short_limit (Some most) small = let n : length (decimal most) ≤ 10 = length-decimal-le 10 most (omega arith) (omega arith) (omega (arith, small)) in
    let e = length-append (codes " limit ") (decimal most) in let w : length (codes " limit ") ≡ 7 = refl in omega (arith, n, e, w)

-- a word and a number, and what stands behind them
one_long : (word : List ℕ) (n : ℕ) (tail : List ℕ) → n < 2 ^ 64 → length (word ++ decimal n ++ tail) ≤ length word + 20 + length tail
one_long word n tail small = let a = short_number n small in let b = length-append word (decimal n) in let c = length-append (word ++ decimal n) tail in omega (arith, a, b, c)

-- and two numbers
two_long : (word : List ℕ) (m n : ℕ) (tail : List ℕ) → m < 2 ^ 64 → n < 2 ^ 64 → length (word ++ decimal m ++ codes " " ++ decimal n ++ tail) ≤ length word + 41 + length tail
two_long word m n tail small_m small_n = let a = one_long word m (codes " ") small_m in let b = one_long (word ++ decimal m ++ codes " ") n tail small_n in let x : length (codes " ") ≡ 1 = refl in omega (arith, a, b, x)

bare : (text : List ℕ) → text ++ [] ≡ text
bare text = append-nil text

one_number : (line word : List ℕ) (n : ℕ) → n < 2 ^ 64 → line ≡ word ++ decimal n → length line ≤ length word + 20
one_number line word n small is = let a = one_long word n [] small in let e : length line ≡ length (word ++ decimal n ++ []) = ap length (is ∙ sym (bare (word ++ decimal n))) in omega (arith, a, e)

two_numbers : (line word : List ℕ) (m n : ℕ) → m < 2 ^ 64 → n < 2 ^ 64 → line ≡ word ++ decimal m ++ codes " " ++ decimal n → length line ≤ length word + 41
two_numbers line word m n small_m small_n is = let a = two_long word m n [] small_m small_n in
    let e : length line ≡ length (word ++ decimal m ++ codes " " ++ decimal n ++ []) = ap length (is ∙ sym (bare (word ++ decimal m ++ codes " " ++ decimal n))) in omega (arith, a, e)

one_limited : (line word : List ℕ) (n : ℕ) (limit : Option ℕ) → n < 2 ^ 64 → IsLimit limit → line ≡ word ++ decimal n ++ limit_text limit → length line ≤ length word + 37
one_limited line word n limit small fits is = let a = one_long word n (limit_text limit) small in let b = short_limit limit fits in let e = ap length is in omega (arith, a, b, e)

two_limited : (line word : List ℕ) (m n : ℕ) (limit : Option ℕ) → m < 2 ^ 64 → n < 2 ^ 64 → IsLimit limit → line ≡ word ++ decimal m ++ codes " " ++ decimal n ++ limit_text limit → length line ≤ length word + 58
two_limited line word m n limit small_m small_n fits is = let a = two_long word m n (limit_text limit) small_m small_n in let b = short_limit limit fits in let e = ap length is in omega (arith, a, b, e)

short_request : (line : List ℕ) (request : Request) → Spells line request → length line ≤ 69
short_request line (Ask (Find k)) (small, is) = let a = one_number line (codes "find ") k small is in let w : length (codes "find ") ≡ 5 = refl in omega (arith, a, w)
short_request line (Ask (Insert k v)) (small, small_v, is) = let a = two_numbers line (codes "insert ") k v small small_v is in let w : length (codes "insert ") ≡ 7 = refl in omega (arith, a, w)
short_request line (Ask (Put k v)) (small, small_v, is) = let a = two_numbers line (codes "put ") k v small small_v is in let w : length (codes "put ") ≡ 4 = refl in omega (arith, a, w)
short_request line (Ask (Delete k)) (small, is) = let a = one_number line (codes "delete ") k small is in let w : length (codes "delete ") ≡ 7 = refl in omega (arith, a, w)
short_request line (Ask (Change k o n)) (small, small_o, small_n, is) = let a = two_long (codes "change ") k o (codes " ") small small_o in
    let b = one_long (codes "change " ++ decimal k ++ codes " " ++ decimal o ++ codes " ") n [] small_n in let w : length (codes "change ") ≡ 7 = refl in let x : length (codes " ") ≡ 1 = refl in let z : length {A = ℕ} [] ≡ 0 = refl in
    let e : length line ≡ length (codes "change " ++ decimal k ++ codes " " ++ decimal o ++ codes " " ++ decimal n ++ []) = ap length (is ∙ sym (bare (codes "change " ++ decimal k ++ codes " " ++ decimal o ++ codes " " ++ decimal n))) in omega (arith, a, b, w, x, e, z)
short_request line (Ask (Part from)) spells = absurd spells
short_request line (Ask (PartDown from)) spells = absurd spells
short_request line (Add k d) (small, small_d, is) = let a = two_numbers line (codes "add ") k d small small_d is in let w : length (codes "add ") ≡ 4 = refl in omega (arith, a, w)
short_request line (Scan (listing.Scan l h limit)) (small, small_h, fits, is) = let a = two_limited line (codes "scan ") l h limit small small_h fits is in let w : length (codes "scan ") ≡ 5 = refl in omega (arith, a, w)
short_request line (Scan (listing.ScanFrom l limit)) (small, fits, is) = let a = one_limited line (codes "scanfrom ") l limit small fits is in let w : length (codes "scanfrom ") ≡ 9 = refl in omega (arith, a, w)
short_request line (Scan (listing.ScanDown l h limit)) (small, small_h, fits, is) = let a = two_limited line (codes "scandown ") l h limit small small_h fits is in let w : length (codes "scandown ") ≡ 9 = refl in omega (arith, a, w)
short_request line (Scan (listing.ScanDownFrom h limit)) (small, fits, is) = let a = one_limited line (codes "scandownfrom ") h limit small fits is in let w : length (codes "scandownfrom ") ≡ 13 = refl in omega (arith, a, w)
short_request line (Scan listing.First) is = let same : length line ≡ 5 = ap length is in omega (arith, same)
short_request line (Scan listing.Last) is = let same : length line ≡ 4 = ap length is in omega (arith, same)
short_request line (Scan (listing.Next k)) (small, is) = let a = one_number line (codes "next ") k small is in let w : length (codes "next ") ≡ 5 = refl in omega (arith, a, w)
short_request line (Scan (listing.Previous k)) (small, is) = let a = one_number line (codes "previous ") k small is in let w : length (codes "previous ") ≡ 9 = refl in omega (arith, a, w)
short_request line (Scan (listing.Count l h)) (small, small_h, is) = let a = two_numbers line (codes "count ") l h small small_h is in let w : length (codes "count ") ≡ 6 = refl in omega (arith, a, w)
short_request line Save (name, is_name, is) = let few = is_name.short in let e = ap length is in let both = length-append (codes "save ") name in let w : length (codes "save ") ≡ 5 = refl in omega (arith, few, e, both, w)
short_request line Stat is = let same : length line ≡ 4 = ap length is in omega (arith, same)
short_request line Sync is = let same : length line ≡ 4 = ap length is in omega (arith, same)

pub long_line : (line : List ℕ) → 69 < length line → IsMalformed line
long_line line long request spells = let few = short_request line request spells in omega (arith, few)

-- so a line with a meaning is short
pub long_none : (line : List ℕ) (meaning : Option Request) → Means line meaning → 69 < length line → IsNone meaning
long_none line None means long = refl
long_none line (Some request) means long = absurd (long_line line long request means)
