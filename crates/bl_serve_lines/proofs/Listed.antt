-- Scans part by part, and their rows.
use Rattle.std.proofs.Common.{◌≡◌, ◌≢◌, ℕ, zero, suc, ◌+◌, ◌-◌, ◌<◌, ◌≤◌, true, false, refl, sym, ap, ◌∙◌, subst, List, [], ◌∷◌, ◌++◌, length, get_or, take, codes, append_assoc, append-nil, arith}
use Rattle.std.specs.Prelude.{Bool, Some, None, flat_map}
use Rattle.std.proofs.lemmas.Bool.Decides.{nat_tests}
use Rattle.std.proofs.lemmas.List.{flat_map_more, take_more}
use Rattle.std.proofs.lemmas.List.Concat.{flat_map-append}
use Rattle.std.proofs.lemmas.List.Elements.{All-get_or, filter-append, filter_passes}
use Rattle.bl_model.specs.declared.operation.Entry.{Entry}
use Rattle.bl_model.specs.Parts.{rows_of}
use Rattle.bl_model.specs.Rows.{HasRisingKeys, key_at}
use Rattle.bl_serve_lines.specs.declared.listing.Listing.{Listing}
use Rattle.bl_serve_lines.specs.declared.listing.Listing.TheVariants as listing
use Rattle.bl_serve_lines.specs.declared.listing.Until.{Until}
use Rattle.bl_serve_lines.specs.declared.listing.Until.TheVariants.{Below}
use Rattle.bl_serve_lines.specs.declared.listing.Scan.{Scan}
use Rattle.bl_serve_lines.specs.declared.listing.Tells.{Tells}
use Rattle.bl_serve_lines.specs.declared.listing.Tells.TheVariants as tells
use Rattle.bl_serve_lines.specs.Text.{row_text}
use Rattle.bl_serve_lines.specs.Lines.{rows_in}
use Rattle.bl_serve_lines.specs.Scans.{AreParts, is_before, behind, less, part_of, place_of, rows_before, scan_of, shown, told_text}

-- ---- part by part

-- what the parts so far leave to be made
abbrev pub GoesOn : Scan → List Entry → Scan → Type 0
GoesOn scan es left = (rest : List Entry) → AreParts left rest → AreParts scan (es ++ rest)

pub one_part : (scan left : Scan) (from : ℕ) (es : List Entry) (e : Entry) → GoesOn scan es left → place_of left ≡ Some from → e.op ≡ part_of left.until from → GoesOn scan (es ++ e ∷ []) (behind left e.reply)
one_part scan left from es e goes at op rest are = subst (AreParts scan) (sym (append_assoc es (e ∷ []) rest)) (goes (e ∷ rest) (from, at, op, are))

-- behind the last one
pub all_parts : (scan left : Scan) (es : List Entry) → GoesOn scan es left → place_of left ≡ None → AreParts scan es
all_parts scan left es goes over = subst (AreParts scan) (append-nil es) (goes [] over)

-- ---- their rows

pub rows_more : (until : Until) (es : List Entry) (e : Entry) → rows_before until (rows_in (es ++ e ∷ [])) ≡ rows_before until (rows_in es) ++ rows_before until (rows_of e.reply)
rows_more until es e = ap (rows_before until) (sym (flat_map_more (λ (x : Entry). rows_of x.reply) [] es e)) ∙ filter-append (λ (row : ℕ × ℕ). is_before until row.0) (rows_in es) (rows_of e.reply)

take_append : {A : Type 0} (n : ℕ) (xs ys : List A) → take n (xs ++ ys) ≡ take n xs ++ take (n - length xs) ys
take_append zero [] ys = ap (λ k. take k ys) (let e : 0 ≡ 0 - 0 = omega arith in e)
take_append (suc n) [] ys = ap (λ k. take k ys) (let e : suc n ≡ suc n - 0 = omega arith in e)
take_append {A} zero (x ∷ xs) ys = ap (λ k. take k ys) (let e : 0 ≡ 0 - suc (length xs) = omega arith in e)
take_append {A} (suc n) (x ∷ xs) ys = ap (λ (z : List A). x ∷ z) (take_append n xs ys ∙ ap (λ k. take n xs ++ take k ys) (let e : n - length xs ≡ suc n - suc (length xs) = omega arith in e))

pub shown_append : (tells : Tells) (xs ys : List (ℕ × ℕ)) → shown tells (xs ++ ys) ≡ shown tells xs ++ shown (less tells (length xs)) ys
shown_append tells.All xs ys = refl
shown_append (tells.First most) xs ys = take_append most xs ys
shown_append tells.Count xs ys = refl

pub less_both : (tells : Tells) (n m : ℕ) → less (less tells n) m ≡ less tells (n + m)
less_both tells.All n m = refl
less_both (tells.First most) n m = ap tells.First (let e : most - n - m ≡ most - (n + m) = omega arith in e)
less_both tells.Count n m = refl

pub less_none : (tells : Tells) → less tells 0 ≡ tells
less_none tells.All = refl
less_none (tells.First most) = ap tells.First (let e : most - 0 ≡ most = omega arith in e)
less_none tells.Count = refl

pub none_shown : (tells : Tells) (start : List ℕ) → start ≡ start ++ flat_map row_text (shown tells [])
none_shown tells.All start = sym (append-nil start)
none_shown (tells.First zero) start = sym (append-nil start)
none_shown (tells.First (suc most)) start = sym (append-nil start)
none_shown tells.Count start = sym (append-nil start)

-- the text of rows, and that of those behind them
pub shown_more : (tells : Tells) (xs ys : List (ℕ × ℕ)) (start text more : List ℕ) → text ≡ start ++ flat_map row_text (shown tells xs) → more ≡ text ++ flat_map row_text (shown (less tells (length xs)) ys) → more ≡ start ++ flat_map row_text (shown tells (xs ++ ys))
shown_more tells xs ys start text more so_far now =
    let left : List (ℕ × ℕ) = shown (less tells (length xs)) ys in
    now ∙ (ap (λ (z : List ℕ). z ++ flat_map row_text left) so_far ∙ (append_assoc start (flat_map row_text (shown tells xs)) (flat_map row_text left)
    ∙ ap (λ (z : List ℕ). start ++ z) (sym (flat_map-append row_text (shown tells xs) left) ∙ ap (flat_map row_text) (sym (shown_append tells xs ys)))))

-- a row more of a part
pub before_more : (until : Until) (list : List (ℕ × ℕ)) (i : ℕ) → i < length list → rows_before until (take (i + 1) list) ≡ rows_before until (take i list) ++ rows_before until (get_or list i (0, 0) ∷ [])
before_more until list i low = ap (rows_before until) (take_more list i (0, 0) low) ∙ filter-append (λ (row : ℕ × ℕ). is_before until row.0) (take i list) (get_or list i (0, 0) ∷ [])

pub one_before : (until : Until) (row : ℕ × ℕ) → is_before until row.0 ≡ true → rows_before until (row ∷ []) ≡ row ∷ []
one_before until row is = grind (arith, is)

pub none_before : (until : Until) (row : ℕ × ℕ) → is_before until row.0 ≡ false → rows_before until (row ∷ []) ≡ []
none_before until row is = grind (arith, is)

pub few_before : (until : Until) (row : ℕ × ℕ) → length (rows_before until (row ∷ [])) ≤ 1
few_before until row = go (is_before until row.0) refl
  where
    go : (b : Bool) → is_before until row.0 ≡ b → length (rows_before until (row ∷ [])) ≤ 1
    go true is = let e = ap length (one_before until row is) in omega (arith, e)
    go false is = let e = ap length (none_before until row is) in omega (arith, e)

-- what lists rows, and does not count them, prints them
pub told_rows : (asked : Listing) (rows : List (ℕ × ℕ)) → ((low high : ℕ) → asked ≢ listing.Count low high) → told_text (scan_of asked).tells rows ≡ codes "rows" ++ flat_map row_text (shown (scan_of asked).tells rows)
told_rows (listing.Scan low high None) rows other = refl
told_rows (listing.Scan low high (Some most)) rows other = refl
told_rows (listing.ScanFrom low None) rows other = refl
told_rows (listing.ScanFrom low (Some most)) rows other = refl
told_rows (listing.ScanDown low high None) rows other = refl
told_rows (listing.ScanDown low high (Some most)) rows other = refl
told_rows (listing.ScanDownFrom high None) rows other = refl
told_rows (listing.ScanDownFrom high (Some most)) rows other = refl
told_rows listing.First rows other = refl
told_rows listing.Last rows other = refl
told_rows (listing.Next key) rows other = refl
told_rows (listing.Previous key) rows other = refl
told_rows (listing.Count low high) rows other = absurd (other low high refl)

-- ---- there are no more rows below an end than keys

at_least : (rows : List (ℕ × ℕ)) → HasRisingKeys rows → (i : ℕ) → i < length rows → i ≤ key_at rows i
at_least rows rising zero within = omega arith
at_least rows rising (suc i) within = let low = at_least rows rising i (omega (arith, within)) in let up = rising i (suc i) (omega arith) within in omega (arith, low, up)

pub few_below : (rows : List (ℕ × ℕ)) (high : ℕ) → HasRisingKeys (rows_before (Below high) rows) → length (rows_before (Below high) rows) ≤ high
few_below rows high rising = go (length (rows_before (Below high) rows)) refl
  where
    go : (n : ℕ) → length (rows_before (Below high) rows) ≡ n → n ≤ high
    go zero is = omega arith
    go (suc n) is =
        let within : n < length (rows_before (Below high) rows) = omega (arith, is) in
        let low = at_least (rows_before (Below high) rows) rising n within in
        let test = All-get_or (λ (row : ℕ × ℕ). is_before (Below high) row.0 ≡ true) (rows_before (Below high) rows) n (0, 0) within (filter_passes (λ (row : ℕ × ℕ). is_before (Below high) row.0) rows) in
        let top : key_at (rows_before (Below high) rows) n < high = grind (arith, nat_tests, test) in
        omega (arith, low, top)
