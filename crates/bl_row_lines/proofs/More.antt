-- One row more.
use Rattle.std.proofs.Common.{◌≡◌, ℕ, ◌+◌, ◌-◌, ◌<◌, List, [], ◌∷◌, ◌++◌, length, take, drop, ap, sym, subst, ◌∙◌, append-nil, append_assoc, length-append, inl, inr, arith}
use Rattle.std.proofs.lemmas.Bool.{cases_lt, cases_eq}
use Rattle.std.proofs.Math.Seq.{get_or-append_seam}
use Rattle.std.proofs.lemmas.List.{get_or_append_left, take-append-drop}
use Rattle.std.proofs.lemmas.List.Concat.{flat_map-append}
use Rattle.std.specs.Prelude.{Option}
use Rattle.std.specs.Io.KnownBytes.{Appends, Consumes}
use Rattle.std.proofs.KnownBytes.{Appends-trans}
use Rattle.bl_model.specs.Stream.{StartsOut}
use Rattle.bl_model.proofs.Beginnings.{beginning_behind}
use Rattle.bl_model.specs.Rows.{key_at, HasRisingKeys}
use Rattle.bl_serve_lines.proofs.Known.{consumes_rest}
use Rattle.bl_row_lines.specs.RowLines.{line_text, rows_text, IsAbove, StopsAt}

pub text_more : (rows : List (ℕ × ℕ)) (row : ℕ × ℕ) → rows_text (rows ++ row ∷ []) ≡ rows_text rows ++ line_text row
text_more rows row = flat_map-append line_text rows (row ∷ []) ∙ ap (λ t. rows_text rows ++ t) (append-nil (line_text row))

key_left : (rows more : List (ℕ × ℕ)) (i : ℕ) → i < length rows → key_at (rows ++ more) i ≡ key_at rows i
key_left rows more i lt = ap (λ (p : ℕ × ℕ). p.0) (get_or_append_left rows more (0, 0) i lt)

key_last : (rows : List (ℕ × ℕ)) (row : ℕ × ℕ) → key_at (rows ++ row ∷ []) (length rows) ≡ row.0
key_last rows row = ap (λ (p : ℕ × ℕ). p.0) (get_or-append_seam rows row [] (0, 0))

pub rise_more : (rows : List (ℕ × ℕ)) (row : ℕ × ℕ) → HasRisingKeys rows → IsAbove row.0 rows → HasRisingKeys (rows ++ row ∷ [])
rise_more rows row rising above i j lt within =
    let size = length-append rows (row ∷ []) in
    elim (cases_lt j (length rows)) [
      | inl less ↦
          let a = key_left rows (row ∷ []) i (omega arith) in
          let b = key_left rows (row ∷ []) j less in
          let c = rising i j lt less in omega (arith, a, b, c)
      | inr le ↦
          let same : j ≡ length rows = omega arith in
          let less : i < length rows = omega arith in
          let a = key_left rows (row ∷ []) i less in
          let b : key_at (rows ++ row ∷ []) j ≡ row.0 = ap (key_at (rows ++ row ∷ [])) same ∙ key_last rows row in
          let top = above (omega arith) in
          elim (cases_eq i (length rows - 1)) [
            | inl last ↦ (let c : key_at rows i ≡ key_at rows (length rows - 1) = ap (key_at rows) last in omega (arith, a, b, c, top))
            | inr other ↦ (let c = rising i (length rows - 1) (omega arith) (omega arith) in omega (arith, a, b, c, top))
          ]
    ]

pub stops : (rows : List (ℕ × ℕ)) (good unread : List ℕ) (number : ℕ) (Bad : List (ℕ × ℕ) → List ℕ → Type 0) → good ≡ rows_text rows → HasRisingKeys rows → number ≡ length rows + 1 → Bad rows unread
    → StopsAt (good ++ unread) number Bad
stops rows good unread number Bad is rising counted bad = record { rows = rows; left = unread; begins = ap (λ t. t ++ unread) is; rising = rising; counted = counted; bad = bad }

-- some rows more, of those that are left
pub parts_join : (n : ℕ) (piece more rest : List (ℕ × ℕ)) → piece ≡ take n rest → more ≡ drop n rest → piece ++ more ≡ rest
parts_join n piece more rest front back = ap (λ (t : List (ℕ × ℕ)). t ++ more) front ∙ ap (λ (t : List (ℕ × ℕ)). take n rest ++ t) back ∙ take-append-drop n rest

pub piece_split : (rows done piece more rest : List (ℕ × ℕ)) → rows ≡ done ++ rest → piece ++ more ≡ rest → rows ≡ (done ++ piece) ++ more
piece_split rows done piece more rest is joined = is ∙ ap (λ t. done ++ t) (sym joined) ∙ sym (append_assoc done piece more)

pub piece_begun : (a b c : Option (List ℕ)) (rows done piece more rest : List (ℕ × ℕ)) → rows ≡ done ++ rest → piece ++ more ≡ rest → Appends a b (rows_text done) → StartsOut b c (rows_text piece)
    → StartsOut a c (rows_text rows)
piece_begun a b c rows done piece more rest is joined h k =
    let whole : rows_text rows ≡ rows_text done ++ (rows_text piece ++ rows_text more) =
    ap rows_text (is ∙ ap (λ t. done ++ t) (sym joined)) ∙ flat_map-append line_text done (piece ++ more) ∙ ap (λ t. rows_text done ++ t) (flat_map-append line_text piece more) in
    subst (λ t. StartsOut a c t) (sym whole) (beginning_behind a b c (rows_text done) (rows_text piece) (rows_text more) h k)

pub piece_written : (a b c : Option (List ℕ)) (done piece : List (ℕ × ℕ)) → Appends a b (rows_text done) → Appends b c (rows_text piece) → Appends a c (rows_text (done ++ piece))
piece_written a b c done piece h k = subst (λ t. Appends a c t) (sym (flat_map-append line_text done piece)) (Appends-trans a b c (rows_text done) (rows_text piece) h k)

pub row_consumed : (a b c : Option (List ℕ)) (rows all : List (ℕ × ℕ)) (row : ℕ × ℕ) (source more left : List ℕ) → all ≡ rows ++ row ∷ [] → Consumes a b (rows_text rows ++ source) → Consumes b c more
    → source ++ more ≡ line_text row ++ left → Consumes a c (rows_text all ++ left)
row_consumed a b c rows all row source more left is h k e =
    let text : rows_text all ≡ rows_text rows ++ line_text row = ap rows_text is ∙ text_more rows row in
    subst (λ t. Consumes a c (t ++ left)) (sym text) (consumes_rest a b c (rows_text rows) source more (line_text row) left h k e)
