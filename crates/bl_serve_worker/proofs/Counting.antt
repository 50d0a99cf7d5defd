-- The parts by which rows are counted.
use Rattle.std.proofs.Common.{◌≡◌, ℕ, ◌<◌, ◌≤◌, true, false, List, [], ◌∷◌, ◌++◌, refl, sym, ap, ◌∙◌, arith}
use Rattle.std.specs.Prelude.{◌&&◌, Bool, Option, Some, None, flat_map, filter, nat_lt, if◌then◌else◌}
use Rattle.std.proofs.lemmas.Bool.Decides.{nat_tests}
use Rattle.std.proofs.lemmas.List.Elements.{filter-append}
use Rattle.bl_model.specs.declared.operation.Entry.{Entry}
use Rattle.bl_model.specs.Parts.{rows_of, ended_at}
use Rattle.bl_proc.specs.declared.parts.Direction.TheVariants.{Up}
use Rattle.bl_serve_lines.specs.declared.listing.Until.TheVariants.{Below}
use Rattle.bl_serve_lines.specs.declared.listing.Tells.TheVariants as tells
use Rattle.bl_serve_lines.specs.Lines.{rows_in}
use Rattle.bl_serve_lines.specs.Scans.{AreParts}
use Rattle.bl_index.specs.Scans.{AreParts as ArePartsUpTo}

within : (from high : ℕ) → from < high → (if nat_lt from high && true then Some from else None) ≡ Some from
within from high low = let test : nat_lt from high ≡ true = grind (arith, nat_tests, low) in ap (λ (b : Bool). if b && true then Some from else None) test

beyond : (from high : ℕ) → high ≤ from → (if nat_lt from high && true then Some from else None) ≡ None
beyond from high over = let test : nat_lt from high ≡ false = grind (arith, nat_tests, over) in ap (λ (b : Bool). if b && true then Some from else None) test

pub counted_parts : (pass high : ℕ) (from upto : Option ℕ) (es : List Entry) → ArePartsUpTo Up pass (Some high) from es upto → ((at : ℕ) → upto ≡ Some at → high ≤ at) → AreParts (record { from = from; until = Below high; tells = tells.Count }) es
counted_parts pass high None upto [] parts over = refl
counted_parts pass high (Some from) upto [] parts over = beyond from high (over from parts)
counted_parts pass high None upto (e ∷ es) parts over = absurd parts
counted_parts pass high (Some from) upto (e ∷ es) parts over = (from, within from high parts.2, parts.1, counted_parts pass high (ended_at e.reply) upto es parts.3 over)

-- their rows that are kept
pub kept_of_all : (keep : ℕ × ℕ → Bool) (es : List Entry) → flat_map (λ part. filter keep (rows_of part.reply)) es ≡ filter keep (rows_in es)
kept_of_all keep [] = refl
kept_of_all keep (e ∷ es) = ap (λ (z : List (ℕ × ℕ)). filter keep (rows_of e.reply) ++ z) (kept_of_all keep es) ∙ sym (filter-append keep (rows_of e.reply) (rows_in es))
