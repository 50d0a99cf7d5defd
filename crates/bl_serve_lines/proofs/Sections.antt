-- Outputs that follow each other, and lines that end no section.
use Rattle.std.proofs.Common.{◌≡◌, ◌≢◌, ℕ, suc, ◌+◌, ◌-◌, ◌≤◌, refl, List, [], ◌∷◌, ◌++◌, length, take, ap, sym, ◌∙◌, subst, append_assoc, length-append, arith}
use Rattle.std.specs.Prelude.{All}
use Rattle.std.proofs.Math.Seq.{take-append_seam}
use Rattle.std.proofs.lemmas.List.Elements.{All-nil, All-take}
use Rattle.bl_serve_lines.specs.Text.{numbered}
use Rattle.bl_serve_lines.specs.declared.serving.Sectioning.{Sectioning}
use Rattle.bl_serve_lines.specs.declared.serving.Sectioning.TheVariants.{BySync, AtMost}
use Rattle.bl_serve_lines.specs.Lines.{Line, Synced, answer_text, output_of}
use Rattle.bl_serve_lines.specs.Served.{HasNoEnd, HasNoEndInside, IsShort, after_lines}

pub output_append : (n : ℕ) (xs ys : List Line) → output_of n (xs ++ ys) ≡ output_of n xs ++ output_of (n + length xs) ys
output_append n [] ys = ap (λ k. output_of k ys) (let e : n ≡ n + 0 = omega arith in e)
output_append n (x ∷ xs) ys = ap (λ t. numbered n (answer_text x.answer) ++ t) (output_append (suc n) xs ys ∙ ap (λ k. output_of (suc n) xs ++ output_of k ys) (let e : suc n + length xs ≡ n + suc (length xs) = omega arith in e))
    ∙ sym (append_assoc (numbered n (answer_text x.answer)) (output_of (suc n) xs) (output_of (n + suc (length xs)) ys))

-- the front of a list with one more element
front_is : {A : Type 0} (xs ys : List A) (x y : A) → xs ++ x ∷ [] ≡ ys ++ y ∷ [] → ys ≡ xs
front_is xs ys x y e =
    let long : length xs + 1 ≡ length ys + 1 = sym (length-append xs (x ∷ [])) ∙ ap length e ∙ length-append ys (y ∷ []) in
    let same : length ys ≡ length xs = omega (arith, long) in
    sym (take-append_seam ys (y ∷ [])) ∙ ap (take (length ys)) (sym e) ∙ ap (λ n. take n (xs ++ x ∷ [])) same ∙ take-append_seam xs (x ∷ [])

pub no_end_inside : (how : Sectioning) (lines : List Line) (line : Line) → HasNoEnd how lines → HasNoEndInside how (lines ++ line ∷ [])
no_end_inside how lines line h front end e = subst (HasNoEnd how) (sym (front_is lines front line end e)) h

-- no lines end no section
pub short_none : (how : Sectioning) → IsShort how 0
short_none BySync = tt
short_none (AtMost most) = omega arith

pub no_end_none : (how : Sectioning) → HasNoEnd how []
no_end_none how = (All-nil (λ x. x.answer ≢ Synced), short_none how)

-- lines and more lines
pub short_then : (how : Sectioning) (n m : ℕ) → IsShort how n → IsShort (after_lines how n) m → IsShort how (n + m)
short_then BySync n m few more = tt
short_then (AtMost most) n m few more = omega (arith, few, more)

pub behind_none : (how : Sectioning) → after_lines how 0 ≡ how
behind_none BySync = refl
behind_none (AtMost most) = ap AtMost (let same : most - 0 ≡ most = omega arith in same)

pub behind_both : (how : Sectioning) (n m : ℕ) → after_lines (after_lines how n) m ≡ after_lines how (n + m)
behind_both BySync n m = refl
behind_both (AtMost most) n m = ap AtMost (let same : most - n - m ≡ most - (n + m) = omega arith in same)

-- fewer lines are too few as well
pub shorter : (how : Sectioning) (few many : ℕ) → few ≤ many → IsShort how many → IsShort how few
shorter BySync few many le short = tt
shorter (AtMost most) few many le short = omega (arith, le, short)

pub no_end_any : (how : Sectioning) (lines : List Line) → HasNoEnd how lines → HasNoEndInside how lines
no_end_any how lines h front end e =
    let whole = subst (HasNoEnd how) e h in let long = length-append front (end ∷ []) in (
      subst (All (λ x. x.answer ≢ Synced)) (take-append_seam front (end ∷ [])) (All-take (λ x. x.answer ≢ Synced) (length front) (front ++ end ∷ []) whole.0),
      shorter how (length front) (length (front ++ end ∷ [])) (omega (arith, long)) whole.1,
    )
