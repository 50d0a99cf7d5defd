use Rattle.std.proofs.Common.{◌≡◌, ℕ, ◌+◌, ◌≤◌, List, [], ◌∷◌, ◌++◌, length, length-append, take, get_or, sym, ap, ◌∙◌, arith}
use Rattle.std.specs.Prelude.{flat_map}
use Rattle.bl_serve_lines.specs.declared.listing.Tells.{Tells}
use Rattle.bl_serve_lines.specs.Text.{row_text}
use Rattle.bl_serve_lines.specs.Scans.{less, rows_before, shown}
use Rattle.bl_serve_lines.proofs.Listed.{before_more, few_before, shown_more}
use Rattle.bl_serve_lines.proofs.print.push_part.Goals as goal

pub loop-row-preserved : goal.loop-row-preserved
loop-row-preserved c =
    let list : List (ℕ × ℕ) = c.as_slice-list.result.now in let i : ℕ = c.loop-row.row-index in let row : ℕ × ℕ = get_or list i (0, 0) in
    let xs : List (ℕ × ℕ) = rows_before c.args.until (take i list) in let ys : List (ℕ × ℕ) = rows_before c.args.until (row ∷ []) in
    let all : rows_before c.args.until (take (i + 1) list) ≡ xs ++ ys = before_more c.args.until list i c.loop-row-test.true in
    let few : length ys ≤ 1 = few_before c.args.until row in let count : c.in_ok-met.field-0 ≡ length ys = c.in_ok-met.ensures.counts in
    let tells : c.behind.result ≡ less c.args.tells (length xs) = c.behind.ensures ∙ ap (less c.args.tells) c.loop-row.invariant.met in record {
      few = let so_far = c.loop-row.invariant.few in omega (arith, few, count, so_far);
      met = let so_far = c.loop-row.invariant.met in let long = ap length all in let both = length-append xs ys in omega (arith, count, so_far, long, both);
      text = shown_more c.args.tells xs ys c.args.out.now.items c.loop-row.out.items c.push_within.new.out.items c.loop-row.invariant.text
          (c.in_ok-met.ensures.pushes ∙ ap (λ (t : Tells). c.loop-row.out.items ++ flat_map row_text (shown t ys)) tells)
          ∙ ap (λ (z : List (ℕ × ℕ)). c.args.out.now.items ++ flat_map row_text (shown c.args.tells z)) (sym all);
    }
