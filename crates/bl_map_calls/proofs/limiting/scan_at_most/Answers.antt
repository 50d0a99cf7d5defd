use Rattle.std.proofs.Common.{◌≡◌, rules, ◌-◌, length, refl, ap, ◌∙◌, arith}
use Rattle.std.specs.Prelude.{Err}
use Rattle.std.proofs.lemmas.List.{length-append}
use Rattle.bl_map_calls.proofs.Limited.{nothing_listed, listed_all, listed_full, listed_lost}
use Rattle.bl_map_calls.proofs.limiting.scan_at_most.Goals as goal

pub loop-init : goal.loop-init
loop-init g c = record { same = search rules; so_far = nothing_listed _ _ _ _ _ _ _ _ }

pub loop-preserved : goal.loop-preserved
loop-preserved g c =
    let inv = c.loop.invariant in
    let long = length-append c.args.rows.now.items inv.so_far.rows in
    let all = ap length inv.so_far.grown in
    let now : c.len.result ≡ length c.loop.rows.items = c.len.ensures ∙ c.loop.rows.ok.0 in
    let was : c.len-before.result ≡ length c.args.rows.now.items = c.len-before.ensures ∙ c.args.rows.now.ok.0 in
    let is_left : c.args.most - (c.len.result - c.len-before.result) ≡ c.args.most - length inv.so_far.rows = omega (arith, long, all, now, was) in
    record {
      same = search rules;
      so_far = listed_lost _ _ _ _ _ _ _ _ _ _ _ _ _ _ _ _ _ _ inv.same.2 c.patience-turns.ensures inv.so_far is_left c.in-Err-OutOfTurns.ensures.scans _ (ap Err c.in-Err-OutOfTurns.field-0-is);
    }

pub returns-in-Ok-clause-scanned : goal.returns-in-Ok-clause-scanned
returns-in-Ok-clause-scanned g c =
    let inv = c.loop.invariant in
    let long = length-append c.args.rows.now.items inv.so_far.rows in
    let all = ap length inv.so_far.grown in
    let now : c.len.result ≡ length c.loop.rows.items = c.len.ensures ∙ c.loop.rows.ok.0 in
    let was : c.len-before.result ≡ length c.args.rows.now.items = c.len-before.ensures ∙ c.args.rows.now.ok.0 in
    let is_left : c.args.most - (c.len.result - c.len-before.result) ≡ c.args.most - length inv.so_far.rows = omega (arith, long, all, now, was) in
    listed_all _ _ _ _ _ _ _ _ _ _ _ _ _ _ _ _ _ _ inv.same.2 c.patience-turns.ensures inv.so_far is_left c.in-Ok.ensures.scans _ refl

pub returns-in-Err-Memory-clause-scanned : goal.returns-in-Err-Memory-clause-scanned
returns-in-Err-Memory-clause-scanned g c =
    let inv = c.loop.invariant in
    let long = length-append c.args.rows.now.items inv.so_far.rows in
    let all = ap length inv.so_far.grown in
    let now : c.len.result ≡ length c.loop.rows.items = c.len.ensures ∙ c.loop.rows.ok.0 in
    let was : c.len-before.result ≡ length c.args.rows.now.items = c.len-before.ensures ∙ c.args.rows.now.ok.0 in
    let is_left : c.args.most - (c.len.result - c.len-before.result) ≡ c.args.most - length inv.so_far.rows = omega (arith, long, all, now, was) in
    listed_full _ _ _ _ _ _ _ _ _ _ _ _ _ _ _ _ _ _ inv.same.2 c.patience-turns.ensures inv.so_far is_left c.in-Err-Memory.ensures.scans _ _ (ap Err c.in-Err-Memory.field-0-is)
