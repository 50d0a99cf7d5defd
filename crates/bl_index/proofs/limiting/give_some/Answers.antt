use Rattle.std.proofs.Common.{◌≡◌, rules, ℕ, ◌-◌, ◌<◌, length, refl, sym, ap, subst, ◌∙◌, arith}
use Rattle.std.proofs.lemmas.List.{length-append}
use Rattle.bl_claims.specs.Seeing.{IsSeen}
use Rattle.bl_index_rule.specs.declared.known.PassState.{PassState}
use Rattle.bl_index_read.specs.Parts.{StandsBehind}
use Rattle.bl_index_read.specs.declared.leaf_rows.Behind.{Behind}
use Rattle.bl_index_read.proofs.Setting.{same_number}
use Rattle.bl_index.proofs.PartByPart.{set_off_again, left_behind}
use Rattle.bl_index.proofs.SomeByPart.{lists_none, some_on, some_stops}
use Rattle.bl_index.proofs.limiting.give_some.Goals as goal

pub loop-behind-init : goal.loop-behind-init
loop-behind-init c = record {
  same = search rules;
  mid = _;
  stands = c.set_off-way.ensures.set_off;
  first = refl;
  seen = λ e. let no : ⊥ = cc in absurd no;
  so_far = lists_none _ _ _ _ _ _ _ _ _ _ c.ranges.from.fits c.requires.before c.requires.any;
}

pub loop-behind-preserved : goal.loop-behind-preserved
loop-behind-preserved c =
    let inv = c.loop-behind.invariant in
    let s = rw c.in-Part.is at inv.so_far in
    let long = length-append c.args.rows.now.items s.rows in
    let all = ap length s.grown in
    let now : c.len.result ≡ length c.loop-behind.rows.items = c.len.ensures ∙ c.loop-behind.rows.ok.0 in
    let was : c.len-before.result ≡ length c.args.rows.now.items = c.len-before.ensures ∙ c.args.rows.now.ok.0 in
    let is_left : c.args.most - (c.len.result - c.len-before.result) ≡ c.args.most - length s.rows = omega (arith, long, all, now, was) in
    let went = rw c.in-Ok.is at (c.give_some_of.ensures.gives inv.mid (set_off_again _ c.args.hand.now c.loop-behind.hand inv.same.0 _ _ _ _ (rw c.in-Part.is at inv.stands))) in
    let gone = some_on c.args.hand.now c.loop-behind.hand inv.mid _ _ _ _ _ 0 _ c.loop-behind.next _ _ _ _ _ _ inv.same.0 inv.first s is_left _ _ went.does in
    record {
      same = search rules;
      mid = went.new;
      stands = subst (λ (z : ℕ). StandsBehind c.args.tree.now c.give_some_of.new.hand z c.args.wanted.direction c.in-Ok.on c.in-Ok.going went.new) (same_number c.args.hand.now c.loop-behind.hand inv.same.0) went.stands;
      first = went.first ∙ inv.first;
      seen = λ _. went.seen;
      so_far = gone.0;
    }

pub loop-behind-smaller : goal.loop-behind-smaller
loop-behind-smaller c =
    let inv = c.loop-behind.invariant in
    let s = rw c.in-Part.is at inv.so_far in
    let long = length-append c.args.rows.now.items s.rows in
    let all = ap length s.grown in
    let now : c.len.result ≡ length c.loop-behind.rows.items = c.len.ensures ∙ c.loop-behind.rows.ok.0 in
    let was : c.len-before.result ≡ length c.args.rows.now.items = c.len-before.ensures ∙ c.args.rows.now.ok.0 in
    let is_left : c.args.most - (c.len.result - c.len-before.result) ≡ c.args.most - length s.rows = omega (arith, long, all, now, was) in
    let went = rw c.in-Ok.is at (c.give_some_of.ensures.gives inv.mid (set_off_again _ c.args.hand.now c.loop-behind.hand inv.same.0 _ _ _ _ (rw c.in-Part.is at inv.stands))) in
    let gone = some_on c.args.hand.now c.loop-behind.hand inv.mid _ _ _ _ _ 0 _ c.loop-behind.next _ _ _ _ _ _ inv.same.0 inv.first s is_left _ _ went.does in
    subst (λ (b : Behind). left_behind c.args.wanted.direction c.in-Ok.on < left_behind c.args.wanted.direction b) (sym c.in-Part.is) gone.1

pub returns-in-Err-clause-scans : goal.returns-in-Err-clause-scans
returns-in-Err-clause-scans c =
    let inv = c.loop-behind.invariant in
    let s = rw c.in-Part.is at inv.so_far in
    let long = length-append c.args.rows.now.items s.rows in
    let all = ap length s.grown in
    let now : c.len.result ≡ length c.loop-behind.rows.items = c.len.ensures ∙ c.loop-behind.rows.ok.0 in
    let was : c.len-before.result ≡ length c.args.rows.now.items = c.len-before.ensures ∙ c.args.rows.now.ok.0 in
    let is_left : c.args.most - (c.len.result - c.len-before.result) ≡ c.args.most - length s.rows = omega (arith, long, all, now, was) in
    let left = rw c.in-Err.is at (c.give_some_of.ensures.gives inv.mid (set_off_again _ c.args.hand.now c.loop-behind.hand inv.same.0 _ _ _ _ (rw c.in-Part.is at inv.stands))) in
    some_stops c.args.hand.now c.loop-behind.hand inv.mid _ _ _ _ _ 0 _ c.loop-behind.next _ _ _ _ _ _ inv.same.0 inv.first s is_left _ _ left.does

pub returns-in-Err-clause-rests : goal.returns-in-Err-clause-rests
returns-in-Err-clause-rests c = (rw c.in-Err.is at (c.give_some_of.ensures.gives c.loop-behind.invariant.mid (set_off_again _ c.args.hand.now c.loop-behind.hand c.loop-behind.invariant.same.0 _ _ _ _ (rw c.in-Part.is at c.loop-behind.invariant.stands)))).rests

pub returns-in-Err-clause-first : goal.returns-in-Err-clause-first
returns-in-Err-clause-first c = (rw c.in-Err.is at (c.give_some_of.ensures.gives c.loop-behind.invariant.mid (set_off_again _ c.args.hand.now c.loop-behind.hand c.loop-behind.invariant.same.0 _ _ _ _ (rw c.in-Part.is at c.loop-behind.invariant.stands)))).first ∙ c.loop-behind.invariant.first

pub returns-in-Err-clause-seen : goal.returns-in-Err-clause-seen
returns-in-Err-clause-seen c = (rw c.in-Err.is at (c.give_some_of.ensures.gives c.loop-behind.invariant.mid (set_off_again _ c.args.hand.now c.loop-behind.hand c.loop-behind.invariant.same.0 _ _ _ _ (rw c.in-Part.is at c.loop-behind.invariant.stands)))).seen

pub returns-clause-seen : goal.returns-clause-seen
returns-clause-seen c =
    let inv = c.loop-behind.invariant in
    subst (λ (d : PassState). IsSeen d.first d.trail) (sym (rw c.in_default.is at inv.stands).1) (inv.seen c.in_default.is)
