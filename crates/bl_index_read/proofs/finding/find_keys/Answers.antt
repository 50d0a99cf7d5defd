use Rattle.std.proofs.Common.{rules, ℕ, ◌≡◌, ◌+◌, ◌-◌, ◌∙◌, List, Option, length, take, set, slice_index, refl, subst, arith}
use Rattle.std.proofs.lemmas.List.{length-set}
use Rattle.bl_page.specs.declared.page.Page.{Page}
use Rattle.bl_store.specs.Hands.{known}
use Rattle.bl_index_read.specs.declared.sought.Sought.TheVariants as sought
use Rattle.bl_index_read.specs.LeafWays.{HasSetOff}
use Rattle.bl_index_read.specs.Searching.{RunsOut}
use Rattle.bl_index_read.specs.Together.{FindsEach, NoneSought}
use Rattle.bl_index_read.proofs.Setting.{same_number}
use Rattle.bl_index_read.proofs.Together.{off_again, one_more}
use Rattle.bl_index_read.proofs.finding.find_keys.Goals as goal

pub loop-i-init : goal.loop-i-init
loop-i-init c = record { same = search rules; long = search rules; mid = _; off = c.set_off-way.ensures.set_off; first = refl; each = NoneSought }

pub loop-i-preserved : goal.loop-i-preserved
loop-i-preserved c =
    let inv = c.loop-i.invariant in
    let number = same_number c.args.hand.now c.loop-i.hand inv.same.0 in
    let went = rw c.in-Ok.is at (c.find_before.ensures.goes inv.mid (off_again _ c.args.hand.now c.loop-i.hand inv.same.0 _ _ _ inv.off)) in
    record {
      same = search rules;
      long = length-set c.loop-i.replies c.loop-i.i c.in-Ok.reply ∙ inv.long;
      mid = went.between;
      off = subst (λ (z : ℕ). HasSetOff c.args.tree.now c.find_before.new.hand z sought.Value (slice_index c.args.keys.now (c.loop-i.i + 1)) c.in-Ok.on went.between) number went.off;
      first = went.first ∙ inv.first;
      each = one_more _ _ _ _ _ _ c.args.keys.now c.loop-i.replies c.loop-i.i c.in-Ok.reply _ _ _ inv.first number (omega arith) inv.long inv.each went.finds;
    }

pub find_before-requires : goal.find_before-requires
find_before-requires c = record { off = (c.loop-i.invariant.mid, c.args.hand.now.number, c.loop-i.invariant.off) }

pub returns-in-Err-clause-rests : goal.returns-in-Err-clause-rests
returns-in-Err-clause-rests c = (rw c.in-Err.is at (c.find_before.ensures.goes c.loop-i.invariant.mid (off_again _ c.args.hand.now c.loop-i.hand c.loop-i.invariant.same.0 _ _ _ c.loop-i.invariant.off))).rests

pub returns-in-Err-clause-first : goal.returns-in-Err-clause-first
returns-in-Err-clause-first c = (rw c.in-Err.is at (c.find_before.ensures.goes c.loop-i.invariant.mid (off_again _ c.args.hand.now c.loop-i.hand c.loop-i.invariant.same.0 _ _ _ c.loop-i.invariant.off))).first ∙ c.loop-i.invariant.first

pub returns-in-Err-clause-seen : goal.returns-in-Err-clause-seen
returns-in-Err-clause-seen c = (rw c.in-Err.is at (c.find_before.ensures.goes c.loop-i.invariant.mid (off_again _ c.args.hand.now c.loop-i.hand c.loop-i.invariant.same.0 _ _ _ c.loop-i.invariant.off))).seen

pub returns-in-Err-clause-finds : goal.returns-in-Err-clause-finds
returns-in-Err-clause-finds c =
    let inv = c.loop-i.invariant in
    let number = same_number c.args.hand.now c.loop-i.hand inv.same.0 in
    let stop = rw c.in-Err.is at (c.find_before.ensures.goes inv.mid (off_again _ c.args.hand.now c.loop-i.hand inv.same.0 _ _ _ inv.off)) in
    record {
      most = omega arith;
      mid = inv.mid.trail;
      each = inv.each;
      all = λ e. absurd (omega (arith, e));
      stops = λ _. subst (λ (z : List (Option Page) × ℕ). RunsOut z.0 c.args.tree.now.store.layout.pages z.1 c.args.turns inv.mid.trail (known c.find_before.new.hand.seat).trail) (λ j. (inv.first j, number j)) stop.out;
    }

pub find_from-requires : goal.find_from-requires
find_from-requires c = record { off = (c.loop-i.invariant.mid, c.args.hand.now.number, subst (λ (n : ℕ). HasSetOff c.args.tree.now c.loop-i.hand c.args.hand.now.number sought.Value (slice_index c.args.keys.now n) c.loop-i.way c.loop-i.invariant.mid) (omega arith) c.loop-i.invariant.off) }

pub returns-in-Ok-find_from-clause-first : goal.returns-in-Ok-find_from-clause-first
returns-in-Ok-find_from-clause-first c =
    let off = subst (λ (n : ℕ). HasSetOff c.args.tree.now c.loop-i.hand c.args.hand.now.number sought.Value (slice_index c.args.keys.now n) c.loop-i.way c.loop-i.invariant.mid) (omega arith) c.loop-i.invariant.off in
    (c.find_from.ensures.answers c.loop-i.invariant.mid c.args.hand.now.number off).0 ∙ c.loop-i.invariant.first

pub returns-in-Ok-find_from-clause-finds : goal.returns-in-Ok-find_from-clause-finds
returns-in-Ok-find_from-clause-finds c =
    let inv = c.loop-i.invariant in
    let at : c.loop-i.i ≡ length c.args.keys.now - 1 = omega arith in
    let off = subst (λ (n : ℕ). HasSetOff c.args.tree.now c.loop-i.hand c.args.hand.now.number sought.Value (slice_index c.args.keys.now n) c.loop-i.way c.loop-i.invariant.mid) (omega arith) c.loop-i.invariant.off in
    let found = rw c.in-Ok-find_from.is at (c.find_from.ensures.answers inv.mid c.args.hand.now.number off).1.answered in
    let each = subst (λ (n : ℕ). FindsEach (known c.args.hand.now.seat).first c.args.tree.now.store.layout.pages c.args.hand.now.number c.args.turns (take n c.args.keys.now) (take n c.loop-i.replies) (known c.args.hand.now.seat).trail inv.mid.trail) at inv.each in
    let last : length c.args.keys.now - 1 + 1 ≡ length c.args.keys.now = omega arith in
    record {
      most = omega arith;
      mid = (known c.find_from.new.hand.seat).trail;
      each = subst (λ (n : ℕ). FindsEach (known c.args.hand.now.seat).first c.args.tree.now.store.layout.pages c.args.hand.now.number c.args.turns (take n c.args.keys.now) (take n (set c.loop-i.replies (length c.args.keys.now - 1) c.in-Ok-find_from.reply)) (known c.args.hand.now.seat).trail (known c.find_from.new.hand.seat).trail) last
          (one_more _ _ _ _ _ _ c.args.keys.now c.loop-i.replies (length c.args.keys.now - 1) c.in-Ok-find_from.reply _ _ _ inv.first refl (omega arith) inv.long each found);
      all = λ _. refl;
      stops = λ e. absurd (omega (arith, e));
    }

pub returns-in-Err-find_from-clause-first : goal.returns-in-Err-find_from-clause-first
returns-in-Err-find_from-clause-first c =
    let off = subst (λ (n : ℕ). HasSetOff c.args.tree.now c.loop-i.hand c.args.hand.now.number sought.Value (slice_index c.args.keys.now n) c.loop-i.way c.loop-i.invariant.mid) (omega arith) c.loop-i.invariant.off in
    (c.find_from.ensures.answers c.loop-i.invariant.mid c.args.hand.now.number off).0 ∙ c.loop-i.invariant.first

pub returns-in-Err-find_from-clause-finds : goal.returns-in-Err-find_from-clause-finds
returns-in-Err-find_from-clause-finds c =
    let inv = c.loop-i.invariant in
    let at : c.loop-i.i ≡ length c.args.keys.now - 1 = omega arith in
    let off = subst (λ (n : ℕ). HasSetOff c.args.tree.now c.loop-i.hand c.args.hand.now.number sought.Value (slice_index c.args.keys.now n) c.loop-i.way c.loop-i.invariant.mid) (omega arith) c.loop-i.invariant.off in
    let out = rw c.in-Err-find_from.is at (c.find_from.ensures.answers inv.mid c.args.hand.now.number off).1.refused in
    record {
      most = omega arith;
      mid = inv.mid.trail;
      each = subst (λ (n : ℕ). FindsEach (known c.args.hand.now.seat).first c.args.tree.now.store.layout.pages c.args.hand.now.number c.args.turns (take n c.args.keys.now) (take n c.loop-i.replies) (known c.args.hand.now.seat).trail inv.mid.trail) at inv.each;
      all = λ e. absurd (omega (arith, e));
      stops = λ _. subst (λ (z : List (Option Page)). RunsOut z c.args.tree.now.store.layout.pages c.args.hand.now.number c.args.turns inv.mid.trail (known c.find_from.new.hand.seat).trail) inv.first out;
    }
