use Rattle.std.proofs.Common.{rules, ℕ, ◌<◌, subst, ◌++◌, [], refl, sym, ◌∙◌}
use Rattle.bl_claims.specs.Seeing.{IsSeen}
use Rattle.bl_index_rule.specs.declared.known.PassState.{PassState}
use Rattle.bl_index_read.specs.Parts.{StandsBehind}
use Rattle.bl_index_read.specs.declared.leaf_rows.Behind.{Behind}
use Rattle.bl_index_read.proofs.Orders.{from_itself}
use Rattle.bl_index_read.proofs.Setting.{same_number}
use Rattle.bl_index.proofs.PartByPart.{scans_none, set_off_again, part_on, stops_at, left_behind}
use Rattle.bl_index.proofs.scanning.give_parts.Goals as goal

pub loop-behind-init : goal.loop-behind-init
loop-behind-init g c = record {
  same = search rules;
  ready = c.requires.ready;
  mid = _;
  stands = c.set_off-way.ensures.set_off;
  first = refl;
  seen = λ e. let no : ⊥ = cc in absurd no;
  listed = [];
  taken = g.met.K.Sink.nothing _;
  so_far = (from_itself c.args.wanted.direction c.args.from, c.ranges.from.fits, c.requires.before, scans_none _ _ _ _ _ _ _ _);
}

pub loop-behind-preserved : goal.loop-behind-preserved
loop-behind-preserved g c =
    let inv = c.loop-behind.invariant in
    let went = rw c.in-Ok.is at (c.give_part.ensures.gives inv.mid (set_off_again _ c.args.hand.now c.loop-behind.hand inv.same.0 _ _ _ _ (rw c.in-Part.is at inv.stands))) in
    let gone = part_on c.args.hand.now c.loop-behind.hand inv.mid _ _ _ _ _ 0 _ _ _ _ _ inv.same.0 inv.first (rw c.in-Part.is at inv.so_far) g.K.Sink.Takes _ went.does in
    record {
      same = search rules;
      ready = c.give_part.ensures.ready;
      mid = went.new;
      stands = subst (λ (z : ℕ). StandsBehind c.args.tree.now c.give_part.new.hand z c.args.wanted.direction c.in-Ok.next c.in-Ok.on went.new) (same_number c.args.hand.now c.loop-behind.hand inv.same.0) went.stands;
      first = went.first ∙ inv.first;
      seen = λ _. went.seen;
      listed = inv.listed ++ gone.rows;
      taken = g.met.K.Sink.more _ _ _ inv.listed gone.rows inv.taken gone.taken;
      so_far = gone.so_far;
    }

pub loop-behind-smaller : goal.loop-behind-smaller
loop-behind-smaller g c =
    let inv = c.loop-behind.invariant in
    let went = rw c.in-Ok.is at (c.give_part.ensures.gives inv.mid (set_off_again _ c.args.hand.now c.loop-behind.hand inv.same.0 _ _ _ _ (rw c.in-Part.is at inv.stands))) in
    let gone = part_on c.args.hand.now c.loop-behind.hand inv.mid _ _ _ _ _ 0 _ _ _ _ _ inv.same.0 inv.first (rw c.in-Part.is at inv.so_far) g.K.Sink.Takes _ went.does in
    subst (λ (b : Behind). left_behind c.args.wanted.direction c.in-Ok.next < left_behind c.args.wanted.direction b) (sym c.in-Part.is) gone.less

pub returns-in-Err-clause-scans : goal.returns-in-Err-clause-scans
returns-in-Err-clause-scans g c =
    let inv = c.loop-behind.invariant in
    let left = rw c.in-Err.is at (c.give_part.ensures.gives inv.mid (set_off_again _ c.args.hand.now c.loop-behind.hand inv.same.0 _ _ _ _ (rw c.in-Part.is at inv.stands))) in
    record {
      rows = inv.listed;
      taken = subst (λ (z : g.K.Sink.Held). g.K.Sink.Takes (g.K.Sink.held c.args.state.now) inv.listed z) (sym left.does.kept) inv.taken;
      ended = tt;
      stopped = stops_at c.args.hand.now c.loop-behind.hand inv.mid _ _ _ _ _ 0 _ _ _ _ _ inv.same.0 inv.first (rw c.in-Part.is at inv.so_far) _ _ left.does;
    }

pub returns-in-Err-clause-rests : goal.returns-in-Err-clause-rests
returns-in-Err-clause-rests g c = (rw c.in-Err.is at (c.give_part.ensures.gives c.loop-behind.invariant.mid (set_off_again _ c.args.hand.now c.loop-behind.hand c.loop-behind.invariant.same.0 _ _ _ _ (rw c.in-Part.is at c.loop-behind.invariant.stands)))).rests

pub returns-in-Err-clause-first : goal.returns-in-Err-clause-first
returns-in-Err-clause-first g c = (rw c.in-Err.is at (c.give_part.ensures.gives c.loop-behind.invariant.mid (set_off_again _ c.args.hand.now c.loop-behind.hand c.loop-behind.invariant.same.0 _ _ _ _ (rw c.in-Part.is at c.loop-behind.invariant.stands)))).first ∙ c.loop-behind.invariant.first

pub returns-in-Err-clause-seen : goal.returns-in-Err-clause-seen
returns-in-Err-clause-seen g c = (rw c.in-Err.is at (c.give_part.ensures.gives c.loop-behind.invariant.mid (set_off_again _ c.args.hand.now c.loop-behind.hand c.loop-behind.invariant.same.0 _ _ _ _ (rw c.in-Part.is at c.loop-behind.invariant.stands)))).seen

pub returns-clause-seen : goal.returns-clause-seen
returns-clause-seen g c =
    let inv = c.loop-behind.invariant in
    subst (λ (d : PassState). IsSeen d.first d.trail) (sym (rw c.in_default.is at inv.stands).1) (inv.seen c.in_default.is)
