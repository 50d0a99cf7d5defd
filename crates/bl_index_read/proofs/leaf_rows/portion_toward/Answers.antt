use Rattle.std.proofs.Common.{ℕ, Some, ◌+◌, reverse, ap, sym, subst}
use Rattle.bl_page.specs.Faults.{pairs_of}
use Rattle.bl_proc.specs.declared.parts.Direction.{Direction}
use Rattle.bl_proc_routes.proofs.Spellings.{tree_pairs}
use Rattle.bl_index_read.specs.LeafRows.{first_above}
use Rattle.bl_index_read.proofs.Leaves.{TellsBehind}
use Rattle.bl_index_read.proofs.Picked.{between_rows}
use Rattle.bl_index_read.proofs.Ranges.{below_less}
use Rattle.bl_index_read.proofs.leaf_rows.portion_toward.Goals as goal

pub portion_in-requires-clause-below : goal.portion_in-requires-clause-below
portion_in-requires-clause-below g c = below_less c.args.to c.args.from (rw c.in-Up.is at c.requires.before)

pub portion_down_in-requires-clause-pairs : goal.portion_down_in-requires-clause-pairs
portion_down_in-requires-clause-pairs g c = let leaf = c.requires.leaf in tree_pairs leaf.0 _ leaf.1 leaf.2

pub portion_down_in-requires-clause-above : goal.portion_down_in-requires-clause-above
portion_down_in-requires-clause-above g c = rw c.in-Down.is at c.requires.before

pub returns-in-Up-clause-order : goal.returns-in-Up-clause-order
returns-in-Up-clause-order g c = c.portion_in.ensures.last.behind

pub returns-in-Up-clause-within : goal.returns-in-Up-clause-within
returns-in-Up-clause-within g c = c.portion_in.ensures.last.in_range

pub returns-in-Up-clause-rows : goal.returns-in-Up-clause-rows
returns-in-Up-clause-rows g c = rw c.in-Up.is (between_rows _ c.args.from c.args.to _ _ c.portion_in.ensures.first c.portion_in.ensures.last)

pub returns-in-Up-clause-behind : goal.returns-in-Up-clause-behind
returns-in-Up-clause-behind g c = subst (λ (d : Direction). TellsBehind d c.args.to (g.W.Words.shown c.args.source.now c.args.hand.now) c.portion_in.result.behind) (sym c.in-Up.is) c.portion_in.ensures.behind

pub returns-in-Down-clause-order : goal.returns-in-Down-clause-order
returns-in-Down-clause-order g c = c.portion_down_in.ensures.last.behind

pub returns-in-Down-clause-within : goal.returns-in-Down-clause-within
returns-in-Down-clause-within g c = c.portion_down_in.ensures.last.in_range

pub returns-in-Down-clause-rows : goal.returns-in-Down-clause-rows
returns-in-Down-clause-rows g c = rw c.in-Down.is (ap reverse (between_rows _ (first_above c.args.to) (Some (c.args.from + 1)) _ _ c.portion_down_in.ensures.first c.portion_down_in.ensures.last))

pub returns-in-Down-clause-behind : goal.returns-in-Down-clause-behind
returns-in-Down-clause-behind g c = subst (λ (d : Direction). TellsBehind d c.args.to (g.W.Words.shown c.args.source.now c.args.hand.now) c.portion_down_in.result.behind) (sym c.in-Down.is) c.portion_down_in.ensures.behind
