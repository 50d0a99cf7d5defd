-- What a part of a scan gives, or leaves where there is no room.
use Rattle.std.proofs.Common.{ℕ, ◌≡◌, ◌-◌, ◌≤◌, Option, List, length, take, drop, refl, sym, ap, ◌∙◌, subst, arith}
use Rattle.std.proofs.lemmas.List.{length-drop, length-reverse, length-take-le}
use Rattle.atomic_table.specs.declared.shared.Seat.{Seat}
use Rattle.bl_layout.specs.declared.layout.Layout.{Layout}
use Rattle.bl_model.specs.declared.operation.Reply.TheVariants.{Rows}
use Rattle.bl_page.specs.Faults.{pairs_of}
use Rattle.bl_store.specs.declared.store.Glance.{Glance}
use Rattle.bl_store_rule.specs.declared.view.View.{View}
use Rattle.bl_store.specs.Hands.{known, read_words}
use Rattle.bl_index_rule.specs.declared.known.PassState.{PassState}
use Rattle.bl_index_rule.specs.Observed.{ends}
use Rattle.bl_index.specs.declared.scanning.ScanFault.TheVariants.{Memory}
use Rattle.bl_index_read.specs.LeafRows.{toward, portion_of}
use Rattle.bl_proc.specs.declared.parts.Direction.{Direction}
use Rattle.bl_proc.specs.declared.parts.Direction.TheVariants.{Up, Down}
use Rattle.bl_index_read.specs.declared.sought.Sought.TheVariants as sought
use Rattle.bl_index_read.specs.LeafWays.{HasLeaf}
use Rattle.bl_index_read.specs.declared.leaf_rows.Behind.{Behind}
use Rattle.bl_index.specs.Scans.{GivesPart, LeavesPart}
use Rattle.bl_index_read.proofs.Answered.{part_finds}
use Rattle.bl_index_read.proofs.Leaves.{TellsBehind, part_goes_on, before_are}

module _ (l : Layout) (pass : ℕ) (direction : Direction) (from turns : ℕ) (old : PassState) (h : Seat (Unit {0}) (View PassState)) (e : PassState) (glance : Glance) (has : HasLeaf l pass (sought.Rows direction) from turns old h glance) (ended : ends (known h) 0 e) (to : Option ℕ) where
  -- its rows before the end were given
  pub part_gives : {S : Type 0} (takes : S → List (ℕ × ℕ) → S → Type 0) (before after : S) (behind : Behind) → TellsBehind direction to (read_words h) behind → takes before (portion_of direction from to (pairs_of (read_words h))) after → GivesPart takes old.first l.pages pass turns direction from to behind before after old.trail e.trail
  part_gives takes before after behind tells taken = record {
    reply = Rows has.leaf.ends.0.rows has.leaf.ends.0.next;
    finds = part_finds l pass direction from turns old h e glance has ended;
    ends = tells has.leaf.page has.leaf.ends.0.next has.leaf.leads.0 has.leaf.is (part_goes_on direction has.leaf.page from has.leaf.ends.0 has.leaf.ends.1);
    taken = subst (λ (z : List (ℕ × ℕ)). takes before z after) (sym (before_are direction from (read_words h) (known h) has.leaf to)) taken;
  }

  -- or they had no room
  pub part_leaves : {S : Type 0} (lacks : ℕ → Type 0) (before after : S) → after ≡ before → lacks (length (portion_of direction from to (pairs_of (read_words h)))) → LeavesPart old.first l.pages pass turns direction from to lacks (Memory from) before after old.trail e.trail
  part_leaves lacks before after kept more = record {
    key = refl;
    kept = kept;
    stops = record {
      reply = Rows has.leaf.ends.0.rows has.leaf.ends.0.next;
      finds = part_finds l pass direction from turns old h e glance has ended;
      more = subst (λ (z : List (ℕ × ℕ)). lacks (length z)) (sym (before_are direction from (read_words h) (known h) has.leaf to)) more;
    };
  }

-- as many as there are from one place up to another
pub portion_long : (direction : Direction) (rows given : List (ℕ × ℕ)) (first last : ℕ) → first ≤ last → last ≤ length rows → toward direction (take (last - first) (drop first rows)) ≡ given → length given ≡ last - first
portion_long direction rows given first last order within is =
    let rest = length-drop first rows in
    sym (ap length is) ∙ (turned direction (take (last - first) (drop first rows)) ∙ length-take-le (last - first) (drop first rows) (omega (arith, rest, within)))
  where
    turned : (direction : Direction) (xs : List (ℕ × ℕ)) → length (toward direction xs) ≡ length xs
    turned Up xs = refl
    turned Down xs = length-reverse xs

-- the rows of a leaf from one place up to another led there
abbrev pub Gives : {S : Type 0} → (S → List (ℕ × ℕ) → S → Type 0) → S → Direction → ℕ → ℕ → List ℕ → S → Type 0
Gives takes before direction first last words after = takes before (toward direction (take (last - first) (drop first (pairs_of words)))) after
