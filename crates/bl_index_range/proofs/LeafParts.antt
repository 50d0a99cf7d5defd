-- The leaf at which a part of a range has come, as one of the looks that the range keeps.
use Rattle.std.proofs.Common.{ℕ, ◌≡◌, ◌^◌, ◌<◌, ◌≤◌, ◌++◌, true, Option, Some, None, List, [], ◌∷◌, length, sym, ap, ◌∙◌, subst, arith}
use Rattle.std.specs.Prelude.{filter}
use Rattle.bl_model.specs.declared.operation.Next.{Next}
use Rattle.bl_model.specs.declared.operation.Next.TheVariants.{More, End}
use Rattle.bl_model.specs.declared.operation.Reply.TheVariants.{Rows as ReplyRows}
use Rattle.bl_model.specs.Map.{Map, ListsPairs}
use Rattle.bl_model.specs.Parts.{next_key}
use Rattle.bl_page.specs.declared.page.Page.{Page}
use Rattle.bl_page.specs.Faults.{pairs_of}
use Rattle.bl_page.specs.Nodes.{node_of}
use Rattle.bl_page.proofs.Once.{once}
use Rattle.bl_claims.specs.Trails.{Trail}
use Rattle.bl_one_moment.specs.Moments.{puts_at, IsLeafPart}
use Rattle.bl_proc.specs.Parts.{GoesOnAt}
use Rattle.bl_proc.specs.declared.parts.Direction.TheVariants.{Up}
use Rattle.bl_store.specs.declared.store.Hand.{Hand}
use Rattle.bl_store.specs.Hands.{known, read_words, IsIdle, Keeps}
use Rattle.bl_store.specs.declared.store.Glance.{Glance}
use Rattle.bl_tree.proofs.SoundPages.{sound_node}
use Rattle.bl_index_rule.specs.declared.known.PassState.{PassState}
use Rattle.bl_index_rule.specs.Observed.{ends}
use Rattle.bl_index_events.specs.declared.tree.Tree.{Tree}
use Rattle.bl_index_events.specs.Runs.{Runs, IsWithin}
use Rattle.bl_index_read.specs.declared.leaf_rows.Behind.TheVariants.{Part}
use Rattle.bl_index_read.specs.declared.sought.Sought.TheVariants.{Rows}
use Rattle.bl_index_read.specs.Keeping.{KeepsStill, IsKeptLeaf}
use Rattle.bl_index_read.specs.LeafRows.{IsBelow, is_below, rows_between}
use Rattle.bl_index_read.specs.LeafWays.{HasLeaf}
use Rattle.bl_index_read.proofs.Answered.{part_finds}
use Rattle.bl_index_read.proofs.Leaves.{TellsBehind, before_are}
use Rattle.bl_index_read.proofs.Ranges.{below_true, filter_keeps, filter_has, rising_filter}
use Rattle.bl_index_range.specs.Parts.{rows_below}
use Rattle.bl_index_range.specs.Gathering.{IsLook, ReadsLeaf, LeavesLeaf, RestsAfter}
use Rattle.bl_index_range.specs.declared.ranging.AtLeaf.{AtLeaf}
use Rattle.bl_index_range.specs.declared.ranging.RangeFault.TheVariants.{Memory}

below_less : (to : Option ℕ) (next key : ℕ) → IsBelow to next → key < next → IsBelow to key
below_less None next key below lt = tt
below_less (Some end) next key below lt = omega (arith, below, lt)

ends_at : (end : ℕ) (n : Next) (next : ℕ) → GoesOnAt end n → next_key n ≡ Some next → end ≡ next
ends_at end (More key) next goes is = let same : key ≡ next = cc in sym goes.1 ∙ same
ends_at end End next goes is = let none : ⊥ = cc in absurd none

-- what was read of the leaf's words
pub reads_leaf : (tree : Tree) (hand hand' : Hand PassState) (pass at : ℕ) (to : Option ℕ) (turns : ℕ) (leaf : AtLeaf) (before after : List (ℕ × ℕ)) (old : PassState) → Runs tree hand' (known hand'.seat).state
    → HasLeaf tree.store.layout pass (Rows Up) at turns old hand'.seat leaf.look.glance → IsKeptLeaf tree.store.layout.pages pass old leaf.look.page hand'.seat leaf.look.glance → KeepsStill hand.seat hand'.seat
    → leaf.look.from ≡ at → leaf.look.rows ≡ length before → after ≡ before ++ rows_between at to (pairs_of (read_words hand'.seat)) → TellsBehind Up to (read_words hand'.seat) leaf.behind
    → ReadsLeaf tree hand hand' pass at to turns leaf before after old
reads_leaf tree hand hand' pass at to turns leaf before after old runs has kept still start count listed tells = record {
  runs = runs;
  has = has;
  kept = kept;
  still = still;
  start = start;
  count = count;
  listed = listed ∙ ap (λ (z : List (ℕ × ℕ)). before ++ z) (sym (before_are Up at (read_words hand'.seat) (known hand'.seat) has.leaf to));
  goes = tells has.leaf.page has.leaf.ends.0.next has.leaf.leads.0 has.leaf.is has.leaf.ends.1.next;
}

-- it had no room, and the part has ended
pub leaves_leaf : (tree : Tree) (hand' hand'' : Hand PassState) (pass at turns : ℕ) (glance : Glance) (old : PassState) → HasLeaf tree.store.layout pass (Rows Up) at turns old hand'.seat glance
    → ends (known hand'.seat) 0 (known hand''.seat) → IsIdle hand''.seat → IsWithin hand''.seat → RestsAfter hand'' (LeavesLeaf old.first tree.store.layout.pages pass turns at Memory) old
leaves_leaf tree hand' hand'' pass at turns glance old has ended idle within = record {
  rests = record { idle = idle; within = within; over = ended.0.runs };
  first = ended.0.notes.first ∙ has.since.beginning;
  seen = ended.0.notes.seen;
  does = (ReplyRows has.leaf.ends.0.rows has.leaf.ends.0.next, part_finds tree.store.layout pass Up at turns old hand'.seat (known hand''.seat) glance has ended);
}

-- the rows of a leaf that lie below its end all lie below the range's
lists_below : (look : Map) (at next : ℕ) (to : Option ℕ) (rows : List (ℕ × ℕ)) → ((key value : ℕ) → look key ≡ Some value → key < next) → IsBelow to next → ListsPairs look (λ key. at ≤ key) rows
    → ListsPairs look (λ key. (at ≤ key) × (key < next)) (filter (λ row. is_below to row.0) rows)
lists_below look at next to rows within below lists = record {
  rising = rising_filter (λ row. is_below to row.0) rows lists.rising;
  pairs = λ key value. (
    λ c. let there = (lists.pairs key value).0 (filter_has (λ row. is_below to row.0) rows (key, value) c).0 in (there.0, (there.1, within key value there.0)),
    λ (is, (low, high)). filter_keeps (λ row. is_below to row.0) rows (key, value) ((lists.pairs key value).1 (is, low)) (below_true to key (below_less to next key below high)),
  );
}

module _ (tree : Tree) (hand hand' : Hand PassState) (pass at : ℕ) (to : Option ℕ) (turns : ℕ) (leaf : AtLeaf) (before after : List (ℕ × ℕ)) (old : PassState) (r : ReadsLeaf tree hand hand' pass at to turns leaf before after old) where
  content_is : r.kept.content ≡ r.has.leaf.page
  content_is = once r.kept.content r.has.leaf.page (sym r.kept.words ∙ r.has.leaf.is)

  -- it ends behind the key of its part
  pub ends_behind : (next link : ℕ) → leaf.behind ≡ Part next link → (at < next) × (next < 2 ^ 64) × IsBelow to next
  ends_behind next link behind =
      let there = r.has.leaf in
      let goes = rw behind at r.goes in
      let end = ends_at (node_of there.page).shape.end there.ends.0.next next there.ends.1.next goes.0 in
      let high = there.leads.1.1 in
      (omega (arith, high, end), goes.1, goes.2)

  pub look_of : (next link : ℕ) → at < 2 ^ 64 → IsBelow to at → leaf.behind ≡ Part next link
      → IsLook hand'.seat tree.store.layout.pages to at next leaf.look (rows_below to (ReplyRows r.has.leaf.ends.0.rows r.has.leaf.ends.0.next))
  look_of next link fits below behind =
      let there = r.has.leaf in
      let page = there.page in
      let goes = rw behind at r.goes in
      let end : (node_of page).shape.end ≡ next = ends_at (node_of page).shape.end there.ends.0.next next there.ends.1.next goes.0 in
      let sound = sound_node page there.leads.0 in
      let covers = there.leads.1 in
      let part : IsLeafPart at next page (rows_below to (ReplyRows there.ends.0.rows there.ends.0.next)) = record {
        page = there.leads.0;
        leaf = there.leads.2;
        low = covers.0;
        order = let high = covers.1 in omega (arith, high, end);
        end = omega (arith, end);
        lists = lists_below (node_of page).look at next to there.ends.0.rows.items (λ key value is. let c = sound.covered key value is in omega (arith, c.1, end)) goes.2 there.ends.1.rows;
      } in
      record {
        near = r.kept.near;
        start = r.start;
        fits = fits;
        below = below;
        content = r.kept.content;
        before = r.kept.before;
        get = r.kept.get;
        since = [];
        split = r.kept.split;
        act = r.kept.act;
        saw = r.kept.saw;
        keeps = subst (λ (z : Trail). Keeps hand'.seat leaf.look.page (puts_at leaf.look.page z) leaf.look.glance) r.kept.split r.kept.keeps.0;
        part = subst (λ (z : Page). IsLeafPart at next z (rows_below to (ReplyRows there.ends.0.rows there.ends.0.next))) (sym content_is) part;
      }
