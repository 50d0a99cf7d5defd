-- What the rows that were read of a part's leaf say of the part.
use Rattle.std.proofs.Common.{ℕ, ◌≡◌, Option, List, ap, subst}
use Rattle.std.specs.Prelude.{filter}
use Rattle.atomic_table.specs.declared.shared.Seat.{Seat}
use Rattle.bl_layout.specs.declared.layout.Layout.{Layout}
use Rattle.bl_model.specs.declared.operation.Next.{Next}
use Rattle.bl_model.specs.declared.operation.Reply.TheVariants.{Rows}
use Rattle.bl_model.specs.Parts.{next_key}
use Rattle.bl_page.specs.declared.page.Page.{Page}
use Rattle.bl_page.specs.Faults.{HasPairs, pairs_of}
use Rattle.bl_page.specs.Words.{words_of}
use Rattle.bl_page.specs.Nodes.{IsTreePage, node_of}
use Rattle.bl_proc_routes.proofs.Spellings.{tree_pairs}
use Rattle.bl_proc.specs.declared.parts.Direction.{Direction}
use Rattle.bl_proc.specs.declared.parts.Direction.TheVariants.{Up, Down}
use Rattle.bl_proc.specs.declared.parts.PartRows.{PartRows}
use Rattle.bl_proc.specs.Parts.{op_toward, IsPartToward}
use Rattle.bl_proc_deterministic.proofs.Listings.{by_one}
use Rattle.bl_store.specs.declared.store.Glance.{Glance}
use Rattle.bl_store_rule.specs.declared.view.View.{View}
use Rattle.bl_store.specs.Hands.{known, read_words}
use Rattle.bl_index_rule.specs.declared.known.PassState.{PassState}
use Rattle.bl_index_rule.specs.Observed.{ends}
use Rattle.bl_index_read.specs.Searching.{Finds}
use Rattle.bl_index_read.specs.LeafRows.{is_below, is_before, GoesOnWithin, GoesOnToward, portion_of}
use Rattle.bl_index_read.specs.declared.sought.Sought.{Sought}
use Rattle.bl_index_read.specs.declared.sought.Sought.TheVariants as sought
use Rattle.bl_index_read.specs.LeafWays.{IsAtLeaf, HasLeaf}
use Rattle.bl_index_read.specs.declared.leaf_rows.Behind.{Behind}
use Rattle.bl_index_read.proofs.Answered.{part_finds}
use Rattle.bl_index_read.proofs.Picked.{part_rows, down_rows}

-- a leaf has pairs, and where its next part begins is read of its words
pub leaf_pairs : {s : Sought} (from : ℕ) (words : List ℕ) (d : PassState) → IsAtLeaf s from words d → HasPairs words
leaf_pairs from words d leaf = tree_pairs leaf.page words leaf.leads.0 leaf.is

-- a scan goes on so behind the leaf with these words
abbrev pub TellsBehind : Direction → Option ℕ → List ℕ → Behind → Type 0
TellsBehind direction to words behind = (c : Page) (next : Next) → IsTreePage c → words ≡ words_of c → GoesOnToward direction c next → GoesOnWithin direction to (next_key next) behind

-- where the part behind a page begins, as the part of that page says it
pub part_goes_on : (direction : Direction) (c : Page) (from : ℕ) (part : PartRows) → IsPartToward direction c from part → GoesOnToward direction c part.next
part_goes_on Up c from part is = is.next
part_goes_on Down c from part is = is.next

-- those before an end of the rows that a part lists
pub before_are : (direction : Direction) (from : ℕ) (words : List ℕ) (d : PassState) (leaf : IsAtLeaf (sought.Rows direction) from words d) (to : Option ℕ)
    → filter (λ row. is_before direction to row.0) leaf.ends.0.rows.items ≡ portion_of direction from to (pairs_of words)
before_are Up from words d leaf to = ap (filter (λ row. is_below to row.0)) (part_rows leaf.page words from leaf.leads.0 leaf.is leaf.ends.0 leaf.ends.1)
before_are Down from words d leaf to = down_rows leaf.page words from leaf.leads.0 leaf.is to leaf.ends.0 leaf.ends.1

module _ (l : Layout) (pass : ℕ) (direction : Direction) (from turns : ℕ) (old : PassState) (h h' : Seat (Unit {0}) (View PassState)) (glance : Glance) (has : HasLeaf l pass (sought.Rows direction) from turns old h glance) (ended : ends (known h) 0 (known h')) where
  -- the part is answered by what was read
  pub part_answers : (read : PartRows) → IsPartToward direction has.leaf.page from read → Finds old.first l.pages pass turns (op_toward direction from) (Rows read.rows read.next) old.trail (known h').trail
  part_answers read lists =
      let one : has.leaf.ends.0 ≡ read = by_one (record { key = from; direction = direction }) has.leaf.page has.leaf.ends.0 read has.leaf.ends.1 lists in
      subst (λ (z : PartRows). Finds old.first l.pages pass turns (op_toward direction from) (Rows z.rows z.next) old.trail (known h').trail) one (part_finds l pass direction from turns old h (known h') glance has ended)
