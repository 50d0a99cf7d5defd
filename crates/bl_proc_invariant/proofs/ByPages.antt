-- What a compression and a lowering have done, told by the pages that they got and put.
use Rattle.std.proofs.Common.{ℕ, ◌≡◌, ◌≢◌, ◌<◌, ◌≤◌, ◌==◌, ◌++◌, Bool, true, false, if◌then◌else◌, List, [], ◌∷◌, length, Option, Some, None, arith, refl, ap, sym, ◌∙◌, subst}
use Rattle.std.specs.Prelude.{◌+◌, ◌&&◌, not, nat_lt, ◌↔◌}
use Rattle.bl_model.specs.Map.{with_pair, without_key}
use Rattle.bl_model.specs.Rows.{key_at, map_of}
use Rattle.bl_model.specs.declared.operation.Reply.{Reply}
use Rattle.bl_page.specs.declared.page.Page.{Page}
use Rattle.bl_page.specs.declared.page.Page.TheVariants.{Anchor, Leaf, Inner as InnerPage, Dead}
use Rattle.bl_page.specs.declared.page.Inner.{Inner}
use Rattle.bl_page.specs.Machine.{Act}
use Rattle.bl_page.specs.Machine.Act.{Put, Retire}
use Rattle.bl_page.specs.Nodes.{Shape, node_of, IsTreePage}
use Rattle.bl_page.specs.Pairs.{end_of, BeginsWith}
use Rattle.bl_rearrange.specs.Rearranged.{pairs_of, IsNow, low_of, high_of, right_of, IsWithout}
use Rattle.bl_rearrange.specs.Neighbours.{AreNeighbours, Gains}
use Rattle.bl_rearrange.specs.declared.sides.Evened.{Evened}
use Rattle.bl_rearrange.specs.declared.sides.Side.{Side}
use Rattle.bl_rearrange.specs.declared.sides.Side.TheVariants as side
use Rattle.bl_claims.specs.Trails.{Trail}
use Rattle.bl_answers.specs.declared.answers.Hint.{Hint}
use Rattle.bl_answers.specs.declared.answers.Hint.TheVariants as hint
use Rattle.bl_answers.specs.Thin.{thin_low, thin_hint}
use Rattle.bl_rearrange.specs.declared.families.Siblings.{Siblings}
use Rattle.bl_rearrange.specs.declared.families.Family.{Family}
use Rattle.bl_proc_compress.specs.declared.compression.Puts.{Puts}
use Rattle.bl_proc_compress.specs.Compressions.{IsBuried, Merges, Evens, Relists, either_hint, merge_hint, other}
use Rattle.bl_claims.specs.Squeezed.{Adjoin, GotBoth, evened_puts, NowLists, IsMergeOf, IsEveningOf, thin_or, HasMerged, HasEvened}
use Rattle.bl_proc_invariant.specs.Logs.{to_right, AtBoth, put_act, IsToCompress, to_last}

bound_is : (high : ℕ) → high ≢ 0 → end_of high ≡ high
bound_is high some = grind (arith, some)

end_of-bound : (low bound : ℕ) → low < bound → end_of bound ≡ bound
end_of-bound low bound above = grind (arith, above)

low_is : (page : Page) → low_of page ≡ (node_of page).shape.low
low_is (Anchor a) = refl
low_is (Leaf l) = refl
low_is (InnerPage i) = refl
low_is (Dead d) = refl

pub right_is : (page : Page) → right_of page ≡ (node_of page).shape.right
right_is (Anchor a) = refl
right_is (Leaf l) = refl
right_is (InnerPage i) = refl
right_is (Dead d) = refl

shape_same : (a b : Shape) → a.level ≡ b.level → a.low ≡ b.low → a.end ≡ b.end → a.right ≡ b.right → a ≡ b
shape_same a b level low end right = λ i. record { level = level i; low = low i; end = end i; right = right i }

pub adjoin : (left right : Page) → AreNeighbours left right → Adjoin (node_of left).shape (node_of right).shape
adjoin (Leaf l) (Leaf r) h = (refl, l.bounds, h.1 ∙ sym (bound_is l.high h.0), r.bounds)
adjoin (InnerPage l) (InnerPage r) h = (h.0, l.bounds, h.2 ∙ sym (bound_is l.high h.1), r.bounds)
adjoin left right h = absurd h

-- Frames, told by shapes

abbrev joined : Shape → Shape → Shape
joined left right = record left { end = right.end; right = right.right }

merged_covers : (left right page : Page) → AreNeighbours left right → IsNow (low_of left) (high_of right) (right_of right) left page → (node_of page).shape ≡ joined (node_of left).shape (node_of right).shape
merged_covers (Leaf l) (Leaf r) (Leaf p) near h = shape_same _ _ refl h.0 (ap end_of h.1) h.2
merged_covers (Leaf l) (Leaf r) page near h = absurd h
merged_covers (InnerPage l) (InnerPage r) (InnerPage p) near h = shape_same _ _ h.0 h.1 (ap end_of h.2) h.3
merged_covers (InnerPage l) (InnerPage r) page near h = absurd h
merged_covers left right page near h = absurd near

left_covers : (left page : Page) (separator : ℕ) → low_of left < separator → IsNow (low_of left) separator (right_of left) left page → (node_of page).shape ≡ record (node_of left).shape { end = separator }
left_covers (Leaf l) (Leaf p) separator lt h = shape_same _ _ refl h.0 (ap end_of h.1 ∙ end_of-bound l.low separator lt) h.2
left_covers (Leaf l) page separator lt h = absurd h
left_covers (InnerPage l) (InnerPage p) separator lt h = shape_same _ _ h.0 h.1 (ap end_of h.2 ∙ end_of-bound l.low separator lt) h.3
left_covers (InnerPage l) page separator lt h = absurd h
left_covers left page separator lt h = absurd h

right_covers : (right page : Page) (separator : ℕ) → IsNow separator (high_of right) (right_of right) right page → (node_of page).shape ≡ record (node_of right).shape { low = separator }
right_covers (Leaf r) (Leaf p) separator h = shape_same _ _ refl h.0 (ap end_of h.1) h.2
right_covers (Leaf r) page separator h = absurd h
right_covers (InnerPage r) (InnerPage p) separator h = shape_same _ _ h.0 h.1 (ap end_of h.2) h.3
right_covers (InnerPage r) page separator h = absurd h
right_covers right page separator h = absurd h

buried : (x : ℕ) (old page : Page) → IsBuried x old page → (node_of page).shape ≡ record (node_of old).shape { end = 0; right = x }
buried x old (Dead d) h = shape_same _ _ h.0 (h.1 ∙ low_is old) refl h.2
buried x old page h = absurd h

-- Parents

without : (parent : Inner) (key : ℕ) (page : Page) → IsWithout (InnerPage parent) key page → NowLists parent (without_key (map_of parent.children.items) key) page
without parent key (InnerPage q) h = let k = h.frame in (shape_same _ _ k.0 k.1 (ap end_of k.2) k.3, h.pairs)
without parent key page h = absurd h.frame

relisted : (parent : Inner) (key separator child : ℕ) (page : Page) → Relists parent key separator child (Some page) → (without_key (map_of parent.children.items) key separator ≡ None) × NowLists parent (with_pair (without_key (map_of parent.children.items) key) separator child) page
relisted parent key separator child (InnerPage q) (InnerPage m, without, fits, none) =
    let h = without.frame in
    let k = fits.1 in (
      sym (without.pairs separator) ∙ none,
      (shape_same _ _ (k.0 ∙ h.0) (k.1 ∙ h.1) (ap end_of (k.2 ∙ h.2)) (k.3 ∙ h.3), λ j. fits.2 j ∙ ap (λ (z : Option ℕ). if j == separator then Some child else z) (without.pairs j)),
    )
relisted parent key separator child page (InnerPage m, without, fits, none) = absurd fits.1
relisted parent key separator child page (middle, without, fits, none) = absurd without.frame

-- Hints

pick : (b : Bool) (level low : ℕ) (next : Option Hint) → (if b then Some (hint.Thin level low) else next) ≡ either_hint (thin_hint level (if b then Some low else None)) next
pick true level low next = refl
pick false level low next = refl

one_thin : (level : ℕ) (page : Page) (next : Option Hint) → IsTreePage page → thin_or level page next ≡ either_hint (thin_hint level (thin_low page)) next
one_thin level (Leaf l) next h = pick (nat_lt (length l.rows.items) 7 && not ((l.low == 0) && (l.high == 0))) level l.low next
one_thin level (InnerPage i) next h = pick (nat_lt (length i.children.items) 7 && not ((i.low == 0) && (i.high == 0))) level i.low next
one_thin level page next h = absurd h

either_none : (h : Option Hint) → either_hint h None ≡ h
either_none None = refl
either_none (Some h) = refl

tree_now : (low high right : ℕ) (old page : Page) → IsNow low high right old page → IsTreePage page
tree_now low high right (Leaf l) (Leaf p) h = tt
tree_now low high right (Leaf l) page h = absurd h
tree_now low high right (InnerPage i) (InnerPage p) h = tt
tree_now low high right (InnerPage i) page h = absurd h
tree_now low high right old page h = absurd h

hints : (level : ℕ) (parent left : Page) → IsTreePage parent → IsTreePage left → merge_hint level parent left ≡ thin_or (level + 1) parent (thin_or level left None)
hints level parent left above below =
    let lower : thin_or level left None ≡ thin_hint level (thin_low left) = one_thin level left None below ∙ either_none (thin_hint level (thin_low left)) in
    ap (λ (z : Option Hint). either_hint (thin_hint (level + 1) (thin_low parent)) z) (sym lower) ∙ sym (one_thin (level + 1) parent (thin_or level left None) above)

-- What is put

pub merge_of : (f : Family) (c d : Page) (u : Puts) → AreNeighbours c d → Merges f c d u → IsMergeOf f c d u.left u.parent u.right
merge_of f c d u near m = record {
  covers = merged_covers c d u.left near m.left.1;
  pairs = m.left.2;
  parent_is = without f.parent f.key u.parent m.parent;
  dead_is = buried f.at.left d u.right m.right;
}

abbrev pub evened_of : (u : Puts) → ℕ → Evened
evened_of u separator = record { left = u.left; right = u.right; separator = separator; gains = u.gains }

first_of : (separator : ℕ) (pairs : List (ℕ × ℕ)) → BeginsWith separator pairs → key_at pairs 0 ≡ separator
first_of separator [] h = absurd h
first_of separator (pair ∷ pairs) h = h

gains : (sd : Side) (had has old new : ℕ) → Gains sd had has old new → (sd ≡ side.Left) ↔ (old ≤ new)
gains side.Left had has old new h = (λ e. h.1, λ le. refl)
gains side.Right had has old new h = (λ e. cc, λ le. absurd (omega (arith, h.1, le)))

pub evening_of : (f : Family) (c d : Page) (u : Puts) (v : Evens f c d u) → IsEveningOf f c d (evened_of u v.separator) u.parent
evening_of f c d u v =
    let parent = relisted f.parent f.key v.separator f.at.right u.parent v.parent in
    record {
      past = v.may.past;
      few = v.may.few;
      pairs = v.evened.pairs;
      half = v.evened.half;
      separator = first_of v.separator (pairs_of u.right) v.evened.separator;
      left_covers = left_covers c u.left v.separator v.evened.above v.evened.left_frame;
      right_covers = right_covers d u.right v.separator v.evened.right_frame;
      gains = subst (λ (z : ℕ). (u.gains ≡ side.Left) ↔ (z ≤ v.separator)) (low_is d) (gains u.gains _ _ (low_of d) v.separator v.evened.gains);
      unlisted = parent.0;
      parent_is = parent.1;
    }

abbrev pub got_both : {level key : ℕ} {ms : Trail} (f : Family) (c d : Page) (more : Siblings → List (Act Page Reply)) → AreNeighbours c d → AtBoth level key ms f c d (to_right f.at (more f.at)) → GotBoth level key ms more
got_both f c d more near h = record {
  first = record { family = f; at = h.left.family; left = c; got = h.left.got };
  right = d;
  got = h.got;
  neighbours = adjoin c d near;
}

-- what is put of a merge
abbrev put_merged : Puts → Siblings → List (Act Page Reply)
put_merged u at = Put at.left u.left ∷ Put at.parent u.parent ∷ Put at.right u.right ∷ Retire at.right ∷ []

puts_are : (sd : Side) (u : Puts) (separator : ℕ) → put_act sd u ∷ Put u.at.parent u.parent ∷ put_act (other sd) u ∷ [] ≡ evened_puts sd (evened_of u separator) u.parent u.at
puts_are side.Left u separator = refl
puts_are side.Right u separator = refl

-- all is put, and the right child retired
merged_acts : (u : Puts) → u.gains ≡ side.Left → to_last u ++ Retire u.at.right ∷ [] ≡ to_right u.at (put_merged u u.at)
merged_acts u gains =
    ap (λ (z : Side). to_right u.at (put_act z u ∷ Put u.at.parent u.parent ∷ put_act (other z) u ∷ Retire u.at.right ∷ [])) gains

module _ (level key : ℕ) (ms : Trail) (u : Puts) where
  pub has_merged : (h : IsToCompress level key ms u (to_last u ++ Retire u.at.right ∷ [])) → AreNeighbours h.left h.right → Merges h.family h.left h.right u → HasMerged level key (merge_hint h.family.parent.level u.parent u.left) ms
  has_merged h near m =
      let acts : AtBoth level key ms h.family h.left h.right (to_right u.at (put_merged u u.at)) = subst (λ (z : List (Act Page Reply)). AtBoth level key ms h.family h.left h.right z) (merged_acts u m.gains) h.both in
      record {
        merged = u.left;
        parent = u.parent;
        dead = u.right;
        both = got_both h.family h.left h.right (put_merged u) near (subst (λ (t : Siblings). AtBoth level key ms h.family h.left h.right (to_right t (put_merged u t))) h.at acts);
        merge = merge_of h.family h.left h.right u near m;
        hint_is = ap (λ (l : ℕ). merge_hint l u.parent u.left) h.both.left.family.level_is ∙ hints level u.parent u.left (tree_now _ _ _ (InnerPage h.family.parent) u.parent m.parent.frame) (tree_now _ _ _ h.left u.left m.left.1);
      }

  pub has_evened : (h : IsToCompress level key ms u (to_last u)) → Evens h.family h.left h.right u → HasEvened level key ms
  has_evened h v =
      let acts : AtBoth level key ms h.family h.left h.right (to_right u.at (evened_puts u.gains (evened_of u v.separator) u.parent u.at)) = subst (λ (z : List (Act Page Reply)). AtBoth level key ms h.family h.left h.right (to_right u.at z)) (puts_are u.gains u v.separator) h.both in
      record {
        now = evened_of u v.separator;
        parent = u.parent;
        both = got_both h.family h.left h.right (evened_puts u.gains (evened_of u v.separator) u.parent) v.may.neighbours (subst (λ (t : Siblings). AtBoth level key ms h.family h.left h.right (to_right t (evened_puts u.gains (evened_of u v.separator) u.parent t))) h.at acts);
        evening = evening_of h.family h.left h.right u v;
      }
