-- The two children of a parent that are compressed for a key: there is one such pair.
use Rattle.std.proofs.Common.{ℕ, ◌≡◌, ◌-◌, ◌<◌, ◌≤◌, List, length, get_or, Some, refl, sym, ap, ◌∙◌, inl, inr, arith}
use Rattle.std.specs.Coded.{le_prop}
use Rattle.std.proofs.Props.{props}
use Rattle.std.proofs.lemmas.Bool.{cases_lt}
use mathlib.Core.HLevel.{is_prop→PathP}
use Rattle.bl_model.specs.Rows.{map_of}
use Rattle.bl_page.specs.declared.page.Inner.{Inner}
use Rattle.bl_page.specs.Pairs.{IsChild, IsChild-prop, IsWithin, IsWithin-prop, place}
use Rattle.bl_page.proofs.Lookups.{place-le, NameChildren-at}
use Rattle.bl_rearrange.specs.declared.families.Siblings.{Siblings}
use Rattle.bl_rearrange.specs.declared.families.Family.{Family}
use Rattle.bl_proc_compress.specs.Compressions.{right_place, IsFamily}
use Rattle.bl_proc_compress.proofs.Places.{right_place-some, listed_at, above_first, within_at}

siblings_same : (a b : Siblings) → a.parent ≡ b.parent → a.left ≡ b.left → a.right ≡ b.right → a ≡ b
siblings_same a b parent left right = λ i. record { parent = parent i; left = left i; right = right i }

family_same : (a b : Family) → a.at ≡ b.at → a.parent ≡ b.parent → a.key ≡ b.key → a ≡ b
family_same a b at parent key = λ i. record {
  at = at i;
  parent = parent i;
  key = key i;
  covers = is_prop→PathP (λ i. IsWithin (parent i).low (parent i).high (key i)) (λ i. IsWithin-prop (parent i).low (parent i).high (key i)) a.covers b.covers i;
  above = is_prop→PathP (λ i. (parent i).low < key i) (λ i. le_prop) a.above b.above i;
  lists = is_prop→PathP (λ i. map_of (parent i).children.items (key i) ≡ Some (at i).right) (λ i. hlevel props) a.lists b.lists i;
  left_child = is_prop→PathP (λ i. IsChild (at i).left) (λ i. IsChild-prop (at i).left) a.left_child b.left_child i;
  right_child = is_prop→PathP (λ i. IsChild (at i).right) (λ i. IsChild-prop (at i).right) a.right_child b.right_child i;
}

module _ (x key : ℕ) (parent : Inner) where
  pub family_one : (f g : Family) → IsFamily x key parent f → IsFamily x key parent g → f ≡ g
  family_one f g a b =
      let right : ◌≡◌ {A = ℕ × ℕ} (f.key, f.at.right) (g.key, g.at.right) = sym a.right ∙ b.right in
      let at = siblings_same f.at g.at (a.parent_at ∙ sym b.parent_at) (sym a.left ∙ b.left) (ap (λ (z : ℕ × ℕ). z.1) right) in
      family_same f g at (a.parent_is ∙ sym b.parent_is) (ap (λ (z : ℕ × ℕ). z.0) right)

  right_place-lt : (k : ℕ) (pairs : List (ℕ × ℕ)) → 0 < length pairs → right_place k pairs < length pairs
  right_place-lt k pairs some = elim (cases_lt (place k pairs) (length pairs)) [
    | inl lt ↦ grind (arith, lt)
    | inr ge ↦ grind (arith, place-le k pairs, ge, some)
  ]

  pub family_some : IsWithin parent.low parent.high key → 2 ≤ length parent.children.items → (f : Family) × IsFamily x key parent f
  family_some in_it two =
      let pairs = parent.children.items in
      let i = right_place key pairs in
      let lt : i < length pairs = right_place-lt key pairs (omega arith) in
      let some : 0 < i = right_place-some parent.low key pairs parent.first in_it.0 two in (
        record {
          at = record { parent = x; left = (get_or pairs (i - 1) (0, 0)).1; right = (get_or pairs i (0, 0)).1 };
          parent = parent;
          key = (get_or pairs i (0, 0)).0;
          covers = within_at parent.low parent.high i pairs parent.cover lt;
          above = above_first 0 parent.low i pairs parent.order parent.first some lt;
          lists = listed_at 0 i pairs parent.order lt;
          left_child = NameChildren-at pairs (i - 1) parent.pages (omega (arith, lt));
          right_child = NameChildren-at pairs i parent.pages lt;
        },
        record { parent_at = refl; parent_is = refl; left = refl; right = refl },
      )
