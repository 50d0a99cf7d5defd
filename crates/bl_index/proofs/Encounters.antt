-- Two passes that have learned of each other, one after the other.
use Rattle.std.proofs.Common.{ℕ, List, Option, ◌≡◌, sym, ap, ◌∙◌, subst}
use Rattle.bl_page.specs.declared.page.Page.{Page}
use Rattle.bl_claims.specs.Trails.{Trail, marks_of}
use Rattle.bl_claims.specs.Seeing.{IsSeen, own, name}
use Rattle.bl_index.specs.Meetings.{Learns, Meet}

-- one learned, two was told then, and neither forgot
pub met : (first : List (Option Page)) (one two : ℕ) (old_one old_two learned new_one new_two : Trail) → Learns one two old_one old_two learned → IsSeen first learned → new_one ≡ learned → new_two ≡ learned → Meet first one two old_one old_two new_one new_two
met first one two old_one old_two learned new_one new_two l seen kept observed = record {
  same = observed ∙ sym kept;
  seen = subst (IsSeen first) (sym kept) seen;
  begins_one = (l.begins.0, kept ∙ l.begins.1);
  begins_two = (l.begins_theirs.0, kept ∙ l.begins_theirs.1);
  none_one = ap (own one) kept ∙ l.none;
  none_two = ap (own two) kept ∙ l.none_theirs;
  still_one = λ number. ap (marks_of (name one number)) kept ∙ l.still number;
  still_two = λ number. ap (marks_of (name two number)) kept ∙ l.still_theirs number;
}
