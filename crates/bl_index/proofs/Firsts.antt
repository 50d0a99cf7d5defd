-- An index as it is made.
use Rattle.std.proofs.Common.{ℕ, zero, suc, ◌≡◌, ◌-◌, ◌+◌, ◌<◌, ◌≤◌, Option, List, [], ◌∷◌, length, replicate, refl, sym, ap, ◌∙◌, subst, arith}
use Rattle.std.specs.Prelude.{Result, Ok, Err, IfOk}
use Rattle.std.proofs.lemmas.List.{length-replicate}
use mathlib.Core.Option.{some, some-injective, some-ne-none}
use lib.ListN.{get_elem?}
use Rattle.atomic_table.specs.Seated.{TableId}
use Rattle.bl_layout.specs.declared.layout.Layout.{Layout}
use Rattle.bl_page.specs.declared.page.Page.{Page}
use Rattle.bl_page.specs.declared.page.Page.TheVariants.{Anchor, Leaf, Inner, Dead}
use Rattle.bl_page.specs.Words.{words_of}
use Rattle.bl_store.specs.Opening.{first_pages, padded, IsDealt}
use Rattle.bl_store_rule.specs.declared.view.View.{View}
use Rattle.bl_store_rule.specs.Frames.{share}
use Rattle.bl_index_rule.specs.Simulation.{beginner, newcomer, Simulates}
use Rattle.bl_index_rule.proofs.Bounds.{first_anchor}
use Rattle.bl_index_rule.proofs.Starts.{first_leaf, starts}
use Rattle.bl_store.specs.declared.store.Hand.{Hand}
use Rattle.bl_index_rule.specs.declared.known.PassState.{PassState}
use Rattle.bl_claims.specs.Seeing.{IsSeen}
use Rattle.bl_index.specs.declared.index.Index.{Index}
use Rattle.bl_index.specs.declared.index.Pass.{Pass}
use Rattle.bl_layout.specs.Words.{HasFrames}
use Rattle.bl_index.specs.Calls.{first_of, frames_of}
use Rattle.bl_index.specs.Opened.{IsFirstAnchor, IsFirstLeaf, AreFirst, IsFirst, IsNewHand, AreNew, ArePasses, IsBegun}

there : {A : Type 0} (l : List A) (i : ℕ) → i < length l → (a : A) × (get_elem? l i ≡ some a)
there [] i h = absurd (omega arith)
there (x ∷ xs) zero h = (x, refl)
there (x ∷ xs) (suc i) h = there xs i (omega arith)

anchor_words : (c : Page) → IsFirstAnchor c → words_of c ≡ words_of first_anchor
anchor_words (Anchor a) is = rw is refl
anchor_words (Leaf l) is = absurd is
anchor_words (Inner i) is = absurd is
anchor_words (Dead d) is = absurd is

leaf_words : (c : Page) → IsFirstLeaf c → words_of c ≡ words_of first_leaf
leaf_words (Anchor a) is = absurd is
leaf_words (Leaf l) is = rw (is.0, is.1, is.2, is.3) refl
leaf_words (Inner i) is = absurd is
leaf_words (Dead d) is = absurd is

all_alike : {A : Type 0} (n : ℕ) (a : A) (k : ℕ) (b : A) → get_elem? (replicate n a) k ≡ some b → b ≡ a
all_alike zero a k b e = absurd (some-ne-none b (sym e))
all_alike (suc n) a zero b e = sym (some-injective a b e)
all_alike (suc n) a (suc k) b e = all_alike n a k b e

-- with only zeros behind its two first pages, they are the words of the opening index
pub pads : (many : ℕ) (contents : List (List ℕ)) → 2 ≤ many → AreFirst 2 contents → AreFirst many (padded many contents)
pads many [] two f = let count = f.count in absurd (omega (arith, count))
pads many (a ∷ []) two f = let count = f.count in absurd (omega (arith, count))
pads many (a ∷ b ∷ []) two f = record {
  count = ap (λ (n : ℕ). suc (suc n)) (length-replicate (many - 2) (replicate 32 0)) ∙ whole many two;
  each = each;
}
  where
    whole : (n : ℕ) → 2 ≤ n → suc (suc (n - 2)) ≡ n
    whole n two = omega (arith, two)

    each : (x : ℕ) (words : List ℕ) → get_elem? (a ∷ b ∷ replicate (many - 2) (replicate 32 0)) x ≡ some words → IsFirst x words
    each zero words at = f.each zero words at
    each (suc zero) words at = f.each (suc zero) words at
    each (suc (suc x)) words at = all_alike (many - 2) (replicate 32 0) x words at
pads many (a ∷ b ∷ c ∷ rest) two f = let count = f.count in absurd (omega (arith, count))

pub opens : (many : ℕ) (contents : List (List ℕ)) → 4 ≤ many → AreFirst many contents → (passes : ℕ) → Simulates (first_pages contents passes newcomer)
opens many contents four f passes =
    let count = f.count in
    let zero_at = there contents 0 (omega arith) in
    let one_at = there contents 1 (omega arith) in
    let zero_is = f.each 0 zero_at.0 zero_at.1 in
    let one_is = f.each 1 one_at.0 one_at.1 in
    starts contents (record {
      many = omega arith;
      anchor = zero_at.1 ∙ ap some (zero_is.2 ∙ anchor_words zero_is.0 zero_is.1);
      leaf = one_at.1 ∙ ap some (one_is.2 ∙ leaf_words one_is.0 one_is.1);
      others = λ x two lt. rest x two (there contents x lt);
    }) passes
  where
    rest : (x : ℕ) → 2 ≤ x → (words : List ℕ) × (get_elem? contents x ≡ some words) → get_elem? contents x ≡ some (replicate 32 0)
    rest zero two at = absurd (omega arith)
    rest (suc zero) two at = absurd (omega arith)
    rest (suc (suc x)) two at = at.1 ∙ ap some (f.each (suc (suc x)) at.0 at.1)

-- the hands that are dealt know what a pass knows at first
pub new_hands : (table : TableId) (l : Layout) (first : List (Option Page)) (known : PassState) (passes : ℕ) (hands : List (Hand PassState)) → known ≡ beginner first → IsDealt table l known passes hands → AreNew table l first 0 hands
new_hands table l first known passes hands is h j hand at = let same : j ≡ 0 + j = omega arith in subst (λ (z : ℕ). IsNewHand table l first z hand) same (subst (λ (z : PassState). (hand.number ≡ j) × (hand.seat.table_id ≡ table) × (hand.seat.me.0 ≡ share l z j (j + 1))) is (h.each j hand at))

pub is_begun : (first image : List (Option Page)) (pages among : ℕ) (index : Index) (hands : List (Hand PassState)) (passes : List Pass) → index.store.layout.pages ≡ pages → index.store.layout.passes ≡ among → HasFrames pages among (frames_of index) → length hands ≡ among → ArePasses index.store.table.shared.table_id index.store.layout first (length hands) passes → first_of index ≡ first → first ≡ image → IsSeen image [] → IsBegun image pages among index passes
is_begun first image pages among index hands passes pages_are passes_are frames many are begins same seen = record {
  pages = pages_are;
  passes_are = passes_are;
  frames = frames;
  count = are.count ∙ many;
  each = λ n pass at. (let is = are.each n pass at in ((is.1, ap (λ (v : View PassState). v.layout) is.2, ap (λ (v : View PassState). v.known.first) is.2 ∙ sym begins), is.0, ap (λ (v : View PassState). v.known.trail) is.2));
  first = begins ∙ same;
  seen = subst (λ (z : List (Option Page)). IsSeen z []) (sym (begins ∙ same)) seen;
}

-- what holds of a result where it is one
pub if_ok : {A E : Type 0} (P Q : A → Type 0) (r : Result A E) → ((a : A) → P a → Q a) → IfOk r P → IfOk r Q
if_ok P Q (Ok a) f h = f a h
if_ok P Q (Err e) f h = tt

-- the same by other names of what it began with and of how many pages it has
pub begun_as : (image other : List (Option Page)) (size many among : ℕ) (index : Index) (passes : List Pass) → image ≡ other → size ≡ many → IsBegun image size among index passes → IsBegun other many among index passes
begun_as image other size many among index passes same count begun = subst (λ (z : List (Option Page) × ℕ). IsBegun z.0 z.1 among index passes) (λ i. (same i, count i)) begun
