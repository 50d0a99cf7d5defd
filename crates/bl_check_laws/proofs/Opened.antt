-- An index that is opened from an image begins with the map of the image's rows.
use Rattle.std.proofs.Common.{◌≡◌, ◌≢◌, ℕ, ◌≤◌, ◌^◌, List, [], true, false, Option, Some, None, refl, sym, subst, ap, ◌∙◌, inl, inr, arith}
use Rattle.std.specs.Prelude.{is_some, length}
use Rattle.std.proofs.lemmas.Bool.{cases_lt, false≢true}
use Rattle.std.proofs.lemmas.List.{get_or_past}
use Rattle.bl_model.specs.Rows.{map_of}
use Rattle.bl_page.specs.declared.page.Page.{Page}
use Rattle.bl_page.specs.declared.page.Page.TheVariants.{Anchor, Leaf, Inner, Dead}
use Rattle.bl_page.specs.Machine.{Name, Owner, State}
use Rattle.bl_image.specs.Images.{IsImage}
use Rattle.bl_page.specs.Nodes.{Node, Roots, node_of, roots_of}
use Rattle.bl_tree.specs.Starts.{AreSound, start_map}
use Rattle.bl_tree.proofs.SoundStarts.{none_paired, bool_cases}
use Rattle.bl_tree_worlds.specs.Worlds.{Stage, Know, World}
use Rattle.bl_tree_worlds.specs.Blank.{IsBlank}
use Rattle.bl_tree_worlds.specs.Observed.{TellsMiddles}
use Rattle.bl_tree_worlds.proofs.Starts.{Sound, sound_world, sound_good}
use Rattle.bl_tree_worlds.proofs.WorldLaws.{laws}
use Rattle.bl_check.specs.Rows.{RowsFrom, AreRowsOf}
use Rattle.bl_check.specs.Rules.{is_anchor, is_dead, Rule, AreSound as AreSoundPages}
use Rattle.bl_page.specs.Pages.{page_at}
use Rattle.bl_check.specs.Spans.{span_of, span_at, leftmost}
use Rattle.bl_check.proofs.Reaching.{live_below}
use Rattle.bl_claims.specs.Opening.{node_in, roots_in, IsStored, IsOpened}
use Rattle.bl_check_laws.specs.Begins.{live_in, MayBegin, HasOneListOfRows, BeginsWithRows}
use Rattle.bl_check_laws.proofs.Beginnings.{anchored, begins, live_span}
use Rattle.bl_check_laws.proofs.RowLemmas.{rising_keys, none_outside}
use Rattle.bl_check_laws.proofs.RowsFound.{rows_same, rows_bound, rows_map, some_rows}
use Rattle.bl_check_laws.proofs.SameNodes.{same_sound}

leftmost_is : (pages : List (Option Page)) → is_anchor (page_at pages 0) ≡ true → leftmost pages 0 ≡ (roots_in (page_at pages 0)).leftmost 0
leftmost_is pages anchor = (anchored (page_at pages 0) anchor).leftmost_is 0

pub anchor_at : (pages : List (Option Page)) (bytes : List ℕ) → IsImage pages bytes → AreSoundPages pages → is_anchor (page_at pages 0) ≡ true
anchor_at pages bytes image sound = (sound Rule.OneAnchor 0 (omega (arith, image.count.0))).1 refl

-- the rows of a sound image

pub one_list : (pages : List (Option Page)) (bytes : List ℕ) → IsImage pages bytes → AreSoundPages pages → HasOneListOfRows pages
one_list pages bytes image sound =
    let g : MayBegin pages = begins pages bytes image sound in
    let e = sym (leftmost_is pages (anchor_at pages bytes image sound)) in
    let node : ℕ → Node = λ x. node_in (page_at pages x) in
    let roots : Roots = roots_in (page_at pages 0) in
    let o = some_rows pages node roots (λ x alive. refl) g in
    record {
      rows = o.0;
      are_rows = subst (λ x. RowsFrom pages x o.0) e o.1;
      rising = rising_keys (node (roots.leftmost 0)).shape.low o.0 (rows_bound pages node roots (λ x alive. refl) g (roots.leftmost 0) o.0 o.1).0;
      only = λ other are. rows_same pages (leftmost pages 0) other o.0 are (subst (λ x. RowsFrom pages x o.0) e o.1);
    }

pub keys_fit : (pages : List (Option Page)) (bytes : List ℕ) (rows : List (ℕ × ℕ)) (key : ℕ) → IsImage pages bytes → AreSoundPages pages → AreRowsOf pages rows → 2 ^ 64 ≤ key → map_of rows key ≡ None
keys_fit pages bytes rows key image sound are high =
    let g : MayBegin pages = begins pages bytes image sound in
    let e = leftmost_is pages (anchor_at pages bytes image sound) in
    let node : ℕ → Node = λ x. node_in (page_at pages x) in
    let roots : Roots = roots_in (page_at pages 0) in
    let bound = rows_bound pages node roots (λ x alive. refl) g (roots.leftmost 0) rows (subst (λ x. RowsFrom pages x rows) e are) in
    none_outside (node (roots.leftmost 0)).shape.low 0 key rows bound.1 (λ in_it. absurd (omega (arith, high, in_it.1)))

-- the opened index

-- a live page is open and holds what the image says
live_stored : (s : State Page) (page : Option Page) (x : ℕ) → is_some (span_of page) ≡ true → IsStored s x page → (s.owner x ≡ Owner.Open) × (node_of (s.contents x) ≡ node_in page)
live_stored s None x alive h = absurd (false≢true alive)
live_stored s (Some page) x alive h = (h.0, ap node_of h.1)

-- and so does page 0
anchor_stored : (s : State Page) (page : Option Page) (x : ℕ) → is_anchor page ≡ true → IsStored s x page → (s.owner x ≡ Owner.Open) × (roots_of (s.contents x) ≡ roots_in page)
anchor_stored s None x anchor h = absurd (false≢true anchor)
anchor_stored s (Some page) x anchor h = (h.0, ap roots_of h.1)

-- a page that is neither live nor the anchor is not in use, since none is dead
other_stored : (s : State Page) (page : Option Page) (x : ℕ) → is_some (span_of page) ≡ false → is_anchor page ≡ false → is_dead page ≡ false → IsStored s x page → s.owner x ≡ Owner.Released
other_stored s None x off other none h = h
other_stored s (Some (Anchor a)) x off other none h = absurd (false≢true (sym other))
other_stored s (Some (Leaf l)) x off other none h = absurd (false≢true (sym off))
other_stored s (Some (Inner i)) x off other none h = absurd (false≢true (sym off))
other_stored s (Some (Dead d)) x off other none h = absurd (false≢true (sym none))

none_past : (pages : List (Option Page)) (x : ℕ) → length pages ≤ x → page_at pages x ≡ None
none_past pages x le = get_or_past pages x None le

released : (pages : List (Option Page)) (bytes : List ℕ) (s : State Page) (x : ℕ) → IsImage pages bytes → AreSoundPages pages → IsOpened pages s → x ≢ 0 → live_in pages x ≡ false → s.owner x ≡ Owner.Released
released pages bytes s x image sound opened other off = elim (cases_lt x (length pages)) [
  | inl lt ↦ elim (bool_cases (is_anchor (page_at pages x))) [
    | inl anchor ↦ absurd (other ((sound Rule.OneAnchor x lt).0 anchor))
    | inr plain ↦ other_stored s (page_at pages x) x off plain (sound Rule.NoneDead x lt) (opened.pages_are x)
  ]
  | inr ge ↦ subst (IsStored s x) (none_past pages x ge) (opened.pages_are x)
]

pub opened_sound : (pages : List (Option Page)) (bytes : List ℕ) (s : State Page) → IsImage pages bytes → AreSoundPages pages → IsOpened pages s → Sound (live_in pages) s (length pages)
opened_sound pages bytes s image sound opened =
    let g : MayBegin pages = begins pages bytes image sound in
    let anchor = anchor_stored s (page_at pages 0) 0 (anchor_at pages bytes image sound) (opened.pages_are 0) in
    let stored : (x : ℕ) → live_in pages x ≡ true → (s.owner x ≡ Owner.Open) × (node_of (s.contents x) ≡ node_in (page_at pages x)) = λ x alive. live_stored s (page_at pages x) x alive (opened.pages_are x) in
    record {
      pages = subst (λ roots. AreSound (live_in pages) (λ x. node_of (s.contents x)) roots) (sym anchor.1)
          (same_sound (live_in pages) (λ x. node_in (page_at pages x)) (λ x. node_of (s.contents x)) (roots_in (page_at pages 0)) (λ x alive. (stored x alive).1) g);
      anchor_open = anchor.0;
      live_open = λ x alive. (stored x alive).0;
      others = λ x other off. released pages bytes s x image sound opened other off;
      small = λ x alive. let (span, at) = live_span (span_at pages x) alive in live_below pages x span at;
      some = omega (arith, image.count.0);
      waiting = opened.waiting;
    }

-- a process that has done nothing and is not known to do anything
abbrev idle : Unit {0} → Know
idle p = record { stage = Stage.Early; said = None; holds = []; goes = []; children = []; middle = None; passed = None; sound = Unit {0} }

pub opened_begins : (pages : List (Option Page)) (bytes : List ℕ) (rows : List (ℕ × ℕ)) (s : State Page) → IsImage pages bytes → AreSoundPages pages → AreRowsOf pages rows → IsOpened pages s → BeginsWithRows s rows
opened_begins pages bytes rows s image sound are opened =
    let o = opened_sound pages bytes s image sound opened in
    let anchor = anchor_stored s (page_at pages 0) 0 (anchor_at pages bytes image sound) (opened.pages_are 0) in
    let first : leftmost pages 0 ≡ (roots_of (s.contents 0)).leftmost 0 = leftmost_is pages (anchor_at pages bytes image sound) ∙ ap (λ r. r.leftmost 0) (sym anchor.1) in
    let same : (k : ℕ) → start_map (λ x. node_of (s.contents x)) (roots_of (s.contents 0)) 0 k ≡ map_of rows k =
    λ k. rows_map pages (λ x. node_of (s.contents x)) (roots_of (s.contents 0)) (λ x alive. (live_stored s (page_at pages x) x alive (opened.pages_are x)).1) o.pages rows k (subst (λ x. RowsFrom pages x rows) first are) in
    let w : World (Unit {0}) = sound_world (live_in pages) s (length pages) (λ p. tt) in
    let tells : TellsMiddles w = record {
      middle = λ x y h. absurd ((none_paired (live_in pages) y x).1 h);
      evening = λ x y h. absurd ((none_paired (live_in pages) y x).1 h);
    } in
    let blank : (p : Name) → IsBlank (idle tt) = λ p. record { stage = refl; said = refl; holds = refl; goes = refl; children = refl; passed = refl; sound = tt } in
    let h = laws idle w tells (sound_good idle (live_in pages) s (length pages) (λ p. tt) o blank) in
    record {
      map = same;
      laws = record {
        agreement = λ x k alive level covers. h.agreement x k alive level covers ∙ same k;
        overlap = h.overlap;
        chains = h.chains;
        listing = h.listing;
        walks = h.walks;
      };
    }
