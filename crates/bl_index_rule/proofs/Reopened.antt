-- An index begins from a sound image, with as many pages as that or more: the words of its pages show the image's, those behind are zeros, and
-- no pass has begun a process.
use Rattle.std.proofs.Common.{ℕ, zero, suc, ◌≡◌, ◌≢◌, ◌<◌, ◌≤◌, ◌++◌, ◌&&◌, eqb, Bool, true, false, Option, Some, None, List, [], ◌∷◌, length, map, replicate, refl, sym, ap, ◌∙◌, subst, inl, inr, arith, length-append}
use Rattle.std.proofs.lemmas.Bool.{false≢true, eqb-true}
use mathlib.Core.Option.{some, some-injective, some-ne-none}
use lib.ListN.{get_elem?}
use Rattle.bl_model.specs.Map.{Map, SameMap}
use Rattle.bl_model.specs.Rows.{map_of}
use Rattle.bl_page.specs.declared.page.Page.{Page}
use Rattle.bl_page.specs.Words.{words_of}
use Rattle.bl_page.specs.Machine.{Name, State}
use Rattle.bl_page.specs.Machine as machine
use Rattle.bl_image.specs.Images.{IsImage, page_words}
use Rattle.bl_image.proofs.Chunks.{no_kind, length-page_words}
use Rattle.bl_check.specs.Rules.{AreSound, is_anchor}
use Rattle.bl_check.specs.Rows.{AreRowsOf}
use Rattle.bl_page.specs.Pages.{page_at}
use Rattle.bl_page.specs.Nodes.{node_of, roots_of}
use Rattle.bl_tree.specs.Starts.{start_map}
use Rattle.bl_tree.proofs.SoundStarts.{bool_cases}
use Rattle.bl_claims.specs.States.{HasMoments}
use Rattle.bl_tree_worlds.proofs.States.{moments_first}
use Rattle.bl_one_moment.proofs.Worlds.{firm_first, firm_alone}
use Rattle.bl_tree_worlds.specs.Worlds.{World, IsGood}
use Rattle.bl_tree_worlds.proofs.Starts.{Sound, sound_world, sound_good}
use Rattle.bl_claims.specs.Opening.{node_in, roots_in, IsStored, IsOpened}
use Rattle.bl_check_laws.specs.Begins.{live_in}
use Rattle.bl_check_laws.proofs.Beginnings.{begins}
use Rattle.bl_check_laws.proofs.FirstMaps.{leaves_say}
use Rattle.bl_check_laws.proofs.Opened.{anchor_at, opened_sound, opened_begins}
use Rattle.bl_proc_invariant.specs.Knowing.{Run, know}
use Rattle.bl_proc_invariant.proofs.Middles.{KeepsLogs}
use Rattle.bl_proc_bounds.proofs.Kept.{first_kept}
use Rattle.bl_store_rule.specs.Pages.{Owner, Stage, Idle}
use Rattle.bl_room.specs.Blanks.{is_blank}
use Rattle.bl_store.specs.Opening.{first_owner, first_pages}
use Rattle.bl_index_rule.specs.declared.known.PassState.{PassState}
use Rattle.bl_claims.specs.Seeing.{first_map, BeginsFrom, IsSeen, name}
use Rattle.bl_index_rule.specs.Simulation.{unborn, beginner, Shows, owner_in, IsHand, Simulates}
use Rattle.bl_index_rule.proofs.Within.{none_within}
use Rattle.bl_index_rule.proofs.Sights.{firm_moment, world_moment, world_seen}
use Rattle.bl_index_rule.proofs.Bounds.{first_anchor, fresh_run}
use Rattle.bl_index_rule.proofs.Starts.{blank_is, of_all, of_map}

-- what the machine holds of a page, and who owns it
abbrev contents_in : Option Page → Page
contents_in None = first_anchor
contents_in (Some page) = page

abbrev owner_of : Option Page → machine.Owner
owner_of None = machine.Released
owner_of (Some page) = machine.Owner.Open

none_held : (page : Option Page) (p : Name) → owner_of page ≢ machine.Held p
none_held None p e = (let z : machine.Released ≡ machine.Held p = e in cc)
none_held (Some page) p e = (let z : machine.Owner.Open ≡ machine.Held p = e in cc)

same_node : (page : Option Page) → node_of (contents_in page) ≡ node_in page
same_node None = refl
same_node (Some page) = refl

same_roots : (page : Option Page) → is_anchor page ≡ true → roots_of (contents_in page) ≡ roots_in page
same_roots None anchor = absurd (false≢true anchor)
same_roots (Some page) anchor = refl

begins_so : (pages : List (Option Page)) (s : State Page) → 0 < length pages → IsOpened pages s → BeginsFrom pages s
begins_so [] s many is = absurd (omega arith)
begins_so (page ∷ pages) s many is = is

page_there : (pages : List (Option Page)) (x : ℕ) (page : Option Page) → get_elem? pages x ≡ some page → page_at pages x ≡ page
page_there [] x page e = absurd (some-ne-none page (sym e))
page_there (q ∷ pages) zero page e = some-injective q page e
page_there (q ∷ pages) (suc x) page e = page_there pages x page e

-- what the words of a page show
shows_page : (x : ℕ) (page : Option Page) → (x ≡ 0 → is_anchor page ≡ true) → Shows x (page_words page) (contents_in page)
shows_page zero None anchor = absurd (false≢true (anchor refl))
shows_page zero (Some page) anchor = refl
shows_page (suc x) None anchor = inr (refl, tt)
shows_page (suc x) (Some page) anchor = inl refl

pub map_length : (pages : List (Option Page)) → length (map page_words pages) ≡ length pages
map_length [] = refl
map_length (page ∷ pages) = ap suc (map_length pages)

blank_words : (words : List ℕ) (n : ℕ) → length words ≡ n → is_blank words ≡ true → words ≡ replicate n 0
blank_words [] zero size e = refl
blank_words [] (suc n) size e = absurd (omega arith)
blank_words (w ∷ words) zero size e = absurd (omega arith)
blank_words (w ∷ words) (suc n) size e = elim (eqb w 0) as (λ b. eqb w 0 ≡ b → (b && is_blank words) ≡ true → w ∷ words ≡ replicate (suc n) 0) [
  | true ↦ λ here rest. let first : w ≡ 0 = eqb-true w 0 here in let others = blank_words words n (omega arith) rest in λ k. first k ∷ others k
  | false ↦ λ here rest. cc
] refl e

not_blank : (page : Page) → is_blank (words_of page) ≡ false
not_blank page = elim (bool_cases (is_blank (words_of page))) [
  | inl blank ↦ absurd (no_kind page (blank_words (words_of page) 32 (length-page_words (Some page)) blank))
  | inr is ↦ is
]

owns_page : (hands : List (Stage × PassState)) (page : Option Page) → owner_of page ≡ owner_in hands (first_owner (page_words page))
owns_page hands None = refl
owns_page hands (Some page) = rw (not_blank page) refl

-- the image with so many pages behind it that are not in use
abbrev with_more : List (Option Page) → ℕ → List (Option Page)
with_more pages more = pages ++ replicate more None

none_in : (more x : ℕ) → page_at (replicate more None) x ≡ None
none_in zero zero = refl
none_in zero (suc x) = refl
none_in (suc more) zero = refl
none_in (suc more) (suc x) = none_in more x

none_past : (x : ℕ) → page_at [] x ≡ None
none_past zero = refl
none_past (suc x) = refl

same_page : (pages : List (Option Page)) (more x : ℕ) → page_at (with_more pages more) x ≡ page_at pages x
same_page [] more x = none_in more x ∙ sym (none_past x)
same_page (page ∷ pages) more zero = refl
same_page (page ∷ pages) more (suc x) = same_page pages more x

-- the words of these pages are those of the image, and zeros behind them
pub more_words : (pages : List (Option Page)) (more : ℕ) → map page_words pages ++ replicate more (replicate 32 0) ≡ map page_words (with_more pages more)
more_words [] zero = refl
more_words [] (suc more) = ap (λ (z : List (List ℕ)). replicate 32 0 ∷ z) (more_words [] more)
more_words (page ∷ pages) more = ap (λ (z : List (List ℕ)). page_words page ∷ z) (more_words pages more)

-- pages that are sound among so many are sound among more
among_more : (live : ℕ → Bool) (s : State Page) (size larger : ℕ) → size ≤ larger → Sound live s size → Sound live s larger
among_more live s size larger le o = record {
  pages = o.pages;
  anchor_open = o.anchor_open;
  live_open = o.live_open;
  others = o.others;
  small = λ x alive. (let lt = o.small x alive in omega (arith, lt, le));
  some = (let lt = o.some in omega (arith, lt, le));
  waiting = o.waiting;
}

module _ (pages : List (Option Page)) (bytes : List ℕ) (image : IsImage pages bytes) (sound : AreSound pages) where
  abbrev start : State Page
  start = record { contents = λ x. contents_in (page_at pages x); owner = λ x. owner_of (page_at pages x); phase = λ p. machine.Waiting; clock = 0 }

  stored : (x : ℕ) (page : Option Page) → page_at pages x ≡ page → IsStored start x page
  stored x None e = ap owner_of e
  stored x (Some page) e = (ap owner_of e, ap contents_in e)

  opened : IsOpened pages start
  opened = record { pages_are = λ x. stored x (page_at pages x) refl; waiting = λ p. refl }

  has_pages : 0 < length pages
  has_pages = let many = image.count.0 in omega arith

  first : start_map (λ x. node_of (start.contents x)) (roots_of (start.contents 0)) 0 ≡ first_map pages
  first = (let roots = same_roots (page_at pages 0) (anchor_at pages bytes image sound) in λ i. start_map (λ x. same_node (page_at pages x) i) (roots i) 0) ∙ (λ i k. sym (leaves_say pages (begins pages bytes image sound) k) i)

  -- the map that it begins with is that of the rows
  pub rows_map : (rows : List (ℕ × ℕ)) → AreRowsOf pages rows → SameMap (first_map pages) (map_of rows)
  rows_map rows are = λ key. sym ((opened_begins pages bytes rows start image sound are opened).map key) ∙ ap (λ (z : Map). z key) first

  anchor_there : (x : ℕ) (page : Option Page) → page_at pages x ≡ page → x ≡ 0 → is_anchor page ≡ true
  anchor_there x page at zero_is = ap is_anchor (sym at) ∙ (ap (λ (z : ℕ). is_anchor (page_at pages z)) zero_is ∙ anchor_at pages bytes image sound)

  module _ (more : ℕ) where
    abbrev all : List (Option Page)
    all = with_more pages more

    enough : length pages ≤ length all
    enough = let behind : List (Option Page) = replicate more None in let size = length-append pages behind in omega (arith, size)

    abbrev world : World Run
    world = sound_world (live_in pages) start (length all) (λ p. fresh_run unborn)

    good : IsGood know world
    good = sound_good know (live_in pages) start (length all) (λ p. fresh_run unborn) (among_more (live_in pages) start (length pages) (length all) enough (opened_sound pages bytes start image sound opened)) (λ p. blank_is)

    logs : KeepsLogs world
    logs p since runs = absurd (let both : machine.Waiting ≡ machine.Running since = runs in cc)

    moments : HasMoments (first_map pages) start []
    moments = moments_first (first_map pages) start (world_moment world pages good logs first)

    -- a pass that has done nothing has seen the image
    pub beginner_seen : IsSeen pages []
    beginner_seen = world_seen world pages good (begins_so pages start has_pages opened) first moments

    words_at : (x : ℕ) (words : List ℕ) → get_elem? (map page_words all) x ≡ some words → Shows x words (contents_in (page_at pages x))
    words_at x words e =
        let is = of_map page_words all x words e in
        let at : page_at pages x ≡ is.0 = sym (same_page pages more x) ∙ page_there all x is.0 is.1 in
        subst (λ (z : List ℕ × Option Page). Shows x z.0 (contents_in z.1)) (λ i. (is.2 i, sym at i)) (shows_page x is.0 (anchor_there x is.0 at))

    owner_at : (hands : List (Stage × PassState)) (x : ℕ) (own : Owner) → get_elem? (map first_owner (map page_words all)) x ≡ some own → owner_of (page_at pages x) ≡ owner_in hands own
    owner_at hands x own e =
        let outer = of_map first_owner (map page_words all) x own e in
        let inner = of_map page_words all x outer.0 outer.1 in
        let at : page_at pages x ≡ inner.0 = sym (same_page pages more x) ∙ page_there all x inner.0 inner.1 in
        ap owner_of at ∙ (owns_page hands inner.0 ∙ ap (owner_in hands) (ap first_owner inner.2 ∙ outer.2))

    hand_at : (n : ℕ) → IsHand world n Idle (beginner pages)
    hand_at n = record {
      named = λ begun. absurd (begun refl);
      stage = (refl, λ x. none_held (page_at pages x) (name n 0));
      later = λ m l. (refl, blank_is);
      begins = ([], refl, tt);
      counted = tt;
      mine = refl;
    }

    pub reopens : (passes : ℕ) → Simulates (first_pages (map page_words all) passes (beginner pages))
    reopens passes = record {
      world = world;
      good = good;
      kept = first_kept world refl (λ p. blank_is.stage);
      image = pages;
      opening = begins_so pages start has_pages opened;
      first = first;
      moments = moments;
      size = sym (map_length all);
      clock = omega arith;
      pages = words_at;
      owners = owner_at (replicate passes (Idle, beginner pages));
      hands = λ n st d e. subst (λ (z : Stage × PassState). IsHand world n z.0 z.1) (of_all passes (Idle, beginner pages) n (st, d) e) (hand_at n);
      within = none_within (length (replicate passes (Idle, beginner pages)));
      counts = λ n st d e begun. absurd (begun (ap (λ (z : Stage × PassState). z.1.number) (sym (of_all passes (Idle, beginner pages) n (st, d) e))));
      firsts = λ n st d e. ap (λ (z : Stage × PassState). z.1.first) (sym (of_all passes (Idle, beginner pages) n (st, d) e));
      busy = λ p since e. absurd (let both : machine.Waiting ≡ machine.Running since = e in cc);
      versions = λ x version e. sym (of_all (length (map page_words all)) 0 x version e);
      firm = firm_alone (first_map pages) start (firm_moment world pages good logs first (firm_first know world good refl));
    }
