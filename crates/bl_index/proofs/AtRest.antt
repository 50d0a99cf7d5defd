-- A store of passes at its end: no process runs, nobody holds a page, and what is left of the pages is a sound image.
use Rattle.std.proofs.Common.{ℕ, zero, suc, ◌≡◌, ◌≢◌, ◌<◌, Option, None, Some, List, [], ◌∷◌, All, length, map, replicate, refl, sym, ap, ◌∙◌, subst, inl, inr, arith}
use Rattle.std.specs.List.{AllByRecursion}
use Rattle.std.proofs.lemmas.Bool.{cases_lt}
use Rattle.std.proofs.lemmas.List.{get_or_past}
use mathlib.Core.Option.{some, some-injective, some-ne-none}
use lib.ListN.{get_elem?}
use Rattle.bl_model.specs.Map.{Map}
use Rattle.bl_model.specs.History.{IsLegalFrom, final_map}
use Rattle.bl_page.specs.declared.page.Page.{Page}
use Rattle.bl_page.specs.declared.page.Page.TheVariants.{Anchor, Leaf, Inner, Dead}
use Rattle.bl_page.specs.Words.{words_of}
use Rattle.bl_page.specs.Machine.{Name}
use Rattle.bl_page.specs.Machine as machine
use Rattle.bl_image.specs.Images.{IsCount, IsSpelled, page_words, image_bytes}
use Rattle.bl_image.proofs.Chunks.{no_kind, pages_words-same}
use Rattle.bl_check.specs.Rules.{AreSound}
use Rattle.bl_page.specs.Pages.{page_at}
use Rattle.bl_tree.proofs.Statuses.{live_live}
use Rattle.bl_page.specs.Nodes.{IsTreePage}
use Rattle.bl_claims.specs.Trails.{history_of}
use Rattle.bl_claims.specs.States.{HasMoments}
use Rattle.bl_tree_worlds.specs.Worlds.{World}
use Rattle.bl_tree_worlds.proofs.WorldLaws.{tree_page}
use Rattle.bl_check_laws.specs.Begins.{IsLeft, AreLeft}
use Rattle.bl_check_laws.proofs.Beginnings.{AllFit}
use Rattle.bl_check_laws.proofs.Opened.{one_list}
use Rattle.bl_check_laws.proofs.Resting.{rests_sound, rests_map}
use Rattle.bl_proc_invariant.specs.Knowing.{Run}
use Rattle.bl_layout.specs.declared.layout.Layout.{Layout}
use Rattle.bl_store_rule.specs.Pages.{Owner, Released, Open, Held, Retired, Stage as Stands_at, Idle, Running, Stands, IsPage}
use Rattle.bl_store.specs.Closing.{HasEach, left_of, IsClosed}
use Rattle.bl_store.specs.Hands.{known}
use Rattle.bl_store.specs.declared.store.Hand.{Hand}
use Rattle.bl_index_rule.proofs.Shown.{at_below}
use Rattle.bl_index.proofs.Gathered.{there, one_there, all_there, all_of}
use Rattle.bl_index_rule.specs.declared.known.PassState.{PassState}
use Rattle.bl_claims.specs.Seeing.{first_map, BeginsFrom, AreWithin}
use Rattle.bl_index_rule.specs.Simulation.{Shows, IsAnchor, IsHand, Simulates}
use Rattle.bl_index.specs.declared.index.Index.{Index}
use Rattle.bl_index.specs.declared.index.Pass.{Pass}
use Rattle.bl_index.specs.Calls.{pages_of, passes_of, first_of, IsPassOf}
use Rattle.bl_index.specs.Closed.{AreOf, AreAll, AreHandsOf, Closes, IsIdleOf, ClosesHands}
use Rattle.bl_index.proofs.Holders.{held_busy}

no_anchor : (c : Page) → IsAnchor c → IsTreePage c → ⊥
no_anchor (Anchor a) h tree = tree
no_anchor (Leaf l) h tree = h
no_anchor (Inner i) h tree = h
no_anchor (Dead d) h tree = h

all_at : {A : Type 0} (Q : A → Type 0) (xs : List A) → ((x : ℕ) (a : A) → get_elem? xs x ≡ some a → Q a) → AllByRecursion Q xs
all_at Q [] h = tt
all_at Q (a ∷ xs) h = (h 0 a refl, all_at Q xs (λ x b at. h (suc x) b at))

map_at : (pages : List (Option Page)) (x : ℕ) (words : List ℕ) → get_elem? (map page_words pages) x ≡ some words → words ≡ page_words (page_at pages x)
map_at [] x words at = absurd (some-ne-none words (sym at))
map_at (page ∷ pages) zero words at = some-injective words (page_words page) (sym at)
map_at (page ∷ pages) (suc x) words at = map_at pages x words at

map_length : (pages : List (Option Page)) → length (map page_words pages) ≡ length pages
map_length [] = refl
map_length (page ∷ pages) = ap suc (map_length pages)

module _ (l : Layout) (hands : List (Hand PassState)) (result : List (List ℕ)) (c : IsClosed Simulates l hands result) (each : HasEach l.passes hands) where
  abbrev w : World Run
  w = c.kept.world

  none_runs : (n since : ℕ) (d : PassState) → Stands c.pages n (Running since) d → ⊥
  none_runs n since d at =
      let low = at_below c.pages.hands n (Running since, d) at in
      let count = c.orderly.hands in
      let h = each n (omega (arith, low, count)) in
      let idle : get_elem? c.pages.hands n ≡ some (Idle, known h.1.seat) = subst (λ (z : ℕ). get_elem? c.pages.hands z ≡ some (Idle, known h.1.seat)) h.3 (c.stand h.0 h.1 h.2) in
      let same : ◌≡◌ {A = Stands_at × PassState} (Running since, d) (Idle, known h.1.seat) = one_there c.pages.hands n (Running since, d) (Idle, known h.1.seat) at idle in
      let stage : ◌≡◌ {A = Stands_at} (Running since) Idle = ap (λ (z : Stands_at × PassState). z.0) same in cc

  none_held : (x : ℕ) (p : Name) → w.now.owner x ≢ machine.Held p
  none_held x p e =
      let s = c.kept.good.sure p in
      let runs = held_busy (w.proc p) x (w.now.phase p) s.stage (c.kept.good.owned.held x p e) in
      let r = c.kept.busy p runs.0 runs.1 in none_runs p.pass r.1.0 r.0 r.1.2

  shown_open : (x : ℕ) (words : List ℕ) → w.now.owner x ≡ machine.Owner.Open → Shows x words (w.now.contents x) → words ≡ words_of (w.now.contents x)
  shown_open zero words o s = s
  shown_open (suc x) words o s = elim s [
    | inl e ↦ e
    | inr e ↦ elim (c.kept.good.owned.opened (suc x) o) [
      | inl live ↦ absurd (no_anchor (w.now.contents (suc x)) e.1 (tree_page _ w (suc x) c.kept.good (rw live live_live)))
      | inr anchored ↦ absurd (let z = c.kept.good.owned.one_anchor (suc x) anchored in omega (arith, z))
    ]
  ]

  -- where a page is not open, nothing is left of it
  none_left : (x : ℕ) (page : Option Page) → w.now.owner x ≢ machine.Owner.Open → replicate 32 0 ≡ page_words page → IsLeft w.now x page
  none_left x None shut e = shut
  none_left x (Some page) shut e = absurd (no_kind page (sym e))

  is_left : (x : ℕ) (words : List ℕ) (owner : Owner) (page : Option Page) → IsPage c.pages x words owner → left_of owner words ≡ page_words page → IsLeft w.now x page
  is_left x words Released page at e = none_left x page (λ o. let z : machine.Released ≡ machine.Owner.Open = sym (c.kept.owners x Released at.1) ∙ o in cc) e
  is_left x words Open page at e =
      let is_open : w.now.owner x ≡ machine.Owner.Open = c.kept.owners x Open at.1 in
      let spelled : page ≡ Some (w.now.contents x) = pages_words-same page (Some (w.now.contents x)) (sym e ∙ shown_open x words is_open (c.kept.pages x words at.0)) in
      subst (IsLeft w.now x) (sym spelled) (is_open, refl)
  is_left x words (Held n) page at e = absurd (none_held x _ (c.kept.owners x (Held n) at.1))
  is_left x words (Retired time) page at e = none_left x page (λ o. let z : machine.Retired time ≡ machine.Owner.Open = sym (c.kept.owners x (Retired time) at.1) ∙ o in cc) e

  -- what the store holds of a page within
  page_there : (x : ℕ) → x < l.pages → (words : List ℕ) × (owner : Owner) × IsPage c.pages x words owner
  page_there x lt =
      let contents = c.orderly.contents in let owners = c.orderly.owners in
      let a = there c.pages.contents x (omega (arith, lt, contents)) in let b = there c.pages.owners x (omega (arith, lt, owners)) in
      (a.0, b.0, (a.1, b.1))

  spelled_by : (x : ℕ) (words : List ℕ) (owner : Owner) → IsPage c.pages x words owner → IsSpelled (left_of owner words)
  spelled_by x words Released at = (None, refl)
  spelled_by x words Open at = (Some (w.now.contents x), shown_open x words (c.kept.owners x Open at.1) (c.kept.pages x words at.0))
  spelled_by x words (Held n) at = absurd (none_held x _ (c.kept.owners x (Held n) at.1))
  spelled_by x words (Retired time) at = (None, refl)

  pub all_spelled : AllByRecursion IsSpelled result
  all_spelled = all_at IsSpelled result spelled_at
    where
      spelled_at : (x : ℕ) (words : List ℕ) → get_elem? result x ≡ some words → IsSpelled words
      spelled_at x words at =
          let low = at_below result x words at in let count = c.count in
          let t = page_there x (omega (arith, low, count)) in
          subst IsSpelled (one_there result x (left_of t.1 t.0) words (c.words x t.0 t.1 t.2) at) (spelled_by x t.0 t.1 t.2)

  module _ (pages : List (Option Page)) (spells : map page_words pages ≡ result) (fit : AllFit pages) where
    page_is : (x : ℕ) → IsLeft w.now x (page_at pages x)
    page_is x = elim (cases_lt x l.pages) [
      | inl lt ↦
          let t = page_there x lt in
          is_left x t.0 t.1 (page_at pages x) t.2 (map_at pages x (left_of t.1 t.0) (ap (λ (z : List (List ℕ)). get_elem? z x) spells ∙ c.words x t.0 t.1 t.2))
      | inr ge ↦
          let count = c.count in let long : length pages ≡ length result = sym (map_length pages) ∙ ap length spells in
          let past : page_at pages x ≡ None = get_or_past pages x None (omega (arith, ge, count, long)) in
          let size = c.kept.size in let contents = c.orderly.contents in
          let shut : w.now.owner x ≢ machine.Owner.Open = λ o.
          let low = c.kept.good.owned.small x (λ free. let z : machine.Released ≡ machine.Owner.Open = sym (c.kept.good.owned.free x free) ∙ o in cc) in
          absurd (omega (arith, low, ge, size, contents)) in
          subst (IsLeft w.now x) (sym past) shut
    ]

    pub are_left : AreLeft pages w.now
    are_left = record { pages_are = page_is; none_held = none_held }

    pub closed_sound : AreSound pages
    closed_sound = rests_sound _ w c.kept.good pages fit are_left

module _ (index : Index) (hands : List (Hand PassState)) (all : HasEach (passes_of index) hands) (result : List (List ℕ)) (c : IsClosed Simulates index.store.layout hands result) (pages : List (Option Page)) (spells : map page_words pages ≡ result) (fit : AllFit pages) where
  knows : (k : ℕ) (hand : Hand PassState) → get_elem? hands k ≡ some hand → IsHand c.kept.world hand.number Idle (known hand.seat)
  knows k hand at = c.kept.hands hand.number Idle (known hand.seat) (c.stand k hand at)

  page_count : length pages ≡ pages_of index
  page_count = sym (map_length pages) ∙ (ap length spells ∙ c.count)

  counted : IsCount (length pages)
  counted = let within = index.store.layout.pages_within in (omega (arith, within.0, page_count), omega (arith, within.1, page_count))

  sound : AreSound pages
  sound = closed_sound index.store.layout hands result c all pages spells fit

  pub closes_hands : ClosesHands index hands pages
  closes_hands =
      let f = c.kept in let w = f.world in
      let left = are_left index.store.layout hands result c all pages spells fit in
      let list = one_list pages (image_bytes pages) (record { count = counted; words = fit; bytes_are = refl }) sound in
      record {
        first = f.image;
        firsts = λ k hand at. f.firsts hand.number Idle (known hand.seat) (c.stand k hand at);
        whole = w.trail;
        seen = record {
          linear = record {
            start = w.start;
            now = w.now;
            opening = f.opening;
            leads = f.good.recorded.leads;
            marked = f.good.recorded.marked;
            legal = subst (λ (z : Map). IsLegalFrom z (history_of w.trail)) f.first f.good.recorded.legal;
          };
          moments = f.moments;
        };
        all = all;
        begins = λ k hand at. let h = knows k hand at in (h.begins.0, h.begins.1);
        none = λ k hand at. (knows k hand at).mine;
        within = subst (λ (z : ℕ). AreWithin z w.trail) c.orderly.hands f.within;
        count = page_count;
        left = left;
        rows = list.rows;
        are_rows = list.are_rows;
        map = λ key. sym (rests_map _ w f.good pages fit left counted list.rows list.are_rows key) ∙ (f.good.recorded.map key ∙ ap (λ (z : Map). final_map z (history_of w.trail) key) f.first);
      }

module _ (index : Index) (passes : List Pass) (hands : List (Hand PassState)) (of : AreHandsOf passes hands) where
  pub each_hand : AreAll index passes → HasEach (passes_of index) hands
  each_hand all n lt = let has = all n lt in let a = of.all has.place has.pass has.at in (a.0, has.pass.hand, a.1, has.numbered)

  pub idle_hands : AreOf index passes → All (IsIdleOf index) hands
  idle_hands own = all_of (IsIdleOf index) hands (λ k hand at.
      let h = of.only k hand at in let is = all_there (IsPassOf index) passes h.place h.pass own h.at in
      subst (IsIdleOf index) h.is ((is.0, is.1), h.pass.idle))

  -- the hands are those of the passes, which know that the index began as it did
  pub closes : (pages : List (Option Page)) → AreOf index passes → AreAll index passes → ClosesHands index hands pages → Closes index passes pages
  closes pages own all c =
      let within = index.store.layout.passes_within in
      let has = all 0 (omega (arith, within.0)) in let a = of.all has.place has.pass has.at in
      let so : c.first ≡ first_of index = sym (c.firsts a.0 has.pass.hand a.1) ∙ (all_there (IsPassOf index) passes has.place has.pass own has.at).2 in
      let s = c.seen.linear in
      record {
        whole = c.whole;
        seen = record {
          linear = record {
            start = s.start;
            now = s.now;
            opening = subst (λ (z : List (Option Page)). BeginsFrom z s.start) so s.opening;
            leads = s.leads;
            marked = s.marked;
            legal = subst (λ (z : List (Option Page)). IsLegalFrom (first_map z) (history_of c.whole)) so s.legal;
          };
          moments = subst (λ (z : List (Option Page)). HasMoments (first_map z) s.start c.whole) so c.seen.moments;
        };
        all = all;
        begins = λ k pass at. let b = of.all k pass at in c.begins b.0 pass.hand b.1;
        none = λ k pass at. let b = of.all k pass at in c.none b.0 pass.hand b.1;
        within = c.within;
        count = c.count;
        left = c.left;
        rows = c.rows;
        are_rows = c.are_rows;
        map = λ key. c.map key ∙ ap (λ (z : List (Option Page)). final_map (first_map z) (history_of c.whole) key) so;
      }
