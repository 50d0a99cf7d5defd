-- A page is put: its word names another frame.
use Rattle.std.proofs.Common.{◌≡◌, ◌≢◌, ℕ, ◌+◌, ◌<◌, List, [], ◌∷◌, length, replicate, get_or, set, sym, refl, ap, ◌∙◌, subst, inl, inr, ⊎_elim, arith, le_refl, length-set, get_or-set_other}
use mathlib.Core.Option.{none, some, some-injective}
use lib.ListN.{get_elem?}
use Rattle.std.proofs.lemmas.Grind.{get_or-set_at}
use Rattle.atomic_table.specs.Table.{State, Me, step, keeps, stepped, Allows}
use Rattle.atomic_table.proofs.Lists.{at_set, set_here, set_else}
use Rattle.bl_layout.specs.declared.layout.Layout.{Layout}
use Rattle.bl_layout.specs.Words.{frame_count}
use Rattle.bl_store_rule.specs.Pages.{Owner, Held, Stage, Pages, IsOrderly, observed, written, written_as, Puts}
use Rattle.bl_store_rule.specs.Frames.{process_at, page_at, owner_at, state_at, place_at, drafted, shown, dropped, Frame, used, FrameIs, PageIs, OwnerIs, ProcessIs, stage_of, MayRead, ReadableAs, Stocks, Drops, Shows, IsLive, Kept}
use Rattle.bl_store_rule.specs.Observed.{draft, swapped}
use Rattle.bl_store_rule.specs.declared.view.View.{View}
use Rattle.bl_store_rule.specs.declared.view.Stamp.{Stamp}
use Rattle.bl_store_rule.specs.declared.view.Reading.{Reading}
use Rattle.bl_store_rule.specs.declared.view.Reading.TheVariants.{Nowhere, At}
use Rattle.bl_store_rule.specs.declared.view.Draft.{Draft}
use Rattle.bl_store_rule.specs.declared.view.Dropping.{Dropping}
use Rattle.bl_store_rule.specs.declared.view.Dropping.TheVariants.{Empty, Dropped}
use Rattle.bl_store_rule.proofs.Lists.{at_below, there, set_there}
use Rattle.bl_store_rule.proofs.Keeps.{frame_same, page_kept, reads_kept, stocks_kept, drops_kept, shows_observed, orderly_observed, orderly_written, swept_observed, seal_same, Goes, reads_stay, sweeps_stay, sealing_stays, moved}
use Rattle.bl_store_rule.proofs.Time.{began_by}

abbrev tail_of : List Draft → List Draft
tail_of [] = []
tail_of (d ∷ ds) = ds

-- what becomes of the frames at a put of the page x by the hand q
pub record Passing (l : Layout) (ws : List ℕ) (fs gs : List Frame) (q x v f : ℕ) (xs : List ℕ) (ds : List Draft) : Type 0 where
  pub count : length gs ≡ length fs
  pub page : get_elem? gs f ≡ some (used (shown x v) xs)
  pub pages : (y w n : ℕ) (ys : List ℕ) → y ≢ x → PageIs fs y w n ys → PageIs gs y w n ys
  pub framed : (h : ℕ) (st : Frame) → get_elem? gs h ≡ some st → FrameIs l ws h st
  pub reads : (b y w h : ℕ) (ys : List ℕ) → ReadableAs fs b y w h ys → ReadableAs gs b y w h ys
  pub stocks : (j : ℕ) (es : List Draft) → j ≢ q → Stocks fs j es → Stocks gs j es
  pub own : Stocks gs q ds
  pub drops : (j : ℕ) (d : Dropping) → j ≢ q → Drops fs j d → Drops gs j d

module _ {D : Type 0} (l : Layout) (first : D) (holds : Pages D → Type 0) where
  abbrev St : Type 0
  St = State (Unit {0}) (View D)

  abbrev M : Type 0
  M = Me (Unit {0}) (View D)

  abbrev Rule : St → Type 0
  Rule = Kept l first holds

  -- what the words show after a put
  pub shows_put : (ws0 : List ℕ) (s : Pages D) (fs gs : List Frame) (q x w f i n : ℕ) (xs : List ℕ) (ds : List Draft) → i ≡ page_at l x → n ≡ f + 1 → x < l.pages → IsOrderly l s → Shows l ws0 s fs → Passing l ws0 fs gs q x w f xs ds → Shows l (set ws0 i n) (written_as s x xs w) gs
  shows_put ws0 s fs gs q x w f i n xs ds i_is n_is inside orderly sh go = let counts = orderly.contents in let owned' = orderly.owners in let total = sh.frame_total in let wide = sh.wide in let ws : List ℕ = set ws0 i n in
      let owners : (y : ℕ) → y < length s.owners → get_or ws (owner_at l y) 0 ≡ get_or ws0 (owner_at l y) 0 = (λ y below. get_or-set_other ws0 i (owner_at l y) n 0 (λ z. omega arith)) in
      let process : (k : ℕ) → k < l.passes → get_or ws (process_at l k) 0 ≡ get_or ws0 (process_at l k) 0 = (λ k below. get_or-set_other ws0 i (process_at l k) n 0 (λ z. omega arith)) in
      record {
        wide = length-set ws0 i n ∙ sh.wide;
        frame_total = go.count ∙ sh.frame_total;
        clock = get_or-set_other ws0 i 0 n 0 (λ z. omega arith) ∙ sh.clock;
        process = λ k sg' d' below at_k. subst (λ (z : ℕ). ProcessIs z sg') (sym (process k below)) (sh.process k sg' d' below at_k);
        page = λ y u ys e eu. ⊎_elim
            (λ (t : (y ≡ x) × (xs ≡ ys)). let same = t.0 in inr (
              f,
              get_or-set_at ws0 i (page_at l y) n 0 (omega arith) (omega arith) ∙ n_is,
              ⊎_elim (λ (k : (y ≡ x) × (w ≡ u)). subst (λ (z : (ℕ × ℕ) × List ℕ). get_elem? gs f ≡ some (used (shown z.0.0 z.0.1) z.1)) (λ j. ((sym t.0 j, k.1 j), t.1 j)) go.page)
                  (λ (k : (y ≢ x) × (get_elem? s.versions y ≡ some u)). absurd (k.0 t.0)) (at_set s.versions x y w u eu),
            ))
            (λ (t : (y ≢ x) × (get_elem? s.contents y ≡ some ys)). let other = t.0 in let low = at_below s.contents y ys t.1 in
            let old : get_elem? s.versions y ≡ some u = sym (set_else s.versions x y w t.0) ∙ eu in
            subst (λ (z : ℕ). PageIs gs y u z ys) (sym (get_or-set_other ws0 i (page_at l y) n 0 (λ z. other (omega arith)))) (go.pages y u (get_or ws0 (page_at l y) 0) ys t.0 (sh.page y u ys t.1 old)))
            (at_set s.contents x y xs ys e);
        owner = λ y o e. subst (λ (z : ℕ). OwnerIs z o) (sym (owners y (at_below s.owners y o e))) (sh.owner y o e);
        frame = λ h fr e. let low = at_below gs h fr e in let same = go.count in frame_same l ws0 ws h (get_or-set_other ws0 i (state_at l h) n 0 (λ z. omega arith)) (λ k small. get_or-set_other ws0 i (place_at l h k) n 0 (λ z. omega arith)) fr (go.framed h fr e);
      }

  put_step : (st : St) (r : Rule st) (i n id : ℕ) (cs : List (ℕ × Unit {0})) (v : View D) (gs : List Frame) (x f : ℕ) (xs : List ℕ) (ds : List Draft) (dr : Dropping) (d : D) → i ≡ page_at l x → n ≡ f + 1 → x < l.pages → get_elem? st.views id ≡ some v → IsLive v
      → Passing l st.words r.frames gs v.number x (get_or r.pages.versions x 0 + 1) f xs ds → Drops gs v.number dr → holds (observed (written r.pages x xs) v.number (stage_of v.stamp) d) → Rule (stepped st i n id cs (record v { stock = ds; known = d; dropping = dr }) keeps)
  put_step st r i n id cs v gs x f xs ds dr d i_is n_is inside at live go drops kept = let mine = r.seats id v at live in let s : Pages D = r.pages in let q : ℕ = v.number in let sg : Stage = stage_of v.stamp in
      let orderly = r.orderly in let counts = orderly.contents in let owned' = orderly.owners in let total = r.shows.frame_total in let wide = r.shows.wide in let counted = mine.counted in let dealt = mine.dealt in
      let ws : List ℕ = set st.words i n in let s1 : Pages D = written s x xs in let s' : Pages D = observed s1 q sg d in
      let owners : (y : ℕ) → y < length s.owners → get_or ws (owner_at l y) 0 ≡ get_or st.words (owner_at l y) 0 = (λ y below. get_or-set_other st.words i (owner_at l y) n 0 (λ z. omega arith)) in
      let process : (k : ℕ) → k < l.passes → get_or ws (process_at l k) 0 ≡ get_or st.words (process_at l k) 0 = (λ k below. get_or-set_other st.words i (process_at l k) n 0 (λ z. omega arith)) in
      let shows : Shows l ws s1 gs = shows_put st.words s r.frames gs q x (get_or s.versions x 0 + 1) f i n xs ds i_is n_is inside r.orderly r.shows go in
      let moves : Goes l st.words ws s s' r.frames gs r.budgets r.budgets q = record {
        clock = le_refl s.clock;
        hands = λ k other. set_else s.hands q k (sg, d) other;
        budgets = λ k other. refl;
        reads = λ j b y w h e ys stands low is. go.reads b y w h ys is;
        stocks = λ j es other is. go.stocks j es other is;
        drops = λ j e other is. go.drops j e other is;
        seals = λ j y other is. seal_same l st.words ws s.owners j y owners is;
        swept = λ m k is. swept_observed s s' q sg sg v.known d m k (le_refl s.clock) mine.stands refl (λ b e. inl e) is;
      } in
      moved l first holds st r i n id cs v (record v { stock = ds; known = d; dropping = dr }) s' gs r.budgets at live
      (orderly_observed l s1 q sg d (began_by l s q v.stamp v.known r.orderly mine.stands) (orderly_written l s x (get_or s.versions x 0 + 1) xs r.orderly))
      (shows_observed l ws s1 gs q sg d (subst (λ (z : ℕ). ProcessIs z sg) (sym (process q (omega arith))) (r.shows.process q sg v.known (omega arith) mine.stands)) shows)
      r.budgeted moves
      record {
        layout = refl;
        number = refl;
        upto = refl;
        stands = set_there s.hands q (sg, v.known) (sg, d) mine.stands;
        clocked = mine.clocked;
        reads = reads_stay moves v.number v.stamp v.known v.reading v.kept (omega arith) mine.stands mine.reads;
        stocks = go.own;
        drops = drops;
        seals = seal_same l st.words ws s.owners q v.sealing owners mine.seals;
        sweeps = sweeps_stay moves v.sweep mine.sweeps;
        budget = mine.budget;
        joined = refl;
      } (sealing_stays l st.words ws s.owners st.views id v (record v { stock = ds; known = d; dropping = dr }) at refl (λ k. k) owners r.sealing) kept

  -- the page had no frame
  pub first_put : (ws : List ℕ) (fs : List Frame) (framed : (h : ℕ) (fr : Frame) → get_elem? fs h ≡ some fr → FrameIs l ws h fr) (q x v f : ℕ) (xs : List ℕ) (ds : List Draft) → get_elem? fs f ≡ some (used (drafted q (length ds)) xs) → length xs ≡ 32 → Stocks fs q ds
      → Passing l ws fs (set fs f (used (shown x v) xs)) q x v f xs ds
  first_put ws fs framed q x v f xs ds here whole rest = let old : Frame = used (drafted q (length ds)) xs in let new : Frame = used (shown x v) xs in record {
    count = length-set fs f new;
    page = set_there fs f old new here;
    pages = λ y w n ys other. page_kept fs f old new y w n ys here (λ u zs e. cc);
    framed = λ h fr e. ⊎_elim (λ (t : (h ≡ f) × (new ≡ fr)). subst (λ (z : Frame). FrameIs l ws h z) t.1 (let was = framed h old (ap (get_elem? fs) t.0 ∙ here) in ((q, was.0), whole, was.2, was.3)))
        (λ (t : (h ≢ f) × (get_elem? fs h ≡ some fr)). framed h fr t.1) (at_set fs f h new fr e);
    reads = λ b y w h ys is. reads_kept fs f old new b y w h ys here (λ u e may. let as_used : drafted q (length ds) ≡ u = cc in absurd (subst (MayRead b y w) (sym as_used) may)) is;
    stocks = λ j es other is. stocks_kept fs f old new j es here (λ k ys _ e. other cc) is;
    own = stocks_kept fs f old new q ds here (λ k ys low e. let place : k ≡ length ds = cc in absurd (omega arith)) rest;
    drops = λ j d other is. drops_kept fs f old new j d here (λ ys e. cc) (λ t ys e. cc) is;
  }

  -- the page had the frame g
  next_put : (st : St) (r : Rule st) (q x v o f g : ℕ) (xs ys : List ℕ) (ds : List Draft) → get_elem? r.frames f ≡ some (used (drafted q (length ds)) xs) → length xs ≡ 32 → Stocks r.frames q ds → get_elem? r.frames g ≡ some (used (shown x o) ys)
      → Passing l st.words r.frames (set (set r.frames f (used (shown x v) xs)) g (used (dropped q) ys)) q x v f xs ds
  next_put st r q x v o f g xs ys ds here whole rest there_g = let new : Frame = used (shown x v) xs in let old : Frame = used (shown x o) ys in let last : Frame = used (dropped q) ys in let gs : List Frame = set r.frames f new in
      let a = first_put st.words r.frames r.shows.frame q x v f xs ds here whole rest in let other : f ≢ g = (λ e. let no : used (drafted q (length ds)) xs ≡ old = some-injective (used (drafted q (length ds)) xs) old (sym here ∙ (ap (get_elem? r.frames) e ∙ there_g)) in cc) in
      let here_g : get_elem? gs g ≡ some old = set_else r.frames f g new (λ e. other (sym e)) ∙ there_g in record {
        count = length-set gs g last ∙ a.count;
        page = set_else gs g f last other ∙ a.page;
        pages = λ y w n zs y_other is. page_kept gs g old last y w n zs here_g (λ u us e. y_other cc) (a.pages y w n zs y_other is);
        framed = λ h fr e. ⊎_elim (λ (t : (h ≡ g) × (last ≡ fr)). subst (λ (z : Frame). FrameIs l st.words h z) t.1 (a.framed h old (ap (get_elem? gs) t.0 ∙ here_g)))
            (λ (t : (h ≢ g) × (get_elem? gs h ≡ some fr)). a.framed h fr t.1) (at_set gs g h last fr e);
        reads = λ b y w h zs is. reads_kept gs g old last b y w h zs here_g (λ u e may. let words : ys ≡ zs = cc in (dropped q, ap (λ (z : List ℕ). used (dropped q) z) words, tt)) (a.reads b y w h zs is);
        stocks = λ j es j_other is. stocks_kept gs g old last j es here_g (λ k zs _ e. cc) (a.stocks j es j_other is);
        own = stocks_kept gs g old last q ds here_g (λ k zs _ e. cc) a.own;
        drops = λ j d j_other is. drops_kept gs g old last j d here_g (λ zs e. cc) (λ t zs e. cc) (a.drops j d j_other is);
      }

  pub swaps : (then' : D → ℕ → Owner → List ℕ → D → Type 0) (slots id i n x f : ℕ) (me : M) (xs : List ℕ) (ds : List Draft) → i ≡ page_at l x → n ≡ f + 1 → x < l.pages → me.0.layout ≡ l → me.0.stock ≡ draft f xs ∷ ds → length xs ≡ 32
      → Puts holds l me.0.number me.0.known x xs then' → IsLive me.0 → Allows Rule slots id me i (λ _. n) (swapped then' (step slots i n 0 none) me)
  swaps then' slots id i n x f me xs ds i_is n_is inside same has whole asked live st r _ at _ = let mine = r.seats id me.0 at live in let s : Pages D = r.pages in let orderly = r.orderly in let counts = orderly.contents in let owners = orderly.owners in let total = r.shows.frame_total in let q : ℕ = me.0.number in
      let known : Stocks r.frames q (draft f xs ∷ ds) = subst (Stocks r.frames q) has mine.stocks in let here : get_elem? r.frames f ≡ some (used (drafted q (length ds)) xs) = known.0 in
      let page = there s.contents x (omega arith) in let own = there s.owners x (omega arith) in let counted = orderly.versions in let was = there s.versions x (omega arith) in let v : ℕ = get_or s.versions x 0 + 1 in let before : ℕ = get_or st.words i 0 in
      let t = asked s (stage_of me.0.stamp) page.0 own.0 r.kept r.orderly mine.stands (page.1, own.1) in
      let passes = ap (λ (z : Layout). z.passes) same in let frames' = ap (λ (z : Layout). frame_count z) same in
      let tells : (y g : ℕ) (ys : List ℕ) (es : List Draft) → i ≡ page_at me.0.layout y → me.0.stock ≡ draft g ys ∷ es → (ds ≡ es) × ((old : List ℕ) × then' me.0.known y (Held q) old t.1)
      = (λ y g ys es equal e. let back : x ≡ y = omega arith in (ap tail_of (sym has ∙ e), (page.0, subst (λ (z : ℕ × Owner). then' me.0.known z.0 z.1 page.0 t.1) (λ k. (back k, t.0 k)) t.3))) in
      let from : PageIs r.frames x was.0 before page.0 = subst (λ (z : ℕ). PageIs r.frames x was.0 (get_or st.words z 0) page.0) (sym i_is) (r.shows.page x was.0 page.0 page.1 was.1) in
      ⊎_elim
      (λ (e : (before ≡ 0) × (page.0 ≡ replicate 32 0)). let nothing = e.0 in (
        record me.0 { stock = ds; known = t.1; dropping = Empty },
        keeps,
        tt,
        put_step st r i n id me.1 me.0 (set r.frames f (used (shown x v) xs)) x f xs ds Empty t.1 i_is n_is inside at live (first_put st.words r.frames r.shows.frame q x v f xs ds here whole known.1) tt t.2,
        ((refl, refl, refl, refl), refl, (refl, refl), tells, (λ g is. absurd (omega arith)), λ _. refl),
      ))
      (λ (e : (g : ℕ) × (before ≡ g + 1) × (get_elem? r.frames g ≡ some (used (shown x was.0) page.0))). let gs : List Frame = set r.frames f (used (shown x v) xs) in let up = e.1 in let within = at_below r.frames e.0 (used (shown x was.0) page.0) e.2 in (
        record me.0 { stock = ds; known = t.1; dropping = Dropped e.0 },
        keeps,
        tt,
        put_step st r i n id me.1 me.0 (set gs e.0 (used (dropped q) page.0)) x f xs ds (Dropped e.0) t.1 i_is n_is inside at live (next_put st r q x v was.0 f e.0 xs page.0 ds here whole known.1 e.2)
            (page.0, set_here gs e.0 (used (dropped q) page.0) (subst (λ (z : ℕ). e.0 < z) (sym (length-set r.frames f (used (shown x v) xs))) within)) t.2,
        ((refl, refl, refl, refl), refl, (refl, refl), tells, (λ g is. let is_g : e.0 ≡ g = omega arith in (omega arith, ap (λ (z : ℕ). Dropped z) is_g)), λ none. absurd (omega arith)),
      ))
      from
