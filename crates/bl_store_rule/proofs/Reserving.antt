-- Frames are reserved, written and given back, and those that were swapped out are retired and released.
use Rattle.std.proofs.Common.{◌≡◌, ◌≢◌, ◌⊎◌, ℕ, ◌+◌, ◌-◌, ◌*◌, ◌<◌, ◌≤◌, eqb, List, [], ◌∷◌, ◌++◌, length, get_or, set, sym, refl, ap, ◌∙◌, subst, inl, inr, ⊎_elim, arith, le_refl, length-set, get_or-set_other, lt_of_not-le}
use mathlib.Core.Logic.{dite}
use mathlib.Core.Option.{none, some}
use native.Mathlib.Decide.{dec_le, ℕ_discrete}
use lib.ListN.{get_elem?}
use prog.Atomic.{either}
use Rattle.std.proofs.lemmas.Grind.{get_or-set_at}
use Rattle.std.proofs.lemmas.List.{get_or_append_left, get_or-append_right, length-append}
use Rattle.atomic_table.specs.Table.{State, Me, step, keeps, Act, Valid, carried_after, stepped, Allows}
use Rattle.atomic_table.proofs.Lists.{at_set, set_else, exchanged}
use Rattle.bl_layout.specs.declared.layout.Layout.{Layout}
use Rattle.bl_layout.specs.Words.{frame_count}
use Rattle.bl_store_rule.specs.Pages.{Running, Pages, Stands}
use Rattle.bl_store_rule.specs.Frames.{owner_at, state_at, place_at, Use, drafted, shown, dropped, timed, retired, Frame, free, used, FrameIs, MayRead, Stocks, Drops, Swept, SweepIs, Budgeted, IsLive, Kept}
use Rattle.bl_store_rule.specs.Observed.{draft, allotted, noted, reserved, returned, wrote, confirmed, settled, released}
use Rattle.bl_store_rule.specs.declared.view.View.{View}
use Rattle.bl_store_rule.specs.declared.view.Draft.{Draft}
use Rattle.bl_store_rule.specs.declared.view.Dropping.{Dropping}
use Rattle.bl_store_rule.specs.declared.view.Dropping.TheVariants.{Empty, Timed}
use Rattle.bl_store_rule.specs.declared.view.Sweep.{Sweep}
use Rattle.bl_store_rule.specs.declared.view.Sweep.TheVariants.{Over}
use Rattle.bl_store_rule.proofs.Lists.{at_below, there, set_there, total_small}
use Rattle.bl_store_rule.proofs.Keeps.{reads_kept, stocks_kept, drops_kept, shows_frame, seal_same, Goes, reads_stay, sealing_stays, moved, unmoved}
use Rattle.bl_store_rule.proofs.Time.{goes_on}

abbrev tail_of : List Draft → List Draft
tail_of [] = []
tail_of (d ∷ ds) = ds

abbrev put_on : List Draft → ℕ → List Draft
put_on [] n = []
put_on (d ∷ ds) n = draft d.frame (d.words ++ n ∷ []) ∷ ds

module _ {D : Type 0} (l : Layout) (first : D) (holds : Pages D → Type 0) where
  abbrev St : Type 0
  St = State (Unit {0}) (View D)

  abbrev M : Type 0
  M = Me (Unit {0}) (View D)

  abbrev Rule : St → Type 0
  Rule = Kept l first holds

  -- a step at which the word i becomes n
  abbrev Leads : St → ℕ → ℕ → ℕ → M → (M → Type 0) → Type 0
  Leads s i n id me then' = (w : View D) × (a : Act (Unit {0})) × Valid s.homes me.1 a × Rule (stepped s i n id me.1 w a) × then' (w, carried_after me.1 a)

  -- a load that is no event, after which the hand has other ticks, another sweep or another time of its own
  pub silent_load : (st : St) (r : Rule st) (i id : ℕ) (cs : List (ℕ × Unit {0})) (v : View D) (puts retires : ℕ) (sw : Sweep) (seen got : List ℕ) (bs' : List ℕ) → get_elem? st.views id ≡ some v → IsLive v → Budgeted l.passes r.pages.clock bs'
      → ((k : ℕ) → k ≢ v.number → get_elem? bs' k ≡ get_elem? r.budgets k) → get_elem? bs' v.number ≡ some (puts + retires) → SweepIs r.pages sw
      → Rule (stepped st i (get_or st.words i 0) id cs (record v { puts = puts; retires = retires; sweep = sw; seen = seen; got = got }) keeps)
  silent_load st r i id cs v puts retires sw seen got bs' at live budgeted others mine_left swept = let mine = r.seats id v at live in
      unmoved l first holds st r i id cs v (record v { puts = puts; retires = retires; sweep = sw; seen = seen; got = got }) r.pages bs' at live r.orderly r.shows budgeted (goes_on l st.words r.pages r.frames r.budgets bs' v.number others)
      record { layout = refl; number = refl; upto = refl; stands = mine.stands; clocked = mine.clocked; reads = mine.reads; stocks = mine.stocks; drops = mine.drops; seals = mine.seals; sweeps = swept; budget = mine_left; joined = refl } refl refl r.kept

  -- a step that leaves all as it is
  pub idle_step : (st : St) (r : Rule st) (i id : ℕ) (cs : List (ℕ × Unit {0})) (v : View D) → get_elem? st.views id ≡ some v → IsLive v → Rule (stepped st i (get_or st.words i 0) id cs v keeps)
  idle_step st r i id cs v at live = let mine = r.seats id v at live in silent_load st r i id cs v v.puts v.retires v.sweep v.seen v.got r.budgets at live r.budgeted (λ k _. refl) mine.budget mine.sweeps

  abbrev pub noting : ℕ → View D → View D
  noting i v = record v { puts = v.puts; retires = v.retires; sweep = v.sweep; seen = i ∷ v.seen; got = v.got }

  -- an owner word was found taken
  pub note_step : (st : St) (r : Rule st) (i id : ℕ) (cs : List (ℕ × Unit {0})) (v : View D) → get_elem? st.views id ≡ some v → IsLive v → Rule (stepped st i (get_or st.words i 0) id cs (noting i v) keeps)
  note_step st r i id cs v at live = let mine = r.seats id v at live in silent_load st r i id cs v v.puts v.retires v.sweep (i ∷ v.seen) v.got r.budgets at live r.budgeted (λ k _. refl) mine.budget mine.sweeps

  pub notes : (slots id i : ℕ) (me : M) → IsLive me.0 → Allows Rule slots id me i (λ n. n) (noted (step slots i 0 0 none) me)
  notes slots id i me live st r _ at _ = dite (ℕ_discrete (get_or st.words i 0) 0)
      (λ e. (me.0, keeps, tt, idle_step st r i id me.1 me.0 at live, (((refl, refl, refl, refl), refl, (refl, refl, refl), refl), (λ ne. absurd (ne e)), (λ _. refl), refl, refl, (λ _. refl))))
      (λ ne. dite (ℕ_discrete i 0)
      (λ first. (me.0, keeps, tt, idle_step st r i id me.1 me.0 at live, (((refl, refl, refl, refl), refl, (refl, refl, refl), refl), (λ _ no. absurd (no first)), (λ e. absurd (ne e)), refl, refl, (λ _. refl))))
      (λ behind. (noting i me.0, keeps, tt, note_step st r i id me.1 me.0 at live, (((refl, refl, refl, refl), refl, (refl, refl, refl), refl), (λ _ _. refl), (λ e. absurd (ne e)), refl, refl, (λ e. absurd (behind e))))))

  -- a step on a word of a frame that no page names, after which the hand has another stock, or another frame to retire
  frame_step : (st : St) (r : Rule st) (f i n id : ℕ) (cs : List (ℕ × Unit {0})) (v : View D) (ds : List Draft) (dr : Dropping) (rl : ℕ) (gt : List ℕ) (old new : Frame) → get_elem? st.views id ≡ some v → IsLive v → get_elem? r.frames f ≡ some old
      → (i ≡ state_at l f) ⊎ ((place_at l f 0 ≤ i) × (i < place_at l f 32)) → FrameIs l (set st.words i n) f new → ((x w : ℕ) (ys : List ℕ) → used (shown x w) ys ≢ old)
      → ((j b x v : ℕ) (d : D) (u : Use) (xs : List ℕ) → Stands r.pages j (Running b) d → j < l.passes → old ≡ used u xs → MayRead b x v u → (u' : Use) × (new ≡ used u' xs) × MayRead b x v u')
      → ((j k : ℕ) (ys : List ℕ) → j ≢ v.number → used (drafted j k) ys ≢ old) → ((j : ℕ) (ys : List ℕ) → j ≢ v.number → used (dropped j) ys ≢ old) → ((j t : ℕ) (ys : List ℕ) → j ≢ v.number → used (timed j t) ys ≢ old)
      → Stocks (set r.frames f new) v.number ds → Drops (set r.frames f new) v.number dr → Rule (stepped st i n id cs (record v { stock = ds; dropping = dr; releases = rl; got = gt }) keeps)
  frame_step st r f i n id cs v ds dr rl gt old new at live here where_i is no_page readers no_stock no_drop no_time stocks drops =
      let mine = r.seats id v at live in let s : Pages D = r.pages in let orderly = r.orderly in let counts = orderly.owners in let counted = mine.counted in let dealt = mine.dealt in let total = r.shows.frame_total in let inside = at_below r.frames f old here in
      let ws : List ℕ = set st.words i n in let gs : List Frame = set r.frames f new in
      let owners : (x : ℕ) → x < length s.owners → get_or ws (owner_at l x) 0 ≡ get_or st.words (owner_at l x) 0 = (λ x below. get_or-set_other st.words i (owner_at l x) n 0
      (λ z. ⊎_elim (λ (e : i ≡ state_at l f). absurd (omega arith)) (λ (e : (place_at l f 0 ≤ i) × (i < place_at l f 32)). let low = e.0 in absurd (omega arith)) where_i)) in
      let go : Goes l st.words ws s s r.frames gs r.budgets r.budgets v.number = record {
        clock = le_refl s.clock;
        hands = λ k _. refl;
        budgets = λ k _. refl;
        reads = λ j b y w g d xs stands low reads. reads_kept r.frames f old new b y w g xs here (λ u e may. readers j b y w d u xs stands low e may) reads;
        stocks = λ j es other k. stocks_kept r.frames f old new j es here (λ m ys _. no_stock j m ys other) k;
        drops = λ j d other k. drops_kept r.frames f old new j d here (λ ys. no_drop j ys other) (λ t ys. no_time j t ys other) k;
        seals = λ j x other k. seal_same l st.words ws s.owners j x owners k;
        swept = λ m k sw. sw;
      } in
      moved l first holds st r i n id cs v (record v { stock = ds; dropping = dr; releases = rl; got = gt }) s gs r.budgets at live r.orderly (shows_frame l st.words s r.frames f i n old new r.orderly r.shows here where_i is no_page) r.budgeted go
      record {
        layout = refl;
        number = refl;
        upto = refl;
        stands = mine.stands;
        clocked = mine.clocked;
        reads = reads_stay go v.number v.stamp v.known v.reading v.kept (omega arith) mine.stands mine.reads;
        stocks = stocks;
        drops = drops;
        seals = seal_same l st.words ws s.owners v.number v.sealing owners mine.seals;
        sweeps = mine.sweeps;
        budget = mine.budget;
        joined = refl;
      } (sealing_stays l st.words ws s.owners st.views id v (record v { stock = ds; dropping = dr; releases = rl; got = gt }) at refl (λ k. k) owners r.sealing) r.kept

  -- a load of the clock by which a reservation begins
  pub allots : (slots id i : ℕ) (me : M) → i ≡ 0 → IsLive me.0 → Allows Rule slots id me i (λ n. n) (allotted (step slots i 0 0 none) me)
  allots slots id i me i_is live st r _ at _ = let mine = r.seats id me.0 at live in let s : Pages D = r.pages in let n : ℕ = get_or st.words i 0 in let q : ℕ = me.0.number in
      let is : n ≡ s.clock = ap (λ (z : ℕ). get_or st.words z 0) i_is ∙ r.shows.clock in let budget = r.budgeted in let bs' : List ℕ = set r.budgets q 4 in
      let count : length bs' ≡ l.passes = length-set r.budgets q 4 ∙ budget.count in
      let small : (k b : ℕ) → get_elem? bs' k ≡ some b → b ≤ 4 = (λ k b e. ⊎_elim (λ (t : (k ≡ q) × (4 ≡ b)). let same = t.1 in omega arith) (λ (t : (k ≢ q) × (get_elem? r.budgets k ≡ some b)). budget.small k b t.1) (at_set r.budgets q k 4 b e)) in
      let all = total_small bs' small in dite (dec_le 1152921504606846976 n)
      (λ late. (
        record me.0 { seen = i ∷ [] },
        keeps,
        tt,
        silent_load st r i id me.1 me.0 me.0.puts me.0.retires me.0.sweep (i ∷ []) me.0.got r.budgets at live r.budgeted (λ k _. refl) mine.budget mine.sweeps,
        ((refl, refl, refl, refl), refl, refl, refl, (λ early. absurd (omega arith)), (λ _. refl), refl),
      ))
      (λ not_late. let early : n < 1152921504606846976 = lt_of_not-le not_late in (
        record me.0 { puts = 3; retires = 1; seen = []; got = [] },
        keeps,
        tt,
        silent_load st r i id me.1 me.0 3 1 me.0.sweep [] [] bs' at live record { count = count; small = small; total = omega arith } (λ k other. set_else r.budgets q k 4 other) (set_there r.budgets q (me.0.puts + me.0.retires) 4 mine.budget) mine.sweeps,
        ((refl, refl, refl, refl), refl, refl, refl, (λ _. (refl, refl, refl, refl)), (λ late. absurd (omega arith)), refl),
      ))

  pub reserves : (slots id i n f : ℕ) (me : M) → i ≡ state_at l f → n ≡ 4 * me.0.number + 2 → f < frame_count l → me.0.layout ≡ l → IsLive me.0 → Allows Rule slots id me i (λ z. either (eqb z 0) n z) (reserved (step slots i 0 n none) me)
  reserves slots id i n f me i_is n_is inside same live st r _ at _ = let mine = r.seats id me.0 at live in let total = r.shows.frame_total in let wide = r.shows.wide in let here = there r.frames f (omega arith) in let q : ℕ = me.0.number in
      let passes = ap (λ (z : Layout). z.passes) same in let pages = ap (λ (z : Layout). z.pages) same in
      exchanged (get_or st.words i 0) 0 n (λ z. Leads st i z id me (reserved (step slots i 0 n none) me (get_or st.words i 0)))
      (λ hit. let is : get_elem? r.frames f ≡ some free = was_free st r here.0 here.1 (r.shows.frame f here.0 here.1) (ap (λ (z : ℕ). get_or st.words z 0) (sym i_is) ∙ hit) in
      let new : Frame = used (drafted q (length me.0.stock)) [] in (
        record me.0 { stock = draft f [] ∷ me.0.stock; got = f ∷ me.0.got },
        keeps,
        tt,
        frame_step st r f i n id me.1 me.0 (draft f [] ∷ me.0.stock) me.0.dropping me.0.releases (f ∷ me.0.got) free new at live is (inl i_is)
            (get_or-set_at st.words i (state_at l f) n 0 (sym i_is) (omega arith) ∙ n_is, tt, omega arith, λ k low. absurd (omega arith)) (λ x w ys e. cc)
            (λ j b y w d u xs stands low e may. cc) (λ j k ys other e. cc) (λ j ys other e. cc) (λ j t ys other e. cc)
            (set_there r.frames f free new is, stocks_kept r.frames f free new q me.0.stock is (λ k ys _ e. cc) mine.stocks) (drops_kept r.frames f free new q me.0.dropping is (λ ys e. cc) (λ t ys e. cc) mine.drops),
        ((refl, refl, refl, refl), refl, refl, (refl, refl), (λ g e. let is_f : f ≡ g = omega arith in ((λ _. (ap (λ (z : ℕ). draft z [] ∷ me.0.stock) is_f, refl, ap (λ (z : ℕ). z ∷ me.0.got) is_f)), λ miss. absurd (miss hit))), refl),
      ))
      (λ miss. (noting i me.0, keeps, tt, note_step st r i id me.1 me.0 at live, ((refl, refl, refl, refl), refl, refl, (refl, refl), (λ g e. ((λ hit. absurd (miss hit)), λ _. (refl, refl, refl))), refl)))
    where
      was_free : (st : St) (r : Rule st) (fr : Frame) → get_elem? r.frames f ≡ some fr → FrameIs l st.words f fr → get_or st.words (state_at l f) 0 ≡ 0 → get_elem? r.frames f ≡ some free
      was_free st r free at_f fact empty = at_f
      was_free st r (used (drafted j k) xs) at_f fact empty = absurd (omega arith)
      was_free st r (used (shown x v) xs) at_f fact empty = let taken = fact.0.1 in absurd (omega arith)
      was_free st r (used (dropped j) xs) at_f fact empty = let taken = fact.0.1 in absurd (omega arith)
      was_free st r (used (timed j t) xs) at_f fact empty = let taken = fact.0.1 in absurd (omega arith)
      was_free st r (used (retired t) xs) at_f fact empty = absurd (omega arith)

  pub returns : (slots id i n f : ℕ) (me : M) (xs : List ℕ) (ds : List Draft) → i ≡ state_at l f → n ≡ 4 * me.0.number + 2 → me.0.stock ≡ draft f xs ∷ ds → me.0.layout ≡ l → IsLive me.0 → Allows Rule slots id me i (λ z. either (eqb z n) 0 z) (returned (step slots i n 0 none) me)
  returns slots id i n f me xs ds i_is n_is has same live st r _ at _ = let mine = r.seats id me.0 at live in let total = r.shows.frame_total in let wide = r.shows.wide in let q : ℕ = me.0.number in
      let known : Stocks r.frames q (draft f xs ∷ ds) = subst (Stocks r.frames q) has mine.stocks in let old : Frame = used (drafted q (length ds)) xs in let here : get_elem? r.frames f ≡ some old = known.0 in let inside = at_below r.frames f old here in
      let was = (r.shows.frame f old here).0 in let now : get_or st.words i 0 ≡ n = ap (λ (z : ℕ). get_or st.words z 0) i_is ∙ (was ∙ sym n_is) in
      exchanged (get_or st.words i 0) n 0 (λ z. Leads st i z id me (returned (step slots i n 0 none) me (get_or st.words i 0)))
      (λ hit. (
        record me.0 { stock = ds },
        keeps,
        tt,
        frame_step st r f i 0 id me.1 me.0 ds me.0.dropping me.0.releases me.0.got old free at live here (inl i_is) (get_or-set_at st.words i (state_at l f) 0 0 (sym i_is) (omega arith)) (λ x w ys e. cc)
            (λ j b y w d u ys stands low e may. let as_used : drafted q (length ds) ≡ u = cc in absurd (subst (MayRead b y w) (sym as_used) may)) (λ j k ys other e. other cc) (λ j ys other e. cc) (λ j t ys other e. cc)
            (stocks_kept r.frames f old free q ds here (λ k ys low e. let place : k ≡ length ds = cc in absurd (omega arith)) known.1) (drops_kept r.frames f old free q me.0.dropping here (λ ys e. cc) (λ t ys e. cc) mine.drops),
        ((refl, refl, refl, refl), refl, refl, (refl, refl), refl, refl, λ g ys es e _. ap tail_of (sym has ∙ e)),
      ))
      (λ miss. absurd (miss now))

  pub writes : (slots id i n f k : ℕ) (me : M) (xs : List ℕ) (ds : List Draft) → i ≡ place_at l f k → me.0.stock ≡ draft f xs ∷ ds → length xs ≡ k → k < 32 → IsLive me.0 → Allows Rule slots id me i (λ _. n) (λ _. wrote (step slots i n 0 none) me n)
  writes slots id i n f k me xs ds i_is has so_far more live st r _ at _ = let mine = r.seats id me.0 at live in let total = r.shows.frame_total in let wide = r.shows.wide in let q : ℕ = me.0.number in
      let known : Stocks r.frames q (draft f xs ∷ ds) = subst (Stocks r.frames q) has mine.stocks in let old : Frame = used (drafted q (length ds)) xs in let new : Frame = used (drafted q (length ds)) (xs ++ n ∷ []) in
      let here : get_elem? r.frames f ≡ some old = known.0 in let inside = at_below r.frames f old here in
      let was = r.shows.frame f old here in let long : length (xs ++ n ∷ []) ≡ k + 1 = omega (arith, length-append xs (n ∷ [])) in (
        record me.0 { stock = draft f (xs ++ n ∷ []) ∷ ds },
        keeps,
        tt,
        frame_step st r f i n id me.1 me.0 (draft f (xs ++ n ∷ []) ∷ ds) me.0.dropping me.0.releases me.0.got old new at live here (inr (omega arith, omega arith)) (
          get_or-set_other st.words i (state_at l f) n 0 (λ e. omega arith) ∙ was.0,
          tt,
          omega arith,
          λ j low. dite (ℕ_discrete j k)
              (λ e. get_or-set_at st.words i (place_at l f j) n 0 (omega arith) (omega arith) ∙ (sym (get_or-append_right xs (n ∷ []) k k 0 so_far (le_refl k) ∙ last n k) ∙ ap (λ (z : ℕ). get_or (xs ++ n ∷ []) z 0) (sym e)))
              (λ ne. get_or-set_other st.words i (place_at l f j) n 0 (λ e. ne (omega arith)) ∙ (was.3 j (omega arith) ∙ sym (get_or_append_left xs (n ∷ []) 0 j (omega arith)))),
        )
            (λ x w ys e. cc) (λ j b y w d u ys stands low e may. let as_used : drafted q (length ds) ≡ u = cc in absurd (subst (MayRead b y w) (sym as_used) may)) (λ j m ys other e. other cc) (λ j ys other e. cc) (λ j t ys other e. cc)
            (set_there r.frames f old new here, stocks_kept r.frames f old new q ds here (λ m ys low e. let place : m ≡ length ds = cc in absurd (omega arith)) known.1) (drops_kept r.frames f old new q me.0.dropping here (λ ys e. cc) (λ t ys e. cc) mine.drops),
        ((refl, refl, refl, refl), refl, refl, (refl, refl), (λ g ys es e. ap (λ (z : List Draft). put_on z n) (sym has ∙ e)), refl),
      )
    where
      last : (n k : ℕ) → get_or (n ∷ []) (k - k) 0 ≡ n
      last n k = let z : k - k ≡ 0 = omega arith in ap (λ (j : ℕ). get_or (n ∷ []) j 0) z

  -- where the word is 0 already, all is as if 0 had been written
  pub confirms : (slots id i f k : ℕ) (me : M) (xs : List ℕ) (ds : List Draft) → i ≡ place_at l f k → me.0.stock ≡ draft f xs ∷ ds → length xs ≡ k → k < 32 → IsLive me.0 → Allows Rule slots id me i (λ n. n) (confirmed (step slots i 0 0 none) me)
  confirms slots id i f k me xs ds i_is has so_far more live st r at_word at at_last = let n : ℕ = get_or st.words i 0 in dite (ℕ_discrete n 0)
      (λ blank. let w = writes slots id i n f k me xs ds i_is has so_far more live st r at_word at at_last in let is = w.4 in (
        w.0,
        w.1,
        w.2,
        w.3,
        (is.0, is.1, is.2, is.3, (λ g ys es e. ((λ _. is.4 g ys es e ∙ ap (λ (z : ℕ). draft g (ys ++ z ∷ []) ∷ es) blank), λ some. absurd (some blank))), is.5),
      ))
      (λ some. (me.0, keeps, tt, idle_step st r i id me.1 me.0 at live, ((refl, refl, refl, refl), refl, refl, (refl, refl), (λ g ys es e. ((λ blank. absurd (some blank)), λ _. e)), refl)))

  -- the frame that the hand took from a page is retired at the time that it drew
  pub retires_frame : (slots id i n f t : ℕ) (me : M) → i ≡ state_at l f → n ≡ 4 * t + 3 → me.0.dropping ≡ Timed f t → IsLive me.0 → Allows Rule slots id me i (λ _. n) (λ _. settled (step slots i n 0 none) me n)
  retires_frame slots id i n f t me i_is n_is is live st r _ at _ = let mine = r.seats id me.0 at live in let total = r.shows.frame_total in let wide = r.shows.wide in let q : ℕ = me.0.number in
      let known : Drops r.frames q (Timed f t) = subst (Drops r.frames q) is mine.drops in
      let xs : List ℕ = known.0 in let old : Frame = used (timed q t) xs in let new : Frame = used (retired t) xs in let here : get_elem? r.frames f ≡ some old = known.1 in let was = r.shows.frame f old here in let inside = at_below r.frames f old here in (
        record me.0 { dropping = Empty },
        keeps,
        tt,
        frame_step st r f i n id me.1 me.0 me.0.stock Empty me.0.releases me.0.got old new at live here (inl i_is)
            (get_or-set_at st.words i (state_at l f) n 0 (sym i_is) (omega arith) ∙ n_is, was.1, was.2, λ k low. let small = was.2 in get_or-set_other st.words i (place_at l f k) n 0 (λ z. omega arith) ∙ was.3 k low)
            (λ x w ys e. cc)
            (λ j b y w d u ys stands low e may. let words : xs ≡ ys = cc in let as_used : timed q t ≡ u = cc in (retired t, ap (λ (z : List ℕ). used (retired t) z) words, subst (MayRead b y w) (sym as_used) may))
            (λ j k ys other e. cc) (λ j ys other e. cc) (λ j u ys other e. other cc)
            (stocks_kept r.frames f old new q me.0.stock here (λ k ys _ e. cc) mine.stocks) tt,
        (((refl, refl, refl, refl), refl, (refl, refl, refl), refl), refl),
      )

  -- a frame that was retired before each process began is free
  pub releases_frame : (slots id i n f t m : ℕ) (me : M) → i ≡ state_at l f → n ≡ 4 * t + 3 → f < frame_count l → t < m → me.0.sweep ≡ Over m l.passes → IsLive me.0 → Allows Rule slots id me i (λ z. either (eqb z n) 0 z) (released (step slots i n 0 none) me)
  releases_frame slots id i n f t m me i_is n_is inside before is live st r _ at _ = let mine = r.seats id me.0 at live in let total = r.shows.frame_total in let wide = r.shows.wide in let here = there r.frames f (omega arith) in let q : ℕ = me.0.number in
      let swept : Swept r.pages m l.passes = subst (SweepIs r.pages) is mine.sweeps in
      exchanged (get_or st.words i 0) n 0 (λ z. Leads st i z id me (released (step slots i n 0 none) me (get_or st.words i 0)))
      (λ hit. let was = was_retired st r here.0 here.1 (r.shows.frame f here.0 here.1) (ap (λ (z : ℕ). get_or st.words z 0) (sym i_is) ∙ (hit ∙ n_is)) in let xs : List ℕ = was.0 in let old : Frame = used (retired t) xs in (
        record me.0 { releases = me.0.releases + 1 },
        keeps,
        tt,
        frame_step st r f i 0 id me.1 me.0 me.0.stock me.0.dropping (me.0.releases + 1) me.0.got old free at live was.1 (inl i_is) (get_or-set_at st.words i (state_at l f) 0 0 (sym i_is) (omega arith)) (λ x w ys e. cc)
            (λ j b y w d u ys stands low e may. let after : m ≤ b = swept.later j b d stands low in let one : retired t ≡ u = cc in let soon : b ≤ t = subst (MayRead b y w) (sym one) may in absurd (omega arith))
            (λ j k ys other e. cc) (λ j ys other e. cc) (λ j u ys other e. cc)
            (stocks_kept r.frames f old free q me.0.stock was.1 (λ k ys _ e. cc) mine.stocks) (drops_kept r.frames f old free q me.0.dropping was.1 (λ ys e. cc) (λ u ys e. cc) mine.drops),
        (((refl, refl, refl, refl), refl, (refl, refl, refl), refl), refl, (λ _. refl), (λ miss. absurd (miss hit)), refl),
      ))
      (λ miss. (me.0, keeps, tt, idle_step st r i id me.1 me.0 at live, (((refl, refl, refl, refl), refl, (refl, refl, refl), refl), refl, (λ hit. absurd (miss hit)), (λ _. refl), refl)))
    where
      was_retired : (st : St) (r : Rule st) (fr : Frame) → get_elem? r.frames f ≡ some fr → FrameIs l st.words f fr → get_or st.words (state_at l f) 0 ≡ 4 * t + 3 → (xs : List ℕ) × (get_elem? r.frames f ≡ some (used (retired t) xs))
      was_retired st r free at_f fact now = absurd (omega arith)
      was_retired st r (used (drafted j k) xs) at_f fact now = absurd (omega arith)
      was_retired st r (used (shown x v) xs) at_f fact now = let taken = fact.0.1 in absurd (omega arith)
      was_retired st r (used (dropped j) xs) at_f fact now = let taken = fact.0.1 in absurd (omega arith)
      was_retired st r (used (timed j u) xs) at_f fact now = let taken = fact.0.1 in absurd (omega arith)
      was_retired st r (used (retired u) xs) at_f fact now = let state = fact.0 in let same : u ≡ t = omega arith in (xs, at_f ∙ ap (λ (z : ℕ). some (used (retired z) xs)) same)
