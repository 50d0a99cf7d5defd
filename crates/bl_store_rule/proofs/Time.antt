-- A process begins and ends, and a page is read.
use Rattle.std.specs.Prelude.{Option, None}
use Rattle.std.proofs.Common.{◌≡◌, ◌≢◌, ◌⊎◌, ℕ, zero, suc, ◌+◌, ◌<◌, ◌≤◌, List, [], ◌∷◌, length, replicate, get_or, set, sym, refl, ap, ◌∙◌, subst, inl, inr, ⊎_elim, arith, le_refl, get_or-set_other, set-set}
use mathlib.Core.Option.{none, some, some-injective}
use lib.ListN.{get_elem?}
use Rattle.atomic_table.specs.Table.{State, Me, step, keeps, stepped, Allows}
use Rattle.atomic_table.proofs.Lists.{set_else, set_again}
use Rattle.bl_layout.specs.declared.layout.Layout.{Layout}
use Rattle.bl_layout.specs.Words.{frame_count}
use Rattle.bl_store_rule.specs.Pages.{Owner, Stage, Idle, Running, Pages, Stands, IsOrderly, observed, Begins, Ends, Gets, GetsAs, Relays, Implies}
use Rattle.bl_store_rule.specs.Frames.{process_at, page_at, owner_at, place_at, Use, drafted, shown, dropped, timed, retired, Frame, used, Full, PageIs, ProcessIs, stage_of, IsRead, MayRead, ReadableAs, Reads, AreKept, Budgeted, Shows, IsLive, Kept}
use Rattle.bl_store_rule.specs.Observed.{clocked, stamped, ended, renewed, relayed, raised, look, looked, looked_kept, compared, copied}
use Rattle.bl_store_rule.specs.declared.view.View.{View}
use Rattle.bl_store_rule.specs.declared.view.Wanted.{Wanted}
use Rattle.bl_store_rule.specs.declared.view.Look.{Look}
use Rattle.bl_store_rule.specs.declared.view.Stamp.{Stamp}
use Rattle.bl_store_rule.specs.declared.view.Stamp.TheVariants.{Out, Clocked, In}
use Rattle.bl_store_rule.specs.declared.view.Reading.{Reading}
use Rattle.bl_store_rule.specs.declared.view.Reading.TheVariants.{Nowhere, At}
use Rattle.bl_store_rule.proofs.Lists.{at_below, there, set_there}
use Rattle.bl_store_rule.proofs.Keeps.{shows_observed, shows_process, orderly_observed, swept_observed, seal_same, Goes, sweeps_stay, sealing_stays, moved, unmoved}

abbrev frame_of : Reading → ℕ
frame_of Nowhere = 0
frame_of (At f xs) = f

abbrev words_read : Reading → List ℕ
words_read Nowhere = []
words_read (At f xs) = xs

-- a frame that may be read has 32 words
full : (b x v : ℕ) (u : Use) (xs : List ℕ) → MayRead b x v u → Full u xs → length xs ≡ 32
full b x v (drafted q k) xs may is = absurd may
full b x v (shown y w) xs may is = is
full b x v (dropped q) xs may is = is
full b x v (timed q t) xs may is = is
full b x v (retired t) xs may is = is

-- what the hand keeps in mind at a place
kept_at : (fs : List Frame) (st : Stamp) (ks : List Look) (k : ℕ) (kept : Look) → AreKept fs st ks → get_elem? ks k ≡ some kept → (b : ℕ) × (st ≡ In b) × (xs : List ℕ) × ReadableAs fs b kept.page kept.version kept.frame xs
kept_at fs st [] k kept all e = cc
kept_at fs st (one ∷ ks) zero kept all e = subst (λ (z : Look). (b : ℕ) × (st ≡ In b) × (xs : List ℕ) × ReadableAs fs b z.page z.version z.frame xs) (some-injective one kept e) all.0
kept_at fs st (one ∷ ks) (suc k) kept all e = kept_at fs st ks k kept all.1 e

-- Where a page names the frame that the hand saw there, it was not put since.
same_use : (b x v w : ℕ) (u : Use) → u ≡ shown x w → MayRead b x v u → w ≡ v
same_use b x v w (drafted q k) e may = absurd may
same_use b x v w (shown y z) e may = let same : z ≡ w = cc in sym same ∙ may.1
same_use b x v w (dropped q) e may = cc
same_use b x v w (timed q t) e may = cc
same_use b x v w (retired t) e may = cc

same_put : (fs : List Frame) (b x v w n f : ℕ) (xs ys : List ℕ) → n ≡ f + 1 → ReadableAs fs b x v f xs → PageIs fs x w n ys → w ≡ v
same_put fs b x v w n f xs ys names seen (inl unput) = let nothing = unput.0 in absurd (omega arith)
same_put fs b x v w n f xs ys names seen (inr (g, up, is)) =
    let same : g ≡ f = omega arith in
    let both : used seen.0 xs ≡ used (shown x w) ys = some-injective (used seen.0 xs) (used (shown x w) ys) (sym seen.1 ∙ (ap (get_elem? fs) (sym same) ∙ is)) in
    let showing : seen.0 ≡ shown x w = cc in
    same_use b x v w seen.0 showing seen.2

-- the clock is far below what a word holds
pub low_clock : (l : Layout) (clock : ℕ) (bs : List ℕ) → Budgeted l.passes clock bs → clock < 2305843009213693952
low_clock l clock bs b = let total = b.total in let few = l.passes_within.1 in omega arith

module _ {D : Type 0} where
  -- nothing that a user sees changes
  pub goes_on : (l : Layout) (ws : List ℕ) (s : Pages D) (fs : List Frame) (bs bs' : List ℕ) (q : ℕ) → ((k : ℕ) → k ≢ q → get_elem? bs' k ≡ get_elem? bs k) → Goes l ws ws s s fs fs bs bs' q
  goes_on l ws s fs bs bs' q budgets = record {
    clock = le_refl s.clock;
    hands = λ k other. refl;
    budgets = budgets;
    reads = λ j b y w f e xs stands low is. is;
    stocks = λ j ds other is. is;
    drops = λ j x other is. is;
    seals = λ j x other is. is;
    swept = λ m k is. is;
  }

  -- the hand q is told something, and goes on with its process, ends it or begins one by now
  pub goes_observed : (l : Layout) (ws ws' : List ℕ) (s : Pages D) (fs : List Frame) (bs : List ℕ) (q : ℕ) (st0 st : Stage) (d0 d : D) → Stands s q st0 d0 → ((b : ℕ) → st ≡ Running b → (st0 ≡ Running b) ⊎ (s.clock ≤ b))
      → ((x : ℕ) → x < length s.owners → get_or ws' (owner_at l x) 0 ≡ get_or ws (owner_at l x) 0) → Goes l ws ws' s (observed s q st d) fs fs bs bs q
  goes_observed l ws ws' s fs bs q st0 st d0 d here begun owners = record {
    clock = le_refl s.clock;
    hands = λ k other. set_else s.hands q k (st, d) other;
    budgets = λ k other. refl;
    reads = λ j b y w f e xs stands low is. is;
    stocks = λ j ds other is. is;
    drops = λ j x other is. is;
    seals = λ j x other is. seal_same l ws ws' s.owners j x owners is;
    swept = λ m k is. swept_observed s (observed s q st d) q st0 st d0 d m k (le_refl s.clock) here refl begun is;
  }

  pub began_by : (l : Layout) (s : Pages D) (n : ℕ) (st : Stamp) (d : D) → IsOrderly l s → Stands s n (stage_of st) d → (b : ℕ) → stage_of st ≡ Running b → b ≤ s.clock
  began_by l s n st d o stands b e = o.begun n b d (stands ∙ ap (λ (z : Stage). some (z, d)) e)

module _ {D : Type 0} (l : Layout) (first : D) (holds : Pages D → Type 0) where
  abbrev St : Type 0
  St = State (Unit {0}) (View D)

  abbrev M : Type 0
  M = Me (Unit {0}) (View D)

  abbrev Rule : St → Type 0
  Rule = Kept l first holds

  -- a load at which the hand is told something and reads as it says
  pub observed_load : (st : St) (r : Rule st) (i id : ℕ) (cs : List (ℕ × Unit {0})) (v : View D) (rd : Reading) (rf : Option Wanted) (d : D) → get_elem? st.views id ≡ some v → IsLive v → Reads r.frames v.stamp rd × AreKept r.frames v.stamp v.kept
      → holds (observed r.pages v.number (stage_of v.stamp) d) → Rule (stepped st i (get_or st.words i 0) id cs (record v { reading = rd; refused = rf; known = d }) keeps)
  observed_load st r i id cs v rd rf d at live reads kept = let mine = r.seats id v at live in let s : Pages D = r.pages in let low = mine.counted in let dealt = mine.dealt in
      let go : Goes l st.words st.words s (observed s v.number (stage_of v.stamp) d) r.frames r.frames r.budgets r.budgets v.number = goes_observed l st.words st.words s r.frames r.budgets v.number (stage_of v.stamp) (stage_of v.stamp) v.known d mine.stands (λ b e. inl e) (λ x _. refl) in
      unmoved l first holds st r i id cs v (record v { reading = rd; refused = rf; known = d }) (observed s v.number (stage_of v.stamp) d) r.budgets at live
      (orderly_observed l s v.number (stage_of v.stamp) d (began_by l s v.number v.stamp v.known r.orderly mine.stands) r.orderly)
      (shows_observed l st.words s r.frames v.number (stage_of v.stamp) d (r.shows.process v.number (stage_of v.stamp) v.known (omega arith) mine.stands) r.shows)
      r.budgeted go
      record {
        layout = refl;
        number = refl;
        upto = refl;
        stands = set_there s.hands v.number (stage_of v.stamp, v.known) (stage_of v.stamp, d) mine.stands;
        clocked = mine.clocked;
        reads = reads;
        stocks = mine.stocks;
        drops = mine.drops;
        seals = mine.seals;
        sweeps = sweeps_stay go v.sweep mine.sweeps;
        budget = mine.budget;
        joined = refl;
      } refl refl kept

  -- the same, and the hand keeps in mind what it says
  kept_load : (st : St) (r : Rule st) (i id : ℕ) (cs : List (ℕ × Unit {0})) (v : View D) (rd : Reading) (ks : List Look) (rf : Option Wanted) (d : D) → get_elem? st.views id ≡ some v → IsLive v → Reads r.frames v.stamp rd × AreKept r.frames v.stamp ks
      → holds (observed r.pages v.number (stage_of v.stamp) d) → Rule (stepped st i (get_or st.words i 0) id cs (record v { reading = rd; kept = ks; refused = rf; known = d }) keeps)
  kept_load st r i id cs v rd ks rf d at live reads kept = let mine = r.seats id v at live in let s : Pages D = r.pages in let low = mine.counted in let dealt = mine.dealt in
      let go : Goes l st.words st.words s (observed s v.number (stage_of v.stamp) d) r.frames r.frames r.budgets r.budgets v.number = goes_observed l st.words st.words s r.frames r.budgets v.number (stage_of v.stamp) (stage_of v.stamp) v.known d mine.stands (λ b e. inl e) (λ x _. refl) in
      unmoved l first holds st r i id cs v (record v { reading = rd; kept = ks; refused = rf; known = d }) (observed s v.number (stage_of v.stamp) d) r.budgets at live
      (orderly_observed l s v.number (stage_of v.stamp) d (began_by l s v.number v.stamp v.known r.orderly mine.stands) r.orderly)
      (shows_observed l st.words s r.frames v.number (stage_of v.stamp) d (r.shows.process v.number (stage_of v.stamp) v.known (omega arith) mine.stands) r.shows)
      r.budgeted go
      record {
        layout = refl;
        number = refl;
        upto = refl;
        stands = set_there s.hands v.number (stage_of v.stamp, v.known) (stage_of v.stamp, d) mine.stands;
        clocked = mine.clocked;
        reads = reads;
        stocks = mine.stocks;
        drops = mine.drops;
        seals = mine.seals;
        sweeps = sweeps_stay go v.sweep mine.sweeps;
        budget = mine.budget;
        joined = refl;
      } refl refl kept

  -- a process word changes, and the hand reads nothing
  process_step : (st : St) (r : Rule st) (i id n : ℕ) (cs : List (ℕ × Unit {0})) (v : View D) (sp : Stamp) (rf : Option Wanted) (d : D) → get_elem? st.views id ≡ some v → IsLive v → i ≡ process_at l v.number → ProcessIs n (stage_of sp) → IsRead r.pages.clock sp
      → ((b : ℕ) → stage_of sp ≡ Running b → ((stage_of v.stamp ≡ Running b) ⊎ (r.pages.clock ≤ b)) × (b ≤ r.pages.clock)) → holds (observed r.pages v.number (stage_of sp) d) → Rule (stepped st i n id cs (record v { stamp = sp; reading = Nowhere; kept = []; refused = rf; known = d }) keeps)
  process_step st r i id n cs v sp rf d at live i_is is clocked' begun kept = let mine = r.seats id v at live in let s : Pages D = r.pages in let low = mine.counted in let dealt = mine.dealt in let orderly = r.orderly in let counts = orderly.owners in
      let ws : List ℕ = set st.words i n in
      let owners : (x : ℕ) → x < length s.owners → get_or ws (owner_at l x) 0 ≡ get_or st.words (owner_at l x) 0 = (λ x below. get_or-set_other st.words i (owner_at l x) n 0 (λ z. omega arith)) in
      let go : Goes l st.words ws s (observed s v.number (stage_of sp) d) r.frames r.frames r.budgets r.budgets v.number = goes_observed l st.words ws s r.frames r.budgets v.number (stage_of v.stamp) (stage_of sp) v.known d mine.stands
      (λ b e. (begun b e).0) owners in
      moved l first holds st r i n id cs v (record v { stamp = sp; reading = Nowhere; kept = []; refused = rf; known = d }) (observed s v.number (stage_of sp) d) r.frames r.budgets at live
      (orderly_observed l s v.number (stage_of sp) d (λ b e. (begun b e).1) r.orderly)
      (subst (λ (z : ℕ). Shows l (set st.words z n) (observed s v.number (stage_of sp) d) r.frames) (sym i_is) (shows_process l st.words s r.frames v.number n (stage_of sp) d r.orderly (omega arith) is r.shows))
      r.budgeted go
      record {
        layout = refl;
        number = refl;
        upto = refl;
        stands = set_there s.hands v.number (stage_of v.stamp, v.known) (stage_of sp, d) mine.stands;
        clocked = clocked';
        reads = (tt, tt);
        stocks = mine.stocks;
        drops = mine.drops;
        seals = seal_same l st.words ws s.owners v.number v.sealing owners mine.seals;
        sweeps = sweeps_stay go v.sweep mine.sweeps;
        budget = mine.budget;
        joined = refl;
      } (sealing_stays l st.words ws s.owners st.views id v (record v { stamp = sp; reading = Nowhere; kept = []; refused = rf; known = d }) at refl (λ k. k) owners r.sealing) kept

  -- a load of the clock, outside a process
  pub reads_clock : (slots id i : ℕ) (me : M) → i ≡ 0 → me.0.stamp ≡ Out → IsLive me.0 → Allows Rule slots id me i (λ n. n) (clocked (step slots i 0 0 none) me)
  reads_clock slots id i me i_is out live st r _ at _ = let mine = r.seats id me.0 at live in let s : Pages D = r.pages in let n : ℕ = get_or st.words i 0 in
      let is : n ≡ s.clock = ap (λ (z : ℕ). get_or st.words z 0) i_is ∙ r.shows.clock in let bound = low_clock l s.clock r.budgets r.budgeted in
      let w : View D = record me.0 { stamp = Clocked n; reading = Nowhere; kept = [] } in (
        w,
        keeps,
        tt,
        unmoved l first holds st r i id me.1 me.0 w s r.budgets at live r.orderly r.shows r.budgeted (goes_on l st.words s r.frames r.budgets r.budgets me.0.number (λ k _. refl))
            record {
              layout = refl;
              number = refl;
              upto = refl;
              stands = mine.stands ∙ ap (λ (z : Stamp). some (stage_of z, me.0.known)) out;
              clocked = omega arith;
              reads = (tt, tt);
              stocks = mine.stocks;
              drops = mine.drops;
              seals = mine.seals;
              sweeps = mine.sweeps;
              budget = mine.budget;
              joined = refl;
            } refl refl r.kept,
        ((refl, refl, refl, refl), (refl, refl, refl), refl, refl, omega arith),
      )

  pub stamps : (then' : D → ℕ → D → Type 0) (slots id i n c : ℕ) (me : M) → i ≡ process_at l me.0.number → n ≡ c + 1 → me.0.stamp ≡ Clocked c → Begins holds l me.0.number me.0.known then'
      → IsLive me.0 → Allows Rule slots id me i (λ _. n) (λ _. stamped then' (step slots i n 0 none) me n)
  stamps then' slots id i n c me i_is n_is is asked live st r _ at _ = let mine = r.seats id me.0 at live in let s : Pages D = r.pages in let seen : c ≤ s.clock = subst (IsRead s.clock) is mine.clocked in
      let t = asked s r.kept r.orderly (mine.stands ∙ ap (λ (z : Stamp). some (stage_of z, me.0.known)) is) in (
        record me.0 { stamp = In s.clock; reading = Nowhere; kept = []; refused = None; known = t.0 },
        keeps,
        tt,
        process_step st r i id n me.1 me.0 (In s.clock) None t.0 at live i_is (omega arith, omega arith) tt (λ b e. let now : s.clock ≡ b = cc in (inr (omega arith), omega arith)) t.1,
        ((refl, refl, refl, refl), (refl, refl, refl), refl, (s.clock, refl, t.2)),
      )

  pub finishes : (then' : D → ℕ → D → Type 0) (slots id i b : ℕ) (me : M) → i ≡ process_at l me.0.number → me.0.stamp ≡ In b → Ends holds l me.0.number me.0.known then'
      → IsLive me.0 → Allows Rule slots id me i (λ _. 0) (λ _. ended then' (step slots i 0 0 none) me 0)
  finishes then' slots id i b me i_is is asked live st r _ at _ = let mine = r.seats id me.0 at live in let s : Pages D = r.pages in
      let t = asked s b r.kept r.orderly (mine.stands ∙ ap (λ (z : Stamp). some (stage_of z, me.0.known)) is) in (
        record me.0 { stamp = Out; reading = Nowhere; kept = []; refused = me.0.refused; known = t.1 },
        keeps,
        tt,
        process_step st r i id 0 me.1 me.0 Out me.0.refused t.1 at live i_is refl tt (λ b e. let no : ⊥ = cc in absurd no) t.2,
        ((refl, refl, refl, refl), (refl, refl, refl), refl, (refl, refl, refl), (s.clock, t.3)),
      )

  -- a load of the clock at which the process ends, and the next one begins
  pub renews : (then' next : D → ℕ → D → Type 0) (slots id i b : ℕ) (me : M) → i ≡ 0 → me.0.stamp ≡ In b → Ends holds l me.0.number me.0.known then'
      → ((between : D) (now : ℕ) → then' me.0.known now between → Begins holds l me.0.number between next) → IsLive me.0 → Allows Rule slots id me i (λ n. n) (renewed then' next (step slots i 0 0 none) me)
  renews then' next slots id i b me i_is is ends begins live st r _ at _ = let mine = r.seats id me.0 at live in let s : Pages D = r.pages in let n : ℕ = get_or st.words i 0 in let q : ℕ = me.0.number in let sg : Stage = stage_of me.0.stamp in
      let now : n ≡ s.clock = ap (λ (z : ℕ). get_or st.words z 0) i_is ∙ r.shows.clock in let bound = low_clock l s.clock r.budgets r.budgeted in let counted = mine.counted in let dealt = mine.dealt in
      let began : sg ≡ Running b = ap stage_of is in let stands : Stands s q (Running b) me.0.known = mine.stands ∙ ap (λ (z : Stage). some (z, me.0.known)) began in
      let t = ends s b r.kept r.orderly stands in
      let u = begins t.1 s.clock t.3 (observed s q Idle t.1) t.2 (orderly_observed l s q Idle t.1 (λ c e. let no : ⊥ = cc in absurd no) r.orderly) (set_there s.hands q (sg, me.0.known) (Idle, t.1) mine.stands) in
      let s' : Pages D = observed s q (Running s.clock) u.0 in
      let kept : holds s' = subst (λ (z : List (Stage × D)). holds (record s { hands = z })) (set-set s.hands q (Idle, t.1) (Running s.clock, u.0)) u.1 in
      let soon : b ≤ s.clock = began_by l s q me.0.stamp me.0.known r.orderly mine.stands b began in
      let word : ProcessIs (get_or st.words (process_at l q) 0) (Running b) = subst (ProcessIs (get_or st.words (process_at l q) 0)) began (r.shows.process q sg me.0.known (omega arith) mine.stands) in
      let low = word.0 in let high = word.1 in
      let go : Goes l st.words st.words s s' r.frames r.frames r.budgets r.budgets q = goes_observed l st.words st.words s r.frames r.budgets q sg (Running s.clock) me.0.known u.0 mine.stands (λ c e. let same : s.clock ≡ c = cc in inr (omega arith)) (λ x _. refl) in
      let w : View D = record me.0 { stamp = In n; reading = Nowhere; kept = []; refused = None; known = u.0 } in (
        w,
        keeps,
        tt,
        unmoved l first holds st r i id me.1 me.0 w s' r.budgets at live
            (orderly_observed l s q (Running s.clock) u.0 (λ c e. let same : s.clock ≡ c = cc in omega arith) r.orderly)
            (shows_observed l st.words s r.frames q (Running s.clock) u.0 (omega arith, omega arith) r.shows)
            r.budgeted go
            record {
              layout = refl;
              number = refl;
              upto = refl;
              stands = set_there s.hands q (sg, me.0.known) (Running s.clock, u.0) mine.stands ∙ ap (λ (z : ℕ). some (Running z, u.0)) (sym now);
              clocked = tt;
              reads = (tt, tt);
              stocks = mine.stocks;
              drops = mine.drops;
              seals = mine.seals;
              sweeps = sweeps_stay go me.0.sweep mine.sweeps;
              budget = mine.budget;
              joined = refl;
            } refl refl kept,
        ((refl, refl, refl, refl), (refl, refl, refl), refl, refl, omega arith, subst (λ (z : ℕ). (between : D) × then' me.0.known z between × next between z u.0) (sym now) (t.1, t.3, u.2)),
      )

  -- a load at which the process ends, and the next one begins, for which the time of the first one counts
  pub relays : (then' : D → ℕ → D → Type 0) (slots id i b : ℕ) (me : M) → me.0.stamp ≡ In b → Relays holds l me.0.number me.0.known then'
      → IsLive me.0 → Allows Rule slots id me i (λ n. n) (relayed then' (step slots i 0 0 none) me)
  relays then' slots id i b me is asked live st r _ at _ = let mine = r.seats id me.0 at live in let s : Pages D = r.pages in
      let t = asked s b r.kept r.orderly (mine.stands ∙ ap (λ (z : Stamp). some (stage_of z, me.0.known)) is) in
      let kept : holds (observed s me.0.number (stage_of me.0.stamp) t.1) = subst (λ (z : Stamp). holds (observed s me.0.number (stage_of z) t.1)) (sym is) t.2 in (
        record me.0 { reading = me.0.reading; refused = None; known = t.1 },
        keeps,
        tt,
        observed_load st r i id me.1 me.0 me.0.reading None t.1 at live mine.reads kept,
        ((refl, refl, refl, refl), (refl, refl, refl), refl, refl, refl, (s.clock, t.3)),
      )

  -- the process word shows that time
  pub raises : (slots id i n b : ℕ) (me : M) → i ≡ process_at l me.0.number → n ≡ b + 1 → me.0.stamp ≡ In b → IsLive me.0 → Allows Rule slots id me i (λ _. n) (λ _. raised (step slots i n 0 none) me n)
  raises slots id i n b me i_is n_is is live st r _ at _ = let mine = r.seats id me.0 at live in let s : Pages D = r.pages in let q : ℕ = me.0.number in let sg : Stage = stage_of me.0.stamp in
      let began : sg ≡ Running b = ap stage_of is in
      let same : set s.hands q (sg, me.0.known) ≡ s.hands = set_again s.hands q (sg, me.0.known) mine.stands in (
        record me.0 { reading = Nowhere; kept = [] },
        keeps,
        tt,
        process_step st r i id n me.1 me.0 me.0.stamp me.0.refused me.0.known at live i_is (subst (ProcessIs n) (sym began) (omega arith, omega arith)) mine.clocked
            (λ c e. (inl e, began_by l s q me.0.stamp me.0.known r.orderly mine.stands c e)) (subst (λ (z : List (Stage × D)). holds (record s { hands = z })) (sym same) r.kept),
        (((refl, refl, refl, refl), refl, (refl, refl, refl), refl), refl),
      )

  pub looks : (then' : D → ℕ → Owner → List ℕ → D → Type 0) (slots id i b x : ℕ) (me : M) → i ≡ page_at l x → x < l.pages → me.0.layout ≡ l → me.0.stamp ≡ In b → Gets holds l me.0.number me.0.known x then'
      → IsLive me.0 → Allows Rule slots id me i (λ n. n) (looked then' (step slots i 0 0 none) me)
  looks then' slots id i b x me i_is inside same is asked live st r _ at _ = let mine = r.seats id me.0 at live in let s : Pages D = r.pages in let orderly = r.orderly in let counts = orderly.contents in let owners = orderly.owners in let counted = orderly.versions in
      let page = there s.contents x (omega arith) in let own = there s.owners x (omega arith) in let was = there s.versions x (omega arith) in let n : ℕ = get_or st.words i 0 in
      let t = asked s b page.0 own.0 r.kept r.orderly (mine.stands ∙ ap (λ (z : Stamp). some (stage_of z, me.0.known)) is) (page.1, own.1) in
      let kept : holds (observed s me.0.number (stage_of me.0.stamp) t.1) = subst (λ (z : Stamp). holds (observed s me.0.number (stage_of z) t.1)) (sym is) t.2 in
      let passes = ap (λ (z : Layout). z.passes) same in let total = r.shows.frame_total in let counts' = ap (λ (z : Layout). frame_count z) same in
      let from : PageIs r.frames x was.0 n page.0 = subst (λ (z : ℕ). PageIs r.frames x was.0 (get_or st.words z 0) page.0) (sym i_is) (r.shows.page x was.0 page.0 page.1 was.1) in
      ⊎_elim
      (λ (e : (n ≡ 0) × (page.0 ≡ replicate 32 0)). (
        record me.0 { reading = me.0.reading; known = t.1 },
        keeps,
        tt,
        observed_load st r i id me.1 me.0 me.0.reading me.0.refused t.1 at live mine.reads kept,
        ((refl, refl, refl, refl), refl, (refl, refl, refl), λ y equal. let back : x ≡ y = omega arith in (own.0, page.0, ((λ _. e.1), λ some_frame. absurd (some_frame e.0)), subst (λ (z : ℕ). then' me.0.known z own.0 page.0 t.1) back t.3)),
      ))
      (λ (e : (f : ℕ) × (n ≡ f + 1) × (get_elem? r.frames f ≡ some (used (shown x was.0) page.0))). let up = e.1 in let within = at_below r.frames e.0 (used (shown x was.0) page.0) e.2 in (
        record me.0 { reading = At e.0 page.0; known = t.1 },
        keeps,
        tt,
        observed_load st r i id me.1 me.0 (At e.0 page.0) me.0.refused t.1 at live ((b, is, (x, was.0, (shown x was.0, e.2, (refl, refl)))), mine.reads.1) kept,
        (
          (refl, refl, refl, refl),
          refl,
          (refl, refl, refl),
          λ y equal. let back : x ≡ y = omega arith in (
            own.0,
            page.0,
            ((λ nothing. absurd (omega arith)), λ _. (e.0, e.1, omega arith, (r.shows.frame e.0 (used (shown x was.0) page.0) e.2).1, refl)),
            subst (λ (z : ℕ). then' me.0.known z own.0 page.0 t.1) back t.3,
          ),
        ),
      ))
      from

  -- the same, and the hand keeps in mind what it saw
  pub looks_kept : (then' : D → ℕ → ℕ → Owner → List ℕ → D → Type 0) (slots id i b x : ℕ) (me : M) → i ≡ page_at l x → x < l.pages → me.0.layout ≡ l → me.0.stamp ≡ In b → GetsAs holds l me.0.number me.0.known x then'
      → IsLive me.0 → Allows Rule slots id me i (λ n. n) (looked_kept then' (step slots i 0 0 none) me)
  looks_kept then' slots id i b x me i_is inside same is asked live st r _ at _ = let mine = r.seats id me.0 at live in let s : Pages D = r.pages in let orderly = r.orderly in let counts = orderly.contents in let owners = orderly.owners in let counted = orderly.versions in
      let page = there s.contents x (omega arith) in let own = there s.owners x (omega arith) in let was = there s.versions x (omega arith) in let n : ℕ = get_or st.words i 0 in
      let t = asked s b was.0 page.0 own.0 r.kept r.orderly (mine.stands ∙ ap (λ (z : Stamp). some (stage_of z, me.0.known)) is) (page.1, own.1) was.1 in
      let kept : holds (observed s me.0.number (stage_of me.0.stamp) t.1) = subst (λ (z : Stamp). holds (observed s me.0.number (stage_of z) t.1)) (sym is) t.2 in
      let passes = ap (λ (z : Layout). z.passes) same in let total = r.shows.frame_total in let counts' = ap (λ (z : Layout). frame_count z) same in
      let from : PageIs r.frames x was.0 n page.0 = subst (λ (z : ℕ). PageIs r.frames x was.0 (get_or st.words z 0) page.0) (sym i_is) (r.shows.page x was.0 page.0 page.1 was.1) in
      ⊎_elim
      (λ (e : (n ≡ 0) × (page.0 ≡ replicate 32 0)). (
        record me.0 { reading = me.0.reading; kept = me.0.kept; refused = me.0.refused; known = t.1 },
        keeps,
        tt,
        kept_load st r i id me.1 me.0 me.0.reading me.0.kept me.0.refused t.1 at live mine.reads kept,
        ((refl, refl, refl, refl), refl, (refl, refl, refl), λ y equal. let back : x ≡ y = omega arith in (own.0, page.0, was.0, ((λ _. e.1), λ some_frame. absurd (some_frame e.0)), subst (λ (z : ℕ). then' me.0.known z was.0 own.0 page.0 t.1) back t.3, λ f up. let nothing = e.0 in absurd (omega arith))),
      ))
      (λ (e : (f : ℕ) × (n ≡ f + 1) × (get_elem? r.frames f ≡ some (used (shown x was.0) page.0))). let up = e.1 in let within = at_below r.frames e.0 (used (shown x was.0) page.0) e.2 in (
        record me.0 { reading = At e.0 page.0; kept = look x e.0 was.0 ∷ me.0.kept; refused = me.0.refused; known = t.1 },
        keeps,
        tt,
        kept_load st r i id me.1 me.0 (At e.0 page.0) (look x e.0 was.0 ∷ me.0.kept) me.0.refused t.1 at live ((b, is, (x, was.0, (shown x was.0, e.2, (refl, refl)))), ((b, is, page.0, (shown x was.0, e.2, (refl, refl))), mine.reads.1)) kept,
        (
          (refl, refl, refl, refl),
          refl,
          (refl, refl, refl),
          λ y equal. let back : x ≡ y = omega arith in (
            own.0,
            page.0,
            was.0,
            ((λ nothing. absurd (omega arith)), λ _. (e.0, e.1, omega arith, (r.shows.frame e.0 (used (shown x was.0) page.0) e.2).1, refl)),
            subst (λ (z : ℕ). then' me.0.known z was.0 own.0 page.0 t.1) back t.3,
            λ f names. let same : e.0 ≡ f = omega arith in (λ z. look (back z) (same z) was.0 ∷ me.0.kept),
          ),
        ),
      ))
      from

  -- a look whether a page names the frame still that the hand keeps in mind
  pub compares : (tells : D → ℕ → ℕ → Type 0) (slots id i b : ℕ) (me : M) → me.0.stamp ≡ In b → me.0.layout ≡ l
      → ((k : ℕ) (kept : Look) → get_elem? me.0.kept k ≡ some kept → i ≡ page_at me.0.layout kept.page → (kept.page < l.pages) × Implies holds l me.0.number me.0.known kept.page kept.version tells)
      → IsLive me.0 → Allows Rule slots id me i (λ n. n) (compared tells (step slots i 0 0 none) me)
  compares tells slots id i b me is same asked live st r _ at _ = let mine = r.seats id me.0 at live in let s : Pages D = r.pages in let orderly = r.orderly in let counts = orderly.contents in let counted = orderly.versions in let n : ℕ = get_or st.words i 0 in (
    me.0,
    keeps,
    tt,
    unmoved l first holds st r i id me.1 me.0 me.0 s r.budgets at live r.orderly r.shows r.budgeted (goes_on l st.words s r.frames r.budgets r.budgets me.0.number (λ k _. refl))
        record { layout = refl; number = refl; upto = refl; stands = mine.stands; clocked = mine.clocked; reads = mine.reads; stocks = mine.stocks; drops = mine.drops; seals = mine.seals; sweeps = mine.sweeps; budget = mine.budget; joined = refl } refl refl r.kept,
    (
      refl,
      λ k kept e equal names. let ask = asked k kept e equal in let inside = ask.0 in
          let page = there s.contents kept.page (omega arith) in let was = there s.versions kept.page (omega arith) in
          let here = kept_at r.frames me.0.stamp me.0.kept k kept mine.reads.1 e in
          let i_is : i ≡ page_at l kept.page = subst (λ (z : Layout). i ≡ page_at z kept.page) same equal in
          let from : PageIs r.frames kept.page was.0 n page.0 = subst (λ (z : ℕ). PageIs r.frames kept.page was.0 (get_or st.words z 0) page.0) (sym i_is) (r.shows.page kept.page was.0 page.0 page.1 was.1) in
          let version : was.0 ≡ kept.version = same_put r.frames here.0 kept.page kept.version was.0 n kept.frame here.2 page.0 names here.3 from in
          ask.1 s (stage_of me.0.stamp) r.kept r.orderly mine.stands (subst (λ (z : ℕ). get_elem? s.versions kept.page ≡ some z) version was.1),
    ),
  )

  pub copies : (slots id i f k : ℕ) (me : M) (xs : List ℕ) → i ≡ place_at l f k → me.0.reading ≡ At f xs → me.0.layout ≡ l → k < 32 → IsLive me.0 → Allows Rule slots id me i (λ n. n) (copied (step slots i 0 0 none) me)
  copies slots id i f k me xs i_is reads same more live st r _ at _ = let mine = r.seats id me.0 at live in let s : Pages D = r.pages in
      let rd : Reads r.frames me.0.stamp (At f xs) = subst (Reads r.frames me.0.stamp) reads mine.reads.0 in
      let seen = rd.2.2 in let was = r.shows.frame f (used seen.0 xs) seen.1 in let long : length xs ≡ 32 = full rd.0 rd.2.0 rd.2.1 seen.0 xs seen.2 was.1 in (
        me.0,
        keeps,
        tt,
        unmoved l first holds st r i id me.1 me.0 me.0 s r.budgets at live r.orderly r.shows r.budgeted (goes_on l st.words s r.frames r.budgets r.budgets me.0.number (λ k _. refl))
            record { layout = refl; number = refl; upto = refl; stands = mine.stands; clocked = mine.clocked; reads = mine.reads; stocks = mine.stocks; drops = mine.drops; seals = mine.seals; sweeps = mine.sweeps; budget = mine.budget; joined = refl } refl refl r.kept,
        (
          refl,
          λ g ys j e equal small. let both = sym reads ∙ e in let is_f : f ≡ g = ap frame_of both in let passes = ap (λ (z : Layout). z.passes) same in let pages = ap (λ (z : Layout). z.pages) same in let spare = ap (λ (z : Layout). z.spare) same in let is_k : k ≡ j = omega arith in
              ap (λ (z : ℕ). get_or st.words z 0) i_is ∙ (was.3 k (omega arith) ∙ (ap (λ (z : List ℕ). get_or z k 0) (ap words_read both) ∙ ap (λ (z : ℕ). get_or ys z 0) is_k)),
        ),
      )
