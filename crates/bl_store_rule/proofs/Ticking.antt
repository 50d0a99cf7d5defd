-- The clock ticks: for a frame that a put swapped out, and for a page that is retired.
use Rattle.std.proofs.Common.{◌≡◌, ◌≢◌, ℕ, ◌+◌, ◌*◌, ◌%◌, ◌<◌, ◌≤◌, List, length, get_or, set, sym, refl, ap, ◌∙◌, subst, inl, inr, ⊎_elim, arith, le_refl, length-set, get_or-set_other}
use mathlib.Core.Option.{none, some}
use mathlib.Core.Logic.{dite}
use native.Mathlib.Decide.{ℕ_discrete}
use lib.ListN.{get_elem?}
use lib.Seq.{set-get_or}
use Rattle.std.proofs.lemmas.Grind.{get_or-set_at}
use Rattle.atomic_table.specs.Table.{State, Me, step, keeps, stepped, Allows}
use Rattle.atomic_table.proofs.Lists.{at_set, set_else, set_again}
use Rattle.bl_layout.specs.declared.layout.Layout.{Layout}
use Rattle.bl_store_rule.specs.Pages.{Owner, Held, Retired, Stage, Pages, observed, owned, later, Retires}
use Rattle.bl_store_rule.specs.Frames.{process_at, owner_at, dropped, timed, Frame, used, OwnerIs, ProcessIs, stage_of, IsRead, Drops, Seals, Swept, Budgeted, Shows, IsLive, IsSealing, Kept}
use Rattle.bl_store_rule.specs.Observed.{drew, sealed, published}
use Rattle.bl_store_rule.specs.declared.view.View.{View}
use Rattle.bl_store_rule.specs.declared.view.Stamp.{Stamp}
use Rattle.bl_store_rule.specs.declared.view.Stamp.TheVariants.{Out, Clocked, In}
use Rattle.bl_store_rule.specs.declared.view.Dropping.TheVariants.{Dropped, Timed}
use Rattle.bl_store_rule.specs.declared.view.Sealing.{Sealing}
use Rattle.bl_store_rule.specs.declared.view.Sealing.TheVariants.{Unsealed, Sealed}
use Rattle.bl_store_rule.proofs.Lists.{at_below, there, one_there, set_there, total_set}
use Rattle.bl_store_rule.proofs.Keeps.{reads_kept, stocks_kept, drops_kept, shows_observed, shows_state, shows_owner, shows_later, orderly_observed, orderly_owned, orderly_later, swept_observed, seal_same, Goes, reads_stay, sweeps_stay, sealing_stays, moved}
use Rattle.bl_store_rule.proofs.Time.{low_clock, began_by}
use Rattle.std.proofs.Math.Nat.{mod-eq_of_lt}

module _ {D : Type 0} (l : Layout) (first : D) (holds : Pages D → Type 0) where
  abbrev St : Type 0
  St = State (Unit {0}) (View D)

  abbrev M : Type 0
  M = Me (Unit {0}) (View D)

  abbrev Rule : St → Type 0
  Rule = Kept l first holds

  -- a tick of the hand q leaves the clock below its bound
  spent : (clock q a b : ℕ) (bs : List ℕ) → get_elem? bs q ≡ some a → b + 1 ≡ a → Budgeted l.passes clock bs → Budgeted l.passes (clock + 1) (set bs q b)
  spent clock q a b bs here less is = let small = is.small q a here in let total = is.total in let sum = total_set bs q a b here in record {
    count = length-set bs q b ∙ is.count;
    small = λ k c e. ⊎_elim (λ (t : (k ≡ q) × (b ≡ c)). let same = t.1 in omega arith) (λ (t : (k ≢ q) × (get_elem? bs k ≡ some c)). is.small k c t.1) (at_set bs q k b c e);
    total = omega arith;
  }

  swept_later : (s : Pages D) (m k : ℕ) → Swept s m k → Swept (later s) m k
  swept_later s m k is = let past = is.past in record { past = omega arith; later = is.later }

  -- a tick for the frame that the hand took from a page: each process that reads it began by now
  pub draws : ((s : Pages D) → holds s → holds (later s)) → (slots id i f k : ℕ) (me : M) → i ≡ 0 → me.0.dropping ≡ Dropped f → me.0.puts ≡ k + 1 → IsLive me.0 → Allows Rule slots id me i (λ n. (n + 1) % 18446744073709551616) (drew (step slots i 1 0 none) me)
  draws ticks slots id i f k me i_is is has live st r _ at _ = let mine = r.seats id me.0 at live in let s : Pages D = r.pages in let q : ℕ = me.0.number in let n : ℕ = get_or st.words i 0 in
      let now : n ≡ s.clock = ap (λ (z : ℕ). get_or st.words z 0) i_is ∙ r.shows.clock in let bound = low_clock l s.clock r.budgets r.budgeted in let up : (n + 1) % 18446744073709551616 ≡ n + 1 = mod-eq_of_lt (omega arith) in
      let known : Drops r.frames q (Dropped f) = subst (Drops r.frames q) is mine.drops in let xs : List ℕ = known.0 in let old : Frame = used (dropped q) xs in let new : Frame = used (timed q s.clock) xs in let here : get_elem? r.frames f ≡ some old = known.1 in
      let was = r.shows.frame f old here in let wide = r.shows.wide in let orderly = r.orderly in let owned' = orderly.owners in let counted = mine.counted in let dealt = mine.dealt in
      let gs : List Frame = set r.frames f new in let bs' : List ℕ = set r.budgets q (k + me.0.retires) in let ws : List ℕ = set st.words i (n + 1) in let w : View D = record me.0 { dropping = Timed f n; puts = k } in
      let owners : (x : ℕ) → x < length s.owners → get_or ws (owner_at l x) 0 ≡ get_or st.words (owner_at l x) 0 = (λ x below. get_or-set_other st.words i (owner_at l x) (n + 1) 0 (λ z. omega arith)) in
      let shows : Shows l ws (later s) gs = subst (λ (z : ℕ). Shows l (set st.words z (n + 1)) (later s) gs) (sym i_is) (shows_later l st.words s gs (n + 1) (omega arith) (shows_state l st.words s r.frames f old new r.shows here was (λ x w ys e. cc))) in
      let go : Goes l st.words ws s (later s) r.frames gs r.budgets bs' q = record {
        clock = omega arith;
        hands = λ j other. refl;
        budgets = λ j other. set_else r.budgets q j (k + me.0.retires) other;
        reads = λ j b y w g d ys stands low rd. reads_kept r.frames f old new b y w g ys here (λ u e may. let words : xs ≡ ys = cc in let soon : b ≤ s.clock = orderly.begun j b d stands in (timed q s.clock, ap (λ (z : List ℕ). used (timed q s.clock) z) words, soon)) rd;
        stocks = λ j ds other a. stocks_kept r.frames f old new j ds here (λ m ys _ e. cc) a;
        drops = λ j d other a. drops_kept r.frames f old new j d here (λ ys e. other cc) (λ t ys e. cc) a;
        seals = λ j x other a. seal_same l st.words ws s.owners j x owners a;
        swept = λ m j a. swept_later s m j a;
      } in (
        w,
        keeps,
        tt,
        subst (λ (z : ℕ). Rule (stepped st i z id me.1 w keeps)) (sym up)
            (moved l first holds st r i (n + 1) id me.1 me.0 w (later s) gs bs' at live (orderly_later l s r.orderly) shows (spent s.clock q (me.0.puts + me.0.retires) (k + me.0.retires) r.budgets mine.budget (omega arith) r.budgeted) go
            record {
              layout = refl;
              number = refl;
              upto = refl;
              stands = mine.stands;
              clocked = read_by s.clock me.0.stamp mine.clocked;
              reads = reads_stay go q me.0.stamp me.0.known me.0.reading me.0.kept (omega arith) mine.stands mine.reads;
              stocks = stocks_kept r.frames f old new q me.0.stock here (λ m ys _ e. cc) mine.stocks;
              drops = (xs, set_there r.frames f old new here ∙ ap (λ (z : ℕ). some (used (timed q z) xs)) (sym now));
              seals = seal_same l st.words ws s.owners q me.0.sealing owners mine.seals;
              sweeps = sweeps_stay go me.0.sweep mine.sweeps;
              budget = set_there r.budgets q (me.0.puts + me.0.retires) (k + me.0.retires) mine.budget;
              joined = refl;
            } (sealing_stays l st.words ws s.owners st.views id me.0 w at refl (λ k. k) owners r.sealing) (ticks s r.kept)),
        ((refl, refl, refl, refl), refl, refl, refl, sym has, refl, omega arith, λ g e. let same : f ≡ g = cc in ap (λ (z : ℕ). Timed z n) same),
      )
    where
      read_by : (clock : ℕ) (sp : Stamp) → IsRead clock sp → IsRead (clock + 1) sp
      read_by clock Out a = tt
      read_by clock (Clocked c) a = omega arith
      read_by clock (In b) a = tt

  -- the tick by which the page x is retired
  pub seals : (then' : D → ℕ → D → Type 0) (slots id i x k : ℕ) (me : M) → i ≡ 0 → x < l.pages → me.0.retires ≡ k + 1 → me.0.sealing ≡ Unsealed → Retires holds l me.0.number me.0.known x then' → IsLive me.0 → Allows Rule slots id me i (λ n. (n + 1) % 18446744073709551616) (sealed x then' (step slots i 1 0 none) me)
  seals then' slots id i x k me i_is inside has unsealed asked live st r _ at _ = let mine = r.seats id me.0 at live in let s : Pages D = r.pages in let q : ℕ = me.0.number in let n : ℕ = get_or st.words i 0 in let sg : Stage = stage_of me.0.stamp in
      let now : n ≡ s.clock = ap (λ (z : ℕ). get_or st.words z 0) i_is ∙ r.shows.clock in let bound = low_clock l s.clock r.budgets r.budgeted in let up : (n + 1) % 18446744073709551616 ≡ n + 1 = mod-eq_of_lt (omega arith) in
      let wide = r.shows.wide in let orderly = r.orderly in let counts = orderly.contents in let owned' = orderly.owners in let counted = mine.counted in let dealt = mine.dealt in
      let page = there s.contents x (omega arith) in let own = there s.owners x (omega arith) in
      let t = asked s sg page.0 own.0 r.kept r.orderly mine.stands (page.1, own.1) in
      let word : get_or st.words (owner_at l x) 0 ≡ 4 * q + 2 = subst (OwnerIs (get_or st.words (owner_at l x) 0)) t.0 (r.shows.owner x own.0 own.1) in
      let s1 : Pages D = owned s x (Retired s.clock) in let s' : Pages D = observed (later s1) q sg t.1 in
      let bs' : List ℕ = set r.budgets q (me.0.puts + k) in let ws : List ℕ = set st.words i (n + 1) in let w : View D = record me.0 { sealing = Sealed x n; retires = k; known = t.1 } in
      let same_words : set st.words (owner_at l x) (get_or st.words (owner_at l x) 0) ≡ st.words = set-get_or st.words (owner_at l x) 0 in
      let shows1 : Shows l st.words s1 r.frames = subst (λ (z : List ℕ). Shows l z s1 r.frames) same_words (shows_owner l st.words s r.frames x (get_or st.words (owner_at l x) 0) (Retired s.clock) r.orderly inside (inr (q, word)) r.shows) in
      let process : get_or ws (process_at l q) 0 ≡ get_or st.words (process_at l q) 0 = get_or-set_other st.words i (process_at l q) (n + 1) 0 (λ z. omega arith) in
      let shows : Shows l ws (later s1) r.frames = subst (λ (z : ℕ). Shows l (set st.words z (n + 1)) (later s1) r.frames) (sym i_is) (shows_later l st.words s1 r.frames (n + 1) (omega arith) shows1) in
      let owners : (y : ℕ) → y < length s1.owners → get_or ws (owner_at l y) 0 ≡ get_or st.words (owner_at l y) 0 = (λ y below. get_or-set_other st.words i (owner_at l y) (n + 1) 0 (λ z. omega arith)) in
      let others : (j : ℕ) (y : Sealing) → Seals l st.words s.owners j y → Seals l ws s1.owners j y = (λ j y a. seal_same l st.words ws s1.owners j y owners (sealed_else s.owners st.words x j own.0 (Retired s.clock) own.1 (λ u e. let no : Held q ≡ Retired u = sym t.0 ∙ e in cc) y a)) in
      let sealing : IsSealing l ws s1.owners (set st.views id w) = (λ y u e. ⊎_elim
      (λ (a : (y ≡ x) × (Retired s.clock ≡ Retired u)). let is_u : s.clock ≡ u = cc in let is_y : x ≡ y = sym a.0 in let is_n : n ≡ u = now ∙ is_u in inr (id, w, set_there st.views id me.0 w at, live, λ j. Sealed (is_y j) (is_n j)))
      (λ (a : (y ≢ x) × (get_elem? s.owners y ≡ some (Retired u))). ⊎_elim (λ (h : get_or st.words (owner_at l y) 0 ≡ 4 * u + 3). inl (get_or-set_other st.words i (owner_at l y) (n + 1) 0 (λ z. omega arith) ∙ h))
      (λ (h : (j : ℕ) × (v : View D) × (get_elem? st.views j ≡ some v) × IsLive v × (v.sealing ≡ Sealed y u)). dite (ℕ_discrete h.0 id)
      (λ is. let one : me.0 ≡ h.1 = one_there st.views id me.0 h.1 at (ap (get_elem? st.views) (sym is) ∙ h.2) in let no : Unsealed ≡ Sealed y u = sym unsealed ∙ (ap (λ (z : View D). z.sealing) one ∙ h.4) in cc)
      (λ ne. inr (h.0, h.1, set_else st.views id h.0 w ne ∙ h.2, h.3, h.4))) (r.sealing y u a.1)) (at_set s.owners x y (Retired s.clock) (Retired u) e)) in
      let go : Goes l st.words ws s s' r.frames r.frames r.budgets bs' q = record {
        clock = omega arith;
        hands = λ j other. set_else s.hands q j (sg, t.1) other;
        budgets = λ j other. set_else r.budgets q j (me.0.puts + k) other;
        reads = λ j b y w g d ys stands low a. a;
        stocks = λ j ds other a. a;
        drops = λ j d other a. a;
        seals = λ j y other a. others j y a;
        swept = λ m j a. swept_observed s s' q sg sg me.0.known t.1 m j (omega arith) mine.stands refl (λ b e. inl e) a;
      } in (
        w,
        keeps,
        tt,
        subst (λ (z : ℕ). Rule (stepped st i z id me.1 w keeps)) (sym up)
            (moved l first holds st r i (n + 1) id me.1 me.0 w s' r.frames bs' at live
            (orderly_observed l (later s1) q sg t.1 (λ b e. let soon = began_by l s q me.0.stamp me.0.known r.orderly mine.stands b e in omega arith) (orderly_later l s1 (orderly_owned l s x (Retired s.clock) r.orderly)))
            (shows_observed l ws (later s1) r.frames q sg t.1 (subst (λ (z : ℕ). ProcessIs z sg) (sym process) (r.shows.process q sg me.0.known (omega arith) mine.stands)) shows)
            (spent s.clock q (me.0.puts + me.0.retires) (me.0.puts + k) r.budgets mine.budget (omega arith) r.budgeted) go
            record {
              layout = refl;
              number = refl;
              upto = refl;
              stands = set_there s.hands q (sg, me.0.known) (sg, t.1) mine.stands;
              clocked = read_by s.clock me.0.stamp mine.clocked;
              reads = mine.reads;
              stocks = mine.stocks;
              drops = mine.drops;
              seals = (owners x (omega (arith, length-set s.owners x (Retired s.clock))) ∙ word, set_there s.owners x own.0 (Retired s.clock) own.1 ∙ ap (λ (z : ℕ). some (Retired z)) (sym now));
              sweeps = sweeps_stay go me.0.sweep mine.sweeps;
              budget = set_there r.budgets q (me.0.puts + me.0.retires) (me.0.puts + k) mine.budget;
              joined = refl;
            } sealing t.2),
        ((refl, refl, refl), refl, refl, refl, sym has, omega arith, refl, subst (λ (z : ℕ). then' me.0.known z t.1) (sym now) t.3),
      )
    where
      read_by : (clock : ℕ) (sp : Stamp) → IsRead clock sp → IsRead (clock + 1) sp
      read_by clock Out a = tt
      read_by clock (Clocked c) a = omega arith
      read_by clock (In b) a = tt

      sealed_else : (os : List Owner) (ws : List ℕ) (x j : ℕ) (o o' : Owner) → get_elem? os x ≡ some o → ((u : ℕ) → o ≡ Retired u → ⊥) → (y : Sealing) → Seals l ws os j y → Seals l ws (set os x o') j y
      sealed_else os ws x j o o' here apart Unsealed a = tt
      sealed_else os ws x j o o' here apart (Sealed y u) a = (a.0, set_else os x y o' (λ e. apart u (one_there os x o (Retired u) here (ap (get_elem? os) (sym e) ∙ a.1))) ∙ a.1)

  -- the owner word shows the retirement
  pub publishes : (slots id i n x t : ℕ) (me : M) → i ≡ owner_at l x → n ≡ 4 * t + 3 → me.0.sealing ≡ Sealed x t → IsLive me.0 → Allows Rule slots id me i (λ _. n) (λ _. published (step slots i n 0 none) me n)
  publishes slots id i n x t me i_is n_is is live st r _ at _ = let mine = r.seats id me.0 at live in let s : Pages D = r.pages in let q : ℕ = me.0.number in
      let known : Seals l st.words s.owners q (Sealed x t) = subst (Seals l st.words s.owners q) is mine.seals in let here : get_elem? s.owners x ≡ some (Retired t) = known.1 in
      let orderly = r.orderly in let owned' = orderly.owners in let low = at_below s.owners x (Retired t) here in let ws : List ℕ = set st.words i n in
      let same : set s.owners x (Retired t) ≡ s.owners = set_again s.owners x (Retired t) here in
      let shows : Shows l ws s r.frames = subst (λ (z : ℕ × List Owner). Shows l (set st.words z.0 n) (record s { owners = z.1 }) r.frames) (λ k. (sym i_is k, same k)) (shows_owner l st.words s r.frames x n (Retired t) r.orderly (omega arith) (inl n_is) r.shows) in
      let w : View D = record me.0 { sealing = Unsealed } in
      let sealing : IsSealing l ws s.owners (set st.views id w) = (λ y u e. dite (ℕ_discrete y x)
      (λ is_x. let both : Retired t ≡ Retired u = one_there s.owners x (Retired t) (Retired u) here (ap (get_elem? s.owners) (sym is_x) ∙ e) in let is_u : t ≡ u = cc in let wide = r.shows.wide in
      inl (get_or-set_at st.words i (owner_at l y) n 0 (omega arith) (omega arith) ∙ omega arith))
      (λ other. ⊎_elim (λ (h : get_or st.words (owner_at l y) 0 ≡ 4 * u + 3). inl (get_or-set_other st.words i (owner_at l y) n 0 (λ z. other (omega arith)) ∙ h))
      (λ (h : (j : ℕ) × (v : View D) × (get_elem? st.views j ≡ some v) × IsLive v × (v.sealing ≡ Sealed y u)). dite (ℕ_discrete h.0 id)
      (λ same_seat. let one : me.0 ≡ h.1 = one_there st.views id me.0 h.1 at (ap (get_elem? st.views) (sym same_seat) ∙ h.2) in let no : Sealed x t ≡ Sealed y u = sym is ∙ (ap (λ (z : View D). z.sealing) one ∙ h.4) in let is_y : x ≡ y = cc in absurd (other (sym is_y)))
      (λ ne. inr (h.0, h.1, set_else st.views id h.0 w ne ∙ h.2, h.3, h.4))) (r.sealing y u e))) in
      let go : Goes l st.words ws s s r.frames r.frames r.budgets r.budgets q = record {
        clock = le_refl s.clock;
        hands = λ k other. refl;
        budgets = λ k other. refl;
        reads = λ j b y w f e xs stands below k. k;
        stocks = λ j ds other k. k;
        drops = λ j y other k. k;
        seals = λ j y other k. sealed_else s.owners st.words i n x q j i_is other known.0 y k;
        swept = λ m k sw. sw;
      } in (
        record me.0 { sealing = Unsealed },
        keeps,
        tt,
        moved l first holds st r i n id me.1 me.0 (record me.0 { sealing = Unsealed }) s r.frames r.budgets at live r.orderly shows r.budgeted go
            record { layout = refl; number = refl; upto = refl; stands = mine.stands; clocked = mine.clocked; reads = mine.reads; stocks = mine.stocks; drops = mine.drops; seals = tt; sweeps = mine.sweeps; budget = mine.budget; joined = refl } sealing r.kept,
        ((refl, refl, refl), refl, refl, (refl, refl, refl), refl),
      )
    where
      sealed_else : (os : List Owner) (ws : List ℕ) (i n x q j : ℕ) → i ≡ owner_at l x → j ≢ q → get_or ws (owner_at l x) 0 ≡ 4 * q + 2 → (y : Sealing) → Seals l ws os j y → Seals l (set ws i n) os j y
      sealed_else os ws i n x q j i_is other word Unsealed k = tt
      sealed_else os ws i n x q j i_is other word (Sealed y u) k = (get_or-set_other ws i (owner_at l y) n 0 (λ z. let same : y ≡ x = omega arith in let both : 4 * j + 2 ≡ 4 * q + 2 = sym k.0 ∙ (ap (λ (w : ℕ). get_or ws (owner_at l w) 0) same ∙ word) in other (omega arith)) ∙ k.0, k.1)
