-- What stays of the words, the frames and the seats over a step.
use Rattle.std.proofs.Common.{◌≡◌, ◌≢◌, ◌⊎◌, ℕ, ◌+◌, ◌*◌, ◌<◌, ◌≤◌, List, [], ◌∷◌, length, get_or, set, sym, refl, ap, ◌∙◌, subst, inl, inr, ⊎_elim, arith, length-set, get_or-set_other, get_or-set_same}
use mathlib.Core.Logic.{dite}
use mathlib.Core.Option.{some, some-injective}
use native.Mathlib.Decide.{ℕ_discrete}
use lib.ListN.{get_elem?}
use lib.Seq.{set-get_or}
use Rattle.std.proofs.lemmas.Grind.{get_or-set_at}
use Rattle.atomic_table.specs.Table.{State, keeps, stepped}
use Rattle.atomic_table.proofs.Lists.{at_set, set_else}
use Rattle.bl_layout.specs.declared.layout.Layout.{Layout}
use Rattle.bl_layout.specs.Cells.{front, behind}
use Rattle.bl_store_rule.specs.Pages.{Owner, Retired, Stage, Running, Pages, Stands, IsOrderly, observed, owned, written_as, later}
use Rattle.bl_store_rule.specs.Frames.{process_at, page_at, owner_at, state_at, place_at, Use, drafted, shown, dropped, timed, Frame, free, used, StateIs, FrameIs, PageIs, OwnerIs, ProcessIs, stage_of, IsRead, MayRead, ReadableAs, Readable, Reads, AreKept, Stocks, Drops, Seals, Swept, SweepIs, Knows, Budgeted, Shows, IsLive, IsApart, IsSealing, Kept}
use Rattle.bl_store_rule.specs.declared.view.View.{View}
use Rattle.bl_store_rule.specs.declared.view.Joined.{Joined}
use Rattle.bl_store_rule.specs.declared.view.Stamp.{Stamp}
use Rattle.bl_store_rule.specs.declared.view.Stamp.TheVariants.{Out, Clocked, In}
use Rattle.bl_store_rule.specs.declared.view.Reading.{Reading}
use Rattle.bl_store_rule.specs.declared.view.Reading.TheVariants.{Nowhere, At}
use Rattle.bl_store_rule.specs.declared.view.Draft.{Draft}
use Rattle.bl_store_rule.specs.declared.view.Look.{Look}
use Rattle.bl_store_rule.specs.declared.view.Dropping.{Dropping}
use Rattle.bl_store_rule.specs.declared.view.Dropping.TheVariants.{Empty, Dropped, Timed}
use Rattle.bl_store_rule.specs.declared.view.Sealing.{Sealing}
use Rattle.bl_store_rule.specs.declared.view.Sealing.TheVariants.{Unsealed, Sealed}
use Rattle.bl_store_rule.specs.declared.view.Sweep.{Sweep}
use Rattle.bl_store_rule.specs.declared.view.Sweep.TheVariants.{Still, Over}
use Rattle.bl_store_rule.proofs.Lists.{at_below, one_there, set_there}

-- a frame is as it was where its owner and its words are
pub frame_same : (l : Layout) (ws ws' : List ℕ) (f : ℕ) → get_or ws' (state_at l f) 0 ≡ get_or ws (state_at l f) 0 → ((k : ℕ) → k < 32 → get_or ws' (place_at l f k) 0 ≡ get_or ws (place_at l f k) 0)
    → (st : Frame) → FrameIs l ws f st → FrameIs l ws' f st
frame_same l ws ws' f state places free is = state ∙ is
frame_same l ws ws' f state places (used u xs) is = let short = is.2 in (subst (λ (z : ℕ). StateIs z u) (sym state) is.0, is.1, is.2, λ k low. places k (omega arith) ∙ is.3 k low)

-- a state other than the one that changes stays among the frames
pub frame_kept : (fs : List Frame) (f g : ℕ) (old new st : Frame) → get_elem? fs f ≡ some old → get_elem? fs g ≡ some st → st ≢ old → get_elem? (set fs f new) g ≡ some st
frame_kept fs f g old new st here at other = dite (ℕ_discrete g f) (λ e. absurd (other (some-injective st old (sym at ∙ (ap (get_elem? fs) e ∙ here))))) (λ ne. set_else fs f g new ne ∙ at)

pub page_kept : (fs : List Frame) (f : ℕ) (old new : Frame) (x v n : ℕ) (xs : List ℕ) → get_elem? fs f ≡ some old → ((w : ℕ) (ys : List ℕ) → used (shown x w) ys ≢ old) → PageIs fs x v n xs → PageIs (set fs f new) x v n xs
page_kept fs f old new x v n xs here not = ⊎_elim inl (λ (t : (g : ℕ) × (n ≡ g + 1) × (get_elem? fs g ≡ some (used (shown x v) xs))). inr (t.0, t.1, frame_kept fs f t.0 old new (used (shown x v) xs) here t.2 (not v xs)))

pub reads_kept : (fs : List Frame) (f : ℕ) (old new : Frame) (b x v g : ℕ) (xs : List ℕ) → get_elem? fs f ≡ some old
    → ((u : Use) → old ≡ used u xs → MayRead b x v u → (u' : Use) × (new ≡ used u' xs) × MayRead b x v u') → ReadableAs fs b x v g xs → ReadableAs (set fs f new) b x v g xs
reads_kept fs f old new b x v g xs here go k = dite (ℕ_discrete g f)
    (λ e. let n = go k.0 (one_there fs f old (used k.0 xs) here (ap (get_elem? fs) (sym e) ∙ k.1)) k.2 in (n.0, ap (get_elem? (set fs f new)) e ∙ (set_there fs f old new here ∙ ap (λ (z : Frame). some z) n.1), n.2))
    (λ ne. (k.0, set_else fs f g new ne ∙ k.1, k.2))

pub stocks_kept : (fs : List Frame) (f : ℕ) (old new : Frame) (q : ℕ) (ds : List Draft) → get_elem? fs f ≡ some old → ((k : ℕ) (ys : List ℕ) → k < length ds → used (drafted q k) ys ≢ old) → Stocks fs q ds → Stocks (set fs f new) q ds
stocks_kept fs f old new q [] here not k = tt
stocks_kept fs f old new q (d ∷ ds) here not k = (frame_kept fs f d.frame old new (used (drafted q (length ds)) d.words) here k.0 (not (length ds) d.words (omega arith)), stocks_kept fs f old new q ds here (λ j ys low. not j ys (omega arith)) k.1)

pub drops_kept : (fs : List Frame) (f : ℕ) (old new : Frame) (q : ℕ) (d : Dropping) → get_elem? fs f ≡ some old → ((ys : List ℕ) → used (dropped q) ys ≢ old) → ((t : ℕ) (ys : List ℕ) → used (timed q t) ys ≢ old)
    → Drops fs q d → Drops (set fs f new) q d
drops_kept fs f old new q Empty here no_drop no_time k = tt
drops_kept fs f old new q (Dropped g) here no_drop no_time k = (k.0, frame_kept fs f g old new (used (dropped q) k.0) here k.1 (no_drop k.0))
drops_kept fs f old new q (Timed g t) here no_drop no_time k = (k.0, frame_kept fs f g old new (used (timed q t) k.0) here k.1 (no_time t k.0))

module _ {D : Type 0} where
  -- what the words show stays where a hand is told something, and its process word shows where it stands
  pub shows_observed : (l : Layout) (ws : List ℕ) (s : Pages D) (fs : List Frame) (q : ℕ) (st : Stage) (d : D) → ProcessIs (get_or ws (process_at l q) 0) st → Shows l ws s fs → Shows l ws (observed s q st d) fs
  shows_observed l ws s fs q st d is r = record {
    wide = r.wide;
    frame_total = r.frame_total;
    clock = r.clock;
    process = λ j st' d' low at. ⊎_elim
        (λ (t : (j ≡ q) × ((st, d) ≡ (st', d'))). subst (λ (z : ℕ × Stage). ProcessIs (get_or ws (process_at l z.0) 0) z.1) (λ i. (sym t.0 i, (t.1 i).0)) is)
        (λ (t : (j ≢ q) × (get_elem? s.hands j ≡ some (st', d'))). r.process j st' d' low t.1) (at_set s.hands q j (st, d) (st', d') at);
    page = r.page;
    owner = r.owner;
    frame = r.frame;
  }

  -- a frame's state changes, and its owner word or one of its words
  pub shows_frame : (l : Layout) (ws : List ℕ) (s : Pages D) (fs : List Frame) (f i n : ℕ) (old new : Frame) → IsOrderly l s → Shows l ws s fs → get_elem? fs f ≡ some old → (i ≡ state_at l f) ⊎ ((place_at l f 0 ≤ i) × (i < place_at l f 32))
      → FrameIs l (set ws i n) f new → ((x w : ℕ) (ys : List ℕ) → used (shown x w) ys ≢ old) → Shows l (set ws i n) s (set fs f new)
  shows_frame l ws s fs f i n old new o r here where_i is no_page = let total = r.frame_total in let inside = at_below fs f old here in let counts = o.contents in let owned' = o.owners in
      let high : front l + 2 * l.pages ≤ i = ⊎_elim (λ (e : i ≡ state_at l f). omega arith) (λ (e : (place_at l f 0 ≤ i) × (i < place_at l f 32)). let low = e.0 in omega arith) where_i in
      let low : i < behind l = ⊎_elim (λ (e : i ≡ state_at l f). omega arith) (λ (e : (place_at l f 0 ≤ i) × (i < place_at l f 32)). let below = e.1 in omega arith) where_i in record {
        wide = length-set ws i n ∙ r.wide;
        frame_total = length-set fs f new ∙ r.frame_total;
        clock = get_or-set_other ws i 0 n 0 (λ z. omega arith) ∙ r.clock;
        process = λ q st d low at. subst (λ (z : ℕ). ProcessIs z st) (sym (get_or-set_other ws i (process_at l q) n 0 (λ z. omega arith))) (r.process q st d low at);
        page = λ x v xs e ev. let low = at_below s.contents x xs e in subst (λ (z : ℕ). PageIs (set fs f new) x v z xs) (sym (get_or-set_other ws i (page_at l x) n 0 (λ z. omega arith)))
            (page_kept fs f old new x v (get_or ws (page_at l x) 0) xs here (no_page x) (r.page x v xs e ev));
        owner = λ x ow e. let low = at_below s.owners x ow e in subst (λ (z : ℕ). OwnerIs z ow) (sym (get_or-set_other ws i (owner_at l x) n 0 (λ z. omega arith))) (r.owner x ow e);
        frame = λ g st e. ⊎_elim (λ (t : (g ≡ f) × (new ≡ st)). subst (λ (z : ℕ × Frame). FrameIs l (set ws i n) z.0 z.1) (λ k. (sym t.0 k, t.1 k)) is)
            (λ (t : (g ≢ f) × (get_elem? fs g ≡ some st)). let other = t.0 in let low = at_below fs g st t.1 in
            frame_same l ws (set ws i n) g
            (get_or-set_other ws i (state_at l g) n 0 (λ z. ⊎_elim (λ (a : i ≡ state_at l f). other (omega arith)) (λ (a : (place_at l f 0 ≤ i) × (i < place_at l f 32)). let b = a.0 in absurd (omega arith)) where_i))
            (λ k small. get_or-set_other ws i (place_at l g k) n 0 (λ z. ⊎_elim (λ (a : i ≡ state_at l f). absurd (omega arith)) (λ (a : (place_at l f 0 ≤ i) × (i < place_at l f 32)). let b = a.0 in let c = a.1 in other (omega arith)) where_i))
            st (r.frame g st t.1)) (at_set fs f g new st e);
      }

  -- the state of a frame changes, and no word
  pub shows_state : (l : Layout) (ws : List ℕ) (s : Pages D) (fs : List Frame) (f : ℕ) (old new : Frame) → Shows l ws s fs → get_elem? fs f ≡ some old → FrameIs l ws f new → ((x w : ℕ) (ys : List ℕ) → used (shown x w) ys ≢ old)
      → Shows l ws s (set fs f new)
  shows_state l ws s fs f old new r here is no_page = record {
    wide = r.wide;
    frame_total = length-set fs f new ∙ r.frame_total;
    clock = r.clock;
    process = r.process;
    page = λ x v xs e ev. page_kept fs f old new x v (get_or ws (page_at l x) 0) xs here (no_page x) (r.page x v xs e ev);
    owner = r.owner;
    frame = λ g st e. ⊎_elim (λ (t : (g ≡ f) × (new ≡ st)). subst (λ (z : ℕ × Frame). FrameIs l ws z.0 z.1) (λ k. (sym t.0 k, t.1 k)) is) (λ (t : (g ≢ f) × (get_elem? fs g ≡ some st)). r.frame g st t.1) (at_set fs f g new st e);
  }

  -- a process word changes, and where its hand stands
  pub shows_process : (l : Layout) (ws : List ℕ) (s : Pages D) (fs : List Frame) (q n : ℕ) (st : Stage) (d : D) → IsOrderly l s → q < l.passes → ProcessIs n st → Shows l ws s fs → Shows l (set ws (process_at l q) n) (observed s q st d) fs
  shows_process l ws s fs q n st d orderly low is r = let wide = r.wide in let total = r.frame_total in let counts = orderly.contents in let owned' = orderly.owners in let i : ℕ = process_at l q in record {
    wide = length-set ws i n ∙ r.wide;
    frame_total = r.frame_total;
    clock = get_or-set_other ws i 0 n 0 (λ z. omega arith) ∙ r.clock;
    process = λ j st' d' below at. ⊎_elim
        (λ (t : (j ≡ q) × ((st, d) ≡ (st', d'))). let same = t.0 in subst (λ (z : ℕ × Stage). ProcessIs z.0 z.1) (λ k. (sym (get_or-set_at ws i (process_at l j) n 0 (omega arith) (omega arith)) k, (t.1 k).0)) is)
        (λ (t : (j ≢ q) × (get_elem? s.hands j ≡ some (st', d'))). let other = t.0 in subst (λ (z : ℕ). ProcessIs z st') (sym (get_or-set_other ws i (process_at l j) n 0 (λ z. other (omega arith)))) (r.process j st' d' below t.1))
        (at_set s.hands q j (st, d) (st', d') at);
    page = λ x v xs e ev. let below = at_below s.contents x xs e in subst (λ (z : ℕ). PageIs fs x v z xs) (sym (get_or-set_other ws i (page_at l x) n 0 (λ z. omega arith))) (r.page x v xs e ev);
    owner = λ x ow e. let below = at_below s.owners x ow e in subst (λ (z : ℕ). OwnerIs z ow) (sym (get_or-set_other ws i (owner_at l x) n 0 (λ z. omega arith))) (r.owner x ow e);
    frame = λ g fr e. let below = at_below fs g fr e in frame_same l ws (set ws i n) g (get_or-set_other ws i (state_at l g) n 0 (λ z. omega arith)) (λ k small. get_or-set_other ws i (place_at l g k) n 0 (λ z. omega arith)) fr (r.frame g fr e);
  }

  -- an owner word changes, and the owner
  pub shows_owner : (l : Layout) (ws : List ℕ) (s : Pages D) (fs : List Frame) (x n : ℕ) (o : Owner) → IsOrderly l s → x < l.pages → OwnerIs n o → Shows l ws s fs → Shows l (set ws (owner_at l x) n) (owned s x o) fs
  shows_owner l ws s fs x n o orderly low is r = let wide = r.wide in let i : ℕ = owner_at l x in let counts = orderly.contents in let owners = orderly.owners in record {
    wide = length-set ws i n ∙ r.wide;
    frame_total = r.frame_total;
    clock = get_or-set_other ws i 0 n 0 (λ z. omega arith) ∙ r.clock;
    process = λ q st d below at. subst (λ (z : ℕ). ProcessIs z st) (sym (get_or-set_other ws i (process_at l q) n 0 (λ z. omega arith))) (r.process q st d below at);
    page = λ y v xs e ev. let below = at_below s.contents y xs e in subst (λ (z : ℕ). PageIs fs y v z xs) (sym (get_or-set_other ws i (page_at l y) n 0 (λ z. omega arith))) (r.page y v xs e ev);
    owner = λ y ow e. ⊎_elim
        (λ (t : (y ≡ x) × (o ≡ ow)). let same = t.0 in subst (λ (z : ℕ × Owner). OwnerIs z.0 z.1) (λ k. (sym (get_or-set_at ws i (owner_at l y) n 0 (omega arith) (omega arith)) k, t.1 k)) is)
        (λ (t : (y ≢ x) × (get_elem? s.owners y ≡ some ow)). let other = t.0 in subst (λ (z : ℕ). OwnerIs z ow) (sym (get_or-set_other ws i (owner_at l y) n 0 (λ z. other (omega arith)))) (r.owner y ow t.1)) (at_set s.owners x y o ow e);
    frame = λ g fr e. frame_same l ws (set ws i n) g (get_or-set_other ws i (state_at l g) n 0 (λ z. omega arith)) (λ k small. get_or-set_other ws i (place_at l g k) n 0 (λ z. omega arith)) fr (r.frame g fr e);
  }

  -- time passes
  pub shows_later : (l : Layout) (ws : List ℕ) (s : Pages D) (fs : List Frame) (n : ℕ) → n ≡ s.clock + 1 → Shows l ws s fs → Shows l (set ws 0 n) (later s) fs
  shows_later l ws s fs n up r = let wide = r.wide in record {
    wide = length-set ws 0 n ∙ r.wide;
    frame_total = r.frame_total;
    clock = get_or-set_same ws 0 n 0 (omega arith) ∙ up;
    process = λ q st d below at. subst (λ (z : ℕ). ProcessIs z st) (sym (get_or-set_other ws 0 (process_at l q) n 0 (λ z. omega arith))) (r.process q st d below at);
    page = λ x v xs e ev. subst (λ (z : ℕ). PageIs fs x v z xs) (sym (get_or-set_other ws 0 (page_at l x) n 0 (λ z. omega arith))) (r.page x v xs e ev);
    owner = λ x ow e. subst (λ (z : ℕ). OwnerIs z ow) (sym (get_or-set_other ws 0 (owner_at l x) n 0 (λ z. omega arith))) (r.owner x ow e);
    frame = λ g fr e. frame_same l ws (set ws 0 n) g (get_or-set_other ws 0 (state_at l g) n 0 (λ z. omega arith)) (λ k small. get_or-set_other ws 0 (place_at l g k) n 0 (λ z. omega arith)) fr (r.frame g fr e);
  }

  pub orderly_observed : (l : Layout) (s : Pages D) (q : ℕ) (st : Stage) (d : D) → ((b : ℕ) → st ≡ Running b → b ≤ s.clock) → IsOrderly l s → IsOrderly l (observed s q st d)
  orderly_observed l s q st d low r = record {
    contents = r.contents;
    owners = r.owners;
    versions = r.versions;
    hands = length-set s.hands q (st, d) ∙ r.hands;
    begun = λ n since e at. ⊎_elim (λ (t : (n ≡ q) × ((st, d) ≡ (Running since, e))). low since (ap (λ (z : Stage × D). z.0) t.1)) (λ (t : (n ≢ q) × (get_elem? s.hands n ≡ some (Running since, e))). r.begun n since e t.1) (at_set s.hands q n (st, d) (Running since, e) at);
  }

  pub orderly_owned : (l : Layout) (s : Pages D) (x : ℕ) (o : Owner) → IsOrderly l s → IsOrderly l (owned s x o)
  orderly_owned l s x o r = record { contents = r.contents; owners = length-set s.owners x o ∙ r.owners; versions = r.versions; hands = r.hands; begun = r.begun }

  pub orderly_written : (l : Layout) (s : Pages D) (x w : ℕ) (xs : List ℕ) → IsOrderly l s → IsOrderly l (written_as s x xs w)
  orderly_written l s x w xs r = record { contents = length-set s.contents x xs ∙ r.contents; owners = r.owners; versions = length-set s.versions x w ∙ r.versions; hands = r.hands; begun = r.begun }

  pub orderly_later : (l : Layout) (s : Pages D) → IsOrderly l s → IsOrderly l (later s)
  orderly_later l s r = record { contents = r.contents; owners = r.owners; versions = r.versions; hands = r.hands; begun = λ n since e at. let low = r.begun n since e at in omega arith }

  -- what a sweep knows stays: the hand q goes on with its process, ends it, or begins one by now
  pub swept_observed : (s s' : Pages D) (q : ℕ) (st0 st : Stage) (d0 d : D) (m k : ℕ) → s.clock ≤ s'.clock → Stands s q st0 d0 → s'.hands ≡ set s.hands q (st, d) → ((b : ℕ) → st ≡ Running b → (st0 ≡ Running b) ⊎ (s.clock ≤ b))
      → Swept s m k → Swept s' m k
  swept_observed s s' q st0 st d0 d m k more here same begun is = let past = is.past in record {
    past = omega arith;
    later = λ n b e at low. ⊎_elim
        (λ (t : (n ≡ q) × ((st, d) ≡ (Running b, e))). ⊎_elim
        (λ (was : st0 ≡ Running b). let here' : Stands s q (Running b) d0 = here ∙ ap (λ (z : Stage). some (z, d0)) was in let eq = t.0 in is.later q b d0 here' (omega arith))
        (λ (new : s.clock ≤ b). omega arith) (begun b (ap (λ (z : Stage × D). z.0) t.1)))
        (λ (t : (n ≢ q) × (get_elem? s.hands n ≡ some (Running b, e))). is.later n b e t.1 low)
        (at_set s.hands q n (st, d) (Running b, e) (ap (λ (z : List (Stage × D)). get_elem? z n) (sym same) ∙ at));
  }

pub seal_same : (l : Layout) (ws ws' : List ℕ) (os : List Owner) (q : ℕ) (x : Sealing) → ((y : ℕ) → y < length os → get_or ws' (owner_at l y) 0 ≡ get_or ws (owner_at l y) 0) → Seals l ws os q x → Seals l ws' os q x
seal_same l ws ws' os q Unsealed same is = tt
seal_same l ws ws' os q (Sealed y t) same is = (same y (at_below os y (Retired t) is.1) ∙ is.0, is.1)

-- what a step of the hand q leaves to the others
pub record Goes {D : Type 0} (l : Layout) (ws ws' : List ℕ) (s s' : Pages D) (fs fs' : List Frame) (bs bs' : List ℕ) (q : ℕ) : Type 0 where
  pub clock : s.clock ≤ s'.clock
  pub hands : (k : ℕ) → k ≢ q → get_elem? s'.hands k ≡ get_elem? s.hands k
  pub budgets : (k : ℕ) → k ≢ q → get_elem? bs' k ≡ get_elem? bs k
  pub reads : (j b x v f : ℕ) (d : D) (xs : List ℕ) → Stands s j (Running b) d → j < l.passes → ReadableAs fs b x v f xs → ReadableAs fs' b x v f xs
  pub stocks : (j : ℕ) (ds : List Draft) → j ≢ q → Stocks fs j ds → Stocks fs' j ds
  pub drops : (j : ℕ) (d : Dropping) → j ≢ q → Drops fs j d → Drops fs' j d
  pub seals : (j : ℕ) (x : Sealing) → j ≢ q → Seals l ws s.owners j x → Seals l ws' s'.owners j x
  pub swept : (m k : ℕ) → Swept s m k → Swept s' m k

pub read_later : (clock clock' : ℕ) (st : Stamp) → clock ≤ clock' → IsRead clock st → IsRead clock' st
read_later clock clock' Out more k = tt
read_later clock clock' (Clocked c) more k = omega arith
read_later clock clock' (In b) more k = tt

module _ {D : Type 0} where
  reading_stays : {l : Layout} {ws ws' : List ℕ} {s s' : Pages D} {fs fs' : List Frame} {bs bs' : List ℕ} {q : ℕ} → Goes l ws ws' s s' fs fs' bs bs' q → (j : ℕ) (st : Stamp) (d : D) (rd : Reading) → j < l.passes → Stands s j (stage_of st) d
      → Reads fs st rd → Reads fs' st rd
  reading_stays go j st d Nowhere low stands is = tt
  reading_stays {s = s} go j st d (At f xs) low stands is = let r = is.2 in (is.0, is.1, (r.0, r.1, go.reads j is.0 r.0 r.1 f d xs (subst (λ (z : Stamp). Stands s j (stage_of z) d) is.1 stands) low r.2))

  kept_stay : {l : Layout} {ws ws' : List ℕ} {s s' : Pages D} {fs fs' : List Frame} {bs bs' : List ℕ} {q : ℕ} → Goes l ws ws' s s' fs fs' bs bs' q → (j : ℕ) (st : Stamp) (d : D) (ks : List Look) → j < l.passes → Stands s j (stage_of st) d
      → AreKept fs st ks → AreKept fs' st ks
  kept_stay go j st d [] low stands is = tt
  kept_stay {s = s} go j st d (k ∷ ks) low stands is = let h = is.0 in
      ((h.0, h.1, h.2, go.reads j h.0 k.page k.version k.frame d h.2 (subst (λ (z : Stamp). Stands s j (stage_of z) d) h.1 stands) low h.3), kept_stay go j st d ks low stands is.1)

  pub reads_stay : {l : Layout} {ws ws' : List ℕ} {s s' : Pages D} {fs fs' : List Frame} {bs bs' : List ℕ} {q : ℕ} → Goes l ws ws' s s' fs fs' bs bs' q → (j : ℕ) (st : Stamp) (d : D) (rd : Reading) (ks : List Look) → j < l.passes → Stands s j (stage_of st) d
      → Reads fs st rd × AreKept fs st ks → Reads fs' st rd × AreKept fs' st ks
  reads_stay go j st d rd ks low stands is = (reading_stays go j st d rd low stands is.0, kept_stay go j st d ks low stands is.1)

  pub sweeps_stay : {l : Layout} {ws ws' : List ℕ} {s s' : Pages D} {fs fs' : List Frame} {bs bs' : List ℕ} {q : ℕ} → Goes l ws ws' s s' fs fs' bs bs' q → (sw : Sweep) → SweepIs s sw → SweepIs s' sw
  sweeps_stay go Still is = tt
  sweeps_stay go (Over m k) is = go.swept m k is

  pub knows_stays : {l : Layout} {ws ws' : List ℕ} {s s' : Pages D} {fs fs' : List Frame} {bs bs' : List ℕ} {q : ℕ} (first : D) → Goes l ws ws' s s' fs fs' bs bs' q → (v : View D) → v.number ≢ q → ((k : ℕ) → v.number < k → k < v.upto → k ≢ q)
      → ((k : ℕ) (h : Joined D) → get_elem? v.joined k ≡ some h → h.number ≢ q) → Knows l first ws s fs bs v → Knows l first ws' s' fs' bs' v
  knows_stays {s = s} {s' = s'} first go v other apart taken k = let dealt = k.dealt in let counted = k.counted in record {
    layout = k.layout;
    counted = k.counted;
    dealt = k.dealt;
    stands = go.hands v.number other ∙ k.stands;
    undealt = λ j low high. let was = k.undealt j low high in (go.hands j (apart j low high) ∙ was.0, go.budgets j (apart j low high) ∙ was.1);
    clocked = read_later s.clock s'.clock v.stamp go.clock k.clocked;
    reads = reads_stay go v.number v.stamp v.known v.reading v.kept (omega arith) k.stands k.reads;
    stocks = go.stocks v.number v.stock other k.stocks;
    drops = go.drops v.number v.dropping other k.drops;
    seals = go.seals v.number v.sealing other k.seals;
    sweeps = sweeps_stay go v.sweep k.sweeps;
    budget = go.budgets v.number other ∙ k.budget;
    joined = λ j h at. let was = k.joined j h at in let ne = taken j h at in (go.hands h.number ne ∙ was.0, go.budgets h.number ne ∙ was.1);
  }

  -- what the seat of a step knows after it
  pub record Own (l : Layout) (ws : List ℕ) (s : Pages D) (fs : List Frame) (bs : List ℕ) (v w : View D) : Type 0 where
    pub layout : w.layout ≡ v.layout
    pub number : w.number ≡ v.number
    pub upto : w.upto ≡ v.upto
    pub stands : Stands s v.number (stage_of w.stamp) w.known
    pub clocked : IsRead s.clock w.stamp
    pub reads : Reads fs w.stamp w.reading × AreKept fs w.stamp w.kept
    pub stocks : Stocks fs v.number w.stock
    pub drops : Drops fs v.number w.dropping
    pub seals : Seals l ws s.owners v.number w.sealing
    pub sweeps : SweepIs s w.sweep
    pub budget : get_elem? bs v.number ≡ some (w.puts + w.retires)
    pub joined : w.joined ≡ v.joined

  knows_own : {l : Layout} {ws ws' : List ℕ} {s s' : Pages D} {fs fs' : List Frame} {bs bs' : List ℕ} (first : D) (v w : View D) → Goes l ws ws' s s' fs fs' bs bs' v.number → Own l ws' s' fs' bs' v w → ((k : ℕ) (h : Joined D) → get_elem? v.joined k ≡ some h → h.number ≢ v.number)
      → Knows l first ws s fs bs v → Knows l first ws' s' fs' bs' w
  knows_own {l} {ws' = ws'} {s' = s'} {fs' = fs'} {bs' = bs'} first v w go own taken k = let counted = k.counted in let dealt = k.dealt in let same = own.number in let upto = own.upto in record {
    layout = own.layout ∙ k.layout;
    counted = omega arith;
    dealt = omega arith;
    stands = subst (λ (z : ℕ). Stands s' z (stage_of w.stamp) w.known) (sym own.number) own.stands;
    undealt = λ j low high. let was = k.undealt j (omega arith) (omega arith) in (go.hands j (λ e. omega arith) ∙ was.0, go.budgets j (λ e. omega arith) ∙ was.1);
    clocked = own.clocked;
    reads = own.reads;
    stocks = subst (λ (z : ℕ). Stocks fs' z w.stock) (sym own.number) own.stocks;
    drops = subst (λ (z : ℕ). Drops fs' z w.dropping) (sym own.number) own.drops;
    seals = subst (λ (z : ℕ). Seals l ws' s'.owners z w.sealing) (sym own.number) own.seals;
    sweeps = own.sweeps;
    budget = ap (get_elem? bs') own.number ∙ own.budget;
    joined = λ j h at. let at' : get_elem? v.joined j ≡ some h = ap (λ (z : List (Joined D)). get_elem? z j) (sym own.joined) ∙ at in let was = k.joined j h at' in let ne = taken j h at' in (go.hands h.number ne ∙ was.0, go.budgets h.number ne ∙ was.1);
  }

  apart_stays : (vs : List (View D)) (id : ℕ) (v w : View D) → get_elem? vs id ≡ some v → w.layout ≡ v.layout → w.number ≡ v.number → w.upto ≡ v.upto → w.joined ≡ v.joined → IsApart vs → IsApart (set vs id w)
  apart_stays vs id v w at layout number upto taken r = record {
    hands = λ i j x y at_i at_j live_x live_y other. let a = was i x at_i in let b = was j y at_j in let a2 = a.2 in let a3 = a.3 in let a4 = a.4 in let b2 = b.2 in let b3 = b.3 in let b4 = b.4 in
        ⊎_elim (λ (h : a.0.upto ≤ b.0.number). inl (omega arith)) (λ (h : b.0.upto ≤ a.0.number). inr (omega arith)) (r.hands i j a.0 b.0 a.1 b.1 (omega arith) (omega arith) other);
    joined = λ i j x y at_i at_j live_x live_y k g at_k. let a = was i x at_i in let b = was j y at_j in let a2 = a.2 in let a3 = a.3 in let a4 = a.4 in let b2 = b.2 in let b3 = b.3 in let b4 = b.4 in
        ⊎_elim (λ (h : g.number < b.0.number). inl (omega arith)) (λ (h : b.0.upto ≤ g.number). inr (omega arith)) (r.joined i j a.0 b.0 a.1 b.1 (omega arith) (omega arith) k g (ap (λ (z : List (Joined D)). get_elem? z k) a.5 ∙ at_k));
    taken = λ i j x y at_i at_j live_x live_y k m g h at_k at_m other. let a = was i x at_i in let b = was j y at_j in let a2 = a.2 in let a4 = a.4 in let b2 = b.2 in let b4 = b.4 in
        r.taken i j a.0 b.0 a.1 b.1 (omega arith) (omega arith) k m g h (ap (λ (z : List (Joined D)). get_elem? z k) a.5 ∙ at_k) (ap (λ (z : List (Joined D)). get_elem? z m) b.5 ∙ at_m) other;
  }
    where
      was : (k : ℕ) (z : View D) → get_elem? (set vs id w) k ≡ some z → (u : View D) × (get_elem? vs k ≡ some u) × (u.number ≡ z.number) × (u.upto ≡ z.upto) × (u.layout.passes ≡ z.layout.passes) × (u.joined ≡ z.joined)
      was k z at_k = ⊎_elim
          (λ (t : (k ≡ id) × (w ≡ z)). (v, ap (get_elem? vs) t.0 ∙ at, sym number ∙ ap (λ (m : View D). m.number) t.1, sym upto ∙ ap (λ (m : View D). m.upto) t.1, ap (λ (m : Layout). m.passes) (sym layout) ∙ ap (λ (m : View D). m.layout.passes) t.1, sym taken ∙ ap (λ (m : View D). m.joined) t.1))
          (λ (t : (k ≢ id) × (get_elem? vs k ≡ some z)). (z, t.1, refl, refl, refl, refl)) (at_set vs id k w z at_k)

  -- what some seat has retired, it has after the step of another, or of its own
  pub sealed_on : (vs : List (View D)) (id : ℕ) (v w : View D) → get_elem? vs id ≡ some v → w.sealing ≡ v.sealing → (IsLive v → IsLive w) → (x t : ℕ) → ((j : ℕ) × (u : View D) × (get_elem? vs j ≡ some u) × IsLive u × (u.sealing ≡ Sealed x t))
      → (j : ℕ) × (u : View D) × (get_elem? (set vs id w) j ≡ some u) × IsLive u × (u.sealing ≡ Sealed x t)
  sealed_on vs id v w at same live x t h = dite (ℕ_discrete h.0 id)
      (λ is. let one : v ≡ h.1 = one_there vs id v h.1 at (ap (get_elem? vs) (sym is) ∙ h.2) in (id, w, set_there vs id v w at, live (subst (λ (z : View D). IsLive z) (sym one) h.3), same ∙ (ap (λ (z : View D). z.sealing) one ∙ h.4)))
      (λ ne. (h.0, h.1, set_else vs id h.0 w ne ∙ h.2, h.3, h.4))

  -- the owner words stay, and what the seat of the step has retired
  pub sealing_stays : (l : Layout) (ws ws' : List ℕ) (os : List Owner) (vs : List (View D)) (id : ℕ) (v w : View D) → get_elem? vs id ≡ some v → w.sealing ≡ v.sealing → (IsLive v → IsLive w) → ((x : ℕ) → x < length os → get_or ws' (owner_at l x) 0 ≡ get_or ws (owner_at l x) 0)
      → IsSealing l ws os vs → IsSealing l ws' os (set vs id w)
  sealing_stays l ws ws' os vs id v w at same live owners r x t e = ⊎_elim
      (λ (h : get_or ws (owner_at l x) 0 ≡ 4 * t + 3). inl (owners x (at_below os x (Retired t) e) ∙ h))
      (λ (h : (j : ℕ) × (u : View D) × (get_elem? vs j ≡ some u) × IsLive u × (u.sealing ≡ Sealed x t)). inr (sealed_on vs id v w at same live x t h))
      (r x t e)

  module _ (l : Layout) (first : D) (holds : Pages D → Type 0) where
    abbrev pub St : Type 0
    St = State (Unit {0}) (View D)

    abbrev pub Rule : St → Type 0
    Rule = Kept l first holds

    -- the whole of the rule, after a step of the seat id on the word i
    pub moved : (st : St) (r : Rule st) (i n id : ℕ) (cs : List (ℕ × Unit {0})) (v w : View D) (s' : Pages D) (fs' : List Frame) (bs' : List ℕ) → get_elem? st.views id ≡ some v → IsLive v
        → IsOrderly l s' → Shows l (set st.words i n) s' fs' → Budgeted l.passes s'.clock bs' → Goes l st.words (set st.words i n) r.pages s' r.frames fs' r.budgets bs' v.number
        → Own l (set st.words i n) s' fs' bs' v w → IsSealing l (set st.words i n) s'.owners (set st.views id w) → holds s' → Rule (stepped st i n id cs w keeps)
    moved st r i n id cs v w s' fs' bs' at live orderly shows budgeted go own sealing kept = let here = r.seats id v at live in let a = here.counted in record {
      pages = s';
      frames = fs';
      budgets = bs';
      orderly = orderly;
      shows = shows;
      budgeted = budgeted;
      seats = λ j x at_j live_x. ⊎_elim
          (λ (t : (j ≡ id) × (w ≡ x)). subst (λ (z : View D). Knows l first (set st.words i n) s' fs' bs' z) t.1
          (knows_own first v w go own (λ k h at_k e. ⊎_elim (λ (b : h.number < v.number). omega arith) (λ (b : v.upto ≤ h.number). omega arith) (r.apart.joined id id v v at at live live k h at_k)) here))
          (λ (t : (j ≢ id) × (get_elem? st.views j ≡ some x)). let there = r.seats j x t.1 live_x in let b = there.counted in let between = r.apart.hands j id x v t.1 at live_x live t.0 in
          knows_stays first go x (λ e. ⊎_elim (λ (h : x.upto ≤ v.number). omega arith) (λ (h : v.upto ≤ x.number). omega arith) between) (λ k low high e. ⊎_elim (λ (h : x.upto ≤ v.number). omega arith) (λ (h : v.upto ≤ x.number). omega arith) between)
          (λ k h at_k e. ⊎_elim (λ (c : h.number < v.number). omega arith) (λ (c : v.upto ≤ h.number). omega arith) (r.apart.joined j id x v t.1 at live_x live k h at_k)) there)
          (at_set st.views id j w x at_j);
      apart = apart_stays st.views id v w at own.layout own.number own.upto own.joined r.apart;
      sealing = sealing;
      kept = kept;
    }

    -- the same where no word changes, and no owner
    pub unmoved : (st : St) (r : Rule st) (i id : ℕ) (cs : List (ℕ × Unit {0})) (v w : View D) (s' : Pages D) (bs' : List ℕ) → get_elem? st.views id ≡ some v → IsLive v
        → IsOrderly l s' → Shows l st.words s' r.frames → Budgeted l.passes s'.clock bs' → Goes l st.words st.words r.pages s' r.frames r.frames r.budgets bs' v.number
        → Own l st.words s' r.frames bs' v w → s'.owners ≡ r.pages.owners → w.sealing ≡ v.sealing → holds s' → Rule (stepped st i (get_or st.words i 0) id cs w keeps)
    unmoved st r i id cs v w s' bs' at live orderly shows budgeted go own owners sealing kept = let same : st.words ≡ set st.words i (get_or st.words i 0) = sym (set-get_or st.words i 0) in
        moved st r i (get_or st.words i 0) id cs v w s' r.frames bs' at live orderly (subst (λ (z : List ℕ). Shows l z s' r.frames) same shows) budgeted
        (subst (λ (z : List ℕ). Goes l st.words z r.pages s' r.frames r.frames r.budgets bs' v.number) same go) (subst (λ (z : List ℕ). Own l z s' r.frames bs' v w) same own)
        (subst (λ (z : List ℕ × List Owner). IsSealing l z.0 z.1 (set st.views id w)) (λ k. (same k, sym owners k)) (sealing_stays l st.words st.words r.pages.owners st.views id v w at sealing (λ _. let layout = ap (λ (z : Layout). z.passes) own.layout in let number = own.number in omega arith) (λ x _. refl) r.sealing)) kept
