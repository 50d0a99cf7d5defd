-- A write at its leaf.
use Rattle.std.proofs.Common.{ℕ, Bool, true, false, ◌≡◌, ◌<◌, ◌≤◌, ◌+◌, ◌*◌, List, Option, Some, None, length, get_or, refl, sym, ap, ◌∙◌, subst, arith}
use Rattle.std.specs.Prelude.{IsSome}
use Rattle.bl_model.specs.Rows.{map_of}
use Rattle.bl_model.specs.Writes.{MayHave, effect_of}
use Rattle.bl_model.specs.declared.deciding.KeyWrite.{KeyWrite}
use Rattle.bl_model.specs.declared.deciding.Effect.{Effect}
use Rattle.bl_model.specs.declared.deciding.Effect.TheVariants.{Keep, Enter, Remove, Replace}
use Rattle.bl_model.proofs.Decisions.{may_have}
use Rattle.bl_page.specs.declared.page.Page.{Page}
use Rattle.bl_page.specs.declared.page.Page.TheVariants as page
use Rattle.bl_page.specs.Pairs.{place}
use Rattle.bl_page.specs.Faults.{count_in, pairs_of as pairs_in_words}
use Rattle.bl_page.specs.Words.{words_of}
use Rattle.bl_page.specs.Nodes.{IsTreePage}
use Rattle.bl_rearrange.specs.Entered.{dropped, replaced}
use Rattle.bl_rearrange.specs.Rearranged.{pairs_of, KeepsFrame}
use Rattle.bl_rearrange.proofs.EnteredLemmas.{RisesFrom-dropped, map_of-dropped, RisesFrom-replaced, map_of-replaced}
use Rattle.bl_proc_steps.specs.declared.acts.Action.TheVariants as act
use Rattle.bl_proc_steps.specs.declared.acts.Seen.TheVariants as seen
use Rattle.bl_proc_steps.specs.declared.approach.Approach.TheVariants as approach
use Rattle.bl_proc_steps.specs.declared.edit.Edit.{Edit}
use Rattle.bl_proc_steps.specs.declared.edit.Edit.TheVariants as edit
use Rattle.bl_proc_steps.specs.declared.edit.Full.{Full}
use Rattle.bl_proc_steps.specs.declared.edit.Outcome.{Outcome}
use Rattle.bl_proc_steps.specs.declared.edit.Outcome.TheVariants as outcome
use Rattle.bl_proc_routes.specs.WordEdits.{words_by}
use Rattle.bl_answers.specs.Thin.{thin_low}
use Rattle.bl_proc_routes.proofs.Spellings.{tree_lists, pairs_counted}
use Rattle.bl_proc_writes.specs.declared.writing.Noted.{Noted}
use Rattle.bl_proc_writes.specs.declared.writing.WriteStage.{WriteStage}
use Rattle.bl_proc_writes.specs.declared.writing.WriteStage.TheVariants as write
use Rattle.bl_proc.specs.declared.kinds.Proc.{Proc}
use Rattle.bl_proc.specs.Processes.{next_of}
use Rattle.bl_proc_writes.specs.declared.writing.WriteReply.TheVariants.{Done, NoRoom}
use Rattle.bl_answers.specs.Thin.{thin_hint}
use Rattle.bl_proc_writes.specs.Writes.{thin_by, Performs, WriteGoes}
use Rattle.bl_answers.specs.Hints.{post_hint}
use Rattle.bl_proc_deterministic.specs.Courses.{GoesOn}
use Rattle.bl_proc_deterministic.proofs.Pages.{without_some, value_some, rising}
use Rattle.bl_proc_deterministic.proofs.Edits.{enter_one}
use Rattle.bl_proc_deterministic.proofs.Leaves.{leaf_covers, leaf_lists, leaf_holds, leaf_loses, leaf_has}
use Rattle.atomic_table.specs.declared.shared.Seat.{Seat}
use Rattle.bl_store_rule.specs.declared.view.View.{View}
use Rattle.bl_store.specs.Drafts.{IsSplice}
use Rattle.bl_store.specs.Hands.{known, read_words, HasNoStock, IsSameHand, IsSameRefusal, WasRefused}
use Rattle.bl_store.specs.declared.put.Splice.{Splice}
use Rattle.bl_store.specs.declared.store.Hand.{Hand}
use Rattle.bl_index_rule.specs.declared.known.PassState.{PassState}
use Rattle.bl_index_rule.specs.Observed.{Goes}
use Rattle.bl_index_events.specs.declared.tree.Tree.{Tree}
use Rattle.bl_index_events.specs.Held.{own_marks, KeepsLatch}
use Rattle.bl_index_events.specs.Refused.{LacksForEffect}
use Rattle.bl_index_events.specs.Rooms.{LacksWrite}
use Rattle.bl_index_events.specs.Runs.{IsOn, IsSameProcess, Runs, OpensTo}
use Rattle.bl_index_events.proofs.Held.{goes_keeps, keeps_both, put_latches_not}
use Rattle.bl_index_events.proofs.Rooms.{lacks_frame, lacks_on, refused_on}
use Rattle.bl_index_events.proofs.Standing.{put_gave, goes_to, same_goes, same_all, course_at, on_held}
use Rattle.bl_index_descend.specs.Events.{IsThere}
use Rattle.bl_index_edit.specs.Events.{outcome_by, IsAtLeaf, IsToEnter, LeavesLeaf}
use Rattle.bl_index_edit.specs.declared.writers.Left.{Left}
use Rattle.bl_index_edit.specs.declared.writers.Left.TheVariants.{Kept, Changed, Split, Refused}
use Rattle.bl_index_edit.specs.Writers.{IsAtWork, IsWriter, left_reply, left_by}
use Rattle.bl_index_edit.proofs.Walked.{enters_putting, enters_taking}
use Rattle.bl_proc_deterministic.proofs.Spelling.{spelled}
use Rattle.bl_index_edit.proofs.Spreading.{spread_entered}

-- a page that keeps its frame stays a leaf or an inner page
frame_tree : (c p : Page) → KeepsFrame c p → IsTreePage p
frame_tree (page.Leaf c) (page.Leaf p) f = tt
frame_tree (page.Inner c) (page.Inner p) f = tt
frame_tree (page.Leaf c) (page.Anchor p) f = absurd f
frame_tree (page.Leaf c) (page.Inner p) f = absurd f
frame_tree (page.Leaf c) (page.Dead p) f = absurd f
frame_tree (page.Inner c) (page.Anchor p) f = absurd f
frame_tree (page.Inner c) (page.Leaf p) f = absurd f
frame_tree (page.Inner c) (page.Dead p) f = absurd f
frame_tree (page.Anchor c) p f = absurd f
frame_tree (page.Dead c) p f = absurd f

some_of : {A : Type 0} (o : Option A) → IsSome o → (a : A) × (o ≡ Some a)
some_of None h = absurd cc
some_of (Some a) h = (a, refl)

-- what is noted of a leaf that is not to lose a pair
abbrev pub unthinned : Option ℕ → Noted
unthinned there = record { there = there; thin = None }

-- where the write stands that has got its leaf
module _ (key : ℕ) (does : KeyWrite) (staged : WriteStage → Proc) (opened : Left → Proc) (w : IsWriter key does staged opened) (at : ℕ) (there : Option ℕ) (words : List ℕ) (d : PassState) (h : IsAtLeaf key staged at there words d) where
  abbrev leaf : Page
  leaf = h.here.page

  stands : (stage : WriteStage) → IsAtWork stage → WriteGoes key does (write.Coming (approach.Latched at)) (seen.Words leaf) stage → d.state ≡ staged stage
  stands stage after goes =
      let course = w.courses (write.Coming (approach.Latched at)) (seen.Words leaf) tt tt in
      course.only d.state h.here.takes ∙ sym (course.only (staged stage) (w.goes (write.Coming (approach.Latched at)) stage (seen.Words leaf) tt after goes))

  pub stands_keeping : effect_of does there ≡ Keep → d.state ≡ staged (write.Keeping at there)
  stands_keeping e = stands (write.Keeping at there) tt (at, leaf, (refl, refl, h.here.leads), (refl, h.lists, e))

  stands_changing : (effect : Effect) (c : Edit) → effect_of does there ≡ effect → Performs effect at leaf key c → d.state ≡ staged (write.Editing (record { there = there; thin = thin_by effect c }) c)
  stands_changing effect c e performs =
      subst (λ z. d.state ≡ staged (write.Editing (record { there = there; thin = thin_by z c }) c)) e
      (stands (write.Editing (record { there = there; thin = thin_by (effect_of does there) c }) c) tt (at, leaf, (refl, refl, h.here.leads), (h.lists, subst (λ z. Performs z at leaf key c) (sym e) performs, refl)))

  may : (effect : Effect) → effect_of does there ≡ effect → MayHave effect there
  may effect e = subst (λ z. MayHave z there) e (may_have does there)

  present : IsSome there → IsSome (map_of (pairs_of leaf) key)
  present some = leaf_has leaf key 0 h.here.leads (subst IsSome (sym h.lists) some)

  -- a pair enters its leaf
  pub stands_entering : (value : ℕ) → effect_of does there ≡ Enter value → (c : Edit) × IsToEnter at key value words c × (d.state ≡ staged (write.Editing (unthinned there) c))
  stands_entering value e =
      let covers = leaf_covers leaf key 0 h.here.leads in
      let none = leaf_lists leaf key (h.lists ∙ may (Enter value) e) in
      let fits = leaf_holds leaf key value h.here.leads in
      let one = enter_one at leaf key value covers none fits in
      (one.new, record { page = leaf; tree = h.here.leads.0; is = h.here.is; covers = covers; absent = none; fits = fits; enters = one.goes }, stands_changing (Enter value) one.new e one.goes)

  pub stands_removing : effect_of does there ≡ Remove → (p : Page) × IsTreePage p × IsSome (map_of (pairs_of leaf) key) × (words_of p ≡ words_by leaf (dropped key (pairs_of leaf))) × (d.state ≡ staged (write.Editing (record { there = there; thin = thin_low p }) (edit.Putting at p)))
  stands_removing e =
      let without = without_some leaf key (leaf_covers leaf key 0 h.here.leads) (leaf_loses leaf key h.here.leads) in
      let words = spelled leaf without.0 (dropped key (pairs_of leaf)) without.1.frame (RisesFrom-dropped key 0 (pairs_of leaf) (rising leaf)) (λ j. without.1.pairs j ∙ sym (map_of-dropped key 0 (pairs_of leaf) (rising leaf) j)) in
      (without.0, frame_tree leaf without.0 without.1.frame, present (may Remove e), words, stands_changing Remove (edit.Putting at without.0) e (refl, without.1))

  pub stands_replacing : (value : ℕ) → effect_of does there ≡ Replace value → (p : Page) × IsSome (map_of (pairs_of leaf) key) × (words_of p ≡ words_by leaf (replaced key value (pairs_of leaf))) × (d.state ≡ staged (write.Editing (unthinned there) (edit.Putting at p)))
  stands_replacing value e =
      let some = present (may (Replace value) e) in
      let old = some_of (map_of (pairs_of leaf) key) some in
      let with_value = value_some leaf key value some (leaf_holds leaf key value h.here.leads) in
      let words = spelled leaf with_value.0 (replaced key value (pairs_of leaf)) with_value.1.frame (RisesFrom-replaced key value 0 (pairs_of leaf) (rising leaf)) (λ j. with_value.1.pairs j ∙ sym (map_of-replaced key value old.0 (pairs_of leaf) old.1 j)) in
      (with_value.0, some, words, stands_changing (Replace value) (edit.Putting at with_value.0) e (refl, with_value.1))

-- it opens its leaf
module _ (key : ℕ) (does : KeyWrite) (staged : WriteStage → Proc) (opened : Left → Proc) (w : IsWriter key does staged opened) (at : ℕ) where
  opens : (stage : WriteStage) (left : Left) (state : Proc) → state ≡ staged stage → OpensTo (staged stage) at (opened left) → OpensTo state at (opened left)
  opens stage left state is = subst (λ (z : Proc). OpensTo z at (opened left)) (sym is)

  pub opens_kept : (there : Option ℕ) (state : Proc) → state ≡ staged (write.Keeping at there) → OpensTo state at (opened (Kept there))
  opens_kept there state is = opens (write.Keeping at there) (Kept there) state is record {
    act = w.acts (write.Keeping at there) tt;
    course = w.courses (write.Keeping at there) seen.Done tt tt;
    opened = w.kept at there;
  }

  module _ (noted : Noted) where
    -- with what it leaves by what became of the leaf
    pub opens_changed : (o : Outcome) (left : Left) (state : Proc) → left ≡ left_by noted o → state ≡ staged (write.Editing noted (edit.Opening at o)) → OpensTo state at (opened left)
    opens_changed o left state e is = subst (λ (z : Left). OpensTo state at (opened z)) (sym e) (opens (write.Editing noted (edit.Opening at o)) (left_by noted o) state is record {
      act = w.acts (write.Editing noted (edit.Opening at o)) tt;
      course = w.courses (write.Editing noted (edit.Opening at o)) seen.Done tt tt;
      opened = w.changed noted at o;
    })

    pub puts_next : (p : Page) (state : Proc) → state ≡ staged (write.Editing noted (edit.Putting at p)) → next_of state ≡ act.Put at p
    puts_next p state is = ap next_of is ∙ w.acts (write.Editing noted (edit.Putting at p)) tt

    pub put_courses : (p : Page) (state : Proc) → state ≡ staged (write.Editing noted (edit.Putting at p)) → GoesOn state seen.Done × GoesOn state seen.Refused
    put_courses p state is =
        let put = write.Editing noted (edit.Putting at p) in
        (course_at seen.Done _ _ is (w.courses put seen.Done tt tt), course_at seen.Refused _ _ is (w.courses put seen.Refused tt refl))

    pub stands_opening : (p : Page) (b : Bool) (d e : PassState) → d.state ≡ staged (write.Editing noted (edit.Putting at p)) → Goes (put_gave b) d e → e.state ≡ staged (write.Editing noted (edit.Opening at (outcome_by b)))
    stands_opening p true d e is goes = goes_to seen.Done d e _ _ goes is (w.goes (write.Editing noted (edit.Putting at p)) (write.Editing noted (edit.Opening at outcome.Edited)) seen.Done tt tt (refl, refl))
    stands_opening p false d e is goes = goes_to seen.Refused d e _ _ goes is (w.goes (write.Editing noted (edit.Putting at p)) (write.Editing noted (edit.Opening at outcome.Refused)) seen.Refused tt tt (refl, refl))

-- The words of its leaf have been looked at, so that it knows what that lists.
pub at_leaf : (key : ℕ) (staged : WriteStage → Proc) (at : ℕ) (h one two last : Hand PassState) (there : Option ℕ) → one ≡ h → two ≡ one → last ≡ two → IsThere 0 key (staged (write.Coming (approach.Latched at))) (read_words h.seat) (known h.seat) → there ≡ map_of (pairs_in_words (read_words two.seat)) key → IsAtLeaf key staged at there (read_words last.seat) (known last.seat)
at_leaf key staged at h one two last there e f g here listed =
    let row = listed ∙ (ap (λ (z : Hand PassState). map_of (pairs_in_words (read_words z.seat)) key) (f ∙ e) ∙ ap (λ (look : ℕ → Option ℕ). look key) (tree_lists here.page (read_words h.seat) here.leads.0 here.is)) in
    subst (λ (z : Hand PassState). IsAtLeaf key staged at there (read_words z.seat) (known z.seat)) (sym (g ∙ (f ∙ e))) (record { here = here; lists = sym row })

-- a pair enters only where the key is not listed
pub entering_none : (key : ℕ) (does : KeyWrite) (staged : WriteStage → Proc) (at : ℕ) (there : Option ℕ) (words : List ℕ) (d : PassState) (value : ℕ) → effect_of does there ≡ Enter value → IsAtLeaf key staged at there words d → IsAtLeaf key staged at None words d
entering_none key does staged at there words d value e h = subst (λ z. IsAtLeaf key staged at z words d) (subst (λ z. MayHave z there) e (may_have does there)) h

-- where a pair is to enter it
module _ (key : ℕ) (does : KeyWrite) (staged : WriteStage → Proc) (opened : Left → Proc) (w : IsWriter key does staged opened) (at : ℕ) (words : List ℕ) (d : PassState) (h : IsAtLeaf key staged at None words d) where
  -- with room, by its words changed so
  pub enters_spread : (s : Splice) → effect_of does None ≡ Enter (get_or s.words 1 0) → count_in words < 14 → s.head ≡ get_or words 0 0 + 1 → s.at ≡ 4 + 2 * place key (pairs_in_words words) → get_or s.words 0 0 ≡ key
      → (p : Page) × IsSplice s words (words_of p) × (d.state ≡ staged (write.Editing (unthinned None) (edit.Putting at p)))
  enters_spread s e room head there same =
      let value : ℕ = get_or s.words 1 0 in
      let stands = stands_entering key does staged opened w at None words d h value e in
      let enter = stands.1 in
      let few : length (pairs_of enter.page) < 14 = omega (arith, pairs_counted enter.page words enter.tree enter.is, room) in
      let put = enters_putting at key value words stands.0 enter few in
      let head_is = head ∙ ap (λ (w : List ℕ). get_or w 0 0 + 1) enter.is in
      let at_is = there ∙ ap (λ (w : List ℕ). 4 + 2 * place key (pairs_in_words w)) enter.is in (
        put.0,
        subst (λ (w : List ℕ). IsSplice s w (words_of put.0)) (sym enter.is) (spread_entered s enter.page put.0 key value enter.tree few put.1 head_is at_is same refl),
        stands.2 ∙ ap (λ (z : Edit). staged (write.Editing (unthinned None) z)) put.2,
      )

  -- with none, by a split
  pub enters_full : (value : ℕ) → effect_of does None ≡ Enter value → 14 ≤ count_in words → (f : Full) × (f.at ≡ at) × (f.key ≡ key) × (f.word ≡ value) × (words ≡ words_of f.page) × (d.state ≡ staged (write.Editing (unthinned None) (edit.Taking f)))
  enters_full value e full =
      let stands = stands_entering key does staged opened w at None words d h value e in
      let enter = stands.1 in
      let many : 14 ≤ length (pairs_of enter.page) = omega (arith, pairs_counted enter.page words enter.tree enter.is, full) in
      let take = enters_taking at key value words stands.0 enter many in
      (take.0, take.1, take.2, take.3, take.4, stands.2 ∙ ap (λ (z : Edit). staged (write.Editing (unthinned None) z)) take.5)

refused_by : (b : Bool) → outcome_by b ≡ outcome.Refused → b ≡ false
refused_by true e = absurd (let f : outcome.Edited ≡ outcome.Refused = e in cc)
refused_by false e = refl

abbrev H : Type 0
H = Seat (Unit {0}) (View PassState)

pub left_refused : (noted : Noted) (o : Outcome) → left_by noted o ≡ Refused → o ≡ outcome.Refused
left_refused noted outcome.Edited e = absurd (let f : Changed noted ≡ Refused = e in cc)
left_refused noted (outcome.SplitAt k) e = absurd (let f : Split noted.there k ≡ Refused = e in cc)
left_refused noted outcome.Refused e = refl

-- its leaf was to be put, and it has opened it
pub leaves_put : (tree : Tree) (key : ℕ) (does : KeyWrite) (staged : WriteStage → Proc) (opened : Left → Proc) (w : IsWriter key does staged opened) (at : ℕ) (noted : Noted) (p : Page) (b : Bool) (h m : H) (hand : Hand PassState) (left : Left) → IsOn tree.store.layout (known h) (staged (write.Editing noted (edit.Putting at p))) → IsSameHand h m → Goes (put_gave b) (known h) (known m) → (b ≡ false → WasRefused m 0 1)
    → IsSameHand m hand.seat → HasNoStock hand.seat → Runs tree hand (opened left) → IsSameProcess (known m) (known hand.seat) → IsSameRefusal m hand.seat → KeepsLatch (known m) (known hand.seat) → left ≡ left_by noted (outcome_by b) → LeavesLeaf tree h hand opened key does left
leaves_put tree key does staged opened w at noted p b h m hand left on same goes asked same' empty runs since refusal keeps e = record {
  same = (same'.0 ∙ same.0, same'.1 ∙ same.1, same'.2 ∙ same.2);
  empty = empty;
  runs = runs;
  since = same_all (known h) (known m) (known hand.seat) (same_goes (put_gave b) (known h) (known m) goes) since;
  no_room = λ none.
      let was = asked (refused_by b (left_refused noted (outcome_by b) (sym e ∙ none))) in
      let stage = write.Editing noted (edit.Putting at p) in
      let latch = keeps_both (known h) (known m) (known hand.seat) (goes_keeps (put_gave b) (known h) (known m) goes (put_latches_not (known h) _ at p on.state (w.acts stage tt))) keeps in
      lacks_frame key does noted.there at p (known h) hand.seat (w.held stage (own_marks (known h)) tt (on_held tree.store.layout (known h) _ on)) latch (refused_on m hand.seat 0 1 refusal was);
}

pub refused_reply : (left : Left) → left_reply left ≡ NoRoom → left ≡ Refused
refused_reply (Kept there) e = absurd (let f : Done there None ≡ NoRoom = e in cc)
refused_reply (Changed noted) e = absurd (let f : Done noted.there (thin_hint 1 noted.thin) ≡ NoRoom = e in cc)
refused_reply (Split there k) e = absurd (let f : Done there (post_hint 1 (Some k)) ≡ NoRoom = e in cc)
refused_reply Refused e = refl

lacks_still : (effect : Effect) (key : ℕ) (h h' : H) → IsSameRefusal h h' → KeepsLatch (known h) (known h') → LacksForEffect effect key (own_marks (known h)) (WasRefused h) → LacksForEffect effect key (own_marks (known h')) (WasRefused h')
lacks_still Keep key h h' same latch lacks = absurd lacks
lacks_still (Enter value) key h h' same latch lacks = lacks_on 0 key h h' same latch lacks
lacks_still Remove key h h' same latch was = refused_on h h' 0 1 same was
lacks_still (Replace value) key h h' same latch was = refused_on h h' 0 1 same was

-- and lacks what it lacked
pub lacks_same : (key : ℕ) (does : KeyWrite) (h h' : H) → IsSameRefusal h h' → KeepsLatch (known h) (known h') → LacksWrite key does h → LacksWrite key does h'
lacks_same key does h h' same latch lacks = (lacks.0, lacks_still (effect_of does lacks.0) key h h' same latch lacks.1)
