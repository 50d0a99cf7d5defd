-- Every turn of a write of one key keeps a world good.
use Rattle.std.proofs.Common.{ℕ, ◌≡◌, ◌≢◌, Option, Some, None, List, true, arith, ap, sym, ◌∙◌, refl, subst, inl, inr}
use Rattle.std.proofs.lemmas.Bool.{false≢true}
use Rattle.bl_model.specs.declared.deciding.KeyWrite.{KeyWrite}
use Rattle.bl_model.specs.declared.deciding.Effect.{Effect}
use Rattle.bl_model.specs.declared.deciding.Effect.TheVariants.{Keep, Enter, Remove, Replace}
use Rattle.bl_model.specs.Map.{Map}
use Rattle.bl_model.specs.Writes.{effect_of, effected}
use Rattle.bl_model.proofs.Decisions.{is_decided, may_have, refused_step}
use Rattle.bl_page.specs.declared.page.Page.{Page}
use Rattle.bl_page.specs.Machine.{Name, State, Act}
use Rattle.bl_page.specs.Machine.Act.{Get}
use Rattle.bl_claims.specs.Trails.{Mark}
use Rattle.bl_tree_worlds.proofs.Pushes.{HasSaid-silent}
use Rattle.bl_tree_worlds.specs.Worlds.{HoldsPage, Goes, Know, World, nodes, MapsTo, IsSure, IsGood, silent}
use Rattle.bl_tree_worlds.proofs.Descents.{held_leaf_says, not_released}
use Rattle.bl_tree.proofs.Statuses.{live_live}
use Rattle.bl_proc_steps.specs.declared.acts.Seen.{Seen}
use Rattle.bl_proc_routes.specs.declared.routes.Step.TheVariants.{Here}
use Rattle.bl_proc_steps.specs.declared.approach.Approach.TheVariants as way
use Rattle.bl_proc_steps.specs.declared.edit.Outcome.{Outcome}
use Rattle.bl_proc_steps.specs.declared.edit.Outcome.TheVariants as outcome
use Rattle.bl_proc_steps.specs.declared.edit.Edit.{Edit}
use Rattle.bl_proc_writes.specs.declared.writing.Noted.{Noted}
use Rattle.bl_proc_writes.specs.declared.writing.WriteStage.{WriteStage}
use Rattle.bl_proc_writes.specs.declared.writing.WriteStage.TheVariants as write
use Rattle.bl_proc_writes.specs.declared.writing.WriteReply.TheVariants as written
use Rattle.bl_proc_routes.specs.Routes.{Leads}
use Rattle.bl_answers.specs.Thin.{thin_hint}
use Rattle.bl_proc_writes.specs.Writes.{Performs, write_reply, write_next_in}
use Rattle.bl_proc_invariant.specs.Turns.{event_of, IsObserved, Does, Turned}
use Rattle.bl_proc_invariant.specs.Tables.{unsaid, IsAim, IsBelow, know_approach, know_edit}
use Rattle.bl_proc_invariant.specs.Knowing.{writes, is_change, write_aim, LeavesWrite, know_write, write_got, write_end}
use Rattle.bl_proc_invariant.proofs.Acts.{watched, opened}
use Rattle.bl_proc_invariant.proofs.Approaching.{approach_turn}
use Rattle.bl_proc_invariant.proofs.Editing.{says, edit_turn, finish_turn}
use Rattle.bl_proc_invariant.proofs.Entering.{performs_learns, performs_places, edit_middle}
use Rattle.bl_proc_invariant.proofs.Ends.{begin_turn, end_turn}
use Rattle.bl_proc_deterministic.proofs.WayCases.{edit_case}
use Rattle.bl_proc_deterministic.proofs.KindCases.{WriteCase}

pub write_fine : (goes : List Goes) (key : ℕ) (does : KeyWrite) (noted : Noted) → IsAim (write_aim goes key does noted)
write_fine goes key does noted = record {
  once = λ o. inr (refl, refl);
  changed = changed;
  refused = λ m change h. ((is_decided does noted.there).refused key m (h refl) (λ kept. false≢true (ap is_change (sym kept) ∙ change)), refused_step key does m);
  lists = λ w p x d h l c e f. absurd (omega (arith, e));
}
  where
    changed : (o : Outcome) → o ≢ outcome.Refused → (m m' : Map) → ((◌≡◌ {A = ℕ} 0 0) → (m key ≡ noted.there) × (m' key ≡ effected (effect_of does noted.there) noted.there)) → ((◌≢◌ {A = ℕ} 0 0) → m' key ≡ m key) → ((j : ℕ) → j ≢ key → m' j ≡ m j) → MapsTo m m' (writes key does (write_reply noted o))
    changed outcome.Edited n m m' at up rest = (let is = (is_decided does noted.there).step key m m' (at refl).0 (at refl).1 rest in (is.answer, is.after))
    changed (outcome.SplitAt s) n m m' at up rest = (let is = (is_decided does noted.there).step key m m' (at refl).0 (at refl).1 rest in (is.answer, is.after))
    changed outcome.Refused n m m' at up rest = absurd (n refl)

-- what is decided where all stays
kept_maps : (key : ℕ) (does : KeyWrite) (there : Option ℕ) (m : Map) → m key ≡ there → effect_of does there ≡ Keep → MapsTo m m (writes key does (written.Done there None))
kept_maps key does there m was kept = (let is = (is_decided does there).step key m m was (was ∙ ap (λ e. effected e there) (sym kept)) (λ j n. refl) in (is.answer, is.after))

-- what is performed is a change
performs_change : (effect : Effect) (x : ℕ) (c : Page) (key : ℕ) (edit : Edit) → Performs effect x c key edit → is_change effect ≡ true
performs_change Keep x c key edit e = absurd e
performs_change (Enter value) x c key edit e = refl
performs_change Remove x c key edit e = refl
performs_change (Replace value) x c key edit e = refl

module _ {P : Type 0} (know : P → Know) (w : World P) (g : IsGood know w) (p : Name) (b : P) (goes : List Goes) (key : ℕ) (does : KeyWrite) where
  -- at the leaf, which stays as it is
  keep_turn : (x : ℕ) (there : Option ℕ) (got : ℕ → Page) (s : State Page) → know (w.proc p) ≡ know_approach (unsaid goes) 0 key (way.Latched x) → know b ≡ know_write goes key does got (write.Keeping x there) → Leads (w.now.contents x) key 0 Here → (nodes w.now x).look key ≡ there → effect_of does there ≡ Keep → Does w.now p (Get x) s → Turned know w p (Get x) s b
  keep_turn x there got s before then l look kept does_it =
      let is : IsSure w p (know_approach (unsaid goes) 0 key (way.Latched x)) = rw before at (g.sure p) in
      let said = writes key does (written.Done there None) in
      let m : Mark = record { event = record { process = p; act = Get x }; saw = Some (w.now.contents x); said = said } in
      let held = is.holds.0 in
      let says_map : (nodes w.now x).look key ≡ w.map 0 key = held_leaf_says know w g x key (rw held.status live_live) l.2 l.1 in
      watched know w g p b _ _ before then (Get x) (Some (w.now.contents x)) said s tt (is.stage, not_released know w g p x is.goes.0.may) does_it refl refl (λ y h. h) (λ it e. (is.stage, is.said))
      (kept_maps key does there (w.map 0) (sym says_map ∙ look) kept)
      (record { stage = is.stage; said = says w m is.said; holds = ((does_it.changes.1 x ∙ held.owner, held.status, tt, tt), tt); goes = is.goes.1; children = tt; passed = tt; sound = tt })

  -- at the leaf, which is to change
  change_turn : (x : ℕ) (noted : Noted) (c : Edit) (s : State Page) → know (w.proc p) ≡ know_approach (unsaid goes) 0 key (way.Latched x) → know b ≡ know_edit (write_aim goes key does noted) (λ z. w.now.contents x) c → Leads (w.now.contents x) key 0 Here → (nodes w.now x).look key ≡ noted.there → Performs (effect_of does noted.there) x (w.now.contents x) key c → Does w.now p (Get x) s → Turned know w p (Get x) s b
  change_turn x noted c s before then l look performs does_it =
      let is : IsSure w p (know_approach (unsaid goes) 0 key (way.Latched x)) = rw before at (g.sure p) in
      let held = is.holds.0 in
      let aim = write_aim goes key does noted in
      let effect = effect_of does noted.there in
      let page = w.now.contents x in
      watched know w g p b _ _ before then (Get x) (Some page) None s tt (is.stage, not_released know w g p x is.goes.0.may) does_it refl (edit_middle aim (λ z. page) c)
      (λ y h. elim h [ inl e ↦ subst (λ z. HoldsPage (know_edit aim (λ u. page) c).holds z) e (performs_places aim effect x key page c performs) | inr n ↦ absurd n ]) (λ it e. cc) (λ k. refl)
      (performs_learns w _ p (Get x) (Some page) aim effect x page c (record {
        stage = is.stage;
        said = is.said;
        goes = is.goes.1;
        held = does_it.changes.1 x ∙ held.owner;
        live = held.status;
        is = refl;
        due = record { level = l.2; covers = l.1; was = look; changes = performs_change effect x page key c performs };
        children = tt;
      }) refl (may_have does noted.there) performs)

  -- only the hint of a split leaves a post
  write_leaves : (noted : Noted) (o : Outcome) → (is_change (effect_of does noted.there) ≡ true) × IsBelow (write_aim goes key does noted) o → LeavesWrite does (write_reply noted o)
  write_leaves noted outcome.Edited h = thin_leaves noted.there noted.thin
    where
      thin_leaves : (there thin : Option ℕ) → LeavesWrite does (written.Done there (thin_hint 1 thin))
      thin_leaves there None = tt
      thin_leaves there (Some low) = tt
  write_leaves noted (outcome.SplitAt separator) h = h.1
  write_leaves noted outcome.Refused h = tt

  stay_turn : (x : ℕ) (there : Option ℕ) (got : ℕ → Page) (s : State Page) → know (w.proc p) ≡ know_write goes key does got (write.Keeping x there) → know b ≡ know_write goes key does got (write.Ending (written.Done there None)) → Does w.now p (Act.Open x) s → Turned know w p (Act.Open x) s b
  stay_turn x there got s before then does_it =
      let is : IsSure w p (know_write goes key does got (write.Keeping x there)) = rw before at (g.sure p) in
      opened know w g p b _ _ before then x s is.holds.0.owner does_it (inl is.holds.0.status) refl refl ((λ e. cc, λ e. cc), tt)
      (λ z n h. elim h [ inl e ↦ absurd (n (sym e)) | inr u ↦ absurd u ])
      (record { stage = is.stage; said = HasSaid-silent w.trail (silent p (Act.Open x)) p (writes key does (written.Done there None)) refl is.said; holds = tt; goes = is.goes; children = tt; passed = tt; sound = tt })

  -- every turn of a write
  pub write_turn : {a a' : WriteStage} {what : Seen} → WriteCase key does a what a' → (got : ℕ → Page) (s : State Page) → know (w.proc p) ≡ know_write goes key does got a → know b ≡ know_write goes key does (write_got got a what) a' → IsObserved w.now w.size (write_next_in a) what → Does w.now p (event_of (write_end does a) (write_next_in a) what) s → Turned know w p (event_of (write_end does a) (write_next_in a) what) s b
  write_turn (WriteCase.Began a t) got s before then observed does_it = begin_turn know w g p b (unsaid goes) key s before (rw t at then) does_it
  write_turn (WriteCase.Came a what a' t) got s before then observed does_it = approach_turn know w g p b (unsaid goes) 0 key a a' what s (omega arith) before then t observed does_it
  write_turn (WriteCase.Kept x c y there l t) got s before then observed does_it = keep_turn x there (λ z. c) s before (rw t.0 at then) (rw observed at l) (rw observed at t.1) t.2 does_it
  write_turn (WriteCase.Changed x c noted d l t) got s before then observed does_it =
      change_turn x noted d s before (subst (λ z. know b ≡ know_edit (write_aim goes key does noted) (λ u. z) d) observed then) (rw observed at l) (rw observed at t.0) (rw observed at t.1) does_it
  write_turn (WriteCase.Opened x there r t) got s before then observed does_it = stay_turn x there got s before (rw t at then) does_it
  write_turn (WriteCase.Edited noted c what same d t) got s before then observed does_it =
      edit_turn know w g p b (write_aim goes key does noted) (write_fine goes key does noted) got (edit_case c what _ t.1) s before (subst (λ z. know b ≡ know_edit (write_aim goes key does z) got d) t.0 then) observed does_it
  write_turn (WriteCase.Finished noted c what r (o, t, same)) got s before then observed does_it =
      finish_turn know w g p b (write_aim goes key does noted) (write_fine goes key does noted) got (edit_case c what _ t) (LeavesWrite does (write_reply noted o)) s before (subst (λ z. know b ≡ know_write goes key does got (write.Ending z)) same then) (write_leaves noted o) does_it
  write_turn (WriteCase.Ended r last t) got s before then observed does_it = end_turn know w g p b (writes key does r) goes (LeavesWrite does r) s before (rw t at then) does_it
