-- What a write of one key has put, and one event more: what is told of it in the next state.
use Rattle.std.proofs.Common.{ℕ, ◌≡◌, ◌++◌, Option, [], ◌∷◌, None, Some, ap, sym, refl, subst}
use Rattle.bl_page.specs.declared.page.Page.{Page}
use Rattle.bl_page.specs.declared.machine.Missed.TheVariants as missed
use Rattle.bl_page.specs.Machine.Act.{Put, Take, Miss}
use Rattle.bl_page.specs.Machine.{Act}
use Rattle.bl_claims.specs.Trails.{Mark, Trail}
use Rattle.bl_claims.specs.Meanings.{writes_in, Unwritten, WroteHeld, WritesBack}
use Rattle.bl_tree_worlds.proofs.Meant.{unwritten_now, none_written, unwritten_on, latched_unwritten, latched_now, held_writes, held_still}
use Rattle.bl_proc_steps.specs.declared.acts.Seen.{Seen}
use Rattle.bl_proc_steps.specs.declared.approach.Approach.{Approach}
use Rattle.bl_proc_steps.specs.declared.approach.Approached.TheVariants as came
use Rattle.bl_proc_steps.specs.declared.edit.Outcome.{Outcome}
use Rattle.bl_proc_steps.specs.declared.edit.Outcome.TheVariants as outcome
use Rattle.bl_proc_steps.specs.declared.edit.Edit.{Edit}
use Rattle.bl_proc_steps.specs.declared.edit.Edit.TheVariants as edit
use Rattle.bl_proc_steps.specs.declared.edit.Edited.TheVariants as changed
use Rattle.bl_proc_steps.specs.Approaches.{approach_next, Approaches}
use Rattle.bl_proc_steps.specs.Edits.{edit_next}
use Rattle.bl_model.specs.declared.deciding.KeyWrite.{KeyWrite}
use Rattle.bl_model.specs.declared.deciding.Effect.{Effect}
use Rattle.bl_model.specs.declared.deciding.Effect.TheVariants.{Keep, Enter, Remove, Replace}
use Rattle.bl_model.specs.Writes.{effect_of}
use Rattle.bl_answers.specs.declared.answers.Hint.{Hint}
use Rattle.bl_proc_writes.specs.declared.writing.Noted.{Noted}
use Rattle.bl_proc_writes.specs.declared.writing.WriteReply.{WriteReply}
use Rattle.bl_proc_writes.specs.declared.writing.WriteReply.TheVariants as written
use Rattle.bl_proc_writes.specs.declared.writing.WriteStage.{WriteStage}
use Rattle.bl_proc_writes.specs.declared.writing.WriteStage.TheVariants as write
use Rattle.bl_answers.specs.Thin.{thin_hint}
use Rattle.bl_proc_writes.specs.Writes.{Performs, thin_by, write_reply, write_next_in}
use Rattle.bl_answers.specs.Hints.{post_hint}
use Rattle.bl_proc_invariant.specs.Turns.{event_of}
use Rattle.bl_claims.specs.Hinted.{WroteLeaf}
use Rattle.bl_proc_invariant.specs.Logs.{way_log, put_log, entry_log, IsAsNoted, MaySplit, effect_log, written_log, write_log}
use Rattle.bl_proc_invariant.specs.Knowing.{write_end}
use Rattle.bl_proc_invariant.proofs.Holdings.{cut_low}
use Rattle.bl_proc_invariant.proofs.Logging.{way_stays, way_goes}
use Rattle.bl_proc_deterministic.proofs.WayCases.{EditCase, edit_case}
use Rattle.bl_proc_deterministic.proofs.KindCases.{WriteCase}

module _ (marks : Trail) (m : Mark) where
  abbrev more : Trail
  more = marks ++ m ∷ []

  -- a mark that writes nothing
  module _ (quiet : writes_in m.event.act ≡ []) where
    pub leaf_stays : (separator : Option ℕ) → WroteLeaf separator marks → WroteLeaf separator more
    leaf_stays separator h = (h.0, h.1, h.2, held_still marks m quiet h.3, h.4)

    outcome_stays : (Whole : Page → Type 0) (Parts : Type 0) (o : Outcome) → put_log Whole Parts o marks → put_log Whole Parts o more
    outcome_stays Whole Parts outcome.Edited h = (h.0, h.1, held_still marks m quiet h.2, h.3)
    outcome_stays Whole Parts (outcome.SplitAt separator) h = (leaf_stays (Some separator) h.0, h.1)
    outcome_stays Whole Parts outcome.Refused h = unwritten_on marks m quiet h

    entry_stays : (Whole : Page → Type 0) (Parts : Type 0) (c : Edit) → entry_log Whole Parts c marks → entry_log Whole Parts c more
    entry_stays Whole Parts (edit.Putting x page) h = (held_still marks m quiet h.0, h.1)
    entry_stays Whole Parts (edit.Taking full) h = (held_still marks m quiet h.0, h.1)
    entry_stays Whole Parts (edit.PuttingNew p) h = (held_still marks m quiet h.0, h.1, h.2)
    entry_stays Whole Parts (edit.PuttingOld p) h = (held_still marks m quiet h.0, h.1, h.2)
    entry_stays Whole Parts (edit.OpeningNew x new separator) h = outcome_stays Whole Parts (outcome.SplitAt separator) h
    entry_stays Whole Parts (edit.Opening x o) h = outcome_stays Whole Parts o h

    effect_stays : (e : Effect) (hint : Option Hint) → effect_log e hint marks → effect_log e hint more
    effect_stays Keep hint h = (unwritten_on marks m quiet h.0, h.1)
    effect_stays (Enter value) hint h = (h.0, leaf_stays h.0 h.1, h.2)
    effect_stays Remove hint h = (h.0, h.1, held_still marks m quiet h.2, h.3)
    effect_stays (Replace value) hint h = (h.0, h.1, held_still marks m quiet h.2, h.3)

    pub written_stays : (does : KeyWrite) (r : WriteReply) → written_log does r marks → written_log does r more
    written_stays does (written.Done there hint) h = effect_stays (effect_of does there) hint h
    written_stays does written.NoRoom h = unwritten_on marks m quiet h

    way_still : (a : Approach) → way_log a marks → way_log a more
    way_still a h = way_stays (unwritten_on marks m quiet) (λ x k. held_still marks m quiet k) a h

    pub write_stays : (does : KeyWrite) (a : WriteStage) → write_log does a marks → write_log does a more
    write_stays does write.New h = none_written marks m quiet h
    write_stays does (write.Coming a) h = way_still a h
    write_stays does (write.Keeping x there) h = (unwritten_on marks m quiet h.0, h.1)
    write_stays does (write.Editing noted c) h = entry_stays (IsAsNoted (effect_of does noted.there) noted) (MaySplit (effect_of does noted.there)) c h
    write_stays does (write.Ending r) h = written_stays does r h
    write_stays does (write.Over r) h = written_stays does r h

  -- on the way
  coming_on : (key : ℕ) (a b : Approach) (what : Seen) → Approaches 0 key a what (came.On b) → m.event.act ≡ event_of None (approach_next a) what → way_log a marks → way_log b more
  coming_on key a b what t did h = way_goes m 0 key (λ x k. latched_unwritten k) (unwritten_on marks m) (λ x e u. latched_now marks m e u) a b what t did h

  -- a change
  module _ (Whole : Page → Type 0) (Parts : Type 0) where
    opened : (x : ℕ) (o : Outcome) → m.event.act ≡ Act.Open x → put_log Whole Parts o marks → put_log Whole Parts o more
    opened x o did h = outcome_stays (ap writes_in did) Whole Parts o h

    refused : {x : ℕ} → m.event.act ≡ Miss missed.Reservation → WroteHeld marks x [] → Unwritten more
    refused did h = unwritten_on marks m (ap writes_in did) (latched_unwritten h)

    entry_on : {c d : Edit} {what : Seen} → EditCase c what (changed.On d) → m.event.act ≡ event_of None (edit_next c) what → entry_log Whole Parts c marks → entry_log Whole Parts d more
    entry_on (EditCase.Put x page d t) did h = subst (λ z. entry_log Whole Parts z more) (sym t) (x, page, held_writes marks m (Put x page ∷ []) (ap writes_in did) h.0, h.1)
    entry_on (EditCase.PutRefused x page d t) did h = subst (λ z. entry_log Whole Parts z more) (sym t) (refused did h.0)
    entry_on (EditCase.Took full n p t) did h =
        let took : WroteHeld more full.at (Take n ∷ []) = held_writes marks m (Take n ∷ []) (ap writes_in did) h.0 in
        (rw (t.0, t.1) took, cut_low full.page p.left p.right full.key full.word n p.separator t.2, h.1)
    entry_on (EditCase.TakeRefused full d t) did h = subst (λ z. entry_log Whole Parts z more) (sym t) (refused did h.0)
    entry_on (EditCase.PutNew p d t) did h = subst (λ z. entry_log Whole Parts z more) (sym t) (held_writes marks m (Put p.new p.right ∷ []) (ap writes_in did) h.0, h.1, h.2)
    entry_on (EditCase.PutOld p d t) did h =
        let leaf : WroteLeaf (Some p.separator) more = (
          p.at,
          Take p.new ∷ Put p.new p.right ∷ Put p.at p.left ∷ [],
          p.right ∷ p.left ∷ [],
          held_writes marks m (Put p.at p.left ∷ []) (ap writes_in did) h.0,
          WritesBack.Split p.new p.separator p.right p.left h.1,
        ) in
        subst (λ z. entry_log Whole Parts z more) (sym t) (leaf, h.2)
    entry_on (EditCase.OpenedNew x new separator d t) did h = subst (λ z. entry_log Whole Parts z more) (sym t) (opened new (outcome.SplitAt separator) did h)

    entry_end : {c : Edit} {o : Outcome} {what : Seen} → EditCase c what (changed.Over o) → m.event.act ≡ event_of None (edit_next c) what → entry_log Whole Parts c marks → put_log Whole Parts o more
    entry_end (EditCase.Opened x q o t) did h = subst (λ z. put_log Whole Parts z more) (sym t) (opened x q did h)

  -- what has become of the leaf, by what was to be done with it
  edited_log : (e : Effect) (noted : Noted) → put_log (IsAsNoted e noted) (MaySplit e) outcome.Edited more → effect_log e (thin_hint 1 noted.thin) more
  edited_log Keep noted h = absurd h.3
  edited_log (Enter value) noted h = (None, (h.0, Put h.0 h.1 ∷ [], h.1 ∷ [], h.2, WritesBack.Whole h.1), ap (thin_hint 1) h.3)
  edited_log Remove noted h = (h.0, h.1, h.2, ap (thin_hint 1) h.3)
  edited_log (Replace value) noted h = (h.0, h.1, h.2, ap (thin_hint 1) h.3)

  split_log : (e : Effect) (noted : Noted) (separator : ℕ) → put_log (IsAsNoted e noted) (MaySplit e) (outcome.SplitAt separator) more → effect_log e (post_hint 1 (Some separator)) more
  split_log (Enter value) noted separator h = (Some separator, h.0, refl)
  split_log e noted separator h = absurd h.1

  outcome_written : (does : KeyWrite) (noted : Noted) (o : Outcome) → put_log (IsAsNoted (effect_of does noted.there) noted) (MaySplit (effect_of does noted.there)) o more → written_log does (write_reply noted o) more
  outcome_written does noted outcome.Edited h = edited_log (effect_of does noted.there) noted h
  outcome_written does noted (outcome.SplitAt separator) h = split_log (effect_of does noted.there) noted separator h
  outcome_written does noted outcome.Refused h = h

  -- at the leaf
  arrived_write : (e : Effect) (key x : ℕ) (c : Page) (noted : Noted) (d : Edit) → Performs e x c key d → noted.thin ≡ thin_by e d → WroteHeld more x [] → entry_log (IsAsNoted e noted) (MaySplit e) d more
  arrived_write Keep key x c noted d t thin h = absurd t
  arrived_write (Enter value) key x c noted (edit.Putting y page) t thin h = (subst (λ z. WroteHeld more z []) (sym t.0) h, thin)
  arrived_write (Enter value) key x c noted (edit.Taking full) t thin h = (subst (λ z. WroteHeld more z []) (sym t.0) h, tt)
  arrived_write (Enter value) key x c noted old t thin h = absurd t
  arrived_write Remove key x c noted (edit.Putting y page) t thin h = (subst (λ z. WroteHeld more z []) (sym t.0) h, thin)
  arrived_write Remove key x c noted old t thin h = absurd t
  arrived_write (Replace value) key x c noted (edit.Putting y page) t thin h = (subst (λ z. WroteHeld more z []) (sym t.0) h, thin)
  arrived_write (Replace value) key x c noted old t thin h = absurd t

  kept_log : (e : Effect) → e ≡ Keep → Unwritten more → effect_log e None more
  kept_log e is h = subst (λ z. effect_log z None more) (sym is) (h, refl)

  -- a write
  pub write_on : {key : ℕ} {does : KeyWrite} {old new : WriteStage} {what : Seen} → WriteCase key does old what new → m.event.act ≡ event_of (write_end does old) (write_next_in old) what → write_log does old marks → write_log does new more
  write_on (WriteCase.Began a t) did h = subst (λ z. way_log z more) (sym t) (unwritten_now marks m did h)
  write_on {key = key} (WriteCase.Came a what b t) did h = coming_on key a b what t did h
  write_on (WriteCase.Kept x c y there l t) did h = (unwritten_on marks m (ap writes_in did) (latched_unwritten h), t.2)
  write_on {key = key} {does = does} (WriteCase.Changed x c noted d l t) did h = arrived_write (effect_of does noted.there) key x c noted d t.1 t.2 (held_still marks m (ap writes_in did) h)
  write_on {does = does} (WriteCase.Opened x there last t) did h = subst (λ z. written_log does z more) (sym t) (kept_log (effect_of does there) h.1 (unwritten_on marks m (ap writes_in did) h.0))
  write_on {does = does} (WriteCase.Edited noted c what same d t) did h =
      subst (λ z. entry_log (IsAsNoted (effect_of does z.there) z) (MaySplit (effect_of does z.there)) d more) (sym t.0) (entry_on (IsAsNoted (effect_of does noted.there) noted) (MaySplit (effect_of does noted.there)) (edit_case c what _ t.1) did h)
  write_on {does = does} (WriteCase.Finished noted c what last t) did h =
      subst (λ z. written_log does z more) (sym t.2) (outcome_written does noted t.0 (entry_end (IsAsNoted (effect_of does noted.there) noted) (MaySplit (effect_of does noted.there)) (edit_case c what _ t.1) did h))
  write_on {does = does} (WriteCase.Ended r last t) did h = subst (λ z. written_log does z more) (sym t) (written_stays (ap writes_in did) does r h)
