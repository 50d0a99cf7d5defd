-- A write of one key goes on, and in one way.
use Rattle.std.proofs.Common.{ℕ, ◌≡◌, ◌≢◌, Option, Some, None, refl, sym, ap, ◌∙◌, subst}
use Rattle.std.specs.Prelude.{IsSome}
use Rattle.bl_model.specs.declared.deciding.KeyWrite.{KeyWrite}
use Rattle.bl_model.specs.declared.deciding.Effect.{Effect}
use Rattle.bl_model.specs.declared.deciding.Effect.TheVariants.{Keep, Enter, Remove, Replace}
use Rattle.bl_model.specs.Writes.{MayHave, effect_of}
use Rattle.bl_model.proofs.Decisions.{may_have}
use Rattle.bl_page.specs.declared.page.Page.{Page}
use Rattle.bl_page.specs.Nodes.{node_of}
use Rattle.bl_proc_steps.specs.declared.acts.Seen.{Seen}
use Rattle.bl_proc_steps.specs.declared.acts.Seen.TheVariants as seen
use Rattle.bl_proc_routes.specs.declared.routes.Step.TheVariants.{Here}
use Rattle.bl_proc_steps.specs.declared.approach.Approach.{Approach}
use Rattle.bl_proc_steps.specs.declared.approach.Approach.TheVariants.{Start}
use Rattle.bl_proc_steps.specs.declared.approach.Approached.{Approached}
use Rattle.bl_proc_steps.specs.declared.approach.Approached.TheVariants as came
use Rattle.bl_proc_steps.specs.declared.edit.Edit.{Edit}
use Rattle.bl_proc_steps.specs.declared.edit.Edited.{Edited}
use Rattle.bl_proc_steps.specs.declared.edit.Edited.TheVariants as edit
use Rattle.bl_proc_steps.specs.Given.{Gives}
use Rattle.bl_proc_routes.specs.Routes.{Leads}
use Rattle.bl_proc_steps.specs.Approaches.{Approaches}
use Rattle.bl_proc_steps.specs.Edits.{Changes}
use Rattle.bl_proc.specs.declared.kinds.Proc.{Proc}
use Rattle.bl_proc.specs.declared.kinds.Proc.TheVariants as proc
use Rattle.bl_proc.specs.Processes.{Takes}
use Rattle.bl_proc_steps.proofs.Ways.{here_leads}
use Rattle.bl_proc_writes.proofs.Arrivals.{write_arrives}
use Rattle.bl_proc_deterministic.specs.Courses.{GoesOn}
use Rattle.bl_proc_deterministic.specs.One.{One}
use Rattle.bl_proc_deterministic.proofs.Cases.{came_on, came_at, came_as, not_both}
use Rattle.bl_proc_deterministic.proofs.Ways.{approach_one}
use Rattle.bl_proc_deterministic.proofs.Edits.{enter_one, drop_one, replace_one, edit_one}
use Rattle.bl_proc_deterministic.proofs.Leaves.{leaf_covers, leaf_lists, leaf_holds, leaf_loses, leaf_has}
use Rattle.bl_proc_writes.specs.declared.writing.Noted.{Noted}
use Rattle.bl_proc_writes.specs.declared.writing.Write.{Write}
use Rattle.bl_proc_writes.specs.declared.writing.WriteStage.{WriteStage}
use Rattle.bl_proc_writes.specs.declared.writing.WriteStage.TheVariants.{New, Coming, Keeping, Editing, Ending, Over}
use Rattle.bl_proc_writes.specs.declared.writing.WriteReply.{WriteReply}
use Rattle.bl_proc_writes.specs.declared.writing.WriteReply.TheVariants.{Done}
use Rattle.bl_proc_writes.specs.Writes.{Performs, thin_by, write_reply, write_next_in, write_needs_in, write_answer_in, WriteArrives, WriteGoes}
use Rattle.bl_proc_deterministic.proofs.KindCases.{WriteCase, write_case}

module _ (key : ℕ) (does : KeyWrite) (x : ℕ) (c : Page) where
  keeping_only : (there : Option ℕ) → (node_of c).look key ≡ there → effect_of does there ≡ Keep → (other : WriteStage) → WriteArrives key does x c other → other ≡ Keeping x there
  keeping_only there e kept (Keeping y was) t = (let same = sym t.1 ∙ e in λ i. Keeping (t.0 i) (same i))
  keeping_only there e kept (Editing noted d) t = absurd (subst (λ z. Performs z x c key d) (ap (effect_of does) (sym t.0 ∙ e) ∙ kept) t.1)
  keeping_only there e kept old t = absurd t

  editing_only : (there : Option ℕ) (d : Edit) → (node_of c).look key ≡ there → effect_of does there ≢ Keep → ((f : Edit) → Performs (effect_of does there) x c key f → f ≡ d) → (other : WriteStage) → WriteArrives key does x c other → other ≡ Editing (record { there = there; thin = thin_by (effect_of does there) d }) d
  editing_only there d e change one (Keeping y was) t = absurd (change (ap (effect_of does) (sym e ∙ t.1) ∙ t.2))
  editing_only there d e change one (Editing noted f) t =
      let same : noted.there ≡ there = sym t.0 ∙ e in
      let is : f ≡ d = one f (subst (λ z. Performs (effect_of does z) x c key f) same t.1) in
      let thin : noted.thin ≡ thin_by (effect_of does there) d = t.2 ∙ λ i. thin_by (effect_of does (same i)) (is i) in
      λ i. Editing (record { there = same i; thin = thin i }) (is i)
  editing_only there d e change one old t = absurd t

  performed : (there : Option ℕ) → (node_of c).look key ≡ there → (does_so : Effect) → effect_of does there ≡ does_so → does_so ≢ Keep → One (Performs does_so x c key) → One (WriteArrives key does x c)
  performed there e does_so is change p = record {
    new = Editing (record { there = there; thin = thin_by (effect_of does there) p.new }) p.new;
    goes = (e, subst (λ z. Performs z x c key p.new) (sym is) p.goes, refl);
    only = editing_only there p.new e (λ k. change (sym is ∙ k)) (λ f t. p.only f (subst (λ z. Performs z x c key f) is t));
  }

  arrive_by : Leads c key 0 Here → (there : Option ℕ) → (node_of c).look key ≡ there → (does_so : Effect) → effect_of does there ≡ does_so → MayHave does_so there → One (WriteArrives key does x c)
  arrive_by h there e Keep is may = record { new = Keeping x there; goes = (refl, e, is); only = keeping_only there e is }
  arrive_by h there e (Enter value) is may = performed there e (Enter value) is (λ k. cc) (enter_one x c key value (leaf_covers c key 0 h) (leaf_lists c key (e ∙ may)) (leaf_holds c key value h))
  arrive_by h there e Remove is may = performed there e Remove is (λ k. cc) (drop_one x c key (leaf_covers c key 0 h) (leaf_loses c key h))
  arrive_by h there e (Replace value) is may = performed there e (Replace value) is (λ k. cc) (replace_one x c key value (leaf_has c key 0 h (subst IsSome (sym e) may)) (leaf_holds c key value h))

  arrive_one : Leads c key 0 Here → One (WriteArrives key does x c)
  arrive_one h = arrive_by h ((node_of c).look key) refl (effect_of does ((node_of c).look key)) refl (may_have does ((node_of c).look key))

module _ (key : ℕ) (does : KeyWrite) (a : Approach) (what : Seen) where
  on_only : (b : Approach) → ((o : Approached) → Approaches 0 key a what o → o ≡ came.On b) → (other : WriteStage) → WriteGoes key does (Coming a) what other → other ≡ Coming b
  on_only b is (Coming c) t = ap Coming (came_on c b (is (came.On c) t))
  on_only b is old t = absurd (not_both b t.0 t.1 (sym (is (came.Here t.0 t.1) t.2)))

  here_as : (x y : ℕ) (c d : Page) → came.Here x c ≡ came.Here y d → (other : WriteStage) → WriteArrives key does x c other → WriteArrives key does y d other
  here_as x y c d e other = subst (λ (z : ℕ × Page). WriteArrives key does z.0 z.1 other) (λ i. (came_at x y c d e i, came_as x y c d e i))

  here_only : (x : ℕ) (c : Page) → ((o : Approached) → Approaches 0 key a what o → o ≡ came.Here x c) → (one : One (WriteArrives key does x c)) → (other : WriteStage) → WriteGoes key does (Coming a) what other → other ≡ one.new
  here_only x c is one (Coming b) t = absurd (not_both b x c (is (came.On b) t))
  here_only x c is one New t = one.only New (here_as t.0 x t.1 c (is (came.Here t.0 t.1) t.2) New t.3)
  here_only x c is one (Keeping m n) t = one.only (Keeping m n) (here_as t.0 x t.1 c (is (came.Here t.0 t.1) t.2) (Keeping m n) t.3)
  here_only x c is one (Editing m d) t = one.only (Editing m d) (here_as t.0 x t.1 c (is (came.Here t.0 t.1) t.2) (Editing m d) t.3)
  here_only x c is one (Ending r) t = one.only (Ending r) (here_as t.0 x t.1 c (is (came.Here t.0 t.1) t.2) (Ending r) t.3)
  here_only x c is one (Over r) t = one.only (Over r) (here_as t.0 x t.1 c (is (came.Here t.0 t.1) t.2) (Over r) t.3)

  coming_by : (came_to : Approached) → Approaches 0 key a what came_to → ((o : Approached) → Approaches 0 key a what o → o ≡ came_to) → One (WriteGoes key does (Coming a) what)
  coming_by (came.On b) h only = record { new = Coming b; goes = h; only = on_only b only }
  coming_by (came.Here x c) h only = (let one = arrive_one key does x c (here_leads 0 key a what x c h) in record { new = one.new; goes = write_arrives key does a what x c one.new h one.goes; only = here_only x c only one })

-- by what becomes of its change
abbrev after_edit : Noted → Edited → WriteStage
after_edit noted (edit.On e) = Editing noted e
after_edit noted (edit.Over o) = Ending (write_reply noted o)

edit_goes : (key : ℕ) (does : KeyWrite) (noted : Noted) (d : Edit) (what : Seen) (n : Edited) → Changes d what n → WriteGoes key does (Editing noted d) what (after_edit noted n)
edit_goes key does noted d what (edit.On e) h = (refl, h)
edit_goes key does noted d what (edit.Over o) h = (o, h, refl)

edit_only : {key : ℕ} {does : KeyWrite} {noted : Noted} {d : Edit} {what : Seen} {b : WriteStage} (n : Edited) → ((z : Edited) → Changes d what z → z ≡ n) → WriteCase key does (Editing noted d) what b → b ≡ after_edit noted n
edit_only n is (WriteCase.Edited noted d what same e t) = ap (λ z. Editing z e) t.0 ∙ ap (after_edit noted) (is (edit.On e) t.1)
edit_only n is (WriteCase.Finished noted d what r t) = ap Ending t.2 ∙ ap (after_edit noted) (is (edit.Over t.0) t.1)

module _ (key : ℕ) (does : KeyWrite) where
  begun_only : {b : WriteStage} → WriteCase key does New seen.Done b → b ≡ Coming Start
  begun_only (WriteCase.Began a t) = ap Coming t

  stays_only : {x : ℕ} {there : Option ℕ} {b : WriteStage} → WriteCase key does (Keeping x there) seen.Done b → b ≡ Ending (Done there None)
  stays_only (WriteCase.Opened x there r t) = ap Ending t

  ended_only : {q : WriteReply} {b : WriteStage} → WriteCase key does (Ending q) seen.Done b → b ≡ Over q
  ended_only (WriteCase.Ended q last t) = ap Over t

  pub stage_one : (a : WriteStage) (what : Seen) → write_answer_in does a ≡ None → Gives (write_next_in a) (write_needs_in a) what → One (WriteGoes key does a what)
  stage_one (Coming a) what r g = (let h = approach_one 0 key a what g in coming_by key does a what h.new h.goes h.only)
  stage_one (Editing noted d) what r g = (let h = edit_one d what g in record { new = after_edit noted h.new; goes = edit_goes key does noted d what h.new h.goes; only = λ b t. edit_only h.new h.only (write_case key does (Editing noted d) what b t) })
  stage_one New seen.Done r g = record { new = Coming Start; goes = refl; only = λ b t. begun_only (write_case key does New seen.Done b t) }
  stage_one (Keeping x there) seen.Done r g = record { new = Ending (Done there None); goes = refl; only = λ b t. stays_only (write_case key does (Keeping x there) seen.Done b t) }
  stage_one (Ending q) seen.Done r g = record { new = Over q; goes = refl; only = λ b t. ended_only (write_case key does (Ending q) seen.Done b t) }
  stage_one (Over q) what r g = (let z : Some _ ≡ None = r in cc)
  stage_one old what r g = absurd g

write_only : (old : Write) (what : Seen) (g : One (WriteGoes old.key old.write old.stage what)) (other : Proc) → Takes (proc.Write old) what other → other ≡ proc.Write (record { key = old.key; write = old.write; stage = g.new })
write_only old what g (proc.Write f) t = (let e = g.only f.stage t.2 in λ i. proc.Write (record { key = t.0 i; write = t.1 i; stage = e i }))
write_only old what g new t = absurd t

pub write_goes : (old : Write) (what : Seen) → write_answer_in old.write old.stage ≡ None → Gives (write_next_in old.stage) (write_needs_in old.stage) what → GoesOn (proc.Write old) what
write_goes old what running given =
    let g = stage_one old.key old.write old.stage what running given in
    record { new = proc.Write (record { key = old.key; write = old.write; stage = g.new }); takes = (refl, refl, g.goes); only = write_only old what g }
