-- What a hand has reserved for its process, from one event of it to the next.
use Rattle.std.proofs.Common.{ℕ, ◌≡◌, ◌≢◌, ◌≤◌, ◌<◌, Option, None, Some, slice_index, ap, sym, subst, ◌∙◌}
use Rattle.atomic_table.specs.declared.shared.Seat.{Seat}
use Rattle.bl_proc_steps.specs.declared.acts.Action.{Action}
use Rattle.bl_proc_steps.specs.declared.acts.Action.TheVariants as act
use Rattle.bl_proc_steps.specs.declared.acts.Seen.{Seen}
use Rattle.bl_proc.specs.declared.kinds.Proc.{Proc}
use Rattle.bl_proc.specs.Processes.{next_of, needs_of}
use Rattle.bl_proc_deterministic.specs.Frames.{frames_wanted, Wants, Leaves}
use Rattle.bl_proc_deterministic.specs.Retirements.{IsPutDone, RetiresAfter}
use Rattle.bl_layout.specs.declared.layout.Layout.{Layout}
use Rattle.bl_layout.specs.Words.{frame_count}
use Rattle.bl_store.specs.declared.stock.Stock.{Stock}
use Rattle.bl_store_rule.specs.declared.view.View.{View}
use Rattle.bl_store.specs.Hands.{HasNoStock, IsSameStock, drafts}
use Rattle.bl_index_rule.specs.declared.known.PassState.{PassState}
use Rattle.bl_index_events.specs.Runs.{HasReserved}

abbrev H : Type 0
H = Seat (Unit {0}) (View PassState)

-- it reserves nothing and uses nothing up
abbrev pub IsQuiet : Action → Type 0
IsQuiet (act.Get x) = Unit {0}
IsQuiet (act.Latch x) = Unit {0}
IsQuiet (act.Open x) = Unit {0}
IsQuiet (act.Retire x) = Unit {0}
IsQuiet act.End = Unit {0}
IsQuiet action = ⊥

had_none : (a : Action) (needs : Option (ℕ × ℕ)) (frames : ℕ) → IsQuiet a → Wants a needs frames → frames ≡ 0
had_none (act.Get x) needs frames quiet wants = wants
had_none (act.Latch x) needs frames quiet wants = wants
had_none (act.Open x) needs frames quiet wants = wants
had_none (act.Retire x) needs frames quiet wants = wants
had_none act.End needs frames quiet wants = wants
had_none action needs frames quiet wants = absurd quiet

leaves_none : (a : Action) (needs : Option (ℕ × ℕ)) (what : Seen) (before after : ℕ) → IsQuiet a → Leaves a needs what before after → after ≡ 0
leaves_none (act.Get x) needs what before after quiet leaves = leaves
leaves_none (act.Latch x) needs what before after quiet leaves = leaves
leaves_none (act.Open x) needs what before after quiet leaves = leaves
leaves_none (act.Retire x) needs what before after quiet leaves = leaves
leaves_none act.End needs what before after quiet leaves = leaves
leaves_none action needs what before after quiet leaves = absurd quiet

is_no_put : (a : Action) (what : Seen) → IsQuiet a → IsPutDone a what → ⊥
is_no_put (act.Put x page) what quiet put = quiet
is_no_put action what quiet put = put

-- without frames left, the stock is empty
pub has_none : (h : H) (held : Option Stock) (p : Proc) (a : Action) → next_of p ≡ a → IsQuiet a → Wants (next_of p) (needs_of p) (frames_wanted p) → HasReserved h held p → HasNoStock h
has_none h None p a next quiet wants has = has.1
has_none h (Some stock) p a next quiet wants has = has.0.frames ∙ ap (drafts stock.frames) (has.1 ∙ had_none a (needs_of p) (frames_wanted p) quiet (subst (λ (o : Action). Wants o (needs_of p) (frames_wanted p)) next wants))

module _ (p q : Proc) (what : Seen) (a : Action) (next : next_of p ≡ a) (quiet : IsQuiet a) (leaves : Leaves (next_of p) (needs_of p) what (frames_wanted p) (frames_wanted q)) (retires : RetiresAfter (next_of p) what (next_of q)) where
  none_after : frames_wanted q ≡ 0
  none_after = leaves_none a (needs_of p) what (frames_wanted p) (frames_wanted q) quiet (subst (λ (o : Action). Leaves o (needs_of p) what (frames_wanted p) (frames_wanted q)) next leaves)

  not_retiring : (x : ℕ) → next_of q ≢ act.Retire x
  not_retiring x is = is_no_put a what quiet (subst (λ (o : Action). IsPutDone o what) next (subst (λ (o : Action). RetiresAfter (next_of p) what o) is retires))

  -- what was reserved stays so
  pub stays_reserved : (h h' : H) (held : Option Stock) → Wants (next_of p) (needs_of p) (frames_wanted p) → h'.me.0.layout ≡ h.me.0.layout → IsSameStock h h' → HasReserved h held p → HasReserved h' held q
  stays_reserved h h' None wants layout same has = (none_after, same.0 ∙ has.1, not_retiring)
  stays_reserved h h' (Some stock) wants layout same has = (
    record {
      frames = same.0 ∙ has.0.frames;
      ticks = subst (λ (n : ℕ). stock.count ≤ n) (sym same.1) has.0.ticks;
      few = has.0.few;
      within = subst (λ (l : Layout). (k : ℕ) → k < stock.count → slice_index stock.frames k < frame_count l) (sym layout) has.0.within;
    },
    has.1 ∙ (had_none a (needs_of p) (frames_wanted p) quiet (subst (λ (o : Action). Wants o (needs_of p) (frames_wanted p)) next wants) ∙ sym none_after),
    same.2 ∙ has.2,
  )

  -- or was given up
  pub gives_up : (h : H) → HasNoStock h → HasReserved h None q
  gives_up h none = (none_after, none, not_retiring)
