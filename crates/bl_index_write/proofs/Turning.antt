-- A process that turns back has reserved nothing.
use Rattle.std.proofs.Common.{◌≡◌, Option, None, Some, ap, ◌∙◌}
use Rattle.atomic_table.specs.declared.shared.Seat.{Seat}
use Rattle.bl_proc.specs.declared.kinds.Proc.{Proc}
use Rattle.bl_proc_deterministic.specs.Frames.{frames_wanted}
use Rattle.bl_store_rule.specs.declared.view.View.{View}
use Rattle.bl_store.specs.declared.stock.Stock.{Stock}
use Rattle.bl_store.specs.Hands.{HasNoStock, drafts}
use Rattle.bl_index_rule.specs.declared.known.PassState.{PassState}
use Rattle.bl_index_events.specs.Runs.{HasReserved}

pub none_reserved : (h : Seat (Unit {0}) (View PassState)) (held : Option Stock) (p : Proc) → frames_wanted p ≡ 0 → HasReserved h held p → HasNoStock h
none_reserved h None p none has = has.1
none_reserved h (Some stock) p none has = has.0.frames ∙ ap (drafts stock.frames) (has.1 ∙ none)
