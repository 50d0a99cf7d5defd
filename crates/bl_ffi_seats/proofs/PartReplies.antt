-- A search that was answered has told what it may answer on some map.
use Rattle.std.proofs.Common.{ℕ, ◌++◌, List, Option, ap, ◌∙◌}
use Rattle.bl_page.specs.declared.page.Page.{Page}
use Rattle.bl_model.specs.declared.operation.Entry.{Entry}
use Rattle.bl_model.specs.declared.operation.Op.{Op}
use Rattle.bl_model.specs.declared.operation.Reply.{Reply}
use Rattle.bl_model.specs.History.{final_map}
use Rattle.bl_model.specs.Map.{Map, MayAnswer}
use Rattle.bl_claims.specs.Seeing.{first_map}
use Rattle.bl_claims.specs.Trails.{Trail, history_of}
use Rattle.bl_index_range.proofs.Told.{answered, history_append}
use Rattle.bl_index_read.specs.Searching.{Finds}

pub part_may : (first : List (Option Page)) (pages pass turns : ℕ) (op : Op) (reply : Reply) (old new : Trail) → Finds first pages pass turns op reply old new → (m : Map) × MayAnswer m op reply
part_may first pages pass turns op reply old new h =
    let more = h.answers.holds.more in
    let on = ap history_of h.answers.holds.begins ∙ history_append old more in
    let e : Entry = record { pass = pass; op = op; reply = reply } in
    let there = answered (first_map first) pass e (history_of old) (history_of more) (history_of new) on h.answers.seen.legal h.answers.once in
    (final_map (first_map first) (history_of old ++ there.before), there.may)
