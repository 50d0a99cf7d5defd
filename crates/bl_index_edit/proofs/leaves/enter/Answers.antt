use Rattle.std.proofs.Common.{rules, None, ap, ◌∙◌}
use Rattle.bl_store.specs.Hands.{known}
use Rattle.bl_index_events.proofs.Standing.{put_gave, goes_put, on_after, on_as}
use Rattle.bl_index_edit.specs.Events.{outcome_by}
use Rattle.bl_index_edit.specs.Writers.{left_by}
use Rattle.bl_index_edit.proofs.Written.{enters_spread, unthinned, puts_next, put_courses, stands_opening, opens_changed, leaves_put}
use Rattle.bl_index_edit.proofs.leaves.enter.Goals as goal

pub replace_splice-changed-requires-clause-next : goal.replace_splice-changed-requires-clause-next
replace_splice-changed-requires-clause-next g c =
    let w = c.args.writer.now in let q = c.requires in
    let page = enters_spread (g.W.Writer.key_of w) (g.W.Writer.write_of w) (g.W.Writer.staged w) (g.W.Writer.opened w) (g.W.Writer.writes w) c.args.at _ _ q.leaf c.args.splice q.effect q.room q.head q.at.0 q.key in
    (page.0, puts_next (g.W.Writer.key_of w) (g.W.Writer.write_of w) (g.W.Writer.staged w) (g.W.Writer.opened w) (g.W.Writer.writes w) c.args.at (unthinned None) page.0 _ page.2, page.1)

pub replace_splice-changed-requires-clause-course : goal.replace_splice-changed-requires-clause-course
replace_splice-changed-requires-clause-course g c =
    let w = c.args.writer.now in let q = c.requires in
    let page = enters_spread (g.W.Writer.key_of w) (g.W.Writer.write_of w) (g.W.Writer.staged w) (g.W.Writer.opened w) (g.W.Writer.writes w) c.args.at _ _ q.leaf c.args.splice q.effect q.room q.head q.at.0 q.key in
    put_courses (g.W.Writer.key_of w) (g.W.Writer.write_of w) (g.W.Writer.staged w) (g.W.Writer.opened w) (g.W.Writer.writes w) c.args.at (unthinned None) page.0 _ page.2

pub open_leaf-requires-clause-opens : goal.open_leaf-requires-clause-opens
open_leaf-requires-clause-opens g c =
    let w = c.args.writer.now in let q = c.requires in let put = c.replace_splice-changed in let noted = unthinned None in
    let page = enters_spread (g.W.Writer.key_of w) (g.W.Writer.write_of w) (g.W.Writer.staged w) (g.W.Writer.opened w) (g.W.Writer.writes w) c.args.at _ _ q.leaf c.args.splice q.effect q.room q.head q.at.0 q.key in
    let goes = goes_put put.result _ _ put.ensures.done put.ensures.refused in
    let opening = stands_opening (g.W.Writer.key_of w) (g.W.Writer.write_of w) (g.W.Writer.staged w) (g.W.Writer.opened w) (g.W.Writer.writes w) c.args.at noted page.0 put.result _ _ page.2 goes in
    opens_changed (g.W.Writer.key_of w) (g.W.Writer.write_of w) (g.W.Writer.staged w) (g.W.Writer.opened w) (g.W.Writer.writes w) c.args.at noted (outcome_by put.result) _ _ (c.by.ensures ∙ ap (left_by noted) c.outcome_of.ensures) opening

pub open_leaf-requires-clause-runs : goal.open_leaf-requires-clause-runs
open_leaf-requires-clause-runs g c =
    let put = c.replace_splice-changed in
    let goes = goes_put put.result _ _ put.ensures.done put.ensures.refused in
    record { own = search rules; running = search rules; on = on_after c.args.tree.now.store.layout (put_gave put.result) (known c.args.hand.now.seat) (known put.new.hand.seat) _ c.requires.runs.on goes }

pub returns : goal.returns
returns g c =
    let w = c.args.writer.now in let q = c.requires in let put = c.replace_splice-changed in let noted = unthinned None in let e = c.open_leaf.ensures in
    let page = enters_spread (g.W.Writer.key_of w) (g.W.Writer.write_of w) (g.W.Writer.staged w) (g.W.Writer.opened w) (g.W.Writer.writes w) c.args.at _ _ q.leaf c.args.splice q.effect q.room q.head q.at.0 q.key in
    let goes = goes_put put.result _ _ put.ensures.done put.ensures.refused in
    leaves_put c.args.tree.now (g.W.Writer.key_of w) (g.W.Writer.write_of w) (g.W.Writer.staged w) (g.W.Writer.opened w) (g.W.Writer.writes w) c.args.at noted page.0 put.result c.args.hand.now.seat put.new.hand.seat c.open_leaf.new.hand _
    (on_as _ _ _ q.runs.on page.2) put.ensures.same.0 goes put.ensures.asked e.same e.empty e.runs e.since e.refusal e.keeps (e.left ∙ (c.by.ensures ∙ ap (left_by noted) c.outcome_of.ensures))
