use Rattle.std.proofs.Common.{rules, refl, ◌∙◌}
use Rattle.bl_proc_steps.specs.declared.acts.Seen.TheVariants as seen
use Rattle.bl_index_events.proofs.Standing.{on_goes, same_goes}
use Rattle.bl_index_edit.proofs.Walked.{opens_staying, some_same}
use Rattle.bl_index_edit.proofs.parents.stay.Goals as goal

pub reopen-requires-clause-next : goal.reopen-requires-clause-next
reopen-requires-clause-next g c =
    let p = c.args.poster.now in let stands = c.requires.process in
    (opens_staying (g.P.Poster.level_of p) (g.P.Poster.key_of p) (g.P.Poster.staged p) (g.P.Poster.opened p) (g.P.Poster.posts p) c.args.at c.args.reply stands.0 _ stands.1).act

pub reopen-requires-clause-course : goal.reopen-requires-clause-course
reopen-requires-clause-course g c =
    let p = c.args.poster.now in let stands = c.requires.process in
    (opens_staying (g.P.Poster.level_of p) (g.P.Poster.key_of p) (g.P.Poster.staged p) (g.P.Poster.opened p) (g.P.Poster.posts p) c.args.at c.args.reply stands.0 _ stands.1).course

pub returns : goal.returns
returns g c =
    let p = c.args.poster.now in let stands = c.requires.process in
    let opens = opens_staying (g.P.Poster.level_of p) (g.P.Poster.key_of p) (g.P.Poster.staged p) (g.P.Poster.opened p) (g.P.Poster.posts p) c.args.at c.args.reply stands.0 _ stands.1 in
    record {
      same = c.reopen.ensures.same.0;
      empty = c.reopen.ensures.same.2.0 ∙ c.requires.empty;
      state = g.P.Poster.opened p c.args.reply stands.0;
      runs = record { own = search rules; running = search rules; on = on_goes c.args.tree.now.store.layout seen.Done _ _ _ _ c.requires.runs.on c.reopen.ensures.goes opens.opened };
      is = (stands.0, refl);
      since = same_goes _ _ _ c.reopen.ensures.goes;
      no_room = λ e. absurd (c.requires.reply (some_same e));
    }
