use Rattle.std.proofs.Common.{◌≡◌, [], sym, ◌∙◌, subst, suc, List, rules}
use Rattle.bl_changes.specs.declared.changes.Changes.{Changes}
use Rattle.bl_map.specs.Handles.{first_map_of, pages_of_map, number_of_seat, seen_by}
use Rattle.bl_serve_worker.specs.declared.chunk.ShareOutput.{ShareOutput}
use Rattle.bl_serve_worker.specs.Noting.{HasNoted}
use Rattle.bl_serve_worker.specs.Shares.{Logs}
use Rattle.bl_serve_worker.proofs.Noting.{all_noted, neither, where_ok}
use Rattle.bl_serve_worker.proofs.working.serve_at.Goals as goal

pub returns : goal.returns
returns g c = let e = c.serve_shares-served.ensures in
    let none : c.new-log.result.items ≡ [] = search rules in (
      e.same,
      λ ok. subst (λ (z : List ShareOutput). Logs (first_map_of c.args.handle.now) (pages_of_map c.args.handle.now) (suc c.args.chunk.now.before) c.args.chunk.now.deals.now c.args.chunk.now.lines.now (number_of_seat c.args.handle.now) (seen_by c.args.handle.now) (seen_by c.serve_shares-served.new.handle) z c.serve_shares-served.new.log.items) none
          (where_ok _ c.serve_shares-served.result (sym c.is_err.ensures.value ∙ (neither _ _ ok).0) e.logs),
      λ ok keeps.
          let noted : HasNoted (number_of_seat c.args.handle.now) (seen_by c.args.handle.now) (seen_by c.serve_shares-served.new.handle) c.serve_shares-served.new.aside.changes =
          all_noted c.args.handle.now c.serve_shares-served.new.handle c.new-aside.result c.serve_shares-served.new.aside (c.new-aside.ensures.keeps ∙ keeps) c.new-aside.ensures.came c.new-aside.ensures.went
          (sym c.has_failed.ensures ∙ (neither _ _ ok).1) e.same (where_ok _ c.serve_shares-served.result (sym c.is_err.ensures.value ∙ (neither _ _ ok).0) e.noted) in
          subst (λ (z : Changes). HasNoted (number_of_seat c.args.handle.now) (seen_by c.args.handle.now) (seen_by c.serve_shares-served.new.handle) z) (sym c.into_changes.ensures) noted,
    )
