use Rattle.std.proofs.Common.{subst}
use Rattle.bl_map_work.specs.Rounds.{EndsGrowing}
use Rattle.bl_map_work.specs.Rounds.IsWorked.{Last}
use Rattle.bl_map_work.proofs.Lived.{last_keeps, worked_keeps}
use Rattle.bl_map_work.proofs.working.work.Goals as goal

pub returns-then-is_worked-clause-lives : goal.returns-then-is_worked-clause-lives
returns-then-is_worked-clause-lives g c =
    let does = g.J.Job.Does in
    let worked = subst (λ done. EndsGrowing does c.args.most c.args.map c.args.seats.items c.args.tasks.items done c.in_ok-map.map c.in_ok-map.seats.items c.in_ok-map.tasks.items) c.if-is_worked.true c.in_ok-map.ensures.grown in
    worked_keeps does c.args.most c.args.map c.args.seats.items c.args.tasks.items c.in_ok-map.map c.in_ok-map.seats.items c.in_ok-map.tasks.items worked

pub returns-in-Ok-clause-worked : goal.returns-in-Ok-clause-worked
returns-in-Ok-clause-worked g c =
    let does = g.J.Job.Does in
    let comes = subst (λ done. EndsGrowing does c.args.most c.args.map c.args.seats.items c.args.tasks.items done c.in_ok-map.map c.in_ok-map.seats.items c.in_ok-map.tasks.items) c.if-is_worked.false c.in_ok-map.ensures.grown in
    Last c.in_ok-map.seats.items c.in_ok-map.tasks.items comes c.in-Ok.ensures.round

pub returns-in-Ok-clause-lives : goal.returns-in-Ok-clause-lives
returns-in-Ok-clause-lives g c =
    let does = g.J.Job.Does in
    let comes = subst (λ done. EndsGrowing does c.args.most c.args.map c.args.seats.items c.args.tasks.items done c.in_ok-map.map c.in_ok-map.seats.items c.in_ok-map.tasks.items) c.if-is_worked.false c.in_ok-map.ensures.grown in
    last_keeps does c.args.most c.args.map c.args.seats.items c.args.tasks.items c.in_ok-map.map c.in_ok-map.seats.items c.in_ok-map.tasks.items comes
