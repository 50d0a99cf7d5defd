use Rattle.std.proofs.Common.{◌∷◌, ◌∙◌, refl}
use Rattle.std.specs.Prelude.{Ok}
use Rattle.bl_map_log.specs.Commits.{map_told}
use Rattle.bl_map_log.proofs.Committed.{all_of_one, both_of, parts_of, still_of, met_same, met_idle, cleared_idle, cleared_of, not_collected, none_ok, put}
use Rattle.bl_map_log.proofs.log.MapLog.commit.Goals as goal

pub meet_all-requires : goal.meet_all-requires
meet_all-requires g c = all_of_one c.args.map.now c.args.first.now c.args.others.now c.requires.own.0 c.requires.own.1

pub commit-requires : goal.commit-requires
commit-requires g c = record { kept = λ modelled. let h = c.requires.log modelled in (map_told c.args.map.now h.0, h.1.kept) }

-- there was no memory to put together what was noted
pub returns-in_err-changes-clause-of_map : goal.returns-in_err-changes-clause-of_map
returns-in_err-changes-clause-of_map g c = parts_of c.args.map.now c.meet_all.new.one c.meet_all.new.others (still_of c.args.map.now (c.args.first.now ∷ c.args.others.now) (c.meet_all.new.one ∷ c.meet_all.new.others) (both_of c.args.map.now c.args.first.now c.args.others.now c.requires.own.0 c.requires.own.1) (met_same (c.args.first.now ∷ c.args.others.now) (c.meet_all.new.one ∷ c.meet_all.new.others) c.meet_all.ensures))

pub returns-in_err-changes-clause-idle : goal.returns-in_err-changes-clause-idle
returns-in_err-changes-clause-idle g c = met_idle (c.args.first.now ∷ c.args.others.now) (c.meet_all.new.one ∷ c.meet_all.new.others) c.meet_all.ensures

pub returns-in_err-changes-clause-commits : goal.returns-in_err-changes-clause-commits
returns-in_err-changes-clause-commits g c = λ modelled base h.
    not_collected g.D.Device.seen g.D.Device.moment g.D.Device.leaves c.args.map.now base (c.args.first.now ∷ c.args.others.now) (c.meet_all.new.one ∷ c.meet_all.new.others) c.args.self.now h (both_of c.args.map.now c.args.first.now c.args.others.now c.requires.own.0 c.requires.own.1) c.meet_all.ensures
    c.from_residual.result c.from_residual.ensures.0 c.args.self.now refl

-- it was not put to the log
pub returns-in_err-commit-clause-of_map : goal.returns-in_err-commit-clause-of_map
returns-in_err-commit-clause-of_map g c = parts_of c.args.map.now c.meet_all.new.one c.meet_all.new.others (still_of c.args.map.now (c.args.first.now ∷ c.args.others.now) (c.meet_all.new.one ∷ c.meet_all.new.others) (both_of c.args.map.now c.args.first.now c.args.others.now c.requires.own.0 c.requires.own.1) (met_same (c.args.first.now ∷ c.args.others.now) (c.meet_all.new.one ∷ c.meet_all.new.others) c.meet_all.ensures))

pub returns-in_err-commit-clause-idle : goal.returns-in_err-commit-clause-idle
returns-in_err-commit-clause-idle g c = met_idle (c.args.first.now ∷ c.args.others.now) (c.meet_all.new.one ∷ c.meet_all.new.others) c.meet_all.ensures

pub returns-in_err-commit-clause-commits : goal.returns-in_err-commit-clause-commits
returns-in_err-commit-clause-commits g c = λ modelled base h.
    put g.D.Device.seen g.D.Device.moment g.D.Device.leaves c.args.map.now base (c.args.first.now ∷ c.args.others.now) (c.meet_all.new.one ∷ c.meet_all.new.others) c.args.self.now h (both_of c.args.map.now c.args.first.now c.args.others.now c.requires.own.0 c.requires.own.1) c.meet_all.ensures
    c.histories_lead.ensures c.from_residual-in_err-commit.result c.as_slice-came.result.now c.as_slice-went.result.now (c.meet_all.new.one ∷ c.meet_all.new.others) (record { journal = c.commit.new.self })
    (c.as_slice-came.ensures.value ∙ c.in_ok-changes.ensures.came) (c.as_slice-went.ensures.value ∙ c.in_ok-changes.ensures.went)
    (c.commit.ensures.any_moment modelled) (λ m n keeps leads. none_ok c.from_residual-in_err-commit.result _ c.from_residual-in_err-commit.ensures.0)

pub returns-clause-of_map : goal.returns-clause-of_map
returns-clause-of_map g c = parts_of c.args.map.now c.clear_all.new.first c.clear_all.new.others (cleared_of c.args.map.now (c.meet_all.new.one ∷ c.meet_all.new.others) (c.clear_all.new.first ∷ c.clear_all.new.others) (still_of c.args.map.now (c.args.first.now ∷ c.args.others.now) (c.meet_all.new.one ∷ c.meet_all.new.others) (both_of c.args.map.now c.args.first.now c.args.others.now c.requires.own.0 c.requires.own.1) (met_same (c.args.first.now ∷ c.args.others.now) (c.meet_all.new.one ∷ c.meet_all.new.others) c.meet_all.ensures)) c.clear_all.ensures)

pub returns-clause-idle : goal.returns-clause-idle
returns-clause-idle g c = cleared_idle (c.args.first.now ∷ c.args.others.now) (c.meet_all.new.one ∷ c.meet_all.new.others) (c.clear_all.new.first ∷ c.clear_all.new.others) c.meet_all.ensures c.clear_all.ensures

pub returns-clause-commits : goal.returns-clause-commits
returns-clause-commits g c = λ modelled base h.
    put g.D.Device.seen g.D.Device.moment g.D.Device.leaves c.args.map.now base (c.args.first.now ∷ c.args.others.now) (c.meet_all.new.one ∷ c.meet_all.new.others) c.args.self.now h (both_of c.args.map.now c.args.first.now c.args.others.now c.requires.own.0 c.requires.own.1) c.meet_all.ensures
    c.histories_lead.ensures (Ok tt) c.as_slice-came.result.now c.as_slice-went.result.now (c.clear_all.new.first ∷ c.clear_all.new.others) (record { journal = c.commit.new.self })
    (c.as_slice-came.ensures.value ∙ c.in_ok-changes.ensures.came) (c.as_slice-went.ensures.value ∙ c.in_ok-changes.ensures.went)
    (c.commit.ensures.any_moment modelled) (λ m n keeps leads. (c.in_ok-commit.ensures.kept modelled m n keeps leads, c.clear_all.ensures))
