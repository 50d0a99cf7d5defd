use Rattle.std.proofs.Common.{◌⊎◌, ⊎_elim, ℕ, List}
use Rattle.bl_journal.specs.Logs.{IsLogOf}
use Rattle.bl_journal.proofs.Moments.{leaves_less}
use Rattle.bl_journal.proofs.Bodies.{nothing_leads}
use Rattle.bl_journal.proofs.journal.Journal.seal.Goals as goal

pub returns-clause-kept : goal.returns-clause-kept
returns-clause-kept g c = λ modelled m keeps. c.put.ensures.kept modelled m m keeps (nothing_leads m)

pub returns-clause-any_moment : goal.returns-clause-any_moment
returns-clause-any_moment g c = λ modelled m keeps.
    leaves_less g.D.Device.moment g.D.Device.leaves c.args.self.now.device c.put.new.self.device (λ (f : List ℕ). IsLogOf f m ⊎ IsLogOf f m) (λ (f : List ℕ). IsLogOf f m)
    (c.put.ensures.any_moment modelled m m keeps (nothing_leads m)) (λ f is. ⊎_elim (λ one. one) (λ other. other) is)
