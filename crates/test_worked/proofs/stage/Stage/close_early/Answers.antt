use Rattle.std.proofs.lemmas.List.Elements.{All-pop}
use Rattle.bl_index.specs.Calls.{IsPassOf}
use Rattle.test_worked.proofs.stage.Stage.close_early.Goals as goal

pub close-requires : goal.close-requires
close-requires c = (All-pop (IsPassOf c.args.self.index) _ _ c.pop.result c.pop.ensures.items c.requires).0
