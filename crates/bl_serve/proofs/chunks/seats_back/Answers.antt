use Rattle.std.proofs.Common.{◌∙◌, ◌++◌, List, ap}
use Rattle.bl_index.specs.declared.index.Pass.{Pass}
use Rattle.bl_map.specs.Handles.{seats_of}
use Rattle.bl_serve.proofs.chunks.seats_back.Goals as goal

pub returns : goal.returns
returns c = c.give_seats.ensures ∙ ap (λ (z : List Pass). z ++ seats_of c.args.handles.items) c.requires.none
