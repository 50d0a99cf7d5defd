use Rattle.std.proofs.lemmas.Result.{err_from_is_err_and}
use Rattle.bl_check.proofs.Rulings.{sound_bytes, memory_at, in_bytes}
use Rattle.bl_check.proofs.checker.load.Goals as goal

pub returns-in_err-image_in-clause-only : goal.returns-in_err-image_in-clause-only
returns-in_err-image_in-clause-only c sound = let p = err_from_is_err_and c.from_residual.result c.from_residual.ensures.1 in
    memory_at _ _ c.in_err-image_in.field-0.0 c.args.bytes.now p.1 p.2 c.in_err-image_in.ensures.fault sound

pub returns-clause-fault : goal.returns-clause-fault
returns-clause-fault c = in_bytes c.in-Err.fault c.in_ok-image_in.field-0.pages.items c.args.bytes.now c.in_ok-image_in.ensures.ok c.in_ok-image_in.ensures.within c.in-Err.ensures.fault.1

pub returns-clause-only : goal.returns-clause-only
returns-clause-only c sound = sound_bytes c.in-Err.fault c.args.bytes.now sound (in_bytes c.in-Err.fault c.in_ok-image_in.field-0.pages.items c.args.bytes.now c.in_ok-image_in.ensures.ok c.in_ok-image_in.ensures.within c.in-Err.ensures.fault.1)
