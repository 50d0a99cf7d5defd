use Rattle.std.proofs.Common.{rules, suc, List, subst}
use Rattle.bl_map.specs.declared.handle.Handle.{Handle}
use Rattle.bl_serve.specs.Chunks.{WorkOn}
use Rattle.bl_serve.proofs.Shares.{parted_ok}
use Rattle.bl_serve.proofs.chunks.+abreast.Goals as goal

pub returns-clause-turns : goal.returns-clause-turns
returns-clause-turns g t c =
    let keeps = c.args.chunk.now.service.now.keeps in
    let number = suc c.args.chunk.now.before in
    let deals = c.args.chunk.now.deals.now in
    let lines = c.args.chunk.now.lines.now in
    let some : WorkOn keeps number deals lines c.in-Ok.some.items c.some-3-1.given.0.items c.theirs-1.given.0 = search rules in
    let others : WorkOn keeps number deals lines c.split_off.new.self.items c.handles-2-1.given.0.items c.rest-1.given.0 = search rules in
    let tail = rw c.in-Ok.is at c.split_off.ensures.tail in
    let front = rw c.in-Ok.is at c.split_off.ensures.items in
    parted_ok keeps number deals lines c.append.result _ c.args.handles.now.items c.handles-2-1.given.0.items c.append.new.self.items c.some-3-1.given.0.items c.rest-1.given.0 c.theirs-1.given.0
    (subst (λ (z : List Handle). WorkOn keeps number deals lines z c.handles-2-1.given.0.items c.rest-1.given.0) front others)
    (subst (λ (z : List Handle). WorkOn keeps number deals lines z c.some-3-1.given.0.items c.theirs-1.given.0) tail some) c.append.ensures.items

pub returns-clause-reads : goal.returns-clause-reads
returns-clause-reads g t c = search rules
