use Rattle.std.proofs.Common.{sym, arith}
use Rattle.bl_proc_deterministic.proofs.Families.{family_some}
use Rattle.bl_index_compress.proofs.Kins.{finds}
use Rattle.bl_index_compress.proofs.families.siblings_in.Goals as goal

pub overflow_cast-siblings : goal.overflow_cast-siblings
overflow_cast-siblings c =
    let t = c.requires in let p = c.right_place_in-place.ensures in
    let f = family_some c.args.at c.args.key t.0 t.2 t.3 in
    let is = (finds f.0 c.args.at c.args.key t.0 c.args.parent.now _ t.1 (p.place t.0 t.1) p.some f.1).left in
    record { fits = (let child = f.0.left_child.1 in omega (arith, is, child)) }

pub overflow_cast-siblings-2 : goal.overflow_cast-siblings-2
overflow_cast-siblings-2 c =
    let t = c.requires in let p = c.right_place_in-place.ensures in
    let f = family_some c.args.at c.args.key t.0 t.2 t.3 in
    let is = (finds f.0 c.args.at c.args.key t.0 c.args.parent.now _ t.1 (p.place t.0 t.1) p.some f.1).right in
    record { fits = (let child = f.0.right_child.1 in omega (arith, is, child)) }

pub returns : goal.returns
returns c = λ i f e family.
    let p = c.right_place_in-place.ensures in
    let is = finds f c.args.at c.args.key i c.args.parent.now _ e (p.place i e) p.some family in
    (λ k. record { parent = is.parent k; left = sym is.left k; right = sym is.right k }, sym is.key)
