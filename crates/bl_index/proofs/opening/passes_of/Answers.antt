use Rattle.std.proofs.Common.{◌+◌, ap, sym, subst, arith}
use Rattle.bl_store_rule.specs.declared.view.View.{View}
use Rattle.bl_index_rule.specs.declared.known.PassState.{PassState}
use Rattle.bl_claims.specs.Seeing.{IsSeen, AreWithin}
use Rattle.bl_index.specs.Opened.{AreNew}
use Rattle.bl_index.proofs.Hands.{rest_new, first_new, passes_push}
use Rattle.bl_index_rule.proofs.Within.{none_within}
use Rattle.bl_index.proofs.opening.passes_of.Goals as goal

pub remove-requires : goal.remove-requires
remove-requires c = (let left = c.loop-number.invariant.left in omega arith)

pub invariant_of-push : goal.invariant_of-push
invariant_of-push c = (
    let left = c.loop-number.invariant.left in
    let is = first_new c.args.store.now.table.shared.table_id c.args.store.now.layout c.args.first.now c.loop-number._number c.loop-number.hands.items c.remove.result (omega arith) c.loop-number.invariant.hands c.remove.ensures.value in (
      ap (λ (v : View _). v.stamp) is.2,
      (
        ap (λ (v : View _). v.stock) is.2,
        (
          subst (λ (v : View PassState). AreWithin v.layout.passes v.known.trail) (sym is.2) (none_within _),
          (
            ap (λ (v : View PassState). v.known.runs) is.2,
            (subst (λ (v : View PassState). ∥ IsSeen v.known.first v.known.trail ∥₁) (sym is.2) ∣ c.requires.seen ∣₁, tt),
          ),
        ),
      ),
    ))

pub loop-number-preserved : goal.loop-number-preserved
loop-number-preserved c = (
    let left = c.loop-number.invariant.left in
    let table = c.args.store.now.table.shared.table_id in
    let layout = c.args.store.now.layout in
    let is = first_new table layout c.args.first.now c.loop-number._number c.loop-number.hands.items c.remove.result (omega arith) c.loop-number.invariant.hands c.remove.ensures.value in
    record {
      left = (let len = c.remove.ensures.len in omega arith);
      hands = subst (AreNew table layout c.args.first.now (c.loop-number._number + 1)) (sym c.remove.ensures.items) (rest_new table layout c.args.first.now c.loop-number._number c.loop-number.hands.items c.loop-number.invariant.hands);
      passes = passes_push table layout c.args.first.now c.loop-number._number c.loop-number.passes.items _ _ c.loop-number.invariant.passes is c.in_ok-push.ensures.items;
    })
