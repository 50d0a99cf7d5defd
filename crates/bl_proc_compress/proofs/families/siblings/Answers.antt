use Rattle.std.proofs.Common.{◌≡◌, ◌<◌, ◌≤◌, ◌-◌, length, get_or, ap, ◌∙◌, sym, subst, arith}
use Rattle.bl_page.specs.Pairs.{IsChild}
use Rattle.bl_page.proofs.Lookups.{NameChildren-at}
use Rattle.bl_proc_compress.specs.Compressions.{right_place}
use Rattle.bl_proc_compress.proofs.Places.{right_place-some, listed_at, above_first, within_at}
use Rattle.bl_proc_compress.proofs.families.siblings.Goals as goal

pub overflow_cast-at : goal.overflow_cast-at
overflow_cast-at c =
    let pairs = c.args.parent.children.items in
    let within : c.right_place-place.result < length pairs = subst (λ xs. c.right_place-place.result < length xs) c.as_slice-children.ensures.value c.right_place-place.ensures.within in
    let child : IsChild (get_or pairs (c.right_place-place.result - 1) (0, 0)).1 = NameChildren-at pairs (c.right_place-place.result - 1) c.args.parent.pages (omega (arith, within)) in
    let fits : (get_or c.as_slice-children.result.now (c.right_place-place.result - 1) (0, 0)).1 < 4294967296 = rw c.as_slice-children.ensures.value (omega (arith, child.1)) in
    record { fits = fits }

pub overflow_cast-at-2 : goal.overflow_cast-at-2
overflow_cast-at-2 c =
    let pairs = c.args.parent.children.items in
    let within : c.right_place-place.result < length pairs = subst (λ xs. c.right_place-place.result < length xs) c.as_slice-children.ensures.value c.right_place-place.ensures.within in
    let child : IsChild (get_or pairs c.right_place-place.result (0, 0)).1 = NameChildren-at pairs c.right_place-place.result c.args.parent.pages within in
    let fits : (get_or c.as_slice-children.result.now c.right_place-place.result (0, 0)).1 < 4294967296 = rw c.as_slice-children.ensures.value (omega (arith, child.1)) in
    record { fits = fits }

pub invariant_of-result : goal.invariant_of-result
invariant_of-result c =
    let p = c.args.parent in
    let pairs = p.children.items in
    let i = c.right_place-place.result in
    let within : i < length pairs = subst (λ xs. i < length xs) c.as_slice-children.ensures.value c.right_place-place.ensures.within in
    let at : i ≡ right_place c.args.key pairs = c.right_place-place.ensures.place ∙ ap (right_place c.args.key) c.as_slice-children.ensures.value in
    let long : c.len.result ≡ length pairs = c.len.ensures.value in
    let two : 2 ≤ length pairs = (let few = c.if-len-lt2.false in omega (arith, long, few)) in
    let some : 0 < i = subst (λ z. 0 < z) (sym at) (right_place-some p.low c.args.key pairs p.first c.requires.0 two) in
    rw c.as_slice-children.ensures.value (record {
      covers = within_at p.low p.high i pairs p.cover within;
      above = above_first 0 p.low i pairs p.order p.first some within;
      lists = listed_at 0 i pairs p.order within;
      left_child = NameChildren-at pairs (i - 1) p.pages (omega (arith, within));
      right_child = NameChildren-at pairs i p.pages within;
    })
