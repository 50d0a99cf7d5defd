use Rattle.std.proofs.Common.{◌≡◌, ℕ, ◌<◌, ◌≤◌, List, length, subst, arith}
use Rattle.bl_index.specs.declared.index.Pass.{Pass}
use Rattle.bl_serve_ground.specs.declared.ground.Ground.{Ground}
use Rattle.bl_serve_ground.specs.declared.ground.Ground.TheVariants.{Own}
use Rattle.bl_serve_ground.specs.Together.{seen_by}
use Rattle.bl_serve_ground.specs.Standing.{IsAtRest, StandsAt}
use Rattle.bl_serve_ground.proofs.Gathered.{own_together}
use Rattle.bl_serve_ground.proofs.Rests.{as_many, goes_within, rests_on, some_at_least}
use Rattle.bl_serve_ground.proofs.settling.settled.Goals as goal

pub narrowed-requires-clause-own : goal.narrowed-requires-clause-own
narrowed-requires-clause-own c =
    let r = subst (λ (z : Ground). IsAtRest z c.args.passes.items) c.in-Own.is c.requires in own_together c.in-Own.index (seen_by c.args.passes.items) c.args.passes.items r.together

-- all is at rest again
pub widened-requires-clause-own : goal.widened-requires-clause-own
widened-requires-clause-own c =
    let r = subst (λ (z : Ground). IsAtRest z c.args.passes.items) c.in-Own.is c.requires in
    let mid = rests_on (Own c.in-Own.index c.in-Own.limits) c.args.passes.items (Own c.in_ok-index-in-Own.index c.in-Own.limits) c.in_ok-index-in-Own.passes.items r
    (goes_within c.in-Own.limits c.in-Own.index c.args.passes.items c.in_ok-index-in-Own.index c.in_ok-index-in-Own.passes.items c.in_ok-index-in-Own.ensures) in
    own_together c.in_ok-index-in-Own.index (seen_by c.in_ok-index-in-Own.passes.items) c.in_ok-index-in-Own.passes.items mid.together

pub widened-requires-clause-count : goal.widened-requires-clause-count
widened-requires-clause-count c =
    let r = subst (λ (z : Ground). IsAtRest z c.args.passes.items) c.in-Own.is c.requires in
    let mid = rests_on (Own c.in-Own.index c.in-Own.limits) c.args.passes.items (Own c.in_ok-index-in-Own.index c.in-Own.limits) c.in_ok-index-in-Own.passes.items r
    (goes_within c.in-Own.limits c.in-Own.index c.args.passes.items c.in_ok-index-in-Own.index c.in_ok-index-in-Own.passes.items c.in_ok-index-in-Own.ensures) in
    mid.together.count

pub widened-requires-clause-some : goal.widened-requires-clause-some
widened-requires-clause-some c =
    let r = subst (λ (z : Ground). IsAtRest z c.args.passes.items) c.in-Own.is c.requires in
    let mid = rests_on (Own c.in-Own.index c.in-Own.limits) c.args.passes.items (Own c.in_ok-index-in-Own.index c.in-Own.limits) c.in_ok-index-in-Own.passes.items r
    (goes_within c.in-Own.limits c.in-Own.index c.args.passes.items c.in_ok-index-in-Own.index c.in_ok-index-in-Own.passes.items c.in_ok-index-in-Own.ensures) in
    let least = some_at_least (Own c.in_ok-index-in-Own.index c.in-Own.limits) c.in_ok-index-in-Own.passes.items mid in let some = mid.least in omega (arith, least, some)

pub widened-requires-clause-size : goal.widened-requires-clause-size
widened-requires-clause-size c =
    let r = subst (λ (z : Ground). IsAtRest z c.args.passes.items) c.in-Own.is c.requires in
    let mid = rests_on (Own c.in-Own.index c.in-Own.limits) c.args.passes.items (Own c.in_ok-index-in-Own.index c.in-Own.limits) c.in_ok-index-in-Own.passes.items r
    (goes_within c.in-Own.limits c.in-Own.index c.args.passes.items c.in_ok-index-in-Own.index c.in_ok-index-in-Own.passes.items c.in_ok-index-in-Own.ensures) in
    mid.sizes

pub returns-in-Lent-clause-resettles : goal.returns-in-Lent-clause-resettles
returns-in-Lent-clause-resettles c from pages seen t = subst (λ (z : Ground). StandsAt from pages seen z c.args.passes.items) c.in-Lent.is t

pub returns-in_ok-index-in-Own-2-clause-count : goal.returns-in_ok-index-in-Own-2-clause-count
returns-in_ok-index-in-Own-2-clause-count c =
    let r = subst (λ (z : Ground). IsAtRest z c.args.passes.items) c.in-Own.is c.requires in
    let one = as_many c.in-Own.limits c.in-Own.index c.args.passes.items c.in_ok-index-in-Own.index c.in_ok-index-in-Own.passes.items r.together.count c.in_ok-index-in-Own.ensures in
    let mid = rests_on (Own c.in-Own.index c.in-Own.limits) c.args.passes.items (Own c.in_ok-index-in-Own.index c.in-Own.limits) c.in_ok-index-in-Own.passes.items r
    (goes_within c.in-Own.limits c.in-Own.index c.args.passes.items c.in_ok-index-in-Own.index c.in_ok-index-in-Own.passes.items c.in_ok-index-in-Own.ensures) in
    let two = as_many c.in-Own.limits c.in_ok-index-in-Own.index c.in_ok-index-in-Own.passes.items c.in_ok-index-in-Own-2.index c.in_ok-index-in-Own-2.passes.items mid.together.count c.in_ok-index-in-Own-2.ensures.goes in
    let a = c.args.passes.ok in let b = c.in_ok-index-in-Own-2.passes.ok in omega (arith, one, two, a, b)

pub returns-in_ok-index-in-Own-2-clause-resettles : goal.returns-in_ok-index-in-Own-2-clause-resettles
returns-in_ok-index-in-Own-2-clause-resettles c from pages seen t =
    let at = subst (λ (z : Ground). StandsAt from pages seen z c.args.passes.items) c.in-Own.is t in
    let mid = goes_within c.in-Own.limits c.in-Own.index c.args.passes.items c.in_ok-index-in-Own.index c.in_ok-index-in-Own.passes.items c.in_ok-index-in-Own.ensures from pages seen at in
    goes_within c.in-Own.limits c.in_ok-index-in-Own.index c.in_ok-index-in-Own.passes.items c.in_ok-index-in-Own-2.index c.in_ok-index-in-Own-2.passes.items c.in_ok-index-in-Own-2.ensures.goes from pages seen mid
