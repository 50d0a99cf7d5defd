use Rattle.std.proofs.Common.{sym, ap, ◌∙◌, ◌++◌, [], ◌∷◌, length, arith, List}
use mathlib.Core.Option.{some-ne-none}
use lib.ListN.{get_elem?}
use Rattle.std.proofs.lemmas.List.{length_push}
use Rattle.bl_store.specs.declared.store.Hand.{Hand}
use Rattle.bl_index_rule.proofs.Shown.{at_below}
use Rattle.bl_index_rule.specs.declared.known.PassState.{PassState}
use Rattle.bl_index.specs.declared.index.Pass.{Pass}
use Rattle.bl_index.proofs.Gathered.{rest_there, last_there, taken_more, only_more}
use Rattle.bl_index.proofs.closing.hands_of.Goals as goal

pub loop-pass-init : goal.loop-pass-init
loop-pass-init c = record {
  room = (let none = ap length c.requires.0 in let fits = c.requires.1 in omega (arith, none, fits));
  only = λ k hand at. absurd (some-ne-none hand (sym at ∙ ap (λ (z : List (Hand PassState)). get_elem? z k) c.requires.0));
  there = λ k pass at. at;
  taken = λ k pass low at. absurd (let below = at_below c.args.passes.items k pass at in omega (arith, low, below));
}

pub loop-pass-preserved : goal.loop-pass-preserved
loop-pass-preserved c = let inv = c.loop-pass.invariant in let all = c.args.passes.items in let rest = c.pop.new.self.items in let last = c.in-Some.pass in let popped = c.in-Some.ensures.items in let pushed = c.push_reserved.ensures.items ∙ ap (λ (p : Pass). c.loop-pass.room.items ++ p.hand ∷ []) c.pass.view_is in
    let here = last_there all rest last c.loop-pass.passes.items popped inv.there in record {
      room = (let a = ap length popped ∙ length_push rest last in let b = ap length pushed ∙ length_push c.loop-pass.room.items last.hand in let cap = c.push_reserved.ensures.capacity in let old = inv.room in omega (arith, a, b, cap, old));
      only = only_more all rest last c.loop-pass.room.items c.push_reserved.new.self.items pushed here inv.only;
      there = rest_there all rest last c.loop-pass.passes.items popped inv.there;
      taken = taken_more all rest last c.loop-pass.passes.items c.loop-pass.room.items c.push_reserved.new.self.items popped pushed here inv.taken;
    }
