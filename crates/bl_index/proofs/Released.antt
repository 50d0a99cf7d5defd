-- What a sweep tells its caller.
use Rattle.std.proofs.Common.{false, ℕ, ◌≡◌, ◌≢◌, ◌+◌, ◌≤◌, Option, List, [], ◌∷◌, inl, inr, refl, sym, ap, ◌∙◌, subst, arith, append-nil, le_refl}
use Rattle.bl_page.specs.declared.page.Page.{Page}
use Rattle.bl_page.specs.Machine.{Name}
use Rattle.bl_claims.specs.Trails.{Mark, Trail}
use Rattle.bl_claims.specs.Walks.{Each}
use Rattle.bl_index_rule.specs.declared.known.PassState.{PassState}
use Rattle.bl_claims.specs.Seeing.{IsLinearizable, IsSeen, own, name}
use Rattle.bl_index_rule.specs.Observed.{sweeps}
use Rattle.bl_index.specs.Calls.{Sweeps}

-- the same of what it began with and of what the pass has seen; it runs no process
pub swept_seen : (pass count among released : ℕ) (d e : PassState) → ∥ IsSeen d.first d.trail ∥₁ → d.runs ≡ false → sweeps pass count among d released e → (e.first ≡ d.first) × ∥ IsSeen e.first e.trail ∥₁ × (e.runs ≡ false)
swept_seen pass count among released d e seen rests (inl is) = subst (λ (z : PassState). (z.first ≡ d.first) × ∥ IsSeen z.first z.trail ∥₁ × (z.runs ≡ false)) (sym is.0) (refl, seen, rests)
swept_seen pass count among released d e seen rests (inr t) = (t.first, ∣ t.seen ∣₁, t.runs)

-- more than the number of each process in a trail
abbrev above : Trail → ℕ
above [] = 0
above (m ∷ ms) = m.event.process.number + above ms + 1

fresh_from : (pass k : ℕ) (trail : Trail) → above trail ≤ k → Each (λ (m : Mark). m.event.process ≢ name pass k) trail
fresh_from pass k [] le = tt
fresh_from pass k (m ∷ ms) le =
    let low : m.event.process.number + above ms + 1 ≤ k = le in (
      λ e. (let same : m.event.process.number ≡ k = ap (λ (p : Name). p.number) e in omega arith),
      fresh_from pass k ms (omega arith),
    )

pub sweep_tells : (from : List (Option Page)) (pass count among released answer : ℕ) (d e : PassState) → d.first ≡ from → d.number + 1 ≡ count → released ≤ answer → sweeps pass count among d released e → Sweeps from pass answer d.trail e.trail
sweep_tells from pass count among released answer d e begins next few (inl is) = record {
  number = above d.trail;
  fresh = fresh_from pass (above d.trail) d.trail (le_refl (above d.trail));
  more = [];
  few = omega arith;
  begins = ap (λ (z : PassState). z.trail) is.0 ∙ sym (append-nil d.trail);
  mine = tt;
  seen = subst (λ (z : PassState). IsLinearizable from z.trail) (sym is.0);
  none = ap (λ (z : PassState). own pass z.trail) is.0;
}
sweep_tells from pass count among released answer d e begins next few (inr t) = record {
  few = subst (λ (z : ℕ). z ≤ answer) (sym t.many) few;
  number = count;
  fresh = t.fresh (omega arith);
  more = t.more;
  begins = t.trail;
  mine = t.mine;
  seen = λ old. subst (λ (z : List (Option Page)). IsLinearizable z e.trail) (t.first ∙ begins) t.seen.linear;
  none = t.own;
}
