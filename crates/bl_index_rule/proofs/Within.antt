-- Trails whose events are of the first so many passes.
use Rattle.std.proofs.Common.{ℕ, ◌<◌, ◌++◌, [], ◌∷◌, sym, subst, inl, inr}
use Rattle.std.proofs.lemmas.List.Elements.{Contains-append_cases}
use Rattle.bl_claims.specs.Trails.{Mark, Trail}
use Rattle.bl_tree_worlds.proofs.Freshness.{only, no_member}
use Rattle.bl_claims.specs.Seeing.{AreWithin}

pub none_within : (passes : ℕ) → AreWithin passes []
none_within passes m is = absurd (no_member m is)

pub within_push : (passes : ℕ) (trail : Trail) (m : Mark) → AreWithin passes trail → m.event.process.pass < passes → AreWithin passes (trail ++ m ∷ [])
within_push passes trail m were is n c = elim (Contains-append_cases trail (m ∷ []) n c) [
  | inl old ↦ were n old
  | inr new ↦ subst (λ (z : Mark). z.event.process.pass < passes) (sym (only m n new)) is
]
