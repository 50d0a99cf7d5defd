-- What is served on an index that was lent.
use Rattle.std.proofs.Common.{◌≡◌, List, ℕ, refl, sym, subst}
use Rattle.bl_serve_lines.specs.declared.serving.Sectioning.{Sectioning}
use Rattle.bl_serve_lines.specs.declared.serving.Totals.{Totals}
use Rattle.bl_claims.specs.Trails.{Trail}
use Rattle.bl_index.specs.declared.index.Index.{Index}
use Rattle.bl_index.specs.declared.index.Pass.{Pass}
use Rattle.bl_serve_ground.specs.declared.ground.Ground.{Ground}
use Rattle.bl_serve_ground.specs.declared.ground.Ground.TheVariants.{Lent, Own}
use Rattle.bl_serve_ground.specs.Begun.{IsOwn}
use Rattle.bl_serve.specs.Holding.{ServesOn}
use Rattle.bl_serve_ground.specs.Together.{AreTogether}
use Rattle.bl_serve.specs.Serving.{Serves}
use Rattle.bl_serve_ground.specs.Standing.{IsOwned, index_in}

abbrev pub IsLent : Ground → Type 0
IsLent (Lent index) = Unit {0}
IsLent (Own index limits) = ⊥

-- its passes have seen all of it
pub serves_lent : (how : Sectioning) (old : Ground) (olds : List Pass) (new : Ground) (news : List Pass) (totals : Totals) (input output : List ℕ) → IsLent old → ServesOn how old olds new news totals input output → Serves how (index_in old) olds news totals input output
serves_lent how (Lent index) olds (Lent now) news totals input output lent s = record {
  now = s.now;
  served = s.served;
  together = subst (λ (z : Index × Trail). AreTogether z.0 z.1 news) (λ i. (s.stands.still.0 i, s.stands.still.1 i)) s.stands.rests.together;
}
serves_lent how (Lent index) olds (Own now limits) news totals input output lent s = absurd s.stands.still
serves_lent how (Own index limits) olds new news totals input output lent s = absurd lent

-- one of the server's own stays one
pub owned_still : (how : Sectioning) (old : Ground) (olds : List Pass) (new : Ground) (news : List Pass) (totals : Totals) (input output : List ℕ) → IsOwned old → ServesOn how old olds new news totals input output → IsOwned new
owned_still how (Lent index) olds new news totals input output own s = absurd own
owned_still how (Own index limits) olds (Lent now) news totals input output own s = absurd s.stands.still
owned_still how (Own index limits) olds (Own now its) news totals input output own s = tt

pub owned_first : (index : Index) (most : ℕ) (ground : Ground) → IsOwn index most ground → IsOwned ground
owned_first index most ground own = subst IsOwned (sym own.own) tt
