-- What comes behind a round that leaves work.
use Rattle.std.proofs.Common.{◌≡◌, ◌↔◌, ℕ, Bool, false, List, IsTrue, true≢false, ◌∙◌, sym, ap, subst, subst₂}
use Rattle.bl_check.specs.declared.quiet.Quiet.{Quiet}
use Rattle.bl_index.specs.Calls.{pages_of}
use Rattle.bl_index.specs.Resized.{IsResizeFault}
use Rattle.bl_index.specs.declared.config.ResizeFault.{ResizeFault}
use Rattle.bl_index.specs.declared.index.Index.{Index}
use Rattle.bl_index.specs.declared.index.Pass.{Pass}
use Rattle.bl_map.specs.declared.map.Map.{Map}
use Rattle.bl_map.specs.declared.map.UnresizedMap.TheVariants as unresized
use Rattle.bl_map.specs.Maps.{IsMapResized, IsMapNotResized}
use Rattle.bl_map_work.specs.declared.job.Task.{Task}
use Rattle.bl_map_work.specs.Rounds.{Doing, ComesToLast, GrowsByRounds, LeavesWork, WasClosed, larger}
use Rattle.bl_map_work.specs.Rounds.GrowsByRounds.{Grown}
use Rattle.bl_map_work.specs.Rounds.ComesToLast.{Refused}

pub not_done : {A : Type 0} (b : Bool) → b ≡ false → (IsTrue b ↔ A) → ¬ A
not_done b is both = λ a. true≢false (sym (both.1 a) ∙ is)

abbrev as_map : Index → Map
as_map index = record { index = index }

same_map : (back whole : Map) → back.index ≡ whole.index → back ≡ whole
same_map back whole same = ap as_map same

module _ {J : Type 0} (Does : Doing J) (most : ℕ) (first : Map) (seats : List Pass) (tasks : List (Task J))
    (whole : Map) (befores lefts : List Pass) (works rests : List (Task J)) (size : ℕ)
    (grown : GrowsByRounds Does most first seats tasks whole befores works) (leaves : LeavesWork Does most whole befores works lefts rests) (is : size ≡ larger (pages_of whole.index) most) where
  pub grown_once : (new : Map) (news : List Pass) → IsMapResized whole lefts size new news → GrowsByRounds Does most first seats tasks new news rests
  grown_once new news resized = Grown whole befores works grown (record { lefts = lefts; leaves = leaves; resized = subst (λ (z : ℕ). IsMapResized whole lefts z new news) is resized })

  pub refused_once : (back : Map) (backs : List Pass) (why : ResizeFault) → back.index ≡ whole.index → backs ≡ lefts → IsResizeFault whole.index lefts size why
      → ComesToLast Does most first seats tasks back backs rests
  refused_once back backs why same its fault =
      subst₂ (λ (m : Map) (l : List Pass). ComesToLast Does most first seats tasks m l rests) (sym (same_map back whole same)) (sym its)
      (Refused befores works why grown leaves (subst (λ (z : ℕ). IsResizeFault whole.index lefts z why) is fault))

  pub closed_once : (quiet : Quiet) → IsMapNotResized whole lefts size (unresized.Closed quiet) → WasClosed Does most first seats tasks quiet rests
  closed_once quiet closed = record {
    whole = whole;
    befores = befores;
    works = works;
    lefts = lefts;
    grown = grown;
    leaves = leaves;
    closed = subst (λ (z : ℕ). IsMapNotResized whole lefts z (unresized.Closed quiet)) is closed;
  }
