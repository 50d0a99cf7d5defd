-- A compression at the parent that it holds and has got.
use Rattle.std.proofs.Common.{ℕ, ◌≡◌, List, refl, sym, ◌∙◌, arith}
use Rattle.bl_page.specs.declared.page.Page.{Page}
use Rattle.bl_page.specs.declared.page.Page.TheVariants.{Anchor, Leaf, Inner as InnerPage, Dead}
use Rattle.bl_page.specs.declared.page.Inner.{Inner}
use Rattle.bl_page.specs.Pairs.{IsWithin}
use Rattle.bl_page.specs.Words.{words_of}
use Rattle.bl_proc_steps.specs.declared.acts.Seen.TheVariants as seen
use Rattle.bl_proc_steps.specs.declared.approach.Approach.TheVariants.{Start, Latched}
use Rattle.bl_proc_steps.specs.declared.approach.Came.TheVariants as come
use Rattle.bl_proc_routes.specs.declared.routes.Step.TheVariants.{Here}
use Rattle.bl_proc_routes.specs.Routes.{Leads}
use Rattle.bl_proc_compress.specs.declared.compress.CompressStage.{CompressStage}
use Rattle.bl_proc_compress.specs.declared.compress.CompressStage.TheVariants.{Coming}
use Rattle.bl_proc_compress.specs.Compresses.{CompressArrives, CompressGoes}
use Rattle.bl_proc.specs.Processes.{Takes}
use Rattle.bl_index_rule.specs.declared.known.PassState.{PassState}
use Rattle.bl_index_descend.specs.Events.{HasGotAnchor, IsThere}
use Rattle.bl_index_compress.specs.declared.targets.CompressTarget.{CompressTarget}
use Rattle.bl_index_compress.specs.CompressStands.{compress_of}
use Rattle.bl_index_compress.proofs.CompressionCourses.{stage_course}

-- It goes on as its parent says.
pub record HasParent (j : CompressTarget) (x : ℕ) (words : List ℕ) (d : PassState) : Type 0 where
  pub parent : Inner
  pub is : words ≡ words_of (InnerPage parent)
  pub within : IsWithin parent.low parent.high j.key
  pub level : parent.level ≡ j.level
  pub stands : (s : CompressStage) → CompressArrives j.key x parent s → d.state ≡ compress_of j s

has_by : (j : CompressTarget) (x : ℕ) (c : Page) (words : List ℕ) (d : PassState) → words ≡ words_of c → Leads c j.key j.level Here → Takes (compress_of j (Coming (Latched x))) (seen.Words c) d.state → HasParent j x words d
has_by j x (InnerPage i) words d is leads takes = record {
  parent = i;
  is = is;
  within = leads.1;
  level = leads.2;
  stands = λ s t.
      let course = stage_course j (Coming (Latched x)) (seen.Words (InnerPage i)) (compress_of j (Coming (Latched x))) refl refl tt in
      course.only d.state takes ∙ sym (course.only (compress_of j s) (refl, refl, refl, (come.ToParent x i, (refl, refl, leads), t)));
}
has_by j x (Leaf l) words d is leads takes = absurd (let e = leads.2 in let least = j.least in omega arith)
has_by j x (Anchor a) words d is leads takes = absurd leads.0
has_by j x (Dead e) words d is leads takes = absurd leads.0

pub has_parent : (j : CompressTarget) (x : ℕ) (words : List ℕ) (d : PassState) → IsThere j.level j.key (compress_of j (Coming (Latched x))) words d → HasParent j x words d
has_parent j x words d there = has_by j x there.page words d there.is there.leads there.takes

-- where it stands that has got the anchor
pub from_anchor : (j : CompressTarget) (words : List ℕ) (d : PassState) (a : HasGotAnchor (compress_of j (Coming Start)) words d) (s : CompressStage) → CompressGoes j.level j.key j.waits (Coming Start) (seen.Words a.page) s → d.state ≡ compress_of j s
from_anchor j words d a s goes =
    let course = stage_course j (Coming Start) (seen.Words a.page) (compress_of j (Coming Start)) refl refl tt in
    course.only d.state a.takes ∙ sym (course.only (compress_of j s) (refl, refl, refl, goes))
