-- What is answered by an index of some pages is so by one that has no more at least, and no fewer at most.
use Rattle.std.proofs.Common.{◌≡◌, ℕ, ◌≤◌, Option, List, [], ◌∷◌, subst, arith}
use Rattle.std.specs.List.{AllZip}
use Rattle.bl_serve_lines.specs.declared.request.Request.{Request}
use Rattle.bl_serve_lines.specs.Lines.{Answer}
use Rattle.bl_claims.specs.Trails.{Trail}
use Rattle.bl_index.specs.declared.index.Pass.{Pass}
use Rattle.bl_serve_reading.specs.declared.section_reader.SectionEnd.{SectionEnd}
use Rattle.bl_serve_worker.specs.Answering.{IsFor}
use Rattle.bl_serve_worker.specs.Answering.IsFor.{Replies, Sums, Scans, Saves, States, Syncs, Refuses}
use Rattle.bl_serve_ground.specs.declared.ground.Ground.{Ground}
use Rattle.bl_serve.specs.Holding.{HoldsSection, ServesSection}
use Rattle.bl_serve.specs.Sections.{Held}
use Rattle.bl_serve_ground.specs.Standing.{StandsAt, sizes_in}

module _ (pages sizes : ℕ × ℕ) (low : pages.0 ≤ sizes.0) (high : sizes.1 ≤ pages.1) where
  wider_answer : {asked : Option Request} {answer : Answer} → IsFor sizes asked answer → IsFor pages asked answer
  wider_answer (Replies entry) = Replies entry
  wider_answer (Sums key number es reply adds) = Sums key number es reply adds
  wider_answer (Scans asked parts are) = Scans asked parts are
  wider_answer (Saves parts done are) = Saves parts done are
  wider_answer (States all used free room) = States all used free (let a = room.0 in let b = room.1 in (omega (arith, a, low), omega (arith, b, high), room.2))
  wider_answer Syncs = Syncs
  wider_answer Refuses = Refuses

  wider_answers : (asked : List (Option Request)) (answers : List Answer) → AllZip (IsFor sizes) asked answers → AllZip (IsFor pages) asked answers
  wider_answers [] [] each = tt
  wider_answers [] (answer ∷ answers) each = absurd each
  wider_answers (a ∷ asked) [] each = absurd each
  wider_answers (a ∷ asked) (answer ∷ answers) each = (wider_answer each.0, wider_answers asked answers each.1)

  pub wider_held : (done : ℕ) (asked : List (Option Request)) (text : List ℕ) (more : Trail) → Held sizes done asked text more → Held pages done asked text more
  wider_held done asked text more h = record { answers = h.answers; each = wider_answers asked h.answers h.each; prints = h.prints; interleaves = h.interleaves; order = h.order }

  wider_section : (old : Ground) (done : ℕ) (asked : List (Option Request)) (text : List ℕ) (olds : List Pass) (new : Ground) (news : List Pass) → HoldsSection sizes old done asked text olds new news → HoldsSection pages old done asked text olds new news
  wider_section old done asked text olds new news h = record { more = h.more; held = wider_held done asked text h.more h.held; goes = h.goes }

  pub wider : (old : Ground) (done : ℕ) (asked : List (Option Request)) (end : SectionEnd) (text : List ℕ) (olds : List Pass) (new : Ground) (news : List Pass) → ServesSection sizes old done asked end text olds new news → ServesSection pages old done asked end text olds new news
  wider old done asked end text olds new news s = record { answers = s.answers; holds = wider_section old done asked s.answers olds new news s.holds; ends = s.ends }

-- a section, told with the pages that there were when the server began
pub as_at_start : (from : Ground) (pages : ℕ × ℕ) (seen : Trail) (old : Ground) (done : ℕ) (asked : List (Option Request)) (end : SectionEnd) (text : List ℕ) (olds : List Pass) (new : Ground) (news : List Pass) → StandsAt from pages seen old olds
    → ServesSection (sizes_in old) old done asked end text olds new news → ServesSection pages old done asked end text olds new news
as_at_start from pages seen old done asked end text olds new news t s = subst (λ (z : ℕ × ℕ). ServesSection z old done asked end text olds new news) t.sizes s
