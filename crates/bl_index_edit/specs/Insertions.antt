-- An insertion or a put that posts what it splits: where it stands at its leaf, and at its parents.
use Rattle.std.specs.Prelude.{ℕ, ◌+◌, ◌<◌, ◌≤◌, Some, refl}
use Rattle.std.proofs.Common.{arith}
use Rattle.bl_proc_steps.specs.declared.approach.Approach.{Approach}
use Rattle.bl_proc_writes.specs.declared.insert_post.ClimbStage.{ClimbStage}
use Rattle.bl_proc_writes.specs.declared.insert_post.ClimbStage.TheVariants.{Writing, Posting, Ending}
use Rattle.bl_proc_writes.specs.declared.insert_post.Climbed.TheVariants.{Unsplit, Posted as PostedTo}
use Rattle.bl_proc.specs.declared.kinds.Proc.{Proc}
use Rattle.bl_proc.specs.declared.kinds.Proc.TheVariants as proc
use Rattle.bl_proc_writes.specs.declared.paths.Path.{Path}
use Rattle.bl_proc_writes.specs.declared.post.Post.{Post}
use Rattle.bl_proc_writes.specs.declared.post.PostReply.{PostReply}
use Rattle.bl_proc_writes.specs.declared.post.PostReply.TheVariants as listed
use Rattle.bl_proc_writes.specs.declared.post.PostStage.{PostStage}
use Rattle.bl_proc_writes.specs.declared.post.PostStage.TheVariants as post
use Rattle.bl_proc_writes.specs.declared.writing.WriteStage.{WriteStage}
use Rattle.bl_proc_writes.specs.declared.writing.WriteStage.TheVariants as write
use Rattle.bl_proc_writes.specs.Levels.{IsBelowTop, MayReply}
use Rattle.bl_proc_writes.specs.Paths.{page_at, from_page, IsBlank}
use Rattle.bl_proc_writes.specs.Stands.{IsPosting, Stands}
use Rattle.bl_index_edit.specs.declared.writers.Left.{Left}
use Rattle.bl_index_edit.specs.declared.writers.Left.TheVariants.{Kept, Changed, Split, Refused}
use Rattle.bl_index_edit.specs.Writers.{left_reply}
use Rattle.bl_proc_writes.specs.declared.insert_post.Placing.{Placing}
use Rattle.bl_proc_writes.specs.Placings.{write_of}

-- a write of that pair that has noted these pages and come so far
abbrev pub climbing : (key : ℕ) (placing : Placing) (path : Path) (stage : ClimbStage) → Stands key placing path stage → Proc
climbing key placing path stage stands = proc.InsertPost (record { key = key; placing = placing; path = path; stage = stage; stands = stands })

-- one that is to begin, and has noted none
abbrev pub climb_unborn : (key : ℕ) (placing : Placing) (path : Path) → IsBlank path → Proc
climb_unborn key placing path none =
    climbing key placing path (Writing (record { key = key; write = write_of placing; stage = write.New })) (refl, refl, tt, none)

-- one that is on its way to its leaf
abbrev pub climb_coming : ℕ → Placing → Path → Approach → Proc
climb_coming key placing path a =
    climbing key placing path (Writing (record { key = key; write = write_of placing; stage = write.Coming a })) (refl, refl, tt, tt)

-- one that is to end, and has not split its leaf
abbrev pub climb_ending : ℕ → Placing → Path → Left → Proc
climb_ending key placing path left = climbing key placing path (Ending (Unsplit (left_reply left))) tt

-- one that holds its leaf
abbrev pub climb_staged : ℕ → Placing → Path → WriteStage → Proc
climb_staged key placing path write.New = climb_ending key placing path Refused
climb_staged key placing path (write.Coming a) = climb_coming key placing path a
climb_staged key placing path (write.Keeping x there) =
    climbing key placing path (Writing (record { key = key; write = write_of placing; stage = write.Keeping x there })) (refl, refl, tt, tt)
climb_staged key placing path (write.Editing noted c) =
    climbing key placing path (Writing (record { key = key; write = write_of placing; stage = write.Editing noted c })) (refl, refl, tt, tt)
climb_staged key placing path (write.Ending r) = climb_ending key placing path Refused
climb_staged key placing path (write.Over r) = climb_ending key placing path Refused

-- the post of the upper half of its leaf, which begins at the page that is noted for level 1
abbrev pub first_post : Path → ℕ → Post
first_post path separator = record {
  level = 1;
  key = separator;
  stage = post.Coming (from_page (page_at path 1));
  least = omega arith;
  most = omega arith;
  below = tt;
}

-- one that has opened its leaf, by what it has left
abbrev pub climb_opened : ℕ → Placing → Path → Left → Proc
climb_opened key placing path (Kept there) = climb_ending key placing path (Kept there)
climb_opened key placing path (Changed noted) = climb_ending key placing path (Changed noted)
climb_opened key placing path (Split there separator) = climbing key placing path (Posting (first_post path separator)) tt
climb_opened key placing path Refused = climb_ending key placing path Refused

-- one that posts to a level, of which the post has come so far
abbrev pub climb_posting : (key : ℕ) (placing : Placing) (level separator : ℕ) → 0 < level → level ≤ 12 → Path → (s : PostStage) → IsBelowTop level s → IsPosting s → Proc
climb_posting key placing level separator least most path s b i =
    climbing key placing path (Posting (record { level = level; key = separator; stage = s; least = least; most = most; below = b })) i

-- the post of the upper half of such a parent, which begins at the page that is noted one level higher
abbrev pub next_post : (level : ℕ) → Path → ℕ → level < 12 → Post
next_post level path next below = record {
  level = level + 1;
  key = next;
  stage = post.Coming (from_page (page_at path (level + 1)));
  least = omega arith;
  most = omega (arith, below);
  below = tt;
}

-- One that has opened the parent to which it posted, by what the post replies: where the parent was split, its upper half is posted.
abbrev pub climb_posted : (key : ℕ) (placing : Placing) (level separator : ℕ) → Path → (r : PostReply) → MayReply level r → Proc
climb_posted key placing level separator path (listed.Done (Some next)) may = climbing key placing path (Posting (next_post level path next may)) tt
climb_posted key placing level separator path r may = climbing key placing path (Ending (PostedTo level separator r)) tt
